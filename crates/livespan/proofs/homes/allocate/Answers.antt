use Rattle.std.proofs.Common.{List, sym, subst}
use Rattle.std.proofs.lemmas.Result.{IfOk-weaker}
use Rattle.prunum.specs.declared.width.Width.{Width}
use Rattle.subreg.specs.declared.home.Interval.{Interval}
use Rattle.subreg.specs.Allocation.{IsAllocation}
use Rattle.subreg.specs.Listed.{Listed}
use Rattle.subreg.specs.Span.{IsSpan}
use Rattle.livespan.specs.Spans.{AreSpansOf}
use Rattle.livespan.proofs.Spread.{allocation-other}
use Rattle.livespan.proofs.homes.allocate.Goals as goal

pub returns : goal.returns
returns c =
    let f = c.args.f.now in
    let P : List Interval → Type 0 = λ xs. AreSpansOf f xs in
    let are : AreSpansOf f c.deref.result.now = subst P (sym c.deref.ensures.value) c.in_ok-spans.ensures in
    IfOk-weaker c.allocate_spans.result
    (λ a. IsAllocation (Listed c.deref.result.now) c.registers.result.now a.homes a.spills)
    (λ a. IsAllocation (IsSpan f) f.registers a.homes a.spills)
    (λ a is.
    let R : List Width → Type 0 = λ ws. IsAllocation (IsSpan f) ws a.homes a.spills in
    subst R c.registers.ensures
    (allocation-other (Listed c.deref.result.now) (IsSpan f) are.exact c.registers.result.now a.homes a.spills is))
    c.allocate_spans.ensures
