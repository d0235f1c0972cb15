use Rattle.std.proofs.Common.{◌≡◌, ◌+◌, List, length, sym, subst, arith}
use Rattle.std.proofs.lemmas.Result.{IfOk-weaker}
use Rattle.subreg.specs.declared.home.Interval.{Interval}
use Rattle.subreg.specs.Allocation.{IsAllocation}
use Rattle.subreg.specs.Listed.{Listed, AreSpans}
use Rattle.subreg.proofs.Together.{AreTogether, together-none, together-more, together-spans}
use Rattle.subreg.proofs.tests.together.Goals as goal

pub loop-n-init : goal.loop-n-init
loop-n-init c = let P : List Interval → Type 0 = λ xs. AreTogether xs 0 in subst P (sym c.new-spans.ensures.items) together-none

pub loop-n-preserved : goal.loop-n-preserved
loop-n-preserved c =
    let P : List Interval → Type 0 = λ xs. AreTogether xs (c.loop-n.n + 1) in
    subst P (sym c.in_ok-push.ensures.items) (together-more c.loop-n.spans.items c.loop-n.n c.loop-n.invariant)

pub allocate_spans-requires : goal.allocate_spans-requires
allocate_spans-requires c =
    let all : c.loop-n.n ≡ length c.args.widths.now = omega (arith, c.loop-n-test.false, c.loop-n.auto.n-end) in
    let P : List Interval → Type 0 = λ xs. AreSpans c.args.widths.now xs in
    subst P (sym c.deref.ensures.value)
    (together-spans c.loop-n.spans.items c.loop-n.n c.loop-n.invariant c.args.widths.now all (omega (arith, all, c.requires)))

pub returns : goal.returns
returns c =
    IfOk-weaker c.allocate_spans.result
    (λ a. IsAllocation (Listed c.deref.result.now) c.args.widths.now a.homes a.spills)
    (λ a. length a.homes ≡ length c.args.widths.now)
    (λ a is. is.fits.all) c.allocate_spans.ensures
