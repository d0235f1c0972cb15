use Rattle.std.proofs.Common.{◌≡◌, List, ℕ, length, refl, sym, ap, ◌∙◌, subst, arith, None, Some}
use Rattle.std.proofs.lemmas.Option.{slice_get-get_or}
use Rattle.subreg.specs.declared.home.Interval.{Interval}
use Rattle.livespan.specs.Spans.{AreSpansBelow}
use Rattle.livespan.proofs.Listing.{below-none, below-more}
use Rattle.livespan.proofs.spans.by_number.Goals as goal

pub loop-number-init : goal.loop-number-init
loop-number-init c =
    let P : List Interval → Type 0 = λ xs. AreSpansBelow c.args.f.now 0 xs in
    subst P (sym c.new-spans.ensures.items) (below-none c.args.f.now)

pub overflow_cast-number : goal.overflow_cast-number
overflow_cast-number c = omega (arith, c.loop-number-test.true, c.requires.len, c.requires.valid.few_registers)

pub add_span-requires-clause-hull : goal.add_span-requires-clause-hull
add_span-requires-clause-hull c = λ a is.
    c.requires.hulls.hull (record { 0 = c.loop-number.number }) a
    (slice_get-get_or c.args.hulls.now c.loop-number.number None c.loop-number-test.true ∙ ap Some is)

pub loop-number-preserved : goal.loop-number-preserved
loop-number-preserved c =
    below-more c.args.f.now c.loop-number.number (record { 0 = c.loop-number.number }) c.args.hulls.now _ c.loop-number.spans.items _ refl
    c.requires.hulls (slice_get-get_or c.args.hulls.now c.loop-number.number None c.loop-number-test.true) c.in_ok-add_span.ensures
    c.loop-number.invariant

pub returns : goal.returns
returns c =
    let end : c.loop-number.number ≡ length c.args.f.now.registers =
    omega (arith, c.loop-number-test.false, c.loop-number.auto.number-end, c.requires.len) in
    let P : ℕ → Type 0 = λ n. AreSpansBelow c.args.f.now n c.loop-number.spans.items in
    subst P end c.loop-number.invariant
