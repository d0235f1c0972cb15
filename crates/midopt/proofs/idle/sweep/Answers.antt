use Rattle.std.proofs.Common.{ℕ, Option, sym, subst, ap, ◌∙◌, arith}
use Rattle.midopt.specs.Marks.{value_to, is_unmarked}
use Rattle.midopt.proofs.SweepLemmas.{Swept, swept-first, swept-kept, swept-out, swept-end}
use Rattle.midopt.proofs.idle.sweep.Goals as goal
use Rattle.midopt.proofs.idle.sweep.Goals.{then-is_unmarked, else-is_unmarked}

pub loop-init : goal.loop-init
loop-init c = swept-first c.args.f.now c.first-at.result c.first-at.ensures.value c.first-at.ensures.node

pub loop-preserved : goal.loop-preserved
loop-preserved c =
    let P : Option ℕ → Type 0 = λ at. Swept c.args.f.now c.loop.f at c.loop.counter c.loop.found in
    let w = subst P c.in-Some.is c.loop.invariant in
    let un =
    ap (λ m. is_unmarked m (value_to c.get.result.now.kind)) (sym c.requires.marks) ∙
    ap (is_unmarked c.args.marks.now) (sym c.register_of_value.ensures) ∙ sym c.is_unmarked.ensures in
    elim c.if-is_unmarked.branch [
      | then-is_unmarked b ↦ rw (b.f-is, b.found-is)
          (swept-out c.args.f.now c.loop.f c.in-Some.node c.loop.counter c.loop.found w c.get.result.now c.get.ensures
          c.next-at.result c.next-at.ensures.value (un ∙ b.if-is_unmarked.true) b.remove.new.self b.remove.ensures)
      | else-is_unmarked b ↦ rw (b.f-is, b.found-is)
          (swept-kept c.args.f.now c.loop.f c.in-Some.node c.loop.counter c.loop.found w c.get.result.now c.get.ensures
          c.next-at.result c.next-at.ensures.value c.next-at.ensures.node (un ∙ b.if-is_unmarked.false))
    ]

pub returns-after-loop-clause-none : goal.returns-after-loop-clause-none
returns-after-loop-clause-none c =
    swept-end c.args.f.now c.loop.f c.loop.at c.loop.counter c.loop.found c.loop.invariant c.requires.valid
    (omega (arith, c.loop-test.false, c.loop.auto.counter-end, c.op_count-end.ensures))
