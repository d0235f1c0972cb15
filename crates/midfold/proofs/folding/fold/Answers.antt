use Rattle.std.proofs.Common.{rules, ℕ, Option, None, ◌+◌, length, replicate, subst, ap, ◌∙◌, arith}
use Rattle.midopt.proofs.Relation.{function-same}
use Rattle.midfold.specs.Folding.{noted}
use Rattle.midfold.proofs.FoldLoop.{Folding, folding-first, folding-next, folding-none, folding-end}
use Rattle.midfold.proofs.folding.fold.Goals as goal
use Rattle.midfold.proofs.folding.fold.Goals.{else-loop-test, then-loop-test+in_default}

pub returns-in_err-held-clause-better : goal.returns-in_err-held-clause-better
returns-in_err-held-clause-better c = function-same c.args.f.now

pub loop-init : goal.loop-init
loop-init c = record {
  folding = folding-first c.args.f.now c.in_ok-held.held.held c.in_ok-held.held.rounds c.first-at.result c.first-at.ensures.value
      c.first-at.ensures.node c.ops.ensures.valid
      (ap (λ t. t.held) c.in_ok-held.ensures ∙ ap (λ ws. replicate (length ws) None) c.registers.ensures)
      (ap (λ t. t.rounds) c.in_ok-held.ensures);
  count = search rules;
}

pub loop-preserved : goal.loop-preserved
loop-preserved c =
    let P : Option ℕ → Type 0 = λ at. Folding c.args.f.now c.loop.f c.loop.held.held c.loop.held.rounds at c.loop.counter in
    record {
      folding = folding-next c.args.f.now c.loop.f c.loop.held.held c.loop.held.rounds c.in-Some.node c.loop.counter
          (subst P c.in-Some.is c.loop.invariant.folding) c.improve.new.f c.improve.ensures c.get.result.now c.get.ensures
          c.note.new.held.held c.note.new.held.rounds
          (c.note.ensures.held ∙ ap (λ ws. noted ws c.get.result.now.kind c.loop.held.held) c.registers-in-loop.ensures)
          c.note.ensures.rounds c.next-at.result c.next-at.ensures.value c.next-at.ensures.node;
      count = c.loop.invariant.count;
    }

pub returns-clause-done : goal.returns-clause-done
returns-clause-done c =
    let P : Option ℕ → Type 0 = λ at. Folding c.args.f.now c.loop.f c.loop.held.held c.loop.held.rounds at c.loop.counter in
    elim c.loop-test.branch [
      | else-loop-test w ↦ folding-end c.args.f.now c.loop.f c.loop.held.held c.loop.held.rounds c.loop.at c.loop.counter
          c.loop.invariant.folding (omega (arith, w.loop-test.false, c.loop.auto.counter-end, c.loop.invariant.count))
      | then-loop-test+in_default w ↦ folding-none c.args.f.now c.loop.f c.loop.held.held c.loop.held.rounds c.loop.counter
          (subst P w.in_default.is c.loop.invariant.folding)
    ]
