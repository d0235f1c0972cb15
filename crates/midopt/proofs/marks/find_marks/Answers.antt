use Rattle.std.proofs.Common.{◌≡◌, ℕ, ◌+◌, ◌≤◌, Bool, List, Option, length, sym, subst, ap, ◌∙◌, arith}
use Rattle.midcode.specs.Operation.{listed}
use Rattle.midopt.specs.Marks.{marked}
use Rattle.midopt.proofs.MarkLemmas.{Walked, walked-next, written-back}
use Rattle.midopt.proofs.marks.find_marks.Goals as goal

pub loop-preserved : goal.loop-preserved
loop-preserved c =
    let nodes = c.args.f.now.nodes in
    let count = length c.args.f.now.registers in
    let old = c.loop.marks.items in
    let new = c.mark_all.new.marks in
    let P : Option ℕ → Type 0 = λ at. Walked nodes count old at c.loop.counter in
    let Q : List Bool → Type 0 = λ marks. Walked nodes count marks c.next-at.result (c.loop.counter + 1) in
    let same : length new ≡ length c.as_mut_slice.result.now = omega (arith, c.mark_all.auto.marks) in
    let all : c.loop.marks.len ≡ length new = omega (arith, same, c.as_mut_slice.ensures.len) in
    let few : length old ≤ length new = omega (arith, same, ap length c.as_mut_slice.ensures.value) in
    record {
      walked = subst Q (sym (written-back c.loop.marks.len new old all few))
          (walked-next nodes count old new c.in-Some.node c.loop.counter c.get.result.now c.next-at.result
          (subst P c.in-Some.is c.loop.invariant.walked) c.get.ensures
          (c.mark_all.ensures ∙ ap (λ m. marked (listed c.registers_read.result) m) c.as_mut_slice.ensures.value ∙
          ap (λ rs. marked rs old) c.registers_read.ensures)
          c.next-at.ensures.value c.next-at.ensures.node);
      count = c.loop.invariant.count;
    }
