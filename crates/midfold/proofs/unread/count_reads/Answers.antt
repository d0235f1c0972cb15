use Rattle.std.proofs.Common.{◌≡◌, ℕ, ◌+◌, ◌≤◌, List, Option, length, sym, subst, ap, ◌∙◌, arith}
use Rattle.midcode.specs.Operation.{listed}
use Rattle.midfold.specs.declared.unread.Change.TheVariants.{Raise}
use Rattle.midfold.specs.Uses.{changed_all}
use Rattle.midfold.proofs.UsesLemmas.{Counted, counted-first, counted-next, counted-none, counted-end, written-back}
use Rattle.midfold.proofs.unread.count_reads.Goals as goal

pub loop-init : goal.loop-init
loop-init c = record {
  counted = counted-first c.args.f.now.nodes c.in_ok-counts.counts.items c.first-at.result c.first-at.ensures.value c.first-at.ensures.node;
  count = c.op_count-count.ensures;
}

pub loop-preserved : goal.loop-preserved
loop-preserved c =
    let nodes = c.args.f.now.nodes in
    let old = c.loop.counts.items in
    let new = c.change_all.new.counts in
    let P : Option ℕ → Type 0 = λ at. Counted nodes old at c.loop.counter in
    let Q : List ℕ → Type 0 = λ counts. Counted nodes counts c.next-at.result (c.loop.counter + 1) in
    let same : length new ≡ length c.as_mut_slice.result.now = omega (arith, c.change_all.auto.counts) in
    let all : c.loop.counts.len ≡ length new = omega (arith, same, c.as_mut_slice.ensures.len) in
    let few : length old ≤ length new = omega (arith, same, ap length c.as_mut_slice.ensures.value) in
    record {
      counted = subst Q (sym (written-back c.loop.counts.len new old all few))
          (counted-next nodes old new c.in-Some.node c.loop.counter c.get.result.now c.next-at.result
          (subst P c.in-Some.is c.loop.invariant.counted) c.get.ensures
          (c.change_all.ensures ∙ ap (λ m. changed_all Raise (listed c.registers_read.result) m) c.as_mut_slice.ensures.value ∙
          ap (λ rs. changed_all Raise rs old) c.registers_read.ensures)
          c.next-at.ensures.value c.next-at.ensures.node);
      count = c.loop.invariant.count;
    }
