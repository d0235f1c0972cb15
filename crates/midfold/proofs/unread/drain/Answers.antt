use Rattle.std.proofs.Common.{◌≡◌, ℕ, ◌≤◌, true, List, length, sym, subst, ap, ◌∙◌, arith}
use Rattle.midcode.specs.Operation.{listed}
use Rattle.midcode.specs.Function.{AtNode}
use Rattle.midopt.specs.Marks.{value_to}
use Rattle.midopt.proofs.Relation.{function-same}
use Rattle.midfold.specs.declared.unread.Change.TheVariants.{Lower}
use Rattle.midfold.specs.Uses.{changed_all, is_uncounted}
use Rattle.midfold.proofs.UsesLemmas.{Drained, drained-first, drained-next, written-back}
use Rattle.midfold.proofs.unread.drain.Goals as goal

pub returns-in_err-counts-clause-better : goal.returns-in_err-counts-clause-better
returns-in_err-counts-clause-better c = function-same c.args.f.now

pub returns-in_err-values-clause-better : goal.returns-in_err-values-clause-better
returns-in_err-values-clause-better c = function-same c.args.f.now

pub returns-in_err-push-clause-better : goal.returns-in_err-push-clause-better
returns-in_err-push-clause-better c = function-same c.args.f.now

pub loop-node-init : goal.loop-node-init
loop-node-init c = drained-first c.args.f.now c.in_ok-counts.counts.items c.in_ok-counts.ensures

pub loop-node-preserved : goal.loop-node-preserved
loop-node-preserved c =
    let old = c.loop-node.counts.items in
    let new = c.change_all.new.counts in
    let same : length new ≡ length c.as_mut_slice.result.now = omega (arith, c.change_all.auto.counts) in
    let all : c.loop-node.counts.len ≡ length new = omega (arith, same, c.as_mut_slice.ensures.len) in
    let few : length old ≤ length new = omega (arith, same, ap length c.as_mut_slice.ensures.value) in
    subst (Drained c.args.f.now c.remove.new.self) (sym (written-back c.loop-node.counts.len new old all few))
    (drained-next c.args.f.now c.loop-node.f old c.in-Some.node c.loop-node.invariant c.in-Some.ensures.node
    (subst (λ (l : List ℕ). AtNode c.loop-node.f.nodes c.in-Some.node (λ _ o _. is_uncounted l (value_to o.kind) ≡ true))
    c.as_slice.ensures.value c.in-Some.ensures.value)
    c.remove.new.self c.remove.ensures c.get.result.now c.get.ensures new
    (c.change_all.ensures ∙ ap (λ m. changed_all Lower (listed c.registers_read-registers.result) m) c.as_mut_slice.ensures.value ∙
    ap (λ rs. changed_all Lower rs old) c.registers_read-registers.ensures))

pub returns-in_err-push_unread-clause-better : goal.returns-in_err-push_unread-clause-better
returns-in_err-push_unread-clause-better c =
    (drained-next c.args.f.now c.loop-node.f c.loop-node.counts.items c.in-Some.node c.loop-node.invariant c.in-Some.ensures.node
    (subst (λ (l : List ℕ). AtNode c.loop-node.f.nodes c.in-Some.node (λ _ o _. is_uncounted l (value_to o.kind) ≡ true))
    c.as_slice.ensures.value c.in-Some.ensures.value)
    c.remove.new.self c.remove.ensures c.get.result.now c.get.ensures c.change_all.new.counts
    (c.change_all.ensures ∙ ap (λ m. changed_all Lower (listed c.registers_read-registers.result) m) c.as_mut_slice.ensures.value ∙
    ap (λ rs. changed_all Lower rs c.loop-node.counts.items) c.registers_read-registers.ensures)).better

pub returns-in_err-push_unread-clause-folded : goal.returns-in_err-push_unread-clause-folded
returns-in_err-push_unread-clause-folded c =
    (drained-next c.args.f.now c.loop-node.f c.loop-node.counts.items c.in-Some.node c.loop-node.invariant c.in-Some.ensures.node
    (subst (λ (l : List ℕ). AtNode c.loop-node.f.nodes c.in-Some.node (λ _ o _. is_uncounted l (value_to o.kind) ≡ true))
    c.as_slice.ensures.value c.in-Some.ensures.value)
    c.remove.new.self c.remove.ensures c.get.result.now c.get.ensures c.change_all.new.counts
    (c.change_all.ensures ∙ ap (λ m. changed_all Lower (listed c.registers_read-registers.result) m) c.as_mut_slice.ensures.value ∙
    ap (λ rs. changed_all Lower rs c.loop-node.counts.items) c.registers_read-registers.ensures)).folded
