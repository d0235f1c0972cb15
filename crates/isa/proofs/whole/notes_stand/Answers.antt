-- Each item is judged behind those before it.
use Rattle.std.proofs.Common.{sym, ◌∙◌, ap}
use Rattle.std.proofs.lemmas.List.{nil_from_length}
use Rattle.isa.specs.Judging.{is_empty, may_follow}
use Rattle.isa.proofs.Judged.{not_standing, standing_more, standing_at_end}
use Rattle.isa.proofs.whole.notes_stand.Goals as goal

pub returns-then-not-may_follow : goal.returns-then-not-may_follow
returns-then-not-may_follow c =
    not_standing _ _ _ _ _ _ _ c.loop-item.invariant.1 c.in-Some.ensures.cases.0
    (ap (λ ks. may_follow c.loop-item.before.keys ks c.in-Some.item.now) (sym c.deref.ensures.value) ∙ sym c.may_follow.ensures
    ∙ c.if-not-may_follow.true)

pub loop-item-preserved : goal.loop-item-preserved
loop-item-preserved c =
    standing_more _ _ _ _ _ _ _ _ _ c.loop-item.invariant.1 c.in-Some.ensures.cases.0
    (ap (λ ks. may_follow c.loop-item.before.keys ks c.in-Some.item.now) (sym c.deref.ensures.value) ∙ sym c.may_follow.ensures
    ∙ c.if-not-may_follow.false)
    c.in_ok-add_label.ensures c.in_ok-pass.ensures

pub returns : goal.returns
returns c =
    standing_at_end _ _ _ _ _ _ c.loop-item.invariant.1 (nil_from_length c.loop-item.rest.now c.in_default.ensures.cases)
    (c.is_empty.ensures ∙ ap is_empty c.deref-2.ensures.value)
