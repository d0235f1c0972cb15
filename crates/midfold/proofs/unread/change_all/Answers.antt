use Rattle.std.proofs.Common.{[], ◌∷◌, refl, sym, ap, ◌∙◌, arith, take, get_or}
use Rattle.midcode.specs.declared.register.VReg.{VReg}
use Rattle.midfold.specs.Uses.{changed_all}
use Rattle.std.proofs.lemmas.List.{take_more, take_all}
use Rattle.midfold.proofs.UsesLemmas.{changed-append}
use Rattle.midfold.proofs.unread.change_all.Goals as goal

abbrev no_register : VReg
no_register = record { 0 = 0 }

pub loop-r-init : goal.loop-r-init
loop-r-init c = refl

pub loop-r-preserved : goal.loop-r-preserved
loop-r-preserved c =
    let items = take c.args.registers.now.count c.args.registers.now.registers in
    let i = c.loop-r.r-index in
    c.change_one.ensures ∙ ap (λ m. changed_all c.args.change (get_or items i no_register ∷ []) m) c.loop-r.invariant ∙
    sym (changed-append c.args.change (take i items) (get_or items i no_register ∷ []) c.args.counts.now) ∙
    ap (λ rs. changed_all c.args.change rs c.args.counts.now) (sym (take_more items i no_register c.loop-r-test.true))

pub returns : goal.returns
returns c =
    let items = take c.args.registers.now.count c.args.registers.now.registers in
    c.loop-r.invariant ∙
    ap (λ rs. changed_all c.args.change rs c.args.counts.now)
    (take_all c.loop-r.r-index items (omega (arith, c.loop-r-test.false, c.loop-r.auto.r-index-end)))
