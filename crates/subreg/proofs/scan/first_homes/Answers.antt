use Rattle.std.proofs.Common.{◌+◌, List, get_or, refl, sym, subst, arith}
use Rattle.prunum.specs.declared.width.Width.TheVariants.{B1}
use Rattle.subreg.specs.declared.home.Home.{Home}
use Rattle.subreg.proofs.FirstHomes.{Made, made-none, made-more, made-all}
use Rattle.subreg.proofs.scan.first_homes.Goals as goal

pub loop-width-init : goal.loop-width-init
loop-width-init c =
    let P : List Home → Type 0 = λ xs. Made c.args.registers.now xs 0 in
    subst P (sym c.in_ok-homes.ensures.items) (made-none c.args.registers.now)

pub loop-width-preserved : goal.loop-width-preserved
loop-width-preserved c =
    let P : List Home → Type 0 = λ xs. Made c.args.registers.now xs (c.loop-width.width-index + 1) in
    subst P (sym {A = List Home} c.in_ok-push.ensures.items)
    (made-more c.args.registers.now c.loop-width.homes.items c.loop-width.width-index
    (get_or c.args.registers.now c.loop-width.width-index B1) c.field_at.result c.loop-width-test.true refl
    (record { at = c.field_at.ensures.at; size = c.field_at.ensures.size }) c.loop-width.invariant)

pub returns : goal.returns
returns c =
    made-all c.args.registers.now c.loop-width.homes.items c.loop-width.width-index
    (omega (arith, c.loop-width-test.false, c.loop-width.auto.width-index-end)) c.loop-width.invariant
