use Rattle.std.proofs.Common.{◌+◌, List, sym, subst, arith, None}
use Rattle.std.proofs.lemmas.Option.{slice_get-get_or}
use Rattle.livespan.specs.declared.area.Area.{Area}
use Rattle.livespan.proofs.Steps.{LoopsBelow, loops-none, loops-more, loops-all}
use Rattle.livespan.proofs.flow.loops.Goals as goal

pub loop-last-init : goal.loop-last-init
loop-last-init c =
    let P : List Area → Type 0 = λ xs. LoopsBelow c.args.goals.now xs 0 in
    subst P (sym c.new-loops.ensures.items) (loops-none c.args.goals.now)

pub loop-last-preserved : goal.loop-last-preserved
loop-last-preserved c =
    let P : List Area → Type 0 = λ xs. LoopsBelow c.args.goals.now xs (c.loop-last.last + 1) in
    subst P (sym c.in_ok-add_loop.ensures)
    (loops-more c.args.goals.now c.loop-last.loops.items c.loop-last.last _
    (slice_get-get_or c.args.goals.now c.loop-last.last None c.loop-last-test.true) c.loop-last.invariant)

pub returns : goal.returns
returns c =
    loops-all c.args.goals.now c.loop-last.loops.items c.loop-last.last
    (omega (arith, c.loop-last-test.false, c.loop-last.auto.last-end)) c.loop-last.invariant
