use Rattle.std.proofs.Common.{◌++◌, take, arith}
use Rattle.std.proofs.lemmas.Grind.{common_steps}
use Rattle.fileset.proofs.Known.{Appends-append}
use Rattle.fileset.proofs.transfer.write_whole.Goals as goal

-- what this turn wrote belongs to the front
pub loop-rest-preserved : goal.loop-rest-preserved
loop-rest-preserved g c =
    let more = take c.in-Ok.count c.loop-rest.rest.now in
    let before = c.loop-rest.invariant in
    (before.0 ++ more, grind (arith, common_steps), Appends-append _ _ _ before.0 more before.2 c.in-Ok.ensures.bytes)
