-- No place has more than the last.
use Rattle.std.proofs.Common.{◌≤◌, arith, length}
use Rattle.branchfit.specs.Laid.{number_at}
use Rattle.branchfit.proofs.FitLemmas.{small_everywhere}
use Rattle.branchfit.proofs.fitting.fit.Goals as goal

pub lay-requires : goal.lay-requires
lay-requires c =
    let few : number_at c.in_ok-layout.layout (length c.in_ok-layout.layout.spots) ≤ 2048 = omega (arith, c.length-n.ensures) in
    small_everywhere _ c.in_ok-layout.layout 2048 c.in_ok-layout.ensures few
