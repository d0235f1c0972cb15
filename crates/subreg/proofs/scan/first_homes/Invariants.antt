use Rattle.subreg.proofs.FirstHomes.{Made}
use Rattle.subreg.proofs.scan.first_homes.Given as goal

abbrev pub invariant-loop-width : goal.invariant-loop-width
invariant-loop-width l = Made l.registers l.homes.items l.width-index
