use Rattle.std.proofs.Common.{◌≡◌, None, drop}
use Rattle.cfault.specs.Fault.{noted}
use Rattle.cfault.proofs.laws.least.Given as goal

-- the faults to come, noted besides
abbrev pub invariant-loop-fault : goal.invariant-loop-fault
invariant-loop-fault l = noted (drop l.fault-index l.all) l.faults ≡ noted l.all None
