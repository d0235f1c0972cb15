use Rattle.std.proofs.Common.{◌≢◌, ℕ, ◌<◌, get_or}
use Rattle.midcode.specs.declared.register.VReg.{VReg}
use Rattle.livespan.proofs.operations.is_read.Given as goal

abbrev no_register : VReg
no_register = record { 0 = 0 }

abbrev pub invariant-loop-n : goal.invariant-loop-n
invariant-loop-n l = (k : ℕ) → k < l.n → (get_or l.read.registers k no_register).0 ≢ l.v.0
