use Rattle.std.proofs.Common.{◌≡◌, ◌++◌, take}
use Rattle.std.specs.Int.{w16}
use Rattle.elfwrite.specs.Written.{numbers}
use Rattle.elfwrite.proofs.bytes.put_halves.Given as goal

abbrev pub invariant-loop-value : goal.invariant-loop-value
invariant-loop-value l = l.out.items ≡ l.fn.out.items ++ numbers w16 (take l.value-index l.values)
