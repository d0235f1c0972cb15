use Rattle.std.proofs.Common.{◌≡◌, ◌++◌, take}
use Rattle.std.specs.Int.{w32}
use Rattle.elfwrite.specs.Written.{numbers}
use Rattle.elfwrite.proofs.bytes.put_words.Given as goal

abbrev pub invariant-loop-value : goal.invariant-loop-value
invariant-loop-value l = l.out.items ≡ l.fn.out.items ++ numbers w32 (take l.value-index l.values)
