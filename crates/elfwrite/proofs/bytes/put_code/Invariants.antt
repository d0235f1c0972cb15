use Rattle.std.proofs.Common.{◌≡◌, ◌++◌, take}
use Rattle.std.specs.Int.{w32}
use Rattle.elfwrite.specs.Written.{numbers}
use Rattle.elfwrite.proofs.bytes.put_code.Given as goal

abbrev pub invariant-loop-word : goal.invariant-loop-word
invariant-loop-word l = l.out.items ≡ l.fn.out.items ++ numbers w32 (take l.word-index l.words)
