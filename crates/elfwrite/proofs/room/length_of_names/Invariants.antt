use Rattle.std.proofs.Common.{◌≡◌, ◌^◌, length, min, take}
use Rattle.elfwrite.specs.Written.{names_bytes}
use Rattle.elfwrite.proofs.room.length_of_names.Given as goal

abbrev pub invariant-loop-symbol : goal.invariant-loop-symbol
invariant-loop-symbol l = l.total ≡ min (length (names_bytes (take l.symbol-index l.symbols))) (2 ^ 31)
