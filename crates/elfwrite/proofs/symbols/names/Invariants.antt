use Rattle.std.proofs.Common.{◌≡◌, ◌∷◌, take}
use Rattle.std.specs.List.{flat_map}
use Rattle.elfwrite.specs.Written.{name_bytes}
use Rattle.elfwrite.proofs.symbols.names.Given as goal

abbrev pub invariant-loop-symbol : goal.invariant-loop-symbol
invariant-loop-symbol l = l.out.items ≡ 0 ∷ flat_map name_bytes (take l.symbol-index l.symbols)
