use Rattle.std.proofs.Common.{take}
use Rattle.std.specs.List.{AllByRecursion}
use Rattle.elfwrite.specs.Written.{IsSymbol}
use Rattle.elfwrite.proofs.ranges.symbols_are_kept.Given as goal

abbrev pub invariant-loop-symbol : goal.invariant-loop-symbol
invariant-loop-symbol l = AllByRecursion IsSymbol (take l.symbol-index l.symbols)
