use Rattle.std.proofs.Common.{◌≡◌, ◌+◌, ◌++◌, drop, length}
use Rattle.std.specs.List.{flat_map}
use Rattle.elfwrite.specs.Written.{name_bytes, names_bytes, symbols_bytes}
use Rattle.elfwrite.proofs.symbols.put_symbols.Given as goal

-- what is written and what is still to write is the whole, and so with the names
abbrev pub invariant-loop-symbol : goal.invariant-loop-symbol
invariant-loop-symbol l = record {
  bytes : l.out.items ++ symbols_bytes l.name (drop l.symbol-index l.symbols) ≡ l.fn.out.items ++ symbols_bytes 1 l.symbols;
  names : l.name + length (flat_map name_bytes (drop l.symbol-index l.symbols)) ≡ length (names_bytes l.symbols);
}
