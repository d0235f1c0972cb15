use Rattle.std.proofs.Common.{◌≡◌, drop}
use Rattle.pruelf.specs.Parts.{named_in}
use Rattle.pruelf.proofs.Loop.{with_front}
use Rattle.pruelf.proofs.symbols.many_names.Given as goal

-- the symbols so far and those to come are those of the whole
abbrev pub invariant-loop-i : goal.invariant-loop-i
invariant-loop-i l = with_front l.symbols.items (named_in l.size (drop l.i l.entries) l.end l.rest)
    ≡ named_in l.size l.entries l.end l.bytes
