use Rattle.std.proofs.Common.{◌≡◌, ◌-◌, None}
use Rattle.pruelf.specs.Fields.{many_in}
use Rattle.pruelf.specs.Parts.{entry_in}
use Rattle.pruelf.proofs.Loop.{with_front}
use Rattle.pruelf.proofs.symbols.many_entries.Given as goal

-- the symbols so far and those to come are those of the whole
abbrev pub invariant-entries : goal.invariant-entries
invariant-entries l = with_front l.entries.items (many_in (entry_in l.names l.end) (l.count - l.i) l.before l.rest)
    ≡ many_in (entry_in l.names l.end) l.count None l.bytes
