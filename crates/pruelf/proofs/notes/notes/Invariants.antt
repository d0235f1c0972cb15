use Rattle.std.proofs.Common.{◌≡◌, ◌-◌, None}
use Rattle.pruelf.specs.Fields.{many_in}
use Rattle.pruelf.specs.Parts.{note_in}
use Rattle.pruelf.proofs.Loop.{with_front}
use Rattle.pruelf.proofs.notes.notes.Given as goal

-- the notes so far and those to come are those of the whole
abbrev pub invariant-notes : goal.invariant-notes
invariant-notes l = with_front l.notes.items (many_in (note_in l.words l.end) (l.count - l.counter) l.before l.rest)
    ≡ many_in (note_in l.words l.end) l.count None l.bytes
