use Rattle.std.proofs.Common.{◌≡◌, ◌++◌, take}
use Rattle.std.specs.List.{flat_map}
use Rattle.elfwrite.specs.Written.{note_bytes}
use Rattle.elfwrite.proofs.image.put_notes.Given as goal

abbrev pub invariant-loop-note : goal.invariant-loop-note
invariant-loop-note l = l.out.items ≡ l.fn.out.items ++ flat_map note_bytes (take l.note-index l.notes)
