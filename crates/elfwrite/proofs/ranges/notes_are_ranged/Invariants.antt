use Rattle.std.proofs.Common.{◌<◌, ◌^◌, take}
use Rattle.std.specs.List.{AllByRecursion}
use Rattle.elfwrite.proofs.ranges.notes_are_ranged.Given as goal

abbrev pub invariant-loop-note : goal.invariant-loop-note
invariant-loop-note l = AllByRecursion (λ n. n.value < 2 ^ 32) (take l.note-index l.notes)
