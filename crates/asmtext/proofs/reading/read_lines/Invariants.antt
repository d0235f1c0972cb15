-- The lines that were read and those that are left are all.
use Rattle.std.proofs.Common.{◌≡◌, ◌+◌, ◌≤◌, ◌++◌, map, length}
use Rattle.textline.specs.Lines.{lines_of}
use Rattle.asmline.specs.Lines.{said_in}
use Rattle.asmtext.specs.Held.{all_told}
use Rattle.asmtext.specs.Labels.{lines_said}
use Rattle.asmtext.proofs.reading.read_lines.Given as goal

abbrev pub invariant-loop-line : goal.invariant-loop-line
invariant-loop-line l =
    (all_told l.said.items ++ map said_in (lines_of l.lines.text) ≡ lines_said l.fn.bytes)
    × (length l.said.items + length l.lines.text ≤ length l.fn.bytes)

abbrev pub decreases-loop-line : goal.decreases-loop-line
decreases-loop-line l = length l.lines.text
