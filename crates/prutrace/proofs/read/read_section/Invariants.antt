-- The events so far, and what is left.
use Rattle.std.proofs.Common.{length}
use Rattle.prutrace.specs.Sections.{IsSoFar}
use Rattle.prutrace.proofs.read.read_section.Given as goal

abbrev pub invariant-events : goal.invariant-events
invariant-events l = IsSoFar l.fn.lines.text l.fn.lines.number l.events.items l.lines.text l.lines.number

abbrev pub decreases-events : goal.decreases-events
decreases-events l = length l.lines.text
