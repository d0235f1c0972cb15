use Rattle.std.proofs.Common.{◌≡◌, max, drop}
use Rattle.elfrec.specs.File as layout
use Rattle.elfrec.proofs.writing.end_of.Given as goal

abbrev pub invariant-loop-part : goal.invariant-loop-part
invariant-loop-part l = max l.end (layout.end_of (drop l.part-index l.parts)) ≡ layout.end_of l.parts
