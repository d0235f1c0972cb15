-- Each label's first place is held or still to come.
use Rattle.std.proofs.Common.{◌≡◌, drop}
use Rattle.asmtext.specs.Held.{all_told, held}
use Rattle.asmtext.proofs.PlaceLemmas.{KnowsTo}
use Rattle.asmtext.proofs.places.Places.of.Given as goal

abbrev pub invariant-loop-line : goal.invariant-loop-line
invariant-loop-line l =
    KnowsTo (all_told l.fn.lines) l.number (all_told (drop l.line-index l.fn.lines)) (held l.places) × (l.number ≡ l.line-index)
