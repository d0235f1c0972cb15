use Rattle.std.proofs.Common.{◌≡◌, length}
use Rattle.asmword.specs.Blanks.{before_blanks}
use Rattle.asmword.proofs.blank.before_blanks.Given as goal

abbrev pub invariant-blanks : goal.invariant-blanks
invariant-blanks l = before_blanks l.rest ≡ before_blanks l.text

abbrev pub decreases-blanks : goal.decreases-blanks
decreases-blanks l = length l.rest
