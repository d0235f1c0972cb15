use Rattle.std.proofs.Common.{◌≡◌, length}
use Rattle.asmword.specs.Blanks.{behind_blanks}
use Rattle.asmword.proofs.blank.behind_blanks.Given as goal

abbrev pub invariant-blanks : goal.invariant-blanks
invariant-blanks l = behind_blanks l.rest ≡ behind_blanks l.text

abbrev pub decreases-blanks : goal.decreases-blanks
decreases-blanks l = length l.rest
