use Rattle.std.proofs.Common.{◌≡◌, length}
use Rattle.asmword.specs.Blanks.{behind_word}
use Rattle.asmword.proofs.blank.behind_word.Given as goal

abbrev pub invariant-bytes : goal.invariant-bytes
invariant-bytes l = behind_word l.rest ≡ behind_word l.text

abbrev pub decreases-bytes : goal.decreases-bytes
decreases-bytes l = length l.rest
