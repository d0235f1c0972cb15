use Rattle.std.proofs.Common.{◌≡◌, length}
use Rattle.asmword.specs.Reading.{named_among}
use Rattle.asmword.proofs.read.find_named.Given as goal

abbrev pub invariant-names : goal.invariant-names
invariant-names l = named_among l.rest l.word ≡ named_among l.table l.word

abbrev pub decreases-names : goal.decreases-names
decreases-names l = length l.rest
