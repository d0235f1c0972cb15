use Rattle.clex.proofs.Longest.{longest}
use Rattle.clex.proofs.laws.longest_match.Goals as goal

pub returns : goal.returns
returns c = longest
