use Rattle.std.proofs.Common.{length}
use Rattle.creader.proofs.table.+choose.Given as goal

abbrev pub decreases-choose : goal.decreases-choose
decreases-choose l = length l.rules.now
