use Rattle.std.proofs.Common.{length}
use Rattle.creader.proofs.table.+any_accepts.Given as goal

abbrev pub decreases-any_accepts : goal.decreases-any_accepts
decreases-any_accepts l = length l.terminals.now
