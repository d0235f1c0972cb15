use Rattle.std.proofs.Common.{length}
use Rattle.creader.proofs.reader.Reader.+push.Given as goal

abbrev pub decreases-push : goal.decreases-push
decreases-push l = length l.symbols.now
