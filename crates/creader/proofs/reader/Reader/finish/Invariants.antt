use Rattle.std.proofs.Common.{◌≡◌, length}
use Rattle.creader.specs.Reader.{held, finished}
use Rattle.creader.proofs.reader.Reader.finish.Given as goal

-- what is left ends as all did
abbrev pub invariant-loop-symbol : goal.invariant-loop-symbol
invariant-loop-symbol l = finished l.self.symbols (held l.self) ≡ finished l.fn.self.symbols (held l.fn.self)

abbrev pub decreases-loop-symbol : goal.decreases-loop-symbol
decreases-loop-symbol l = length l.self.symbols
