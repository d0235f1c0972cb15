use Rattle.callcycle.proofs.Depth.{depth-of, free-of}
use Rattle.callcycle.proofs.laws.depth_laws.Goals as goal

pub returns : goal.returns
returns c = record { falls = depth-of; free = free-of }
