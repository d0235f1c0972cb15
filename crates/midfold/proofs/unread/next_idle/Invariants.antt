use Rattle.std.proofs.Common.{length}
use Rattle.midfold.proofs.unread.next_idle.Given as goal

abbrev pub decreases-loop-node : goal.decreases-loop-node
decreases-loop-node l = length l.waiting.items
