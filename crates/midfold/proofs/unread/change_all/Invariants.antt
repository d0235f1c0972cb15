use Rattle.std.proofs.Common.{◌≡◌, take}
use Rattle.midfold.specs.Uses.{changed_all}
use Rattle.midfold.proofs.unread.change_all.Given as goal

abbrev pub invariant-loop-r : goal.invariant-loop-r
invariant-loop-r l = l.counts ≡ changed_all l.change (take l.r-index l.r-items) l.fn.counts
