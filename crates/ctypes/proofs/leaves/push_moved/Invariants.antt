use Rattle.std.proofs.Common.{◌≡◌, ◌++◌, map, take}
use Rattle.cprogram.specs.Layout.{moved}
use Rattle.ctypes.proofs.leaves.push_moved.Given as goal

-- the leaves so far stand behind the others
abbrev pub invariant-loop-leaf : goal.invariant-loop-leaf
invariant-loop-leaf l = l.out.items ≡ l.initial.out.items ++ map (moved l.at) (take l.leaf-index l.leaves)
