use Rattle.std.proofs.Common.{◌≡◌, max, drop}
use Rattle.std.specs.Prelude.{fold}
use Rattle.cprogram.specs.Layout.{alignment}
use Rattle.cprogram.specs.Scalar.{scalar_bytes}
use Rattle.cprogram.proofs.layout.greatest_width.Given as goal

-- the leaves to come, from the greatest so far on
abbrev pub invariant-loop-leaf : goal.invariant-loop-leaf
invariant-loop-leaf l = fold (λ greatest leaf. max greatest (scalar_bytes leaf.scalar)) l.greatest
    (drop l.leaf-index l.leaves) ≡ alignment l.leaves
