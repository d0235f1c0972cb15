use Rattle.std.proofs.Common.{length, map}
use Rattle.cmdwords.specs.Given.{said}
use Rattle.cmdwords.proofs.Values.{SoFar}
use Rattle.cmdwords.proofs.value.values.Given as goal

-- the values so far fill as many places, and are what as many words say
abbrev pub invariant-loop-place : goal.invariant-loop-place
invariant-loop-place l = SoFar (λ w. w.now) l.places l.words (length l.yielded) (map said l.values.items)
