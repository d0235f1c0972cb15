use Rattle.std.proofs.Common.{◌≡◌, take, drop, reverse}
use Rattle.cparse.proofs.build.take_parts.Given as goal

-- so many have been taken, and the others are left
abbrev pub invariant-loop-part : goal.invariant-loop-part
invariant-loop-part l = record { parts : l.parts ≡ reverse (take l._part l.fn.values); values : l.values ≡ drop l._part l.fn.values }
