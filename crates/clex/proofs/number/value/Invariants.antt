use Rattle.std.proofs.Common.{◌≡◌, ◌≤◌, length}
use Rattle.std.specs.Str.Parse.{digits_value, digits_value_after}
use Rattle.clex.specs.Numbers.{most}
use Rattle.clex.proofs.number.value.Given as goal

-- the digits that are left make the number out of the value so far
abbrev pub invariant-loop-rest : goal.invariant-loop-rest
invariant-loop-rest l = (l.value ≤ most) × (digits_value_after l.radix l.value l.rest ≡ digits_value l.radix l.fn.digits)

abbrev pub decreases-loop-rest : goal.decreases-loop-rest
decreases-loop-rest l = length l.rest
