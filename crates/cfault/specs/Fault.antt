-- Which of several broken rules is reported: the least by line, then column, then the rule's number.
use Rattle.std.specs.Prelude.{ℕ, Bool, true, false, ◌==◌, nat_lt, if◌then◌else◌, Option, Some}
use Rattle.std.specs.Prelude.{None, List, [], ◌∷◌, ◌≡◌, All, Contains, cond}
use Rattle.csyn.specs.declared.span.Span.{Span}
use Rattle.csyn.specs.declared.cause.Cause.{Cause}
use Rattle.csyn.specs.declared.cause.Cause.TheVariants.{S1, S2, S3, S4, S5, S6, S7, S8, S9, S10, S11, S12, S13, S14, S15, S16}
use Rattle.csyn.specs.declared.cause.Cause.TheVariants.{S17, S18, S19, S20, S21, S22, S23, S24, S25}
use Rattle.cfault.specs.declared.fault.Fault.{Fault}

abbrev pub rule_number : Cause → ℕ
rule_number S1 = 1
rule_number S2 = 2
rule_number S3 = 3
rule_number S4 = 4
rule_number S5 = 5
rule_number S6 = 6
rule_number S7 = 7
rule_number S8 = 8
rule_number S9 = 9
rule_number S10 = 10
rule_number S11 = 11
rule_number S12 = 12
rule_number S13 = 13
rule_number S14 = 14
rule_number S15 = 15
rule_number S16 = 16
rule_number S17 = 17
rule_number S18 = 18
rule_number S19 = 19
rule_number S20 = 20
rule_number S21 = 21
rule_number S22 = 22
rule_number S23 = 23
rule_number S24 = 24
rule_number S25 = 25
rule_number _ = 0

-- two numbers in order, and where they are equal what comes next
abbrev pub first_by : ℕ → ℕ → Bool → Bool
first_by m n next = if nat_lt m n then true else if m == n then next else false

abbrev pub is_before : Fault → Fault → Bool
is_before f g =
    first_by f.span.line g.span.line (first_by f.span.column g.span.column (nat_lt (rule_number f.cause) (rule_number g.cause)))

-- the least of what there was and one more
abbrev pub earlier : Option Fault → Fault → Option Fault
earlier None f = Some f
earlier (Some g) f = if is_before f g then Some f else Some g

-- the same of a list more
abbrev pub noted : List Fault → Option Fault → Option Fault
noted [] least = least
noted (f ∷ rest) least = noted rest (earlier least f)

-- the least fault of a list
pub record IsLeast (f : Fault) (faults : List Fault) : Type 0 where
  pub among : Contains faults f
  pub least : All (λ g. is_before g f ≡ false) faults
