-- A rule, written as what it asks of parts that are read already.
use Rattle.std.specs.Prelude.{Option, Some, None}
use Rattle.cfault.specs.Ruled.{Ruled, given, unsaid, broken}
use Rattle.cfault.specs.declared.asked.Asked.{Asked}
use Rattle.cfault.specs.declared.asked.Asked.TheVariants.{Unsaid, No, Yes}
use Rattle.cfault.specs.declared.fault.Fault.{Fault}

-- of a part that may lack a type
abbrev pub asked_of : {A T : Type 0} → Option A → (A → Asked T) → Asked T
asked_of None _ = Unsaid
asked_of (Some a) ask = ask a

-- what was found, or not
abbrev pub found : {T : Type 0} → Option T → Asked T
found None = No
found (Some a) = Yes a

-- of two parts: where one breaks a rule, nothing is asked of the other
abbrev pub both : {T U : Type 0} → Asked T → Asked U → Asked (T × U)
both Unsaid _ = Unsaid
both No Unsaid = Unsaid
both No No = No
both No (Yes _) = No
both (Yes _) Unsaid = Unsaid
both (Yes _) No = No
both (Yes a) (Yes b) = Yes (a, b)

-- the rule, broken where what it asks for isn't there
abbrev pub judged : {T : Type 0} → Fault → Asked T → Ruled T
judged _ Unsaid = unsaid
judged f No = broken f
judged _ (Yes a) = given a
