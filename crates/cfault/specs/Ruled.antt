-- What reading a part of a tree gives: the rules that are broken in it, and what it is read as where it is something.
use Rattle.std.specs.Prelude.{List, [], ◌∷◌, ◌++◌, Option, Some, None, option_map}
use Rattle.cfault.specs.declared.fault.Fault.{Fault}

pub record Ruled (A : Type 0) : Type 0 where
  pub faults : List Fault
  pub gives : Option A

abbrev pub given : {A : Type 0} → A → Ruled A
given a = record { faults = []; gives = Some a }

-- nothing, since a part breaks a rule
abbrev pub unsaid : {A : Type 0} → Ruled A
unsaid = record { faults = []; gives = None }

abbrev pub broken : {A : Type 0} → Fault → Ruled A
broken f = record { faults = f ∷ []; gives = None }

-- the same with the faults of the parts before its own
abbrev pub over : {A : Type 0} → List Fault → Ruled A → Ruled A
over faults r = record { faults = faults ++ r.faults; gives = r.gives }

-- the same, with something made of what is given
abbrev pub built : {A B : Type 0} → (A → B) → Ruled A → Ruled B
built make r = record { faults = r.faults; gives = option_map make r.gives }
