-- The code of a source of the first form: a word for each event.
use Rattle.std.specs.Prelude.{ℕ, List, [], ◌∷◌, ◌++◌, map}
use Rattle.std.proofs.Common.{lit<}
use Rattle.isa.specs.declared.field.Part.TheVariants.{All}
use Rattle.isa.specs.declared.field.Field.{Field}
use Rattle.isa.specs.declared.inst.Inst.{Inst}
use Rattle.isa.specs.declared.inst.Inst.TheVariants.{Ldi, Halt}

-- R30
abbrev pub output_register : Field
output_register = record { reg = 30; part = All; in_range = lit< tt }

-- a load of each number into the output register, and the halt
abbrev pub code_of : List ℕ → List Inst
code_of ks = map (λ k. Ldi output_register k) ks ++ Halt ∷ []
