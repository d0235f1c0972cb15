-- What a body is like as a list of items.
use Rattle.std.specs.Prelude.{◌≡◌, ℕ, false, List, [], length}
use Rattle.std.specs.List.{AllByRecursion}
use Rattle.isa.specs.declared.program.Item.{Item}
use Rattle.isa.specs.Note.{is_access}
use Rattle.isa.specs.Program.{IsWhole}
use Rattle.corerun.specs.Items.{placed}

-- a whole program of so many instructions, of which none accesses memory
pub record HasShape (count : ℕ) (items : List Item) : Type 0 where
  pub whole : IsWhole items
  pub counted : length (placed [] items) ≡ count
  pub no_access : AllByRecursion (λ x. is_access x.inst ≡ false) (placed [] items)
