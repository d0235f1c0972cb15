-- What is read of a text.
use Rattle.std.specs.Prelude.{◌≡◌, ℕ, ◌+◌, ◌<◌, ◌≤◌, ◌⊎◌, Option, Some, List, length, take}
use Rattle.std.specs.List.{flat_map}
use Rattle.isa.specs.declared.program.Item.{Item}
use Rattle.branchfit.specs.Laid.{Layout}
use Rattle.branchfit.specs.Fits.{IsLayout}
use Rattle.branchfit.specs.Loops.{first_long}
use Rattle.asmtext.specs.declared.cause.AsmCause.{AsmCause}
use Rattle.asmtext.specs.declared.cause.AsmCause.TheVariants as causes
use Rattle.asmtext.specs.declared.cause.AsmFault.{AsmFault}
use Rattle.asmtext.specs.declared.cause.AsmFault.TheVariants as faults
use Rattle.asmtext.specs.Causes.{AreGood, IsFirstBad}
use Rattle.asmtext.specs.Items.{line_items, items_of}
use Rattle.asmtext.specs.Labels.{Lines, names_of}

-- the items of the first so many lines
abbrev pub items_before : Lines → ℕ → List Item
items_before lines number = flat_map (line_items (names_of lines)) (take number lines)

-- an item is one of those of a line
pub record IsItemOf (lines : Lines) (item number : ℕ) : Type 0 where
  pub from : length (items_before lines number) ≤ item
  pub to : item < length (items_before lines (number + 1))

-- No line is bad, and a line has the first LOOP whose body has no fitted word or more than 255.
pub record IsLongLine (lines : Lines) (number : ℕ) (cause : AsmCause) : Type 0 where
  pub good : AreGood (length lines) lines
  pub layout : Layout
  pub places : IsLayout (items_of lines) layout
  pub item : ℕ
  pub first : first_long layout 0 (items_of lines) ≡ Some item
  pub line : IsItemOf lines item number
  pub range : cause ≡ causes.Range

-- Lines are counted from 1.
pub record IsBadLine (lines : Lines) (line : ℕ) (cause : AsmCause) : Type 0 where
  pub number : ℕ
  pub counted : line ≡ number + 1
  pub why : IsFirstBad lines number cause ⊎ IsLongLine lines number cause

abbrev pub IsFaultOf : Lines → AsmFault → Type 0
IsFaultOf lines (faults.Line line cause) = IsBadLine lines line cause
IsFaultOf lines faults.Memory = Unit {0}
