-- What a script may do in a cycle, and how a line says it.
use Rattle.std.specs.Prelude.{◌≡◌, ℕ, ◌%◌, ◌^◌, ◌<◌, ◌&&◌, nat_le, Bool, IsTrue, List, [], ◌∷◌, map, length, codes}
use Rattle.std.specs.List.{list_any, AllByRecursion}
use Rattle.std.specs.List.Sorted.{IsNonDecreasingBy}
use Rattle.std.specs.Fmt.{decimal}
use Rattle.prunum.specs.declared.width.Width.{Width}
use Rattle.prunum.specs.Width.{byte_count}
use Rattle.memorymap.specs.Windows.{is_within, own_window, other_window, shared_window, outside_window}
use Rattle.textline.specs.Numbers.{hex8, hex4}
use Rattle.textline.specs.Lines.{line_of}
use Rattle.hostscript.specs.declared.action.Action.{Action}
use Rattle.hostscript.specs.declared.action.Action.TheVariants.{Poke, Pins, Event, Start}
use Rattle.hostscript.specs.declared.action.Act.{Act}

-- A poke may write, as core 0 sees them, the volatile windows of its own data RAM and of core 1's, the shared RAM, and the memory
-- outside.
abbrev pub may_be_poked : ℕ → Bool
may_be_poked addr = list_any (is_within addr) (own_window ∷ other_window ∷ shared_window ∷ outside_window ∷ [])

pub record IsPoke (addr : ℕ) (width : Width) (value : ℕ) : Type 0 where
  pub window : IsTrue (may_be_poked addr)
  pub aligned : addr % byte_count width ≡ 0
  pub fits : value < 256 ^ byte_count width

abbrev pub IsAction : Action → Type 0
IsAction (Poke addr width value) = IsPoke addr width value
IsAction (Pins core bits) = (core < 2) × (bits < 2 ^ 16)
IsAction (Event number) = number < 64
IsAction (Start core) = core < 2

pub record IsAct (act : Act) : Type 0 where
  pub cycle : act.cycle < 2000000
  pub action : IsAction act.action

-- The cycles do not fall.
abbrev pub InOrder : List Act → Type 0
InOrder acts = IsNonDecreasingBy (λ act. act.cycle) acts

-- the fields that say an action, behind the cycle
abbrev pub action_fields : Action → List (List ℕ)
action_fields (Poke addr width value) = codes "poke" ∷ hex8 addr ∷ decimal (byte_count width) ∷ hex8 value ∷ []
action_fields (Pins core bits) = codes "pins" ∷ decimal core ∷ hex4 bits ∷ []
action_fields (Event number) = codes "event" ∷ decimal number ∷ []
action_fields (Start core) = codes "start" ∷ decimal core ∷ []

abbrev pub act_fields : Act → List (List ℕ)
act_fields act = decimal act.cycle ∷ action_fields act.action

-- the line of an act
abbrev pub act_text : Act → List ℕ
act_text act = line_of (act_fields act)

-- a core's arbitration numbers in one line
pub record IsArb (core : ℕ) (numbers : List ℕ) : Type 0 where
  pub known : core < 2
  pub some : 0 < length numbers
  pub each : AllByRecursion (λ n. n < 256) numbers

abbrev pub arb_fields : ℕ → List ℕ → List (List ℕ)
arb_fields core numbers = codes "arb" ∷ decimal core ∷ map decimal numbers

abbrev pub arb_text : ℕ → List ℕ → List ℕ
arb_text core numbers = line_of (arb_fields core numbers)
