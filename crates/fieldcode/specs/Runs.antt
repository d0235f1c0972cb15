-- What it is for instructions to lead from some registers and private RAM to others, one behind the other, with nothing to see.
use Rattle.std.specs.Prelude.{◌≡◌, ℕ, ◌+◌, ◌<◌, ◌≤◌, List, [], ◌∷◌, length, Option, Some, None}
use Rattle.isa.specs.declared.inst.Inst.{Inst}
use Rattle.corestep.specs.declared.goes.Goes.TheVariants.{Behind}
use Rattle.corestep.specs.declared.onward.Turning.{Turning}
use Rattle.corestep.specs.Core.{State, onward}
use Rattle.corestep.specs.Effect.{Given, effect, shows}

-- Whatever is read outside and wherever it stands, the instruction leaves these registers and RAM, shows nothing, and goes to the next.
pub record Does (i : Inst) (registers ram after left : List ℕ) : Type 0 where
  pub effect : (behind : ℕ) (g : Given) → effect behind registers ram g i ≡ shows after left [] Behind

pub data Straight : List Inst → List ℕ → List ℕ → List ℕ → List ℕ → Type 0 where
  none : (registers ram : List ℕ) → Straight [] registers ram registers ram
  next : (i : Inst) (is : List Inst) (registers ram middle between after left : List ℕ) → Does i registers ram middle between
      → Straight is middle between after left → Straight (i ∷ is) registers ram after left

-- No LOOP goes on, or the place is in its body, which doesn't end within so many instructions from there on.
abbrev pub GoesThrough : ℕ → ℕ → Option Turning → Type 0
GoesThrough base count None = Unit {0}
GoesThrough base count (Some t) = (t.first ≤ base) × (base < t.end) × (base + count ≤ t.end)

-- the core, come to a place with these registers and RAM
abbrev pub come_to : ℕ → Option Turning → List ℕ → List ℕ → State
come_to place turning registers ram =
    let on = onward place turning in
    record { pc = on.pc; turning = on.turning; registers = registers; ram = ram }
