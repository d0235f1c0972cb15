-- The paths of a region of a code with their sums.
use Rattle.std.specs.Prelude.{◌≡◌, ℕ, ◌+◌, ◌-◌, ◌≤◌, Bool, true, false, if◌then◌else◌, List, Option, Some, None, option_and_then}
use Rattle.isa.specs.declared.inst.Inst.{Inst}
use Rattle.isa.specs.declared.inst.Inst.TheVariants as inst
use Rattle.corestep.specs.declared.onward.Onward.{Onward}
use Rattle.corestep.specs.declared.onward.Turning.{Turning}
use Rattle.corestep.specs.declared.table.Table.{Table}
use Rattle.corestep.specs.Core.{onward}
use Rattle.corestep.specs.Cost.{cost}
use Rattle.corerun.specs.Code.{Code, turning_at}
use Rattle.corepath.specs.Flow.{Goes, Calls, Returns, leaves}
use Rattle.corepath.specs.Loops.{Loop, Counts, NoneTurned, AllLeft}

abbrev pub is_loop : Inst → Bool
is_loop (inst.Loop body) = true
is_loop _ = false

-- From word w a path comes to word d, with LOOP as the core has it.
abbrev pub come : Code → ℕ → ℕ → Option Turning → Inst → Onward
come code w d turning i = if is_loop i then record { pc = d; turning = turning_at code w i } else onward d turning

-- the cycles of a word whose access, if it is one, is of the own RAM
abbrev pub own_cost : Table → Inst → ℕ
own_cost table i = cost table i 0 0

-- A path from an entry to a word, with the LOOP that it runs, how often each loop has turned, and its sum: the cycles of the words before
-- this one. No LOOP runs at first. A call is a step of a path, with the sum of the called function's own path to a word that returns; the
-- loops of a call are its own, and no LOOP runs where one is made or ends. `loops` are those of the reached Turns words.
pub data Path (table : Table) (code : Code) (region : ℕ) (loops : List Loop)
    : ℕ → ℕ → Option Turning → (Loop → ℕ) → ℕ → Type 0 where
  begin : (e : ℕ) (k : Loop → ℕ) → NoneTurned loops k → Path table code region loops e e None k 0
  step : (e w d v : ℕ) (t after : Option Turning) (k j : Loop → ℕ) (s : ℕ)
      → Path table code region loops e w t k s → (go : Goes code region w d)
      → come code w d t go.inst ≡ record { pc = v; turning = after } → Counts loops w v k j
      → Path table code region loops e v after j (s + own_cost table go.inst)
  call : (e w f b : ℕ) (k j i : Loop → ℕ) (s z : ℕ)
      → Path table code region loops e w None k s → (c : Calls code region w f)
      → Path table code region loops f b None i z → (r : Returns code region b) → AllLeft loops b i
      → Counts loops w (w + 1) k j
      → Path table code region loops e (w + 1) None j (s + (own_cost table c.inst + (z + own_cost table r.inst)))

-- a path to the region's end, behind a word with its Leave mark
pub record Ends (table : Table) (code : Code) (region : ℕ) (loops : List Loop) (first sum : ℕ) : Type 0 where
  pub word : ℕ
  pub turning : Option Turning
  pub counts : Loop → ℕ
  pub before : ℕ
  pub inst : Inst
  pub path : Path table code region loops first word turning counts before
  pub is : code.inst word ≡ Some inst
  pub left : leaves code region word ≡ true
  pub sum_is : sum ≡ before + own_cost table inst

-- ---- sums in first turns

-- the LOOP that runs, if one does, is in its first turn
abbrev pub IsFirstTurn : Code → Option Turning → Type 0
IsFirstTurn code None = Unit {0}
IsFirstTurn code (Some t) = option_and_then (turning_at code (t.first - 1)) (code.inst (t.first - 1)) ≡ Some t

-- the sums at a word from an entry over paths whose running loops are in their first turns
pub record Shares (table : Table) (code : Code) (region : ℕ) (loops : List Loop) (entry word sum : ℕ) : Type 0 where
  pub turning : Option Turning
  pub counts : Loop → ℕ
  pub path : Path table code region loops entry word turning counts sum
  pub first_turn : IsFirstTurn code turning
  pub first_turns : NoneTurned loops counts

-- the least and the greatest of some numbers
pub record AreBounds (Has : ℕ → Type 0) (least most : ℕ) : Type 0 where
  pub has_least : Has least
  pub has_most : Has most
  pub within : (n : ℕ) → Has n → (least ≤ n) × (n ≤ most)
