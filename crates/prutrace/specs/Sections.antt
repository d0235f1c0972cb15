-- A core's events up to the first line that tells none. What a file is, is said in `Reading`: this is no more than the way there.
use Rattle.std.specs.Prelude.{◌≡◌, ℕ, ◌+◌, List, [], ◌∷◌, ◌++◌, length}
use Rattle.std.specs.List.{flat_map}
use Rattle.prutrace.specs.declared.event.Event.{Event}
use Rattle.prutrace.specs.declared.fault.EventsFault.{EventsFault}
use Rattle.prutrace.specs.declared.fault.EventsFault.TheVariants.{Line, Memory}
use Rattle.prutrace.specs.declared.read.Stop.{Stop}
use Rattle.prutrace.specs.declared.read.Stop.TheVariants.{Head, End, Other}
use Rattle.prutrace.specs.Reading.{AllFit, EventFits, head}
use Rattle.prutrace.specs.Text.{event_text, line}

-- the lines of these events
abbrev pub told : List Event → List ℕ
told events = flat_map (λ e. line (event_text e)) events

-- no event's line stands first in the text
abbrev pub TellsNone : List ℕ → Type 0
TellsNone text = (e : Event) (behind : List ℕ) → EventFits e → text ≡ event_text e ++ 10 ∷ behind → ⊥

-- the line that names this core doesn't stand first
abbrev pub LacksHead : ℕ → List ℕ → Type 0
LacksHead core text = (behind : List ℕ) → text ≡ head core ++ 10 ∷ behind → ⊥

pub record IsOther (text : List ℕ) : Type 0 where
  pub tells : TellsNone text
  pub head : LacksHead 1 text
  pub some : text ≡ [] → ⊥

-- what stands behind the events, where rest is left of it
abbrev pub StopsAt : Stop → List ℕ → List ℕ → Type 0
StopsAt Head text rest = text ≡ head 1 ++ 10 ∷ rest
StopsAt End text rest = text ≡ []
StopsAt Other text rest = IsOther text

-- where no line with its end is left
abbrev pub StopsAtEnd : Stop → List ℕ → Type 0
StopsAtEnd Head text = ⊥
StopsAtEnd End text = text ≡ []
StopsAtEnd Other text = IsOther text

-- at a line
abbrev pub StopsAtLine : Stop → List ℕ → Type 0
StopsAtLine Head line = line ≡ head 1
StopsAtLine End line = ⊥
StopsAtLine Other line = line ≡ head 1 → ⊥

-- the number of the line behind the one where it stops
abbrev pub CountsOn : Stop → ℕ → ℕ → Type 0
CountsOn Head at after = after ≡ at + 1
CountsOn End at after = Unit {0}
CountsOn Other at after = Unit {0}

-- the events so far, and what is left
pub record IsSoFar (text : List ℕ) (number : ℕ) (events : List Event) (left : List ℕ) (at : ℕ) : Type 0 where
  pub fits : AllFit events
  pub same : text ≡ told events ++ left
  pub count : at ≡ number + length events

pub record IsSection (text : List ℕ) (number : ℕ) (events : List Event) (at : ℕ) (stop : Stop) (rest : List ℕ) (after : ℕ) : Type 0 where
  pub next : List ℕ
  pub so_far : IsSoFar text number events next at
  pub stops : StopsAt stop next rest
  pub count : CountsOn stop at after

-- ---- faults

abbrev pub FailsHead : List ℕ → ℕ → EventsFault → Type 0
FailsHead text number (Line at) = (at ≡ number) × LacksHead 0 text
FailsHead text number Memory = ⊥

pub record FailsInZero (text : List ℕ) (number at : ℕ) : Type 0 where
  pub events : List Event
  pub next : List ℕ
  pub so_far : IsSoFar text number events next at
  pub tells : TellsNone next
  pub head : LacksHead 1 next

abbrev pub FailsZero : List ℕ → ℕ → EventsFault → Type 0
FailsZero text number (Line at) = FailsInZero text number at
FailsZero text number Memory = Unit {0}

pub record FailsInOne (text : List ℕ) (number at : ℕ) : Type 0 where
  pub events : List Event
  pub next : List ℕ
  pub so_far : IsSoFar text number events next at
  pub tells : TellsNone next
  pub some : next ≡ [] → ⊥

abbrev pub FailsOne : List ℕ → ℕ → EventsFault → Type 0
FailsOne text number (Line at) = FailsInOne text number at
FailsOne text number Memory = Unit {0}
