-- Which texts are event files, and the first bad line: this project's own.
use Rattle.std.specs.Prelude.{◌≡◌, ℕ, ◌+◌, ◌==◌, ◌^◌, ◌<◌, if◌then◌else◌, List, [], ◌∷◌, ◌++◌, length, map, codes, Result, Ok, Err}
use Rattle.std.specs.List.{AllByRecursion}
use Rattle.std.specs.Fmt.{decimal}
use Rattle.prunum.specs.declared.width.Width.{Width}
use Rattle.prunum.specs.Width.{byte_count}
use Rattle.textline.specs.Lines.{Lacks, text_of}
use Rattle.prutrace.specs.declared.event.Event.{Event}
use Rattle.prutrace.specs.declared.event.Event.TheVariants.{Read, Write, Enter, Leave, DelayIn, DelayOut, Halted}
use Rattle.prutrace.specs.declared.event.Place.{Place}
use Rattle.prutrace.specs.declared.event.Place.TheVariants.{Reg30, Reg31, Addr, Pad}
use Rattle.prutrace.specs.declared.fault.EventsFault.{EventsFault}
use Rattle.prutrace.specs.declared.fault.EventsFault.TheVariants.{Line, Memory}
use Rattle.prutrace.specs.Text.{event_text, events_text}

-- ---- the values that events have

abbrev pub PlaceFits : Place → Type 0
PlaceFits Reg30 = Unit {0}
PlaceFits Reg31 = Unit {0}
PlaceFits (Addr address) = address < 2 ^ 32
PlaceFits (Pad bank reg) = (bank < 256) × (reg < 256)

-- a place of any width, and a value that fits it
abbrev pub AccessFits : Place → Width → ℕ → Type 0
AccessFits place width value = PlaceFits place × (value < 256 ^ byte_count width)

abbrev pub EventFits : Event → Type 0
EventFits (Read place width value) = AccessFits place width value
EventFits (Write place width value) = AccessFits place width value
EventFits (Enter region) = region < 2 ^ 16
EventFits (Leave region) = region < 2 ^ 16
EventFits (DelayIn cycles) = cycles < 2 ^ 32
EventFits (DelayOut cycles) = cycles < 2 ^ 32
EventFits Halted = Unit {0}

abbrev pub AllFit : List Event → Type 0
AllFit events = AllByRecursion EventFits events

-- ---- files

-- the line that names a core
abbrev pub head : ℕ → List ℕ
head core = codes "core " ++ decimal core

-- the lines of the file of core 0's events and core 1's
abbrev pub file_lines : List Event → List Event → List (List ℕ)
file_lines zero one = head 0 ∷ (map event_text zero ++ head 1 ∷ map event_text one)

-- the text is the file of these events
pub record IsEventsFile (text : List ℕ) (zero one : List Event) : Type 0 where
  pub zero_fits : AllFit zero
  pub one_fits : AllFit one
  pub same : text ≡ events_text zero one

-- the lines are those of a whole file
pub record AreFile (lines : List (List ℕ)) : Type 0 where
  pub zero : List Event
  pub one : List Event
  pub zero_fits : AllFit zero
  pub one_fits : AllFit one
  pub same : lines ≡ file_lines zero one

-- some file begins with these lines
pub record IsFront (lines : List (List ℕ)) : Type 0 where
  pub more : List (List ℕ)
  pub file : AreFile (lines ++ more)

-- The first bad line, with its number from 1: some file begins with the lines before it, and none begins with these and the
-- next line, which has to have its end; and where no byte is left, the lines before are no whole file.
pub record IsFirstBad (text : List ℕ) (number : ℕ) : Type 0 where
  pub before : List (List ℕ)
  pub rest : List ℕ
  pub same : text ≡ text_of before ++ rest
  pub place : number ≡ length before + 1
  pub front : IsFront before
  pub next : (line behind : List ℕ) → Lacks 10 line → rest ≡ line ++ 10 ∷ behind → IsFront (before ++ line ∷ []) → ⊥
  pub end : rest ≡ [] → AreFile before → ⊥

-- ---- what is read

abbrev pub events_of_core : ℕ → List Event → List Event → List Event
events_of_core core zero one = if core == 0 then zero else one

-- what is read is one core's events of the file that the text is
pub record AreRead (text : List ℕ) (core : ℕ) (events : List Event) : Type 0 where
  pub zero : List Event
  pub one : List Event
  pub file : IsEventsFile text zero one
  pub same : events ≡ events_of_core core zero one

-- a fault names the first bad line, or says that memory was wanting
abbrev pub IsFaultOf : List ℕ → EventsFault → Type 0
IsFaultOf text (Line number) = IsFirstBad text number
IsFaultOf text Memory = Unit {0}

-- these events, unless memory was wanting
abbrev pub Gives : {X : Type 0} → (X → List Event) → List Event → Result X EventsFault → Type 0
Gives view events (Ok read) = view read ≡ events
Gives view events (Err (Line number)) = ⊥
Gives view events (Err Memory) = Unit {0}
