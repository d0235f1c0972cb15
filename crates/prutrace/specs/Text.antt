-- The texts of events: this project's own.
use Rattle.std.specs.Prelude.{ℕ, List, [], ◌∷◌, ◌++◌, map, codes}
use Rattle.std.specs.List.{flat_map}
use Rattle.std.specs.Fmt.{decimal}
use Rattle.prunum.specs.Width.{byte_count}
use Rattle.textline.specs.Numbers.{hex8}
use Rattle.prutrace.specs.declared.event.Place.{Place}
use Rattle.prutrace.specs.declared.event.Place.TheVariants.{Reg30, Reg31, Addr, Pad}
use Rattle.prutrace.specs.declared.event.Event.{Event}
use Rattle.prutrace.specs.declared.event.Event.TheVariants.{Read, Write, Enter, Leave, DelayIn, DelayOut, Halted}
use Rattle.prutrace.specs.declared.event.Stamped.{Stamped}

abbrev pub place_text : Place → List ℕ
place_text Reg30 = codes "R30"
place_text Reg31 = codes "R31"
place_text (Addr address) = hex8 address
place_text (Pad bank reg) = codes "P" ++ (decimal bank ++ (codes "." ++ decimal reg))

-- a place, a number of bytes and a value
abbrev pub access_text : Place → ℕ → ℕ → List ℕ
access_text place count value = place_text place ++ (codes " " ++ (decimal count ++ (codes " " ++ hex8 value)))

abbrev pub event_text : Event → List ℕ
event_text (Read place width value) = codes "R " ++ access_text place (byte_count width) value
event_text (Write place width value) = codes "W " ++ access_text place (byte_count width) value
event_text (Enter region) = codes "E " ++ decimal region
event_text (Leave region) = codes "L " ++ decimal region
event_text (DelayIn cycles) = codes "I " ++ decimal cycles
event_text (DelayOut cycles) = codes "O " ++ decimal cycles
event_text Halted = codes "H"

-- a line: a text and the line's end
abbrev pub line : List ℕ → List ℕ
line text = text ++ 10 ∷ []

-- a core's events, one a line, behind a line that names the core
abbrev pub core_text : ℕ → List Event → List ℕ
core_text core events = line (codes "core " ++ decimal core) ++ flat_map (λ e. line (event_text e)) events

-- an event file: core 0's events, then core 1's
abbrev pub events_text : List Event → List Event → List ℕ
events_text zero one = core_text 0 zero ++ core_text 1 one

-- the events of a trace, without their cycles
abbrev pub events_of : List Stamped → List Event
events_of trace = map (λ s. s.event) trace

-- an event with its cycle before it
abbrev pub stamped_text : Stamped → List ℕ
stamped_text s = decimal s.cycle ++ (codes " " ++ event_text s.event)

-- a core's trace, an event a line, behind a line that names the core
abbrev pub core_trace_text : ℕ → List Stamped → List ℕ
core_trace_text core trace = line (codes "core " ++ decimal core) ++ flat_map (λ s. line (stamped_text s)) trace

-- a trace file: core 0's trace, then core 1's
abbrev pub trace_text : List Stamped → List Stamped → List ℕ
trace_text zero one = core_trace_text 0 zero ++ core_trace_text 1 one
