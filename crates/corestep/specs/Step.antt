-- One word of a core.
use Rattle.std.specs.Prelude.{ℕ, ◌+◌, ◌-◌, ◌%◌, ◌^◌, ◌==◌, List, [], ◌++◌, filter, find, slice_get, Option, Some}
use Rattle.std.specs.Prelude.{None, option_and_then, option_map, option_to_list, true, false}
use Rattle.prutrace.specs.declared.event.Event.{Event}
use Rattle.prutrace.specs.declared.event.Event.TheVariants as events
use Rattle.isa.specs.declared.inst.Inst.{Inst}
use Rattle.isa.specs.declared.inst.Inst.TheVariants as inst
use Rattle.isa.specs.declared.note.Note.{Note}
use Rattle.isa.specs.declared.note.NoteKind.{NoteKind}
use Rattle.isa.specs.declared.note.NoteKind.TheVariants.{Enter, DelayIn, DelayOut, Leave}
use Rattle.isa.specs.Decoded.{decoded}
use Rattle.isa.specs.Image.{Contents}
use Rattle.isa.specs.Note.{branch_target, kind_number}
use Rattle.corestep.specs.declared.onward.Onward.{Onward}
use Rattle.corestep.specs.declared.onward.Turning.{Turning}
use Rattle.corestep.specs.declared.goes.Goes.{Goes}
use Rattle.corestep.specs.declared.goes.Goes.TheVariants.{Behind, Number, Target, Around, Nowhere}
use Rattle.corestep.specs.declared.out.Need.{Need}
use Rattle.corestep.specs.declared.out.Need.TheVariants as needs
use Rattle.corestep.specs.declared.out.Input.{Input}
use Rattle.corestep.specs.declared.out.StepOut.{StepOut}
use Rattle.corestep.specs.declared.out.Stop.{Stop}
use Rattle.corestep.specs.declared.out.Stop.TheVariants as stops
use Rattle.corestep.specs.Memory.{address_of}
use Rattle.corestep.specs.Pieces.{bank_number}
use Rattle.corestep.specs.Core.{State, onward}
use Rattle.corestep.specs.Effect.{Given, Effect, effect}
use Rattle.corestep.specs.Given.{given_by}

-- the instruction at a counter, if one stands there
abbrev pub inst_at : List ℕ → ℕ → Option Inst
inst_at words pc = option_and_then decoded (slice_get words pc)

-- ---- marks

-- the notes of a word, and the value of the one of a kind
abbrev pub notes_at : List Note → ℕ → List Note
notes_at notes word = filter (λ n. n.word == word) notes

abbrev pub value_of_kind : NoteKind → List Note → Option ℕ
value_of_kind kind notes = option_map (λ n. n.value) (find (λ n. kind_number n.kind == kind_number kind) notes)

-- The marks before and behind the word's own events, of its notes. The number of a region has 16 bits; in an image it is below 64.
abbrev pub marks_before : List Note → List Event
marks_before notes =
    option_to_list (option_map (λ v. events.Enter (v % 2 ^ 16)) (value_of_kind Enter notes))
    ++ option_to_list (option_map events.DelayIn (value_of_kind DelayIn notes))

abbrev pub marks_behind : List Note → List Event
marks_behind notes =
    option_to_list (option_map events.DelayOut (value_of_kind DelayOut notes))
    ++ option_to_list (option_map (λ v. events.Leave (v % 2 ^ 16)) (value_of_kind Leave notes))

-- ---- where a core goes on

abbrev pub target_of : ℕ → Inst → ℕ
target_of pc (inst.Branch condition offset a b) = branch_target pc offset
target_of pc (inst.Qba offset) = branch_target pc offset
target_of pc _ = pc

-- the LOOP that begins behind the word
abbrev pub turning_from : ℕ → Inst → Option Turning
turning_from pc (inst.Loop body) = Some (record { first = pc + 1; end = pc + 1 + body.length; left = body.count - 1 })
turning_from pc _ = None

-- A core that halts stays where it is.
abbrev pub goes_on : ℕ → Option Turning → Inst → Goes → Onward
goes_on pc turning i Behind = onward (pc + 1) turning
goes_on pc turning i (Number n) = onward n turning
goes_on pc turning i Target = onward (target_of pc i) turning
goes_on pc turning i Around = record { pc = pc + 1; turning = turning_from pc i }
goes_on pc turning i Nowhere = record { pc = pc; turning = turning }

abbrev pub stop_of : Goes → Stop
stop_of Nowhere = stops.Halted
stop_of _ = stops.Going

-- ---- the step

-- a core after a word, and what the word showed and stored
pub record Stepped : Type 0 where
  pub core : State
  pub out : StepOut

abbrev pub after_effect : List Note → State → Inst → Effect → Stepped
after_effect notes s i e =
    let on = goes_on s.pc s.turning i e.goes in
    record {
      core = record { pc = on.pc; turning = on.turning; registers = e.registers; ram = e.ram };
      out = record { events = marks_before notes ++ (e.events ++ marks_behind notes); at = e.at; stored = e.stored; stop = stop_of e.goes };
    }

-- past the code a core is stuck, and nothing changes
abbrev pub stuck : State → Stepped
stuck s = record { core = s; out = record { events = []; at = 0; stored = []; stop = stops.Stuck } }

-- the step of the instruction at the counter, given what it reads
abbrev pub step_by : List Note → State → Given → Option Inst → Stepped
step_by notes s g None = stuck s
step_by notes s g (Some i) = after_effect (notes_at notes s.pc) s i (effect (s.pc + 1) s.registers s.ram g i)

unfoldable pub istep : Contents → State → Given → Stepped
istep image s g = step_by image.notes s g (inst_at image.words s.pc)

-- ---- with the core's input

abbrev pub given_at : State → Input → Option Inst → Given
given_at s input None = record { first = 0; second = 0; bytes = []; pads = [] }
given_at s input (Some i) = given_by s.registers input i

-- the word at the counter with this input
abbrev pub stepped : Contents → State → Input → Stepped
stepped image s input = istep image s (given_at s input (inst_at image.words s.pc))

-- ---- what the next word needs

abbrev pub need_of : State → Inst → Need
need_of s (inst.Load a) = needs.Access (address_of s.registers a) a.len false
need_of s (inst.Store a) = needs.Access (address_of s.registers a) a.len true
need_of s (inst.Xin t) = needs.Pad (bank_number t.bank) t.first t.count false
need_of s (inst.Xout t) = needs.Pad (bank_number t.bank) t.first t.count true
need_of s _ = needs.Plain

abbrev pub need_by : State → Option Inst → Need
need_by s None = needs.Stuck
need_by s (Some i) = need_of s i

abbrev pub needed : Contents → State → Need
needed image s = need_by s (inst_at image.words s.pc)
