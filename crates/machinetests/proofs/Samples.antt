-- Runs of the machine of two cores, worked out by hand from the cycle tables: what shows in 60 cycles.
use Rattle.std.proofs.Common.{◌≡◌, ℕ, map, List, [], ◌∷◌, refl}
use Rattle.prunum.specs.declared.width.Width.TheVariants.{B1, B2, B4}
use Rattle.prutrace.specs.declared.event.Event.{Event}
use Rattle.prutrace.specs.declared.event.Event.TheVariants as event
use Rattle.prutrace.specs.declared.event.Place.{Place}
use Rattle.prutrace.specs.declared.event.Place.TheVariants.{Addr, Reg30, Reg31, Pad}
use Rattle.prutrace.specs.declared.event.Stamped.{Stamped}
use Rattle.isa.specs.declared.note.Note.{Note}
use Rattle.isa.specs.declared.note.NoteKind.TheVariants.{Enter, DelayIn, DelayOut, Leave}
use Rattle.isa.specs.Decoded.{decoded, inst_at as row_inst, alu_at, single_at, branch_at, jump_at, memory_at, access_from}
use Rattle.isa.specs.Image.{Contents}
use Rattle.corestep.specs.declared.table.Table.{Table}
use Rattle.corestep.specs.declared.table.Table.TheVariants.{One, Two}
use Rattle.corestep.specs.Core.{zeros}
use Rattle.corestep.specs.Step.{istep}
use Rattle.hostscript.specs.declared.action.Act.{Act}
use Rattle.hostscript.specs.declared.action.Action.{Action}
use Rattle.hostscript.specs.declared.action.Action.TheVariants.{Poke, Pins, Event as Signal, Start}
use Rattle.hostscript.specs.declared.script.Script.{Script}
use Rattle.devices.specs.HostBits.{any_below, number_of}
use Rattle.twocore.specs.declared.outcome.Outcome.{Outcome}
use Rattle.twocore.specs.Machine.{M, world_at_start}

abbrev image_of : List ℕ → List Note → Contents
image_of words notes = record { words = words; data_at = 16; init = []; zero = 0; notes = notes }

abbrev script_of : List Act → Script
script_of acts = record { acts = acts; arb0 = []; arb1 = [] }

abbrev no_script : Script
no_script = script_of []

-- the waits of core 0, and those of core 1
abbrev waits : List ℕ → List ℕ → Script
waits zero one = record { acts = []; arb0 = zero; arb1 = one }

abbrev act : ℕ → Action → Act
act t action = record { cycle = t; action = action }

-- ---- what shows

abbrev at : ℕ → Event → Stamped
at t e = record { event = e; cycle = t }

abbrev reads : ℕ → Place → ℕ → Stamped
reads t place value = at t (event.Read place B4 value)

abbrev writes : ℕ → Place → ℕ → Stamped
writes t place value = at t (event.Write place B4 value)

abbrev halts : ℕ → List Stamped
halts t = at t event.Halted ∷ []

-- the words of both cores under a script, both traces, and the counts of instructions
record Run : Type 0 where
  table : Table
  zero : Contents
  one : Contents
  script : Script
  trace0 : List Stamped
  trace1 : List Stamped
  count0 : ℕ
  count1 : ℕ

abbrev with_outcome : Run → Outcome → Run
with_outcome r o = record r { trace0 = o.trace0; trace1 = o.trace1; count0 = o.count0; count1 = o.count1 }

-- the run with what the machine shows in its place
abbrev done : Run → Run
done r = with_outcome r (M r.table r.zero r.one r.script 60)

abbrev both : Table → List ℕ → List ℕ → Script → List Stamped → List Stamped → ℕ → ℕ → Run
both table zero one script trace0 trace1 count0 count1 = record {
  table = table;
  zero = image_of zero [];
  one = image_of one [];
  script = script;
  trace0 = trace0;
  trace1 = trace1;
  count0 = count0;
  count1 = count1;
}

-- core 0, where core 1 has no words
abbrev alone : Table → List ℕ → Script → List Stamped → ℕ → Run
alone table words script trace count = both table words [] script trace [] count 0

abbrev update : List ℕ
update = 0x91001C62 ∷ 0x0101E2E2 ∷ 0x81001C62 ∷ 0x2A000000 ∷ []  -- LBCO R2, C28, 0, 4 · ADD R2, R2, 1 · SBCO R2, C28, 0, 4 · HALT

-- ---- two updates of a shared word, of which one is lost unless core 1 waits

abbrev updates : List Run
updates =
    -- no wait
    both One update update no_script (reads 2 (Addr 0x10000) 0 ∷ writes 5 (Addr 0x10000) 1 ∷ halts 6)
    (reads 2 (Addr 0x10000) 0 ∷ writes 5 (Addr 0x10000) 1 ∷ halts 6) 4 4
    -- core 1 waits at its load
    ∷ both One update update (waits [] (10 ∷ [])) (reads 2 (Addr 0x10000) 0 ∷ writes 5 (Addr 0x10000) 1 ∷ halts 6)
    (reads 12 (Addr 0x10000) 1 ∷ writes 15 (Addr 0x10000) 2 ∷ halts 16) 4 4
    -- the second table
    ∷ both Two update update no_script (reads 3 (Addr 0x10000) 0 ∷ writes 7 (Addr 0x10000) 1 ∷ halts 8)
    (reads 3 (Addr 0x10000) 0 ∷ writes 7 (Addr 0x10000) 1 ∷ halts 8) 4 4
    ∷ []

updates_show : map done updates ≡ updates
unfolding decoded row_inst alu_at single_at branch_at jump_at memory_at access_from istep zeros world_at_start any_below number_of
updates_show = refl

-- ---- loops by branch and by LOOP, and a store by both tables

abbrev words : List Run
words =
    -- LDI R2, 3 · L: SUB R2, R2, 1 · QBNE L, R2, 0 · HALT
    alone One (0x240003E2 ∷ 0x0501E2E2 ∷ 0x6F00E2FF ∷ 0x2A000000 ∷ []) no_script (halts 7) 8
    -- LOOP L, 4 · ADD R2, R2, 1 · L: OR R30, R2, R2 · HALT
    ∷ alone One (0x31030100 ∷ 0x0101E2E2 ∷ 0x12E2E2FE ∷ 0x2A000000 ∷ []) no_script (writes 5 Reg30 4 ∷ halts 6) 7
    -- SBCO R2, C28, 0, 4 · HALT
    ∷ alone One (0x81001C62 ∷ 0x2A000000 ∷ []) no_script (writes 1 (Addr 0x10000) 0 ∷ halts 2) 2
    -- the same by the second table
    ∷ alone Two (0x81001C62 ∷ 0x2A000000 ∷ []) no_script (writes 2 (Addr 0x10000) 0 ∷ halts 3) 2
    ∷ []

words_show : map done words ≡ words
unfolding decoded row_inst alu_at single_at branch_at jump_at memory_at access_from istep zeros world_at_start any_below number_of
words_show = refl

-- ---- acts happen before core 0 has the cycle, the first start counts, and a poke reaches each window

abbrev acts : List Run
acts =
    -- ADD R2, R31, 0 · HALT
    alone One (0x0100FFE2 ∷ 0x2A000000 ∷ []) (script_of (act 0 (Pins 0 0xBEEF) ∷ act 1 (Pins 0 0) ∷ [])) (reads 0 Reg31 0xBEEF ∷ halts 1) 2
    -- the pins of the other core
    ∷ alone One (0x0100FFE2 ∷ 0x2A000000 ∷ [])
    (script_of (act 0 (Pins 1 0xBEEF) ∷ act 5 (Start 0) ∷ act 9 (Start 0) ∷ [])) (reads 5 Reg31 0 ∷ halts 6) 2
    -- LDI R3, 0x1e00 · LBBO R2, R3, 0, 4 · HALT, in the cycle of the access
    ∷ alone One (0x241E00E3 ∷ 0xF1000362 ∷ 0x2A000000 ∷ []) (script_of (act 3 (Poke 0x1E00 B4 42) ∷ []))
    (reads 3 (Addr 0x1E00) 42 ∷ halts 4) 3
    -- one cycle later
    ∷ alone One (0x241E00E3 ∷ 0xF1000362 ∷ 0x2A000000 ∷ []) (script_of (act 4 (Poke 0x1E00 B4 42) ∷ []))
    (reads 3 (Addr 0x1E00) 0 ∷ halts 4) 3
    -- LDI R3, 0x3e00: the other core's window
    ∷ alone One (0x243E00E3 ∷ 0xF1000362 ∷ 0x2A000000 ∷ []) (script_of (act 0 (Poke 0x3E02 B2 0x1234) ∷ []))
    (reads 3 (Addr 0x3E00) 0x12340000 ∷ halts 4) 3
    -- LBCO R2, C28, 0, 4: the shared RAM
    ∷ alone One (0x91001C62 ∷ 0x2A000000 ∷ []) (script_of (act 0 (Poke 0x10001 B1 0xFF) ∷ [])) (reads 2 (Addr 0x10000) 0xFF00 ∷ halts 3) 2
    -- LDI R3.w2, 8: outside
    ∷ alone One (0x240008C3 ∷ 0xF1000362 ∷ 0x2A000000 ∷ []) (script_of (act 0 (Poke 0x80003 B1 0x80) ∷ []))
    (reads 23 (Addr 0x80000) 0x80000000 ∷ halts 24) 3
    ∷ []

acts_show : map done acts ≡ acts
unfolding decoded row_inst alu_at single_at branch_at jump_at memory_at access_from istep zeros world_at_start any_below number_of
acts_show = refl

-- ---- a store and a load that run over the end of a memory, and where nothing stands

abbrev edges : List Run
edges =
    -- the own window
    alone One (0x241FFEE3 ∷ 0x240000C3 ∷ 0x245678E2 ∷ 0x241234C2 ∷ 0xE1000362 ∷ 0xF1000362 ∷ 0x2A000000 ∷ [])
    no_script (writes 5 (Addr 0x1FFE) 0x12345678 ∷ reads 8 (Addr 0x1FFE) 0x5678 ∷ halts 9) 7
    -- the other core's window
    ∷ alone One (0x243FFEE3 ∷ 0x240000C3 ∷ 0x245678E2 ∷ 0x241234C2 ∷ 0xE1000362 ∷ 0xF1000362 ∷ 0x2A000000 ∷ [])
    no_script (writes 5 (Addr 0x3FFE) 0x12345678 ∷ reads 8 (Addr 0x3FFE) 0x5678 ∷ halts 9) 7
    -- the shared RAM
    ∷ alone One (0x242FFEE3 ∷ 0x240001C3 ∷ 0x245678E2 ∷ 0x241234C2 ∷ 0xE1000362 ∷ 0xF1000362 ∷ 0x2A000000 ∷ [])
    no_script (writes 5 (Addr 0x12FFE) 0x12345678 ∷ reads 8 (Addr 0x12FFE) 0x5678 ∷ halts 9) 7
    -- outside: a byte
    ∷ alone Two (0x24FFFFE3 ∷ 0x240008C3 ∷ 0x245678E2 ∷ 0x241234C2 ∷ 0xE1000362 ∷ 0x2A000000 ∷ []) no_script
    (writes 46 (Addr 0x8FFFF) 0x12345678 ∷ halts 47) 6
    -- the configuration registers
    ∷ alone One (0x246000E3 ∷ 0x240002C3 ∷ 0x245678E2 ∷ 0x241234C2 ∷ 0xE1000362 ∷ 0xF1000362 ∷ 0x2A000000 ∷ [])
    no_script (writes 5 (Addr 0x26000) 0x12345678 ∷ reads 8 (Addr 0x26000) 0 ∷ halts 9) 7
    -- an address at which nothing stands
    ∷ alone One (0x245000E3 ∷ 0x240000C3 ∷ 0x245678E2 ∷ 0x241234C2 ∷ 0xE1000362 ∷ 0xF1000362 ∷ 0x2A000000 ∷ [])
    no_script (writes 5 (Addr 0x5000) 0x12345678 ∷ reads 8 (Addr 0x5000) 0 ∷ halts 9) 7
    -- one piece of the interrupt controller that is not aligned
    ∷ alone One (0x240011E3 ∷ 0x240002C3 ∷ 0x245678E2 ∷ 0x241234C2 ∷ 0xE1000362 ∷ 0xF1000362 ∷ 0x2A000000 ∷ [])
    no_script (writes 5 (Addr 0x20011) 0x12345678 ∷ reads 8 (Addr 0x20011) 0 ∷ halts 9) 7
    -- an address at which nothing stands waits as the shared side
    ∷ alone One (0x245000E3 ∷ 0xE1000362 ∷ 0x2A000000 ∷ []) (waits (3 ∷ []) []) (writes 5 (Addr 0x5000) 0 ∷ halts 6) 3
    ∷ []

edges_show : map done edges ≡ edges
unfolding decoded row_inst alu_at single_at branch_at jump_at memory_at access_from istep zeros world_at_start any_below number_of
edges_show = refl

-- ---- host interrupts show in R31

abbrev interrupts : List Run
interrupts =
    -- an event of the script, enabled with host 0, as bit 30
    alone One
    (0x0101E2E2 ∷ 0x81100062 ∷ 0x240014E2 ∷ 0x81280062 ∷ 0x240000E2 ∷ 0x81340062 ∷ 0x0100FFE4 ∷ 0x0100FFE4 ∷ 0x2A000000 ∷ [])
    (script_of (act 10 (Signal 20) ∷ []))
    (writes 2 (Addr 0x20010) 1 ∷ writes 5 (Addr 0x20028) 20 ∷ writes 8 (Addr 0x20034) 0 ∷ reads 9 Reg31 0
    ∷ reads 10 Reg31 0x40000000 ∷ halts 11)
    9
    -- an event that a write of R31 signals, its channel led to host 1, as bit 31
    ∷ alone One
    (0x240800E3 ∷ 0x240002C3 ∷ 0x0101E2E2 ∷ 0xE1000362 ∷ 0x81340062 ∷ 0x81100062 ∷ 0x240014E2 ∷ 0x81280062 ∷ 0x240024FF
    ∷ 0x0100FFE4 ∷ 0x2A000000 ∷ [])
    no_script
    (writes 4 (Addr 0x20800) 1 ∷ writes 6 (Addr 0x20034) 1 ∷ writes 8 (Addr 0x20010) 1 ∷ writes 11 (Addr 0x20028) 20
    ∷ writes 12 Reg31 0x24 ∷ reads 13 Reg31 0x80000000 ∷ halts 14)
    11
    ∷ []

interrupts_show : map done interrupts ≡ interrupts
unfolding decoded row_inst alu_at single_at branch_at jump_at memory_at access_from istep zeros world_at_start any_below number_of
interrupts_show = refl

-- LDI R2, 0x1234 · SBCO R2, C25, 0, 4 · HALT: into the private part of the other core
abbrev store : List ℕ
store = 0x241234E2 ∷ 0x81001962 ∷ 0x2A000000 ∷ []

-- LBCO R2, C24, 0, 4 · OR R30, R2, R2 · HALT
abbrev load : List ℕ
load = 0x91001862 ∷ 0x12E2E2FE ∷ 0x2A000000 ∷ []

-- LDI R2, 0x1234 · XOUT 10, R2, 1 · HALT
abbrev give : List ℕ
give = 0x241234E2 ∷ 0x2F0A0201 ∷ 0x2A000000 ∷ []

-- LDI R2, 0 · XIN 10, R2, 1 · HALT
abbrev take : List ℕ
take = 0x240000E2 ∷ 0x2E0A0201 ∷ 0x2A000000 ∷ []

-- ---- in a cycle core 0 comes first: core 1 has what it stores or moves in the same cycle, and not the other way

abbrev order : List Run
order =
    -- a store
    both One store load no_script (writes 2 (Addr 0x2000) 0x1234 ∷ halts 3) (writes 3 Reg30 0x1234 ∷ halts 4) 3 3
    -- by core 1
    ∷ both One load store no_script (writes 3 Reg30 0 ∷ halts 4) (writes 2 (Addr 0x2000) 0x1234 ∷ halts 3) 3 3
    -- the scratchpad
    ∷ both One give take no_script (writes 1 (Pad 0 2) 0x1234 ∷ halts 2) (reads 1 (Pad 0 2) 0x1234 ∷ halts 2) 3 3
    -- by core 1
    ∷ both One take give no_script (reads 1 (Pad 0 2) 0 ∷ halts 2) (writes 1 (Pad 0 2) 0x1234 ∷ halts 2) 3 3
    -- core 1 starts later
    ∷ both One store load (script_of (act 5 (Start 1) ∷ [])) (writes 2 (Addr 0x2000) 0x1234 ∷ halts 3) (writes 8 Reg30 0x1234 ∷ halts 9) 3 3
    ∷ []

order_show : map done order ≡ order
unfolding decoded row_inst alu_at single_at branch_at jump_at memory_at access_from istep zeros world_at_start any_below number_of
order_show = refl

-- ---- LDI R2, 0 · LBCO R2, C28, 0, 4 with all four marks · HALT

abbrev marked : Contents
marked =
    image_of (0x240000E2 ∷ 0x91001C62 ∷ 0x2A000000 ∷ [])
    (record { word = 1; kind = Enter; value = 3 } ∷ record { word = 1; kind = DelayIn; value = 1 }
    ∷ record { word = 1; kind = DelayOut; value = 1 } ∷ record { word = 1; kind = Leave; value = 3 } ∷ [])

-- the marks before the load have its first cycle, those behind it the one after its last
marks_show : (M One marked (image_of [] []) no_script 6).trace0
    ≡ at 1 (event.Enter 3) ∷ at 1 (event.DelayIn 1) ∷ reads 3 (Addr 0x10000) 0 ∷ at 4 (event.DelayOut 1) ∷ at 4 (event.Leave 3) ∷ halts 4
unfolding decoded row_inst alu_at single_at branch_at jump_at memory_at access_from istep zeros world_at_start any_below number_of
marks_show = refl
