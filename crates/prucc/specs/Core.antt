-- One core, and the two instructions that it knows so far.
use Rattle.std.specs.Prelude.{ℕ, ◌+◌, ◌*◌, List, drop, replicate, Option, Some, None, nat_lt, ◌==◌, if◌then◌else◌}
use Rattle.std.specs.Int.{w32, from_le_bytes}
use Rattle.prunum.specs.declared.width.Width.TheVariants.{B4}
use Rattle.prutrace.specs.declared.event.Place.TheVariants.{Reg30, Reg31}
use Rattle.prutrace.specs.declared.event.Event.{Event}
use Rattle.prutrace.specs.declared.event.Event.TheVariants as events
use Rattle.isa.specs.declared.field.Part.{Part}
use Rattle.isa.specs.declared.field.Field.{Field}
use Rattle.isa.specs.declared.inst.Inst.{Inst}
use Rattle.isa.specs.declared.inst.Inst.TheVariants as instructions
use Rattle.prucc.specs.Part.{first_byte, part_bytes, with_bytes}
use Rattle.prucc.specs.declared.machine.Core.{Core}
use Rattle.prucc.specs.declared.machine.Stop.TheVariants as stops
use Rattle.prucc.specs.declared.machine.StepOut.{StepOut}

-- R0 to R30 with a number in a field. R31 keeps nothing.
abbrev pub with_field : Field → ℕ → List ℕ → List ℕ
with_field d n registers =
    if nat_lt d.reg 31 then with_bytes (4 * d.reg + first_byte d.part) (part_bytes d.part n) registers else registers

-- what a write to a part of R31 gives it: 0 in the bytes that are not written
abbrev pub given_to_input : Part → ℕ → ℕ
given_to_input part n = from_le_bytes w32 (with_bytes (first_byte part) (part_bytes part n) (replicate 4 0))

-- What shows of a write to a field: the whole new value of R30, and what R31 was given.
abbrev pub shown_write : Field → ℕ → List ℕ → Option Event
shown_write d n registers =
    if d.reg == 30 then Some (events.Write Reg30 B4 (from_le_bytes w32 (drop 120 (with_field d n registers))))
    else if d.reg == 31 then Some (events.Write Reg31 B4 (given_to_input d.part n))
    else None

-- the instructions that the core knows so far
abbrev pub IsKnown : Inst → Type 0
IsKnown (instructions.Ldi d n) = Unit {0}
IsKnown instructions.Halt = Unit {0}
IsKnown other = ⊥

-- the core after an instruction
abbrev pub core_after : Core → Inst → Core
core_after core (instructions.Ldi d n) = record { pc = core.pc + 1; registers = with_field d n core.registers }
core_after core other = core

-- what an instruction shows, and whether the core goes on: it stops at a halt, and would be stuck at one that it doesn't know
abbrev pub outcome : Core → Inst → StepOut
outcome core (instructions.Ldi d n) = record { event = shown_write d n core.registers; stop = stops.Going }
outcome core instructions.Halt = record { event = Some events.Halted; stop = stops.Halted }
outcome core other = record { event = None; stop = stops.Stuck }

-- a core at its start: all registers are 0, and the first word is the next
abbrev pub core_at_start : Core
core_at_start = record { pc = 0; registers = replicate 124 0 }
