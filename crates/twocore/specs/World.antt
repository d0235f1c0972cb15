-- What a core reads outside its private part, and what becomes of what it writes there.
use Rattle.std.specs.Prelude.{ℕ, ◌+◌, ◌*◌, ◌%◌, ◌^◌, ◌==◌, if◌then◌else◌, List, [], ◌∷◌, map, replicate, slice_index, slice_set, bit_or}
use Rattle.std.specs.List.{flat_map, range_with_len}
use Rattle.std.specs.Int.{bit_at}
use Rattle.prunum.specs.Width.{byte_count}
use Rattle.prunum.specs.Bytes.{little_bytes}
use Rattle.prutrace.specs.declared.event.Place.TheVariants.{Reg30, Reg31}
use Rattle.prutrace.specs.declared.event.Event.{Event}
use Rattle.prutrace.specs.declared.event.Event.TheVariants.{Write}
use Rattle.isa.specs.declared.inst.Inst.{Inst}
use Rattle.isa.specs.declared.inst.Inst.TheVariants as inst
use Rattle.corestep.specs.Pieces.{Piece, pieces, bank_number}
use Rattle.corestep.specs.Effect.{numbers_from}
use Rattle.devices.specs.Controller.{Controller as Pending, read_at, written_at}
use Rattle.devices.specs.HostBits.{host_bits_of}
use Rattle.devices.specs.Ports.{pad_at, with_pad}
use Rattle.twocore.specs.declared.spot.Spot.{Spot}
use Rattle.twocore.specs.declared.spot.Spot.TheVariants.{Own, Other, Shared, Controller, Outside, Nothing}
use Rattle.twocore.specs.declared.side.Side.{Side}
use Rattle.twocore.specs.declared.world.World.{World}
use Rattle.twocore.specs.Memory.{spot_of, put, ram_byte, window_after, private_after}

-- All that stands round a core, as it sees it: itself, the other core, and what both share.
pub record Stage : Type 0 where
  pub own : Side
  pub other : Side
  pub world : World

-- ---- loads

-- The byte so many places behind the first of an access. What runs out of the memory of the first reads 0.
abbrev pub byte_behind : Stage → Spot → ℕ → ℕ
byte_behind s (Own at) k = ram_byte s.own (at + k)
byte_behind s (Other at) k = ram_byte s.other (at + k)
byte_behind s (Shared at) k = slice_index s.world.shared (at + k)
byte_behind s (Outside at) k = slice_index s.world.outside (at + k)
byte_behind s (Controller at) k = 0
byte_behind s Nothing k = 0

-- the interrupt controller is read piece by piece
abbrev pub controller_bytes : Pending → ℕ → ℕ → List ℕ
controller_bytes c at len = flat_map (λ p. little_bytes (byte_count p.width) (read_at c p.addr p.width)) (pieces at (replicate len 0))

abbrev pub bytes_in : Stage → Spot → ℕ → List ℕ
bytes_in s (Controller at) len = controller_bytes s.world.intc at len
bytes_in s spot len = map (byte_behind s spot) (range_with_len 0 len)

-- ---- stores

abbrev pub controller_after : Pending → List Piece → Pending
controller_after c [] = c
controller_after c (p ∷ ps) = controller_after (written_at c p.addr p.width p.value) ps

-- Bytes that a core stores outside its private part. What lies in that part the core has already.
abbrev pub stored_in : Stage → Spot → List ℕ → Stage
stored_in s (Own at) bytes = record s { own = record s.own { window = window_after s.own at bytes } }
stored_in s (Other at) bytes =
    record s {
      other = record s.other {
        core = record s.other.core { ram = private_after s.other at bytes };
        window = window_after s.other at bytes;
      };
    }
stored_in s (Shared at) bytes = record s { world = record s.world { shared = put s.world.shared at bytes } }
stored_in s (Controller at) bytes =
    record s { world = record s.world { intc = controller_after s.world.intc (pieces at bytes) } }
stored_in s (Outside at) bytes = record s { world = record s.world { outside = put s.world.outside at bytes } }
stored_in s Nothing bytes = s

-- ---- registers that lead outside

-- R31: the input pins, and the bits of hosts 0 and 1 as bits 30 and 31
abbrev pub r31_of : ℕ → World → ℕ
r31_of core world = slice_index world.pins.inputs core + host_bits_of world.intc % 4 * 2 ^ 30

-- a write of R31 with bit 5 set signals system event 16 plus its low four bits
abbrev pub signalled : Pending → ℕ → Pending
signalled c value = if bit_at value 5 == 1 then record c { pending = bit_or c.pending (2 ^ (16 + value % 16)) } else c

abbrev pub led_out : ℕ → World → Event → World
led_out core world (Write Reg30 width value) =
    record world { pins = record world.pins { outputs = slice_set world.pins.outputs core value } }
led_out core world (Write Reg31 width value) = record world { intc = signalled world.intc value }
led_out core world _ = world

-- what a word's writes of R30 and R31 lead to, in their order
abbrev pub all_led_out : ℕ → World → List Event → World
all_led_out core world [] = world
all_led_out core world (e ∷ events) = all_led_out core (led_out core world e) events

-- ---- the scratchpad

-- the values of registers of a bank, from one on
abbrev pub pads_at : List (List ℕ) → ℕ → ℕ → ℕ → List ℕ
pads_at banks bank first count = map (pad_at banks bank) (range_with_len first count)

abbrev pub pads_with : List (List ℕ) → ℕ → ℕ → List ℕ → List (List ℕ)
pads_with banks bank reg [] = banks
pads_with banks bank reg (v ∷ values) = pads_with (with_pad banks bank reg v) bank (reg + 1) values

-- what an XOUT moves there out of the registers
abbrev pub pads_after : List (List ℕ) → List ℕ → Inst → List (List ℕ)
pads_after banks registers (inst.Xout t) =
    pads_with banks (bank_number t.bank) t.first (numbers_from registers t.first t.count)
pads_after banks registers _ = banks
