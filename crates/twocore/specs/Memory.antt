-- What stands where, as a core sees its memory, its own data RAM at 0: the AM335x reference manual, chapter PRU-ICSS. The size of
-- the memory
-- outside is this project's own.
use Rattle.std.specs.Prelude.{ℕ, ◌+◌, ◌-◌, nat_lt, if◌then◌else◌, List, [], ◌∷◌, slice_index, slice_set, take, drop}
use Rattle.memorymap.specs.Windows.{is_within, shared_window, interrupt_window, outside_window}
use Rattle.corestep.specs.Memory.{private_bytes}
use Rattle.twocore.specs.declared.spot.Spot.{Spot}
use Rattle.twocore.specs.declared.spot.Spot.TheVariants.{Own, Other, Shared, Controller, Outside, Nothing}
use Rattle.twocore.specs.declared.side.Side.{Side}

-- The memory that an address is in, and the place in it. The configuration registers read 0 and ignore writes, as what stands nowhere does.
abbrev pub spot_of : ℕ → Spot
spot_of addr =
    if nat_lt addr 0x2000 then Own addr
    else if nat_lt addr 0x4000 then Other (addr - 0x2000)
    else if is_within addr shared_window then Shared (addr - 0x10000)
    else if is_within addr interrupt_window then Controller (addr - 0x20000)
    else if is_within addr outside_window then Outside (addr - 0x80000)
    else Nothing

-- A memory with bytes from a place on. Those that run out of it are lost.
abbrev pub put : List ℕ → ℕ → List ℕ → List ℕ
put memory at [] = memory
put memory at (b ∷ bytes) = put (slice_set memory at b) (at + 1) bytes

-- ---- the data RAM of a core: the part that is the core's alone, and behind it the volatile window

-- a byte of it; behind its end there is 0
abbrev pub ram_byte : Side → ℕ → ℕ
ram_byte side at = if nat_lt at private_bytes then slice_index side.core.ram at else slice_index side.window (at - private_bytes)

-- what reaches the window of bytes from a place of the RAM on
abbrev pub window_after : Side → ℕ → List ℕ → List ℕ
window_after side at bytes = put side.window (at - private_bytes) (drop (private_bytes - at) bytes)

-- what reaches the private part of them
abbrev pub private_after : Side → ℕ → List ℕ → List ℕ
private_after side at bytes = put side.core.ram at (take (private_bytes - at) bytes)
