use Rattle.std.proofs.Common.{◌≡◌, ◌+◌, ◌*◌, ◌≤◌, ◌++◌, length, take, false}
use Rattle.std.specs.List.{flat_map}
use Rattle.prunum.specs.Bytes.{little_bytes}
use Rattle.corestep.specs.Fields.{with_bytes}
use Rattle.corestep.specs.Pieces.{bank_number, pad_events}
use Rattle.corestep.proofs.effect.xin.Given as goal

-- so many registers are moved
abbrev pub invariant-loop-k : goal.invariant-loop-k
invariant-loop-k l =
    (l.registers ≡ with_bytes (4 * l.t.first) (flat_map (little_bytes 4) (take l.k l.input.pads)) l.initial.registers)
    × (l.events ≡ l.initial.events ++ pad_events false (bank_number l.t.bank) l.t.first (take l.k l.input.pads))
    × (length l.events ≤ length l.initial.events + l.k)
