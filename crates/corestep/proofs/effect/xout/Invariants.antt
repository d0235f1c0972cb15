use Rattle.std.proofs.Common.{◌≡◌, ◌+◌, ◌≤◌, ◌++◌, length, true}
use Rattle.corestep.specs.Pieces.{bank_number, pad_events}
use Rattle.corestep.specs.Effect.{numbers_from}
use Rattle.corestep.proofs.effect.xout.Given as goal

-- so many registers are moved
abbrev pub invariant-loop-k : goal.invariant-loop-k
invariant-loop-k l =
    (l.events ≡ l.initial.events ++ pad_events true (bank_number l.t.bank) l.t.first (numbers_from l.registers l.t.first l.k))
    × (length l.events ≤ length l.initial.events + l.k)
