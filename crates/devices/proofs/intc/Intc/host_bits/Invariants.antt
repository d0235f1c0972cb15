use Rattle.std.proofs.Common.{◌≡◌, ℕ, ◌&&◌}
use Rattle.std.specs.Int.{bit_at}
use Rattle.devices.specs.HostBits.{is_enabled, reaches, any_below, bit_of}
use Rattle.devices.proofs.intc.Intc.host_bits.Given as goal

-- the bits are those of the events so far
abbrev pub invariant-loop-event : goal.invariant-loop-event
invariant-loop-event l = (h : ℕ) → bit_at l.bits h ≡ bit_of (is_enabled l.self h && any_below (reaches l.self h) l.event)
