-- What the interrupt controller holds, and what its registers show and do.
use Rattle.std.specs.Prelude.{ℕ, ◌+◌, ◌*◌, ◌/◌, ◌%◌, ◌^◌, ◌==◌, Bool, true, false, if◌then◌else◌, List}
use Rattle.std.specs.Prelude.{slice_index, slice_set, Option, None, Some, bit_and, bit_or}
use Rattle.std.specs.Int.{bit_not, w64}
use Rattle.prunum.specs.declared.width.Width.{Width}
use Rattle.prunum.specs.declared.width.Width.TheVariants.{B4}
use Rattle.devices.specs.Register.{register_at}
use Rattle.devices.specs.declared.register.Register.{Register}
use Rattle.devices.specs.declared.register.Register.TheVariants.{GlobalEnable, SetPending, ClearPending, EnableEvent, DisableEvent}
use Rattle.devices.specs.declared.register.Register.TheVariants.{EnableHost, DisableHost, PendingBits, ActiveBits, EnabledBits}
use Rattle.devices.specs.declared.register.Register.TheVariants.{Channels, Hosts}

-- the global enable, the enable of each of 10 hosts, a bit for each of 64 events, the channel of each event and the host of each of
-- 10 channels
pub record Controller : Type 0 where
  pub on : Bool
  pub hosts_on : List Bool
  pub pending : ℕ
  pub enabled : ℕ
  pub channels : List ℕ
  pub hosts : List ℕ

-- the first number without the bits of the second, of 64 bits
abbrev pub without : ℕ → ℕ → ℕ
without bits cleared = bit_and bits (bit_not w64 cleared)

-- the bits 0 to 31 of a number, or 32 to 63
abbrev pub half_of : ℕ → ℕ → ℕ
half_of bits half = bits / 2 ^ (32 * half) % 2 ^ 32

-- a word at its place, as the bits 0 to 31 or 32 to 63
abbrev pub as_half : ℕ → ℕ → ℕ
as_half half word = word * 2 ^ (32 * half)

-- four entries of a table as the bytes of a word, the first one lowest; what isn't in the table shows as 0
abbrev pub four_at : List ℕ → ℕ → ℕ
four_at table four = slice_index table (4 * four) + 2 ^ 8 * slice_index table (4 * four + 1)
    + 2 ^ 16 * slice_index table (4 * four + 2) + 2 ^ 24 * slice_index table (4 * four + 3)

-- the table with the low 4 bits of each byte of the word in four entries; what isn't in the table is left out
abbrev pub with_four : List ℕ → ℕ → ℕ → List ℕ
with_four table four word =
    slice_set (slice_set (slice_set (slice_set table
    (4 * four) (word % 2 ^ 4))
    (4 * four + 1) (word / 2 ^ 8 % 2 ^ 4))
    (4 * four + 2) (word / 2 ^ 16 % 2 ^ 4))
    (4 * four + 3) (word / 2 ^ 24 % 2 ^ 4)

-- what a register shows
abbrev pub shown : Controller → Register → ℕ
shown c GlobalEnable = if c.on then 1 else 0
shown c (PendingBits half) = half_of c.pending half
shown c (ActiveBits half) = half_of (bit_and c.pending c.enabled) half
shown c (EnabledBits half) = half_of c.enabled half
shown c (Channels four) = four_at c.channels four
shown c (Hosts four) = four_at c.hosts four
shown c _ = 0

-- what a word written to a register does
abbrev pub after : Controller → Register → ℕ → Controller
after c GlobalEnable word = record c { on = word % 2 == 1 }
after c SetPending word = record c { pending = bit_or c.pending (2 ^ (word % 64)) }
after c ClearPending word = record c { pending = without c.pending (2 ^ (word % 64)) }
after c EnableEvent word = record c { enabled = bit_or c.enabled (2 ^ (word % 64)) }
after c DisableEvent word = record c { enabled = without c.enabled (2 ^ (word % 64)) }
after c EnableHost word = record c { hosts_on = slice_set c.hosts_on word true }
after c DisableHost word = record c { hosts_on = slice_set c.hosts_on word false }
after c (PendingBits half) word = record c { pending = bit_or c.pending (as_half half word) }
after c (ActiveBits half) word = record c { pending = without c.pending (as_half half word) }
after c (EnabledBits half) word = record c { enabled = bit_or c.enabled (as_half half word) }
after c (Channels four) word = record c { channels = with_four c.channels four word }
after c (Hosts four) word = record c { hosts = with_four c.hosts four word }

abbrev pub shown_by : Controller → Option Register → ℕ
shown_by c None = 0
shown_by c (Some register) = shown c register

abbrev pub after_by : Controller → Option Register → ℕ → Controller
after_by c None word = c
after_by c (Some register) word = after c register word

-- what an access of this width reads at an offset: only 4 bytes at a register's offset count
abbrev pub read_at : Controller → ℕ → Width → ℕ
read_at c at B4 = shown_by c (register_at at)
read_at c at _ = 0

-- what a write of this width at an offset leaves
abbrev pub written_at : Controller → ℕ → Width → ℕ → Controller
written_at c at B4 word = after_by c (register_at at) word
written_at c at _ word = c
