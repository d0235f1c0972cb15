-- The bits that the interrupt controller shows to the hosts.
use Rattle.std.specs.Prelude.{◌≡◌, ℕ, zero, suc, ◌+◌, ◌*◌, ◌<◌, ◌==◌, Bool, false, ◌&&◌, ◌||◌}
use Rattle.std.specs.Prelude.{if◌then◌else◌, nat_lt, IsTrue, slice_index, slice_index_or}
use Rattle.std.specs.Int.{bit_at}
use Rattle.devices.specs.Controller.{Controller}

-- whether a host is enabled; there is none from 10 on
abbrev pub is_enabled : Controller → ℕ → Bool
is_enabled c host = slice_index_or c.hosts_on host false

-- A pending, enabled event has a channel below 10 whose host is this one.
pub record Reaches (c : Controller) (host event : ℕ) : Type 0 where
  pub pending : bit_at c.pending event ≡ 1
  pub enabled : bit_at c.enabled event ≡ 1
  pub channel : slice_index c.channels event < 10
  pub leads : slice_index c.hosts (slice_index c.channels event) ≡ host

-- The controller interrupts this host.
pub record Interrupts (c : Controller) (host : ℕ) : Type 0 where
  pub on : IsTrue c.on
  pub enabled : IsTrue (is_enabled c host)
  pub reached : (event : ℕ) × (event < 64) × Reaches c host event

abbrev pub bit_of : Bool → ℕ
bit_of b = if b then 1 else 0

-- the same as tests
abbrev pub reaches : Controller → ℕ → ℕ → Bool
reaches c host event = (bit_at c.pending event == 1) && (bit_at c.enabled event == 1)
    && (nat_lt (slice_index c.channels event) 10 && (slice_index c.hosts (slice_index c.channels event) == host))

-- whether a number below the bound passes the test
unfoldable pub any_below : (ℕ → Bool) → ℕ → Bool
any_below test zero = false
any_below test (suc n) = test n || any_below test n

-- the number of so many bits of which each is 1 where its place passes the test, the lowest first
unfoldable pub number_of : (ℕ → Bool) → ℕ → ℕ
number_of test zero = 0
number_of test (suc n) = bit_of (test 0) + 2 * number_of (λ k. test (suc k)) n

abbrev pub interrupts : Controller → ℕ → Bool
interrupts c host = c.on && is_enabled c host && any_below (reaches c host) 64

-- the host bits as a number: bit h is that of host h
abbrev pub host_bits_of : Controller → ℕ
host_bits_of c = number_of (interrupts c) 10
