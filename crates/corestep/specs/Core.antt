-- A core between two words.
use Rattle.std.specs.Prelude.{ℕ, ◌-◌, ◌==◌, ◌&&◌, nat_lt, nat_le, if◌then◌else◌, List, replicate, Option, Some, None}
use Rattle.isa.specs.Image.{Contents}
use Rattle.corestep.specs.declared.onward.Onward.{Onward}
use Rattle.corestep.specs.declared.onward.Turning.{Turning}
use Rattle.corestep.specs.Fields.{with_bytes}

-- The counter is the number of the next word. R0 to R30 are 124 bytes, and `ram` is the private part of the own RAM.
pub record State : Type 0 where
  pub pc : ℕ
  pub turning : Option Turning
  pub registers : List ℕ
  pub ram : List ℕ

-- so many bytes 0
unfoldable pub zeros : ℕ → List ℕ
zeros n = replicate n 0

-- a core at its start: all is 0 but its data
abbrev pub at_start : Contents → State
at_start image = record {
  pc = 0;
  turning = None;
  registers = zeros 124;
  ram = with_bytes image.data_at image.init (zeros 0x1E00);
}

-- ---- LOOP

-- A core comes to the counter n. At the end of a LOOP that has turns left it goes to the first word; where none are left, and at a
-- counter outside, the LOOP is over.
abbrev pub onward : ℕ → Option Turning → Onward
onward n None = record { pc = n; turning = None }
onward n (Some t) =
    if n == t.end then
    (if t.left == 0 then record { pc = n; turning = None } else record { pc = t.first; turning = Some (record t { left = t.left - 1 }) })
    else if nat_le t.first n && nat_lt n t.end then record { pc = n; turning = Some t }
    else record { pc = n; turning = None }
