-- Alignment.
use Rattle.std.specs.Prelude.{ℕ, ◌+◌, ◌-◌, ◌*◌, ◌/◌}

-- the next multiple of an alignment
abbrev pub rounded : ℕ → ℕ → ℕ
rounded n alignment = (n + (alignment - 1)) / alignment * alignment
