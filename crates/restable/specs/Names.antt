-- The bytes that can name a trace.
use Rattle.std.specs.Prelude.{ℕ, Bool, ◌&&◌, not, ◌==◌, nat_le, List, length}
use Rattle.std.specs.List.{list_all}

-- at most 32, and none of them zero
abbrev pub can_name : List ℕ → Bool
can_name name = nat_le (length name) 32 && list_all (λ b. not (b == 0)) name
