-- The bytes that can name a symbol.
use Rattle.std.specs.Prelude.{◌==◌, ℕ, Bool, is_some, not, List, position}

-- none of them is 0
abbrev pub can_name : List ℕ → Bool
can_name name = not (is_some (position (λ b. b == 0) name))
