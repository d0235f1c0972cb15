-- Tables of spellings.
use Rattle.std.specs.Prelude.{ℕ, List, [], ◌∷◌, Option, Some, None, if◌then◌else◌}
use Rattle.std.specs.Str.{bytes_eq}

-- what the first entry with this spelling has
abbrev pub spelled : {K : Type 0} → List (List ℕ × K) → List ℕ → Option K
spelled [] bytes = None
spelled (entry ∷ entries) bytes = if bytes_eq entry.0 bytes then Some entry.1 else spelled entries bytes
