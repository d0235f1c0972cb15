-- Counting lines and columns, both from 1.
use Rattle.std.specs.Prelude.{ℕ, ◌+◌, ◌==◌, if◌then◌else◌, List, [], ◌∷◌}
use Rattle.csyn.specs.declared.span.Span.{Span}

-- behind a byte: a line end begins the next line, any other byte is one column
abbrev pub after_byte : Span → ℕ → Span
after_byte span b = if b == 10 then record { line = span.line + 1; column = 1 } else record { line = span.line; column = span.column + 1 }

abbrev pub after_bytes : Span → List ℕ → Span
after_bytes span [] = span
after_bytes span (b ∷ bytes) = after_bytes (after_byte span b) bytes
