-- How a place is printed.
use Rattle.std.specs.Prelude.{ℕ, List, ◌∷◌, ◌++◌}
use Rattle.std.specs.Fmt.{decimal}
use Rattle.csyn.specs.declared.span.Span.{Span}

-- the line, a colon and the column
abbrev pub span_text : Span → List ℕ
span_text span = decimal span.line ++ 58 ∷ decimal span.column
