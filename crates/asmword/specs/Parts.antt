-- What a reader of parts has before it.
use Rattle.std.specs.Prelude.{ℕ, List, [], Option, Some, None}
use Rattle.std.specs.Borrow.{Bor}
use Rattle.asmword.specs.declared.parts.Parts.TheInside.{Inside}
use Rattle.asmword.specs.Blanks.{parts_of}

abbrev pub parts_in : ℕ → Option (Bor (List ℕ)) → List (List ℕ)
parts_in byte None = []
parts_in byte (Some rest) = parts_of byte rest.now

abbrev pub parts_left : Inside → List (List ℕ)
parts_left a = parts_in a.byte a.rest
