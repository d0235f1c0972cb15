-- What a reader of a line has before it.
use Rattle.std.specs.Prelude.{ℕ, List, [], Option, Some, None}
use Rattle.std.specs.Borrow.{Bor}
use Rattle.textline.specs.declared.fields.Fields.TheInside.{Inside}
use Rattle.textline.specs.Lines.{fields_of}

-- the fields of what is left of a line, or none
abbrev pub fields_in : Option (Bor (List ℕ)) → List (List ℕ)
fields_in None = []
fields_in (Some rest) = fields_of rest.now

abbrev pub fields_left : Inside → List (List ℕ)
fields_left a = fields_in a.rest
