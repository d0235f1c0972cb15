-- Files in memory: names with their bytes.
use Rattle.std.specs.Prelude.{ℕ, List}
use Rattle.std.specs.Map.{lookup}
use Rattle.std.specs.Str.{bytes_eq}
use Rattle.fileset.specs.Told.{Held}

abbrev pub NamedFiles : Type 0
NamedFiles = List (List ℕ × List ℕ)

-- under each name the bytes of its first entry, or none where it has no entry
abbrev pub held_in : NamedFiles → Held
held_in files name = lookup (bytes_eq name) files
