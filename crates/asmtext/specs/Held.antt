-- What the code holds, as definitions see it.
use Rattle.std.specs.Prelude.{ℕ, List, map, Option, Some, None}
use Rattle.std.specs.Map.{lookup}
use Rattle.std.specs.Str.{bytes_eq}
use Rattle.asmline.specs.declared.line.Line.{Line}
use Rattle.asmline.specs.Said.{Said, said_by}
use Rattle.asmtext.specs.declared.names.Names.{Names}
use Rattle.asmtext.specs.declared.numbers.Numbers.{Numbers}
use Rattle.asmtext.specs.declared.places.Places.{Places}
use Rattle.asmtext.specs.Labels.{Lines}

abbrev pub told : Option Line → Option Said
told None = None
told (Some line) = Some (said_by line)

abbrev pub all_told : List (Option Line) → Lines
all_told lines = map told lines

-- the place that is held of a name
abbrev pub held : Places → List ℕ → Option ℕ
held places name = lookup (λ key. bytes_eq name key.now) places.by_name.entries

-- the first of two places
abbrev pub or_else : Option ℕ → Option ℕ → Option ℕ
or_else None b = b
or_else (Some a) b = Some a

-- the names, in order
abbrev pub names_held : Names → List (List ℕ)
names_held names = map (λ name. name.now) names.by_appearance.keys

-- the labels, in order
abbrev pub labels_held : Numbers → List ℕ
labels_held numbers = numbers.by_appearance.keys
