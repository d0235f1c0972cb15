-- From the productions in the order in which they end to the values, over a stack.
use Rattle.std.specs.Prelude.{ℕ, ◌+◌, List, [], ◌∷◌, take, drop, reverse, slice_range, Option, Some, None, if◌then◌else◌}
use Rattle.std.specs.Option.{option_and_then}
use Rattle.csyn.specs.declared.token.Token.{Token}
use Rattle.cgrammar.specs.Grammar.{template, parts_among, is_node}
use Rattle.creader.specs.declared.reader.Entry.{Entry}
use Rattle.cparts.specs.declared.value.Value.{Value}
use Rattle.caction.specs.Make.{Place, make}

-- the values so far, the last first, and how many nodes have ended
pub record Built : Type 0 where
  pub values : List Value
  pub nodes : ℕ

abbrev pub built : List Value → ℕ → Built
built values nodes = record { values = values; nodes = nodes }

abbrev pub place_in : List Token → ℕ → Entry → Place
place_in tokens nodes entry = record { number = nodes; tokens = slice_range tokens entry.first entry.end }

abbrev pub with_value : Option Value → Built → Entry → Option Built
with_value None b entry = None
with_value (Some value) b entry = Some (built (value ∷ drop (parts_among (template entry.production)) b.values)
    (b.nodes + (if is_node entry.production then 1 else 0)))

-- one production
abbrev pub build_one : List Token → Built → Entry → Option Built
build_one tokens b entry =
    with_value (make entry.production (place_in tokens b.nodes entry)
    (reverse (take (parts_among (template entry.production)) b.values))) b entry

abbrev pub first_of : List Value → Option Value
first_of [] = None
first_of (value ∷ values) = Some value

-- one after another
abbrev pub build : List Token → List Entry → Built → Option Built
build tokens [] b = Some b
build tokens (entry ∷ entries) b = option_and_then (build tokens entries) (build_one tokens b entry)

-- the only value at the end
abbrev pub only_value : Option Built → Option Value
only_value None = None
only_value (Some b) = first_of b.values
