-- The command by which `clap` splits the words. No public contract cites what stands here.
use Rattle.std.specs.Prelude.{◌≡◌, ◌≢◌, List, [], ◌∷◌, map, Option, Some, None, true, MatchOption}
use Rattle.clap.specs.Words.{found_of}
use Rattle.clap.specs.Walk.{Rule, rows_of}
use Rattle.clap.specs.Simple.{App, matches_of, new_rule, new_shape}
use Rattle.clap.specs.Faults.{fault_of}
use Rattle.clap.specs.declared.parser.matches.ArgMatches.{ArgMatches}
use Rattle.clap.specs.declared.builder.action.ArgAction.TheVariants.{Append}
use Rattle.clap.specs.declared.builder.value_parser.ValueParser.TheVariants as parser
use Rattle.cmdwords.specs.Form.{Text}

-- an option with one value
abbrev pub option_rule : Text → Rule
option_rule name = record (new_rule name) { long = Some name; parser = Some parser.NonEmptyString }

-- the place words, under the id `=`
abbrev pub places_rule : Rule
places_rule = record (new_rule (61 ∷ [])) { action = Some Append }

-- the command with options of these names
abbrev pub app_with : Text → List Text → App
app_with mode names = record {
  top = record (new_shape mode) { disable_help_flag = true; rules = places_rule ∷ map option_rule names };
  subs = [];
}

-- the values of an argument, none where it has no row
abbrev pub listed : Option (List Text) → List Text
listed None = []
listed (Some values) = values

-- the matches where the command takes the words, and none where it does not
abbrev pub IsSplit : App → List Text → Option ArgMatches → Type 0
IsSplit app words o = MatchOption o (fault_of app words ≢ [])
    (λ m. (fault_of app words ≡ []) × (rows_of (found_of m) ≡ matches_of app words))
