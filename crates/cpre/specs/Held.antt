-- What the code holds, as definitions see it.
use Rattle.std.specs.Prelude.{◌≡◌, ℕ, Bool, cond, List, [], ◌∷◌, map, Option, Some, None}
use Rattle.std.specs.Option.{option_map}
use Rattle.std.specs.Map.{lookup}
use Rattle.std.specs.Str.{bytes_eq}
use Rattle.csyn.specs.declared.token.Token.{Token}
use Rattle.cpre.specs.declared.macros.Macro.{Macro}
use Rattle.cpre.specs.declared.macros.Macros.{Macros}
use Rattle.cpre.specs.declared.macros.Stage.{Stage}

-- the names that are defined, each with its tokens, in the order of their definitions
abbrev pub macros_of : Macros → List (List ℕ × List Token)
macros_of macros = map (λ e. (e.0.now, e.1.tokens.now)) macros.by_name.entries

-- what is held of a name
abbrev pub found : Macros → List ℕ → Option Macro
found macros name = lookup (λ key. bytes_eq name key.now) macros.by_name.entries

abbrev pub stage_of : Macros → List ℕ → Option Stage
stage_of macros name = option_map (λ m. m.stage) (found macros name)

abbrev pub IsDefinedAs : Macros → List ℕ → List Token → Type 0
IsDefinedAs macros name tokens = option_map (λ m. m.tokens.now) (found macros name) ≡ Some tokens

-- the macro is held by that name, and of other names what was
abbrev pub Sets : Macros → List ℕ → Macro → Macros → Type 0
Sets before name m behind = (other : List ℕ) → found behind other ≡ cond (bytes_eq name other) (Some m) (found before other)
