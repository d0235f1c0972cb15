-- Names that are being replaced, as definitions see them.
use Rattle.std.specs.Prelude.{◌≡◌, ℕ, zero, suc, ◌+◌, ◌<◌, Bool, true, false, if◌then◌else◌, List, [], ◌∷◌, ◌++◌}
use Rattle.std.specs.Prelude.{length, map, flat_map, Option, Some, None, option_and_then}
use Rattle.std.specs.List.{list_any, list_all}
use Rattle.std.specs.Option.{option_map_or}
use Rattle.std.specs.Str.{bytes_eq}
use Rattle.csyn.specs.declared.cause.Cause.TheVariants.{P7}
use Rattle.csyn.specs.declared.token.Token.{Token}
use Rattle.csyn.specs.declared.tree.TheConstants.{MAX_TOKENS}
use Rattle.cpre.specs.declared.fault.ItemFault.{ItemFault}
use Rattle.cpre.specs.declared.fault.ItemFault.TheVariants.{Broken, Memory}
use Rattle.cpre.specs.declared.macros.Macros as declared
use Rattle.cpre.specs.declared.macros.Stage.{Stage}
use Rattle.cpre.specs.declared.macros.Stage.TheVariants.{Idle, Open, Nothing}
use Rattle.cpre.specs.declared.replace.Frame.{Frame}
use Rattle.cpre.specs.declared.replace.Place.{Place}
use Rattle.cpre.specs.declared.replace.Replacer.{Replacer}
use Rattle.cpre.specs.Directive.{name_of}
use Rattle.cpre.specs.Held.{macros_of, found, stage_of}
use Rattle.cpre.specs.Replacement.{Macros, macro_of, without, at, expanded}
use Rattle.cpre.specs.Standard.{typed}

abbrev pub names : List Frame → List (List ℕ)
names = map (λ f. f.name.now)

abbrev pub is_among : List (List ℕ) → List ℕ → Bool
is_among hidden name = list_any (bytes_eq name) hidden

abbrev pub hide : List (List ℕ) → Macros → Macros
hide [] macros = macros
hide (name ∷ hidden) macros = without name (hide hidden macros)

-- what comes of a token at a place
abbrev pub become : Macros → Place → Token → List Token
become macros place t = map (typed place.is_included) (expanded macros (at place.span t))

-- what comes of the tokens that are still to be taken
abbrev pub coming : Macros → Place → List Frame → List Token
coming macros place [] = []
coming macros place (f ∷ frames) = flat_map (become (hide (names (f ∷ frames)) macros) place) f.rest.now ++ coming macros place frames

abbrev pub all_steps : (Token → ℕ) → List Token → ℕ
all_steps steps [] = 0
all_steps steps (t ∷ ts) = steps t + all_steps steps ts

-- how many steps a token takes, and those that are still to be taken
unfoldable pub steps : ℕ → Macros → Token → ℕ
steps zero macros t = 1
steps (suc depth) macros t = option_map_or (λ m. 2 + all_steps (steps depth (without m.0 macros)) m.1) (macro_of macros t.kind) 1

abbrev pub token_steps : Macros → Token → ℕ
token_steps macros t = steps (length macros) macros t

abbrev pub work : Macros → List Frame → ℕ
work macros [] = 0
work macros (f ∷ frames) = 1 + all_steps (token_steps (hide (names (f ∷ frames)) macros)) f.rest.now + work macros frames

-- each frame is of a macro that is open, and no two of one
abbrev pub AreOpen : declared.Macros → List Frame → Type 0
AreOpen macros [] = Unit {0}
AreOpen macros (f ∷ frames) = (found macros f.name.now ≡ Some (record { tokens = f.tokens; stage = Open }))
    × (is_among (names frames) f.name.now ≡ false) × AreOpen macros frames

-- no name of which nothing comes is hidden
abbrev pub Avoids : declared.Macros → List (List ℕ) → Type 0
Avoids macros hidden = (name : List ℕ) → stage_of macros name ≡ Some Nothing → is_among hidden name ≡ false

-- Nothing comes of the names that are marked so, whatever others are hidden.
abbrev pub AreNothing : declared.Macros → Type 0
AreNothing macros = (name : List ℕ) → stage_of macros name ≡ Some Nothing → (hidden : List (List ℕ)) → Avoids macros hidden → (t : Token)
    → name_of t.kind ≡ Some name
    → expanded (hide hidden (macros_of macros)) t ≡ []

pub record IsSound (macros : declared.Macros) (frames : List Frame) : Type 0 where
  pub are_open : AreOpen macros frames
  pub only : (name : List ℕ) → stage_of macros name ≡ Some Open → is_among (names frames) name ≡ true
  pub nothing : AreNothing macros

-- the macros are the same, and the stages are those of these frames
pub record Keeps (old new : declared.Macros) (frames : List Frame) : Type 0 where
  pub sound : IsSound new frames
  pub macros : macros_of new ≡ macros_of old

-- a token was taken
pub record Takes (place : Place) (t : Token) (old new : Replacer) : Type 0 where
  pub keeps : Keeps old.macros new.macros new.frames
  pub made : new.made.items ++ coming (macros_of old.macros) place new.frames
      ≡ old.made.items ++ (become (hide (names old.frames) (macros_of old.macros)) place t ++ coming
      (macros_of old.macros) place old.frames)
  pub less : work (macros_of old.macros) new.frames < token_steps (hide (names old.frames) (macros_of old.macros)) t + work
      (macros_of old.macros) old.frames

-- a step with a frame: its next token was taken, or it was left
pub record Steps (place : Place) (f : Frame) (old new : Replacer) : Type 0 where
  pub keeps : Keeps old.macros new.macros new.frames
  pub made : new.made.items ++ coming (macros_of old.macros) place new.frames
      ≡ old.made.items ++ coming (macros_of old.macros) place (f ∷ old.frames)
  pub less : work (macros_of old.macros) new.frames < work (macros_of old.macros) (f ∷ old.frames)

-- Memory may be wanting; else so many tokens are too many.
abbrev pub Overflows : ℕ → ItemFault → Type 0
Overflows count (Broken cause) = (cause ≡ P7) × (MAX_TOKENS < count)
Overflows count Memory = Unit {0}

-- a token that is a name of which nothing comes
abbrev pub is_marked : Option Stage → Bool
is_marked (Some Nothing) = true
is_marked _ = false

abbrev pub is_nothing : declared.Macros → Token → Bool
is_nothing macros t = is_marked (option_and_then (stage_of macros) (name_of t.kind))

-- how far a macro of these tokens is once it has been replaced
abbrev pub stage_behind : declared.Macros → List Token → Stage
stage_behind macros tokens = if list_all (is_nothing macros) tokens then Nothing else Idle
