-- The stages of macros while names are replaced.
use Rattle.std.proofs.Common.{◌≡◌, ℕ, Bool, true, false, cond, ◌||◌, ◌&&◌, List, [], ◌∷◌, map, flat_map, ◌++◌, Option}
use Rattle.std.proofs.Common.{Some, None, refl, sym, ap, ◌∙◌, subst, true≢false, option_and_then}
use Rattle.std.specs.Prelude.{if◌then◌else◌}
use Rattle.std.specs.List.{list_all}
use Rattle.std.specs.Option.{option_map}
use Rattle.std.specs.Str.{bytes_eq}
use Rattle.csyn.specs.declared.span.Span.{Span}
use Rattle.csyn.specs.declared.token.Token.{Token}
use Rattle.csyn.specs.declared.token.TokenKind.{TokenKind}
use Rattle.cpre.specs.declared.macros.Macro.{Macro}
use Rattle.cpre.specs.declared.macros.Macros.{Macros}
use Rattle.cpre.specs.declared.macros.Stage.{Stage}
use Rattle.cpre.specs.declared.macros.Stage.TheVariants.{Idle, Open, Nothing}
use Rattle.cpre.specs.declared.replace.Frame.{Frame}
use Rattle.cpre.specs.Directive.{name_of}
use Rattle.cpre.specs.Held.{macros_of, found, stage_of, Sets}
use Rattle.cpre.specs.Replacement.{definition_of, macro_of, without, at, expanded}
use Rattle.cpre.specs.Replacing.{names, is_among, hide, AreOpen, Avoids, AreNothing, IsSound, Keeps, is_marked, is_nothing, stage_behind}
use Rattle.cpre.proofs.Names.{same_name, own_name, swapped, none, definition_of-hide, names_macro}
use Rattle.cpre.proofs.Names.{names_none, definition_found, extends_hide, extends_push}
use Rattle.cpre.proofs.Depth.{expanded_name, expanded_other, nothing_extended}

-- ---- tests

pub false-unless : (b : Bool) → (b ≡ true → ⊥) → b ≡ false
false-unless true h = absurd (h refl)
false-unless false h = refl

pub neither : (a b : Bool) → (a || b) ≡ false → (a ≡ false) × (b ≡ false)
neither true b h = absurd (true≢false h)
neither false b h = (refl, h)

one : (a b : Bool) → (a || b) ≡ true → (a ≡ true → b ≡ true) → b ≡ true
one true b h k = k refl
one false b h k = h

second : (a b : Bool) → b ≡ true → (a || b) ≡ true
second true b h = refl
second false b h = h

first : (a b : Bool) → a ≡ true → (a || b) ≡ true
first true b h = refl
first false b h = absurd (true≢false (sym h))

pub both : (a b : Bool) → (a && b) ≡ true → (a ≡ true) × (b ≡ true)
both true b h = (refl, h)
both false b h = absurd (true≢false (sym h))

pub cond_true : {A : Type 0} (b : Bool) (x y : A) → b ≡ true → cond b x y ≡ x
cond_true b x y h = λ i. cond (h i) x y

pub cond_false : {A : Type 0} (b : Bool) (x y : A) → b ≡ false → cond b x y ≡ y
cond_false b x y h = λ i. cond (h i) x y

-- ---- a stage is set

module _ (old new : Macros) (n : List ℕ) (m : Macro) (sets : Sets old n m new) where
  stage-by : (b : Bool) (o : Option Macro) → option_map (λ m. m.stage) (cond b (Some m) o)
      ≡ cond b (Some m.stage) (option_map (λ m. m.stage) o)
  stage-by true o = refl
  stage-by false o = refl

  stage-set : (other : List ℕ) → stage_of new other ≡ cond (bytes_eq n other) (Some m.stage) (stage_of old other)
  stage-set other = ap (option_map (λ m. m.stage)) (sets other) ∙ stage-by (bytes_eq n other) (found old other)

  set_there : (other : List ℕ) → bytes_eq n other ≡ true → stage_of new other ≡ Some m.stage
  set_there other same = stage-set other ∙ cond_true (bytes_eq n other) (Some m.stage) (stage_of old other) same

  kept_there : (other : List ℕ) → bytes_eq n other ≡ false → stage_of new other ≡ stage_of old other
  kept_there other differs = stage-set other ∙ cond_false (bytes_eq n other) (Some m.stage) (stage_of old other) differs

  -- frames of other names stay open
  pub kept_open : (frames : List Frame) → is_among (names frames) n ≡ false → AreOpen old frames → AreOpen new frames
  kept_open [] h are = tt
  kept_open (f ∷ frames) h are =
      let apart = neither (bytes_eq n f.name.now) (is_among (names frames) n) h in (
        sets f.name.now ∙ cond_false (bytes_eq n f.name.now) (Some m) (found old f.name.now) apart.0
            ∙ are.0,
        are.1,
        kept_open frames apart.1 are.2,
      )

  was-nothing : (other : List ℕ) (b : Bool) → bytes_eq n other ≡ b → (m.stage ≡ Nothing → ⊥) → stage_of new other ≡ Some Nothing
      → stage_of old other ≡ Some Nothing
  was-nothing other true same not h = absurd (not (let e : Some m.stage ≡ Some Nothing = sym (set_there other same) ∙ h in cc))
  was-nothing other false differs not h = sym (kept_there other differs) ∙ h

  still-nothing : (other : List ℕ) (b : Bool) → bytes_eq n other ≡ b → (stage_of old n ≡ Some Nothing → ⊥)
      → stage_of old other ≡ Some Nothing → stage_of new other ≡ Some Nothing
  still-nothing other true same not h = absurd (not (ap (stage_of old) (same_name n other same) ∙ h))
  still-nothing other false differs not h = kept_there other differs ∙ h

  -- what nothing comes of, where neither stage is that
  pub kept_nothing : (m.stage ≡ Nothing → ⊥) → (stage_of old n ≡ Some Nothing → ⊥) → macros_of new ≡ macros_of old → AreNothing old
      → AreNothing new
  kept_nothing not was macros are = λ other is hidden avoids t named.
      let before = was-nothing other (bytes_eq n other) refl not is in
      let avoided : Avoids old hidden = λ h nothing. avoids h (still-nothing h (bytes_eq n h) refl was nothing) in
      ap (λ ms. expanded (hide hidden ms) t) macros ∙ are other before hidden avoided t named

-- ---- hidden names are open

module _ (macros : Macros) where
  among-step : (n : List ℕ) (f : Frame) (b c : Bool) → bytes_eq n f.name.now ≡ b
      → found macros f.name.now ≡ Some (record { tokens = f.tokens; stage = Open }) → (c ≡ true → stage_of macros n ≡ Some Open)
      → (b || c) ≡ true → stage_of macros n ≡ Some Open
  among-step n f true c same is rest h = ap (stage_of macros) (same_name n f.name.now same) ∙ ap (option_map (λ m. m.stage)) is
  among-step n f false c differs is rest h = rest h

  pub among_open : (frames : List Frame) (n : List ℕ) → AreOpen macros frames → is_among (names frames) n ≡ true
      → stage_of macros n ≡ Some Open
  among_open [] n are h = absurd (true≢false (sym h))
  among_open (f ∷ frames) n are h = among-step n f (bytes_eq n f.name.now) (is_among (names frames) n) refl are.0
      (among_open frames n are.2) h

  pub not_among : (frames : List Frame) (n : List ℕ) (stage : Stage) → AreOpen macros frames → stage_of macros n ≡ Some stage
      → (stage ≡ Open → ⊥) → is_among (names frames) n ≡ false
  not_among frames n stage are is not =
      false-unless (is_among (names frames) n) (λ h. not (let e : Some stage ≡ Some Open = sym is ∙ among_open frames n are h in cc))

  pub avoided : (frames : List Frame) → AreOpen macros frames → Avoids macros (names frames)
  avoided frames are = λ n nothing. not_among frames n Nothing are nothing (λ e. cc)

-- ---- what becomes of a token

module _ (macros : Macros) (frames : List Frame) (sound : IsSound macros frames) (t : Token) (span : Span) where
  pub stays_as_no_name : name_of t.kind ≡ None → expanded (hide (names frames) (macros_of macros)) (at span t) ≡ at span t ∷ []
  stays_as_no_name named = expanded_other (hide (names frames) (macros_of macros)) (at span t)
      (names_none (hide (names frames) (macros_of macros)) t.kind named)

  stays-undefined : (n : List ℕ) → name_of t.kind ≡ Some n → definition_of (hide (names frames) (macros_of macros)) n ≡ None
      → expanded (hide (names frames) (macros_of macros)) (at span t) ≡ at span t ∷ []
  stays-undefined n named undefined =
      expanded_other (hide (names frames) (macros_of macros)) (at span t)
      (names_macro (hide (names frames) (macros_of macros)) t.kind n None named undefined)

  pub stays_as_unknown : (n : List ℕ) → name_of t.kind ≡ Some n → found macros n ≡ None
      → expanded (hide (names frames) (macros_of macros)) (at span t) ≡ at span t ∷ []
  stays_as_unknown n named unknown = stays-undefined n named (
      definition_of-hide (names frames) n (macros_of macros)
      ∙ ap (cond (is_among (names frames) n) None) (definition_found macros n ∙ ap (option_map (λ m. m.tokens.now)) unknown)
      ∙ none (is_among (names frames) n))

  pub stays_as_open : (n : List ℕ) → name_of t.kind ≡ Some n → stage_of macros n ≡ Some Open
      → expanded (hide (names frames) (macros_of macros)) (at span t) ≡ at span t ∷ []
  stays_as_open n named is = stays-undefined n named (
      definition_of-hide (names frames) n (macros_of macros)
      ∙ cond_true (is_among (names frames) n) None (definition_of (macros_of macros) n) (sound.only n is))

  pub goes_as_nothing : (n : List ℕ) → name_of t.kind ≡ Some n → stage_of macros n ≡ Some Nothing
      → expanded (hide (names frames) (macros_of macros)) (at span t) ≡ []
  goes_as_nothing n named is = sound.nothing n is (names frames) (avoided macros frames sound.are_open) (at span t) named

  -- the tokens of a macro that is idle
  pub opens_macro : (n : List ℕ) (m : Macro) → name_of t.kind ≡ Some n → found macros n ≡ Some m → m.stage ≡ Idle
      → macro_of (hide (names frames) (macros_of macros)) t.kind ≡ Some (n, m.tokens.now)
  opens_macro n m named is idle =
      names_macro (hide (names frames) (macros_of macros)) t.kind n (Some m.tokens.now) named (
      definition_of-hide (names frames) n (macros_of macros)
      ∙ cond_false (is_among (names frames) n) None (definition_of (macros_of macros) n)
      (not_among macros frames n Idle sound.are_open (ap (option_map (λ m. m.stage)) is ∙ ap Some idle) (λ e. cc))
      ∙ definition_found macros n
      ∙ ap (option_map (λ m. m.tokens.now)) is)

-- ---- a macro is opened

module _ (old new : Macros) (frames : List Frame) (f : Frame) (sound : IsSound old frames)
    (idle : found old f.name.now ≡ Some (record { tokens = f.tokens; stage = Idle }))
    (sets : Sets old f.name.now (record { tokens = f.tokens; stage = Open }) new) where
  was-idle : stage_of old f.name.now ≡ Some Idle
  was-idle = ap (option_map (λ m. m.stage)) idle

  only-step : (n : List ℕ) (b : Bool) → bytes_eq f.name.now n ≡ b → stage_of new n ≡ Some Open → is_among (names (f ∷ frames)) n ≡ true
  only-step n true same is = first (bytes_eq n f.name.now) (is_among (names frames) n) (swapped n f.name.now ∙ same)
  only-step n false differs is =
      second (bytes_eq n f.name.now) (is_among (names frames) n)
      (sound.only n (sym (kept_there old new f.name.now (record { tokens = f.tokens; stage = Open }) sets n differs) ∙ is))

  pub entered : macros_of new ≡ macros_of old → Keeps old new (f ∷ frames)
  entered macros =
      let apart = not_among old frames f.name.now Idle sound.are_open was-idle (λ e. cc) in
      record {
        sound = record {
          are_open = (
            sets f.name.now ∙ cond_true (bytes_eq f.name.now f.name.now) (Some (record { tokens = f.tokens; stage = Open }))
                (found old f.name.now) (own_name f.name.now),
            apart,
            kept_open old new f.name.now (record { tokens = f.tokens; stage = Open }) sets frames apart sound.are_open,
          );
          only = λ n is. only-step n (bytes_eq f.name.now n) refl is;
          nothing = kept_nothing old new f.name.now (record { tokens = f.tokens; stage = Open }) sets (λ e. cc)
              (λ e. let k : Some Idle ≡ Some Nothing = sym was-idle ∙ e in cc) macros sound.nothing;
        };
        macros = macros;
      }

-- ---- a macro has been replaced

marked : (macros : Macros) (name : Option (List ℕ)) → is_marked (option_and_then (stage_of macros) name) ≡ true
    → (n : List ℕ) × (name ≡ Some n) × (stage_of macros n ≡ Some Nothing)
marked macros None h = absurd (true≢false (sym h))
marked macros (Some n) h = (n, refl, marked-stage (stage_of macros n) h)
  where
    marked-stage : (o : Option Stage) → is_marked o ≡ true → o ≡ Some Nothing
    marked-stage None h = absurd (true≢false (sym h))
    marked-stage (Some Idle) h = absurd (true≢false (sym h))
    marked-stage (Some Open) h = absurd (true≢false (sym h))
    marked-stage (Some Nothing) h = refl

module _ (old new : Macros) (frames : List Frame) (f : Frame) (sound : IsSound old (f ∷ frames)) where
  was-open : stage_of old f.name.now ≡ Some Open
  was-open = ap (option_map (λ m. m.stage)) sound.are_open.0

  left-step : (stage : Stage) → (stage ≡ Open → ⊥) → Sets old f.name.now (record { tokens = f.tokens; stage = stage }) new
      → (n : List ℕ) (b : Bool) → bytes_eq f.name.now n ≡ b → stage_of new n ≡ Some Open
      → is_among (names frames) n ≡ true
  left-step stage not sets n true same is = absurd (not (let e : Some stage
      ≡ Some Open = sym (set_there old new f.name.now (record { tokens = f.tokens; stage = stage }) sets n same) ∙ is in cc))
  left-step stage not sets n false differs is =
      one (bytes_eq n f.name.now) (is_among (names frames) n)
      (sound.only n (sym (kept_there old new f.name.now (record { tokens = f.tokens; stage = stage }) sets n differs) ∙ is))
      (λ same. absurd (true≢false (sym same ∙ swapped n f.name.now ∙ differs)))

  left-sound : (stage : Stage) → (stage ≡ Open → ⊥) → Sets old f.name.now (record { tokens = f.tokens; stage = stage }) new
      → macros_of new ≡ macros_of old → AreNothing new → Keeps old new frames
  left-sound stage not sets macros nothing = record {
    sound = record {
      are_open = kept_open old new f.name.now (record { tokens = f.tokens; stage = stage }) sets frames sound.are_open.1 sound.are_open.2;
      only = λ n is. left-step stage not sets n (bytes_eq f.name.now n) refl is;
      nothing = nothing;
    };
    macros = macros;
  }

  left-idle : Sets old f.name.now (record { tokens = f.tokens; stage = Idle }) new → macros_of new ≡ macros_of old → Keeps old new frames
  left-idle sets macros =
      left-sound Idle (λ e. cc) sets macros
      (kept_nothing old new f.name.now (record { tokens = f.tokens; stage = Idle }) sets (λ e. cc)
      (λ e. let k : Some Open ≡ Some Nothing = sym was-open ∙ e in cc) macros sound.nothing)

  -- nothing comes of the tokens, with the macro's own name hidden
  tokens-nothing : (hidden : List (List ℕ)) (span : Span) (tokens : List Token) → Avoids old (f.name.now ∷ hidden)
      → list_all (is_nothing old) tokens ≡ true
      → flat_map (expanded (hide (f.name.now ∷ hidden) (macros_of old))) (map (at span) tokens) ≡ []
  tokens-nothing hidden span [] avoids all = refl
  tokens-nothing hidden span (t ∷ tokens) avoids all =
      let parts = both (is_nothing old t) (list_all (is_nothing old) tokens) all in
      let is = marked old (name_of t.kind) parts.0 in
      ap (λ ys. ys ++ flat_map (expanded (hide (f.name.now ∷ hidden) (macros_of old))) (map (at span) tokens))
      (sound.nothing is.0 is.2 (f.name.now ∷ hidden) avoids (at span t) is.1)
      ∙ tokens-nothing hidden span tokens avoids parts.1

  module _ (sets : Sets old f.name.now (record { tokens = f.tokens; stage = Nothing }) new) (macros : macros_of new ≡ macros_of old)
      (all : list_all (is_nothing old) f.tokens.now ≡ true) where
    now-nothing : (n : List ℕ) (b : Bool) → bytes_eq f.name.now n ≡ b → stage_of old n ≡ Some Nothing → stage_of new n ≡ Some Nothing
    now-nothing n true same is = set_there old new f.name.now (record { tokens = f.tokens; stage = Nothing }) sets n same
    now-nothing n false differs is = kept_there old new f.name.now (record { tokens = f.tokens; stage = Nothing }) sets n differs ∙ is

    old-avoids : (hidden : List (List ℕ)) → Avoids new hidden → Avoids old hidden
    old-avoids hidden avoids = λ n is. avoids n (now-nothing n (bytes_eq f.name.now n) refl is)

    not-own : (n : List ℕ) → stage_of old n ≡ Some Nothing → bytes_eq n f.name.now ≡ false
    not-own n is = false-unless (bytes_eq n f.name.now) (λ same. let k : Some Open ≡ Some Nothing = sym was-open
        ∙ ap (stage_of old) (sym (same_name n f.name.now same)) ∙ is in cc)

    own-avoids : (hidden : List (List ℕ)) → Avoids new hidden → Avoids old (f.name.now ∷ hidden)
    own-avoids hidden avoids = λ n is. (λ i. not-own n is i || is_among hidden n) ∙ old-avoids hidden avoids n is

    by-name : (n : List ℕ) (b : Bool) → bytes_eq f.name.now n ≡ b → stage_of new n ≡ Some Nothing → (hidden : List (List ℕ))
        → Avoids new hidden → (t : Token) → name_of t.kind ≡ Some n
        → expanded (hide hidden (macros_of old)) t ≡ []
    by-name n false differs is hidden avoids t named =
        sound.nothing n (sym (kept_there old new f.name.now (record { tokens = f.tokens; stage = Nothing }) sets n differs) ∙ is) hidden
        (old-avoids hidden avoids) t named
    by-name n true same is hidden avoids t named =
        let own : n ≡ f.name.now = sym (same_name f.name.now n same) in
        expanded_name (hide hidden (macros_of old)) t (f.name.now, f.tokens.now) (
        names_macro (hide hidden (macros_of old)) t.kind f.name.now (Some f.tokens.now) (named ∙ ap Some own) (
        definition_of-hide hidden f.name.now (macros_of old)
        ∙ cond_false (is_among hidden f.name.now) None (definition_of (macros_of old) f.name.now)
        (ap (is_among hidden) (sym own) ∙ avoids n is)
        ∙ definition_found old f.name.now
        ∙ ap (option_map (λ m. m.tokens.now)) sound.are_open.0))
        ∙ tokens-nothing hidden t.span f.tokens.now (own-avoids hidden avoids) all

    left-nothing : Keeps old new frames
    left-nothing =
        left-sound Nothing (λ e. cc) sets macros (λ n is hidden avoids t named. ap (λ ms. expanded (hide hidden ms) t) macros
        ∙ by-name n (bytes_eq f.name.now n) refl is hidden avoids t named)

  left-by : (all : Bool) → list_all (is_nothing old) f.tokens.now ≡ all
      → Sets old f.name.now (record { tokens = f.tokens; stage = if all then Nothing else Idle }) new → macros_of new ≡ macros_of old
      → Keeps old new frames
  left-by true is sets macros = left-nothing sets macros is
  left-by false is sets macros = left-idle sets macros

  pub left : Sets old f.name.now (record { tokens = f.tokens; stage = stage_behind old f.tokens.now }) new
      → macros_of new ≡ macros_of old → Keeps old new frames
  left sets macros = left-by (list_all (is_nothing old) f.tokens.now) refl sets macros

-- ---- one macro more

module _ (old new : Macros) (n : List ℕ) (m : Macro) (sets : Sets old n m new) (idle : m.stage ≡ Idle) (unknown : found old n ≡ None)
    (macros : macros_of new ≡ macros_of old ++ (n, m.tokens.now) ∷ []) where
  not-nothing : m.stage ≡ Nothing → ⊥
  not-nothing h = let e : Idle ≡ Nothing = sym idle ∙ h in cc

  not-known : stage_of old n ≡ Some Nothing → ⊥
  not-known h = let e = sym (ap (option_map (λ (m : Macro). m.stage)) unknown) ∙ h in cc

  pub still_nothing : AreNothing old → AreNothing new
  still_nothing are = λ other is hidden avoids t named.
      let before = was-nothing old new n m sets other (bytes_eq n other) refl not-nothing is in
      let avoided : Avoids old hidden = λ h nothing. avoids h (still-nothing old new n m sets h (bytes_eq n h) refl not-known nothing) in
      ap (λ ms. expanded (hide hidden ms) t) macros
      ∙ nothing_extended (hide hidden (macros_of old)) (hide hidden (macros_of old ++ (n, m.tokens.now) ∷ [])) t
      (extends_hide hidden (macros_of old) (macros_of old ++ (n, m.tokens.now) ∷ []) (extends_push (macros_of old) (n, m.tokens.now)))
      (are other before hidden avoided t named)

  none-open : AreOpen old [] → (other : List ℕ) (b : Bool) → bytes_eq n other ≡ b
      → ((other : List ℕ) → stage_of old other ≡ Some Open → is_among [] other ≡ true) → stage_of new other ≡ Some Open
      → is_among [] other ≡ true
  none-open are other true same only is = absurd (let e : Some Idle ≡ Some Open = sym (ap Some idle)
      ∙ sym (set_there old new n m sets other same) ∙ is in cc)
  none-open are other false differs only is = only other (sym (kept_there old new n m sets other differs) ∙ is)

  pub defined : IsSound old [] → IsSound new []
  defined sound = record {
    are_open = tt;
    only = λ other is. none-open sound.are_open other (bytes_eq n other) refl sound.only is;
    nothing = still_nothing sound.nothing;
  }
