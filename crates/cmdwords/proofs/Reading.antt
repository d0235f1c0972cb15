-- From what `clap` finds to what the words ask for.
use Rattle.std.proofs.Common.{◌≡◌, ◌∙◌, ◌<◌, Bool, true, false, ◌&&◌, List, [], ◌∷◌, map, Option, Some, None, refl, sym, ap, ap₂, arith}
use Rattle.std.proofs.Common.{true≢false, ltb-true}
use Rattle.std.specs.Prelude.{option_and_then, option_map, slice_get}
use Rattle.std.specs.List.{list_all}
use Rattle.std.proofs.lemmas.Fmt.{decimal_injective}
use Rattle.clap.specs.Walk.{Row, all_of, first_of}
use Rattle.clap.specs.Simple.{App, matches_of}
use Rattle.clap.specs.Faults.{fault_of}
use Rattle.cmdwords.specs.Form.{Form, HasNames, HasRanges, Text, is_name, is_range}
use Rattle.cmdwords.specs.Piece.{Piece, value_of, written}
use Rattle.cmdwords.specs.Asks.{Asked, Asks, Fill, MayStand, Said, file, number, word_of}
use Rattle.cmdwords.specs.Splitting.{app_with}
use Rattle.cmdwords.specs.declared.place.Place.{Place}
use Rattle.cmdwords.specs.declared.place.Place.TheVariants as at_place
use Rattle.cmdwords.proofs.Looks.{name_differs}
use Rattle.cmdwords.proofs.Rows.{first_of_is, listed}
use Rattle.cmdwords.proofs.Splits.{Reads}
use Rattle.cmdwords.proofs.Complete.{all_pass}
use Rattle.cmdwords.proofs.Sound.{AreUtf8, all_found}
use Rattle.cmdwords.proofs.Built.{fault_is, matches_are}

two : (a b : Bool) → (a && b) ≡ true → (a ≡ true) × (b ≡ true)
two true b e = (refl, e)
two false b e = absurd (true≢false (sym e))

abbrev pub app : Form → App
app form = app_with form.mode form.options

-- the value of an option is the one that has its row
one_value : (name : Text) (rows : List Row) (o : Option Text) → all_of name rows ≡ option_map (λ v. v ∷ []) o → first_of name rows ≡ o
one_value name rows o e = first_of_is name rows ∙ ap (option_and_then (λ vs. slice_get vs 0)) e ∙ go o
  where
    go : (x : Option Text) → option_and_then (λ vs. slice_get vs 0) (option_map (λ (v : Text). v ∷ []) x) ≡ x
    go None = refl
    go (Some v) = refl

option_values : (names : List Text) (rows : List Row) (pieces : List Piece) (behind : Option (List Text)) → list_all is_name names ≡ true
    → Reads [] rows pieces behind
    → map (λ name. first_of name rows) names ≡ map (λ name. value_of name pieces) names
option_values [] rows pieces behind all r = refl
option_values (name ∷ names) rows pieces behind all r =
    let parts = two (is_name name) (list_all is_name names) all in
    ap₂ (λ (v : Option Text) (l : List (Option Text)). v ∷ l)
    (one_value name rows (value_of name pieces) (r.options name (name_differs name parts.0)))
    (option_values names rows pieces behind parts.1 r)

-- what words ask for is what `clap` finds
pub record Agrees (form : Form) (words : List Text) (a : Asked) : Type 0 where
  pub passes : fault_of (app form) words ≡ []
  pub places : listed (all_of (61 ∷ []) (matches_of (app form) words)) ≡ map word_of a.values
  pub options : a.options ≡ map (λ name. first_of name (matches_of (app form) words)) form.options

pub read_back : (form : Form) (words : List Text) (a : Asked) → HasNames form → Asks form words a → Agrees form words a
read_back form words a named asks =
    let rest : List Text = written asks.pieces asks.behind in
    let pass = all_pass form.mode form.options named asks.pieces asks.behind [] None false asks.stand (record { absent = λ name e. refl })
    refl in
    let rows = ap (matches_of (app form)) asks.text ∙ matches_are form.mode form.mode form.options rest in
    record {
      passes = ap (fault_of (app form)) asks.text ∙ fault_is form.mode form.mode form.options rest ∙ pass.0;
      places = ap (λ r. listed (all_of (61 ∷ []) r)) rows ∙ pass.1.places ∙ asks.places;
      options = asks.options ∙ sym (ap (λ r. map (λ name. first_of name r) form.options) rows ∙ option_values form.options _ asks.pieces
          asks.behind named pass.1);
    }

pub read_on : (form : Form) (words rest : List Text) (values : List Said) → HasNames form → words ≡ form.mode ∷ rest → AreUtf8 rest
    → fault_of (app form) words ≡ []
    → Fill form.places values → map word_of values ≡ listed (all_of (61 ∷ []) (matches_of (app form) words))
    → Asks form words (record { values = values; options = map (λ name. first_of name (matches_of (app form) words)) form.options })
read_on form words rest values named text utf8 none fill says =
    let found = all_found form.mode form.options named rest utf8
    (sym (fault_is form.mode form.mode form.options rest) ∙ (sym (ap (fault_of (app form)) text) ∙ none)) in
    let rows = ap (matches_of (app form)) text ∙ matches_are form.mode form.mode form.options rest in
    record {
      pieces = found.pieces;
      behind = found.behind;
      text = text ∙ ap (λ l. form.mode ∷ l) found.text;
      stand = found.stand;
      places = sym (says ∙ ap (λ r. listed (all_of (61 ∷ []) r)) rows ∙ found.reads.places);
      fill = fill;
      options = ap (λ r. map (λ name. first_of name r) form.options) rows ∙ option_values form.options _ found.pieces found.behind named
          found.reads;
    }

-- ---- one reading

one_said : (place : Place) (s t : Said) → is_range place ≡ true → MayStand place s → MayStand place t → word_of s ≡ word_of t → s ≡ t
one_said at_place.File (file x) (file y) fits p q e = ap file e
one_said at_place.File (file x) (number n) fits p q e = absurd q
one_said at_place.File (number m) t fits p q e = absurd p
one_said (at_place.Number least most) (number m) (number n) fits p q e =
    let most_lt : most < 4294967296 = ltb-true most 4294967296 fits in
    ap number (decimal_injective m n (omega (arith, p.1, most_lt)) (omega (arith, q.1, most_lt)) e)
one_said (at_place.Number least most) (number m) (file y) fits p q e = absurd q
one_said (at_place.Number least most) (file x) t fits p q e = absurd p

same_values : (places : List Place) (vs us : List Said) → list_all is_range places ≡ true → Fill places vs → Fill places us → map word_of vs
    ≡ map word_of us → vs ≡ us
same_values [] [] [] fits p q e = refl
same_values [] [] (u ∷ us) fits p q e = absurd q
same_values [] (v ∷ vs) us fits p q e = absurd p
same_values (place ∷ places) [] us fits p q e = absurd p
same_values (place ∷ places) (v ∷ vs) [] fits p q e = absurd q
same_values (place ∷ places) (v ∷ vs) (u ∷ us) fits p q e =
    let parts = two (is_range place) (list_all is_range places) fits in
    let first : word_of v ≡ word_of u = cc in
    let rest : map word_of vs ≡ map word_of us = cc in
    ap₂ (λ (s : Said) (l : List Said). s ∷ l) (one_said place v u parts.0 p.0 q.0 first) (same_values places vs us parts.1 p.1 q.1 rest)

abbrev made : List Said → List (Option Text) → Asked
made values options = record { values = values; options = options }

pub one_meaning : (form : Form) (words : List Text) (a b : Asked) → HasNames form → HasRanges form → Asks form words a → Asks form words b
    → a ≡ b
one_meaning form words a b named ranged p q =
    let first = read_back form words a named p in
    let second = read_back form words b named q in
    ap₂ (λ (values : List Said) (options : List (Option Text)). made values options)
    (same_values form.places a.values b.values ranged p.fill q.fill (sym first.places ∙ second.places)) (first.options ∙ sym second.options)
