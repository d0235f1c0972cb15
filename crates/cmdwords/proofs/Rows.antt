-- What a use of an argument does to the rows that `clap` holds.
use Rattle.std.proofs.Common.{◌≡◌, ◌∙◌, Bool, true, false, ◌||◌, List, [], ◌∷◌, ◌++◌, Option, Some, None, is_some, cond, refl, ap}
use Rattle.std.specs.Prelude.{find, option_map, option_and_then, slice_get}
use Rattle.std.specs.Str.{bytes_eq}
use Rattle.std.proofs.lemmas.Slice.Eq.{bytes_eq-Decides}
use Rattle.clap.specs.Walk.{Row, Rule, all_of, first_of, has_row, used, with_values, without}
use Rattle.clap.specs.Simple.{filled, with_index}
use Rattle.clap.specs.declared.builder.value_parser.Reading.{Reading}
use Rattle.clap.specs.declared.parser.matches.ValueSource.{ValueSource}
use Rattle.cmdwords.specs.Form.{Text}
pub use Rattle.cmdwords.specs.Splitting.{listed}
use Rattle.cmdwords.specs.Splitting.{option_rule, places_rule}

-- the arguments as `clap` fills them in
abbrev pub placed : Rule
placed = with_index 1 (filled places_rule)

abbrev pub option_built : Text → Rule
option_built name = filled (option_rule name)

pub same_text : (id : Text) → bytes_eq id id ≡ true
same_text id = (bytes_eq-Decides id id).1 refl

pub has_row_is : (id : Text) (rows : List Row) → has_row id rows ≡ is_some (all_of id rows)
has_row_is id [] = refl
has_row_is id (r ∷ rs) = go (bytes_eq r.id id) (has_row_is id rs)
  where
    go : (b : Bool) → has_row id rs ≡ is_some (all_of id rs)
        → (b || has_row id rs) ≡ is_some (option_map (λ (x : Row). x.values) (cond b (Some r) (find (λ x. bytes_eq x.id id) rs)))
    go true later = refl
    go false later = later

pub first_of_is : (id : Text) (rows : List Row) → first_of id rows ≡ option_and_then (λ vs. slice_get vs 0) (all_of id rows)
first_of_is id rows = go (find (λ r. bytes_eq r.id id) rows)
  where
    go : (o : Option Row) → option_and_then (λ (r : Row). slice_get r.values 0) o ≡ option_and_then (λ vs. slice_get vs 0)
        (option_map (λ (r : Row). r.values) o)
    go None = refl
    go (Some r) = refl

module _ (id : Text) (how : Reading) (s : ValueSource) (values : List Text) where
  pub joined_found : (rows : List Row) → all_of id (with_values id how s values rows) ≡ Some (listed (all_of id rows) ++ values)
  joined_found [] = rw (same_text id) refl
  joined_found (r ∷ rs) = go (bytes_eq r.id id) refl (joined_found rs)
    where
      go : (b : Bool) → bytes_eq r.id id ≡ b → all_of id (with_values id how s values rs) ≡ Some (listed (all_of id rs) ++ values)
          → all_of id (with_values id how s values (r ∷ rs)) ≡ Some (listed (all_of id (r ∷ rs)) ++ values)
      go true e later = rw e (rw e refl)
      go false e later = rw e (rw e later)

  pub joined_other : (other : Text) → bytes_eq id other ≡ false → (rows : List Row) → all_of other (with_values id how s values rows)
      ≡ all_of other rows
  joined_other other ne [] = rw ne refl
  joined_other other ne (r ∷ rs) = go (bytes_eq r.id id) refl (joined_other other ne rs)
    where
      kept : (b : Bool) → all_of other (with_values id how s values rs) ≡ all_of other rs
          → option_map (λ (x : Row). x.values) (cond b (Some r) (find (λ x. bytes_eq x.id other) (with_values id how s values rs)))
          ≡ option_map (λ (x : Row). x.values) (cond b (Some r) (find (λ x. bytes_eq x.id other) rs))
      kept true later = refl
      kept false later = later

      go : (b : Bool) → bytes_eq r.id id ≡ b → all_of other (with_values id how s values rs) ≡ all_of other rs
          → all_of other (with_values id how s values (r ∷ rs)) ≡ all_of other (r ∷ rs)
      go true e later =
          let differs : bytes_eq r.id other ≡ false = ap (λ i. bytes_eq i other) ((bytes_eq-Decides r.id id).0 e) ∙ ne in
          rw e (rw differs refl)
      go false e later = rw e (kept (bytes_eq r.id other) later)

without_absent : (id : Text) (rows : List Row) → all_of id rows ≡ None → without id rows ≡ rows
without_absent id [] none = refl
without_absent id (r ∷ rs) none = go (bytes_eq r.id id) refl (without_absent id rs)
  where
    go : (b : Bool) → bytes_eq r.id id ≡ b → (all_of id rs ≡ None → without id rs ≡ rs) → without id (r ∷ rs) ≡ r ∷ rs
    go true e later =
        let bad : Some r.values ≡ None = rw e at none in
        cc
    go false e later =
        let rest : all_of id rs ≡ None = rw e at none in
        rw e (ap (λ l. r ∷ l) (later rest))

-- ---- a use of an option that has no row yet

pub option_found : (name value : Text) (rows : List Row) → all_of name rows ≡ None
    → all_of name (used (option_built name) (value ∷ []) rows) ≡ Some (value ∷ [])
option_found name value rows none =
    joined_found name _ _ (value ∷ []) (without name rows)
    ∙ ap (λ l. Some (listed (all_of name l) ++ value ∷ [])) (without_absent name rows none)
    ∙ ap (λ o. Some (listed o ++ value ∷ [])) none

pub option_other : (name value other : Text) (rows : List Row) → all_of name rows ≡ None → bytes_eq name other ≡ false
    → all_of other (used (option_built name) (value ∷ []) rows) ≡ all_of other rows
option_other name value other rows none ne =
    joined_other name _ _ (value ∷ []) other ne (without name rows) ∙ ap (all_of other) (without_absent name rows none)

-- ---- a use of the places

pub place_found : (word : Text) (rows : List Row) → all_of (61 ∷ []) (used placed (word ∷ []) rows)
    ≡ Some (listed (all_of (61 ∷ []) rows) ++ word ∷ [])
place_found word rows = joined_found (61 ∷ []) _ _ (word ∷ []) rows

pub place_other : (word other : Text) (rows : List Row) → bytes_eq (61 ∷ []) other ≡ false → all_of other (used placed (word ∷ []) rows)
    ≡ all_of other rows
place_other word other rows ne = joined_other (61 ∷ []) _ _ (word ∷ []) other ne rows
