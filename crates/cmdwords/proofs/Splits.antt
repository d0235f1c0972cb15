-- What `clap` makes of words, by their pieces.
use Rattle.std.proofs.Common.{◌≡◌, ◌∙◌, Bool, true, false, List, [], ◌∷◌, ◌++◌, Option, Some, None, is_some, cond, refl, sym, ap}
use Rattle.std.proofs.Common.{true≢false, append-nil, append_assoc}
use Rattle.std.specs.Prelude.{option_map}
use Rattle.std.specs.List.{list_all}
use Rattle.std.specs.Str.{bytes_eq}
use Rattle.std.proofs.lemmas.Slice.Eq.{bytes_eq-Decides}
use Rattle.clap.specs.Walk.{Row, all_of, used}
use Rattle.clap.specs.Kinds.{Kinds, or_else}
use Rattle.cmdwords.specs.Form.{Text, is_name}
use Rattle.cmdwords.specs.Piece.{ArePieces, Piece, Way, place, option, place_words, value_of}
use Rattle.cmdwords.proofs.Looks.{is_taken, name_differs, taken_is_name}
use Rattle.cmdwords.proofs.Rows.{listed, option_built, option_found, option_other, place_found, place_other, placed, same_text}

pub or_else_none : (a : Kinds) → or_else a [] ≡ a
or_else_none [] = refl
or_else_none (k ∷ ks) = refl

abbrev pub kept : Option (List Text) → Option Text → Option (List Text)
kept (Some values) o = Some values
kept None o = option_map (λ v. v ∷ []) o

pub kept_none : (o : Option (List Text)) → kept o None ≡ o
kept_none None = refl
kept_none (Some values) = refl

-- the rows at the end have what those at the start have, and what the pieces say
pub record Reads (start end : List Row) (pieces : List Piece) (behind : Option (List Text)) : Type 0 where
  pub places : listed (all_of (61 ∷ []) end) ≡ listed (all_of (61 ∷ []) start) ++ place_words pieces behind
  pub options : (name : Text) → bytes_eq (61 ∷ []) name ≡ false → all_of name end ≡ kept (all_of name start) (value_of name pieces)

-- no option of the pieces has a row yet
pub record Fresh (rows : List Row) (pieces : List Piece) : Type 0 where
  pub absent : (name : Text) → is_some (value_of name pieces) ≡ true → all_of name rows ≡ None

-- ---- one place word, one option

pub place_first : (word : Text) (start end : List Row) (words : List Text) → listed (all_of (61 ∷ []) end)
    ≡ listed (all_of (61 ∷ []) (used placed (word ∷ []) start)) ++ words
    → listed (all_of (61 ∷ []) end) ≡ listed (all_of (61 ∷ []) start) ++ (word ∷ words)
place_first word start end words e =
    e ∙ ap (λ o. listed o ++ words) (place_found word start) ∙ append_assoc (listed (all_of (61 ∷ []) start)) (word ∷ []) words

pub place_reads : (word : Text) (start end : List Row) (pieces : List Piece) (behind : Option (List Text))
    → Reads (used placed (word ∷ []) start) end pieces behind
    → Reads start end (place word ∷ pieces) behind
place_reads word start end pieces behind r = record {
  places = place_first word start end (place_words pieces behind) r.places;
  options = λ name ne. r.options name ne ∙ ap (λ o. kept o (value_of name pieces)) (place_other word name start ne);
}

pub behind_reads : (word : Text) (start end : List Row) (words : List Text) → Reads (used placed (word ∷ []) start) end [] (Some words)
    → Reads start end [] (Some (word ∷ words))
behind_reads word start end words r = record {
  places = place_first word start end words r.places;
  options = λ name ne. r.options name ne ∙ ap (λ o. kept o None) (place_other word name start ne);
}

pub no_reads : (rows : List Row) → Reads rows rows [] None
no_reads rows = record {
  places = sym (append-nil (listed (all_of (61 ∷ []) rows)));
  options = λ name ne. sym (kept_none (all_of name rows));
}

pub no_words_behind : (rows : List Row) → Reads rows rows [] (Some [])
no_words_behind rows = record {
  places = sym (append-nil (listed (all_of (61 ∷ []) rows)));
  options = λ name ne. sym (kept_none (all_of name rows));
}

-- `=` is no name, also the other way round
pub differs_too : (name : Text) → is_name name ≡ true → bytes_eq name (61 ∷ []) ≡ false
differs_too name e = go (bytes_eq name (61 ∷ [])) refl
  where
    go : (b : Bool) → bytes_eq name (61 ∷ []) ≡ b → bytes_eq name (61 ∷ []) ≡ false
    go false is = is
    go true is =
        let bad : false ≡ true = ap is_name (sym ((bytes_eq-Decides name (61 ∷ [])).0 is)) ∙ e in
        absurd (true≢false (sym bad))

pub option_reads : (way : Way) (name value : Text) (start end : List Row) (pieces : List Piece) (behind : Option (List Text)) → is_name name
    ≡ true
    → all_of name start ≡ None → Reads (used (option_built name) (value ∷ []) start) end pieces behind
    → Reads start end (option way name value ∷ pieces) behind
option_reads way name value start end pieces behind is none r = record {
  places = r.places ∙ ap (λ o. listed o ++ place_words pieces behind) (option_other name value (61 ∷ []) start none (differs_too name is));
  options = λ other ne. go other (bytes_eq name other) refl (r.options other ne);
}
  where
    go : (other : Text) (b : Bool) → bytes_eq name other ≡ b → all_of other end
        ≡ kept (all_of other (used (option_built name) (value ∷ []) start)) (value_of other pieces)
        → all_of other end ≡ kept (all_of other start) (cond (bytes_eq name other) (Some value) (value_of other pieces))
    go other true e h =
        let same : name ≡ other = (bytes_eq-Decides name other).0 e in
        let found : all_of other (used (option_built name) (value ∷ []) start) ≡ Some (value ∷ []) =
        ap (λ n. all_of n (used (option_built name) (value ∷ []) start)) (sym same) ∙ option_found name value start none in
        let none_too : all_of other start ≡ None = ap (λ n. all_of n start) (sym same) ∙ none in
        h ∙ ap (λ o. kept o (value_of other pieces)) found ∙ sym
        (ap (λ o. kept o (cond (bytes_eq name other) (Some value) (value_of other pieces))) none_too
        ∙ ap (λ b. option_map (λ (v : Text). v ∷ []) (cond b (Some value) (value_of other pieces))) e)
    go other false e h =
        h ∙ ap (λ o. kept o (value_of other pieces)) (option_other name value other start none e)
        ∙ sym (ap (λ b. kept (all_of other start) (cond b (Some value) (value_of other pieces))) e)

-- ---- what is fresh

-- what a piece list gives a value to is one of the names
pub value_taken : (names : List Text) (pieces : List Piece) (name : Text) → ArePieces names pieces → is_some (value_of name pieces) ≡ true
    → is_taken names name ≡ true
value_taken names [] name stand e = absurd (true≢false (sym e))
value_taken names (place word ∷ pieces) name stand e = value_taken names pieces name stand.2 e
value_taken names (option way other value ∷ pieces) name stand e = go (bytes_eq other name) refl (value_taken names pieces name stand.2)
  where
    go : (b : Bool) → bytes_eq other name ≡ b → (is_some (value_of name pieces) ≡ true → is_taken names name ≡ true) → is_taken names name
        ≡ true
    go true is later = ap (is_taken names) (sym ((bytes_eq-Decides other name).0 is)) ∙ stand.0.0
    go false is later =
        let rest : is_some (value_of name pieces) ≡ true = rw is at e in
        later rest

pub fresh_place : (names : List Text) (word : Text) (rows : List Row) (pieces : List Piece) → list_all is_name names ≡ true
    → ArePieces names pieces
    → Fresh rows (place word ∷ pieces) → Fresh (used placed (word ∷ []) rows) pieces
fresh_place names word rows pieces all stand f = record {
  absent = λ name e. place_other word name rows (name_differs name (taken_is_name names name all (value_taken names pieces name stand e))) ∙
      f.absent name e;
}

pub place_fresh : (names : List Text) (word : Text) (rows : List Row) (pieces : List Piece) → list_all is_name names ≡ true
    → ArePieces names pieces
    → Fresh (used placed (word ∷ []) rows) pieces → Fresh rows (place word ∷ pieces)
place_fresh names word rows pieces all stand f = record {
  absent = λ name e. sym
      (place_other word name rows (name_differs name (taken_is_name names name all (value_taken names pieces name stand e)))) ∙ f.absent
      name e;
}

pub own_absent : (way : Way) (name value : Text) (rows : List Row) (pieces : List Piece) → Fresh rows (option way name value ∷ pieces)
    → all_of name rows ≡ None
own_absent way name value rows pieces f = f.absent name (ap (λ b. is_some (cond b (Some value) (value_of name pieces))) (same_text name))

pub fresh_option : (way : Way) (name value : Text) (rows : List Row) (pieces : List Piece) → value_of name pieces ≡ None
    → Fresh rows (option way name value ∷ pieces)
    → Fresh (used (option_built name) (value ∷ []) rows) pieces
fresh_option way name value rows pieces new f = record { absent = λ other e. go other e (bytes_eq name other) refl }
  where
    go : (other : Text) → is_some (value_of other pieces) ≡ true → (b : Bool) → bytes_eq name other ≡ b
        → all_of other (used (option_built name) (value ∷ []) rows) ≡ None
    go other e true is =
        let bad : false ≡ true = sym (ap is_some (ap (λ n. value_of n pieces) (sym ((bytes_eq-Decides name other).0 is)) ∙ new)) ∙ e in
        absurd (true≢false (sym bad))
    go other e false is =
        option_other name value other rows (own_absent way name value rows pieces f) is
        ∙ f.absent other (ap (λ b. is_some (cond b (Some value) (value_of other pieces))) is ∙ e)

-- the other way round: each option of the rest is another one
pub option_new : (name value : Text) (rows : List Row) (pieces : List Piece) → all_of name rows ≡ None
    → Fresh (used (option_built name) (value ∷ []) rows) pieces
    → value_of name pieces ≡ None
option_new name value rows pieces none f = go (value_of name pieces) refl
  where
    go : (o : Option Text) → value_of name pieces ≡ o → value_of name pieces ≡ None
    go None e = e
    go (Some v) e =
        let bad : Some (value ∷ []) ≡ None = sym (option_found name value rows none) ∙ f.absent name (ap is_some e) in
        cc

pub option_fresh : (way : Way) (name value : Text) (rows : List Row) (pieces : List Piece) → all_of name rows ≡ None
    → Fresh (used (option_built name) (value ∷ []) rows) pieces
    → Fresh rows (option way name value ∷ pieces)
option_fresh way name value rows pieces none f = record { absent = λ other e. go other e (bytes_eq name other) refl }
  where
    go : (other : Text) → is_some (cond (bytes_eq name other) (Some value) (value_of other pieces)) ≡ true → (b : Bool)
        → bytes_eq name other ≡ b → all_of other rows ≡ None
    go other e true is = ap (λ n. all_of n rows) (sym ((bytes_eq-Decides name other).0 is)) ∙ none
    go other e false is =
        let rest : is_some (value_of other pieces) ≡ true = rw is at e in
        sym (option_other name value other rows none is) ∙ f.absent other rest
