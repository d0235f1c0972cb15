-- `clap` takes what is written by pieces that may stand, and finds in it what they say.
use Rattle.std.proofs.Common.{◌≡◌, ◌∙◌, ℕ, Bool, true, false, List, [], ◌∷◌, ◌++◌, Option, Some, None, refl, sym, ap, subst, true≢false}
use Rattle.std.specs.List.{list_all}
use Rattle.clap.specs.Walk.{Row, Waiting, Walk, idle, positional, used}
use Rattle.clap.specs.Kinds.{Kinds, or_else}
use Rattle.clap.specs.Faults.{use_fault}
use Rattle.clap.proofs.LexerLemmas.{name_and_value-at, name_and_value-without}
use Rattle.cmdwords.specs.Form.{Text, is_name}
use Rattle.cmdwords.specs.Piece.{ArePieces, Piece, apart, joined, place, option, written}
use Rattle.cmdwords.proofs.Looks.{name_differs, name_lacks, taken_is_name}
use Rattle.cmdwords.proofs.Rows.{option_built}
use Rattle.cmdwords.proofs.Steps.{after, at, behind_place, faults_in, hold, open_apart, open_end, open_joined, open_place, open_value}
use Rattle.cmdwords.proofs.Steps.{option_faults, option_rows, outcome, outcome_none, rows_in, use_passes, waits}
use Rattle.cmdwords.proofs.Splits.{Fresh, Reads, behind_reads, fresh_option, fresh_place, no_reads, no_words_behind, option_reads}
use Rattle.cmdwords.proofs.Splits.{or_else_none, own_absent, place_reads}

module _ (mode : Text) (names : List Text) where
  -- ---- behind `--`

  pub behind_all : (words : List Text) (rows : List Row) (pending : Option (Text × List Text)) (waiting : Waiting)
      → ((outcome mode names (at (hold rows pending) waiting true) words).0 ≡ faults_in mode names pending rows)
      × Reads (rows_in mode names pending rows) (outcome mode names (at (hold rows pending) waiting true) words).1 [] (Some words)
  behind_all [] rows pending waiting =
      let is = outcome_none mode names (at (hold rows pending) waiting true) in (
        ap (λ (o : Kinds × List Row). o.0) is,
        subst (λ (o : Kinds × List Row). Reads (rows_in mode names pending rows) o.1 [] (Some [])) (sym is)
            (no_words_behind (rows_in mode names pending rows)),
      )
  behind_all (word ∷ words) rows pending waiting =
      let is = behind_place mode names rows pending waiting word words in
      let later = behind_all words (rows_in mode names pending rows) (Some (61 ∷ [], word ∷ [])) positional in (
        ap (λ (o : Kinds × List Row). o.0) is ∙ ap (or_else (faults_in mode names pending rows)) later.0 ∙ or_else_none
            (faults_in mode names pending rows),
        subst (λ (o : Kinds × List Row). Reads (rows_in mode names pending rows) o.1 [] (Some (word ∷ words))) (sym is)
            (behind_reads word (rows_in mode names pending rows) _ words later.1),
      )

  -- ---- before it

  abbrev pub Passes : Walk → List Row → List Piece → Option (List Text) → Type 0
  Passes w rows pieces behind = ((outcome mode names w (written pieces behind)).0 ≡ [])
      × Reads rows (outcome mode names w (written pieces behind)).1 pieces behind

  abbrev OpenPasses : List Piece → Option (List Text) → Type 0
  OpenPasses pieces behind = (rows : List Row) (pending : Option (Text × List Text)) (several : Bool) → ArePieces names pieces
      → Fresh (rows_in mode names pending rows) pieces → faults_in mode names pending rows ≡ []
      → Passes (at (hold rows pending) (waits mode names several) false) (rows_in mode names pending rows) pieces behind

  end_passes : (behind : Option (List Text)) → OpenPasses [] behind
  end_passes None rows pending several stand fresh none =
      let is = outcome_none mode names (at (hold rows pending) (waits mode names several) false) in (
        ap (λ (o : Kinds × List Row). o.0) is ∙ none,
        subst (λ (o : Kinds × List Row). Reads (rows_in mode names pending rows) o.1 [] None) (sym is)
            (no_reads (rows_in mode names pending rows)),
      )
  end_passes (Some words) rows pending several stand fresh none =
      let is = open_end mode names (hold rows pending) (waits mode names several) words in
      let all = behind_all words rows pending (waits mode names several) in (
        ap (λ (o : Kinds × List Row). o.0) is ∙ all.0 ∙ none,
        subst (λ (o : Kinds × List Row). Reads (rows_in mode names pending rows) o.1 [] (Some words)) (sym is) all.1,
      )

  place_passes : list_all is_name names ≡ true → (word : Text) (pieces : List Piece) (behind : Option (List Text))
      → OpenPasses pieces behind → OpenPasses (place word ∷ pieces) behind
  place_passes all word pieces behind later rows pending several stand fresh none =
      let is = open_place mode names rows pending several word (written pieces behind) stand.0 in
      let here : List Row = rows_in mode names pending rows in
      let then : Kinds × List Row =
      outcome mode names (at (hold here (Some (61 ∷ [], word ∷ []))) positional false) (written pieces behind) in
      let rest = later here (Some (61 ∷ [], word ∷ [])) true stand.2 (fresh_place names word here pieces all stand.2 fresh) refl in (
        ap (λ (o : Kinds × List Row). o.0) is ∙ ap (λ k. or_else k then.0) none ∙ rest.0,
        subst (λ (o : Kinds × List Row). Reads here o.1 (place word ∷ pieces) behind) (sym is)
            (place_reads word here then.1 pieces behind rest.1),
      )

  joined_passes : (c : ℕ) (more value : Text) (pieces : List Piece) (behind : Option (List Text)) → is_name (c ∷ more) ≡ true
      → OpenPasses pieces behind
      → OpenPasses (option joined (c ∷ more) value ∷ pieces) behind
  joined_passes c more value pieces behind named later rows pending several stand fresh none =
      let name : Text = c ∷ more in
      let here : List Row = rows_in mode names pending rows in
      let absent = own_absent joined name value here pieces fresh in
      let is = open_joined mode names rows pending (waits mode names several) c (more ++ 61 ∷ value) name value (written pieces behind)
      (name_and_value-at name value (name_lacks name named)) stand.0.0 in
      let passes : or_else (faults_in mode names pending rows) (use_fault false (option_built name) (value ∷ []) here) ≡ [] =
      ap (λ k. or_else k (use_fault false (option_built name) (value ∷ []) here)) none ∙ use_passes name value here absent stand.0.1 in
      let rest = later (used (option_built name) (value ∷ []) here) None false stand.2
      (fresh_option joined name value here pieces stand.1 fresh) refl in
      let then : Kinds × List Row =
      outcome mode names (at (hold (used (option_built name) (value ∷ []) here) None) idle false) (written pieces behind) in (
        ap (λ (o : Kinds × List Row). o.0) is ∙ ap (λ k. or_else k then.0) passes ∙ rest.0,
        subst (λ (o : Kinds × List Row). Reads here o.1 (option joined name value ∷ pieces) behind) (sym is)
            (option_reads joined name value here then.1 pieces behind named absent rest.1),
      )

  apart_passes : (c : ℕ) (more value : Text) (pieces : List Piece) (behind : Option (List Text)) → is_name (c ∷ more) ≡ true
      → OpenPasses pieces behind
      → OpenPasses (option apart (c ∷ more) value ∷ pieces) behind
  apart_passes c more value pieces behind named later rows pending several stand fresh none =
      let name : Text = c ∷ more in
      let here : List Row = rows_in mode names pending rows in
      let absent = own_absent apart name value here pieces fresh in
      let differs = name_differs name named in
      let taken = stand.0.0 in
      let first = open_apart mode names rows pending (waits mode names several) c more name (value ∷ written pieces behind)
      (name_and_value-without name (name_lacks name named)) taken in
      let second = open_value mode names here name value (written pieces behind) stand.0.1.1 taken differs in
      let is = first ∙ ap (after (faults_in mode names pending rows)) second in
      let as_used = option_rows mode names here name (value ∷ []) taken differs in
      let rest = later here (Some (name, value ∷ [])) false stand.2
      (subst (λ l. Fresh l pieces) (sym as_used) (fresh_option apart name value here pieces stand.1 fresh))
      (option_faults mode names here name (value ∷ []) taken differs ∙ use_passes name value here absent stand.0.1.0) in
      let then : Kinds × List Row = outcome mode names (at (hold here (Some (name, value ∷ []))) idle false) (written pieces behind) in (
        ap (λ (o : Kinds × List Row). o.0) is ∙ ap (λ k. or_else k then.0) none ∙ rest.0,
        subst (λ (o : Kinds × List Row). Reads here o.1 (option apart name value ∷ pieces) behind) (sym is)
            (option_reads apart name value here then.1 pieces behind named absent
            (subst (λ l. Reads l then.1 pieces behind) as_used rest.1)),
      )

  pub all_pass : list_all is_name names ≡ true → (pieces : List Piece) (behind : Option (List Text)) → OpenPasses pieces behind
  all_pass all [] behind rows pending several stand fresh none = end_passes behind rows pending several stand fresh none
  all_pass all (place word ∷ pieces) behind rows pending several stand fresh none =
      place_passes all word pieces behind (all_pass all pieces behind) rows pending several stand fresh none
  all_pass all (option way [] value ∷ pieces) behind rows pending several stand fresh none =
      absurd (true≢false (sym (taken_is_name names [] all stand.0.0)))
  all_pass all (option joined (c ∷ more) value ∷ pieces) behind rows pending several stand fresh none =
      joined_passes c more value pieces behind (taken_is_name names (c ∷ more) all stand.0.0) (all_pass all pieces behind) rows pending
      several stand fresh none
  all_pass all (option apart (c ∷ more) value ∷ pieces) behind rows pending several stand fresh none =
      apart_passes c more value pieces behind (taken_is_name names (c ∷ more) all stand.0.0) (all_pass all pieces behind) rows pending
      several stand fresh none
