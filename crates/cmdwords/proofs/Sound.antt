-- What `clap` takes is written by pieces that may stand, which say what it found.
use Rattle.std.proofs.Common.{◌≡◌, ◌∙◌, ◌⊎◌, ◌==◌, ℕ, Bool, true, false, List, [], ◌∷◌, ◌++◌, Option, Some, None, refl, sym, ap, subst, inl}
use Rattle.std.proofs.Common.{inr, true≢false, IsUtf8}
use Rattle.std.specs.List.{list_all}
use Rattle.clap.specs.Lexer.{name_and_value}
use Rattle.clap.specs.Walk.{Row, all_of, idle, option as awaits, positional, used}
use Rattle.clap.specs.Kinds.{Kinds, or_else}
use Rattle.clap.specs.Faults.{use_fault}
use Rattle.clap.proofs.CutLemmas.{Lacks}
use Rattle.clap.proofs.LexerLemmas.{name_and_value-at, name_and_value-without}
use Rattle.cmdwords.specs.Form.{Text, is_name}
use Rattle.cmdwords.specs.Piece.{ArePieces, IsNonempty, IsPlain, Piece, apart, joined, place, option, written}
use Rattle.cmdwords.proofs.Looks.{by_look, cut, flags_utf8, is_taken, name_differs, taken_is_name}
use Rattle.cmdwords.proofs.Rows.{option_built, placed}
use Rattle.cmdwords.proofs.Steps.{at, empty_faults, faults_in, first_none, hold, open_apart, open_end, open_joined, open_other, open_place}
use Rattle.cmdwords.proofs.Steps.{open_short, open_value, option_faults, option_rows, outcome, outcome_none, rows_in, second_none}
use Rattle.cmdwords.proofs.Steps.{use_needs, waits}
use Rattle.cmdwords.proofs.Splits.{Fresh, Reads, no_reads, option_fresh, option_new, option_reads, place_fresh, place_reads}
use Rattle.cmdwords.proofs.Complete.{behind_all}

abbrev pub AreUtf8 : List Text → Type 0
AreUtf8 [] = Unit {0}
AreUtf8 (word ∷ words) = IsUtf8 word × AreUtf8 words

module _ (mode : Text) (names : List Text) where
  -- the words are written by pieces, and the rows at the end have what they say
  pub record Found (start end : List Row) (words : List Text) : Type 0 where
    pub pieces : List Piece
    pub behind : Option (List Text)
    pub text : words ≡ written pieces behind
    pub stand : ArePieces names pieces
    pub fresh : Fresh start pieces
    pub reads : Reads start end pieces behind

  abbrev OpenFinds : List Text → Type 0
  OpenFinds words = (rows : List Row) (pending : Option (Text × List Text)) (several : Bool)
      → (outcome mode names (at (hold rows pending) (waits mode names several) false) words).0 ≡ []
      → (faults_in mode names pending rows ≡ [])
      × Found (rows_in mode names pending rows) (outcome mode names (at (hold rows pending) (waits mode names several) false) words).1 words

  pub record Value (rows end : List Row) (name : Text) (words : List Text) : Type 0 where
    pub value : Text
    pub rest : List Text
    pub text : words ≡ value ∷ rest
    pub plain : IsPlain value
    pub full : IsNonempty value
    pub absent : all_of name rows ≡ None
    pub found : Found (used (option_built name) (value ∷ []) rows) end rest

  abbrev WaitFinds : List Text → Type 0
  WaitFinds words = (rows : List Row) (name : Text) → is_taken names name ≡ true → is_name name ≡ true
      → (outcome mode names (at (hold rows (Some (name, []))) (awaits name) false) words).0 ≡ []
      → Value rows (outcome mode names (at (hold rows (Some (name, []))) (awaits name) false) words).1 name words

  -- ---- more pieces

  more_place : list_all is_name names ≡ true → (word : Text) (words : List Text) (start end : List Row) → IsPlain word
      → Found (used placed (word ∷ []) start) end words
      → Found start end (word ∷ words)
  more_place all word words start end plain f = record {
    pieces = place word ∷ f.pieces;
    behind = f.behind;
    text = ap (λ l. word ∷ l) f.text;
    stand = (plain, tt, f.stand);
    fresh = place_fresh names word start f.pieces all f.stand f.fresh;
    reads = place_reads word start end f.pieces f.behind f.reads;
  }

  more_joined : (name value : Text) (words : List Text) (start end : List Row) → is_taken names name ≡ true → is_name name ≡ true
      → IsNonempty value
      → all_of name start ≡ None → Found (used (option_built name) (value ∷ []) start) end words
      → Found start end ((45 ∷ 45 ∷ (name ++ 61 ∷ value)) ∷ words)
  more_joined name value words start end taken named full absent f = record {
    pieces = option joined name value ∷ f.pieces;
    behind = f.behind;
    text = ap (λ l. (45 ∷ 45 ∷ (name ++ 61 ∷ value)) ∷ l) f.text;
    stand = ((taken, full), option_new name value start f.pieces absent f.fresh, f.stand);
    fresh = option_fresh joined name value start f.pieces absent f.fresh;
    reads = option_reads joined name value start end f.pieces f.behind named absent f.reads;
  }

  more_apart : (name : Text) (words : List Text) (start end : List Row) → is_taken names name ≡ true → is_name name ≡ true
      → Value start end name words
      → Found start end ((45 ∷ 45 ∷ name) ∷ words)
  more_apart name words start end taken named v = record {
    pieces = option apart name v.value ∷ v.found.pieces;
    behind = v.found.behind;
    text = ap (λ l. (45 ∷ 45 ∷ name) ∷ l) (v.text ∙ ap (λ l. v.value ∷ l) v.found.text);
    stand = ((taken, (v.full, v.plain)), option_new name v.value start v.found.pieces v.absent v.found.fresh, v.found.stand);
    fresh = option_fresh apart name v.value start v.found.pieces v.absent v.found.fresh;
    reads = option_reads apart name v.value start end v.found.pieces v.found.behind named v.absent v.found.reads;
  }

  -- ---- the first word

  abbrev Cases : List Text → Text → Type 0
  Cases words word = IsUtf8 word → OpenFinds (word ∷ words) × WaitFinds (word ∷ words)

  plain_case : list_all is_name names ≡ true → (words : List Text) → OpenFinds words → (word : Text) → IsPlain word → Cases words word
  plain_case all words opened word plain u = (at_open, at_wait)
    where
      at_open : OpenFinds (word ∷ words)
      at_open rows pending several none =
          let is = open_place mode names rows pending several word words plain in
          let none_too = sym (ap (λ (o : Kinds × List Row). o.0) is) ∙ none in
          let here : List Row = rows_in mode names pending rows in
          let mine : Kinds = faults_in mode names pending rows in
          let then : Kinds × List Row = outcome mode names (at (hold here (Some (61 ∷ [], word ∷ []))) positional false) words in
          let later = opened here (Some (61 ∷ [], word ∷ [])) true (second_none mine then.0 none_too) in (
            first_none mine then.0 none_too,
            subst (λ (o : Kinds × List Row). Found here o.1 (word ∷ words)) (sym is) (more_place all word words here then.1 plain later.1),
          )

      at_wait : WaitFinds (word ∷ words)
      at_wait rows name taken named none =
          let differs = name_differs name named in
          let is = open_value mode names rows name word words plain taken differs in
          let none_too = sym (ap (λ (o : Kinds × List Row). o.0) is) ∙ none in
          let later = opened rows (Some (name, word ∷ [])) false none_too in
          let needs = use_needs name word rows (sym (option_faults mode names rows name (word ∷ []) taken differs) ∙ later.0) in
          let as_used = option_rows mode names rows name (word ∷ []) taken differs in
          let then : Kinds × List Row = outcome mode names (at (hold rows (Some (name, word ∷ []))) idle false) words in
          record {
            value = word;
            rest = words;
            text = refl;
            plain = plain;
            full = needs.1;
            absent = needs.0;
            found = subst (λ (o : Kinds × List Row). Found (used (option_built name) (word ∷ []) rows) o.1 words) (sym is)
                (subst (λ l. Found l then.1 words) as_used later.1);
          }

  end_case : (words : List Text) → Cases words (45 ∷ 45 ∷ [])
  end_case words u = (at_open, at_wait)
    where
      at_open : OpenFinds ((45 ∷ 45 ∷ []) ∷ words)
      at_open rows pending several none =
          let is = open_end mode names (hold rows pending) (waits mode names several) words in
          let all = behind_all mode names words rows pending (waits mode names several) in (
            sym all.0 ∙ (sym (ap (λ (o : Kinds × List Row). o.0) is) ∙ none),
            record {
              pieces = [];
              behind = Some words;
              text = refl;
              stand = tt;
              fresh = record { absent = λ name e. absurd (true≢false (sym e)) };
              reads = subst (λ (o : Kinds × List Row). Reads (rows_in mode names pending rows) o.1 [] (Some words)) (sym is) all.1;
            },
          )

      at_wait : WaitFinds ((45 ∷ 45 ∷ []) ∷ words)
      at_wait rows name taken named none =
          let is = open_end mode names (hold rows (Some (name, []))) (awaits name) words in
          let all = behind_all mode names words rows (Some (name, [])) (awaits name) in
          absurd (empty_faults mode names rows name taken (name_differs name named)
          (sym all.0 ∙ (sym (ap (λ (o : Kinds × List Row). o.0) is) ∙ none)))

  short_case : (words : List Text) (c : ℕ) (rest : Text) → (c == 45) ≡ false → Cases words (45 ∷ c ∷ rest)
  short_case words c rest e u = (
    λ rows pending several none. absurd (open_short mode names rows pending (waits mode names several) c rest words e (flags_utf8 c rest u)
        none),
    λ rows name taken named none. absurd (open_short mode names rows (Some (name, [])) (awaits name) c rest words e (flags_utf8 c rest u)
        none),
  )

  other_case : (words : List Text) (c : ℕ) (rest name : Text) (v : Option Text) → name_and_value (c ∷ rest) ≡ (name, v)
      → is_taken names name ≡ false
      → OpenFinds ((45 ∷ 45 ∷ c ∷ rest) ∷ words) × WaitFinds ((45 ∷ 45 ∷ c ∷ rest) ∷ words)
  other_case words c rest name v looks missing = (
    λ rows pending several none. absurd (open_other mode names (hold rows pending) (waits mode names several) c rest name v words looks
        missing none),
    λ rows other taken named none. absurd (open_other mode names (hold rows (Some (other, []))) (awaits other) c rest name v words looks
        missing none),
  )

  apart_case : (words : List Text) → WaitFinds words → (c : ℕ) (rest : Text) → name_and_value (c ∷ rest) ≡ (c ∷ rest, None)
      → is_taken names (c ∷ rest) ≡ true
      → is_name (c ∷ rest) ≡ true → OpenFinds ((45 ∷ 45 ∷ c ∷ rest) ∷ words) × WaitFinds ((45 ∷ 45 ∷ c ∷ rest) ∷ words)
  apart_case words wait c rest looks taken named = (at_open, at_wait)
    where
      at_open : OpenFinds ((45 ∷ 45 ∷ c ∷ rest) ∷ words)
      at_open rows pending several none =
          let is = open_apart mode names rows pending (waits mode names several) c rest (c ∷ rest) words looks taken in
          let none_too = sym (ap (λ (o : Kinds × List Row). o.0) is) ∙ none in
          let here : List Row = rows_in mode names pending rows in
          let mine : Kinds = faults_in mode names pending rows in
          let then : Kinds × List Row = outcome mode names (at (hold here (Some (c ∷ rest, []))) (awaits (c ∷ rest)) false) words in (
            first_none mine then.0 none_too,
            subst (λ (o : Kinds × List Row). Found here o.1 ((45 ∷ 45 ∷ c ∷ rest) ∷ words)) (sym is)
                (more_apart (c ∷ rest) words here then.1 taken named (wait here (c ∷ rest) taken named (second_none mine then.0 none_too))),
          )

      at_wait : WaitFinds ((45 ∷ 45 ∷ c ∷ rest) ∷ words)
      at_wait rows name own own_name none =
          let is = open_apart mode names rows (Some (name, [])) (awaits name) c rest (c ∷ rest) words looks taken in
          let then : Kinds × List Row =
          outcome mode names (at (hold (rows_in mode names (Some (name, [])) rows) (Some (c ∷ rest, []))) (awaits (c ∷ rest)) false)
          words in
          absurd (empty_faults mode names rows name own (name_differs name own_name)
          (first_none (faults_in mode names (Some (name, [])) rows) then.0 (sym (ap (λ (o : Kinds × List Row). o.0) is) ∙ none)))

  joined_case : (words : List Text) → OpenFinds words → (c : ℕ) (rest name value : Text) → name_and_value (c ∷ rest) ≡ (name, Some value)
      → c ∷ rest ≡ name ++ 61 ∷ value
      → is_taken names name ≡ true → is_name name ≡ true → OpenFinds ((45 ∷ 45 ∷ c ∷ rest) ∷ words)
      × WaitFinds ((45 ∷ 45 ∷ c ∷ rest) ∷ words)
  joined_case words opened c rest name value looks parts taken named = (at_open, at_wait)
    where
      at_open : OpenFinds ((45 ∷ 45 ∷ c ∷ rest) ∷ words)
      at_open rows pending several none =
          let is = open_joined mode names rows pending (waits mode names several) c rest name value words looks taken in
          let none_too = sym (ap (λ (o : Kinds × List Row). o.0) is) ∙ none in
          let here : List Row = rows_in mode names pending rows in
          let waiting : Kinds = faults_in mode names pending rows in
          let use_of : Kinds = use_fault false (option_built name) (value ∷ []) here in
          let then : Kinds × List Row = outcome mode names (at (hold (used (option_built name) (value ∷ []) here) None) idle false) words in
          let mine = first_none (or_else waiting use_of) then.0 none_too in
          let needs = use_needs name value here (second_none waiting use_of mine) in
          let later = opened (used (option_built name) (value ∷ []) here) None false (second_none (or_else waiting use_of) then.0 none_too)
          in (
            first_none waiting use_of mine,
            subst (λ (o : Kinds × List Row). Found here o.1 ((45 ∷ 45 ∷ c ∷ rest) ∷ words)) (sym is)
                (subst (λ l. Found here then.1 ((45 ∷ 45 ∷ l) ∷ words)) (sym parts)
                (more_joined name value words here then.1 taken named needs.1 needs.0 later.1)),
          )

      at_wait : WaitFinds ((45 ∷ 45 ∷ c ∷ rest) ∷ words)
      at_wait rows own own_taken own_name none =
          let is = open_joined mode names rows (Some (own, [])) (awaits own) c rest name value words looks taken in
          let here : List Row = rows_in mode names (Some (own, [])) rows in
          let waiting : Kinds = faults_in mode names (Some (own, [])) rows in
          let use_of : Kinds = use_fault false (option_built name) (value ∷ []) here in
          let then : Kinds × List Row = outcome mode names (at (hold (used (option_built name) (value ∷ []) here) None) idle false) words in
          absurd (empty_faults mode names rows own own_taken (name_differs own own_name)
          (first_none waiting use_of (first_none (or_else waiting use_of) then.0 (sym (ap (λ (o : Kinds × List Row). o.0) is) ∙ none))))

  long_case : list_all is_name names ≡ true → (words : List Text) → OpenFinds words → WaitFinds words → (c : ℕ) (rest : Text)
      → Cases words (45 ∷ 45 ∷ c ∷ rest)
  long_case all words opened wait c rest u = go (cut (c ∷ rest))
    where
      alone : Lacks 61 (c ∷ rest) → (b : Bool) → is_taken names (c ∷ rest) ≡ b → OpenFinds ((45 ∷ 45 ∷ c ∷ rest) ∷ words)
          × WaitFinds ((45 ∷ 45 ∷ c ∷ rest) ∷ words)
      alone lacks true e = apart_case words wait c rest (name_and_value-without (c ∷ rest) lacks) e (taken_is_name names (c ∷ rest) all e)
      alone lacks false e = other_case words c rest (c ∷ rest) None (name_and_value-without (c ∷ rest) lacks) e

      with_value : (name value : Text) → c ∷ rest ≡ name ++ 61 ∷ value → Lacks 61 name → (b : Bool) → is_taken names name ≡ b
          → OpenFinds ((45 ∷ 45 ∷ c ∷ rest) ∷ words) × WaitFinds ((45 ∷ 45 ∷ c ∷ rest) ∷ words)
      with_value name value parts lacks true e =
          joined_case words opened c rest name value (ap name_and_value parts ∙ name_and_value-at name value lacks) parts e
          (taken_is_name names name all e)
      with_value name value parts lacks false e =
          other_case words c rest name (Some value) (ap name_and_value parts ∙ name_and_value-at name value lacks) e

      go : Lacks 61 (c ∷ rest) ⊎ ((name : Text) × (value : Text) × (c ∷ rest ≡ name ++ 61 ∷ value) × Lacks 61 name)
          → OpenFinds ((45 ∷ 45 ∷ c ∷ rest) ∷ words) × WaitFinds ((45 ∷ 45 ∷ c ∷ rest) ∷ words)
      go (inl lacks) = alone lacks (is_taken names (c ∷ rest)) refl
      go (inr p) = with_value p.0 p.1 p.2 p.3 (is_taken names p.0) refl

  finds : list_all is_name names ≡ true → (words : List Text) → AreUtf8 words → OpenFinds words × WaitFinds words
  finds all [] u = (at_open, at_wait)
    where
      at_open : OpenFinds []
      at_open rows pending several none =
          let is = outcome_none mode names (at (hold rows pending) (waits mode names several) false) in (
            sym (ap (λ (o : Kinds × List Row). o.0) is) ∙ none,
            record {
              pieces = [];
              behind = None;
              text = refl;
              stand = tt;
              fresh = record { absent = λ name e. absurd (true≢false (sym e)) };
              reads = subst (λ (o : Kinds × List Row). Reads (rows_in mode names pending rows) o.1 [] None) (sym is)
                  (no_reads (rows_in mode names pending rows));
            },
          )

      at_wait : WaitFinds []
      at_wait rows name taken named none =
          let is = outcome_none mode names (at (hold rows (Some (name, []))) (awaits name) false) in
          absurd (empty_faults mode names rows name taken (name_differs name named) (sym (ap (λ (o : Kinds × List Row). o.0) is) ∙ none))
  finds all (word ∷ words) u =
      let later = finds all words u.1 in
      by_look (Cases words) (plain_case all words later.0) (end_case words) (long_case all words later.0 later.1) (short_case words) word
      u.0

  -- from the beginning
  pub all_found : list_all is_name names ≡ true → (words : List Text) → AreUtf8 words
      → (outcome mode names (at (hold [] None) idle false) words).0 ≡ []
      → Found [] (outcome mode names (at (hold [] None) idle false) words).1 words
  all_found all words u none = ((finds all words u).0 [] None false none).1
