-- One word of `clap`'s walk, for a command with options of these names and its places under the id `=`.
use Rattle.std.proofs.Common.{◌≡◌, ◌≢◌, ◌∙◌, ℕ, Bool, true, false, ◌&&◌, ◌||◌, ◌==◌, List, [], ◌∷◌, map, length, Option, Some, None}
use Rattle.std.proofs.Common.{is_some, cond, refl, sym, ap, ap₂, true≢false, IsUtf8, lt-ltb, arith}
use Rattle.std.specs.Prelude.{drop, encode_utf8, fold, nat_lt, slice_get}
use Rattle.std.specs.Option.{option_map_or}
use Rattle.std.specs.Str.{bytes_eq, chars}
use Rattle.std.proofs.lemmas.Slice.Eq.{bytes_eq-Decides}
use Rattle.clap.specs.Lexer.{long_of, name_and_value}
use Rattle.clap.specs.Walk.{Held, Row, Rule, Step, Waiting, Walk, after_flag, after_step, long_met, option_word, used_by_id, arg_by_id}
use Rattle.clap.specs.Walk.{arg_by_long, arg_by_short, idle, option, positional, subcommand_met, subcommand_or_other, all_of, has_row}
use Rattle.clap.specs.Walk.{is_pending, next, plain_word, pushed, reacted, settled, settled_rows, trailing, used, value, walked}
use Rattle.clap.specs.Simple.{Shape, new_shape}
use Rattle.clap.specs.Kinds.{Kinds, or_else, values_kinds}
use Rattle.clap.specs.declared.error.kind.ErrorKind.{ErrorKind}
use Rattle.clap.specs.declared.error.kind.ErrorKind.TheVariants.{ArgumentConflict, InvalidValue, UnknownArgument}
use Rattle.clap.specs.declared.builder.value_parser.ValueParser.TheVariants as parser
use Rattle.clap.specs.Faults.{bundle_fault, bundle_step_fault, flag_word_fault, long_fault, short_fault, flags_fault, other_fault}
use Rattle.clap.specs.Faults.{react_fault, settle_fault, step_fault, turn_fault, use_fault, walk_fault}
use Rattle.cmdwords.specs.Form.{Text}
use Rattle.cmdwords.specs.Piece.{IsNonempty, IsPlain}
use Rattle.cmdwords.proofs.Looks.{first_char, flags_end_not, flags_long, flags_of, is_taken, plain_ends_not, plain_long, plain_short}
use Rattle.cmdwords.proofs.Rows.{has_row_is, option_built, placed, same_text}

abbrev pub rules : List Text → List Rule
rules names = placed ∷ map option_built names

-- the command as it is built
abbrev pub top : Text → List Text → Shape
top mode names = record (new_shape mode) {
  rules = rules names;
  disable_help_flag = true;
  disable_help_subcommand = true;
  is_built = true;
}

abbrev pub hold : List Row → Option (Text × List Text) → Held
hold rows pending = record { rows = rows; pending = pending; skip = 0 }

abbrev pub at : Held → Waiting → Bool → Walk
at held waiting is_trailing = record { held = held; waiting = waiting; position = 1; is_trailing = is_trailing; stopped = None }

-- what one step's faults and the rest come to
abbrev pub after : Kinds → Kinds × List Row → Kinds × List Row
after kinds o = (or_else kinds o.0, o.1)

or_else_assoc : (a b d : Kinds) → or_else (or_else a b) d ≡ or_else a (or_else b d)
or_else_assoc [] b d = refl
or_else_assoc (k ∷ ks) b d = refl

or_else_none : (a : Kinds) → or_else a [] ≡ a
or_else_none [] = refl
or_else_none (k ∷ ks) = refl

pub first_none : (a b : Kinds) → or_else a b ≡ [] → a ≡ []
first_none [] b e = refl
first_none (k ∷ ks) b e = e

pub second_none : (a b : Kinds) → or_else a b ≡ [] → b ≡ []
second_none [] b e = e
second_none (k ∷ ks) b e = cc

drop_and : {X : Type 0} (b : Bool) (x y : X) → cond (b && false) x y ≡ y
drop_and true x y = refl
drop_and false x y = refl

no_subcommand : (waiting : Waiting) (word : Text) → subcommand_met [] waiting word ≡ None
no_subcommand idle word = refl
no_subcommand (option id) word = refl
no_subcommand positional word = refl

module _ (mode : Text) (names : List Text) where
  abbrev pub faults_in : Option (Text × List Text) → List Row → Kinds
  faults_in pending rows = settle_fault (rules names) false (hold rows pending)

  abbrev pub rows_in : Option (Text × List Text) → List Row → List Row
  rows_in pending rows = settled_rows (rules names) pending rows

  -- the faults of the walk over the words and of its end, and the rows that it leaves
  abbrev pub outcome : Walk → List Text → Kinds × List Row
  outcome w words = (
    or_else (walk_fault (top mode names) [] w words) (settle_fault (rules names) false (fold (walked (rules names) []) w words).held),
    (settled (rules names) (fold (walked (rules names) []) w words).held).rows,
  )

  pub outcome_none : (w : Walk) → outcome w [] ≡ (settle_fault (rules names) false w.held, (settled (rules names) w.held).rows)
  unfolding walk_fault
  outcome_none w = refl

  pub step : (w : Walk) (word : Text) (words : List Text) (turn : Kinds) (then : Walk) → turn_fault (top mode names) [] w word ≡ turn
      → walked (rules names) [] w word ≡ then → outcome w (word ∷ words) ≡ after turn (outcome then words)
  unfolding walk_fault
  step w word words turn then t n =
      ap (λ (k : Kinds). (k, (settled (rules names) (fold (walked (rules names) []) w (word ∷ words)).held).rows))
      (or_else_assoc (turn_fault (top mode names) [] w word) _ _)
      ∙ ap₂ (λ (k : Kinds) (v : Walk). after k (outcome v words)) t n

  -- ---- behind `--`

  pub behind_place : (rows : List Row) (pending : Option (Text × List Text)) (waiting : Waiting) (word : Text) (words : List Text)
      → outcome (at (hold rows pending) waiting true) (word ∷ words)
      ≡ after (faults_in pending rows) (outcome (at (hold (rows_in pending rows) (Some (61 ∷ [], word ∷ []))) positional true) words)
  unfolding walked
  behind_place rows pending waiting word words =
      step (at (hold rows pending) waiting true) word words _ _ (drop_and (is_pending placed pending) [] (faults_in pending rows))
      (ap (λ h. at (pushed (61 ∷ []) word h) positional true)
      (drop_and (is_pending placed pending) (hold rows pending) (settled (rules names) (hold rows pending))))

  -- ---- before it

  abbrev word_read : Waiting → Text → Held → Held × Step
  word_read waiting word h = subcommand_or_other (rules names) None waiting 1 word h

  turn_is : (h : Held) (waiting : Waiting) (word : Text) → turn_fault (top mode names) [] (at h waiting false) word
      ≡ or_else (other_fault (top mode names) None word h)
      (step_fault (top mode names) 1 (word_read waiting word h).0 (word_read waiting word h).1)
  turn_is h idle word = refl
  turn_is h (option id) word = refl
  turn_is h positional word = refl

  walked_is : (h : Held) (waiting : Waiting) (word : Text) → walked (rules names) [] (at h waiting false) word
      ≡ after_step (rules names) word (at h waiting false) (word_read waiting word h).0 (word_read waiting word h).1
  unfolding walked
  walked_is h idle word = refl
  walked_is h (option id) word = refl
  walked_is h positional word = refl

  open_step : (h : Held) (waiting : Waiting) (word : Text) (words : List Text) (kinds : Kinds) (met : Held × Step)
      → other_fault (top mode names) None word h ≡ kinds → word_read waiting word h ≡ met
      → outcome (at h waiting false) (word ∷ words)
      ≡ after (or_else kinds (step_fault (top mode names) 1 met.0 met.1))
      (outcome (after_step (rules names) word (at h waiting false) met.0 met.1) words)
  open_step h waiting word words kinds met f m =
      step (at h waiting false) word words _ _
      (turn_is h waiting word ∙ ap₂ (λ (k : Kinds) (p : Held × Step). or_else k (step_fault (top mode names) 1 p.0 p.1)) f m)
      (walked_is h waiting word ∙ ap (λ (p : Held × Step). after_step (rules names) word (at h waiting false) p.0 p.1) m)

  plain_fault : (word : Text) (h : Held) → IsPlain word → other_fault (top mode names) None word h ≡ []
  plain_fault word h plain = rw (plain_ends_not word plain, plain_long word plain, plain_short word plain) refl

  plain_read : (waiting : Waiting) (word : Text) (h : Held) → IsPlain word → word_read waiting word h ≡ plain_word (rules names) waiting
      word h
  plain_read waiting word h plain = rw (plain_ends_not word plain, plain_long word plain, plain_short word plain) refl

  abbrev pub waits : Bool → Waiting
  waits true = positional
  waits false = idle

  no_option : (several : Bool) (word : Text) (h : Held) → plain_word (rules names) (waits several) word h ≡ (h, value)
  no_option true word h = refl
  no_option false word h = refl

  pub open_place : (rows : List Row) (pending : Option (Text × List Text)) (several : Bool) (word : Text) (words : List Text) → IsPlain word
      → outcome (at (hold rows pending) (waits several) false) (word ∷ words)
      ≡ after (faults_in pending rows) (outcome (at (hold (rows_in pending rows) (Some (61 ∷ [], word ∷ []))) positional false) words)
  open_place rows pending several word words plain =
      open_step (hold rows pending) (waits several) word words [] (hold rows pending, value) (plain_fault word (hold rows pending) plain)
      (plain_read (waits several) word (hold rows pending) plain ∙ no_option several word (hold rows pending))
      ∙ ap₂ (λ (k : Kinds) (h : Held). after k (outcome (at (pushed (61 ∷ []) word h) positional false) words))
      (drop_and (is_pending placed pending) [] (faults_in pending rows))
      (drop_and (is_pending placed pending) (hold rows pending) (settled (rules names) (hold rows pending)))

  pub open_end : (h : Held) (waiting : Waiting) (words : List Text)
      → outcome (at h waiting false) ((45 ∷ 45 ∷ []) ∷ words) ≡ outcome (at h waiting true) words
  open_end h waiting words = open_step h waiting (45 ∷ 45 ∷ []) words [] (h, trailing 1) refl refl

  -- ---- an option

  pub long_found : (name : Text) → is_taken names name ≡ true → arg_by_long (rules names) name ≡ Some (option_built name)
  long_found name taken = go names taken
    where
      one : (n : Text) (ns : List Text) (b : Bool) → bytes_eq n name ≡ b → (b || is_taken ns name) ≡ true
          → (is_taken ns name ≡ true → arg_by_long (map option_built ns) name ≡ Some (option_built name))
          → cond (b || false) (Some (option_built n)) (arg_by_long (map option_built ns) name) ≡ Some (option_built name)
      one n ns true e t later = ap (λ i. Some (option_built i)) ((bytes_eq-Decides n name).0 e)
      one n ns false e t later = later t

      go : (ns : List Text) → is_taken ns name ≡ true → arg_by_long (map option_built ns) name ≡ Some (option_built name)
      go [] t = cc
      go (n ∷ ns) t = one n ns (bytes_eq n name) refl t (go ns)

  pub long_missing : (name : Text) → is_taken names name ≡ false → arg_by_long (rules names) name ≡ None
  long_missing name taken = go names taken
    where
      one : (n : Text) (ns : List Text) (b : Bool) → (b || is_taken ns name) ≡ false
          → (is_taken ns name ≡ false → arg_by_long (map option_built ns) name ≡ None)
          → cond (b || false) (Some (option_built n)) (arg_by_long (map option_built ns) name) ≡ None
      one n ns true t later = absurd (true≢false t)
      one n ns false t later = later t

      go : (ns : List Text) → is_taken ns name ≡ false → arg_by_long (map option_built ns) name ≡ None
      go [] t = refl
      go (n ∷ ns) t = one n ns (bytes_eq n name) t (go ns)

  pub id_found : (name : Text) → is_taken names name ≡ true → bytes_eq (61 ∷ []) name ≡ false → arg_by_id (rules names) name
      ≡ Some (option_built name)
  id_found name taken ne = rw ne (go names taken)
    where
      one : (n : Text) (ns : List Text) (b : Bool) → bytes_eq n name ≡ b → (b || is_taken ns name) ≡ true
          → (is_taken ns name ≡ true → arg_by_id (map option_built ns) name ≡ Some (option_built name))
          → cond b (Some (option_built n)) (arg_by_id (map option_built ns) name) ≡ Some (option_built name)
      one n ns true e t later = ap (λ i. Some (option_built i)) ((bytes_eq-Decides n name).0 e)
      one n ns false e t later = later t

      go : (ns : List Text) → is_taken ns name ≡ true → arg_by_id (map option_built ns) name ≡ Some (option_built name)
      go [] t = cc
      go (n ∷ ns) t = one n ns (bytes_eq n name) refl t (go ns)

  short_missing : (c : ℕ) → arg_by_short (rules names) c ≡ None
  short_missing c = go names
    where
      go : (ns : List Text) → arg_by_short (map option_built ns) c ≡ None
      go [] = refl
      go (n ∷ ns) = go ns

  refused : (h : Held) (waiting : Waiting) (word : Text) (words : List Text) (k : ErrorKind) → other_fault (top mode names) None word h
      ≡ k ∷ []
      → (outcome (at h waiting false) (word ∷ words)).0 ≢ []
  refused h waiting word words k e none =
      let is = open_step h waiting word words (k ∷ []) (word_read waiting word h) e refl in
      let bad : k ∷ [] ≡ [] = sym (ap (λ (o : Kinds × List Row). o.0) is) ∙ none in
      cc

  -- a word with flags is refused
  flags_refused : (rows : List Row) (pending : Option (Text × List Text)) (c : ℕ) (rest : Text) → (c == 45) ≡ false → (x : ℕ)
      → slice_get (chars (c ∷ rest)) 0 ≡ Some x
      → other_fault (top mode names) None (45 ∷ c ∷ rest) (hold rows pending) ≡ UnknownArgument ∷ []
  unfolding flags_fault
  flags_refused rows pending c rest e x first =
      let next : Text = drop (length (encode_utf8 x)) (c ∷ rest) in
      let h : Held = hold rows pending in
      ap (λ b. cond b [] (flag_word_fault (rules names) false (long_of (45 ∷ c ∷ rest)) (45 ∷ c ∷ rest) h)) (flags_end_not c rest e)
      ∙ ap (λ o. flag_word_fault (rules names) false o (45 ∷ c ∷ rest) h) (flags_long c rest e)
      ∙ ap (λ o. option_map_or (λ flags. bundle_fault (rules names) false flags h) o []) (flags_of c rest e)
      ∙ ap (λ o. bundle_step_fault (rules names) false o (c ∷ rest) 0 h (flags_fault (rules names) false (length rest))) first
      ∙ ap (λ o. short_fault (rules names) false o next h (flags_fault (rules names) false (length rest) next 0)) (short_missing x)

  pub open_short : (rows : List Row) (pending : Option (Text × List Text)) (waiting : Waiting) (c : ℕ) (rest : Text) (words : List Text)
      → (c == 45) ≡ false
      → IsUtf8 (c ∷ rest) → (outcome (at (hold rows pending) waiting false) ((45 ∷ c ∷ rest) ∷ words)).0 ≢ []
  open_short rows pending waiting c rest words e u =
      let first = first_char c rest u in
      refused (hold rows pending) waiting (45 ∷ c ∷ rest) words UnknownArgument (flags_refused rows pending c rest e first.0 first.1)

  -- what a word with a name does
  named_fault : (h : Held) (c : ℕ) (rest name : Text) (v : Option Text) (found : Option Rule) → name_and_value (c ∷ rest) ≡ (name, v)
      → arg_by_long (rules names) name ≡ found → other_fault (top mode names) None (45 ∷ 45 ∷ c ∷ rest) h ≡ long_fault (rules names) false
      found v h
  named_fault h c rest name v found looks is =
      ap (λ (p : Text × Option Text). long_fault (rules names) false (arg_by_long (rules names) p.0) p.1 h) looks
      ∙ ap (λ o. long_fault (rules names) false o v h) is

  named_read : (h : Held) (waiting : Waiting) (c : ℕ) (rest name : Text) (v : Option Text) (found : Option Rule) → name_and_value (c ∷ rest)
      ≡ (name, v)
      → arg_by_long (rules names) name ≡ found
      → word_read waiting (45 ∷ 45 ∷ c ∷ rest) h ≡ after_flag (rules names) waiting (45 ∷ 45 ∷ c ∷ rest)
      (long_met (rules names) found v h).0 (long_met (rules names) found v h).1
  named_read h waiting c rest name v found looks is =
      ap (λ (p : Text × Option Text). after_flag (rules names) waiting (45 ∷ 45 ∷ c ∷ rest)
      (long_met (rules names) (arg_by_long (rules names) p.0) p.1 h).0 (long_met (rules names) (arg_by_long (rules names) p.0) p.1 h).1)
      looks
      ∙ ap (λ o. after_flag (rules names) waiting (45 ∷ 45 ∷ c ∷ rest) (long_met (rules names) o v h).0 (long_met (rules names) o v h).1) is

  -- one with another name is refused
  pub open_other : (h : Held) (waiting : Waiting) (c : ℕ) (rest name : Text) (v : Option Text) (words : List Text)
      → name_and_value (c ∷ rest) ≡ (name, v) → is_taken names name ≡ false
      → (outcome (at h waiting false) ((45 ∷ 45 ∷ c ∷ rest) ∷ words)).0 ≢ []
  open_other h waiting c rest name v words looks missing =
      refused h waiting (45 ∷ 45 ∷ c ∷ rest) words UnknownArgument (named_fault h c rest name v None looks (long_missing name missing))

  pub open_joined : (rows : List Row) (pending : Option (Text × List Text)) (waiting : Waiting) (c : ℕ) (rest name v : Text)
      (words : List Text)
      → name_and_value (c ∷ rest) ≡ (name, Some v) → is_taken names name ≡ true
      → outcome (at (hold rows pending) waiting false) ((45 ∷ 45 ∷ c ∷ rest) ∷ words)
      ≡ after (or_else (faults_in pending rows) (use_fault false (option_built name) (v ∷ []) (rows_in pending rows)))
      (outcome (at (hold (used (option_built name) (v ∷ []) (rows_in pending rows)) None) idle false) words)
  open_joined rows pending waiting c rest name v words looks taken =
      let h : Held = hold rows pending in
      let kinds : Kinds = react_fault (rules names) false (option_built name) (v ∷ []) h in
      open_step h waiting (45 ∷ 45 ∷ c ∷ rest) words kinds (reacted (rules names) (option_built name) (v ∷ []) h, next idle)
      (named_fault h c rest name (Some v) (Some (option_built name)) looks (long_found name taken))
      (named_read h waiting c rest name (Some v) (Some (option_built name)) looks (long_found name taken))
      ∙ ap (λ k. after k (outcome (at (hold (used (option_built name) (v ∷ []) (rows_in pending rows)) None) idle false) words))
      (or_else_none kinds)

  pub open_apart : (rows : List Row) (pending : Option (Text × List Text)) (waiting : Waiting) (c : ℕ) (rest name : Text)
      (words : List Text)
      → name_and_value (c ∷ rest) ≡ (name, None) → is_taken names name ≡ true
      → outcome (at (hold rows pending) waiting false) ((45 ∷ 45 ∷ c ∷ rest) ∷ words)
      ≡ after (faults_in pending rows) (outcome (at (hold (rows_in pending rows) (Some (name, []))) (option name) false) words)
  open_apart rows pending waiting c rest name words looks taken =
      let h : Held = hold rows pending in
      open_step h waiting (45 ∷ 45 ∷ c ∷ rest) words (faults_in pending rows)
      (hold (rows_in pending rows) (Some (name, [])), next (option name))
      (named_fault h c rest name None (Some (option_built name)) looks (long_found name taken))
      (named_read h waiting c rest name None (Some (option_built name)) looks (long_found name taken))
      ∙ ap (λ k. after k (outcome (at (hold (rows_in pending rows) (Some (name, []))) (option name) false) words))
      (or_else_none (faults_in pending rows))

  -- the word behind `--NAME`
  value_read : (rows : List Row) (name word : Text) → is_taken names name ≡ true → bytes_eq (61 ∷ []) name ≡ false
      → plain_word (rules names) (option name) word (hold rows (Some (name, []))) ≡ (hold rows (Some (name, word ∷ [])), next idle)
  value_read rows name word taken ne =
      ap (λ o. ((option_word o name word (hold rows (Some (name, [])))).0, next (option_word o name word (hold rows (Some (name, [])))).1))
      (id_found name taken ne)
      ∙ ap (λ (b : Bool). (hold rows (Some (name, word ∷ [])), next (cond (nat_lt (cond b 1 0) 1) (option name) idle))) (same_text name)

  pub open_value : (rows : List Row) (name word : Text) (words : List Text) → IsPlain word → is_taken names name ≡ true
      → bytes_eq (61 ∷ []) name ≡ false
      → outcome (at (hold rows (Some (name, []))) (option name) false) (word ∷ words)
      ≡ outcome (at (hold rows (Some (name, word ∷ []))) idle false) words
  open_value rows name word words plain taken ne =
      open_step (hold rows (Some (name, []))) (option name) word words [] (hold rows (Some (name, word ∷ [])), next idle)
      (plain_fault word (hold rows (Some (name, []))) plain)
      (plain_read (option name) word (hold rows (Some (name, []))) plain ∙ value_read rows name word taken ne)

  -- ---- what an option that waits comes to

  pub option_faults : (rows : List Row) (name : Text) (values : List Text) → is_taken names name ≡ true → bytes_eq (61 ∷ []) name ≡ false
      → faults_in (Some (name, values)) rows ≡ use_fault false (option_built name) values rows
  option_faults rows name values taken ne =
      ap (λ o. option_map_or (λ (a : Rule). use_fault false a values rows) o []) (id_found name taken ne)

  pub option_rows : (rows : List Row) (name : Text) (values : List Text) → is_taken names name ≡ true → bytes_eq (61 ∷ []) name ≡ false
      → rows_in (Some (name, values)) rows ≡ used (option_built name) values rows
  option_rows rows name values taken ne = ap (λ o. used_by_id o values rows) (id_found name taken ne)

  -- it may not stay without a value
  pub empty_faults : (rows : List Row) (name : Text) → is_taken names name ≡ true → bytes_eq (61 ∷ []) name ≡ false
      → faults_in (Some (name, [])) rows ≢ []
  empty_faults rows name taken ne none =
      let bad : InvalidValue ∷ [] ≡ [] = sym (option_faults rows name [] taken ne) ∙ none in
      cc

pub use_passes : (name text : Text) (rows : List Row) → all_of name rows ≡ None → IsNonempty text → use_fault false (option_built name)
    (text ∷ []) rows ≡ []
use_passes name [] rows none full = absurd full
use_passes name (c ∷ rest) rows none full =
    ap (λ b. or_else (cond (b && true) (ArgumentConflict ∷ []) []) (values_kinds false parser.NonEmptyString ((c ∷ rest) ∷ [])))
    (has_row_is name rows ∙ ap is_some none)
    ∙ ap (λ b. or_else (cond b [] (InvalidValue ∷ [])) []) (lt-ltb 0 (length (c ∷ rest)) (omega arith))

absent : (name : Text) (rows : List Row) → has_row name rows ≡ false → all_of name rows ≡ None
absent name rows e = go (all_of name rows) (sym (has_row_is name rows) ∙ e)
  where
    go : (o : Option (List Text)) → is_some o ≡ false → o ≡ None
    go None e = refl
    go (Some vs) e = absurd (true≢false e)

pub use_needs : (name text : Text) (rows : List Row) → use_fault false (option_built name) (text ∷ []) rows ≡ [] → (all_of name rows ≡ None)
    × IsNonempty text
use_needs name text rows none = (absent name rows (free (has_row name rows) (first_none _ _ none)), full text (second_none _ _ none))
  where
    free : (b : Bool) → cond (b && true) (ArgumentConflict ∷ []) [] ≡ [] → b ≡ false
    free true e = cc
    free false e = refl

    full : (v : Text) → values_kinds false parser.NonEmptyString (v ∷ []) ≡ [] → IsNonempty v
    full [] e = cc
    full (c ∷ rest) e = tt
