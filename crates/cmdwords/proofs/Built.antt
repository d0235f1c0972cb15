-- The command as `clap` builds it, and what a parse of it comes to by the walk alone.
use Rattle.std.proofs.Common.{◌≡◌, ◌∙◌, ℕ, ◌+◌, Bool, true, false, not, ◌&&◌, ◌||◌, List, [], ◌∷◌, map, Option, Some, None, is_some, cond}
use Rattle.std.proofs.Common.{refl, ap, ap₂, arith}
use Rattle.std.specs.Prelude.{fold}
use Rattle.std.specs.List.{list_all, list_any}
use Rattle.clap.specs.Walk.{Row, Rule, finished, idle, is_early_multiple, nothing_held, settled, walk, with_default}
use Rattle.clap.specs.Simple.{App, built, entered, filled_from, is_in_order, is_ready, is_ready_leaf, is_buildable, matches_of}
use Rattle.clap.specs.Kinds.{check_kinds, or_else}
use Rattle.clap.specs.Takes.{is_given}
use Rattle.clap.specs.Faults.{built_fault, defaults_fault, entered_fault, fault_of, is_free_app, is_simple_and_free, level_fault}
use Rattle.clap.specs.Faults.{settle_fault, walk_fault}
use Rattle.cmdwords.specs.Form.{Text}
use Rattle.cmdwords.specs.Splitting.{app_with, option_rule}
use Rattle.cmdwords.proofs.Rows.{option_built, placed}
use Rattle.cmdwords.proofs.Steps.{at, hold, outcome, rules, top}
use Rattle.cmdwords.proofs.Splits.{or_else_none}

filled_options : (n : ℕ) (names : List Text) → filled_from n (map option_rule names) ≡ map option_built names
filled_options n [] = refl
filled_options n (name ∷ names) = ap (λ l. option_built name ∷ l) (filled_options n names)

abbrev pub app_built : Text → List Text → App
app_built mode names = record { top = top mode names; subs = [] }

pub built_is : (mode : Text) (names : List Text) → built (app_with mode names) ≡ app_built mode names
built_is mode names =
    ap (λ l. record (app_built mode names) { top = record (top mode names) { rules = placed ∷ l } }) (filled_options 2 names)

-- ---- it is simple, and no argument has a rule on another

given_simple : (names : List Text) → list_all (λ (a : Rule). a.is_simple) (map option_rule names) ≡ true
given_simple [] = refl
given_simple (name ∷ names) = given_simple names

built_simple : (names : List Text) → list_all (λ (a : Rule). a.is_simple) (map option_built names) ≡ true
built_simple [] = refl
built_simple (name ∷ names) = built_simple names

built_free : (names : List Text) → list_all (λ (a : Rule). a.is_free) (map option_built names) ≡ true
built_free [] = refl
built_free (name ∷ names) = built_free names

none_early : (n : ℕ) (names : List Text) → list_any (is_early_multiple n) (map option_built names) ≡ false
none_early n [] = refl
none_early n (name ∷ names) = none_early n names

no_places : (k : ℕ) (names : List Text) → fold (λ a (x : Rule). a + cond (is_some x.index) 1 0) k (map option_built names) ≡ k
no_places k [] = refl
no_places k (name ∷ names) =
    let same : k + 0 ≡ k = omega arith in
    ap (λ j. fold (λ a (x : Rule). a + cond (is_some x.index) 1 0) j (map option_built names)) same ∙ no_places k names

in_order : (names : List Text) → is_in_order (rules names) ≡ true
in_order names =
    ap (λ k. not (list_any (is_early_multiple k) (rules names))) (no_places 1 names)
    ∙ ap not (none_early 1 names)

and_true : (a b : Bool) → a ≡ true → b ≡ true → (a && b) ≡ true
and_true a b p q = ap₂ (λ x y. x && y) p q

pub simple_and_free : (mode : Text) (names : List Text) → is_simple_and_free (app_with mode names) ≡ true
simple_and_free mode names =
    ap (λ (b : App). (is_buildable (app_with mode names) && (is_ready b.top && list_all is_ready_leaf b.subs)) && is_free_app b)
    (built_is mode names)
    ∙ and_true _ _ (and_true _ _ (and_true _ _ (given_simple names) refl)
    (and_true _ _ (and_true _ _ (built_simple names) (in_order names)) refl)) (and_true _ _ (built_free names) refl)

-- ---- defaults and the last checks

drop_or : {X : Type 0} (b : Bool) (x y : X) → cond (b || true) x y ≡ x
drop_or true x y = refl
drop_or false x y = refl

same_both : {X : Type 0} (b : Bool) (x : X) → cond b x x ≡ x
same_both true x = refl
same_both false x = refl

no_defaults : (names : List Text) (rows : List Row) → defaults_fault rows (map option_built names) ≡ []
unfolding defaults_fault
no_defaults [] rows = refl
no_defaults (name ∷ names) rows =
    ap (λ k. or_else k (defaults_fault (with_default rows (option_built name)) (map option_built names))) (drop_or _ [] _)
    ∙ no_defaults names (with_default rows (option_built name))

all_defaults : (names : List Text) (rows : List Row) → defaults_fault rows (rules names) ≡ []
unfolding defaults_fault
all_defaults names rows =
    ap (λ k. or_else k (defaults_fault (with_default rows placed) (map option_built names))) (drop_or _ [] _)
    ∙ no_defaults names (with_default rows placed)

none_required : (names : List Text) (rows : List Row) → list_any (λ (a : Rule). a.required && not (is_given a.id rows))
    (map option_built names) ≡ false
none_required [] rows = refl
none_required (name ∷ names) rows = none_required names rows

same_rows : (names : List Text) (rows : List Row) → fold with_default rows (map option_built names) ≡ rows
same_rows [] rows = refl
same_rows (name ∷ names) rows = ap (λ r. fold with_default r (map option_built names)) (same_both _ rows) ∙ same_rows names rows

finished_rows : (names : List Text) (rows : List Row) → fold with_default rows (rules names) ≡ rows
finished_rows names rows = ap (λ r. fold with_default r (map option_built names)) (same_both _ rows) ∙ same_rows names rows

-- ---- a parse comes to its walk

no_levels : (mode : Text) (names : List Text) (words : List Text) (stop : Option (Text × List Text))
    → level_fault (top mode names) [] nothing_held words (is_some (entered (app_built mode names) stop))
    (entered_fault (app_built mode names) stop)
    ≡ level_fault (top mode names) [] nothing_held words false []
no_levels mode names words None = refl
no_levels mode names words (Some p) = refl

ends_well : (mode : Text) (names : List Text) (words : List Text)
    → level_fault (top mode names) [] nothing_held words false [] ≡ (outcome mode names (at (hold [] None) idle false) words).0
ends_well mode names words =
    let end = (walk (rules names) [] nothing_held words).held in
    let settle = settle_fault (rules names) false end in
    ap (λ k. or_else (walk_fault (top mode names) [] (at (hold [] None) idle false) words) (or_else settle k))
    (ap₂ or_else (all_defaults names (settled (rules names) end).rows)
    (ap (check_kinds false false) (none_required names (finished (rules names) end))))
    ∙ ap (or_else (walk_fault (top mode names) [] (at (hold [] None) idle false) words)) (or_else_none settle)

pub fault_is : (mode first : Text) (names words : List Text)
    → fault_of (app_with mode names) (first ∷ words) ≡ (outcome mode names (at (hold [] None) idle false) words).0
fault_is mode first names words =
    ap (λ (a : App). built_fault a nothing_held words) (built_is mode names)
    ∙ no_levels mode names words (walk (rules names) [] nothing_held words).stopped ∙ ends_well mode names words

pub matches_are : (mode first : Text) (names words : List Text)
    → matches_of (app_with mode names) (first ∷ words) ≡ (outcome mode names (at (hold [] None) idle false) words).1
matches_are mode first names words =
    ap (λ (a : App). finished a.top.rules (walk a.top.rules (map (λ s. (s.name, s.aliases)) a.subs) nothing_held words).held)
    (built_is mode names)
    ∙ finished_rows names (settled (rules names) (walk (rules names) [] nothing_held words).held).rows
