-- The items of good lines are a whole program.
use Rattle.std.proofs.Common.{◌≡◌, ℕ, suc, ◌+◌, ◌-◌, ◌<◌, ◌≤◌, ◌^◌, List, [], ◌∷◌, ◌++◌, Bool, true, false, not, ◌||◌, ◌&&◌, Option}
use Rattle.std.proofs.Common.{Some, None, refl, ap, sym, subst, ◌∙◌, arith, length, take, append_assoc}
use Rattle.std.specs.Prelude.{Ok, min, nat_eq, nat_lt, nat_le, is_some, option_map, option_to_list, if◌then◌else◌}
use Rattle.std.specs.List.{list_all, flat_map, AllByRecursion}
use Rattle.std.proofs.lemmas.Bool.{and_parts, and_from}
use Rattle.std.proofs.lemmas.Bool.Decides.{nat_tests}
use Rattle.isa.specs.declared.inst.Inst.{Inst}
use Rattle.isa.specs.declared.note.NoteKind.{NoteKind}
use Rattle.isa.specs.declared.program.Item.{Item}
use Rattle.isa.specs.declared.program.Item.TheVariants as item
use Rattle.isa.specs.declared.program.Target.TheVariants as target
use Rattle.isa.specs.Judging as judging
use Rattle.isa.specs.Judging.{has, may_precede, are_placed, is_there, is_empty, notes_stand, is_judged_whole}
use Rattle.isa.specs.Note.{value_fits}
use Rattle.isa.specs.Program as program
use Rattle.isa.specs.Program.{IsWhole, labels, is_formed, is_least, has_target}
use Rattle.isa.proofs.Wholeness.{judged_result}
use Rattle.asmword.specs.declared.form.Form.{Form}
use Rattle.asmword.specs.Forms.{written}
use Rattle.asmword.specs.Instructions.{made}
use Rattle.asmword.specs.Labels.{has_label}
use Rattle.asmword.proofs.FormLaws.{has_back}
use Rattle.asmline.specs.Said.{Saying, nothing, note, whole, aimed, Said, saying_fits}
use Rattle.branchfit.specs.Fits.{named}
use Rattle.asmtext.specs.declared.cause.AsmCause.TheVariants as causes
use Rattle.asmtext.specs.Causes.{is_second_note, aims_badly, misses, is_loop, is_lost_note, AreGood}
use Rattle.asmtext.specs.Held.{or_else}
use Rattle.asmtext.specs.Items.{label_item, saying_item, line_items, items_of}
use Rattle.asmtext.specs.Labels.{Lines, is_named, stands_on, first_place, number_in, name_aimed, names_told, names_of, with_name}
use Rattle.asmtext.specs.Made.{IsMadeOf, IsMadeSaying, IsMade, IsLabelledSaying, IsLabelled}
use Rattle.asmtext.specs.Notes.{kinds_said, kinds_after, has_kind, may_rest, may_aim, is_back, may_stand_on, may_stand, else_}
use Rattle.asmtext.proofs.LineLemmas.{GoodLine, good_line, AllGood, all_good, items_by, labels_said, has_standing, absent, not_false}
use Rattle.asmtext.proofs.LineLemmas.{not_below, same_test}
use Rattle.asmtext.proofs.NumberLemmas.{Has, all_have, own_name, same_name}
use Rattle.asmtext.proofs.OnceLemmas.{or_right, or_left}
use Rattle.asmtext.proofs.PlaceLemmas.{KnowsTo, knows_begin, knows_on}
use Rattle.asmtext.proofs.WordLemmas.{may_rest_too, may_aim_too, aimed_precedes}

-- ---- lists

all_front : {X : Type 0} (P : X → Type 0) (xs ys : List X) → AllByRecursion P (xs ++ ys) → AllByRecursion P xs
all_front P [] ys h = tt
all_front P (x ∷ xs) ys h = (h.0, all_front P xs ys h.1)

all_back : {X : Type 0} (P : X → Type 0) (xs ys : List X) → AllByRecursion P (xs ++ ys) → AllByRecursion P ys
all_back P [] ys h = h
all_back P (x ∷ xs) ys h = all_back P xs ys h.1

all_push : {X : Type 0} (P : X → Type 0) (xs : List X) (x : X) → AllByRecursion P xs → P x → AllByRecursion P (xs ++ x ∷ [])
all_push P [] x h p = (p, tt)
all_push P (y ∷ xs) x h p = (h.0, all_push P xs x h.1 p)

-- ---- where labels stand before and behind

-- `held` tells the places before the line n, and `before` has the numbers of those labels
record At (lines : Lines) (names : List (List ℕ)) (n : ℕ) (rest : Lines) (held : List ℕ → Option ℕ) (before : List ℕ) : Type 0 where
  known : KnowsTo lines n rest held
  low : (a : List ℕ) (k : ℕ) → held a ≡ Some k → k < n
  seen : (a : List ℕ) (k : ℕ) → held a ≡ Some k → has before (number_in names a) ≡ true

abbrev next_held : (List ℕ → Option ℕ) → ℕ → Said → List ℕ → Option ℕ
next_held held n said a = or_else (held a) (if is_named a said.label then Some n else None)

abbrev next_before : List (List ℕ) → Option (List ℕ) → List ℕ → List ℕ
next_before names None before = before
next_before names (Some b) before = number_in names b ∷ before

low_next : (o : Option ℕ) (t : Bool) (n k : ℕ) → ((j : ℕ) → o ≡ Some j → j < n) → or_else o (if t then Some n else None) ≡ Some k
    → k < n + 1
low_next (Some j) t n k f e = let s : j ≡ k = cc in let l = f j refl in omega arith
low_next None true n k f e = let s : n ≡ k = cc in omega arith
low_next None false n k f e = absurd (cc)

seen_next : (names : List (List ℕ)) (before : List ℕ) (o : Option ℕ) (label : Option (List ℕ)) (a : List ℕ) (n k : ℕ)
    → ((j : ℕ) → o ≡ Some j → has before (number_in names a) ≡ true) → or_else o (if is_named a label then Some n else None) ≡ Some k
    → has (next_before names label before) (number_in names a) ≡ true
seen_next names before (Some j) None a n k f e = f j refl
seen_next names before (Some j) (Some b) a n k f e = or_right (nat_eq (number_in names a) (number_in names b)) (has before
    (number_in names a)) (f j refl)
seen_next names before None None a n k f e = absurd (cc)
seen_next names before None (Some b) a n k f e = by _ refl e
  where
    by : (t : Bool) → is_named a (Some b) ≡ t → or_else None (if t then Some n else None) ≡ Some k
        → (nat_eq (number_in names a) (number_in names b) || has before (number_in names a)) ≡ true
    by true g e = or_left (nat_eq (number_in names a) (number_in names b)) (has before (number_in names a))
        (same_test (number_in names a) (number_in names b) (ap (number_in names) (sym (same_name b a g))))
    by false g e = absurd (cc)

at_next : (lines : Lines) (names : List (List ℕ)) (n : ℕ) (said : Said) (rest : Lines) (held : List ℕ → Option ℕ) (before : List ℕ)
    → At lines names n (Some said ∷ rest) held before
    → At lines names (n + 1) rest (next_held held n said) (next_before names said.label before)
at_next lines names n said rest held before h = record {
  known = knows_on lines n held (next_held held n said) (Some said) rest h.known (λ a. refl);
  low = λ a k e. low_next (held a) (is_named a said.label) n k (h.low a) e;
  seen = λ a k e. seen_next names before (held a) said.label a n k (h.seen a) e;
}

-- a label's place is before the line n, or at it or behind
known_place : (lines : Lines) (n : ℕ) (rest : Lines) (held : List ℕ → Option ℕ) (a : List ℕ) (k : ℕ) → KnowsTo lines n rest held
    → held a ≡ Some k → first_place lines a ≡ Some k
known_place lines n rest held a k known e =
    sym (known.each a) ∙ ap (λ o. or_else o (option_map (λ j. n + j) (first_place rest a))) e

behind_from : (o : Option ℕ) (n p : ℕ) → option_map (λ j. n + j) o ≡ Some p → (j : ℕ) × (o ≡ Some j) × (n + j ≡ p)
behind_from None n p e = absurd (cc)
behind_from (Some j) n p e = let s : n + j ≡ p = cc in (j, refl, s)

unheld : (lines : Lines) (n : ℕ) (rest : Lines) (held : List ℕ → Option ℕ) (a : List ℕ) (p : ℕ) → KnowsTo lines n rest held
    → held a ≡ None → first_place lines a ≡ Some p → (j : ℕ) × (first_place rest a ≡ Some j) × (n + j ≡ p)
unheld lines n rest held a p known none e =
    behind_from (first_place rest a) n p (sym (ap (λ o. or_else o (option_map (λ j. n + j) (first_place rest a))) none)
    ∙ known.each a ∙ e)

-- a label that stands before the line n
before_has : (lines : Lines) (names : List (List ℕ)) (n : ℕ) (rest : Lines) (held : List ℕ → Option ℕ) (before : List ℕ)
    (a : List ℕ) (p : ℕ)
    → At lines names n rest held before → first_place lines a ≡ Some p → p < n → has before (number_in names a) ≡ true
before_has lines names n rest held before a p h e low = by (held a) refl
  where
    by : (o : Option ℕ) → held a ≡ o → has before (number_in names a) ≡ true
    by (Some k) f = h.seen a k f
    by None f = let u = unheld lines n rest held a p h.known f e in let w : n + u.0 ≡ p = u.2 in absurd (omega arith)

-- and one that stands at it or behind
behind_has : (lines : Lines) (names : List (List ℕ)) (n : ℕ) (rest : Lines) (held : List ℕ → Option ℕ) (before : List ℕ)
    (a : List ℕ) (p : ℕ)
    → At lines names n rest held before → first_place lines a ≡ Some p → n ≤ p → has (labels (items_by names rest))
    (number_in names a) ≡ true
behind_has lines names n rest held before a p h e high = by (held a) refl
  where
    by : (o : Option ℕ) → held a ≡ o → has (labels (items_by names rest)) (number_in names a) ≡ true
    by (Some k) f =
        let l = h.low a k f in
        let g = sym (known_place lines n rest held a k h.known f) ∙ e in
        let s : k ≡ p = cc in
        absurd (omega arith)
    by None f = let u = unheld lines n rest held a p h.known f e in has_standing names rest a u.0 u.1

-- ---- what is judged of the items

record Good (all before : List ℕ) (kinds : List NoteKind) (items : List Item) : Type 0 where
  placed : are_placed items ≡ true
  there : list_all (is_there all) items ≡ true
  formed : list_all is_formed items ≡ true
  notes : notes_stand before kinds items ≡ true

none_good : (all before : List ℕ) (kinds : List NoteKind) → is_empty kinds ≡ true → Good all before kinds []
unfolding are_placed notes_stand
none_good all before kinds h = record { placed = refl; there = refl; formed = refl; notes = h }

label_good : (names : List (List ℕ)) (all before : List ℕ) (kinds : List NoteKind) (o : Option (List ℕ)) (items : List Item)
    → ((b : List ℕ) → o ≡ Some b → has (labels items) (number_in names b) ≡ false) → Good all (next_before names o before) kinds items
    → Good all before kinds (option_to_list (label_item names o) ++ items)
unfolding are_placed notes_stand
label_good names all before kinds None items fresh h = h
label_good names all before kinds (Some b) items fresh h = record {
  placed = and_from (not (has (labels items) (number_in names b))) (are_placed items) (ap not (fresh b refl)) h.placed;
  there = h.there;
  formed = h.formed;
  notes = h.notes;
}

below_true : (n m : ℕ) → nat_lt n m ≡ true → n < m
below_true n m h = grind (arith, nat_tests)

named_is : (n m : ℕ) → n < m → min n (m - 1) ≡ n
named_is n m h = omega arith

note_good : (all before : List ℕ) (kinds : List NoteKind) (k : NoteKind) (v : ℕ) (items : List Item) → saying_fits (note k v) ≡ true
    → has_kind k kinds ≡ false → Good all before (kinds ++ k ∷ []) items → Good all before kinds (item.Note k (named v) ∷ items)
unfolding are_placed notes_stand
note_good all before kinds k v items fits fresh h =
    let parts = and_parts (nat_lt v (2 ^ 32)) (value_fits k v) fits in
    let value = ap (value_fits k) (named_is v (2 ^ 32) (below_true v (2 ^ 32) parts.0)) ∙ parts.1 in
    record {
      placed = h.placed;
      there = h.there;
      formed = h.formed;
      notes = and_from (value_fits k (named v) && not (has_kind k kinds)) (notes_stand before (kinds ++ k ∷ []) items)
          (and_from (value_fits k (named v)) (not (has_kind k kinds)) value (ap not fresh)) h.notes;
    }

all_rest : (i : Inst) (form : Form) (kinds : List NoteKind) → written i ≡ form → has_target i ≡ false
    → AllByRecursion (λ k. may_rest k form.mnemonic ≡ true) kinds → list_all (λ k. program.may_rest k i) kinds ≡ true
all_rest i form [] e t h = refl
all_rest i form (k ∷ kinds) e t h =
    and_from (program.may_rest k i) (list_all (λ k. program.may_rest k i) kinds) (may_rest_too k i form e t h.0)
    (all_rest i form kinds e t h.1)

whole_good : (all before : List ℕ) (kinds : List NoteKind) (form : Form) (o : Option Inst) (items : List Item)
    → made form.mnemonic form.operands ≡ o → is_some o ≡ true → IsMadeOf form → has_label form.operands ≡ false
    → AllByRecursion (λ k. may_rest k form.mnemonic ≡ true) kinds → Good all before [] items
    → Good all before kinds (option_to_list (option_map (λ i. item.Whole i) o) ++ items)
unfolding are_placed notes_stand
whole_good all before kinds form None items e some well label may h = absurd (cc)
whole_good all before kinds form (Some i) items e some well label may h =
    let w = well i e in
    let aims : has_target i ≡ false = sym (has_back i) ∙ ap (λ f. has_label f.operands) w.0 ∙ label in
    record {
      placed = h.placed;
      there = h.there;
      formed = and_from (not (has_target i)) (list_all is_formed items) (ap not aims) h.formed;
      notes = and_from (list_all (λ k. program.may_rest k i) kinds) (notes_stand before [] items)
          (all_rest i form kinds w.0 aims may) h.notes;
    }

all_aim : (i : Inst) (form : Form) (l : ℕ) (before : List ℕ) (back : Bool) (kinds : List NoteKind) → written i ≡ form
    → has_target i ≡ true
    → (back ≡ true → has before l ≡ true) → AllByRecursion (λ k. may_aim k form.mnemonic back ≡ true) kinds
    → list_all (λ k. program.may_aim before k i (target.Label l)) kinds ≡ true
all_aim i form l before back [] e t f h = refl
all_aim i form l before back (k ∷ kinds) e t f h =
    and_from (program.may_aim before k i (target.Label l)) (list_all (λ k. program.may_aim before k i (target.Label l)) kinds)
    (may_aim_too k i form l before back e t h.0 f) (all_aim i form l before back kinds e t f h.1)

aimed_good : (all before : List ℕ) (kinds : List NoteKind) (form : Form) (l : ℕ) (back : Bool) (o : Option Inst) (items : List Item)
    → made form.mnemonic form.operands ≡ o → is_some o ≡ true → IsMadeOf form → has_label form.operands ≡ true
    → (back ≡ true → has before l ≡ true) → (is_loop form.mnemonic ≡ true → has (labels items) l ≡ true) → has all l ≡ true
    → AllByRecursion (λ k. may_aim k form.mnemonic back ≡ true) kinds → Good all before [] items
    → Good all before kinds (option_to_list (option_map (λ i. item.Aimed i (target.Label l)) o) ++ items)
unfolding are_placed notes_stand
aimed_good all before kinds form l back None items e some well label f loop there may h = absurd (cc)
aimed_good all before kinds form l back (Some i) items e some well label f loop there may h =
    let w = well i e in
    let aims : has_target i ≡ true = sym (has_back i) ∙ ap (λ f. has_label f.operands) w.0 ∙ label in
    let least : is_least i ≡ true = sym (ap (λ t. not t || is_least i) aims) ∙ w.1 in
    record {
      placed = and_from (may_precede (labels items) (item.Aimed i (target.Label l))) (are_placed items)
          (aimed_precedes i form (labels items) l w.0 loop) h.placed;
      there = and_from (has all l) (list_all (is_there all) items) there h.there;
      formed = and_from (has_target i && is_least i) (list_all is_formed items) (and_from (has_target i)
          (is_least i) aims least) h.formed;
      notes = and_from (list_all (λ k. program.may_aim before k i (target.Label l)) kinds) (notes_stand before [] items)
          (all_aim i form l before back kinds w.0 aims f may) h.notes;
    }

-- ---- one line

-- a label that isn't missed has a place, which for a LOOP is behind
aimed_place : (loop : Bool) (n : ℕ) (o : Option ℕ) → misses loop n o ≡ false → (p : ℕ) × (o ≡ Some p) × (loop ≡ true → n < p)
aimed_place loop n None h = absurd (cc)
aimed_place loop n (Some p) h = (p, refl, λ e. above (sym (ap (λ t. t && nat_le p n) e) ∙ h))
  where
    above : nat_le p n ≡ false → n < p
    above h = grind (arith, nat_tests)

back_place : (n p : ℕ) (o : Option ℕ) → o ≡ Some p → is_back n o ≡ true → p < n + 1
back_place n p o e h = at_most (sym (ap (is_back n) e) ∙ h)
  where
    at_most : nat_le p n ≡ true → p < n + 1
    at_most h = grind (arith, nat_tests)

pending_next : (places : List ℕ → Option ℕ) (n : ℕ) (s : Saying) (kinds : List NoteKind) (rest : Lines)
    → is_lost_note places n s rest ≡ false
    → AllByRecursion (λ k. else_ (may_stand_on places k n s) (may_stand places k (n + 1) rest) ≡ true) kinds
    → AllByRecursion (λ k. may_stand places k (n + 1) rest ≡ true) (kinds_said kinds s)
pending_next places n nothing kinds rest lost h = h
pending_next places n (note k v) kinds rest lost h =
    all_push (λ k. may_stand places k (n + 1) rest ≡ true) kinds k h (not_false (may_stand places k (n + 1) rest) lost)
pending_next places n (whole form) kinds rest lost h = tt
pending_next places n (aimed form a) kinds rest lost h = tt

said_good : (lines : Lines) (names : List (List ℕ)) (n : ℕ) (s : Saying) (rest : Lines) (held : List ℕ → Option ℕ) (before : List ℕ)
    (kinds : List NoteKind)
    → At lines names (n + 1) rest held before → saying_fits s ≡ true → is_second_note kinds s ≡ false
    → aims_badly (first_place lines) n s ≡ false → IsMadeSaying s → IsLabelledSaying s
    → AllByRecursion (λ k. else_ (may_stand_on (first_place lines) k n s) (may_stand (first_place lines) k (n + 1) rest) ≡ true) kinds
    → Good (labels (items_by names lines)) before (kinds_said kinds s) (items_by names rest)
    → Good (labels (items_by names lines)) before kinds (option_to_list (saying_item names s) ++ items_by names rest)
said_good lines names n nothing rest held before kinds at fits fresh aims well label may h = h
said_good lines names n (note k v) rest held before kinds at fits fresh aims well label may h =
    note_good (labels (items_by names lines)) before kinds k v (items_by names rest) fits fresh h
said_good lines names n (whole form) rest held before kinds at fits fresh aims well label may h =
    whole_good (labels (items_by names lines)) before kinds form (made form.mnemonic form.operands)
    (items_by names rest) refl fits well label may h
said_good lines names n (aimed form a) rest held before kinds at fits fresh aims well label may h =
    let place = aimed_place (is_loop form.mnemonic) n (first_place lines a) aims in
    aimed_good (labels (items_by names lines)) before kinds form (number_in names a) (is_back n (first_place lines a))
    (made form.mnemonic form.operands) (items_by names rest) refl fits well label
    (λ back. before_has lines names (n + 1) rest held before a place.0 at place.1 (back_place n place.0
    (first_place lines a) place.1 back))
    (λ loop. behind_has lines names (n + 1) rest held before a place.0 at place.1 (let l = place.2 loop in omega arith))
    (has_standing names lines a place.0 place.1) may h

-- the label of a line stands on none behind
fresh_label : (lines : Lines) (names : List (List ℕ)) (n : ℕ) (said : Said) (rest : Lines) (held : List ℕ → Option ℕ) (before : List ℕ)
    (kinds : List NoteKind) (b : List ℕ)
    → At lines names (n + 1) rest (next_held held n said) before → Has names b → AllGood (first_place lines) kinds (n + 1) rest
    → said.label ≡ Some b
    → has (labels (option_to_list (saying_item names said.saying) ++ items_by names rest)) (number_in names b) ≡ false
fresh_label lines names n said rest held before kinds b at known good e =
    ap (λ ls. has ls (number_in names b)) (labels_said names said.saying (items_by names rest)) ∙ by (held b) refl
  where
    there : (if is_named b said.label then Some n else None) ≡ Some n
    there = ap (λ o. if is_named b o then Some n else None) e ∙ ap (λ t. if t then Some n else None) (own_name b)

    found : (k : ℕ) → next_held held n said b ≡ Some k → has (labels (items_by names rest)) (number_in names b) ≡ false
    found k f = absent names (first_place lines) rest kinds (n + 1) b k known (known_place lines (n + 1) rest
        (next_held held n said) b k at.known f)
        (at.low b k f) good

    by : (o : Option ℕ) → held b ≡ o → has (labels (items_by names rest)) (number_in names b) ≡ false
    by None f = found n (ap (λ o. or_else o (if is_named b said.label then Some n else None)) f ∙ there)
    by (Some k) f = found k (ap (λ o. or_else o (if is_named b said.label then Some n else None)) f)

-- ---- all lines

empty_kinds : (kinds : List NoteKind) → AllByRecursion (λ k. false ≡ true) kinds → is_empty kinds ≡ true
empty_kinds [] h = refl
empty_kinds (k ∷ kinds) h = h.0

label_has : (names : List (List ℕ)) (o : Option (List ℕ)) (b : List ℕ) → AllByRecursion (Has names) (option_to_list o) → o ≡ Some b
    → Has names b
label_has names o b h e = (subst (λ o. AllByRecursion (Has names) (option_to_list o)) e h).0

rest_good : (lines : Lines) (names : List (List ℕ)) (rest : Lines) (n : ℕ) (held : List ℕ → Option ℕ) (before : List ℕ)
    (kinds : List NoteKind)
    → At lines names n rest held before → AllGood (first_place lines) kinds n rest
    → AllByRecursion IsMade rest → AllByRecursion IsLabelled rest
    → AllByRecursion (Has names) (flat_map names_told rest) → AllByRecursion (λ k. may_stand (first_place lines) k n rest ≡ true) kinds
    → Good (labels (items_by names lines)) before kinds (items_by names rest)
rest_good lines names [] n held before kinds at good well label known may =
    none_good (labels (items_by names lines)) before kinds (empty_kinds kinds may)
rest_good lines names (None ∷ rest) n held before kinds at good well label known may =
    let f : Some causes.Form ≡ None = good.0 in absurd (cc)
rest_good lines names (Some said ∷ rest) n held before kinds at good well label known may =
    let line = good_line (first_place lines) kinds n said rest good.0 in
    let next = at_next lines names n said rest held before at in
    let all = labels (items_by names lines) in
    let told = all_front (Has names) (names_told (Some said)) (flat_map names_told rest) known in
    let behind = rest_good lines names rest (n + 1) (next_held held n said) (next_before names said.label before)
    (kinds_said kinds said.saying) next
    good.1 well.1 label.1 (all_back (Has names) (names_told (Some said)) (flat_map names_told rest) known)
    (pending_next (first_place lines) n said.saying kinds rest line.stands may) in
    let front = option_to_list (label_item names said.label) in
    let back = option_to_list (saying_item names said.saying) in
    subst (Good all before kinds) (sym (append_assoc front back (items_by names rest)))
    (label_good names all before kinds said.label (back ++ items_by names rest)
    (λ b e. fresh_label lines names n said rest held (next_before names said.label before) (kinds_said kinds said.saying) b next
    (label_has names said.label b (all_front (Has names) (option_to_list said.label) (name_aimed said.saying) told) e) good.1 e)
    (said_good lines names n said.saying rest (next_held held n said)
    (next_before names said.label before) kinds next line.fits line.fresh line.aims
    well.0 label.0 may behind))

judged_good : (items : List Item) → Good (labels items) [] [] items → is_judged_whole items ≡ true
judged_good items h =
    and_from (list_all is_formed items && are_placed items && list_all (is_there (labels items)) items) (notes_stand [] [] items)
    (and_from (list_all is_formed items && are_placed items) (list_all (is_there (labels items)) items)
    (and_from (list_all is_formed items) (are_placed items) h.formed h.placed) h.there)
    h.notes

pub items_whole : (lines : Lines) → AreGood (length lines) lines → AllByRecursion IsMade lines → AllByRecursion IsLabelled lines
    → IsWhole (items_of lines)
items_whole lines good well label =
    let start : At lines (names_of lines) 0 lines (λ a. None) [] = record {
      known = knows_begin lines (λ a. None) (λ a. refl);
      low = λ a k e. absurd (cc);
      seen = λ a k e. absurd (cc);
    } in
    let judged = judged_good (items_of lines) (rest_good lines (names_of lines) lines 0 (λ a. None) [] [] start
    (all_good lines lines 0 refl good)
    well label (all_have [] (flat_map names_told lines)) tt) in
    (judged_result (Ok true) (items_of lines) (sym judged)).0 refl
