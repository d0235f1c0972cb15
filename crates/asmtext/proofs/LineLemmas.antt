-- Good lines, and the labels on them.
use Rattle.std.proofs.Common.{◌≡◌, ℕ, suc, ◌+◌, ◌<◌, List, [], ◌∷◌, ◌++◌, Bool, true, false, not, ◌||◌, Option, Some, None, refl, ap}
use Rattle.std.proofs.Common.{sym, subst, ◌∙◌, arith, length, take, drop, get_or, slice_get}
use Rattle.std.specs.Prelude.{nat_eq, nat_lt, option_map, option_to_list, if◌then◌else◌}
use Rattle.std.specs.List.{flat_map}
use Rattle.std.specs.Str.{bytes_eq}
use Rattle.std.proofs.lemmas.Bool.Decides.{nat_tests}
use Rattle.std.proofs.lemmas.List.{at_drop_more, length-drop, append-nil}
use Rattle.std.proofs.lemmas.Option.{slice_get-get_or}
use Rattle.isa.specs.declared.inst.Inst.{Inst}
use Rattle.isa.specs.declared.note.NoteKind.{NoteKind}
use Rattle.isa.specs.declared.program.Item.{Item}
use Rattle.isa.specs.declared.program.Item.TheVariants as item
use Rattle.isa.specs.declared.program.Target.TheVariants as target
use Rattle.isa.specs.Judging.{has}
use Rattle.isa.specs.Program.{labels}
use Rattle.asmword.specs.Instructions.{made}
use Rattle.asmword.specs.Words.{is_below}
use Rattle.asmline.specs.Said.{Saying, nothing, note, whole, aimed, Said, saying_fits}
use Rattle.asmtext.specs.declared.cause.AsmCause.{AsmCause}
use Rattle.asmtext.specs.declared.cause.AsmCause.TheVariants as causes
use Rattle.asmtext.specs.Causes.{is_second_note, is_out_of_range, is_second_place, aims_badly, has_bad_label, is_lost_note, cause_of}
use Rattle.asmtext.specs.Causes.{cause_at, AreGood}
use Rattle.asmtext.specs.Held.{or_else}
use Rattle.asmtext.specs.Items.{label_item, saying_item, line_items}
use Rattle.asmtext.specs.Labels.{Lines, is_named, stands_on, first_place, number_in}
use Rattle.asmtext.specs.Notes.{kinds_after, kinds_behind}
use Rattle.asmtext.proofs.JudgeLemmas.{cause_is, kinds_more}
use Rattle.asmtext.proofs.NumberLemmas.{same_name, Has, same_number}
use Rattle.asmtext.proofs.OnceLemmas.{or_right, or_left}

-- ---- tests

or_parts : (a b : Bool) → (a || b) ≡ false → (a ≡ false) × (b ≡ false)
or_parts false b h = (refl, h)
or_parts true b h = (h, let e : true ≡ false = h in cc)

cause_parts : (r l t : Bool)
    → (if r then Some causes.Range else (if l then Some causes.Label else (if t then Some causes.Note else None))) ≡ None
    → (r ≡ false) × (l ≡ false) × (t ≡ false)
cause_parts false false false h = (refl, refl, refl)
cause_parts false false true h = absurd (cc)
cause_parts false true t h = absurd (cc)
cause_parts true l t h = absurd (cc)

pub not_false : (t : Bool) → not t ≡ false → t ≡ true
not_false true h = refl
not_false false h = sym h

pub same_test : (x y : ℕ) → x ≡ y → nat_eq x y ≡ true
same_test x y e = grind (arith, nat_tests)

test_same : (x y : ℕ) → nat_eq x y ≡ true → x ≡ y
test_same x y h = grind (arith, nat_tests)

pub not_below : (k n : ℕ) → k < n → nat_lt k n ≡ false → ⊥
not_below k n h e = grind (arith, nat_tests)

-- ---- good lines

pub record GoodLine (places : List ℕ → Option ℕ) (kinds : List NoteKind) (n : ℕ) (said : Said) (rest : Lines) : Type 0 where
  pub fits : saying_fits said.saying ≡ true
  pub fresh : is_second_note kinds said.saying ≡ false
  pub once : is_second_place places n said.label ≡ false
  pub aims : aims_badly places n said.saying ≡ false
  pub stands : is_lost_note places n said.saying rest ≡ false

pub good_line : (places : List ℕ → Option ℕ) (kinds : List NoteKind) (n : ℕ) (said : Said) (rest : Lines)
    → cause_of places kinds n (Some said) rest ≡ None → GoodLine places kinds n said rest
good_line places kinds n said rest h =
    let parts = cause_parts (is_out_of_range kinds said.saying) (has_bad_label places n said)
    (is_lost_note places n said.saying rest) h in
    let range = or_parts (not (saying_fits said.saying)) (is_second_note kinds said.saying) parts.0 in
    let label = or_parts (is_second_place places n said.label) (aims_badly places n said.saying) parts.1 in
    record {
      fits = not_false (saying_fits said.saying) range.0;
      fresh = range.1;
      once = label.0;
      aims = label.1;
      stands = parts.2;
    }

-- from the line with the number n on
abbrev pub AllGood : (List ℕ → Option ℕ) → List NoteKind → ℕ → Lines → Type 0
AllGood places kinds n [] = Unit {0}
AllGood places kinds n (line ∷ rest) = (cause_of places kinds n line rest ≡ None) × AllGood places (kinds_after kinds line) (n + 1) rest

pub all_good : (lines rest : Lines) (n : ℕ) → drop n lines ≡ rest → AreGood (length lines) lines
    → AllGood (first_place lines) (kinds_behind (take n lines)) n rest
all_good lines [] n e good = tt
all_good lines (line ∷ rest) n e good =
    let h : n < length lines = omega (arith, length-drop n lines, ap length e) in
    let more : drop n lines ≡ get_or lines n line ∷ drop (n + 1) lines = at_drop_more (λ ls. ls) lines n line h in
    let here : get_or lines n line ≡ line = cc in
    let behind : drop (n + 1) lines ≡ rest = cc in
    let at : slice_get lines n ≡ Some line = slice_get-get_or lines n line h ∙ ap Some here in
    let kinds = kinds_behind (take n lines) in (
      ap (cause_of (first_place lines) kinds n line) (sym behind)
          ∙ cause_is lines (first_place lines) kinds n line (λ a. refl) refl at ∙ good n h,
      subst (λ ks. AllGood (first_place lines) ks (n + 1) rest) (kinds_more lines n line h at) (all_good lines rest (n + 1) behind good),
    )

-- ---- the labels of items

abbrev pub items_by : List (List ℕ) → Lines → List Item
items_by names rest = flat_map (line_items names) rest

labels_join : (xs ys : List Item) → labels (xs ++ ys) ≡ labels xs ++ labels ys
labels_join [] ys = refl
labels_join (item.Label l ∷ xs) ys = ap (λ r. l ∷ r) (labels_join xs ys)
labels_join (item.Note k v ∷ xs) ys = labels_join xs ys
labels_join (item.Source n ∷ xs) ys = labels_join xs ys
labels_join (item.Whole i ∷ xs) ys = labels_join xs ys
labels_join (item.Aimed i t ∷ xs) ys = labels_join xs ys

whole_none : (o : Option Inst) → labels (option_to_list (option_map (λ i. item.Whole i) o)) ≡ []
whole_none None = refl
whole_none (Some i) = refl

aimed_none : (n : ℕ) (o : Option Inst) → labels (option_to_list (option_map (λ i. item.Aimed i (target.Label n)) o)) ≡ []
aimed_none n None = refl
aimed_none n (Some i) = refl

said_none : (names : List (List ℕ)) (s : Saying) → labels (option_to_list (saying_item names s)) ≡ []
said_none names nothing = refl
said_none names (note k v) = refl
said_none names (whole form) = whole_none (made form.mnemonic form.operands)
said_none names (aimed form a) = aimed_none (number_in names a) (made form.mnemonic form.operands)

pub labels_said : (names : List (List ℕ)) (s : Saying) (rest : List Item)
    → labels (option_to_list (saying_item names s) ++ rest) ≡ labels rest
labels_said names s rest =
    labels_join (option_to_list (saying_item names s)) rest ∙ ap (λ ls. ls ++ labels rest) (said_none names s)

abbrev pub label_numbers : List (List ℕ) → Option (List ℕ) → List ℕ
label_numbers names None = []
label_numbers names (Some a) = number_in names a ∷ []

labels_label : (names : List (List ℕ)) (o : Option (List ℕ)) → labels (option_to_list (label_item names o)) ≡ label_numbers names o
labels_label names None = refl
labels_label names (Some a) = refl

pub labels_line : (names : List (List ℕ)) (said : Said) (rest : Lines)
    → labels (items_by names (Some said ∷ rest)) ≡ label_numbers names said.label ++ labels (items_by names rest)
labels_line names said rest =
    let front = option_to_list (label_item names said.label) in
    let back = option_to_list (saying_item names said.saying) in
    labels_join (front ++ back) (items_by names rest)
    ∙ ap (λ ls. ls ++ labels (items_by names rest)) (labels_join front back ∙ ap (λ ls. labels front ++ ls) (said_none names said.saying)
    ∙ append-nil (labels front) ∙ labels_label names said.label)

-- ---- labels that stand

later : (a : List ℕ) (k : ℕ) (t : Bool) (o : Option ℕ) → ((j : ℕ) → o ≡ Some j → t ≡ true) → option_map suc o ≡ Some k → t ≡ true
later a k t None f e = absurd (cc)
later a k t (Some j) f e = f j refl

stands_label : (names : List (List ℕ)) (o : Option (List ℕ)) (a : List ℕ) (k : ℕ) (tail : List ℕ) (first : Option ℕ)
    → ((j : ℕ) → first ≡ Some j → has tail (number_in names a) ≡ true)
    → (if is_named a o then Some 0 else option_map suc first) ≡ Some k → has (label_numbers names o ++ tail) (number_in names a) ≡ true
stands_label names None a k tail first f e = later a k (has tail (number_in names a)) first f e
stands_label names (Some b) a k tail first f e = by (bytes_eq b a) refl e
  where
    by : (t : Bool) → bytes_eq b a ≡ t → (if t then Some 0 else option_map suc first) ≡ Some k
        → (nat_eq (number_in names a) (number_in names b) || has tail (number_in names a)) ≡ true
    by true g e =
        or_left (nat_eq (number_in names a) (number_in names b)) (has tail (number_in names a))
        (same_test (number_in names a) (number_in names b) (ap (number_in names) (sym (same_name b a g))))
    by false g e =
        or_right (nat_eq (number_in names a) (number_in names b)) (has tail (number_in names a))
        (later a k (has tail (number_in names a)) first f e)

pub has_standing : (names : List (List ℕ)) (rest : Lines) (a : List ℕ) (k : ℕ) → first_place rest a ≡ Some k
    → has (labels (items_by names rest)) (number_in names a) ≡ true
has_standing names [] a k e = absurd (cc)
has_standing names (None ∷ rest) a k e =
    later a k (has (labels (items_by names rest)) (number_in names a)) (first_place rest a) (λ j f. has_standing names rest a j f) e
has_standing names (Some said ∷ rest) a k e =
    ap (λ ls. has ls (number_in names a)) (labels_line names said rest)
    ∙ stands_label names said.label a k (labels (items_by names rest)) (first_place rest a) (λ j f. has_standing names rest a j f) e

-- ---- labels that don't stand any more

absent_label : (names : List (List ℕ)) (places : List ℕ → Option ℕ) (o : Option (List ℕ)) (n : ℕ) (a : List ℕ) (k : ℕ) (tail : List ℕ)
    → Has names a → places a ≡ Some k → k < n → is_second_place places n o ≡ false → has tail (number_in names a) ≡ false
    → has (label_numbers names o ++ tail) (number_in names a) ≡ false
absent_label names places None n a k tail h e low once f = f
absent_label names places (Some b) n a k tail h e low once f = by (nat_eq (number_in names a) (number_in names b)) refl
  where
    by : (t : Bool) → nat_eq (number_in names a) (number_in names b) ≡ t → (t || has tail (number_in names a)) ≡ false
    by true g =
        let s : a ≡ b = same_number names a b h (test_same (number_in names a) (number_in names b) g) in
        let p : places b ≡ Some k = ap places (sym s) ∙ e in
        absurd (not_below k n low (sym (ap (is_below n) p) ∙ once))
    by false g = f

pub absent : (names : List (List ℕ)) (places : List ℕ → Option ℕ) (rest : Lines) (kinds : List NoteKind) (n : ℕ) (a : List ℕ) (k : ℕ)
    → Has names a → places a ≡ Some k → k < n → AllGood places kinds n rest
    → has (labels (items_by names rest)) (number_in names a) ≡ false
absent names places [] kinds n a k h e low good = refl
absent names places (None ∷ rest) kinds n a k h e low good = let f : Some causes.Form ≡ None = good.0 in absurd (cc)
absent names places (Some said ∷ rest) kinds n a k h e low good =
    ap (λ ls. has ls (number_in names a)) (labels_line names said rest)
    ∙ absent_label names places said.label n a k (labels (items_by names rest)) h e low (good_line places kinds n said rest good.0).once
    (absent names places rest (kinds_after kinds (Some said)) (n + 1) a k h e (omega arith) good.1)
