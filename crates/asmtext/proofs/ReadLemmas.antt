-- How many names and items there are, and the line that has an item.
use Rattle.std.proofs.Common.{◌≡◌, ℕ, suc, ◌+◌, ◌-◌, ◌*◌, ◌<◌, ◌≤◌, ◌^◌, List, [], ◌∷◌, ◌++◌, Bool, true, false, Option, Some, None}
use Rattle.std.proofs.Common.{refl, ap, sym, ◌∙◌, arith, length, map, take, slice_get, inl, inr}
use Rattle.std.specs.Prelude.{fold, min, option_map, option_to_list, if◌then◌else◌}
use Rattle.std.specs.List.{list_any, flat_map}
use Rattle.std.specs.Str.{bytes_eq}
use Rattle.std.proofs.lemmas.List.{length-append, flat_map_more, take_more, take_all}
use Rattle.std.proofs.lemmas.Option.{get_or_from_slice_get}
use Rattle.isa.specs.declared.program.Item.{Item}
use Rattle.branchfit.specs.Fits.{IsLayout, named}
use Rattle.branchfit.specs.Laid.{Layout, place_behind}
use Rattle.branchfit.specs.Loops.{first_long, is_long_loop, IsLongLoop}
use Rattle.asmline.specs.declared.line.Line.{Line}
use Rattle.asmline.specs.Said.{Saying, nothing, note, whole, aimed, Said}
use Rattle.asmtext.specs.declared.cause.AsmCause.{AsmCause}
use Rattle.asmtext.specs.declared.cause.AsmCause.TheVariants as causes
use Rattle.asmtext.specs.Causes.{AreGood, IsFirstBad}
use Rattle.asmtext.specs.Held.{told, all_told}
use Rattle.asmtext.specs.Items.{label_item, saying_item, line_items, items_of}
use Rattle.asmtext.specs.Labels.{Lines, name_aimed, names_told, names_of, with_name}
use Rattle.asmtext.specs.Reading.{items_before, IsItemOf, IsLongLine, IsBadLine}
use Rattle.asmtext.proofs.JudgeLemmas.{told_length}

-- ---- names

with_name_grows : (names : List (List ℕ)) (b : List ℕ) → length (with_name names b) ≤ length names + 1
with_name_grows names b = by (list_any (bytes_eq b) names)
  where
    by : (t : Bool) → length (if t then names else names ++ b ∷ []) ≤ length names + 1
    by true = omega arith
    by false = omega (arith, length-append names (b ∷ []))

fold_grows : (more names : List (List ℕ)) → length (fold with_name names more) ≤ length names + length more
fold_grows [] names = omega arith
fold_grows (b ∷ more) names = let e = fold_grows more (with_name names b) in let f = with_name_grows names b in omega arith

told_few : (o : Option (List ℕ)) (s : Saying) → length (option_to_list o ++ name_aimed s) ≤ 2
told_few None nothing = omega arith
told_few None (note k v) = omega arith
told_few None (whole form) = omega arith
told_few None (aimed form a) = omega arith
told_few (Some b) nothing = omega arith
told_few (Some b) (note k v) = omega arith
told_few (Some b) (whole form) = omega arith
told_few (Some b) (aimed form a) = omega arith

line_few : (line : Option Said) → length (names_told line) ≤ 2
line_few None = omega arith
line_few (Some said) = told_few said.label said.saying

flat_few : {X : Type 0} (f : Option Said → List X) → ((line : Option Said) → length (f line) ≤ 2) → (lines : Lines)
    → length (flat_map f lines) ≤ 2 * length lines
flat_few f few [] = omega arith
flat_few f few (line ∷ lines) =
    let e = flat_few f few lines in
    let g = few line in
    omega (arith, length-append (f line) (flat_map f lines))

pub names_few : (lines : Lines) → length (names_of lines) ≤ 2 * length lines
names_few lines = let e = fold_grows (flat_map names_told lines) [] in let f = flat_few names_told line_few lines in omega arith

pub held_few : (lines : List (Option Line)) (names : List (List ℕ)) → length lines < 2 ^ 31 → names ≡ names_of (all_told lines)
    → length names < 2 ^ 32
held_few lines names h e = omega (arith, names_few (all_told lines), told_length lines, ap length e)

-- ---- items

options_few : (a b : Option Item) → length (option_to_list a ++ option_to_list b) ≤ 2
options_few None None = omega arith
options_few None (Some b) = omega arith
options_few (Some a) None = omega arith
options_few (Some a) (Some b) = omega arith

pub line_items_few : (names : List (List ℕ)) (line : Option Said) → length (line_items names line) ≤ 2
line_items_few names None = omega arith
line_items_few names (Some said) = options_few (label_item names said.label) (saying_item names said.saying)

pub items_few : (lines : Lines) → length (items_of lines) ≤ 2 * length lines
items_few lines = flat_few (line_items (names_of lines)) (line_items_few (names_of lines)) lines

pub before_more : (lines : Lines) (i : ℕ) (line : Option Said) → i < length lines → slice_get lines i ≡ Some line
    → length (items_before lines (i + 1)) ≡ length (items_before lines i) + length (line_items (names_of lines) line)
before_more lines i line h at =
    let f = line_items (names_of lines) in
    ap (λ ls. length (flat_map f ls))
    (take_more lines i line h ∙ ap (λ x. take i lines ++ x ∷ []) (get_or_from_slice_get lines i line line at))
    ∙ ap length (sym (flat_map_more f [] (take i lines) line))
    ∙ length-append (flat_map f (take i lines)) (f line)

pub before_all : (lines : Lines) (n : ℕ) → length lines ≤ n → items_before lines n ≡ items_of lines
before_all lines n h = ap (flat_map (line_items (names_of lines))) (take_all n lines h)

-- ---- loops

long_within : (layout : Layout) (p : ℕ) (items : List Item) (m : ℕ) → first_long layout p items ≡ Some m → m < length items
unfolding first_long
long_within layout p [] m e = absurd (cc)
long_within layout p (i ∷ items) m e = by (is_long_loop layout p i) (first_long layout (place_behind p i) items)
    (λ k f. long_within layout (place_behind p i) items k f) e
  where
    by : (t : Bool) (o : Option ℕ) → ((k : ℕ) → o ≡ Some k → k < length items) → (if t then Some 0 else option_map suc o) ≡ Some m
        → m < length (i ∷ items)
    by true o f e = let s : 0 ≡ m = cc in omega arith
    by false None f e = absurd (cc)
    by false (Some k) f e = let s : suc k ≡ m = cc in let l = f k refl in omega arith

pub record Found (items : List Item) (item : ℕ) : Type 0 where
  pub layout : Layout
  pub places : IsLayout items layout
  pub first : first_long layout 0 items ≡ Some item
  pub within : item < length items

pub found : (items : List Item) (item : ℕ) → length items < 2 ^ 32 → IsLongLoop items (Some item) → Found items item
found items item few h = by (first_long h.layout 0 items) refl
  where
    by : (o : Option ℕ) → first_long h.layout 0 items ≡ o → Found items item
    by None f = let e : Some item ≡ None = h.first ∙ ap (option_map named) f in absurd (cc)
    by (Some m) f =
        let e : Some item ≡ Some (named m) = h.first ∙ ap (option_map named) f in
        let w = long_within h.layout 0 items m f in
        let n : named m ≡ m = omega arith in
        let s : m ≡ item = cc in
        record { layout = h.layout; places = h.places; first = f ∙ ap Some s; within = omega arith }

pub long_line : (lines : Lines) (item number : ℕ) → AreGood (length lines) lines → Found (items_of lines) item
    → IsItemOf lines item number
    → IsBadLine lines (number + 1) causes.Range
long_line lines item number good f line = record {
  number = number;
  counted = refl;
  why = inr (record {
    good = good;
    layout = f.layout;
    places = f.places;
    item = item;
    first = f.first;
    line = line;
    range = refl;
  });
}

pub good_told : (lines : List (Option Line)) → AreGood (length lines) (all_told lines) → AreGood (length (all_told lines))
    (all_told lines)
good_told lines good k h = good k (omega (arith, told_length lines))

pub first_line : (lines : Lines) (number : ℕ) (cause : AsmCause) → IsFirstBad lines number cause → IsBadLine lines (number + 1) cause
first_line lines number cause h = record { number = number; counted = refl; why = inl h }
