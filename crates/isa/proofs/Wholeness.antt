-- The tests on a program are passed exactly by those that are whole.
use Rattle.std.proofs.Common.{◌≡◌, ℕ, List, [], ◌∷◌, ◌++◌, Bool, true, false, refl, ap, sym, ◌∙◌, arith}
use Rattle.std.specs.Prelude.{Result, Ok, Err, IfOk, ◌&&◌, ◌||◌, ◌==◌, ◌↔◌, nat_eq, not, if◌then◌else◌, IsTrue, All, Contains}
use Rattle.std.specs.Cmp.{nat_eq_equiv}
use Rattle.std.specs.List.{list_all, list_any, AllByRecursion, IsDistinct}
use Rattle.std.proofs.lemmas.Bool.Decides.{nat_tests}
use Rattle.std.proofs.lemmas.List.Elements.{All-nil, All-cons, All-head, All-tail}
use Rattle.std.proofs.lemmas.List.Folds.{list_any_at}
use Rattle.std.proofs.lemmas.Map.Views.{list_any-from_Contains, Contains-from_any}
use Rattle.prunum.specs.declared.memory.Memory.{Memory}
use Rattle.isa.specs.declared.inst.Inst.{Inst}
use Rattle.isa.specs.declared.inst.Inst.TheVariants.{Loop}
use Rattle.isa.specs.declared.note.NoteKind.{NoteKind}
use Rattle.isa.specs.declared.note.NoteKind.TheVariants.{Enter, DelayIn, DelayOut, Leave, Own, Return, Turns}
use Rattle.isa.specs.declared.program.Item.{Item}
use Rattle.isa.specs.declared.program.Item.TheVariants as item
use Rattle.isa.specs.declared.program.Target.{Target}
use Rattle.isa.specs.declared.program.Target.TheVariants as target
use Rattle.isa.specs.Judging.{has, has_kind, may_precede, are_placed, is_there, notes_stand, is_judged_whole}
use Rattle.isa.specs.Note.{kind_number, value_fits}
use Rattle.isa.specs.Program.{IsWhole, LoopsEndBehind, NotesStand, labels, used, is_formed, may_aim, may_rest}

-- ---- tests and facts

first_of : (a b : Bool) → (a && b) ≡ true → a ≡ true
first_of true b h = refl
first_of false b h = h

last_of : (a b : Bool) → (a && b) ≡ true → b ≡ true
last_of true b h = h
last_of false b h = cc

both_of : (a b : Bool) → a ≡ true → b ≡ true → (a && b) ≡ true
both_of a b e f = rw (e, f)

not_true : (b : Bool) → not b ≡ true → b ≡ true → ⊥
not_true true h e = cc
not_true false h e = cc

not_false : (b : Bool) → (b ≡ true → ⊥) → not b ≡ true
not_false true h = absurd (h refl)
not_false false h = refl

equal_numbers : (x y : ℕ) → nat_eq x y ≡ true → x ≡ y
equal_numbers x y e = grind (arith, nat_tests)

contained : (ls : List ℕ) (l : ℕ) → has ls l ≡ true → Contains ls l
contained ls l h = Contains-from_any {eq = nat_eq} equal_numbers l ls h

found : (ls : List ℕ) (l : ℕ) → Contains ls l → has ls l ≡ true
found ls l h = list_any-from_Contains nat_eq_equiv l ls h

all_pass : {X : Type 0} (p : X → Bool) (xs : List X) → list_all p xs ≡ true → All (λ x. IsTrue (p x)) xs
all_pass p [] h = All-nil (λ x. IsTrue (p x))
all_pass p (x ∷ xs) h = All-cons (λ x. IsTrue (p x)) x xs (first_of (p x) (list_all p xs) h)
    (all_pass p xs (last_of (p x) (list_all p xs) h))

pass_all : {X : Type 0} (p : X → Bool) (xs : List X) → All (λ x. IsTrue (p x)) xs → list_all p xs ≡ true
pass_all p [] h = refl
pass_all p (x ∷ xs) h = both_of (p x) (list_all p xs) (All-head (λ x. IsTrue (p x)) x xs h)
    (pass_all p xs (All-tail (λ x. IsTrue (p x)) x xs h))

-- ---- labels

apart_first : (b : Bool) (l m : ℕ) (ls : List ℕ) → nat_eq l m ≡ b
    → (list_any (nat_eq l) ls ≡ false → AllByRecursion (λ m. nat_eq l m ≡ false) ls) → (b || list_any (nat_eq l) ls) ≡ false
    → AllByRecursion (λ m. nat_eq l m ≡ false) (m ∷ ls)
apart_first true l m ls e others h = cc
apart_first false l m ls e others h = (e, others h)

apart : (l : ℕ) (ls : List ℕ) → list_any (nat_eq l) ls ≡ false → AllByRecursion (λ m. nat_eq l m ≡ false) ls
apart l [] h = tt
apart l (m ∷ ls) h = apart_first (nat_eq l m) l m ls refl (apart l ls) h

none : (l : ℕ) (ls : List ℕ) → AllByRecursion (λ m. nat_eq l m ≡ false) ls → list_any (nat_eq l) ls ≡ false
none l [] h = refl
none l (m ∷ ls) h = rw (h.0, none l ls h.1)

record ArePlaced (items : List Item) : Type 0 where
  once : IsDistinct nat_eq (labels items)
  loops : LoopsEndBehind items

not_is : (b : Bool) → not b ≡ true → b ≡ false
not_is true h = sym h
not_is false h = refl

aimed_placed : (i : Inst) (t : Target) (items : List Item) → may_precede (labels items) (item.Aimed i t) ≡ true → ArePlaced items
    → ArePlaced (item.Aimed i t ∷ items)
aimed_placed (Loop body) (target.Label l) items h rest = record { once = rest.once; loops = (contained (labels items) l h, rest.loops) }
aimed_placed _ _ items h rest = record { once = rest.once; loops = rest.loops }

item_placed : (i : Item) (items : List Item) → may_precede (labels items) i ≡ true → ArePlaced items → ArePlaced (i ∷ items)
unfolding IsDistinct
item_placed (item.Label l) items h rest = record {
  once = (apart l (labels items) (not_is (has (labels items) l) h), rest.once);
  loops = rest.loops;
}
item_placed (item.Note k v) items h rest = record { once = rest.once; loops = rest.loops }
item_placed (item.Source n) items h rest = record { once = rest.once; loops = rest.loops }
item_placed (item.Whole i) items h rest = record { once = rest.once; loops = rest.loops }
item_placed (item.Aimed i t) items h rest = aimed_placed i t items h rest

placed : (items : List Item) → are_placed items ≡ true → ArePlaced items
unfolding are_placed IsDistinct
placed [] h = record { once = tt; loops = tt }
placed (i ∷ items) h =
    item_placed i items (first_of (may_precede (labels items) i) (are_placed items) h)
    (placed items (last_of (may_precede (labels items) i) (are_placed items) h))

-- an item may stand there, and what is behind it is placed
record IsPlacedFirst (i : Item) (items : List Item) : Type 0 where
  here : may_precede (labels items) i ≡ true
  behind : ArePlaced items

aimed_first : (i : Inst) (t : Target) (items : List Item) → ArePlaced (item.Aimed i t ∷ items) → IsPlacedFirst (item.Aimed i t) items
aimed_first (Loop body) (target.Label l) items h = record {
  here = found (labels items) l h.loops.0;
  behind =
      record { once = h.once; loops = h.loops.1 };
}
aimed_first _ _ items h = record { here = refl; behind = record { once = h.once; loops = h.loops } }

placed_first : (i : Item) (items : List Item) → ArePlaced (i ∷ items) → IsPlacedFirst i items
unfolding IsDistinct
placed_first (item.Label l) items h = record {
  here = ap not (none l (labels items) h.once.0);
  behind =
      record { once = h.once.1; loops = h.loops };
}
placed_first (item.Note k v) items h = record { here = refl; behind = record { once = h.once; loops = h.loops } }
placed_first (item.Source n) items h = record { here = refl; behind = record { once = h.once; loops = h.loops } }
placed_first (item.Whole i) items h = record { here = refl; behind = record { once = h.once; loops = h.loops } }
placed_first (item.Aimed i t) items h = aimed_first i t items h

pass_placed : (items : List Item) → ArePlaced items → are_placed items ≡ true
unfolding are_placed
pass_placed [] h = refl
pass_placed (i ∷ items) h =
    let first = placed_first i items h in
    both_of (may_precede (labels items) i) (are_placed items) first.here (pass_placed items first.behind)

there : (all : List ℕ) (items : List Item) → list_all (is_there all) items ≡ true → All (Contains all) (used items)
there all [] h = All-nil (Contains all)
there all (item.Aimed i (target.Label l) ∷ items) h =
    All-cons (Contains all) l (used items) (contained all l (first_of (has all l) (list_all (is_there all) items) h))
    (there all items (last_of (has all l) (list_all (is_there all) items) h))
there all (item.Aimed i (target.Symbol s k) ∷ items) h = there all items h
there all (item.Label l ∷ items) h = there all items h
there all (item.Note k v ∷ items) h = there all items h
there all (item.Source n ∷ items) h = there all items h
there all (item.Whole i ∷ items) h = there all items h

pass_there : (all : List ℕ) (items : List Item) → All (Contains all) (used items) → list_all (is_there all) items ≡ true
pass_there all [] h = refl
pass_there all (item.Aimed i (target.Label l) ∷ items) h =
    both_of (has all l) (list_all (is_there all) items) (found all l (All-head (Contains all) l (used items) h))
    (pass_there all items (All-tail (Contains all) l (used items) h))
pass_there all (item.Aimed i (target.Symbol s k) ∷ items) h = pass_there all items h
pass_there all (item.Label l ∷ items) h = pass_there all items h
pass_there all (item.Note k v ∷ items) h = pass_there all items h
pass_there all (item.Source n ∷ items) h = pass_there all items h
pass_there all (item.Whole i ∷ items) h = pass_there all items h

-- ---- notes

abbrev same_kind : NoteKind → NoteKind → Bool
same_kind k m = kind_number m == kind_number k

-- a kind has its number alone
kind_again : ℕ → NoteKind
kind_again n =
    if n == 1 then Enter else if n == 2 then DelayIn else if n == 3 then DelayOut else if n == 4 then Leave
    else if n == 5 then Own else if n == 6 then Return else Turns

kind_is : (k : NoteKind) → kind_again (kind_number k) ≡ k
unfolding kind_again
kind_is Enter = refl
kind_is DelayIn = refl
kind_is DelayOut = refl
kind_is Leave = refl
kind_is Own = refl
kind_is Return = refl
kind_is Turns = refl

one_number : (k m : NoteKind) → same_kind k m ≡ true → k ≡ m
one_number k m h =
    let e : kind_number m ≡ kind_number k = grind (arith, nat_tests) in
    sym (kind_is k) ∙ ap kind_again (sym e) ∙ kind_is m

has_one : (kinds : List NoteKind) (k : NoteKind) → has_kind kinds k ≡ true → Contains kinds k
has_one kinds k h = Contains-from_any {eq = same_kind} one_number k kinds h

kind_itself : (k : NoteKind) → same_kind k k ≡ true
kind_itself k = grind (arith, nat_tests)

one_has : (kinds : List NoteKind) (k : NoteKind) → Contains kinds k → has_kind kinds k ≡ true
one_has kinds k h = list_any_at (same_kind k) kinds h.0 k h.1 (ap (same_kind k) h.2 ∙ kind_itself k)

stand : (items : List Item) (before : List ℕ) (kinds : List NoteKind) → notes_stand before kinds items ≡ true
    → NotesStand before kinds items
unfolding notes_stand
stand [] before [] h = refl
stand [] before (k ∷ kinds) h = cc
stand (item.Label l ∷ items) before kinds h = stand items (l ∷ before) kinds h
stand (item.Source n ∷ items) before kinds h = stand items before kinds h
stand (item.Note k v ∷ items) before kinds h =
    let here = first_of (value_fits k v && not (has_kind kinds k)) (notes_stand before (kinds ++ k ∷ []) items) h in
    let rest = last_of (value_fits k v && not (has_kind kinds k)) (notes_stand before (kinds ++ k ∷ []) items) h in (
      first_of (value_fits k v) (not (has_kind kinds k)) here,
      λ c. not_true (has_kind kinds k) (last_of (value_fits k v) (not (has_kind kinds k)) here) (one_has kinds k c),
      stand items before (kinds ++ k ∷ []) rest,
    )
stand (item.Whole i ∷ items) before kinds h = (
  all_pass (λ k. may_rest k i) kinds (first_of (list_all (λ k. may_rest k i) kinds) (notes_stand before [] items) h),
  stand items before [] (last_of (list_all (λ k. may_rest k i) kinds) (notes_stand before [] items) h),
)
stand (item.Aimed i t ∷ items) before kinds h = (
  all_pass (λ k. may_aim before k i t) kinds (first_of (list_all (λ k. may_aim before k i t) kinds) (notes_stand before [] items) h),
  stand items before [] (last_of (list_all (λ k. may_aim before k i t) kinds) (notes_stand before [] items) h),
)

pass_stand : (items : List Item) (before : List ℕ) (kinds : List NoteKind) → NotesStand before kinds items
    → notes_stand before kinds items ≡ true
unfolding notes_stand
pass_stand [] before [] h = refl
pass_stand [] before (k ∷ kinds) h = cc
pass_stand (item.Label l ∷ items) before kinds h = pass_stand items (l ∷ before) kinds h
pass_stand (item.Source n ∷ items) before kinds h = pass_stand items before kinds h
pass_stand (item.Note k v ∷ items) before kinds h =
    both_of (value_fits k v && not (has_kind kinds k)) (notes_stand before (kinds ++ k ∷ []) items)
    (both_of (value_fits k v) (not (has_kind kinds k)) h.0 (not_false (has_kind kinds k) (λ e. h.1 (has_one kinds k e))))
    (pass_stand items before (kinds ++ k ∷ []) h.2)
pass_stand (item.Whole i ∷ items) before kinds h =
    both_of (list_all (λ k. may_rest k i) kinds) (notes_stand before [] items) (pass_all (λ k. may_rest k i) kinds h.0)
    (pass_stand items before [] h.1)
pass_stand (item.Aimed i t ∷ items) before kinds h =
    both_of (list_all (λ k. may_aim before k i t) kinds) (notes_stand before [] items)
    (pass_all (λ k. may_aim before k i t) kinds h.0) (pass_stand items before [] h.1)

-- ---- programs

whole_from : (a b c d : Bool) (items : List Item) → a ≡ list_all is_formed items → b ≡ are_placed items
    → c ≡ list_all (is_there (labels items)) items → d ≡ notes_stand [] [] items → (a && b && c && d) ≡ true → IsWhole items
whole_from a b c d items e f g k h =
    let abc = first_of (a && b && c) d h in
    let ab = first_of (a && b) c abc in
    let order = placed items (sym f ∙ last_of a b ab) in
    record {
      formed = all_pass is_formed items (sym e ∙ first_of a b ab);
      once = order.once;
      there = there (labels items) items (sym g ∙ last_of (a && b) c abc);
      loops = order.loops;
      notes = stand items [] [] (sym k ∙ last_of (a && b && c) d h);
    }

judged_whole : (items : List Item) → is_judged_whole items ≡ true → IsWhole items
judged_whole items h = whole_from _ _ _ _ items refl refl refl refl h

whole_judged : (items : List Item) → IsWhole items → is_judged_whole items ≡ true
whole_judged items h =
    both_of (list_all is_formed items && are_placed items && list_all (is_there (labels items)) items) (notes_stand [] [] items)
    (both_of (list_all is_formed items && are_placed items) (list_all (is_there (labels items)) items)
    (both_of (list_all is_formed items) (are_placed items) (pass_all is_formed items h.formed)
    (pass_placed items (record { once = h.once; loops = h.loops })))
    (pass_there (labels items) items h.there))
    (pass_stand items [] [] h.notes)

judged_exactly : (b : Bool) (items : List Item) → b ≡ is_judged_whole items → IsTrue b ↔ IsWhole items
judged_exactly b items e = (λ h. judged_whole items (sym e ∙ h), λ h. e ∙ whole_judged items h)

pub judged_result : (r : Result Bool Memory) (items : List Item) → IfOk r (λ b. b ≡ is_judged_whole items)
    → IfOk r (λ b. IsTrue b ↔ IsWhole items)
judged_result (Ok b) items h = judged_exactly b items h
judged_result (Err e) items h = h
