-- What the tests on a program say, step by step.
use Rattle.std.proofs.Common.{◌≡◌, ℕ, List, [], ◌∷◌, ◌++◌, length, Bool, true, false, refl, ap, sym, ◌∙◌, arith, append_assoc}
use Rattle.std.specs.Prelude.{◌&&◌, ◌||◌, ◌==◌, nat_lt, nat_eq, not}
use Rattle.std.specs.List.{list_all}
use Rattle.std.specs.Ordering.{nat_cmp}
use Rattle.std.specs.BTreeSet.{insert_key}
use Rattle.std.proofs.lemmas.Bool.Decides.{nat_tests}
use Rattle.std.proofs.lemmas.List.{append-nil}
use Rattle.isa.specs.declared.inst.Inst.{Inst}
use Rattle.isa.specs.declared.inst.Inst.TheVariants.{Loop}
use Rattle.isa.specs.declared.note.NoteKind.{NoteKind}
use Rattle.isa.specs.declared.note.NoteKind.TheVariants.{Enter, DelayIn, DelayOut, Leave, Own, Return, Turns}
use Rattle.isa.specs.declared.program.Item.{Item}
use Rattle.isa.specs.declared.program.Item.TheVariants as item
use Rattle.isa.specs.declared.program.Target.{Target}
use Rattle.isa.specs.declared.program.Target.TheVariants as target
use Rattle.isa.specs.Judging.{has, HaveSame, may_precede, with_label, are_placed, is_there, may_follow, kinds_behind, is_empty, notes_stand}
use Rattle.isa.specs.Program.{labels, is_branch, may_aim}

-- ---- sets of labels

swapped : (a b c : Bool) → (a || (b || c)) ≡ (b || (a || c))
swapped true true c = refl
swapped true false c = refl
swapped false true c = refl
swapped false false c = refl

twice : (a c : Bool) → (a || c) ≡ (a || (a || c))
twice true c = refl
twice false c = refl

equal_insert : (b : Bool) (x k l : ℕ) (xs : List ℕ) → (k == x) ≡ b → nat_lt k x ≡ false
    → has (insert_key nat_cmp xs k) l ≡ has (k ∷ xs) l → has (insert_key nat_cmp (x ∷ xs) k) l ≡ has (k ∷ x ∷ xs) l
equal_insert true x k l xs e n others =
    let same : k ≡ x = grind (arith, nat_tests) in
    rw (n, e) (rw same (twice (nat_eq l x) (has xs l)))
equal_insert false x k l xs e n others = rw (n, e) (ap (λ b. nat_eq l x || b) others ∙ swapped (nat_eq l x) (nat_eq l k) (has xs l))

less_insert : (b : Bool) (x k l : ℕ) (xs : List ℕ) → nat_lt k x ≡ b → has (insert_key nat_cmp xs k) l ≡ has (k ∷ xs) l
    → has (insert_key nat_cmp (x ∷ xs) k) l ≡ has (k ∷ x ∷ xs) l
less_insert true x k l xs e others = rw e
less_insert false x k l xs e others = equal_insert (k == x) x k l xs refl e others

-- a set with one more label
pub has_insert_key : (ks : List ℕ) (k l : ℕ) → has (insert_key nat_cmp ks k) l ≡ has (k ∷ ks) l
has_insert_key [] k l = refl
has_insert_key (x ∷ xs) k l = less_insert (nat_lt k x) x k l xs refl (has_insert_key xs k l)

-- ---- lists with the same labels

pub same_with_label : (i : Item) (these those : List ℕ) → HaveSame these those → HaveSame (with_label i these) (with_label i those)
same_with_label (item.Label m) these those same l = ap (λ b. nat_eq l m || b) (same l)
same_with_label (item.Note k v) these those same l = same l
same_with_label (item.Source n) these those same l = same l
same_with_label (item.Whole i) these those same l = same l
same_with_label (item.Aimed i t) these those same l = same l

aimed_precedes : (i : Inst) (t : Target) (these those : List ℕ) → HaveSame these those
    → may_precede these (item.Aimed i t) ≡ may_precede those (item.Aimed i t)
aimed_precedes (Loop body) (target.Label l) these those same = same l
aimed_precedes _ _ these those same = refl

pub same_precedes : (i : Item) (these those : List ℕ) → HaveSame these those → may_precede these i ≡ may_precede those i
same_precedes (item.Label l) these those same = ap not (same l)
same_precedes (item.Note k v) these those same = refl
same_precedes (item.Source n) these those same = refl
same_precedes (item.Whole i) these those same = refl
same_precedes (item.Aimed i t) these those same = aimed_precedes i t these those same

pub same_there : (these those : List ℕ) → HaveSame these those → (items : List Item)
    → list_all (is_there these) items ≡ list_all (is_there those) items
same_there these those same [] = refl
same_there these those same (i ∷ items) = both (one i) (same_there these those same items)
  where
    one : (i : Item) → is_there these i ≡ is_there those i
    one (item.Aimed i (target.Label l)) = same l
    one (item.Aimed i (target.Symbol s k)) = refl
    one (item.Label l) = refl
    one (item.Note k v) = refl
    one (item.Source n) = refl
    one (item.Whole i) = refl

    both : {a b c d : Bool} → a ≡ b → c ≡ d → (a && c) ≡ (b && d)
    both e f = cc

same_aims : (k : NoteKind) (i : Inst) (t : Target) (these those : List ℕ) → HaveSame these those → may_aim these k i t ≡ may_aim those k i t
same_aims Turns i (target.Label l) these those same = ap (λ b. is_branch i && b) (same l)
same_aims Turns i (target.Symbol s k) these those same = refl
same_aims Enter i t these those same = refl
same_aims DelayIn i t these those same = refl
same_aims DelayOut i t these those same = refl
same_aims Leave i t these those same = refl
same_aims Own i t these those same = refl
same_aims Return i t these those same = refl

all_aim : (kinds : List NoteKind) (i : Inst) (t : Target) (these those : List ℕ) → HaveSame these those
    → list_all (λ k. may_aim these k i t) kinds ≡ list_all (λ k. may_aim those k i t) kinds
all_aim [] i t these those same = refl
all_aim (k ∷ kinds) i t these those same =
    let first = same_aims k i t these those same in
    let others = all_aim kinds i t these those same in
    cc

pub same_follows : (i : Item) (kinds : List NoteKind) (these those : List ℕ) → HaveSame these those
    → may_follow these kinds i ≡ may_follow those kinds i
same_follows (item.Label l) kinds these those same = refl
same_follows (item.Note k v) kinds these those same = refl
same_follows (item.Source n) kinds these those same = refl
same_follows (item.Whole i) kinds these those same = refl
same_follows (item.Aimed i t) kinds these those same = all_aim kinds i t these those same

-- ---- from the back on

labels-cons : (i : Item) (items : List Item) → labels (i ∷ items) ≡ with_label i (labels items)
labels-cons (item.Label l) items = refl
labels-cons (item.Note k v) items = refl
labels-cons (item.Source n) items = refl
labels-cons (item.Whole i) items = refl
labels-cons (item.Aimed i t) items = refl

-- behind what is left stand items that are placed, whose labels are in the set
pub record IsPlacedBehind (items rest done : List Item) (set : List ℕ) : Type 0 where
  pub whole : items ≡ rest ++ done
  pub placed : are_placed done ≡ true
  pub same : HaveSame set (labels done)

pub placed_at_first : (items : List Item) (set : List ℕ) → set ≡ [] → (done : List Item) × IsPlacedBehind items items done set
unfolding are_placed
placed_at_first items set empty = ([], record { whole = sym (append-nil items); placed = refl; same = λ l. ap (λ ls. has ls l) empty })

front_fails : (front done : List Item) → are_placed done ≡ false → are_placed (front ++ done) ≡ false
unfolding are_placed
front_fails [] done e = e
front_fails (i ∷ front) done e = rw (front_fails front done e) (and_false (may_precede (labels (front ++ done)) i))
  where
    and_false : (b : Bool) → (b && false) ≡ false
    and_false true = refl
    and_false false = refl

one_fails : (i : Item) (done : List Item) → may_precede (labels done) i ≡ false → are_placed (i ∷ done) ≡ false
unfolding are_placed
one_fails i done e = rw e

one_more : (i : Item) (done : List Item) → may_precede (labels done) i ≡ true → are_placed done ≡ true → are_placed (i ∷ done) ≡ true
unfolding are_placed
one_more i done e f = rw (e, f)

pub not_placed : (items rest front done : List Item) (i : Item) (set : List ℕ) → IsPlacedBehind items rest done set
    → rest ≡ front ++ i ∷ [] → may_precede set i ≡ false → false ≡ are_placed items
not_placed items rest front done i set h e fails =
    let here : may_precede (labels done) i ≡ false = sym (same_precedes i set (labels done) h.same) ∙ fails in
    let whole : items ≡ front ++ i ∷ done = h.whole ∙ ap (λ xs. xs ++ done) e ∙ append_assoc front (i ∷ []) done in
    sym (ap are_placed whole ∙ front_fails front (i ∷ done) (one_fails i done here))

pub placed_more : (items rest front done : List Item) (i : Item) (set more : List ℕ) → IsPlacedBehind items rest done set
    → rest ≡ front ++ i ∷ [] → may_precede set i ≡ true → HaveSame more (with_label i set)
    → (now : List Item) × IsPlacedBehind items front now more
placed_more items rest front done i set more h e holds same = (
  i ∷ done,
  record {
    whole = h.whole ∙ ap (λ xs. xs ++ done) e ∙ append_assoc front (i ∷ []) done;
    placed = one_more i done (sym (same_precedes i set (labels done) h.same) ∙ holds) h.placed;
    same = λ l. same l ∙ same_with_label i set (labels done) h.same l ∙ ap (λ ls. has ls l) (sym (labels-cons i done));
  },
)

-- ---- from the front on

-- what is left decides, where these labels and kinds stand before it and the set has the labels
pub record StandsBehind (items rest : List Item) (before : List ℕ) (kinds : List NoteKind) (set : List ℕ) : Type 0 where
  pub same : HaveSame set before
  pub decides : notes_stand [] [] items ≡ notes_stand before kinds rest

stand_on : (before : List ℕ) (kinds : List NoteKind) (i : Item) (items : List Item) → may_follow before kinds i ≡ true
    → notes_stand before kinds (i ∷ items) ≡ notes_stand (with_label i before) (kinds_behind kinds i) items
unfolding notes_stand
stand_on before kinds i items e = rw e

stand_not : (before : List ℕ) (kinds : List NoteKind) (i : Item) (items : List Item) → may_follow before kinds i ≡ false
    → notes_stand before kinds (i ∷ items) ≡ false
unfolding notes_stand
stand_not before kinds i items e = rw e

pub not_standing : (items rest behind : List Item) (i : Item) (before : List ℕ) (kinds : List NoteKind) (set : List ℕ)
    → StandsBehind items rest before kinds set → rest ≡ i ∷ behind → may_follow set kinds i ≡ false → false ≡ notes_stand [] [] items
not_standing items rest behind i before kinds set h e fails =
    let here : may_follow before kinds i ≡ false = sym (same_follows i kinds set before h.same) ∙ fails in
    sym (h.decides ∙ ap (notes_stand before kinds) e ∙ stand_not before kinds i behind here)

pub standing_more : (items rest behind : List Item) (i : Item) (before : List ℕ) (kinds more_kinds : List NoteKind)
    (set more : List ℕ) → StandsBehind items rest before kinds set → rest ≡ i ∷ behind → may_follow set kinds i ≡ true
    → HaveSame more (with_label i set) → more_kinds ≡ kinds_behind kinds i
    → (now : List ℕ) × StandsBehind items behind now more_kinds more
standing_more items rest behind i before kinds more_kinds set more h e holds same f =
    let here : may_follow before kinds i ≡ true = sym (same_follows i kinds set before h.same) ∙ holds in (
      with_label i before,
      record {
        same = λ l. same l ∙ same_with_label i set before h.same l;
        decides = h.decides ∙ ap (notes_stand before kinds) e ∙ stand_on before kinds i behind here
            ∙ ap (λ ks. notes_stand (with_label i before) ks behind) (sym f);
      },
    )

pub none_pending : (kinds : List NoteKind) → (length kinds == 0) ≡ is_empty kinds
none_pending [] = refl
none_pending (k ∷ kinds) = grind (arith, nat_tests)

pub standing_at_end : (items rest : List Item) (before : List ℕ) (kinds : List NoteKind) (set : List ℕ) (r : Bool)
    → StandsBehind items rest before kinds set → rest ≡ [] → r ≡ is_empty kinds → r ≡ notes_stand [] [] items
unfolding notes_stand
standing_at_end items rest before kinds set r h e is = is ∙ sym (h.decides ∙ ap (notes_stand before kinds) e)
