-- What is done and what is left are the whole, at each turn of a loop.
use Rattle.std.proofs.Common.{◌≡◌, ℕ, suc, ◌+◌, ◌≤◌, List, [], ◌∷◌, ◌++◌, length, Bool, true, false, Option, Some, None, refl, ap, sym, ◌∙◌}
use Rattle.std.proofs.Common.{append_assoc, arith}
use Rattle.std.specs.Prelude.{◌||◌, ◌==◌, map, option_map, if◌then◌else◌}
use Rattle.std.proofs.lemmas.List.{append-nil}
use Rattle.isa.specs.declared.note.Note.{Note}
use Rattle.isa.specs.declared.program.Item.{Item}
use Rattle.isa.specs.declared.program.Item.TheVariants as item
use Rattle.isa.specs.Note.{kind_number}
use Rattle.branchfit.specs.declared.spot.Spot.{Spot}
use Rattle.branchfit.specs.Far.{width, first, others, numbers_from, is_out}
use Rattle.branchfit.specs.Steps.{grown_from, one_near, near_count}
use Rattle.branchfit.specs.Laid.{Layout, with_number, of_kind, noted_to, place_behind}
use Rattle.branchfit.specs.Loops.{is_long_loop, first_long}

module _ {X : Type 0} where
  one_more : (done more : List X) (x : X) (left : List X) → more ≡ done ++ x ∷ [] → more ++ left ≡ done ++ (x ∷ left)
  one_more done more x left e = ap (λ xs. xs ++ left) e ∙ append_assoc done (x ∷ []) left

pub numbers_on : (done more : List ℕ) (here w : ℕ) (rest : List Spot) (tests later : List Bool) (s : Spot) (behind : List Spot)
    (whole : List ℕ)
    → done ++ numbers_from here rest tests ≡ whole → rest ≡ s ∷ behind → more ≡ done ++ here ∷ []
    → w ≡ width s.reach (first tests) → later ≡ others tests → more ++ numbers_from (here + w) behind later ≡ whole
unfolding numbers_from
numbers_on done more here w rest tests later s behind whole e at pushed wide left =
    ap (λ n. more ++ numbers_from (here + n) behind later) wide
    ∙ ap (λ t. more ++ numbers_from (here + width s.reach (first tests)) behind t) left
    ∙ one_more done more here (numbers_from (here + width s.reach (first tests)) behind (others tests)) pushed
    ∙ sym (ap (λ r. done ++ numbers_from here r tests) at) ∙ e

pub numbers_end : (done more : List ℕ) (here : ℕ) (rest : List Spot) (tests : List Bool) (whole : List ℕ)
    → done ++ numbers_from here rest tests ≡ whole → rest ≡ [] → more ≡ done ++ here ∷ [] → more ≡ whole
unfolding numbers_from
numbers_end done more here rest tests whole e at pushed = pushed ∙ sym (ap (λ r. done ++ numbers_from here r tests) at) ∙ e

pub grown_on : (numbers : List ℕ) (done more : List Bool) (p : ℕ) (rest : List Spot) (tests later : List Bool) (s : Spot) (f : Bool)
    (behind : List Spot) (whole : List Bool)
    → done ++ grown_from numbers p rest tests ≡ whole → rest ≡ s ∷ behind → more ≡ done ++ f ∷ []
    → f ≡ (first tests || is_out numbers p s) → later ≡ others tests → more ++ grown_from numbers (p + 1) behind later ≡ whole
unfolding grown_from
grown_on numbers done more p rest tests later s f behind whole e at pushed comes left =
    ap (λ t. more ++ grown_from numbers (p + 1) behind t) left
    ∙ one_more done more f (grown_from numbers (p + 1) behind (others tests)) pushed
    ∙ ap (λ g. done ++ (g ∷ grown_from numbers (p + 1) behind (others tests))) comes
    ∙ sym (ap (λ r. done ++ grown_from numbers p r tests) at) ∙ e

pub grown_end : (numbers : List ℕ) (done : List Bool) (p : ℕ) (rest : List Spot) (tests : List Bool) (whole : List Bool)
    → done ++ grown_from numbers p rest tests ≡ whole → rest ≡ [] → done ≡ whole
unfolding grown_from
grown_end numbers done p rest tests whole e at = sym (append-nil done) ∙ sym (ap (λ r. done ++ grown_from numbers p r tests) at) ∙ e

pub near_on : (count one : ℕ) (rest : List Bool) (f : Bool) (behind : List Bool) (whole : ℕ)
    → count + near_count rest ≡ whole → rest ≡ f ∷ behind → one ≡ one_near f → count + one + near_count behind ≡ whole
unfolding near_count
near_on count one rest f behind whole e at is = omega (arith, ap near_count at)

pub near_end : (count : ℕ) (rest : List Bool) (whole : ℕ) → count + near_count rest ≡ whole → rest ≡ [] → count ≡ whole
unfolding near_count
near_end count rest whole e at = omega (arith, ap near_count at)

pub near_few : (far : List Bool) → near_count far ≤ length far
unfolding near_count
near_few [] = omega arith
near_few (true ∷ far) = omega (arith, near_few far)
near_few (false ∷ far) = omega (arith, near_few far)

-- ---- notes of one kind

pub kind_on : (here wide number : ℕ) (done more : List Note) (rest : List Note) (n : Note) (behind : List Note) (whole : List Note)
    → done ++ map (with_number here wide) (of_kind number rest) ≡ whole → rest ≡ n ∷ behind
    → more ≡ (if kind_number n.kind == number then done ++ with_number here wide n ∷ [] else done)
    → more ++ map (with_number here wide) (of_kind number behind) ≡ whole
kind_on here wide number done more rest n behind whole e at pushed = side (kind_number n.kind == number) refl
  where
    side : (b : Bool) → (kind_number n.kind == number) ≡ b → more ++ map (with_number here wide) (of_kind number behind) ≡ whole
    side true is =
        one_more done more (with_number here wide n) (map (with_number here wide) (of_kind number behind)) (rw is at pushed)
        ∙ rw is at (sym (ap (λ r. done ++ map (with_number here wide) (of_kind number r)) at) ∙ e)
    side false is =
        ap (λ xs. xs ++ map (with_number here wide) (of_kind number behind)) (rw is at pushed)
        ∙ rw is at (sym (ap (λ r. done ++ map (with_number here wide) (of_kind number r)) at) ∙ e)

noted_next : (k here wide : ℕ) (notes : List Note) → noted_to k here wide notes ++ map (with_number here wide) (of_kind (k + 1) notes)
    ≡ noted_to (k + 1) here wide notes
unfolding noted_to
noted_next k here wide notes = let e : k + 1 ≡ suc k = omega arith in rw e refl

pub noted_on : (start done more : List Note) (k here wide : ℕ) (notes : List Note) → done ≡ start ++ noted_to k here wide notes
    → more ≡ done ++ map (with_number here wide) (of_kind (k + 1) notes) → more ≡ start ++ noted_to (k + 1) here wide notes
noted_on start done more k here wide notes e pushed =
    pushed ∙ ap (λ d. d ++ map (with_number here wide) (of_kind (k + 1) notes)) e
    ∙ append_assoc start (noted_to k here wide notes) (map (with_number here wide) (of_kind (k + 1) notes))
    ∙ ap (λ ns. start ++ ns) (noted_next k here wide notes)

pub noted_begin : (start : List Note) (here wide : ℕ) (notes : List Note) → start ≡ start ++ noted_to 0 here wide notes
unfolding noted_to
noted_begin start here wide notes = sym (append-nil start)

pub place_few : (p : ℕ) (i : Item) → place_behind p i ≤ p + 1
place_few p (item.Label l) = omega arith
place_few p (item.Note kind value) = omega arith
place_few p (item.Source n) = omega arith
place_few p (item.Whole i) = omega arith
place_few p (item.Aimed i t) = omega arith

-- ---- loops

pub long_on : (layout : Layout) (p q n : ℕ) (rest : List Item) (i : Item) (behind : List Item) (whole : Option ℕ)
    → option_map (λ k. n + k) (first_long layout p rest) ≡ whole → rest ≡ i ∷ behind → is_long_loop layout p i ≡ false → q
    ≡ place_behind p i
    → option_map (λ k. (n + 1) + k) (first_long layout q behind) ≡ whole
unfolding first_long
long_on layout p q n rest i behind whole e at is_not next =
    ap (λ r. option_map (λ k. (n + 1) + k) (first_long layout r behind)) next
    ∙ shifted (first_long layout (place_behind p i) behind)
    ∙ rw is_not at (sym (ap (λ r. option_map (λ k. n + k) (first_long layout p r)) at) ∙ e)
  where
    shifted : (o : Option ℕ) → option_map (λ k. (n + 1) + k) o ≡ option_map (λ k. n + k) (option_map suc o)
    shifted None = refl
    shifted (Some k) = let e : (n + 1) + k ≡ n + suc k = omega arith in ap Some e

pub long_here : (layout : Layout) (p n : ℕ) (rest : List Item) (i : Item) (behind : List Item) (whole : Option ℕ)
    → option_map (λ k. n + k) (first_long layout p rest) ≡ whole → rest ≡ i ∷ behind → is_long_loop layout p i ≡ true
    → Some n ≡ whole
unfolding first_long
long_here layout p n rest i behind whole e at is_one =
    (let z : n ≡ n + 0 = omega arith in ap Some z) ∙ rw is_one at (sym (ap (λ r. option_map (λ k. n + k) (first_long layout p r)) at) ∙ e)

pub long_end : (layout : Layout) (p n : ℕ) (rest : List Item) (whole : Option ℕ)
    → option_map (λ k. n + k) (first_long layout p rest) ≡ whole → rest ≡ [] → None ≡ whole
unfolding first_long
long_end layout p n rest whole e at = sym (ap (λ r. option_map (λ k. n + k) (first_long layout p r)) at) ∙ e

pub long_begin : (layout : Layout) (items : List Item) → option_map (λ k. 0 + k) (first_long layout 0 items) ≡ first_long layout 0 items
long_begin layout items = same (first_long layout 0 items)
  where
    same : (o : Option ℕ) → option_map (λ k. 0 + k) o ≡ o
    same None = refl
    same (Some k) = let e : 0 + k ≡ k = omega arith in ap Some e
