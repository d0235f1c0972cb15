-- A larger set sets all instructions further apart, so that what goes too far goes too far with it; and how the least set is found.
use Rattle.std.proofs.Common.{◌≡◌, ℕ, zero, suc, ◌+◌, ◌-◌, ◌<◌, ◌≤◌, List, [], ◌∷◌, length, replicate, Bool, true, false, Option, Some}
use Rattle.std.proofs.Common.{None, refl, ap, sym, ◌∙◌, subst, arith}
use Rattle.std.specs.Prelude.{◌&&◌, ◌||◌, min, nat_lt, IsTrue, slice_index}
use Rattle.std.proofs.lemmas.Bool.Decides.{nat_tests}
use Rattle.branchfit.specs.declared.spot.Reach.{Reach}
use Rattle.branchfit.specs.declared.spot.Reach.TheVariants.{Anywhere, Always, Conditional}
use Rattle.branchfit.specs.declared.spot.Spot.{Spot}
use Rattle.branchfit.specs.Far.{width, first, others, numbers_from, numbers_of, number_in, is_beyond, is_branch, aims_beyond, is_out}
use Rattle.branchfit.specs.Far.{HasAllOut, IsClosed, IsWithin, AreFar}
use Rattle.branchfit.specs.Steps.{grown_from, grown, one_near, near_count}

-- ---- numbers

-- how many words stand before a place
num : List Spot → List Bool → ℕ → ℕ
num [] far p = 0
num (s ∷ spots) far zero = 0
num (s ∷ spots) far (suc p) = width s.reach (first far) + num spots (others far) p

length-numbers : (here : ℕ) (spots : List Spot) (far : List Bool) → length (numbers_from here spots far) ≡ length spots + 1
unfolding numbers_from
length-numbers here [] far = refl
length-numbers here (s ∷ spots) far = omega (arith, length-numbers (here + width s.reach (first far)) spots (others far))

indexed : (here : ℕ) (spots : List Spot) (far : List Bool) (p : ℕ) → p ≤ length spots → slice_index (numbers_from here spots far) p
    ≡ here + num spots far p
unfolding numbers_from num
indexed here [] far zero h = omega arith
indexed here [] far (suc p) h = absurd (omega arith)
indexed here (s ∷ spots) far zero h = omega arith
indexed here (s ∷ spots) far (suc p) h = omega (arith, indexed (here + width s.reach (first far)) spots (others far) p (omega arith))

past : (spots : List Spot) (far : List Bool) (p : ℕ) → length spots ≤ p → num spots far p ≡ num spots far (length spots)
unfolding num
past [] far p h = refl
past (s ∷ spots) far zero h = absurd (omega arith)
past (s ∷ spots) far (suc p) h = ap (λ n. width s.reach (first far) + n) (past spots (others far) p (omega arith))

clamped : (spots : List Spot) (far : List Bool) (p q : ℕ) → (p ≤ length spots → q ≡ p) → (length spots ≤ p → q ≡ length spots)
    → num spots far q ≡ num spots far p
clamped spots far p q low high = side (nat_lt p (length spots)) refl
  where
    side : (b : Bool) → nat_lt p (length spots) ≡ b → num spots far q ≡ num spots far p
    side true e = ap (num spots far) (low (grind (arith, nat_tests)))
    side false e = let over : length spots ≤ p = grind (arith, nat_tests) in ap (num spots far) (high over) ∙ sym (past spots far p over)

number_is : (spots : List Spot) (far : List Bool) (p : ℕ) → number_in (numbers_of spots far) p ≡ num spots far p
number_is spots far p =
    let e = length-numbers 0 spots far in
    let last : min p (length (numbers_of spots far) - 1) ≤ length spots = omega arith in
    let at = indexed 0 spots far (min p (length (numbers_of spots far) - 1)) last in
    let same = clamped spots far p (min p (length (numbers_of spots far) - 1)) (λ h. omega arith) (λ h. omega arith) in
    omega arith

rises : (spots : List Spot) (far : List Bool) (p q : ℕ) → p ≤ q → num spots far p ≤ num spots far q
unfolding num
rises [] far p q h = omega arith
rises (s ∷ spots) far zero q h = omega arith
rises (s ∷ spots) far (suc p) zero h = absurd (omega arith)
rises (s ∷ spots) far (suc p) (suc q) h = omega (arith, rises spots (others far) p q (omega arith))

top : (spots : List Spot) (far : List Bool) (p : ℕ) → num spots far p ≤ num spots far (length spots)
unfolding num
top [] far p = omega arith
top (s ∷ spots) far zero = omega arith
top (s ∷ spots) far (suc p) = omega (arith, top spots (others far) p)

-- no place has a greater number than the one behind the last
pub number_few : (spots : List Spot) (far : List Bool) (most : ℕ) → number_in (numbers_of spots far) (length spots) ≤ most
    → (p : ℕ) → number_in (numbers_of spots far) p ≤ most
number_few spots far most h p = omega (arith, number_is spots far p, number_is spots far (length spots), top spots far p)

-- ---- larger sets

wider : (r : Reach) (f g : Bool) → (IsTrue f → IsTrue g) → width r f ≤ width r g
wider Anywhere f g h = omega arith
wider Always f g h = omega arith
wider Conditional false false h = omega arith
wider Conditional false true h = omega arith
wider Conditional true false h = absurd (true_false (h refl))
  where
    true_false : false ≡ true → ⊥
    true_false e = cc
wider Conditional true true h = omega arith

firsts : (far larger : List Bool) → IsWithin far larger → IsTrue (first far) → IsTrue (first larger)
firsts [] [] w h = h
firsts [] (g ∷ larger) w h = absurd w
firsts (f ∷ far) [] w h = absurd w
firsts (f ∷ far) (g ∷ larger) w h = w.0 h

rests : (far larger : List Bool) → IsWithin far larger → IsWithin (others far) (others larger)
rests [] [] w = w
rests [] (g ∷ larger) w = absurd w
rests (f ∷ far) [] w = absurd w
rests (f ∷ far) (g ∷ larger) w = w.1

grows : (spots : List Spot) (far larger : List Bool) (q : ℕ) → IsWithin far larger → num spots far q ≤ num spots larger q
unfolding num
grows [] far larger q w = omega arith
grows (s ∷ spots) far larger zero w = omega arith
grows (s ∷ spots) far larger (suc q) w =
    omega (
      arith,
      wider s.reach (first far) (first larger) (firsts far larger w),
      grows spots (others far) (others larger) q
          (rests far larger w),
    )

apart : (spots : List Spot) (far larger : List Bool) (p q : ℕ) → IsWithin far larger → p ≤ q
    → num spots far q + num spots larger p ≤ num spots larger q + num spots far p
unfolding num
apart [] far larger p q w h = omega arith
apart (s ∷ spots) far larger zero q w h = omega (arith, grows (s ∷ spots) far larger q w)
apart (s ∷ spots) far larger (suc p) zero w h = absurd (omega arith)
apart (s ∷ spots) far larger (suc p) (suc q) w h =
    omega (arith, apart spots (others far) (others larger) p q (rests far larger w) (omega arith))

ahead : (a b c d : ℕ) → a ≤ b → b + c ≤ d + a → IsTrue (is_beyond a b) → IsTrue (is_beyond c d)
ahead a b c d order spread h = grind (arith, nat_tests)

back : (a b c d : ℕ) → b ≤ a → a + d ≤ c + b → IsTrue (is_beyond a b) → IsTrue (is_beyond c d)
back a b c d order spread h = grind (arith, nat_tests)

beyond : (spots : List Spot) (far larger : List Bool) (p q : ℕ) → IsWithin far larger
    → IsTrue (is_beyond (num spots far p) (num spots far q)) → IsTrue (is_beyond (num spots larger p) (num spots larger q))
beyond spots far larger p q w h = side (nat_lt q p) refl
  where
    side : (b : Bool) → nat_lt q p ≡ b → IsTrue (is_beyond (num spots larger p) (num spots larger q))
    side true e =
        let order : q ≤ p = grind (arith, nat_tests) in
        back (num spots far p) (num spots far q) (num spots larger p) (num spots larger q) (rises spots far q p order)
        (apart spots far larger q p w order) h
    side false e =
        let order : p ≤ q = grind (arith, nat_tests) in
        ahead (num spots far p) (num spots far q) (num spots larger p) (num spots larger q) (rises spots far p q order)
        (apart spots far larger p q w order) h

aims_grow : (spots : List Spot) (far larger : List Bool) (p : ℕ) (aim : Option ℕ) → IsWithin far larger
    → IsTrue (aims_beyond (numbers_of spots far) p aim) → IsTrue (aims_beyond (numbers_of spots larger) p aim)
aims_grow spots far larger p None w h = h
aims_grow spots far larger p (Some q) w h =
    let here : is_beyond (num spots far p) (num spots far q) ≡ is_beyond (number_in (numbers_of spots far) p)
    (number_in (numbers_of spots far) q) =
    sym (ap (λ n. is_beyond n (number_in (numbers_of spots far) q)) (number_is spots far p) ∙ ap (is_beyond (num spots far p))
    (number_is spots far q)) in
    let there : is_beyond (number_in (numbers_of spots larger) p) (number_in (numbers_of spots larger) q) ≡ is_beyond (num spots larger p)
    (num spots larger q) =
    ap (λ n. is_beyond n (number_in (numbers_of spots larger) q)) (number_is spots larger p) ∙ ap (is_beyond (num spots larger p))
    (number_is spots larger q) in
    there ∙ beyond spots far larger p q w (here ∙ h)

outs_grow : (spots : List Spot) (far larger : List Bool) → IsWithin far larger
    → (p : ℕ) (s : Spot) → IsTrue (is_out (numbers_of spots far) p s) → IsTrue (is_out (numbers_of spots larger) p s)
outs_grow spots far larger w p s h = side (is_branch s.reach) h
  where
    side : (b : Bool) → IsTrue (b && aims_beyond (numbers_of spots far) p s.aim)
        → IsTrue (b && aims_beyond (numbers_of spots larger) p s.aim)
    side true e = aims_grow spots far larger p s.aim w e
    side false e = e

-- ---- the least set

pub none_within : (numbers : List ℕ) (p : ℕ) (spots : List Spot) (larger : List Bool) → HasAllOut numbers p spots larger
    → IsWithin (replicate (length spots) false) larger
none_within numbers p [] [] h = tt
none_within numbers p [] (g ∷ larger) h = absurd h
none_within numbers p (s ∷ spots) [] h = absurd h
none_within numbers p (s ∷ spots) (g ∷ larger) h = (λ (e : IsTrue false). cc, none_within numbers (p + 1) spots larger h.1)

either_in : (f o g : Bool) → (IsTrue f → IsTrue g) → (IsTrue o → IsTrue g) → IsTrue (f || o) → IsTrue g
either_in true o g a b h = a refl
either_in false o g a b h = b h

grown_within : (ns ms : List ℕ) (p : ℕ) (spots : List Spot) (far larger : List Bool)
    → ((q : ℕ) (s : Spot) → IsTrue (is_out ns q s) → IsTrue (is_out ms q s)) → HasAllOut ms p spots larger → IsWithin far larger
    → IsWithin (grown_from ns p spots far) larger
unfolding grown_from
grown_within ns ms p [] far [] outs all w = tt
grown_within ns ms p [] far (g ∷ larger) outs all w = absurd all
grown_within ns ms p (s ∷ spots) far [] outs all w = absurd all
grown_within ns ms p (s ∷ spots) [] (g ∷ larger) outs all w = absurd w
grown_within ns ms p (s ∷ spots) (f ∷ far) (g ∷ larger) outs all w =
    (either_in f (is_out ns p s) g w.0 (λ o. all.0 (outs p s o)), grown_within ns ms (p + 1) spots far larger outs all.1 w.1)

-- all that is in the set is in each closed one
pub record IsReached (spots : List Spot) (far : List Bool) : Type 0 where
  pub size : length far ≡ length spots
  pub below : (larger : List Bool) → IsClosed spots larger → IsWithin far larger

length-grown : (numbers : List ℕ) (p : ℕ) (spots : List Spot) (far : List Bool) → length (grown_from numbers p spots far) ≡ length spots
unfolding grown_from
length-grown numbers p [] far = refl
length-grown numbers p (s ∷ spots) far = ap suc (length-grown numbers (p + 1) spots (others far))

length-none : (n : ℕ) → length (replicate n false) ≡ n
length-none zero = refl
length-none (suc n) = ap suc (length-none n)

pub begins : (spots : List Spot) (far : List Bool) → far ≡ replicate (length spots) false → IsReached spots far
begins spots far e = record {
  size = ap length e ∙ length-none (length spots);
  below = λ larger closed. let P : List Bool → Type 0 = λ f. IsWithin f larger in
      subst P (sym e) (none_within (numbers_of spots larger) 0 spots larger closed);
}

pub goes_on : (spots : List Spot) (far more : List Bool) → IsReached spots far → more ≡ grown spots far → IsReached spots more
goes_on spots far more reached e = record {
  size = ap length e ∙ length-grown (numbers_of spots far) 0 spots far;
  below = λ larger closed. let P : List Bool → Type 0 = λ f. IsWithin f larger in
      subst P (sym e) (grown_within (numbers_of spots far) (numbers_of spots larger) 0 spots far larger
      (outs_grow spots far larger (reached.below larger closed)) closed (reached.below larger closed));
}

in_already : (f o : Bool) → (f || o) ≡ f → IsTrue o → IsTrue f
in_already true o e h = refl
in_already false o e h = sym e ∙ h

closed_at : (numbers : List ℕ) (p : ℕ) (spots : List Spot) (far : List Bool) → grown_from numbers p spots far ≡ far
    → HasAllOut numbers p spots far
unfolding grown_from
closed_at numbers p [] [] e = tt
closed_at numbers p [] (f ∷ far) e = cc
closed_at numbers p (s ∷ spots) [] e = cc
closed_at numbers p (s ∷ spots) (f ∷ far) e =
    let head : (f || is_out numbers p s) ≡ f = cc in
    let tail : grown_from numbers (p + 1) spots far ≡ far = cc in
    (in_already f (is_out numbers p s) head, closed_at numbers (p + 1) spots far tail)

-- ---- each turn adds one

less_near : (f o : Bool) → one_near (f || o) ≤ one_near f
less_near true o = omega arith
less_near false true = omega arith
less_near false false = omega arith

near_less : (numbers : List ℕ) (p : ℕ) (spots : List Spot) (far : List Bool) → length far ≡ length spots
    → near_count (grown_from numbers p spots far) ≤ near_count far
unfolding grown_from near_count
near_less numbers p [] far h = omega arith
near_less numbers p (s ∷ spots) [] h = absurd (omega arith)
near_less numbers p (s ∷ spots) (f ∷ far) h =
    omega (arith, less_near f (is_out numbers p s), near_less numbers (p + 1) spots far (omega arith))

same_near : (f o : Bool) (a b : ℕ) → a ≤ b → one_near f + b ≤ one_near (f || o) + a → ((f || o) ≡ f) × (b ≤ a)
same_near true o a b h e = (refl, omega arith)
same_near false true a b h e = absurd (omega arith)
same_near false false a b h e = (refl, omega arith)

near_same : (numbers : List ℕ) (p : ℕ) (spots : List Spot) (far : List Bool) → length far ≡ length spots
    → near_count far ≤ near_count (grown_from numbers p spots far) → grown_from numbers p spots far ≡ far
unfolding grown_from near_count
near_same numbers p [] [] h e = refl
near_same numbers p [] (f ∷ far) h e = absurd (omega arith)
near_same numbers p (s ∷ spots) [] h e = absurd (omega arith)
near_same numbers p (s ∷ spots) (f ∷ far) h e =
    let size : length far ≡ length spots = omega arith in
    let both = same_near f (is_out numbers p s) (near_count (grown_from numbers (p + 1) spots far)) (near_count far)
    (near_less numbers (p + 1) spots far size) e in
    let tail = near_same numbers (p + 1) spots far size both.1 in
    let head = both.0 in
    cc

-- no more are near than before; and where as many are, the set is closed
pub falls : (spots : List Spot) (far more : List Bool) → IsReached spots far → more ≡ grown spots far
    → (near_count more ≡ near_count far → ⊥)
    → near_count more < near_count far
falls spots far more reached e other =
    let le : near_count more ≤ near_count far = rw e (near_less (numbers_of spots far) 0 spots far reached.size) in
    below (near_count more) (near_count far) le other
  where
    below : (a b : ℕ) → a ≤ b → (a ≡ b → ⊥) → a < b
    below a b le ne = omega arith

pub ends : (spots : List Spot) (far more : List Bool) → IsReached spots far → more ≡ grown spots far → near_count more ≡ near_count far
    → AreFar spots far
ends spots far more reached e same =
    let as_near : near_count far ≤ near_count (grown spots far) = omega (arith, ap near_count e) in
    record {
      closed = closed_at (numbers_of spots far) 0 spots far (near_same (numbers_of spots far) 0 spots far reached.size as_near);
      least = reached.below;
    }

-- ---- there is one

within_both : (these those : List Bool) → IsWithin these those → IsWithin those these → these ≡ those
within_both [] [] a b = refl
within_both [] (g ∷ those) a b = absurd a
within_both (f ∷ these) [] a b = absurd a
within_both (f ∷ these) (g ∷ those) a b = let head = same f g a.0 b.0 in let tail = within_both these those a.1 b.1 in cc
  where
    same : (f g : Bool) → (IsTrue f → IsTrue g) → (IsTrue g → IsTrue f) → f ≡ g
    same true g a b = sym (a refl)
    same false true a b = b refl
    same false false a b = refl

pub one_far : (spots : List Spot) (these those : List Bool) → AreFar spots these → AreFar spots those → these ≡ those
one_far spots these those a b = within_both these those (a.least those b.closed) (b.least these a.closed)
