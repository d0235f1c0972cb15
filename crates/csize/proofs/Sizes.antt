-- Sizes by the steps of a type from the last one, and sizes that have the same numbers.
use Rattle.std.proofs.Common.{◌≡◌, ℕ, ◌<◌, ◌≤◌, ◌^◌, List, [], ◌∷◌, ◌++◌, false, Option, Some, None, refl, ap, sym, ◌∙◌, arith}
use Rattle.std.specs.Prelude.{IsTrue}
use Rattle.std.proofs.Props.{props}
use Rattle.std.proofs.lemmas.Bool.Decides.{nat_tests}
use Rattle.cprogram.specs.declared.pointer.Element.{Element}
use Rattle.ctypes.specs.declared.step.Step.{Step}
use Rattle.csize.proofs.Truths.{by_numbers, where_true-is, where_true-none}
use Rattle.csize.specs.Elements.{is_element, element_made, element_at}
use Rattle.csize.specs.Size.{one_step, steps_from}

pub steps_from_last : (e : Option Element) (front : List Step) (s : Step) → steps_from e (front ++ s ∷ []) ≡ steps_from (one_step e s) front
steps_from_last e [] s = refl
steps_from_last e (t ∷ front) s = ap (λ r. one_step r t) (steps_from_last e front s)

pub same_element : (s t : Element) → s.leaves ≡ t.leaves → s.bytes ≡ t.bytes → s ≡ t
same_element s t e f =
    by_numbers {A = ℕ × ℕ} (λ a. (0 < a.0) × (a.0 ≤ a.1)) (λ a. hlevel props)
    (λ a p. record { leaves = a.0; bytes = a.1; some_leaf = p.0; no_empty_leaf = p.1 })
    (s.leaves, s.bytes) (t.leaves, t.bytes) (s.some_leaf, s.no_empty_leaf) (t.some_leaf, t.no_empty_leaf) (cc)

test_holds : (leaves bytes : ℕ) → 0 < leaves → bytes < 2 ^ 32 → leaves ≤ bytes → IsTrue (is_element leaves bytes)
test_holds leaves bytes a b c = grind (arith, nat_tests)

-- what is made where the numbers are in range
pub element_at_is : (leaves bytes : ℕ) (e : Element) → e.leaves ≡ leaves → e.bytes ≡ bytes → bytes < 2 ^ 32 → Some e
    ≡ element_at leaves bytes
unfolding element_at
element_at_is leaves bytes e l b h =
    let some : 0 < leaves = omega (arith, e.some_leaf, l) in
    let all : leaves ≤ bytes = omega (arith, e.no_empty_leaf, l, b) in
    let t : IsTrue (is_element leaves bytes) = test_holds leaves bytes some h all in
    ap Some (same_element e (element_made leaves bytes t) l b)
    ∙ sym (where_true-is (is_element leaves bytes) (λ p. Some (element_made leaves bytes p)) t)

pub element_at_none : (leaves bytes : ℕ) → is_element leaves bytes ≡ false → None ≡ element_at leaves bytes
unfolding element_at
element_at_none leaves bytes h = sym (where_true-none (is_element leaves bytes) (λ p. Some (element_made leaves bytes p)) h)

pub ruleset elements = (element_at_is, element_at_none, nat_tests)
