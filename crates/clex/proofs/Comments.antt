-- Comments: what is read is a comment, and a comment is read.
use Rattle.std.proofs.Common.{◌≡◌, ℕ, true, false, eqb, ◌&&◌, List, [], ◌∷◌, ◌++◌, length, Some, refl, ap, arith, inl, inr}
use Rattle.std.proofs.lemmas.Bool.{false≢true, and_parts, and_from, and_right, eqb-true, eq-eqb, false_from_ne_true, both_ways}
use Rattle.std.proofs.lemmas.List.{length-append}
use Rattle.clex.specs.Pieces.{ClosesOnce}
use Rattle.clex.specs.Reading.{after_comment}
use Rattle.clex.proofs.Choices.{chosen}

-- a body and the first `*/`
pub record Closes (behind left : List ℕ) : Type 0 where
  pub body : List ℕ
  pub parts : behind ≡ body ++ 42 ∷ 47 ∷ left
  pub once : ClosesOnce body

at_once : ClosesOnce []
at_once front back e = omega (arith, ap length e, length-append front (42 ∷ 47 ∷ back))

later : (a b : ℕ) (behind body left : List ℕ) → (eqb a 42 && eqb b 47) ≡ false → b ∷ behind ≡ body ++ 42 ∷ 47 ∷ left
    → ClosesOnce body → ClosesOnce (a ∷ body)
later a b behind [] left differ parts once [] back e = let slash : 42 ≡ 47 = cc in false≢true (eq-eqb 42 47 slash)
later a b behind (c ∷ body) left differ parts once [] back e =
    let star : a ≡ 42 = cc in
    let slash : b ≡ 47 = cc in
    both_ways _ differ (and_from _ _ (eq-eqb a 42 star) (eq-eqb b 47 slash))
later a b behind body left differ parts once (f ∷ front) back e = let rest : body ++ 42 ∷ [] ≡ front ++ 42 ∷ 47 ∷ back = cc in
    once front back rest

pub comment_parts : (behind left : List ℕ) → after_comment behind ≡ Some left → Closes behind left
comment_parts [] left e = absurd cc
comment_parts (a ∷ []) left e = absurd cc
comment_parts (a ∷ b ∷ behind) left e =
    elim (chosen (eqb a 42 && eqb b 47) (Some behind) (after_comment (b ∷ behind)) (Some left) e) [
      | inl h ↦ closed h
      | inr h ↦ longer h.0 (comment_parts (b ∷ behind) left h.1)
    ]
  where
    closed : ((eqb a 42 && eqb b 47) ≡ true) × (Some behind ≡ Some left) → Closes (a ∷ b ∷ behind) left
    closed h =
        let tests = and_parts (eqb a 42) (eqb b 47) h.0 in
        let star = eqb-true a 42 tests.0 in
        let slash = eqb-true b 47 tests.1 in
        record { body = []; parts = cc; once = at_once }

    longer : (eqb a 42 && eqb b 47) ≡ false → Closes (b ∷ behind) left → Closes (a ∷ b ∷ behind) left
    longer differ rest = record {
      body = a ∷ rest.body;
      parts = ap (λ (t : List ℕ). a ∷ t) rest.parts;
      once =
          later a b behind rest.body left differ rest.parts rest.once;
    }

shorter : (x : ℕ) (body : List ℕ) → ClosesOnce (x ∷ body) → ClosesOnce body
shorter x body once front back e = once (x ∷ front) back (ap (λ (t : List ℕ). x ∷ t) e)

pub comment_again : (body left : List ℕ) → ClosesOnce body → after_comment (body ++ 42 ∷ 47 ∷ left) ≡ Some left
comment_again [] left once = refl
comment_again (x ∷ []) left once = rw (and_right (eqb x 42) false refl) refl
comment_again (x ∷ y ∷ body) left once =
    let differ : (eqb x 42 && eqb y 47) ≡ false = false_from_ne_true _ (λ h. early (and_parts (eqb x 42) (eqb y 47) h)) in
    rw differ (comment_again (y ∷ body) left (shorter x (y ∷ body) once))
  where
    early : (eqb x 42 ≡ true) × (eqb y 47 ≡ true) → ⊥
    early tests =
        let star = eqb-true x 42 tests.0 in
        let slash = eqb-true y 47 tests.1 in
        once [] (body ++ 42 ∷ []) cc
