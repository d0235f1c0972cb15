-- Faults in order.
use Rattle.std.proofs.Common.{◌≡◌, ◌⊎◌, ℕ, ◌<◌, ◌≤◌, Bool, true, false, cond, ltb, eqb, refl, sym, ◌∙◌, inl, inr, arith}
use Rattle.std.proofs.lemmas.Bool.{false≢true, true≢false, ltb-true, ltb-false, eqb-true, eqb-false, cases_Bool}
use Rattle.cfault.specs.Fault.{first_by, is_before, rule_number}
use Rattle.cfault.specs.declared.fault.Fault.{Fault}

-- ---- two numbers, and what comes next where they are equal

true_cases : (p q next : Bool) (m n : ℕ) → (p ≡ true → m < n) → (q ≡ true → m ≡ n) → cond p true (cond q next false) ≡ true →
    (m < n) ⊎ ((m ≡ n) × (next ≡ true))
true_cases true q next m n lt eq h = inl (lt refl)
true_cases false true next m n lt eq h = inr (eq refl, h)
true_cases false false next m n lt eq h = absurd (false≢true h)

false_cases : (p q next : Bool) (m n : ℕ) → (p ≡ false → n ≤ m) → (q ≡ true → m ≡ n) → (q ≡ false → m ≡ n → ⊥) →
    cond p true (cond q next false) ≡ false → (n < m) ⊎ ((m ≡ n) × (next ≡ false))
false_cases true q next m n le eq ne h = absurd (true≢false h)
false_cases false true next m n le eq ne h = inr (eq refl, h)
false_cases false false next m n le eq ne h = inl (omega (arith, le refl, ne refl))

first_true : (m n : ℕ) (next : Bool) → first_by m n next ≡ true → (m < n) ⊎ ((m ≡ n) × (next ≡ true))
first_true m n next h = true_cases (ltb m n) (eqb m n) next m n (ltb-true m n) (eqb-true m n) h

first_false : (m n : ℕ) (next : Bool) → first_by m n next ≡ false → (n < m) ⊎ ((m ≡ n) × (next ≡ false))
first_false m n next h = false_cases (ltb m n) (eqb m n) next m n (ltb-false m n) (eqb-true m n) (eqb-false m n) h

asymmetric_cases : (m n : ℕ) (p q : Bool) → (p ≡ true → q ≡ true → ⊥) → (m < n) ⊎ ((m ≡ n) × (p ≡ true)) →
    (n < m) ⊎ ((n ≡ m) × (q ≡ true)) → ⊥
asymmetric_cases m n p q next (inl a) (inl b) = omega (arith, a, b)
asymmetric_cases m n p q next (inl a) (inr b) = omega (arith, a, b.0)
asymmetric_cases m n p q next (inr a) (inl b) = omega (arith, a.0, b)
asymmetric_cases m n p q next (inr a) (inr b) = next a.1 b.1

asymmetric : (m n : ℕ) (p q : Bool) → (p ≡ true → q ≡ true → ⊥) → first_by m n p ≡ true → first_by n m q ≡ true → ⊥
asymmetric m n p q next g h = asymmetric_cases m n p q next (first_true m n p g) (first_true n m q h)

-- what isn't before one that isn't before a third isn't before the third
through_cases : (a b c : ℕ) (p q r : Bool) → (p ≡ true → q ≡ false → r ≡ false → ⊥) → (a < c) ⊎ ((a ≡ c) × (p ≡ true)) →
    (b < a) ⊎ ((a ≡ b) × (q ≡ false)) → (c < b) ⊎ ((b ≡ c) × (r ≡ false)) → ⊥
through_cases a b c p q r next (inl f) (inl g) (inl h) = omega (arith, f, g, h)
through_cases a b c p q r next (inl f) (inl g) (inr h) = omega (arith, f, g, h.0)
through_cases a b c p q r next (inl f) (inr g) (inl h) = omega (arith, f, g.0, h)
through_cases a b c p q r next (inl f) (inr g) (inr h) = omega (arith, f, g.0, h.0)
through_cases a b c p q r next (inr f) (inl g) (inl h) = omega (arith, f.0, g, h)
through_cases a b c p q r next (inr f) (inl g) (inr h) = omega (arith, f.0, g, h.0)
through_cases a b c p q r next (inr f) (inr g) (inl h) = omega (arith, f.0, g.0, h)
through_cases a b c p q r next (inr f) (inr g) (inr h) = next f.1 g.1 h.1

through : (a b c : ℕ) (p q r : Bool) → (p ≡ true → q ≡ false → r ≡ false → ⊥) → first_by a c p ≡ true → first_by a b q ≡ false →
    first_by b c r ≡ false → ⊥
through a b c p q r next f g h = through_cases a b c p q r next (first_true a c p f) (first_false a b q g) (first_false b c r h)

-- ---- faults

false_from : (b : Bool) → (b ≡ true → ⊥) → b ≡ false
false_from true h = absurd (h refl)
false_from false h = refl

pub not_after : (f g : Fault) → is_before f g ≡ true → is_before g f ≡ false
not_after f g h =
    false_from (is_before g f)
    (λ k. asymmetric f.span.line g.span.line _ _
    (asymmetric f.span.column g.span.column _ _
    (λ a b. omega (arith, ltb-true (rule_number f.cause) (rule_number g.cause) a, ltb-true (rule_number g.cause) (rule_number f.cause) b)))
    h k)

pub not_before : (f g h : Fault) → is_before f g ≡ false → is_before g h ≡ false → is_before f h ≡ false
not_before f g h p q =
    false_from (is_before f h)
    (λ k. through f.span.line g.span.line h.span.line _ _ _
    (through f.span.column g.span.column h.span.column _ _ _
    (λ a b c. omega (
      arith,
      ltb-true (rule_number f.cause) (rule_number h.cause) a,
      ltb-false (rule_number f.cause)
          (rule_number g.cause) b,
      ltb-false (rule_number g.cause) (rule_number h.cause) c,
    )))
    k p q)

pub not_itself : (f : Fault) → is_before f f ≡ false
not_itself f = false_from (is_before f f) (λ h. false≢true (sym (not_after f f h) ∙ h))
