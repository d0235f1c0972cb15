-- A list of tokens has one tree, or one first fault, and not both.
use Rattle.std.proofs.Common.{◌≡◌, ◌+◌, ◌-◌, ◌<◌, ◌≤◌, ◌⊎◌, inl, inr, ℕ, zero, suc, List, [], ◌∷◌, ◌++◌, take}
use Rattle.std.proofs.Common.{drop, Some, sym, ap, subst, refl, ◌∙◌, arith, append_assoc}
use Rattle.std.specs.Prelude.{slice_get, Contains}
use Rattle.std.proofs.lemmas.List.{take-append-drop}
use Rattle.std.proofs.lemmas.Bool.{cases_order}
use Rattle.csyn.specs.declared.token.Token.{Token}
use Rattle.csyn.specs.declared.span.Span.{Span}
use Rattle.csyn.specs.declared.cause.Cause.{Cause}
use Rattle.csyn.specs.Bare.{bare_units}
use Rattle.csyn.specs.Tree.{Contents}
use Rattle.cgrammar.specs.Kind.{kind_of}
use Rattle.cgrammar.specs.Text.{Written, IsText, IsFirstFault}
use Rattle.cparts.specs.declared.value.Value.TheVariants.{Units}
use Rattle.cparse.specs.Nodes.{nodes, deep, IsFirstDeep}
use Rattle.cparse.specs.Tree.{value}
use Rattle.cparse.specs.Parsed.{Yields, FaultAt, IsFault, unreadable, too_deep, Same, kind_cause}
use Rattle.cparse.proofs.Ascending.{one-first-deep}

-- a source has no token that can't stand
pub text-stands : (tokens : List Token) (written : Written) (place : ℕ) → IsText written tokens → IsFirstFault tokens place → ⊥
text-stands tokens written place text fault =
    fault.stops (drop (place + 1) tokens) written (subst (IsText written) (sym (take-append-drop (place + 1) tokens)) text)

take-none : {A : Type 0} (n : ℕ) → take {A = A} n [] ≡ []
take-none zero = refl
take-none (suc n) = refl

-- a longer front begins with a shorter one
take-more : {A : Type 0} (xs : List A) (a b : ℕ) → a ≤ b → take b xs ≡ take a xs ++ take (b - a) (drop a xs)
take-more xs zero b h = let e : b ≡ b - 0 = omega arith in ap (λ n. take n xs) e
take-more xs (suc a) zero h = absurd (omega arith)
take-more [] (suc a) (suc b) h = sym (take-none (suc b - suc a))
take-more (x ∷ xs) (suc a) (suc b) h =
    ap (λ ys. x ∷ ys) (take-more xs a b (omega arith)) ∙ ap (λ n. x ∷ (take a xs ++ take n (drop a xs)))
    (let e : b - a ≡ suc b - suc a = omega arith in e)

not-before : (tokens : List Token) (a b : ℕ) → IsFirstFault tokens a → IsFirstFault tokens b → a < b → ⊥
not-before tokens a b first second less =
    let front = take-more tokens (a + 1) b (omega arith) in
    let some = second.goes_on in
    first.stops (take (b - (a + 1)) (drop (a + 1) tokens) ++ some.0) some.1
    (subst (IsText some.1) (ap (λ xs. xs ++ some.0) front ∙ append_assoc (take (a + 1) tokens)
    (take (b - (a + 1)) (drop (a + 1) tokens)) some.0) some.2)

one-by : (tokens : List Token) (a b : ℕ) → IsFirstFault tokens a → IsFirstFault tokens b → (a ≡ b) ⊎ ((a < b) ⊎ (b < a)) → a ≡ b
one-by tokens a b first second (inl same) = same
one-by tokens a b first second (inr (inl less)) = absurd (not-before tokens a b first second less)
one-by tokens a b first second (inr (inr more)) = absurd (not-before tokens b a second first more)

-- one token is the first that can't stand
pub one-place : (tokens : List Token) (a b : ℕ) → IsFirstFault tokens a → IsFirstFault tokens b → a ≡ b
one-place tokens a b first second = one-by tokens a b first second (cases_order a b)

-- at one place stands one token
one-at : (tokens : List Token) (a b : ℕ) (s t : Span) (first : FaultAt tokens a s) (second : FaultAt tokens b t) → a ≡ b
    → (s ≡ t) × (first.token ≡ second.token)
one-at tokens a b s t first second same =
    let both : Some first.token ≡ Some second.token = sym first.stands ∙ ap (slice_get tokens) same ∙ second.stands in
    let token : first.token ≡ second.token = cc in
    (first.begins ∙ ap (λ (x : Token). x.span) token ∙ sym second.begins, token)

-- what one written source of these tokens gives
module _ (tokens : List Token) (one : (a b : Written) → IsText a tokens → IsText b tokens → a ≡ b) where
  pub faults-agree : (s t : Span) (c d : Cause) → IsFault tokens s c → IsFault tokens t d → (s ≡ t) × (c ≡ d)
  faults-agree s t c d (unreadable a) (unreadable b) =
      let at = one-at tokens a.place b.place s t a.at b.at (one-place tokens a.place b.place a.is_first b.is_first) in
      (at.0, a.why ∙ ap (λ x. kind_cause (kind_of x)) at.1 ∙ sym b.why)
  faults-agree s t c d (unreadable a) (too_deep b) = absurd (text-stands tokens b.written a.place b.text a.is_first)
  faults-agree s t c d (too_deep a) (unreadable b) = absurd (text-stands tokens a.written b.place a.text b.is_first)
  faults-agree s t c d (too_deep a) (too_deep b) =
      let written = one a.written b.written a.text b.text in
      let place = one-first-deep b.written a.place b.place (subst (λ w. IsFirstDeep w a.place) written a.is_first) b.is_first in
      let at = one-at tokens a.place b.place s t a.at b.at place in
      (at.0, a.why ∙ sym b.why)

  pub no-tree : (s : Span) (c : Cause) (tree : Contents) → IsFault tokens s c → Yields tree tokens → ⊥
  no-tree s c tree (unreadable a) yields = text-stands tokens yields.written a.place yields.text a.is_first
  no-tree s c tree (too_deep a) yields =
      let written = one a.written yields.written a.text yields.text in
      let begins : Contains (deep 0 0 yields.written) a.place = subst (λ w. Contains (deep 0 0 w) a.place) written a.is_first.begins in
      let none : Contains [] a.place = subst (λ xs. Contains xs a.place) yields.shallow begins in
      absurd (omega (arith, none.1))

  pub trees-agree : (a b : Contents) → Yields a tokens → Yields b tokens → Same a b
  trees-agree a b first second =
      let written = one first.written second.written first.text second.text in
      let units : Some (Units (bare_units a.units)) ≡ Some (Units (bare_units b.units)) =
      sym first.units ∙ ap (value 0) written ∙ second.units in
      let count : a.tokens ≡ b.tokens = omega (arith, first.tokens_count, second.tokens_count) in
      let last : Some first.end_token ≡ Some second.end_token = sym first.is_last ∙ ap (slice_get tokens) count ∙ second.is_last in
      let token : first.end_token ≡ second.end_token = cc in
      record {
        units = cc;
        tokens = count;
        nodes = first.nodes_count ∙ ap nodes written ∙ sym second.nodes_count;
        end = first.ends ∙ ap (λ (x : Token). x.span) token ∙ sym second.ends;
      }
