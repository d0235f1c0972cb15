-- The spans of a function, one by one, and then in the order of their starts.
use Rattle.std.proofs.Common.{◌≡◌, ℕ, ◌+◌, ◌<◌, ◌⊎◌, inl, inr, Bool, false, List, [], ◌∷◌, ◌++◌, length, get_or}
use Rattle.std.proofs.Common.{sym, ap, ◌∙◌, subst, arith, Option, Some, None, length-append, eqb, eq-eqb, ne_eqb}
use Rattle.std.specs.Prelude.{slice_get, All, IsPermutation}
use Rattle.std.specs.List.{IsDistinct}
use Rattle.std.specs.List.Sorted.{IsNonDecreasingBy}
use Rattle.std.proofs.lemmas.Bool.{cases_eq, cases_lt, true≢false}
use Rattle.std.proofs.lemmas.Option.{same_Some, none-some, slice_get_within, slice_get-get_or, get_or_from_slice_get}
use Rattle.std.proofs.lemmas.List.Sorted.{All-permutation, Contains-permutation, length_permutation}
use Rattle.std.proofs.lemmas.Map.Keys.{IsDistinct-from_apart, apart_from_distinct, IsDistinct-IsPermutation}
use Rattle.midcode.specs.declared.register.VReg.{VReg}
use Rattle.midcode.specs.Function.{Function, IsValidFunction}
use Rattle.subreg.specs.declared.home.Interval.{Interval}
use Rattle.subreg.specs.Span.{IsSpan, MentionedAt}
use Rattle.subreg.proofs.Elements.{get-push_front, get-push_last}
use Rattle.subreg.proofs.Spans.{same_span}
use Rattle.livespan.specs.declared.area.Area.{Area}
use Rattle.livespan.specs.Live.{AreHulls}
use Rattle.livespan.specs.Spans.{AreSpansOf, AreSpansBelow, IsAdded}
use Rattle.livespan.proofs.Hulls.{same_register}
use Rattle.livespan.proofs.Valid.{no-span, span-forward, span-named, span-small}

-- ---- one more

pub push-cases : {X : Type 0} (xs : List X) (x : X) (n : ℕ) (y : X) → slice_get (xs ++ x ∷ []) n ≡ Some y
    → (slice_get xs n ≡ Some y) ⊎ ((n ≡ length xs) × (x ≡ y))
push-cases xs x n y at =
    elim (cases_lt n (length xs)) [
      | inl front ↦ inl (sym (get-push_front xs n x front) ∙ at)
      | inr behind ↦
          let short : n < length xs + 1 = omega (arith, slice_get_within (xs ++ x ∷ []) n y at, length-append xs (x ∷ [])) in
          let here : n ≡ length xs = omega (arith, behind, short) in
          inr (here, same_Some x y (sym (get-push_last xs x) ∙ ap (slice_get (xs ++ x ∷ [])) (sym here) ∙ at))
    ]

pub push-old : {X : Type 0} (xs : List X) (x : X) (n : ℕ) (y : X) → slice_get xs n ≡ Some y → slice_get (xs ++ x ∷ []) n ≡ Some y
push-old xs x n y at = get-push_front xs n x (slice_get_within xs n y at) ∙ at

pub below-none : (f : Function) → AreSpansBelow f 0 []
below-none f = record {
  few = omega arith;
  exact = λ n s at. absurd (none-some s at);
  whole = λ v from to below is. absurd (omega (arith, below));
  once = λ m n s t at there same. absurd (none-some s at);
}

below-same : (f : Function) (i : ℕ) (v : VReg) (spans : List Interval) → v.0 ≡ i → ((place : ℕ) → MentionedAt f place v → ⊥)
    → AreSpansBelow f i spans → AreSpansBelow f (i + 1) spans
below-same f i v spans number none are = record {
  few = omega (arith, are.few);
  exact = λ n s at. let e = are.exact n s at in (omega (arith, e.0), e.1);
  whole = λ w from to below is.
      elim (cases_lt w.0 i) [
        | inl less ↦ are.whole w from to less is
        | inr more ↦
            let same : w.0 ≡ v.0 = omega (arith, more, below, number) in
            let P : VReg → Type 0 = λ x. IsSpan f x from to in
            absurd (no-span f v from to none (subst P (same_register w v same) is))
      ];
  once = are.once;
}

span-push : (f : Function) (i : ℕ) (spans : List Interval) (s : Interval) → s.vreg.0 ≡ i → IsSpan f s.vreg s.from s.to
    → AreSpansBelow f i spans → AreSpansBelow f (i + 1) (spans ++ s ∷ [])
span-push f i spans s number is are = record {
  few = omega (arith, are.few, length-append spans (s ∷ []));
  exact = λ n t at.
      elim (push-cases spans s n t at) [
        | inl old ↦ let e = are.exact n t old in (omega (arith, e.0), e.1)
        | inr last ↦
            let P : Interval → Type 0 = λ x. (x.vreg.0 < i + 1) × IsSpan f x.vreg x.from x.to in
            subst P last.1 (omega (arith, number), is)
      ];
  whole = λ w from to below span.
      elim (cases_lt w.0 i) [
        | inl less ↦
            let old = are.whole w from to less span in
            (old.0, push-old spans s old.0 (record { vreg = w; from = from; to = to }) old.1)
        | inr more ↦
            let same : w ≡ s.vreg = same_register w s.vreg (omega (arith, more, below, number)) in
            let P : VReg → Type 0 = λ x. IsSpan f x from to in
            let ends = same_span f s.vreg from to s.from s.to (subst P same span) is in
            let make : VReg → ℕ → ℕ → Interval = λ x a b. record { vreg = x; from = a; to = b } in
            let e : s ≡ make w from to =
            ap (λ b. make s.vreg s.from b) (sym ends.1) ∙ ap (λ a. make s.vreg a to) (sym ends.0) ∙ ap (λ x. make x from to) (sym same) in
            (length spans, get-push_last spans s ∙ ap Some e)
      ];
  once = λ m n t u at there same.
      elim (push-cases spans s m t at) [
        | inl old ↦
            elim (push-cases spans s n u there) [
              | inl older ↦ are.once m n t u old older same
              | inr last ↦
                  let number_of : Interval → ℕ = λ x. x.vreg.0 in
                  absurd (omega (arith, (are.exact m t old).0, same, ap number_of last.1, number))
            ]
        | inr last ↦
            elim (push-cases spans s n u there) [
              | inl old ↦
                  let number_of : Interval → ℕ = λ x. x.vreg.0 in
                  absurd (omega (arith, (are.exact n u old).0, same, ap number_of last.1, number))
              | inr too ↦ omega (arith, last.0, too.0)
            ]
      ];
}

-- with the span of the next register, if it has one
pub below-more : (f : Function) (i : ℕ) (v : VReg) (hulls : List (Option Area)) (o : Option Area) (spans new : List Interval) → v.0 ≡ i
    → AreHulls (MentionedAt f) hulls → slice_get hulls v.0 ≡ Some o → IsAdded f v o spans new → AreSpansBelow f i spans
    → AreSpansBelow f (i + 1) new
below-more f i v hulls None spans new number hulled at added are =
    let P : List Interval → Type 0 = λ xs. AreSpansBelow f (i + 1) xs in
    subst P (sym added) (below-same f i v spans number (λ place. hulled.none v place at) are)
below-more f i v hulls (Some a) spans new number hulled at added are =
    let s : Interval = added.span in
    let P : List Interval → Type 0 = λ xs. AreSpansBelow f (i + 1) xs in
    let Q : VReg → Type 0 = λ x. IsSpan f x s.from s.to in
    let number_of : VReg → ℕ = λ x. x.0 in
    subst P (sym added.added)
    (span-push f i spans s (ap number_of added.named ∙ number) (subst Q (sym added.named) added.exact) are)

-- ---- in order

abbrev same_number : Interval → Interval → Bool
same_number s t = eqb s.vreg.0 t.vreg.0

flips : (s t : Interval) → same_number s t ≡ same_number t s
flips s t =
    elim (cases_eq s.vreg.0 t.vreg.0) [
      | inl same ↦ eq-eqb s.vreg.0 t.vreg.0 same ∙ sym (eq-eqb t.vreg.0 s.vreg.0 (sym same))
      | inr other ↦ ne_eqb s.vreg.0 t.vreg.0 other ∙ sym (ne_eqb t.vreg.0 s.vreg.0 (λ e. other (sym e)))
    ]

distinct : (f : Function) (number : ℕ) (spans : List Interval) → AreSpansBelow f number spans → IsDistinct same_number spans
distinct f number spans are =
    IsDistinct-from_apart same_number spans
    (λ i j d less below.
    let s : Interval = get_or spans i d in
    let t : Interval = get_or spans j d in
    ne_eqb s.vreg.0 t.vreg.0
    (λ same.
    let e : i ≡ j =
    are.once i j s t (slice_get-get_or spans i d (omega (arith, less, below))) (slice_get-get_or spans j d below) same in
    omega (arith, e, less)))

once-before : (spans : List Interval) → IsDistinct same_number spans → (m n : ℕ) (s t : Interval) → slice_get spans m ≡ Some s
    → slice_get spans n ≡ Some t → s.vreg.0 ≡ t.vreg.0 → m < n → ⊥
once-before spans apart m n s t at there same less =
    let tests = apart_from_distinct same_number spans m n s apart less (slice_get_within spans n t there) in
    let left : get_or spans m s ≡ s = get_or_from_slice_get spans m s s at in
    let right : get_or spans n s ≡ t = get_or_from_slice_get spans n t s there in
    let both : same_number s t ≡ false =
    ap (λ x. same_number x t) (sym left) ∙ ap (λ x. same_number (get_or spans m s) x) (sym right) ∙ tests in
    true≢false (sym (eq-eqb s.vreg.0 t.vreg.0 same) ∙ both)

pub sorted-spans : (f : Function) (spans sorted : List Interval) → IsValidFunction f → AreSpansBelow f (length f.registers) spans
    → IsPermutation spans sorted → IsNonDecreasingBy (λ (s : Interval). s.from) sorted → AreSpansOf f sorted
sorted-spans f spans sorted valid are moved rises =
    let Good : Interval → Type 0 = λ s. (s.vreg.0 < length f.registers) × IsSpan f s.vreg s.from s.to in
    let all : All Good sorted =
    All-permutation Good spans sorted moved
    (λ k d below. are.exact k (get_or spans k d) (slice_get-get_or spans k d below)) in
    let good : (n : ℕ) (s : Interval) → slice_get sorted n ≡ Some s → Good s =
    λ n s at. subst Good (get_or_from_slice_get sorted n s s at) (all n s (slice_get_within sorted n s at)) in
    let apart : IsDistinct same_number sorted =
    IsDistinct-IsPermutation same_number flips spans sorted moved (distinct f (length f.registers) spans are) in
    record {
      list = record {
        few = omega (arith, are.few, length_permutation spans sorted moved, valid.few_registers);
        named = λ n s at. (good n s at).0;
        forward = λ n s at. span-forward f s.vreg s.from s.to (good n s at).1;
        small = λ n s at. span-small f s.vreg s.from s.to valid (good n s at).1;
        ordered = λ m n s t before at there.
            let left : get_or sorted m s ≡ s = get_or_from_slice_get sorted m s s at in
            let right : get_or sorted n s ≡ t = get_or_from_slice_get sorted n t s there in
            let start : Interval → ℕ = λ x. x.from in
            omega (arith, rises m n s before (slice_get_within sorted n t there), ap start left, ap start right);
        once = λ m n s t at there same.
            elim (cases_lt m n) [
              | inl less ↦ absurd (once-before sorted apart m n s t at there same less)
              | inr other ↦
                  elim (cases_lt n m) [
                    | inl more ↦ absurd (once-before sorted apart n m t s there at (sym same) more)
                    | inr last ↦ omega (arith, other, last)
                  ]
            ];
      };
      exact = λ v from to. (
        λ listed. (good listed.0 (record { vreg = v; from = from; to = to }) listed.1).1,
        λ is.
            let s : Interval = record { vreg = v; from = from; to = to } in
            let old = are.whole v from to (span-named f v from to valid is) is in
            let there =
            Contains-permutation spans sorted s moved
            (old.0, slice_get_within spans old.0 s old.1, get_or_from_slice_get spans old.0 s s old.1) in
            (there.0, slice_get-get_or sorted there.0 s there.1 ∙ ap Some there.2),
      );
    }
