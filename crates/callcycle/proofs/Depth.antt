-- Where no call stands in a cycle, the count of functions that a function reaches falls along each call.
use Rattle.std.proofs.Common.{◌≡◌, ℕ, zero, suc, ◌+◌, ◌<◌, ◌≤◌, ◌⊎◌, inl, inr, Bool, true, false, ◌&&◌, ◌||◌, List, [], ◌∷◌, length}
use Rattle.std.proofs.Common.{refl, sym, ap, subst, arith, eqb, eq-eqb, get_or}
use Rattle.std.proofs.lemmas.List.Elements.{Contains-append_left, Contains-append_right, Contains-push}
use Rattle.std.specs.Prelude.{Contains}
use Rattle.std.specs.Global.{Vec}
use Rattle.std.proofs.lemmas.Bool.{cases_lt, eqb-true, false≢true}
use Rattle.callcycle.specs.declared.call.Call.{Call}
use Rattle.callcycle.specs.Calls.{calls_of, Reaches, here, calls, HasNoCycle, IsDepth, HasDepth}
use Rattle.callcycle.proofs.Reached.{caller-within}

-- ---- truths

or-left : (a b : Bool) → a ≡ true → (a || b) ≡ true
or-left true b e = refl
or-left false b e = absurd (false≢true e)

or-right : (a b : Bool) → b ≡ true → (a || b) ≡ true
or-right true b e = refl
or-right false b e = e

or-cases : (a b : Bool) → (a || b) ≡ true → (a ≡ true) ⊎ (b ≡ true)
or-cases true b e = inl refl
or-cases false b e = inr e

and-both : (a b : Bool) → a ≡ true → b ≡ true → (a && b) ≡ true
and-both true b p q = q
and-both false b p q = absurd (false≢true p)

and-left : (a b : Bool) → (a && b) ≡ true → a ≡ true
and-left true b e = refl
and-left false b e = absurd (false≢true e)

and-right : (a b : Bool) → (a && b) ≡ true → b ≡ true
and-right true b e = e
and-right false b e = absurd (false≢true e)

-- ---- whether a function reaches another in one step or more, through functions below a number

has_callee : List Call → ℕ → Bool
has_callee [] w = false
has_callee (c ∷ cs) w = (eqb c.callee w) || has_callee cs w

unfoldable links : List (Vec Call) → ℕ → ℕ → ℕ → Bool
links functions zero u w = has_callee (calls_of functions u) w
links functions (suc k) u w = links functions k u w || (links functions k u k && links functions k k w)

has-callee : (cs : List Call) (k : ℕ) (d c : Call) → k < length cs → get_or cs k d ≡ c → has_callee cs c.callee ≡ true
unfolding has_callee
has-callee [] k d c l e = absurd (omega (arith, l))
has-callee (x ∷ cs) zero d c l e =
    or-left (eqb x.callee c.callee) (has_callee cs c.callee)
    (eq-eqb x.callee c.callee (ap (λ (y : Call). y.callee) e))
has-callee (x ∷ cs) (suc k) d c l e = or-right (eqb x.callee c.callee) (has_callee cs c.callee) (has-callee cs k d c (omega (arith, l)) e)

-- a call, by its callee
abbrev CallTo : List Call → ℕ → Type 0
CallTo cs w = (c : Call) × (Contains cs c) × (c.callee ≡ w)

call-after : (x : Call) (cs : List Call) (w : ℕ) → CallTo cs w → CallTo (x ∷ cs) w
call-after x cs w t = (t.0, Contains-append_right (x ∷ []) cs t.0 t.1, t.2)

callee-called : (cs : List Call) (w : ℕ) → has_callee cs w ≡ true → CallTo cs w
unfolding has_callee
callee-called [] w e = absurd (false≢true e)
callee-called (x ∷ cs) w e = elim (or-cases (eqb x.callee w) (has_callee cs w) e) [
  | inl same ↦ (x, Contains-append_left (x ∷ []) cs x (Contains-push [] x), eqb-true x.callee w same)
  | inr after ↦ call-after x cs w (callee-called cs w after)
]

-- a call, from which the function is reached
abbrev Steps : List (Vec Call) → ℕ → ℕ → Type 0
Steps functions u w = (c : Call) × (Contains (calls_of functions u) c) × (Reaches functions c.callee w)

reach-on : (functions : List (Vec Call)) (a b w : ℕ) → Reaches functions a b → Reaches functions b w → Reaches functions a w
reach-on functions a b w (here _) r = r
reach-on functions a b w (calls _ _ c k rest) r = calls a w c k (reach-on functions c.callee b w rest r)

steps-reach : (functions : List (Vec Call)) (u w : ℕ) → Steps functions u w → Reaches functions u w
steps-reach functions u w s = calls u w s.0 s.1 s.2

steps-on : (functions : List (Vec Call)) (u k w : ℕ) → Steps functions u k → Steps functions k w → Steps functions u w
steps-on functions u k w s t = (s.0, s.1, reach-on functions s.0.callee k w s.2 (steps-reach functions k w t))

call-steps : (functions : List (Vec Call)) (u w : ℕ) → CallTo (calls_of functions u) w → Steps functions u w
call-steps functions u w t = (t.0, t.1, subst (Reaches functions t.0.callee) t.2 (here t.0.callee))

links-step : (functions : List (Vec Call)) (n u w : ℕ) → links functions n u w ≡ true → Steps functions u w
unfolding links
links-step functions zero u w e = call-steps functions u w (callee-called (calls_of functions u) w e)
links-step functions (suc k) u w e =
    elim (or-cases (links functions k u w) (links functions k u k && links functions k k w) e) [
      | inl before ↦ links-step functions k u w before
      | inr both ↦
          steps-on functions u k w
          (links-step functions k u k (and-left (links functions k u k) (links functions k k w) both))
          (links-step functions k k w (and-right (links functions k u k) (links functions k k w) both))
    ]

links-more : (functions : List (Vec Call)) (n u w : ℕ) → links functions n u w ≡ true → links functions (suc n) u w ≡ true
unfolding links
links-more functions n u w e = or-left (links functions n u w) (links functions n u n && links functions n n w) e

links-through : (functions : List (Vec Call)) (n u w : ℕ) → links functions n u n ≡ true → links functions n n w ≡ true
    → links functions (suc n) u w ≡ true
unfolding links
links-through functions n u w p q =
    or-right (links functions n u w) (links functions n u n && links functions n n w)
    (and-both (links functions n u n) (links functions n n w) p q)

links-cases : (functions : List (Vec Call)) (n u w : ℕ) → links functions (suc n) u w ≡ true
    → (links functions n u w ≡ true) ⊎ ((links functions n u n ≡ true) × (links functions n n w ≡ true))
unfolding links
links-cases functions n u w e =
    elim (or-cases (links functions n u w) (links functions n u n && links functions n n w) e) [
      | inl before ↦ inl before
      | inr both ↦ inr (
        and-left (links functions n u n) (links functions n n w) both,
        and-right (links functions n u n) (links functions n n w) both,
      )
    ]

links-first : (functions : List (Vec Call)) (n f : ℕ) (c : Call) → Contains (calls_of functions f) c → links functions n f c.callee ≡ true
unfolding links
links-first functions zero f c k = has-callee (calls_of functions f) k.0 c c k.1 k.2
links-first functions (suc n) f c k = links-more functions n f c.callee (links-first functions n f c k)

-- to the last one
links-to : (functions : List (Vec Call)) (n u : ℕ) → links functions (suc n) u n ≡ true → links functions n u n ≡ true
links-to functions n u e = elim (links-cases functions n u n e) [ inl p ↦ p | inr q ↦ q.0 ]

links-from : (functions : List (Vec Call)) (n w : ℕ) → links functions (suc n) n w ≡ true → links functions n n w ≡ true
links-from functions n w e = elim (links-cases functions n n w e) [ inl p ↦ p | inr q ↦ q.1 ]

links-join : (functions : List (Vec Call)) (n u m w : ℕ) → m < n → links functions n u m ≡ true → links functions n m w ≡ true
    → links functions n u w ≡ true
links-join functions zero u m w l p q = absurd (omega (arith, l))
links-join functions (suc n) u m w l p q = elim (cases_lt m n) [
  | inl below ↦ elim (links-cases functions n u m p) [
    | inl p' ↦ elim (links-cases functions n m w q) [
      | inl q' ↦ links-more functions n u w (links-join functions n u m w below p' q')
      | inr r ↦ links-through functions n u w (links-join functions n u m n below p' r.0) r.1
    ]
    | inr s ↦ elim (links-cases functions n m w q) [
      | inl q' ↦ links-through functions n u w s.0 (links-join functions n n m w below s.1 q')
      | inr r ↦ links-through functions n u w s.0 r.1
    ]
  ]
  | inr up ↦
      let same : m ≡ n = omega (arith, l, up) in
      links-through functions n u w
      (links-to functions n u (subst (λ x. links functions (suc n) u x ≡ true) same p))
      (links-from functions n w (subst (λ x. links functions (suc n) x w ≡ true) same q))
]

-- ---- how many below a number there are of which something is true

one : Bool → ℕ
one true = 1
one false = 0

counted : ℕ → (ℕ → Bool) → ℕ
counted zero p = 0
counted (suc n) p = one (p n) + counted n p

one-up : (a b : Bool) → (a ≡ true → b ≡ true) → one a ≤ one b
unfolding one
one-up false b h = omega arith
one-up true true h = omega arith
one-up true false h = absurd (false≢true (h refl))

one-at_most : (a : Bool) → one a ≤ 1
unfolding one
one-at_most true = omega arith
one-at_most false = omega arith

counted-up : (n : ℕ) (p q : ℕ → Bool) → ((w : ℕ) → p w ≡ true → q w ≡ true) → counted n p ≤ counted n q
unfolding counted
counted-up zero p q h = omega arith
counted-up (suc n) p q h = omega (arith, one-up (p n) (q n) (h n), counted-up n p q h)

one-less : (a b : Bool) → a ≡ false → b ≡ true → one a < one b
unfolding one
one-less false true e f = omega arith
one-less false false e f = absurd (false≢true f)
one-less true b e f = absurd (false≢true (sym e))

counted-less : (n v : ℕ) (p q : ℕ → Bool) → ((w : ℕ) → p w ≡ true → q w ≡ true) → v < n → p v ≡ false → q v ≡ true
    → counted n p < counted n q
unfolding counted
counted-less zero v p q h l e f = absurd (omega (arith, l))
counted-less (suc n) v p q h l e f = elim (cases_lt v n) [
  | inl below ↦ omega (arith, one-up (p n) (q n) (h n), counted-less n v p q h below e f)
  | inr up ↦
      let same : v ≡ n = omega (arith, l, up) in
      omega (arith, one-less (p n) (q n) (subst (λ x. p x ≡ false) same e) (subst (λ x. q x ≡ true) same f), counted-up n p q h)
]

counted-all : (n : ℕ) → counted n (λ _. true) ≤ n
unfolding counted one
counted-all zero = omega arith
counted-all (suc n) = omega (arith, counted-all n)

unlinked : (b : Bool) → (b ≡ true → ⊥) → b ≡ false
unlinked false h = refl
unlinked true h = absurd (h refl)

no-loop : (functions : List (Vec Call)) → HasNoCycle functions → (n f : ℕ) → links functions n f f ≡ false
no-loop functions free n f = unlinked (links functions n f f) (λ e.
    let s : Steps functions f f = links-step functions n f f e in
    free f s.0 (record { is = s.1; back = s.2 }))

-- ---- the law

depth : List (Vec Call) → ℕ → ℕ
depth functions f = counted (length functions) (links functions (length functions) f)

depth-is : (functions : List (Vec Call)) → HasNoCycle functions → IsDepth functions (depth functions)
unfolding depth
depth-is functions free = record {
  falls = λ f c k within.
      let n = length functions in
      let linked : links functions n f c.callee ≡ true = links-first functions n f c k in
      counted-less n c.callee (links functions n c.callee) (links functions n f)
      (λ w e. links-join functions n f c.callee w within linked e) within (no-loop functions free n c.callee) linked;
  within = λ f within.
      let n = length functions in
      let less : counted n (links functions n f) < counted n (λ _. true) =
      counted-less n f (links functions n f) (λ _. true) (λ w e. refl) within (no-loop functions free n f) refl in
      omega (arith, less, counted-all n);
}

pub depth-of : (functions : List (Vec Call)) → HasNoCycle functions → HasDepth functions
depth-of functions free = (depth functions, depth-is functions free)

-- ---- and back: along calls to a function the depth falls

falls-to : (functions : List (Vec Call)) (d : ℕ → ℕ) → IsDepth functions d → (a b : ℕ) → Reaches functions a b → b < length functions
    → (a < length functions) × (d b ≤ d a)
falls-to functions d is a b (here _) l = (l, omega arith)
falls-to functions d is a b (calls _ _ c k rest) l =
    let on = falls-to functions d is c.callee b rest l in
    (caller-within functions a c k, omega (arith, on.1, is.falls a c k on.0))

pub free-of : (functions : List (Vec Call)) → HasDepth functions → HasNoCycle functions
free-of functions h f c i =
    let on = falls-to functions h.0 h.1 c.callee f i.back (caller-within functions f c i.is) in
    omega (arith, on.1, h.1.falls f c i.is on.0)
