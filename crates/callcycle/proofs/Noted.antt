-- The first place of those that were found.
use Rattle.std.proofs.Common.{◌≡◌, ℕ, ◌+◌, ◌<◌, ◌≤◌, inl, inr, List, [], ◌∷◌, ◌++◌, length, refl, sym, ◌∙◌, subst, arith}
use Rattle.std.proofs.Common.{Option, Some, None, MatchOption, take, get_or}
use Rattle.std.specs.Prelude.{Contains}
use Rattle.std.specs.Global.{Vec}
use Rattle.std.proofs.lemmas.Bool.{cases_lt}
use Rattle.std.proofs.lemmas.List.Elements.{Contains-push_cases}
use Rattle.std.proofs.lemmas.List.{take_more}
use Rattle.csyn.specs.declared.span.Span.{Span}
use Rattle.callcycle.specs.declared.call.Call.{Call}
use Rattle.callcycle.specs.Calls.{calls_of, InCycle, IsUpTo, HasNoCycle, IsFirst}
use Rattle.callcycle.specs.Search.{IsFound, Covers, IsNoted}
use Rattle.callcycle.proofs.Reached.{caller-within}

up-same : (p : Span) → IsUpTo p p
up-same p = inr (refl, omega arith)

up-through : (p q r : Span) → IsUpTo p q → IsUpTo q r → IsUpTo p r
up-through p q r (inl a) (inl b) = inl (omega (arith, a, b))
up-through p q r (inl a) (inr b) = inl (omega (arith, a, b.0))
up-through p q r (inr a) (inl b) = inl (omega (arith, a.0, b))
up-through p q r (inr a) (inr b) = inr (a.0 ∙ b.0, omega (arith, a.1, b.1))

-- of two places one is the other or stands before it
up-or : (p q : Span) → (IsUpTo q p → ⊥) → IsUpTo p q
up-or p q never = elim (cases_lt p.line q.line) [
  | inl less ↦ inl less
  | inr more ↦ elim (cases_lt q.line p.line) [
    | inl above ↦ absurd (never (inl above))
    | inr same ↦ elim (cases_lt q.column p.column) [
      | inl before ↦ absurd (never (inr (omega (arith, more, same), omega (arith, before))))
      | inr up ↦ inr (omega (arith, more, same), up)
    ]
  ]
]

pub noted-none : (functions : List (Vec Call)) (f : ℕ) (o : Option Span) → IsFound functions o → IsNoted functions f [] o o
noted-none functions f o found = record {
  is = found;
  kept = λ q k. k;
  covered = λ c k i. absurd (omega (arith, k.1));
}

pub noted-more : (functions : List (Vec Call)) (f : ℕ) (cs : List Call) (c : Call) (a b d : Option Span) → IsNoted functions f cs a b
    → IsNoted functions f (c ∷ []) b d → IsNoted functions f (cs ++ c ∷ []) a d
noted-more functions f cs c a b d m n = record {
  is = n.is;
  kept = λ q k. n.kept q (m.kept q k);
  covered = λ e k i. elim (Contains-push_cases cs c e k) [
    | inl before ↦ n.kept e.place (m.covered e before i)
    | inr same ↦ subst (λ (x : Call). InCycle functions f x → Covers d x.place) same
        (n.covered c (0, omega arith, refl)) i
  ];
}

pub noted-at : (functions : List (Vec Call)) (f : ℕ) (cs : List Call) (i : ℕ) (d : Call) (a b e : Option Span) → i < length cs
    → IsNoted functions f (take i cs) a b → IsNoted functions f (get_or cs i d ∷ []) b e → IsNoted functions f (take (i + 1) cs) a e
noted-at functions f cs i d a b e within m n =
    subst (λ (x : List Call). IsNoted functions f x a e) (sym (take_more cs i d within))
    (noted-more functions f (take i cs) (get_or cs i d) a b e m n)

-- the call stands no earlier than what was found
pub noted-later : (functions : List (Vec Call)) (f : ℕ) (c : Call) (o : Option Span) → IsFound functions o → Covers o c.place
    → IsNoted functions f (c ∷ []) o o
noted-later functions f c o found later = record {
  is = found;
  kept = λ q k. k;
  covered = λ d k i. elim (Contains-push_cases [] c d k) [
    | inl none ↦ absurd (omega (arith, none.1))
    | inr same ↦ subst (λ (x : Call). Covers o x.place) same later
  ];
}

-- the call stands in no cycle
pub noted-out : (functions : List (Vec Call)) (f : ℕ) (c : Call) (o : Option Span) → IsFound functions o → (InCycle functions f c → ⊥)
    → IsNoted functions f (c ∷ []) o o
noted-out functions f c o found out = record {
  is = found;
  kept = λ q k. k;
  covered = λ d k i. elim (Contains-push_cases [] c d k) [
    | inl none ↦ absurd (omega (arith, none.1))
    | inr same ↦ absurd (subst (λ (x : Call). InCycle functions f x → ⊥) same out i)
  ];
}

covers-less : (o : Option Span) (p q : Span) → (Covers o p → ⊥) → Covers o q → IsUpTo p q
covers-less None p q never k = absurd k
covers-less (Some r) p q never k = up-through p r q (up-or p r never) k

-- the call stands in a cycle, before what was found
pub noted-in : (functions : List (Vec Call)) (f : ℕ) (c : Call) (o : Option Span) → (Covers o c.place → ⊥) → InCycle functions f c
    → IsNoted functions f (c ∷ []) o (Some c.place)
noted-in functions f c o earlier i = record {
  is = (f, c, i, refl);
  kept = λ q k. covers-less o c.place q earlier k;
  covered = λ d k j. elim (Contains-push_cases [] c d k) [
    | inl none ↦ absurd (omega (arith, none.1))
    | inr same ↦ subst (λ (x : Call). IsUpTo c.place x.place) same (up-same c.place)
  ];
}

-- calls of functions below a number that stand in a cycle stand no earlier
pub record IsUntil (functions : List (Vec Call)) (n : ℕ) (o : Option Span) : Type 0 where
  pub is : IsFound functions o
  pub covered : (f : ℕ) (c : Call) → f < n → InCycle functions f c → Covers o c.place

pub until-none : (functions : List (Vec Call)) (o : Option Span) → IsFound functions o → IsUntil functions 0 o
until-none functions o found = record { is = found; covered = λ f c l i. absurd (omega (arith, l)) }

pub until-more : (functions : List (Vec Call)) (n : ℕ) (a b : Option Span) → IsUntil functions n a
    → IsNoted functions n (calls_of functions n) a b → IsUntil functions (n + 1) b
until-more functions n a b u m = record {
  is = m.is;
  covered = λ f c l i. elim (cases_lt f n) [
    | inl below ↦ m.kept c.place (u.covered f c below i)
    | inr up ↦
        let same : n ≡ f = omega (arith, l, up) in
        m.covered c (subst (λ x. Contains (calls_of functions x) c) (sym same) i.is) (subst (λ x. InCycle functions x c) (sym same) i)
  ];
}

pub until-all : (functions : List (Vec Call)) (o : Option Span) (n : ℕ) → length functions ≤ n → IsUntil functions n o
    → MatchOption o (HasNoCycle functions) (IsFirst functions)
until-all functions None n l u = λ f c i. u.covered f c (omega (arith, l, caller-within functions f c i.is)) i
until-all functions (Some p) n l u = record {
  caller = u.is.0;
  call = u.is.1;
  in_cycle = u.is.2;
  at = u.is.3;
  first = λ f c i. u.covered f c (omega (arith, l, caller-within functions f c i.is)) i;
}
