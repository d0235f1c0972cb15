-- Acts in order, and one more.
use Rattle.std.proofs.Common.{◌≡◌, ◌-◌, ◌<◌, ◌≤◌, List, [], ◌∷◌, ◌++◌, length, get_or, sym, ap, ◌∙◌, arith, length-append, inl, inr, nat_lt}
use Rattle.std.proofs.lemmas.Bool.{cases_lt, lt-ltb, le-ltb}
use Rattle.std.specs.Bool.{MatchBool}
use Rattle.std.proofs.lemmas.List.{get_or_default, get_or_append_left}
use Rattle.std.proofs.Math.Seq.{get_or-append_seam}
use Rattle.std.proofs.lemmas.List.Sorted.{IsNonDecreasingBy-push}
use Rattle.hostscript.specs.declared.action.Act.{Act}
use Rattle.hostscript.specs.Acts.{InOrder}

pub falls_down : (acts : List Act) (last act : Act) → 0 < length acts → last ≡ get_or acts (length acts - 1) last
    → act.cycle < last.cycle → InOrder (acts ++ act ∷ []) → ⊥
falls_down acts last act some is low order =
    let before = get_or_append_left acts (act ∷ []) last (length acts - 1) (omega arith) in
    let behind = get_or-append_seam acts act [] last in
    let le = order (length acts - 1) (length acts) last (omega arith) (omega (arith, length-append acts (act ∷ []))) in
    let a : (get_or (acts ++ act ∷ []) (length acts - 1) last).cycle ≡ last.cycle = ap (λ (x : Act). x.cycle) (before ∙ sym is) in
    let b : (get_or (acts ++ act ∷ []) (length acts) last).cycle ≡ act.cycle = ap (λ (x : Act). x.cycle) behind in
    omega (arith, le, a, b)

pub rises : (acts : List Act) (last act : Act) → last ≡ get_or acts (length acts - 1) last → last.cycle ≤ act.cycle → InOrder acts
    → InOrder (acts ++ act ∷ [])
rises acts last act is low order = IsNonDecreasingBy-push (λ (x : Act). x.cycle) acts act order
    (λ d some. let e : (get_or acts (length acts - 1) d).cycle ≡ last.cycle =
    ap (λ (x : Act). x.cycle) (get_or_default acts (length acts - 1) d last (omega arith) ∙ sym is) in omega (arith, e))

pub falls_or_rises : (acts : List Act) (last act : Act) → 0 < length acts → last ≡ get_or acts (length acts - 1) last
    → MatchBool (nat_lt act.cycle last.cycle) (InOrder (acts ++ act ∷ []) → ⊥) (InOrder acts → InOrder (acts ++ act ∷ []))
falls_or_rises acts last act some is = elim (cases_lt act.cycle last.cycle) [
  | inl low ↦ rw (lt-ltb act.cycle last.cycle low) (falls_down acts last act some is low)
  | inr high ↦ rw (le-ltb act.cycle last.cycle high) (rises acts last act is high)
]
