-- Leaving blocks, a declaration at a time.
use Rattle.std.proofs.Common.{◌≡◌, ℕ, ◌<◌, ◌≤◌, cond, ltb, List, [], ◌∷◌, length, drop, Option, Some, None, refl, ap, sym, ◌∙◌, arith}
use Rattle.std.proofs.lemmas.Bool.{lt-ltb, le-ltb}
use Rattle.cscope.specs.Scope.{top, left}
use Rattle.cscope.specs.declared.entry.Entry.{Entry}

pub left_none : (depth : ℕ) (es : List Entry) → top es ≡ None → left depth es ≡ es
left_none depth [] h = refl
left_none depth (e ∷ rest) h = cc

pub left_stays : (depth : ℕ) (es : List Entry) (d : Entry) → top es ≡ Some d → d.depth ≤ depth → left depth es ≡ es
left_stays depth [] d h p = refl
left_stays depth (e ∷ rest) d h p =
    let same : e ≡ d = cc in
    ap (λ b. cond b (left depth rest) (e ∷ rest)) (le-ltb depth e.depth (omega (arith, p, ap (λ x. x.depth) same)))

pub left_goes : (depth : ℕ) (es : List Entry) (d : Entry) → top es ≡ Some d → depth < d.depth → left depth (drop 1 es) ≡ left depth es
left_goes depth [] d h p = refl
left_goes depth (e ∷ rest) d h p =
    let same : e ≡ d = cc in
    sym (ap (λ b. cond b (left depth rest) (e ∷ rest)) (lt-ltb depth e.depth (omega (arith, p, ap (λ x. x.depth) same))))

pub left_fewer : (es : List Entry) (d : Entry) → top es ≡ Some d → length (drop 1 es) < length es
left_fewer [] d h = cc
left_fewer (e ∷ rest) d h = omega arith

pub ruleset left_steps = (left_none, left_stays, left_goes, left_fewer)
