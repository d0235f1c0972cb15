-- What a list holds after its elements were lent.
use Rattle.std.proofs.Common.{◌≡◌, ℕ, List, [], ◌++◌, length, take, drop, ap, ◌∙◌, arith, append-nil}
use Rattle.std.proofs.lemmas.List.{drop_all, take_all}

pub put-back : {X : Type 0} (len : ℕ) (new old : List X) → len ≡ length old → length new ≡ length old
    → take len (new ++ drop (length new) old) ≡ new
put-back len new old is long =
    let none : drop (length new) old ≡ [] = drop_all (length new) old (omega (arith, long)) in
    ap (λ xs. take len (new ++ xs)) none ∙ ap (take len) (append-nil new) ∙ take_all len new (omega (arith, is, long))
