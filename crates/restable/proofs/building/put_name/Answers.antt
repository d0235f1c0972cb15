use Rattle.std.proofs.Common.{◌≡◌, ◌+◌, ◌-◌, ◌++◌, ◌∷◌, [], ◌∙◌, List, ℕ, ap, arith, append_assoc, length, replicate}
use Rattle.std.proofs.lemmas.List.{replicate-append-replicate}
use Rattle.restable.proofs.building.put_name.Goals as goal

pub loop-preserved : goal.loop-preserved
loop-preserved c =
    let front : List ℕ = c.args.out.now.items ++ c.args.name.now in
    let k : ℕ = c.loop.counter - length c.args.name.now in
    let more : k + 1 ≡ c.loop.counter + 1 - length c.args.name.now = omega arith in
    c.in_ok-push.ensures.items ∙ ap (λ xs. xs ++ 0 ∷ []) c.loop.invariant ∙ append_assoc front (replicate k 0) (0 ∷ [])
    ∙ ap (λ xs. front ++ xs) (replicate-append-replicate k 1 0 ∙ ap (λ n. replicate n 0) more)

pub returns : goal.returns
returns c =
    let last : c.loop.counter ≡ 32 = omega arith in
    c.loop.invariant ∙ ap (λ n. (c.args.out.now.items ++ c.args.name.now) ++ replicate (n - length c.args.name.now) 0) last
    ∙ append_assoc c.args.out.now.items c.args.name.now (replicate (32 - length c.args.name.now) 0)
