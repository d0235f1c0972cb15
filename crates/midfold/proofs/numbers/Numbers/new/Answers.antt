use Rattle.std.proofs.Common.{rules, ap, ◌∙◌, map}
use Rattle.midfold.specs.Numbers.{held_in}
use Rattle.midfold.proofs.NumberLemmas.{are_noted, all-new, held-new}
use Rattle.midfold.proofs.numbers.Numbers.new.Goals as goal

pub invariant_of-result : goal.invariant_of-result
invariant_of-result c =
    ap (are_noted 0) (c.in_ok-vec.ensures.items_if_clones_equal (λ y is. search rules)) ∙ all-new c.args.count

pub returns : goal.returns
returns c =
    ap (λ l. record { held = l; rounds = 0 })
    (ap (map (held_in 0)) (c.in_ok-vec.ensures.items_if_clones_equal (λ y is. search rules)) ∙ held-new c.args.count)
