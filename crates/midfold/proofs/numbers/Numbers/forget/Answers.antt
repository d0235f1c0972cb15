use Rattle.std.proofs.Common.{◌+◌, None, map, ap, ◌∙◌}
use Rattle.midfold.proofs.NumberLemmas.{all-later, held-later}
use Rattle.midfold.proofs.numbers.Numbers.forget.Goals as goal

pub invariant_of-self : goal.invariant_of-self
invariant_of-self c = all-later c.self.inside.round c.self.inside.noted.items c.self.invariant

pub returns : goal.returns
returns c =
    ap (λ l. record { held = l; rounds = c.self.inside.round + 1 })
    (held-later c.self.inside.round c.self.inside.noted.items c.self.invariant) ∙
    ap (λ t. record { held = map (λ _. None) t.held; rounds = t.rounds + 1 }) c.self.view_is
