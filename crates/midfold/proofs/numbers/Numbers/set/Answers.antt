use Rattle.std.proofs.Common.{ap, ◌∙◌, slice_set}
use Rattle.midfold.proofs.NumberLemmas.{all-set, held-set}
use Rattle.midfold.proofs.numbers.Numbers.set.Goals as goal

pub invariant_of-self : goal.invariant_of-self
invariant_of-self c = all-set c.self.inside.round c.self.inside.noted.items c.args.r.0 c.args.number c.self.invariant

pub returns-then-index-len : goal.returns-then-index-len
returns-then-index-len c =
    ap (λ l. record { held = l; rounds = c.self.inside.round })
    (held-set c.self.inside.round c.self.inside.noted.items c.args.r.0 c.args.number) ∙
    ap (λ t. record { held = slice_set t.held c.args.r.0 c.args.number; rounds = t.rounds }) c.self.view_is
