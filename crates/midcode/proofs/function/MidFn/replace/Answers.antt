use Rattle.std.proofs.Common.{◌≡◌, true, sym, ap, ◌∙◌, subst}
use Rattle.midcode.specs.Function.{Function, fits}
use Rattle.midcode.proofs.Valid.{inside-replaced}
use Rattle.midcode.proofs.function.MidFn.replace.Goals as goal

pub invariant_of-self : goal.invariant_of-self
invariant_of-self c =
    let n = c.requires.node in
    let at = ap (λ f. f.nodes) c.self.view_is ∙ n.at in
    let P : Function → Type 0 = λ f. fits f.registers f.labels c.args.op.kind ≡ true in
    inside-replaced c.self.inside.signature c.self.inside.registers.items c.self.inside.labels
    c.self.inside.ops.lists c.self.inside.list c.self.invariant
    c.set.new.self.lists n.front n.back c.args.node n.op c.args.op
    at (c.requires.old n.front n.op n.back n.at) c.requires.new (subst P (sym c.self.view_is) c.requires.fit)
    (c.set.ensures.set c.self.inside.list n.front n.op n.back (record { at = at }))
