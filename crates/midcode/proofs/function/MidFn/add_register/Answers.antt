use Rattle.std.proofs.Common.{◌≡◌, length, ap, arith}
use Rattle.midcode.proofs.Valid.{inside-register}
use Rattle.midcode.proofs.function.MidFn.add_register.Goals as goal

pub invariant_of-self-2 : goal.invariant_of-self-2
invariant_of-self-2 c =
    let count : length c.self.inside.registers.items ≡ length c.args.self.now.registers = ap (λ f. length f.registers) c.self.view_is in
    inside-register c.self.inside.signature c.self.inside.registers.items c.self.inside.labels
    c.self.inside.ops.lists c.self.inside.list c.self.invariant
    c.args.width c.push.new.self.items (omega (arith, count, c.requires)) c.in_ok-push.ensures.items
