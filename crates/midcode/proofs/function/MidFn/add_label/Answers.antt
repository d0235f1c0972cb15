use Rattle.linkarena.specs.Lists.{list_at}
use Rattle.midcode.proofs.Valid.{inside-label, free-label}
use Rattle.midcode.proofs.function.MidFn.add_label.Goals as goal

pub invariant_of-self : goal.invariant_of-self
invariant_of-self c =
    inside-label c.self.inside.signature c.self.inside.registers.items c.self.inside.labels c.self.inside.ops.lists c.self.inside.list
    c.self.invariant

pub returns-clause-free : goal.returns-clause-free
returns-clause-free c =
    free-label (record {
      signature = c.self.inside.signature;
      registers = c.self.inside.registers.items;
      labels = c.self.inside.labels;
      nodes = list_at c.self.inside.ops.lists c.self.inside.list;
    }) c.self.invariant.2
