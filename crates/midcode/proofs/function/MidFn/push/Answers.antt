use Rattle.std.proofs.Common.{◌≡◌, length, sym, ap, subst, arith}
use Rattle.linkarena.specs.Lists.{list_at}
use Rattle.midcode.specs.Function.{Function, MayFollow, IsPushed}
use Rattle.midcode.proofs.Valid.{inside-pushed, inside-same, pushed-view}
use Rattle.midcode.proofs.function.MidFn.push.Goals as goal
use Rattle.midcode.proofs.function.MidFn.push.Goals.{in-Ok, in-Err-Memory}

pub invariant_of-self : goal.invariant_of-self
invariant_of-self c = elim c.match-push_back.branch [
  | in-Ok w ↦ (
      let P : Function → Type 0 = λ f. MayFollow f c.args.op.kind in
      let count : length c.args.self.now.nodes ≡ length (list_at c.self.inside.ops.lists c.self.inside.list) =
      sym (ap (λ f. length f.nodes) c.self.view_is) in
      inside-pushed c.self.inside.signature c.self.inside.registers.items c.self.inside.labels
      c.self.inside.ops.lists c.self.inside.list c.self.invariant
      c.push_back.new.self.lists w.in-Ok.field-0 c.args.op (subst P (sym c.self.view_is) c.requires.follows)
      (omega (arith, count, c.requires.few)) w.in-Ok.ensures.added)
  | in-Err-Memory w ↦
      inside-same c.self.inside.signature c.self.inside.registers.items c.self.inside.labels
      c.self.inside.ops.lists c.self.inside.list c.self.invariant
      c.push_back.new.self.lists (ap (λ a. a.lists) w.in-Err-Memory.ensures.refuses.unchanged)
]

pub returns-clause-pushed : goal.returns-clause-pushed
returns-clause-pushed c = elim c.match-push_back.branch [
  | in-Ok w ↦ (
      let now : Function = record {
        signature = c.self.inside.signature;
        registers = c.self.inside.registers.items;
        labels = c.self.inside.labels;
        nodes = list_at c.push_back.new.self.lists c.self.inside.list;
      } in
      let P : Function → Type 0 = λ f. IsPushed f now c.args.op in
      rw w.result-is (subst P c.self.view_is (pushed-view c.self.inside.signature c.self.inside.registers.items c.self.inside.labels
      c.self.inside.ops.lists c.self.inside.list c.self.invariant
      c.push_back.new.self.lists w.in-Ok.field-0 c.args.op w.in-Ok.ensures.added)))
  | in-Err-Memory w ↦ rw w.result-is tt
]
