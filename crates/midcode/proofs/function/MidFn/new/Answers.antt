use Rattle.std.proofs.Common.{[], ◌∷◌, ◌++◌, length, ap, ◌∙◌}
use Rattle.midcode.proofs.Valid.{inside-new}
use Rattle.midcode.proofs.function.MidFn.new.Goals as goal

pub invariant_of-result : goal.invariant_of-result
invariant_of-result c =
    inside-new c.args.signature c.in_ok-registers.registers.items c.add_list.new.self.lists c.in_ok-list.list
    c.in_ok-registers.ensures.items
    (ap (λ a. a.lists) c.in_ok-list.ensures.added ∙ ap (λ a. a.lists ++ [] ∷ []) c.new-ops.ensures)
    (c.in_ok-list.ensures.id ∙ ap (λ a. length a.lists) c.new-ops.ensures)
