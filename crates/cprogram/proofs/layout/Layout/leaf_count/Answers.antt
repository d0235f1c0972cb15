use Rattle.std.proofs.Common.{arith, ◌≤◌, ◌*◌}
use Rattle.cprogram.specs.Layout.{Shape}
use Rattle.cprogram.proofs.Rows.{few_leaves, small_element, no_empty_leaf}
use Rattle.cprogram.proofs.layout.Layout.leaf_count.Goals as goal

pub overflow_cast-result : goal.overflow_cast-result
overflow_cast-result c =
    let s : Shape = record { leaves = c.self.inside.leaves; bytes = c.self.inside.bytes; count = c.self.inside.count } in
    omega (arith, c.len.ensures, few_leaves s c.self.invariant, small_element s c.self.invariant)

pub overflow_mul-result : goal.overflow_mul-result
overflow_mul-result c =
    let s : Shape = record { leaves = c.self.inside.leaves; bytes = c.self.inside.bytes; count = c.self.inside.count } in
    rw c.len.ensures (omega (arith, no_empty_leaf s c.self.invariant, c.self.invariant.small))

pub returns-clause-no_empty_leaf : goal.returns-clause-no_empty_leaf
returns-clause-no_empty_leaf c =
    let s : Shape = record { leaves = c.self.inside.leaves; bytes = c.self.inside.bytes; count = c.self.inside.count } in
    rw (c.len.ensures, ← c.self.view_is) (no_empty_leaf s c.self.invariant)
