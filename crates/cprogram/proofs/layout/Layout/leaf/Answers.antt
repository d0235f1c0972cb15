use Rattle.std.proofs.Common.{arith, ap, ◌≡◌, ◌<◌}
use Rattle.cprogram.specs.Layout.{Shape, leaf_count}
use Rattle.cprogram.proofs.Rows.{few_leaves, small_element, leaf_offset_fits, leaf_is}
use Rattle.cprogram.proofs.layout.Layout.leaf.Goals as goal

pub overflow_cast-each : goal.overflow_cast-each
overflow_cast-each c =
    let s : Shape = record { leaves = c.self.inside.leaves; bytes = c.self.inside.bytes; count = c.self.inside.count } in
    omega (arith, c.len-each.ensures, few_leaves s c.self.invariant, small_element s c.self.invariant)

pub overflow_add-result : goal.overflow_add-result
overflow_add-result c =
    let s : Shape = record { leaves = c.self.inside.leaves; bytes = c.self.inside.bytes; count = c.self.inside.count } in
    let e : leaf_count s ≡ leaf_count c.args.self.now = ap leaf_count c.self.view_is in
    let n : c.args.number < leaf_count s = omega (arith, e, c.requires) in
    rw (c.as_slice.ensures, c.len-each.ensures) (leaf_offset_fits s c.args.number _ c.self.invariant n)

pub returns : goal.returns
returns c =
    let s : Shape = record { leaves = c.self.inside.leaves; bytes = c.self.inside.bytes; count = c.self.inside.count } in
    rw (← c.self.view_is, c.as_slice.ensures, c.len-each.ensures) (leaf_is s c.args.number _ c.self.invariant)
