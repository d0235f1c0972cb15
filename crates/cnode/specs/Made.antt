-- What is read of an expression, as a node of the checked program, all pointers null.
use Rattle.csyn.specs.Bare.{nowhere}
use Rattle.cprogram.specs.Value.{unused_kind}
use Rattle.cprogram.specs.declared.access.AccessKind.TheVariants.{Plain}
use Rattle.cprogram.specs.declared.value.Operands as operands
use Rattle.cprogram.specs.declared.value.PlaceKind as place
use Rattle.cprogram.specs.declared.value.ValueKind as value
use Rattle.cexpr.specs.declared.item.OperandItem.{OperandItem}
use Rattle.cexpr.specs.declared.item.PlaceItem.{PlaceItem}
use Rattle.cexpr.specs.declared.item.ValueItem.{ValueItem}
use Rattle.cexpr.specs.declared.node.Assignment.{Assignment}
use Rattle.cexpr.specs.declared.node.Assignment.TheVariants as assignment
use Rattle.cexpr.specs.declared.node.Call.{Call}
use Rattle.cexpr.specs.declared.node.Constant.{Constant}
use Rattle.cexpr.specs.declared.node.Inner.{Inner}
use Rattle.cexpr.specs.declared.node.Operation.{Operation}
use Rattle.cexpr.specs.declared.node.Operation.TheVariants as operation
use Rattle.cexpr.specs.declared.node.PlaceUse.{PlaceUse}
use Rattle.cexpr.specs.declared.node.PlaceUse.TheVariants as place_use
use Rattle.cexpr.specs.declared.node.Reached.{Reached}
use Rattle.cexpr.specs.declared.node.Reached.TheVariants as reached
use Rattle.cexpr.specs.declared.node.Taken.{Taken}
use Rattle.cexpr.specs.declared.node.Taken.TheVariants as taken
use Rattle.cexpr.specs.declared.node.Whole.{Whole}
use Rattle.cexpr.specs.declared.node.Whole.TheVariants as whole

-- ---- values

abbrev pub constant_kind : Constant → value.ValueKind
constant_kind c = value.Number c.number c.sign

abbrev pub operation_kind : Operation value.ValueKind → value.ValueKind
operation_kind (operation.Cast s a) = value.Cast' s nowhere a.conversion a.value.mark a.value.kind
operation_kind (operation.Unary o s a) = value.Unary' o s nowhere a.conversion a.value.mark a.value.kind
operation_kind (operation.Not a) = value.Not' nowhere a.mark a.kind
operation_kind (operation.Binary o s a b) =
    value.Binary' o s nowhere a.conversion a.value.mark a.value.kind nowhere b.conversion b.value.mark b.value.kind
operation_kind (operation.Comparison o s a b) =
    value.Comparison' o s nowhere a.conversion a.value.mark a.value.kind nowhere b.conversion b.value.mark b.value.kind
operation_kind (operation.PointerComparison o a b) =
    value.PointerComparison' o nowhere a.conversion a.value.mark a.value.kind nowhere b.conversion b.value.mark b.value.kind
operation_kind (operation.Logical o a b) = value.Logical' o nowhere a.mark a.kind nowhere b.mark b.kind
operation_kind (operation.Conditional s c a b) =
    value.Conditional' s nowhere c.mark c.kind nowhere a.conversion a.value.mark a.value.kind nowhere b.conversion b.value.mark
    b.value.kind
-- nothing takes the left side's value
operation_kind (operation.Comma s a b) = value.Comma' s nowhere a.mark (unused_kind a.kind) nowhere b.mark b.kind
operation_kind (operation.PointerOffset d p a s i) =
    value.PointerOffset' d p nowhere a.mark a.kind s nowhere i.conversion i.value.mark i.value.kind
operation_kind (operation.IndexPlusPointer p s i a) =
    value.IndexPlusPointer' p s nowhere i.conversion i.value.mark i.value.kind nowhere a.mark a.kind
operation_kind (operation.PointerDifference p a b) = value.PointerDifference' p nowhere a.mark a.kind nowhere b.mark b.kind
operation_kind (operation.LeftmostBit a b) =
    value.LeftmostBit' nowhere a.conversion a.value.mark a.value.kind nowhere b.conversion b.value.mark b.value.kind
operation_kind (operation.Delay d) = value.Delay d
operation_kind operation.Halt = value.Halt

abbrev pub assignment_kind : Assignment value.ValueKind place.PlaceKind → value.ValueKind
assignment_kind (assignment.Assign a p b) = value.Assign' a nowhere p.mark p.kind nowhere b.conversion b.value.mark b.value.kind
assignment_kind (assignment.AssignWith o s a p b) =
    value.AssignWith' o s a nowhere p.mark p.kind nowhere b.conversion b.value.mark b.value.kind
assignment_kind (assignment.OffsetAssign d q a p s b) =
    value.OffsetAssign' d q a nowhere p.mark p.kind s nowhere b.conversion b.value.mark b.value.kind

abbrev pub use_kind : PlaceUse place.PlaceKind → value.ValueKind
use_kind (place_use.Address k p) = value.Address' k nowhere p.mark p.kind
use_kind (place_use.Step x d a p) = value.Step' x d a nowhere p.mark p.kind
use_kind (place_use.PointerStep x d q a p) = value.PointerStep' x d q a nowhere p.mark p.kind
use_kind (place_use.ScratchpadIn r p) = value.ScratchpadIn' r nowhere p.mark p.kind
use_kind (place_use.ScratchpadOut r s p) =
    value.ScratchpadOut' r nowhere p.mark (value.Read' (record { kind = Plain; scalar = s }) nowhere p.kind)

abbrev pub taken_kind : Taken place.PlaceKind → value.ValueKind
taken_kind (taken.Read a p) = value.Read' a nowhere p
taken_kind (taken.ArrayPointer q n p) = value.ArrayPointer' q n nowhere p

abbrev pub call_kind : Call operands.Operands → value.ValueKind
call_kind c = value.Call c.function c.result c.arguments

-- one argument before others
abbrev pub argument_before : OperandItem value.ValueKind → operands.Operands → operands.Operands
argument_before a rest = operands.More' nowhere a.conversion a.value.mark a.value.kind nowhere rest

-- ---- places

abbrev pub whole_kind : Whole → place.PlaceKind
whole_kind (whole.Local n) = place.Local n
whole_kind (whole.Global n) = place.Global n
whole_kind (whole.Volatile a) = place.Volatile a
whole_kind (whole.Register r) = place.Register r

abbrev pub reached_kind : Reached value.ValueKind → place.PlaceKind
reached_kind (reached.Dereference a) = place.Dereference' nowhere a.mark a.kind
reached_kind (reached.Subscript p a s i) =
    place.Subscript' p nowhere a.mark a.kind s nowhere i.conversion i.value.mark i.value.kind
reached_kind (reached.Arrow a o) = place.Arrow' nowhere a.mark a.kind o

abbrev pub inner_kind : Inner place.PlaceKind → place.PlaceKind
inner_kind i = place.Member' nowhere i.whole.mark i.whole.kind i.offset

-- ---- the same item with its node

abbrev pub value_with : {N M : Type 0} → (N → M) → ValueItem N → ValueItem M
value_with make v =
    record { ctype = v.ctype; number = v.number; own = v.own; value = record { mark = v.value.mark; kind = make v.value.kind } }

abbrev pub place_with : {N M : Type 0} → (N → M) → PlaceItem N → PlaceItem M
place_with make p =
    record {
      ctype = p.ctype;
      reach = p.reach;
      is_variable = p.is_variable;
      place = record { mark = p.place.mark; kind = make p.place.kind };
    }
