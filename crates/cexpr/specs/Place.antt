-- Places that pointers lead to, and addresses.
use Rattle.std.specs.Prelude.{List, Option, Some, nat_lt, ℕ, if◌then◌else◌}
use Rattle.csyn.specs.declared.cause.Cause.TheVariants.{S4}
use Rattle.csyn.specs.declared.mark.Mark.{Mark}
use Rattle.cfault.specs.Asked.{asked_of, both, judged}
use Rattle.cfault.specs.Ruled.{Ruled, built}
use Rattle.cfault.specs.declared.asked.Asked.TheVariants.{No, Yes}
use Rattle.cfault.specs.declared.asked.Asked.{Asked}
use Rattle.cprogram.specs.declared.access.AccessKind.TheVariants as access
use Rattle.cprogram.specs.declared.access.AccessKind.{AccessKind}
use Rattle.cprogram.specs.declared.pointer.Element.{Element}
use Rattle.cprogram.specs.declared.pointer.Pointer.{Pointer}
use Rattle.cprogram.specs.declared.pointer.PointerKind.TheVariants.{Plain, Volatile}
use Rattle.cprogram.specs.declared.pointer.PointerKind.{PointerKind}
use Rattle.ctypes.specs.Convert.{promoted}
use Rattle.ctypes.specs.Shape.{kind_of_target, pointed, qualifiers}
use Rattle.csize.specs.declared.structure.Structure.{Structure}
use Rattle.cexpr.specs.Ask.{at_node, integer, pointer, stride}
use Rattle.cexpr.specs.Assign.{written}
use Rattle.cexpr.specs.Name.{part_at}
use Rattle.cexpr.specs.Number.{as_word, folded_one, widened}
use Rattle.cexpr.specs.declared.item.IntegerItem.{IntegerItem}
use Rattle.cexpr.specs.declared.item.Item.TheVariants as item
use Rattle.cexpr.specs.declared.item.Item.{Item}
use Rattle.cexpr.specs.declared.item.PlaceItem.{PlaceItem}
use Rattle.cexpr.specs.declared.item.PointerItem.{PointerItem}
use Rattle.cexpr.specs.declared.item.ValueItem.{ValueItem}
use Rattle.cexpr.specs.declared.node.PlaceUse.TheVariants as place_use
use Rattle.cexpr.specs.declared.node.PlaceUse.{PlaceUse}
use Rattle.cexpr.specs.declared.node.Reached.TheVariants as reached
use Rattle.cexpr.specs.declared.node.Reached.{Reached}

-- where an access through a pointer goes
abbrev pub reach_of : PointerKind → AccessKind
reach_of Plain = access.Plain
reach_of Volatile = access.Volatile

abbrev pub pointer_of : {V : Type 0} → PointerItem V → Element → Pointer
pointer_of p e = record { kind = p.kind; element = e }

-- ---- `*p`

unfoldable pub dereference_made : {V : Type 0} → Mark → PointerItem V → PlaceItem (Reached V)
dereference_made m p = part_at m p.target (reach_of p.kind) (reached.Dereference p.value)

unfoldable pub dereferenced : {V : Type 0} → Mark → Option (ValueItem V) → Ruled (PlaceItem (Reached V))
dereferenced m a = built (dereference_made m) (judged (at_node m S4) (pointer a))

-- ---- `p[i]`

-- an element of an array in the own window is in it too, where its index is a constant in range
abbrev pub element_reach : PointerKind → Option ℕ → Option ℕ → AccessKind
element_reach k (Some count) (Some i) = if nat_lt i count then access.Own else reach_of k
element_reach k _ _ = reach_of k

abbrev pub index_word : {V : Type 0} → IntegerItem V → Option ℕ
index_word i = folded_one (as_word i.integer) i.number

unfoldable pub index_made : {V : Type 0} → Mark → PointerItem V → Element → IntegerItem V → PlaceItem (Reached V)
index_made m p e i =
    part_at m p.target (element_reach p.kind p.own (index_word i))
    (reached.Subscript (pointer_of p e) p.value (promoted i.integer) (widened i))

unfoldable pub indexed : {V : Type 0} → List Structure → Mark → Option (ValueItem V) → Option (ValueItem V) → Ruled (PlaceItem (Reached V))
indexed structures m a i = built (λ p. index_made m p.0.0 p.0.1 p.1) (judged (at_node m S4) (both (stride structures a) (integer i)))

-- ---- `&a`: of anything that names an object in memory

abbrev pub in_memory : {P : Type 0} → PlaceItem P → AccessKind → Asked (PlaceItem P)
in_memory _ access.Register = No
in_memory p _ = Yes p

abbrev pub item_object : {V P : Type 0} → Item V P → Asked (PlaceItem P)
item_object (item.Value _) = No
item_object (item.Place p) = in_memory p p.reach

unfoldable pub object : {V P : Type 0} → Option (Item V P) → Asked (PlaceItem P)
object a = asked_of a item_object

unfoldable pub address_made : {P : Type 0} → Mark → PlaceItem P → ValueItem (PlaceUse P)
address_made m p =
    written (pointed p.ctype) m (place_use.Address (kind_of_target (qualifiers p.ctype.base p.ctype.steps)) p.place)

unfoldable pub address : {V P : Type 0} → Mark → Option (Item V P) → Ruled (ValueItem (PlaceUse P))
address m a = built (address_made m) (judged (at_node m S4) (object a))
