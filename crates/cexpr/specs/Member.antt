-- Members of structs: `a.b` and `p->b`.
use Rattle.std.specs.Prelude.{List, None, Option, Some, slice_get, slice_set, suc, zero, ℕ, ◌==◌, ◌∷◌, ◌||◌, if◌then◌else◌, []}
use Rattle.csyn.specs.declared.cause.Cause.TheVariants.{S1, S4}
use Rattle.csyn.specs.declared.mark.Mark.{Mark}
use Rattle.cfault.specs.Asked.{asked_of, judged}
use Rattle.cfault.specs.Ruled.{Ruled, built, over}
use Rattle.cfault.specs.declared.asked.Asked.TheVariants.{No, Yes}
use Rattle.cfault.specs.declared.asked.Asked.{Asked}
use Rattle.cscope.specs.declared.entry.NameId.{NameId}
use Rattle.ctypes.specs.Shape.{Shape, qualifiers}
use Rattle.ctypes.specs.declared.base.Base.{Base}
use Rattle.ctypes.specs.declared.base.BaseKind.TheVariants.{Struct}
use Rattle.ctypes.specs.declared.base.BaseKind.{BaseKind}
use Rattle.ctypes.specs.declared.base.StructId.{StructId}
use Rattle.ctypes.specs.declared.step.Qualifiers.{Qualifiers}
use Rattle.ctypes.specs.declared.step.Step.TheVariants.{Array, Pointer}
use Rattle.ctypes.specs.declared.step.Step.{Step}
use Rattle.csize.specs.declared.structure.Member.{Member}
use Rattle.csize.specs.declared.structure.Structure.{Structure}
use Rattle.cexpr.specs.Ask.{asked_then, at_node, pointer}
use Rattle.cexpr.specs.Name.{part_at}
use Rattle.cexpr.specs.Place.{reach_of}
use Rattle.cexpr.specs.declared.item.Item.TheVariants as item
use Rattle.cexpr.specs.declared.item.Item.{Item}
use Rattle.cexpr.specs.declared.item.PlaceItem.{PlaceItem}
use Rattle.cexpr.specs.declared.item.PointerItem.{PointerItem}
use Rattle.cexpr.specs.declared.item.ValueItem.{ValueItem}
use Rattle.cexpr.specs.declared.node.Inner.{Inner}
use Rattle.cexpr.specs.declared.node.Reached.TheVariants as reached
use Rattle.cexpr.specs.declared.node.Reached.{Reached}

-- ---- a member is as const and as volatile as its struct (C99 6.5.2.3)

abbrev pub with_qualifiers : Qualifiers → Qualifiers → Qualifiers
with_qualifiers q r = record { is_const = q.is_const || r.is_const; is_volatile = q.is_volatile || r.is_volatile }

-- the qualifiers of an array are its elements': how many steps come before what has them
abbrev pub arrays_before : List Step → ℕ
arrays_before [] = zero
arrays_before (Pointer _ ∷ _) = zero
arrays_before (Array _ ∷ rest) = suc (arrays_before rest)

abbrev pub base_qualified : Qualifiers → Base → Base
base_qualified q base = record { kind = base.kind; qualifiers = with_qualifiers q base.qualifiers }

abbrev pub qualified_at : Qualifiers → Shape → ℕ → Option Step → Shape
qualified_at q t n (Some (Pointer r)) = record { base = t.base; steps = slice_set t.steps n (Pointer (with_qualifiers q r)) }
qualified_at q t _ _ = record { base = base_qualified q t.base; steps = t.steps }

-- a type with further qualifiers
unfoldable pub qualified : Qualifiers → Shape → Shape
qualified q t = qualified_at q t (arrays_before t.steps) (slice_get t.steps (arrays_before t.steps))

-- ---- the member of a name

abbrev pub member_named : NameId → List Member → Option Member
member_named _ [] = None
member_named name (m ∷ rest) = if m.name.0 == name.0 then Some m else member_named name rest

-- a struct that isn't complete yet has none
abbrev pub members_of : Option Structure → List Member
members_of None = []
members_of (Some s) = s.members.items

abbrev pub member_in : List Structure → StructId → NameId → Option Member
member_in structures id name = member_named name (members_of (slice_get structures id.0))

abbrev pub with_member : {T : Type 0} → T → Option Member → Asked (T × Member)
with_member a (Some m) = Yes (a, m)
with_member _ None = No

abbrev pub struct_of : BaseKind → List Step → Option StructId
struct_of (Struct id) [] = Some id
struct_of _ _ = None

abbrev pub with_struct : {T : Type 0} → T → Option StructId → Asked (T × StructId)
with_struct a (Some id) = Yes (a, id)
with_struct _ None = No

-- ---- `a.b`

abbrev pub item_struct : {V P : Type 0} → Item V P → Asked (PlaceItem P × StructId)
item_struct (item.Value _) = No
item_struct (item.Place p) = with_struct p (struct_of p.ctype.base.kind p.ctype.steps)

unfoldable pub struct_place : {V P : Type 0} → Option (Item V P) → Asked (PlaceItem P × StructId)
struct_place a = asked_of a item_struct

unfoldable pub member_made : {P : Type 0} → Mark → PlaceItem P → Member → PlaceItem (Inner P)
member_made m p b =
    part_at m (qualified (qualifiers p.ctype.base p.ctype.steps) b.ctype) p.reach (record { whole = p.place; offset = b.offset })

abbrev pub member_to : {P : Type 0} → List Structure → Mark → NameId → Option (PlaceItem P × StructId) → Ruled (PlaceItem (Inner P))
member_to structures m name a =
    built (λ p. member_made m p.0 p.1) (judged (at_node m S1) (asked_of a (λ p. with_member p.0 (member_in structures p.1 name))))

abbrev pub member_over : {P : Type 0} → List Structure → Mark → NameId → Ruled (PlaceItem P × StructId) → Ruled (PlaceItem (Inner P))
member_over structures m name a = over a.faults (member_to structures m name a.gives)

unfoldable pub member : {V P : Type 0} → List Structure → Mark → NameId → Option (Item V P) → Ruled (PlaceItem (Inner P))
member structures m name a = member_over structures m name (judged (at_node m S4) (struct_place a))

-- ---- `p->b`

abbrev pub pointed_struct : {V : Type 0} → PointerItem V → Asked (PointerItem V × StructId)
pointed_struct p = with_struct p (struct_of p.target.base.kind p.target.steps)

unfoldable pub struct_pointer : {V : Type 0} → Option (ValueItem V) → Asked (PointerItem V × StructId)
struct_pointer a = asked_then pointed_struct (pointer a)

unfoldable pub arrow_made : {V : Type 0} → Mark → PointerItem V → Member → PlaceItem (Reached V)
arrow_made m p b =
    part_at m (qualified (qualifiers p.target.base p.target.steps) b.ctype) (reach_of p.kind) (reached.Arrow p.value b.offset)

abbrev pub arrow_to : {V : Type 0} → List Structure → Mark → NameId → Option (PointerItem V × StructId) → Ruled (PlaceItem (Reached V))
arrow_to structures m name a =
    built (λ p. arrow_made m p.0 p.1) (judged (at_node m S1) (asked_of a (λ p. with_member p.0 (member_in structures p.1 name))))

abbrev pub arrow_over : {V : Type 0} → List Structure → Mark → NameId → Ruled (PointerItem V × StructId) → Ruled (PlaceItem (Reached V))
arrow_over structures m name a = over a.faults (arrow_to structures m name a.gives)

unfoldable pub arrow : {V : Type 0} → List Structure → Mark → NameId → Option (ValueItem V) → Ruled (PlaceItem (Reached V))
arrow structures m name a = arrow_over structures m name (judged (at_node m S4) (struct_pointer a))
