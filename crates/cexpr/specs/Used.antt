-- What a place is where its value is taken: what a place holds, an array as a pointer to its first element. The node is the
-- expression's own.
use Rattle.std.specs.Prelude.{List, None, Option, Some, ℕ, ◌∷◌}
use Rattle.csyn.specs.declared.cause.Cause.TheVariants.{S20, S4}
use Rattle.cfault.specs.Asked.{found, judged}
use Rattle.cfault.specs.Ruled.{Ruled, broken, built, given}
use Rattle.cprogram.specs.declared.access.AccessKind.TheVariants as access
use Rattle.cprogram.specs.declared.access.AccessKind.{AccessKind}
use Rattle.cprogram.specs.declared.pointer.Element.{Element}
use Rattle.cprogram.specs.declared.scalar.Scalar.{Scalar}
use Rattle.ctypes.specs.Shape.{decayed, kind_of_target, qualifiers, scalar_of}
use Rattle.ctypes.specs.declared.step.Step.TheVariants.{Array}
use Rattle.ctypes.specs.declared.step.Step.{Step}
use Rattle.csize.specs.Size.{inner_element}
use Rattle.csize.specs.declared.structure.Structure.{Structure}
use Rattle.cexpr.specs.Ask.{at_node}
use Rattle.cexpr.specs.Assign.{written}
use Rattle.cexpr.specs.declared.item.PlaceItem.{PlaceItem}
use Rattle.cexpr.specs.declared.item.ValueItem.{ValueItem}
use Rattle.cexpr.specs.declared.node.Taken.TheVariants as taken
use Rattle.cexpr.specs.declared.node.Taken.{Taken}

unfoldable pub read_made : {P : Type 0} → PlaceItem P → Scalar → ValueItem (Taken P)
read_made p s = written p.ctype p.place.mark (taken.Read (record { kind = p.reach; scalar = s }) p.place.kind)

-- how many elements an array has, where it is in the own window
abbrev pub own_count : AccessKind → ℕ → Option ℕ
own_count access.Own n = Some n
own_count _ _ = None

unfoldable pub array_made : {P : Type 0} → PlaceItem P → ℕ → Element → ValueItem (Taken P)
array_made p n e =
    record {
      ctype = record { base = p.ctype.base; steps = decayed p.ctype.steps };
      number = None;
      own = own_count p.reach n;
      value = record {
        mark = p.place.mark;
        kind = taken.ArrayPointer (record { kind = kind_of_target (qualifiers p.ctype.base p.ctype.steps); element = e }) n p.place.kind;
      };
    }

-- how many elements an array has
abbrev pub array_count : List Step → Option ℕ
array_count (Array n ∷ _) = Some n
array_count _ = None

abbrev pub unscalar_used : {P : Type 0} → List Structure → PlaceItem P → Option ℕ → Ruled (ValueItem (Taken P))
unscalar_used structures p (Some n) =
    built (array_made p n) (judged (at_node p.place.mark S4) (found (inner_element structures p.ctype.base p.ctype.steps)))
unscalar_used _ p None = broken (at_node p.place.mark S20)

abbrev pub taken_by : {P : Type 0} → List Structure → PlaceItem P → Option Scalar → Ruled (ValueItem (Taken P))
taken_by _ p (Some s) = given (read_made p s)
taken_by structures p None = unscalar_used structures p (array_count p.ctype.steps)

-- a struct has no value
unfoldable pub place_used : {P : Type 0} → List Structure → PlaceItem P → Ruled (ValueItem (Taken P))
place_used structures p = taken_by structures p (scalar_of p.ctype.base p.ctype.steps)
