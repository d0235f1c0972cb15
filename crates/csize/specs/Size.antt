-- How large types are. Void, and a struct that isn't complete yet, have no size.
use Rattle.std.specs.Prelude.{Option, Some, None, List, [], ◌∷◌, slice_get}
use Rattle.prunum.specs.declared.width.Width.TheVariants.{B4}
use Rattle.cprogram.specs.declared.pointer.Element.{Element}
use Rattle.cprogram.specs.declared.scalar.Integer.{Integer}
use Rattle.ctypes.specs.Base.{kind_integer}
use Rattle.ctypes.specs.Shape.{Shape}
use Rattle.ctypes.specs.declared.base.Base.{Base}
use Rattle.ctypes.specs.declared.base.BaseKind.{BaseKind}
use Rattle.ctypes.specs.declared.base.BaseKind.TheVariants.{Struct}
use Rattle.ctypes.specs.declared.step.Step.{Step}
use Rattle.ctypes.specs.declared.step.Step.TheVariants.{Pointer, Array}
use Rattle.csize.specs.Elements.{leaf_element, times}
use Rattle.csize.specs.declared.structure.Structure.{Structure}

abbrev pub integer_element : Option Integer → Option Element
integer_element None = None
integer_element (Some i) = leaf_element i.width

abbrev pub struct_element : Option Structure → Option Element
struct_element None = None
struct_element (Some s) = s.element

abbrev pub base_element : List Structure → BaseKind → Option Element
base_element structures (Struct id) = struct_element (slice_get structures id.0)
base_element _ kind = integer_element (kind_integer kind)

-- one step round something of a size
abbrev pub one_step : Option Element → Step → Option Element
one_step _ (Pointer _) = leaf_element B4
one_step e (Array n) = times n e

-- the same of steps, the outermost first
abbrev pub steps_from : Option Element → List Step → Option Element
steps_from e [] = e
steps_from e (s ∷ rest) = one_step (steps_from e rest) s

unfoldable pub steps_element : List Structure → Base → List Step → Option Element
steps_element structures base steps = steps_from (base_element structures base.kind) steps

abbrev pub element_of : List Structure → Shape → Option Element
element_of structures t = steps_element structures t.base t.steps

-- the size of what a pointer points to, or an array is made of
abbrev pub inner_element : List Structure → Base → List Step → Option Element
inner_element _ _ [] = None
inner_element structures base (_ ∷ rest) = steps_element structures base rest
