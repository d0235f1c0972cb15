-- What a name is read as.
use Rattle.std.specs.Prelude.{false, true, ℕ, if◌then◌else◌, []}
use Rattle.csyn.specs.declared.cause.Cause.TheVariants.{S1, S4}
use Rattle.csyn.specs.declared.mark.Mark.{Mark}
use Rattle.memorymap.specs.Windows.{in_own_window}
use Rattle.cfault.specs.Ruled.{Ruled, broken, given}
use Rattle.cprogram.specs.declared.access.AccessKind.TheVariants as access
use Rattle.cprogram.specs.declared.access.AccessKind.{AccessKind}
use Rattle.ctypes.specs.Shape.{Shape}
use Rattle.ctypes.specs.declared.base.BaseKind.TheVariants.{UnsignedInt}
use Rattle.cexpr.specs.Ask.{at_node}
use Rattle.cexpr.specs.declared.item.PlaceItem.{PlaceItem}
use Rattle.cexpr.specs.declared.meaning.Meaning.TheVariants as meaning
use Rattle.cexpr.specs.declared.meaning.Meaning.{Meaning}
use Rattle.cexpr.specs.declared.node.Whole.TheVariants as whole
use Rattle.cexpr.specs.declared.node.Whole.{Whole}

-- volatile unsigned int
abbrev pub register_type : Shape
register_type = record { base = record { kind = UnsignedInt; qualifiers = record { is_const = false; is_volatile = true } }; steps = [] }

-- where an access to the volatile object at an address goes
abbrev pub window_reach : ℕ → AccessKind
window_reach address = if in_own_window address then access.Own else access.Volatile

-- a plain variable by its name
abbrev pub variable_at : Mark → Shape → Whole → PlaceItem Whole
variable_at m t kind = record { ctype = t; reach = access.Plain; is_variable = true; place = record { mark = m; kind = kind } }

-- any other place
abbrev pub part_at : {N : Type 0} → Mark → Shape → AccessKind → N → PlaceItem N
part_at m t reach kind = record { ctype = t; reach = reach; is_variable = false; place = record { mark = m; kind = kind } }

-- a declared name, of an object or a register: functions and intrinsics are no values
unfoldable pub named : Mark → Meaning → Ruled (PlaceItem Whole)
named m meaning.Undeclared = broken (at_node m S1)
named m (meaning.Global n t) = given (variable_at m t (whole.Global n))
named m (meaning.Volatile a t) = given (part_at m t (window_reach a) (whole.Volatile a))
named m (meaning.Local n t) = given (variable_at m t (whole.Local n))
named m (meaning.Register r) = given (part_at m register_type access.Register (whole.Register r))
named m (meaning.Function _) = broken (at_node m S4)
named m (meaning.Intrinsic _) = broken (at_node m S4)
