-- Calls of `__xin(device, base, 0, x)` and `__xout(device, base, 0, x)`, which move one register of the scratchpad.
use Rattle.std.proofs.Common.{arith}
use Rattle.std.proofs.lemmas.Bool.Decides.{nat_tests}
use Rattle.std.specs.Prelude.{Bool, IsTrue, List, None, Option, Some, false, nat_eq, nat_le, true, ℕ, ◌∷◌, ◌++◌, ◌&&◌, ◌<◌, ◌-◌, []}
use Rattle.csyn.specs.declared.cause.Cause.TheVariants.{S16, S5, S6}
use Rattle.csyn.specs.declared.mark.Mark.{Mark}
use Rattle.prunum.specs.declared.width.Width.TheVariants.{B4}
use Rattle.prunum.specs.declared.width.Width.{Width}
use Rattle.cfault.specs.Asked.{asked_of, found, judged}
use Rattle.cfault.specs.Ruled.{Ruled, built, over}
use Rattle.cfault.specs.declared.asked.Asked.TheVariants.{No, Yes}
use Rattle.cfault.specs.declared.asked.Asked.{Asked}
use Rattle.cfault.specs.declared.fault.Fault.{Fault}
use Rattle.cprogram.specs.declared.access.ScratchpadRegister.{ScratchpadRegister}
use Rattle.cprogram.specs.declared.scalar.Integer.{Integer}
use Rattle.cprogram.specs.declared.scalar.Scalar.TheVariants as scalars
use Rattle.cprogram.specs.declared.scalar.Scalar.{Scalar}
use Rattle.ctypes.specs.Shape.{qualifiers, scalar_of}
use Rattle.csize.specs.Elements.{where_true}
use Rattle.cexpr.specs.Ask.{at_node}
use Rattle.cexpr.specs.Assign.{written}
use Rattle.cexpr.specs.Constant.{word}
use Rattle.cexpr.specs.Number.{void_type}
use Rattle.cexpr.specs.declared.item.Item.TheVariants as item
use Rattle.cexpr.specs.declared.item.Item.{Item}
use Rattle.cexpr.specs.declared.item.PlaceItem.{PlaceItem}
use Rattle.cexpr.specs.declared.item.ValueItem.{ValueItem}
use Rattle.cexpr.specs.declared.node.PlaceUse.TheVariants as place_use
use Rattle.cexpr.specs.declared.node.PlaceUse.{PlaceUse}
use Rattle.cexpr.specs.declared.scratchpad.Exchange.{Exchange}

-- ---- the register: device 10 to 12, base 0 to 29, and the constant 0

abbrev pub is_scratchpad : ℕ → ℕ → ℕ → Bool
is_scratchpad device base shift = nat_le 10 device && nat_le device 12 && nat_le base 29 && nat_eq shift 0

pub of_a_bank : (device base shift : ℕ) → IsTrue (is_scratchpad device base shift) → device - 10 < 3
of_a_bank device base shift h = grind (arith, nat_tests)

pub moved : (device base shift : ℕ) → IsTrue (is_scratchpad device base shift) → base < 30
moved device base shift h = grind (arith, nat_tests)

abbrev pub register_made : (device base shift : ℕ) → IsTrue (is_scratchpad device base shift) → ScratchpadRegister
register_made device base shift h =
    record { bank = device - 10; register = base; of_a_bank = of_a_bank device base shift h; moved = moved device base shift h }

abbrev pub scratchpad_at : ℕ → ℕ → ℕ → Option ScratchpadRegister
scratchpad_at device base shift =
    where_true (is_scratchpad device base shift) (λ h. Some (register_made device base shift h))

abbrev pub scratchpad_of : Option ℕ → Option ℕ → Option ℕ → Option ScratchpadRegister
scratchpad_of (Some device) (Some base) (Some shift) = scratchpad_at device base shift
scratchpad_of _ _ _ = None

-- of the arguments device, base, 0 and x
abbrev pub words_register : {V : Type 0} → Option (ValueItem V) → Option (ValueItem V) → Option (ValueItem V) → Option ScratchpadRegister
words_register device base shift = scratchpad_of (word device) (word base) (word shift)

-- ---- the variable: one of an integer type of four bytes, by its name, that isn't volatile

abbrev pub by_width : {P : Type 0} → PlaceItem P → Integer → Width → Asked (PlaceItem P × Scalar)
by_width p i B4 = Yes (p, scalars.Integer i)
by_width _ _ _ = No

abbrev pub as_variable : {P : Type 0} → PlaceItem P → Bool → Option Scalar → Asked (PlaceItem P × Scalar)
as_variable p true (Some (scalars.Integer i)) = by_width p i i.width
as_variable _ _ _ = No

abbrev pub item_variable : {V P : Type 0} → Item V P → Asked (PlaceItem P × Scalar)
item_variable (item.Value _) = No
item_variable (item.Place p) = as_variable p p.is_variable (scalar_of p.ctype.base p.ctype.steps)

unfoldable pub variable : {V P : Type 0} → Option (Item V P) → Asked (PlaceItem P × Scalar)
variable a = asked_of a item_variable

abbrev pub where_const : Mark → Bool → List Fault
where_const m true = at_node m S5 ∷ []
where_const _ false = []

-- a const variable is not set
unfoldable pub const_faults : {V P : Type 0} → Mark → Option (Item V P) → List Fault
const_faults m (Some (item.Place p)) = where_const m (qualifiers p.ctype.base p.ctype.steps).is_const
const_faults _ (Some (item.Value _)) = []
const_faults _ None = []

-- ---- the two calls: each of the rules is judged by itself

abbrev pub exchange_of : {P : Type 0} → Option (PlaceItem P × Scalar) → Option ScratchpadRegister → Option (Exchange P)
exchange_of (Some p) (Some r) = Some (record { variable = p.0.place; scalar = p.1; register = r })
exchange_of _ _ = None

abbrev pub exchanged : {P : Type 0} → Ruled (PlaceItem P × Scalar) → Ruled ScratchpadRegister → Ruled (Exchange P)
exchanged a r = record { faults = a.faults ++ r.faults; gives = exchange_of a.gives r.gives }

unfoldable pub asked_exchange : {V P : Type 0} → Mark → Option (Item V P) → Option ScratchpadRegister → Ruled (Exchange P)
asked_exchange m a r = exchanged (judged (at_node m S6) (variable a)) (judged (at_node m S16) (found r))

abbrev pub in_made : {P : Type 0} → Mark → Exchange P → ValueItem (PlaceUse P)
in_made m e = written void_type m (place_use.ScratchpadIn e.register e.variable)

abbrev pub out_made : {P : Type 0} → Mark → Exchange P → ValueItem (PlaceUse P)
out_made m e = written void_type m (place_use.ScratchpadOut e.register e.scalar e.variable)

unfoldable pub scratchpad_in : {V P : Type 0} → Mark → Option ScratchpadRegister → Option (Item V P) → Ruled (ValueItem (PlaceUse P))
scratchpad_in m r a = over (const_faults m a) (built (in_made m) (asked_exchange m a r))

unfoldable pub scratchpad_out : {V P : Type 0} → Mark → Option ScratchpadRegister → Option (Item V P) → Ruled (ValueItem (PlaceUse P))
scratchpad_out m r a = built (out_made m) (asked_exchange m a r)
