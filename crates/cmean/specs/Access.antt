-- Reads and writes of one scalar. A plain object's leaf is read and written without an event. A volatile access is an event at an
-- address, which is a multiple of the width and lies in a window; R30 and R31 are read and written whole.
use Rattle.std.specs.Prelude.{ℕ, ◌%◌, ◌==◌, nat_lt, nat_le, Bool, ◌&&◌, ◌||◌, not, if◌then◌else◌, Option, Some, slice_get, slice_set}
use Rattle.prunum.specs.declared.width.Width.{Width}
use Rattle.prunum.specs.declared.width.Width.TheVariants.{B4}
use Rattle.prunum.specs.Width.{byte_count}
use Rattle.memorymap.specs.Windows.{in_window}
use Rattle.csyn.specs.declared.span.Span.{Span}
use Rattle.prutrace.specs.declared.event.Event.TheVariants as event
use Rattle.prutrace.specs.declared.event.Place.{Place}
use Rattle.prutrace.specs.declared.event.Place.TheVariants.{Reg30, Reg31, Addr, Pad}
use Rattle.cprogram.specs.declared.access.Register.{Register}
use Rattle.cprogram.specs.declared.access.Register.TheVariants.{R30, R31}
use Rattle.cprogram.specs.declared.access.ScratchpadRegister.{ScratchpadRegister}
use Rattle.cprogram.specs.declared.scalar.Scalar.{Scalar}
use Rattle.cprogram.specs.Scalar.{scalar_width}
use Rattle.cmean.specs.declared.undefined.UndefinedCause.TheVariants.{OutsideArray, Unset, NullPointer, Misaligned, OutsideWindows}
use Rattle.cmean.specs.Datum.{Spot, Datum, Number, Null, Plain, Address, received, written}
use Rattle.cmean.specs.Pointer.{Step, Gives, Breaks, unless_ended}
use Rattle.cmean.specs.State.{State, Run, give, then_with, with_state, change, then_do, receive, show}
use Rattle.cmean.specs.State.{undefined, given, never, sure, is_alive, leaves_of, with_leaves}

-- what a place is: what a pointer points to, or a register
pub data Target : Type 0 where
  Pointed : Datum → Target
  OfRegister : Register → Target

-- ---- plain leaves

-- an element of the array, of an object whose call goes on
abbrev pub within : State → Spot → Step (Unit {0})
within s p = if nat_lt p.index p.count then unless_ended (is_alive s p.object) tt else Breaks OutsideArray

abbrev pub leaf_value : Option (Option Datum) → Step Datum
leaf_value (Some (Some d)) = Gives d
leaf_value leaf = Breaks Unset

abbrev pub leaf_of : State → Spot → Step Datum
leaf_of s p = leaf_value (slice_get (leaves_of s p.object) p.leaf)

-- a leaf set, in its object
abbrev pub set_leaf : Spot → Datum → State → State
set_leaf p d s = with_leaves p.object (slice_set (leaves_of s p.object) p.leaf (Some d)) s

-- ---- volatile places

-- the access is defined, or isn't
abbrev pub reachable : {A : Type 0} → Span → Width → ℕ → Run A → Run A
reachable span width a run =
    if not (a % byte_count width == 0) then undefined span Misaligned
    else if in_window a then run
    else undefined span OutsideWindows

abbrev pub register_place : Register → Place
register_place R30 = Reg30
register_place R31 = Reg31

abbrev pub pad_place : ScratchpadRegister → Place
pad_place r = Pad r.bank r.register

-- ---- one access

abbrev pub load : Span → Scalar → Target → Run Datum
load span t (Pointed (Plain p)) = with_state (λ s. then_do (given span (within s p)) (given span (leaf_of s p)))
load span t (Pointed Null) = undefined span NullPointer
load span t (Pointed (Address a)) =
    reachable span (scalar_width t) a (then_with (receive (Addr a) (scalar_width t)) (λ n. give (received t n)))
load span t (Pointed (Number n)) = never
load span t (OfRegister r) = then_with (receive (register_place r) B4) (λ n. give (received t n))

-- a written value as an event
abbrev pub send : Place → Width → Datum → Run (Unit {0})
send place width d = then_with (sure (written d)) (λ n. show (event.Write place width n))

abbrev pub store : Span → Scalar → Target → Datum → Run (Unit {0})
store span t (Pointed (Plain p)) d = with_state (λ s. then_do (given span (within s p)) (change (set_leaf p d)))
store span t (Pointed Null) d = undefined span NullPointer
store span t (Pointed (Address a)) d = reachable span (scalar_width t) a (send (Addr a) (scalar_width t) d)
store span t (Pointed (Number n)) d = never
store span t (OfRegister r) d = send (register_place r) B4 d
