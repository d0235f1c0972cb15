-- Reads and writes are steady.
use Rattle.std.proofs.Common.{ℕ, Bool, true, false, if◌then◌else◌, refl, ◌==◌, not, ◌%◌}
use Rattle.prunum.specs.Width.{byte_count}
use Rattle.prunum.specs.declared.width.Width.{Width}
use Rattle.prunum.specs.declared.width.Width.TheVariants.{B4}
use Rattle.prutrace.specs.declared.event.Event.TheVariants.{Write}
use Rattle.prutrace.specs.declared.event.Place.{Place}
use Rattle.prutrace.specs.declared.event.Place.TheVariants.{Addr}
use Rattle.csyn.specs.declared.span.Span.{Span}
use Rattle.cprogram.specs.declared.scalar.Scalar.{Scalar}
use Rattle.cprogram.specs.Scalar.{scalar_width}
use Rattle.cmean.specs.declared.undefined.UndefinedCause.TheVariants.{NullPointer, Misaligned, OutsideWindows}
use Rattle.cmean.specs.Datum.{Datum, Number, Null, Plain, Address, received, written}
use Rattle.cmean.specs.State.{Run}
use Rattle.memorymap.specs.Windows.{in_window}
use Rattle.cmean.specs.Access.{Target, Pointed, OfRegister, within, leaf_of, set_leaf, reachable, register_place, load, send, store}
use Rattle.cmean.proofs.Steady.{Steady, later-same, steady-give, steady-with, steady-do, steady-state, steady-change}
use Rattle.cmean.proofs.Steady.{steady-receive, steady-show, steady-undefined, steady-never, steady-given, steady-sure}

pub steady-if : {A : Type 0} (x : Bool) {a b : Run A} → Steady a → Steady b → Steady (if x then a else b)
steady-if true a b = a
steady-if false a b = b

pub steady-reachable : {A : Type 0} (span : Span) (w : Width) (a : ℕ) {run : Run A} → Steady run → Steady (reachable span w a run)
steady-reachable span w a steady =
    steady-if (not (a % byte_count w == 0)) (steady-undefined span Misaligned)
    (steady-if (in_window a) steady (steady-undefined span OutsideWindows))

pub steady-load : (span : Span) (t : Scalar) (target : Target) → Steady (load span t target)
steady-load span t (Pointed (Plain p)) = steady-state (λ s. steady-do (steady-given span (within s p)) (steady-given span (leaf_of s p)))
steady-load span t (Pointed Null) = steady-undefined span NullPointer
steady-load span t (Pointed (Address a)) =
    steady-reachable span (scalar_width t) a (steady-with (steady-receive (Addr a) (scalar_width t)) (λ n. steady-give (received t n)))
steady-load span t (Pointed (Number n)) = steady-never
steady-load span t (OfRegister r) = steady-with (steady-receive (register_place r) B4) (λ n. steady-give (received t n))

pub steady-send : (place : Place) (w : Width) (d : Datum) → Steady (send place w d)
steady-send place w d = steady-with (steady-sure (written d)) (λ n. steady-show (Write place w n))

pub steady-store : (span : Span) (t : Scalar) (target : Target) (d : Datum) → Steady (store span t target d)
steady-store span t (Pointed (Plain p)) d =
    steady-state (λ s. steady-do (steady-given span (within s p)) (steady-change (set_leaf p d) (λ s. later-same s (set_leaf p d s) refl)))
steady-store span t (Pointed Null) d = steady-undefined span NullPointer
steady-store span t (Pointed (Address a)) d = steady-reachable span (scalar_width t) a (steady-send (Addr a) (scalar_width t) d)
steady-store span t (Pointed (Number n)) d = steady-never
steady-store span t (OfRegister r) d = steady-send (register_place r) B4 d
