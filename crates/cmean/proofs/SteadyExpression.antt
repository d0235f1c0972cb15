-- Expressions are steady, where calls are.
use Rattle.std.proofs.Common.{ℕ, ◌+◌, ◌-◌, List, [], ◌∷◌, Option, Some, None, not}
use Rattle.std.specs.Prelude.{ℤ, pos}
use Rattle.prunum.specs.declared.width.Width.TheVariants.{B4}
use Rattle.prunum.specs.Number.{wrap}
use Rattle.prutrace.specs.declared.event.Event.TheVariants as event
use Rattle.csyn.specs.declared.span.Span.{Span}
use Rattle.csyn.specs.declared.specifiers.Sign.{Sign}
use Rattle.csyn.specs.declared.specifiers.Sign.TheVariants.{Unsigned}
use Rattle.csyn.specs.declared.operator.LogicalOperator.{LogicalOperator}
use Rattle.csyn.specs.declared.operator.LogicalOperator.TheVariants.{And, Or}
use Rattle.cprogram.specs.Scalar.{arithmetic}
use Rattle.cprogram.specs.declared.access.Access.{Access}
use Rattle.cprogram.specs.declared.pointer.Direction.{Direction}
use Rattle.cprogram.specs.declared.pointer.Direction.TheVariants.{Up}
use Rattle.cprogram.specs.declared.pointer.Pointer.{Pointer}
use Rattle.cprogram.specs.declared.scalar.Scalar.{Scalar}
use Rattle.cprogram.specs.declared.scalar.Scalar.TheVariants as scalar
use Rattle.cprogram.specs.declared.scalar.Conversion.{Conversion}
use Rattle.cprogram.specs.declared.value.CallResult.{CallResult}
use Rattle.cprogram.specs.declared.value.CallResult.TheVariants.{Void, Unused, Used}
use Rattle.cprogram.specs.declared.value.StepValue.{StepValue}
use Rattle.cprogram.specs.declared.value.PlaceKind as place
use Rattle.cprogram.specs.declared.value.ValueKind as kind
use Rattle.cprogram.specs.declared.value.Operands as operands
use Rattle.cmean.specs.declared.undefined.UndefinedCause.TheVariants.{NoValue}
use Rattle.cmean.specs.Datum.{Datum, Number, Null, Plain, Address, convert, extended, is_true, truth_number}
use Rattle.cmean.specs.Datum.{unary, binary, comparison, signed_value, leftmost_bit}
use Rattle.cmean.specs.Pointer.{Step, moved, moved_by, member, decayed, difference, compare_pointers}
use Rattle.cmean.specs.State.{State, Run, give, then_with, is_alive}
use Rattle.cmean.specs.Access.{Target, Pointed, OfRegister, pad_place}
use Rattle.cmean.specs.Expression.{Valued, datum, number_in, operand, number, index, truth, both, valued, whole, pointed}
use Rattle.cmean.specs.Expression.{pointer_of, move, member_of, assign, number_step, update, step_value, step, one_further, logical}
use Rattle.cmean.specs.Expression.{choice, arm, Calls, returned, delay, place_kind, value_kind, values}
use Rattle.cmean.proofs.Steady.{Steady, steady-give, steady-with, steady-do, steady-state, steady-tick, steady-receive, steady-show}
use Rattle.cmean.proofs.Steady.{steady-undefined, steady-never, steady-given, steady-sure, steady-halt, steady-node, steady-ticks}
use Rattle.cmean.proofs.SteadyAccess.{steady-if, steady-load, steady-store, steady-send}

pub steady-datum : {run : Run Valued} → Steady run → Steady (datum run)
steady-datum run = steady-with run steady-sure

steady-number_in : (d : Datum) → Steady (number_in d)
steady-number_in (Number n) = steady-give n
steady-number_in Null = steady-never
steady-number_in (Plain p) = steady-never
steady-number_in (Address a) = steady-never

pub steady-operand : (c : Conversion) {run : Run Valued} → Steady run → Steady (operand c run)
steady-operand c run = steady-with (steady-datum run) (λ d. steady-sure (convert c d))

pub steady-number : (c : Conversion) {run : Run Valued} → Steady run → Steady (number c run)
steady-number c run = steady-with (steady-operand c run) steady-number_in

steady-index : (sign : Sign) (c : Conversion) {run : Run Valued} → Steady run → Steady (index sign c run)
steady-index sign c run = steady-with (steady-number c run) (λ n. steady-give (signed_value sign n))

pub steady-truth : {run : Run Valued} → Steady run → Steady (truth run)
steady-truth run = steady-with (steady-datum run) (λ d. steady-give (is_true d))

steady-both : {A B C : Type 0} {a : Run A} {b : Run B} {f : A → B → Run C} → Steady a → Steady b
    → ((x : A) (y : B) → Steady (f x y)) → Steady (both a b f)
steady-both a b f = steady-with a (λ x. steady-with b (f x))

steady-pointed : (span : Span) (step : State → Step Datum) → Steady (pointed span step)
steady-pointed span step = steady-state (λ s. steady-with (steady-given span (step s)) (λ d. steady-give (Pointed d)))

steady-pointer_of : (t : Target) → Steady (pointer_of t)
steady-pointer_of (Pointed d) = steady-give d
steady-pointer_of (OfRegister r) = steady-never

steady-move : (span : Span) (dir : Direction) (p : Pointer) (d : Datum) (n : ℤ) → Steady (move span dir p d n)
steady-move span dir p d n = steady-state (λ s. steady-given span (moved (is_alive s) p.element d (moved_by dir n)))

steady-member_of : (span : Span) (step : Datum → Step Datum) (t : Target) → Steady (member_of span step t)
steady-member_of span step (Pointed d) = steady-pointed span (λ _. step d)
steady-member_of span step (OfRegister r) = steady-never

steady-valued : (d : Datum) → Steady (valued d)
steady-valued d = steady-give (Some d)

steady-assign : (span : Span) (a : Access) (t : Target) (d : Datum) → Steady (assign span a t d)
steady-assign span a t d = steady-do (steady-store span a.scalar t d) (steady-valued d)

steady-number_step : (t : Scalar) (f : ℕ → ℕ) (d : Datum) → Steady (number_step t f d)
steady-number_step (scalar.Integer t) f (Number n) = steady-give (Number (wrap t.width (f (extended t n))))
steady-number_step (scalar.Integer t) f Null = steady-never
steady-number_step (scalar.Integer t) f (Plain p) = steady-never
steady-number_step (scalar.Integer t) f (Address a) = steady-never
steady-number_step (scalar.Pointer k) f d = steady-never

steady-update : {B : Type 0} (span : Span) (a : Access) {place : Run Target} {right : Run B} {f : Datum → B → Run Datum}
    → Steady place → Steady right → ((d : Datum) (b : B) → Steady (f d b)) → Steady (update span a place right f)
steady-update span a place right f =
    steady-with place (λ t. steady-with (steady-load span a.scalar t)
    (λ old. steady-with right (λ b. steady-with (f old b) (steady-assign span a t))))

steady-step : (span : Span) (which : StepValue) (a : Access) {place : Run Target} {f : Datum → Run Datum}
    → Steady place → ((d : Datum) → Steady (f d)) → Steady (step span which a place f)
steady-step span which a place f =
    steady-with place (λ t. steady-with (steady-load span a.scalar t) (λ old. steady-with (f old) (λ new.
    steady-do (steady-store span a.scalar t new) (steady-valued (step_value which old new)))))

steady-number_value : (n : ℕ) → Steady (give (Some (Number n)))
steady-number_value n = steady-give (Some (Number n))

steady-second : {b : Run Valued} → Steady b → Steady (then_with (truth b) (λ y. give (Some (Number (truth_number y)))))
steady-second b = steady-with (steady-truth b) (λ y. steady-number_value (truth_number y))

steady-logical : (op : LogicalOperator) {a b : Run Valued} → Steady a → Steady b → Steady (logical op a b)
steady-logical And a b = steady-with (steady-truth a) (λ x. steady-if x (steady-second b) (steady-number_value 0))
steady-logical Or a b = steady-with (steady-truth a) (λ x. steady-if x (steady-number_value 1) (steady-second b))

steady-choice : {A : Type 0} {c : Run Valued} {a b : Run A} → Steady c → Steady a → Steady b → Steady (choice c a b)
steady-choice c a b = steady-with (steady-truth c) (λ x. steady-if x a b)

steady-arm : (t : Option Scalar) (c : Conversion) {run : Run Valued} → Steady run → Steady (arm t c run)
steady-arm None c run = run
steady-arm (Some t) c run = steady-with (steady-operand c run) steady-valued

steady-returned : (span : Span) (r : CallResult) (v : Valued) → Steady (returned span r v)
steady-returned span (Used t) None = steady-undefined span NoValue
steady-returned span (Used t) (Some d) = steady-give (Some d)
steady-returned span (Unused t) v = steady-give v
steady-returned span Void v = steady-give v

steady-delay : (n : ℕ) → Steady (delay n)
steady-delay n = steady-do (steady-show (event.DelayIn n)) (steady-do (steady-ticks (n - 1))
    (steady-do (steady-show (event.DelayOut n)) (steady-give None)))

module _ (calls : Calls) (steady-calls : (f : ℕ) (ds : List Datum) → Steady (calls f ds)) where
  mutual
    pub steady-place : (span : Span) (p : place.PlaceKind) → Steady (place_kind calls span p)
    steady-place span (place.Local local) = steady-state (λ s. steady-give (whole (s.locals + local.0)))
    steady-place span (place.Global object) = steady-give (whole object.0)
    steady-place span (place.Volatile address) = steady-give (Pointed (Address address))
    steady-place span (place.Register r) = steady-give (OfRegister r)
    steady-place span (place.Dereference' _ m p) = steady-with (steady-datum (steady-node (steady-value m.span p)))
        (λ d. steady-give (Pointed d))
    steady-place span (place.Subscript' t _ m p sign _ c n i) =
        steady-both (steady-datum (steady-node (steady-value m.span p))) (steady-index sign c (steady-node (steady-value n.span i)))
        (λ d k. steady-with (steady-move span Up t d k) (λ e. steady-give (Pointed e)))
    steady-place span (place.Member' _ m a offset) = steady-with (steady-node (steady-place m.span a))
        (steady-member_of span (member offset))
    steady-place span (place.Arrow' _ m p offset) =
        steady-with (steady-datum (steady-node (steady-value m.span p))) (λ d. steady-pointed span (λ _. member offset d))

    pub steady-value : (span : Span) (k : kind.ValueKind) → Steady (value_kind calls span k)
    steady-value span (kind.Number n _) = steady-number_value n
    steady-value span (kind.Read' a _ p) = steady-with (steady-place span p) (λ t. steady-with (steady-load span a.scalar t) steady-valued)
    steady-value span (kind.ArrayPointer' _ count _ p) =
        steady-with (steady-place span p) (λ t. steady-with (steady-pointer_of t)
        (λ d. steady-with (steady-given span (decayed count d)) steady-valued))
    steady-value span (kind.Address' _ _ m p) = steady-with (steady-node (steady-place m.span p))
        (λ t. steady-with (steady-pointer_of t) steady-valued)
    steady-value span (kind.Cast' _ _ c m a) = steady-with (steady-operand c (steady-node (steady-value m.span a))) steady-valued
    steady-value span (kind.Unary' op _ _ c m a) = steady-with (steady-number c (steady-node (steady-value m.span a)))
        (λ n. steady-number_value (unary op n))
    steady-value span (kind.Not' _ m a) = steady-with (steady-truth (steady-node (steady-value m.span a)))
        (λ x. steady-number_value (truth_number (not x)))
    steady-value span (kind.Binary' op sign _ c m a _ d n b) =
        steady-both (steady-number c (steady-node (steady-value m.span a))) (steady-number d (steady-node (steady-value n.span b)))
        (λ x y. steady-number_value (binary op sign x y))
    steady-value span (kind.Comparison' op sign _ c m a _ d n b) =
        steady-both (steady-number c (steady-node (steady-value m.span a))) (steady-number d (steady-node (steady-value n.span b)))
        (λ x y. steady-number_value (comparison op sign x y))
    steady-value span (kind.PointerComparison' op _ c m a _ d n b) =
        steady-both (steady-operand c (steady-node (steady-value m.span a))) (steady-operand d (steady-node (steady-value n.span b)))
        (λ p q. steady-state (λ s. steady-with (steady-given span (compare_pointers (is_alive s) op p q))
        (λ x. steady-number_value (truth_number x))))
    steady-value span (kind.Logical' op _ m a _ n b) = steady-logical op (steady-node (steady-value m.span a))
        (steady-node (steady-value n.span b))
    steady-value span (kind.Conditional' t _ k x _ c m a _ d n b) =
        steady-choice (steady-node (steady-value k.span x)) (steady-arm t c (steady-node (steady-value m.span a)))
        (steady-arm t d (steady-node (steady-value n.span b)))
    steady-value span (kind.Comma' _ _ m a _ n b) = steady-do (steady-node (steady-value m.span a)) (steady-node (steady-value n.span b))
    steady-value span (kind.PointerOffset' dir t _ m p sign _ c n i) =
        steady-both (steady-datum (steady-node (steady-value m.span p))) (steady-index sign c (steady-node (steady-value n.span i)))
        (λ d k. steady-with (steady-move span dir t d k) steady-valued)
    steady-value span (kind.IndexPlusPointer' t sign _ c n i _ m p) =
        steady-both (steady-index sign c (steady-node (steady-value n.span i))) (steady-datum (steady-node (steady-value m.span p)))
        (λ k d. steady-with (steady-move span Up t d k) steady-valued)
    steady-value span (kind.PointerDifference' t _ m p _ n q) =
        steady-both (steady-datum (steady-node (steady-value m.span p))) (steady-datum (steady-node (steady-value n.span q)))
        (λ a b. steady-state (λ s. steady-with (steady-given span (difference (is_alive s) t.element a b)) steady-valued))
    steady-value span (kind.Assign' a _ m p _ c n v) =
        steady-both (steady-node (steady-place m.span p)) (steady-operand c (steady-node (steady-value n.span v))) (steady-assign span a)
    steady-value span (kind.AssignWith' op sign a _ m p _ c n v) =
        steady-update span a (steady-node (steady-place m.span p)) (steady-number c (steady-node (steady-value n.span v)))
        (λ old b. steady-number_step a.scalar (λ x. binary op sign x b) old)
    steady-value span (kind.OffsetAssign' dir t a _ m p sign _ c n i) =
        steady-update span a (steady-node (steady-place m.span p)) (steady-index sign c (steady-node (steady-value n.span i)))
        (λ old k. steady-move span dir t old k)
    steady-value span (kind.Step' which dir a _ m p) = steady-step span which a (steady-node (steady-place m.span p))
        (steady-number_step a.scalar (one_further dir))
    steady-value span (kind.PointerStep' which dir t a _ m p) =
        steady-step span which a (steady-node (steady-place m.span p)) (λ old. steady-move span dir t old (pos 1))
    steady-value span (kind.Call f r arguments) =
        steady-with (steady-values arguments) (λ ds. steady-with (steady-calls f.0 ds) (steady-returned span r))
    steady-value span (kind.LeftmostBit' _ c m a _ d n b) =
        steady-both (steady-number c (steady-node (steady-value m.span a))) (steady-number d (steady-node (steady-value n.span b)))
        (λ x y. steady-number_value (leftmost_bit x y))
    steady-value span (kind.Delay d) = steady-delay d.cycles
    steady-value span kind.Halt = steady-do steady-tick steady-halt
    steady-value span (kind.ScratchpadIn' r _ m p) =
        steady-both (steady-node (steady-place m.span p)) (steady-receive (pad_place r) B4)
        (λ t n. steady-do (steady-store span (arithmetic Unsigned) t (Number n)) (steady-give None))
    steady-value span (kind.ScratchpadOut' r _ m a) =
        steady-with (steady-datum (steady-node (steady-value m.span a)))
        (λ d. steady-do (steady-send (pad_place r) B4 d) (steady-give None))

    pub steady-values : (list : operands.Operands) → Steady (values calls list)
    steady-values operands.End = steady-give []
    steady-values (operands.More' _ c m v _ rest) =
        steady-both (steady-operand c (steady-node (steady-value m.span v))) (steady-values rest) (λ d ds. steady-give (d ∷ ds))
