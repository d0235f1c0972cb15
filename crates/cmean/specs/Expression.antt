-- What each expression of C does, from left to right (C99 6.5). An expression that is evaluated is one source step, when its operation is
-- done; one that only names a place is one too.
use Rattle.std.specs.Prelude.{ℕ, ◌+◌, ◌-◌, Bool, not, if◌then◌else◌, List, [], ◌∷◌, ℤ, pos, Option, Some, None}
use Rattle.prunum.specs.declared.width.Width.TheVariants.{B4}
use Rattle.prunum.specs.Number.{wrap}
use Rattle.csyn.specs.declared.span.Span.{Span}
use Rattle.csyn.specs.declared.specifiers.Sign.{Sign}
use Rattle.csyn.specs.declared.specifiers.Sign.TheVariants.{Unsigned}
use Rattle.csyn.specs.declared.operator.LogicalOperator.{LogicalOperator}
use Rattle.csyn.specs.declared.operator.LogicalOperator.TheVariants.{And, Or}
use Rattle.prutrace.specs.declared.event.Event.TheVariants as event
use Rattle.cprogram.specs.Scalar.{arithmetic}
use Rattle.cprogram.specs.declared.access.Access.{Access}
use Rattle.cprogram.specs.declared.pointer.Direction.{Direction}
use Rattle.cprogram.specs.declared.pointer.Direction.TheVariants.{Up, Down}
use Rattle.cprogram.specs.declared.pointer.Pointer.{Pointer}
use Rattle.cprogram.specs.declared.scalar.Scalar.{Scalar}
use Rattle.cprogram.specs.declared.scalar.Scalar.TheVariants as scalar
use Rattle.cprogram.specs.declared.scalar.Conversion.{Conversion}
use Rattle.cprogram.specs.declared.value.CallResult.{CallResult}
use Rattle.cprogram.specs.declared.value.CallResult.TheVariants.{Used}
use Rattle.cprogram.specs.declared.value.StepValue.{StepValue}
use Rattle.cprogram.specs.declared.value.StepValue.TheVariants.{Old, New}
use Rattle.cprogram.specs.declared.value.PlaceKind as place
use Rattle.cprogram.specs.declared.value.ValueKind as kind
use Rattle.cprogram.specs.declared.value.Operands as operands
use Rattle.cmean.specs.declared.undefined.UndefinedCause.TheVariants.{NoValue}
use Rattle.cmean.specs.Datum.{Datum, Number, Plain, Address, convert, extended, is_true, truth_number}
use Rattle.cmean.specs.Datum.{unary, binary, comparison, signed_value, leftmost_bit}
use Rattle.cmean.specs.Pointer.{Step, moved, moved_by, member, decayed, difference, compare_pointers}
use Rattle.cmean.specs.State.{State, Run, give, with_state, then_with, then_do, node, tick, ticks, show}
use Rattle.cmean.specs.State.{receive, undefined, given, sure, never, halt, is_alive}
use Rattle.cmean.specs.Access.{Target, Pointed, OfRegister, load, store, send, pad_place}

-- ---- values on the way

-- an expression has a value, or none where it is of type void
abbrev pub Valued : Type 0
Valued = Option Datum

abbrev pub datum : Run Valued → Run Datum
datum run = then_with run sure

abbrev pub number_in : Datum → Run ℕ
number_in (Number n) = give n
number_in d = never

abbrev pub operand : Conversion → Run Valued → Run Datum
operand c run = then_with (datum run) (λ d. sure (convert c d))

abbrev pub number : Conversion → Run Valued → Run ℕ
number c run = then_with (operand c run) number_in

abbrev pub index : Sign → Conversion → Run Valued → Run ℤ
index sign c run = then_with (number c run) (λ n. give (signed_value sign n))

abbrev pub truth : Run Valued → Run Bool
truth run = then_with (datum run) (λ d. give (is_true d))

-- the left side, then the right side, then the operation
abbrev pub both : {A B C : Type 0} → Run A → Run B → (A → B → Run C) → Run C
both a b f = then_with a (λ x. then_with b (f x))

abbrev pub valued : Datum → Run Valued
valued d = give (Some d)

abbrev pub number_value : ℕ → Run Valued
number_value n = valued (Number n)

abbrev pub no_value : Run Valued
no_value = give None

-- ---- places

-- a whole object, as an array of one
abbrev pub whole : ℕ → Target
whole object = Pointed (Plain (record { object = object; first = 0; count = 1; index = 0; leaf = 0; byte = 0 }))

abbrev pub pointed : Span → (State → Step Datum) → Run Target
pointed span step = with_state (λ s. then_with (given span (step s)) (λ d. give (Pointed d)))

abbrev pub pointer_of : Target → Run Datum
pointer_of (Pointed d) = give d
pointer_of (OfRegister r) = never

abbrev pub move : Span → Direction → Pointer → Datum → ℤ → Run Datum
move span dir p d n = with_state (λ s. given span (moved (is_alive s) p.element d (moved_by dir n)))

abbrev pub member_of : Span → (Datum → Step Datum) → Target → Run Target
member_of span step (Pointed d) = pointed span (λ _. step d)
member_of span step (OfRegister r) = never

-- ---- changes of a place

-- writes a value, which is the value of the expression too
abbrev pub assign : Span → Access → Target → Datum → Run Valued
assign span a t d = then_do (store span a.scalar t d) (valued d)

-- an operation on the number of a place of this type, whose result is cut to the type
abbrev pub number_step : Scalar → (ℕ → ℕ) → Datum → Run Datum
number_step (scalar.Integer t) f (Number n) = give (Number (wrap t.width (f (extended t n))))
number_step t f d = never

-- the place, one read, the right side, one write
abbrev pub update : {B : Type 0} → Span → Access → Run Target → Run B → (Datum → B → Run Datum) → Run Valued
update span a place right f =
    then_with place (λ t. then_with (load span a.scalar t) (λ old. then_with right (λ b. then_with (f old b) (assign span a t))))

abbrev pub step_value : StepValue → Datum → Datum → Datum
step_value Old old new = old
step_value New old new = new

-- ++ and --: the place, one read, one write
abbrev pub step : Span → StepValue → Access → Run Target → (Datum → Run Datum) → Run Valued
step span which a place f =
    then_with place (λ t. then_with (load span a.scalar t) (λ old. then_with (f old) (λ new.
    then_do (store span a.scalar t new) (valued (step_value which old new)))))

abbrev pub one_further : Direction → ℕ → ℕ
one_further Up n = wrap B4 (n + 1)
one_further Down n = wrap B4 (n + 0xFFFFFFFF)

-- ---- choices

-- the second side is evaluated only where the first leaves it open
abbrev pub logical : LogicalOperator → Run Valued → Run Valued → Run Valued
logical And a b = then_with (truth a) (λ x. if x then then_with (truth b) (λ y. number_value (truth_number y)) else number_value 0)
logical Or a b = then_with (truth a) (λ x. if x then number_value 1 else then_with (truth b) (λ y. number_value (truth_number y)))

abbrev pub choice : {A : Type 0} → Run Valued → Run A → Run A → Run A
choice condition a b = then_with (truth condition) (λ x. if x then a else b)

-- the arms of ?: may both be of type void
abbrev pub arm : Option Scalar → Conversion → Run Valued → Run Valued
arm None c run = run
arm (Some t) c run = then_with (operand c run) valued

-- ---- calls

-- what a call of a function does with its arguments
abbrev pub Calls : Type 0
Calls = ℕ → List Datum → Run Valued

abbrev pub returned : Span → CallResult → Valued → Run Valued
returned span (Used t) None = undefined span NoValue
returned span r v = give v

-- n steps with its node's own, of which the first and the last bear an event
abbrev pub delay : ℕ → Run Valued
delay n = then_do (show (event.DelayIn n)) (then_do (ticks (n - 1)) (then_do (show (event.DelayOut n)) no_value))

-- ---- expressions

module _ (calls : Calls) where
  abbrev mutual
    -- what a place is, without the step of its own node
    pub place_kind : Span → place.PlaceKind → Run Target
    place_kind span (place.Local local) = with_state (λ s. give (whole (s.locals + local.0)))
    place_kind span (place.Global object) = give (whole object.0)
    place_kind span (place.Volatile address) = give (Pointed (Address address))
    place_kind span (place.Register r) = give (OfRegister r)
    place_kind span (place.Dereference' _ m p) = then_with (datum (node (value_kind m.span p))) (λ d. give (Pointed d))
    place_kind span (place.Subscript' t _ m p sign _ c n i) =
        both (datum (node (value_kind m.span p))) (index sign c (node (value_kind n.span i)))
        (λ d k. then_with (move span Up t d k) (λ e. give (Pointed e)))
    place_kind span (place.Member' _ m a offset) = then_with (node (place_kind m.span a)) (member_of span (member offset))
    place_kind span (place.Arrow' _ m p offset) =
        then_with (datum (node (value_kind m.span p))) (λ d. pointed span (λ _. member offset d))

    -- what an expression does before its own step, and its value
    pub value_kind : Span → kind.ValueKind → Run Valued
    value_kind span (kind.Number n _) = number_value n
    value_kind span (kind.Read' a _ p) = then_with (place_kind span p) (λ t. then_with (load span a.scalar t) valued)
    value_kind span (kind.ArrayPointer' _ count _ p) =
        then_with (place_kind span p) (λ t. then_with (pointer_of t) (λ d. then_with (given span (decayed count d)) valued))
    value_kind span (kind.Address' _ _ m p) = then_with (node (place_kind m.span p)) (λ t. then_with (pointer_of t) valued)
    value_kind span (kind.Cast' _ _ c m a) = then_with (operand c (node (value_kind m.span a))) valued
    value_kind span (kind.Unary' op _ _ c m a) = then_with (number c (node (value_kind m.span a))) (λ n. number_value (unary op n))
    value_kind span (kind.Not' _ m a) = then_with (truth (node (value_kind m.span a))) (λ x. number_value (truth_number (not x)))
    value_kind span (kind.Binary' op sign _ c m a _ d n b) =
        both (number c (node (value_kind m.span a))) (number d (node (value_kind n.span b))) (λ x y. number_value (binary op sign x y))
    value_kind span (kind.Comparison' op sign _ c m a _ d n b) =
        both (number c (node (value_kind m.span a))) (number d (node (value_kind n.span b))) (λ x y. number_value (comparison op sign x y))
    value_kind span (kind.PointerComparison' op _ c m a _ d n b) =
        both (operand c (node (value_kind m.span a))) (operand d (node (value_kind n.span b))) (λ p q.
        with_state (λ s. then_with (given span (compare_pointers (is_alive s) op p q)) (λ x. number_value (truth_number x))))
    value_kind span (kind.Logical' op _ m a _ n b) = logical op (node (value_kind m.span a)) (node (value_kind n.span b))
    value_kind span (kind.Conditional' t _ k x _ c m a _ d n b) =
        choice (node (value_kind k.span x)) (arm t c (node (value_kind m.span a))) (arm t d (node (value_kind n.span b)))
    value_kind span (kind.Comma' _ _ m a _ n b) = then_do (node (value_kind m.span a)) (node (value_kind n.span b))
    value_kind span (kind.PointerOffset' dir t _ m p sign _ c n i) =
        both (datum (node (value_kind m.span p))) (index sign c (node (value_kind n.span i)))
        (λ d k. then_with (move span dir t d k) valued)
    value_kind span (kind.IndexPlusPointer' t sign _ c n i _ m p) =
        both (index sign c (node (value_kind n.span i))) (datum (node (value_kind m.span p)))
        (λ k d. then_with (move span Up t d k) valued)
    value_kind span (kind.PointerDifference' t _ m p _ n q) =
        both (datum (node (value_kind m.span p))) (datum (node (value_kind n.span q))) (λ a b.
        with_state (λ s. then_with (given span (difference (is_alive s) t.element a b)) valued))
    value_kind span (kind.Assign' a _ m p _ c n v) =
        both (node (place_kind m.span p)) (operand c (node (value_kind n.span v))) (assign span a)
    value_kind span (kind.AssignWith' op sign a _ m p _ c n v) =
        update span a (node (place_kind m.span p)) (number c (node (value_kind n.span v)))
        (λ old b. number_step a.scalar (λ x. binary op sign x b) old)
    value_kind span (kind.OffsetAssign' dir t a _ m p sign _ c n i) =
        update span a (node (place_kind m.span p)) (index sign c (node (value_kind n.span i))) (λ old k. move span dir t old k)
    value_kind span (kind.Step' which dir a _ m p) = step span which a (node (place_kind m.span p)) (number_step a.scalar (one_further dir))
    value_kind span (kind.PointerStep' which dir t a _ m p) =
        step span which a (node (place_kind m.span p)) (λ old. move span dir t old (pos 1))
    value_kind span (kind.Call f r arguments) = then_with (values arguments) (λ ds. then_with (calls f.0 ds) (returned span r))
    value_kind span (kind.LeftmostBit' _ c m a _ d n b) =
        both (number c (node (value_kind m.span a))) (number d (node (value_kind n.span b))) (λ x y. number_value (leftmost_bit x y))
    value_kind span (kind.Delay d) = delay d.cycles
    value_kind span kind.Halt = then_do tick halt
    value_kind span (kind.ScratchpadIn' r _ m p) =
        both (node (place_kind m.span p)) (receive (pad_place r) B4)
        (λ t n. then_do (store span (arithmetic Unsigned) t (Number n)) no_value)
    value_kind span (kind.ScratchpadOut' r _ m a) =
        then_with (datum (node (value_kind m.span a))) (λ d. then_do (send (pad_place r) B4 d) no_value)

    -- arguments, from left to right
    pub values : operands.Operands → Run (List Datum)
    values operands.End = give []
    values (operands.More' _ c m v _ rest) = both (operand c (node (value_kind m.span v))) (values rest) (λ d ds. give (d ∷ ds))
