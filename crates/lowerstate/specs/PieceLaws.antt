-- What the pieces of code do, a law for each way in which an expression is made.
use Rattle.std.specs.Prelude.{ℕ, ◌≡◌, ◌+◌, ◌^◌, ◌<◌, ◌≤◌, List, ◌++◌, not, [], ◌∷◌, Some, None, slice_get, take, nat_lt, if◌then◌else◌}
use Rattle.behaviour.specs.Ran.{Done}
use Rattle.behaviour.specs.Machine.{Reaches}
use Rattle.prutrace.specs.declared.event.Event.{Event}
use Rattle.csyn.specs.declared.specifiers.Sign.{Sign}
use Rattle.csyn.specs.declared.operator.BinaryOperator.{BinaryOperator}
use Rattle.csyn.specs.declared.operator.ComparisonOperator.{ComparisonOperator}
use Rattle.midcode.specs.declared.register.VReg.{VReg}
use Rattle.midcode.specs.declared.register.Label.{Label}
use Rattle.midcode.specs.declared.op.Test.{Test}
use Rattle.midcode.specs.declared.op.OpKind.{OpKind}
use Rattle.midcode.specs.declared.op.OpKind.TheVariants as op
use Rattle.midcode.specs.declared.op.UnaryOp.TheVariants as one
use Rattle.midcode.specs.declared.op.BinaryOp.TheVariants as two
use Rattle.midcode.specs.Cost.{charge}
use Rattle.midcode.specs.Machine as machine
use Rattle.midcode.specs.Function.{standing}
use Rattle.midcode.specs.Meaning.{effect, charged, standing_at, is_met}
use Rattle.cprogram.specs.declared.value.UnaryOperator.TheVariants.{Minus, Complement}
use Rattle.csyn.specs.declared.span.Span.{Span}
use Rattle.cprogram.specs.declared.access.Access.{Access}
use Rattle.cprogram.specs.declared.scalar.Conversion.{Conversion}
use Rattle.cmean.specs.Datum.{Datum, unary, binary, comparison, leftmost_bit, truth_number}
use Rattle.cmean.specs.State.{State, Run, give, with_state, then_with, then_do, node, show}
use Rattle.cmean.specs.Access.{Target, load}
use Rattle.cmean.specs.Expression.{Valued, both, number_value, operand, truth, valued, whole, assign}
use Rattle.lowerstate.specs.Counted.{Counted, counted, least_of}
use Rattle.lowerstate.specs.Held.{Meant, meant_width, InRegister}
use Rattle.lowerstate.specs.Related.{Fixed, Call, Point, Related}
use Rattle.lowerstate.specs.Stands.{Does}
use Rattle.lowerstate.specs.Operators.{operation}
use Rattle.lowerstate.specs.Piece.{Code, Free, behind, joined, least_hand, node_back, Evaluates, IsValue, IsDatum, IsNumber, word}
use Rattle.lowerstate.specs.Conversion.{IsConversion, conversion_code, not_code}
use Rattle.lowerstate.specs.Codes.{constant_code, unary_code, pair_code, comparison_code, copy_code, assign_code}

-- an event is shown and the operation behind is next
abbrev pub shown_to : Event → machine.State → machine.State
shown_to e s = record s { events = s.events ++ e ∷ []; frame = record s.frame { place = s.frame.place + 1 } }

-- the operation at another place is next
abbrev pub gone_to : ℕ → machine.State → machine.State
gone_to place s = record s { frame = record s.frame { place = place } }

-- Nothing is owed behind an operation that is an instruction at the least.
abbrev pub owed_behind : List OpKind → Point → OpKind → ℕ
owed_behind ops x k = if nat_lt 0 (least_of (standing (take x.place ops)) k) then 0 else x.owed

-- The machine does an operation, and comes to a place of the function that runs.
abbrev pub Moved : Fixed → Call → Point → OpKind → ℕ → ℕ → State → Counted → Type 0
Moved r c x k place hand s m = (m' : Counted) × Reaches (counted r.program r.addresses) m m'
    × Related r c (record x { place = place; hand = hand; owed = owed_behind c.ops x k }) s m'

-- the place of a local, by its number
abbrev pub local_place : ℕ → Run Target
local_place k = with_state (λ s. give (whole (s.locals + k)))

module _ (r : Fixed) (c : Call) where
  -- ---- numbers

  abbrev pub ConstantLaw : Type 0
  ConstantLaw = (f : Free) (sign : Sign) (n : ℕ) → n < 2 ^ 32
      → Evaluates r c f (constant_code f n) IsValue (word sign) (number_value n) 0 58

  abbrev pub MinusLaw : Type 0
  MinusLaw = (f : Free) (a : Code) (s t : Sign) (run : Run ℕ) (nodes left : ℕ)
      → Evaluates r c f a IsNumber (word s) run nodes (left + 11)
      → Evaluates r c f (unary_code one.Negate f a) IsValue (word t) (then_with run (λ n. number_value (unary Minus n))) nodes left

  abbrev pub ComplementLaw : Type 0
  ComplementLaw = (f : Free) (a : Code) (s t : Sign) (run : Run ℕ) (nodes left : ℕ)
      → Evaluates r c f a IsNumber (word s) run nodes (left + 11)
      → Evaluates r c f (unary_code one.Complement f a) IsValue (word t) (then_with run (λ n. number_value (unary Complement n))) nodes left

  -- An operation on two numbers may call a helper, of at most 447 cycles.
  module _ (f : Free) (a b : Code) (s t u : Sign) (run second : Run ℕ) (nodes others spare back left : ℕ) where
    -- code for two numbers and an operation on them, which does what is meant
    abbrev pub Joining : Code → (ℕ → ℕ → ℕ) → Type 0
    Joining code meant = Evaluates r c f a IsNumber (word s) run nodes (least_hand + spare)
        → Evaluates r c (behind f a) b IsNumber (word t) second others back → 447 + left ≤ spare + back
        → Evaluates r c f code IsValue (word u) (both run second (λ x y. number_value (meant x y))) (nodes + others) left

  abbrev pub BinaryLaw : Type 0
  BinaryLaw = (o : BinaryOperator) (sign : Sign) (f : Free) (a b : Code) (s t u : Sign) (run second : Run ℕ)
      (nodes others spare back left : ℕ)
      → Joining f a b s t u run second nodes others spare back left (pair_code (operation o sign) f a b) (binary o sign)

  abbrev pub ComparisonLaw : Type 0
  ComparisonLaw = (o : ComparisonOperator) (sign : Sign) (f : Free) (a b : Code) (s t u : Sign) (run second : Run ℕ)
      (nodes others spare back left : ℕ)
      → Joining f a b s t u run second nodes others spare back left (comparison_code o sign f a b) (comparison o sign)

  -- `__lmbd`
  abbrev pub LeftmostLaw : Type 0
  LeftmostLaw = (f : Free) (a b : Code) (s t u : Sign) (run second : Run ℕ) (nodes others spare back left : ℕ)
      → Joining f a b s t u run second nodes others spare back left (pair_code two.LeftmostBit f a b) leftmost_bit

  -- ---- locals that are registers

  -- what a local holds
  abbrev pub LocalLaw : Type 0
  LocalLaw = (span : Span) (a : Access) (f : Free) (k q : ℕ) (t : Meant) → slice_get c.own k ≡ Some (InRegister q t)
      → Evaluates r c f (copy_code (meant_width t) q f) IsValue t (then_with (local_place k) (λ p. then_with (load span a.scalar p) valued))
      0 54

  -- a value to a local: the step of its place, the value, and a copy
  abbrev pub AssignLaw : Type 0
  AssignLaw = (span : Span) (access : Access) (f : Free) (k q : ℕ) (t : Meant) (a : Code) (run : Run Datum) (nodes back left : ℕ)
      → slice_get c.own k ≡ Some (InRegister q t) → Evaluates r c f a IsDatum t run nodes back → 10 + left ≤ 512 + back
      → Evaluates r c f (assign_code q a) IsValue t (both (node (local_place k)) run (assign span access)) (nodes + 1) left

  -- ---- conversions

  abbrev pub ConversionLaw : Type 0
  ConversionLaw = (conversion : Conversion) (f : Free) (a : Code) (t u : Meant) (run : Run Valued) (nodes left : ℕ)
      → IsConversion conversion t u → Evaluates r c f a IsValue t run nodes (left + 12)
      → Evaluates r c f (conversion_code conversion f a) IsDatum u (operand conversion run) nodes left

  -- `!`
  abbrev pub NotLaw : Type 0
  NotLaw = (f : Free) (a : Code) (t : Meant) (sign : Sign) (run : Run Valued) (nodes left : ℕ)
      → Evaluates r c f a IsValue t run nodes (left + 19)
      → Evaluates r c f (not_code f a) IsValue (word sign) (then_with (truth run) (λ x. number_value (truth_number (not x)))) nodes left

  -- ---- nodes, one after another

  -- a node's own step pays for what follows it
  abbrev pub NodeLaw : Type 0
  NodeLaw = (f : Free) (a : Code) (t : Meant) (run : Run Valued) (nodes back : ℕ)
      → Evaluates r c f a IsValue t run nodes back → Evaluates r c f a IsValue t (node run) (nodes + 1) node_back

  -- an expression, and then another, whose value is the whole's
  abbrev pub SequenceLaw : Type 0
  SequenceLaw = (f : Free) (a b : Code) (t u : Meant) (run second : Run Valued) (nodes others spare back : ℕ)
      → Evaluates r c f a IsValue t run nodes (least_hand + spare) → Evaluates r c (behind f a) b IsValue u second others back
      → Evaluates r c f (joined a b) IsValue u (then_do run second) (nodes + others) (spare + back)

  -- ---- events

  -- an operation whose only effect is an event
  abbrev pub EventLaw : Type 0
  EventLaw = (x : Point) (s : State) (m : Counted) (k : OpKind) (e : Event) (hand : ℕ) → x.owed ≤ r.most → Related r c x s m
      → slice_get c.ops x.place ≡ Some k
      → effect r.program r.addresses k (charged k m.state) ≡ Done tt (shown_to e (charged k m.state))
      → charge k + hand ≤ x.hand
      → Does r (λ _. Related r c (record x { place = x.place + 1; hand = hand })) (show e r.budget s) m

  -- ---- which operation is next

  module _ (x : Point) (s : State) (m : Counted) (hand : ℕ) where
    abbrev pub LabelLaw : Type 0
    LabelLaw = (l : Label) → x.owed ≤ r.most → Related r c x s m → slice_get c.ops x.place ≡ Some (op.Label l) → hand ≤ x.hand
        → Moved r c x (op.Label l) (x.place + 1) hand s m

    abbrev pub JumpLaw : Type 0
    JumpLaw = (l : Label) → x.owed ≤ r.most → Related r c x s m → slice_get c.ops x.place ≡ Some (op.Jump l) → 1 + hand ≤ x.hand
        → Moved r c x (op.Jump l) (standing_at c.ops l.0) hand s m

    -- one that carries no turns
    abbrev pub BranchLaw : Type 0
    BranchLaw = (left : VReg) (test : Test) (v right : ℕ) (to : Label) → x.owed ≤ r.most → Related r c x s m
        → slice_get c.ops x.place ≡ Some (op.Branch left test right to None) → m.state.frame.registers left.0 ≡ Some v
        → charge (op.Branch left test right to None) + hand ≤ x.hand
        → Moved r c x (op.Branch left test right to None)
        (if is_met test v right then standing_at c.ops to.0 else x.place + 1) hand s m
