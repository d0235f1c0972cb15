-- Constants and operators on numbers, as pieces of code.
use Rattle.std.proofs.Common.{◌≡◌, ℕ, ◌+◌, ◌^◌, ◌<◌, ◌≤◌, Bool, true, false, List, []}
use Rattle.std.proofs.Common.{if◌then◌else◌, refl, subst, ap, ◌∙◌, arith, Some}
use Rattle.behaviour.specs.Ran.{Done, and_then}
use Rattle.behaviour.proofs.SimulatesLemmas.{simulates-here, simulates-from}
use Rattle.prunum.specs.Number.{wrap, bit_count}
use Rattle.prunum.specs.declared.width.Width.TheVariants.{B4}
use Rattle.csyn.specs.declared.specifiers.Sign.{Sign}
use Rattle.csyn.specs.declared.operator.BinaryOperator.{BinaryOperator}
use Rattle.csyn.specs.declared.operator.ComparisonOperator.{ComparisonOperator}
use Rattle.midcode.specs.declared.register.VReg.{VReg}
use Rattle.midcode.specs.declared.op.OpKind.{OpKind}
use Rattle.midcode.specs.declared.op.OpKind.TheVariants as op
use Rattle.midcode.specs.declared.op.UnaryOp.TheVariants as one
use Rattle.cprogram.specs.declared.value.UnaryOperator.TheVariants.{Plus, Minus, Complement}
use Rattle.midcode.specs.declared.op.BinaryOp.{BinaryOp}
use Rattle.midcode.specs.declared.op.BinaryOp.TheVariants as two
use Rattle.midcode.specs.declared.op.Operand.TheVariants as operand
use Rattle.midcode.specs.Value.{unary_value, binary_value}
use Rattle.midcode.specs.Machine as machine
use Rattle.cprogram.specs.declared.scalar.Integer.{Integer}
use Rattle.cmean.specs.Datum.{Datum, Number, Null, Plain, Address, unary, binary, comparison, leftmost_bit}
use Rattle.cmean.specs.State.{Run, give, then_with, sure}
use Rattle.cmean.specs.Expression.{Valued, datum, number_in, both, number_value}
use Rattle.lowerstate.specs.Counted.{counted}
use Rattle.lowerstate.specs.Held.{Meant, OfInteger, Home, Held}
use Rattle.lowerstate.specs.Related.{Fixed, Call, IsCall}
use Rattle.lowerstate.specs.Stands.{Ends}
use Rattle.lowerstate.specs.Piece.{Code, Free, behind, joined, next_register, least_hand, onwards, Given, Evaluates}
use Rattle.lowerstate.specs.Piece.{IsValue, IsDatum, IsNumber, word, register}
use Rattle.lowerstate.specs.Codes.{constant_code, unary_code, pair_code, swapped_code, comparison_code}
use Rattle.lowerstate.specs.Operators.{operation, comparing, is_swapped}
use Rattle.lowerstate.proofs.Agree.{wrap-small, unary-agrees-minus, unary-agrees-complement, binary-agrees, binary-below, binary-charge}
use Rattle.lowerstate.proofs.Agree.{comparison-agrees}
use Rattle.lowerstate.proofs.Agree.{truth-below, leftmost-agrees, leftmost-below}
use Rattle.lowerstate.proofs.Laws.{wrote}
use Rattle.lowerstate.proofs.Places.{stands-first}
use Rattle.lowerstate.proofs.Pieces.{adjust, next-same, next-op}
use Rattle.lowerstate.proofs.Pairs.{both-op}

-- ---- what is read

module _ {A : Type 0} where
  pub got : (s : machine.State) (q : VReg) (v : ℕ) (f : ℕ → machine.Does A) → s.frame.registers q.0 ≡ Some v
      → machine.in_turn (machine.get q) f s ≡ f v s
  got s q v f is = ap (λ o. and_then (machine.known o s) f) is

module _ (r : Fixed) (c : Call) where
  -- the datum of a value
  pub datum-of : (f : Free) (code : Code) (t : Meant) (run : Run Valued) (nodes back : ℕ) → Evaluates r c f code IsValue t run nodes back
      → Evaluates r c f code IsDatum t (datum run) nodes back
  datum-of f code t run nodes back first =
      next-same r c {Is = IsValue} {Is' = IsDatum} f code t t run nodes back sure first refl
      (λ homes a d v is held. (d, d, ap (λ o. sure o) is, refl, held))

  number-at : (t : Integer) (homes : List Home) (d : Datum) (v : ℕ) → Held r.layouts homes (OfInteger t) d v
      → (n : ℕ) × (number_in d ≡ give n) × IsNumber n d × (v ≡ n) × (n < 2 ^ bit_count t.width)
  number-at t homes (Number n) v held = (n, refl, refl, held.0, held.1)
  number-at t homes Null v held = absurd held
  number-at t homes (Plain p) v held = absurd held
  number-at t homes (Address a) v held = absurd held

  -- the number of a value
  pub number-of : (f : Free) (code : Code) (t : Integer) (run : Run Datum) (nodes back : ℕ)
      → Evaluates r c f code IsDatum (OfInteger t) run nodes back → Evaluates r c f code IsNumber (OfInteger t) (then_with run number_in)
      nodes back
  number-of f code t run nodes back first =
      next-same r c {Is = IsDatum} {Is' = IsNumber} f code (OfInteger t) (OfInteger t) run nodes back number_in first refl
      (λ homes a d v is held.
      let found = number-at t homes d v held in
      (found.0, d, ap number_in is ∙ found.1, found.2, held))

  -- a number that is of one of the two types is of the other
  pub plus-of : (f : Free) (code : Code) (s t : Sign) (run : Run ℕ) (nodes back : ℕ) → Evaluates r c f code IsNumber (word s) run nodes back
      → Evaluates r c f code IsValue (word t) (then_with run (λ n. number_value (unary Plus n))) nodes back
  plus-of f code s t run nodes back first =
      next-same r c {Is = IsNumber} {Is' = IsValue} f code (word s) (word t) run nodes back (λ n. number_value (unary Plus n)) first refl
      (λ homes n d v is held. (
        Some (Number n),
        Number n,
        refl,
        refl,
        subst (λ (e : Datum). Held r.layouts homes (word s) e v) is held,
      ))

-- ---- constants

module _ (r : Fixed) (c : Call) (call : IsCall r c) where
  pub constant-of : (f : Free) (sign : Sign) (n : ℕ) → n < 2 ^ 32
      → Evaluates r c f (constant_code f n) IsValue (word sign) (number_value n) 0 58
  constant-of f sign n small = record {
    typed = (0, omega arith, refl);
    does = λ x hand s m stands ready related.
        let k : OpKind = op.Constant (register f.register) n in
        let in_hand = ready.in_hand in
        let done = wrote r c call x s m k (register f.register) B4 (word sign) (Number n) n (hand + 58) x.kept related
        (stands-first c.ops [] x.place k stands.ops) (stands-first c.widths [] f.register B4 stands.widths) stands.free ready.kept
        related.kept refl (wrap-small B4 n small, small) (omega (arith, in_hand)) in
        simulates-from (counted r.program r.addresses) (Ends r) (Given r c (constant_code f n) IsValue (word sign) 0 58 x hand)
        (Done (Some (Number n)) s) m done.0 done.1
        (simulates-here (counted r.program r.addresses) (Ends r) (Given r c (constant_code f n) IsValue (word sign) 0 58 x hand)
        (Done (Some (Number n)) s) done.0 (
          Number n,
          refl,
          adjust r c _ (onwards x (constant_code f n) 0 hand 58 (word sign) (Number n)) s done.0 refl (omega arith)
              (omega arith) (omega arith) done.2 done.2.kept,
        ));
  }

  -- ---- operators

  number-held : (t : Integer) (homes : List Home) (n : ℕ) (d : Datum) (v : ℕ) → IsNumber n d → Held r.layouts homes (OfInteger t) d v
      → (v ≡ n) × (n < 2 ^ bit_count t.width)
  number-held t homes n d v is held = subst (λ (e : Datum). Held r.layouts homes (OfInteger t) e v) is held

  -- what an operation computes, where it is what is meant
  computed : (t : Sign) (homes : List Home) (n v : ℕ) → v ≡ n → n < 2 ^ 32 → Held r.layouts homes (word t) (Number n) (wrap B4 v)
  computed t homes n v same small = (ap (wrap B4) same ∙ wrap-small B4 n small, small)

  pub minus-of : (f : Free) (code : Code) (s t : Sign) (run : Run ℕ) (nodes left : ℕ)
      → Evaluates r c f code IsNumber (word s) run nodes (left + 11)
      → Evaluates r c f (unary_code one.Negate f code)
      IsValue (word t) (then_with run (λ n. number_value (unary Minus n))) nodes left
  minus-of f code s t run nodes left first =
      next-op r c call {Is = IsNumber} {Is' = IsValue} f code (word s) (word t) run nodes (left + 11) left
      (λ n. number_value (unary Minus n))
      (op.Unary one.Negate (register (next_register f code)) (register code.result)) first (omega arith)
      (λ homes m n d v within is held reg width.
      let at = number-held (record { width = B4; sign = s }) homes n d v is held in
      let agrees = unary-agrees-minus n in (
        Some (Number (unary Minus n)),
        Number (unary Minus n),
        unary_value one.Negate v,
        refl,
        refl,
        got m (register code.result) v _ reg,
        computed t homes (unary Minus n) (unary_value one.Negate v) (ap (unary_value one.Negate) at.0 ∙ agrees.0) agrees.1,
      ))

  pub complement-of : (f : Free) (code : Code) (s t : Sign) (run : Run ℕ) (nodes left : ℕ)
      → Evaluates r c f code IsNumber (word s) run nodes (left + 11)
      → Evaluates r c f (unary_code one.Complement f code)
      IsValue (word t) (then_with run (λ n. number_value (unary Complement n))) nodes left
  complement-of f code s t run nodes left first =
      next-op r c call {Is = IsNumber} {Is' = IsValue} f code (word s) (word t) run nodes (left + 11) left
      (λ n. number_value (unary Complement n))
      (op.Unary one.Complement (register (next_register f code)) (register code.result)) first (omega arith)
      (λ homes m n d v within is held reg width.
      let at = number-held (record { width = B4; sign = s }) homes n d v is held in
      let agrees = unary-agrees-complement n in (
        Some (Number (unary Complement n)),
        Number (unary Complement n),
        unary_value one.Complement v,
        refl,
        refl,
        got m (register code.result) v _ reg,
        computed t homes (unary Complement n) (unary_value one.Complement v) (ap (unary_value one.Complement) at.0 ∙ agrees.0) agrees.1,
      ))

  -- an operation on two numbers, where it computes what is meant
  module _ (f : Free) (a b : Code) (s t u : Sign) (run : Run ℕ) (second : Run ℕ) (nodes others spare back left : ℕ) where
    pair-of : (o : BinaryOp) (meant : ℕ → ℕ → ℕ)
        → ((x y : ℕ) → x < 2 ^ 32 → y < 2 ^ 32 → (binary_value o x y ≡ meant x y) × (meant x y < 2 ^ 32))
        → Evaluates r c f a IsNumber (word s) run nodes (least_hand + spare) → Evaluates r c (behind f a) b IsNumber (word t) second others
        back
        → 447 + left ≤ spare + back
        → Evaluates r c f (pair_code o f a b) IsValue (word u) (both run second (λ x y. number_value (meant x y))) (nodes + others) left
    pair-of o meant agrees first then' paid =
        let k : OpKind =
        op.Binary o (register (next_register f (joined a b))) (register a.result) (operand.Register (register b.result)) in
        let most = binary-charge o (register (next_register f (joined a b))) (register a.result) (operand.Register (register b.result)) in
        both-op r c call IsNumber IsNumber IsValue f a b (word s) (word t) (word u) run second nodes others spare back left
        (λ x y. number_value (meant x y)) k first then' (omega (arith, paid, most))
        (λ homes state x y d e m n is js held also reg other.
        let l = number-held (record { width = B4; sign = s }) homes x d m is held in
        let h = number-held (record { width = B4; sign = t }) homes y e n js also in
        let right = agrees x y l.1 h.1 in
        let same : binary_value o m n ≡ meant x y =
        ap (λ i. binary_value o i n) l.0 ∙ (ap (λ i. binary_value o x i) h.0 ∙ right.0) in (
          Some (Number (meant x y)),
          Number (meant x y),
          binary_value o m n,
          refl,
          refl,
          got state (register a.result) m _ reg ∙ got state (register b.result) n _ other,
          computed u homes (meant x y) (binary_value o m n) same right.1,
        ))

    swapped-of : (o : BinaryOp) (meant : ℕ → ℕ → ℕ)
        → ((x y : ℕ) → x < 2 ^ 32 → y < 2 ^ 32 → (binary_value o y x ≡ meant x y) × (meant x y < 2 ^ 32))
        → Evaluates r c f a IsNumber (word s) run nodes (least_hand + spare) → Evaluates r c (behind f a) b IsNumber (word t) second others
        back
        → 447 + left ≤ spare + back
        → Evaluates r c f (swapped_code o f a b) IsValue (word u) (both run second (λ x y. number_value (meant x y))) (nodes + others) left
    swapped-of o meant agrees first then' paid =
        let k : OpKind =
        op.Binary o (register (next_register f (joined a b))) (register b.result) (operand.Register (register a.result)) in
        let most = binary-charge o (register (next_register f (joined a b))) (register b.result) (operand.Register (register a.result)) in
        both-op r c call IsNumber IsNumber IsValue f a b (word s) (word t) (word u) run second nodes others spare back left
        (λ x y. number_value (meant x y)) k first then' (omega (arith, paid, most))
        (λ homes state x y d e m n is js held also reg other.
        let l = number-held (record { width = B4; sign = s }) homes x d m is held in
        let h = number-held (record { width = B4; sign = t }) homes y e n js also in
        let right = agrees x y l.1 h.1 in
        let same : binary_value o n m ≡ meant x y =
        ap (λ i. binary_value o i m) h.0 ∙ (ap (λ i. binary_value o y i) l.0 ∙ right.0) in (
          Some (Number (meant x y)),
          Number (meant x y),
          binary_value o n m,
          refl,
          refl,
          got state (register b.result) n _ other ∙ got state (register a.result) m _ reg,
          computed u homes (meant x y) (binary_value o n m) same right.1,
        ))

    -- a binary operator
    pub binary-of : (o : BinaryOperator) (sign : Sign)
        → Evaluates r c f a IsNumber (word s) run nodes (least_hand + spare) → Evaluates r c (behind f a) b IsNumber (word t) second others
        back
        → 447 + left ≤ spare + back
        → Evaluates r c f (pair_code (operation o sign) f a b) IsValue (word u) (both run second (λ x y. number_value (binary o sign x y)))
        (nodes + others) left
    binary-of o sign = pair-of (operation o sign) (binary o sign)
        (λ x y less more. (binary-agrees o sign x y, binary-below o sign x y less more))

    -- `__lmbd`
    pub leftmost-of : Evaluates r c f a IsNumber (word s) run nodes (least_hand + spare)
        → Evaluates r c (behind f a) b IsNumber (word t) second others back → 447 + left ≤ spare + back
        → Evaluates r c f (pair_code two.LeftmostBit f a b) IsValue (word u) (both run second (λ x y. number_value (leftmost_bit x y)))
        (nodes + others) left
    leftmost-of = pair-of two.LeftmostBit leftmost_bit (λ x y less more. (leftmost-agrees x y, leftmost-below x y))

    -- a comparison
    pub comparison-of : (o : ComparisonOperator) (sign : Sign)
        → Evaluates r c f a IsNumber (word s) run nodes (least_hand + spare) → Evaluates r c (behind f a) b IsNumber (word t) second others
        back
        → 447 + left ≤ spare + back
        → Evaluates r c f (comparison_code o sign f a b) IsValue (word u) (both run second (λ x y. number_value (comparison o sign x y)))
        (nodes + others) left
    comparison-of o sign first then' paid = chosen (is_swapped o) (comparison-agrees o sign)
      where
        chosen : (b' : Bool) → ((x y : ℕ) → x < 2 ^ 32 → y < 2 ^ 32
            → (if b' then binary_value (comparing o sign) y x else binary_value (comparing o sign) x y) ≡ comparison o sign x y)
            → Evaluates r c f (if b' then swapped_code (comparing o sign) f a b else pair_code (comparing o sign) f a b) IsValue (word u)
            (both run second (λ x y. number_value (comparison o sign x y))) (nodes + others) left
        chosen true agrees = swapped-of (comparing o sign) (comparison o sign)
            (λ x y less more. (agrees x y less more, truth-below _)) first then' paid
        chosen false agrees = pair-of (comparing o sign) (comparison o sign)
            (λ x y less more. (agrees x y less more, truth-below _)) first then' paid

pub ruleset piece_rules = (constant-of)
