-- What the code of each expression does, by induction on the expression.
use Rattle.std.proofs.Common.{◌≡◌, ℕ, ◌+◌, false, refl, sym, subst, ap, ◌∙◌, arith, Option, Some, None}
use Rattle.csyn.specs.declared.span.Span.{Span}
use Rattle.csyn.specs.declared.specifiers.Sign.{Sign}
use Rattle.csyn.specs.declared.specifiers.Sign.TheVariants.{Signed, Unsigned}
use Rattle.midcode.specs.declared.op.BinaryOp.TheVariants as two
use Rattle.cprogram.specs.declared.scalar.Scalar.{Scalar}
use Rattle.cprogram.specs.declared.scalar.Conversion.{Conversion}
use Rattle.cprogram.specs.declared.value.ValueKind as value
use Rattle.cprogram.specs.declared.value.ValueKind.{ValueKind}
use Rattle.cmean.specs.Datum.{unary, binary, comparison, leftmost_bit, truth_number}
use Rattle.cmean.specs.State.{Run, then_with, then_do, node}
use Rattle.cmean.specs.Expression.{Valued, Calls, value_kind, operand, number, both, number_value, logical, choice, arm}
use Rattle.lowerstate.specs.Held.{Meant}
use Rattle.lowerstate.specs.Related.{Fixed, Call, IsCall}
use Rattle.lowerstate.specs.Piece.{Code, Free, behind, joined, node_back, Evaluates, IsValue, IsNumber, word}
use Rattle.lowerstate.specs.Operators.{operation}
use Rattle.lowerstate.specs.Codes.{pair_code, comparison_code}
use Rattle.lowerstate.specs.Conversion.{conversion_code, not_code}
use Rattle.lowerstate.proofs.Converted.{not-of}
use Rattle.lowerstate.proofs.Numbers.{constant-of, binary-of, comparison-of, leftmost-of}
use Rattle.lowerstate.proofs.Pieces.{node-of}
use Rattle.lowerflow.specs.Codes.{reserve, test_code, logical_code}
use Rattle.lowerflow.specs.Code.{with_code, operands_code, value_code, choice_code, arm_code, operator_code}
use Rattle.lowerflow.specs.Claims.{Meets, Values, AreDeclared, ValueLaw}
use Rattle.lowerflow.specs.Nodes.{value_nodes}
use Rattle.lowerflow.specs.Typed.{Declared, IsValueOf, IsConverted, IsArm, IsScalar, scalar_of}
use Rattle.lowerflow.proofs.EachKind.{bound, as-typed, is-typed, comma-of, cast-of, unary-of, number-of-operand, read-of, assign-to}
use Rattle.lowerflow.proofs.EachKind.{converted-of, choice-void, choice-value}
use Rattle.lowerflow.proofs.Logic.{logical-of}

module _ (r : Fixed) (c : Call) (call : IsCall r c) (d : Declared) (declared : AreDeclared d c.own) (calls : Calls) where
  -- what is claimed of the code of one
  abbrev Of : ValueKind → Span → Free → Option Meant → Code → Type 0
  Of v span f t code = Values r c f code t (node (value_kind calls span v)) (value_nodes v) node_back

  -- two numbers and an operation on them
  module _ (f : Free) (p q : Conversion) (t u w : Option Meant) (s z o : Sign) (run second : Run Valued) (nodes others : ℕ)
      (meant : ℕ → ℕ → ℕ) (make : Code → Code → Code) (is : IsConverted p t (word s)) (js : IsConverted q u (word z)) (ks : w ≡ Some (word o))
      (law : (a b : Code) → Evaluates r c f a IsNumber (word s) (number p run) nodes 308
      → Evaluates r c (behind f a) b IsNumber (word z) (number q second) others 308
      → Evaluates r c f (make a b) IsValue (word o) (both (number p run) (number q second) (λ x y. number_value (meant x y))) (nodes + others)
      0) where
    abbrev Whole : Code → Type 0
    Whole code = Values r c f code w (node (both (number p run) (number q second) (λ x y. number_value (meant x y)))) (nodes + others + 1)
        node_back

    pub operands-of : (left : Option Code) (right : Free → Option Code) → Meets (λ a. Values r c f a t run nodes node_back) left
        → ((g : Free) → Meets (λ b. Values r c g b u second others node_back) (right g))
        → Meets Whole (operands_code c.own f left p right q make)
    operands-of left right first then' =
        bound left (λ a. with_code (right (behind f (conversion_code p f a)))
        (λ b. Some (make (conversion_code p f a) (conversion_code q (behind f (conversion_code p f a)) b))))
        (λ a. Values r c f a t run nodes node_back) Whole first
        (λ a one. bound (right (behind f (conversion_code p f a)))
        (λ b. Some (make (conversion_code p f a) (conversion_code q (behind f (conversion_code p f a)) b)))
        (λ b. Values r c (behind f (conversion_code p f a)) b u second others node_back) Whole (then' (behind f (conversion_code p f a)))
        (λ b other. as-typed r c f (make (conversion_code p f a) (conversion_code q (behind f (conversion_code p f a)) b)) w (word o)
        (node (both (number p run) (number q second) (λ x y. number_value (meant x y)))) (nodes + others + 1) node_back ks
        (node-of r c f (make (conversion_code p f a) (conversion_code q (behind f (conversion_code p f a)) b)) (word o)
        (both (number p run) (number q second) (λ x y. number_value (meant x y))) (nodes + others) 0
        (law (conversion_code p f a) (conversion_code q (behind f (conversion_code p f a)) b)
        (number-of-operand r c call f a p t s run nodes is one)
        (number-of-operand r c call (behind f (conversion_code p f a)) b q u z second others js other)))))

  module _ (f : Free) (kind first second : ValueKind) (span l m n : Span) (s : Option Scalar) (p q : Conversion) (t u x : Option Meant) where
    -- the arms, by whether they have a value
    abbrev Chosen : ValueKind → Option Scalar → Code → Type 0
    Chosen k s code = Values r c f code t (node (choice (node (value_kind calls l k)) (arm s p (node (value_kind calls m first)))
        (arm s q (node (value_kind calls n second))))) (value_nodes k + (value_nodes first + value_nodes second) + 1) node_back

    arms : (s : Option Scalar) (k : ValueKind) (y : Meant) (w : Code)
        → Evaluates r c (reserve 2 f) w IsValue y (node (value_kind calls l k)) (value_nodes k) node_back
        → IsArm d p u t → IsArm d q x t → IsScalar s t
        → ((g : Free) → Meets (Of first m g u) (value_code c.own g first)) → ((g : Free) → Meets (Of second n g x) (value_code c.own g second))
        → Meets (Chosen k s) (with_code (value_code c.own (behind (reserve 2 f) w) first) (λ a.
        let v = arm_code c.own s p (behind (reserve 2 f) w) a in
        with_code (value_code c.own (behind (behind (reserve 2 f) w) v) second) (λ b.
        Some (choice_code c.own s f (test_code false f.label w) p v q (arm_code c.own s q (behind (behind (reserve 2 f) w) v) b)))))
    arms None k y w test one other is first' then' =
        let g : Free = behind (reserve 2 f) w in
        bound (value_code c.own g first) _ (Of first m g u) (Chosen k None) (first' g)
        (λ a at. bound (value_code c.own (behind g a) second) _ (Of second n (behind g a) x) (Chosen k None) (then' (behind g a))
        (λ b on. choice-void r c call f w a b (node (value_kind calls l k)) (node (value_kind calls m first)) (node (value_kind calls n second))
        y (value_nodes k) (value_nodes first) (value_nodes second) test p q t u x is at on))
    arms (Some e) k y w test one other is first' then' =
        let g : Free = behind (reserve 2 f) w in
        bound (value_code c.own g first) _ (Of first m g u) (Chosen k (Some e)) (first' g)
        (λ a at.
        let v : Code = conversion_code p g a in
        bound (value_code c.own (behind g v) second) _ (Of second n (behind g v) x) (Chosen k (Some e)) (then' (behind g v))
        (λ b on. as-typed r c f _ t is.0 _ _ node_back is.1
        (choice-value r c call f w a b (node (value_kind calls l k)) (node (value_kind calls m first)) (node (value_kind calls n second))
        y (value_nodes k) (value_nodes first) (value_nodes second) test p q e u x is.0 is.2
        (subst (λ t. IsArm d p u t) is.1 one) (subst (λ t. IsArm d q x t) is.1 other) at on)))

  pub value-of : ValueLaw r c d calls
  value-of (value.Number n sign) span f t typed =
      as-typed r c f _ t (word sign) _ 1 node_back typed.1 (node-of r c f _ (word sign) (number_value n) 0 58
      (constant-of r c call f sign n typed.0))
  value-of (value.Read' a _ p) span f t typed = read-of r c call d declared calls span f a p t typed.1 typed.0 typed.4 typed.2 typed.3
  value-of (value.Cast' s bx1 k m v) span f t typed =
      bound (value_code c.own f v) _ (Of v m.span f typed.0) (Of (value.Cast' s bx1 k m v) span f t) (value-of v m.span f typed.0 typed.2)
      (λ a first. as-typed r c f (conversion_code k f a) t typed.1 _ (value_nodes v + 1) node_back typed.5
      (cast-of r c call f a k typed.0 typed.1 (node (value_kind calls m.span v)) (value_nodes v) typed.3 first))
  value-of (value.Unary' o sign bx1 k m v) span f t typed =
      bound (value_code c.own f v) _ (Of v m.span f typed.0) (Of (value.Unary' o sign bx1 k m v) span f t) (value-of v m.span f typed.0 typed.1)
      (λ a first. as-typed r c f (operator_code o f (conversion_code k f a)) t (word sign) _ (value_nodes v + 1) node_back typed.3
      (unary-of r c call o f a k typed.0 sign (node (value_kind calls m.span v)) (value_nodes v) typed.2 first))
  value-of (value.Not' bx1 m v) span f t typed =
      bound (value_code c.own f v) _ (Of v m.span f (Some typed.0)) (Of (value.Not' bx1 m v) span f t)
      (value-of v m.span f (Some typed.0) typed.1)
      (λ a first. as-typed r c f (not_code f a) t (word Signed) _ (value_nodes v + 1) node_back typed.2
      (node-of r c f (not_code f a) (word Signed) _ (value_nodes v) 301
      (not-of r c call f a typed.0 Signed (node (value_kind calls m.span v)) (value_nodes v) 301 first)))
  value-of (value.Binary' o sign _ k m v _ l n w) span f t typed =
      operands-of f k l typed.0 typed.1 t sign typed.2 sign (node (value_kind calls m.span v)) (node (value_kind calls n.span w))
      (value_nodes v) (value_nodes w) (binary o sign) (pair_code (operation o sign) f) typed.5 typed.6 typed.7
      (λ a b first then'. binary-of r c call f a b (word' sign) typed.2 sign _ _ (value_nodes v) (value_nodes w) 244 308 0 o sign first then'
      (omega arith))
      (value_code c.own f v) (λ g. value_code c.own g w) (value-of v m.span f typed.0 typed.3) (λ g. value-of w n.span g typed.1 typed.4)
    where
      word' : Sign → Sign
      word' s = s
  value-of (value.Comparison' o sign _ k m v _ l n w) span f t typed =
      operands-of f k l typed.0 typed.1 t sign sign Signed (node (value_kind calls m.span v)) (node (value_kind calls n.span w))
      (value_nodes v) (value_nodes w) (comparison o sign) (comparison_code o sign f) typed.4 typed.5 typed.6
      (λ a b first then'. comparison-of r c call f a b sign sign Signed _ _ (value_nodes v) (value_nodes w) 244 308 0 o sign first then'
      (omega arith))
      (value_code c.own f v) (λ g. value_code c.own g w) (value-of v m.span f typed.0 typed.2) (λ g. value-of w n.span g typed.1 typed.3)
  value-of (value.LeftmostBit' _ k m v _ l n w) span f t typed =
      operands-of f k l typed.0 typed.1 t Unsigned Unsigned Unsigned (node (value_kind calls m.span v)) (node (value_kind calls n.span w))
      (value_nodes v) (value_nodes w) leftmost_bit (pair_code two.LeftmostBit f) typed.4 typed.5 typed.6
      (λ a b first then'. leftmost-of r c call f a b Unsigned Unsigned Unsigned _ _ (value_nodes v) (value_nodes w) 244 308 0 first then'
      (omega arith))
      (value_code c.own f v) (λ g. value_code c.own g w) (value-of v m.span f typed.0 typed.2) (λ g. value-of w n.span g typed.1 typed.3)
  value-of (value.Logical' o bx1 m v bx2 n w) span f t typed =
      bound (value_code c.own (reserve 2 f) v) _ (Of v m.span (reserve 2 f) (Some typed.0)) (Of (value.Logical' o bx1 m v bx2 n w) span f t)
      (value-of v m.span (reserve 2 f) (Some typed.0) typed.2)
      (λ a first. bound (value_code c.own (behind (reserve 2 f) a) w) _ (Of w n.span (behind (reserve 2 f) a) (Some typed.1))
      (Of (value.Logical' o bx1 m v bx2 n w) span f t) (value-of w n.span (behind (reserve 2 f) a) (Some typed.1) typed.3)
      (λ b then'. as-typed r c f (logical_code o f a b) t (word Signed) _ (value_nodes v + value_nodes w + 1) node_back typed.4
      (node-of r c f (logical_code o f a b) (word Signed) _ (value_nodes v + value_nodes w) 300
      (logical-of r c call f a b typed.0 typed.1 Signed _ _ (value_nodes v) (value_nodes w) first then' o))))
  value-of (value.Conditional' s bx1 l k bx2 p m v bx3 q n w) span f t typed =
      bound (value_code c.own (reserve 2 f) k) _ (Of k l.span (reserve 2 f) (Some typed.0))
      (Of (value.Conditional' s bx1 l k bx2 p m v bx3 q n w) span f t) (value-of k l.span (reserve 2 f) (Some typed.0) typed.3)
      (λ x test. arms f k v w span l.span m.span n.span s p q t typed.1 typed.2 s k typed.0 x test typed.6 typed.7 typed.8
      (λ g. value-of v m.span g typed.1 typed.4) (λ g. value-of w n.span g typed.2 typed.5))
  value-of (value.Comma' s bx1 m v bx2 n w) span f t typed =
      bound (value_code c.own f v) _ (Of v m.span f typed.0) (Of (value.Comma' s bx1 m v bx2 n w) span f t) (value-of v m.span f typed.0 typed.1)
      (λ a first. bound (value_code c.own (behind f a) w) _ (Of w n.span (behind f a) t) (Of (value.Comma' s bx1 m v bx2 n w) span f t)
      (value-of w n.span (behind f a) t typed.2)
      (λ b then'. comma-of r c f a b typed.0 t (node (value_kind calls m.span v)) (node (value_kind calls n.span w)) (value_nodes v)
      (value_nodes w) first then'))
  value-of (value.Assign' a bx1 m p bx2 k n v) span f t typed =
      bound (value_code c.own f v) _ (Of v n.span f typed.1) (Of (value.Assign' a bx1 m p bx2 k n v) span f t)
      (value-of v n.span f typed.1 typed.4)
      (λ x first. assign-to r c call d declared calls span f a m.span (conversion_code k f x) typed.2
      (operand k (node (value_kind calls n.span v))) (value_nodes v)
      (converted-of r c call f x k typed.1 typed.2 (node (value_kind calls n.span v)) (value_nodes v) typed.5 first) p t typed.0 typed.7 typed.3
      typed.6)
  value-of (value.ArrayPointer' _ _ _ _) span f t typed = tt
  value-of (value.Address' _ _ _ _) span f t typed = tt
  value-of (value.PointerComparison' _ _ _ _ _ _ _ _ _) span f t typed = tt
  value-of (value.PointerOffset' _ _ _ _ _ _ _ _ _ _) span f t typed = tt
  value-of (value.IndexPlusPointer' _ _ _ _ _ _ _ _ _) span f t typed = tt
  value-of (value.PointerDifference' _ _ _ _ _ _ _) span f t typed = tt
  value-of (value.AssignWith' _ _ _ _ _ _ _ _ _ _) span f t typed = tt
  value-of (value.OffsetAssign' _ _ _ _ _ _ _ _ _ _ _) span f t typed = tt
  value-of (value.Step' _ _ _ _ _ _) span f t typed = tt
  value-of (value.PointerStep' _ _ _ _ _ _ _) span f t typed = tt
  value-of (value.Call _ _ _) span f t typed = tt
  value-of (value.Delay _) span f t typed = tt
  value-of value.Halt span f t typed = tt
  value-of (value.ScratchpadIn' _ _ _ _) span f t typed = tt
  value-of (value.ScratchpadOut' _ _ _ _) span f t typed = tt
