-- An operation and what stands in its place: both only compute a value, and the new one costs no more.
use Rattle.std.proofs.Common.{◌≡◌, ℕ, ◌+◌, ◌*◌, ◌≤◌, Bool, true, false, ◌&&◌, List, Option, Some, None}
use Rattle.std.proofs.Common.{refl, sym, subst, ap, ◌∙◌, arith, nat_le, if◌then◌else◌}
use Rattle.std.proofs.lemmas.Bool.{and_parts}
use Rattle.prunum.specs.declared.width.Width.{Width}
use Rattle.prunum.specs.Number.{wrap_signed, sext}
use Rattle.prunum.specs.declared.width.Width.TheVariants.{B4}
use Rattle.midcode.specs.declared.register.VReg.{VReg}
use Rattle.midcode.specs.declared.op.BinaryOp.{BinaryOp}
use Rattle.midcode.specs.declared.op.BinaryOp.TheVariants as binary
use Rattle.midcode.specs.declared.op.Operand.{Operand}
use Rattle.midcode.specs.declared.op.Operand.TheVariants as operand
use Rattle.midcode.specs.declared.op.OpKind.{OpKind}
use Rattle.midcode.specs.declared.op.OpKind.TheVariants as op
use Rattle.midcode.specs.Operation.{is_value, writes}
use Rattle.midcode.specs.Value.{unary_value, binary_value}
use Rattle.midcode.specs.Function.{Function, has, each_of, fits}
use Rattle.midcode.specs.Program.{Outside, is_linked}
use Rattle.midcode.specs.Cost.{size, charge, multiplies, divides, is_helped, work, work_with, helped_charge}
use Rattle.midcode.proofs.Valid.{parts-of}
use Rattle.midfold.specs.Folding.{width_at, cut, constant, number_at, from_one, from_two, improved_binary, improved}

pub record Fine (registers : List Width) (labels : ℕ) (k j : OpKind) : Type 0 where
  pub was : is_value k ≡ true
  pub now : is_value j ≡ true
  pub fit : fits registers labels k ≡ true → fits registers labels j ≡ true
  pub size : size j ≤ size k
  pub charge : charge j ≤ charge k
  pub multiplies : multiplies k ≡ false → multiplies j ≡ false
  pub divides : divides k ≡ false → divides j ≡ false
  pub linked : (f : Function) (u : Outside) → is_linked u f j ≡ true

some-same : (k j : OpKind) → Some k ≡ Some j → k ≡ j
some-same k j same = cc

-- ---- costs

charge-right : (o : BinaryOp) (to left : VReg) (r s : Operand) → charge (op.Binary o to left r) ≡ charge (op.Binary o to left s)
charge-right binary.Multiply to left r s = refl
charge-right o to left r s = refl

multiplies-right : (o : BinaryOp) (to left : VReg) (r s : Operand) → multiplies (op.Binary o to left r) ≡ multiplies (op.Binary o to left s)
multiplies-right binary.Multiply to left r s = refl
multiplies-right o to left r s = refl

divides-right : (o : BinaryOp) (to left : VReg) (r s : Operand) → divides (op.Binary o to left r) ≡ divides (op.Binary o to left s)
divides-right binary.Multiply to left r s = refl
divides-right o to left r s = refl

least-charge : (o : BinaryOp) (to left : VReg) (r : Operand) → 6 ≤ charge (op.Binary o to left r)
least-charge o to left r = by (is_helped (op.Binary o to left r))
  where
    by : (b : Bool) → 6 ≤ (if b then helped_charge else 2 * 5 + work o + 2 + 4)
    by true = omega arith
    by false = omega arith

work-small : (o : BinaryOp) (b : ℕ) (r : VReg) → work_with o (operand.Constant b) ≤ work_with o (operand.Register r)
work-small o b r = cases o
  where
    fit : (m : ℕ) (c : Bool) → m + (if c then 0 else 2) ≤ 2 + m
    fit m true = omega arith
    fit m false = omega arith

    cases : (o : BinaryOp) → work_with o (operand.Constant b) ≤ work_with o (operand.Register r)
    cases binary.ShiftRightSigned = omega arith
    cases binary.Multiply = omega arith
    cases binary.Quotient = omega arith
    cases binary.QuotientSigned = omega arith
    cases binary.Remainder = omega arith
    cases binary.RemainderSigned = omega arith
    cases binary.LessSigned = omega arith
    cases binary.LessOrEqualSigned = omega arith
    cases o = fit (work o) (nat_le b 255)

-- ---- a constant

fit-constant : (registers : List Width) (labels : ℕ) (to : VReg) (n : ℕ) → has registers to ≡ true
    → fits registers labels (op.Constant to n) ≡ true
fit-constant registers labels to n own = ap (λ b. true && b && true && true && true) own

module _ (registers : List Width) (labels : ℕ) where
  -- a constant for what is computed of other registers
  record Computes (k : OpKind) (to : VReg) : Type 0 where
    was : is_value k ≡ true
    writes : writes k ≡ Some to
    size : 4 ≤ size k
    charge : 6 ≤ charge k

  computed : (k : OpKind) (to : VReg) (n : ℕ) → Computes k to → Fine registers labels k (constant registers to n)
  computed k to n c = record {
    was = c.was;
    now = refl;
    fit = λ fit.
        fit-constant registers labels to (cut registers to.0 n)
        (ap (each_of (has registers)) (sym c.writes) ∙ (parts-of registers labels k fit).writes_own);
    size = c.size;
    charge = c.charge;
    multiplies = λ none. refl;
    divides = λ none. refl;
    linked = λ f u. refl;
  }

  one : (k : OpKind) (to : VReg) (g : ℕ → ℕ) → Computes k to → (o : Option ℕ) (j : OpKind) → from_one registers to g o ≡ Some j
      → Fine registers labels k j
  one k to g c None j is = cc
  one k to g c (Some a) j is =
      subst (Fine registers labels k) (some-same (constant registers to (g a)) j is) (computed k to (g a) c)

  of-binary : (o : BinaryOp) (to left : VReg) (right : Operand) → Computes (op.Binary o to left right) to
  of-binary o to left right = record {
    was = refl;
    writes = refl;
    size = omega arith;
    charge = least-charge o to left right;
  }

  with-constant : (o : BinaryOp) (to left right : VReg) (b : ℕ)
      → Fine registers labels (op.Binary o to left (operand.Register right)) (op.Binary o to left (operand.Constant b))
  with-constant o to left right b = record {
    was = refl;
    now = refl;
    fit = λ fit.
        let parts = parts-of registers labels (op.Binary o to left (operand.Register right)) fit in
        let own = (and_parts (has registers left) (has registers right && true) parts.reads_own).0 in
        ap (λ z. (z && true) && has registers to && true && true && true) own ∙
        ap (λ z. true && z && true && true && true) parts.writes_own;
    size = let less = work-small o b right in omega (arith, less);
    charge = subst (λ n. charge (op.Binary o to left (operand.Constant b)) ≤ n)
        (charge-right o to left (operand.Constant b) (operand.Register right)) (omega arith);
    multiplies = λ none. multiplies-right o to left (operand.Constant b) (operand.Register right) ∙ none;
    divides = λ none. divides-right o to left (operand.Constant b) (operand.Register right) ∙ none;
    linked = λ f u. refl;
  }

  two : (o : BinaryOp) (to left right : VReg) (a b : Option ℕ) (j : OpKind) → from_two registers o to left right a b ≡ Some j
      → Fine registers labels (op.Binary o to left (operand.Register right)) j
  two o to left right a None j is = cc
  two o to left right None (Some b) j is =
      subst (Fine registers labels (op.Binary o to left (operand.Register right)))
      (some-same (op.Binary o to left (operand.Constant b)) j is) (with-constant o to left right b)
  two o to left right (Some a) (Some b) j is =
      subst (Fine registers labels (op.Binary o to left (operand.Register right)))
      (some-same (constant registers to (binary_value o a b)) j is)
      (computed (op.Binary o to left (operand.Register right)) to (binary_value o a b) (of-binary o to left (operand.Register right)))

  pub improved-fine : (held : List (Option ℕ)) (k j : OpKind) → improved registers held k ≡ Some j → Fine registers labels k j
  improved-fine held k j is = cases k is
    where
      binary : (o : BinaryOp) (to left : VReg) (right : Operand) → improved_binary registers held o to left right ≡ Some j
          → Fine registers labels (op.Binary o to left right) j
      binary o to left (operand.Register right) is = two o to left right (number_at held left) (number_at held right) j is
      binary o to left (operand.Constant b) is =
          one (op.Binary o to left (operand.Constant b)) to (λ a. binary_value o a b) (of-binary o to left (operand.Constant b))
          (number_at held left) j is

      cases : (k : OpKind) → improved registers held k ≡ Some j → Fine registers labels k j
      cases (op.Copy to from) is =
          one (op.Copy to from) to (λ a. a) (record { was = refl; writes = refl; size = omega arith; charge = omega arith })
          (number_at held from) j is
      cases (op.Unary o to from) is =
          one (op.Unary o to from) to (unary_value o) (record { was = refl; writes = refl; size = omega arith; charge = omega arith })
          (number_at held from) j is
      cases (op.Binary o to left right) is = binary o to left right is
      cases (op.Widen to from) is =
          one (op.Widen to from) to (λ a. wrap_signed B4 (sext (width_at registers from.0) a))
          (record { was = refl; writes = refl; size = omega arith; charge = omega arith })
          (number_at held from) j is
      cases _ is = cc
