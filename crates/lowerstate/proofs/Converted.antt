-- Conversions and `!`, as pieces of code.
use Rattle.std.proofs.Common.{◌≡◌, ℕ, ◌+◌, ◌^◌, ◌<◌, ◌≤◌, ◌==◌, Bool, not, inl, inr, List, refl, sym, subst, ap, ◌∙◌, arith, Some}
use Rattle.behaviour.specs.Ran.{Done}
use Rattle.prunum.specs.Number.{wrap, bit_count, wrap_signed, sext}
use Rattle.prunum.specs.declared.width.Width.{Width}
use Rattle.prunum.specs.declared.width.Width.TheVariants.{B1, B2, B4}
use Rattle.csyn.specs.declared.specifiers.Sign.{Sign}
use Rattle.csyn.specs.declared.specifiers.Sign.TheVariants.{Signed, Unsigned}
use Rattle.midcode.specs.declared.register.VReg.{VReg}
use Rattle.midcode.specs.declared.op.OpKind.TheVariants as op
use Rattle.midcode.specs.declared.op.BinaryOp.TheVariants as two
use Rattle.midcode.specs.declared.op.Operand.TheVariants as place
use Rattle.midcode.specs.Cost.{charge}
use Rattle.midcode.specs.Value.{binary_value}
use Rattle.midcode.specs.Machine as machine
use Rattle.midcode.specs.Meaning.{width_of, effect}
use Rattle.cprogram.specs.declared.scalar.Integer.{Integer}
use Rattle.cprogram.specs.declared.scalar.Conversion.{Conversion}
use Rattle.cprogram.specs.declared.scalar.Conversion.TheVariants as conversion
use Rattle.cmean.specs.Datum.{Datum, Number, Null, Plain, Address, convert, extended, is_true, truth_number}
use Rattle.cmean.specs.State.{Run, give, then_with, sure}
use Rattle.cmean.specs.Expression.{Valued, datum, operand, truth, number_value}
use Rattle.lowerstate.specs.Held.{Meant, OfInteger, ToPlain, ToVolatile, Home, Held}
use Rattle.lowerstate.specs.Related.{Fixed, Call, IsCall}
use Rattle.lowerstate.specs.Piece.{Code, Free, next_register, Evaluates, IsValue, IsDatum, word, register}
use Rattle.lowerstate.specs.Conversion.{integer, AreAlike, IsConversion, extending, conversion_code, not_code}
use Rattle.lowerstate.proofs.Agree.{wrap-small, wrap-below, signed-below, truth-below}
use Rattle.lowerstate.proofs.Laws.{written}
use Rattle.lowerstate.proofs.Numbers.{got, datum-of}
use Rattle.lowerstate.proofs.Pieces.{next-same, next-op, less-left}
use Rattle.lowerstate.proofs.Room.{zero-where-false}

-- ---- numbers of four bytes

fits-four : (w : Width) (n : ℕ) → n < 2 ^ bit_count w → n < 2 ^ 32
fits-four B1 n small = omega (arith, small)
fits-four B2 n small = omega (arith, small)
fits-four B4 n small = small

extended-below : (w : Width) (sign : Sign) (n : ℕ) → n < 2 ^ bit_count w → extended (record { width = w; sign = sign }) n < 2 ^ 32
extended-below w Signed n small = signed-below (sext w n)
extended-below w Unsigned n small = fits-four w n small

extending-charge : (sign : Sign) (to from : VReg) → charge (extending sign to from) ≤ 12
extending-charge Signed to from = omega arith
extending-charge Unsigned to from = omega arith

module _ (r : Fixed) (c : Call) (call : IsCall r c) where
  extends : (w : Width) (sign : Sign) (s : machine.State) (to from : VReg) (v n : ℕ) → v ≡ n → s.frame.registers from.0 ≡ Some v
      → width_of r.program s from ≡ w
      → effect r.program r.addresses (extending sign to from) s
      ≡ Done tt (written r.program to (extended (record { width = w; sign = sign }) n) s)
  extends w Signed s to from v n same reg width =
      got s from v _ reg
      ∙ (ap (λ (u : Width). Done tt (written r.program to (wrap_signed B4 (sext u v)) s)) width
      ∙ ap (λ i. Done tt (written r.program to (wrap_signed B4 (sext w i)) s)) same)
  extends w Unsigned s to from v n same reg width =
      got s from v _ reg ∙ ap (λ i. Done tt (written r.program to i s)) same

  -- a number, by the datum
  pub number-of-datum : (t : Integer) (homes : List Home) (d : Datum) (v : ℕ) → Held r.layouts homes (OfInteger t) d v
      → (n : ℕ) × (d ≡ Number n) × (v ≡ n) × (n < 2 ^ bit_count t.width)
  number-of-datum t homes (Number n) v held = (n, refl, held.0, held.1)
  number-of-datum t homes Null v held = absurd held
  number-of-datum t homes (Plain p) v held = absurd held
  number-of-datum t homes (Address a) v held = absurd held

  address-of-datum : (homes : List Home) (d : Datum) (v : ℕ) → Held r.layouts homes ToVolatile d v
      → (a : ℕ) × (d ≡ Address a) × (v ≡ a) × (a < 2 ^ 32)
  address-of-datum homes (Number n) v held = absurd held
  address-of-datum homes Null v held = absurd held
  address-of-datum homes (Plain p) v held = absurd held
  address-of-datum homes (Address a) v held = (a, refl, held.0, held.1)

  module _ (f : Free) (a : Code) (run : Run Datum) (nodes left : ℕ) where
    abbrev converts : Conversion → Run Datum
    converts k = then_with run (λ d. sure (convert k d))

    to-integer : (from : Integer) (to : Width) (z : Sign) → Evaluates r c f a IsDatum (OfInteger from) run nodes (left + 12)
        → Evaluates r c f (conversion_code (conversion.Integer from to) f a) IsDatum (integer to z) (converts (conversion.Integer from to))
        nodes left
    to-integer from to z first =
        next-op r c call {Is = IsDatum} {Is' = IsDatum} f a (OfInteger from) (integer to z) run nodes (left + 12) left
        (λ d. sure (convert (conversion.Integer from to) d))
        (extending from.sign (register (next_register f a)) (register a.result)) first
        (let most = extending-charge from.sign (register (next_register f a)) (register a.result) in omega (arith, most))
        (λ homes s e d v within is held reg width.
        let at = number-of-datum from homes d v held in (
          Number (wrap to (extended from at.0)),
          Number (wrap to (extended from at.0)),
          extended from at.0,
          ap (λ d. sure (convert (conversion.Integer from to) d)) (is ∙ at.1),
          refl,
          extends from.width from.sign s (register (next_register f a)) (register a.result) v at.0 at.2 reg width,
          (refl, wrap-below to (extended from at.0)),
        ))

    to-address : (from : Integer) → Evaluates r c f a IsDatum (OfInteger from) run nodes (left + 12)
        → Evaluates r c f (conversion_code (conversion.ToAddress from) f a) IsDatum ToVolatile (converts (conversion.ToAddress from)) nodes
        left
    to-address from first =
        next-op r c call {Is = IsDatum} {Is' = IsDatum} f a (OfInteger from) ToVolatile run nodes (left + 12) left
        (λ d. sure (convert (conversion.ToAddress from) d))
        (extending from.sign (register (next_register f a)) (register a.result)) first
        (let most = extending-charge from.sign (register (next_register f a)) (register a.result) in omega (arith, most))
        (λ homes s e d v within is held reg width.
        let at = number-of-datum from homes d v held in
        let small = extended-below from.width from.sign at.0 at.3 in (
          Address (extended from at.0),
          Address (extended from at.0),
          extended from at.0,
          ap (λ d. sure (convert (conversion.ToAddress from) d)) (is ∙ at.1),
          refl,
          extends from.width from.sign s (register (next_register f a)) (register a.result) v at.0 at.2 reg width,
          (wrap-small B4 (extended from at.0) small, small),
        ))

    from-address : (to : Width) (z : Sign) → Evaluates r c f a IsDatum ToVolatile run nodes (left + 12)
        → Evaluates r c f (conversion_code (conversion.FromAddress to) f a) IsDatum (integer to z) (converts (conversion.FromAddress to))
        nodes left
    from-address to z first =
        next-op r c call {Is = IsDatum} {Is' = IsDatum} f a ToVolatile (integer to z) run nodes (left + 12) left
        (λ d. sure (convert (conversion.FromAddress to) d))
        (op.Copy (register (next_register f a)) (register a.result)) first (omega arith)
        (λ homes s e d v within is held reg width.
        let at = address-of-datum homes d v held in (
          Number (wrap to at.0),
          Number (wrap to at.0),
          v,
          ap (λ d. sure (convert (conversion.FromAddress to) d)) (is ∙ at.1),
          refl,
          got s (register a.result) v _ reg,
          (ap (wrap to) at.2, wrap-below to at.0),
        ))

    to-null : (from : Integer) (layout : ℕ) → Evaluates r c f a IsDatum (OfInteger from) run nodes (left + 12)
        → Evaluates r c f (conversion_code conversion.ToNull f a) IsDatum (ToPlain layout) (converts conversion.ToNull) nodes left
    to-null from layout first =
        next-op r c call {Is = IsDatum} {Is' = IsDatum} f a (OfInteger from) (ToPlain layout) run nodes (left + 12) left
        (λ d. sure (convert conversion.ToNull d))
        (op.Constant (register (next_register f a)) 0) first (omega arith)
        (λ homes s e d v within is held reg width.
        let at = number-of-datum from homes d v held in (
          Null,
          Null,
          0,
          ap (λ d. sure (convert conversion.ToNull d)) (is ∙ at.1),
          refl,
          refl,
          refl,
        ))

    same-type : (t : Meant) → Evaluates r c f a IsDatum t run nodes (left + 12)
        → Evaluates r c f a IsDatum t (converts conversion.Same) nodes left
    same-type t first =
        less-left r c f a t (converts conversion.Same) nodes (left + 12) left
        (next-same r c {Is = IsDatum} {Is' = IsDatum} f a t t run nodes (left + 12) (λ d. sure (convert conversion.Same d)) first refl
        (λ homes e d v is held. (e, d, refl, is, held))) (omega arith)

    same-width : (w : Width) (s z : Sign) → Evaluates r c f a IsDatum (integer w s) run nodes (left + 12)
        → Evaluates r c f a IsDatum (integer w z) (converts conversion.Same) nodes left
    same-width w s z first =
        less-left r c f a (integer w z) (converts conversion.Same) nodes (left + 12) left
        (next-same r c {Is = IsDatum} {Is' = IsDatum} f a (integer w s) (integer w z) run nodes (left + 12)
        (λ d. sure (convert conversion.Same d)) first refl
        (λ homes e d v is held.
        let at = number-of-datum (record { width = w; sign = s }) homes d v held in
        (e, d, refl, is, subst (λ d. Held r.layouts homes (integer w z) d v) (sym at.1) (at.2, at.3)))) (omega arith)

    alike : (t u : Meant) → AreAlike t u → Evaluates r c f a IsDatum t run nodes (left + 12)
        → Evaluates r c f a IsDatum u (converts conversion.Same) nodes left
    alike t u (inl same) first =
        subst (λ u. Evaluates r c f a IsDatum u (converts conversion.Same) nodes left) same (same-type t first)
    alike t u (inr by) first =
        subst (λ u. Evaluates r c f a IsDatum u (converts conversion.Same) nodes left) (sym by.4)
        (same-width by.0 by.1 by.2 (subst (λ t. Evaluates r c f a IsDatum t run nodes (left + 12)) by.3 first))

    convert-of : (k : Conversion) (t u : Meant) → IsConversion k t u → Evaluates r c f a IsDatum t run nodes (left + 12)
        → Evaluates r c f (conversion_code k f a) IsDatum u (converts k) nodes left
    convert-of conversion.Same t u is first = alike t u is first
    convert-of (conversion.Integer from to) t u is first =
        subst (λ u. Evaluates r c f (conversion_code (conversion.Integer from to) f a) IsDatum u (converts (conversion.Integer from to))
        nodes
        left) (sym is.2)
        (to-integer from to is.1 (subst (λ t. Evaluates r c f a IsDatum t run nodes (left + 12)) is.0 first))
    convert-of (conversion.ToAddress from) t u is first =
        subst (λ u. Evaluates r c f (conversion_code (conversion.ToAddress from) f a) IsDatum u (converts (conversion.ToAddress from)) nodes
        left) (sym is.1)
        (to-address from (subst (λ t. Evaluates r c f a IsDatum t run nodes (left + 12)) is.0 first))
    convert-of (conversion.FromAddress to) t u is first =
        subst (λ u. Evaluates r c f (conversion_code (conversion.FromAddress to) f a) IsDatum u (converts (conversion.FromAddress to)) nodes
        left) (sym is.2)
        (from-address to is.1 (subst (λ t. Evaluates r c f a IsDatum t run nodes (left + 12)) is.0 first))
    convert-of conversion.ToNull t u is first =
        subst (λ u. Evaluates r c f (conversion_code conversion.ToNull f a) IsDatum u (converts conversion.ToNull) nodes left) (sym is.3)
        (to-null is.0 is.2 (subst (λ t. Evaluates r c f a IsDatum t run nodes (left + 12)) is.1 first))

  pub operand-of : (k : Conversion) (f : Free) (a : Code) (t u : Meant) (run : Run Valued) (nodes left : ℕ) → IsConversion k t u
      → Evaluates r c f a IsValue t run nodes (left + 12) → Evaluates r c f (conversion_code k f a) IsDatum u (operand k run) nodes left
  operand-of k f a t u run nodes left is first =
      convert-of f a (datum run) nodes left k t u is (datum-of r c f a t run nodes (left + 12) first)

  -- ---- `!`

  -- whether a value is unequal to 0
  abbrev pub IsTruth : Bool → Datum → Type 0
  IsTruth b d = b ≡ is_true d

  pub truth-of : (f : Free) (a : Code) (t : Meant) (run : Run Valued) (nodes back : ℕ) → Evaluates r c f a IsValue t run nodes back
      → Evaluates r c f a IsTruth t (truth run) nodes back
  truth-of f a t run nodes back first =
      next-same r c {Is = IsDatum} {Is' = IsTruth} f a t t (datum run) nodes back (λ d. give (is_true d))
      (datum-of r c f a t run nodes back first) refl
      (λ homes e d v is held. (is_true e, d, refl, ap is_true is, held))

  equal-zero : (v : ℕ) → binary_value two.Equal v 0 ≡ truth_number (v == 0)
  unfolding binary_value
  equal-zero v = refl

  pub not-of : (f : Free) (a : Code) (t : Meant) (sign : Sign) (run : Run Valued) (nodes left : ℕ)
      → Evaluates r c f a IsValue t run nodes (left + 19)
      → Evaluates r c f (not_code f a) IsValue (word sign) (then_with (truth run) (λ x. number_value (truth_number (not x)))) nodes left
  not-of f a t sign run nodes left first =
      next-op r c call {Is = IsTruth} {Is' = IsValue} f a t (word sign) (truth run) nodes (left + 19) left
      (λ x. number_value (truth_number (not x)))
      (op.Binary two.Equal (register (next_register f a)) (register a.result) (place.Constant 0))
      (truth-of f a t run nodes (left + 19) first) (omega arith)
      (λ homes s x d v within is held reg width.
      let same : binary_value two.Equal v 0 ≡ truth_number (not x) =
      equal-zero v ∙ (ap truth_number (zero-where-false r.layouts homes t d v within held) ∙ ap (λ y. truth_number (not y)) (sym is)) in (
        Some (Number (truth_number (not x))),
        Number (truth_number (not x)),
        binary_value two.Equal v 0,
        refl,
        refl,
        got s (register a.result) v _ reg,
        (ap (wrap B4) same ∙ wrap-small B4 _ (truth-below (not x)), truth-below (not x)),
      ))
