-- What the work of each operation with one operand does.
use Rattle.std.proofs.Common.{◌≡◌, ℕ, ◌+◌, ◌-◌, ◌*◌, ◌%◌, ◌^◌, ◌<◌, ◌≤◌, Bool, true, false, List, [], ◌∷◌, ◌++◌, length, refl, sym, ap, ◌∙◌}
use Rattle.std.proofs.Common.{arith, inl, inr, ◌⊎◌, lit<, lit≤}
use Rattle.std.specs.Prelude.{bit_xor}
use Rattle.prunum.specs.Number.{bit_count, sext, wrap_signed}
use Rattle.prunum.specs.declared.width.Width.{Width}
use Rattle.prunum.specs.declared.width.Width.TheVariants.{B1, B2, B4}
use Rattle.isa.specs.declared.field.Field.{Field}
use Rattle.isa.specs.declared.field.Operand.TheVariants as operand
use Rattle.isa.specs.declared.inst.AluOp.TheVariants as alu
use Rattle.midcode.specs.declared.op.UnaryOp.{UnaryOp}
use Rattle.midcode.specs.declared.op.UnaryOp.TheVariants as unary
use Rattle.midcode.specs.Value.{unary_value}
use Rattle.corestep.specs.Compute.{difference}
use Rattle.corestep.specs.Fields.{part_length}
use Rattle.fieldcode.specs.Insts.{mask, constant}
use Rattle.fieldcode.specs.Works.{Action, Computes, Complements, Work, chained, work_code, unary_work, copy_work, widen_work}
use Rattle.fieldcode.proofs.Steps.{number_of}
use Rattle.fieldcode.proofs.Chains.{Worked, chain_does, chain_value}
use Rattle.fieldcode.proofs.Constants.{with_value}
use Rattle.fieldcode.proofs.Setups.{IsClear, same_clear, mask_does, set_up}
use Rattle.fieldcode.proofs.Works.{AreReady, just_does}
use Rattle.fieldcode.proofs.Numbers.{negated, not_is, is_zero, copied}
use Rattle.fieldcode.proofs.SignedNumbers.{Widens, widens_1, widens_2}

-- a field that takes the result, and an operand
pub record IsReady (d a : Field) (registers : List ℕ) : Type 0 where
  pub full : length registers ≡ 124
  pub low : d.reg < 30
  pub left : IsClear (operand.Field a)
  pub fits : number_of registers a < 2 ^ 32

two : (d a : Field) (registers : List ℕ) → IsReady d a registers → AreReady d a (operand.Imm 0) registers
two d a registers ready = record {
  full = ready.full;
  low = ready.low;
  left = ready.left;
  right = tt;
  left_fits = ready.fits;
  right_fits = lit< tt;
}

pub unary_does : (o : UnaryOp) (d a : Field) (registers ram : List ℕ) → IsReady d a registers
    → Worked (work_code (unary_work o a) d) d (unary_value o (number_of registers a)) registers ram
unfolding unary_value
unary_does unary.Negate d a registers ram ready =
    just_does d a (operand.Imm 0) registers ram (two d a registers ready) (unary_value unary.Negate (number_of registers a))
    (Computes alu.Rsb (operand.Imm 0)) [] (tt, tt) (negated (number_of registers a) ready.fits)
unary_does unary.Complement d a registers ram ready =
    just_does d a (operand.Imm 0) registers ram (two d a registers ready) (unary_value unary.Complement (number_of registers a))
    Complements [] (tt, tt) (not_is (number_of registers a))
unary_does unary.Not d a registers ram ready =
    just_does d a (operand.Imm 0) registers ram (two d a registers ready) (unary_value unary.Not (number_of registers a))
    (Computes alu.Min (operand.Imm 1)) (Computes alu.Xor (operand.Imm 1) ∷ []) (tt, (tt, tt)) (is_zero (number_of registers a) ready.fits)

pub copy_does : (d a : Field) (registers ram : List ℕ) → IsReady d a registers
    → Worked (work_code (copy_work a) d) d (number_of registers a) registers ram
copy_does d a registers ram ready =
    just_does d a (operand.Imm 0) registers ram (two d a registers ready) (number_of registers a)
    (Computes alu.Add (operand.Imm 0)) [] (tt, tt) (copied (number_of registers a) ready.fits)

-- ---- sign extension

abbrev pub IsNarrow : Width → ℕ → Type 0
IsNarrow B1 v = v < 2 ^ 8
IsNarrow B2 v = v < 2 ^ 16
IsNarrow B4 v = ⊥

widens : (w : Width) (v : ℕ) → IsNarrow w v → Widens w v
widens B1 v narrow = widens_1 v narrow
widens B2 v narrow = widens_2 v narrow
widens B4 v narrow = absurd narrow

sign_fits : (w : Width) (v : ℕ) → IsNarrow w v → 2 ^ (bit_count w - 1) < 2 ^ 32
sign_fits B1 v narrow = lit< tt
sign_fits B2 v narrow = lit< tt
sign_fits B4 v narrow = absurd narrow

pub widen_does : (w : Width) (d a : Field) (registers ram : List ℕ) → IsReady d a registers → IsNarrow w (number_of registers a)
    → Worked (work_code (widen_work w a) d) d (wrap_signed B4 (sext w (number_of registers a))) registers ram
widen_does w d a registers ram ready narrow =
    let x : ℕ = number_of registers a in
    let sign : ℕ = 2 ^ (bit_count w - 1) in
    let n : ℕ = wrap_signed B4 (sext w x) in
    let p = mask_does sign registers ram (sign_fits w x narrow) ready.full in
    let y : ℕ = number_of p.after a in
    let m : ℕ = number_of p.after mask in
    let same : y ≡ x = same_clear registers p.after (operand.Field a) p.kept ready.left in
    let chain : List Action = Computes alu.Xor (operand.Field mask) ∷ Computes alu.Sub (operand.Field mask) ∷ [] in
    let is : difference (bit_xor y m % 2 ^ 32) m ≡ n =
    ap (λ i. difference (bit_xor i m % 2 ^ 32) m) same ∙ ap (λ i. difference (bit_xor x i % 2 ^ 32) i) p.value ∙ widens w x narrow in
    set_up (widen_work w a) d n registers ram p.after p.straight p.kept
    (with_value (chained d a chain) d (difference (bit_xor y m % 2 ^ 32) m) n p.after ram (ap (λ i. i % 2 ^ (8 * part_length d.part)) is)
    (chain_does d a (Computes alu.Xor (operand.Field mask)) (Computes alu.Sub (operand.Field mask) ∷ []) p.after ram
    (p.kept.size ∙ ready.full) ready.low ready.left.0 ((lit< tt, inr (lit≤ tt)), ((lit< tt, inr (lit≤ tt)), tt))))
