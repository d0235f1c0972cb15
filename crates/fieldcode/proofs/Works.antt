-- What the work of each operator does.
use Rattle.std.proofs.Common.{◌≡◌, ℕ, ◌+◌, ◌-◌, ◌*◌, ◌/◌, ◌%◌, ◌^◌, ◌<◌, ◌≤◌, Bool, true, false, List, [], ◌∷◌, ◌++◌, length, refl, sym, ap}
use Rattle.std.proofs.Common.{◌∙◌, arith, inl, inr, ◌⊎◌, lit<, lit≤}
use Rattle.std.specs.Prelude.{bit_xor, min, max, ◌==◌, nat_lt, nat_le}
use Rattle.std.proofs.lemmas.Nat.{xor_lt}
use Rattle.std.proofs.Math.Nat.{div-le_self}
use Rattle.isa.specs.declared.field.Field.{Field}
use Rattle.isa.specs.declared.field.Operand.{Operand}
use Rattle.isa.specs.declared.field.Operand.TheVariants as operand
use Rattle.isa.specs.declared.inst.AluOp.TheVariants as alu
use Rattle.isa.specs.declared.inst.Inst.{Inst}
use Rattle.isa.specs.declared.inst.Inst.TheVariants as inst
use Rattle.midcode.specs.declared.op.BinaryOp.{BinaryOp}
use Rattle.midcode.specs.declared.op.BinaryOp.TheVariants as binary
use Rattle.midcode.specs.Value.{binary_value, shifted}
use Rattle.corestep.specs.Fields.{place_of, part_length}
use Rattle.corestep.specs.Compute.{difference}
use Rattle.fieldcode.specs.Homes.{work_scratch, Keeps}
use Rattle.fieldcode.specs.Insts.{mask, turned_left, turned_right, constant}
use Rattle.fieldcode.specs.Works.{Action, Computes, Finds, Work, chained, just, work_code, binary_work, is_direct, less, less_or_equal}
use Rattle.fieldcode.specs.Works.{sign_bit, turned, shifted_mask, inst_of}
use Rattle.fieldcode.proofs.Steps.{number_of, operand_number}
use Rattle.fieldcode.proofs.Chains.{Worked, chain_does, chain_value, AllFree}
use Rattle.fieldcode.proofs.Constants.{with_value}
use Rattle.fieldcode.proofs.Setups.{IsClear, clear_free, same_clear, Prepared, OneMore, one_more, mask_does, mask_whole, set_up, Turned}
use Rattle.fieldcode.proofs.Setups.{turned_does}
use Rattle.fieldcode.proofs.Numbers.{equal_is, not_equal_is, less_is, less_or_equal_is, sign_turned, difference_is, leftmost_is}
use Rattle.fieldcode.proofs.Shifts.{flipped, shift_is}

-- A field that takes the result, and two operands that no work changes.
pub record AreReady (d a : Field) (b : Operand) (registers : List ℕ) : Type 0 where
  pub full : length registers ≡ 124
  pub low : d.reg < 30
  pub left : IsClear (operand.Field a)
  pub right : IsClear b
  pub left_fits : number_of registers a < 2 ^ 32
  pub right_fits : operand_number registers b < 2 ^ 32

-- two numbers below 2^32 and their signs turned
turned_fits : (n : ℕ) → n < 2 ^ 32 → bit_xor (2 ^ 31) n < 2 ^ 32
turned_fits n fits = xor_lt 32 (2 ^ 31) n (lit< tt) fits

turned_is : (n : ℕ) → n < 2 ^ 32 → bit_xor (2 ^ 31) n ≡ shifted n
turned_is n fits =
    let few = turned_fits n fits in
    (let e : bit_xor (2 ^ 31) n ≡ bit_xor (2 ^ 31) n % 2 ^ 32 = omega (arith, few) in e) ∙ sign_turned n fits

shifted_fits : (n : ℕ) → shifted n < 2 ^ 32
shifted_fits n = omega arith

module _ (d a : Field) (b : Operand) (registers ram : List ℕ) (ready : AreReady d a b registers) where
  abbrev x : ℕ
  x = number_of registers a

  abbrev y : ℕ
  y = operand_number registers b

  pub just_does : (n : ℕ) (c : Action) (cs : List Action) → AllFree (c ∷ cs) → chain_value registers x (c ∷ cs) ≡ n
      → Worked (work_code (just a (c ∷ cs)) d) d n registers ram
  just_does n c cs free is =
      with_value (chained d a (c ∷ cs)) d (chain_value registers x (c ∷ cs)) n registers ram (ap (λ v. v % 2 ^ (8 * part_length d.part)) is)
      (chain_does d a c cs registers ram ready.full ready.low ready.left.0 free)

  -- signed comparisons, as those of the turned numbers
  turned_work : Turned a b (shifted x) (shifted y) registers ram
  turned_work =
      turned_does a b registers ram ready.full ready.left ready.right (shifted x) (shifted y) (shifted_fits x) (shifted_fits y)
      (turned_is x ready.left_fits) (turned_is y ready.right_fits)

  turned_chain : (n : ℕ) (c : Action) (cs : List Action) (t : Turned a b (shifted x) (shifted y) registers ram) → AllFree (c ∷ cs)
      → chain_value t.after (number_of t.after turned_left) (c ∷ cs) ≡ n
      → Worked (work_code (record { first = turned a b; from = turned_left; chain = c ∷ cs }) d) d n registers ram
  turned_chain n c cs t free is =
      set_up (record { first = turned a b; from = turned_left; chain = c ∷ cs }) d n registers ram t.after t.straight t.kept
      (with_value (chained d turned_left (c ∷ cs)) d (chain_value t.after (number_of t.after turned_left) (c ∷ cs)) n t.after ram
      (ap (λ v. v % 2 ^ (8 * part_length d.part)) is)
      (chain_does d turned_left c cs t.after ram (t.kept.size ∙ ready.full) ready.low (lit< tt) free))

  abbrev signed_less : ℕ → ℕ → ℕ
  signed_less u v = min (bit_xor (max u v % 2 ^ 32) u % 2 ^ 32) 1

  abbrev signed_less_or_equal : ℕ → ℕ → ℕ
  signed_less_or_equal u v = bit_xor (min (bit_xor (max u v % 2 ^ 32) v % 2 ^ 32) 1 % 2 ^ 32) 1

  -- the shift, with the sign bit shifted as the number is
  masked_shift : Prepared (shifted_mask b) mask (2 ^ 31 / 2 ^ (y % 32)) registers ram
      → Worked (work_code (binary_work binary.ShiftRightSigned a b) d) d (flipped (x / 2 ^ (y % 32)) (2 ^ 31 / 2 ^ (y % 32))) registers ram
  masked_shift p =
      let m : ℕ = 2 ^ 31 / 2 ^ (y % 32) in
      let after : List ℕ = p.after in
      let u : ℕ = number_of after a in
      let v : ℕ = operand_number after b in
      let w : ℕ = number_of after mask in
      let left : u ≡ x = same_clear registers after (operand.Field a) p.kept ready.left in
      let right : v ≡ y = same_clear registers after b p.kept ready.right in
      let chain : List Action =
      Computes alu.Lsr b ∷ Computes alu.Xor (operand.Field mask) ∷ Computes alu.Sub (operand.Field mask) ∷ [] in
      let is : flipped (u / 2 ^ (v % 32)) w ≡ flipped (x / 2 ^ (y % 32)) m =
      ap (λ i. flipped (i / 2 ^ (v % 32)) w) left ∙ ap (λ i. flipped (x / 2 ^ (i % 32)) w) right
      ∙ ap (flipped (x / 2 ^ (y % 32))) p.value in
      set_up (binary_work binary.ShiftRightSigned a b) d (flipped (x / 2 ^ (y % 32)) m) registers ram after p.straight p.kept
      (with_value (chained d a chain) d (flipped (u / 2 ^ (v % 32)) w) (flipped (x / 2 ^ (y % 32)) m) after ram
      (ap (λ i. i % 2 ^ (8 * part_length d.part)) is)
      (chain_does d a (Computes alu.Lsr b)
      (Computes alu.Xor (operand.Field mask) ∷ Computes alu.Sub (operand.Field mask) ∷ []) after ram (p.kept.size ∙ ready.full) ready.low
      ready.left.0 (clear_free b ready.right, ((lit< tt, inr (lit≤ tt)), ((lit< tt, inr (lit≤ tt)), tt)))))

shifted_small : (n : ℕ) → 2 ^ 31 / 2 ^ (n % 32) < 2 ^ 32
shifted_small n = let e : 2 ^ 31 / 2 ^ (n % 32) ≤ 2 ^ 31 = div-le_self (2 ^ 31) (2 ^ (n % 32)) in omega (arith, e)

mask_made : (a : Field) (b : Operand) (registers ram : List ℕ) → length registers ≡ 124 → IsClear b
    → Prepared (shifted_mask b) mask (2 ^ 31 / 2 ^ (operand_number registers b % 32)) registers ram
mask_made a (operand.Imm n) registers ram full clear = mask_does (2 ^ 31 / 2 ^ (n % 32)) registers ram (shifted_small n) full
mask_made a (operand.Field f) registers ram full clear =
    let first = mask_does (2 ^ 31) registers ram (lit< tt) full in
    let y : ℕ = number_of registers f in
    let same : number_of first.after f ≡ y = same_clear registers first.after (operand.Field f) first.kept clear in
    let more = one_more sign_bit (Computes alu.Lsr (operand.Field f)) mask mask (2 ^ 31 / 2 ^
    (y % 32)) registers ram first.after first.straight first.kept full
    mask_whole (lit< tt) clear.0
    (ap (λ m. m / 2 ^ (number_of first.after f % 32)) first.value ∙ ap (λ i. 2 ^ 31 / 2 ^ (i % 32)) same) (shifted_small y) in
    more.prepared

pub binary_does : (o : BinaryOp) (d a : Field) (b : Operand) (registers ram : List ℕ) → is_direct o ≡ true → AreReady d a b registers
    → Worked (work_code (binary_work o a b) d) d (binary_value o (number_of registers a) (operand_number registers b)) registers ram
unfolding binary_value
binary_does binary.Add d a b registers ram direct ready =
    just_does d a b registers ram ready (binary_value binary.Add (number_of registers a) (operand_number registers b))
    (Computes alu.Add b) []
    (clear_free b ready.right, tt) refl
binary_does binary.Subtract d a b registers ram direct ready =
    just_does d a b registers ram ready (binary_value binary.Subtract (number_of registers a) (operand_number registers b))
    (Computes alu.Sub b) [] (clear_free b ready.right, tt)
    (difference_is (number_of registers a) (operand_number registers b) ready.right_fits)
binary_does binary.And d a b registers ram direct ready =
    just_does d a b registers ram ready (binary_value binary.And (number_of registers a) (operand_number registers b))
    (Computes alu.And b) []
    (clear_free b ready.right, tt) refl
binary_does binary.Or d a b registers ram direct ready =
    just_does d a b registers ram ready (binary_value binary.Or (number_of registers a) (operand_number registers b)) (Computes alu.Or b) []
    (clear_free b ready.right, tt) refl
binary_does binary.Xor d a b registers ram direct ready =
    just_does d a b registers ram ready (binary_value binary.Xor (number_of registers a) (operand_number registers b))
    (Computes alu.Xor b) []
    (clear_free b ready.right, tt) refl
binary_does binary.ShiftLeft d a b registers ram direct ready =
    just_does d a b registers ram ready (binary_value binary.ShiftLeft (number_of registers a) (operand_number registers b))
    (Computes alu.Lsl b) [] (clear_free b ready.right, tt) refl
binary_does binary.ShiftRight d a b registers ram direct ready =
    just_does d a b registers ram ready (binary_value binary.ShiftRight (number_of registers a) (operand_number registers b))
    (Computes alu.Lsr b) [] (clear_free b ready.right, tt) refl
binary_does binary.ShiftRightSigned d a b registers ram direct ready =
    with_value (work_code (binary_work binary.ShiftRightSigned a b) d) d
    (flipped (number_of registers a / 2 ^ (operand_number registers b % 32)) (2 ^ 31 / 2 ^ (operand_number registers b % 32)))
    (binary_value binary.ShiftRightSigned (number_of registers a) (operand_number registers b)) registers ram
    (ap (λ v. v % 2 ^ (8 * part_length d.part)) (shift_is (number_of registers a) (operand_number registers b) ready.left_fits))
    (masked_shift d a b registers ram ready (mask_made a b registers ram ready.full ready.right))
binary_does binary.Equal d a b registers ram direct ready =
    just_does d a b registers ram ready (binary_value binary.Equal (number_of registers a)
    (operand_number registers b)) (Computes alu.Xor b)
    (Computes alu.Min (operand.Imm 1) ∷ Computes alu.Xor (operand.Imm 1) ∷ []) (clear_free b ready.right, (tt, (tt, tt)))
    (equal_is (number_of registers a) (operand_number registers b) ready.left_fits ready.right_fits)
binary_does binary.NotEqual d a b registers ram direct ready =
    just_does d a b registers ram ready (binary_value binary.NotEqual (number_of registers a) (operand_number registers b))
    (Computes alu.Xor b) (Computes alu.Min (operand.Imm 1) ∷ []) (clear_free b ready.right, (tt, tt))
    (not_equal_is (number_of registers a) (operand_number registers b) ready.left_fits ready.right_fits)
binary_does binary.Less d a b registers ram direct ready =
    just_does d a b registers ram ready (binary_value binary.Less (number_of registers a) (operand_number registers b)) (Computes alu.Max b)
    (Computes alu.Xor (operand.Field a) ∷ Computes alu.Min (operand.Imm 1) ∷ [])
    (clear_free b ready.right, (clear_free (operand.Field a) ready.left, (tt, tt)))
    (less_is (number_of registers a) (operand_number registers b) ready.left_fits ready.right_fits)
binary_does binary.LessOrEqual d a b registers ram direct ready =
    just_does d a b registers ram ready (binary_value binary.LessOrEqual (number_of registers a) (operand_number registers b))
    (Computes alu.Max b) (Computes alu.Xor b ∷ Computes alu.Min (operand.Imm 1) ∷ Computes alu.Xor (operand.Imm 1) ∷ [])
    (clear_free b ready.right, (clear_free b ready.right, (tt, (tt, tt))))
    (less_or_equal_is (number_of registers a) (operand_number registers b) ready.left_fits ready.right_fits)
binary_does binary.LessSigned d a b registers ram direct ready =
    let x : ℕ = number_of registers a in
    let y : ℕ = operand_number registers b in
    let t = turned_work d a b registers ram ready in
    turned_chain d a b registers ram ready (binary_value binary.LessSigned x y) (Computes alu.Max (operand.Field turned_right))
    (Computes alu.Xor (operand.Field turned_left) ∷ Computes alu.Min (operand.Imm 1) ∷ []) t
    ((lit< tt, inr (lit≤ tt)), ((lit< tt, inl (lit≤ tt)), (tt, tt)))
    (ap (λ u. min (bit_xor (max u (number_of t.after turned_right) % 2 ^ 32) u % 2 ^ 32) 1) t.left
    ∙ ap (λ v. min (bit_xor (max (shifted x) v % 2 ^ 32) (shifted x) % 2 ^ 32) 1) t.right
    ∙ less_is (shifted x) (shifted y) (shifted_fits x) (shifted_fits y))
binary_does binary.LessOrEqualSigned d a b registers ram direct ready =
    let x : ℕ = number_of registers a in
    let y : ℕ = operand_number registers b in
    let t = turned_work d a b registers ram ready in
    turned_chain d a b registers ram ready (binary_value binary.LessOrEqualSigned x y) (Computes alu.Max (operand.Field turned_right))
    (Computes alu.Xor (operand.Field turned_right) ∷ Computes alu.Min (operand.Imm 1) ∷ Computes alu.Xor (operand.Imm 1) ∷ []) t
    ((lit< tt, inr (lit≤ tt)), ((lit< tt, inr (lit≤ tt)), (tt, (tt, tt))))
    (ap (λ u. bit_xor (min (bit_xor (max u (number_of t.after turned_right) % 2 ^ 32)
    (number_of t.after turned_right) % 2 ^ 32) 1 % 2 ^ 32) 1)
    t.left
    ∙ ap (λ v. bit_xor (min (bit_xor (max (shifted x) v % 2 ^ 32) v % 2 ^ 32) 1 % 2 ^ 32) 1) t.right
    ∙ less_or_equal_is (shifted x) (shifted y) (shifted_fits x) (shifted_fits y))
binary_does binary.LeftmostBit d a b registers ram direct ready =
    just_does d a b registers ram ready (binary_value binary.LeftmostBit (number_of registers a) (operand_number registers b)) (Finds b) []
    (clear_free b ready.right, tt) (leftmost_is 32 (number_of registers a) (operand_number registers b % 2))
binary_does binary.Multiply d a b registers ram direct ready = absurd (let wrong : false ≡ true = direct in cc)
binary_does binary.Quotient d a b registers ram direct ready = absurd (let wrong : false ≡ true = direct in cc)
binary_does binary.QuotientSigned d a b registers ram direct ready = absurd (let wrong : false ≡ true = direct in cc)
binary_does binary.Remainder d a b registers ram direct ready = absurd (let wrong : false ≡ true = direct in cc)
binary_does binary.RemainderSigned d a b registers ram direct ready = absurd (let wrong : false ≡ true = direct in cc)
