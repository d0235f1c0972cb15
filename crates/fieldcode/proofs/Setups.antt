-- Instructions that fill scratch registers, and works that begin with them.
use Rattle.std.proofs.Common.{◌≡◌, ℕ, ◌+◌, ◌*◌, ◌/◌, ◌%◌, ◌^◌, ◌<◌, ◌≤◌, List, [], ◌∷◌, ◌++◌, length, refl, sym, ap, ◌∙◌}
use Rattle.std.proofs.Common.{arith, inl, inr, ◌⊎◌, lit<, lit≤}
use Rattle.std.specs.Prelude.{bit_xor}
use Rattle.prunum.specs.Bytes.{little_number}
use Rattle.isa.specs.declared.field.Field.{Field}
use Rattle.isa.specs.declared.field.Operand.{Operand}
use Rattle.isa.specs.declared.field.Operand.TheVariants as operand
use Rattle.isa.specs.declared.inst.AluOp.TheVariants as alu
use Rattle.isa.specs.declared.inst.Inst.{Inst}
use Rattle.isa.specs.declared.inst.Inst.TheVariants as inst
use Rattle.corestep.specs.Fields.{bytes_at, place_of, part_length}
use Rattle.fieldcode.specs.Homes.{AreApart, IsApartFrom, work_scratch, Keeps}
use Rattle.fieldcode.specs.Insts.{mask, turned_left, turned_right, constant}
use Rattle.fieldcode.specs.Runs.{Straight, none, next}
use Rattle.fieldcode.specs.Works.{Action, Computes, Work, inst_of, chained, work_code, sign_bit, turned}
use Rattle.fieldcode.proofs.Steps.{number_of, operand_number, put, IsLow, operand_in, given_by, action_does}
use Rattle.fieldcode.proofs.Steps.{put_size, put_same, put_other, put_keeps, keeps_all, keeps_more, inner}
use Rattle.fieldcode.proofs.Chains.{joined, IsFree, low_of, Worked, work_ranges, chain_value}
use Rattle.fieldcode.proofs.Constants.{constant_does}

-- ---- operands that works don't change

-- in R0 to R29, and in none of R0 to R2 and R4
abbrev pub IsClear : Operand → Type 0
IsClear (operand.Field f) = (f.reg < 30) × IsApartFrom (place_of f) (part_length f.part) work_scratch
IsClear (operand.Imm n) = Unit {0}

pub clear_free : (o : Operand) → IsClear o → IsFree o
clear_free (operand.Field f) clear =
    (clear.0, inner (place_of f) (part_length f.part) 0 12 4 4 (lit≤ tt) (lit≤ tt) clear.1.0)
clear_free (operand.Imm n) clear = tt

pub same_clear : (a b : List ℕ) (o : Operand) → Keeps work_scratch a b → IsClear o → operand_number b o ≡ operand_number a o
same_clear a b (operand.Field f) kept clear =
    ap (little_number (part_length f.part)) (kept.others (place_of f) (part_length f.part) clear.1)
same_clear a b (operand.Imm n) kept clear = refl

-- ---- scratch

-- Some instructions leave a number in a field of scratch, and change nothing else outside the scratch of works.
pub record Prepared (code : List Inst) (t : Field) (n : ℕ) (registers ram : List ℕ) : Type 0 where
  pub after : List ℕ
  pub straight : Straight code registers ram after ram
  pub kept : Keeps work_scratch registers after
  pub value : number_of after t ≡ n

-- a whole register of the scratch
pub record IsWhole (t : Field) : Type 0 where
  pub four : part_length t.part ≡ 4
  pub low : t.reg < 30
  pub inside : (at len : ℕ) → IsApartFrom at len work_scratch → AreApart at len (place_of t) (part_length t.part)

pub mask_whole : IsWhole mask
mask_whole = record { four = refl; low = lit< tt; inside = λ at len from. inner at len 0 12 8 4 (lit≤ tt) (lit≤ tt) from.0 }

pub left_whole : IsWhole turned_left
left_whole = record { four = refl; low = lit< tt; inside = λ at len from. inner at len 0 12 0 4 (lit≤ tt) (lit≤ tt) from.0 }

pub right_whole : IsWhole turned_right
right_whole = record { four = refl; low = lit< tt; inside = λ at len from. from.1.0 }

whole_cut : (t : Field) (n : ℕ) → IsWhole t → n < 2 ^ 32 → n % 2 ^ (8 * part_length t.part) ≡ n
whole_cut t n whole fits = ap (λ l. n % 2 ^ (8 * l)) whole.four ∙ omega (arith, fits)

-- the same behind registers that change in the field alone
pub record OneMore (code : List Inst) (t : Field) (n : ℕ) (registers ram before : List ℕ) : Type 0 where
  pub prepared : Prepared code t n registers ram
  pub others : (at len : ℕ) → AreApart at len (place_of t) (part_length t.part)
      → bytes_at at len prepared.after ≡ bytes_at at len before

-- one instruction more
pub one_more : (code : List Inst) (x : Action) (t a : Field) (n : ℕ) (registers ram after : List ℕ) → Straight code registers ram after ram
    → Keeps work_scratch registers after → length registers ≡ 124 → IsWhole t → a.reg < 30 → IsLow (operand_in x)
    → given_by after x a ≡ n → n < 2 ^ 32 → OneMore (code ++ (inst_of x t a ∷ [])) t n registers ram after
one_more code x t a n registers ram after straight kept full whole low right is fits =
    let m : ℕ = given_by after x a in
    let size : length after ≡ 124 = kept.size ∙ full in
    let end : List ℕ = put t m after in
    record {
      prepared = record {
        after = end;
        straight = joined code (inst_of x t a ∷ []) registers ram after ram end ram straight
            (next (inst_of x t a) [] after ram end ram end ram (action_does x t a after ram whole.low low right) (none end ram));
        kept = keeps_all work_scratch registers after end kept (put_keeps t m after whole.low size work_scratch whole.inside);
        value = put_same t m after whole.low size ∙ ap (λ k. k % 2 ^ (8 * part_length t.part)) is ∙ whole_cut t n whole fits;
      };
      others = λ at len apart. put_other t m after whole.low size at len apart;
    }

pub mask_does : (n : ℕ) (registers ram : List ℕ) → n < 2 ^ 32 → length registers ≡ 124
    → Prepared (constant mask n) mask n registers ram
mask_does n registers ram fits full =
    let did : Worked (constant mask n) mask n registers ram = constant_does mask n registers ram (lit< tt) fits full in
    record {
      after = did.after;
      straight = did.straight;
      kept = keeps_more (work_ranges mask) work_scratch registers did.after (λ at len from. (mask_whole.inside at len from, from)) did.kept;
      value = did.value ∙ whole_cut mask n mask_whole fits;
    }

-- ---- works

-- a chain behind instructions that fill scratch
pub set_up : (w : Work) (d : Field) (n : ℕ) (registers ram after : List ℕ) → Straight w.first registers ram after ram
    → Keeps work_scratch registers after → Worked (chained d w.from w.chain) d n after ram → Worked (work_code w d) d n registers ram
set_up w d n registers ram after straight kept did = record {
  after = did.after;
  straight = joined w.first (chained d w.from w.chain) registers ram after ram did.after ram straight did.straight;
  value = did.value;
  kept = keeps_all (work_ranges d) registers after did.after
      (keeps_more work_scratch (work_ranges d) registers after (λ at len from. from.1) kept) did.kept;
}

-- ---- both operands with their sign bits turned

pub record Turned (a : Field) (b : Operand) (x y : ℕ) (registers ram : List ℕ) : Type 0 where
  pub after : List ℕ
  pub straight : Straight (turned a b) registers ram after ram
  pub kept : Keeps work_scratch registers after
  pub left : number_of after turned_left ≡ x
  pub right : number_of after turned_right ≡ y

module _ (a : Field) (b : Operand) (registers ram : List ℕ) (full : length registers ≡ 124) (clear : IsClear (operand.Field a))
    (clear_right : IsClear b) (x y : ℕ) (fits : x < 2 ^ 32) (fits_right : y < 2 ^ 32)
    (is : bit_xor (2 ^ 31) (number_of registers a) ≡ x) (is_right : bit_xor (2 ^ 31) (operand_number registers b) ≡ y) where
  masked : Prepared sign_bit mask (2 ^ 31) registers ram
  masked = mask_does (2 ^ 31) registers ram (lit< tt) full

  abbrev turn_left : Action
  turn_left = Computes alu.Xor (operand.Field a)

  abbrev turn_right : Action
  turn_right = Computes alu.Xor b

  pub turned_does : Turned a b x y registers ram
  turned_does =
      let first = masked in
      let same : operand_number first.after (operand.Field a) ≡ operand_number registers (operand.Field a) =
      same_clear registers first.after (operand.Field a) first.kept clear in
      let code : List Inst = sign_bit ++ (inst_of turn_left turned_left mask ∷ []) in
      let second : OneMore code turned_left x registers ram first.after =
      one_more sign_bit turn_left turned_left mask x registers ram first.after first.straight first.kept full left_whole (lit< tt) clear.0
      (ap (λ m. bit_xor m (number_of first.after a)) first.value ∙ ap (bit_xor (2 ^ 31)) same ∙ is) fits in
      let middle : List ℕ = second.prepared.after in
      let mask_kept : number_of middle mask ≡ 2 ^ 31 = ap (little_number 4) (second.others 8 4 (inr (lit≤ tt))) ∙ first.value in
      let same_right : operand_number middle b ≡ operand_number registers b =
      same_clear registers middle b second.prepared.kept clear_right in
      let third : OneMore (code ++ (inst_of turn_right turned_right mask ∷ [])) turned_right y registers ram middle =
      one_more code turn_right turned_right mask y registers ram middle second.prepared.straight second.prepared.kept full right_whole
      (lit< tt) (low_of b (clear_free b clear_right))
      (ap (λ m. bit_xor m (operand_number middle b)) mask_kept ∙ ap (bit_xor (2 ^ 31)) same_right ∙ is_right) fits_right in
      record {
        after = third.prepared.after;
        straight = third.prepared.straight;
        kept = third.prepared.kept;
        left = ap (little_number 4) (third.others 0 4 (inl (lit≤ tt))) ∙ second.prepared.value;
        right = third.prepared.value;
      }
