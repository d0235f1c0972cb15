-- The word that the table gives an instruction is decoded as that instruction.
use Rattle.std.proofs.Common.{◌≡◌, ℕ, ◌+◌, ◌*◌, ◌/◌, ◌%◌, ◌<◌, ◌≤◌, arith, refl, ap, sym, ◌∙◌}
use Rattle.std.proofs.Common.{true, false, Option, Some, lit<, lit≤, inl, inr}
use Rattle.std.specs.Prelude.{nat_lt, nat_le, ◌⊎◌}
use Rattle.std.proofs.lemmas.Bool.Decides.{nat_tests}
use Rattle.isa.specs.declared.access.Access.{Access}
use Rattle.isa.specs.declared.access.Base.{Base}
use Rattle.isa.specs.declared.access.Base.TheVariants as base
use Rattle.isa.specs.declared.control.BranchOffset.{BranchOffset}
use Rattle.isa.specs.declared.control.Condition.{Condition}
use Rattle.isa.specs.declared.control.Jump.{Jump}
use Rattle.isa.specs.declared.control.Jump.TheVariants as jump
use Rattle.isa.specs.declared.field.Field.{Field}
use Rattle.isa.specs.declared.field.Operand.{Operand}
use Rattle.isa.specs.declared.field.Operand.TheVariants as operand
use Rattle.isa.specs.declared.inst.AluOp.{AluOp}
use Rattle.isa.specs.declared.inst.Inst.{Inst}
use Rattle.isa.specs.declared.inst.Inst.TheVariants.{Alu, Not, Jmp, Jal, Ldi, Lmbd, Halt, Xin, Xout, Loop, Branch, Qba, Load, Store}
use Rattle.isa.specs.declared.row.Row.{Row}
use Rattle.isa.specs.declared.transfer.Bank.{Bank}
use Rattle.isa.specs.declared.transfer.Bank.TheVariants.{Bank0, Bank1, Bank2}
use Rattle.isa.specs.declared.transfer.Transfer.{Transfer}
use Rattle.isa.specs.Row.{part_number, op_number, condition_number, device_number, field_code, io, operand_code, offset_bits}
use Rattle.isa.specs.Row.{store_number, load_number, base_number, jump_row, transfer_row, access_row, row, joined, word_of, Fits}
use Rattle.isa.specs.Row.{OperandFits, JumpFits}
use Rattle.isa.specs.Decoded.{IsTarget, alu_at, jump_at, single_at, branch_at, memory_at, inst_at, split, decoded}
use Rattle.isa.proofs.Operands.{part_number-lt, op_number-is, condition_number-is, io-lt, offset_bits-lt}
use Rattle.isa.proofs.Formats.{alu_found, not_found, jmp_found, jal_found, ldi_found, lmbd_found, halt_found, xin_found, xout_found}
use Rattle.isa.proofs.Formats.{loop_found, qba_found, branch_found, base_number-lt, top_of, load_found, store_found}

-- ---- which format a top byte belongs to

at_alu : (r : Row) → r.top < 0x20 → inst_at r ≡ alu_at r
unfolding inst_at
at_alu r h = let e : nat_lt r.top 0x20 ≡ true = grind (arith, nat_tests) in rw e

at_jump : (r : Row) → 0x20 ≤ r.top → r.top < 0x24 → inst_at r ≡ jump_at r
unfolding inst_at
at_jump r l h =
    let d : nat_lt r.top 0x20 ≡ false = grind (arith, nat_tests) in
    let e : nat_lt r.top 0x24 ≡ true = grind (arith, nat_tests) in
    rw (d, e)

at_single : (r : Row) → 0x24 ≤ r.top → r.top < 0x40 → inst_at r ≡ single_at r
unfolding inst_at
at_single r l h =
    let c : nat_lt r.top 0x20 ≡ false = grind (arith, nat_tests) in
    let d : nat_lt r.top 0x24 ≡ false = grind (arith, nat_tests) in
    let e : nat_lt r.top 0x40 ≡ true = grind (arith, nat_tests) in
    rw (c, d, e)

at_branch : (r : Row) → ((0x40 ≤ r.top) × (r.top < 0x80)) ⊎ ((0xC0 ≤ r.top) × (r.top < 0xE0)) → inst_at r ≡ branch_at r
unfolding inst_at
at_branch r (inl h) =
    let b : nat_lt r.top 0x20 ≡ false = grind (arith, nat_tests) in
    let c : nat_lt r.top 0x24 ≡ false = grind (arith, nat_tests) in
    let d : nat_lt r.top 0x40 ≡ false = grind (arith, nat_tests) in
    let e : nat_lt r.top 0x80 ≡ true = grind (arith, nat_tests) in
    rw (b, c, d, e)
at_branch r (inr h) =
    let a : nat_lt r.top 0x20 ≡ false = grind (arith, nat_tests) in
    let b : nat_lt r.top 0x24 ≡ false = grind (arith, nat_tests) in
    let c : nat_lt r.top 0x40 ≡ false = grind (arith, nat_tests) in
    let d : nat_lt r.top 0x80 ≡ false = grind (arith, nat_tests) in
    let e : nat_le 0xC0 r.top ≡ true = grind (arith, nat_tests) in
    let f : nat_lt r.top 0xE0 ≡ true = grind (arith, nat_tests) in
    rw (a, b, c, d, e, f)

at_memory : (r : Row) → ((0x80 ≤ r.top) × (r.top < 0xC0)) ⊎ (0xE0 ≤ r.top) → inst_at r ≡ memory_at r
unfolding inst_at
at_memory r (inl h) =
    let a : nat_lt r.top 0x20 ≡ false = grind (arith, nat_tests) in
    let b : nat_lt r.top 0x24 ≡ false = grind (arith, nat_tests) in
    let c : nat_lt r.top 0x40 ≡ false = grind (arith, nat_tests) in
    let d : nat_lt r.top 0x80 ≡ false = grind (arith, nat_tests) in
    let e : nat_le 0xC0 r.top ≡ false = grind (arith, nat_tests) in
    rw (a, b, c, d, e)
at_memory r (inr h) =
    let a : nat_lt r.top 0x20 ≡ false = grind (arith, nat_tests) in
    let b : nat_lt r.top 0x24 ≡ false = grind (arith, nat_tests) in
    let c : nat_lt r.top 0x40 ≡ false = grind (arith, nat_tests) in
    let d : nat_lt r.top 0x80 ≡ false = grind (arith, nat_tests) in
    let e : nat_le 0xC0 r.top ≡ true = grind (arith, nat_tests) in
    let f : nat_lt r.top 0xE0 ≡ false = grind (arith, nat_tests) in
    rw (a, b, c, d, e, f)

-- ---- whole words

-- each byte below the highest holds no more than a byte
record AreBytes (r : Row) : Type 0 where
  third : r.third < 256
  second : r.second < 256
  low : r.low < 256

field_code-lt : (f : Field) → field_code f < 256
field_code-lt f =
    let l : part_number f.part < 8 = part_number-lt f.part in
    let h : f.reg < 32 = f.in_range in
    omega arith

operand_code-lt : (o : Operand) → OperandFits o → operand_code o < 256
operand_code-lt (operand.Field f) h = field_code-lt f
operand_code-lt (operand.Imm n) h = h

device_number-lt : (b : Bank) → device_number b < 256
device_number-lt Bank0 = lit< tt
device_number-lt Bank1 = lit< tt
device_number-lt Bank2 = lit< tt

jump_bytes : (top low : ℕ) (to : Jump) → JumpFits to → low < 256 → AreBytes (jump_row top to low)
jump_bytes top low (jump.Field f) h l = record { third = field_code-lt f; second = lit< tt; low = l }
jump_bytes top low (jump.Word n) h l = record { third = omega arith; second = omega arith; low = l }

transfer_bytes : (top : ℕ) (t : Transfer) → AreBytes (transfer_row top t)
transfer_bytes top t =
    let upper : t.count ≤ 4 = t.at_most in
    let below : t.first + t.count ≤ 30 = t.below in
    record { third = device_number-lt t.bank; second = omega arith; low = omega arith }

access_bytes : (number : ℕ) (a : Access) → OperandFits a.offset → AreBytes (access_row number a)
access_bytes number a h =
    let b : base_number a.base < 32 = base_number-lt a.base a.low_base in
    let below : 4 * a.first + a.byte + a.len ≤ 120 = a.below in
    record { third = operand_code-lt a.offset h; second = omega arith; low = omega arith }

row_bytes : (i : Inst) → Fits i → AreBytes (row i)
row_bytes (Alu op d a b) h = record { third = operand_code-lt b h; second = field_code-lt a; low = field_code-lt d }
row_bytes (Not d a) h = record { third = lit< tt; second = field_code-lt a; low = field_code-lt d }
row_bytes (Jmp to) h = jump_bytes 0x20 0 to h (lit< tt)
row_bytes (Jal d to) h = jump_bytes 0x22 (field_code d) to h (field_code-lt d)
row_bytes (Ldi d n) h = record { third = omega arith; second = omega arith; low = field_code-lt d }
row_bytes (Lmbd d a b) h = record { third = operand_code-lt b h; second = field_code-lt a; low = field_code-lt d }
row_bytes Halt h = record { third = lit< tt; second = lit< tt; low = lit< tt }
row_bytes (Xin t) h = transfer_bytes 0x2E t
row_bytes (Xout t) h = transfer_bytes 0x2F t
row_bytes (Loop b) h =
    let upper : b.count ≤ 256 = b.at_most in
    let short : b.length ≤ 255 = b.short in
    record { third = omega arith; second = omega arith; low = lit< tt }
row_bytes (Branch c o a b) h = record { third = operand_code-lt b h; second = field_code-lt a; low = omega arith }
row_bytes (Qba o) h = record { third = lit< tt; second = lit< tt; low = omega arith }
row_bytes (Load a) h = access_bytes (load_number a.base) a h
row_bytes (Store a) h = access_bytes (store_number a.base) a h

made : ℕ → ℕ → ℕ → ℕ → Row
made t u v w = record { top = t; third = u; second = v; low = w }

same_made : (a b c d a' b' c' d' : ℕ) → a ≡ a' → b ≡ b' → c ≡ c' → d ≡ d' → made a b c d ≡ made a' b' c' d'
same_made a b c d a' b' c' d' p q r s = cc

same_row : (a b : Row) → a.top ≡ b.top → a.third ≡ b.third → a.second ≡ b.second → a.low ≡ b.low → a ≡ b
unfolding made
same_row a b p q r s = same_made a.top a.third a.second a.low b.top b.third b.second b.low p q r s

split-joined : (r : Row) → AreBytes r → split (joined r) ≡ r
split-joined r h =
    let third : r.third < 256 = h.third in
    let second : r.second < 256 = h.second in
    let low : r.low < 256 = h.low in
    same_row _ _ (omega arith) (omega arith) (omega arith) (omega arith)

branch_top : (c : Condition) (o : BranchOffset) (b : Operand)
    → let top = 8 * condition_number c + 2 * (offset_bits o / 256) + io b in ((0x40 ≤ top) × (top < 0x80)) ⊎ ((0xC0 ≤ top) × (top < 0xE0))
branch_top c o b = placed (condition_number c) (offset_bits o / 256) (io b) (condition_number-is c).place
    (let l = offset_bits-lt o in omega (arith, l)) (io-lt b)
  where
    placed : (n h i : ℕ) → ((8 ≤ n) × (n < 16)) ⊎ ((24 ≤ n) × (n < 28)) → h < 4 → i < 2 → let top = 8 * n + 2 * h + i in
        ((0x40 ≤ top) × (top < 0x80)) ⊎ ((0xC0 ≤ top) × (top < 0xE0))
    placed n h i (inl p) q r = inl (omega arith, omega arith)
    placed n h i (inr p) q r = inr (omega arith, omega arith)

load_top : (a : Access) (b : Base) → a.base ≡ b → ((0x80 ≤ (row (Load a)).top) × ((row (Load a)).top < 0xC0)) ⊎ (0xE0 ≤ (row (Load a)).top)
load_top a (base.Constant c) e = let n : (row (Load a)).top / 16 ≡ 9 = (top_of (load_number a.base) a).number ∙ ap load_number e in
    inl (omega arith, omega arith)
load_top a (base.Reg k) e = let n : (row (Load a)).top / 16 ≡ 15 = (top_of (load_number a.base) a).number ∙ ap load_number e in
    inr (omega arith)

store_top : (a : Access) (b : Base) → a.base ≡ b → ((0x80 ≤ (row (Store a)).top) × ((row (Store a)).top < 0xC0))
    ⊎ (0xE0 ≤ (row (Store a)).top)
store_top a (base.Constant c) e =
    let n : (row (Store a)).top / 16 ≡ 8 = (top_of (store_number a.base) a).number ∙ ap store_number e in inl (omega arith, omega arith)
store_top a (base.Reg k) e = let n : (row (Store a)).top / 16 ≡ 14 = (top_of (store_number a.base) a).number ∙ ap store_number e in
    inr (omega arith)

alu_top : (op : AluOp) (b : Operand) → 2 * op_number op + io b < 0x20
alu_top op b = let n = (op_number-is op).below in let l = io-lt b in omega (arith, n, l)

jump_top : (top : ℕ) (to : Jump) (low : ℕ) → (top ≤ (jump_row top to low).top) × ((jump_row top to low).top ≤ top + 1)
jump_top top (jump.Field f) low = (omega arith, omega arith)
jump_top top (jump.Word n) low = (omega arith, omega arith)

pub inst_at-row : (i : Inst) → inst_at (row i) ≡ Some i
inst_at-row (Alu op d a b) = at_alu (row (Alu op d a b)) (alu_top op b) ∙ alu_found (row (Alu op d a b)) op d a b refl refl refl refl
inst_at-row (Not d a) = at_alu (row (Not d a)) (lit< tt) ∙ not_found d a
inst_at-row (Jmp to) = let t = jump_top 0x20 to 0 in at_jump (row (Jmp to)) (omega (arith, t.0)) (omega (arith, t.1)) ∙ jmp_found to
inst_at-row (Jal d to) = let t = jump_top 0x22 to (field_code d) in
    at_jump (row (Jal d to)) (omega (arith, t.0)) (omega (arith, t.1)) ∙ jal_found d to
inst_at-row (Ldi d n) = at_single (row (Ldi d n)) (lit≤ tt) (lit< tt) ∙ ldi_found d n
inst_at-row (Lmbd d a b) = let l = io-lt b in at_single (row (Lmbd d a b)) (omega arith) (omega (arith, l)) ∙ lmbd_found d a b
inst_at-row Halt = at_single (row Halt) (lit≤ tt) (lit< tt) ∙ halt_found
inst_at-row (Xin t) = at_single (row (Xin t)) (lit≤ tt) (lit< tt) ∙ xin_found t
inst_at-row (Xout t) = at_single (row (Xout t)) (lit≤ tt) (lit< tt) ∙ xout_found t
inst_at-row (Loop b) = at_single (row (Loop b)) (lit≤ tt) (lit< tt) ∙ loop_found b
inst_at-row (Branch c o a b) = at_branch (row (Branch c o a b)) (branch_top c o b)
    ∙ branch_found (row (Branch c o a b)) c o a b refl refl refl refl
inst_at-row (Qba o) = let l = offset_bits-lt o in at_branch (row (Qba o)) (inl (omega arith, omega (arith, l))) ∙ qba_found o
inst_at-row (Load a) = at_memory (row (Load a)) (load_top a a.base refl) ∙ load_found a a.base refl
inst_at-row (Store a) = at_memory (row (Store a)) (store_top a a.base refl) ∙ store_found a a.base refl

pub decoded-word_of : (i : Inst) → Fits i → decoded (word_of i) ≡ Some i
unfolding decoded word_of
decoded-word_of i h = ap inst_at (split-joined (row i) (row_bytes i h)) ∙ inst_at-row i

pub decoded_again : (w : ℕ) (o : Option Inst) → o ≡ decoded w → (i : Inst) → Fits i → word_of i ≡ w → o ≡ Some i
decoded_again w o e i h f = e ∙ ap decoded (sym f) ∙ decoded-word_of i h

pub target_row : (r : Row) (to : Jump) (top low : ℕ) → IsTarget (r.top % 2) to r → r.top ≡ top + r.top % 2 → low ≡ r.low
    → jump_row top to low ≡ r
target_row r (jump.Field f) top low h e l = same_row _ r (let z = h.0 in omega (arith, z)) h.1 h.2 l
target_row r (jump.Word n) top low h e l = same_row _ r (let z = h.0 in omega (arith, z)) h.1 h.2 l
