-- Texts without colons and semicolons: what is printed of an instruction is one.
use Rattle.std.proofs.Common.{◌≡◌, ℕ, ◌^◌, ◌<◌, Bool, true, false, ◌||◌, nat_lt, List, [], ◌∷◌, ◌++◌, refl, arith, codes}
use Rattle.std.specs.List.{list_all}
use Rattle.std.specs.Char.{is_ascii_digit}
use Rattle.std.specs.Fmt.{decimal}
use Rattle.std.specs.Str.{bytes_eq}
use Rattle.std.proofs.lemmas.Bool.{and_parts, and_from}
use Rattle.std.proofs.lemmas.Bool.Decides.{nat_tests}
use Rattle.textline.specs.Lines.{Lacks}
use Rattle.textline.proofs.Printed.{decimal_digits}
use Rattle.isa.specs.declared.control.Condition.{Condition}
use Rattle.isa.specs.declared.control.Condition.TheVariants.{Lt, Eq, Le, Gt, Ne, Ge, BitClear, BitSet}
use Rattle.isa.specs.declared.field.Part.{Part}
use Rattle.isa.specs.declared.field.Part.TheVariants.{B0, B1, B2, B3, W0, W1, W2, All}
use Rattle.isa.specs.declared.inst.AluOp.{AluOp}
use Rattle.isa.specs.declared.inst.AluOp.TheVariants.{Add, Sub, Lsl, Lsr, Rsb, And, Or, Xor, Min, Max, Clr, Set}
use Rattle.asmword.specs.declared.form.Operands.{Operands}
use Rattle.asmword.specs.declared.form.Operands.TheVariants as operands
use Rattle.asmword.specs.declared.form.Word.{Word}
use Rattle.asmword.specs.declared.form.Word.TheVariants as word
use Rattle.asmword.specs.declared.kinds.Kind.{Kind}
use Rattle.asmword.specs.declared.kinds.Kind.TheVariants.{Field, Value, Number, Register, First, Constant, Label, Jump}
use Rattle.asmword.specs.declared.kinds.Shape.{Shape}
use Rattle.asmword.specs.declared.kinds.Shape.TheVariants.{Nothing, One, Two, Three, Four}
use Rattle.asmword.specs.declared.mnemonic.Mnemonic.{Mnemonic}
use Rattle.asmword.specs.declared.mnemonic.Mnemonic.TheVariants as mnemonic
use Rattle.asmword.specs.Mnemonics.{mnemonic_name}
use Rattle.asmword.specs.Printing.{Printable, ArePrintable}
use Rattle.asmword.specs.Texts.{part_name, field_text, word_text, operands_text, form_text}

abbrev pub is_clear : ℕ → Bool
is_clear b = nat_lt b 58 || nat_lt 59 b

abbrev pub clear : List ℕ → Bool
clear text = list_all is_clear text

pub clear_lacks : (text : List ℕ) → clear text ≡ true → Lacks 58 text × Lacks 59 text
clear_lacks [] h = (tt, tt)
clear_lacks (c ∷ text) h =
    let parts = and_parts (is_clear c) (clear text) h in
    let rest = clear_lacks text parts.1 in
    let one : (c ≡ 58 → ⊥) × (c ≡ 59 → ⊥) = neither c parts.0 in
    ((one.0, rest.0), (one.1, rest.1))
  where
    neither : (c : ℕ) → is_clear c ≡ true → (c ≡ 58 → ⊥) × (c ≡ 59 → ⊥)
    neither c h = (grind (arith, nat_tests), grind (arith, nat_tests))

pub clear_append : (front behind : List ℕ) → clear front ≡ true → clear behind ≡ true → clear (front ++ behind) ≡ true
clear_append [] behind f b = b
clear_append (c ∷ front) behind f b =
    let parts = and_parts (is_clear c) (clear front) f in and_from _ _ parts.0 (clear_append front behind parts.1 b)

digits_clear : (text : List ℕ) → list_all is_ascii_digit text ≡ true → clear text ≡ true
digits_clear [] h = refl
digits_clear (c ∷ text) h =
    let parts = and_parts (is_ascii_digit c) (list_all is_ascii_digit text) h in
    and_from _ _ (one c parts.0) (digits_clear text parts.1)
  where
    one : (c : ℕ) → is_ascii_digit c ≡ true → is_clear c ≡ true
    one c h = grind (arith, nat_tests)

pub decimal_clear : (n : ℕ) → n < 2 ^ 32 → clear (decimal n) ≡ true
decimal_clear n h = digits_clear (decimal n) (decimal_digits n (omega arith)).0

part_clear : (n : ℕ) (name : List ℕ) → n < 2 ^ 32 → clear name ≡ true → clear (82 ∷ (decimal n ++ 46 ∷ name)) ≡ true
part_clear n name h c = clear_append (decimal n) (46 ∷ name) (decimal_clear n h) c

field_clear : (n : ℕ) (part : Part) → n < 2 ^ 32 → clear (field_text n part) ≡ true
field_clear n All h = decimal_clear n h
field_clear n B0 h = part_clear n (codes "b0") h refl
field_clear n B1 h = part_clear n (codes "b1") h refl
field_clear n B2 h = part_clear n (codes "b2") h refl
field_clear n B3 h = part_clear n (codes "b3") h refl
field_clear n W0 h = part_clear n (codes "w0") h refl
field_clear n W1 h = part_clear n (codes "w1") h refl
field_clear n W2 h = part_clear n (codes "w2") h refl

word_clear : (label : ℕ) (kind : Kind) (w : Word) → label < 2 ^ 32 → Printable kind w → clear (word_text label w) ≡ true
word_clear label Field (word.Field n part) l h = field_clear n part h
word_clear label Value (word.Field n part) l h = field_clear n part h
word_clear label Value (word.Number n) l h = decimal_clear n h
word_clear label Number (word.Number n) l h = decimal_clear n h
word_clear label Register (word.Field n All) l h = field_clear n All h
word_clear label First (word.Field n All) l h = field_clear n All h
word_clear label First (word.Field n B1) l h = field_clear n B1 h
word_clear label First (word.Field n B2) l h = field_clear n B2 h
word_clear label First (word.Field n B3) l h = field_clear n B3 h
word_clear label Constant (word.Constant n) l h = decimal_clear n h
word_clear label Label word.Label l h = decimal_clear label l
word_clear label Jump word.Label l h = decimal_clear label l
word_clear label Jump (word.Field n part) l h = field_clear n part (omega arith)
word_clear label kind w l h = elim h [ ]

operands_clear : (label : ℕ) (shape : Shape) (ops : Operands) → label < 2 ^ 32 → ArePrintable shape ops
    → clear (operands_text label ops) ≡ true
operands_clear label Nothing operands.Nothing small h = refl
operands_clear label (One k) (operands.One a) small h = word_clear label k a small h
operands_clear label (Two k l) (operands.Two a b) small h =
    clear_append (word_text label a) (44 ∷ 32 ∷ word_text label b) (word_clear label k a small h.0) (word_clear label l b small h.1)
operands_clear label (Three k l m) (operands.Three a b c) small h =
    clear_append (word_text label a) (44 ∷ 32 ∷ (word_text label b ++ 44 ∷ 32 ∷ word_text label c)) (word_clear label k a small h.0)
    (clear_append (word_text label b) (44 ∷ 32 ∷ word_text label c) (word_clear label l b small h.1) (word_clear label m c small h.2))
operands_clear label (Four k l m n) (operands.Four a b c d) small h =
    clear_append (word_text label a) (44 ∷ 32 ∷ (word_text label b ++ 44 ∷ 32 ∷ (word_text label c ++ 44 ∷ 32 ∷ word_text label d)))
    (word_clear label k a small h.0)
    (clear_append (word_text label b) (44 ∷ 32 ∷ (word_text label c ++ 44 ∷ 32 ∷ word_text label d)) (word_clear label l b small h.1)
    (clear_append (word_text label c) (44 ∷ 32 ∷ word_text label d) (word_clear label m c small h.2) (word_clear label n d small h.3)))
operands_clear label shape ops small h = elim h [ ]

-- a mnemonic is no note
abbrev pub IsWordName : Mnemonic → Type 0
IsWordName m = (clear (mnemonic_name m) ≡ true) × (bytes_eq (mnemonic_name m) (codes ".note") ≡ false)

alu_named : (op : AluOp) → IsWordName (mnemonic.Alu op)
alu_named Add = (refl, refl)
alu_named Sub = (refl, refl)
alu_named Lsl = (refl, refl)
alu_named Lsr = (refl, refl)
alu_named Rsb = (refl, refl)
alu_named And = (refl, refl)
alu_named Or = (refl, refl)
alu_named Xor = (refl, refl)
alu_named Min = (refl, refl)
alu_named Max = (refl, refl)
alu_named Clr = (refl, refl)
alu_named Set = (refl, refl)

branch_named : (condition : Condition) → IsWordName (mnemonic.Branch condition)
branch_named Lt = (refl, refl)
branch_named Eq = (refl, refl)
branch_named Le = (refl, refl)
branch_named Gt = (refl, refl)
branch_named Ne = (refl, refl)
branch_named Ge = (refl, refl)
branch_named BitClear = (refl, refl)
branch_named BitSet = (refl, refl)

pub word_named : (m : Mnemonic) → IsWordName m
word_named (mnemonic.Alu op) = alu_named op
word_named (mnemonic.Branch condition) = branch_named condition
word_named mnemonic.Not = (refl, refl)
word_named mnemonic.Jmp = (refl, refl)
word_named mnemonic.Jal = (refl, refl)
word_named mnemonic.Ldi = (refl, refl)
word_named mnemonic.Lmbd = (refl, refl)
word_named mnemonic.Halt = (refl, refl)
word_named mnemonic.Xin = (refl, refl)
word_named mnemonic.Xout = (refl, refl)
word_named mnemonic.Loop = (refl, refl)
word_named mnemonic.Qba = (refl, refl)
word_named mnemonic.Lbbo = (refl, refl)
word_named mnemonic.Lbco = (refl, refl)
word_named mnemonic.Sbbo = (refl, refl)
word_named mnemonic.Sbco = (refl, refl)

pub form_clear : (label : ℕ) (m : Mnemonic) (shape : Shape) (ops : Operands) → label < 2 ^ 32 → ArePrintable shape ops
    → clear (form_text label (record { mnemonic = m; operands = ops })) ≡ true
form_clear label m shape ops small h =
    clear_append (mnemonic_name m) (operands_text label ops) (word_named m).0 (operands_clear label shape ops small h)
