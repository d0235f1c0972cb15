-- What an instruction is written with, printed, is read again.
use Rattle.std.proofs.Common.{◌≡◌, ℕ, ◌^◌, ◌<◌, ◌≤◌, ◌==◌, Bool, true, false, cond, List, [], ◌∷◌, ◌++◌, length, refl, ap, ◌∙◌, arith}
use Rattle.std.proofs.Common.{Some, ◌+◌, ◌*◌, lit<}
use Rattle.std.proofs.lemmas.Bool.{ne_eqb}
use Rattle.textline.specs.Lines.{Lacks}
use Rattle.isa.specs.declared.access.Access.{Access}
use Rattle.isa.specs.declared.access.Base.{Base}
use Rattle.isa.specs.declared.access.Base.TheVariants as base
use Rattle.isa.specs.declared.access.Constant.{Constant}
use Rattle.isa.specs.declared.access.Constant.TheVariants.{C0, C4, C24, C25, C28}
use Rattle.isa.specs.declared.control.Jump.{Jump}
use Rattle.isa.specs.declared.control.Jump.TheVariants as jump
use Rattle.isa.specs.declared.field.Field.{Field}
use Rattle.isa.specs.declared.field.Operand.{Operand}
use Rattle.isa.specs.declared.field.Operand.TheVariants as operand
use Rattle.isa.specs.declared.field.Part.TheVariants.{B1, B2, B3, All}
use Rattle.isa.specs.declared.inst.Inst.{Inst}
use Rattle.isa.specs.declared.inst.Inst.TheVariants as inst
use Rattle.isa.specs.declared.transfer.Bank.{Bank}
use Rattle.isa.specs.declared.transfer.Bank.TheVariants.{Bank0, Bank1, Bank2}
use Rattle.isa.specs.declared.transfer.Transfer.{Transfer}
use Rattle.isa.specs.Low.{is_low_base}
use Rattle.isa.specs.Row.{Fits, OperandFits, constant_number, device_number}
use Rattle.std.specs.Prelude.{IsTrue, option_map, codes}
use Rattle.std.specs.Fmt.{decimal}
use Rattle.isa.specs.Program.{has_target}
use Rattle.std.proofs.lemmas.Bool.Decides.{nat_tests}
use Rattle.asmword.specs.declared.form.Operands.{Operands}
use Rattle.asmword.specs.declared.form.Operands.TheVariants as operands
use Rattle.asmword.specs.declared.form.Word.{Word}
use Rattle.asmword.specs.declared.form.Word.TheVariants as word
use Rattle.asmword.specs.declared.kinds.Kind.{Kind}
use Rattle.asmword.specs.declared.kinds.Kind.TheVariants as kind
use Rattle.asmword.specs.declared.kinds.Shape.{Shape}
use Rattle.asmword.specs.declared.kinds.Shape.TheVariants.{Nothing, One, Two, Three, Four}
use Rattle.asmword.specs.declared.mnemonic.Mnemonic.{Mnemonic}
use Rattle.asmword.specs.declared.mnemonic.Mnemonic.TheVariants as mnemonic
use Rattle.asmword.specs.Blanks.{behind_blanks, trimmed, first_word, behind_word, parts_of, operand_parts}
use Rattle.asmword.specs.Forms.{value_word, jump_word, base_word, base_mnemonic, byte_part, written}
use Rattle.asmword.specs.Kinds.{shape_of}
use Rattle.asmword.specs.Labels.{has_label, label_among, label_in}
use Rattle.asmword.specs.Mnemonics.{mnemonic_name}
use Rattle.asmword.specs.Printing.{Printable, ArePrintable}
use Rattle.asmword.specs.Reading.{next, operands_in, form_in}
use Rattle.asmword.specs.Texts.{word_text, operands_text, form_text}
use Rattle.asmword.specs.Words.{word_in}
use Rattle.asmword.proofs.MnemonicLaws.{named}
use Rattle.asmword.proofs.PartLaws.{parts_cut, parts_whole}
use Rattle.asmword.proofs.SolidLaws.{kept, solid_kept, solid_lacks, trimmed_space, space_gone}
use Rattle.asmword.proofs.SolidLaws.{first_solid, behind_solid, first_none, first_space, behind_none, behind_space}
use Rattle.asmword.proofs.WordLaws.{Good, word_back, word_good}

-- ---- operands

next_back : (k : Kind) (w : Word) (text : List ℕ) (rest : List (List ℕ)) → Good text → word_in k text ≡ Some w
    → next k ((32 ∷ text) ∷ rest) ≡ Some w
next_back k w text rest g e = ap (word_in k) (trimmed_space text g.0 g.1) ∙ e

spaced_lacks : (text : List ℕ) → Good text → Lacks 44 (32 ∷ text)
spaced_lacks text g = (λ e. omega (arith, e), solid_lacks text g.0)

one_part : (text : List ℕ) → Good text → parts_of 44 (32 ∷ text) ≡ (32 ∷ text) ∷ []
one_part text g = parts_whole 44 (32 ∷ text) (spaced_lacks text g)

more_parts : (text rest : List ℕ) (parts : List (List ℕ)) → Good text → parts_of 44 (32 ∷ rest) ≡ parts
    → parts_of 44 (32 ∷ (text ++ 44 ∷ 32 ∷ rest)) ≡ (32 ∷ text) ∷ parts
more_parts text rest parts g e = parts_cut 44 (32 ∷ text) (32 ∷ rest) (spaced_lacks text g) ∙ ap (λ ps. (32 ∷ text) ∷ ps) e

some_parts : (text : List ℕ) → 0 < length (behind_blanks text) → operand_parts (32 ∷ text) ≡ parts_of 44 (32 ∷ text)
unfolding operand_parts
some_parts text some =
    ap (λ t. cond (length t == 0) [] (parts_of 44 (32 ∷ text))) (space_gone text)
    ∙ ap (λ t. cond t [] (parts_of 44 (32 ∷ text))) (ne_eqb (length (behind_blanks text)) 0 (λ z. omega arith))

good_some : (text rest : List ℕ) → Good text → 0 < length (behind_blanks (text ++ rest))
good_some [] rest g = absurd (omega (arith, g.1))
good_some (b ∷ text) rest g = omega (arith, ap length (solid_kept (b ∷ text) g.0 g.1 rest))

alone_some : (text : List ℕ) → Good text → 0 < length (behind_blanks text)
alone_some text g = omega (arith, ap length (kept text g.0 g.1), g.1)

one_back : (k : Kind) (a : Word) (s : List ℕ) → Good s → word_in k s ≡ Some a
    → operands_in (One k) ((32 ∷ s) ∷ []) ≡ Some (operands.One a)
unfolding operands_in
one_back k a s g e = rw (next_back k a s [] g e)

two_back : (k l : Kind) (a b : Word) (s t : List ℕ) → Good s → word_in k s ≡ Some a → Good t → word_in l t ≡ Some b
    → operands_in (Two k l) ((32 ∷ s) ∷ (32 ∷ t) ∷ []) ≡ Some (operands.Two a b)
unfolding operands_in
two_back k l a b s t g e h f = rw (next_back k a s ((32 ∷ t) ∷ []) g e, next_back l b t [] h f)

three_back : (k l m : Kind) (a b c : Word) (s t u : List ℕ) → Good s → word_in k s ≡ Some a → Good t → word_in l t ≡ Some b
    → Good u → word_in m u ≡ Some c
    → operands_in (Three k l m) ((32 ∷ s) ∷ (32 ∷ t) ∷ (32 ∷ u) ∷ []) ≡ Some (operands.Three a b c)
unfolding operands_in
three_back k l m a b c s t u g e h f i j =
    rw (next_back k a s ((32 ∷ t) ∷ (32 ∷ u) ∷ []) g e, next_back l b t ((32 ∷ u) ∷ []) h f, next_back m c u [] i j)

four_back : (k l m n : Kind) (a b c d : Word) (s t u v : List ℕ) → Good s → word_in k s ≡ Some a → Good t → word_in l t ≡ Some b
    → Good u → word_in m u ≡ Some c → Good v → word_in n v ≡ Some d
    → operands_in (Four k l m n) ((32 ∷ s) ∷ (32 ∷ t) ∷ (32 ∷ u) ∷ (32 ∷ v) ∷ []) ≡ Some (operands.Four a b c d)
unfolding operands_in
four_back k l m n a b c d s t u v g e h f i j o p =
    rw (
      next_back k a s ((32 ∷ t) ∷ (32 ∷ u) ∷ (32 ∷ v) ∷ []) g e,
      next_back l b t ((32 ∷ u) ∷ (32 ∷ v) ∷ []) h f,
      next_back m c u ((32 ∷ v) ∷ []) i j,
      next_back n d v [] o p,
    )

none_back : operands_in Nothing [] ≡ Some operands.Nothing
unfolding operands_in
none_back = refl

-- the printed operands, each behind a space
abbrev pub printed_parts : ℕ → Operands → List (List ℕ)
printed_parts label operands.Nothing = []
printed_parts label (operands.One a) = (32 ∷ word_text label a) ∷ []
printed_parts label (operands.Two a b) = (32 ∷ word_text label a) ∷ (32 ∷ word_text label b) ∷ []
printed_parts label (operands.Three a b c) = (32 ∷ word_text label a) ∷ (32 ∷ word_text label b) ∷ (32 ∷ word_text label c) ∷ []
printed_parts label (operands.Four a b c d) =
    (32 ∷ word_text label a) ∷ (32 ∷ word_text label b) ∷ (32 ∷ word_text label c) ∷ (32 ∷ word_text label d) ∷ []

no_parts : operand_parts [] ≡ []
unfolding operand_parts behind_blanks
no_parts = refl

pub parts_back : (label : ℕ) (shape : Shape) (ops : Operands) → label < 2 ^ 32 → ArePrintable shape ops
    → operand_parts (operands_text label ops) ≡ printed_parts label ops
unfolding operand_parts
parts_back label Nothing operands.Nothing small h = no_parts
parts_back label (One k) (operands.One a) small h =
    let g = word_good label k a small h in
    some_parts _ (alone_some (word_text label a) g) ∙ one_part (word_text label a) g
parts_back label (Two k l) (operands.Two a b) small h =
    let g = word_good label k a small h.0 in
    let i = word_good label l b small h.1 in
    some_parts _ (good_some (word_text label a) (44 ∷ 32 ∷ word_text label b) g)
    ∙ more_parts (word_text label a) (word_text label b) _ g (one_part (word_text label b) i)
parts_back label (Three k l m) (operands.Three a b c) small h =
    let s = word_text label a in
    let t = word_text label b in
    let u = word_text label c in
    let g = word_good label k a small h.0 in
    let i = word_good label l b small h.1 in
    let j = word_good label m c small h.2 in
    some_parts _ (good_some s (44 ∷ 32 ∷ (t ++ 44 ∷ 32 ∷ u)) g) ∙ more_parts s (t ++ 44 ∷ 32 ∷ u) _ g (more_parts t u _ i (one_part u j))
parts_back label (Four k l m n) (operands.Four a b c d) small h =
    let s = word_text label a in
    let t = word_text label b in
    let u = word_text label c in
    let v = word_text label d in
    let g = word_good label k a small h.0 in
    let i = word_good label l b small h.1 in
    let j = word_good label m c small h.2 in
    let o = word_good label n d small h.3 in
    some_parts _ (good_some s (44 ∷ 32 ∷ (t ++ 44 ∷ 32 ∷ (u ++ 44 ∷ 32 ∷ v))) g)
    ∙ more_parts s (t ++ 44 ∷ 32 ∷ (u ++ 44 ∷ 32 ∷ v)) _ g (more_parts t (u ++ 44 ∷ 32 ∷ v) _ i (more_parts u v _ j (one_part v o)))
parts_back label shape ops small h = elim h [ ]

read_back : (label : ℕ) (shape : Shape) (ops : Operands) → label < 2 ^ 32 → ArePrintable shape ops
    → operands_in shape (printed_parts label ops) ≡ Some ops
unfolding operands_in
read_back label Nothing operands.Nothing small h = none_back
read_back label (One k) (operands.One a) small h =
    one_back k a (word_text label a) (word_good label k a small h) (word_back label k a small h)
read_back label (Two k l) (operands.Two a b) small h =
    two_back k l a b (word_text label a) (word_text label b) (word_good label k a small h.0) (word_back label k a small h.0)
    (word_good label l b small h.1) (word_back label l b small h.1)
read_back label (Three k l m) (operands.Three a b c) small h =
    three_back k l m a b c (word_text label a) (word_text label b) (word_text label c)
    (word_good label k a small h.0) (word_back label k a small h.0)
    (word_good label l b small h.1) (word_back label l b small h.1)
    (word_good label m c small h.2) (word_back label m c small h.2)
read_back label (Four k l m n) (operands.Four a b c d) small h =
    four_back k l m n a b c d (word_text label a) (word_text label b) (word_text label c) (word_text label d)
    (word_good label k a small h.0) (word_back label k a small h.0)
    (word_good label l b small h.1) (word_back label l b small h.1)
    (word_good label m c small h.2) (word_back label m c small h.2)
    (word_good label n d small h.3) (word_back label n d small h.3)
read_back label shape ops small h = elim h [ ]

operands_back : (label : ℕ) (shape : Shape) (ops : Operands) → label < 2 ^ 32 → ArePrintable shape ops
    → operands_in shape (operand_parts (operands_text label ops)) ≡ Some ops
operands_back label shape ops small h = ap (operands_in shape) (parts_back label shape ops small h) ∙ read_back label shape ops small h

-- ---- the mnemonic

pub first_spaced : (label : ℕ) (ops : Operands) → first_word (operands_text label ops) ≡ []
first_spaced label operands.Nothing = first_none
first_spaced label (operands.One a) = first_space _
first_spaced label (operands.Two a b) = first_space _
first_spaced label (operands.Three a b c) = first_space _
first_spaced label (operands.Four a b c d) = first_space _

pub behind_spaced : (label : ℕ) (ops : Operands) → behind_word (operands_text label ops) ≡ operands_text label ops
behind_spaced label operands.Nothing = behind_none
behind_spaced label (operands.One a) = behind_space _
behind_spaced label (operands.Two a b) = behind_space _
behind_spaced label (operands.Three a b c) = behind_space _
behind_spaced label (operands.Four a b c d) = behind_space _

pub form_back : (label : ℕ) (m : Mnemonic) (ops : Operands) → label < 2 ^ 32 → ArePrintable (shape_of m) ops
    → form_in (form_text label (record { mnemonic = m; operands = ops })) ≡ Some (record { mnemonic = m; operands = ops })
unfolding form_in
form_back label m ops small h =
    let n = named m in
    let rest = operands_text label ops in
    rw (
      solid_kept (mnemonic_name m) n.0.0 n.0.1 rest,
      first_solid (mnemonic_name m) rest n.0.0 (first_spaced label ops),
      behind_solid (mnemonic_name m) rest n.0.0 (behind_spaced label ops),
      n.1,
      operands_back label (shape_of m) ops small h,
    )

-- ---- what instructions are written with can be printed

field_small : (f : Field) → f.reg < 2 ^ 32
field_small f = let h : f.reg < 32 = f.in_range in omega arith

value_printable : (o : Operand) → OperandFits o → Printable kind.Value (value_word o)
value_printable (operand.Field f) h = field_small f
value_printable (operand.Imm n) h = omega (arith, h)

jump_printable : (to : Jump) → Printable kind.Jump (jump_word to)
jump_printable (jump.Field f) = f.in_range
jump_printable (jump.Word n) = tt

device_small : (b : Bank) → device_number b < 2 ^ 32
device_small Bank0 = lit< tt
device_small Bank1 = lit< tt
device_small Bank2 = lit< tt

constant_small : (c : Constant) → constant_number c < 2 ^ 32
constant_small C0 = lit< tt
constant_small C4 = lit< tt
constant_small C24 = lit< tt
constant_small C25 = lit< tt
constant_small C28 = lit< tt

first_printable : (n k : ℕ) → n < 2 ^ 32 → Printable kind.First (word.Field n (byte_part k))
first_printable n k h = by (k == 0) (k == 1) (k == 2)
  where
    by : (s t u : Bool) → Printable kind.First (word.Field n (cond s All (cond t B1 (cond u B2 B3))))
    by true t u = h
    by false true u = h
    by false false true = h
    by false false false = h

transfer_printable : (t : Transfer)
    → ArePrintable (Three kind.Number kind.Register kind.Number)
    (operands.Three (word.Number (device_number t.bank)) (word.Field t.first All) (word.Number t.count))
transfer_printable t =
    let below : t.first + t.count ≤ 30 = t.below in
    let most : t.count ≤ 4 = t.at_most in
    (device_small t.bank, omega arith, omega arith)

base_small : (n : ℕ) → IsTrue (is_low_base (base.Reg n)) → n < 2 ^ 32
base_small n h = let low : n < 30 = grind (arith, nat_tests) in omega (arith, low)

load_printable : (a : Access) (b : Base) → OperandFits a.offset → IsTrue (is_low_base b)
    → ArePrintable (shape_of (base_mnemonic mnemonic.Lbbo mnemonic.Lbco b))
    (operands.Four (word.Field a.first (byte_part a.byte)) (base_word b) (value_word a.offset) (word.Number a.len))
load_printable a b fits low = by b low
  where
    below : (a.first < 2 ^ 32) × (a.len < 2 ^ 32)
    below = let h : 4 * a.first + a.byte + a.len ≤ 120 = a.below in (omega arith, omega arith)

    by : (b : Base) → IsTrue (is_low_base b) → ArePrintable (shape_of (base_mnemonic mnemonic.Lbbo mnemonic.Lbco b))
        (operands.Four (word.Field a.first (byte_part a.byte)) (base_word b) (value_word a.offset) (word.Number a.len))
    by (base.Reg n) low = (first_printable a.first a.byte below.0, base_small n low, value_printable a.offset fits, below.1)
    by (base.Constant c) low = (first_printable a.first a.byte below.0, constant_small c, value_printable a.offset fits, below.1)

store_printable : (a : Access) (b : Base) → OperandFits a.offset → IsTrue (is_low_base b)
    → ArePrintable (shape_of (base_mnemonic mnemonic.Sbbo mnemonic.Sbco b))
    (operands.Four (word.Field a.first (byte_part a.byte)) (base_word b) (value_word a.offset) (word.Number a.len))
store_printable a (base.Reg n) fits low = load_printable a (base.Reg n) fits low
store_printable a (base.Constant c) fits low = load_printable a (base.Constant c) fits low

pub written_printable : (i : Inst) → Fits i → ArePrintable (shape_of (written i).mnemonic) (written i).operands
written_printable (inst.Alu op d a b) fits = (field_small d, field_small a, value_printable b fits)
written_printable (inst.Not d a) fits = (field_small d, field_small a)
written_printable (inst.Jmp to) fits = jump_printable to
written_printable (inst.Jal d to) fits = (field_small d, jump_printable to)
written_printable (inst.Ldi d n) fits = (field_small d, omega (arith, fits))
written_printable (inst.Lmbd d a b) fits = (field_small d, field_small a, value_printable b fits)
written_printable inst.Halt fits = tt
written_printable (inst.Xin t) fits = transfer_printable t
written_printable (inst.Xout t) fits = transfer_printable t
written_printable (inst.Loop body) fits = (tt, let h : body.count ≤ 256 = body.at_most in omega arith)
written_printable (inst.Branch c o a b) fits = (tt, field_small a, value_printable b fits)
written_printable (inst.Qba o) fits = tt
written_printable (inst.Load access) fits = load_printable access access.base fits access.low_base
written_printable (inst.Store access) fits = store_printable access access.base fits access.low_base

-- ---- the label

-- the operands of a printed instruction stand behind its mnemonic
pub rest_back : (label : ℕ) (m : Mnemonic) (ops : Operands)
    → behind_word (behind_blanks (form_text label (record { mnemonic = m; operands = ops }))) ≡ operands_text label ops
rest_back label m ops =
    let n = named m in
    let rest = operands_text label ops in
    ap behind_word (solid_kept (mnemonic_name m) n.0.0 n.0.1 rest)
    ∙ behind_solid (mnemonic_name m) rest n.0.0 (behind_spaced label ops)

label_name : (label : ℕ) → label < 2 ^ 32 → trimmed (32 ∷ word_text label word.Label) ≡ codes "L" ++ decimal label
label_name label small =
    let g = word_good label kind.Label word.Label small tt in trimmed_space (word_text label word.Label) g.0 g.1

among_back : (i : Inst) (label : ℕ) → label < 2 ^ 32 → IsTrue (has_target i)
    → option_map trimmed (label_among (written i).operands (printed_parts label (written i).operands)) ≡ Some (codes "L" ++ decimal label)
among_back (inst.Jmp (jump.Word n)) label small h = ap Some (label_name label small)
among_back (inst.Jmp (jump.Field f)) label small h = absurd (cc)
among_back (inst.Jal d (jump.Word n)) label small h = ap Some (label_name label small)
among_back (inst.Jal d (jump.Field f)) label small h = absurd (cc)
among_back (inst.Loop body) label small h = ap Some (label_name label small)
among_back (inst.Branch c o a b) label small h = ap Some (label_name label small)
among_back (inst.Qba o) label small h = ap Some (label_name label small)
among_back (inst.Alu op d a b) label small h = absurd (cc)
among_back (inst.Not d a) label small h = absurd (cc)
among_back (inst.Ldi d n) label small h = absurd (cc)
among_back (inst.Lmbd d a b) label small h = absurd (cc)
among_back inst.Halt label small h = absurd (cc)
among_back (inst.Xin t) label small h = absurd (cc)
among_back (inst.Xout t) label small h = absurd (cc)
among_back (inst.Load access) label small h = absurd (cc)
among_back (inst.Store access) label small h = absurd (cc)

pub label_back : (i : Inst) (label : ℕ) → Fits i → label < 2 ^ 32 → IsTrue (has_target i)
    → label_in (written i) (form_text label (written i)) ≡ Some (codes "L" ++ decimal label)
unfolding label_in
label_back i label fits small h =
    let ops = (written i).operands in
    ap (λ text. option_map trimmed (label_among ops (operand_parts text))) (rest_back label (written i).mnemonic ops)
    ∙ ap (λ parts. option_map trimmed (label_among ops parts))
    (parts_back label (shape_of (written i).mnemonic) ops small (written_printable i fits))
    ∙ among_back i label small h

pub has_back : (i : Inst) → has_label (written i).operands ≡ has_target i
has_back (inst.Alu op d a b) = refl
has_back (inst.Not d a) = refl
has_back (inst.Jmp (jump.Field f)) = refl
has_back (inst.Jmp (jump.Word n)) = refl
has_back (inst.Jal d (jump.Field f)) = refl
has_back (inst.Jal d (jump.Word n)) = refl
has_back (inst.Ldi d n) = refl
has_back (inst.Lmbd d a b) = refl
has_back inst.Halt = refl
has_back (inst.Xin t) = refl
has_back (inst.Xout t) = refl
has_back (inst.Loop body) = refl
has_back (inst.Branch c o a b) = refl
has_back (inst.Qba o) = refl
has_back (inst.Load access) = refl
has_back (inst.Store access) = refl

pub again : (i : Inst) (label : ℕ) → Fits i → label < 2 ^ 32 → form_in (form_text label (written i)) ≡ Some (written i)
again i label fits small = form_back label (written i).mnemonic (written i).operands small (written_printable i fits)
