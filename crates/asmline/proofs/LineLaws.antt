-- What is printed of a label, a note or an instruction is read as it.
use Rattle.std.proofs.Common.{◌≡◌, ℕ, ◌^◌, ◌<◌, Bool, true, false, cond, ◌==◌, List, [], ◌∷◌, ◌++◌, length, refl, ap, ◌∙◌, arith, codes}
use Rattle.std.proofs.Common.{Some, None, option_and_then}
use Rattle.std.specs.Prelude.{IsTrue, option_map}
use Rattle.std.specs.Fmt.{decimal}
use Rattle.std.specs.Str.{bytes_eq}
use Rattle.std.proofs.lemmas.Bool.{ne_eqb}
use Rattle.textline.specs.Lines.{Lacks}
use Rattle.textline.proofs.Printed.{decimal_digits}
use Rattle.isa.specs.declared.inst.Inst.{Inst}
use Rattle.isa.specs.declared.note.NoteKind.{NoteKind}
use Rattle.isa.specs.declared.note.NoteKind.TheVariants.{Enter, DelayIn, DelayOut, Leave, Own, Return, Turns}
use Rattle.isa.specs.Program.{has_target}
use Rattle.isa.specs.Row.{Fits}
use Rattle.asmword.specs.declared.form.Form.{Form}
use Rattle.asmword.specs.declared.form.Word.TheVariants as word
use Rattle.asmword.specs.declared.kinds.Kind.TheVariants as kinds
use Rattle.asmword.specs.Blanks.{is_blank, behind_blanks, trimmed, first_word, behind_word, parts_of}
use Rattle.asmword.specs.Forms.{written}
use Rattle.asmword.specs.Kinds.{shape_of}
use Rattle.asmword.specs.Labels.{has_label, label_in}
use Rattle.asmword.specs.Mnemonics.{mnemonic_name}
use Rattle.asmword.specs.Numbers.{number_in}
use Rattle.asmword.specs.Reading.{form_in}
use Rattle.asmword.specs.Texts.{form_text, operands_text}
use Rattle.asmword.specs.Words.{is_name}
use Rattle.asmword.proofs.BlankLaws.{blank_stop}
use Rattle.asmword.proofs.FormLaws.{again, label_back, has_back, written_printable, first_spaced}
use Rattle.asmword.proofs.MnemonicLaws.{named}
use Rattle.asmword.proofs.PartLaws.{parts_cut, parts_whole}
use Rattle.asmword.proofs.SolidLaws.{solid, solid_kept, space_gone, trimmed_space, digits_solid}
use Rattle.asmword.proofs.SolidLaws.{first_solid, behind_solid, first_space, behind_space}
use Rattle.asmword.proofs.WordLaws.{number_back, label_named}
use Rattle.asmline.specs.Lines.{kind_name, kind_in, note_in, word_of, word_in, saying_in, said_in_parts, first_part, before_comment, said_in}
use Rattle.asmline.specs.Printing.{label_name}
use Rattle.asmline.specs.Said.{Saying, nothing, note, whole, aimed, Said}
use Rattle.asmline.proofs.ClearLaws.{clear, clear_lacks, clear_append, decimal_clear, form_clear, word_named}

comment_gone : (line : List ℕ) → Lacks 59 line → before_comment line ≡ line
unfolding before_comment
comment_gone line l = ap first_part (parts_whole 59 line l)

abbrev alone : Saying → Said
alone s = record { label = None; saying = s }

-- a line without colons and semicolons is what stands behind its label
said_alone : (line : List ℕ) (s : Saying) → clear line ≡ true → behind_blanks line ≡ line → saying_in line ≡ Some s
    → said_in line ≡ Some (alone s)
unfolding said_in said_in_parts
said_alone line s c b e =
    let lacks = clear_lacks line c in
    ap (λ text. said_in_parts (parts_of 58 (behind_blanks text))) (comment_gone line lacks.1)
    ∙ ap (λ text. said_in_parts (parts_of 58 text)) b
    ∙ ap said_in_parts (parts_whole 58 line lacks.0)
    ∙ ap (option_map alone) e

-- ---- labels

lacks_end : (byte : ℕ) (text : List ℕ) (b : ℕ) → Lacks byte text → (b ≡ byte → ⊥) → Lacks byte (text ++ b ∷ [])
lacks_end byte [] b l n = (n, tt)
lacks_end byte (c ∷ text) b l n = (l.0, lacks_end byte text b l.1 n)

begins_l : (rest : List ℕ) → behind_blanks (76 ∷ rest) ≡ 76 ∷ rest
unfolding is_blank
begins_l rest = blank_stop 76 rest refl

none_said : saying_in [] ≡ Some nothing
unfolding saying_in behind_blanks
none_said = refl

labelled : (name : List ℕ) → is_name name ≡ true
    → said_in_parts (name ∷ [] ∷ []) ≡ Some (record { label = Some name; saying = nothing })
unfolding said_in_parts
labelled name e =
    ap (λ t. cond t (option_map (λ s. record { label = Some name; saying = s }) (saying_in [])) None) e
    ∙ ap (option_map (λ s. record { label = Some name; saying = s })) none_said

pub label_line : (n : ℕ) → n < 2 ^ 32 → said_in (label_name n ++ codes ":") ≡ Some (record { label = Some (label_name n); saying = nothing })
unfolding said_in
label_line n h =
    let name = label_name n in
    let lacks = clear_lacks name (decimal_clear n h) in
    ap (λ text. said_in_parts (parts_of 58 (behind_blanks text))) (comment_gone (name ++ 58 ∷ []) (lacks_end 59 name 58 lacks.1 (λ e. omega (arith, e))))
    ∙ ap (λ text. said_in_parts (parts_of 58 text)) (begins_l (decimal n ++ 58 ∷ []))
    ∙ ap said_in_parts (parts_cut 58 name [] lacks.0)
    ∙ labelled name (label_named n h)

-- ---- notes

abbrev KindTold : NoteKind → Type 0
KindTold k =
    ((solid (kind_name k) ≡ true) × (0 < length (kind_name k))) × (clear (kind_name k) ≡ true) × (kind_in (kind_name k) ≡ Some k)

kind_told : (k : NoteKind) → KindTold k
unfolding kind_in
kind_told Enter = ((refl, omega arith), refl, refl)
kind_told DelayIn = ((refl, omega arith), refl, refl)
kind_told DelayOut = ((refl, omega arith), refl, refl)
kind_told Leave = ((refl, omega arith), refl, refl)
kind_told Own = ((refl, omega arith), refl, refl)
kind_told Return = ((refl, omega arith), refl, refl)
kind_told Turns = ((refl, omega arith), refl, refl)

note_told : (k : NoteKind) (v : ℕ) → v < 2 ^ 32 → note_in (32 ∷ (kind_name k ++ 32 ∷ decimal v)) ≡ Some (note k v)
unfolding note_in
note_told k v h =
    let told = kind_told k in
    let digits = decimal_digits v (omega arith) in
    let rest = 32 ∷ decimal v in
    rw (
      space_gone (kind_name k ++ rest),
      solid_kept (kind_name k) told.0.0 told.0.1 rest,
      first_solid (kind_name k) rest told.0.0 (first_space (decimal v)),
      behind_solid (kind_name k) rest told.0.0 (behind_space (decimal v)),
      told.2,
      trimmed_space (decimal v) (digits_solid (decimal v) digits.0) digits.1,
      number_back v h,
    )

some_first : (b : ℕ) (text : List ℕ) → (length (b ∷ text) == 0) ≡ false
some_first b text = ne_eqb (length (b ∷ text)) 0 (λ e. omega arith)

begins_dot : (rest : List ℕ) → behind_blanks (46 ∷ rest) ≡ 46 ∷ rest
unfolding is_blank
begins_dot rest = blank_stop 46 rest refl

note_said : (rest : List ℕ) (s : Saying) → note_in (32 ∷ rest) ≡ Some s → saying_in (codes ".note" ++ 32 ∷ rest) ≡ Some s
unfolding saying_in
note_said rest s e =
    rw (
      begins_dot (110 ∷ 111 ∷ 116 ∷ 101 ∷ 32 ∷ rest),
      some_first 46 (110 ∷ 111 ∷ 116 ∷ 101 ∷ 32 ∷ rest),
      first_solid (codes ".note") (32 ∷ rest) refl (first_space rest),
      behind_solid (codes ".note") (32 ∷ rest) refl (behind_space rest),
      e,
    )

pub note_line : (k : NoteKind) (v : ℕ) → v < 2 ^ 32
    → said_in (codes ".note " ++ (kind_name k ++ (codes " " ++ decimal v))) ≡ Some (record { label = None; saying = note k v })
note_line k v h =
    let told = kind_told k in
    let rest = kind_name k ++ 32 ∷ decimal v in
    said_alone (codes ".note" ++ 32 ∷ rest) (note k v) (clear_append (kind_name k) (32 ∷ decimal v) told.1 (decimal_clear v h))
    (begins_dot (110 ∷ 111 ∷ 116 ∷ 101 ∷ 32 ∷ rest)) (note_said rest (note k v) (note_told k v h))

-- ---- instructions

some_more : (front behind : List ℕ) → 0 < length front → (length (front ++ behind) == 0) ≡ false
some_more [] behind h = absurd (omega arith)
some_more (b ∷ front) behind h = some_first b (front ++ behind)

word_said : (i : Inst) (label : ℕ) (s : Saying) → Fits i → label < 2 ^ 32
    → word_of (written i) (form_text label (written i)) ≡ Some s → saying_in (form_text label (written i)) ≡ Some s
unfolding saying_in word_in
word_said i label s fits small e =
    let m = (written i).mnemonic in
    let n = named m in
    let rest = operands_text label (written i).operands in
    rw (
      solid_kept (mnemonic_name m) n.0.0 n.0.1 rest,
      some_more (mnemonic_name m) rest n.0.1,
      first_solid (mnemonic_name m) rest n.0.0 (first_spaced label (written i).operands),
      (word_named m).1,
      again i label fits small,
      e,
    )

word_line : (i : Inst) (label : ℕ) (s : Saying) → Fits i → label < 2 ^ 32
    → word_of (written i) (form_text label (written i)) ≡ Some s → said_in (form_text label (written i)) ≡ Some (alone s)
word_line i label s fits small e =
    let m = (written i).mnemonic in
    let n = named m in
    said_alone (form_text label (written i)) s
    (form_clear label m (shape_of m) (written i).operands small (written_printable i fits))
    (solid_kept (mnemonic_name m) n.0.0 n.0.1 (operands_text label (written i).operands)) (word_said i label s fits small e)

whole_told : (i : Inst) (text : List ℕ) → has_target i ≡ false → word_of (written i) text ≡ Some (whole (written i))
unfolding word_of
whole_told i text h =
    ap (λ t. cond t (option_map (aimed (written i)) (label_in (written i) text)) (Some (whole (written i)))) (has_back i ∙ h)

aimed_told : (i : Inst) (label : ℕ) → Fits i → label < 2 ^ 32 → IsTrue (has_target i)
    → word_of (written i) (form_text label (written i)) ≡ Some (aimed (written i) (label_name label))
unfolding word_of
aimed_told i label fits small h =
    let text = form_text label (written i) in
    ap (λ t. cond t (option_map (aimed (written i)) (label_in (written i) text)) (Some (whole (written i)))) (has_back i ∙ h)
    ∙ ap (option_map (aimed (written i))) (label_back i label fits small h)

pub whole_line : (i : Inst) (label : ℕ) → Fits i → label < 2 ^ 32 → has_target i ≡ false
    → said_in (form_text label (written i)) ≡ Some (record { label = None; saying = whole (written i) })
whole_line i label fits small h = word_line i label (whole (written i)) fits small (whole_told i (form_text label (written i)) h)

pub aimed_line : (i : Inst) (label : ℕ) → Fits i → label < 2 ^ 32 → IsTrue (has_target i)
    → said_in (form_text label (written i)) ≡ Some (record { label = None; saying = aimed (written i) (label_name label) })
aimed_line i label fits small h =
    word_line i label (aimed (written i) (label_name label)) fits small (aimed_told i label fits small h)
