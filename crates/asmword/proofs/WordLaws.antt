-- An operand's printed text is read as that operand.
use Rattle.std.proofs.Common.{◌≡◌, ℕ, ◌^◌, ◌<◌, Bool, true, false, cond, not, ◌&&◌, ◌==◌, nat_lt, List, [], ◌∷◌, ◌++◌}
use Rattle.std.proofs.Common.{length, refl, ap, ◌∙◌, arith, Some, None, option_and_then, codes}
use Rattle.std.specs.Option.{option_map}
use Rattle.std.specs.List.{list_all, slice_index}
use Rattle.std.specs.Char.{is_ascii_digit, to_ascii_uppercase}
use Rattle.std.specs.Fmt.{decimal}
use Rattle.std.proofs.lemmas.Bool.{and_parts, and_from, lt-ltb}
use Rattle.std.proofs.lemmas.Bool.Decides.{nat_tests}
use Rattle.textline.specs.Numbers.{decimal_in}
use Rattle.textline.specs.Lines.{Lacks}
use Rattle.textline.proofs.DecimalLaws.{decimal_reads}
use Rattle.textline.proofs.Printed.{decimal_digits, decimal_lacks, is_decimal_told}
use Rattle.isa.specs.declared.field.Part.{Part}
use Rattle.isa.specs.declared.field.Part.TheVariants.{B0, B1, B2, B3, W0, W1, W2, All}
use Rattle.asmword.specs.declared.form.Word.{Word}
use Rattle.asmword.specs.declared.form.Word.TheVariants as word
use Rattle.asmword.specs.declared.kinds.Kind.{Kind}
use Rattle.asmword.specs.declared.kinds.Kind.TheVariants.{Field, Value, Number, Register, First, Constant, Label, Jump}
use Rattle.asmword.specs.Blanks.{parts_of}
use Rattle.asmword.specs.Numbers.{whole, hex_in, number_in, numbered}
use Rattle.asmword.specs.Texts.{field_text, word_text}
use Rattle.asmword.specs.Printing.{Printable}
use Rattle.asmword.specs.Words.{is_name_byte, is_name, is_below, part_in, field_from, field_in, first_of, behind_ampersand, else_}
use Rattle.asmword.specs.Words.{number_word}
use Rattle.asmword.specs.Words.{word_in}
use Rattle.asmword.proofs.PartLaws.{parts_cut, parts_whole}
use Rattle.asmword.proofs.SolidLaws.{solid, solid_append, digits_solid}

whole_is : (n : ℕ) → n < 2 ^ 32 → whole n ≡ n
whole_is n h = omega arith

decimal_whole : (n : ℕ) → n < 2 ^ 32 → option_map whole (decimal_in (decimal n)) ≡ Some n
decimal_whole n h = ap (option_map whole) (decimal_reads n (omega arith)) ∙ ap Some (whole_is n h)

register_back : (n : ℕ) → n < 2 ^ 32 → numbered 82 (82 ∷ decimal n) ≡ Some n
unfolding numbered
register_back n h = decimal_whole n h

constant_back : (n : ℕ) → n < 2 ^ 32 → numbered 67 (67 ∷ decimal n) ≡ Some n
unfolding numbered
constant_back n h = decimal_whole n h

no_prefix : (x y z : Bool) → not (x && y) ≡ true → (x && y && z) ≡ false
no_prefix true true z h = absurd (cc)
no_prefix true false z h = refl
no_prefix false y z h = refl

pub number_back : (n : ℕ) → n < 2 ^ 32 → number_in (decimal n) ≡ Some n
unfolding number_in
number_back n h =
    let told = is_decimal_told (decimal n) n (decimal_reads n (omega arith)) in
    let plain = (and_parts _ _ told).1 in
    ap (λ t. cond t (hex_in (Rattle.std.specs.Prelude.drop 2 (decimal n))) (option_map whole (decimal_in (decimal n))))
    (no_prefix (nat_lt 1 (length (decimal n))) (slice_index (decimal n) 0 == 48) (slice_index (decimal n) 1 == 120) plain)
    ∙ decimal_whole n h

-- ---- fields

register_lacks : (n : ℕ) → n < 2 ^ 32 → Lacks 46 (82 ∷ decimal n)
register_lacks n h = (λ e. omega (arith, e), decimal_lacks 46 n (omega arith) (omega arith))

whole_back : (n : ℕ) → n < 2 ^ 32 → field_in (82 ∷ decimal n) ≡ Some (word.Field n All)
unfolding field_in
whole_back n h =
    ap field_from (parts_whole 46 (82 ∷ decimal n) (register_lacks n h)) ∙ ap (option_map (λ n. word.Field n All)) (register_back n h)

part_back : (n : ℕ) (name : List ℕ) (part : Part) → n < 2 ^ 32 → parts_of 46 name ≡ name ∷ [] → part_in name ≡ Some part
    → field_in (82 ∷ (decimal n ++ 46 ∷ name)) ≡ Some (word.Field n part)
unfolding field_in
part_back n name part h one is =
    ap field_from (parts_cut 46 (82 ∷ decimal n) name (register_lacks n h) ∙ ap (λ ps. (82 ∷ decimal n) ∷ ps) one)
    ∙ ap (option_and_then (λ n. option_map (λ part. word.Field n part) (part_in name))) (register_back n h)
    ∙ ap (option_map (λ part. word.Field n part)) is

field_back : (n : ℕ) (part : Part) → n < 2 ^ 32 → field_in (field_text n part) ≡ Some (word.Field n part)
unfolding part_in
field_back n All h = whole_back n h
field_back n B0 h = part_back n (codes "b0") B0 h refl refl
field_back n B1 h = part_back n (codes "b1") B1 h refl refl
field_back n B2 h = part_back n (codes "b2") B2 h refl refl
field_back n B3 h = part_back n (codes "b3") B3 h refl refl
field_back n W0 h = part_back n (codes "w0") W0 h refl refl
field_back n W1 h = part_back n (codes "w1") W1 h refl refl
field_back n W2 h = part_back n (codes "w2") W2 h refl refl

digits_no_register : (text : List ℕ) → list_all is_ascii_digit text ≡ true → numbered 82 text ≡ None
unfolding numbered
digits_no_register [] h = refl
digits_no_register (b ∷ text) h =
    ap (λ t. cond t (option_map whole (decimal_in text)) None) (one b (and_parts (is_ascii_digit b) (list_all is_ascii_digit text) h).0)
  where
    one : (b : ℕ) → is_ascii_digit b ≡ true → (to_ascii_uppercase b == 82) ≡ false
    one b h = grind (arith, nat_tests)

digits_no_field : (n : ℕ) → n < 2 ^ 32 → field_in (decimal n) ≡ None
unfolding field_in
digits_no_field n h =
    ap field_from (parts_whole 46 (decimal n) (decimal_lacks 46 n (omega arith) (omega arith)))
    ∙ ap (option_map (λ n. word.Field n All)) (digits_no_register (decimal n) (decimal_digits n (omega arith)).0)

-- ---- names

digits_names : (text : List ℕ) → list_all is_ascii_digit text ≡ true → list_all is_name_byte text ≡ true
digits_names [] h = refl
digits_names (c ∷ text) h =
    let parts = and_parts (is_ascii_digit c) (list_all is_ascii_digit text) h in
    and_from _ _ (one c parts.0) (digits_names text parts.1)
  where
    one : (c : ℕ) → is_ascii_digit c ≡ true → is_name_byte c ≡ true
    one c h = grind (arith, nat_tests)

pub label_named : (n : ℕ) → n < 2 ^ 32 → is_name (76 ∷ decimal n) ≡ true
unfolding is_name numbered
label_named n h =
    and_from _ _ (and_from _ _ (and_from (is_name_byte 76) _ refl (digits_names (decimal n) (decimal_digits n (omega arith)).0)) refl) refl

dotted : (front behind : List ℕ) → list_all is_name_byte (front ++ 46 ∷ behind) ≡ false
dotted [] behind = refl
dotted (c ∷ front) behind = ap (λ t. is_name_byte c && t) (dotted front behind) ∙ none (is_name_byte c)
  where
    none : (t : Bool) → (t && false) ≡ false
    none true = refl
    none false = refl

dotted_unnamed : (n : ℕ) (name : List ℕ) → is_name (82 ∷ (decimal n ++ 46 ∷ name)) ≡ false
unfolding is_name
dotted_unnamed n name =
    ap (λ t. t && true && not (is_below 32 (numbered 82 (82 ∷ (decimal n ++ 46 ∷ name))))) (dotted (82 ∷ decimal n) name)

register_unnamed : (n : ℕ) → n < 32 → is_name (82 ∷ decimal n) ≡ false
unfolding is_name
register_unnamed n h =
    ap (λ o. list_all is_name_byte (82 ∷ decimal n) && true && not (is_below 32 o)) (register_back n (omega arith))
    ∙ ap (λ t. list_all is_name_byte (82 ∷ decimal n) && true && not t) (lt-ltb n 32 h) ∙ none (list_all is_name_byte (82 ∷ decimal n) &&
    true)
  where
    none : (t : Bool) → (t && false) ≡ false
    none true = refl
    none false = refl

field_unnamed : (n : ℕ) (part : Part) → n < 32 → is_name (field_text n part) ≡ false
field_unnamed n All h = register_unnamed n h
field_unnamed n B0 h = dotted_unnamed n (codes "b0")
field_unnamed n B1 h = dotted_unnamed n (codes "b1")
field_unnamed n B2 h = dotted_unnamed n (codes "b2")
field_unnamed n B3 h = dotted_unnamed n (codes "b3")
field_unnamed n W0 h = dotted_unnamed n (codes "w0")
field_unnamed n W1 h = dotted_unnamed n (codes "w1")
field_unnamed n W2 h = dotted_unnamed n (codes "w2")

-- ---- operands

jump_back : (n : ℕ) (part : Part) → n < 32
    → cond (is_name (field_text n part)) (Some word.Label) (field_in (field_text n part)) ≡ Some (word.Field n part)
jump_back n part h =
    ap (λ t. cond t (Some word.Label) (field_in (field_text n part))) (field_unnamed n part h) ∙ field_back n part (omega arith)

first_back : (n : ℕ) (part : Part) → n < 2 ^ 32 → first_of (word.Field n part) ≡ Some (word.Field n part)
    → option_and_then first_of (field_in (field_text n part)) ≡ Some (word.Field n part)
first_back n part h e = ap (option_and_then first_of) (field_back n part h) ∙ e

pub word_back : (label : ℕ) (kind : Kind) (w : Word) → label < 2 ^ 32 → Printable kind w → word_in kind (word_text label w) ≡ Some w
unfolding word_in first_of behind_ampersand
word_back label Field (word.Field n part) l h = field_back n part h
word_back label Value (word.Field n part) l h = ap (λ o. else_ o (number_word (field_text n part))) (field_back n part h)
word_back label Value (word.Number n) l h =
    ap (λ o. else_ o (number_word (decimal n))) (digits_no_field n h) ∙ ap (option_map (λ n. word.Number n)) (number_back n h)
word_back label Number (word.Number n) l h = ap (option_map (λ n. word.Number n)) (number_back n h)
word_back label Register (word.Field n All) l h = ap (option_map (λ n. word.Field n All)) (register_back n h)
word_back label First (word.Field n All) l h = first_back n All h refl
word_back label First (word.Field n B1) l h = first_back n B1 h refl
word_back label First (word.Field n B2) l h = first_back n B2 h refl
word_back label First (word.Field n B3) l h = first_back n B3 h refl
word_back label Constant (word.Constant n) l h = ap (option_map (λ n. word.Constant n)) (constant_back n h)
word_back label Label word.Label l h = ap (λ t. cond t (Some word.Label) None) (label_named label l)
word_back label Jump word.Label l h = ap (λ t. cond t (Some word.Label) (field_in (76 ∷ decimal label))) (label_named label l)
word_back label Jump (word.Field n part) l h = jump_back n part h
word_back label kind w l h = elim h [ ]

-- ---- an operand's text has some bytes, and no blank or comma

decimal_solid : (n : ℕ) → n < 2 ^ 32 → solid (decimal n) ≡ true
decimal_solid n h = digits_solid (decimal n) (decimal_digits n (omega arith)).0

part_solid : (n : ℕ) (name : List ℕ) → n < 2 ^ 32 → solid name ≡ true → solid (decimal n ++ 46 ∷ name) ≡ true
part_solid n name h s = solid_append (decimal n) (46 ∷ name) (decimal_solid n h) s

field_solid : (n : ℕ) (part : Part) → n < 2 ^ 32 → solid (field_text n part) ≡ true
field_solid n All h = decimal_solid n h
field_solid n B0 h = part_solid n (codes "b0") h refl
field_solid n B1 h = part_solid n (codes "b1") h refl
field_solid n B2 h = part_solid n (codes "b2") h refl
field_solid n B3 h = part_solid n (codes "b3") h refl
field_solid n W0 h = part_solid n (codes "w0") h refl
field_solid n W1 h = part_solid n (codes "w1") h refl
field_solid n W2 h = part_solid n (codes "w2") h refl

field_some : (n : ℕ) (part : Part) → 0 < length (field_text n part)
field_some n All = omega arith
field_some n B0 = omega arith
field_some n B1 = omega arith
field_some n B2 = omega arith
field_some n B3 = omega arith
field_some n W0 = omega arith
field_some n W1 = omega arith
field_some n W2 = omega arith

abbrev pub Good : List ℕ → Type 0
Good text = (solid text ≡ true) × (0 < length text)

field_good : (n : ℕ) (part : Part) → n < 2 ^ 32 → Good (field_text n part)
field_good n part h = (field_solid n part h, field_some n part)

number_good : (n : ℕ) → n < 2 ^ 32 → Good (decimal n)
number_good n h = (decimal_solid n h, (decimal_digits n (omega arith)).1)

constant_good : (n : ℕ) → n < 2 ^ 32 → Good (67 ∷ decimal n)
constant_good n h = (decimal_solid n h, omega arith)

label_good : (n : ℕ) → n < 2 ^ 32 → Good (76 ∷ decimal n)
label_good n h = (decimal_solid n h, omega arith)

pub word_good : (label : ℕ) (kind : Kind) (w : Word) → label < 2 ^ 32 → Printable kind w → Good (word_text label w)
word_good label Field (word.Field n part) l h = field_good n part h
word_good label Value (word.Field n part) l h = field_good n part h
word_good label Value (word.Number n) l h = number_good n h
word_good label Number (word.Number n) l h = number_good n h
word_good label Register (word.Field n All) l h = field_good n All h
word_good label First (word.Field n All) l h = field_good n All h
word_good label First (word.Field n B1) l h = field_good n B1 h
word_good label First (word.Field n B2) l h = field_good n B2 h
word_good label First (word.Field n B3) l h = field_good n B3 h
word_good label Constant (word.Constant n) l h = constant_good n h
word_good label Label word.Label l h = label_good label l
word_good label Jump word.Label l h = label_good label l
word_good label Jump (word.Field n part) l h = field_good n part (omega arith)
word_good label kind w l h = elim h [ ]
