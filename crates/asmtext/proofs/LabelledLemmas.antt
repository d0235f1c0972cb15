-- A word is told to go to a label exactly where its operands have one.
use Rattle.std.proofs.Common.{◌≡◌, ℕ, List, [], ◌∷◌, map, Bool, true, false, Option, Some, None, refl, cond, length}
use Rattle.std.specs.Prelude.{option_map, option_and_then, ◌==◌, codes}
use Rattle.std.specs.List.{AllByRecursion}
use Rattle.std.specs.Str.{bytes_eq}
use Rattle.textline.specs.Lines.{lines_of}
use Rattle.asmword.specs.declared.form.Form.{Form}
use Rattle.asmword.specs.Blanks.{behind_blanks, trimmed, first_word, behind_word, parts_of}
use Rattle.asmword.specs.Labels.{has_label, label_in}
use Rattle.asmword.specs.Numbers.{number_in}
use Rattle.asmword.specs.Reading.{form_in}
use Rattle.asmword.specs.Words.{is_name}
use Rattle.asmline.specs.Lines.{kind_in, note_in, word_of, word_in, saying_in, said_in_parts, before_comment, said_in}
use Rattle.asmline.specs.Said.{Saying, nothing, note, whole, aimed, Said}
use Rattle.asmtext.specs.Labels.{lines_said}
use Rattle.asmtext.specs.Made.{IsLabelledSaying, IsLabelled}

abbrev Where : {A : Type 0} → (A → Type 0) → Option A → Type 0
Where P None = Unit {0}
Where P (Some x) = P x

mapped : {A B : Type 0} (P : B → Type 0) (f : A → B) (o : Option A) → Where (λ x. P (f x)) o → Where P (option_map f o)
mapped P f None h = tt
mapped P f (Some x) h = h

bound : {A B : Type 0} (P : B → Type 0) (f : A → Option B) (o : Option A) → ((x : A) → Where P (f x)) → Where P (option_and_then f o)
bound P f None h = tt
bound P f (Some x) h = h x

chosen : {A : Type 0} (P : A → Type 0) (t : Bool) (a b : Option A) → Where P a → Where P b → Where P (cond t a b)
chosen P true a b h k = h
chosen P false a b h k = k

every : {A : Type 0} (P : A → Type 0) (o : Option A) → ((x : A) → P x) → Where P o
every P None h = tt
every P (Some x) h = h x

note_labelled : (text : List ℕ) → Where IsLabelledSaying (note_in text)
unfolding note_in
note_labelled text =
    bound IsLabelledSaying _ (kind_in (first_word (behind_blanks text)))
    (λ kind. bound IsLabelledSaying _ (number_in (trimmed (behind_word (behind_blanks text)))) (λ value. tt))

word_labelled : (form : Form) (text : List ℕ) → Where IsLabelledSaying (word_of form text)
unfolding word_of
word_labelled form text = by (has_label form.operands) refl
  where
    by : (t : Bool) → has_label form.operands ≡ t
        → Where IsLabelledSaying (cond t (option_map (aimed form) (label_in form text)) (Some (whole form)))
    by true e = mapped IsLabelledSaying (aimed form) (label_in form text) (every (λ name. has_label form.operands ≡ true)
        (label_in form text) (λ name. e))
    by false e = e

saying_labelled : (text : List ℕ) → Where IsLabelledSaying (saying_in text)
unfolding saying_in word_in
saying_labelled text =
    chosen IsLabelledSaying (length (behind_blanks text) == 0) (Some nothing) _ tt
    (chosen IsLabelledSaying (bytes_eq (first_word (behind_blanks text)) (codes ".note")) (note_in (behind_word (behind_blanks text))) _
    (note_labelled (behind_word (behind_blanks text)))
    (bound IsLabelledSaying (λ form. word_of form text) (form_in text) (λ form. word_labelled form text)))

parts_labelled : (parts : List (List ℕ)) → IsLabelled (said_in_parts parts)
unfolding said_in_parts
parts_labelled [] = tt
parts_labelled (text ∷ []) = said_labelled None (saying_in text) (saying_labelled text)
  where
    said_labelled : (label : Option (List ℕ)) (o : Option Saying) → Where IsLabelledSaying o
        → IsLabelled (option_map (λ s. record { label = label; saying = s }) o)
    said_labelled label None h = tt
    said_labelled label (Some s) h = h
parts_labelled (name ∷ text ∷ []) = by (is_name name) (saying_in text) (saying_labelled text)
  where
    by : (t : Bool) (o : Option Saying) → Where IsLabelledSaying o
        → IsLabelled (cond t (option_map (λ s. record { label = Some name; saying = s }) o) None)
    by true None h = tt
    by true (Some s) h = h
    by false o h = tt
parts_labelled (name ∷ text ∷ more ∷ parts) = tt

pub line_labelled : (line : List ℕ) → IsLabelled (said_in line)
unfolding said_in
line_labelled line = parts_labelled (parts_of 58 (behind_blanks (before_comment line)))

pub all_labelled : (lines : List (List ℕ)) → AllByRecursion IsLabelled (map said_in lines)
all_labelled [] = tt
all_labelled (line ∷ lines) = (line_labelled line, all_labelled lines)
