-- What a line says: a label before a colon, where one stands, and a note or an instruction, where one stands, up to a comment.
use Rattle.std.specs.Prelude.{ℕ, ◌==◌, if◌then◌else◌, List, [], ◌∷◌, length, codes, Option, Some, None, option_and_then, option_map, find}
use Rattle.std.specs.Str.{bytes_eq}
use Rattle.isa.specs.declared.note.NoteKind.{NoteKind}
use Rattle.isa.specs.declared.note.NoteKind.TheVariants.{Enter, DelayIn, DelayOut, Leave, Own, Return, Turns}
use Rattle.asmword.specs.declared.form.Form.{Form}
use Rattle.asmword.specs.Blanks.{behind_blanks, trimmed, first_word, behind_word, parts_of}
use Rattle.asmword.specs.Labels.{has_label, label_in}
use Rattle.asmword.specs.Numbers.{number_in}
use Rattle.asmword.specs.Reading.{form_in}
use Rattle.asmword.specs.Words.{is_name}
use Rattle.asmline.specs.Said.{Saying, nothing, note, whole, aimed, Said}

infixl 10 ◌>>=◌
abbrev pub ◌>>=◌ : {A B : Type 0} → Option A → (A → Option B) → Option B
o >>= f = option_and_then f o

-- ---- notes

abbrev pub kind_name : NoteKind → List ℕ
kind_name Enter = codes "enter"
kind_name DelayIn = codes "delayin"
kind_name DelayOut = codes "delayout"
kind_name Leave = codes "leave"
kind_name Own = codes "own"
kind_name Return = codes "return"
kind_name Turns = codes "turns"

unfoldable pub kind_in : List ℕ → Option NoteKind
kind_in word = find (λ k. bytes_eq word (kind_name k)) (Enter ∷ DelayIn ∷ DelayOut ∷ Leave ∷ Own ∷ Return ∷ Turns ∷ [])

-- a kind and a number
unfoldable pub note_in : List ℕ → Option Saying
note_in text = do
  kind ← kind_in (first_word (behind_blanks text))
  value ← number_in (trimmed (behind_word (behind_blanks text)))
  Some (note kind value)

-- ---- instructions

unfoldable pub word_of : Form → List ℕ → Option Saying
word_of form text = if has_label form.operands then option_map (aimed form) (label_in form text) else Some (whole form)

unfoldable pub word_in : List ℕ → Option Saying
word_in text = form_in text >>= λ form. word_of form text

-- ---- lines

unfoldable pub saying_in : List ℕ → Option Saying
saying_in text =
    if length (behind_blanks text) == 0 then Some nothing
    else (if bytes_eq (first_word (behind_blanks text)) (codes ".note") then note_in (behind_word (behind_blanks text)) else word_in text)

-- a line without its comment, in parts between colons: no label and no two
unfoldable pub said_in_parts : List (List ℕ) → Option Said
said_in_parts (text ∷ []) = option_map (λ s. record { label = None; saying = s }) (saying_in text)
said_in_parts (name ∷ text ∷ []) =
    if is_name name then option_map (λ s. record { label = Some name; saying = s }) (saying_in text) else None
said_in_parts _ = None

-- what stands before the first semicolon
abbrev pub first_part : List (List ℕ) → List ℕ
first_part [] = []
first_part (part ∷ parts) = part

unfoldable pub before_comment : List ℕ → List ℕ
before_comment line = first_part (parts_of 59 line)

unfoldable pub said_in : List ℕ → Option Said
said_in line = said_in_parts (parts_of 58 (behind_blanks (before_comment line)))
