-- The mnemonic and the operands that a text has.
use Rattle.std.specs.Prelude.{ℕ, Bool, ◌==◌, if◌then◌else◌, List, length, drop, slice_get, Option, Some, None}
use Rattle.std.specs.Prelude.{option_and_then, find}
use Rattle.std.specs.Str.{str_eq_ignore_ascii_case}
use Rattle.asmword.specs.declared.mnemonic.TheConstants.{MNEMONICS}
use Rattle.asmword.specs.declared.form.Form.{Form}
use Rattle.asmword.specs.declared.form.Operands.{Operands}
use Rattle.asmword.specs.declared.form.Operands.TheVariants as operands
use Rattle.asmword.specs.declared.form.Word.{Word}
use Rattle.asmword.specs.declared.kinds.Kind.{Kind}
use Rattle.asmword.specs.declared.kinds.Shape.{Shape}
use Rattle.asmword.specs.declared.kinds.Shape.TheVariants.{Nothing, One, Two, Three, Four}
use Rattle.asmword.specs.declared.mnemonic.Mnemonic.{Mnemonic}
use Rattle.asmword.specs.Blanks.{behind_blanks, trimmed, first_word, behind_word, operand_parts}
use Rattle.asmword.specs.Kinds.{shape_of}
use Rattle.asmword.specs.Mnemonics.{mnemonic_name}
use Rattle.asmword.specs.Words.{word_in}

-- in any mix of case
unfoldable pub is_named : List ℕ → Mnemonic → Bool
is_named word m = str_eq_ignore_ascii_case word (mnemonic_name m)

unfoldable pub named_among : List Mnemonic → List ℕ → Option Mnemonic
named_among table word = find (is_named word) table

unfoldable pub mnemonic_in : List ℕ → Option Mnemonic
mnemonic_in word = named_among MNEMONICS word

infixl 10 ◌>>=◌
abbrev pub ◌>>=◌ : {A B : Type 0} → Option A → (A → Option B) → Option B
o >>= f = option_and_then f o

-- the next part as an operand of this kind
abbrev pub next : Kind → List (List ℕ) → Option Word
next kind parts = slice_get parts 0 >>= λ part. word_in kind (trimmed part)

-- no part is left
abbrev pub at_end : List (List ℕ) → Operands → Option Operands
at_end parts read = if length parts == 0 then Some read else None

unfoldable pub operands_in : Shape → List (List ℕ) → Option Operands
operands_in Nothing parts = at_end parts operands.Nothing
operands_in (One a) parts = next a parts >>= λ a. at_end (drop 1 parts) (operands.One a)
operands_in (Two a b) parts = do
  a ← next a parts
  b ← next b (drop 1 parts)
  at_end (drop 1 (drop 1 parts)) (operands.Two a b)
operands_in (Three a b c) parts = do
  a ← next a parts
  b ← next b (drop 1 parts)
  c ← next c (drop 1 (drop 1 parts))
  at_end (drop 1 (drop 1 (drop 1 parts))) (operands.Three a b c)
operands_in (Four a b c d) parts = do
  a ← next a parts
  b ← next b (drop 1 parts)
  c ← next c (drop 1 (drop 1 parts))
  d ← next d (drop 1 (drop 1 (drop 1 parts)))
  at_end (drop 1 (drop 1 (drop 1 (drop 1 parts)))) (operands.Four a b c d)

unfoldable pub form_in : List ℕ → Option Form
form_in text = do
  m ← mnemonic_in (first_word (behind_blanks text))
  operands ← operands_in (shape_of m) (operand_parts (behind_word (behind_blanks text)))
  Some (record { mnemonic = m; operands = operands })
