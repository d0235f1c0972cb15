-- What holds of every kind of token, by computing.
use Rattle.std.specs.Prelude.{◌≡◌, ℕ, zero, suc, ◌+◌, Bool, true, ◌&&◌, List, [], ◌∷◌, Option, Some, None}
use Rattle.std.proofs.Common.{refl}
use Rattle.std.proofs.lemmas.Bool.{and_parts}
use Rattle.csyn.specs.declared.keyword.Keyword.TheVariants as keyword
use Rattle.csyn.specs.declared.punctuator.Punctuator.TheVariants as punctuator
use Rattle.cgrammar.specs.declared.kind.Kind.{Kind}
use Rattle.cgrammar.specs.declared.kind.Kind.TheVariants as kind
use Rattle.cgrammar.specs.Terminal.{keyword_number, punctuator_number}

-- the entry at this place
unfoldable pub entry : {A : Type 0} → ℕ → List A → Option A
entry n [] = None
entry zero (x ∷ xs) = Some x
entry (suc n) (x ∷ xs) = entry n xs

-- the test is true of each entry
unfoldable pub each : {A : Type 0} → (A → Bool) → List A → Bool
each test [] = true
each test (x ∷ xs) = test x && each test xs

-- what holds of each entry holds of the one at a place
pub each-at : {A : Type 0} (test : A → Bool) (n : ℕ) (xs : List A) {x : A} → each test xs ≡ true → entry n xs ≡ Some x → test x ≡ true
unfolding entry each
each-at test n [] h e = cc
each-at test zero (x ∷ xs) h e = let a = (and_parts (test x) (each test xs) h).0 in cc
each-at test (suc n) (x ∷ xs) h e = each-at test n xs (and_parts (test x) (each test xs) h).1 e

-- all kinds
unfoldable pub kinds : List Kind
kinds =
    kind.Name ∷ kind.RegisterName ∷ kind.LocationName ∷ kind.Number ∷ kind.Character ∷ kind.Literal ∷ kind.Standard ∷ kind.Uint32
    ∷ kind.Keyword keyword.Attribute ∷ kind.Keyword keyword.Auto ∷ kind.Keyword keyword.Boolean ∷ kind.Keyword keyword.Break
    ∷ kind.Keyword keyword.Case ∷ kind.Keyword keyword.Char ∷ kind.Keyword keyword.Complex ∷ kind.Keyword keyword.Const
    ∷ kind.Keyword keyword.Continue ∷ kind.Keyword keyword.Default ∷ kind.Keyword keyword.Do ∷ kind.Keyword keyword.Double
    ∷ kind.Keyword keyword.Else ∷ kind.Keyword keyword.Enum ∷ kind.Keyword keyword.Extern ∷ kind.Keyword keyword.Float
    ∷ kind.Keyword keyword.For ∷ kind.Keyword keyword.Goto ∷ kind.Keyword keyword.If ∷ kind.Keyword keyword.Imaginary
    ∷ kind.Keyword keyword.Inline ∷ kind.Keyword keyword.Int ∷ kind.Keyword keyword.Long ∷ kind.Keyword keyword.Region
    ∷ kind.Keyword keyword.Register ∷ kind.Keyword keyword.Restrict ∷ kind.Keyword keyword.Return ∷ kind.Keyword keyword.Short
    ∷ kind.Keyword keyword.Signed ∷ kind.Keyword keyword.Sizeof ∷ kind.Keyword keyword.Static ∷ kind.Keyword keyword.Struct
    ∷ kind.Keyword keyword.Switch ∷ kind.Keyword keyword.Typedef ∷ kind.Keyword keyword.Union ∷ kind.Keyword keyword.Unsigned
    ∷ kind.Keyword keyword.Void ∷ kind.Keyword keyword.Volatile ∷ kind.Keyword keyword.While ∷ kind.Punctuator punctuator.ShiftLeftAssign
    ∷ kind.Punctuator punctuator.ShiftRightAssign ∷ kind.Punctuator punctuator.Arrow ∷ kind.Punctuator punctuator.Increment
    ∷ kind.Punctuator punctuator.Decrement ∷ kind.Punctuator punctuator.ShiftLeft ∷ kind.Punctuator punctuator.ShiftRight
    ∷ kind.Punctuator punctuator.LessEqual ∷ kind.Punctuator punctuator.GreaterEqual ∷ kind.Punctuator punctuator.Equal
    ∷ kind.Punctuator punctuator.NotEqual ∷ kind.Punctuator punctuator.LogicalAnd ∷ kind.Punctuator punctuator.LogicalOr
    ∷ kind.Punctuator punctuator.MultiplyAssign ∷ kind.Punctuator punctuator.DivideAssign ∷ kind.Punctuator punctuator.RemainderAssign
    ∷ kind.Punctuator punctuator.AddAssign ∷ kind.Punctuator punctuator.SubtractAssign ∷ kind.Punctuator punctuator.AndAssign
    ∷ kind.Punctuator punctuator.XorAssign ∷ kind.Punctuator punctuator.OrAssign ∷ kind.Punctuator punctuator.LeftBracket
    ∷ kind.Punctuator punctuator.RightBracket ∷ kind.Punctuator punctuator.LeftParenthesis ∷ kind.Punctuator punctuator.RightParenthesis
    ∷ kind.Punctuator punctuator.LeftBrace ∷ kind.Punctuator punctuator.RightBrace ∷ kind.Punctuator punctuator.Dot
    ∷ kind.Punctuator punctuator.Ampersand ∷ kind.Punctuator punctuator.Star ∷ kind.Punctuator punctuator.Plus
    ∷ kind.Punctuator punctuator.Minus ∷ kind.Punctuator punctuator.Tilde ∷ kind.Punctuator punctuator.Exclamation
    ∷ kind.Punctuator punctuator.Slash ∷ kind.Punctuator punctuator.Percent ∷ kind.Punctuator punctuator.Less
    ∷ kind.Punctuator punctuator.Greater ∷ kind.Punctuator punctuator.Caret ∷ kind.Punctuator punctuator.Bar
    ∷ kind.Punctuator punctuator.Question ∷ kind.Punctuator punctuator.Colon ∷ kind.Punctuator punctuator.Semicolon
    ∷ kind.Punctuator punctuator.Assign ∷ kind.Punctuator punctuator.Comma ∷ kind.Punctuator punctuator.Hash ∷ kind.End ∷ []

-- where a kind stands among them
unfoldable pub kind_number : Kind → ℕ
kind_number kind.Name = 0
kind_number kind.RegisterName = 1
kind_number kind.LocationName = 2
kind_number kind.Number = 3
kind_number kind.Character = 4
kind_number kind.Literal = 5
kind_number kind.Standard = 6
kind_number kind.Uint32 = 7
kind_number (kind.Keyword k) = 8 + keyword_number k
kind_number (kind.Punctuator p) = 47 + punctuator_number p
kind_number kind.End = 93

-- each stands at its number
pub kind-entry : (k : Kind) → entry (kind_number k) kinds ≡ Some k
unfolding entry kinds kind_number keyword_number punctuator_number
kind-entry kind.Name = refl
kind-entry (kind.Keyword keyword.Attribute) = refl
kind-entry (kind.Keyword _) = refl
kind-entry (kind.Punctuator punctuator.ShiftLeftAssign) = refl
kind-entry (kind.Punctuator _) = refl
kind-entry _ = refl

-- a test of all kinds
unfoldable pub every_kind : (Kind → Bool) → Bool
every_kind test = each test kinds

-- what is computed of all kinds holds of each
pub at-kind : (test : Kind → Bool) → every_kind test ≡ true → (k : Kind) → test k ≡ true
unfolding every_kind
at-kind test h k = each-at test (kind_number k) kinds h (kind-entry k)
