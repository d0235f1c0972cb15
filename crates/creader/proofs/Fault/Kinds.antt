-- What holds of all kinds of tokens by computing holds of each.
use Rattle.std.proofs.Common.{◌≡◌, ℕ, suc, Bool, true, ◌&&◌, List, [], ◌∷◌, get_or, refl, subst}
use Rattle.std.specs.Prelude.{zero}
use Rattle.std.specs.Cmp.{first_so, second_so}
use Rattle.csyn.specs.declared.keyword.Keyword.{Keyword}
use Rattle.csyn.specs.declared.keyword.Keyword.TheVariants as keyword
use Rattle.csyn.specs.declared.punctuator.Punctuator.{Punctuator}
use Rattle.csyn.specs.declared.punctuator.Punctuator.TheVariants as punctuator
use Rattle.cgrammar.specs.declared.kind.Kind.{Kind}
use Rattle.cgrammar.specs.declared.kind.Kind.TheVariants as kind
use Rattle.cgrammar.specs.Terminal.{keyword_number, punctuator_number}

-- it holds of each element, by computing
abbrev pub every : {A : Type 0} → (A → Bool) → List A → Bool
every p [] = true
every p (x ∷ xs) = p x && every p xs

-- a place behind the end stands for the default
every_or : {A : Type 0} (p : A → Bool) (xs : List A) (n : ℕ) (other : A) → every p xs ≡ true → p other ≡ true → p (get_or xs n other) ≡ true
every_or p [] n other h o = o
every_or p (x ∷ xs) zero other h o = first_so (p x) (every p xs) h
every_or p (x ∷ xs) (suc n) other h o = every_or p xs n other (second_so (p x) (every p xs) h) o

-- what holds of each element holds at each place
pub every_at : {A : Type 0} (p : A → Bool) (x : A) (xs : List A) (n : ℕ) → every p (x ∷ xs) ≡ true → p (get_or (x ∷ xs) n x) ≡ true
every_at p x xs n h = every_or p (x ∷ xs) n x h (first_so (p x) (every p xs) h)

abbrev later_keywords : List Keyword
later_keywords =
    keyword.Auto ∷ keyword.Boolean ∷ keyword.Break ∷ keyword.Case ∷ keyword.Char ∷ keyword.Complex ∷ keyword.Const ∷ keyword.Continue
    ∷ keyword.Default ∷ keyword.Do ∷ keyword.Double ∷ keyword.Else ∷ keyword.Enum ∷ keyword.Extern ∷ keyword.Float ∷ keyword.For
    ∷ keyword.Goto ∷ keyword.If ∷ keyword.Imaginary ∷ keyword.Inline ∷ keyword.Int ∷ keyword.Long ∷ keyword.Region ∷ keyword.Register
    ∷ keyword.Restrict ∷ keyword.Return ∷ keyword.Short ∷ keyword.Signed ∷ keyword.Sizeof ∷ keyword.Static ∷ keyword.Struct
    ∷ keyword.Switch ∷ keyword.Typedef ∷ keyword.Union ∷ keyword.Unsigned ∷ keyword.Void ∷ keyword.Volatile ∷ keyword.While ∷ []

abbrev later_punctuators : List Punctuator
later_punctuators =
    punctuator.ShiftRightAssign ∷ punctuator.Arrow ∷ punctuator.Increment ∷ punctuator.Decrement ∷ punctuator.ShiftLeft
    ∷ punctuator.ShiftRight ∷ punctuator.LessEqual ∷ punctuator.GreaterEqual ∷ punctuator.Equal ∷ punctuator.NotEqual
    ∷ punctuator.LogicalAnd ∷ punctuator.LogicalOr ∷ punctuator.MultiplyAssign ∷ punctuator.DivideAssign ∷ punctuator.RemainderAssign
    ∷ punctuator.AddAssign ∷ punctuator.SubtractAssign ∷ punctuator.AndAssign ∷ punctuator.XorAssign ∷ punctuator.OrAssign
    ∷ punctuator.LeftBracket ∷ punctuator.RightBracket ∷ punctuator.LeftParenthesis ∷ punctuator.RightParenthesis
    ∷ punctuator.LeftBrace ∷ punctuator.RightBrace ∷ punctuator.Dot ∷ punctuator.Ampersand ∷ punctuator.Star ∷ punctuator.Plus
    ∷ punctuator.Minus ∷ punctuator.Tilde ∷ punctuator.Exclamation ∷ punctuator.Slash ∷ punctuator.Percent ∷ punctuator.Less
    ∷ punctuator.Greater ∷ punctuator.Caret ∷ punctuator.Bar ∷ punctuator.Question ∷ punctuator.Colon ∷ punctuator.Semicolon
    ∷ punctuator.Assign ∷ punctuator.Comma ∷ punctuator.Hash ∷ []

abbrev later_kinds : List Kind
later_kinds = kind.RegisterName ∷ kind.LocationName ∷ kind.Number ∷ kind.Character ∷ kind.Literal ∷ kind.Standard ∷ kind.Uint32
    ∷ kind.End ∷ []

-- each keyword stands at its number
keyword_there : (k : Keyword) → get_or (keyword.Attribute ∷ later_keywords) (keyword_number k) keyword.Attribute ≡ k
unfolding keyword_number
keyword_there keyword.Attribute = refl
keyword_there _ = refl

-- each punctuator stands at its number
punctuator_there : (m : Punctuator) → get_or (punctuator.ShiftLeftAssign ∷ later_punctuators) (punctuator_number m)
    punctuator.ShiftLeftAssign ≡ m
unfolding punctuator_number
punctuator_there punctuator.ShiftLeftAssign = refl
punctuator_there _ = refl

-- it holds of every kind
abbrev pub every_kind : (Kind → Bool) → Bool
every_kind p = every p (kind.Name ∷ later_kinds)
    && (every (λ k. p (kind.Keyword k)) (keyword.Attribute ∷ later_keywords)
    && every (λ m. p (kind.Punctuator m)) (punctuator.ShiftLeftAssign ∷ later_punctuators))

-- what is computed for every kind holds of each
pub every_kind_at : (p : Kind → Bool) → every_kind p ≡ true → (k : Kind) → p k ≡ true
every_kind_at p h = at
  where
    plain : every p (kind.Name ∷ later_kinds) ≡ true
    plain = first_so _ _ h

    at : (k : Kind) → p k ≡ true
    at kind.Name = every_at p kind.Name later_kinds 0 plain
    at kind.RegisterName = every_at p kind.Name later_kinds 1 plain
    at kind.LocationName = every_at p kind.Name later_kinds 2 plain
    at kind.Number = every_at p kind.Name later_kinds 3 plain
    at kind.Character = every_at p kind.Name later_kinds 4 plain
    at kind.Literal = every_at p kind.Name later_kinds 5 plain
    at kind.Standard = every_at p kind.Name later_kinds 6 plain
    at kind.Uint32 = every_at p kind.Name later_kinds 7 plain
    at kind.End = every_at p kind.Name later_kinds 8 plain
    at (kind.Keyword k) = subst (λ x. p (kind.Keyword x) ≡ true) (keyword_there k)
        (every_at (λ x. p (kind.Keyword x)) keyword.Attribute later_keywords (keyword_number k) (first_so _ _ (second_so _ _ h)))
    at (kind.Punctuator m) = subst (λ x. p (kind.Punctuator x) ≡ true) (punctuator_there m)
        (every_at (λ x. p (kind.Punctuator x)) punctuator.ShiftLeftAssign later_punctuators (punctuator_number m)
        (second_so _ _ (second_so _ _ h)))
