-- A test of every kind of token, which can be computed.
use Rattle.std.proofs.Common.{◌≡◌, ℕ, zero, suc, Bool, true, ◌&&◌, List, [], ◌∷◌, get_or, refl, subst}
use Rattle.std.specs.List.{list_all}
use Rattle.std.proofs.lemmas.Bool.{and_parts}
use Rattle.csyn.specs.declared.keyword.Keyword.{Keyword}
use Rattle.csyn.specs.declared.keyword.Keyword.TheVariants as keyword
use Rattle.csyn.specs.declared.punctuator.Punctuator.{Punctuator}
use Rattle.csyn.specs.declared.punctuator.Punctuator.TheVariants as punctuator
use Rattle.cgrammar.specs.declared.kind.Kind.{Kind}
use Rattle.cgrammar.specs.declared.kind.Kind.TheVariants as kind
use Rattle.cgrammar.specs.Terminal.{keyword_number, punctuator_number}

-- in the order of their numbers
unfoldable pub keywords : List Keyword
keywords = keyword.Attribute ∷ keyword.Auto ∷ keyword.Boolean ∷ keyword.Break ∷ keyword.Case
    ∷ keyword.Char ∷ keyword.Complex ∷ keyword.Const ∷ keyword.Continue ∷ keyword.Default
    ∷ keyword.Do ∷ keyword.Double ∷ keyword.Else ∷ keyword.Enum ∷ keyword.Extern
    ∷ keyword.Float ∷ keyword.For ∷ keyword.Goto ∷ keyword.If ∷ keyword.Imaginary
    ∷ keyword.Inline ∷ keyword.Int ∷ keyword.Long ∷ keyword.Region ∷ keyword.Register
    ∷ keyword.Restrict ∷ keyword.Return ∷ keyword.Short ∷ keyword.Signed ∷ keyword.Sizeof
    ∷ keyword.Static ∷ keyword.Struct ∷ keyword.Switch ∷ keyword.Typedef ∷ keyword.Union
    ∷ keyword.Unsigned ∷ keyword.Void ∷ keyword.Volatile ∷ keyword.While ∷ []

unfoldable pub punctuators : List Punctuator
punctuators = punctuator.ShiftLeftAssign ∷ punctuator.ShiftRightAssign ∷ punctuator.Arrow ∷ punctuator.Increment ∷ punctuator.Decrement
    ∷ punctuator.ShiftLeft ∷ punctuator.ShiftRight ∷ punctuator.LessEqual ∷ punctuator.GreaterEqual ∷ punctuator.Equal
    ∷ punctuator.NotEqual ∷ punctuator.LogicalAnd ∷ punctuator.LogicalOr ∷ punctuator.MultiplyAssign ∷ punctuator.DivideAssign
    ∷ punctuator.RemainderAssign ∷ punctuator.AddAssign ∷ punctuator.SubtractAssign ∷ punctuator.AndAssign ∷ punctuator.XorAssign
    ∷ punctuator.OrAssign ∷ punctuator.LeftBracket ∷ punctuator.RightBracket ∷ punctuator.LeftParenthesis ∷ punctuator.RightParenthesis
    ∷ punctuator.LeftBrace ∷ punctuator.RightBrace ∷ punctuator.Dot ∷ punctuator.Ampersand ∷ punctuator.Star
    ∷ punctuator.Plus ∷ punctuator.Minus ∷ punctuator.Tilde ∷ punctuator.Exclamation ∷ punctuator.Slash
    ∷ punctuator.Percent ∷ punctuator.Less ∷ punctuator.Greater ∷ punctuator.Caret ∷ punctuator.Bar
    ∷ punctuator.Question ∷ punctuator.Colon ∷ punctuator.Semicolon ∷ punctuator.Assign ∷ punctuator.Comma
    ∷ punctuator.Hash ∷ []

-- the kinds that are neither
unfoldable pub plain_kinds : List Kind
plain_kinds = kind.Name ∷ kind.RegisterName ∷ kind.LocationName ∷ kind.Number ∷ kind.Character
    ∷ kind.Literal ∷ kind.Standard ∷ kind.Uint32 ∷ kind.End ∷ []

unfoldable pub every_kind : (Kind → Bool) → Bool
every_kind test = list_all test plain_kinds
    && (list_all (λ k. test (kind.Keyword k)) keywords && list_all (λ p. test (kind.Punctuator p)) punctuators)

-- what passes at each entry of a list passes at the entry with this number
at-entry : {X : Type 0} (test : X → Bool) (xs : List X) (i : ℕ) (d : X) → test d ≡ true → list_all test xs ≡ true
    → test (get_or xs i d) ≡ true
at-entry test [] i d e h = e
at-entry test (x ∷ xs) zero d e h = (and_parts _ _ h).0
at-entry test (x ∷ xs) (suc i) d e h = at-entry test xs i d e (and_parts _ _ h).1

at-keyword : (k : Keyword) → get_or keywords (keyword_number k) keyword.Attribute ≡ k
unfolding keywords keyword_number
at-keyword keyword.Attribute = refl
at-keyword _ = refl

at-punctuator : (p : Punctuator) → get_or punctuators (punctuator_number p) punctuator.ShiftLeftAssign ≡ p
unfolding punctuators punctuator_number
at-punctuator punctuator.ShiftLeftAssign = refl
at-punctuator _ = refl

each-keyword : (test : Keyword → Bool) → list_all test keywords ≡ true → (k : Keyword) → test k ≡ true
unfolding keywords
each-keyword test h k = subst (λ x. test x ≡ true) (at-keyword k)
    (at-entry test keywords (keyword_number k) keyword.Attribute (and_parts _ _ h).0 h)

each-punctuator : (test : Punctuator → Bool) → list_all test punctuators ≡ true → (p : Punctuator) → test p ≡ true
unfolding punctuators
each-punctuator test h p =
    subst (λ x. test x ≡ true) (at-punctuator p)
    (at-entry test punctuators (punctuator_number p) punctuator.ShiftLeftAssign (and_parts _ _ h).0 h)

each-plain : (test : Kind → Bool) → list_all test plain_kinds ≡ true → (i : ℕ) → test (get_or plain_kinds i kind.Name) ≡ true
unfolding plain_kinds
each-plain test h i = at-entry test plain_kinds i kind.Name (and_parts _ _ h).0 h

-- what every kind passes, this kind passes
pub at-kind : (test : Kind → Bool) → every_kind test ≡ true → (k : Kind) → test k ≡ true
unfolding every_kind plain_kinds
at-kind test h kind.Name = each-plain test (and_parts _ _ h).0 0
at-kind test h kind.RegisterName = each-plain test (and_parts _ _ h).0 1
at-kind test h kind.LocationName = each-plain test (and_parts _ _ h).0 2
at-kind test h kind.Number = each-plain test (and_parts _ _ h).0 3
at-kind test h kind.Character = each-plain test (and_parts _ _ h).0 4
at-kind test h kind.Literal = each-plain test (and_parts _ _ h).0 5
at-kind test h kind.Standard = each-plain test (and_parts _ _ h).0 6
at-kind test h kind.Uint32 = each-plain test (and_parts _ _ h).0 7
at-kind test h kind.End = each-plain test (and_parts _ _ h).0 8
at-kind test h (kind.Keyword k) = each-keyword (λ x. test (kind.Keyword x)) (and_parts _ _ (and_parts _ _ h).1).0 k
at-kind test h (kind.Punctuator p) = each-punctuator (λ x. test (kind.Punctuator x)) (and_parts _ _ (and_parts _ _ h).1).1 p
