-- All productions, and which of them may stand where a class is wanted.
use Rattle.std.specs.Prelude.{◌≡◌, ℕ, zero, suc, ◌+◌, ◌*◌, ◌⊎◌, Bool, true, false, List, [], ◌∷◌, Some, if◌then◌else◌}
use Rattle.std.proofs.Common.{refl, inl, inr}
use Rattle.csyn.specs.declared.operator.BinaryOperator.{BinaryOperator}
use Rattle.csyn.specs.declared.operator.BinaryOperator.TheVariants as operator
use Rattle.csyn.specs.declared.operator.ComparisonOperator.{ComparisonOperator}
use Rattle.csyn.specs.declared.operator.ComparisonOperator.TheVariants as comparison
use Rattle.csyn.specs.declared.operator.LogicalOperator.{LogicalOperator}
use Rattle.csyn.specs.declared.operator.LogicalOperator.TheVariants as logical
use Rattle.cgrammar.specs.declared.production.Word.{Word}
use Rattle.cgrammar.specs.declared.production.Word.TheVariants as kind
use Rattle.cgrammar.specs.declared.production.Words.TheVariants as every
use Rattle.cgrammar.specs.declared.production.Production.{Production}
use Rattle.cgrammar.specs.declared.production.Production.TheVariants as make
use Rattle.cgrammar.specs.Grammar.{Class, under, home, words_number}
use Rattle.creader.proofs.Complete.Kinds.{entry}

-- all productions
unfoldable pub productions : List Production
productions =
    make.Identifier ∷ make.Name ∷ make.Number ∷ make.Character ∷ make.Parenthesised ∷ make.Index ∷ make.CallFunction ∷ make.Call
    ∷ make.Member ∷ make.Arrow ∷ make.PostIncrement ∷ make.PostDecrement ∷ make.PreIncrement ∷ make.PreDecrement ∷ make.Prefix
    ∷ make.SizeofExpression ∷ make.SizeofType ∷ make.Cast ∷ make.Conditional ∷ make.Assign ∷ make.Comma ∷ make.NoArguments
    ∷ make.SomeArguments ∷ make.EndArguments ∷ make.NextArgument ∷ make.NoExpression ∷ make.SomeExpression ∷ make.TypeName ∷ make.Specified
    ∷ make.Based ∷ make.NoQualifiers ∷ make.Qualified ∷ make.VoidBase ∷ make.StructBase ∷ make.StandardBase ∷ make.IntegerBase
    ∷ make.NoPointers ∷ make.Star ∷ make.QualifiedPointer ∷ make.NextPointer ∷ make.NoLengths ∷ make.Length ∷ make.Declarator
    ∷ make.EndDeclarators ∷ make.NextDeclarator ∷ make.StructMember ∷ make.EndMembers ∷ make.NextMember ∷ make.NoLocation ∷ make.Location
    ∷ make.NoInitial ∷ make.Initial ∷ make.InitialExpression ∷ make.Braced ∷ make.EndInits ∷ make.CommaInits ∷ make.TrailingComma
    ∷ make.NextInit ∷ make.InitDeclarator ∷ make.EndInitDeclarators ∷ make.NextInitDeclarator ∷ make.LocalObject ∷ make.Block
    ∷ make.ExpressionStatement ∷ make.If ∷ make.NoElse ∷ make.Else ∷ make.While ∷ make.Do ∷ make.ForObject ∷ make.ForExpression ∷ make.For
    ∷ make.Break ∷ make.Continue ∷ make.Return ∷ make.RegionName ∷ make.Region ∷ make.EndItems ∷ make.NextObject ∷ make.NextStatement
    ∷ make.StructUnit ∷ make.RegisterUnit ∷ make.UnsignedInt ∷ make.RegisterUint32 ∷ make.External ∷ make.ObjectRest ∷ make.FunctionRest
    ∷ make.PrototypeEnd ∷ make.FunctionBody ∷ make.NoParameters ∷ make.VoidParameters ∷ make.SomeParameters ∷ make.Parameter
    ∷ make.ArrayParameter ∷ make.EndParameters ∷ make.NextParameter ∷ make.EndUnits ∷ make.NextUnit ∷ make.Source
    ∷ make.Switch ∷ make.NoSwitchItems ∷ make.FirstLabel ∷ make.EndSwitchItems ∷ make.NextLabel ∷ make.NextSwitchStatement
    ∷ make.CaseLabel ∷ make.DefaultLabel ∷ make.Binary operator.Multiply ∷ make.Binary operator.Divide ∷ make.Binary operator.Remainder
    ∷ make.Binary operator.Add ∷ make.Binary operator.Subtract ∷ make.Binary operator.ShiftLeft ∷ make.Binary operator.ShiftRight
    ∷ make.Binary operator.BitAnd ∷ make.Binary operator.BitXor ∷ make.Binary operator.BitOr ∷ make.Comparison comparison.Less
    ∷ make.Comparison comparison.Greater ∷ make.Comparison comparison.LessEqual ∷ make.Comparison comparison.GreaterEqual
    ∷ make.Comparison comparison.Equal ∷ make.Comparison comparison.NotEqual ∷ make.Logical logical.And ∷ make.Logical logical.Or
    ∷ make.AssignWith operator.Multiply ∷ make.AssignWith operator.Divide ∷ make.AssignWith operator.Remainder
    ∷ make.AssignWith operator.Add ∷ make.AssignWith operator.Subtract ∷ make.AssignWith operator.ShiftLeft
    ∷ make.AssignWith operator.ShiftRight ∷ make.AssignWith operator.BitAnd ∷ make.AssignWith operator.BitXor
    ∷ make.AssignWith operator.BitOr ∷ make.FirstWord kind.Sign
    ∷ make.FirstWord kind.Char ∷ make.FirstWord kind.Length ∷ make.FirstWord kind.Int ∷ make.NextWord every.Sign kind.Sign
    ∷ make.NextWord every.Sign kind.Char ∷ make.NextWord every.Sign kind.Length ∷ make.NextWord every.Sign kind.Int
    ∷ make.NextWord every.Char kind.Sign ∷ make.NextWord every.Char kind.Char ∷ make.NextWord every.Char kind.Length
    ∷ make.NextWord every.Char kind.Int ∷ make.NextWord every.Length kind.Sign ∷ make.NextWord every.Length kind.Char
    ∷ make.NextWord every.Length kind.Length ∷ make.NextWord every.Length kind.Int ∷ make.NextWord every.Int kind.Sign
    ∷ make.NextWord every.Int kind.Char ∷ make.NextWord every.Int kind.Length ∷ make.NextWord every.Int kind.Int
    ∷ make.NextWord every.SignChar kind.Sign ∷ make.NextWord every.SignChar kind.Char ∷ make.NextWord every.SignChar kind.Length
    ∷ make.NextWord every.SignChar kind.Int ∷ make.NextWord every.SignLength kind.Sign ∷ make.NextWord every.SignLength kind.Char
    ∷ make.NextWord every.SignLength kind.Length ∷ make.NextWord every.SignLength kind.Int ∷ make.NextWord every.SignInt kind.Sign
    ∷ make.NextWord every.SignInt kind.Char ∷ make.NextWord every.SignInt kind.Length ∷ make.NextWord every.SignInt kind.Int
    ∷ make.NextWord every.LengthInt kind.Sign ∷ make.NextWord every.LengthInt kind.Char ∷ make.NextWord every.LengthInt kind.Length
    ∷ make.NextWord every.LengthInt kind.Int ∷ make.NextWord every.SignLengthInt kind.Sign ∷ make.NextWord every.SignLengthInt kind.Char
    ∷ make.NextWord every.SignLengthInt kind.Length ∷ make.NextWord every.SignLengthInt kind.Int ∷ []

-- numbers of what stands in a production
unfoldable pub operator_number : BinaryOperator → ℕ
operator_number operator.Multiply = 0
operator_number operator.Divide = 1
operator_number operator.Remainder = 2
operator_number operator.Add = 3
operator_number operator.Subtract = 4
operator_number operator.ShiftLeft = 5
operator_number operator.ShiftRight = 6
operator_number operator.BitAnd = 7
operator_number operator.BitXor = 8
operator_number operator.BitOr = 9

unfoldable pub comparison_number : ComparisonOperator → ℕ
comparison_number comparison.Less = 0
comparison_number comparison.Greater = 1
comparison_number comparison.LessEqual = 2
comparison_number comparison.GreaterEqual = 3
comparison_number comparison.Equal = 4
comparison_number comparison.NotEqual = 5

unfoldable pub logical_number : LogicalOperator → ℕ
logical_number logical.And = 0
logical_number logical.Or = 1

unfoldable pub word_number : Word → ℕ
word_number kind.Sign = 0
word_number kind.Char = 1
word_number kind.Length = 2
word_number kind.Int = 3

-- where a production stands among them
unfoldable pub production_number : Production → ℕ
production_number make.Identifier = 0
production_number make.Name = 1
production_number make.Number = 2
production_number make.Character = 3
production_number make.Parenthesised = 4
production_number make.Index = 5
production_number make.CallFunction = 6
production_number make.Call = 7
production_number make.Member = 8
production_number make.Arrow = 9
production_number make.PostIncrement = 10
production_number make.PostDecrement = 11
production_number make.PreIncrement = 12
production_number make.PreDecrement = 13
production_number make.Prefix = 14
production_number make.SizeofExpression = 15
production_number make.SizeofType = 16
production_number make.Cast = 17
production_number make.Conditional = 18
production_number make.Assign = 19
production_number make.Comma = 20
production_number make.NoArguments = 21
production_number make.SomeArguments = 22
production_number make.EndArguments = 23
production_number make.NextArgument = 24
production_number make.NoExpression = 25
production_number make.SomeExpression = 26
production_number make.TypeName = 27
production_number make.Specified = 28
production_number make.Based = 29
production_number make.NoQualifiers = 30
production_number make.Qualified = 31
production_number make.VoidBase = 32
production_number make.StructBase = 33
production_number make.StandardBase = 34
production_number make.IntegerBase = 35
production_number make.NoPointers = 36
production_number make.Star = 37
production_number make.QualifiedPointer = 38
production_number make.NextPointer = 39
production_number make.NoLengths = 40
production_number make.Length = 41
production_number make.Declarator = 42
production_number make.EndDeclarators = 43
production_number make.NextDeclarator = 44
production_number make.StructMember = 45
production_number make.EndMembers = 46
production_number make.NextMember = 47
production_number make.NoLocation = 48
production_number make.Location = 49
production_number make.NoInitial = 50
production_number make.Initial = 51
production_number make.InitialExpression = 52
production_number make.Braced = 53
production_number make.EndInits = 54
production_number make.CommaInits = 55
production_number make.TrailingComma = 56
production_number make.NextInit = 57
production_number make.InitDeclarator = 58
production_number make.EndInitDeclarators = 59
production_number make.NextInitDeclarator = 60
production_number make.LocalObject = 61
production_number make.Block = 62
production_number make.ExpressionStatement = 63
production_number make.If = 64
production_number make.NoElse = 65
production_number make.Else = 66
production_number make.While = 67
production_number make.Do = 68
production_number make.ForObject = 69
production_number make.ForExpression = 70
production_number make.For = 71
production_number make.Break = 72
production_number make.Continue = 73
production_number make.Return = 74
production_number make.RegionName = 75
production_number make.Region = 76
production_number make.EndItems = 77
production_number make.NextObject = 78
production_number make.NextStatement = 79
production_number make.StructUnit = 80
production_number make.RegisterUnit = 81
production_number make.UnsignedInt = 82
production_number make.RegisterUint32 = 83
production_number make.External = 84
production_number make.ObjectRest = 85
production_number make.FunctionRest = 86
production_number make.PrototypeEnd = 87
production_number make.FunctionBody = 88
production_number make.NoParameters = 89
production_number make.VoidParameters = 90
production_number make.SomeParameters = 91
production_number make.Parameter = 92
production_number make.ArrayParameter = 93
production_number make.EndParameters = 94
production_number make.NextParameter = 95
production_number make.EndUnits = 96
production_number make.NextUnit = 97
production_number make.Source = 98
production_number make.Switch = 99
production_number make.NoSwitchItems = 100
production_number make.FirstLabel = 101
production_number make.EndSwitchItems = 102
production_number make.NextLabel = 103
production_number make.NextSwitchStatement = 104
production_number make.CaseLabel = 105
production_number make.DefaultLabel = 106
production_number (make.Binary o) = 107 + operator_number o
production_number (make.Comparison o) = 117 + comparison_number o
production_number (make.Logical o) = 123 + logical_number o
production_number (make.AssignWith o) = 125 + operator_number o
production_number (make.FirstWord w) = 135 + word_number w
production_number (make.NextWord all w) = 139 + (4 * words_number all + word_number w)

-- each stands at its number
pub production-entry : (p : Production) → entry (production_number p) productions ≡ Some p
unfolding entry productions production_number operator_number comparison_number logical_number word_number words_number
production-entry (make.Binary operator.Multiply) = refl
production-entry (make.Binary _) = refl
production-entry (make.Comparison comparison.Less) = refl
production-entry (make.Comparison _) = refl
production-entry (make.Logical logical.And) = refl
production-entry (make.Logical _) = refl
production-entry (make.AssignWith operator.Multiply) = refl
production-entry (make.AssignWith _) = refl
production-entry (make.FirstWord kind.Sign) = refl
production-entry (make.FirstWord _) = refl
production-entry (make.NextWord every.Sign kind.Sign) = refl
production-entry (make.NextWord every.Char kind.Sign) = refl
production-entry (make.NextWord every.Length kind.Sign) = refl
production-entry (make.NextWord every.Int kind.Sign) = refl
production-entry (make.NextWord every.SignChar kind.Sign) = refl
production-entry (make.NextWord every.SignLength kind.Sign) = refl
production-entry (make.NextWord every.SignInt kind.Sign) = refl
production-entry (make.NextWord every.LengthInt kind.Sign) = refl
production-entry (make.NextWord every.SignLengthInt kind.Sign) = refl
production-entry (make.NextWord _ _) = refl
production-entry _ = refl

-- it is one of them
abbrev pub In : Production → List Production → Type 0
In p [] = ⊥
In p (other ∷ others) = (p ≡ other) ⊎ In p others

-- those for which the test is true
unfoldable pub kept : (Production → Bool) → List Production → List Production
kept test [] = []
kept test (p ∷ ps) = if test p then p ∷ kept test ps else kept test ps

-- what passes the test is kept
in-kept : (test : Production → Bool) (n : ℕ) (ps : List Production) (p : Production) → entry n ps ≡ Some p → test p ≡ true
    → In p (kept test ps)
unfolding entry kept
in-kept test n [] p e h = cc
in-kept test n (other ∷ others) p e h = go n (test other) refl e (λ m e'. in-kept test m others p e' h)
  where
    go : (n : ℕ) (b : Bool) → test other ≡ b → entry n (other ∷ others) ≡ Some p
        → ((m : ℕ) → entry m others ≡ Some p → In p (kept test others)) → In p (kept test (other ∷ others))
    go zero true t e ih = rw t (inl cc)
    go zero false t e ih = let same : other ≡ p = cc in let both : test p ≡ false = rw same at t in cc
    go (suc m) true t e ih = rw t (inr (ih m e))
    go (suc m) false t e ih = rw t (ih m e)

-- the productions whose trees may stand where the class is wanted
unfoldable pub makers : Class → List Production
makers c = kept (λ p. under (home p) c) productions

-- a tree that stands there is made by one of these
pub in-makers : (p : Production) (c : Class) → under (home p) c ≡ true → In p (makers c)
unfolding makers
in-makers p c h = in-kept (λ p. under (home p) c) (production_number p) productions p (production-entry p) h
