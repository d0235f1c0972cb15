-- The punctuators by their spelling.
use Rattle.std.specs.Prelude.{ℕ, List, [], ◌∷◌, Option, codes}
use Rattle.csyn.specs.declared.punctuator.Punctuator.{Punctuator}
use Rattle.csyn.specs.declared.punctuator.Punctuator.TheVariants.{ShiftLeftAssign, ShiftRightAssign, Arrow, Increment, Decrement}
use Rattle.csyn.specs.declared.punctuator.Punctuator.TheVariants.{ShiftLeft, ShiftRight, LessEqual, GreaterEqual, Equal, NotEqual}
use Rattle.csyn.specs.declared.punctuator.Punctuator.TheVariants.{LogicalAnd, LogicalOr, MultiplyAssign, DivideAssign}
use Rattle.csyn.specs.declared.punctuator.Punctuator.TheVariants.{RemainderAssign, AddAssign, SubtractAssign, AndAssign, XorAssign}
use Rattle.csyn.specs.declared.punctuator.Punctuator.TheVariants.{OrAssign, LeftBracket, RightBracket, LeftParenthesis}
use Rattle.csyn.specs.declared.punctuator.Punctuator.TheVariants.{RightParenthesis, LeftBrace, RightBrace, Dot, Ampersand, Star}
use Rattle.csyn.specs.declared.punctuator.Punctuator.TheVariants.{Plus, Minus, Tilde, Exclamation, Slash, Percent, Less, Greater}
use Rattle.csyn.specs.declared.punctuator.Punctuator.TheVariants.{Caret, Bar, Question, Colon, Semicolon, Assign, Comma, Hash}
use Rattle.csyn.specs.Table.{spelled}

-- each with its spelling (C99 6.4.6), the longer before the shorter
abbrev pub punctuators : List (List ℕ × Punctuator)
punctuators =
    (codes "<<=", ShiftLeftAssign) ∷ (codes ">>=", ShiftRightAssign) ∷ (codes "->", Arrow) ∷ (codes "++", Increment)
    ∷ (codes "--", Decrement) ∷ (codes "<<", ShiftLeft) ∷ (codes ">>", ShiftRight) ∷ (codes "<=", LessEqual)
    ∷ (codes ">=", GreaterEqual) ∷ (codes "==", Equal) ∷ (codes "!=", NotEqual) ∷ (codes "&&", LogicalAnd)
    ∷ (codes "||", LogicalOr) ∷ (codes "*=", MultiplyAssign) ∷ (codes "/=", DivideAssign) ∷ (codes "%=", RemainderAssign)
    ∷ (codes "+=", AddAssign) ∷ (codes "-=", SubtractAssign) ∷ (codes "&=", AndAssign) ∷ (codes "^=", XorAssign)
    ∷ (codes "|=", OrAssign) ∷ (codes "[", LeftBracket) ∷ (codes "]", RightBracket) ∷ (codes "(", LeftParenthesis)
    ∷ (codes ")", RightParenthesis) ∷ (codes "{", LeftBrace) ∷ (codes "}", RightBrace) ∷ (codes ".", Dot)
    ∷ (codes "&", Ampersand) ∷ (codes "*", Star) ∷ (codes "+", Plus) ∷ (codes "-", Minus) ∷ (codes "~", Tilde)
    ∷ (codes "!", Exclamation) ∷ (codes "/", Slash) ∷ (codes "%", Percent) ∷ (codes "<", Less) ∷ (codes ">", Greater)
    ∷ (codes "^", Caret) ∷ (codes "|", Bar) ∷ (codes "?", Question) ∷ (codes ":", Colon) ∷ (codes ";", Semicolon)
    ∷ (codes "=", Assign) ∷ (codes ",", Comma) ∷ (codes "#", Hash) ∷ []

-- the punctuator that is written so
unfoldable pub punctuator_of : List ℕ → Option Punctuator
punctuator_of = spelled punctuators
