-- The keywords by their spelling, and which are no part of this project's language.
use Rattle.std.specs.Prelude.{ℕ, Bool, true, false, List, [], ◌∷◌, Option, codes}
use Rattle.csyn.specs.Table.{spelled}
use Rattle.csyn.specs.declared.keyword.Keyword.{Keyword}
use Rattle.csyn.specs.declared.keyword.Keyword.TheVariants.{Attribute, Auto, Boolean, Break, Case, Char, Complex, Const, Continue}
use Rattle.csyn.specs.declared.keyword.Keyword.TheVariants.{Default, Do, Double, Else, Enum, Extern, Float, For, Goto, If}
use Rattle.csyn.specs.declared.keyword.Keyword.TheVariants.{Imaginary, Inline, Int, Long, Region, Register, Restrict, Return, Short}
use Rattle.csyn.specs.declared.keyword.Keyword.TheVariants.{Signed, Sizeof, Static, Struct, Switch, Typedef, Union, Unsigned, Void}
use Rattle.csyn.specs.declared.keyword.Keyword.TheVariants.{Volatile, While}

-- no production of the grammar names it
abbrev pub is_excluded : Keyword → Bool
is_excluded Auto = true
is_excluded Boolean = true
is_excluded Complex = true
is_excluded Double = true
is_excluded Enum = true
is_excluded Extern = true
is_excluded Float = true
is_excluded Goto = true
is_excluded Imaginary = true
is_excluded Restrict = true
is_excluded Typedef = true
is_excluded Union = true
is_excluded _ = false

-- each with its spelling (C99 6.4.1, and two of this project's own)
abbrev pub keywords : List (List ℕ × Keyword)
keywords =
    (codes "__attribute__", Attribute) ∷ (codes "auto", Auto) ∷ (codes "_Bool", Boolean) ∷ (codes "break", Break)
    ∷ (codes "case", Case) ∷ (codes "char", Char) ∷ (codes "_Complex", Complex) ∷ (codes "const", Const)
    ∷ (codes "continue", Continue) ∷ (codes "default", Default) ∷ (codes "do", Do) ∷ (codes "double", Double)
    ∷ (codes "else", Else) ∷ (codes "enum", Enum) ∷ (codes "extern", Extern) ∷ (codes "float", Float) ∷ (codes "for", For)
    ∷ (codes "goto", Goto) ∷ (codes "if", If) ∷ (codes "_Imaginary", Imaginary) ∷ (codes "inline", Inline) ∷ (codes "int", Int)
    ∷ (codes "long", Long) ∷ (codes "__region", Region) ∷ (codes "register", Register) ∷ (codes "restrict", Restrict)
    ∷ (codes "return", Return) ∷ (codes "short", Short) ∷ (codes "signed", Signed) ∷ (codes "sizeof", Sizeof)
    ∷ (codes "static", Static) ∷ (codes "struct", Struct) ∷ (codes "switch", Switch) ∷ (codes "typedef", Typedef)
    ∷ (codes "union", Union) ∷ (codes "unsigned", Unsigned) ∷ (codes "void", Void) ∷ (codes "volatile", Volatile)
    ∷ (codes "while", While) ∷ []

-- the keyword that is written so
unfoldable pub keyword_of : List ℕ → Option Keyword
keyword_of = spelled keywords
