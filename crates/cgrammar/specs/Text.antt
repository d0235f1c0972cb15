-- Texts of the grammar, as trees of its productions, and the first token that can't stand.
use Rattle.std.specs.Prelude.{◌≡◌, ℕ, ◌+◌, ◌<◌, Bool, true, false, ◌||◌, ◌&&◌, List, [], ◌∷◌, ◌++◌, length, take}
use Rattle.csyn.specs.declared.token.Token.{Token}
use Rattle.cgrammar.specs.declared.production.Production.{Production}
use Rattle.cgrammar.specs.declared.production.Production.TheVariants as make
use Rattle.cgrammar.specs.Kind.{kind_of}
use Rattle.cgrammar.specs.Terminal.{accepts}
use Rattle.cgrammar.specs.Grammar.{source, Piece, token, part, under, home, template}

-- a source as it is written: its tokens under the productions
mutual
  pub data Written : Type 0 where
    leaf : Token → Written
    node : Production → Forest → Written

  pub data Forest : Type 0 where
    none : Forest
    more : Written → Forest → Forest

-- the tokens that it is written with
abbrev mutual
  pub spell : Written → List Token
  spell (leaf t) = t ∷ []
  spell (node production parts) = spells parts

  pub spells : Forest → List Token
  spells none = []
  spells (more written parts) = spell written ++ spells parts

abbrev pub is_if_without_else : Production → Bool
is_if_without_else make.NoElse = true
is_if_without_else _ = false

-- a statement, or what is behind the first branch of an if, that ends with a statement
abbrev pub ends_with_statement : Production → Bool
ends_with_statement make.If = true
ends_with_statement make.Else = true
ends_with_statement make.While = true
ends_with_statement make.For = true
ends_with_statement _ = false

-- does it end with an if that has no else?
unfoldable mutual
  pub dangles : Written → Bool
  dangles (leaf _) = false
  dangles (node production parts) = is_if_without_else production || (ends_with_statement production && last_dangles parts)

  pub last_dangles : Forest → Bool
  last_dangles none = false
  last_dangles (more written none) = dangles written
  last_dangles (more written (more next parts)) = last_dangles (more next parts)

unfoldable pub begins_with_else : Forest → Bool
begins_with_else (more (node make.Else _) _) = true
begins_with_else _ = false

-- it may stand where the piece is wanted
abbrev pub Stands : Piece → Written → Type 0
Stands (token terminal) (leaf t) = accepts terminal (kind_of t) ≡ true
Stands (part class) (node production _) = under (home production) class ≡ true
Stands _ _ = ⊥

-- Its parts are those of the productions' right sides, and an else belongs to the nearest if: what stands before it doesn't end with
-- an if that has none.
unfoldable mutual
  pub IsProper : Written → Type 0
  IsProper (leaf _) = Unit {0}
  IsProper (node production parts) = Match (template production) parts

  pub Match : List Piece → Forest → Type 0
  Match [] none = Unit {0}
  Match (piece ∷ pieces) (more written parts) = Stands piece written × IsProper written
      × (begins_with_else parts ≡ true → dangles written ≡ false) × Match pieces parts
  Match _ _ = ⊥

-- the tokens, the end token among them, are a source
pub record IsText (written : Written) (tokens : List Token) : Type 0 where
  pub is_source : Stands (part source) written
  pub proper : IsProper written
  pub spelled : spell written ≡ tokens

-- The first token that can't stand where it stands: some source begins with the tokens before it, and none with it as well.
pub record IsFirstFault (tokens : List Token) (at : ℕ) : Type 0 where
  pub within : at < length tokens
  pub goes_on : (others : List Token) × (written : Written) × IsText written (take at tokens ++ others)
  pub stops : (others : List Token) (written : Written) → IsText written (take (at + 1) tokens ++ others) → ⊥
