-- The tokens of a source: the last is the end token, and no other is.
use Rattle.std.specs.Prelude.{◌≡◌, ◌≢◌, List, [], ◌∷◌, ◌++◌, All}
use Rattle.csyn.specs.declared.token.Token.{Token}
use Rattle.cgrammar.specs.declared.kind.Kind.TheVariants as kind
use Rattle.cgrammar.specs.Kind.{kind_of}
use Rattle.cgrammar.specs.Text.{IsFirstFault}
use Rattle.creader.specs.declared.read_fault.ReadFault.{ReadFault}
use Rattle.creader.specs.declared.read_fault.ReadFault.TheVariants as fault

abbrev pub EndsOnce : List Token → Type 0
EndsOnce tokens = (body : List Token) × (end : Token) × (tokens ≡ body ++ end ∷ []) × (kind_of end ≡ kind.End)
    × All (λ token. kind_of token ≢ kind.End) body

-- the fault names the first token that can't stand
abbrev pub IsFaultOf : List Token → ReadFault → Type 0
IsFaultOf tokens (fault.Token place) = IsFirstFault tokens place
IsFaultOf tokens fault.Memory = Unit {0}
