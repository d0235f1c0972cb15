-- How a source is read by the rules, looking one token ahead.
use Rattle.std.specs.Prelude.{◌≡◌, ℕ, zero, suc, ◌+◌, ◌*◌, List, [], ◌∷◌, ◌++◌, length, Option, Some, None, if◌then◌else◌}
use Rattle.csyn.specs.declared.token.Token.{Token}
use Rattle.cgrammar.specs.declared.production.Production.{Production}
use Rattle.cgrammar.specs.declared.production.Production.TheVariants as make
use Rattle.cgrammar.specs.declared.terminal.Terminal.TheVariants as terminal
use Rattle.creader.specs.declared.part.Part.TheVariants as part
use Rattle.creader.specs.declared.part.Move.{Move}
use Rattle.creader.specs.declared.part.Move.TheVariants as move
use Rattle.creader.specs.declared.part.Symbol.{Symbol}
use Rattle.creader.specs.declared.part.Symbol.TheVariants as symbol
use Rattle.cgrammar.specs.Kind.{kind_of}
use Rattle.cgrammar.specs.Terminal.{accepts}
use Rattle.cgrammar.specs.Grammar.{template}
use Rattle.creader.specs.Rules.{Rule, rules, choose}
use Rattle.cgrammar.specs.Text.{Written, leaf, node, Forest, none, more}

-- what is still to do, what has been made of the tokens so far (the last first), and the tokens that are left
pub record State : Type 0 where
  pub symbols : List Symbol
  pub values : List Written
  pub tokens : List Token

abbrev pub at : List Symbol → List Written → List Token → State
at symbols values tokens = record { symbols = symbols; values = values; tokens = tokens }

-- the last n values in front of the forest, and the values before them
unfoldable pub gather : ℕ → List Written → Forest → Forest × List Written
gather zero values parts = (parts, values)
gather (suc n) [] parts = (parts, [])
gather (suc n) (value ∷ values) parts = gather n values (more value parts)

-- one value is made of the last ones
unfoldable pub reduce : Production → List Written → List Written
reduce production values =
    let gathered = gather (length (template production)) values none in node production gathered.0 ∷ gathered.1

-- what becomes of the token by which a rule is chosen
abbrev pub moved : Move → List Symbol → List Written → Token → List Token → State
moved move.Take symbols values token tokens = at symbols (leaf token ∷ values) tokens
moved move.Stay symbols values token tokens = at symbols values (token ∷ tokens)

-- the part is replaced by what the rule says
abbrev pub follow_rule : Option Rule → List Symbol → List Written → Token → List Token → Option State
follow_rule None symbols values token tokens = None
follow_rule (Some rule) symbols values token tokens = Some (moved rule.move (rule.symbols ++ symbols) values token tokens)

-- One step. There is none where a token can't stand, where the tokens are used up, and at the end.
unfoldable pub step : List Symbol → List Written → List Token → Option State
step [] values tokens = None
step (symbol.Reduce production ∷ symbols) values tokens = Some (at symbols (reduce production values) tokens)
step (symbol.Take terminal ∷ symbols) values [] = None
step (symbol.Take terminal ∷ symbols) values (token ∷ tokens) =
    if accepts terminal (kind_of token) then Some (at symbols (leaf token ∷ values) tokens) else None
step (symbol.Read part ∷ symbols) values [] = None
step (symbol.Read part ∷ symbols) values (token ∷ tokens) = follow_rule (choose (rules part) (kind_of token)) symbols values token tokens

-- some steps lead from the one to the other
pub data Reaches : State → State → Type 0 where
  here : {a : State} → Reaches a a
  next : {a b c : State} → step a.symbols a.values a.tokens ≡ Some b → Reaches b c → Reaches a c

-- how many steps they are
unfoldable pub count : {a b : State} → Reaches a b → ℕ
count here = 0
count (next first others) = suc (count others)

-- how many steps a token may bring
abbrev pub each_token : ℕ
each_token = 38

-- the most steps for a source of so many tokens
abbrev pub most_steps : ℕ → ℕ
most_steps tokens = each_token * tokens + 15

-- a source and its end
abbrev pub start : List Token → State
start tokens = at (symbol.Read part.Units ∷ symbol.Take terminal.End ∷ symbol.Reduce make.Source ∷ []) [] tokens
