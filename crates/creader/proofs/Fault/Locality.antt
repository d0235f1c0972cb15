-- A step looks at no token behind the next one.
use Rattle.std.proofs.Common.{◌≡◌, true, List, [], ◌∷◌, ◌++◌, Some, refl, sym, ap, subst}
use Rattle.csyn.specs.declared.token.Token.{Token}
use Rattle.cgrammar.specs.declared.production.Production.{Production}
use Rattle.cgrammar.specs.declared.terminal.Terminal.{Terminal}
use Rattle.creader.specs.declared.part.Part.{Part}
use Rattle.creader.specs.declared.part.Move.{Move}
use Rattle.creader.specs.declared.part.Move.TheVariants as move
use Rattle.creader.specs.declared.part.Symbol.{Symbol}
use Rattle.creader.specs.declared.part.Symbol.TheVariants as symbol
use Rattle.cgrammar.specs.Kind.{kind_of}
use Rattle.cgrammar.specs.Terminal.{accepts}
use Rattle.creader.specs.Rules.{Rule, rules, choose}
use Rattle.cgrammar.specs.Text.{Written, leaf}
use Rattle.creader.specs.Machine.{State, at, moved, reduce, step, Reaches, here, next}
use Rattle.creader.proofs.Fault.Steps.{take_step, read_step, taken, followed}

-- From the one state to the other the tokens of front were taken. They lead to the same state behind the last of them, whatever tokens
-- stand there, and if the next token is the same to the same last state.
pub record Way (a b : State) : Type 0 where
  pub front : List Token
  pub symbols : List Symbol
  pub values : List Written
  pub split : a.tokens ≡ front ++ b.tokens
  pub behind : (others : List Token) → Reaches (at a.symbols a.values (front ++ others)) (at symbols values others)
  pub ahead : (token : Token) (tokens others : List Token) → b.tokens ≡ token ∷ tokens
      → Reaches (at a.symbols a.values (front ++ token ∷ others)) (at b.symbols b.values (token ∷ others))

-- no step takes no token
none_taken : (a : State) → Way a a
none_taken a = record {
  front = [];
  symbols = a.symbols;
  values = a.values;
  split = refl;
  behind = λ others. here;
  ahead = λ token tokens others e. here;
}

before_reduce : (p : Production) (symbols : List Symbol) (values : List Written) (tokens : List Token) (b : State)
    → Way (at symbols (reduce p values) tokens) b → Way (at (symbol.Reduce p ∷ symbols) values tokens) b
unfolding step
before_reduce p symbols values tokens b way = record {
  front = way.front;
  symbols = way.symbols;
  values = way.values;
  split = way.split;
  behind = λ others. next refl (way.behind others);
  ahead = λ token rest others e. next refl (way.ahead token rest others e);
}

before_take : (t : Terminal) (symbols : List Symbol) (values : List Written) (token : Token) (tokens : List Token) (b : State)
    → accepts t (kind_of token) ≡ true
    → Way (at symbols (leaf token ∷ values) tokens) b → Way (at (symbol.Take t ∷ symbols) values (token ∷ tokens)) b
before_take t symbols values token tokens b fits way = record {
  front = token ∷ way.front;
  symbols = way.symbols;
  values = way.values;
  split = ap (λ x. token ∷ x) way.split;
  behind = λ others. next (take_step t symbols values token (way.front ++ others) fits) (way.behind others);
  ahead = λ next_one rest others e. next (take_step t symbols values token (way.front ++ next_one ∷ others) fits)
      (way.ahead next_one rest others e);
}

before_taking_rule : (p : Part) (rule : Rule) (symbols : List Symbol) (values : List Written) (token : Token) (tokens : List Token)
    (b : State)
    → choose (rules p) (kind_of token) ≡ Some rule → rule.move ≡ move.Take
    → Way (at (rule.symbols ++ symbols) (leaf token ∷ values) tokens) b → Way (at (symbol.Read p ∷ symbols) values (token ∷ tokens)) b
before_taking_rule p rule symbols values token tokens b chosen takes way = record {
  front = token ∷ way.front;
  symbols = way.symbols;
  values = way.values;
  split = ap (λ x. token ∷ x) way.split;
  behind = λ others. next (step_to (way.front ++ others)) (way.behind others);
  ahead = λ next_one rest others e. next (step_to (way.front ++ next_one ∷ others)) (way.ahead next_one rest others e);
}
  where
    step_to : (others : List Token) → step (symbol.Read p ∷ symbols) values (token ∷ others)
        ≡ Some (at (rule.symbols ++ symbols) (leaf token ∷ values) others)
    step_to others = rw takes at (read_step p rule symbols values token others chosen)

before_staying_rule : (p : Part) (rule : Rule) (symbols : List Symbol) (values : List Written) (token : Token) (tokens : List Token)
    (b : State)
    → choose (rules p) (kind_of token) ≡ Some rule → rule.move ≡ move.Stay
    → Way (at (rule.symbols ++ symbols) values (token ∷ tokens)) b → Way (at (symbol.Read p ∷ symbols) values (token ∷ tokens)) b
before_staying_rule p rule symbols values token tokens b chosen stays way =
    go way.front way.symbols way.values way.split way.behind way.ahead
  where
    step_to : (same : Token) (others : List Token) → token ≡ same
        → step (symbol.Read p ∷ symbols) values (same ∷ others) ≡ Some (at (rule.symbols ++ symbols) values (same ∷ others))
    step_to same others e = rw stays at (read_step p rule symbols values same others (rw e at chosen))

    go : (front : List Token) (symbols' : List Symbol) (values' : List Written) → token ∷ tokens ≡ front ++ b.tokens
        → ((others : List Token) → Reaches (at (rule.symbols ++ symbols) values (front ++ others)) (at symbols' values' others))
        → ((next_one : Token) (rest others : List Token) → b.tokens ≡ next_one ∷ rest
        → Reaches (at (rule.symbols ++ symbols) values (front ++ next_one ∷ others)) (at b.symbols b.values (next_one ∷ others)))
        → Way (at (symbol.Read p ∷ symbols) values (token ∷ tokens)) b
    go [] symbols' values' split behind ahead = record {
      front = [];
      symbols = symbol.Read p ∷ symbols;
      values = values;
      split = split;
      behind = λ others. here;
      ahead = λ next_one rest others e. next (step_to next_one others cc) (ahead next_one rest others e);
    }
    go (first ∷ front) symbols' values' split behind ahead =
        let same : token ≡ first = cc in record {
          front = first ∷ front;
          symbols = symbols';
          values = values';
          split = split;
          behind = λ others. next (step_to first (front ++ others) same) (behind others);
          ahead = λ next_one rest others e. next (step_to first (front ++ next_one ∷ others) same) (ahead next_one rest others e);
        }

-- one step more in front of a way
before_step : (symbols : List Symbol) (values : List Written) (tokens : List Token) (m b : State) → step symbols values tokens ≡ Some m
    → Way m b → Way (at symbols values tokens) b
unfolding step
before_step [] values tokens m b e way = cc
before_step (symbol.Reduce p ∷ symbols) values tokens m b e way =
    let same : m ≡ at symbols (reduce p values) tokens = cc in before_reduce p symbols values tokens b (subst (λ x. Way x b) same way)
before_step (symbol.Take t ∷ symbols) values [] m b e way = cc
before_step (symbol.Take t ∷ symbols) values (token ∷ tokens) m b e way =
    let found = taken t symbols values token tokens m e in
    before_take t symbols values token tokens b found.0 (subst (λ x. Way x b) (sym found.1) way)
before_step (symbol.Read p ∷ symbols) values [] m b e way = cc
before_step (symbol.Read p ∷ symbols) values (token ∷ tokens) m b e way =
    let found = followed p symbols values token tokens m e in
    go found.rule found.rule.move refl found.chosen (subst (λ x. Way x b) (sym found.is) way)
  where
    go : (rule : Rule) (move : Move) → rule.move ≡ move → choose (rules p) (kind_of token) ≡ Some rule
        → Way (moved rule.move (rule.symbols ++ symbols) values token tokens) b
        → Way (at (symbol.Read p ∷ symbols) values (token ∷ tokens)) b
    go rule move.Take is chosen way = before_taking_rule p rule symbols values token tokens b chosen is (rw is at way)
    go rule move.Stay is chosen way = before_staying_rule p rule symbols values token tokens b chosen is (rw is at way)

-- steps take tokens from the front, and look at one more at most
pub way : {a b : State} → Reaches a b → Way a b
way {a} here = none_taken a
way {a} {b} (next {b = m} e rest) = before_step a.symbols a.values a.tokens m b e (way rest)
