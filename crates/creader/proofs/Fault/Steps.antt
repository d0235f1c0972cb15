-- The machine has one way only, and what makes a step.
use Rattle.std.proofs.Common.{◌≡◌, Bool, true, false, List, ◌∷◌, ◌++◌, Option, Some, None, refl, subst}
use Rattle.csyn.specs.declared.token.Token.{Token}
use Rattle.cgrammar.specs.declared.terminal.Terminal.{Terminal}
use Rattle.creader.specs.declared.part.Part.{Part}
use Rattle.creader.specs.declared.part.Symbol.{Symbol}
use Rattle.creader.specs.declared.part.Symbol.TheVariants as symbol
use Rattle.cgrammar.specs.Kind.{kind_of}
use Rattle.cgrammar.specs.Terminal.{accepts}
use Rattle.creader.specs.Rules.{Rule, rules, choose}
use Rattle.cgrammar.specs.Text.{Written, leaf}
use Rattle.creader.specs.Machine.{State, at, moved, step, Reaches, here, next}

-- no step leads on
abbrev pub Stops : State → Type 0
Stops a = step a.symbols a.values a.tokens ≡ None

-- each state that is reached is on the way to where it stops
pub on_the_way : {a b c : State} → Reaches a b → Reaches a c → Stops c → Reaches b c
on_the_way here way stop = way
on_the_way (next e _) here stop = cc
on_the_way {c = c} (next {b = b} e one) (next {b = b'} e' other) stop =
    let same : b' ≡ b = cc in on_the_way one (subst (λ x. Reaches x c) same other) stop

stopped : {a b : State} → Reaches a b → Stops a → a ≡ b
stopped here stop = refl
stopped (next e _) stop = cc

-- it stops in one state only
pub one_end : {a b c : State} → Reaches a b → Reaches a c → Stops b → Stops c → b ≡ c
one_end one other stop stop' = stopped (on_the_way one other stop') stop

-- steps, and then more steps
pub onwards : {a b c : State} → Reaches a b → Reaches b c → Reaches a c
onwards here way = way
onwards (next e one) way = next e (onwards one way)

-- the step by which an accepted token is taken
pub take_step : (t : Terminal) (symbols : List Symbol) (values : List Written) (token : Token) (tokens : List Token)
    → accepts t (kind_of token) ≡ true
    → step (symbol.Take t ∷ symbols) values (token ∷ tokens) ≡ Some (at symbols (leaf token ∷ values) tokens)
unfolding step
take_step t symbols values token tokens fits = rw fits refl

-- the step by which a rule is followed
pub read_step : (p : Part) (rule : Rule) (symbols : List Symbol) (values : List Written) (token : Token) (tokens : List Token)
    → choose (rules p) (kind_of token) ≡ Some rule
    → step (symbol.Read p ∷ symbols) values (token ∷ tokens) ≡ Some (moved rule.move (rule.symbols ++ symbols) values token tokens)
unfolding step
read_step p rule symbols values token tokens chosen = rw chosen refl

-- a token was taken because it was accepted
pub taken : (t : Terminal) (symbols : List Symbol) (values : List Written) (token : Token) (tokens : List Token) (b : State)
    → step (symbol.Take t ∷ symbols) values (token ∷ tokens) ≡ Some b
    → (accepts t (kind_of token) ≡ true) × (at symbols (leaf token ∷ values) tokens ≡ b)
unfolding step
taken t symbols values token tokens b e = go (accepts t (kind_of token)) refl
  where
    go : (answer : Bool) → accepts t (kind_of token) ≡ answer
        → (accepts t (kind_of token) ≡ true) × (at symbols (leaf token ∷ values) tokens ≡ b)
    go true fits = (fits, let e' = rw fits at e in cc)
    go false fails = let e' = rw fails at e in cc

-- a part was replaced because a rule was chosen
pub record Followed (p : Part) (symbols : List Symbol) (values : List Written) (token : Token) (tokens : List Token) (b : State) :
    Type 0 where
  pub rule : Rule
  pub chosen : choose (rules p) (kind_of token) ≡ Some rule
  pub is : moved rule.move (rule.symbols ++ symbols) values token tokens ≡ b

pub followed : (p : Part) (symbols : List Symbol) (values : List Written) (token : Token) (tokens : List Token) (b : State)
    → step (symbol.Read p ∷ symbols) values (token ∷ tokens) ≡ Some b → Followed p symbols values token tokens b
unfolding step
followed p symbols values token tokens b e = go (choose (rules p) (kind_of token)) refl
  where
    go : (found : Option Rule) → choose (rules p) (kind_of token) ≡ found → Followed p symbols values token tokens b
    go None fails = let e' = rw fails at e in cc
    go (Some rule) chosen = let e' = rw chosen at e in record { rule = rule; chosen = chosen; is = cc }
