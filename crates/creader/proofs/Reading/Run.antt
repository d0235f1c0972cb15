-- Whole runs of the reader are runs of the machine.
use Rattle.std.specs.Prelude.{◌≡◌, Bool, true, false, List, [], ◌∷◌, None, refl}
use Rattle.std.proofs.Common.{ap, subst, ◌∙◌}
use Rattle.csyn.specs.declared.token.Token.{Token}
use Rattle.cgrammar.specs.declared.kind.Kind.{Kind}
use Rattle.creader.specs.declared.part.Symbol.{Symbol}
use Rattle.creader.specs.declared.part.Symbol.TheVariants as symbol
use Rattle.cgrammar.specs.Kind.{kind_of}
use Rattle.cgrammar.specs.Text.{Written}
use Rattle.creader.specs.declared.reader.Progress.TheVariants as progress
use Rattle.creader.specs.Machine as machine
use Rattle.creader.specs.Machine.{State, at, Reaches, here, next, reduce}
use Rattle.creader.specs.Reader as specs
use Rattle.creader.specs.Reader.{Held, Moves, Feeds, reduced, finished}
use Rattle.creader.proofs.Fault.Steps.{onwards}
use Rattle.creader.proofs.Reading.Represents.{Represents}
use Rattle.creader.proofs.Reading.Reduced.{represents-reduced}
use Rattle.creader.proofs.Reading.Simulated.{Simulated, simulated, with-symbols}

-- a state of the machine that the reader stands for
pub record Run (from : State) (h : Held) (tokens : List Token) : Type 0 where
  pub values : List Written
  pub reaches : Reaches from (at h.symbols values tokens)
  pub represents : Represents h values

-- the steps of the code that take no token are steps of the machine
moves-run : (from : State) (token : Token) (tokens : List Token) {kind : Kind} {a b : Held} → kind_of token ≡ kind → Moves kind a b
    → Run from a (token ∷ tokens) → Run from b (token ∷ tokens)
unfolding Simulated
moves-run from token tokens same specs.none run = run
moves-run from token tokens same (specs.more {b = b} {c = c} moves last) run =
    let before = moves-run from token tokens same moves run in
    let step = simulated b c progress.Moved before.values token tokens before.represents (ap (λ k. specs.step k b) same ∙ last) in
    record { values = step.0; reaches = onwards before.reaches (next step.1 here); represents = step.2 }

-- a token that is taken
pub fed : (from : State) (token : Token) (tokens : List Token) (before after : Held) → Feeds (kind_of token) true before after
    → Run from before (token ∷ tokens) → Run from after tokens
unfolding Simulated
fed from token tokens before after feeds run =
    let middle = moves-run from token tokens refl feeds.moves run in
    let step = simulated feeds.between after progress.Taken middle.values token tokens middle.represents feeds.last in
    record { values = step.0; reaches = onwards middle.reaches (next step.1 here); represents = step.2 }

-- a state without a step
pub record Stops (from : State) (tokens : List Token) : Type 0 where
  pub symbols : List Symbol
  pub values : List Written
  pub reaches : Reaches from (at symbols values tokens)
  pub stops : machine.step symbols values tokens ≡ None

-- a token that can't be taken
pub not-fed : (from : State) (token : Token) (tokens : List Token) (before after : Held) → Feeds (kind_of token) false before after
    → Run from before (token ∷ tokens) → Stops from (token ∷ tokens)
unfolding Simulated
not-fed from token tokens before after feeds run =
    let middle = moves-run from token tokens refl feeds.moves run in
    record {
      symbols = feeds.between.symbols;
      values = middle.values;
      reaches = middle.reaches;
      stops = simulated feeds.between after progress.Stuck middle.values token tokens middle.represents feeds.last;
    }

-- the productions behind the last token
finished-at : (from : State) (symbols : List Symbol) (h after : Held) (values : List Written) → Reaches from (at symbols values [])
    → Represents h values
    → ◌≡◌ {A = Bool × Held} (finished symbols h) (true, after) → Run from (record after { symbols = [] }) []
unfolding machine.step
finished-at from [] h after values reaches r e =
    let same : h ≡ after = ap (λ (x : Bool × Held). x.1) e in
    let kept : Represents after values = subst (λ x. Represents x values) same r in
    record { values = values; reaches = reaches; represents = with-symbols [] after values kept }
finished-at from (symbol.Reduce production ∷ symbols) h after values reaches r e =
    finished-at from symbols (reduced production (record h { symbols = symbols })) after (reduce production values)
    (onwards reaches (next refl here))
    (represents-reduced (record h { symbols = symbols }) values production (with-symbols symbols h values r)) e
finished-at from (symbol.Take terminal ∷ symbols) h after values reaches r e =
    let other : false ≡ true = ap (λ (x : Bool × Held). x.0) e in absurd (cc)
finished-at from (symbol.Read part ∷ symbols) h after values reaches r e =
    let other : false ≡ true = ap (λ (x : Bool × Held). x.0) e in absurd (cc)

-- nothing is left to do
pub ended : (from : State) (before after : Held) → ◌≡◌ {A = Bool × Held} (finished before.symbols before) (true, after) → Run from before []
    → Run from (record after { symbols = [] }) []
ended from before after e run = finished-at from before.symbols before after run.values run.reaches run.represents e

unfinished-at : (from : State) (symbols : List Symbol) (h after : Held) (values : List Written) → Reaches from (at symbols values [])
    → ◌≡◌ {A = Bool × Held} (finished symbols h) (false, after) → (stop : Stops from []) × (stop.symbols ≡ [] → ⊥)
unfolding machine.step
unfinished-at from [] h after values reaches e =
    let other : true ≡ false = ap (λ (x : Bool × Held). x.0) e in absurd (cc)
unfinished-at from (symbol.Reduce production ∷ symbols) h after values reaches e =
    unfinished-at from symbols (reduced production (record h { symbols = symbols })) after (reduce production values)
    (onwards reaches (next refl here)) e
unfinished-at from (symbol.Take terminal ∷ symbols) h after values reaches e =
    (record { symbols = symbol.Take terminal ∷ symbols; values = values; reaches = reaches; stops = refl }, λ none. absurd (cc))
unfinished-at from (symbol.Read part ∷ symbols) h after values reaches e =
    (record { symbols = symbol.Read part ∷ symbols; values = values; reaches = reaches; stops = refl }, λ none. absurd (cc))

-- something is left that wants a token
pub not-ended : (from : State) (before after : Held) → ◌≡◌ {A = Bool × Held} (finished before.symbols before) (false, after)
    → Run from before []
    → (stop : Stops from []) × (stop.symbols ≡ [] → ⊥)
not-ended from before after e run = unfinished-at from before.symbols before after run.values run.reaches e
