-- What the reader does is what the machine does.
use Rattle.std.specs.Prelude.{◌≡◌, Bool, true, false, List, [], ◌∷◌, ◌++◌, Option, Some, None, refl, cond}
use Rattle.std.proofs.Common.{subst}
use Rattle.csyn.specs.declared.token.Token.{Token}
use Rattle.creader.specs.declared.part.Move.{Move}
use Rattle.creader.specs.declared.part.Move.TheVariants as move
use Rattle.creader.specs.declared.part.Symbol.{Symbol}
use Rattle.creader.specs.declared.part.Symbol.TheVariants as symbol
use Rattle.cgrammar.specs.Kind.{kind_of}
use Rattle.cgrammar.specs.Terminal.{accepts}
use Rattle.creader.specs.Rules.{Rule, rules, choose}
use Rattle.cgrammar.specs.Text.{Written, leaf}
use Rattle.creader.specs.declared.reader.Progress.{Progress}
use Rattle.creader.specs.declared.reader.Progress.TheVariants as progress
use Rattle.creader.specs.Machine as machine
use Rattle.creader.specs.Machine.{State, at, Reaches, here, next, follow_rule, reduce}
use Rattle.creader.specs.Reader as specs
use Rattle.creader.specs.Reader.{Held, taken, reduced, pushed, followed, Moves, finished}
use Rattle.creader.proofs.Reading.Represents.{Represents, represents-token}
use Rattle.creader.proofs.Reading.Reduced.{represents-reduced}

-- the machine's step for each progress
unfoldable pub Simulated : Progress → Held → Token → List Token → Option State → Type 0
Simulated progress.Moved h token tokens result = (values : List Written) × (result ≡ Some (at h.symbols values (token ∷ tokens)))
    × Represents h values
Simulated progress.Taken h token tokens result = (values : List Written) × (result ≡ Some (at h.symbols values tokens))
    × Represents h values
Simulated progress.Stuck h token tokens result = result ≡ None

-- the symbols don't count
pub with-symbols : (symbols : List Symbol) (h : Held) (values : List Written) → Represents h values
    → Represents (record h { symbols = symbols }) values
with-symbols symbols h values r = record { firsts = r.firsts; entries = r.entries; place = r.place }

by-move : (way : Move) (h : Held) (values : List Written) (token : Token) (tokens : List Token) → Represents h values
    → let r = specs.moved way h in Simulated r.0 r.1 token tokens (Some (machine.moved way h.symbols values token tokens))
unfolding Simulated
by-move move.Take h values token tokens r = (leaf token ∷ values, refl, represents-token h values token r)
by-move move.Stay h values token tokens r = (values, refl, r)

by-rule : (found : Option Rule) (symbols : List Symbol) (h : Held) (values : List Written) (token : Token) (tokens : List Token)
    → Represents h values
    → let r = followed found (record h { symbols = symbols }) in
    Simulated r.0 r.1 token tokens (follow_rule found symbols values token tokens)
unfolding Simulated
by-rule None symbols h values token tokens r = refl
by-rule (Some rule) symbols h values token tokens r =
    by-move rule.move (pushed rule.symbols (record h { symbols = symbols })) values token tokens
    (with-symbols (rule.symbols ++ symbols) h values r)

by-token : (accepted : Bool) (symbols : List Symbol) (h : Held) (values : List Written) (token : Token) (tokens : List Token)
    → Represents h values
    → let x : Progress × Held = cond accepted
    (progress.Taken, taken (record h { symbols = symbols })) (progress.Stuck, record h { symbols = symbols }) in
    Simulated x.0 x.1 token tokens (cond accepted (Some (at symbols (leaf token ∷ values) tokens)) None)
unfolding Simulated
by-token true symbols h values token tokens r =
    (leaf token ∷ values, refl, represents-token (record h { symbols = symbols }) values token (with-symbols symbols h values r))
by-token false symbols h values token tokens r = refl

-- a step of the code is a step of the machine
simulated-at : (symbols : List Symbol) (h : Held) (values : List Written) (token : Token) (tokens : List Token) → Represents h values
    → let r = specs.step_by symbols (kind_of token) h in Simulated r.0 r.1 token tokens (machine.step symbols values (token ∷ tokens))
unfolding Simulated machine.step
simulated-at [] h values token tokens r = refl
simulated-at (symbol.Reduce production ∷ symbols) h values token tokens r = (
  reduce production values,
  refl,
  represents-reduced (record h { symbols = symbols }) values production
      (with-symbols symbols h values r),
)
simulated-at (symbol.Take terminal ∷ symbols) h values token tokens r =
    by-token (accepts terminal (kind_of token)) symbols h values token tokens r
simulated-at (symbol.Read part ∷ symbols) h values token tokens r =
    by-rule (choose (rules part) (kind_of token)) symbols h values token tokens r

-- one step of the reader is one of the machine
pub simulated : (before after : Held) (did : Progress) (values : List Written) (token : Token) (tokens : List Token)
    → Represents before values
    → specs.step (kind_of token) before ≡ (did, after) → Simulated did after token tokens
    (machine.step before.symbols values (token ∷ tokens))
simulated before after did values token tokens r e =
    let result = machine.step before.symbols values (token ∷ tokens) in
    subst (λ (x : Progress × Held). Simulated x.0 x.1 token tokens result) e (simulated-at before.symbols before values token tokens r)
