-- Each reading stops, and takes no more steps than its tokens pay for.
use Rattle.std.specs.Prelude.{◌≡◌, ℕ, suc, zero, ◌+◌, ◌*◌, ◌<◌, ◌≤◌, Bool, true, false, List, []}
use Rattle.std.specs.Prelude.{◌∷◌, ◌++◌, length, Option, Some, None, refl, cond}
use Rattle.std.proofs.Common.{arith, sym, subst}
use Rattle.csyn.specs.declared.token.Token.{Token}
use Rattle.cgrammar.specs.Kind.{kind_of}
use Rattle.cgrammar.specs.Terminal.{accepts}
use Rattle.cgrammar.specs.declared.terminal.Terminal.{Terminal}
use Rattle.cgrammar.specs.Text.{Written, leaf}
use Rattle.creader.specs.declared.part.Part.{Part}
use Rattle.creader.specs.declared.part.Move.{Move}
use Rattle.creader.specs.declared.part.Move.TheVariants as move
use Rattle.creader.specs.declared.part.Symbol.{Symbol}
use Rattle.creader.specs.declared.part.Symbol.TheVariants as symbol
use Rattle.creader.specs.Machine.{State, at, start, step, moved, follow_rule, Reaches, here, next, count, each_token, most_steps}
use Rattle.creader.specs.Rules.{Rule, rules, choose}
use Rattle.creader.proofs.Reading.Weight.{weigh, kept, ahead, symbol_cost, cost, is_sure, skipped, begun}
use Rattle.creader.proofs.Reading.Weight.{lighter, rule_paid, take_paid, made_paid}

-- what the symbols weigh, and what the tokens that are left will bring
unfoldable left : State → ℕ
left a = weigh a.symbols + each_token * length a.tokens

-- a step leaves less
Less : State → Option State → Type 0
Less a None = Unit {0}
Less a (Some b) = left b < left a

less-by-move : (part : Part) (rule : Rule) (symbols : List Symbol) (values : List Written) (token : Token) (tokens : List Token)
    (m : Move) → m ≡ rule.move
    → choose (rules part) (kind_of token) ≡ Some rule
    → Less (at (symbol.Read part ∷ symbols) values (token ∷ tokens)) (Some (moved m (rule.symbols ++ symbols) values token tokens))
unfolding Less left
less-by-move part rule symbols values token tokens move.Take m chosen =
    let paid = rule_paid part (kind_of token) rule symbols chosen (sym m) in omega arith
less-by-move part rule symbols values token tokens move.Stay m chosen =
    let paid = lighter part (kind_of token) rule symbols chosen (sym m) in omega arith

less-by-rule : (part : Part) (symbols : List Symbol) (values : List Written) (token : Token) (tokens : List Token) (found : Option Rule)
    → choose (rules part) (kind_of token) ≡ found
    → Less (at (symbol.Read part ∷ symbols) values (token ∷ tokens)) (follow_rule found symbols values token tokens)
unfolding Less
less-by-rule part symbols values token tokens None chosen = tt
less-by-rule part symbols values token tokens (Some rule) chosen = less-by-move part rule symbols values token tokens rule.move refl chosen

less-by-token : (t : Terminal) (symbols : List Symbol) (values : List Written) (token : Token) (tokens : List Token) (accepted : Bool)
    → Less (at (symbol.Take t ∷ symbols) values (token ∷ tokens)) (cond accepted (Some (at symbols (leaf token ∷ values) tokens)) None)
unfolding Less left
less-by-token t symbols values token tokens true = let paid = take_paid t symbols in omega arith
less-by-token t symbols values token tokens false = tt

less-at : (symbols : List Symbol) (values : List Written) (tokens : List Token)
    → Less (at symbols values tokens) (step symbols values tokens)
unfolding Less left step
less-at [] values tokens = tt
less-at (symbol.Reduce p ∷ symbols) values tokens = let paid = made_paid p symbols in omega arith
less-at (symbol.Take t ∷ symbols) values [] = tt
less-at (symbol.Take t ∷ symbols) values (token ∷ tokens) = less-by-token t symbols values token tokens (accepts t (kind_of token))
less-at (symbol.Read part ∷ symbols) values [] = tt
less-at (symbol.Read part ∷ symbols) values (token ∷ tokens) =
    less-by-rule part symbols values token tokens (choose (rules part) (kind_of token)) refl

less : (a b : State) → step a.symbols a.values a.tokens ≡ Some b → left b < left a
unfolding Less
less a b e = subst (Less a) e (less-at a.symbols a.values a.tokens)

-- where a reading stops
pub record Halts (from : State) : Type 0 where
  pub symbols : List Symbol
  pub values : List Written
  pub rest : List Token
  pub reached : Reaches from (at symbols values rest)
  pub stuck : step symbols values rest ≡ None

halts-by : (a : State) (found : Option State) → step a.symbols a.values a.tokens ≡ found → ((b : State) → left b < left a → Halts b)
    → Halts a
halts-by a None e later = record { symbols = a.symbols; values = a.values; rest = a.tokens; reached = here; stuck = e }
halts-by a (Some b) e later =
    let halts = later b (less a b e) in
    record { symbols = halts.symbols; values = halts.values; rest = halts.rest; reached = next e halts.reached; stuck = halts.stuck }

halts-within : (n : ℕ) (a : State) → left a < n → Halts a
halts-within zero a h = absurd (omega (arith, h))
halts-within (suc n) a h = halts-by a (step a.symbols a.values a.tokens) refl (λ b l. halts-within n b (omega (arith, l, h)))

pub halts : (a : State) → Halts a
halts a = halts-within (suc (left a)) a (omega arith)

-- each step is paid
counted : {a b : State} (reading : Reaches a b) → count reading + left b ≤ left a
unfolding count
counted here = omega arith
counted {a = a} (next {b = b} e others) = let l = less a b e in omega (arith, l, counted others)

pub few : (tokens : List Token) (a : State) (reading : Reaches (start tokens) a) → count reading ≤ most_steps (length tokens)
unfolding left weigh kept ahead symbol_cost cost is_sure skipped begun
few tokens a reading = let paid = counted reading in omega arith
