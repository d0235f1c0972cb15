-- Steps of the reader, forwards and backwards.
use Rattle.std.specs.Prelude.{◌≡◌, ℕ, suc, ◌+◌, Bool, true, false, nat_eq, List, [], ◌∷◌, ◌++◌, length, Some, None, if◌then◌else◌}
use Rattle.std.proofs.Common.{refl, ap, arith, length-append}
use Rattle.std.proofs.lemmas.Bool.{eqb-true}
use Rattle.csyn.specs.declared.token.Token.{Token}
use Rattle.cgrammar.specs.declared.kind.Kind.{Kind}
use Rattle.cgrammar.specs.declared.production.Production.{Production}
use Rattle.cgrammar.specs.declared.terminal.Terminal.{Terminal}
use Rattle.creader.specs.declared.part.Part.{Part}
use Rattle.creader.specs.declared.part.Symbol.{Symbol}
use Rattle.creader.specs.declared.part.Symbol.TheVariants as symbol
use Rattle.cgrammar.specs.Kind.{kind_of}
use Rattle.cgrammar.specs.Terminal.{accepts}
use Rattle.creader.specs.Rules.{Rule, rules, choose, any_accepts}
use Rattle.cgrammar.specs.Grammar.{Piece, template}
use Rattle.cgrammar.specs.Text.{Written, leaf, node, Forest, none, more, Match}
use Rattle.creader.specs.Machine.{State, at, Reaches, here, next, step, moved, gather, reduce}
use Rattle.creader.proofs.Complete.Kinds.{entry}

-- one way and then another
pub join : {a b c : State} → Reaches a b → Reaches b c → Reaches a c
join here q = q
join (next e p) q = next e (join p q)

-- the first step on the way to another state
pub data First (a c : State) : Type 0 where
  stayed : a ≡ c → First a c
  went : {b : State} → step a.symbols a.values a.tokens ≡ Some b → Reaches b c → First a c

-- each way begins so
first : {a c : State} → Reaches a c → First a c
first here = stayed refl
first (next e p) = went e p

-- what is reached by way of a step that is taken, if it is not the state before it
pub after-step : {a b c : State} → step a.symbols a.values a.tokens ≡ Some b → Reaches a c → (a ≡ c → ⊥) → Reaches b c
after-step {a} {b} {c} e p differ = go (first p)
  where
    go : First a c → Reaches b c
    go (stayed same) = absurd (differ same)
    go (went {b = b'} e' q) = let same : b' ≡ b = cc in rw same at q

-- a state without a step reaches no other
pub stuck : {a c : State} → step a.symbols a.values a.tokens ≡ None → Reaches a c → (a ≡ c → ⊥) → ⊥
stuck {a} {c} e p differ = go (first p)
  where
    go : First a c → ⊥
    go (stayed same) = differ same
    go (went e' q) = cc

-- the symbols shrink on the way to what is left of them
pub longer : (s : Symbol) (front symbols : List Symbol) {values others : List Written} {tokens left : List Token}
    → at (s ∷ front ++ symbols) values tokens ≡ at symbols others left → ⊥
longer s front symbols e =
    let h : length (s ∷ front ++ symbols) ≡ length symbols = ap (λ (a : State). length a.symbols) e in
    let k : length (front ++ symbols) ≡ length front + length symbols = length-append front symbols in
    omega arith

-- the steps forwards
pub take-step : (t : Terminal) (symbols : List Symbol) (values : List Written) (token : Token) (tokens : List Token)
    → accepts t (kind_of token) ≡ true → Reaches (at (symbol.Take t ∷ symbols) values (token ∷ tokens))
    (at symbols (leaf token ∷ values) tokens)
unfolding step
take-step t symbols values token tokens h = next (rw h refl) here

pub reduce-step : (p : Production) (symbols : List Symbol) (values : List Written) (tokens : List Token)
    → Reaches (at (symbol.Reduce p ∷ symbols) values tokens) (at symbols (reduce p values) tokens)
unfolding step
reduce-step p symbols values tokens = next refl here

pub read-step : (p : Part) (rule : Rule) (symbols : List Symbol) (values : List Written) (token : Token) (tokens : List Token)
    → choose (rules p) (kind_of token) ≡ Some rule
    → Reaches (at (symbol.Read p ∷ symbols) values (token ∷ tokens)) (moved rule.move (rule.symbols ++ symbols) values token tokens)
unfolding step
read-step p rule symbols values token tokens h = next (rw h refl) here

-- which of the rules is chosen
unfoldable pub chosen : List Rule → Kind → ℕ
chosen [] kind = 0
chosen (rule ∷ others) kind = if any_accepts rule.on kind then 0 else suc (chosen others kind)

-- it stands at its place
choose-chosen : (rs : List Rule) (kind : Kind) → choose rs kind ≡ entry (chosen rs kind) rs
unfolding choose chosen entry
choose-chosen [] kind = refl
choose-chosen (rule ∷ others) kind = go (any_accepts rule.on kind) refl (choose-chosen others kind)
  where
    go : (b : Bool) → any_accepts rule.on kind ≡ b → choose others kind ≡ entry (chosen others kind) others
        → choose (rule ∷ others) kind ≡ entry (chosen (rule ∷ others) kind) (rule ∷ others)
    go true e h = rw e refl
    go false e h = rw e h

-- the same where the place is known
pub choose-at : (p : Part) (kind : Kind) (i : ℕ) → nat_eq (chosen (rules p) kind) i ≡ true → choose (rules p) kind ≡ entry i (rules p)
choose-at p kind i h = let e = eqb-true (chosen (rules p) kind) i h in rw e at (choose-chosen (rules p) kind)

-- the values that the trees of a forest become, the last first
unfoldable pub push : Forest → List Written → List Written
push none values = values
push (more w f) values = push f (w ∷ values)

-- how many trees, and one forest before another
unfoldable counted : Forest → ℕ → ℕ
counted none n = n
counted (more w f) n = counted f (suc n)

unfoldable joined : Forest → Forest → Forest
joined none g = g
joined (more w f) g = more w (joined f g)

joined-none : (f : Forest) → joined f none ≡ f
unfolding joined
joined-none none = refl
joined-none (more w f) = ap (more w) (joined-none f)

-- they are gathered again
gather-push : (f g : Forest) (n : ℕ) (values : List Written) → gather (counted f n) (push f values) g ≡ gather n values (joined f g)
unfolding gather counted push joined
gather-push none g n values = refl
gather-push (more w f) g n values = gather-push f g (suc n) (w ∷ values)

-- as many as the pieces that they match
counted-match : (pieces : List Piece) (f : Forest) (n : ℕ) → Match pieces f → counted f n ≡ length pieces + n
unfolding Match counted
counted-match [] none n m = omega arith
counted-match [] (more w f) n m = absurd m
counted-match (piece ∷ pieces) none n m = absurd m
counted-match (piece ∷ pieces) (more w f) n m = let h = counted-match pieces f (suc n) m.3 in omega (arith, h)

-- the values of a production's parts become one
pub reduce-push : (p : Production) (f : Forest) (values : List Written) → Match (template p) f
    → reduce p (push f values) ≡ node p f ∷ values
unfolding reduce gather
reduce-push p f values m =
    let n : length (template p) ≡ counted f 0 = let h = counted-match (template p) f 0 m in omega arith in
    let g = gather-push f none 0 values in
    rw (n, g, joined-none f) refl
