-- Steps that take no token, and the step that takes one, computed from the symbols and the kind of the next token.
use Rattle.std.proofs.Common.{◌≡◌, ℕ, zero, suc, Bool, true, false, List, [], ◌∷◌, ◌++◌, Option, Some}
use Rattle.std.proofs.Common.{None, refl, sym, subst, true≢false, append_assoc}
use Rattle.csyn.specs.declared.token.Token.{Token}
use Rattle.cgrammar.specs.declared.kind.Kind.{Kind}
use Rattle.creader.specs.declared.part.Part.{Part}
use Rattle.creader.specs.declared.part.Move.{Move}
use Rattle.creader.specs.declared.part.Move.TheVariants as move
use Rattle.creader.specs.declared.part.Symbol.{Symbol}
use Rattle.creader.specs.declared.part.Symbol.TheVariants as symbol
use Rattle.cgrammar.specs.Kind.{kind_of}
use Rattle.creader.specs.Rules.{Rule, rules, choose}
use Rattle.cgrammar.specs.Text.{Written, leaf}
use Rattle.creader.specs.Machine.{at, moved, Reaches}
use Rattle.creader.proofs.Complete.Steps.{join, read-step}
use Rattle.creader.proofs.Complete.Expressions.Symbols.{same, same-path}

-- one step that leaves the token, if the rule is of that kind
unfoldable pub stayed_by : Move → List Symbol → List Symbol → List Symbol → List Symbol
stayed_by move.Stay symbols others as_it_was = symbols ++ others
stayed_by move.Take symbols others as_it_was = as_it_was

unfoldable pub stayed : Option Rule → List Symbol → List Symbol → List Symbol
stayed None others as_it_was = as_it_was
stayed (Some rule) others as_it_was = stayed_by rule.move rule.symbols others as_it_was

unfoldable pub once : List Symbol → Kind → List Symbol
once (symbol.Read p ∷ symbols) kind = stayed (choose (rules p) kind) symbols (symbol.Read p ∷ symbols)
once symbols kind = symbols

module _ (p : Part) (symbols more : List Symbol) (values : List Written) (t : Token) (tokens : List Token) where
  once_by_move : (m : Move) (replaced : List Symbol)
      → Reaches (at (symbol.Read p ∷ (symbols ++ more)) values (t ∷ tokens)) (moved m (replaced ++ (symbols ++ more)) values t tokens)
      → Reaches (at (symbol.Read p ∷ (symbols ++ more)) values (t ∷ tokens))
      (at (stayed_by m replaced symbols (symbol.Read p ∷ symbols) ++ more) values (t ∷ tokens))
  unfolding stayed_by
  once_by_move move.Stay replaced h = rw append_assoc h
  once_by_move move.Take replaced h = Reaches.here

  once_by_rule : (chosen : Option Rule) → choose (rules p) (kind_of t) ≡ chosen
      → Reaches (at (symbol.Read p ∷ (symbols ++ more)) values (t ∷ tokens))
      (at (stayed chosen symbols (symbol.Read p ∷ symbols) ++ more) values (t ∷ tokens))
  unfolding stayed
  once_by_rule None e = Reaches.here
  once_by_rule (Some rule) e = once_by_move rule.move rule.symbols (read-step p rule (symbols ++ more) values t tokens e)

pub once-reaches : (symbols more : List Symbol) (values : List Written) (t : Token) (tokens : List Token)
    → Reaches (at (symbols ++ more) values (t ∷ tokens)) (at (once symbols (kind_of t) ++ more) values (t ∷ tokens))
unfolding once
once-reaches [] more values t tokens = Reaches.here
once-reaches (symbol.Read p ∷ symbols) more values t tokens =
    once_by_rule p symbols more values t tokens (choose (rules p) (kind_of t)) refl
once-reaches (_ ∷ symbols) more values t tokens = Reaches.here

-- so many steps, as long as they leave the token
unfoldable pub settle : ℕ → List Symbol → Kind → List Symbol
settle zero symbols kind = symbols
settle (suc n) symbols kind = settle n (once symbols kind) kind

pub settle-reaches : (n : ℕ) (symbols more : List Symbol) (values : List Written) (t : Token) (tokens : List Token)
    → Reaches (at (symbols ++ more) values (t ∷ tokens)) (at (settle n symbols (kind_of t) ++ more) values (t ∷ tokens))
unfolding settle
settle-reaches zero symbols more values t tokens = Reaches.here
settle-reaches (suc n) symbols more values t tokens =
    join (once-reaches symbols more values t tokens) (settle-reaches n (once symbols (kind_of t)) more values t tokens)

-- what the symbols become before a token of that kind, if no token is taken
unfoldable pub settles : List Symbol → Kind → List Symbol → Bool
settles symbols kind wanted = same (settle 16 symbols kind) wanted

pub settles-reaches : (symbols wanted more : List Symbol) (values : List Written) (t : Token) (tokens : List Token)
    → settles symbols (kind_of t) wanted ≡ true
    → Reaches (at (symbols ++ more) values (t ∷ tokens)) (at (wanted ++ more) values (t ∷ tokens))
unfolding settles
settles-reaches symbols wanted more values t tokens h =
    subst (λ s. Reaches (at (symbols ++ more) values (t ∷ tokens)) (at (s ++ more) values (t ∷ tokens)))
    (same-path (settle 16 symbols (kind_of t)) wanted h) (settle-reaches 16 symbols more values t tokens)

-- the same, with the token taken at last
unfoldable pub taken_by : Move → List Symbol → List Symbol → Bool
taken_by move.Take found wanted = same found wanted
taken_by move.Stay found wanted = false

unfoldable pub taken : Option Rule → List Symbol → List Symbol → Bool
taken None others wanted = false
taken (Some rule) others wanted = taken_by rule.move (rule.symbols ++ others) wanted

unfoldable pub takes_now : List Symbol → Kind → List Symbol → Bool
takes_now (symbol.Read p ∷ symbols) kind wanted = taken (choose (rules p) kind) symbols wanted
takes_now _ kind wanted = false

unfoldable pub takes : List Symbol → Kind → List Symbol → Bool
takes symbols kind wanted = takes_now (settle 16 symbols kind) kind wanted

module _ (p : Part) (symbols wanted more : List Symbol) (values : List Written) (t : Token) (tokens : List Token) where
  taken_by_move : (m : Move) (replaced : List Symbol)
      → Reaches (at (symbol.Read p ∷ (symbols ++ more)) values (t ∷ tokens)) (moved m (replaced ++ (symbols ++ more)) values t tokens)
      → taken_by m (replaced ++ symbols) wanted ≡ true
      → Reaches (at (symbol.Read p ∷ (symbols ++ more)) values (t ∷ tokens)) (at (wanted ++ more) (leaf t ∷ values) tokens)
  unfolding taken_by
  taken_by_move move.Stay replaced r h = absurd (true≢false (sym h))
  taken_by_move move.Take replaced r h = rw (← same-path (replaced ++ symbols) wanted h, append_assoc) r

  taken_by_rule : (chosen : Option Rule) → choose (rules p) (kind_of t) ≡ chosen → taken chosen symbols wanted ≡ true
      → Reaches (at (symbol.Read p ∷ (symbols ++ more)) values (t ∷ tokens)) (at (wanted ++ more) (leaf t ∷ values) tokens)
  unfolding taken
  taken_by_rule None e h = absurd (true≢false (sym h))
  taken_by_rule (Some rule) e h = taken_by_move rule.move rule.symbols (read-step p rule (symbols ++ more) values t tokens e) h

pub takes_now-reaches : (symbols wanted more : List Symbol) (values : List Written) (t : Token) (tokens : List Token)
    → takes_now symbols (kind_of t) wanted ≡ true
    → Reaches (at (symbols ++ more) values (t ∷ tokens)) (at (wanted ++ more) (leaf t ∷ values) tokens)
unfolding takes_now
takes_now-reaches (symbol.Read p ∷ symbols) wanted more values t tokens h =
    taken_by_rule p symbols wanted more values t tokens (choose (rules p) (kind_of t)) refl h
takes_now-reaches _ wanted more values t tokens h = absurd (true≢false (sym h))

pub takes-reaches : (symbols wanted more : List Symbol) (values : List Written) (t : Token) (tokens : List Token)
    → takes symbols (kind_of t) wanted ≡ true
    → Reaches (at (symbols ++ more) values (t ∷ tokens)) (at (wanted ++ more) (leaf t ∷ values) tokens)
unfolding takes
takes-reaches symbols wanted more values t tokens h =
    join (settle-reaches 16 symbols more values t tokens) (takes_now-reaches (settle 16 symbols (kind_of t)) wanted more values t tokens h)
