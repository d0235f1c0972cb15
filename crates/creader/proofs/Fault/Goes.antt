-- The machine on kinds of tokens alone, which can be computed.
use Rattle.std.proofs.Common.{◌≡◌, ℕ, suc, Bool, true, false, ◌&&◌, List, [], ◌∷◌, ◌++◌, Option, Some, None, refl}
use Rattle.std.specs.Prelude.{zero}
use Rattle.std.specs.Cmp.{first_so, second_so}
use Rattle.csyn.specs.declared.token.Token.{Token}
use Rattle.cgrammar.specs.declared.kind.Kind.{Kind}
use Rattle.creader.specs.declared.part.Part.{Part}
use Rattle.creader.specs.declared.part.Move.{Move}
use Rattle.creader.specs.declared.part.Move.TheVariants as move
use Rattle.creader.specs.declared.part.Symbol.{Symbol}
use Rattle.creader.specs.declared.part.Symbol.TheVariants as symbol
use Rattle.cgrammar.specs.Kind.{kind_of}
use Rattle.cgrammar.specs.Terminal.{accepts}
use Rattle.creader.specs.Rules.{Rule, rules, choose}
use Rattle.creader.proofs.Fault.Samples.{sample, samples, kind-sample}
use Rattle.creader.proofs.Fault.Done.{Done, done_nothing, done_reduce, done_take, done_rule_take, done_rule_stay}

-- In at most n steps the symbols are done with exactly the tokens of these kinds, before a token of the kind that follows.
unfoldable pub goes : ℕ → List Symbol → List Kind → Kind → Bool
goes zero symbols kinds following = false
goes (suc n) [] [] following = true
goes (suc n) [] (kind ∷ kinds) following = false
goes (suc n) (symbol.Reduce p ∷ symbols) kinds following = goes n symbols kinds following
goes (suc n) (symbol.Take t ∷ symbols) [] following = false
goes (suc n) (symbol.Take t ∷ symbols) (kind ∷ kinds) following = accepts t kind && goes n symbols kinds following
goes (suc n) (symbol.Read p ∷ symbols) [] following = elim (choose (rules p) following) [
  | None ↦ false
  | Some rule ↦ elim rule.move [ move.Take ↦ false | move.Stay ↦ goes n (rule.symbols ++ symbols) [] following ]
]
goes (suc n) (symbol.Read p ∷ symbols) (kind ∷ kinds) following = elim (choose (rules p) kind) [
  | None ↦ false
  | Some rule ↦ elim rule.move [
    | move.Take ↦ goes n (rule.symbols ++ symbols) kinds following
    | move.Stay ↦ goes n (rule.symbols ++ symbols) (kind ∷ kinds) following
  ]
]

-- what is known of fewer steps
abbrev Fewer : ℕ → Token → List Token → Type 0
Fewer n token tokens = (symbols : List Symbol) (kinds : List Kind) → goes n symbols kinds (kind_of token) ≡ true
    → Done symbols (samples kinds) (token ∷ tokens)

read_last : (n : ℕ) (p : Part) (symbols : List Symbol) (token : Token) (tokens : List Token) → Fewer n token tokens
    → goes (suc n) (symbol.Read p ∷ symbols) [] (kind_of token) ≡ true → Done (symbol.Read p ∷ symbols) [] (token ∷ tokens)
unfolding goes
read_last n p symbols token tokens fewer h = go (choose (rules p) (kind_of token)) refl
  where
    follow : (rule : Rule) → choose (rules p) (kind_of token) ≡ Some rule → (m : Move) → rule.move ≡ m
        → Done (symbol.Read p ∷ symbols) [] (token ∷ tokens)
    follow rule chosen move.Take is = let h' = rw (chosen, is, goes) at h in cc
    follow rule chosen move.Stay is =
        done_rule_stay p rule symbols token [] (token ∷ tokens) tokens chosen is refl
        (fewer (rule.symbols ++ symbols) [] (rw (chosen, is, goes) at h))

    go : (found : Option Rule) → choose (rules p) (kind_of token) ≡ found → Done (symbol.Read p ∷ symbols) [] (token ∷ tokens)
    go None chosen = let h' = rw (chosen, goes) at h in cc
    go (Some rule) chosen = follow rule chosen rule.move refl

read_more : (n : ℕ) (p : Part) (symbols : List Symbol) (kind : Kind) (kinds : List Kind) (token : Token) (tokens : List Token)
    → Fewer n token tokens
    → goes (suc n) (symbol.Read p ∷ symbols) (kind ∷ kinds) (kind_of token) ≡ true
    → Done (symbol.Read p ∷ symbols) (samples (kind ∷ kinds)) (token ∷ tokens)
unfolding goes
read_more n p symbols kind kinds token tokens fewer h = go (choose (rules p) kind) refl
  where
    on_sample : (rule : Rule) → choose (rules p) kind ≡ Some rule → choose (rules p) (kind_of (sample kind)) ≡ Some rule
    on_sample rule chosen = rw kind-sample chosen

    follow : (rule : Rule) → choose (rules p) kind ≡ Some rule → (m : Move) → rule.move ≡ m
        → Done (symbol.Read p ∷ symbols) (samples (kind ∷ kinds)) (token ∷ tokens)
    follow rule chosen move.Take is =
        done_rule_take p rule symbols (sample kind) (samples kinds) (token ∷ tokens) (on_sample rule chosen) is
        (fewer (rule.symbols ++ symbols) kinds (rw (chosen, is, goes) at h))
    follow rule chosen move.Stay is =
        done_rule_stay p rule symbols (sample kind) (samples (kind ∷ kinds)) (token ∷ tokens) (samples kinds ++ token ∷ tokens)
        (on_sample rule chosen) is refl (fewer (rule.symbols ++ symbols) (kind ∷ kinds) (rw (chosen, is, goes) at h))

    go : (found : Option Rule) → choose (rules p) kind ≡ found → Done (symbol.Read p ∷ symbols) (samples (kind ∷ kinds)) (token ∷ tokens)
    go None chosen = let h' = rw (chosen, goes) at h in cc
    go (Some rule) chosen = follow rule chosen rule.move refl

-- so does the machine on tokens of these kinds
pub goes_on_tokens : (n : ℕ) (symbols : List Symbol) (kinds : List Kind) (token : Token) (tokens : List Token)
    → goes n symbols kinds (kind_of token) ≡ true → Done symbols (samples kinds) (token ∷ tokens)
unfolding goes
goes_on_tokens zero symbols kinds token tokens h = cc
goes_on_tokens (suc n) [] [] token tokens h = done_nothing (token ∷ tokens)
goes_on_tokens (suc n) [] (kind ∷ kinds) token tokens h = cc
goes_on_tokens (suc n) (symbol.Reduce p ∷ symbols) kinds token tokens h =
    done_reduce p symbols (samples kinds) (token ∷ tokens) (goes_on_tokens n symbols kinds token tokens h)
goes_on_tokens (suc n) (symbol.Take t ∷ symbols) [] token tokens h = cc
goes_on_tokens (suc n) (symbol.Take t ∷ symbols) (kind ∷ kinds) token tokens h =
    done_take t symbols (sample kind) (samples kinds) (token ∷ tokens) (rw kind-sample (first_so _ _ h))
    (goes_on_tokens n symbols kinds token tokens (second_so (accepts t kind) _ h))
goes_on_tokens (suc n) (symbol.Read p ∷ symbols) [] token tokens h =
    read_last n p symbols token tokens (λ symbols' kinds'. goes_on_tokens n symbols' kinds' token tokens) h
goes_on_tokens (suc n) (symbol.Read p ∷ symbols) (kind ∷ kinds) token tokens h =
    read_more n p symbols kind kinds token tokens (λ symbols' kinds'. goes_on_tokens n symbols' kinds' token tokens) h
