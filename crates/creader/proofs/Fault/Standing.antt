-- What the symbols are on the way from the start: they can be completed, and the end token is taken last.
use Rattle.std.proofs.Common.{◌≡◌, ◌≢◌, ◌⊎◌, inl, inr, Bool, true, not, ◌&&◌, List, [], ◌∷◌, ◌++◌}
use Rattle.std.proofs.Common.{All, Some, refl, sym, subst, append_assoc}
use Rattle.std.proofs.lemmas.List.Elements.{All-head, All-tail}
use Rattle.std.specs.Cmp.{first_so, second_so}
use Rattle.csyn.specs.declared.token.Token.{Token}
use Rattle.cgrammar.specs.declared.kind.Kind.{Kind}
use Rattle.cgrammar.specs.declared.kind.Kind.TheVariants as kind
use Rattle.cgrammar.specs.declared.production.Production.TheVariants as make
use Rattle.cgrammar.specs.declared.terminal.Terminal.{Terminal}
use Rattle.cgrammar.specs.declared.terminal.Terminal.TheVariants as terminal
use Rattle.creader.specs.declared.part.Part.{Part}
use Rattle.creader.specs.declared.part.Move.{Move}
use Rattle.creader.specs.declared.part.Move.TheVariants as move
use Rattle.creader.specs.declared.part.Symbol.{Symbol}
use Rattle.creader.specs.declared.part.Symbol.TheVariants as symbol
use Rattle.cgrammar.specs.Kind.{kind_of}
use Rattle.cgrammar.specs.Terminal.{accepts}
use Rattle.creader.specs.Rules.{Rule, rules, choose}
use Rattle.cgrammar.specs.Text.{Written}
use Rattle.creader.specs.Machine.{State, at, moved, reduce, step, Reaches, here, next}
use Rattle.creader.specs.Source.{EndsOnce}
use Rattle.creader.proofs.Fault.Steps.{taken, followed}
use Rattle.creader.proofs.Complete.Reading.{allows}
use Rattle.creader.proofs.Fault.Table.{ends_before}
use Rattle.creader.proofs.Fault.Checks.{completion, first, completes, spares_end}
use Rattle.creader.proofs.Fault.Completion.{completes-append, spares_end-append, rule_completes, rule_spares_end, end_stays}

-- the same token by token
abbrev pub Ends : List Token → Type 0
Ends [] = ⊥
Ends (token ∷ tokens) = ((kind_of token ≡ kind.End) × (tokens ≡ [])) ⊎ ((kind_of token ≢ kind.End) × Ends tokens)

ends_behind : (body : List Token) (end : Token) → kind_of end ≡ kind.End → All (λ token. kind_of token ≢ kind.End) body
    → Ends (body ++ end ∷ [])
ends_behind [] end is none = inl (is, refl)
ends_behind (token ∷ body) end is none =
    inr (
      All-head (λ t. kind_of t ≢ kind.End) token body none,
      ends_behind body end is
          (All-tail (λ t. kind_of t ≢ kind.End) token body none),
    )

-- that the end token stands last and nowhere else, said token by token
pub ends : (tokens : List Token) → EndsOnce tokens → Ends tokens
ends tokens once = subst Ends (sym once.2) (ends_behind once.0 once.1 once.3 once.4)

-- what is done last
abbrev pub bottom : List Symbol
bottom = symbol.Take terminal.End ∷ symbol.Reduce make.Source ∷ []

pub record Above (symbols : List Symbol) (tokens : List Token) : Type 0 where
  pub upper : List Symbol
  pub is : symbols ≡ upper ++ bottom
  pub can_end : completes upper kind.End ≡ true
  pub spares : spares_end upper ≡ true
  pub ahead : Ends tokens

pub data Standing (symbols : List Symbol) (tokens : List Token) : Type 0 where
  above : Above symbols tokens → Standing symbols tokens
  last : symbols ≡ symbol.Reduce make.Source ∷ [] → tokens ≡ [] → Standing symbols tokens
  over : symbols ≡ [] → tokens ≡ [] → Standing symbols tokens

-- only the end token is accepted as the end
end_kind : (k : Kind) → accepts terminal.End k ≡ true → k ≡ kind.End
unfolding accepts
end_kind kind.End h = refl
end_kind _ h = cc

spared : (t : Terminal) (b : Bool) → (not (accepts t kind.End) && b) ≡ true → accepts t kind.End ≡ true → ⊥
spared t b h e = let h' = rw e at h in cc

-- an accepted token that is not the end token leaves the end token ahead
not_end : (t : Terminal) (b : Bool) (token : Token) (tokens : List Token) → (not (accepts t kind.End) && b) ≡ true
    → accepts t (kind_of token) ≡ true → Ends (token ∷ tokens) → Ends tokens
not_end t b token tokens h fits (inl (is, empty)) = absurd (spared t b h (rw is at fits))
not_end t b token tokens h fits (inr (not_it, more)) = more

follow_rule : (p : Part) (rule : Rule) (m : Move) (upper : List Symbol) (values : List Written) (token : Token) (tokens : List Token)
    → choose (rules p) (kind_of token) ≡ Some rule → rule.move ≡ m → completes (symbol.Read p ∷ upper) kind.End ≡ true
    → spares_end (symbol.Read p ∷ upper) ≡ true → Ends (token ∷ tokens)
    → let b = moved m (rule.symbols ++ (upper ++ bottom)) values token tokens in Above b.symbols b.tokens
unfolding completes spares_end
follow_rule p rule m upper values token tokens chosen is can spares once = go m is
  where
    left : Bool
    left = allows (ends_before p) (first (completion upper) kind.End)

    can_end : completes (rule.symbols ++ upper) kind.End ≡ true
    can_end = completes-append rule.symbols upper kind.End
        (rule_completes p (kind_of token) (first (completion upper) kind.End) rule chosen (first_so left (completes upper kind.End) can))
        (second_so left (completes upper kind.End) can)

    spares' : spares_end (rule.symbols ++ upper) ≡ true
    spares' = spares_end-append rule.symbols upper (rule_spares_end p (kind_of token) rule chosen) spares

    behind : rule.move ≡ move.Take → Ends (token ∷ tokens) → Ends tokens
    behind takes (inl (is_end, empty)) = absurd (end_stays p rule (rw is_end at chosen) takes)
    behind takes (inr (not_it, more)) = more

    go : (m : Move) → rule.move ≡ m → let b = moved m (rule.symbols ++ (upper ++ bottom)) values token tokens in Above b.symbols b.tokens
    go move.Take is = record {
      upper = rule.symbols ++ upper;
      is = sym (append_assoc rule.symbols upper bottom);
      can_end = can_end;
      spares = spares';
      ahead = behind is once;
    }
    go move.Stay is = record {
      upper = rule.symbols ++ upper;
      is = sym (append_assoc rule.symbols upper bottom);
      can_end = can_end;
      spares = spares';
      ahead = once;
    }

-- a step keeps what stands above the last two symbols able to end
step_above : (upper : List Symbol) (values : List Written) (tokens : List Token) (b : State) → step (upper ++ bottom) values tokens ≡ Some b
    → completes upper kind.End ≡ true → spares_end upper ≡ true → Ends tokens → Standing b.symbols b.tokens
unfolding step completes spares_end
step_above upper values [] b e can spares once = absurd once
step_above [] values (token ∷ tokens) b e can spares once =
    let found = taken terminal.End (symbol.Reduce make.Source ∷ []) values token tokens b e in
    subst (λ x. Standing x.symbols x.tokens) found.1 (last refl (go (end_kind (kind_of token) found.0) once))
  where
    go : kind_of token ≡ kind.End → Ends (token ∷ tokens) → tokens ≡ []
    go is (inl (_, empty)) = empty
    go is (inr (not_it, more)) = absurd (not_it is)
step_above (symbol.Reduce p ∷ upper) values (token ∷ tokens) b e can spares once =
    let same : at (upper ++ bottom) (reduce p values) (token ∷ tokens) ≡ b = cc in
    subst (λ x. Standing x.symbols x.tokens) same (above (record
    { upper = upper; is = refl; can_end = can; spares = spares; ahead = once }))
step_above (symbol.Take t ∷ upper) values (token ∷ tokens) b e can spares once =
    let found = taken t (upper ++ bottom) values token tokens b e in
    subst (λ x. Standing x.symbols x.tokens) found.1
    (above (record {
      upper = upper;
      is = refl;
      can_end = can;
      spares = second_so _ _ spares;
      ahead =
          not_end t _ token tokens spares found.0 once;
    }))
step_above (symbol.Read p ∷ upper) values (token ∷ tokens) b e can spares once =
    let found = followed p (upper ++ bottom) values token tokens b e in
    subst (λ x. Standing x.symbols x.tokens) found.is
    (above (follow_rule p found.rule found.rule.move upper values token tokens found.chosen refl can spares once))

-- a step keeps the form of the symbols
step_stands : (symbols : List Symbol) (values : List Written) (tokens : List Token) (b : State) → step symbols values tokens ≡ Some b
    → Standing symbols tokens → Standing b.symbols b.tokens
unfolding step
step_stands symbols values tokens b e (above a) = step_above a.upper values tokens b (rw a.is at e) a.can_end a.spares a.ahead
step_stands symbols values tokens b e (last is empty) =
    let e' = rw (is, step) at e in let same : at [] (reduce make.Source values) tokens ≡ b = cc in
    subst (λ x. Standing x.symbols x.tokens) same (over refl empty)
step_stands symbols values tokens b e (over is empty) = let e' = rw (is, step) at e in cc

-- so do some steps
pub stands : {a b : State} → Reaches a b → Standing a.symbols a.tokens → Standing b.symbols b.tokens
stands here h = h
stands {a} (next {b = m} e way) h = stands way (step_stands a.symbols a.values a.tokens m e h)
