-- Symbols that can be completed are done with their completion, and what each rule keeps.
use Rattle.std.proofs.Common.{◌≡◌, Bool, true, false, ◌||◌, not, List, [], ◌∷◌, ◌++◌, Some, refl, subst, ap, append_assoc}
use Rattle.std.proofs.lemmas.List.{map-append}
use Rattle.std.proofs.lemmas.Bool.{and_from}
use Rattle.std.specs.Cmp.{first_so, second_so}
use Rattle.csyn.specs.declared.token.Token.{Token}
use Rattle.cgrammar.specs.declared.kind.Kind.{Kind}
use Rattle.cgrammar.specs.declared.kind.Kind.TheVariants as kind
use Rattle.creader.specs.declared.part.Part.{Part}
use Rattle.creader.specs.declared.part.Move.TheVariants as move
use Rattle.creader.specs.declared.part.Symbol.{Symbol}
use Rattle.creader.specs.declared.part.Symbol.TheVariants as symbol
use Rattle.cgrammar.specs.Kind.{kind_of}
use Rattle.creader.specs.Rules.{Rule, rules, any_accepts, choose}
use Rattle.creader.proofs.Complete.Reading.{allows}
use Rattle.creader.proofs.Fault.Kinds.{every, every_kind_at}
use Rattle.creader.proofs.Fault.Samples.{sample, samples, kind-sample}
use Rattle.creader.proofs.Fault.Done.{Done, done_nothing, done_reduce, done_take, done_both}
use Rattle.creader.proofs.Fault.Goes.{goes_on_tokens}
use Rattle.creader.proofs.Fault.Table.{short, ends_before, pick}
use Rattle.creader.proofs.Fault.Checks.{completion, first, completes, spares_end, pick_accepted, short_test}
use Rattle.creader.proofs.Fault.Checks.{short_is_read, rules_test, rules_complete, leaves_token, end_is_left}

-- of an implication that is computed
implied : (a b : Bool) → (not a || b) ≡ true → a ≡ true → b ≡ true
implied true b h k = h
implied false b h k = cc

short_done : (p : Part) (token : Token) (tokens : List Token) → allows (ends_before p) (kind_of token) ≡ true
    → Done (symbol.Read p ∷ []) (samples (short p)) (token ∷ tokens)
short_done p token tokens h = goes_on_tokens 40 (symbol.Read p ∷ []) (short p) token tokens
    (implied _ _ (every_kind_at (short_test p) (short_is_read p) (kind_of token)) h)

-- before what follows a completion
before_completion : (p : Part) (kinds : List Kind) (token : Token) (tokens : List Token)
    → allows (ends_before p) (first kinds (kind_of token)) ≡ true
    → Done (symbol.Read p ∷ []) (samples (short p)) (samples kinds ++ token ∷ tokens)
before_completion p [] token tokens h = short_done p token tokens h
before_completion p (kind ∷ kinds) token tokens h = short_done p (sample kind) (samples kinds ++ token ∷ tokens) (rw kind-sample h)

-- what can be completed before a token is read to its end by its completion
pub completed : (symbols : List Symbol) (token : Token) (tokens : List Token) → completes symbols (kind_of token) ≡ true
    → Done symbols (samples (completion symbols)) (token ∷ tokens)
unfolding completes completion
completed [] token tokens h = done_nothing (token ∷ tokens)
completed (symbol.Reduce p ∷ symbols) token tokens h =
    done_reduce p symbols (samples (completion symbols)) (token ∷ tokens) (completed symbols token tokens h)
completed (symbol.Take t ∷ symbols) token tokens h =
    done_take t symbols (sample (pick t)) (samples (completion symbols)) (token ∷ tokens) (rw kind-sample (pick_accepted t))
    (completed symbols token tokens h)
completed (symbol.Read p ∷ symbols) token tokens h =
    rw map-append (done_both (symbol.Read p ∷ []) symbols (samples (short p)) (samples (completion symbols)) (token ∷ tokens)
    (before_completion p (completion symbols) token tokens (first_so _ _ h))
    (completed symbols token tokens (second_so _ (completes symbols (kind_of token)) h)))

-- the first kind of two lists and what follows them
first-append : (one other : List Kind) (following : Kind) → first (one ++ other) following ≡ first one (first other following)
first-append [] other following = refl
first-append (kind ∷ kinds) other following = refl

-- completions of symbols stand behind one another
completion-append : (one other : List Symbol) → completion (one ++ other) ≡ completion one ++ completion other
unfolding completion
completion-append [] other = refl
completion-append (symbol.Take t ∷ one) other = ap (λ x. pick t ∷ x) (completion-append one other)
completion-append (symbol.Reduce p ∷ one) other = completion-append one other
completion-append (symbol.Read p ∷ one) other = rw (append_assoc, completion-append one other)

-- the first symbols can be completed before the completion of the others
pub completes-append : (one other : List Symbol) (following : Kind) → completes one (first (completion other) following) ≡ true
    → completes other following ≡ true → completes (one ++ other) following ≡ true
unfolding completes completion
completes-append [] other following h k = k
completes-append (symbol.Take t ∷ one) other following h k = completes-append one other following h k
completes-append (symbol.Reduce p ∷ one) other following h k = completes-append one other following h k
completes-append (symbol.Read p ∷ one) other following h k =
    and_from _ _ (rw (completion-append one other, first-append) (first_so _ _ h))
    (completes-append one other following (second_so _ _ h) k)

-- symbols that leave the end token alone, behind one another
pub spares_end-append : (one other : List Symbol) → spares_end one ≡ true → spares_end other ≡ true → spares_end (one ++ other) ≡ true
unfolding spares_end
spares_end-append [] other h k = k
spares_end-append (symbol.Take t ∷ one) other h k =
    and_from _ _ (first_so _ _ h) (spares_end-append one other (second_so _ _ h) k)
spares_end-append (symbol.Reduce p ∷ one) other h k = spares_end-append one other h k
spares_end-append (symbol.Read p ∷ one) other h k = spares_end-append one other h k

-- what holds of every rule holds of the chosen one
pub every_chosen : (q : Rule → Bool) (rules : List Rule) (kind : Kind) (rule : Rule) → every q rules ≡ true
    → choose rules kind ≡ Some rule → q rule ≡ true
unfolding choose
every_chosen q [] kind rule h e = cc
every_chosen q (r ∷ rs) kind rule h e = go (any_accepts r.on kind) refl (λ later. every_chosen q rs kind rule (second_so (q r) _ h) later)
  where
    go : (answer : Bool) → any_accepts r.on kind ≡ answer → (choose rs kind ≡ Some rule → q rule ≡ true) → q rule ≡ true
    go true is others = let found : Some r ≡ Some rule = rw (is, choose) at e in let same : r ≡ rule = cc in
        subst (λ x. q x ≡ true) same (first_so _ _ h)
    go false is others = others (rw (is, choose) at e)

-- what a rule puts in the place of a part can be completed before what may follow the part
pub rule_completes : (p : Part) (kind following : Kind) (rule : Rule) → choose (rules p) kind ≡ Some rule
    → allows (ends_before p) following ≡ true → completes rule.symbols following ≡ true
rule_completes p kind following rule chosen h =
    every_chosen (λ r. completes r.symbols following) (rules p) kind rule
    (implied _ _ (every_kind_at (rules_test p) (rules_complete p) following) h) chosen

-- and leaves the end token alone
pub rule_spares_end : (p : Part) (kind : Kind) (rule : Rule) → choose (rules p) kind ≡ Some rule → spares_end rule.symbols ≡ true
rule_spares_end p kind rule chosen = every_chosen (λ r. spares_end r.symbols) (rules p) kind rule (second_so _ _ (end_is_left p)) chosen

-- no rule takes the end token
pub end_stays : (p : Part) (rule : Rule) → choose (rules p) kind.End ≡ Some rule → rule.move ≡ move.Take → ⊥
end_stays p rule chosen takes = let h = rw (chosen, takes) at (first_so (leaves_token (choose (rules p) kind.End)) _ (end_is_left p)) in cc
