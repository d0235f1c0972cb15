-- What each step of the machine keeps, and that what is read to its end is a source.
use Rattle.std.proofs.Common.{◌≡◌, Bool, true, false, not, ◌&&◌, ◌||◌, ◌⊎◌, List, [], ◌∷◌, ◌++◌, Option, Some, None}
use Rattle.std.proofs.Common.{if◌then◌else◌, refl, sym, ◌∙◌, ap, subst, inl, inr, append-nil}
use Rattle.std.specs.List.{list_all}
use Rattle.std.proofs.lemmas.Bool.{false≢true, or_cases, and_parts, and_from}
use Rattle.std.proofs.lemmas.Option.{none-some, same_Some}
use Rattle.csyn.specs.declared.keyword.Keyword.TheVariants as keyword
use Rattle.csyn.specs.declared.token.Token.{Token}
use Rattle.cgrammar.specs.declared.kind.Kind.{Kind}
use Rattle.cgrammar.specs.declared.production.Level.TheVariants as chain
use Rattle.cgrammar.specs.declared.production.Words.TheVariants as every
use Rattle.cgrammar.specs.declared.production.Production.TheVariants as make
use Rattle.cgrammar.specs.declared.terminal.Terminal.{Terminal}
use Rattle.cgrammar.specs.declared.terminal.Terminal.TheVariants as terminal
use Rattle.creader.specs.declared.part.Part.{Part}
use Rattle.creader.specs.declared.part.Part.TheVariants as part
use Rattle.creader.specs.declared.part.Move.{Move}
use Rattle.creader.specs.declared.part.Move.TheVariants as move
use Rattle.creader.specs.declared.part.Symbol.{Symbol}
use Rattle.creader.specs.declared.part.Symbol.TheVariants as symbol
use Rattle.cgrammar.specs.Kind.{kind_of}
use Rattle.cgrammar.specs.Terminal.{accepts}
use Rattle.cgrammar.specs.Grammar as class
use Rattle.creader.specs.Rules.{Rule, rules, chain_rules, chain_tail_rules, words_rules, any_accepts, choose}
use Rattle.cgrammar.specs.Text.{Written, leaf, spell, is_if_without_else, IsText}
use Rattle.creader.specs.Machine.{State, at, moved, follow_rule, step, start, Reaches, here, next}
use Rattle.creader.proofs.Sound.Signature.{entry, exit, types, move_keeps, rule_keeps, keeps, each-keeps, start-types}
use Rattle.creader.proofs.Sound.Meaning.{if_some, IsShaped, Good, Upon, Gives, run}
use Rattle.creader.proofs.Sound.Else.{starts_with_else, ClearAll, Clear, reduce-clear, spelled, reduce-spelled, proper}

-- no symbol makes an if without an else
unfoldable free : List Symbol → Bool
free [] = true
free (symbol.Reduce p ∷ symbols) = not (is_if_without_else p) && free symbols
free (symbol.Take _ ∷ symbols) = free symbols
free (symbol.Read _ ∷ symbols) = free symbols

-- the first one may, before no else
abbrev Calm : List Symbol → List Token → Type 0
Calm [] tokens = Unit {0}
Calm (symbol.Reduce p ∷ symbols) tokens = (is_if_without_else p ≡ true → starts_with_else tokens ≡ false) × (free symbols ≡ true)
Calm (symbol.Take _ ∷ symbols) tokens = free symbols ≡ true
Calm (symbol.Read _ ∷ symbols) tokens = free symbols ≡ true

-- The invariant: the symbols make one source of the values, an if without an else stands before no else, and the values and the tokens
-- that are left are spelled with all the tokens.
record Kept (tokens : List Token) (state : State) : Type 0 where
  good : Good state.symbols state.values
  calm : Calm state.symbols state.tokens
  clear : ClearAll state.values state.tokens
  spelt : spelled state.values state.tokens ≡ tokens

free-Calm : (symbols : List Symbol) (tokens : List Token) → free symbols ≡ true → Calm symbols tokens
unfolding free
free-Calm [] tokens f = tt
free-Calm (symbol.Reduce p ∷ symbols) tokens f =
    let k = and_parts (not (is_if_without_else p)) (free symbols) f in
    (λ e. absurd (false≢true (sym (ap not e) ∙ k.0)), k.1)
free-Calm (symbol.Take _ ∷ symbols) tokens f = f
free-Calm (symbol.Read _ ∷ symbols) tokens f = f

-- free symbols in front of free ones are free
free-append : (first others : List Symbol) → free first ≡ true → free others ≡ true → free (first ++ others) ≡ true
unfolding free
free-append [] others f g = g
free-append (symbol.Reduce p ∷ first) others f g =
    let k = and_parts (not (is_if_without_else p)) (free first) f in
    and_from (not (is_if_without_else p)) (free (first ++ others)) k.0 (free-append first others k.1 g)
free-append (symbol.Take _ ∷ first) others f g = free-append first others f g
free-append (symbol.Read _ ∷ first) others f g = free-append first others f g

-- all rules but those of what is behind the first branch of an if are free
may_end_if : Part → Bool
may_end_if part.OptionalElse = true
may_end_if _ = false

all_free : Part → Bool
unfolding rules chain_rules chain_tail_rules words_rules free may_end_if
all_free p = may_end_if p || list_all (λ r. free r.symbols) (rules p)

-- computed for each part
each-free : (p : Part) → all_free p ≡ true
unfolding all_free
each-free part.Expression = refl
each-free (part.Chain chain.Or) = refl
each-free (part.Chain _) = refl
each-free (part.ChainTail chain.Or) = refl
each-free (part.ChainTail _) = refl
each-free (part.Words every.Sign) = refl
each-free (part.Words _) = refl
each-free _ = refl

-- the rule passes, and is for the token
abbrev Passes : (Rule → Bool) → Kind → Rule → Type 0
Passes test kind rule = (test rule ≡ true) × (any_accepts rule.on kind ≡ true)

chosen-passes : (test : Rule → Bool) (first rule : Rule) (other : Option Rule) (kind : Kind) (b : Bool) → any_accepts first.on kind ≡ b
    → test first ≡ true → (other ≡ Some rule → Passes test kind rule) → (if b then Some first else other) ≡ Some rule
    → Passes test kind rule
chosen-passes test first rule other kind true a f later e = subst (Passes test kind) (same_Some first rule e) (f, a)
chosen-passes test first rule other kind false a f later e = later e

-- what each rule passes, the chosen one passes
choose-passes : (test : Rule → Bool) (rules : List Rule) (kind : Kind) (rule : Rule) → list_all test rules ≡ true
    → choose rules kind ≡ Some rule → Passes test kind rule
unfolding choose
choose-passes test [] kind rule h e = absurd (none-some rule e)
choose-passes test (first ∷ others) kind rule h e =
    let k = and_parts (test first) (list_all test others) h in
    chosen-passes test first rule (choose others kind) kind (any_accepts first.on kind) refl k.0
    (choose-passes test others kind rule k.1) e

passes-kept : (p : Part) (kind : Kind) (rule : Rule) → choose (rules p) kind ≡ Some rule → Passes (rule_keeps p) kind rule
unfolding keeps
passes-kept p kind rule e = choose-passes (rule_keeps p) (rules p) kind rule (each-keeps p) e

-- one of the terminals that pass accepts it
one-accepts : (test : Terminal → Bool) (on : List Terminal) (kind : Kind) → list_all test on ≡ true → any_accepts on kind ≡ true
    → (t : Terminal) × (accepts t kind ≡ true) × (test t ≡ true)
unfolding any_accepts
one-accepts test [] kind h a = absurd (false≢true a)
one-accepts test (t ∷ on) kind h a =
    let k = and_parts (test t) (list_all test on) h in
    let later : any_accepts on kind ≡ true → (t : Terminal) × (accepts t kind ≡ true) × (test t ≡ true)
    = one-accepts test on kind k.1 in
    elim (or_cases (accepts t kind) (any_accepts on kind) a) [ inl s ↦ (t, s, k.0) | inr o ↦ later o ]

-- the symbols of a chosen rule make no if without an else, but for one before a token that is no else
abbrev CalmRule : Kind → Move → List Symbol → Type 0
CalmRule kind m symbols = (free symbols ≡ true)
    ⊎ ((m ≡ move.Stay) × (symbols ≡ symbol.Reduce make.NoElse ∷ []) × (accepts (terminal.Keyword keyword.Else) kind ≡ false))

two-chosen : (b : Bool) (first second rule : Rule) → (if b || false then Some first else Some second) ≡ Some rule
    → ((b ≡ true) × (first ≡ rule)) ⊎ ((b ≡ false) × (second ≡ rule))
two-chosen true first second rule e = inl (refl, same_Some first rule e)
two-chosen false first second rule e = inr (refl, same_Some second rule e)

-- before an else the other rule of OptionalElse is chosen
else-calm : (kind : Kind) (rule : Rule) → choose (rules part.OptionalElse) kind ≡ Some rule → CalmRule kind rule.move rule.symbols
unfolding choose rules any_accepts accepts free
else-calm kind rule e = elim (two-chosen (accepts (terminal.Keyword keyword.Else) kind) _ _ rule e) [
  | inl k ↦ subst (λ r. CalmRule kind r.move r.symbols) k.1 (inl refl)
  | inr k ↦ subst (λ r. CalmRule kind r.move r.symbols) k.1 (inr (refl, refl, k.0))
]

-- no other part can end an if that has no else
only-else : (p : Part) → may_end_if p ≡ true → p ≡ part.OptionalElse
unfolding may_end_if
only-else part.OptionalElse h = refl
only-else _ h = absurd (false≢true h)

rule-calm : (p : Part) (kind : Kind) (rule : Rule) → choose (rules p) kind ≡ Some rule → CalmRule kind rule.move rule.symbols
unfolding all_free
rule-calm p kind rule e = elim (or_cases (may_end_if p) (list_all (λ r. free r.symbols) (rules p)) (each-free p)) [
  | inl m ↦ else-calm kind rule
      (subst (λ x. choose (rules x) kind ≡ Some rule) (only-else p m) e)
  | inr f ↦ inl (choose-passes (λ r. free r.symbols) (rules p) kind rule f e).0
]

-- a token that is taken does not stay
taken_stays : move.Take ≡ move.Stay → ⊥
taken_stays e = cc

calm-after : (m : Move) (symbols others : List Symbol) (values : List Written) (token : Token) (left : List Token)
    → CalmRule (kind_of token) m symbols → free others ≡ true
    → let after : State = moved m (symbols ++ others) values token left in Calm after.symbols after.tokens
calm-after move.Take symbols others values token left (inl f) g = free-Calm (symbols ++ others) left (free-append symbols others f g)
calm-after move.Stay symbols others values token left (inl f) g =
    free-Calm (symbols ++ others) (token ∷ left) (free-append symbols others f g)
calm-after move.Take symbols others values token left (inr r) g = absurd (taken_stays r.0)
calm-after move.Stay symbols others values token left (inr r) g =
    subst (λ x. Calm (x ++ others) (token ∷ left)) (sym r.1) (λ _. r.2, g)

good-after : (p : Part) (m : Move) (on : List Terminal) (symbols others : List Symbol) (values : List Written) (token : Token)
    (left : List Token) → move_keeps p m on symbols ≡ true → any_accepts on (kind_of token) ≡ true
    → Upon (entry p) (Gives (exit p) (Good others)) values
    → let after : State = moved m (symbols ++ others) values token left in Good after.symbols after.values
unfolding move_keeps IsShaped
good-after p move.Take on symbols others values token left h a u =
    let k = one-accepts (λ t. types (exit p) symbols (class.token t ∷ entry p)) on (kind_of token) h a in
    run symbols (exit p) (class.token k.0 ∷ entry p) others (leaf token ∷ values) k.2 (k.1, tt, u)
good-after p move.Stay on symbols others values token left h a u = run symbols (exit p) (entry p) others values h u

-- following a rule keeps the invariant
after-keeps : (p : Part) (m : Move) (on : List Terminal) (symbols others : List Symbol) (values : List Written) (token : Token)
    (left tokens : List Token) → move_keeps p m on symbols ≡ true → any_accepts on (kind_of token) ≡ true
    → CalmRule (kind_of token) m symbols → Kept tokens (at (symbol.Read p ∷ others) values (token ∷ left))
    → Kept tokens (moved m (symbols ++ others) values token left)
unfolding Clear
after-keeps p move.Take on symbols others values token left tokens h a r k = record {
  good = good-after p move.Take on symbols others values token left h a k.good;
  calm = calm-after move.Take symbols others values token left r k.calm;
  clear = (tt, k.clear);
  spelt = k.spelt;
}
after-keeps p move.Stay on symbols others values token left tokens h a r k = record {
  good = good-after p move.Stay on symbols others values token left h a k.good;
  calm = calm-after move.Stay symbols others values token left r k.calm;
  clear = k.clear;
  spelt = k.spelt;
}

read-keeps : (p : Part) (others : List Symbol) (values : List Written) (token : Token) (left tokens : List Token) (b : State)
    (o : Option Rule) → choose (rules p) (kind_of token) ≡ o → follow_rule o others values token left ≡ Some b
    → Kept tokens (at (symbol.Read p ∷ others) values (token ∷ left)) → Kept tokens b
read-keeps p others values token left tokens b None c e k = absurd (none-some b e)
read-keeps p others values token left tokens b (Some rule) c e k =
    let h : Passes (rule_keeps p) (kind_of token) rule = passes-kept p (kind_of token) rule c in
    subst (Kept tokens) (same_Some _ b e)
    (after-keeps p rule.move rule.on rule.symbols others values token left tokens h.0 h.1 (rule-calm p (kind_of token) rule c) k)

-- One step keeps the invariant.
step-keeps : (symbols : List Symbol) (values : List Written) (left tokens : List Token) (b : State) → step symbols values left ≡ Some b
    → Kept tokens (at symbols values left) → Kept tokens b
unfolding step Clear
step-keeps [] values left tokens b e k = absurd (none-some b e)
step-keeps (symbol.Reduce p ∷ symbols) values left tokens b e k = subst (Kept tokens) (same_Some _ b e) (record {
  good = k.good;
  calm = free-Calm symbols left k.calm.1;
  clear = reduce-clear p values left k.calm.0 k.clear;
  spelt = reduce-spelled p values left ∙ k.spelt;
})
step-keeps (symbol.Take t ∷ symbols) values [] tokens b e k = absurd (none-some b e)
step-keeps (symbol.Take t ∷ symbols) values (token ∷ left) tokens b e k =
    let h = if_some (accepts t (kind_of token)) (Some (at symbols (leaf token ∷ values) left)) b e in
    subst (Kept tokens) (same_Some _ b h.1) (record {
      good = k.good token h.0;
      calm = free-Calm symbols left k.calm;
      clear = (tt, k.clear);
      spelt = k.spelt;
    })
step-keeps (symbol.Read p ∷ symbols) values [] tokens b e k = absurd (none-some b e)
step-keeps (symbol.Read p ∷ symbols) values (token ∷ left) tokens b e k =
    read-keeps p symbols values token left tokens b (choose (rules p) (kind_of token)) refl e k

-- what a step keeps, all steps keep
reaches-keeps : {a b : State} (tokens : List Token) → Reaches a b → Kept tokens a → Kept tokens b
reaches-keeps tokens here k = k
reaches-keeps tokens (next {a} {b} {c} e r) k = reaches-keeps tokens r (step-keeps a.symbols a.values a.tokens tokens b e k)

-- the symbols that read a source make one
starts : Good (start []).symbols []
starts = run (start []).symbols class.source [] [] [] start-types (λ written s i. (written, refl, s, i))

-- it holds at the beginning of a source
starts-kept : (tokens : List Token) → Kept tokens (start tokens)
unfolding free
starts-kept tokens = record { good = starts; calm = refl; clear = tt; spelt = refl }

-- What is read to its end is a source, of which one value is left.
pub sound : (tokens : List Token) (values : List Written) → Reaches (start tokens) (at [] values [])
    → (written : Written) × (values ≡ written ∷ []) × IsText written tokens
sound tokens values r =
    let k : Kept tokens (at [] values []) = reaches-keeps tokens r (starts-kept tokens) in
    let one : ClearAll (k.good.0 ∷ []) [] = subst (λ x. ClearAll x []) k.good.1 k.clear in (
      k.good.0,
      k.good.1,
      record {
        is_source = k.good.2;
        proper = proper k.good.0 [] k.good.3 one.0;
        spelled = sym (append-nil (spell k.good.0)) ∙ sym (ap (λ x. spelled x []) k.good.1) ∙ k.spelt;
      },
    )
