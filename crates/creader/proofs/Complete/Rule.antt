-- A part is read by the rule with a certain index, wherever a token is of certain kinds.
use Rattle.std.specs.Prelude.{◌≡◌, ℕ, zero, suc, Bool, true, false, not, ◌||◌, nat_eq, List, [], ◌∷◌, ◌++◌, Option, Some, None, is_none}
use Rattle.std.proofs.Common.{refl, ap, append_assoc}
use Rattle.std.proofs.lemmas.Bool.{both_ways, not-true}
use Rattle.csyn.specs.declared.token.Token.{Token}
use Rattle.cgrammar.specs.declared.kind.Kind.{Kind}
use Rattle.cgrammar.specs.declared.production.Production.{Production}
use Rattle.cgrammar.specs.declared.terminal.Terminal.{Terminal}
use Rattle.creader.specs.declared.part.Part.{Part}
use Rattle.creader.specs.declared.part.Move.{Move}
use Rattle.creader.specs.declared.part.Move.TheVariants as move
use Rattle.creader.specs.declared.part.Symbol.{Symbol}
use Rattle.creader.specs.declared.part.Symbol.TheVariants as symbol
use Rattle.cgrammar.specs.Kind.{kind_of}
use Rattle.cgrammar.specs.Terminal.{accepts, keyword_number, punctuator_number}
use Rattle.cgrammar.specs.Grammar.{template}
use Rattle.creader.specs.Rules.{Rule, rules, words_rules, choose, any_accepts}
use Rattle.cgrammar.specs.Text.{Written, leaf, node, Forest, Match}
use Rattle.creader.specs.Machine.{at, Reaches, step, reduce}
use Rattle.creader.proofs.Complete.Kinds.{entry, kinds, each, every_kind, at-kind}
use Rattle.creader.proofs.Complete.Steps.{after-step, stuck, longer, read-step, reduce-step, chosen, choose-at, push, reduce-push}
use Rattle.creader.proofs.Complete.Firsts.{Begins, implied, no}
use Rattle.creader.proofs.Complete.Plain.{shape, shown}

-- the rule with this index is chosen wherever the test is true
unfoldable pub rule_check : Part → (Kind → Bool) → ℕ → Bool
unfolding every_kind kinds each chosen rules words_rules any_accepts accepts keyword_number punctuator_number
rule_check p test i = every_kind (λ k. not (test k) || nat_eq (chosen (rules p) k) i)

-- what it does
unfoldable pub rule_shape : Part → ℕ → Option (Move × List Symbol)
unfolding entry rules words_rules
rule_shape p i = shown (entry i (rules p))

-- a rule, and that it is chosen where a test is true
pub record Chosen (p : Part) (test : Kind → Bool) (act : Move) (body : List Symbol) : Type 0 where
  pub index : ℕ
  pub checked : rule_check p test index ≡ true
  pub found : rule_shape p index ≡ Some (act, body)

-- the rule that is chosen then
pub chosen-rule : (p : Part) (test : Kind → Bool) (act : Move) (body : List Symbol) (kind : Kind) → Chosen p test act body
    → test kind ≡ true
    → (rule : Rule) × (choose (rules p) kind ≡ Some rule) × (rule.move ≡ act) × (rule.symbols ≡ body)
unfolding rule_check rule_shape
chosen-rule p test act body kind c t =
    let e = implied _ _ (at-kind (λ k. not (test k) || nat_eq (chosen (rules p) k) c.index) c.checked kind) t in
    go (entry c.index (rules p)) (choose-at p kind c.index e) c.found
  where
    go : (o : Option Rule) → choose (rules p) kind ≡ o → shown o ≡ Some (act, body)
        → (rule : Rule) × (choose (rules p) kind ≡ Some rule) × (rule.move ≡ act) × (rule.symbols ≡ body)
    go None e r = cc
    go (Some rule) e r =
        let same : shape rule ≡ (act, body) = cc in
        (rule, e, ap (λ (y : Move × List Symbol). y.0) same, ap (λ (y : Move × List Symbol). y.1) same)

-- A part at a token: it is taken, or it stays.
pub part-take : (p : Part) (test : Kind → Bool) (body symbols : List Symbol) (values : List Written) (x : Token) (tokens : List Token)
    → Chosen p test move.Take body → test (kind_of x) ≡ true
    → Reaches (at (symbol.Read p ∷ symbols) values (x ∷ tokens)) (at (body ++ symbols) (leaf x ∷ values) tokens)
part-take p test body symbols values x tokens c t =
    let r = chosen-rule p test move.Take body (kind_of x) c t in
    let m = r.2 in let b = r.3 in
    rw (m, b) at (read-step p r.0 symbols values x tokens r.1)

pub part-stay : (p : Part) (test : Kind → Bool) (body symbols : List Symbol) (values : List Written) (x : Token) (tokens : List Token)
    → Chosen p test move.Stay body → test (kind_of x) ≡ true
    → Reaches (at (symbol.Read p ∷ symbols) values (x ∷ tokens)) (at (body ++ symbols) values (x ∷ tokens))
part-stay p test body symbols values x tokens c t =
    let r = chosen-rule p test move.Stay body (kind_of x) c t in
    let m = r.2 in let b = r.3 in
    rw (m, b) at (read-step p r.0 symbols values x tokens r.1)

-- the same for any tokens that begin so
pub stay-at : (p : Part) (test : Kind → Bool) (body symbols : List Symbol) (values : List Written) (tokens : List Token)
    → Chosen p test move.Stay body → Begins test tokens
    → Reaches (at (symbol.Read p ∷ symbols) values tokens) (at (body ++ symbols) values tokens)
stay-at p test body symbols values [] c b = absurd b
stay-at p test body symbols values (x ∷ tokens) c b = part-stay p test body symbols values x tokens c b

-- the values of a production's parts are made one
pub made-step : (p : Production) (f : Forest) (symbols : List Symbol) (values : List Written) (tokens : List Token) → Match (template p) f
    → Reaches (at (symbol.Reduce p ∷ symbols) (push f values) tokens) (at symbols (node p f ∷ values) tokens)
made-step p f symbols values tokens m = let one = reduce-step p symbols (push f values) tokens in rw (reduce-push p f values m) at one

-- The same steps are taken on the way to any state that has fewer symbols.
module _ (front symbols : List Symbol) (values others : List Written) (left : List Token) where
  -- one value is made
  pub back-reduce : (p : Production) (tokens : List Token) → Reaches (at (symbol.Reduce p ∷ front ++ symbols) values tokens)
      (at symbols others left)
      → Reaches (at (front ++ symbols) (reduce p values) tokens) (at symbols others left)
  unfolding step
  back-reduce p tokens reached = after-step refl reached (longer (symbol.Reduce p) front symbols)

  -- a token that is to be taken is one that may stand there
  pub back-accepts : (t : Terminal) (x : Token) (tokens : List Token)
      → Reaches (at (symbol.Take t ∷ front ++ symbols) values (x ∷ tokens)) (at symbols others left)
      → accepts t (kind_of x) ≡ true
  unfolding step
  back-accepts t x tokens reached = go (accepts t (kind_of x)) refl
    where
      go : (b : Bool) → accepts t (kind_of x) ≡ b → accepts t (kind_of x) ≡ true
      go true e = e
      go false e = absurd (stuck (rw e refl) reached (longer (symbol.Take t) front symbols))

  -- it is taken
  pub back-take-token : (t : Terminal) (x : Token) (tokens : List Token)
      → Reaches (at (symbol.Take t ∷ front ++ symbols) values (x ∷ tokens)) (at symbols others left)
      → Reaches (at (front ++ symbols) (leaf x ∷ values) tokens) (at symbols others left)
  unfolding step
  back-take-token t x tokens reached =
      let a = back-accepts t x tokens reached in
      after-step {b = at (front ++ symbols) (leaf x ∷ values) tokens} (rw a refl) reached (longer (symbol.Take t) front symbols)

  -- a rule takes the token
  pub back-take : (p : Part) (test : Kind → Bool) (body : List Symbol) (x : Token) (tokens : List Token)
      → Chosen p test move.Take body → test (kind_of x) ≡ true
      → Reaches (at (symbol.Read p ∷ front ++ symbols) values (x ∷ tokens)) (at symbols others left)
      → Reaches (at ((body ++ front) ++ symbols) (leaf x ∷ values) tokens) (at symbols others left)
  unfolding step
  back-take p test body x tokens c t reached =
      let r = chosen-rule p test move.Take body (kind_of x) c t in
      let e = r.1 in let m = r.2 in let b = r.3 in
      after-step {b = at (body ++ front ++ symbols) (leaf x ∷ values) tokens} (rw (e, m, b, append_assoc) refl) reached
      (longer (symbol.Read p) front symbols)

  -- a rule leaves the token
  pub back-stay : (p : Part) (test : Kind → Bool) (body : List Symbol) (x : Token) (tokens : List Token)
      → Chosen p test move.Stay body → test (kind_of x) ≡ true
      → Reaches (at (symbol.Read p ∷ front ++ symbols) values (x ∷ tokens)) (at symbols others left)
      → Reaches (at ((body ++ front) ++ symbols) values (x ∷ tokens)) (at symbols others left)
  unfolding step
  back-stay p test body x tokens c t reached =
      let r = chosen-rule p test move.Stay body (kind_of x) c t in
      let e = r.1 in let m = r.2 in let b = r.3 in
      after-step {b = at (body ++ front ++ symbols) values (x ∷ tokens)} (rw (e, m, b, append_assoc) refl) reached
      (longer (symbol.Read p) front symbols)

-- symbols of which the first that asks for a token is no production
unfoldable pub hungry : List Symbol → Bool
hungry [] = false
hungry (symbol.Reduce _ ∷ symbols) = hungry symbols
hungry (symbol.Take _ ∷ symbols) = true
hungry (symbol.Read _ ∷ symbols) = true

-- without tokens they reach nothing
pub no-tokens : (front symbols : List Symbol) (values others : List Written) (left : List Token) → hungry front ≡ true
    → Reaches (at (front ++ symbols) values []) (at symbols others left) → ⊥
unfolding hungry step
no-tokens [] symbols values others left h reached = no h
no-tokens (symbol.Reduce p ∷ front) symbols values others left h reached =
    no-tokens front symbols (reduce p values) others left h (back-reduce front symbols values others left p [] reached)
no-tokens (symbol.Take t ∷ front) symbols values others left h reached = stuck refl reached (longer (symbol.Take t) front symbols)
no-tokens (symbol.Read p ∷ front) symbols values others left h reached = stuck refl reached (longer (symbol.Read p) front symbols)

-- the symbols behind a rule that leaves the token, if it is one
abbrev stay_symbols : Move → List Symbol → List Symbol
stay_symbols move.Take symbols = []
stay_symbols move.Stay symbols = symbols

-- the same of what is chosen, if a rule is
abbrev rule_symbols : Option Rule → List Symbol → List Symbol
rule_symbols None front = []
rule_symbols (Some rule) front = stay_symbols rule.move (rule.symbols ++ front)

-- symbols that do not get past a token of this kind, as a few steps show
unfoldable refuse : ℕ → List Symbol → Kind → Bool
refuse zero front kind = false
refuse (suc n) [] kind = false
refuse (suc n) (symbol.Reduce _ ∷ front) kind = refuse n front kind
refuse (suc n) (symbol.Take t ∷ front) kind = not (accepts t kind)
refuse (suc n) (symbol.Read p ∷ front) kind =
    is_none (choose (rules p) kind) || refuse n (rule_symbols (choose (rules p) kind) front) kind

-- no symbols refuse nothing
refuse-none : (n : ℕ) (kind : Kind) → refuse n [] kind ≡ true → ⊥
unfolding refuse
refuse-none zero kind h = no h
refuse-none (suc n) kind h = no h

-- what refuses a token reaches nothing
refuse-reached : (n : ℕ) (front symbols : List Symbol) (values others : List Written) (x : Token) (tokens left : List Token)
    → refuse n front (kind_of x) ≡ true → Reaches (at (front ++ symbols) values (x ∷ tokens)) (at symbols others left) → ⊥
unfolding refuse step
refuse-reached zero front symbols values others x tokens left h reached = no h
refuse-reached (suc n) [] symbols values others x tokens left h reached = no h
refuse-reached (suc n) (symbol.Reduce p ∷ front) symbols values others x tokens left h reached =
    refuse-reached n front symbols (reduce p values) others x tokens left h
    (back-reduce front symbols values others left p (x ∷ tokens) reached)
refuse-reached (suc n) (symbol.Take t ∷ front) symbols values others x tokens left h reached =
    both_ways (accepts t (kind_of x)) (not-true (accepts t (kind_of x)) h)
    (back-accepts front symbols values others left t x tokens reached)
refuse-reached (suc n) (symbol.Read p ∷ front) symbols values others x tokens left h reached =
    go (choose (rules p) (kind_of x)) refl h
    (λ more h' reached'. refuse-reached n more symbols values others x tokens left h' reached')
  where
    Goes : Type 0
    Goes = (more : List Symbol) → refuse n more (kind_of x) ≡ true
        → Reaches (at (more ++ symbols) values (x ∷ tokens)) (at symbols others left) → ⊥

    differ : at (symbol.Read p ∷ front ++ symbols) values (x ∷ tokens) ≡ at symbols others left → ⊥
    differ = longer (symbol.Read p) front symbols

    stay : (rule : Rule) (act : Move) → choose (rules p) (kind_of x) ≡ Some rule → rule.move ≡ act
        → refuse n (stay_symbols act (rule.symbols ++ front)) (kind_of x) ≡ true → Goes → ⊥
    stay rule move.Take e m h again = refuse-none n (kind_of x) h
    stay rule move.Stay e m h again =
        again (rule.symbols ++ front) h
        (after-step {b = at ((rule.symbols ++ front) ++ symbols) values (x ∷ tokens)} (rw (e, m, append_assoc) refl) reached differ)

    go : (o : Option Rule) → choose (rules p) (kind_of x) ≡ o → (is_none o || refuse n (rule_symbols o front) (kind_of x)) ≡ true → Goes → ⊥
    go None e h again = stuck (rw e refl) reached differ
    go (Some rule) e h again = stay rule rule.move e refl h again

-- they get past no token for which the test is true
unfoldable pub refuse_check : List Symbol → (Kind → Bool) → Bool
unfolding refuse choose every_kind kinds each rules words_rules any_accepts accepts keyword_number punctuator_number
refuse_check front test = every_kind (λ k. not (test k) || refuse 24 front k)

-- the same from what is computed
pub refused : (front symbols : List Symbol) (values others : List Written) (test : Kind → Bool) (x : Token) (tokens left : List Token)
    → refuse_check front test ≡ true → test (kind_of x) ≡ true
    → Reaches (at (front ++ symbols) values (x ∷ tokens)) (at symbols others left) → ⊥
unfolding refuse_check
refused front symbols values others test x tokens left h t reached =
    refuse-reached 24 front symbols values others x tokens left
    (implied _ _ (at-kind (λ k. not (test k) || refuse 24 front k) h (kind_of x)) t) reached
