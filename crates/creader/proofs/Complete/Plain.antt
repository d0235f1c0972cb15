-- The productions whose class is read by one part, of which a rule reads the right side as it stands.
use Rattle.std.specs.Prelude.{◌≡◌, ℕ, Bool, true, false, not, ◌||◌, ◌&&◌, nat_eq, List, [], ◌∷◌, ◌++◌, Option, Some, None, if◌then◌else◌}
use Rattle.std.proofs.Common.{refl, sym, ap, ◌∙◌, append_assoc}
use Rattle.std.proofs.lemmas.Bool.{and_parts}
use Rattle.csyn.specs.declared.token.Token.{Token}
use Rattle.cgrammar.specs.declared.kind.Kind.{Kind}
use Rattle.cgrammar.specs.declared.kind.Kind.TheVariants as kind
use Rattle.cgrammar.specs.declared.production.Production.{Production}
use Rattle.cgrammar.specs.declared.production.Production.TheVariants as make
use Rattle.cgrammar.specs.declared.terminal.Terminal.{Terminal}
use Rattle.creader.specs.declared.part.Part.{Part}
use Rattle.creader.specs.declared.part.Part.TheVariants as read
use Rattle.creader.specs.declared.part.Move.{Move}
use Rattle.creader.specs.declared.part.Move.TheVariants as move
use Rattle.creader.specs.declared.part.Symbol.{Symbol}
use Rattle.creader.specs.declared.part.Symbol.TheVariants as symbol
use Rattle.cgrammar.specs.Kind.{kind_of}
use Rattle.cgrammar.specs.Terminal.{accepts, keyword_number, punctuator_number}
use Rattle.creader.specs.Rules.{Rule, rules, choose, any_accepts}
use Rattle.cgrammar.specs.Grammar as class
use Rattle.cgrammar.specs.Grammar.{Piece, token, part, template, home}
use Rattle.cgrammar.specs.Text.{Written, leaf, node, Forest, Match, spells, dangles, last_dangles, ends_with_statement, is_if_without_else}
use Rattle.creader.specs.Machine.{State, at, Reaches, step}
use Rattle.creader.proofs.Complete.Reading.{reader, level_reader, follow, allows, extenders}
use Rattle.creader.proofs.Complete.Reading.{operators_from, is_statement, has_reader, Reads}
use Rattle.creader.proofs.Complete.Heads.{AllKnown}
use Rattle.creader.proofs.Complete.Kinds.{entry, kinds, each, every_kind, at-kind}
use Rattle.creader.proofs.Complete.Steps.{join, after-step, longer, read-step, reduce-step, chosen, choose-at, push, reduce-push}
use Rattle.creader.proofs.Complete.Firsts.{firsts, nullable, may_begin, Begins, begins-as, implied, forest-begins, no}
use Rattle.creader.proofs.Complete.Sequence.{may_follow, reads-from, readers, before_end, ends_open, fits}
use Rattle.creader.proofs.Complete.Sequence.{Ends, statement-follow, sequence-reads}

-- before which tokens a production's tree may stand at most
unfoldable pub after_of : Production → Kind → Bool
after_of p kind = (is_statement (home p) && not (is_if_without_else p)) || allows (follow (home p)) kind

-- The parts may stand before one another, and a statement stands at the end of a statement alone.
unfoldable pub ready : Production → Bool
ready p = fits (template p) (after_of p) && (not (ends_open (template p)) || (ends_with_statement p && is_statement (home p)))

-- the same, to be computed
unfoldable pub ready_check : Production → Bool
unfolding ready after_of kinds each every_kind fits before_end ends_open may_begin firsts nullable template home reader level_reader
    follow allows
    extenders operators_from is_statement has_reader any_accepts accepts keyword_number punctuator_number
ready_check p = ready p

-- what may stand behind a tree may stand behind its production
pub node-after : (p : Production) (f : Forest) (kind : Kind) → may_follow (home p) (node p f) kind ≡ true → after_of p kind ≡ true
unfolding after_of dangles
node-after p f kind h = go (is_statement (home p)) (is_if_without_else p) _ (allows (follow (home p)) kind) h
  where
    go : (s n l a : Bool) → ((s && not (n || l)) || a) ≡ true → ((s && not n) || a) ≡ true
    go true true l a h = h
    go true false l a h = refl
    go false n l a h = h

-- what may stand behind a statement may stand behind the one at its end
later : (p : Production) (f : Forest) (kind : Kind) → ends_with_statement p ≡ true → is_statement (home p) ≡ true
    → may_follow (home p) (node p f) kind ≡ true → (not (last_dangles f) || allows (follow class.statement) kind) ≡ true
unfolding dangles
later p f kind e s h =
    let same = ap (λ c. allows c kind) (statement-follow (home p) s) in
    go (is_statement (home p)) (is_if_without_else p) (ends_with_statement p) (last_dangles f) _ _ s e same h
  where
    go : (s n e l a a' : Bool) → s ≡ true → e ≡ true → a ≡ a' → ((s && not (n || (e && l))) || a) ≡ true → (not l || a') ≡ true
    go true true true true a a' s e same h = sym same ∙ h
    go true true true false a a' s e same h = refl
    go true false true true a a' s e same h = sym same ∙ h
    go true false true false a a' s e same h = refl
    go false n e l a a' s e' same h = absurd (no s)
    go true n false l a a' s e same h = absurd (no e)

-- and so the tokens do
node-ends : (p : Production) (f : Forest) (tokens : List Token)
    → (not (ends_open (template p)) || (ends_with_statement p && is_statement (home p))) ≡ true
    → Begins (may_follow (home p) (node p f)) tokens → Ends (template p) f tokens
unfolding dangles
node-ends p f tokens h b o =
    let both = and_parts (ends_with_statement p) (is_statement (home p)) (implied _ _ h o) in
    begins-as (may_follow (home p) (node p f)) (λ kind. not (last_dangles f) || allows (follow class.statement) kind) tokens
    (λ kind k. later p f kind both.0 both.1 k) b

-- The pieces of a right side are read, and made one.
pub expanded : (p : Production) (f : Forest) → ready p ≡ true → Match (template p) f → AllKnown f
    → (symbols : List Symbol) (values : List Written) (tokens : List Token) → Begins (may_follow (home p) (node p f)) tokens
    → Reaches (at (readers (template p) ++ symbol.Reduce p ∷ symbols) values (spells f ++ tokens)) (at symbols (node p f ∷ values) tokens)
unfolding ready
expanded p f h m known symbols values tokens b =
    let both = and_parts (fits (template p) (after_of p)) _ h in
    let made = reduce-step p symbols (push f values) tokens in
    join
    (sequence-reads (template p) f (after_of p) (symbol.Reduce p ∷ symbols) values tokens both.0 m known
    (begins-as (may_follow (home p) (node p f)) (after_of p) tokens (node-after p f) b) (node-ends p f tokens both.1 b))
    (rw (reduce-push p f values m) at made)

-- its class is read by one part, and the rule of that part is its right side
unfoldable pub is_plain : Production → Bool
is_plain make.Identifier = false
is_plain make.Name = false
is_plain make.Number = false
is_plain make.Character = false
is_plain make.Parenthesised = false
is_plain make.Index = false
is_plain make.CallFunction = false
is_plain make.Call = false
is_plain make.Member = false
is_plain make.Arrow = false
is_plain make.PostIncrement = false
is_plain make.PostDecrement = false
is_plain make.PreIncrement = false
is_plain make.PreDecrement = false
is_plain make.Prefix = false
is_plain make.SizeofExpression = false
is_plain make.SizeofType = false
is_plain make.Cast = false
is_plain make.Conditional = false
is_plain make.Assign = false
is_plain make.Comma = false
is_plain make.RegionName = false
is_plain make.Source = false
is_plain make.IntegerBase = false
is_plain make.NoPointers = false
is_plain make.Star = false
is_plain make.QualifiedPointer = false
is_plain make.NextPointer = false
is_plain make.StructUnit = false
is_plain make.RegisterUnit = false
is_plain make.External = false
is_plain make.VoidParameters = false
is_plain make.SomeParameters = false
is_plain make.Parameter = false
is_plain make.ArrayParameter = false
is_plain (make.Binary _) = false
is_plain (make.Comparison _) = false
is_plain (make.Logical _) = false
is_plain (make.AssignWith _) = false
is_plain (make.FirstWord _) = false
is_plain (make.NextWord _ _) = false
is_plain _ = true

unfoldable only_part : List Symbol → Part
only_part (symbol.Read p ∷ []) = p
only_part _ = read.Units

-- the part by which its class is read
unfoldable plain_part : Production → Part
plain_part p = only_part (reader (home p))

-- the first kind for which the test is true
unfoldable first_kind : (Kind → Bool) → List Kind → Kind
first_kind test [] = kind.End
first_kind test (k ∷ ks) = if test k then k else first_kind test ks

-- the rule that is chosen where it begins
unfoldable plain_index : Production → ℕ
plain_index p = chosen (rules (plain_part p)) (first_kind (may_begin (template p) (after_of p)) kinds)

-- wherever the pieces may begin the rule with this index is chosen
unfoldable pub agrees : Part → List Piece → (Kind → Bool) → ℕ → Bool
agrees p pieces after i = every_kind (λ k. not (may_begin pieces after k) || nat_eq (chosen (rules p) k) i)

-- its parts may stand before one another, and that rule is chosen wherever it may begin
unfoldable plain_holds : Production → Bool
plain_holds p = if is_plain p then ready p && agrees (plain_part p) (template p) (after_of p) (plain_index p) else true

-- as is computed
plain-holds : (p : Production) → plain_holds p ≡ true
unfolding plain_holds is_plain ready_check agrees plain_part only_part plain_index first_kind chosen rules
plain-holds make.Identifier = refl
plain-holds _ = refl

-- what a rule does with the token, and what the part is replaced by
abbrev pub shape : Rule → Move × List Symbol
shape rule = (rule.move, rule.symbols)

abbrev pub shown : Option Rule → Option (Move × List Symbol)
shown None = None
shown (Some rule) = Some (shape rule)

-- the rule that reads the pieces and makes them one
unfoldable pub rule_for : List Piece → Production → Move × List Symbol
rule_for (token t ∷ pieces) p = (move.Take, readers pieces ++ symbol.Reduce p ∷ [])
rule_for pieces p = (move.Stay, readers pieces ++ symbol.Reduce p ∷ [])

-- this rule is its right side
unfoldable plain_rule : Production → Option (Move × List Symbol)
plain_rule p = if is_plain p then shown (entry (plain_index p) (rules (plain_part p))) else None

unfoldable plain_rule_for : Production → Option (Move × List Symbol)
plain_rule_for p = if is_plain p then Some (rule_for (template p) p) else None

-- as is computed
plain-rule : (p : Production) → plain_rule p ≡ plain_rule_for p
unfolding plain_rule plain_rule_for is_plain rule_for readers plain_part only_part plain_index first_kind after_of chosen rules
    any_accepts accepts
    keyword_number punctuator_number kinds may_begin firsts nullable template home reader level_reader follow allows is_statement entry
plain-rule make.Identifier = refl
plain-rule _ = refl

-- its class is read by that part alone
unfoldable plain_reader : Production → List Symbol
plain_reader p = if is_plain p then reader (home p) else []

unfoldable plain_reader_for : Production → List Symbol
plain_reader_for p = if is_plain p then symbol.Read (plain_part p) ∷ [] else []

-- as is computed
plain-reader : (p : Production) → plain_reader p ≡ plain_reader_for p
unfolding plain_reader plain_reader_for is_plain plain_part only_part home reader
plain-reader make.Identifier = refl
plain-reader _ = refl

-- a rule that leaves the token, and one that takes it
stay-join : (P : Part) (rule : Rule) (front symbols : List Symbol) (values : List Written) (x : Token) (tokens : List Token)
    (s : Symbol) {c : State}
    → choose (rules P) (kind_of x) ≡ Some rule → shape rule ≡ (move.Stay, front ++ s ∷ [])
    → Reaches (at (front ++ s ∷ symbols) values (x ∷ tokens)) c → Reaches (at (symbol.Read P ∷ symbols) values (x ∷ tokens)) c
stay-join P rule front symbols values x tokens s {c} e r reached =
    let m : rule.move ≡ move.Stay = ap (λ (y : Move × List Symbol). y.0) r in
    let f : rule.symbols ≡ front ++ s ∷ [] = ap (λ (y : Move × List Symbol). y.1) r in
    let one = read-step P rule symbols values x tokens e in
    join (rw (m, f, append_assoc) at one) reached

take-join : (P : Part) (rule : Rule) (t : Terminal) (front symbols : List Symbol) (values others : List Written) (x : Token)
    (tokens left : List Token) (s : Symbol)
    → choose (rules P) (kind_of x) ≡ Some rule → shape rule ≡ (move.Take, front ++ s ∷ []) → accepts t (kind_of x) ≡ true
    → Reaches (at (symbol.Take t ∷ front ++ s ∷ symbols) values (x ∷ tokens)) (at symbols others left)
    → Reaches (at (symbol.Read P ∷ symbols) values (x ∷ tokens)) (at symbols others left)
unfolding step
take-join P rule t front symbols values others x tokens left s e r a reached =
    let m : rule.move ≡ move.Take = ap (λ (y : Move × List Symbol). y.0) r in
    let f : rule.symbols ≡ front ++ s ∷ [] = ap (λ (y : Move × List Symbol). y.1) r in
    let one = read-step P rule symbols values x tokens e in
    let differ = longer (symbol.Take t) (front ++ s ∷ []) symbols {values = values} {others = others} {tokens = x ∷ tokens} {left = left} in
    join (rw (m, f, append_assoc) at one) (after-step {b = at (front ++ s ∷ symbols) (leaf x ∷ values) tokens} (rw a refl) reached
    (rw append_assoc at differ))

-- what the pieces reach one after another a part reaches whose rule reads them
pub rule-join : (pieces : List Piece) (p : Production) (P : Part) (rule : Rule) (after : Kind → Bool) (symbols : List Symbol)
    (values others : List Written)
    (x : Token) (tokens left : List Token) → choose (rules P) (kind_of x) ≡ Some rule → shape rule ≡ rule_for pieces p
    → may_begin pieces after (kind_of x) ≡ true
    → Reaches (at (readers pieces ++ symbol.Reduce p ∷ symbols) values (x ∷ tokens)) (at symbols others left)
    → Reaches (at (symbol.Read P ∷ symbols) values (x ∷ tokens)) (at symbols others left)
unfolding rule_for readers may_begin
rule-join (token t ∷ pieces) p P rule after symbols values others x tokens left e r b reached =
    take-join P rule t (readers pieces) symbols values others x tokens left (symbol.Reduce p) e r b reached
rule-join [] p P rule after symbols values others x tokens left e r b reached =
    stay-join P rule [] symbols values x tokens (symbol.Reduce p) e r reached
rule-join (part c ∷ pieces) p P rule after symbols values others x tokens left e r b reached =
    stay-join P rule (readers (part c ∷ pieces)) symbols values x tokens (symbol.Reduce p) e r reached

-- the rule of a plain production is chosen where it may begin
plain-choice : (p : Production) (kind : Kind) → is_plain p ≡ true → may_begin (template p) (after_of p) kind ≡ true
    → (rule : Rule) × (choose (rules (plain_part p)) kind ≡ Some rule) × (shape rule ≡ rule_for (template p) p)
unfolding plain_holds agrees plain_rule plain_rule_for
plain-choice p kind plain b =
    let both = and_parts (ready p) (agrees (plain_part p) (template p) (after_of p) (plain_index p)) (rw plain at (plain-holds p)) in
    let index = implied _ _ (at-kind (λ k. not (may_begin (template p) (after_of p) k) || nat_eq (chosen (rules (plain_part p)) k)
    (plain_index p)) both.1 kind) b in
    go (entry (plain_index p) (rules (plain_part p))) (choose-at (plain_part p) kind (plain_index p) index) (rw plain at (plain-rule p))
  where
    go : (o : Option Rule) → choose (rules (plain_part p)) kind ≡ o → shown o ≡ Some (rule_for (template p) p)
        → (rule : Rule) × (choose (rules (plain_part p)) kind ≡ Some rule) × (shape rule ≡ rule_for (template p) p)
    go None e r = cc
    go (Some rule) e r = (rule, e, cc)

-- A plain production's tree is read as its class.
pub plain-reads : (p : Production) (f : Forest) → is_plain p ≡ true → Match (template p) f → AllKnown f → Reads (home p) (node p f)
unfolding plain_holds plain_reader plain_reader_for
plain-reads p f plain m known = reads-from (home p) (node p f) (λ symbols values tokens b.
    let whole = expanded p f is_ready m known symbols values tokens b in
    let b' = begins-as (may_follow (home p) (node p f)) (after_of p) tokens (node-after p f) b in
    rw same (go symbols values (node p f ∷ values) tokens (spells f ++ tokens)
    (forest-begins f (template p) m (after_of p) tokens b') whole))
  where
    is_ready : ready p ≡ true
    is_ready = (and_parts (ready p) (agrees (plain_part p) (template p) (after_of p) (plain_index p)) (rw plain at (plain-holds p))).0

    same : reader (home p) ≡ symbol.Read (plain_part p) ∷ []
    same = rw plain at (plain-reader p)

    go : (symbols : List Symbol) (values : List Written) (others : List Written) (left tokens : List Token)
        → Begins (may_begin (template p) (after_of p)) tokens
        → Reaches (at (readers (template p) ++ symbol.Reduce p ∷ symbols) values tokens) (at symbols others left)
        → Reaches (at (symbol.Read (plain_part p) ∷ symbols) values tokens) (at symbols others left)
    go symbols values others left [] b reached = absurd b
    go symbols values others left (x ∷ tokens) b reached =
        let choice = plain-choice p (kind_of x) plain b in
        rule-join (template p) p (plain_part p) choice.0 (after_of p) symbols values others x tokens left choice.1 choice.2 b reached

-- A production's tree is read as its class, where this is read by the pieces and the production.
pub direct-reads : (p : Production) (f : Forest) → ready p ≡ true → reader (home p) ≡ readers (template p) ++ symbol.Reduce p ∷ []
    → Match (template p) f → AllKnown f → Reads (home p) (node p f)
direct-reads p f r same m known = reads-from (home p) (node p f) (λ symbols values tokens b.
    rw (same, append_assoc) (expanded p f r m known symbols values tokens b))
