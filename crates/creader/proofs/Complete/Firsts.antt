-- With which tokens a part of a class begins, and whether it may be empty.
use Rattle.std.specs.Prelude.{◌≡◌, Bool, true, false, not, ◌||◌, ◌&&◌, ◌⊎◌, List, [], ◌∷◌, ◌++◌}
use Rattle.std.proofs.Common.{refl, append_assoc, inl, inr}
use Rattle.std.proofs.lemmas.Bool.{and_parts, and_from, or_cases, or_left, or_right}
use Rattle.csyn.specs.declared.token.Token.{Token}
use Rattle.csyn.specs.declared.keyword.Keyword.{Keyword}
use Rattle.csyn.specs.declared.keyword.Keyword.TheVariants as keyword
use Rattle.csyn.specs.declared.punctuator.Punctuator.{Punctuator}
use Rattle.csyn.specs.declared.punctuator.Punctuator.TheVariants as punctuator
use Rattle.csyn.specs.declared.operator.BinaryOperator.TheVariants as operator
use Rattle.csyn.specs.declared.operator.ComparisonOperator.TheVariants as comparison
use Rattle.csyn.specs.declared.operator.LogicalOperator.TheVariants as logical
use Rattle.cgrammar.specs.declared.kind.Kind.{Kind}
use Rattle.cgrammar.specs.declared.production.Production.{Production}
use Rattle.cgrammar.specs.declared.production.Production.TheVariants as make
use Rattle.cgrammar.specs.declared.production.Word.TheVariants as kind
use Rattle.cgrammar.specs.declared.production.Words.TheVariants as every
use Rattle.cgrammar.specs.declared.terminal.Terminal.{Terminal}
use Rattle.cgrammar.specs.declared.terminal.Terminal.TheVariants as terminal
use Rattle.cgrammar.specs.Kind.{kind_of}
use Rattle.cgrammar.specs.Terminal.{accepts, keyword_number, punctuator_number}
use Rattle.creader.specs.Rules.{any_accepts}
use Rattle.cgrammar.specs.Grammar as class
use Rattle.cgrammar.specs.Grammar.{Class, Piece, token, part, template, home, under, is_wider, operator_level, operator_token}
use Rattle.cgrammar.specs.Grammar.{comparison_level, comparison_token, logical_level, logical_token, assignment_token, word_token}
use Rattle.cgrammar.specs.Grammar.{alone, before, joined}
use Rattle.cgrammar.specs.Text.{Written, leaf, node, Forest, none, more, IsProper, Match, Stands, spell, spells}
use Rattle.creader.proofs.Complete.Classes.{under-ways}
use Rattle.creader.proofs.Complete.Kinds.{every_kind, at-kind, kinds, each}

abbrev pub sign : Punctuator → Terminal
sign mark = terminal.Punctuator mark

abbrev pub word : Keyword → Terminal
word k = terminal.Keyword k

abbrev pub integer_words : List Terminal
integer_words = terminal.Sign ∷ terminal.Length ∷ word keyword.Char ∷ word keyword.Int ∷ []

-- what the larger classes begin with
abbrev expression_starts : List Terminal
expression_starts = terminal.Name ∷ terminal.Number ∷ terminal.Character ∷ sign punctuator.LeftParenthesis ∷ sign punctuator.Increment
    ∷ sign punctuator.Decrement ∷ terminal.Prefix ∷ word keyword.Sizeof ∷ []

abbrev type_starts : List Terminal
type_starts = terminal.Specifier ∷ word keyword.Void ∷ word keyword.Struct ∷ terminal.Standard ∷ integer_words

abbrev statement_starts : List Terminal
statement_starts = sign punctuator.LeftBrace ∷ word keyword.If ∷ word keyword.While ∷ word keyword.Do ∷ word keyword.For
    ∷ word keyword.Switch ∷ word keyword.Break
    ∷ word keyword.Continue ∷ word keyword.Return ∷ word keyword.Region ∷ sign punctuator.Semicolon ∷ expression_starts

abbrev label_starts : List Terminal
label_starts = word keyword.Case ∷ word keyword.Default ∷ []

-- the tokens with which it may begin
unfoldable pub firsts : Class → List Terminal
firsts (class.level _) = expression_starts
firsts class.callee = expression_starts
firsts (class.words _) = integer_words
firsts class.stars = sign punctuator.Star ∷ []
firsts class.qualified = sign punctuator.Star ∷ []
firsts class.identifier = terminal.Name ∷ []
firsts class.arguments = expression_starts
firsts class.more_arguments = sign punctuator.Comma ∷ []
firsts class.optional_expression = expression_starts
firsts class.type_name = type_starts
firsts class.«type» = type_starts
firsts class.base = word keyword.Void ∷ word keyword.Struct ∷ terminal.Standard ∷ integer_words
firsts class.integer = integer_words
firsts class.qualifiers = terminal.Qualifier ∷ []
firsts class.some_qualifiers = terminal.Qualifier ∷ []
firsts class.pointers = sign punctuator.Star ∷ []
firsts class.lengths = sign punctuator.LeftBracket ∷ []
firsts class.declarator = sign punctuator.Star ∷ terminal.Name ∷ []
firsts class.more_declarators = sign punctuator.Comma ∷ []
firsts class.member = type_starts
firsts class.more_members = type_starts
firsts class.location = word keyword.Attribute ∷ []
firsts class.initial = sign punctuator.Assign ∷ []
firsts class.init = sign punctuator.LeftBrace ∷ expression_starts
firsts class.more_inits = sign punctuator.Comma ∷ []
firsts class.after_init_comma = sign punctuator.LeftBrace ∷ expression_starts
firsts class.init_declarator = sign punctuator.Star ∷ terminal.Name ∷ []
firsts class.more_init_declarators = sign punctuator.Comma ∷ []
firsts class.object = type_starts
firsts class.statement = statement_starts
firsts class.optional_else = word keyword.Else ∷ []
firsts class.for_first = sign punctuator.Semicolon ∷ type_starts ++ expression_starts
firsts class.region_name = terminal.Literal ∷ []
firsts class.items = type_starts ++ statement_starts
firsts class.label = label_starts
firsts class.switch_items = label_starts
firsts class.more_switch_items = label_starts ++ statement_starts
firsts class.units = type_starts
firsts class.unit = type_starts
firsts class.register_type = word keyword.Unsigned ∷ terminal.Uint32 ∷ []
firsts class.external_rest = sign punctuator.LeftParenthesis ∷ sign punctuator.LeftBracket ∷ word keyword.Attribute ∷ sign punctuator.Assign
    ∷ sign punctuator.Comma ∷ sign punctuator.Semicolon ∷ []
firsts class.function_end = sign punctuator.Semicolon ∷ sign punctuator.LeftBrace ∷ []
firsts class.parameters = type_starts
firsts class.parameter = type_starts
firsts class.more_parameters = sign punctuator.Comma ∷ []
firsts class.source = terminal.End ∷ type_starts
firsts class.nothing = expression_starts

-- it may be without a token
unfoldable pub nullable : Class → Bool
nullable class.stars = true
nullable class.arguments = true
nullable class.more_arguments = true
nullable class.optional_expression = true
nullable class.qualifiers = true
nullable class.pointers = true
nullable class.lengths = true
nullable class.more_declarators = true
nullable class.more_members = true
nullable class.location = true
nullable class.initial = true
nullable class.more_inits = true
nullable class.after_init_comma = true
nullable class.more_init_declarators = true
nullable class.optional_else = true
nullable class.items = true
nullable class.switch_items = true
nullable class.more_switch_items = true
nullable class.units = true
nullable class.parameters = true
nullable class.more_parameters = true
nullable _ = false

-- the kinds with which a right side may begin, where such a kind may stand behind it
unfoldable pub may_begin : List Piece → (Kind → Bool) → Kind → Bool
may_begin [] after kind = after kind
may_begin (token t ∷ pieces) after kind = accepts t kind
may_begin (part c ∷ pieces) after kind = any_accepts (firsts c) kind || (nullable c && may_begin pieces after kind)

-- each piece may be without a token
unfoldable all_nullable : List Piece → Bool
all_nullable [] = true
all_nullable (token t ∷ pieces) = false
all_nullable (part c ∷ pieces) = nullable c && all_nullable pieces

-- the first token, and there is one, passes the test
abbrev pub Begins : (Kind → Bool) → List Token → Type 0
Begins test [] = ⊥
Begins test (t ∷ _) = test (kind_of t) ≡ true

-- a weaker test is passed too
pub begins-as : (test test' : Kind → Bool) (tokens : List Token) → ((kind : Kind) → test kind ≡ true → test' kind ≡ true)
    → Begins test tokens → Begins test' tokens
begins-as test test' [] weaker h = h
begins-as test test' (t ∷ _) weaker h = weaker (kind_of t) h

-- where one Bool is true the other is
pub implied : (a b : Bool) → (not a || b) ≡ true → a ≡ true → b ≡ true
implied true b h e = h
implied false b h e = cc

pub no : false ≡ true → ⊥
no h = cc

abbrev never : Kind → Bool
never _ = false

-- either by itself, or by what stands behind it
begin-ways : (pieces : List Piece) (after : Kind → Bool) (kind : Kind) → may_begin pieces after kind ≡ true
    → (may_begin pieces never kind || (all_nullable pieces && after kind)) ≡ true
unfolding may_begin all_nullable
begin-ways [] after kind h = h
begin-ways (token t ∷ pieces) after kind h = or_left (accepts t kind) _ h
begin-ways (part c ∷ pieces) after kind h =
    ways (any_accepts (firsts c) kind) (nullable c) (may_begin pieces after kind) (may_begin pieces never kind)
    (all_nullable pieces) (after kind) h (begin-ways pieces after kind)
  where
    ways : (f n m m' l a : Bool) → (f || (n && m)) ≡ true → (m ≡ true → (m' || (l && a)) ≡ true)
        → ((f || (n && m')) || ((n && l) && a)) ≡ true
    ways true n m m' l a h ih = refl
    ways false true m m' l a h ih = ih h
    ways false false m m' l a h ih = h

-- each production begins as its class says
unfoldable closed : Production → Bool
closed p = every_kind (λ kind. not (may_begin (template p) never kind) || any_accepts (firsts (home p)) kind)
    && (not (all_nullable (template p)) || nullable (home p))

-- as is computed
closed-all : (p : Production) → closed p ≡ true
unfolding closed every_kind kinds each may_begin all_nullable template home firsts nullable any_accepts accepts keyword_number
    punctuator_number
    operator_level operator_token comparison_level comparison_token logical_level logical_token assignment_token word_token alone
    before joined
closed-all (make.Binary operator.Multiply) = refl
closed-all (make.Binary _) = refl
closed-all (make.Comparison comparison.Less) = refl
closed-all (make.Comparison _) = refl
closed-all (make.Logical logical.And) = refl
closed-all (make.Logical _) = refl
closed-all (make.AssignWith operator.Multiply) = refl
closed-all (make.AssignWith _) = refl
closed-all (make.FirstWord kind.Sign) = refl
closed-all (make.FirstWord _) = refl
closed-all (make.NextWord every.Sign kind.Sign) = refl
closed-all (make.NextWord every.Char kind.Sign) = refl
closed-all (make.NextWord every.Length kind.Sign) = refl
closed-all (make.NextWord every.Int kind.Sign) = refl
closed-all (make.NextWord every.SignChar kind.Sign) = refl
closed-all (make.NextWord every.SignLength kind.Sign) = refl
closed-all (make.NextWord every.SignInt kind.Sign) = refl
closed-all (make.NextWord every.LengthInt kind.Sign) = refl
closed-all (make.NextWord every.SignLengthInt kind.Sign) = refl
closed-all (make.NextWord _ _) = refl
closed-all _ = refl

-- what is tighter begins no other way
wider-firsts : (a c : Class) → is_wider a c ≡ true → firsts a ≡ firsts c
unfolding is_wider firsts
wider-firsts (class.level _) (class.level _) h = refl
wider-firsts (class.level _) _ h = absurd (no h)
wider-firsts class.callee (class.level _) h = refl
wider-firsts class.callee _ h = absurd (no h)
wider-firsts (class.words _) class.integer h = refl
wider-firsts (class.words _) _ h = absurd (no h)
wider-firsts class.stars class.pointers h = refl
wider-firsts class.stars _ h = absurd (no h)
wider-firsts class.qualified class.pointers h = refl
wider-firsts class.qualified _ h = absurd (no h)
wider-firsts class.some_qualifiers class.qualifiers h = refl
wider-firsts class.some_qualifiers _ h = absurd (no h)
wider-firsts _ _ h = absurd (no h)

wider-nullable : (a c : Class) → is_wider a c ≡ true → nullable a ≡ true → nullable c ≡ true
unfolding is_wider nullable
wider-nullable (class.level _) _ h e = absurd (no e)
wider-nullable class.callee _ h e = absurd (no e)
wider-nullable (class.words _) _ h e = absurd (no e)
wider-nullable class.qualified _ h e = absurd (no e)
wider-nullable class.some_qualifiers _ h e = absurd (no e)
wider-nullable class.stars class.pointers h e = refl
wider-nullable class.stars _ h e = absurd (no h)
wider-nullable _ _ h e = absurd (no h)

-- what stands where a class is wanted begins as this class does
under-firsts : (a c : Class) → under a c ≡ true → (kind : Kind) → any_accepts (firsts a) kind ≡ true → any_accepts (firsts c) kind ≡ true
under-firsts a c h kind e = go (under-ways a c h)
  where
    go : (a ≡ c) ⊎ (is_wider a c ≡ true) → any_accepts (firsts c) kind ≡ true
    go (inl same) = rw same at e
    go (inr wider) = rw (wider-firsts a c wider) at e

under-nullable : (a c : Class) → under a c ≡ true → nullable a ≡ true → nullable c ≡ true
under-nullable a c h e = go (under-ways a c h)
  where
    go : (a ≡ c) ⊎ (is_wider a c ≡ true) → nullable c ≡ true
    go (inl same) = rw same at e
    go (inr wider) = wider-nullable a c wider e

-- a production begins as each class does where it stands, or with what stands behind it
production-begins : (p : Production) (c : Class) → under (home p) c ≡ true → (test : Kind → Bool) (kind : Kind)
    → may_begin (template p) test kind ≡ true → (any_accepts (firsts c) kind || (nullable c && test kind)) ≡ true
unfolding closed
production-begins p c u test kind h =
    go (or_cases (may_begin (template p) never kind) (all_nullable (template p) && test kind) (begin-ways (template p) test kind h))
  where
    both : (every_kind (λ k. not (may_begin (template p) never k) || any_accepts (firsts (home p)) k) ≡ true)
        × ((not (all_nullable (template p)) || nullable (home p)) ≡ true)
    both = and_parts (every_kind (λ k. not (may_begin (template p) never k) || any_accepts (firsts (home p)) k)) _ (closed-all p)

    go : (may_begin (template p) never kind ≡ true) ⊎ ((all_nullable (template p) && test kind) ≡ true)
        → (any_accepts (firsts c) kind || (nullable c && test kind)) ≡ true
    go (inl e) =
        let here = at-kind (λ k. not (may_begin (template p) never k) || any_accepts (firsts (home p)) k) both.0 kind in
        or_left _ _ (under-firsts (home p) c u kind (implied _ _ here e))
    go (inr e) =
        let parts = and_parts (all_nullable (template p)) (test kind) e in
        or_right _ _ (and_from _ _ (under-nullable (home p) c u (implied _ _ both.1 parts.0)) parts.1)

-- What is written begins as its class or its pieces say, before what begins with a token that passes the test.
mutual
  unfolding IsProper may_begin

  pub written-begins : (w : Written) → IsProper w → (c : Class) → Stands (part c) w → (test : Kind → Bool) (tokens : List Token)
      → Begins test tokens
      → Begins (λ kind. any_accepts (firsts c) kind || (nullable c && test kind)) (spell w ++ tokens)
  written-begins (leaf t) m c s test tokens b = absurd s
  written-begins (node p f) m c s test tokens b =
      begins-as (may_begin (template p) test) _ (spells f ++ tokens) (production-begins p c s test)
      (forest-begins f (template p) m test tokens b)

  pub forest-begins : (f : Forest) (pieces : List Piece) → Match pieces f → (test : Kind → Bool) (tokens : List Token) → Begins test tokens
      → Begins (may_begin pieces test) (spells f ++ tokens)
  forest-begins none [] m test tokens b = b
  forest-begins none (piece ∷ pieces) m test tokens b = absurd m
  forest-begins (more w f) [] m test tokens b = absurd m
  forest-begins (more (leaf t) f) (token terminal ∷ pieces) m test tokens b = m.0
  forest-begins (more (node p g) f) (token terminal ∷ pieces) m test tokens b = absurd m.0
  forest-begins (more w f) (part c ∷ pieces) m test tokens b =
      rw append_assoc (written-begins w m.1 c m.0 (may_begin pieces test) (spells f ++ tokens) (forest-begins f pieces m.3 test tokens b))
