-- What is computed of the tables.
use Rattle.std.proofs.Common.{◌≡◌, Bool, true, false, ◌&&◌, ◌||◌, not, List, [], ◌∷◌, ◌++◌, Option, Some, None, refl}
use Rattle.csyn.specs.declared.keyword.Keyword.TheVariants as keyword
use Rattle.csyn.specs.declared.punctuator.Punctuator.TheVariants as punctuator
use Rattle.cgrammar.specs.declared.kind.Kind.{Kind}
use Rattle.cgrammar.specs.declared.kind.Kind.TheVariants as kind
use Rattle.cgrammar.specs.declared.production.Level.TheVariants as chain
use Rattle.cgrammar.specs.declared.production.Words.TheVariants as words
use Rattle.cgrammar.specs.declared.terminal.Terminal.{Terminal}
use Rattle.cgrammar.specs.declared.terminal.Terminal.TheVariants as terminal
use Rattle.creader.specs.declared.part.Part.{Part}
use Rattle.creader.specs.declared.part.Part.TheVariants as part
use Rattle.creader.specs.declared.part.Move.{Move}
use Rattle.creader.specs.declared.part.Move.TheVariants as move
use Rattle.creader.specs.declared.part.Symbol.{Symbol}
use Rattle.creader.specs.declared.part.Symbol.TheVariants as symbol
use Rattle.cgrammar.specs.Terminal.{accepts, keyword_number, punctuator_number}
use Rattle.creader.specs.Rules.{Rule, rules, chain_rules, chain_tail_rules, words_rules, any_accepts, choose}
use Rattle.creader.proofs.Complete.Reading.{allows, extenders, operators_from}
use Rattle.creader.proofs.Fault.Kinds.{every, every_kind}
use Rattle.creader.proofs.Fault.Goes.{goes}
use Rattle.creader.proofs.Fault.Table.{short, level_number, ends_before, pick}

-- what the symbols can be completed by
unfoldable pub completion : List Symbol → List Kind
completion [] = []
completion (symbol.Take t ∷ symbols) = pick t ∷ completion symbols
completion (symbol.Reduce p ∷ symbols) = completion symbols
completion (symbol.Read p ∷ symbols) = short p ++ completion symbols

-- the first of the kinds, or what follows them
abbrev pub first : List Kind → Kind → Kind
first [] following = following
first (kind ∷ kinds) following = kind

-- each part of the symbols can be ended before what its completion is followed by
unfoldable pub completes : List Symbol → Kind → Bool
completes [] following = true
completes (symbol.Take t ∷ symbols) following = completes symbols following
completes (symbol.Reduce p ∷ symbols) following = completes symbols following
completes (symbol.Read p ∷ symbols) following = allows (ends_before p) (first (completion symbols) following) && completes symbols following

-- none of the symbols takes the end token
unfoldable pub spares_end : List Symbol → Bool
spares_end [] = true
spares_end (symbol.Take t ∷ symbols) = not (accepts t kind.End) && spares_end symbols
spares_end (symbol.Reduce p ∷ symbols) = spares_end symbols
spares_end (symbol.Read p ∷ symbols) = spares_end symbols

abbrev pub is_staying : Move → Bool
is_staying move.Stay = true
is_staying move.Take = false

-- a rule that is chosen, if one is, leaves the token
abbrev pub leaves_token : Option Rule → Bool
leaves_token None = true
leaves_token (Some rule) = is_staying rule.move

pub pick_accepted : (t : Terminal) → accepts t (pick t) ≡ true
unfolding accepts pick keyword_number punctuator_number
pick_accepted (terminal.Keyword keyword.Attribute) = refl
pick_accepted (terminal.Keyword _) = refl
pick_accepted (terminal.Punctuator punctuator.Arrow) = refl
pick_accepted (terminal.Punctuator _) = refl
pick_accepted _ = refl

-- the short text of a part is read before each of these tokens
abbrev pub short_test : Part → Kind → Bool
short_test p following = not (allows (ends_before p) following) || goes 40 (symbol.Read p ∷ []) (short p) following

pub short_is_read : (p : Part) → every_kind (short_test p) ≡ true
unfolding rules chain_rules chain_tail_rules words_rules choose any_accepts accepts keyword_number punctuator_number goes short
    level_number ends_before allows extenders operators_from
short_is_read (part.Chain chain.Or) = refl
short_is_read (part.Chain _) = refl
short_is_read (part.ChainTail chain.Or) = refl
short_is_read (part.ChainTail _) = refl
short_is_read (part.Words words.Sign) = refl
short_is_read (part.Words _) = refl
short_is_read _ = refl

-- where a part may be ended, so may what each of its rules puts in its place
abbrev pub rules_test : Part → Kind → Bool
rules_test p following = not (allows (ends_before p) following) || every (λ rule. completes rule.symbols following) (rules p)

pub rules_complete : (p : Part) → every_kind (rules_test p) ≡ true
unfolding rules chain_rules chain_tail_rules words_rules any_accepts accepts keyword_number punctuator_number short level_number
    ends_before allows extenders operators_from pick completion completes
rules_complete (part.Chain chain.Or) = refl
rules_complete (part.Chain _) = refl
rules_complete (part.ChainTail chain.Or) = refl
rules_complete (part.ChainTail _) = refl
rules_complete (part.Words words.Sign) = refl
rules_complete (part.Words _) = refl
rules_complete _ = refl

-- no rule takes the end token
abbrev pub end_test : Part → Bool
end_test p = leaves_token (choose (rules p) kind.End) && every (λ rule. spares_end rule.symbols) (rules p)

pub end_is_left : (p : Part) → end_test p ≡ true
unfolding rules chain_rules chain_tail_rules words_rules choose any_accepts accepts keyword_number punctuator_number spares_end
end_is_left (part.Chain chain.Or) = refl
end_is_left (part.Chain _) = refl
end_is_left (part.ChainTail chain.Or) = refl
end_is_left (part.ChainTail _) = refl
end_is_left (part.Words words.Sign) = refl
end_is_left (part.Words _) = refl
end_is_left _ = refl
