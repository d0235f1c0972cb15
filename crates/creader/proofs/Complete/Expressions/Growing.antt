-- The productions of expressions that begin with an expression.
use Rattle.std.proofs.Common.{◌≡◌, ℕ, ◌+◌, Bool, true, false, List, [], ◌∷◌, refl, true≢false, sym}
use Rattle.csyn.specs.declared.operator.BinaryOperator.TheVariants as operator
use Rattle.csyn.specs.declared.operator.ComparisonOperator.TheVariants as comparison
use Rattle.csyn.specs.declared.operator.LogicalOperator.TheVariants as logical
use Rattle.csyn.specs.declared.punctuator.Punctuator.TheVariants as punctuator
use Rattle.cgrammar.specs.declared.production.Production.{Production}
use Rattle.cgrammar.specs.declared.production.Production.TheVariants as make
use Rattle.cgrammar.specs.declared.terminal.Terminal.{Terminal}
use Rattle.cgrammar.specs.Terminal.{accepts, keyword_number, punctuator_number}
use Rattle.creader.specs.Rules.{rules, chain_rules, chain_tail_rules, choose, any_accepts}
use Rattle.cgrammar.specs.Grammar as class
use Rattle.cgrammar.specs.Grammar.{Piece, sign, template, home, operator_level, operator_token, comparison_level}
use Rattle.cgrammar.specs.Grammar.{comparison_token, logical_level, logical_token, assignment_token}
use Rattle.cgrammar.specs.Text.{Forest, node, Match}
use Rattle.creader.proofs.Complete.Reading.{reader, level_reader, chain_of, chain_part, has_reader, follow}
use Rattle.creader.proofs.Complete.Reading.{allows, is_statement, extenders, operators_from}
use Rattle.creader.proofs.Complete.Kinds.{each, every_kind, kinds}
use Rattle.creader.proofs.Complete.Firsts.{may_begin, firsts, nullable}
use Rattle.creader.proofs.Complete.Firsts.{sign as mark}
use Rattle.creader.proofs.Complete.Sequence.{readers, fits, ends_open, before_end}
use Rattle.creader.proofs.Complete.Heads.{Heads, AllKnown, is_expression, is_level, is_bare_name, level_of, left_numbers}
use Rattle.creader.proofs.Complete.Heads.{postfix_numbers, after_numbers, chain_numbers, tail_symbol, barred}
use Rattle.creader.proofs.Complete.Expressions.Tables.{when, when-at, every_below, every_expression}
use Rattle.creader.proofs.Complete.Productions.{production_number, operator_number, comparison_number, logical_number}
use Rattle.creader.proofs.Complete.Expressions.Symbols.{same, same_symbol, symbol_number}
use Rattle.creader.proofs.Complete.Expressions.Stays.{takes, takes_now, taken, taken_by, settle, once, stayed, stayed_by}
use Rattle.creader.proofs.Complete.Expressions.Grows.{Shape, first_class, grows, token_grows, goes_on, wanted, suits, grows-heads}

unfoldable pub is_growing : Production → Bool
is_growing make.Index = true
is_growing make.Call = true
is_growing make.Member = true
is_growing make.Arrow = true
is_growing make.PostIncrement = true
is_growing make.PostDecrement = true
is_growing (make.Binary _) = true
is_growing (make.Comparison _) = true
is_growing (make.Logical _) = true
is_growing make.Conditional = true
is_growing make.Assign = true
is_growing (make.AssignWith _) = true
is_growing make.Comma = true
is_growing _ = false

abbrev shape : ℕ → Bool → Terminal → List Piece → Shape
shape level bare operator others = record { level = level; bare = bare; operator = operator; others = others }

-- what the templates say
unfoldable shape_of : Production → Shape
shape_of make.Index = shape 15 true (mark punctuator.LeftBracket) (class.part (class.level 0) ∷ sign punctuator.RightBracket ∷ [])
shape_of make.Call = shape 15 false (mark punctuator.LeftParenthesis) (class.part class.arguments ∷ sign punctuator.RightParenthesis ∷ [])
shape_of make.Member = shape 15 true (mark punctuator.Dot) (class.part class.identifier ∷ [])
shape_of make.Arrow = shape 15 true (mark punctuator.Arrow) (class.part class.identifier ∷ [])
shape_of make.PostIncrement = shape 15 true (mark punctuator.Increment) []
shape_of make.PostDecrement = shape 15 true (mark punctuator.Decrement) []
shape_of (make.Binary o) = shape (operator_level o) true (operator_token o) (class.part (class.level (operator_level o + 1)) ∷ [])
shape_of (make.Comparison o) = shape (comparison_level o) true (comparison_token o) (class.part (class.level (comparison_level o + 1)) ∷ [])
shape_of (make.Logical o) = shape (logical_level o) true (logical_token o) (class.part (class.level (logical_level o + 1)) ∷ [])
shape_of make.Conditional =
    shape 3 true (mark punctuator.Question) (class.part (class.level 0) ∷ sign punctuator.Colon ∷ class.part (class.level 2) ∷ [])
shape_of make.Assign = shape 14 true (mark punctuator.Assign) (class.part (class.level 1) ∷ [])
shape_of (make.AssignWith o) = shape 14 true (assignment_token o) (class.part (class.level 1) ∷ [])
shape_of _ = shape 0 true (mark punctuator.Comma) (class.part (class.level 1) ∷ [])

unfoldable growing_holds : Production → Bool
growing_holds p = when (is_expression p) (λ _. grows p (shape_of p))

growing-holds : (p : Production) → is_growing p ≡ true → growing_holds p ≡ true
unfolding is_growing growing_holds shape_of grows token_grows goes_on wanted suits when every_below each every_kind kinds every_expression
    is_expression is_level is_bare_name home level_of barred extenders operators_from operator_level operator_token
    comparison_level comparison_token logical_level logical_token assignment_token
    any_accepts accepts keyword_number punctuator_number takes takes_now taken taken_by settle once stayed stayed_by choose rules
    chain_rules
    chain_tail_rules tail_symbol left_numbers postfix_numbers after_numbers chain_numbers same same_symbol symbol_number production_number
    operator_number comparison_number logical_number readers fits ends_open before_end reader level_reader chain_of chain_part
    has_reader follow allows is_statement may_begin firsts
    nullable
growing-holds make.Index h = refl
growing-holds make.Call h = refl
growing-holds make.Member h = refl
growing-holds make.Arrow h = refl
growing-holds make.PostIncrement h = refl
growing-holds make.PostDecrement h = refl
growing-holds (make.Binary operator.Multiply) h = refl
growing-holds (make.Binary _) h = refl
growing-holds (make.Comparison comparison.Less) h = refl
growing-holds (make.Comparison _) h = refl
growing-holds (make.Logical logical.And) h = refl
growing-holds (make.Logical _) h = refl
growing-holds make.Conditional h = refl
growing-holds make.Assign h = refl
growing-holds (make.AssignWith operator.Multiply) h = refl
growing-holds (make.AssignWith _) h = refl
growing-holds make.Comma h = refl
growing-holds _ h = absurd (true≢false (sym h))

growing-template : (p : Production) → is_growing p ≡ true
    → template p ≡ class.part (first_class (shape_of p)) ∷ class.token (shape_of p).operator ∷ (shape_of p).others
unfolding is_growing template shape_of
growing-template make.Index h = refl
growing-template make.Call h = refl
growing-template make.Member h = refl
growing-template make.Arrow h = refl
growing-template make.PostIncrement h = refl
growing-template make.PostDecrement h = refl
growing-template (make.Binary o) h = refl
growing-template (make.Comparison o) h = refl
growing-template (make.Logical o) h = refl
growing-template make.Conditional h = refl
growing-template make.Assign h = refl
growing-template (make.AssignWith o) h = refl
growing-template make.Comma h = refl
growing-template _ h = absurd (true≢false (sym h))

pub growing-reads : (p : Production) (f : Forest) → is_growing p ≡ true → is_expression p ≡ true → Match (template p) f → AllKnown f
    → Heads (node p f)
unfolding growing_holds
growing-reads p f g e m known =
    grows-heads p (shape_of p) e (when-at (is_expression p) _ (growing-holds p g) e) f (growing-template p g) m known
