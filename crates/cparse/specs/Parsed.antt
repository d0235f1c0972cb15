-- The tree of a source, or its first fault.
use Rattle.std.specs.Prelude.{◌≡◌, ℕ, ◌+◌, List, [], length, slice_get, Some, Result, Ok, Err, if◌then◌else◌}
use Rattle.csyn.specs.declared.token.Token.{Token}
use Rattle.csyn.specs.declared.span.Span.{Span}
use Rattle.csyn.specs.declared.cause.Cause.{Cause}
use Rattle.csyn.specs.declared.cause.Cause.TheVariants.{G1, G2, G3}
use Rattle.csyn.specs.declared.fault.SourceFault.{SourceFault}
use Rattle.csyn.specs.declared.fault.SourceFault.TheVariants.{Broken, Memory}
use Rattle.csyn.specs.Keyword.{is_excluded}
use Rattle.csyn.specs.Bare.{bare_units}
use Rattle.csyn.specs.Tree.{Contents}
use Rattle.cgrammar.specs.declared.kind.Kind.{Kind}
use Rattle.cgrammar.specs.declared.kind.Kind.TheVariants as kind
use Rattle.cgrammar.specs.Kind.{kind_of}
use Rattle.cgrammar.specs.Text.{Written, IsText, IsFirstFault}
use Rattle.cparts.specs.declared.value.Value.TheVariants.{Units}
use Rattle.cparse.specs.Nodes.{nodes, deep, IsFirstDeep}
use Rattle.cparse.specs.Tree.{value}

-- The tokens are the source of this tree, its boxes aside: they are written by the productions of the grammar, no node stands at
-- level 257, and the tree is what the productions make.
pub record Yields (tree : Contents) (tokens : List Token) : Type 0 where
  pub written : Written
  pub text : IsText written tokens
  pub shallow : deep 0 0 written ≡ []
  pub units : value 0 written ≡ Some (Units (bare_units tree.units))
  pub nodes_count : tree.nodes ≡ nodes written
  -- the end token aside
  pub tokens_count : tree.tokens + 1 ≡ length tokens
  pub end_token : Token
  pub is_last : slice_get tokens tree.tokens ≡ Some end_token
  pub ends : tree.end ≡ end_token.span

-- why a token can't stand: an excluded keyword never can
abbrev pub kind_cause : Kind → Cause
kind_cause (kind.Keyword keyword) = if is_excluded keyword then G2 else G1
kind_cause _ = G1

-- a fault at a token, by its place
pub record FaultAt (tokens : List Token) (place : ℕ) (span : Span) : Type 0 where
  pub token : Token
  pub stands : slice_get tokens place ≡ Some token
  pub begins : span ≡ token.span

-- the first token that can't stand
pub record IsUnreadable (tokens : List Token) (span : Span) (cause : Cause) : Type 0 where
  pub place : ℕ
  pub is_first : IsFirstFault tokens place
  pub at : FaultAt tokens place span
  pub why : cause ≡ kind_cause (kind_of at.token)

-- the least first token of a node at level 257
pub record IsTooDeep (tokens : List Token) (span : Span) (cause : Cause) : Type 0 where
  pub written : Written
  pub text : IsText written tokens
  pub place : ℕ
  pub is_first : IsFirstDeep written place
  pub at : FaultAt tokens place span
  pub why : cause ≡ G3

-- The first fault. Where the tokens are no source, no node stands anywhere.
pub data IsFault (tokens : List Token) (span : Span) (cause : Cause) : Type 0 where
  unreadable : IsUnreadable tokens span cause → IsFault tokens span cause
  too_deep : IsTooDeep tokens span cause → IsFault tokens span cause

abbrev pub IsFaultOf : List Token → SourceFault → Type 0
IsFaultOf tokens (Broken span cause) = IsFault tokens span cause
IsFaultOf tokens Memory = Unit {0}

-- the same tree, boxes aside
pub record Same (a b : Contents) : Type 0 where
  pub units : bare_units a.units ≡ bare_units b.units
  pub tokens : a.tokens ≡ b.tokens
  pub nodes : a.nodes ≡ b.nodes
  pub end : a.end ≡ b.end

-- this tree is answered, or memory is wanting
abbrev pub AnswersTree : Contents → Result Contents SourceFault → Type 0
AnswersTree tree (Ok answered) = Same answered tree
AnswersTree tree (Err (Broken _ _)) = ⊥
AnswersTree tree (Err Memory) = Unit {0}

-- this fault is named, or memory is wanting
abbrev pub AnswersFault : Span → Cause → Result Contents SourceFault → Type 0
AnswersFault span cause (Ok _) = ⊥
AnswersFault span cause (Err (Broken s c)) = (s ≡ span) × (c ≡ cause)
AnswersFault span cause (Err Memory) = Unit {0}
