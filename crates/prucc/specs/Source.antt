-- The tree of a source, what a source writes, the rule that it breaks, and where it isn't built yet.
use Rattle.std.specs.Prelude.{◌≡◌, ℕ, List, Some}
use Rattle.csyn.specs.declared.cause.Cause.{Cause}
use Rattle.csyn.specs.declared.fault.SourceFault.{SourceFault}
use Rattle.csyn.specs.declared.fault.SourceFault.TheVariants.{Broken, Memory}
use Rattle.csyn.specs.declared.span.Span.{Span}
use Rattle.csyn.specs.declared.token.Token.{Token}
use Rattle.csyn.specs.Tree.{Contents}
use Rattle.clex.specs.Text as text
use Rattle.cpre.specs.Expansion as expansion
use Rattle.cparse.specs.Parsed as parsed
use Rattle.prucc.specs.Form.{IsProgram, departure}

-- the source is written in tokens that expand to these
pub record IsExpandedTo (source : List ℕ) (tokens : List Token) : Type 0 where
  pub written : List Token
  pub spelled : text.Spells written source
  pub expands : expansion.Expands written tokens

pub record IsTreeOf (tree : Contents) (source : List ℕ) : Type 0 where
  pub tokens : List Token
  pub expanded : IsExpandedTo source tokens
  pub yields : parsed.Yields tree tokens

-- The first rule that the source breaks, and where: of its tokens, of its directives and macros, or of the grammar.
pub data IsSourceFault (source : List ℕ) (span : Span) (cause : Cause) : Type 0 where
  InTokens : text.IsFault source span cause → IsSourceFault source span cause
  InExpansion : (written : List Token) → text.Spells written source → expansion.IsFault written span cause → IsSourceFault source span cause
  InGrammar : (tokens : List Token) → IsExpandedTo source tokens → parsed.IsFault tokens span cause → IsSourceFault source span cause

-- want of memory may always be answered; else it is the source's first fault
abbrev pub IsFaultOf : List ℕ → SourceFault → Type 0
IsFaultOf source (Broken span cause) = IsSourceFault source span cause
IsFaultOf source Memory = Unit {0}

-- the source has the form, and writes these numbers
pub record Writes (source ks : List ℕ) : Type 0 where
  pub tree : Contents
  pub of_source : IsTreeOf tree source
  pub program : IsProgram tree.units ks

-- The place from which the source isn't built yet: where its tree departs from the form.
pub record IsUnbuilt (source : List ℕ) (span : Span) : Type 0 where
  pub tree : Contents
  pub of_source : IsTreeOf tree source
  pub departs : departure tree ≡ Some span
