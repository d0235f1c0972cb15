-- A list of tokens has a tree or a first fault.
use Rattle.std.proofs.Common.{◌≡◌, ◌-◌, ◌<◌, ◌⊎◌, inl, inr, ℕ, zero, suc, List, [], ◌∷◌, length, Option, Some, None, refl, arith}
use Rattle.std.specs.Prelude.{slice_get}
use Rattle.csyn.specs.declared.token.Token.{Token}
use Rattle.csyn.specs.declared.span.Span.{Span}
use Rattle.csyn.specs.declared.cause.Cause.{Cause}
use Rattle.csyn.specs.declared.cause.Cause.TheVariants.{G3}
use Rattle.csyn.specs.Tree.{Contents}
use Rattle.cgrammar.specs.Kind.{kind_of}
use Rattle.cgrammar.specs.Text.{Written, IsText, IsFirstFault}
use Rattle.creader.specs.Source.{EndsOnce}
use Rattle.cparse.specs.Nodes.{nodes, deep}
use Rattle.cparse.specs.Parsed.{Yields, IsFault, unreadable, too_deep, kind_cause}
use Rattle.cparse.proofs.Answered.{several}
use Rattle.cparse.proofs.Ascending.{found-is-least, none-is-deep}
use Rattle.cparse.proofs.Bareness.{source-bare}
use Rattle.cparse.proofs.Deepest.{deep-within}

abbrev HasTree : List Token → Type 0
HasTree tokens = (tree : Contents) × Yields tree tokens

abbrev HasFault : List Token → Type 0
HasFault tokens = (span : Span) × (cause : Cause) × IsFault tokens span cause

-- a token stands at each place
standing : (tokens : List Token) (place : ℕ) → place < length tokens → (token : Token) × (slice_get tokens place ≡ Some token)
standing [] place within = absurd (omega arith)
standing (t ∷ tokens) zero within = (t, refl)
standing (t ∷ tokens) (suc place) within = standing tokens place (omega arith)

unreadable-fault : (tokens : List Token) (place : ℕ) → IsFirstFault tokens place → HasFault tokens
unreadable-fault tokens place first =
    let stands = standing tokens place first.within in (
      (stands.0).span,
      kind_cause (kind_of stands.0),
      unreadable record {
        place = place;
        is_first = first;
        at = record { token = stands.0; stands = stands.1; begins = refl };
        why = refl;
      },
    )

deep-fault : (tokens : List Token) (written : Written) (place : ℕ) → IsText written tokens
    → slice_get (deep 0 0 written) 0 ≡ Some place → HasFault tokens
deep-fault tokens written place text found =
    let stands = standing tokens place (deep-within tokens written place text found) in (
      (stands.0).span,
      G3,
      too_deep record {
        written = written;
        text = text;
        place = place;
        is_first = found-is-least written place found;
        at = record { token = stands.0; stands = stands.1; begins = refl };
        why = refl;
      },
    )

source-tree : (tokens : List Token) (written : Written) → EndsOnce tokens → IsText written tokens
    → slice_get (deep 0 0 written) 0 ≡ None → HasTree tokens
source-tree tokens written once text shallow =
    let bare = source-bare written text.is_source text.proper in
    let count = several tokens once in
    let stands = standing tokens (length tokens - 1) (omega (arith, count)) in (
      record { units = bare.0; tokens = length tokens - 1; nodes = nodes written; end = (stands.0).span },
      record {
        written = written;
        text = text;
        shallow = none-is-deep written shallow;
        units = bare.1;
        nodes_count = refl;
        tokens_count = count;
        end_token = stands.0;
        is_last = stands.1;
        ends = refl;
      },
    )

by-levels : (tokens : List Token) (written : Written) → EndsOnce tokens → IsText written tokens → (found : Option ℕ)
    → slice_get (deep 0 0 written) 0 ≡ found → HasTree tokens ⊎ HasFault tokens
by-levels tokens written once text None e = inl (source-tree tokens written once text e)
by-levels tokens written once text (Some place) e = inr (deep-fault tokens written place text e)

pub tree-or-fault : (tokens : List Token) → EndsOnce tokens → ((written : Written) × IsText written tokens)
    ⊎ ((place : ℕ) × IsFirstFault tokens place)
    → HasTree tokens ⊎ HasFault tokens
tree-or-fault tokens once (inl source) = by-levels tokens source.0 once source.1 (slice_get (deep 0 0 (source.0)) 0) refl
tree-or-fault tokens once (inr fault) = inr (unreadable-fault tokens fault.0 fault.1)
