-- What the parser answers, from what it knows at each exit.
use Rattle.std.proofs.Common.{◌≡◌, ◌+◌, ◌-◌, ◌<◌, ℕ, zero, suc, List, [], ◌∷◌, length, get_or, Option}
use Rattle.std.proofs.Common.{Some, None, sym, ap, refl, ◌∙◌, arith, length-append}
use Rattle.std.specs.Prelude.{slice_get}
use Rattle.std.specs.Option.{option_map}
use Rattle.csyn.specs.declared.token.Token.{Token}
use Rattle.csyn.specs.declared.span.Span.{Span}
use Rattle.csyn.specs.declared.cause.Cause.{Cause}
use Rattle.csyn.specs.declared.cause.Cause.TheVariants.{G3}
use Rattle.csyn.specs.declared.unit.Units as units
use Rattle.csyn.specs.Bare.{bare_units}
use Rattle.csyn.specs.Tree.{Contents}
use Rattle.cgrammar.specs.declared.kind.Kind.{Kind}
use Rattle.cgrammar.specs.Kind.{kind_of}
use Rattle.cgrammar.specs.Text.{Written, IsText, IsProper, IsFirstFault}
use Rattle.creader.specs.declared.reader.Entry.{Entry}
use Rattle.creader.specs.Entries.{entries}
use Rattle.creader.specs.Source.{EndsOnce}
use Rattle.cparts.specs.declared.value.Value.{Value}
use Rattle.cparts.specs.declared.value.Value.TheVariants as value
use Rattle.cparse.specs.Nodes.{nodes, deep}
use Rattle.cparse.specs.Tree as tree
use Rattle.cparts.specs.Value.{bare_value}
use Rattle.cparse.specs.Parsed.{Yields, FaultAt, IsFault, unreadable, too_deep, Same, kind_cause}
use Rattle.cparse.proofs.Ascending.{found-is-least, none-is-deep}
use Rattle.cparse.proofs.Deepest.{deep-within}
use Rattle.cparse.proofs.Readings.{text-stands, faults-agree, no-tree, trees-agree}

-- there is a last token
pub several : (tokens : List Token) → EndsOnce tokens → length tokens - 1 + 1 ≡ length tokens
several tokens once =
    let count : length tokens ≡ length once.0 + 1 = ap length once.2 ∙ length-append once.0 (once.1 ∷ []) in omega arith

-- what stands at a place
pub gotten : {A : Type 0} (xs : List A) (place : ℕ) (x : A) → place < length xs → x ≡ get_or xs place x → slice_get xs place ≡ Some x
gotten [] place x within e = absurd (omega arith)
gotten (y ∷ xs) zero x within e = ap Some (sym e)
gotten (y ∷ xs) (suc place) x within e = gotten xs place x (omega arith) e

pub token-at : (tokens : List Token) (place : ℕ) (token : Token) → place < length tokens → token ≡ get_or tokens place token
    → FaultAt tokens place token.span
token-at tokens place token within e = record { token = token; stands = gotten tokens place token within e; begins = refl }

-- a token that can't stand
module _ (tokens : List Token) (place : ℕ) (token : Token) (kind : Kind) (cause : Cause) (first : IsFirstFault tokens place)
    (is : token ≡ get_or tokens place token) (same : kind ≡ kind_of token) (why : cause ≡ kind_cause kind) where
  pub refused-fault : IsFault tokens token.span cause
  unfolding token-at
  refused-fault = unreadable record {
    place = place;
    is_first = first;
    at = token-at tokens place token first.within is;
    why = why ∙ ap kind_cause same;
  }

  pub refused-tree : (t : Contents) → Yields t tokens → ⊥
  refused-tree t yields = text-stands tokens yields.written place yields.text first

  pub refused-others : (span : Span) (other : Cause) → IsFault tokens span other → (token.span ≡ span) × (cause ≡ other)
  refused-others span other fault =
      faults-agree tokens (λ a b text _. absurd (text-stands tokens a place text first)) token.span span cause other refused-fault fault

-- what the levels say of the productions of this source
pub deep-found : (written : Written) (tokens : List Token) (all shown : List Entry) (found : Option ℕ) → IsText written tokens
    → all ≡ entries 0 written
    → shown ≡ all → ((w : Written) → IsProper w → shown ≡ entries 0 w → found ≡ slice_get (deep 0 0 w) 0)
    → slice_get (deep 0 0 written) 0 ≡ found
deep-found written tokens all shown found text are same says = sym (says written text.proper (same ∙ are))

pub deep-place : (tokens : List Token) (written : Written) (all shown : List Entry) (found : Option ℕ) (place : ℕ) → IsText written tokens
    → all ≡ entries 0 written → shown ≡ all → ((w : Written) → IsProper w → shown ≡ entries 0 w → found ≡ slice_get (deep 0 0 w) 0)
    → found ≡ Some place → place < length tokens
deep-place tokens written all shown found place text are same says is =
    deep-within tokens written place text (deep-found written tokens all shown found text are same says ∙ is)

-- only units have the bare form of units
bare-of : (v : Value) (bare : units.Units) → bare_value v ≡ value.Units bare
    → (u : units.Units) × (v ≡ value.Units u) × (bare_units u ≡ bare)
bare-of (value.Units u) bare e = (u, refl, cc)
bare-of _ bare e = absurd (cc)

pub units-by : (made : Option Value) (all bare : units.Units) → option_map bare_value made ≡ Some (value.Units bare)
    → ((u : units.Units) → made ≡ Some (value.Units u) → all ≡ u) → bare_units all ≡ bare
units-by None all bare makes units-of = absurd (cc)
units-by (Some v) all bare makes units-of =
    let inner : bare_value v ≡ value.Units bare = cc in
    let found = bare-of v bare inner in
    ap bare_units (units-of found.0 (ap Some found.1)) ∙ found.2

-- a source
module _ (tokens : List Token) (written : Written) (text : IsText written tokens)
    (only : (other : Written) → IsText other tokens → other ≡ written) where
  one : (a b : Written) → IsText a tokens → IsText b tokens → a ≡ b
  one a b first second = only a first ∙ sym (only b second)

  -- with a node too deep
  module _ (place : ℕ) (token : Token) (found : slice_get (deep 0 0 written) 0 ≡ Some place) (within : place < length tokens)
      (is : token ≡ get_or tokens place token) where
    pub deep-fault : IsFault tokens token.span G3
    deep-fault = too_deep record {
      written = written;
      text = text;
      place = place;
      is_first = found-is-least written place found;
      at = token-at tokens place token within is;
      why = refl;
    }

    pub deep-tree : (t : Contents) → Yields t tokens → ⊥
    deep-tree t yields = no-tree tokens one token.span G3 t deep-fault yields

    pub deep-others : (span : Span) (other : Cause) → IsFault tokens span other → (token.span ≡ span) × (G3 ≡ other)
    deep-others span other fault = faults-agree tokens one token.span span G3 other deep-fault fault

  -- with a tree
  module _ (made : Option Value) (count last : ℕ) (end_token : Token) (all : units.Units) (bare : units.Units)
      (shallow : slice_get (deep 0 0 written) 0 ≡ None)
      (has : tree.value 0 written ≡ Some (value.Units bare)) (makes : option_map bare_value made ≡ Some (value.Units bare))
      (counts : count ≡ nodes written)
      (units-of : (u : units.Units) → made ≡ Some (value.Units u) → all ≡ u) (several : last + 1 ≡ length tokens)
      (is : end_token ≡ get_or tokens last end_token) where
    pub bare-all : bare_units all ≡ bare
    bare-all = units-by made all bare makes units-of

    pub yields-tree : (t : Contents) → t.units ≡ all → t.tokens ≡ last → t.nodes ≡ count → t.end ≡ end_token.span → Yields t tokens
    yields-tree t u n m e = record {
      written = written;
      text = text;
      shallow = none-is-deep written shallow;
      units = has ∙ ap (λ x. Some (value.Units x)) (sym bare-all ∙ ap bare_units (sym u));
      nodes_count = m ∙ counts;
      tokens_count = ap (λ k. k + 1) n ∙ several;
      end_token = end_token;
      is_last = ap (slice_get tokens) n ∙ gotten tokens last end_token (omega (arith, several)) is;
      ends = e;
    }

    pub tree-answered : (t other : Contents) → Yields t tokens → Yields other tokens → Same t other
    tree-answered t other mine theirs = trees-agree tokens one t other mine theirs

    pub tree-others : (t : Contents) → Yields t tokens → (span : Span) (cause : Cause) → IsFault tokens span cause → ⊥
    tree-others t yields span cause fault = no-tree tokens one span cause t fault yields
