-- What the parser answers at each of its exits.
use Rattle.std.proofs.Common.{◌≡◌, ◌∙◌, ◌-◌, ◌<◌, List, Some, None, length, get_or, sym, ap, subst, arith, ◌≤◌}
use Rattle.std.specs.Prelude.{slice_get}
use Rattle.std.specs.Option.{option_map}
use Rattle.csyn.specs.declared.token.Token.{Token}
use Rattle.csyn.specs.declared.span.Span.{Span}
use Rattle.csyn.specs.declared.cause.Cause.{Cause}
use Rattle.csyn.specs.declared.cause.Cause.TheVariants.{G3}
use Rattle.csyn.specs.declared.unit.Units.{Units}
use Rattle.csyn.specs.Bare.{bare_units}
use Rattle.csyn.specs.Levels.{units_levels}
use Rattle.csyn.specs.Tree.{Contents}
use Rattle.cgrammar.specs.Text.{Written, IsText, IsFirstFault}
use Rattle.creader.specs.Entries.{entries}
use Rattle.creader.specs.Source.{IsFaultOf}
use Rattle.cparts.specs.declared.value.Value.TheVariants as Value
use Rattle.cparse.specs.Tree.{value}
use Rattle.cparts.specs.Value.{bare_value}
use Rattle.cparse.proofs.Ascending.{none-is-deep}
use Rattle.cparse.proofs.BareLevels.{units-bare}
use Rattle.cparse.proofs.Readings.{trees-agree, no-tree}
use Rattle.cparse.proofs.Shallow as few
use Rattle.cparse.proofs.Total.{source-units}
use Rattle.cparse.specs.Nodes.{nodes, deep}
use Rattle.cparse.specs.Parsed.{Yields, IsFault}
use Rattle.cparse.proofs.Answered as answered
use Rattle.cparse.proofs.Deepest.{deep-within}
use Rattle.cparse.proofs.parser.parse.Goals as goal

-- a token that can't stand
refused-is : (c : goal.After-result-in-Err-Token-1) → c.index-tokens-place.result
    ≡ get_or c.args.tokens.now c.in-Err-Token.place c.index-tokens-place.result
refused-is c = c.index-tokens-place.is ∙ ap (λ n. get_or c.args.tokens.now n c.index-tokens-place.result) c.in-Err-Token.place-is

refused-first : (c : goal.After-result-in-Err-Token-1) → IsFirstFault c.args.tokens.now c.in-Err-Token.place
refused-first c = subst (IsFaultOf c.args.tokens.now) c.in-Err-Token.field-0-is c.in-Err-Token.ensures.fault

pub returns-in-Err-Token-clause-broken : goal.returns-in-Err-Token-clause-broken
returns-in-Err-Token-clause-broken c =
    answered.refused-fault c.args.tokens.now c.in-Err-Token.place c.index-tokens-place.result c.of.result c.kind_cause-cause.result
    (refused-first c) (refused-is c) c.of.ensures c.kind_cause-cause.ensures

pub returns-in-Err-Token-clause-read : goal.returns-in-Err-Token-clause-read
returns-in-Err-Token-clause-read c =
    answered.refused-tree c.args.tokens.now c.in-Err-Token.place c.index-tokens-place.result c.of.result c.kind_cause-cause.result
    (refused-first c) (refused-is c) c.of.ensures c.kind_cause-cause.ensures

pub returns-in-Err-Token-clause-named : goal.returns-in-Err-Token-clause-named
returns-in-Err-Token-clause-named c =
    answered.refused-others c.args.tokens.now c.in-Err-Token.place c.index-tokens-place.result c.of.result c.kind_cause-cause.result
    (refused-first c) (refused-is c) c.of.ensures c.kind_cause-cause.ensures

pub bounds-tokens-place-in-Some : goal.bounds-tokens-place-in-Some
bounds-tokens-place-in-Some c =
    let source = c.in-Ok.ensures.entries in
    answered.deep-place c.args.tokens.now source.0 c.in-Ok.entries.items c.deref.result.now c.in_ok-place.field-0 c.in-Some.place
    source.1 source.2
    c.deref.ensures.value c.in_ok-place.ensures c.in-Some.is

pub bounds-tokens-place-in-Some-2 : goal.bounds-tokens-place-in-Some-2
bounds-tokens-place-in-Some-2 c =
    let source = c.in-Ok.ensures.entries in
    answered.deep-place c.args.tokens.now source.0 c.in-Ok.entries.items c.deref.result.now c.in_ok-place.field-0 c.in-Some.place
    source.1 source.2
    c.deref.ensures.value c.in_ok-place.ensures c.in-Some.is

pub offset_bounds-tokens-place-in-Some : goal.offset_bounds-tokens-place-in-Some
offset_bounds-tokens-place-in-Some c =
    let source = c.in-Ok.ensures.entries in
    let within : c.in-Some.place < length c.args.tokens.now =
    answered.deep-place c.args.tokens.now source.0 c.in-Ok.entries.items c.deref.result.now c.in_ok-place.field-0 c.in-Some.place
    source.1 source.2
    c.deref.ensures.value c.in_ok-place.ensures c.in-Some.is in
    omega (arith, within, c.requires.few)

-- a node too deep
module _ (c : goal.After-drop-entries-in-Some) where
  abbrev tokens : List Token
  tokens = c.args.tokens.now

  abbrev written : Written
  written = c.in-Ok.ensures.entries.0

  only : (other : Written) → IsText other tokens → other ≡ written
  only other text = c.one_text.ensures tokens other written text c.in-Ok.ensures.entries.1

  found : slice_get (deep 0 0 written) 0 ≡ Some c.in-Some.place
  found = answered.deep-found written tokens c.in-Ok.entries.items c.deref.result.now c.in_ok-place.field-0 c.in-Ok.ensures.entries.1
      c.in-Ok.ensures.entries.2 c.deref.ensures.value c.in_ok-place.ensures ∙ c.in-Some.is

  within : c.in-Some.place < length tokens
  within = deep-within tokens written c.in-Some.place c.in-Ok.ensures.entries.1 found

pub returns-in-Some-clause-broken : goal.returns-in-Some-clause-broken
returns-in-Some-clause-broken c =
    subst (λ (t : Token). IsFault c.args.tokens.now t.span G3) c.index-tokens-place-in-Some.is
    (answered.deep-fault c.args.tokens.now (written c) c.in-Ok.ensures.entries.1 (only c) c.in-Some.place
    c.index-tokens-place-in-Some.result
    (found c) (within c) c.index-tokens-place-in-Some.is)

pub returns-in-Some-clause-read : goal.returns-in-Some-clause-read
returns-in-Some-clause-read c =
    answered.deep-tree c.args.tokens.now (written c) c.in-Ok.ensures.entries.1 (only c) c.in-Some.place c.index-tokens-place-in-Some.result
    (found c) (within c) c.index-tokens-place-in-Some.is

pub returns-in-Some-clause-named : goal.returns-in-Some-clause-named
returns-in-Some-clause-named c =
    subst (λ (t : Token). (span : Span) (cause : Cause) → IsFault c.args.tokens.now span cause → (t.span ≡ span) × (G3 ≡ cause))
    c.index-tokens-place-in-Some.is
    (answered.deep-others c.args.tokens.now (written c) c.in-Ok.ensures.entries.1 (only c) c.in-Some.place
    c.index-tokens-place-in-Some.result
    (found c) (within c) c.index-tokens-place-in-Some.is)

-- the tree that is made has few enough levels
few-levels : (c : goal.After-units_of) → units_levels c.units_of.result ≤ 256
few-levels c =
    let source = c.in-Ok.ensures.entries in
    let bare = source-units source.0 (source.1).is_source (source.1).proper in
    let shallow : slice_get (deep 0 0 (source.0)) 0 ≡ None =
    answered.deep-found (source.0) c.args.tokens.now c.in-Ok.entries.items c.deref.result.now c.in_ok-place.field-0 (source.1) (source.2)
    c.deref.ensures.value c.in_ok-place.ensures ∙ c.in_default.is in
    let makes = c.in_ok-value.ensures (source.0) (Value.Units (bare.0)) (source.1) (c.deref-2.ensures.value ∙ source.2) (bare.1) in
    let same : bare_units c.units_of.result ≡ bare.0 = answered.units-by c.in_ok-value.value c.units_of.result (bare.0) (makes.0)
    c.units_of.ensures in
    let count : units_levels (bare.0) ≤ 256 = few.shallow (source.0) (bare.0) (none-is-deep (source.0) shallow) (bare.1) in
    omega (arith, count, ap units_levels same, units-bare c.units_of.result)

pub new-requires : goal.new-requires
new-requires c = record {
  few_tokens = omega (arith, c.requires.few);
  few_levels = few-levels c;
}

-- a tree
module _ (c : goal.After-drop-entries-2) where
  abbrev source : (written : Written) × IsText written c.args.tokens.now × (c.in-Ok.entries.items ≡ entries 0 written)
  source = c.in-Ok.ensures.entries

  bare : (u : Units) × (value 0 (source.0) ≡ Some (Value.Units u))
  bare = source-units (source.0) (source.1).is_source (source.1).proper

  shallow : slice_get (deep 0 0 (source.0)) 0 ≡ None
  shallow = answered.deep-found (source.0) c.args.tokens.now c.in-Ok.entries.items c.deref.result.now c.in_ok-place.field-0
      (source.1) (source.2)
      c.deref.ensures.value c.in_ok-place.ensures ∙ c.in_default.is

  makes : (option_map bare_value c.in_ok-value.value ≡ Some (Value.Units (bare.0))) × (c.in_ok-value.nodes ≡ nodes (source.0))
  makes = c.in_ok-value.ensures (source.0) (Value.Units (bare.0)) (source.1) (c.deref-2.ensures.value ∙ source.2) (bare.1)

  yields : (t : Contents) → t ≡ record {
    units = c.units_of.result;
    tokens = length c.args.tokens.now - 1;
    nodes = c.in_ok-value.nodes;
    end = (get_or c.args.tokens.now (length c.args.tokens.now - 1) c.index-tokens-last.result).span;
  } → Yields t c.args.tokens.now
  yields t e =
      answered.yields-tree c.args.tokens.now (source.0) (source.1)
      (λ other text. c.one_text.ensures c.args.tokens.now other (source.0) text (source.1)) c.in_ok-value.value
      c.in_ok-value.nodes (length c.args.tokens.now - 1)
      c.index-tokens-last.result c.units_of.result (bare.0) shallow (bare.1) (makes.0) (makes.1) c.units_of.ensures
      (answered.several c.args.tokens.now c.requires.ends) c.index-tokens-last.is t
      (ap (λ (x : Contents). x.units) e) (ap (λ (x : Contents). x.tokens) e) (ap (λ (x : Contents). x.nodes) e)
      (ap (λ (x : Contents). x.end) e ∙ ap (λ (x : Token). x.span) (sym c.index-tokens-last.is))

pub returns-clause-tree : goal.returns-clause-tree
returns-clause-tree c = yields c c.new.result c.new.ensures

pub returns-clause-read : goal.returns-clause-read
returns-clause-read c = λ tree other.
    trees-agree c.args.tokens.now (c.one_text.ensures c.args.tokens.now)
    c.new.result tree (yields c c.new.result c.new.ensures) other

pub returns-clause-named : goal.returns-clause-named
returns-clause-named c = λ span cause fault.
    no-tree c.args.tokens.now (c.one_text.ensures c.args.tokens.now)
    span cause c.new.result fault (yields c c.new.result c.new.ensures)
