-- The value of a source has no pointers, and so each source in which no node stands too deep has a tree.
use Rattle.std.proofs.Common.{◌≡◌, ◌+◌, ℕ, true, List, [], ◌∷◌, Option, Some, None, refl, sym, ap, ◌∙◌}
use Rattle.std.specs.Option.{option_map}
use Rattle.std.specs.Cmp.{first_so, second_so}
use Rattle.csyn.specs.declared.token.Token.{Token}
use Rattle.csyn.specs.declared.unit.Units.{Units}
use Rattle.csyn.specs.Bare.{bare_units}
use Rattle.cgrammar.specs.declared.production.Production.{Production}
use Rattle.cgrammar.specs.Grammar.{Piece, token, part, home, template, source}
use Rattle.cgrammar.specs.Text.{Written, leaf, node, Forest, none, more, spells, Stands, IsProper, Match}
use Rattle.cparts.specs.declared.value.Value.{Value}
use Rattle.cparts.specs.declared.value.Value.TheVariants as value
use Rattle.caction.specs.Make.{table, mark_at}
use Rattle.cparse.specs.Nodes.{nodes, nodes_of}
use Rattle.cparse.specs.Tree.{value as value_of, values, place_of, in_front, made as made_of}
use Rattle.cparts.specs.Value.{bare_value, bare_values}
use Rattle.cparse.proofs.Shape.{shape, shapes, under-shape, is_used, all_used}
use Rattle.cparse.proofs.MadeBare.{natural}
use Rattle.cparse.proofs.Total.{Fitting, fitting, have-values, used-parts, source-units}

-- a value, or values, without pointers, if any
abbrev IsBare : Option Value → Type 0
IsBare o = option_map bare_value o ≡ o

abbrev AreBare : Option (List Value) → Type 0
AreBare o = option_map bare_values o ≡ o

in-front-bare : (o : Option Value) (os : Option (List Value)) → IsBare o → AreBare os → AreBare (in_front o os)
in-front-bare None os first others = refl
in-front-bare (Some v) None first others = refl
in-front-bare (Some v) (Some vs) first others =
    let head : bare_value v ≡ v = cc in
    let tail : bare_values vs ≡ vs = cc in
    ap (λ x. Some (x ∷ bare_values vs)) head ∙ ap (λ xs. Some (v ∷ xs)) tail

made-bare : (p : Production) (number : ℕ) (tokens : List Token) (o : Option (List Value)) → Fitting (shapes (template p)) o → AreBare o
    → IsBare (made_of p (place_of number tokens) o)
made-bare p number tokens None fits bare = elim fits [ ]
made-bare p number tokens (Some vs) (fitting all) bare =
    let same : bare_values vs ≡ vs = cc in
    natural p (mark_at (place_of number tokens)) tokens all ∙ ap (table p (mark_at (place_of number tokens)) tokens) same

unfoldable BareValue : ℕ → Written → Type 0
BareValue number (leaf _) = Unit {0}
BareValue number (node p parts) = is_used (shape (home p)) ≡ true → IsBare (value_of number (node p parts))

mutual
  unfolding BareValue IsProper Match values value_of shapes all_used

  value-bare : (number : ℕ) (w : Written) → IsProper w → BareValue number w
  value-bare number (leaf _) proper = tt
  value-bare number (node p parts) proper = λ used.
      made-bare p (number + nodes_of parts) (spells parts) _
      (have-values number (template p) parts proper (used-parts p used)) (values-bare number (template p) parts proper (used-parts p used))

  values-bare : (number : ℕ) (pieces : List Piece) (parts : Forest) → Match pieces parts → all_used (shapes pieces) ≡ true
      → AreBare (values number parts)
  values-bare number [] none m u = refl
  values-bare number [] (more _ _) m u = absurd m
  values-bare number (piece ∷ pieces) none m u = absurd m
  values-bare number (token _ ∷ pieces) (more (leaf _) parts) m u = values-bare number pieces parts m.3 u
  values-bare number (token _ ∷ pieces) (more (node _ _) parts) m u = absurd m.0
  values-bare number (part _ ∷ pieces) (more (leaf _) parts) m u = absurd m.0
  values-bare number (part c ∷ pieces) (more (node q own) parts) m u =
      in-front-bare (value_of number (node q own)) (values (number + nodes (node q own)) parts)
      (value-bare number (node q own) m.1 (ap is_used (under-shape (home q) c m.0)
      ∙ first_so (is_used (shape c)) (all_used (shapes pieces)) u))
      (values-bare (number + nodes (node q own)) pieces parts m.3 (second_so (is_used (shape c)) (all_used (shapes pieces)) u))

-- each source has units without pointers
pub source-bare : (w : Written) → Stands (part source) w → IsProper w → (u : Units) × (value_of 0 w ≡ Some (value.Units (bare_units u)))
unfolding BareValue shape is_used
source-bare (leaf _) stands proper = absurd stands
source-bare (node p parts) stands proper =
    let has = source-units (node p parts) stands proper in
    let bare = value-bare 0 (node p parts) proper (ap is_used (under-shape (home p) source stands)) in
    let same : Some (value.Units (bare_units has.0)) ≡ value_of 0 (node p parts) = ap (option_map bare_value) (sym has.1) ∙ bare in
    (has.0, sym same)
