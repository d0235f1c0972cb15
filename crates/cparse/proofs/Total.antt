-- Each proper tree of a production in use has a value, of the kind that its class has.
use Rattle.std.proofs.Common.{◌≡◌, ℕ, ◌+◌, ◌-◌, true, List, [], ◌∷◌, ◌++◌, length, Option, Some}
use Rattle.std.proofs.Common.{slice_get, refl, sym, subst, arith, length-append}
use Rattle.std.specs.Cmp.{first_so, second_so}
use Rattle.csyn.specs.declared.token.Token.{Token}
use Rattle.csyn.specs.declared.unit.Units.{Units}
use Rattle.cgrammar.specs.declared.terminal.Terminal.{Terminal}
use Rattle.cgrammar.specs.declared.production.Word.TheVariants as word
use Rattle.cgrammar.specs.declared.production.Words.TheVariants as every
use Rattle.cgrammar.specs.declared.production.Production.{Production}
use Rattle.cgrammar.specs.declared.production.Production.TheVariants as production
use Rattle.cgrammar.specs.Grammar.{Piece, token, part, home, template, joined, before, alone, source}
use Rattle.cgrammar.specs.Text.{Written, leaf, node, Forest, none, more, spell, spells, Stands, IsProper, Match}
use Rattle.cparts.specs.declared.value.Value.{Value}
use Rattle.cparts.specs.declared.value.Value.TheVariants as value
use Rattle.caction.specs.Make.{mark_at}
use Rattle.cparse.specs.Nodes.{nodes, nodes_of}
use Rattle.cparse.specs.Tree.{value as value_of, values, place_of, in_front, made as made_of}
use Rattle.cparse.proofs.Shape.{Shape, units, nothing, is_units, shape, shapes, under-shape, Fits}
use Rattle.cparse.proofs.Shape.{end, and, Made, made, unused, is_used, all_used}
use Rattle.cparse.proofs.Made.{Begins, Ends, OwnTokens, makes}

-- the first token of a right side that begins with one
begins : (wanted : Terminal) (pieces : List Piece) (parts : Forest) → Match (token wanted ∷ pieces) parts → Begins wanted (spells parts)
unfolding Match
begins wanted pieces none m = absurd m
begins wanted pieces (more (leaf t) parts) m = record { token = t; is = refl; accepted = m.0 }
begins wanted pieces (more (node _ _) parts) m = absurd m.0

-- the last one of a list that ends with it
at-length : (ts : List Token) (t : Token) → slice_get (ts ++ (t ∷ [])) (length ts) ≡ Some t
at-length [] t = refl
at-length (u ∷ ts) t = at-length ts t

at-last : (ts : List Token) (t : Token) → slice_get (ts ++ (t ∷ [])) (length (ts ++ (t ∷ [])) - 1) ≡ Some t
at-last ts t =
    let e : length (ts ++ (t ∷ [])) - 1 ≡ length ts = omega (arith, length-append ts (t ∷ [])) in
    subst (λ k. slice_get (ts ++ (t ∷ [])) k ≡ Some t) (sym e) (at-length ts t)

ends : (first : Piece) (wanted : Terminal) (parts : Forest) → Match (first ∷ token wanted ∷ []) parts → Ends wanted (spells parts)
unfolding Match
ends first wanted none m = absurd m
ends first wanted (more w none) m = absurd m.3
ends first wanted (more w (more (leaf t) none)) m = record { token = t; is = at-last (spell w) t; accepted = m.3.0 }
ends first wanted (more w (more (leaf t) (more _ _))) m = absurd m.3.3
ends first wanted (more w (more (node _ _) rest)) m = absurd m.3.0

-- the tokens of a production are as its value needs them
own-tokens : (p : Production) (parts : Forest) → Match (template p) parts → OwnTokens p (spells parts)
unfolding OwnTokens template
own-tokens production.Identifier parts m = begins _ _ parts m
own-tokens production.Number parts m = begins _ _ parts m
own-tokens production.Character parts m = begins _ _ parts m
own-tokens production.Prefix parts m = begins _ _ parts m
own-tokens production.Specified parts m = begins _ _ parts m
own-tokens production.Qualified parts m = begins _ _ parts m
own-tokens production.StandardBase parts m = begins _ _ parts m
own-tokens (production.FirstWord w) parts m = begins _ _ parts m
own-tokens (production.NextWord _ w) parts m = ends _ _ parts m
own-tokens production.RegionName parts m = begins _ _ parts m
own-tokens _ parts m = tt

-- a production in use has only parts in use
pub used-parts : (p : Production) → is_used (shape (home p)) ≡ true → all_used (shapes (template p)) ≡ true
unfolding is_used all_used shape shapes home template alone joined before
used-parts (production.FirstWord word.Sign) h = refl
used-parts (production.NextWord every.SignChar word.Char) h = refl
used-parts (production.NextWord every.SignLength word.Length) h = refl
used-parts (production.NextWord every.SignInt word.Int) h = refl
used-parts (production.NextWord every.SignChar word.Sign) h = refl
used-parts (production.NextWord every.SignLength word.Sign) h = refl
used-parts (production.NextWord every.LengthInt word.Int) h = refl
used-parts (production.NextWord every.SignInt word.Sign) h = refl
used-parts (production.NextWord every.LengthInt word.Length) h = refl
used-parts (production.NextWord every.SignLengthInt word.Int) h = refl
used-parts (production.NextWord every.SignLengthInt word.Length) h = refl
used-parts (production.NextWord every.SignLengthInt word.Sign) h = refl
used-parts (production.NextWord _ _) h = absurd (cc)
used-parts _ h = refl

-- values of all the parts, of their kinds
pub data Fitting : List Shape → Option (List Value) → Type 0 where
  fitting : {ss : List Shape} {vs : List Value} → Fits ss vs → Fitting ss (Some vs)

join : {s : Shape} {o : Option Value} {ss : List Shape} {os : Option (List Value)} → Made s o → is_used s ≡ true → Fitting ss os
    → Fitting (s ∷ ss) (in_front o os)
unfolding is_used
join (made is) u (fitting all) = fitting (and is all)
join unused u _ = absurd (cc)

-- a production makes a value of all its parts' values
from-parts : (p : Production) (number : ℕ) (tokens : List Token) (vs : Option (List Value)) → Fitting (shapes (template p)) vs
    → OwnTokens p tokens
    → Made (shape (home p)) (made_of p (place_of number tokens) vs)
from-parts p number tokens vs (fitting all) own = makes p (mark_at (place_of number tokens)) tokens all own

unfoldable pub HasValue : ℕ → Written → Type 0
HasValue number (leaf _) = Unit {0}
HasValue number (node p parts) = Made (shape (home p)) (value_of number (node p parts))

by-use : (s : Shape) (o : Option Value) → (is_used s ≡ true → Made s o) → Made s o
unfolding is_used
by-use nothing o h = unused
by-use _ o h = h refl

mutual
  unfolding HasValue IsProper Match values value_of shapes all_used

  pub has-value : (number : ℕ) (w : Written) → IsProper w → HasValue number w
  has-value number (leaf _) proper = tt
  has-value number (node p parts) proper = by-use (shape (home p)) _ (λ used.
      from-parts p (number + nodes_of parts) (spells parts) _ (have-values number (template p) parts proper (used-parts p used))
      (own-tokens p parts proper))

  pub have-values : (number : ℕ) (pieces : List Piece) (parts : Forest) → Match pieces parts → all_used (shapes pieces) ≡ true
      → Fitting (shapes pieces) (values number parts)
  have-values number [] none m u = fitting end
  have-values number [] (more _ _) m u = absurd m
  have-values number (piece ∷ pieces) none m u = absurd m
  have-values number (token _ ∷ pieces) (more (leaf _) parts) m u = have-values number pieces parts m.3 u
  have-values number (token _ ∷ pieces) (more (node _ _) parts) m u = absurd m.0
  have-values number (part _ ∷ pieces) (more (leaf _) parts) m u = absurd m.0
  have-values number (part c ∷ pieces) (more (node q own) parts) m u =
      join (subst (λ s. Made s (value_of number (node q own))) (under-shape (home q) c m.0) (has-value number (node q own) m.1))
      (first_so (is_used (shape c)) (all_used (shapes pieces)) u)
      (have-values (number + nodes (node q own)) pieces parts m.3 (second_so (is_used (shape c)) (all_used (shapes pieces)) u))

-- the units of a value that has some
of-units : {o : Option Value} → Made units o → (u : Units) × (o ≡ Some (value.Units u))
of-units (made (is_units u)) = (u, refl)

-- each source has its units
pub source-units : (w : Written) → Stands (part source) w → IsProper w → (u : Units) × (value_of 0 w ≡ Some (value.Units u))
unfolding HasValue shape
source-units (leaf _) stands proper = absurd stands
source-units (node p parts) stands proper =
    of-units (subst (λ s. Made s (value_of 0 (node p parts))) (under-shape (home p) source stands) (has-value 0 (node p parts) proper))
