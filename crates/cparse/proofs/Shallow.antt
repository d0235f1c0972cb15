-- A source in which no node stands too deep has units of few enough levels.
use Rattle.std.proofs.Common.{◌≡◌, ℕ, ◌+◌, ◌≤◌, max, Bool, true, false, nat_eq, if◌then◌else◌, List, [], ◌∷◌}
use Rattle.std.proofs.Common.{◌++◌, length, Option, Some, None, refl, subst, arith}
use Rattle.std.proofs.lemmas.Bool.{eq-eqb}
use Rattle.std.proofs.lemmas.Option.{same_Some}
use Rattle.csyn.specs.declared.token.Token.{Token}
use Rattle.csyn.specs.declared.unit.Units.{Units}
use Rattle.csyn.specs.Levels.{units_levels}
use Rattle.cgrammar.specs.declared.production.Production.{Production}
use Rattle.cgrammar.specs.declared.production.Production.TheVariants as production
use Rattle.cgrammar.specs.Grammar.{own_nodes, is_node}
use Rattle.cgrammar.specs.Text.{Written, leaf, node, Forest, none, more, spell, spells}
use Rattle.cparts.specs.declared.value.Value.{Value}
use Rattle.cparts.specs.declared.value.Value.TheVariants as value
use Rattle.caction.specs.Make.{mark_at}
use Rattle.cparse.specs.Nodes.{nodes, nodes_of, deep, deep_of, deep_here, below}
use Rattle.cparse.specs.Tree.{value as value_of, values, place_of, in_front, made as made_of}
use Rattle.cparse.proofs.MadeLevels.{value_levels, greatest, AtMost, unmade, at_most, raise, table-levels}

-- the most nodes on a way down
unfoldable mutual
  pub height : Written → ℕ
  height (leaf _) = 0
  height (node p parts) = own_nodes p + heights parts

  pub heights : Forest → ℕ
  heights none = 0
  heights (more w parts) = max (height w) (heights parts)

-- the values, if all are made, have at most so many levels
pub data AllAtMost : ℕ → Option (List Value) → Type 0 where
  not_all : {n : ℕ} → AllAtMost n None
  all_at_most : {n : ℕ} {vs : List Value} → greatest vs ≤ n → AllAtMost n (Some vs)

front-levels : (m n : ℕ) {o : Option Value} {os : Option (List Value)} → AtMost m o → AllAtMost n os → AllAtMost (max m n) (in_front o os)
front-levels m n unmade _ = not_all
front-levels m n (at_most h) not_all = not_all
front-levels m n (at_most h) (all_at_most k) = all_at_most (omega arith)

more-levels : (m n : ℕ) (os : Option (List Value)) → m ≤ n → AllAtMost m os → AllAtMost n os
more-levels m n _ l not_all = not_all
more-levels m n _ l (all_at_most h) = all_at_most (omega arith)

made-levels : (p : Production) (number : ℕ) (tokens : List Token) (n : ℕ) (os : Option (List Value)) → AllAtMost n os
    → AtMost (own_nodes p + n) (made_of p (place_of number tokens) os)
made-levels p number tokens n _ not_all = unmade
made-levels p number tokens n _ (all_at_most {vs = vs} h) = raise _ _ _ (omega arith)
    (table-levels p (mark_at (place_of number tokens)) tokens vs)

mutual
  unfolding height heights value_of values

  -- a value has at most as many levels as there are nodes on a way down
  pub value-height : (number : ℕ) (w : Written) → AtMost (height w) (value_of number w)
  value-height number (leaf _) = unmade
  value-height number (node p parts) = made-levels p (number + nodes_of parts) (spells parts) (heights parts) _ (values-height number parts)

  pub values-height : (number : ℕ) (parts : Forest) → AllAtMost (heights parts) (values number parts)
  values-height number none = all_at_most (omega arith)
  values-height number (more (leaf _) parts) = more-levels (heights parts) _ _ (omega arith) (values-height number parts)
  values-height number (more (node p own) parts) =
      front-levels _ _ (value-height number (node p own)) (values-height (number + nodes (node p own)) parts)

-- both of two lists that make none are empty
first-empty : {A : Type 0} (xs ys : List A) → xs ++ ys ≡ [] → xs ≡ []
first-empty [] ys h = refl
first-empty (x ∷ xs) ys h = absurd (cc)

second-empty : {A : Type 0} (xs ys : List A) → xs ++ ys ≡ [] → ys ≡ []
second-empty [] ys h = h
second-empty (x ∷ xs) ys h = absurd (cc)

-- a production makes one node or none
one-or-none : (p : Production) → own_nodes p ≡ (if is_node p then 1 else 0)
unfolding own_nodes
one-or-none production.Identifier = refl
one-or-none _ = refl

not-deep : (level at : ℕ) → deep_here true level at ≡ [] → level ≤ 256 → level + 1 ≤ 256
not-deep level at h l = go (nat_eq level 256) refl
  where
    go : (b : Bool) → nat_eq level 256 ≡ b → level + 1 ≤ 256
    go true e = absurd (tests e h)
      where
        tests : nat_eq level 256 ≡ true → deep_here true level at ≡ [] → ⊥
        tests e h = let f : (at ∷ []) ≡ [] = rw e at h in absurd (cc)
    go false e = let ne : level ≡ 256 → ⊥ = (λ s. absurd (differ (eq-eqb level 256 s) e)) in omega arith
      where
        differ : nat_eq level 256 ≡ true → nat_eq level 256 ≡ false → ⊥
        differ a b = absurd (cc)

step-height : (b : Bool) (own level at n : ℕ) → own ≡ (if b then 1 else 0) → deep_here b level at ≡ [] → level ≤ 256
    → (below b level ≤ 256 → below b level + n ≤ 256) → level + (own + n) ≤ 256
step-height true own level at n e h l others = let k : level + 1 ≤ 256 = not-deep level at h l in let m = others k in omega arith
step-height false own level at n e h l others = let m = others l in omega arith

mutual
  unfolding height heights deep deep_of

  -- where no node stands too deep, no way down is too long
  pub few-height : (level at : ℕ) (w : Written) → deep level at w ≡ [] → level ≤ 256 → level + height w ≤ 256
  few-height level at (leaf _) h l = omega arith
  few-height level at (node p parts) h l = step-height (is_node p) (own_nodes p) level at (heights parts) (one-or-none p)
      (first-empty _ _ h) l
      (λ k. few-heights (below (is_node p) level) at parts (second-empty _ _ h) k)

  pub few-heights : (level at : ℕ) (parts : Forest) → deep_of level at parts ≡ [] → level ≤ 256 → level + heights parts ≤ 256
  few-heights level at none h l = omega arith
  few-heights level at (more w parts) h l =
      let a : level + height w ≤ 256 = few-height level at w
      (first-empty (deep level at w) (deep_of level (at + length (spell w)) parts) h) l in
      let b : level + heights parts ≤ 256 = few-heights level (at + length (spell w)) parts
      (second-empty (deep level at w) (deep_of level (at + length (spell w)) parts) h) l in
      omega arith

of-units : (n : ℕ) (o : Option Value) (u : Units) → AtMost n o → o ≡ Some (value.Units u) → units_levels u ≤ n
of-units n _ u unmade e = absurd (cc)
of-units n _ u (at_most {v = v} h) e = subst (λ x. value_levels x ≤ n) (same_Some v (value.Units u) e) h

-- the units of a source in which no node stands too deep
pub shallow : (w : Written) (u : Units) → deep 0 0 w ≡ [] → value_of 0 w ≡ Some (value.Units u) → units_levels u ≤ 256
shallow w u h e =
    let few : 0 + height w ≤ 256 = few-height 0 0 w h (omega arith) in
    let at : units_levels u ≤ height w = of-units (height w) (value_of 0 w) u (value-height 0 w) e in
    omega arith
