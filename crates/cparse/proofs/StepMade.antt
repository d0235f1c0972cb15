-- One production made of the last values, in the code and in the definition.
use Rattle.std.proofs.Common.{◌≡◌, ◌+◌, ℕ, Bool, List, [], ◌∷◌, map, reverse, take, drop, Option, Some}
use Rattle.std.proofs.Common.{None, Result, Ok, Err, sym, ap, subst, refl, ◌∙◌, cond}
use Rattle.std.proofs.lemmas.List.{take-map, drop-map}
use mathlib.Core.List.{reverse_aux}
use Rattle.csyn.specs.declared.token.Token.{Token}
use Rattle.cgrammar.specs.Grammar.{template, parts_among, is_node}
use Rattle.creader.specs.declared.reader.Entry.{Entry}
use Rattle.cparts.specs.declared.fault.MakeFault.{MakeFault}
use Rattle.cparts.specs.declared.fault.MakeFault.TheVariants as fault
use Rattle.cparts.specs.declared.value.Value.{Value}
use Rattle.caction.specs.Make.{IsMade, make}
use Rattle.cparse.specs.Build.{built, build_one, with_value, place_in}
use Rattle.cparts.specs.Value.{bare_value, bare_values}

map-reverse-onto : {A B : Type 0} (f : A → B) (xs front : List A) → map f (reverse_aux xs front) ≡ reverse_aux (map f xs) (map f front)
map-reverse-onto f [] front = refl
map-reverse-onto f (x ∷ xs) front = map-reverse-onto f xs (x ∷ front)

map-reverse : {A B : Type 0} (f : A → B) (xs : List A) → map f (reverse xs) ≡ reverse (map f xs)
map-reverse f xs = map-reverse-onto f xs []

module _ (tokens : List Token) (values : List Value) (nodes : ℕ) (entry : Entry) (count : ℕ) (parts : List Value)
    (result : Result Value MakeFault)
    (all : count ≡ parts_among (template entry.production)) (are : parts ≡ reverse (take count values))
    (made : IsMade (make entry.production (place_in tokens nodes entry) (bare_values parts)) result) where
  bare-parts : reverse (take (parts_among (template entry.production)) (bare_values values)) ≡ bare_values parts
  bare-parts =
      ap (λ n. reverse (take n (bare_values values))) (sym all)
      ∙ ap reverse (take-map bare_value count values)
      ∙ sym (map-reverse bare_value (take count values))
      ∙ ap bare_values (sym are)

  one : (value : Option Value) → make entry.production (place_in tokens nodes entry) (bare_values parts) ≡ value
      → build_one tokens (built (bare_values values) nodes) entry ≡ with_value value (built (bare_values values) nodes) entry
  one value e = ap (λ vs. with_value (make entry.production (place_in tokens nodes entry) vs) (built (bare_values values) nodes)
      entry) bare-parts
      ∙ ap (λ v. with_value v (built (bare_values values) nodes) entry) e

  made-as : (r : Result Value MakeFault) → result ≡ r → IsMade (make entry.production (place_in tokens nodes entry) (bare_values parts)) r
  made-as r e = subst (λ x. IsMade (make entry.production (place_in tokens nodes entry) (bare_values parts)) x) e made

  pub step-none : (e : MakeFault) → result ≡ Err e → e ≡ fault.Parts → build_one tokens (built (bare_values values) nodes) entry ≡ None
  step-none e is parts' = one None (made-as (Err e) is parts')

  pub step-some : (value : Value) (left : List Value) (own : Bool) → result ≡ Ok value → left ≡ drop count values
      → is_node entry.production ≡ own
      → build_one tokens (built (bare_values values) nodes) entry ≡ Some (built (bare_values (value ∷ left)) (nodes + cond own 1 0))
  step-some value left own e rest node =
      one (Some (bare_value value)) (made-as (Ok value) e)
      ∙ ap (λ n. Some (built (bare_value value ∷ drop n (bare_values values)) (nodes + cond (is_node entry.production) 1 0))) (sym all)
      ∙ ap (λ vs. Some (built (bare_value value ∷ vs) (nodes + cond (is_node entry.production) 1 0)))
      (drop-map bare_value count values ∙ ap bare_values (sym rest))
      ∙ ap (λ b. Some (built (bare_values (value ∷ left)) (nodes + cond b 1 0))) node
