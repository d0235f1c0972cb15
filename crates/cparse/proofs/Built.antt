-- The productions of a source, one after another, make its value.
use Rattle.std.proofs.Common.{◌≡◌, ◌+◌, ◌-◌, ℕ, List, [], ◌∷◌, ◌++◌, reverse, take, drop, length, Option, Some, None, sym, ap}
use Rattle.std.proofs.Common.{subst, refl, ◌∙◌, cond, arith, append_assoc, length-append, add_assoc, add-zero, zero-add}
use Rattle.std.proofs.lemmas.List.{append-nil, length-reverse}
use Rattle.std.proofs.Math.Numerals.{add-one}
use Rattle.std.proofs.Math.Seq.{take-append_seam}
use Rattle.std.specs.Prelude.{slice_range}
use Rattle.std.specs.Option.{option_and_then}
use mathlib.Core.List.{reverse_aux, reverse_aux-eq, reverse-reverse}
use Rattle.csyn.specs.declared.token.Token.{Token}
use Rattle.cgrammar.specs.declared.production.Production.{Production}
use Rattle.cgrammar.specs.Grammar.{source, Piece, token, part, template, parts_among, is_node}
use Rattle.cgrammar.specs.Text.{Written, leaf, node, Forest, none, more, spells, IsProper, Match, IsText, begins_with_else}
use Rattle.creader.specs.declared.reader.Entry.{Entry}
use Rattle.creader.specs.Entries.{entries, entries_of}
use Rattle.cparts.specs.declared.value.Value.{Value}
use Rattle.cparse.specs.Nodes.{nodes, nodes_of}
use Rattle.caction.specs.Make.{Place, make}
use Rattle.cparse.specs.Tree.{value, values, made, in_front, place_of}
use Rattle.cparse.specs.Build.{Built, built, build, build_one, with_value, place_in}

-- what was put on the stack is what is taken off
drop-seam : {A : Type 0} (xs ys : List A) → drop (length xs) (xs ++ ys) ≡ ys
drop-seam [] ys = refl
drop-seam (x ∷ xs) ys = drop-seam xs ys

taken : (us vs : List Value) → reverse (take (length us) (reverse_aux us vs)) ≡ us
taken us vs =
    ap (λ xs. reverse (take (length us) xs)) (reverse_aux-eq us vs)
    ∙ ap (λ n. reverse (take n (reverse us ++ vs))) (sym (length-reverse us))
    ∙ ap reverse (take-append_seam (reverse us) vs) ∙ reverse-reverse us

left : (us vs : List Value) → drop (length us) (reverse_aux us vs) ≡ vs
left us vs =
    ap (drop (length us)) (reverse_aux-eq us vs) ∙ ap (λ n. drop n (reverse us ++ vs)) (sym (length-reverse us)) ∙ drop-seam (reverse us) vs

-- the tokens of a production, by their places
own-tokens : (before own behind : List Token) → slice_range (before ++ (own ++ behind)) (length before) (length before + length own) ≡ own
own-tokens before own behind =
    let n : length before + length own - length before ≡ length own = omega arith in
    ap (λ k. take k (drop (length before) (before ++ (own ++ behind)))) n
    ∙ ap (take (length own)) (drop-seam before (own ++ behind)) ∙ take-append_seam own behind

-- a value and those behind it
pub record Front (first : Option Value) (others : Option (List Value)) (all : List Value) : Type 0 where
  pub value : Value
  pub values : List Value
  pub is-first : first ≡ Some value
  pub are-others : others ≡ Some values
  pub are-all : all ≡ value ∷ values

front-of : (first : Option Value) (others : Option (List Value)) (all : List Value) → in_front first others ≡ Some all
    → Front first others all
front-of None others all e = absurd (cc)
front-of (Some v) None all e = absurd (cc)
front-of (Some v) (Some vs) all e = record { value = v; values = vs; is-first = refl; are-others = refl; are-all = cc }

made-of : (production : Production) (place : Place) (parts : Option (List Value)) (v : Value) → made production place parts ≡ Some v
    → (us : List Value) × (parts ≡ Some us) × (make production place us ≡ Some v)
made-of production place None v e = absurd (cc)
made-of production place (Some us) v e = (us, refl, e)

-- one production, of which these are the parts
built-one : (tokens : List Token) (entry : Entry) (n : ℕ) (us vs : List Value) (v : Value)
    → length us ≡ parts_among (template entry.production)
    → make entry.production (place_in tokens n entry) us ≡ Some v
    → build_one tokens (built (reverse_aux us vs) n) entry ≡ Some (built (v ∷ vs) (n + cond (is_node entry.production) 1 0))
built-one tokens entry n us vs v count makes =
    let parts : reverse (take (parts_among (template entry.production)) (reverse_aux us vs)) ≡ us =
    ap (λ k. reverse (take k (reverse_aux us vs))) (sym count) ∙ taken us vs in
    let rest : drop (parts_among (template entry.production)) (reverse_aux us vs) ≡ vs =
    ap (λ k. drop k (reverse_aux us vs)) (sym count) ∙ left us vs in
    ap (λ xs. with_value (make entry.production (place_in tokens n entry) xs) (built (reverse_aux us vs) n) entry) parts
    ∙ ap (λ m. with_value m (built (reverse_aux us vs) n) entry) makes
    ∙ ap (λ xs. Some (built (v ∷ xs) (n + cond (is_node entry.production) 1 0))) rest

build-append : (tokens : List Token) (entry : Entry) (es : List Entry) (b c : Built) → build_one tokens b entry ≡ Some c
    → build tokens (entry ∷ es) b ≡ build tokens es c
build-append tokens entry es b c e = ap (λ o. option_and_then (build tokens es) o) e

regroup : (own : List Entry) (entry : Entry) (later es : List Entry) → ((own ++ entry ∷ []) ++ later) ++ es ≡ own ++ (entry ∷ (later ++ es))
regroup own entry later es = simp append_assoc

pub record Builds (tokens : List Token) (pieces : List Piece) (at : ℕ) (parts : Forest) (n : ℕ) (us : List Value) : Type 0 where
  pub count : length us ≡ parts_among pieces
  pub builds : (vs : List Value) (es : List Entry)
      → build tokens (entries_of at parts ++ es) (built vs n) ≡ build tokens es (built (reverse_aux us vs) (n + nodes_of parts))

pub build-parts : (tokens : List Token) (pieces : List Piece) (parts : Forest) (before behind : List Token) (n : ℕ)
    (us : List Value) → Match pieces parts
    → tokens ≡ before ++ (spells parts ++ behind) → values n parts ≡ Some us → Builds tokens pieces (length before) parts n us
unfolding Match IsProper values value nodes nodes_of entries entries_of parts_among
build-parts tokens [] none before behind n us proper spelled e =
    let same : [] ≡ us = cc in
    subst (λ xs. Builds tokens [] (length before) none n xs) same
    record { count = refl; builds = λ vs es. ap (λ m. build tokens es (built vs m)) (sym (add-zero n)) }
build-parts tokens [] (more _ parts) before behind n us proper spelled e = elim proper [ ]
build-parts tokens (token terminal ∷ pieces) none before behind n us proper spelled e = elim proper [ ]
build-parts tokens (part class ∷ pieces) none before behind n us proper spelled e = elim proper [ ]
build-parts tokens (token terminal ∷ pieces) (more (node production own) parts) before behind n us proper spelled e = elim (proper.0) [ ]
build-parts tokens (part class ∷ pieces) (more (leaf t) parts) before behind n us proper spelled e = elim (proper.0) [ ]
build-parts tokens (token terminal ∷ pieces) (more (leaf t) parts) before behind n us proper spelled e =
    let inner = build-parts tokens pieces parts (before ++ t ∷ []) behind n us proper.3
    (spelled ∙ sym (append_assoc before (t ∷ []) (spells parts ++ behind))) e in
    record {
      count = inner.count;
      builds = λ vs es. ap (λ a. build tokens (entries_of a parts ++ es) (built vs n)) (sym (length-append before (t ∷ [])))
          ∙ inner.builds vs es ∙ ap (λ m. build tokens es (built (reverse_aux us vs) (n + m))) (sym (zero-add (nodes_of parts)));
    }
build-parts tokens (part class ∷ pieces) (more (node production own) parts) before behind n us proper spelled e =
    let own-nodes = nodes_of own + cond (is_node production) 1 0 in
    let front = front-of (value n (node production own)) (values (n + own-nodes) parts) us e in
    let making = made-of production (place_of (n + nodes_of own) (spells own)) (values n own) front.value front.is-first in
    let spelled' : tokens ≡ before ++ (spells own ++ (spells parts ++ behind)) =
    spelled ∙ ap (λ xs. before ++ xs) (append_assoc (spells own) (spells parts) behind) in
    let inner = build-parts tokens (template production) own before (spells parts ++ behind) n making.0 proper.1 spelled' making.1 in
    let rest = build-parts tokens pieces parts (before ++ spells own) behind (n + own-nodes) front.values proper.3
    (spelled' ∙ sym (append_assoc before (spells own) (spells parts ++ behind))) front.are-others in
    let entry : Entry = record { production = production; first = length before; end = length before + length (spells own) } in
    let slice : slice_range tokens (length before) (length before + length (spells own)) ≡ spells own =
    ap (λ ts. slice_range ts (length before) (length before + length (spells own))) spelled'
    ∙ own-tokens before (spells own) (spells parts ++ behind) in
    let makes : make production (place_in tokens (n + nodes_of own) entry) making.0 ≡ Some front.value =
    ap (λ ts. make production (place_of (n + nodes_of own) ts) making.0) slice ∙ making.2 in
    subst (λ all. Builds tokens (part class ∷ pieces) (length before) (more (node production own) parts) n all) (sym front.are-all)
    record {
      count = sym (add-one (length front.values)) ∙ ap (λ k. k + 1) rest.count;
      builds = λ vs es.
          let later = entries_of (length before + length (spells own)) parts in
          let middle = built (front.value ∷ vs) (n + nodes_of own + cond (is_node production) 1 0) in
          ap (λ xs. build tokens xs (built vs n)) (regroup (entries_of (length before) own) entry later es)
          ∙ inner.builds vs (entry ∷ (later ++ es))
          ∙ build-append tokens entry (later ++ es) (built (reverse_aux making.0 vs) (n + nodes_of own)) middle
          (built-one tokens entry (n + nodes_of own) making.0 vs front.value inner.count makes)
          ∙ ap (λ a. build tokens (entries_of a parts ++ es) middle) (sym (length-append before (spells own)))
          ∙ ap (λ m. build tokens (entries_of (length (before ++ spells own)) parts ++ es) (built (front.value ∷ vs) m))
          (add_assoc n (nodes_of own) (cond (is_node production) 1 0))
          ∙ rest.builds (front.value ∷ vs) es
          ∙ ap (λ m. build tokens es (built (reverse_aux front.values (front.value ∷ vs)) m)) (add_assoc n own-nodes (nodes_of parts));
    }

-- the productions of a source make its value, and count its nodes
pub whole-built : (tokens : List Token) (written : Written) (v : Value) → IsText written tokens → value 0 written ≡ Some v
    → build tokens (entries 0 written) (built [] 0) ≡ Some (built (v ∷ []) (nodes written))
unfolding Match values value nodes nodes_of entries entries_of parts_among begins_with_else
whole-built tokens (leaf t) v text e = elim (text.is_source) [ ]
whole-built tokens (node production own) v text e =
    let all = build-parts tokens (part source ∷ []) (more (node production own) none) [] [] 0 (v ∷ [])
    (text.is_source, text.proper, λ h. absurd (cc), tt)
    (sym text.spelled ∙ sym (append-nil (spells own)) ∙ sym (append-nil (spells own ++ []))) (ap (λ o. in_front o (Some [])) e) in
    ap (λ es. build tokens es (built [] 0)) (sym (append-nil (entries 0 (node production own)))
    ∙ sym (append-nil (entries 0 (node production own) ++ [])))
    ∙ all.builds [] []
    ∙ ap (λ m. Some (built (v ∷ []) m)) (omega arith)
