-- Going over the productions of a proper tree from the last to the first finds its first node at level 257.
use Rattle.std.specs.Prelude.{◌≡◌, ℕ, ◌+◌, ◌<◌, Bool, true, false, nat_eq, cond, List, [], ◌∷◌, ◌++◌}
use Rattle.std.specs.Prelude.{length, replicate, slice_get, Option, Some, None, refl}
use Rattle.std.proofs.Common.{arith, sym, ap, ◌∙◌, append_assoc}
use Rattle.std.proofs.lemmas.List.{replicate_more, nil_from_length}
use Rattle.cgrammar.specs.Grammar.{Piece, token, part, template, is_node, parts_among}
use Rattle.cgrammar.specs.Text.{Written, leaf, node, Forest, none, more, spell, spells, Stands, IsProper, Match}
use Rattle.creader.specs.declared.reader.Entry.{Entry}
use Rattle.creader.specs.Entries.{entries, entries_of}
use Rattle.cparse.specs.Nodes.{deep, deep_of, deep_here, below}
use Rattle.cparse.proofs.Pass.{Pass, found_by, turned, walked, at_end}

abbrev pass : List ℕ → Option ℕ → Pass
pass levels found = record { levels = levels; found = found }

-- the first of the places, or what was found before
unfoldable first_or : List ℕ → Option ℕ → Option ℕ
first_or [] found = found
first_or (place ∷ places) found = Some place

first_or-append : (front back : List ℕ) (found : Option ℕ) → first_or (front ++ back) found ≡ first_or front (first_or back found)
unfolding first_or
first_or-append [] back found = refl
first_or-append (place ∷ front) back found = refl

first_or-none : (places : List ℕ) → first_or places None ≡ slice_get places 0
unfolding first_or
first_or-none [] = refl
first_or-none (place ∷ places) = refl

pub walked-append : (front back : List Entry) (start : Pass) → walked (front ++ back) start ≡ walked front (walked back start)
unfolding walked
walked-append [] back start = refl
walked-append (entry ∷ front) back start = ap (turned entry) (walked-append front back start)

beyond-test : (level : ℕ) → 256 < level → nat_eq level 256 ≡ false
beyond-test level deeper = grind arith

beyond-here : (own : Bool) (level at : ℕ) → 256 < level → deep_here own level at ≡ []
beyond-here false level at deeper = refl
beyond-here true level at deeper = ap (λ b. cond b (at ∷ []) []) (beyond-test level deeper)

beyond-below : (own : Bool) (level : ℕ) → 256 < level → 256 < below own level
beyond-below false level deeper = deeper
beyond-below true level deeper = omega arith

mutual
  unfolding deep deep_of

  -- no node stands at level 257 below so many others
  beyond : (level at : ℕ) (written : Written) → 256 < level → deep level at written ≡ []
  beyond level at (leaf t) deeper = refl
  beyond level at (node production parts) deeper =
      ap (λ places. places ++ deep_of (below (is_node production) level) at parts) (beyond-here (is_node production) level at deeper)
      ∙ beyond-of (below (is_node production) level) at parts (beyond-below (is_node production) level deeper)

  beyond-of : (level at : ℕ) (parts : Forest) → 256 < level → deep_of level at parts ≡ []
  beyond-of level at none deeper = refl
  beyond-of level at (more written parts) deeper =
      ap (λ places. places ++ deep_of level (at + length (spell written)) parts) (beyond level at written deeper)
      ∙ beyond-of level (at + length (spell written)) parts deeper

by-test : (here : Bool) (at : ℕ) (places : List ℕ) (found : Option ℕ) → (here ≡ true → places ≡ [])
    → first_or places (cond here (Some at) found) ≡ first_or (cond here (at ∷ []) [] ++ places) found
unfolding first_or
by-test true at places found stops = ap (λ xs. first_or xs (Some at)) (stops refl)
by-test false at places found stops = refl

is-level : (level : ℕ) → nat_eq level 256 ≡ true → level ≡ 256
is-level level e = grind arith

-- a node at level 257 has no other below it
by-own : (own : Bool) (level at : ℕ) (parts : Forest) (found : Option ℕ)
    → first_or (deep_of (below own level) at parts) (found_by own level at found)
    ≡ first_or (deep_here own level at ++ deep_of (below own level) at parts) found
by-own false level at parts found = refl
by-own true level at parts found =
    by-test (nat_eq level 256) at (deep_of (level + 1) at parts) found
    (λ e. let same : level ≡ 256 = is-level level e in beyond-of (level + 1) at parts (omega arith))

-- the levels, with that of this part in front
abbrev above : Written → ℕ → List ℕ → List ℕ
above (leaf _) level levels = levels
above (node _ _) level levels = level ∷ levels

one-more : (n level : ℕ) (levels : List ℕ) → replicate (n + 1) level ++ levels ≡ replicate n level ++ (level ∷ levels)
one-more n level levels = ap (λ xs. xs ++ levels) (sym (replicate_more n level)) ∙ append_assoc (replicate n level) (level ∷ []) levels

one-part : (piece : Piece) (pieces : List Piece) (written : Written) (level : ℕ) (levels : List ℕ) → Stands piece written
    → replicate (parts_among (piece ∷ pieces)) level ++ levels ≡ replicate (parts_among pieces) level ++ above written level levels
unfolding parts_among
one-part (token terminal) pieces (leaf t) level levels stands = refl
one-part (token terminal) pieces (node production parts) level levels stands = absurd stands
one-part (part class) pieces (leaf t) level levels stands = absurd stands
one-part (part class) pieces (node production parts) level levels stands = one-more (parts_among pieces) level levels

mutual
  unfolding walked entries entries_of deep deep_of first_or IsProper Match parts_among

  -- over a part that stands below this many nodes
  walked-written : (written : Written) (level at : ℕ) (levels : List ℕ) (found : Option ℕ) → IsProper written
      → walked (entries at written) (pass (above written level levels) found) ≡ pass levels (first_or (deep level at written) found)
  walked-written (leaf t) level at levels found proper = refl
  walked-written (node production parts) level at levels found proper =
      let own = is_node production in
      let last : Entry = record { production = production; first = at; end = at + length (spells parts) } in
      walked-append (entries_of at parts) (last ∷ []) (pass (level ∷ levels) found)
      ∙ walked-forest parts (template production) (below own level) at levels (found_by own level at found) proper
      ∙ ap (pass levels) (by-own own level at parts found)

  -- over parts that all stand below as many
  walked-forest : (parts : Forest) (pieces : List Piece) (level at : ℕ) (levels : List ℕ) (found : Option ℕ) → Match pieces parts
      → walked (entries_of at parts) (pass (replicate (parts_among pieces) level ++ levels) found)
      ≡ pass levels (first_or (deep_of level at parts) found)
  walked-forest none [] level at levels found match = refl
  walked-forest none (piece ∷ pieces) level at levels found match = absurd match
  walked-forest (more written parts) [] level at levels found match = absurd match
  walked-forest (more written parts) (piece ∷ pieces) level at levels found match =
      let behind = at + length (spell written) in
      walked-append (entries at written) (entries_of behind parts) (pass (replicate (parts_among (piece ∷ pieces)) level ++ levels) found)
      ∙ ap (λ xs. walked (entries at written) (walked (entries_of behind parts) (pass xs found)))
      (one-part piece pieces written level levels match.0)
      ∙ ap (walked (entries at written)) (walked-forest parts pieces level behind (above written level levels) found match.3)
      ∙ walked-written written level at levels (first_or (deep_of level behind parts) found) match.1
      ∙ ap (pass levels) (sym (first_or-append (deep level at written) (deep_of level behind parts) found))

-- the tree's own level in front of none, or of what nothing asks for
found-at : (written : Written) → IsProper written → (walked (entries 0 written) at_end).found ≡ first_or (deep 0 0 written) None
found-at (leaf t) proper = ap (λ (pass : Pass). pass.found) (walked-written (leaf t) 0 0 (0 ∷ []) None proper)
found-at (node production parts) proper = ap (λ (pass : Pass). pass.found) (walked-written (node production parts) 0 0 [] None proper)

-- the first place at which a node begins that stands at level 257
pub found-first : (written : Written) → IsProper written → (walked (entries 0 written) at_end).found ≡ slice_get (deep 0 0 written) 0
found-first written proper = found-at written proper ∙ first_or-none (deep 0 0 written)

-- it is what has been found where no entry is left
pub found-at-last : (left all : List Entry) (here : Pass) (written : Written) → length left ≡ 0 → walked left here ≡ walked all at_end
    → IsProper written → all ≡ entries 0 written → here.found ≡ slice_get (deep 0 0 written) 0
unfolding walked
found-at-last left all here written none-left kept proper source =
    ap (λ entries. (walked entries here).found) (sym (nil_from_length left none-left)) ∙ ap (λ (pass : Pass). pass.found) kept
    ∙ ap (λ entries. (walked entries at_end).found) source ∙ found-first written proper
