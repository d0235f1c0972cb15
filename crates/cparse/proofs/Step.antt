-- What a turn of the loop does to the levels on its stack, whose top is the last.
use Rattle.std.specs.Prelude.{◌≡◌, ℕ, ◌+◌, ◌≤◌, Bool, true, false, cond, List, [], ◌∷◌, ◌++◌, length, reverse, replicate}
use Rattle.std.specs.Prelude.{Option, Some, None, refl, All, MatchOption, option_to_list, unwrap_or}
use Rattle.std.proofs.Common.{arith, sym, ap, subst, zero, suc, ◌∙◌, add-one}
use Rattle.std.proofs.lemmas.Bool.{ne_eqb}
use Rattle.std.proofs.lemmas.List.{append-nil, replicate_more, reverse-append, nil_from_length}
use Rattle.std.proofs.lemmas.List.Elements.{All-append, All-pop, All-replicate, All-weaker}
use Rattle.cgrammar.specs.Grammar.{template, is_node, parts_among}
use Rattle.creader.specs.declared.reader.Entry.{Entry}
use Rattle.cparse.specs.Nodes.{below}
use Rattle.cparse.proofs.Pass.{Pass, passed, next_level, other_levels, found_by, turned, turned_at, walked}
use Rattle.cparse.proofs.Walk.{walked-append}

reverse-replicate : (n level : ℕ) → reverse (replicate n level) ≡ replicate n level
reverse-replicate zero level = refl
reverse-replicate (suc n) level =
    reverse-append (level ∷ []) (replicate n level) ∙ ap (λ levels. levels ++ level ∷ []) (reverse-replicate n level)
    ∙ replicate_more n level ∙ ap (λ m. replicate m level) (add-one n)

-- the pass with the parts' levels put on the stack
pushed : (rest : List ℕ) (parts under : ℕ) → reverse (rest ++ replicate parts under) ≡ replicate parts under ++ reverse rest
pushed rest parts under =
    reverse-append rest (replicate parts under) ∙ ap (λ levels. levels ++ reverse rest) (reverse-replicate parts under)

-- what the stack gives
pub record Pops (stack rest : List ℕ) (level : ℕ) : Type 0 where
  pub next : next_level (reverse stack) ≡ level
  pub others : other_levels (reverse stack) ≡ reverse rest

pub pops : (stack rest : List ℕ) (popped : Option ℕ) (before after : ℕ) → stack ≡ rest ++ option_to_list popped → after ≡ length rest
    → MatchOption popped ((before ≡ 0) × (after ≡ 0)) (λ _. after + 1 ≡ before) → Pops stack rest (unwrap_or popped 0)
pops stack rest None before after split many cases =
    let empty : rest ≡ [] = nil_from_length rest (cc (many, cases.1)) in
    let all : stack ≡ [] = split ∙ append-nil rest ∙ empty in
    record {
      next = ap (λ levels. next_level (reverse levels)) all;
      others = ap (λ levels. other_levels (reverse levels)) all ∙ sym (ap reverse empty);
    }
pops stack rest (Some level) before after split many cases =
    let turned-over : reverse stack ≡ level ∷ reverse rest = ap reverse split ∙ reverse-append rest (level ∷ []) in
    record { next = ap next_level turned-over; others = ap other_levels turned-over }

-- a turn is that of the definition
pub stepped : (left others : List Entry) (entry : Entry) (stack rest after : List ℕ) (level under parts : ℕ) (found next : Option ℕ)
    → left ≡ others ++ entry ∷ [] → Pops stack rest level → under ≡ below (is_node entry.production) level
    → next ≡ found_by (is_node entry.production) level entry.first found → parts ≡ parts_among (template entry.production)
    → after ≡ rest ++ replicate parts under → walked others (passed after next) ≡ walked left (passed stack found)
unfolding walked
stepped left others entry stack rest after level under parts found next split pops under-is next-is parts-are after-is =
    let levels-are : reverse after ≡ replicate (parts_among (template entry.production)) (below (is_node entry.production) level)
    ++ reverse rest =
    ap reverse after-is ∙ pushed rest parts under ∙ ap (λ n. replicate n under ++ reverse rest) parts-are
    ∙ ap (λ n. replicate (parts_among (template entry.production)) n ++ reverse rest) under-is in
    let here : passed after next ≡ turned_at entry level (reverse rest) found =
    ap (λ levels. let p : Pass = record { levels = levels; found = next } in p) levels-are
    ∙ ap (λ place.
    let levels = replicate (parts_among (template entry.production)) (below (is_node entry.production) level) ++ reverse rest in
    let p : Pass = record { levels = levels; found = place } in p) next-is in
    let there : turned_at entry level (reverse rest) found ≡ turned entry (passed stack found) =
    ap (λ n. turned_at entry n (reverse rest) found) (sym pops.next)
    ∙ ap (λ levels. turned_at entry (next_level (reverse stack)) levels found) (sym pops.others) in
    ap (walked others) (here ∙ there) ∙ sym (walked-append others (entry ∷ []) (passed stack found))
    ∙ ap (λ all. walked all (passed stack found)) (sym split)

below-more : (own : Bool) (level : ℕ) → below own level ≤ level + 1
below-more true level = omega arith
below-more false level = omega arith

level-bound : (popped : Option ℕ) (left total : ℕ) → left ≤ total → MatchOption popped Unit (λ level. level + left ≤ total)
    → unwrap_or popped 0 + left ≤ total
level-bound None left total within top = omega arith
level-bound (Some level) left total within top = top

-- no level grows by more than one for an entry
pub bounded : (total left others : ℕ) (stack rest after : List ℕ) (popped : Option ℕ) (own : Bool) (under parts : ℕ)
    → left ≤ total → others + 1 ≡ left → stack ≡ rest ++ option_to_list popped → under ≡ below own (unwrap_or popped 0)
    → after ≡ rest ++ replicate parts under → All (λ level. level + left ≤ total) stack → All (λ level. level + others ≤ total) after
bounded total left others stack rest after popped own under parts within one split under-is after-is bound =
    let popped-bound = All-pop (λ level. level + left ≤ total) stack rest popped split bound in
    let kept = All-weaker (λ level. level + left ≤ total) (λ level. level + others ≤ total) (λ level h. omega arith) rest popped-bound.0 in
    let top : unwrap_or popped 0 + left ≤ total = level-bound popped left total within popped-bound.1 in
    let more = below-more own (unwrap_or popped 0) in
    let under-bound : under + others ≤ total = omega arith in
    subst (All (λ level. level + others ≤ total)) (sym after-is)
    (All-append (λ level. level + others ≤ total) rest (replicate parts under) kept
    (All-replicate (λ level. level + others ≤ total) parts under under-bound))

-- what the loop notes
pub noted : (own : Bool) (level first : ℕ) (found next : Option ℕ) → own ≡ true → level ≡ 256 → next ≡ Some first
    → next ≡ found_by own level first found
noted own level first found next is-own is-level is-next =
    is-next ∙ sym (ap (λ n. found_by true n first found) is-level) ∙ ap (λ b. found_by b level first found) (sym is-own)

pub passed-by : (own : Bool) (level first : ℕ) (found next : Option ℕ) → own ≡ false → next ≡ found → next ≡ found_by own level first found
passed-by own level first found next no-own is-next = is-next ∙ ap (λ b. found_by b level first found) (sym no-own)

pub higher : (own : Bool) (level first : ℕ) (found next : Option ℕ) → own ≡ true → (level ≡ 256 → ⊥) → next ≡ found
    → next ≡ found_by own level first found
higher own level first found next is-own other is-next =
    is-next ∙ sym (ap (λ b. cond b (Some first) found) (ne_eqb level 256 other)) ∙ ap (λ b. found_by b level first found) (sym is-own)
