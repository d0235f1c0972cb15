-- Going over the operations, and taking out those whose value goes to a register that isn't marked.
use Rattle.std.proofs.Common.{◌≡◌, ℕ, ◌+◌, ◌<◌, ◌≤◌, Bool, true, false, not, ◌&&◌, List, [], ◌∷◌, ◌++◌}
use Rattle.std.proofs.Common.{length, Option, Some, None, refl, sym, subst, ap, ◌∙◌, arith, append-nil, append_assoc, length-append}
use Rattle.std.specs.Prelude.{IfSome}
use Rattle.std.specs.List.{list_all, list_any}
use Rattle.std.proofs.lemmas.Bool.{and_parts, and_from, not-true, true≢false}
use Rattle.std.proofs.lemmas.List.{map-append}
use Rattle.std.proofs.lemmas.List.Folds.{list_all-append}
use Rattle.linkarena.specs.Lists.{first_id}
use Rattle.prunum.specs.declared.width.Width.{Width}
use Rattle.midcode.specs.declared.register.VReg.{VReg}
use Rattle.midcode.specs.declared.op.Op.{Op}
use Rattle.midcode.specs.declared.op.OpKind.{OpKind}
use Rattle.midcode.specs.Operation.{reads, writes, is_value}
use Rattle.midcode.specs.Function.{Function, kinds, kinds_of, fits, IsValidFunction, IsNode, AtNode}
use Rattle.midcode.proofs.Valid.{parts-of}
use Rattle.midopt.specs.Better.{IsBetterFunction}
use Rattle.midopt.specs.Tidy.{is_register, are_reading, is_unread, is_idle, HasNoIdle, IsFolded}
use Rattle.midopt.specs.Marks.{marks_of, value_to, is_unmarked}
use Rattle.midopt.proofs.Relation.{function-same, function-more}
use Rattle.midopt.proofs.Lists.{any-closed}
use Rattle.midopt.proofs.Removed.{removed-function}
use Rattle.midopt.proofs.FoldedLemmas.{removed-folded}
use Rattle.midopt.proofs.MarkLemmas.{first-some, first-none, first-node, empty-list, unmarked-unread, marked-read}

-- An operation that was idle is so where the registers that no operation read are read by none.
idle-still : (ks ls : List OpKind) (k : OpKind) → ((r : ℕ) → are_reading ks r ≡ false → are_reading ls r ≡ false)
    → is_idle ks k ≡ true → is_idle ls k ≡ true
idle-still ks ls k still idle =
    let parts = and_parts (is_value k) (is_unread ks (writes k)) idle in
    and_from (is_value k) (is_unread ls (writes k)) parts.0 (by (writes k) parts.1)
  where
    by : (o : Option VReg) → is_unread ks o ≡ true → is_unread ls o ≡ true
    by None un = un
    by (Some r) un = ap not (still r.0 (not-true (are_reading ks r.0) un))

idle-value : (ks : List OpKind) (k : OpKind) → is_idle ks k ≡ true → is_value k ≡ true
idle-value ks k idle = (and_parts (is_value k) (is_unread ks (writes k)) idle).0

-- Where each operation's register is marked, each is read.
all-read : (all : List OpKind) (registers : List Width) (labels : ℕ) (ks : List OpKind) → list_all (fits registers labels) ks ≡ true
    → list_all (λ k. not (is_unmarked (marks_of all (length registers)) (value_to k))) ks ≡ true
    → list_all (λ k. not (is_idle all k)) ks ≡ true
all-read all registers labels [] fit marked = refl
all-read all registers labels (k ∷ ks) fit marked =
    let marks = marks_of all (length registers) in
    let f = and_parts (fits registers labels k) (list_all (fits registers labels) ks) fit in
    let m = and_parts (not (is_unmarked marks (value_to k))) (list_all (λ k. not (is_unmarked marks (value_to k))) ks) marked in
    and_from (not (is_idle all k)) (list_all (λ k. not (is_idle all k)) ks)
    (ap not (marked-read all registers k (parts-of registers labels k f.0).writes_own (not-true (is_unmarked marks (value_to k)) m.0)))
    (all-read all registers labels ks f.1 m.1)

abbrev pub marks : Function → List Bool
marks f = marks_of (kinds f) (length f.registers)

-- This operation's value goes to a register, if to any, that is marked.
abbrev pub is_kept : Function → OpKind → Bool
is_kept old k = not (is_unmarked (marks old) (value_to k))

-- before a node, with what was taken out of the old function so far
pub record Swept (old now : Function) (at : Option ℕ) (index : ℕ) (found : Bool) : Type 0 where
  pub front : List (ℕ × Op)
  pub back : List (ℕ × Op)
  pub parts : now.nodes ≡ front ++ back
  pub come : at ≡ first_id back
  pub node : IfSome at (IsNode now.nodes)
  pub left : index + length back ≡ length old.nodes
  pub better : IsBetterFunction old now
  pub unread : (r : ℕ) → are_reading (kinds old) r ≡ false → are_reading (kinds now) r ≡ false
  pub some : found ≡ true → length now.nodes < length old.nodes
  pub few : length now.nodes ≤ length old.nodes
  pub none : found ≡ false → (now ≡ old) × (list_all (is_kept old) (kinds_of front) ≡ true)
  pub folded : IsFolded (kinds old) → IsFolded (kinds now)

pub swept-first : (f : Function) (at : Option ℕ) → at ≡ first_id f.nodes → IfSome at (IsNode f.nodes) → Swept f f at 0 false
swept-first f at is node = record {
  front = [];
  back = f.nodes;
  parts = refl;
  come = is;
  node = node;
  left = omega arith;
  better = function-same f;
  unread = λ r none. none;
  some = λ h. absurd (true≢false (sym h));
  few = omega arith;
  none = λ h. (refl, refl);
  folded = λ h. h;
}

module _ (old now : Function) (node index : ℕ) (found : Bool) (w : Swept old now (Some node) index found) where
  abbrev o : Op
  o = (first-some w.back node w.come).0

  abbrev rest : List (ℕ × Op)
  rest = (first-some w.back node w.come).1

  pub stands : now.nodes ≡ w.front ++ (node, o) ∷ rest
  stands = w.parts ∙ ap (λ b. w.front ++ b) (first-some w.back node w.come).2

  fewer : index + 1 + length rest ≡ length old.nodes
  fewer = omega (arith, w.left, ap length (first-some w.back node w.come).2)

  module _ (k : Op) (get : AtNode now.nodes node (λ _ op _. k ≡ op)) (next : Option ℕ)
      (step : AtNode now.nodes node (λ _ _ back. next ≡ first_id back)) where
    pub swept-kept : IfSome next (IsNode now.nodes) → is_unmarked (marks old) (value_to k.kind) ≡ false
        → Swept old now next (index + 1) found
    swept-kept there marked = record {
      front = w.front ++ (node, o) ∷ [];
      back = rest;
      parts = stands ∙ sym (append_assoc w.front ((node, o) ∷ []) rest);
      come = step w.front o rest stands;
      node = there;
      left = fewer;
      better = w.better;
      unread = w.unread;
      some = w.some;
      few = w.few;
      none = λ h. (
        (w.none h).0,
        ap (list_all (is_kept old)) (map-append (λ n. n.1.kind) w.front ((node, o) ∷ [])) ∙
            list_all-append (is_kept old) (kinds_of w.front) (o.kind ∷ []) ∙
            and_from (list_all (is_kept old) (kinds_of w.front)) (is_kept old o.kind && true) (w.none h).1
            (and_from (is_kept old o.kind) true
            (ap (λ j. is_kept old j.kind) (sym (get w.front o rest stands)) ∙ ap not marked) refl),
      );
      folded = w.folded;
    }

    module _ (un : is_unmarked (marks old) (value_to k.kind) ≡ true) where
      idle : is_idle (kinds now) k.kind ≡ true
      idle = idle-still (kinds old) (kinds now) k.kind w.unread (unmarked-unread (kinds old) (length old.registers) k.kind un)

      -- it may be taken out
      pub may-go : AtNode now.nodes node (λ _ op _. is_value op.kind ≡ true)
      may-go front op back at =
          ap (λ j. is_value j.kind) (sym (get front op back at)) ∙ idle-value (kinds now) k.kind idle

      pub swept-out : (new : Function) → AtNode now.nodes node (λ front _ back. new ≡ record now { nodes = front ++ back })
          → Swept old new next (index + 1) true
      swept-out new out =
          subst (λ f. Swept old f next (index + 1) true) (sym (out w.front o rest stands)) (record {
            front = w.front;
            back = rest;
            parts = refl;
            come = step w.front o rest stands;
            node = subst (λ n. IfSome n (IsNode (w.front ++ rest))) (sym (step w.front o rest stands)) (first-node w.front rest);
            left = fewer;
            better = function-more old now (record now { nodes = w.front ++ rest }) w.better
                (removed-function now w.front rest node o stands here);
            unread = λ r none.
                ap (λ ks. are_reading ks r) (map-append (λ n. n.1.kind) w.front rest) ∙
                any-closed o.kind (idle-value (kinds now) o.kind here) (kinds_of rest)
                (λ k. list_any (is_register r) (reads k)) (kinds_of w.front)
                (ap (λ ks. are_reading ks r) (sym old-kinds) ∙ w.unread r none);
            some = λ h. shorter;
            few = omega (arith, shorter);
            none = λ h. absurd (true≢false h);
            folded = λ h.
                subst IsFolded (sym (map-append (λ n. n.1.kind) w.front rest))
                (removed-folded (kinds_of w.front) o.kind (kinds_of rest) (ap (λ ks. is_idle ks o.kind) (sym old-kinds) ∙ here)
                (subst IsFolded old-kinds (w.folded h)));
          })
        where
          here : is_idle (kinds now) o.kind ≡ true
          here = ap (λ j. is_idle (kinds now) j.kind) (sym (get w.front o rest stands)) ∙ idle

          old-kinds : kinds now ≡ kinds_of w.front ++ o.kind ∷ kinds_of rest
          old-kinds = ap kinds_of stands ∙ map-append (λ n. n.1.kind) w.front ((node, o) ∷ rest)

          shorter : length (w.front ++ rest) < length old.nodes
          shorter = omega (arith, length-append w.front rest, length-append w.front ((node, o) ∷ rest), ap length stands, w.few)

-- where no operation is left
swept-done : (old now : Function) (at : Option ℕ) (index : ℕ) (w : Swept old now at index false) → IsValidFunction old → w.back ≡ []
    → HasNoIdle (kinds now)
swept-done old now at index w valid none =
    let same = (w.none refl).0 in
    let whole : old.nodes ≡ w.front = sym (ap (λ f. f.nodes) same) ∙ w.parts ∙ ap (λ b. w.front ++ b) none ∙ append-nil w.front in
    subst (λ f. HasNoIdle (kinds f)) (sym same)
    (all-read (kinds old) old.registers old.labels (kinds old) valid.fit
    (ap (λ ns. list_all (is_kept old) (kinds_of ns)) whole ∙ (w.none refl).1))

pub swept-none : (old now : Function) (index : ℕ) (found : Bool) → Swept old now None index found → IsValidFunction old
    → found ≡ false → HasNoIdle (kinds now)
swept-none old now index true w valid is = absurd (true≢false is)
swept-none old now index false w valid is = swept-done old now None index w valid (first-none w.back w.come)

pub swept-end : (old now : Function) (at : Option ℕ) (index : ℕ) (found : Bool) → Swept old now at index found → IsValidFunction old
    → length old.nodes ≤ index → found ≡ false → HasNoIdle (kinds now)
swept-end old now at index true w valid over is = absurd (true≢false is)
swept-end old now at index false w valid over is =
    swept-done old now at index w valid (empty-list w.back (omega (arith, w.left, over)))
