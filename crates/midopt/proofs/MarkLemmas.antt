-- Marks on the registers that are read.
use Rattle.std.proofs.Common.{◌≡◌, ℕ, zero, suc, ◌+◌, ◌<◌, ◌≤◌, ◌==◌, Bool, true, false, not, ◌&&◌, ◌||◌, List, [], ◌∷◌, ◌++◌}
use Rattle.std.proofs.Common.{length, Option, Some, None, refl, sym, ap, ◌∙◌, arith, slice_index_or, slice_set, replicate, flat_map}
use Rattle.std.proofs.Common.{drop_of_length-le, take, drop, append-nil, append_assoc, if◌then◌else◌}
use Rattle.std.specs.Prelude.{IfSome}
use Rattle.std.specs.List.{list_any}
use Rattle.std.proofs.lemmas.Bool.{and_from, or_parts, ltb-true, not-true, true≢false}
use Rattle.std.proofs.lemmas.List.{map-append, take_all}
use Rattle.std.proofs.lemmas.List.Folds.{list_any-append}
use Rattle.linkarena.specs.Lists.{first_id}
use Rattle.prunum.specs.declared.width.Width.{Width}
use Rattle.midcode.specs.declared.register.VReg.{VReg}
use Rattle.midcode.specs.declared.op.Op.{Op}
use Rattle.midcode.specs.declared.op.OpKind.{OpKind}
use Rattle.midcode.specs.Operation.{reads, writes, is_value}
use Rattle.midcode.specs.Function.{kinds_of, has, each_of, IsNode, AtNode}
use Rattle.midopt.specs.Tidy.{is_register, are_reading, is_unread, is_idle}
use Rattle.midopt.specs.Marks.{marked, marks_of, value_to, is_unmarked}

pub set-past : (l : List Bool) (i : ℕ) (b : Bool) → length l ≤ i → slice_set l i b ≡ l
set-past [] i b past = refl
set-past (x ∷ l) zero b past = absurd (omega (arith, past))
set-past (x ∷ l) (suc i) b past = ap (λ m. x ∷ m) (set-past l i b (omega (arith, past)))

pub marked-append : (rs ss : List VReg) (marks : List Bool) → marked (rs ++ ss) marks ≡ marked ss (marked rs marks)
marked-append [] ss marks = refl
marked-append (r ∷ rs) ss marks = marked-append rs ss (slice_set marks r.0 true)

pub flat-append : (ks ls : List OpKind) → flat_map reads (ks ++ ls) ≡ flat_map reads ks ++ flat_map reads ls
flat-append [] ls = refl
flat-append (k ∷ ks) ls =
    ap (λ m. reads k ++ m) (flat-append ks ls) ∙ sym (append_assoc (reads k) (flat_map reads ks) (flat_map reads ls))

-- the marks of one more operation
pub marks-more : (ks : List OpKind) (k : OpKind) (count : ℕ) → marked (reads k) (marks_of ks count) ≡ marks_of (ks ++ k ∷ []) count
marks-more ks k count =
    sym (marked-append (flat_map reads ks) (reads k) (replicate count false)) ∙
    ap (λ rs. marked rs (replicate count false))
    (ap (λ m. flat_map reads ks ++ m) (sym (append-nil (reads k))) ∙ sym (flat-append ks (k ∷ [])))

-- ---- what is marked

or-true : (b : Bool) → true ≡ (b || true)
or-true true = refl
or-true false = refl

or-false : (b : Bool) → b ≡ (b || false)
or-false true = refl
or-false false = refl

or-assoc : (a b c : Bool) → ((a || b) || c) ≡ (a || (b || c))
or-assoc true b c = refl
or-assoc false b c = refl

same-suc : (v r : ℕ) → (suc v == suc r) ≡ (v == r)
same-suc v r = grind arith

zero-suc : (r : ℕ) → (zero == suc r) ≡ false
zero-suc r = grind arith

suc-zero : (v : ℕ) → (suc v == zero) ≡ false
suc-zero v = grind arith

index-set : (m : List Bool) (v r : ℕ) → slice_index_or (slice_set m v true) r true ≡ (slice_index_or m r true || (v == r))
index-set [] v r = refl
index-set (b ∷ m) zero zero = or-true b
index-set (b ∷ m) zero (suc r) = or-false (slice_index_or m r true) ∙ ap (λ c. slice_index_or m r true || c) (sym (zero-suc r))
index-set (b ∷ m) (suc v) zero = or-false b ∙ ap (λ c. b || c) (sym (suc-zero v))
index-set (b ∷ m) (suc v) (suc r) = index-set m v r ∙ ap (λ c. slice_index_or m r true || c) (sym (same-suc v r))

index-marked : (rs : List VReg) (m : List Bool) (r : ℕ)
    → slice_index_or (marked rs m) r true ≡ (slice_index_or m r true || list_any (is_register r) rs)
index-marked [] m r = or-false (slice_index_or m r true)
index-marked (v ∷ rs) m r =
    index-marked rs (slice_set m v.0 true) r ∙
    ap (λ b. b || list_any (is_register r) rs) (index-set m v.0 r) ∙
    or-assoc (slice_index_or m r true) (v.0 == r) (list_any (is_register r) rs)

index-none : (n r : ℕ) → r < n → slice_index_or (replicate n false) r true ≡ false
index-none zero r below = absurd (omega (arith, below))
index-none (suc n) zero below = refl
index-none (suc n) (suc r) below = index-none n r (omega (arith, below))

any-flat : (ks : List OpKind) (r : ℕ) → list_any (is_register r) (flat_map reads ks) ≡ are_reading ks r
any-flat [] r = refl
any-flat (k ∷ ks) r =
    list_any-append (is_register r) (reads k) (flat_map reads ks) ∙
    ap (λ b. list_any (is_register r) (reads k) || b) (any-flat ks r)

index-at : (ks : List OpKind) (count r : ℕ)
    → slice_index_or (marks_of ks count) r true ≡ (slice_index_or (replicate count false) r true || are_reading ks r)
index-at ks count r =
    index-marked (flat_map reads ks) (replicate count false) r ∙
    ap (λ b. slice_index_or (replicate count false) r true || b) (any-flat ks r)

-- A register that isn't marked is read by none.
pub unmarked-unread : (ks : List OpKind) (count : ℕ) (k : OpKind) → is_unmarked (marks_of ks count) (value_to k) ≡ true
    → is_idle ks k ≡ true
unmarked-unread ks count k un = by (is_value k) refl
  where
    free : (o : Option VReg) → is_unmarked (marks_of ks count) o ≡ true → is_unread ks o ≡ true
    free None un = un
    free (Some r) un =
        ap not (or_parts (slice_index_or (replicate count false) r.0 true) (are_reading ks r.0)
        (sym (index-at ks count r.0) ∙ not-true (slice_index_or (marks_of ks count) r.0 true) un)).1

    by : (b : Bool) → is_value k ≡ b → is_idle ks k ≡ true
    by true value =
        and_from (is_value k) (is_unread ks (writes k)) value
        (free (writes k) (ap (λ b. is_unmarked (marks_of ks count) (if b then writes k else None)) (sym value) ∙ un))
    by false value =
        absurd (true≢false (sym un ∙ ap (λ b. is_unmarked (marks_of ks count) (if b then writes k else None)) value))

-- One that is marked is read, where it is one of the function's.
pub marked-read : (ks : List OpKind) (registers : List Width) (k : OpKind) → each_of (has registers) (writes k) ≡ true
    → is_unmarked (marks_of ks (length registers)) (value_to k) ≡ false → is_idle ks k ≡ false
marked-read ks registers k own is = by (is_value k) refl
  where
    taken : (o : Option VReg) → each_of (has registers) o ≡ true → is_unmarked (marks_of ks (length registers)) o ≡ false
        → is_unread ks o ≡ false
    taken None own is = refl
    taken (Some r) own is =
        let at = index-at ks (length registers) r.0 ∙
        ap (λ b. b || are_reading ks r.0) (index-none (length registers) r.0 (ltb-true r.0 (length registers) own)) in
        ap not (sym at) ∙ is

    by : (b : Bool) → is_value k ≡ b → is_idle ks k ≡ false
    by true value =
        ap (λ b. b && is_unread ks (writes k)) value ∙
        taken (writes k) own (ap (λ b. is_unmarked (marks_of ks (length registers)) (if b then writes k else None)) (sym value) ∙ is)
    by false value = ap (λ b. b && is_unread ks (writes k)) value

-- ---- walking over the operations

abbrev id_of : ℕ → Option ℕ → ℕ
id_of d None = d
id_of d (Some i) = i

-- the node that is come to
pub first-some : (nodes : List (ℕ × Op)) (node : ℕ) → Some node ≡ first_id nodes
    → (o : Op) × (rest : List (ℕ × Op)) × (nodes ≡ (node, o) ∷ rest)
first-some [] node is = cc
first-some (e ∷ rest) node is = (e.1, rest, ap (λ n. (id_of node n, e.1) ∷ rest) (sym is))

pub first-none : (nodes : List (ℕ × Op)) → None ≡ first_id nodes → nodes ≡ []
first-none [] is = refl
first-none (e ∷ rest) is = cc

pub first-node : (front back : List (ℕ × Op)) → IfSome (first_id back) (IsNode (front ++ back))
first-node front [] = tt
first-node front (e ∷ rest) = record { front = front; op = e.1; back = rest; at = refl }

pub empty-list : (nodes : List (ℕ × Op)) → length nodes ≤ 0 → nodes ≡ []
empty-list [] few = refl
empty-list (e ∷ rest) few = absurd (omega (arith, few))

-- before a node of the list, with the marks of the operations before it
pub record Walked (nodes : List (ℕ × Op)) (count : ℕ) (marks : List Bool) (at : Option ℕ) (index : ℕ) : Type 0 where
  pub front : List (ℕ × Op)
  pub back : List (ℕ × Op)
  pub parts : nodes ≡ front ++ back
  pub come : at ≡ first_id back
  pub node : IfSome at (IsNode nodes)
  pub left : index + length back ≡ length nodes
  pub marked : marks ≡ marks_of (kinds_of front) count

pub walked-first : (nodes : List (ℕ × Op)) (count : ℕ) (marks : List Bool) (at : Option ℕ) → at ≡ first_id nodes → IfSome at (IsNode nodes)
    → marks ≡ replicate count false → Walked nodes count marks at 0
walked-first nodes count marks at is node none = record {
  front = [];
  back = nodes;
  parts = refl;
  come = is;
  node = node;
  left = omega arith;
  marked = none;
}

pub walked-next : (nodes : List (ℕ × Op)) (count : ℕ) (marks more : List Bool) (node : ℕ) (index : ℕ) (k : Op) (next : Option ℕ)
    → Walked nodes count marks (Some node) index → AtNode nodes node (λ _ o _. k ≡ o) → more ≡ marked (reads k.kind) marks
    → AtNode nodes node (λ _ _ back. next ≡ first_id back) → IfSome next (IsNode nodes) → Walked nodes count more next (index + 1)
walked-next nodes count marks more node index k next w get is step there =
    let first = first-some w.back node w.come in
    let o = first.0 in
    let rest = first.1 in
    let at : nodes ≡ w.front ++ (node, o) ∷ rest = w.parts ∙ ap (λ b. w.front ++ b) first.2 in
    record {
      front = w.front ++ (node, o) ∷ [];
      back = rest;
      parts = at ∙ sym (append_assoc w.front ((node, o) ∷ []) rest);
      come = step w.front o rest at;
      node = there;
      left = omega (arith, w.left, ap length first.2);
      marked = is ∙ ap (λ m. marked (reads k.kind) m) w.marked ∙
          ap (λ j. marked (reads j.kind) (marks_of (kinds_of w.front) count)) (get w.front o rest at) ∙
          marks-more (kinds_of w.front) o.kind count ∙
          ap (λ ks. marks_of ks count) (sym (map-append (λ n. n.1.kind) w.front ((node, o) ∷ [])));
    }

walked-all : (nodes : List (ℕ × Op)) (count : ℕ) (marks : List Bool) (at : Option ℕ) (index : ℕ) (w : Walked nodes count marks at index)
    → w.back ≡ [] → marks ≡ marks_of (kinds_of nodes) count
walked-all nodes count marks at index w none =
    w.marked ∙ ap (λ ns. marks_of (kinds_of ns) count) (sym (w.parts ∙ ap (λ b. w.front ++ b) none ∙ append-nil w.front))

pub walked-none : (nodes : List (ℕ × Op)) (count : ℕ) (marks : List Bool) (index : ℕ) → Walked nodes count marks None index
    → marks ≡ marks_of (kinds_of nodes) count
walked-none nodes count marks index w = walked-all nodes count marks None index w (first-none w.back w.come)

pub walked-end : (nodes : List (ℕ × Op)) (count : ℕ) (marks : List Bool) (at : Option ℕ) (index : ℕ) → Walked nodes count marks at index
    → length nodes ≤ index → marks ≡ marks_of (kinds_of nodes) count
walked-end nodes count marks at index w over =
    walked-all nodes count marks at index w (empty-list w.back (omega (arith, w.left, over)))

-- a vector behind a write to all of it
pub written-back : (n : ℕ) (xs ys : List Bool) → n ≡ length xs → length ys ≤ length xs → take n (xs ++ drop (length xs) ys) ≡ xs
written-back n xs ys is few =
    ap (λ zs. take n (xs ++ zs)) (drop_of_length-le ys few) ∙ ap (take n) (append-nil xs) ∙ take_all n xs (omega (arith, is))
