-- Counting how often registers are read, while operations are added and taken out.
use Rattle.std.proofs.Common.{◌≡◌, ℕ, zero, suc, ◌+◌, ◌-◌, ◌<◌, ◌≤◌, ◌==◌, Bool, true, false, not, ◌||◌, List, [], ◌∷◌, ◌++◌}
use Rattle.std.proofs.Common.{length, Option, Some, None, refl, sym, subst, ap, ◌∙◌, arith, slice_set}
use Rattle.std.proofs.Common.{append-nil, append_assoc, length-append, nat_lt, if◌then◌else◌, take, drop, drop_of_length-le}
use Rattle.std.specs.Prelude.{IfSome}
use Rattle.std.specs.List.{list_any}
use Rattle.std.proofs.lemmas.Bool.{and_parts, and_from, or_from, eqb-true}
use Rattle.std.proofs.lemmas.List.{map-append, take_all}
use Rattle.linkarena.specs.Lists.{first_id}
use Rattle.linkarena.specs.Lists as arena
use Rattle.midcode.specs.declared.register.VReg.{VReg}
use Rattle.midcode.specs.declared.op.Op.{Op}
use Rattle.midcode.specs.declared.op.OpKind.{OpKind}
use Rattle.midcode.specs.Operation.{reads, writes, is_value}
use Rattle.midcode.specs.Function.{Function, kinds, kinds_of, IsNode, AtNode}
use Rattle.midopt.specs.Better.{IsBetterFunction}
use Rattle.midopt.specs.Tidy.{is_register, are_reading, is_unread, is_idle, IsFolded}
use Rattle.midopt.specs.Marks.{value_to}
use Rattle.midopt.proofs.FoldedLemmas.{removed-folded}
use Rattle.midopt.proofs.MarkLemmas.{first-some, first-none, empty-list}
use Rattle.midopt.proofs.Relation.{function-same, function-more}
use Rattle.midopt.proofs.Removed.{removed-function}
use Rattle.midfold.specs.declared.unread.Change.{Change}
use Rattle.midfold.specs.declared.unread.Change.TheVariants.{Raise, Lower}
use Rattle.midfold.specs.Uses.{most, changed, count_at, changed_all, times, uses, Covers, is_uncounted}

-- ---- counts

pub changed-append : (change : Change) (rs ss : List VReg) (counts : List ℕ)
    → changed_all change (rs ++ ss) counts ≡ changed_all change ss (changed_all change rs counts)
changed-append change [] ss counts = refl
changed-append change (r ∷ rs) ss counts =
    changed-append change rs ss (slice_set counts r.0 (changed change (count_at counts r.0)))

pub set-past : (l : List ℕ) (i n : ℕ) → length l ≤ i → slice_set l i n ≡ l
set-past [] i n past = refl
set-past (x ∷ l) zero n past = absurd (omega (arith, past))
set-past (x ∷ l) (suc i) n past = ap (λ m. x ∷ m) (set-past l i n (omega (arith, past)))

-- a count behind a change at one place
at-set : (l : List ℕ) (i r n : ℕ) → count_at (slice_set l i n) r < most
    → count_at (slice_set l i n) r ≡ (if i == r then n else count_at l r)
at-set [] i r n less = absurd (omega (arith, less))
at-set (x ∷ l) zero zero n less = refl
at-set (x ∷ l) zero (suc r) n less =
    ap (λ b. if b then n else count_at l r) (let e : (zero == suc r) ≡ false = grind arith in sym e)
at-set (x ∷ l) (suc i) zero n less = ap (λ b. if b then n else x) (let e : (suc i == zero) ≡ false = grind arith in sym e)
at-set (x ∷ l) (suc i) (suc r) n less =
    at-set l i r n less ∙ ap (λ b. if b then n else count_at l r) (let e : (suc i == suc r) ≡ (i == r) = grind arith in sym e)

covers-less : (u v : ℕ → ℕ) (counts : List ℕ) → ((r : ℕ) → v r ≤ u r) → Covers u counts → Covers v counts
covers-less u v counts less covers r few = let a = less r in let b = covers r few in omega (arith, a, b)

raise-one : (u : ℕ → ℕ) (v : VReg) (counts : List ℕ) → Covers u counts
    → Covers (λ r. u r + (if v.0 == r then 1 else 0)) (slice_set counts v.0 (changed Raise (count_at counts v.0)))
raise-one u v counts covers r few = by (v.0 == r) refl (at-set counts v.0 r (changed Raise (count_at counts v.0)) few)
  where
    new : ℕ
    new = count_at (slice_set counts v.0 (changed Raise (count_at counts v.0))) r

    raised : (n : ℕ) → v.0 ≡ r → n ≡ count_at counts v.0 → (b : Bool) → nat_lt n most ≡ b → new ≡ (if b then n + 1 else n) → u r + 1 ≤ new
    raised n same is true below e =
        let c = covers r (subst (λ m. count_at counts m < most) same (grind (arith, below, is))) in
        let d = ap (count_at counts) same in
        omega (arith, c, d, e, is)
    raised n same is false below e = absurd (high (grind (arith, below)))
      where
        high : most ≤ n → ⊥
        high past = omega (arith, past, e, few)

    by : (b : Bool) → (v.0 == r) ≡ b → new ≡ (if b then changed Raise (count_at counts v.0) else count_at counts r)
        → u r + (if b then 1 else 0) ≤ new
    by true is e =
        raised (count_at counts v.0) (eqb-true v.0 r is) refl (nat_lt (count_at counts v.0) most) refl e
    by false is e = let c = covers r (omega (arith, e, few)) in omega (arith, c, e)

lower-one : (u : ℕ → ℕ) (v : VReg) (counts : List ℕ) → Covers (λ r. u r + (if v.0 == r then 1 else 0)) counts
    → Covers u (slice_set counts v.0 (changed Lower (count_at counts v.0)))
lower-one u v counts covers r few = by (v.0 == r) refl (at-set counts v.0 r (changed Lower (count_at counts v.0)) few) (covers r)
  where
    new : ℕ
    new = count_at (slice_set counts v.0 (changed Lower (count_at counts v.0))) r

    lowered : (n : ℕ) → v.0 ≡ r → n ≡ count_at counts v.0 → (b : Bool) → nat_lt n most ≡ b → new ≡ (if b then n - 1 else n)
        → (count_at counts r < most → u r + 1 ≤ count_at counts r) → u r ≤ new
    lowered n same is true below e was =
        let c = was (subst (λ m. count_at counts m < most) same (grind (arith, below, is))) in
        let d = ap (count_at counts) same in
        omega (arith, c, d, e, is)
    lowered n same is false below e was = absurd (high (grind (arith, below)))
      where
        high : most ≤ n → ⊥
        high past = omega (arith, past, e, few)

    by : (b : Bool) → (v.0 == r) ≡ b → new ≡ (if b then changed Lower (count_at counts v.0) else count_at counts r)
        → (count_at counts r < most → u r + (if b then 1 else 0) ≤ count_at counts r) → u r ≤ new
    by true is e was =
        lowered (count_at counts v.0) (eqb-true v.0 r is) refl (nat_lt (count_at counts v.0) most) refl e was
    by false is e was = let c = was (omega (arith, e, few)) in omega (arith, c, e)

raise-all : (rs : List VReg) (u : ℕ → ℕ) (counts : List ℕ) → Covers u counts
    → Covers (λ r. u r + times r rs) (changed_all Raise rs counts)
raise-all [] u counts covers = covers-less u (λ r. u r + 0) counts (λ r. omega arith) covers
raise-all (v ∷ rs) u counts covers =
    let next = slice_set counts v.0 (changed Raise (count_at counts v.0)) in
    covers-less (λ r. u r + (if v.0 == r then 1 else 0) + times r rs) (λ r. u r + ((if v.0 == r then 1 else 0) + times r rs))
    (changed_all Raise rs next) (λ r. omega arith)
    (raise-all rs (λ r. u r + (if v.0 == r then 1 else 0)) next (raise-one u v counts covers))

lower-all : (rs : List VReg) (u : ℕ → ℕ) (counts : List ℕ) → Covers (λ r. u r + times r rs) counts
    → Covers u (changed_all Lower rs counts)
lower-all [] u counts covers = covers-less (λ r. u r + 0) u counts (λ r. omega arith) covers
lower-all (v ∷ rs) u counts covers =
    let next = slice_set counts v.0 (changed Lower (count_at counts v.0)) in
    lower-all rs u next
    (lower-one (λ r. u r + times r rs) v counts
    (covers-less (λ r. u r + ((if v.0 == r then 1 else 0) + times r rs)) (λ r. u r + times r rs + (if v.0 == r then 1 else 0)) counts
    (λ r. omega arith) covers))

-- ---- uses

uses-append : (ks ls : List OpKind) (r : ℕ) → uses (ks ++ ls) r ≡ uses ks r + uses ls r
uses-append [] ls r = omega arith
uses-append (k ∷ ks) ls r = let e = uses-append ks ls r in omega (arith, e)

none-among : (r : ℕ) (rs : List VReg) → times r rs ≤ 0 → list_any (is_register r) rs ≡ false
none-among r [] few = refl
none-among r (v ∷ rs) few = by (v.0 == r) refl few (λ less. none-among r rs less)
  where
    by : (b : Bool) → (v.0 == r) ≡ b → (if b then 1 else 0) + times r rs ≤ 0
        → (times r rs ≤ 0 → list_any (is_register r) rs ≡ false) → ((v.0 == r) || list_any (is_register r) rs) ≡ false
    by true is few rest = absurd (omega (arith, few))
    by false is few rest = or_from (v.0 == r) (list_any (is_register r) rs) is (rest (omega (arith, few)))

unused : (ks : List OpKind) (r : ℕ) → uses ks r ≤ 0 → are_reading ks r ≡ false
unused [] r few = refl
unused (k ∷ ks) r few =
    or_from (list_any (is_register r) (reads k)) (are_reading ks r) (none-among r (reads k) (omega (arith, few)))
    (unused ks r (omega (arith, few)))

-- A register that was counted never is read by none.
uncounted-idle : (ks : List OpKind) (counts : List ℕ) (k : OpKind) → Covers (uses ks) counts → is_uncounted counts (value_to k) ≡ true
    → is_idle ks k ≡ true
uncounted-idle ks counts k covers un = by (is_value k) refl un
  where
    free : (o : Option VReg) → is_uncounted counts o ≡ true → is_unread ks o ≡ true
    free None un = cc
    free (Some r) un =
        let none = eqb-true (count_at counts r.0) 0 un in
        let few = covers r.0 (omega (arith, none)) in
        ap not (unused ks r.0 (omega (arith, few, none)))

    by : (b : Bool) → is_value k ≡ b → is_uncounted counts (if b then writes k else None) ≡ true → is_idle ks k ≡ true
    by true value un = and_from (is_value k) (is_unread ks (writes k)) value (free (writes k) un)
    by false value un = cc

-- ---- walking over the operations

pub covers-none : (u : ℕ → ℕ) (counts : List ℕ) → ((r : ℕ) → u r ≡ 0) → Covers u counts
covers-none u counts none r few = let z = none r in omega (arith, z)

pub record Counted (nodes : List (ℕ × Op)) (counts : List ℕ) (at : Option ℕ) (index : ℕ) : Type 0 where
  pub front : List (ℕ × Op)
  pub back : List (ℕ × Op)
  pub parts : nodes ≡ front ++ back
  pub come : at ≡ first_id back
  pub node : IfSome at (IsNode nodes)
  pub left : index + length back ≡ length nodes
  pub covers : Covers (uses (kinds_of front)) counts

pub counted-first : (nodes : List (ℕ × Op)) (counts : List ℕ) (at : Option ℕ) → at ≡ first_id nodes → IfSome at (IsNode nodes)
    → Counted nodes counts at 0
counted-first nodes counts at is node = record {
  front = [];
  back = nodes;
  parts = refl;
  come = is;
  node = node;
  left = omega arith;
  covers = covers-none (uses []) counts (λ r. refl);
}

pub counted-next : (nodes : List (ℕ × Op)) (counts more : List ℕ) (node : ℕ) (index : ℕ) (k : Op) (next : Option ℕ)
    → Counted nodes counts (Some node) index → AtNode nodes node (λ _ o _. k ≡ o) → more ≡ changed_all Raise (reads k.kind) counts
    → AtNode nodes node (λ _ _ back. next ≡ first_id back) → IfSome next (IsNode nodes) → Counted nodes more next (index + 1)
counted-next nodes counts more node index k next w get is step there =
    let first = first-some w.back node w.come in
    let o = first.0 in
    let rest = first.1 in
    let at : nodes ≡ w.front ++ (node, o) ∷ rest = w.parts ∙ ap (λ b. w.front ++ b) first.2 in
    record {
      front = w.front ++ (node, o) ∷ [];
      back = rest;
      parts = at ∙ sym (append_assoc w.front ((node, o) ∷ []) rest);
      come = step w.front o rest at;
      node = there;
      left = omega (arith, w.left, ap length first.2);
      covers =
          subst (Covers (uses (kinds_of (w.front ++ (node, o) ∷ []))))
          (sym (is ∙ ap (λ j. changed_all Raise (reads j.kind) counts) (get w.front o rest at)))
          (covers-less (λ r. uses (kinds_of w.front) r + times r (reads o.kind)) (uses (kinds_of (w.front ++ (node, o) ∷ [])))
          (changed_all Raise (reads o.kind) counts)
          (λ r. let e = ap (λ ks. uses ks r) (map-append (λ n. n.1.kind) w.front ((node, o) ∷ [])) in
          let g = uses-append (kinds_of w.front) (o.kind ∷ []) r in omega (arith, e, g))
          (raise-all (reads o.kind) (uses (kinds_of w.front)) counts w.covers));
    }

counted-all : (nodes : List (ℕ × Op)) (counts : List ℕ) (at : Option ℕ) (index : ℕ) (w : Counted nodes counts at index) → w.back ≡ []
    → Covers (uses (kinds_of nodes)) counts
counted-all nodes counts at index w none =
    subst (λ ns. Covers (uses (kinds_of ns)) counts) (sym (w.parts ∙ ap (λ b. w.front ++ b) none ∙ append-nil w.front)) w.covers

pub counted-none : (nodes : List (ℕ × Op)) (counts : List ℕ) (index : ℕ) → Counted nodes counts None index
    → Covers (uses (kinds_of nodes)) counts
counted-none nodes counts index w = counted-all nodes counts None index w (first-none w.back w.come)

pub counted-end : (nodes : List (ℕ × Op)) (counts : List ℕ) (at : Option ℕ) (index : ℕ) → Counted nodes counts at index
    → length nodes ≤ index → Covers (uses (kinds_of nodes)) counts
counted-end nodes counts at index w over =
    counted-all nodes counts at index w (empty-list w.back (omega (arith, w.left, over)))

-- ---- nodes

-- a live node of the arena's one list
pub live-node : (nodes : List (ℕ × Op)) (node : ℕ) → arena.IsLive (nodes ∷ []) node → IsNode nodes node
live-node nodes node live = by live.list live.stands.at
  where
    by : (list : ℕ) → arena.list_at (nodes ∷ []) list ≡ live.front ++ (node, live.value) ∷ live.back → IsNode nodes node
    by zero at = record { front = live.front; op = live.value; back = live.back; at = at }
    by (suc n) at = absurd (empty live.front at)
      where
        empty : (front : List (ℕ × Op)) → [] ≡ front ++ (node, live.value) ∷ live.back → ⊥
        empty [] e = cc
        empty (x ∷ front) e = cc

-- ---- taking out

pub record Drained (old now : Function) (counts : List ℕ) : Type 0 where
  pub better : IsBetterFunction old now
  pub folded : IsFolded (kinds old) → IsFolded (kinds now)
  pub covers : Covers (uses (kinds now)) counts

pub drained-first : (f : Function) (counts : List ℕ) → Covers (uses (kinds f)) counts → Drained f f counts
drained-first f counts covers = record { better = function-same f; folded = λ h. h; covers = covers }

module _ (old now : Function) (counts : List ℕ) (node : ℕ) (w : Drained old now counts) (n : IsNode now.nodes node)
    (un : AtNode now.nodes node (λ _ o _. is_uncounted counts (value_to o.kind) ≡ true)) where
  idle-at : (front : List (ℕ × Op)) (o : Op) (back : List (ℕ × Op)) → now.nodes ≡ front ++ (node, o) ∷ back
      → is_idle (kinds now) o.kind ≡ true
  idle-at front o back at = uncounted-idle (kinds now) counts o.kind w.covers (un front o back at)

  pub may-go : AtNode now.nodes node (λ _ o _. is_value o.kind ≡ true)
  may-go front o back at =
      (and_parts (is_value o.kind) (is_unread (kinds now) (writes o.kind)) (idle-at front o back at)).0

  pub fewer : (next : Function) → AtNode now.nodes node (λ front _ back. next ≡ record now { nodes = front ++ back })
      → length next.nodes < length now.nodes
  fewer next is =
      let e = ap (λ f. length f.nodes) (is n.front n.op n.back n.at) in
      omega (arith, e, length-append n.front n.back, length-append n.front ((node, n.op) ∷ n.back), ap length n.at)

  pub drained-next : (next : Function) → AtNode now.nodes node (λ front _ back. next ≡ record now { nodes = front ++ back })
      → (k : Op) → AtNode now.nodes node (λ _ o _. k ≡ o) → (lower : List ℕ) → lower ≡ changed_all Lower (reads k.kind) counts
      → Drained old next lower
  drained-next next is k get lower to =
      let o = n.op in
      let old-kinds : kinds now ≡ kinds_of n.front ++ o.kind ∷ kinds_of n.back =
      ap kinds_of n.at ∙ map-append (λ m. m.1.kind) n.front ((node, o) ∷ n.back) in
      let new-kinds : kinds_of (n.front ++ n.back) ≡ kinds_of n.front ++ kinds_of n.back =
      map-append (λ m. m.1.kind) n.front n.back in
      let idle = idle-at n.front o n.back n.at in
      subst (λ f. Drained old f lower) (sym (is n.front o n.back n.at)) (record {
        better = function-more old now (record now { nodes = n.front ++ n.back }) w.better
            (removed-function now n.front n.back node o n.at idle);
        folded = λ h.
            subst IsFolded (sym new-kinds)
            (removed-folded (kinds_of n.front) o.kind (kinds_of n.back) (ap (λ ks. is_idle ks o.kind) (sym old-kinds) ∙ idle)
            (subst IsFolded old-kinds (w.folded h)));
        covers =
            subst (Covers (uses (kinds_of (n.front ++ n.back))))
            (sym (to ∙ ap (λ j. changed_all Lower (reads j.kind) counts) (get n.front o n.back n.at)))
            (lower-all (reads o.kind) (uses (kinds_of (n.front ++ n.back))) counts
            (covers-less (uses (kinds now)) (λ r. uses (kinds_of (n.front ++ n.back)) r + times r (reads o.kind)) counts
            (λ r. let e = ap (λ ks. uses ks r) old-kinds in let g = ap (λ ks. uses ks r) new-kinds in
            let i = uses-append (kinds_of n.front) (o.kind ∷ kinds_of n.back) r in
            let j = uses-append (kinds_of n.front) (kinds_of n.back) r in omega (arith, e, g, i, j))
            w.covers));
      })

-- a vector behind a write to all of it
pub written-back : (n : ℕ) (xs ys : List ℕ) → n ≡ length xs → length ys ≤ length xs → take n (xs ++ drop (length xs) ys) ≡ xs
written-back n xs ys is few =
    ap (λ zs. take n (xs ++ zs)) (drop_of_length-le ys few) ∙ ap (take n) (append-nil xs) ∙ take_all n xs (omega (arith, is))

-- what is found of a live node
pub idle-here : (nodes : List (ℕ × Op)) (counts : List ℕ) (node : ℕ) (k : Op) (r : Option VReg) (b : Bool)
    → AtNode nodes node (λ _ o _. k ≡ o) → r ≡ value_to k.kind → b ≡ is_uncounted counts r → b ≡ true
    → AtNode nodes node (λ _ o _. is_uncounted counts (value_to o.kind) ≡ true)
idle-here nodes counts node k r b get is tested h front o back at =
    ap (λ j. is_uncounted counts (value_to j.kind)) (sym (get front o back at)) ∙ ap (is_uncounted counts) (sym is) ∙ sym tested ∙ h
