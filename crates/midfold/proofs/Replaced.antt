-- An operation on known numbers is replaced: the function may stand for the one before.
use Rattle.std.proofs.Common.{◌≡◌, ℕ, zero, suc, ◌+◌, ◌≤◌, ◌==◌, Bool, true, false, not, ◌&&◌, ◌||◌, inr, inl, List, [], ◌∷◌, ◌++◌}
use Rattle.std.proofs.Common.{length, take, reverse, Option, Some, None, refl, sym, subst, ap, ◌∙◌, arith}
use Rattle.std.proofs.Common.{slice_get, if◌then◌else◌, sum_by}
use Rattle.std.specs.List.{list_all, list_any}
use Rattle.std.proofs.Math.Seq.{take-append_seam}
use Rattle.std.proofs.lemmas.Bool.{and_parts, and_from, or_parts, or_from, eqb-true, eqb-false, true≢false}
use Rattle.std.proofs.lemmas.List.{map-append}
use Rattle.std.proofs.lemmas.List.Folds.{list_all-append, list_any-append}
use Rattle.std.proofs.lemmas.List.Sums.{sum_by-append, sum_by-cons}
use Rattle.behaviour.specs.Ran.{and_then}
use Rattle.prunum.specs.Number.{wrap, wrap_signed, sext}
use Rattle.prunum.specs.declared.width.Width.{Width}
use Rattle.prunum.specs.declared.width.Width.TheVariants.{B4}
use Rattle.midcode.specs.declared.register.VReg.{VReg}
use Rattle.midcode.specs.declared.op.Op.{Op}
use Rattle.midcode.specs.declared.op.BinaryOp.{BinaryOp}
use Rattle.midcode.specs.declared.op.Operand.{Operand}
use Rattle.midcode.specs.declared.op.Operand.TheVariants as operand
use Rattle.midcode.specs.declared.op.OpKind.{OpKind}
use Rattle.midcode.specs.declared.op.OpKind.TheVariants as op
use Rattle.midcode.specs.Operation.{is_value, reads}
use Rattle.midcode.specs.Value.{unary_value, binary_value}
use Rattle.midcode.specs.Function.{Function, kinds, kinds_of, standing, size_at, fits, IsValidFunction}
use Rattle.midcode.specs.Program.{Program, Outside, is_linked, ends_well}
use Rattle.midcode.specs.Meaning.{function_at, kinds_of_function, registers_of, width_of_size, standing_at}
use Rattle.midcode.specs.Meaning.{width_of, set, value, effect, charged}
use Rattle.midcode.specs.Machine.{State, Does, in_turn, get, onwards}
use Rattle.midcode.specs.Machine as machine
use Rattle.midcode.specs.Structure.{skeleton}
use Rattle.midcode.specs.Cost.{size, charge, multiplies, divides}
use Rattle.midcode.proofs.Valid.{valid-replaced}
use Rattle.midopt.specs.Tidy.{known}
use Rattle.midopt.specs.Weighed.{Weight, IsOfActs, run}
use Rattle.midopt.specs.Better.{IsBetterRun, IsThinner, Both, IsBetter, IsBetterFunction, placed}
use Rattle.midopt.proofs.Alike.{Alike}
use Rattle.midopt.proofs.Effects.{Places, LikeAt, Like, ops, IsEdit, set-on, set-cut-on}
use Rattle.midopt.proofs.Runs.{Serves, IsServing, Serve, serves-itself, serves-better}
use Rattle.midopt.proofs.Relation.{get-set, both-same}
use Rattle.midopt.proofs.Removed.{get-other}
use Rattle.midopt.proofs.Lists.{standing-value, standing-cons, at-value, not-last, standing-closed, skeleton-closed, get-taken}
use Rattle.midopt.proofs.Whole.{whole-edited, valid-edited}
use Rattle.midfold.specs.Folding.{width_at, cut, constant, number_at, from_one, from_two, improved_binary, improved}
use Rattle.midfold.proofs.Holds.{Holds, kept, is_inner}
use Rattle.midfold.proofs.Improved.{Fine, improved-fine}
use Rattle.midfold.proofs.Tracks.{Tracks, held-known, wrap-again}

-- ---- lists

at-cons : (i : OpKind) (ks ls : List OpKind) (l : ℕ) → standing_at ks l ≡ standing_at ls l → standing_at (i ∷ ks) l ≡ standing_at (i ∷ ls) l
at-cons i ks ls l same = by i
  where
    by : (i : OpKind) → standing_at (i ∷ ks) l ≡ standing_at (i ∷ ls) l
    by (op.Label m) = ap (λ n. if m.0 == l then 0 else 1 + n) same
    by i = ap (λ n. 1 + n) same

module _ (k j : OpKind) (was : is_value k ≡ true) (now : is_value j ≡ true) (back : List OpKind) where
  labels-replaced : (front : List OpKind) (l : ℕ) → standing_at (front ++ j ∷ back) l ≡ standing_at (front ++ k ∷ back) l
  labels-replaced [] l = at-value j back l now ∙ sym (at-value k back l was)
  labels-replaced (i ∷ front) l = at-cons i (front ++ j ∷ back) (front ++ k ∷ back) l (labels-replaced front l)

  get-replaced : (front : List OpKind) (x : ℕ) → (x == length front) ≡ false
      → slice_get (front ++ j ∷ back) x ≡ slice_get (front ++ k ∷ back) x
  get-replaced [] zero other = cc
  get-replaced [] (suc x) other = refl
  get-replaced (i ∷ front) zero other = refl
  get-replaced (i ∷ front) (suc x) other = get-replaced front x (grind (arith, other))

  take-replaced : (front : List OpKind) (x : ℕ) → standing (take x (front ++ j ∷ back)) ≡ standing (take x (front ++ k ∷ back))
  take-replaced [] zero = refl
  take-replaced [] (suc x) = standing-value j (take x back) now ∙ sym (standing-value k (take x back) was)
  take-replaced (i ∷ front) zero = refl
  take-replaced (i ∷ front) (suc x) =
      standing-cons i (take x (front ++ j ∷ back)) (take x (front ++ k ∷ back)) (take-replaced front x)

  standing-replaced : (front : List OpKind) → standing (front ++ j ∷ back) ≡ standing (front ++ k ∷ back)
  standing-replaced front = sym (standing-closed j now back front) ∙ standing-closed k was back front

  skeleton-replaced : (front : List OpKind) → skeleton (front ++ j ∷ back) ≡ skeleton (front ++ k ∷ back)
  skeleton-replaced front = sym (skeleton-closed j now back front) ∙ skeleton-closed k was back front

  size-replaced : size j ≤ size k → (front : List OpKind) → sum_by size (front ++ j ∷ back) ≤ sum_by size (front ++ k ∷ back)
  size-replaced less front =
      omega (
        arith,
        less,
        sum_by-append size front (j ∷ back),
        sum_by-append size front (k ∷ back),
        sum_by-cons size k back,
        sum_by-cons size j back,
      )

  any-replaced : (test : OpKind → Bool) → (test k ≡ false → test j ≡ false) → (front : List OpKind)
      → list_any test (front ++ k ∷ back) ≡ false → list_any test (front ++ j ∷ back) ≡ false
  any-replaced test still front none =
      let parts = or_parts (list_any test front) (test k || list_any test back) (sym (list_any-append test front (k ∷ back)) ∙ none) in
      let rest = or_parts (test k) (list_any test back) parts.1 in
      list_any-append test front (j ∷ back) ∙
      or_from (list_any test front) (test j || list_any test back) parts.0
      (or_from (test j) (list_any test back) (still rest.0) rest.1)

  all-replaced : (test : OpKind → Bool) → test j ≡ true → (front : List OpKind)
      → list_all test (front ++ k ∷ back) ≡ true → list_all test (front ++ j ∷ back) ≡ true
  all-replaced test one front all =
      let parts = and_parts (list_all test front) (test k && list_all test back) (sym (list_all-append test front (k ∷ back)) ∙ all) in
      list_all-append test front (j ∷ back) ∙
      and_from (list_all test front) (test j && list_all test back) parts.0
      (and_from (test j) (list_all test back) one (and_parts (test k) (list_all test back) parts.1).1)

  ends-replaced : (front : List OpKind) → ends_well (front ++ k ∷ back) ≡ true → ends_well (front ++ j ∷ back) ≡ true
  ends-replaced [] ends = here back ends
    where
      here : (back : List OpKind) → ends_well (k ∷ back) ≡ true → ends_well (j ∷ back) ≡ true
      here [] last = absurd (true≢false (sym (not-last k was last)))
      here (b ∷ bs) ends = ends
  ends-replaced (i ∷ []) ends = here back ends
    where
      here : (back : List OpKind) → ends_well (k ∷ back) ≡ true → ends_well (j ∷ back) ≡ true
      here [] last = absurd (true≢false (sym (not-last k was last)))
      here (b ∷ bs) ends = ends
  ends-replaced (i ∷ h ∷ front) ends = ends-replaced (h ∷ front) ends

-- ---- what both do

-- a binary operation behind its left operand
abbrev summed : Program → BinaryOp → VReg → Operand → ℕ → Does (Unit {0})
summed q o to right v = in_turn (value right) (λ w. in_turn (set q to (binary_value o v w)) (λ _. onwards))

module _ (q p : Program) (a : List ℕ) (e : Places) (edit : IsEdit q p e) (f x : ℕ) (kept-here : e.gone f x ≡ false)
    (seen : (r : ℕ) → e.unread f r ≡ false) (registers : List Width) (held : List (Option ℕ)) (s t : State) (at : LikeAt e f x s t)
    (holds : (r : VReg) (c : ℕ) → number_at held r ≡ Some c → s.frame.registers r.0 ≡ Some c)
    (width : (r : VReg) → width_of q s r ≡ width_at registers r.0) where
  abbrev Both-do : Does (Unit {0}) → Does (Unit {0}) → Type 0
  Both-do g h = Alike (Like e) (g s) (h t)

  -- a number, and the constant of it cut to the register
  sets-constant : (to : VReg) (v n : ℕ) → v ≡ n
      → Both-do (in_turn (set q to v) (λ _. onwards)) (effect p a (constant registers to n))
  sets-constant to v n same =
      set-cut-on q p a e edit f x kept-here to v (cut registers to.0 n) s t
      (ap (λ w. wrap w (cut registers to.0 n)) (width to) ∙ wrap-again (width_at registers to.0) n ∙
      ap (λ w. wrap w n) (sym (width to)) ∙ ap (wrap (width_of q s to)) (sym same)) at

  -- a number that is known is got
  knows : (r : VReg) (c : ℕ) (g : ℕ → Does (Unit {0})) (h : Does (Unit {0})) → number_at held r ≡ Some c → Both-do (g c) h
      → Both-do (in_turn (get r) g) h
  knows r c g h is on =
      subst (λ o. Alike (Like e) (and_then (machine.known o s) g) (h t)) (sym (holds r c is)) on

  one : (from to : VReg) (value : ℕ → ℕ) (o : Option ℕ) (j : OpKind) → number_at held from ≡ o → from_one registers to value o ≡ Some j
      → Both-do (in_turn (get from) (λ v. in_turn (set q to (value v)) (λ _. onwards))) (effect p a j)
  one from to value None j is made = cc
  one from to value (Some c) j is made =
      subst (λ i. Both-do (in_turn (get from) (λ v. in_turn (set q to (value v)) (λ _. onwards))) (effect p a i))
      (same (constant registers to (value c)) j made)
      (knows from c (λ v. in_turn (set q to (value v)) (λ _. onwards)) (effect p a (constant registers to (value c))) is
      (sets-constant to (value c) (value c) refl))
    where
      same : (i j : OpKind) → Some i ≡ Some j → i ≡ j
      same i j e = cc

  two : (o : BinaryOp) (to left right : VReg) (m n : Option ℕ) (j : OpKind) → number_at held left ≡ m → number_at held right ≡ n
      → from_two registers o to left right m n ≡ Some j
      → Both-do (effect q a (op.Binary o to left (operand.Register right))) (effect p a j)
  two o to left right m None j is also made = cc
  two o to left right None (Some b) j is also made =
      subst (λ i. Both-do (effect q a (op.Binary o to left (operand.Register right))) (effect p a i))
      (same (op.Binary o to left (operand.Constant b)) j made)
      (subst (λ z. Alike (Like e)
      (and_then (machine.known (s.frame.registers left.0) s) (summed q o to (operand.Register right)))
      (and_then (machine.known z t) (summed p o to (operand.Constant b)))) (sym (at.frame.registers left.0 (seen left.0)))
      (either (s.frame.registers left.0)))
    where
      same : (i j : OpKind) → Some i ≡ Some j → i ≡ j
      same i j e = cc

      either : (z : Option ℕ) → Alike (Like e) (and_then (machine.known z s) (summed q o to (operand.Register right)))
          (and_then (machine.known z t) (summed p o to (operand.Constant b)))
      either None = inl refl
      either (Some v) =
          knows right b (λ w. in_turn (set q to (binary_value o v w)) (λ _. onwards))
          (in_turn (set p to (binary_value o v b)) (λ _. onwards)) also
          (set-on q p a e edit f x kept-here to (binary_value o v b) (binary_value o v b) s t refl at)
  two o to left right (Some c) (Some b) j is also made =
      subst (λ i. Both-do (effect q a (op.Binary o to left (operand.Register right))) (effect p a i))
      (same (constant registers to (binary_value o c b)) j made)
      (knows left c (λ v. in_turn (value (operand.Register right)) (λ w. in_turn (set q to (binary_value o v w)) (λ _. onwards)))
      (effect p a (constant registers to (binary_value o c b))) is
      (knows right b (λ w. in_turn (set q to (binary_value o c w)) (λ _. onwards))
      (effect p a (constant registers to (binary_value o c b))) also
      (sets-constant to (binary_value o c b) (binary_value o c b) refl)))
    where
      same : (i j : OpKind) → Some i ≡ Some j → i ≡ j
      same i j e = cc

  widen : (to from : VReg) (o : Option ℕ) (j : OpKind) → number_at held from ≡ o
      → from_one registers to (λ v. wrap_signed B4 (sext (width_at registers from.0) v)) o ≡ Some j
      → Both-do (effect q a (op.Widen to from)) (effect p a j)
  widen to from None j is made = cc
  widen to from (Some c) j is made =
      subst (λ i. Both-do (effect q a (op.Widen to from)) (effect p a i))
      (same (constant registers to (wrap_signed B4 (sext (width_at registers from.0) c))) j made)
      (knows from c (λ v s. in_turn (set q to (wrap_signed B4 (sext (width_of q s from) v))) (λ _. onwards) s)
      (effect p a (constant registers to (wrap_signed B4 (sext (width_at registers from.0) c)))) is
      (sets-constant to (wrap_signed B4 (sext (width_of q s from) c)) (wrap_signed B4 (sext (width_at registers from.0) c))
      (ap (λ w. wrap_signed B4 (sext w c)) (width from))))
    where
      same : (i j : OpKind) → Some i ≡ Some j → i ≡ j
      same i j e = cc

  improved-does : (k j : OpKind) → improved registers held k ≡ Some j → Both-do (effect q a k) (effect p a j)
  improved-does k j made = cases k made
    where
      binary : (o : BinaryOp) (to left : VReg) (right : Operand) → improved_binary registers held o to left right ≡ Some j
          → Both-do (effect q a (op.Binary o to left right)) (effect p a j)
      binary o to left (operand.Register right) made =
          two o to left right (number_at held left) (number_at held right) j refl refl made
      binary o to left (operand.Constant b) made =
          one left to (λ v. binary_value o v b) (number_at held left) j refl made

      cases : (k : OpKind) → improved registers held k ≡ Some j → Both-do (effect q a k) (effect p a j)
      cases (op.Copy to from) made = one from to (λ v. v) (number_at held from) j refl made
      cases (op.Unary o to from) made = one from to (unary_value o) (number_at held from) j refl made
      cases (op.Binary o to left right) made = binary o to left right made
      cases (op.Widen to from) made = widen to from (number_at held from) j refl made
      cases _ made = cc

-- ---- the function

module _ (q : Program) (n : ℕ) (f : Function) (at : slice_get q.functions n ≡ Some f)
    (front back : List (ℕ × Op)) (node : ℕ) (o o' : Op) (whole : f.nodes ≡ front ++ (node, o) ∷ back)
    (held : List (Option ℕ)) (tracks : Tracks f.registers (reverse (kinds_of front)) held)
    (made : improved f.registers held o.kind ≡ Some o'.kind) where
  abbrev edited : Function
  edited = record f { nodes = front ++ (node, o') ∷ back }

  abbrev p : Program
  p = placed q n edited

  abbrev before : List OpKind
  before = kinds_of front

  abbrev behind : List OpKind
  behind = kinds_of back

  fine : Fine f.registers f.labels o.kind o'.kind
  fine = improved-fine f.registers f.labels held o.kind o'.kind made

  old-kinds : kinds f ≡ before ++ o.kind ∷ behind
  old-kinds = ap kinds_of whole ∙ map-append (λ m. m.1.kind) front ((node, o) ∷ back)

  new-kinds : kinds edited ≡ before ++ o'.kind ∷ behind
  new-kinds = map-append (λ m. m.1.kind) front ((node, o') ∷ back)

  abbrev place : ℕ
  place = length before

  abbrev places : Places
  places = record { moved = λ g x. x; gone = λ g x. false; unread = λ g r. false }

  here : (g : ℕ) → (g == n) ≡ true → (function_at q g ≡ Some f) × (function_at p g ≡ Some edited)
  here g is =
      let same = sym (eqb-true g n is) in (
        subst (λ m. function_at q m ≡ Some f) same at,
        subst (λ m. function_at p m ≡ Some edited) same (get-set q.functions n f edited at),
      )

  there : (g : ℕ) → (g == n) ≡ false → function_at p g ≡ function_at q g
  there g other = get-other q.functions n g edited (eqb-false g n other)

  old-ops : (g : ℕ) → (g == n) ≡ true → ops q g ≡ before ++ o.kind ∷ behind
  old-ops g is = ap kinds_of_function (here g is).0 ∙ old-kinds

  new-ops : (g : ℕ) → (g == n) ≡ true → ops p g ≡ before ++ o'.kind ∷ behind
  new-ops g is = ap kinds_of_function (here g is).1 ∙ new-kinds

  other-ops : (g : ℕ) → (g == n) ≡ false → ops p g ≡ ops q g
  other-ops g other = ap kinds_of_function (there g other)

  widths-by : (g : ℕ) (b : Bool) → (g == n) ≡ b → registers_of (function_at p g) ≡ registers_of (function_at q g)
  widths-by g true is = ap registers_of (here g is).1 ∙ sym (ap registers_of (here g is).0)
  widths-by g false other = ap registers_of (there g other)

  labels-by : (g l : ℕ) (b : Bool) → (g == n) ≡ b → standing_at (ops p g) l ≡ standing_at (ops q g) l
  labels-by g l true is =
      ap (λ ks. standing_at ks l) (new-ops g is) ∙ labels-replaced o.kind o'.kind fine.was fine.now behind before l ∙
      ap (λ ks. standing_at ks l) (sym (old-ops g is))
  labels-by g l false other = ap (λ ks. standing_at ks l) (other-ops g other)

  standing-by : (g x : ℕ) (b : Bool) → (g == n) ≡ b → standing (take x (ops p g)) ≡ standing (take x (ops q g))
  standing-by g x true is =
      ap (λ ks. standing (take x ks)) (new-ops g is) ∙ take-replaced o.kind o'.kind fine.was fine.now behind before x ∙
      ap (λ ks. standing (take x ks)) (sym (old-ops g is))
  standing-by g x false other = ap (λ ks. standing (take x ks)) (other-ops g other)

  edit : IsEdit q p places
  edit = record {
    widths = λ g. widths-by g (g == n) refl;
    objects = refl;
    starts = λ g. refl;
    labels = λ g l. labels-by g l (g == n) refl;
    next = λ g x kept. refl;
    apart = λ g x y kept stays. refl;
  }

  module _ (a : List ℕ) where
    abbrev Serving : ℕ → ℕ → OpKind → OpKind → Type 0
    Serving = IsServing q p a places (Holds q)

    -- what is held in the registers where the operation stands
    held-here : (g x : ℕ) → (g == n) ≡ true → x ≡ place → (s : State) → Holds q s → s.frame.function ≡ g → s.frame.place ≡ x
        → (r : VReg) (c : ℕ) → number_at held r ≡ Some c → s.frame.registers r.0 ≡ Some c
    held-here g x is stands s holds function at-place r c got =
        let seen = held-known f.registers (reverse before) held tracks r c got in
        let list : ops q s.frame.function ≡ before ++ o.kind ∷ behind = ap (ops q) function ∙ old-ops g is in
        let y : s.frame.place ≡ place = at-place ∙ stands in
        holds.frame
        (ap (λ ks. is_inner (slice_get ks s.frame.place)) list ∙ ap (λ m. is_inner (slice_get (before ++ o.kind ∷ behind) m)) y ∙
        ap is_inner (get-taken o.kind fine.was behind before) ∙ inner o.kind fine.was)
        r.0 seen.0
        (ap (λ ks. known (reverse (take s.frame.place ks)) r.0) list ∙
        ap (λ m. known (reverse (take m (before ++ o.kind ∷ behind))) r.0) y ∙
        ap (λ ks. known (reverse ks) r.0) (take-append_seam before (o.kind ∷ behind)) ∙ seen.1) ∙
        ap (λ ws. Some (cut ws r.0 seen.0)) (ap (λ h. registers_of (function_at q h)) function ∙ ap registers_of (here g is).0) ∙
        ap Some (sym seen.2)
      where
        inner : (k : OpKind) → is_value k ≡ true → is_inner (Some k) ≡ true
        inner (op.Label l) value = cc
        inner k value = refl

    serves-here : (g x : ℕ) → (g == n) ≡ true → x ≡ place → Serving g x o.kind o'.kind
    serves-here g x is stands = record {
      does = λ s t holds like.
          improved-does q p a places edit g x refl (λ r. refl) f.registers held (charged o.kind s) (charged o'.kind t) like
          (held-here g x is stands s holds like.frame.old_function like.frame.old_place)
          (λ r. ap (λ h. width_of_size
          (size_at (registers_of (function_at q h)) r)) like.frame.old_function ∙
          ap (λ z. width_of_size (size_at (registers_of z) r)) (here g is).0)
          o.kind o'.kind made;
      charge = fine.charge;
      acts = inr (fine.was, fine.now);
    }

    all-seen : (rs : List VReg) → list_all (λ r. not false) rs ≡ true
    all-seen [] = refl
    all-seen (r ∷ rs) = all-seen rs

    serves-same : (g x : ℕ) (z : Option OpKind) → Serves q p a places (Holds q) g x z z
    serves-same g x None = tt
    serves-same g x (Some k) = serves-itself q p a places (Holds q) edit g x refl k (all-seen (reads k))

    serves-by : (g x : ℕ) (b : Bool) → (g == n) ≡ b → (c : Bool) → (x == place) ≡ c
        → Serves q p a places (Holds q) g x (slice_get (ops q g) x) (slice_get (ops p g) x)
    serves-by g x true is true stands =
        let y = eqb-true x place stands in
        let old : slice_get (ops q g) x ≡ Some o.kind = ap (λ ks. slice_get ks x) (old-ops g is) ∙
        ap (slice_get (before ++ o.kind ∷ behind)) y ∙ get-taken o.kind fine.was behind before in
        let new : slice_get (ops p g) x ≡ Some o'.kind = ap (λ ks. slice_get ks x) (new-ops g is) ∙
        ap (slice_get (before ++ o'.kind ∷ behind)) y ∙ get-taken o'.kind fine.now behind before in
        subst (λ z. Serves q p a places (Holds q) g x z (slice_get (ops p g) x)) (sym old)
        (subst (λ z. Serves q p a places (Holds q) g x (Some o.kind) z) (sym new) (serves-here g x is y))
    serves-by g x true is false other =
        subst (λ z. Serves q p a places (Holds q) g x (slice_get (ops q g) x) z)
        (sym (ap (λ ks. slice_get ks x) (new-ops g is) ∙ get-replaced o.kind o'.kind fine.was fine.now behind before x other ∙
        ap (λ ks. slice_get ks x) (sym (old-ops g is)))) (serves-same g x (slice_get (ops q g) x))
    serves-by g x false is c stands =
        subst (λ z. Serves q p a places (Holds q) g x (slice_get (ops q g) x) z) (sym (ap (λ ks. slice_get ks x) (other-ops g is)))
        (serves-same g x (slice_get (ops q g) x))

    serve : Serve q p a places (Holds q)
    serve = record {
      edit = edit;
      main = refl;
      inv = kept q a;
      served = λ g x stays. serves-by g x (g == n) refl (x == place) refl;
      idle = λ g x gone. absurd (true≢false (sym gone));
      standing = λ g x stays. standing-by g x (g == n) refl;
    }

    replaced-runs : (w : Weight) → IsOfActs w → (values : List ℕ) → IsBetterRun (run w q a values) (run w p a values)
    replaced-runs w acts values = serves-better q p a places (Holds q) serve w acts values

  thinner : IsThinner f edited
  thinner = record {
    signature = refl;
    registers = refl;
    labels = refl;
    acts = ap skeleton new-kinds ∙ skeleton-replaced o.kind o'.kind fine.was fine.now behind before ∙ ap skeleton (sym old-kinds);
    size =
        let less = size-replaced o.kind o'.kind fine.was fine.now behind fine.size before in
        let old = ap (sum_by size) old-kinds in
        let new = ap (sum_by size) new-kinds in
        omega (arith, less, old, new);
    multiplies = λ none.
        ap (list_any multiplies) new-kinds ∙
        any-replaced o.kind o'.kind fine.was fine.now behind multiplies fine.multiplies before
        (ap (list_any multiplies) (sym old-kinds) ∙ none);
    divides = λ none.
        ap (list_any divides) new-kinds ∙
        any-replaced o.kind o'.kind fine.was fine.now behind divides fine.divides before
        (ap (list_any divides) (sym old-kinds) ∙ none);
  }

  functions-by : (g : ℕ) (b : Bool) → (g == n) ≡ b → Both (slice_get q.functions g) (slice_get p.functions g)
  functions-by g true is =
      subst (λ z. Both z (function_at p g)) (sym (here g is).0) (subst (λ z. Both (Some f) z) (sym (here g is).1) thinner)
  functions-by g false other = subst (λ z. Both (function_at q g) z) (sym (there g other)) (both-same (function_at q g))

  -- ---- validity

  standing-same : standing (kinds edited) ≡ standing (kinds f)
  standing-same =
      ap standing new-kinds ∙ standing-replaced o.kind o'.kind fine.was fine.now behind before ∙ ap standing (sym old-kinds)

  linked : (u : Outside) → list_all (is_linked u f) (kinds f) ≡ true → list_all (is_linked u f) (kinds edited) ≡ true
  linked u all =
      ap (list_all (is_linked u f)) new-kinds ∙
      all-replaced o.kind o'.kind fine.was fine.now behind (is_linked u f) (fine.linked f u) before
      (ap (list_all (is_linked u f)) (sym old-kinds) ∙ all)

  ends : ends_well (kinds f) ≡ true → ends_well (kinds edited) ≡ true
  ends good =
      ap ends_well new-kinds ∙ ends-replaced o.kind o'.kind fine.was fine.now behind before (ap ends_well (sym old-kinds) ∙ good)

  own-fit : IsValidFunction f → fits f.registers f.labels o'.kind ≡ true
  own-fit valid =
      let all = ap (list_all (fits f.registers f.labels)) (sym old-kinds) ∙ valid.fit in
      let parts = and_parts (list_all (fits f.registers f.labels) before)
      (fits f.registers f.labels o.kind && list_all (fits f.registers f.labels) behind)
      (sym (list_all-append (fits f.registers f.labels) before (o.kind ∷ behind)) ∙ all) in
      fine.fit (and_parts (fits f.registers f.labels o.kind) (list_all (fits f.registers f.labels) behind) parts.1).0

  still-valid : IsValidFunction f → IsValidFunction (record f { nodes = front ++ (node, o') ∷ back })
  still-valid valid = valid-replaced f front back node o o' whole valid fine.was fine.now (own-fit valid)

  replaced-better : IsBetter q p
  replaced-better = record {
    objects = refl;
    regions = refl;
    main = refl;
    functions = λ g. functions-by g (g == n) refl;
    valid = λ valid. valid-edited f (front ++ (node, o') ∷ back) standing-same thinner.acts linked ends q n at still-valid valid;
    whole = λ was. whole-edited f (front ++ (node, o') ∷ back) standing-same thinner.acts linked ends q n at was;
    runs = λ w a values acts. replaced-runs a w acts values;
  }

-- The function with an operation on known numbers replaced may stand for the one before.
pub replaced-function : (f : Function) (front back : List (ℕ × Op)) (node : ℕ) (o o' : Op) → f.nodes ≡ front ++ (node, o) ∷ back
    → (held : List (Option ℕ)) → Tracks f.registers (reverse (kinds_of front)) held → improved f.registers held o.kind ≡ Some o'.kind
    → IsBetterFunction f (record f { nodes = front ++ (node, o') ∷ back })
replaced-function f front back node o o' whole held tracks made = record {
  everywhere = λ q n at. replaced-better q n f at front back node o o' whole held tracks made;
}
