-- Regions are plain and straight as they were in a program that another may stand for: both go by the operations that do more than
-- compute a value.
use Rattle.std.proofs.Common.{◌≡◌, ℕ, zero, suc, ◌==◌, Bool, true, false, ◌&&◌, List, [], ◌∷◌, length, Option, Some, None}
use Rattle.std.proofs.Common.{refl, sym, ap, ◌∙◌, slice_get, if◌then◌else◌}
use Rattle.std.specs.List.{list_all}
use Rattle.midcode.specs.declared.op.Mark.TheVariants as mark
use Rattle.midcode.specs.declared.op.OpKind.{OpKind}
use Rattle.midcode.specs.declared.op.OpKind.TheVariants as op
use Rattle.midcode.specs.Operation.{is_value}
use Rattle.midcode.specs.Function.{Function, kinds}
use Rattle.midcode.specs.Program.{Program}
use Rattle.midcode.specs.Structure.{skeleton}
use Rattle.midcode.specs.Meaning.{function_at, kinds_of_function}
use Rattle.midcode.specs.Region.{is_plain_op, is_straight_op, are_all, is_function_so}
use Rattle.midcode.specs.Region.{up_to_leave, inside_of, is_region_so, is_plain, is_straight}
use Rattle.midopt.specs.Better.{Both, IsBetter}

abbrev Test : Type 0
Test = (ℕ → Bool) → List ℕ → OpKind → Bool

-- it asks nothing of values, and of functions only what is said of them
record IsOfSolids (test : Test) : Type 0 where
  values : (g : ℕ → Bool) (before : List ℕ) (k : OpKind) → is_value k ≡ true → test g before k ≡ true
  same : (g h : ℕ → Bool) → ((f : ℕ) → g f ≡ h f) → (before : List ℕ) (k : OpKind) → test g before k ≡ test h before k

plain-values : (g : ℕ → Bool) (before : List ℕ) (k : OpKind) → is_value k ≡ true → is_plain_op g before k ≡ true
plain-values g before (op.Call function arguments to) value = cc
plain-values g before (op.Read to b offset own) value = cc
plain-values g before (op.Write b offset from width own) value = cc
plain-values g before (op.Jump l) value = cc
plain-values g before (op.Branch left t right to turns) value = cc
plain-values g before op.Halt value = cc
plain-values g before k value = refl

plain-same : (g h : ℕ → Bool) → ((f : ℕ) → g f ≡ h f) → (before : List ℕ) (k : OpKind) → is_plain_op g before k ≡ is_plain_op h before k
plain-same g h alike before (op.Call function arguments to) = alike function
plain-same g h alike before k = refl

plain-test : IsOfSolids is_plain_op
plain-test = record { values = plain-values; same = plain-same }

straight-values : (g : ℕ → Bool) (before : List ℕ) (k : OpKind) → is_value k ≡ true → is_straight_op g before k ≡ true
straight-values g before (op.Branch left t right to turns) value = cc
straight-values g before k value = plain-values g before k value

straight-same : (g h : ℕ → Bool) → ((f : ℕ) → g f ≡ h f) → (before : List ℕ) (k : OpKind)
    → is_straight_op g before k ≡ is_straight_op h before k
straight-same g h alike before (op.Branch left t right to turns) = refl
straight-same g h alike before k = plain-same g h alike before k

straight-test : IsOfSolids is_straight_op
straight-test = record { values = straight-values; same = straight-same }

-- ---- lists

up-skeleton : (region : ℕ) (ks : List OpKind) → skeleton (up_to_leave region ks) ≡ up_to_leave region (skeleton ks)
up-skeleton region [] = refl
up-skeleton region (k ∷ ks) = by k (up-skeleton region ks)
  where
    either : (r : ℕ) (b : Bool) → skeleton (up_to_leave region ks) ≡ up_to_leave region (skeleton ks)
        → skeleton (if b then [] else op.Mark (mark.Leave r) ∷ up_to_leave region ks)
        ≡ (if b then [] else op.Mark (mark.Leave r) ∷ up_to_leave region (skeleton ks))
    either r true ih = refl
    either r false ih = ap (λ l. op.Mark (mark.Leave r) ∷ l) ih

    by : (k : OpKind) → skeleton (up_to_leave region ks) ≡ up_to_leave region (skeleton ks)
        → skeleton (up_to_leave region (k ∷ ks)) ≡ up_to_leave region (skeleton (k ∷ ks))
    by (op.Constant to n) ih = ih
    by (op.Address to object offset) ih = ih
    by (op.Copy to from) ih = ih
    by (op.Unary o to from) ih = ih
    by (op.Binary o to left right) ih = ih
    by (op.Widen to from) ih = ih
    by (op.Load to b offset) ih = ih
    by (op.Mark (mark.Leave r)) ih = either r (r == region) ih
    by (op.Mark (mark.Enter r)) ih = ap (λ l. op.Mark (mark.Enter r) ∷ l) ih
    by k ih = ap (λ l. k ∷ l) ih

inside-skeleton : (region : ℕ) (ks : List OpKind) → skeleton (inside_of region ks) ≡ inside_of region (skeleton ks)
inside-skeleton region [] = refl
inside-skeleton region (k ∷ ks) = by k (inside-skeleton region ks)
  where
    either : (b : Bool) → skeleton (inside_of region ks) ≡ inside_of region (skeleton ks)
        → skeleton (if b then up_to_leave region ks else inside_of region ks)
        ≡ (if b then up_to_leave region (skeleton ks) else inside_of region (skeleton ks))
    either true ih = up-skeleton region ks
    either false ih = ih

    by : (k : OpKind) → skeleton (inside_of region ks) ≡ inside_of region (skeleton ks)
        → skeleton (inside_of region (k ∷ ks)) ≡ inside_of region (skeleton (k ∷ ks))
    by (op.Mark (mark.Enter r)) ih = either (r == region) ih
    by (op.Mark (mark.Leave r)) ih = ih
    by k ih = ih

module _ (test : Test) (of : IsOfSolids test) where
  skeleton-all : (g : ℕ → Bool) (ks : List OpKind) (before : List ℕ)
      → are_all (test g) before (skeleton ks) ≡ are_all (test g) before ks
  skeleton-all g [] before = refl
  skeleton-all g (k ∷ ks) before = by k (λ b. skeleton-all g ks b)
    where
      value : (k : OpKind) → is_value k ≡ true → are_all (test g) before (skeleton ks) ≡ are_all (test g) before ks
          → are_all (test g) before (skeleton ks) ≡ (test g before k && are_all (test g) before ks)
      value k is ih = ih ∙ sym (ap (λ b. b && are_all (test g) before ks) (of.values g before k is))

      by : (k : OpKind) → ((b : List ℕ) → are_all (test g) b (skeleton ks) ≡ are_all (test g) b ks)
          → are_all (test g) before (skeleton (k ∷ ks)) ≡ are_all (test g) before (k ∷ ks)
      by (op.Constant to n) ih = value (op.Constant to n) refl (ih before)
      by (op.Address to object offset) ih = value (op.Address to object offset) refl (ih before)
      by (op.Copy to from) ih = value (op.Copy to from) refl (ih before)
      by (op.Unary o to from) ih = value (op.Unary o to from) refl (ih before)
      by (op.Binary o to left right) ih = value (op.Binary o to left right) refl (ih before)
      by (op.Widen to from) ih = value (op.Widen to from) refl (ih before)
      by (op.Load to b offset) ih = value (op.Load to b offset) refl (ih before)
      by (op.Label l) ih = ih (l.0 ∷ before)
      by k ih = ap (λ b. test g before k && b) (ih before)

  all-same : (g h : ℕ → Bool) → ((f : ℕ) → g f ≡ h f) → (ks : List OpKind) (before : List ℕ)
      → are_all (test g) before ks ≡ are_all (test h) before ks
  all-same g h alike [] before = refl
  all-same g h alike (k ∷ ks) before = by k (λ b. all-same g h alike ks b)
    where
      by : (k : OpKind) → ((b : List ℕ) → are_all (test g) b ks ≡ are_all (test h) b ks)
          → are_all (test g) before (k ∷ ks) ≡ are_all (test h) before (k ∷ ks)
      by (op.Label l) ih = ih (l.0 ∷ before)
      by k ih =
          ap (λ b. b && are_all (test g) before ks) (of.same g h alike before k) ∙ ap (λ b. test h before k && b) (ih before)

  -- operations with the same ones beside values
  acts-same : (g h : ℕ → Bool) → ((f : ℕ) → g f ≡ h f) → (ks ls : List OpKind) → skeleton ls ≡ skeleton ks
      → are_all (test g) [] ls ≡ are_all (test h) [] ks
  acts-same g h alike ks ls acts =
      all-same g h alike ls [] ∙ sym (skeleton-all h ls []) ∙ ap (are_all (test h) []) acts ∙ skeleton-all h ks []

  module _ (q p : Program) (better : IsBetter q p) where
    ops-same : (f : ℕ) → skeleton (kinds_of_function (function_at p f)) ≡ skeleton (kinds_of_function (function_at q f))
    ops-same f = by (function_at q f) (function_at p f) (better.functions f)
      where
        by : (a b : Option Function) → Both a b → skeleton (kinds_of_function b) ≡ skeleton (kinds_of_function a)
        by None None both = refl
        by (Some a) (Some b) both = both.acts
        by None (Some b) both = absurd both
        by (Some a) None both = absurd both

    function-same : (n f : ℕ) → is_function_so test p n f ≡ is_function_so test q n f
    function-same zero f = refl
    function-same (suc n) f =
        acts-same (is_function_so test p n) (is_function_so test q n) (λ f. function-same n f)
        (kinds_of_function (function_at q f)) (kinds_of_function (function_at p f)) (ops-same f)

    length-same : (fs gs : List Function) → ((i : ℕ) → Both (slice_get fs i) (slice_get gs i)) → length gs ≡ length fs
    length-same [] [] both = refl
    length-same (f ∷ fs) (g ∷ gs) both = ap suc (length-same fs gs (λ i. both (suc i)))
    length-same [] (g ∷ gs) both = absurd (both zero)
    length-same (f ∷ fs) [] both = absurd (both zero)

    each-same : (region n : ℕ) (fs gs : List Function) → ((i : ℕ) → Both (slice_get fs i) (slice_get gs i))
        → list_all (λ f. are_all (test (is_function_so test p n)) [] (inside_of region (kinds f))) gs
        ≡ list_all (λ f. are_all (test (is_function_so test q n)) [] (inside_of region (kinds f))) fs
    each-same region n [] [] both = refl
    each-same region n (f ∷ fs) (g ∷ gs) both =
        let first = acts-same (is_function_so test p n) (is_function_so test q n) (function-same n)
        (inside_of region (kinds f)) (inside_of region (kinds g))
        (inside-skeleton region (kinds g) ∙ ap (inside_of region) (both zero).acts ∙ sym (inside-skeleton region (kinds f))) in
        ap (λ z. z && list_all (λ f. are_all (test (is_function_so test p n)) [] (inside_of region (kinds f))) gs) first ∙
        ap (λ z. are_all (test (is_function_so test q n)) [] (inside_of region (kinds f)) && z)
        (each-same region n fs gs (λ i. both (suc i)))
    each-same region n [] (g ∷ gs) both = absurd (both zero)
    each-same region n (f ∷ fs) [] both = absurd (both zero)

    region-same : (region : ℕ) → is_region_so test p region ≡ is_region_so test q region
    region-same region =
        ap (λ n. list_all (λ f. are_all (test (is_function_so test p n)) [] (inside_of region (kinds f))) p.functions)
        (length-same q.functions p.functions better.functions) ∙
        each-same region (length q.functions) q.functions p.functions better.functions

pub plain_same : (old new : Program) (region : ℕ) → IsBetter old new → is_plain new region ≡ is_plain old region
plain_same old new region better = region-same is_plain_op plain-test old new better region

pub straight_same : (old new : Program) (region : ℕ) → IsBetter old new → is_straight new region ≡ is_straight old region
straight_same old new region better = region-same is_straight_op straight-test old new better region

pub ruleset region_rules = (plain_same, straight_same)
