-- A table of numbers that tells what is known behind operations.
use Rattle.std.proofs.Common.{◌≡◌, ℕ, zero, suc, ◌<◌, ◌==◌, Bool, true, false, ◌&&◌, List, [], ◌∷◌, length, Option, Some, None}
use Rattle.std.proofs.Common.{refl, sym, ap, ◌∙◌, arith, map, replicate, slice_index_or, slice_set, if◌then◌else◌}
use Rattle.std.specs.Prelude.{is_some}
use Rattle.std.specs.List.{list_all}
use Rattle.std.proofs.lemmas.Bool.{and_parts, ltb-true}
use Rattle.prunum.specs.Number.{wrap, wrap_signed, sext}
use Rattle.prunum.specs.declared.width.Width.{Width}
use Rattle.prunum.specs.declared.width.Width.TheVariants.{B1, B2, B4}
use Rattle.midcode.specs.declared.register.VReg.{VReg}
use Rattle.midcode.specs.declared.op.BinaryOp.{BinaryOp}
use Rattle.midcode.specs.declared.op.Operand.{Operand}
use Rattle.midcode.specs.declared.op.Operand.TheVariants as operand
use Rattle.midcode.specs.declared.op.OpKind.{OpKind}
use Rattle.midcode.specs.declared.op.OpKind.TheVariants as op
use Rattle.midcode.specs.Operation.{reads, writes}
use Rattle.midcode.specs.Value.{unary_value, binary_value}
use Rattle.midcode.specs.Function.{has, fits}
use Rattle.midcode.proofs.Valid.{parts-of}
use Rattle.midopt.specs.Tidy.{is_result, number_of, known, is_foldable, is_plain_sum}
use Rattle.midfold.specs.Folding.{width_at, cut, constant, number_at, from_one, from_two, or_itself, improved_kind, cut_number}
use Rattle.midfold.specs.Folding.{with_number, noted}

-- the last of the operations comes first
pub record Tracks (registers : List Width) (before : List OpKind) (held : List (Option ℕ)) : Type 0 where
  pub each : (r : ℕ) → r < length registers → slice_index_or held r None ≡ cut_number registers r (known before r)
  pub all : length held ≡ length registers

-- ---- the table

abbrev none : Option ℕ
none = None

index-none : (n r : ℕ) → slice_index_or (replicate n none) r None ≡ None
index-none zero r = refl
index-none (suc n) zero = refl
index-none (suc n) (suc r) = index-none n r

length-none : (n : ℕ) → length (replicate n none) ≡ n
length-none zero = refl
length-none (suc n) = ap suc (length-none n)

forgotten : (l : List (Option ℕ)) (r : ℕ) → slice_index_or (map (λ _. none) l) r None ≡ None
forgotten [] r = refl
forgotten (x ∷ l) zero = refl
forgotten (x ∷ l) (suc r) = forgotten l r

length-map : (l : List (Option ℕ)) → length (map (λ _. none) l) ≡ length l
length-map [] = refl
length-map (x ∷ l) = ap suc (length-map l)

length-set : (l : List (Option ℕ)) (i : ℕ) (x : Option ℕ) → length (slice_set l i x) ≡ length l
length-set [] i x = refl
length-set (y ∷ l) zero x = refl
length-set (y ∷ l) (suc i) x = ap suc (length-set l i x)

index-set : (l : List (Option ℕ)) (i r : ℕ) (x : Option ℕ) → r < length l
    → slice_index_or (slice_set l i x) r None ≡ (if i == r then x else slice_index_or l r None)
index-set [] i r x within = absurd (omega (arith, within))
index-set (y ∷ l) zero zero x within = refl
index-set (y ∷ l) zero (suc r) x within =
    ap (λ b. if b then x else slice_index_or l r None) (let e : (zero == suc r) ≡ false = grind arith in sym e)
index-set (y ∷ l) (suc i) zero x within = ap (λ b. if b then x else y) (let e : (suc i == zero) ≡ false = grind arith in sym e)
index-set (y ∷ l) (suc i) (suc r) x within =
    index-set l i r x (omega (arith, within)) ∙
    ap (λ b. if b then x else slice_index_or l r None) (let e : (suc i == suc r) ≡ (i == r) = grind arith in sym e)

pub some-within : (l : List (Option ℕ)) (r c : ℕ) → slice_index_or l r None ≡ Some c → r < length l
some-within [] r c is = cc
some-within (x ∷ l) zero c is = omega arith
some-within (x ∷ l) (suc r) c is = let less = some-within l r c is in omega (arith, less)

pub tracks-first : (registers : List Width) → Tracks registers [] (replicate (length registers) None)
tracks-first registers = record { each = λ r within. index-none (length registers) r; all = length-none (length registers) }

pub tracks-more : (registers : List Width) (before : List OpKind) (held : List (Option ℕ)) (k : OpKind) → Tracks registers before held
    → Tracks registers (k ∷ before) (noted registers k held)
tracks-more registers before held k t = cases k
  where
    written : (w : Option VReg) (n : Option ℕ) (r : ℕ) → r < length registers
        → slice_index_or (with_number registers w n held) r None
        ≡ cut_number registers r (if is_result r w then n else known before r)
    written None n r within = t.each r within
    written (Some v) n r within =
        index-set held v.0 r (cut_number registers v.0 n) (omega (arith, within, t.all)) ∙ either (v.0 == r) refl
      where
        same : (b : Bool) → (v.0 == r) ≡ b → b ≡ true → v.0 ≡ r
        same b is yes-so = grind (arith, is, yes-so)

        either : (b : Bool) → (v.0 == r) ≡ b
            → (if b then cut_number registers v.0 n else slice_index_or held r None)
            ≡ cut_number registers r (if b then n else known before r)
        either true is = ap (λ m. cut_number registers m n) (same true is refl)
        either false is = t.each r within

    long : (w : Option VReg) (n : Option ℕ) → length (with_number registers w n held) ≡ length registers
    long None n = t.all
    long (Some v) n = length-set held v.0 (cut_number registers v.0 n) ∙ t.all

    cases : (k : OpKind) → Tracks registers (k ∷ before) (noted registers k held)
    cases (op.Label l) = record { each = λ r within. forgotten held r; all = length-map held ∙ t.all }
    cases k = record { each = λ r within. written (writes k) (number_of k) r within; all = long (writes k) (number_of k) }

-- ---- what it tells

-- a number that is held is a constant that can be seen, cut to its register
pub held-known : (registers : List Width) (before : List OpKind) (held : List (Option ℕ)) → Tracks registers before held
    → (r : VReg) (c : ℕ) → number_at held r ≡ Some c → (d : ℕ) × (known before r.0 ≡ Some d) × (c ≡ cut registers r.0 d)
held-known registers before held t r c is =
    let less = some-within held r.0 c is in
    by (known before r.0) refl (sym (t.each r.0 (omega (arith, less, t.all))) ∙ is)
  where
    same-number : (n m : ℕ) → Some n ≡ Some m → n ≡ m
    same-number n m e = cc

    by : (o : Option ℕ) → known before r.0 ≡ o → cut_number registers r.0 o ≡ Some c
        → (d : ℕ) × (known before r.0 ≡ Some d) × (c ≡ cut registers r.0 d)
    by None at is = cc
    by (Some d) at is = (d, at, sym (same-number (cut registers r.0 d) c is))

unknown : (registers : List Width) (before : List OpKind) (held : List (Option ℕ)) → Tracks registers before held
    → (r : VReg) → has registers r ≡ true → number_at held r ≡ None → is_some (known before r.0) ≡ false
unknown registers before held t r own is =
    by (known before r.0) (sym (t.each r.0 (ltb-true r.0 (length registers) own)) ∙ is)
  where
    by : (o : Option ℕ) → cut_number registers r.0 o ≡ None → is_some o ≡ false
    by None is = refl
    by (Some d) is = cc

first-unknown : (b c : Bool) → b ≡ false → (b && c) ≡ false
first-unknown b c is = ap (λ z. z && c) is

second-unknown : (b c : Bool) → c ≡ false → (b && (c && true)) ≡ false
second-unknown true c is = ap (λ z. z && true) is
second-unknown false c is = refl

-- What is put in an operation's place can't be computed once more.
pub improved-folded : (registers : List Width) (labels : ℕ) (before : List OpKind) (held : List (Option ℕ))
    → Tracks registers before held → (k : OpKind) → fits registers labels k ≡ true
    → is_plain_sum before (improved_kind registers held k) ≡ false
improved-folded registers labels before held t k fit = cases k (parts-of registers labels k fit).reads_own
  where
    -- what is computed of one register
    one : (k : OpKind) (to from : VReg) (g : ℕ → ℕ) → reads k ≡ from ∷ [] → has registers from ≡ true
        → (o : Option ℕ) → number_at held from ≡ o → is_plain_sum before (or_itself k (from_one registers to g o)) ≡ false
    one k to from g is own (Some a) at = refl
    one k to from g is own None at =
        ap (λ rs. is_foldable k && list_all (λ r. is_some (known before r.0)) rs) is ∙
        ap (λ b. is_foldable k && (b && true)) (unknown registers before held t from own at) ∙ last (is_foldable k)
      where
        last : (b : Bool) → (b && (false && true)) ≡ false
        last true = refl
        last false = refl

    two : (o : BinaryOp) (to left right : VReg) → has registers left ≡ true → has registers right ≡ true
        → (a b : Option ℕ) → number_at held left ≡ a → number_at held right ≡ b
        → is_plain_sum before (or_itself (op.Binary o to left (operand.Register right)) (from_two registers o to left right a b)) ≡ false
    two o to left right own other a None at known-at =
        second-unknown (is_some (known before left.0)) (is_some (known before right.0))
        (unknown registers before held t right other known-at)
    two o to left right own other None (Some b) at known-at =
        first-unknown (is_some (known before left.0)) true (unknown registers before held t left own at)
    two o to left right own other (Some a) (Some b) at known-at = refl

    binary : (o : BinaryOp) (to left : VReg) (right : Operand)
        → list_all (has registers) (reads (op.Binary o to left right)) ≡ true
        → is_plain_sum before (improved_kind registers held (op.Binary o to left right)) ≡ false
    binary o to left (operand.Constant b) own =
        one (op.Binary o to left (operand.Constant b)) to left (λ a. binary_value o a b) refl (and_parts (has registers left) true own).0
        (number_at held left) refl
    binary o to left (operand.Register right) own =
        let parts = and_parts (has registers left) (has registers right && true) own in
        two o to left right parts.0 (and_parts (has registers right) true parts.1).0 (number_at held left) (number_at held right) refl refl

    cases : (k : OpKind) → list_all (has registers) (reads k) ≡ true → is_plain_sum before (improved_kind registers held k) ≡ false
    cases (op.Copy to from) own =
        one (op.Copy to from) to from (λ a. a) refl (and_parts (has registers from) true own).0 (number_at held from) refl
    cases (op.Unary o to from) own =
        one (op.Unary o to from) to from (unary_value o) refl (and_parts (has registers from) true own).0 (number_at held from) refl
    cases (op.Binary o to left right) own = binary o to left right own
    cases (op.Widen to from) own =
        one (op.Widen to from) to from (λ a. wrap_signed B4 (sext (width_at registers from.0) a)) refl
        (and_parts (has registers from) true own).0 (number_at held from) refl
    cases _ own = refl

-- ---- numbers

pub wrap-again : (w : Width) (n : ℕ) → wrap w (wrap w n) ≡ wrap w n
wrap-again B1 n = omega arith
wrap-again B2 n = omega arith
wrap-again B4 n = omega arith
