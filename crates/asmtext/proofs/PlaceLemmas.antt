-- Places of labels: those that are held, and those that are still to come.
use Rattle.std.proofs.Common.{◌≡◌, ℕ, suc, ◌+◌, List, [], ◌∷◌, Bool, true, false, Option, Some, None, refl, ap, sym, ◌∙◌, arith}
use Rattle.std.specs.Prelude.{option_map, if◌then◌else◌}
use Rattle.asmline.specs.Said.{Said}
use Rattle.asmtext.specs.Labels.{Lines, stands_on, first_place}
use Rattle.std.specs.Prelude.{cond}
use Rattle.std.specs.Str.{bytes_eq}
use Rattle.std.proofs.lemmas.Slice.Eq.{bytes_eq-Decides}
use Rattle.asmtext.specs.Held.{or_else}

-- each label's first place is held, or is among the lines from the number n on
pub record KnowsTo (lines : Lines) (n : ℕ) (rest : Lines) (places : List ℕ → Option ℕ) : Type 0 where
  pub each : (name : List ℕ) → or_else (places name) (option_map (λ k. n + k) (first_place rest name)) ≡ first_place lines name

pub knows_begin : (lines : Lines) (places : List ℕ → Option ℕ) → ((name : List ℕ) → places name ≡ None) → KnowsTo lines 0 lines places
knows_begin lines places none = record {
  each = λ name. ap (λ o. or_else o (option_map (λ k. 0 + k) (first_place lines name))) (none name) ∙ same (first_place lines name);
}
  where
    same : (o : Option ℕ) → option_map (λ k. 0 + k) o ≡ o
    same None = refl
    same (Some k) = let e : 0 + k ≡ k = omega arith in ap Some e

pub knows_end : (lines : Lines) (n : ℕ) (places : List ℕ → Option ℕ) → KnowsTo lines n [] places
    → (name : List ℕ) → places name ≡ first_place lines name
knows_end lines n places known name = sym (nothing (places name)) ∙ known.each name
  where
    nothing : (o : Option ℕ) → or_else o None ≡ o
    nothing None = refl
    nothing (Some k) = refl

pub knows_on : (lines : Lines) (n : ℕ) (old new : List ℕ → Option ℕ) (line : Option Said) (behind : Lines)
    → KnowsTo lines n (line ∷ behind) old
    → ((name : List ℕ) → new name ≡ or_else (old name) (if stands_on name line then Some n else None))
    → KnowsTo lines (n + 1) behind new
knows_on lines n old new line behind known put = record {
  each = λ name. ap (λ o. or_else o (option_map (λ k. (n + 1) + k) (first_place behind name))) (put name)
      ∙ side (old name) (stands_on name line) (first_place behind name) ∙ known.each name;
}
  where
    side : (o : Option ℕ) (b : Bool) (q : Option ℕ)
        → or_else (or_else o (if b then Some n else None)) (option_map (λ k. (n + 1) + k) q)
        ≡ or_else o (option_map (λ k. n + k) (if b then Some 0 else option_map suc q))
    side (Some k) b q = refl
    side None true q = let e : n ≡ n + 0 = omega arith in ap Some e
    side None false None = refl
    side None false (Some k) = let e : (n + 1) + k ≡ n + suc k = omega arith in ap Some e

-- ---- one label

pub put_there : (f : List ℕ → Option ℕ) (name other : List ℕ) (n : ℕ) → f name ≡ None
    → cond (bytes_eq name other) (Some n) (f other) ≡ or_else (f other) (if bytes_eq name other then Some n else None)
put_there f name other n none =
    by (bytes_eq name other) (f other) (λ e. ap f (sym ((bytes_eq-Decides name other).0 e)) ∙ none)
  where
    by : (b : Bool) (o : Option ℕ) → (b ≡ true → o ≡ None) → cond b (Some n) o ≡ or_else o (if b then Some n else None)
    by true None h = refl
    by false None h = refl
    by true (Some k) h = let e = h refl in cc
    by false (Some k) h = refl

pub kept_there : (f : List ℕ → Option ℕ) (name other : List ℕ) (n k : ℕ) → f name ≡ Some k
    → f other ≡ or_else (f other) (if bytes_eq name other then Some n else None)
kept_there f name other n k some =
    by (bytes_eq name other) (f other) (λ e. ap f (sym ((bytes_eq-Decides name other).0 e)) ∙ some)
  where
    by : (b : Bool) (o : Option ℕ) → (b ≡ true → o ≡ Some k) → o ≡ or_else o (if b then Some n else None)
    by b (Some j) h = refl
    by true None h = let e = h refl in cc
    by false None h = refl

pub nothing_there : (o : Option ℕ) → o ≡ or_else o None
nothing_there None = refl
nothing_there (Some k) = refl
