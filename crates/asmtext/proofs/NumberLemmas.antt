-- Each name that lines tell has a number, and no two have the same.
use Rattle.std.proofs.Common.{◌≡◌, ℕ, ◌+◌, List, Bool, true, Option, Some, None, refl, ap, sym, subst, ◌∙◌, arith}
use Rattle.std.specs.Prelude.{fold, position}
use Rattle.std.specs.List.{list_any, position_or_len, AllByRecursion}
use Rattle.std.specs.Str.{bytes_eq}
use Rattle.std.proofs.lemmas.Slice.Eq.{bytes_eq-Decides}
use Rattle.asmtext.specs.Labels.{with_name, number_at, number_in}
use Rattle.asmtext.proofs.OnceLemmas.{placed_at, all_once, same_place}

pub same_name : (a b : List ℕ) → bytes_eq a b ≡ true → a ≡ b
same_name a b h = (bytes_eq-Decides a b).0 h

pub own_name : (a : List ℕ) → bytes_eq a a ≡ true
own_name a = (bytes_eq-Decides a a).1 refl

abbrev pub Has : List (List ℕ) → List ℕ → Type 0
Has names a = list_any (bytes_eq a) names ≡ true

pub all_have : (names more : List (List ℕ)) → AllByRecursion (Has (fold with_name names more)) more
all_have names more = all_once bytes_eq same_name own_name names more

pub same_number : (names : List (List ℕ)) (a b : List ℕ) → Has names a → number_in names a ≡ number_in names b → a ≡ b
same_number names a b h e =
    let k = position_or_len (bytes_eq a) names in
    by k (position (bytes_eq b) names) refl (placed_at (bytes_eq a) names h) (sym (ap number_at (placed_at (bytes_eq a) names h)) ∙ e)
  where
    by : (k : ℕ) (o : Option ℕ) → position (bytes_eq b) names ≡ o → position (bytes_eq a) names ≡ Some k → k + 1 ≡ number_at o → a ≡ b
    by k None f g e = absurd (omega arith)
    by k (Some j) f g e =
        let s : k ≡ j = omega arith in
        same_place bytes_eq same_name own_name names a b j (g ∙ ap Some s) f
