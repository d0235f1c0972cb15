-- The places of labels: those that are found, and those that are still to come.
use Rattle.std.proofs.Common.{◌≡◌, ℕ, suc, ◌+◌, List, [], ◌∷◌, Bool, true, false, Option, Some, None, refl, ap, sym, ◌∙◌, subst, arith}
use Rattle.std.specs.Prelude.{◌==◌, option_map, if◌then◌else◌}
use Rattle.std.specs.List.{filter_map}
use Rattle.std.specs.BTreeMap.{BTreeMap, IsEmpty}
use Rattle.isa.specs.declared.program.Item.{Item}
use Rattle.isa.specs.declared.program.Item.TheVariants as item
use Rattle.isa.specs.declared.program.Target.{Target}
use Rattle.isa.specs.declared.program.Target.TheVariants as target
use Rattle.branchfit.specs.declared.spot.Spot.{Spot}
use Rattle.branchfit.specs.Aims.{place_in, aim_of, spot_of, spots_of}
use Rattle.branchfit.specs.Places.{found, or_else, known_behind, found_behind, Knows}
use Rattle.branchfit.specs.Laid.{place_behind}

-- each label's place is found, or is among the items from the place p on
pub record KnowsTo (items : List Item) (p : ℕ) (rest : List Item) (places : BTreeMap ℕ ℕ) : Type 0 where
  pub each : (l : ℕ) → or_else (found places l) (option_map (λ k. p + k) (place_in rest l)) ≡ place_in items l

shifted : (p : ℕ) (o : Option ℕ) → option_map (λ k. p + k) (option_map suc o) ≡ option_map (λ k. (p + 1) + k) o
shifted p None = refl
shifted p (Some k) = let e : p + suc k ≡ (p + 1) + k = omega arith in ap Some e

pub knows_begin : (items : List Item) (places : BTreeMap ℕ ℕ) → IsEmpty places → KnowsTo items 0 items places
knows_begin items places none = record {
  each = λ l. ap (λ o. or_else o (option_map (λ k. 0 + k) (place_in items l))) (nowhere l) ∙ same (place_in items l);
}
  where
    same : (o : Option ℕ) → option_map (λ k. 0 + k) o ≡ o
    same None = refl
    same (Some k) = let e : 0 + k ≡ k = omega arith in ap Some e

    nowhere : (l : ℕ) → found places l ≡ None
    nowhere l = rw none refl

pub knows_end : (items : List Item) (p : ℕ) (rest : List Item) (places : BTreeMap ℕ ℕ) → KnowsTo items p rest places → rest ≡ []
    → Knows items places
knows_end items p rest places known at l =
    sym (nothing (found places l)) ∙ sym (ap (λ r. or_else (found places l) (option_map (λ k. p + k) (place_in r l))) at) ∙ known.each l
  where
    nothing : (o : Option ℕ) → or_else o None ≡ o
    nothing None = refl
    nothing (Some k) = refl

pub knows_skip : (items : List Item) (p : ℕ) (rest : List Item) (places : BTreeMap ℕ ℕ) (i : Item) (behind : List Item)
    → KnowsTo items p rest places → rest ≡ i ∷ behind → ((l : ℕ) → place_in (i ∷ behind) l ≡ place_in behind l) → KnowsTo items p behind
    places
knows_skip items p rest places i behind known at skips = record {
  each = λ l. ap (λ o. or_else (found places l) (option_map (λ k. p + k) o)) (sym (skips l))
      ∙ sym (ap (λ r. or_else (found places l) (option_map (λ k. p + k) (place_in r l))) at) ∙ known.each l;
}

pub knows_word : (items : List Item) (p : ℕ) (rest : List Item) (places : BTreeMap ℕ ℕ) (i : Item) (behind : List Item)
    → KnowsTo items p rest places → rest ≡ i ∷ behind → ((l : ℕ) → place_in (i ∷ behind) l ≡ option_map suc (place_in behind l))
    → KnowsTo items (p + 1) behind places
knows_word items p rest places i behind known at steps = record {
  each = λ l. ap (or_else (found places l)) (sym (shifted p (place_in behind l)) ∙ ap (option_map (λ k. p + k)) (sym (steps l)))
      ∙ sym (ap (λ r. or_else (found places l) (option_map (λ k. p + k) (place_in r l))) at) ∙ known.each l;
}

as_before : (items : List Item) (p : ℕ) (rest : List Item) (old new : BTreeMap ℕ ℕ) → ((l : ℕ) → found new l ≡ found old l)
    → KnowsTo items p rest old → KnowsTo items p rest new
as_before items p rest old new same known = record {
  each = λ l. ap (λ o. or_else o (option_map (λ k. p + k) (place_in rest l))) (same l) ∙ known.each l;
}

pub knows_label : (items : List Item) (p : ℕ) (rest : List Item) (old new : BTreeMap ℕ ℕ) (m : ℕ) (behind : List Item)
    → KnowsTo items p rest old → rest ≡ item.Label m ∷ behind → ((l : ℕ) → found new l ≡ known_behind old m p l)
    → KnowsTo items p behind new
knows_label items p rest old new m behind known at put = record {
  each = λ l. ap (λ o. or_else o (option_map (λ k. p + k) (place_in behind l))) (put l)
      ∙ side (found old l) (m == l) (place_in behind l)
      ∙ sym (ap (λ r. or_else (found old l) (option_map (λ k. p + k) (place_in r l))) at) ∙ known.each l;
}
  where
    side : (o : Option ℕ) (b : Bool) (q : Option ℕ)
        → or_else (or_else o (if b then Some p else None)) (option_map (λ k. p + k) q)
        ≡ or_else o (option_map (λ k. p + k) (if b then Some 0 else q))
    side (Some k) b q = refl
    side None true q = let e : p ≡ p + 0 = omega arith in ap Some e
    side None false q = refl

pub knows_on : (items : List Item) (p : ℕ) (rest : List Item) (old new : BTreeMap ℕ ℕ) (i : Item) (behind : List Item)
    → KnowsTo items p rest old
    → rest ≡ i ∷ behind → ((l : ℕ) → found new l ≡ found_behind old p i l) → KnowsTo items (place_behind p i) behind new
knows_on items p rest old new (item.Label m) behind known at put = knows_label items p rest old new m behind known at put
knows_on items p rest old new (item.Note kind value) behind known at put =
    as_before items p behind old new put (knows_skip items p rest old (item.Note kind value) behind known at (λ l. refl))
knows_on items p rest old new (item.Source n) behind known at put =
    as_before items p behind old new put (knows_skip items p rest old (item.Source n) behind known at (λ l. refl))
knows_on items p rest old new (item.Whole i) behind known at put =
    as_before items (p + 1) behind old new put (knows_word items p rest old (item.Whole i) behind known at (λ l. refl))
knows_on items p rest old new (item.Aimed i t) behind known at put =
    as_before items (p + 1) behind old new put (knows_word items p rest old (item.Aimed i t) behind known at (λ l. refl))

pub knows_next : (items : List Item) (p q : ℕ) (rest : List Item) (old new : BTreeMap ℕ ℕ) (i : Item) (behind : List Item)
    → KnowsTo items p rest old
    → rest ≡ i ∷ behind → ((l : ℕ) → found new l ≡ found_behind old p i l) → q ≡ place_behind p i → KnowsTo items q behind new
knows_next items p q rest old new i behind known at put next =
    let P : ℕ → Type 0 = λ n. KnowsTo items n behind new in
    subst P (sym next) (knows_on items p rest old new i behind known at put)

-- ---- spots

same_aim : (f g : ℕ → Option ℕ) → ((l : ℕ) → f l ≡ g l) → (t : Target) → aim_of f t ≡ aim_of g t
same_aim f g same (target.Label l) = same l
same_aim f g same (target.Symbol s kind) = refl

same_spot : (f g : ℕ → Option ℕ) → ((l : ℕ) → f l ≡ g l) → (i : Item) → spot_of f i ≡ spot_of g i
same_spot f g same (item.Label l) = refl
same_spot f g same (item.Note kind value) = refl
same_spot f g same (item.Source n) = refl
same_spot f g same (item.Whole i) = refl
same_spot f g same (item.Aimed i t) = let e = same_aim f g same t in cc

same_all : (f g : Item → Option Spot) → ((i : Item) → f i ≡ g i) → (items : List Item) → filter_map f items ≡ filter_map g items
same_all f g same [] = refl
same_all f g same (i ∷ items) = put (f i) (g i) (same i) (same_all f g same items)
  where
    put : (a b : Option Spot) → a ≡ b → filter_map f items ≡ filter_map g items → filter_map f (i ∷ items) ≡ filter_map g (i ∷ items)
    put a b e rest = rw (same i, rest)

pub spots_are : (items : List Item) (places : BTreeMap ℕ ℕ) (spots : List Spot) → Knows items places → spots
    ≡ filter_map (spot_of (found places)) items
    → spots ≡ spots_of items
unfolding spots_of
spots_are items places spots known e =
    e ∙ same_all (spot_of (found places)) (spot_of (place_in items)) (same_spot (found places) (place_in items) known) items
