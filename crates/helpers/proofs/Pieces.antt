-- A body that is put together of pieces.
use Rattle.std.proofs.Common.{◌≡◌, ℕ, zero, suc, ◌+◌, ◌<◌, List, [], ◌∷◌, ◌++◌, length, refl, ap, subst, ◌∙◌, arith, Option, Some, None}
use Rattle.std.proofs.Common.{length-append}
use Rattle.std.specs.Prelude.{slice_get, option_map, option_and_then}
use Rattle.isa.specs.declared.program.Item.{Item}
use Rattle.corerun.specs.Code.{Code}
use Rattle.corerun.specs.Items.{Placed, placed, place_aimed, notes_of_placed}
use Rattle.helpers.specs.Runs.{StandsAt, aim_in}

-- ---- lists that grow by one piece at a time

pub grows : (previous next x known p : List Item) → next ≡ previous ++ x → previous ≡ known → x ≡ p → next ≡ known ++ p
grows previous next x known p is so e = is ∙ ap (λ (l : List Item). l ++ x) so ∙ ap (λ (l : List Item). known ++ l) e

-- ---- where a piece stands

module _ {A : Type 0} where
  get_past : (front rest : List A) (n p q : ℕ) → length front ≡ n → n + p ≡ q → slice_get (front ++ rest) q ≡ slice_get rest p
  get_past [] rest n p q size is = ap (slice_get rest) (let e : q ≡ p = omega arith in e)
  get_past (x ∷ front) rest n p zero size is = absurd (omega arith)
  get_past (x ∷ front) rest n p (suc q) size is = get_past front rest (length front) p q refl (omega arith)

  get_within : (xs rest : List A) (p : ℕ) → p < length xs → slice_get (xs ++ rest) p ≡ slice_get xs p
  get_within [] rest p less = absurd (omega arith)
  get_within (x ∷ xs) rest zero less = refl
  get_within (x ∷ xs) rest (suc p) less = get_within xs rest p (omega arith)

moved : (base o : ℕ) (r : Option ℕ) → option_map (λ p. base + p) (option_map (λ p. o + p) r) ≡ option_map (λ p. base + o + p) r
moved base o None = refl
moved base o (Some p) = ap Some (let e : base + (o + p) ≡ base + o + p = omega arith in e)

-- an instruction of the piece aims in the body where it aims in the piece, so many places on
abbrev pub AimsWithin : List Item → List Item → ℕ → List Placed → Type 0
AimsWithin items piece o [] = Unit {0}
AimsWithin items piece o (x ∷ xs) =
    (option_and_then (place_aimed items) x.aim ≡ option_map (λ p. o + p) (option_and_then (place_aimed piece) x.aim))
    × AimsWithin items piece o xs

aim_moved : (items piece : List Item) (base o : ℕ) (xs : List Placed) → AimsWithin items piece o xs → (p : ℕ)
    → aim_in items base (slice_get xs p) ≡ aim_in piece (base + o) (slice_get xs p)
aim_moved items piece base o [] within p = refl
aim_moved items piece base o (x ∷ xs) within zero =
    ap (option_map (λ p. base + p)) within.0 ∙ moved base o (option_and_then (place_aimed piece) x.aim)
aim_moved items piece base o (x ∷ xs) within (suc p) = aim_moved items piece base o xs within.1 p

part_there : (code : Code) (base o : ℕ) (items piece : List Item) (before behind : List Placed)
    → StandsAt code base items → placed [] items ≡ before ++ (placed [] piece ++ behind) → length before ≡ o
    → AimsWithin items piece o (placed [] piece) → StandsAt code (base + o) piece
part_there code base o items piece before behind stands is size within =
    let xs : List Placed = placed [] piece in
    let all : (p : ℕ) → p < length xs → o + p < length (placed [] items) = λ p less.
    let long = ap length is in
    omega (arith, length-append before (xs ++ behind), length-append xs behind) in
    let at : (p : ℕ) → p < length xs → slice_get (placed [] items) (o + p) ≡ slice_get xs p = λ p less.
    ap (λ (l : List Placed). slice_get l (o + p)) is ∙ get_past before (xs ++ behind) o p (o + p) size refl ∙ get_within xs behind p less in
    let place : (p : ℕ) → base + o + p ≡ base + (o + p) = λ p. omega arith in
    record {
      inst = λ p less. ap code.inst (place p) ∙ stands.inst (o + p) (all p less) ∙ ap (option_map (λ x. x.inst)) (at p less);
      notes = λ p less. ap code.notes (place p) ∙ stands.notes (o + p) (all p less) ∙ ap notes_of_placed (at p less);
      target = λ p less. ap code.target (place p) ∙ stands.target (o + p) (all p less) ∙ ap (aim_in items base) (at p less)
          ∙ aim_moved items piece base o xs within p;
    }

pub part : (code : Code) (base o p : ℕ) (items piece : List Item) (before behind : List Placed)
    → StandsAt code base items → placed [] items ≡ before ++ (placed [] piece ++ behind) → length before ≡ o → base + o ≡ p
    → AimsWithin items piece o (placed [] piece) → StandsAt code p piece
part code base o p items piece before behind stands is size place within =
    subst (λ (n : ℕ). StandsAt code n piece) place (part_there code base o items piece before behind stands is size within)
