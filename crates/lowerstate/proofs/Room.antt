-- Values fit their registers, since objects lie within the memory.
use Rattle.std.proofs.Common.{◌≡◌, ℕ, ◌+◌, ◌*◌, ◌^◌, ◌<◌, ◌≤◌, List, Some, slice_get, refl, sym, subst, ap, ◌∙◌, arith, Bool, true, false}
use Rattle.std.proofs.Common.{not, ◌==◌}
use Rattle.std.proofs.lemmas.Bool.{eq-eqb, ne_eqb}
use Rattle.std.proofs.lemmas.Nat.{mul-le}
use Rattle.prunum.specs.Number.{bit_count}
use Rattle.cmean.specs.Datum.{Datum, Spot, Number, Null, Plain, Address, is_true}
use Rattle.cmean.specs.State.{State}
use Rattle.lowerstate.specs.Counted.{Counted}
use Rattle.lowerstate.specs.Related.{Fixed, Call, Point, homes_with, Related}
use Rattle.lowerstate.specs.Held.{Meant, OfInteger, ToPlain, ToVolatile, meant_width, Laid, Home, InMemory, IsSpot, Held}

-- objects lie between these addresses
abbrev pub AreWithin : List Home → Type 0
AreWithin homes = (o at : ℕ) (whole : Laid) → slice_get homes o ≡ Some (InMemory at whole) → (0x10 ≤ at) × (at + whole.bytes ≤ 0x1E00)

module _ (layouts : List Laid) (homes : List Home) where
  spot-within : (layout : ℕ) (p : Spot) (v : ℕ) → AreWithin homes → IsSpot layouts homes layout p v → (0x10 ≤ v) × (v ≤ 0x1E00)
  spot-within layout p v within spot =
      let room = within p.object spot.address spot.whole spot.home in
      let low = room.0 in
      let high = room.1 in
      let value = spot.value in
      let byte = spot.byte in
      let inside = spot.inside in
      let few : p.index * spot.element.bytes ≤ p.count * spot.element.bytes =
      mul-le p.index spot.element.bytes p.count spot.element.bytes spot.range (omega arith) in
      (omega (arith, low, value), omega (arith, high, value, byte, inside, few))

  pub held-below : (t : Meant) (d : Datum) (v : ℕ) → AreWithin homes → Held layouts homes t d v → v < 2 ^ bit_count (meant_width t)
  held-below (OfInteger i) (Number n) v within held = subst (λ m. m < 2 ^ bit_count i.width) (sym held.0) held.1
  held-below (OfInteger i) Null v within held = absurd held
  held-below (OfInteger i) (Plain p) v within held = absurd held
  held-below (OfInteger i) (Address a) v within held = absurd held
  held-below (ToPlain l) (Number n) v within held = absurd held
  held-below (ToPlain l) Null v within held = omega (arith, held)
  held-below (ToPlain l) (Plain p) v within held = let most = (spot-within l p v within held).1 in omega (arith, most)
  held-below (ToPlain l) (Address a) v within held = absurd held
  held-below ToVolatile (Number n) v within held = absurd held
  held-below ToVolatile Null v within held = absurd held
  held-below ToVolatile (Plain p) v within held = absurd held
  held-below ToVolatile (Address a) v within held = subst (λ m. m < 2 ^ 32) (sym held.0) held.1

  not-not : (b : Bool) → b ≡ not (not b)
  not-not true = refl
  not-not false = refl

  -- whether a value is unequal to 0 is whether its number is
  pub zero-where-false : (t : Meant) (d : Datum) (v : ℕ) → AreWithin homes → Held layouts homes t d v → (v == 0) ≡ not (is_true d)
  zero-where-false (OfInteger i) (Number n) v within held = ap (λ m. m == 0) held.0 ∙ not-not (n == 0)
  zero-where-false (OfInteger i) Null v within held = absurd held
  zero-where-false (OfInteger i) (Plain p) v within held = absurd held
  zero-where-false (OfInteger i) (Address a) v within held = absurd held
  zero-where-false (ToPlain l) (Number n) v within held = absurd held
  zero-where-false (ToPlain l) Null v within held = eq-eqb v 0 held
  zero-where-false (ToPlain l) (Plain p) v within held =
      ne_eqb v 0 (λ none. let least = (spot-within l p v within held).0 in omega (arith, least, none))
  zero-where-false (ToPlain l) (Address a) v within held = absurd held
  zero-where-false ToVolatile (Number n) v within held = absurd held
  zero-where-false ToVolatile Null v within held = absurd held
  zero-where-false ToVolatile (Plain p) v within held = absurd held
  zero-where-false ToVolatile (Address a) v within held = ap (λ m. m == 0) held.0 ∙ not-not (a == 0)

module _ (r : Fixed) (c : Call) where
  pub stored-within : (x : Point) (s : State) (m : Counted) (related : Related r c x s m) → AreWithin (homes_with c related.later)
  stored-within x s m related o at all is = let room = related.stored.room o at all is in (room.0, room.1)
