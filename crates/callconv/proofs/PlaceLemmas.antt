-- Places of arguments one after another.
use Rattle.std.proofs.Common.{◌≡◌, ℕ, suc, ◌+◌, ◌*◌, ◌<◌, ◌≤◌, List, [], ◌∷◌, ◌++◌, length, map, take, drop, get_or, refl, sym}
use Rattle.std.proofs.Common.{subst, ap, ◌∙◌, arith, length-take, append_assoc, append-nil, add-one, drop-cons}
use Rattle.std.specs.Prelude.{slice_set}
use Rattle.std.proofs.lemmas.Grind.{take-set_at}
use Rattle.std.proofs.lemmas.List.{get_or-take, take_more, map-append, drop_all, take_all}
use Rattle.prunum.specs.Width.{byte_count}
use Rattle.prunum.specs.declared.width.Width.{Width}
use Rattle.prunum.specs.declared.width.Width.TheVariants.{B1, B2, B4}
use Rattle.isa.specs.declared.field.Field.{Field}
use Rattle.midcode.specs.declared.signature.Signature.{Signature}
use Rattle.midcode.specs.Operation.{parameters}
use Rattle.callconv.specs.Places.{first_byte, field_size, next_place, argument_bytes, Ascend, IsPlaces}

next-above : (at : ℕ) (w : Width) → at ≤ next_place at w
next-above at B1 = omega arith
next-above at B2 = omega arith
next-above at B4 = omega arith

next-within : (at : ℕ) (w : Width) (m : ℕ) → at ≤ 4 * m → next_place at w + byte_count w ≤ 4 * m + 4
next-within at B1 m h = omega (arith, h)
next-within at B2 m h = omega (arith, h)
next-within at B4 m h = omega (arith, h)

-- no room is left at the head of two lists of one length
head-is : {a b : ℕ} {x y : List ℕ} → a ∷ x ≡ b ∷ y → a ≡ b
head-is e = cc

tail-is : {a b : ℕ} {x y : List ℕ} → a ∷ x ≡ b ∷ y → x ≡ y
tail-is e = cc

-- fields at the places of their widths ascend, and take at most four bytes each
pub ascend : (ws : List Width) (fs : List Field) (at m : ℕ) → at ≤ 4 * m
    → map first_byte fs ≡ argument_bytes at ws → map field_size fs ≡ map byte_count ws → Ascend at fs (4 * m + 4 * length ws)
ascend [] [] at m h e s = omega (arith, h)
ascend (w ∷ ws) [] at m h e s = cc
ascend [] (f ∷ fs) at m h e s = cc
ascend (w ∷ ws) (f ∷ fs) at m h e s =
    let first : first_byte f ≡ next_place at w = head-is e in
    let size : field_size f ≡ byte_count w = head-is s in
    let start : next_place at w + byte_count w ≡ first_byte f + field_size f = omega (arith, first, size) in
    let room : first_byte f + field_size f ≤ 4 * (m + 1) = omega (arith, start, next-within at w m h) in
    let rest : map first_byte fs ≡ argument_bytes (first_byte f + field_size f) ws = tail-is e ∙ ap (λ n. argument_bytes n ws) start in
    let more = ascend ws fs (first_byte f + field_size f) (m + 1) room rest (tail-is s) in
    let same : 4 * (m + 1) + 4 * length ws ≡ 4 * m + 4 * suc (length ws) = omega arith in
    (omega (arith, first, next-above at w), subst (Ascend (first_byte f + field_size f) fs) same more)

ends-before : (fs : List Field) (at to more : ℕ) → to ≤ more → Ascend at fs to → Ascend at fs more
ends-before [] at to more h a = omega (arith, h, a)
ends-before (f ∷ fs) at to more h a = (a.0, ends-before fs (first_byte f + field_size f) to more h a.1)

pub places-ascend : (s : Signature) (fs : List Field) → IsPlaces (parameters s) fs → Ascend 56 fs 88
places-ascend s fs p =
    ends-before fs 56 (56 + 4 * length (parameters s)) 88 (omega (arith, length-take s.count s.params, s.few))
    (ascend (parameters s) fs 56 14 (omega arith) p.bytes p.sizes)

-- ---- the loop

-- what holds before argument i
pub record Before (s : Signature) (fields : List Field) (at i : ℕ) : Type 0 where
  pub bytes : map first_byte (take i fields) ++ argument_bytes at (drop i (parameters s)) ≡ argument_bytes 56 (parameters s)
  pub sizes : map field_size (take i fields) ≡ map byte_count (take i (parameters s))
  pub room : at ≤ 56 + 4 * i

pub before-next : (s : Signature) (fields : List Field) (at i first size : ℕ) (f : Field) (w : Width)
    → i < length s.params → i < s.count → i < length fields → w ≡ get_or s.params i B1 → Before s fields at i
    → first ≡ next_place at w → first_byte f ≡ first → field_size f ≡ byte_count w → size ≡ byte_count w
    → Before s (slice_set fields i f) (first + size) (i + 1)
before-next s fields at i first size f w there below within is b first-is f-first f-size size-is =
    let here : i < length (parameters s) = omega (arith, length-take s.count s.params, there, below) in
    let own : get_or (parameters s) i B1 ≡ w = get_or-take s.count s.params i B1 below ∙ sym is in
    let split : drop i (parameters s) ≡ w ∷ drop (i + 1) (parameters s) =
    drop-cons (parameters s) i B1 here ∙ ap (λ x. x ∷ drop (suc i) (parameters s)) own ∙
    ap (λ n. w ∷ drop n (parameters s)) (sym (add-one i)) in
    let taken : take (i + 1) (slice_set fields i f) ≡ take i fields ++ f ∷ [] = take-set_at fields i (i + 1) f refl within in
    let more : take (i + 1) (parameters s) ≡ take i (parameters s) ++ w ∷ [] =
    take_more (parameters s) i B1 here ∙ ap (λ x. take i (parameters s) ++ x ∷ []) own in
    let place : first_byte f ≡ next_place at w = f-first ∙ first-is in
    let next : first + size ≡ next_place at w + byte_count w = ap (λ n. n + size) first-is ∙ ap (λ n. next_place at w + n) size-is in
    let rest : argument_bytes at (drop i (parameters s)) ≡ first_byte f ∷ argument_bytes (first + size) (drop (i + 1) (parameters s)) =
    ap (argument_bytes at) split ∙ ap (λ n. n ∷ argument_bytes (next_place at w + byte_count w) (drop (i + 1) (parameters s))) (sym place) ∙
    ap (λ n. first_byte f ∷ argument_bytes n (drop (i + 1) (parameters s))) (sym next) in
    record {
      bytes =
          ap (λ x. map first_byte x ++ argument_bytes (first + size) (drop (i + 1) (parameters s))) taken ∙
          ap (λ x. x ++ argument_bytes (first + size) (drop (i + 1) (parameters s))) (map-append first_byte (take i fields) (f ∷ [])) ∙
          append_assoc (map first_byte (take i fields)) (first_byte f ∷ []) (argument_bytes (first + size) (drop (i + 1) (parameters s))) ∙
          ap (λ x. map first_byte (take i fields) ++ x) (sym rest) ∙ b.bytes;
      sizes =
          ap (map field_size) taken ∙ map-append field_size (take i fields) (f ∷ []) ∙
          ap (λ x. x ++ field_size f ∷ []) b.sizes ∙
          ap (λ n. map byte_count (take i (parameters s)) ++ n ∷ []) f-size ∙
          sym (ap (map byte_count) more ∙ map-append byte_count (take i (parameters s)) (w ∷ []));
      room = omega (arith, next, next-within at w (14 + i) (omega (arith, b.room)));
    }

pub before-all : (s : Signature) (fields : List Field) (at i : ℕ) → i ≡ s.count → Before s fields at i
    → IsPlaces (parameters s) (take s.count fields)
before-all s fields at i all b =
    let short : length (parameters s) ≤ i = omega (arith, length-take s.count s.params, all) in
    let none : drop i (parameters s) ≡ [] = drop_all i (parameters s) short in
    let own : take i (parameters s) ≡ parameters s = take_all i (parameters s) short in
    record {
      bytes =
          ap (λ n. map first_byte (take n fields)) (sym all) ∙ sym (append-nil (map first_byte (take i fields))) ∙
          ap (λ x. map first_byte (take i fields) ++ argument_bytes at x) (sym none) ∙ b.bytes;
      sizes = ap (λ n. map field_size (take n fields)) (sym all) ∙ b.sizes ∙ ap (map byte_count) own;
    }
