-- Records that are read stand in the bytes, and records that stand there are read.
use Rattle.std.proofs.Common.{◌≡◌, ℕ, zero, suc, ◌+◌, ◌≤◌, Bool, true, false, cond, ltb, List, [], ◌∷◌, length}
use Rattle.std.proofs.Common.{take, drop, Result, Ok, Err, refl, sym, ap, subst, ◌∙◌, arith}
use Rattle.std.specs.List.{flat_map, AllByRecursion}
use Rattle.std.proofs.lemmas.Bool.{ltb-false, le-ltb}
use Rattle.std.proofs.lemmas.List.{length-take, length-drop}
use Rattle.elfrec.specs.declared.fault.ElfFault.{ElfFault}
use Rattle.elfrec.specs.declared.fault.ElfFault.TheVariants.{At}
use Rattle.elfrec.specs.declared.fault.ElfCause.TheVariants.{Short, Size}
use Rattle.elfrec.specs.Record.{Format, IsBytes, IsExact, ◌>>=◌, sized, record_at, records_at}
use Rattle.elfrec.proofs.Stands.{TextStands, IsBytes-drop, IsBytes-take, stands_within}
use Rattle.elfrec.proofs.Stands.{stands_front, stands_back, stands_both, stands_in_part}

-- the value of a step that did not fail
pub bind_ok : {A B : Type 0} (r : Result A ElfFault) (f : A → Result B ElfFault) (y : B) → (r >>= f) ≡ Ok y
    → (x : A) × (r ≡ Ok x) × (f x ≡ Ok y)
bind_ok (Ok x) f y e = (x, refl, e)
bind_ok (Err d) f y e = absurd cc

-- a test that did not fail, with the fault first or last
pub guard_ok : {A : Type 0} (b : Bool) (d : ElfFault) (r : Result A ElfFault) (y : A) → cond b (Err d) r ≡ Ok y → (b ≡ false) × (r ≡ Ok y)
guard_ok true d r y e = absurd cc
guard_ok false d r y e = (refl, e)

guard_last : {A : Type 0} (b : Bool) (d : ElfFault) (x y : A) → cond b (Ok x) (Err d) ≡ Ok y → (b ≡ true) × (x ≡ y)
guard_last true d x y e = (refl, cc)
guard_last false d x y e = absurd cc

abbrev done : {A : Type 0} → A → Result A ElfFault
done x = Ok x

pub ok_is : {A : Type 0} (x y : A) → done x ≡ done y → x ≡ y
ok_is x y e = cc

-- a record that was read
pub record IsRead {R : Type 0} (format : Format R) (Fits : R → Type 0) (bytes : List ℕ) (at : ℕ) (r : R) : Type 0 where
  pub stands : TextStands bytes at (format.bytes r)
  pub fits : Fits r
  pub sized : format.has_right_sizes r ≡ true

pub record_take : {R : Type 0} (format : Format R) (Fits : R → Type 0) (at : ℕ) (bytes : List ℕ) (r : R) → IsExact format Fits
    → IsBytes bytes → record_at format at bytes ≡ Ok r → IsRead format Fits bytes at r
record_take format Fits at bytes r exact byte e =
    let text : List ℕ = take format.size (drop at bytes) in
    let g = guard_ok (ltb (length bytes) (at + format.size)) (At at Short) (sized format at (format.from_bytes text)) r e in
    let h = guard_last (format.has_right_sizes (format.from_bytes text)) (At at Size) (format.from_bytes text) r g.1 in
    let within : at + format.size ≤ length bytes = ltb-false _ _ g.0 in
    let len : length text ≡ format.size = omega (arith, length-take format.size (drop at bytes), length-drop at bytes) in
    let byte' : IsBytes text = IsBytes-take format.size (drop at bytes) (IsBytes-drop at bytes byte) in
    let same : format.bytes (format.from_bytes text) ≡ text = exact.same text byte' len in
    let fits : Fits (format.from_bytes text) = exact.fits text byte' len in
    let stands : TextStands bytes at (format.bytes (format.from_bytes text)) =
    stands_in_part bytes at format.size (format.bytes (format.from_bytes text)) (exact.long (format.from_bytes text) fits)
    (sym same) in
    subst (IsRead format Fits bytes at) h.1 (record { stands = stands; fits = fits; sized = h.0 })

pub record_again : {R : Type 0} (format : Format R) (Fits : R → Type 0) (at : ℕ) (bytes : List ℕ) (r : R) → IsExact format Fits
    → IsRead format Fits bytes at r → record_at format at bytes ≡ Ok r
record_again format Fits at bytes r exact read =
    let len : length (format.bytes r) ≡ format.size = exact.long r read.fits in
    let within : at + format.size ≤ length bytes = omega (arith, stands_within bytes at (format.bytes r) read.stands, exact.positive) in
    let long : ltb (length bytes) (at + format.size) ≡ false = le-ltb _ _ within in
    let text : take format.size (drop at bytes) ≡ format.bytes r = ap (λ (n : ℕ). take n (drop at bytes)) (sym len) ∙ read.stands in
    let same : format.from_bytes (take format.size (drop at bytes)) ≡ r = ap format.from_bytes text ∙ exact.again r read.fits in
    rw long (ap (sized format at) same ∙ ap (λ (b : Bool). cond b (Ok r) (Err (At at Size))) read.sized)

-- records that were read, one behind the other
pub record AreRead {R : Type 0} (format : Format R) (Fits : R → Type 0) (bytes : List ℕ) (at : ℕ) (rs : List R) : Type 0 where
  pub stand : TextStands bytes at (flat_map format.bytes rs)
  pub fit : AllByRecursion Fits rs
  pub sized : AllByRecursion (λ r. format.has_right_sizes r ≡ true) rs

pub records_take : {R : Type 0} (format : Format R) (Fits : R → Type 0) (n at : ℕ) (bytes : List ℕ) (rs : List R)
    → IsExact format Fits → IsBytes bytes → records_at format n at bytes ≡ Ok rs
    → AreRead format Fits bytes at rs × (length rs ≡ n)
unfolding records_at
records_take format Fits zero at bytes rs exact byte e =
    subst (λ rs. AreRead format Fits bytes at rs × (length rs ≡ 0)) (ok_is [] rs e) (record { stand = refl; fit = tt; sized = tt }, refl)
records_take {R} format Fits (suc n) at bytes rs exact byte e =
    let a = bind_ok (record_at format at bytes) (λ first. records_at format n (at + format.size) bytes >>= λ others. Ok
    (first ∷ others)) rs e in
    let b = bind_ok (records_at format n (at + format.size) bytes) (λ others. Ok (a.0 ∷ others)) rs a.2 in
    let first = record_take format Fits at bytes a.0 exact byte a.1 in
    let others = records_take format Fits n (at + format.size) bytes b.0 exact byte b.1 in
    let len : length (format.bytes a.0) ≡ format.size = exact.long a.0 first.fits in
    let behind : TextStands bytes (at + length (format.bytes a.0)) (flat_map format.bytes b.0) =
    subst (λ (k : ℕ). TextStands bytes (at + k) (flat_map format.bytes b.0)) (sym len) others.0.stand in
    let both = stands_both bytes at (format.bytes a.0) (flat_map format.bytes b.0) first.stands behind in
    subst (λ (rs : List R). AreRead format Fits bytes at rs × (length rs ≡ suc n)) (ok_is (a.0 ∷ b.0) rs b.2)
    (record { stand = both; fit = (first.fits, others.0.fit); sized = (first.sized, others.0.sized) }, ap suc others.1)

pub records_again : {R : Type 0} (format : Format R) (Fits : R → Type 0) (rs : List R) (at : ℕ) (bytes : List ℕ)
    → IsExact format Fits → AreRead format Fits bytes at rs → records_at format (length rs) at bytes ≡ Ok rs
unfolding records_at
records_again format Fits [] at bytes exact read = refl
records_again {R} format Fits (r ∷ rs) at bytes exact read =
    let len : length (format.bytes r) ≡ format.size = exact.long r read.fit.0 in
    let here : TextStands bytes at (format.bytes r) = stands_front bytes at (format.bytes r) (flat_map format.bytes rs) read.stand in
    let behind : TextStands bytes (at + length (format.bytes r)) (flat_map format.bytes rs) =
    stands_back bytes at (format.bytes r) (flat_map format.bytes rs) read.stand in
    let next : TextStands bytes (at + format.size) (flat_map format.bytes rs) =
    subst (λ (k : ℕ). TextStands bytes (at + k) (flat_map format.bytes rs)) len behind in
    let first : record_at format at bytes ≡ Ok r = record_again format Fits at bytes r exact
    (record { stands = here; fits = read.fit.0; sized = read.sized.0 }) in
    let others : records_at format (length rs) (at + format.size) bytes ≡ Ok rs =
    records_again format Fits rs (at + format.size) bytes exact (record { stand = next; fit = read.fit.1; sized = read.sized.1 }) in
    rw (first, others) refl
