-- A field that is read is the field that was written, and what was written is read again.
use Rattle.std.proofs.Common.{◌≡◌, ℕ, ◌+◌, ◌^◌, ◌%◌, ◌<◌, ◌≤◌, List, [], ◌∷◌, length, take, drop, map, refl, sym, ap, subst, ◌∙◌, arith}
use Rattle.std.specs.List.{AllByRecursion}
use Rattle.std.specs.Int.{Width, w8, w16, w32, byte_len, from_le_bytes, to_le_bytes}
use Rattle.std.proofs.lemmas.List.{length-append, length-take, length-drop}
use Rattle.std.proofs.lemmas.Nat.{le_bytes_2, le_bytes_4, from_le_bytes-to_le_bytes_2, from_le_bytes-to_le_bytes_4}
use Rattle.elfrec.specs.Field.{Field, FieldsFit, fields_bytes, number_at}
use Rattle.elfrec.specs.Record.{IsBytes}
use Rattle.elfrec.proofs.Stands.{TextStands, IsBytes-drop, IsBytes-take, stands_front, stands_back}
use Rattle.elfrec.proofs.Stands.{stands_both, stands_whole, whole_stands, stands_in_part}

-- numbers of this width are bytes both ways
pub record IsWide (w : Width) : Type 0 where
  pub positive : 0 < byte_len w
  pub len : (n : ℕ) → length (to_le_bytes w n) ≡ byte_len w
  pub back : (bytes : List ℕ) → length bytes ≡ byte_len w → IsBytes bytes → to_le_bytes w (from_le_bytes w bytes) ≡ bytes
  pub again : (n : ℕ) → n < 256 ^ byte_len w → from_le_bytes w (to_le_bytes w n) ≡ n
  pub below : (bytes : List ℕ) → IsBytes bytes → from_le_bytes w bytes < 256 ^ byte_len w

small_rest : (n : ℕ) → n < 256 → n % 256 ≡ n
small_rest n lt = omega arith

one_byte_back : (bytes : List ℕ) → length bytes ≡ 1 → IsBytes bytes → to_le_bytes w8 (from_le_bytes w8 bytes) ≡ bytes
one_byte_back [] e fits = absurd (omega arith)
one_byte_back (b ∷ []) e fits = ap (λ (n : ℕ). n ∷ []) (small_rest b (fits 0))
one_byte_back (b ∷ c ∷ bytes) e fits = absurd (omega arith)

pub wide8 : IsWide w8
wide8 = record {
  positive = omega arith;
  len = λ n. refl;
  back = one_byte_back;
  again = λ n lt. small_rest n lt;
  below = λ bytes fits. fits 0;
}

pub wide16 : IsWide w16
wide16 = record {
  positive = omega arith;
  len = λ n. refl;
  back = λ bytes len fits. le_bytes_2 bytes _ len fits refl;
  again = λ n lt. from_le_bytes-to_le_bytes_2 n lt;
  below = λ bytes fits. omega (arith, fits 0, fits 1);
}

pub wide32 : IsWide w32
wide32 = record {
  positive = omega arith;
  len = λ n. refl;
  back = λ bytes len fits. le_bytes_4 bytes _ len fits refl;
  again = λ n lt. from_le_bytes-to_le_bytes_4 n lt;
  below = λ bytes fits. omega (arith, fits 0, fits 1, fits 2, fits 3);
}

number_takes : (w : Width) (at : ℕ) (bytes : List ℕ) → IsWide w → IsBytes bytes → at + byte_len w ≤ length bytes
    → to_le_bytes w (number_at w at bytes) ≡ take (byte_len w) (drop at bytes)
number_takes w at bytes wide fits within =
    wide.back (take (byte_len w) (drop at bytes)) (omega (arith, length-take (byte_len w) (drop at bytes), length-drop at bytes))
    (IsBytes-take (byte_len w) (drop at bytes) (IsBytes-drop at bytes fits))

number_again : (w : Width) (at : ℕ) (bytes : List ℕ) (n : ℕ) → IsWide w → n < 256 ^ byte_len w
    → TextStands bytes at (to_le_bytes w n) → number_at w at bytes ≡ n
number_again w at bytes n wide lt h =
    ap (from_le_bytes w) (ap (λ (k : ℕ). take k (drop at bytes)) (sym (wide.len n)) ∙ h) ∙ wide.again n lt

-- ---- fields one behind the other

-- the fields of these widths that stand from a place on
abbrev pub fields_of : List Width → ℕ → List ℕ → List Field
fields_of [] at bytes = []
fields_of (w ∷ ws) at bytes = (w, number_at w at bytes) ∷ fields_of ws (at + byte_len w) bytes

-- how many bytes fields of these widths have
abbrev pub span : List Width → ℕ
span [] = 0
span (w ∷ ws) = byte_len w + span ws

abbrev pub AreWide : List Width → Type 0
AreWide ws = AllByRecursion IsWide ws

abbrev pub widths : List Field → List Width
widths fields = map (λ f. f.0) fields

-- what fields are when read: their bytes stand there, they fit, and they have the span of their widths
pub record AreRead (bytes : List ℕ) (at size : ℕ) (fields : List Field) : Type 0 where
  pub stand : TextStands bytes at (fields_bytes fields)
  pub fit : FieldsFit fields
  pub long : length (fields_bytes fields) ≡ size

pub fields_take : (ws : List Width) (at : ℕ) (bytes : List ℕ) → AreWide ws → IsBytes bytes → at + span ws ≤ length bytes
    → AreRead bytes at (span ws) (fields_of ws at bytes)
fields_take [] at bytes wide fits within = record { stand = refl; fit = tt; long = refl }
fields_take (w ∷ ws) at bytes wide fits within =
    let rest = fields_take ws (at + byte_len w) bytes wide.1 fits (omega arith) in
    let n : ℕ = number_at w at bytes in
    let first : to_le_bytes w n ≡ take (byte_len w) (drop at bytes) = number_takes w at bytes wide.0 fits (omega arith) in
    let len : length (to_le_bytes w n) ≡ byte_len w = wide.0.len n in
    let stands : TextStands bytes at (to_le_bytes w n) = stands_in_part bytes at (byte_len w) (to_le_bytes w n) len (sym first) in
    let others : List ℕ = fields_bytes (fields_of ws (at + byte_len w) bytes) in
    let behind : TextStands bytes (at + length (to_le_bytes w n)) others =
    subst (λ (k : ℕ). TextStands bytes (at + k) others) (sym len) rest.stand in
    record {
      stand = stands_both bytes at (to_le_bytes w n) others stands behind;
      fit = (
        wide.0.below (take (byte_len w) (drop at bytes))
            (IsBytes-take (byte_len w) (drop at bytes) (IsBytes-drop at bytes fits)),
        rest.fit,
      );
      long = omega (arith, length-append (to_le_bytes w n) others, rest.long);
    }

pub fields_again : (fields : List Field) (at : ℕ) (bytes : List ℕ) → AreWide (widths fields) → FieldsFit fields
    → TextStands bytes at (fields_bytes fields) → fields_of (widths fields) at bytes ≡ fields
fields_again [] at bytes wide fit stands = refl
fields_again (f ∷ fields) at bytes wide fit stands =
    let here : TextStands bytes at (to_le_bytes f.0 f.1) = stands_front bytes at (to_le_bytes f.0 f.1) (fields_bytes fields) stands in
    let behind : TextStands bytes (at + length (to_le_bytes f.0 f.1)) (fields_bytes fields) =
    stands_back bytes at (to_le_bytes f.0 f.1) (fields_bytes fields) stands in
    let next : TextStands bytes (at + byte_len f.0) (fields_bytes fields) =
    subst (λ (k : ℕ). TextStands bytes (at + k) (fields_bytes fields)) (wide.0.len f.1) behind in
    let first : number_at f.0 at bytes ≡ f.1 = number_again f.0 at bytes f.1 wide.0 fit.0 here in
    let others : fields_of (widths fields) (at + byte_len f.0) bytes ≡ fields =
    fields_again fields (at + byte_len f.0) bytes wide.1 fit.1 next in
    ap (λ (n : ℕ). (f.0, n) ∷ fields_of (widths fields) (at + byte_len f.0) bytes) first ∙ ap (λ (fs : List Field). f ∷ fs) others

-- fields that are all of the bytes
pub record AreAll (bytes : List ℕ) (fields : List Field) : Type 0 where
  pub same : fields_bytes fields ≡ bytes
  pub fit : FieldsFit fields

pub all_fields_take : (ws : List Width) (bytes : List ℕ) → AreWide ws → IsBytes bytes → length bytes ≡ span ws
    → AreAll bytes (fields_of ws 0 bytes)
all_fields_take ws bytes wide fits e =
    let read = fields_take ws 0 bytes wide fits (omega arith) in
    record { same = whole_stands bytes (fields_bytes (fields_of ws 0 bytes)) (omega (arith, read.long)) read.stand; fit = read.fit }

pub all_fields_again : (fields : List Field) → AreWide (widths fields) → FieldsFit fields
    → fields_of (widths fields) 0 (fields_bytes fields) ≡ fields
all_fields_again fields wide fit = fields_again fields 0 (fields_bytes fields) wide fit (stands_whole (fields_bytes fields))
