-- Fields that become numbers.
use Rattle.std.proofs.Common.{◌≡◌, ℕ, ◌+◌, ◌-◌, ◌*◌, ◌/◌, ◌%◌, ◌^◌, ◌<◌, ◌≤◌, Bool, true, false, List, [], ◌∷◌, ◌++◌, length, take, drop}
use Rattle.std.proofs.Common.{refl, sym, ap, ◌∙◌, arith, inl, inr, ◌⊎◌, lit<, lit≤, length-drop}
use Rattle.std.specs.Prelude.{nat_lt, if◌then◌else◌}
use Rattle.std.proofs.lemmas.Bool.{ltb-true}
use Rattle.std.proofs.lemmas.List.{length-take-le, take-append-drop, drop-drop}
use Rattle.std.proofs.Math.Seq.{take-append-add}
use Rattle.prunum.specs.Bytes.{little_bytes, little_number}
use Rattle.isa.specs.declared.field.Field.{Field}
use Rattle.isa.specs.declared.field.Part.{Part}
use Rattle.isa.specs.declared.field.Part.TheVariants as parts
use Rattle.isa.specs.declared.inst.Inst.{Inst}
use Rattle.isa.specs.declared.inst.Inst.TheVariants as inst
use Rattle.corestep.specs.Fields.{bytes_at, place_of, part_length}
use Rattle.fieldcode.specs.Homes.{AreApart, IsApartFrom, Keeps}
use Rattle.fieldcode.specs.Insts.{half, constant, constant_in}
use Rattle.fieldcode.specs.Runs.{Straight, none, next}
use Rattle.fieldcode.proofs.Steps.{number_of, put, ldi_does, put_size, put_bytes, put_other, put_keeps, keeps_all, inner}
use Rattle.fieldcode.proofs.Chains.{Worked, single, work_ranges}

pub with_value : (code : List Inst) (d : Field) (m n : ℕ) (registers ram : List ℕ)
    → m % 2 ^ (8 * part_length d.part) ≡ n % 2 ^ (8 * part_length d.part)
    → Worked code d m registers ram → Worked code d n registers ram
with_value code d m n registers ram is worked =
    record { after = worked.after; straight = worked.straight; value = worked.value ∙ is; kept = worked.kept }

one_ldi : (d : Field) (m n : ℕ) (registers ram : List ℕ) → d.reg < 30 → length registers ≡ 124
    → m % 2 ^ (8 * part_length d.part) ≡ n % 2 ^ (8 * part_length d.part) → Worked (inst.Ldi d m ∷ []) d n registers ram
one_ldi d m n registers ram low full is =
    with_value (inst.Ldi d m ∷ []) d m n registers ram is
    (single (inst.Ldi d m) d m registers ram low full (ldi_does d m registers ram low))

-- ---- two halves

four_bytes : (p : ℕ) (list : List ℕ) → p + 4 ≤ length list → bytes_at p 4 list ≡ bytes_at p 2 list ++ bytes_at (p + 2) 2 list
four_bytes p list less =
    let rest : List ℕ = drop p list in
    let front : List ℕ = take 2 rest in
    let size : length front ≡ 2 = length-take-le 2 rest (omega (arith, length-drop p list)) in
    let four : 4 ≡ length front + 2 = omega (arith, size) in
    ap (take 4) (sym (take-append-drop 2 rest))
    ∙ ap (λ k. take k (front ++ drop 2 rest)) four
    ∙ take-append-add front (drop 2 rest) 2
    ∙ ap (λ (l : List ℕ). front ++ take 2 l) (drop-drop 2 p list)

module _ (r : ℕ) (in_range : r < 32) (n : ℕ) (registers ram : List ℕ) (low : r < 30) (fits : n < 2 ^ 32)
    (full : length registers ≡ 124) where
  abbrev whole_field : Field
  whole_field = record { reg = r; part = parts.All; in_range = in_range }

  abbrev low_half : Field
  low_half = half parts.W0 whole_field

  abbrev high_half : Field
  high_half = half parts.W2 whole_field

  abbrev first_put : List ℕ
  first_put = put low_half (n % 65536) registers

  abbrev both_put : List ℕ
  both_put = put high_half (n / 65536 % 65536) first_put

  first_full : length first_put ≡ 124
  first_full = put_size low_half (n % 65536) registers low full

  both_bytes : bytes_at (4 * r + 0) 4 both_put ≡ little_bytes 2 (n % 65536) ++ little_bytes 2 (n / 65536 % 65536)
  both_bytes =
      let size : length both_put ≡ 124 = put_size high_half (n / 65536 % 65536) first_put low first_full in
      let first : bytes_at (4 * r + 0) 2 both_put ≡ little_bytes 2 (n % 65536) =
      put_other high_half (n / 65536 % 65536) first_put low first_full (4 * r + 0) 2 (inl (omega arith))
      ∙ put_bytes low_half (n % 65536) registers low full in
      let second : bytes_at (4 * r + 0 + 2) 2 both_put ≡ little_bytes 2 (n / 65536 % 65536) =
      ap (λ p. bytes_at p 2 both_put) (let e : 4 * r + 0 + 2 ≡ 4 * r + 2 = omega arith in e)
      ∙ put_bytes high_half (n / 65536 % 65536) first_put low first_full in
      four_bytes (4 * r + 0) both_put (omega arith)
      ∙ ap (λ (l : List ℕ). l ++ bytes_at (4 * r + 0 + 2) 2 both_put) first
      ∙ ap (λ (l : List ℕ). little_bytes 2 (n % 65536) ++ l) second

  halves : little_number 4 (little_bytes 2 (n % 65536) ++ little_bytes 2 (n / 65536 % 65536)) ≡ n % 2 ^ 32
  halves = omega arith

  two_ldi : Worked (inst.Ldi low_half (n % 65536) ∷ inst.Ldi high_half (n / 65536 % 65536) ∷ []) whole_field n registers ram
  two_ldi = record {
    after = both_put;
    straight = next (inst.Ldi low_half (n % 65536)) (inst.Ldi high_half (n / 65536 % 65536) ∷ []) registers ram first_put ram both_put ram
        (ldi_does low_half (n % 65536) registers ram low)
        (next (inst.Ldi high_half (n / 65536 % 65536)) [] first_put ram both_put ram both_put ram
        (ldi_does high_half (n / 65536 % 65536) first_put ram low) (none both_put ram));
    value = ap (little_number 4) both_bytes ∙ halves;
    kept = keeps_all (work_ranges whole_field) registers first_put both_put
        (put_keeps low_half (n % 65536) registers low full (work_ranges whole_field)
        (λ at len from. inner at len (4 * r + 0) 4 (4 * r + 0) 2 (omega arith) (omega arith) from.0))
        (put_keeps high_half (n / 65536 % 65536) first_put low first_full (work_ranges whole_field)
        (λ at len from. inner at len (4 * r + 0) 4 (4 * r + 2) 2 (omega arith) (omega arith) from.0));
  }

  whole_by : (l : Bool) → nat_lt n 65536 ≡ l → Worked (if l then inst.Ldi whole_field n ∷ []
      else inst.Ldi low_half (n % 65536) ∷ inst.Ldi high_half (n / 65536 % 65536) ∷ []) whole_field n registers ram
  whole_by true is = one_ldi whole_field n n registers ram low full refl
  whole_by false is = two_ldi

  constant_by : (p : Part) → Worked (constant (record { reg = r; part = p; in_range = in_range }) n)
      (record { reg = r; part = p; in_range = in_range }) n registers ram
  constant_by parts.All = whole_by (nat_lt n 65536) refl
  constant_by parts.B0 =
      one_ldi (record { reg = r; part = parts.B0; in_range = in_range }) (n % 65536) n registers ram low full (omega arith)
  constant_by parts.B1 =
      one_ldi (record { reg = r; part = parts.B1; in_range = in_range }) (n % 65536) n registers ram low full (omega arith)
  constant_by parts.B2 =
      one_ldi (record { reg = r; part = parts.B2; in_range = in_range }) (n % 65536) n registers ram low full (omega arith)
  constant_by parts.B3 =
      one_ldi (record { reg = r; part = parts.B3; in_range = in_range }) (n % 65536) n registers ram low full (omega arith)
  constant_by parts.W0 =
      one_ldi (record { reg = r; part = parts.W0; in_range = in_range }) (n % 65536) n registers ram low full (omega arith)
  constant_by parts.W1 =
      one_ldi (record { reg = r; part = parts.W1; in_range = in_range }) (n % 65536) n registers ram low full (omega arith)
  constant_by parts.W2 =
      one_ldi (record { reg = r; part = parts.W2; in_range = in_range }) (n % 65536) n registers ram low full (omega arith)

pub constant_does : (d : Field) (n : ℕ) (registers ram : List ℕ) → d.reg < 30 → n < 2 ^ 32 → length registers ≡ 124
    → Worked (constant d n) d n registers ram
constant_does d n registers ram low fits full = constant_by d.reg d.in_range n registers ram low fits full d.part
