-- Fields as rows of bytes.
use Rattle.std.proofs.Common.{◌≡◌, ℕ, ◌+◌, ◌%◌, ◌<◌, ◌≤◌, ◌⊎◌, inl, inr, List, Bool, true, false, refl, sym}
use Rattle.std.proofs.Common.{◌∙◌, ap, arith}
use Rattle.std.specs.Prelude.{MatchBool}
use Rattle.std.proofs.lemmas.Bool.{cases_lt}
use Rattle.prunum.specs.Width.{byte_count}
use Rattle.prunum.specs.declared.width.Width.{Width}
use Rattle.prunum.specs.declared.width.Width.TheVariants.{B1, B2, B4}
use Rattle.isa.specs.declared.field.Field.{Field}
use Rattle.isa.specs.declared.field.Part.{Part}
use Rattle.isa.specs.declared.field.Part.TheVariants as part
use Rattle.callconv.specs.Places.{first_byte, field_size, part_first, part_size, IsAligned}
use Rattle.subreg.specs.Allocation.{IsField, AreDisjoint}
use Rattle.subreg.specs.Bytes.{IsHeld, AreHeld}

pub some_byte : (w : Width) → 0 < byte_count w
some_byte B1 = omega arith
some_byte B2 = omega arith
some_byte B4 = omega arith

pub part-size_some : (p : Part) → 0 < part_size p
part-size_some part.B0 = omega arith
part-size_some part.B1 = omega arith
part-size_some part.B2 = omega arith
part-size_some part.B3 = omega arith
part-size_some part.W0 = omega arith
part-size_some part.W1 = omega arith
part-size_some part.W2 = omega arith
part-size_some part.All = omega arith

pub part-in_word : (p : Part) → part_first p + part_size p ≤ 4
part-in_word part.B0 = omega arith
part-in_word part.B1 = omega arith
part-in_word part.B2 = omega arith
part-in_word part.B3 = omega arith
part-in_word part.W0 = omega arith
part-in_word part.W1 = omega arith
part-in_word part.W2 = omega arith
part-in_word part.All = omega arith

-- fields that share a byte are of one register
pub same_register : (f g : Field) → (AreDisjoint f g → ⊥) → f.reg ≡ g.reg
same_register f g shares =
    elim (cases_lt f.reg g.reg) [
      | inl less ↦ absurd (shares (inl (omega (arith, less, part-in_word f.part))))
      | inr more ↦
          elim (cases_lt g.reg f.reg) [
            | inl less ↦ absurd (shares (inr (omega (arith, less, part-in_word g.part))))
            | inr same ↦ omega (arith, more, same)
          ]
    ]

pub record Shared (f g : Field) : Type 0 where
  pub byte : ℕ
  pub from : first_byte f ≤ byte
  pub to : byte < first_byte f + field_size f
  pub start : first_byte g ≤ byte
  pub end_ : byte < first_byte g + field_size g

-- rows of bytes that aren't disjoint have a common one
pub disjoint_or_shared : (f g : Field) → AreDisjoint f g ⊎ Shared f g
disjoint_or_shared f g =
    elim (cases_lt (first_byte g) (first_byte f + field_size f)) [
      | inr apart ↦ inl (inl apart)
      | inl left ↦
          elim (cases_lt (first_byte f) (first_byte g + field_size g)) [
            | inr apart ↦ inl (inr apart)
            | inl right ↦
                elim (cases_lt (first_byte f) (first_byte g)) [
                  | inl less ↦ inr (record {
                    byte = first_byte g;
                    from = omega (arith, less);
                    to = left;
                    start = omega arith;
                    end_ = omega (arith, part-size_some g.part);
                  })
                  | inr more ↦ inr (record {
                    byte = first_byte f;
                    from = omega arith;
                    to = omega (arith, part-size_some f.part);
                    start = more;
                    end_ = right;
                  })
                ]
          ]
    ]

-- a byte belongs to so many or not
pub within_or_not : (byte first size : ℕ) → ((first ≤ byte) × (byte < first + size)) ⊎ ((byte < first) ⊎ (first + size ≤ byte))
within_or_not byte first size =
    elim (cases_lt byte first) [
      | inl less ↦ inr (inl less)
      | inr from ↦
          elim (cases_lt byte (first + size)) [ inl to ↦ inl (from, to) | inr behind ↦ inr (inr behind) ]
    ]

-- an aligned field that begins at a byte of R5 to R25
pub field_at-is : (f : Field) (w : Width) (first : ℕ) → IsAligned f (byte_count w) first → first % byte_count w ≡ 0 → 20 ≤ first
    → first + byte_count w ≤ 104 → IsField f w
field_at-is f w first is aligned from to =
    record {
      size = is.size;
      aligned = ap (λ n. n % byte_count w) is.at ∙ aligned;
      from = omega (arith, is.at, from);
      to = omega (arith, is.at, is.size, to);
    }

-- ---- the search for a free field

pub held-of_width : (free_from : List ℕ) (first size place n : ℕ) → size ≡ n → IsHeld free_from first size place
    → IsHeld free_from first n place
held-of_width free_from first size place n e h = record { byte = h.byte; from = h.from; to = omega (arith, h.to, e); later = h.later }

pub false_part : (b : Bool) (P Q : Type 0) → b ≡ false → MatchBool b P Q → Q
false_part true P Q e h = absurd (cc)
false_part false P Q e h = h

pub held-next : (free_from : List ℕ) (w : Width) (place first : ℕ)
    → ((g : Field) → IsField g w → first_byte g < first → IsHeld free_from (first_byte g) (field_size g) place)
    → (first % byte_count w ≡ 0 → IsHeld free_from first (byte_count w) place)
    → (g : Field) → IsField g w → first_byte g < first + 1 → IsHeld free_from (first_byte g) (field_size g) place
held-next free_from w place first before here g field below =
    elim (cases_lt (first_byte g) first) [
      | inl less ↦ before g field less
      | inr more ↦
          let same : first_byte g ≡ first = omega (arith, more, below) in
          let h = here (ap (λ n. n % byte_count w) (sym same) ∙ field.aligned) in
          record {
            byte = h.byte;
            from = omega (arith, h.from, same);
            to = omega (arith, h.to, same, field.size);
            later = h.later;
          }
    ]

pub held-all : (free_from : List ℕ) (w : Width) (place first : ℕ) → 104 ≤ first
    → ((g : Field) → IsField g w → first_byte g < first → IsHeld free_from (first_byte g) (field_size g) place)
    → AreHeld free_from w place
held-all free_from w place first end_ before g field = before g field (omega (arith, end_, field.to, field.size, some_byte w))

-- ---- a field in each register

abbrev pub lowest_part : Width → Part
lowest_part B1 = part.B0
lowest_part B2 = part.W0
lowest_part B4 = part.All

abbrev pub word_field : Width → ℕ → Field
word_field w n = record { reg = 5 + n % 21; part = lowest_part w; in_range = omega arith }

pub word_field-is : (w : Width) (n : ℕ) → IsField (word_field w n) w
word_field-is B1 n = record { size = refl; aligned = omega arith; from = omega arith; to = omega arith }
word_field-is B2 n = record { size = refl; aligned = omega arith; from = omega arith; to = omega arith }
word_field-is B4 n = record { size = refl; aligned = omega arith; from = omega arith; to = omega arith }
