-- What one instruction on fields of R0 to R29 does.
use Rattle.std.proofs.Common.{◌≡◌, ℕ, ◌+◌, ◌*◌, ◌%◌, ◌^◌, ◌<◌, ◌≤◌, Bool, true, false, List, [], ◌∷◌, ◌++◌, length, refl, sym, ap, ◌∙◌}
use Rattle.std.proofs.Common.{arith, inl, inr, ◌⊎◌}
use Rattle.std.specs.Prelude.{◌==◌, nat_lt, if◌then◌else◌}
use Rattle.std.specs.Int.{w32, bit_not}
use Rattle.std.proofs.lemmas.Bool.{ne_eqb, lt-ltb}
use Rattle.prutrace.specs.declared.event.Event.{Event}
use Rattle.prutrace.specs.declared.event.Event.TheVariants.{Read, Write}
use Rattle.prutrace.specs.declared.event.Place.TheVariants.{Reg30, Reg31}
use Rattle.prunum.specs.Bytes.{little_bytes, little_number}
use Rattle.prunum.specs.declared.width.Width.{Width}
use Rattle.prunum.specs.declared.width.Width.TheVariants.{B4}
use Rattle.isa.specs.declared.field.Field.{Field}
use Rattle.isa.specs.declared.field.Operand.{Operand}
use Rattle.isa.specs.declared.field.Operand.TheVariants as operand
use Rattle.isa.specs.declared.field.Part.{Part}
use Rattle.isa.specs.declared.field.Part.TheVariants as parts
use Rattle.isa.specs.declared.inst.Inst.TheVariants as inst
use Rattle.corestep.specs.declared.goes.Goes.TheVariants.{Behind}
use Rattle.corestep.specs.Compute.{computed, leftmost}
use Rattle.corestep.specs.Effect.{Given, effect, shows, writes}
use Rattle.corestep.specs.Fields.{bytes_at, with_bytes, field_reads, field_writes, with_field, field_value, operand_value, operand_reads}
use Rattle.corestep.specs.Fields.{place_of, part_length, part_of, first_byte, width_of, register, given_to_r31}
use Rattle.fieldcode.specs.Homes.{AreApart, IsApartFrom, Keeps}
use Rattle.fieldcode.specs.Runs.{Does}
use Rattle.fieldcode.specs.Works.{Action, Computes, Finds, Complements, inst_of}
use Rattle.fieldcode.proofs.Bytes.{with_size, read_same, read_below, read_above, little_size, read_back}

-- ---- fields

abbrev pub number_of : List ℕ → Field → ℕ
number_of registers f = little_number (part_length f.part) (bytes_at (place_of f) (part_length f.part) registers)

abbrev pub operand_number : List ℕ → Operand → ℕ
operand_number registers (operand.Field f) = number_of registers f
operand_number registers (operand.Imm n) = n

-- the registers with a number in a field
abbrev pub put : Field → ℕ → List ℕ → List ℕ
put d n registers = with_bytes (place_of d) (little_bytes (part_length d.part) n) registers

abbrev pub IsLow : Operand → Type 0
IsLow (operand.Field f) = f.reg < 30
IsLow (operand.Imm n) = Unit {0}

part_within : (part : Part) → first_byte part + part_length part ≤ 4
part_within parts.B0 = omega arith
part_within parts.B1 = omega arith
part_within parts.B2 = omega arith
part_within parts.B3 = omega arith
part_within parts.W0 = omega arith
part_within parts.W1 = omega arith
part_within parts.W2 = omega arith
part_within parts.All = omega arith

pub within : (f : Field) → f.reg < 30 → place_of f + part_length f.part ≤ 120
within f low = omega (arith, part_within f.part)

-- ---- reading

field_is : (registers : List ℕ) (outer : ℕ) (f : Field) → f.reg < 30 → field_value registers outer f ≡ number_of registers f
field_is registers outer f low =
    ap (λ (b : Bool). if b then number_of registers f else part_of f.part outer) (lt-ltb f.reg 30 low)

operand_is : (registers : List ℕ) (outer : ℕ) (o : Operand) → IsLow o → operand_value registers outer o ≡ operand_number registers o
operand_is registers outer (operand.Field f) low = field_is registers outer f low
operand_is registers outer (operand.Imm n) low = refl

silent : (outer : ℕ) (f : Field) → f.reg < 30 → field_reads outer f ≡ []
silent outer f low =
    ap (λ (b : Bool). if b then Read Reg30 B4 outer ∷ [] else if f.reg == 31 then Read Reg31 B4 outer ∷ [] else [])
    (ne_eqb f.reg 30 (λ e. omega arith))
    ∙ ap (λ (b : Bool). if b then Read Reg31 B4 outer ∷ [] else []) (ne_eqb f.reg 31 (λ e. omega arith))

operand_silent : (outer : ℕ) (o : Operand) → IsLow o → operand_reads outer o ≡ []
operand_silent outer (operand.Field f) low = silent outer f low
operand_silent outer (operand.Imm n) low = refl

-- ---- writing

put_is : (registers : List ℕ) (d : Field) (n : ℕ) → d.reg < 30 → with_field d n registers ≡ put d n registers
put_is registers d n low = ap (λ (b : Bool). if b then put d n registers else registers) (lt-ltb d.reg 31 (omega arith))

put_silent : (registers : List ℕ) (d : Field) (n : ℕ) → d.reg < 30 → field_writes d n registers ≡ []
put_silent registers d n low =
    let whole : ℕ = register (with_field d n registers) 30 in
    ap (λ (b : Bool). if b then Write Reg30 B4 whole ∷ [] else if d.reg == 31 then Write Reg31 B4 (given_to_r31 d.part n) ∷ [] else [])
    (ne_eqb d.reg 30 (λ e. omega arith))
    ∙ ap (λ (b : Bool). if b then Write Reg31 B4 (given_to_r31 d.part n) ∷ [] else []) (ne_eqb d.reg 31 (λ e. omega arith))

made : (registers ram : List ℕ) (es : List Event) (d : Field) (m n : ℕ) → d.reg < 30 → es ≡ [] → m ≡ n
    → writes registers ram es d m Behind ≡ shows (put d n registers) ram [] Behind
made registers ram es d m n low none is =
    ap (λ (r : List ℕ). shows r ram (es ++ field_writes d m registers) Behind) (put_is registers d m low)
    ∙ ap (λ (l : List Event). shows (put d m registers) ram (l ++ field_writes d m registers) Behind) none
    ∙ ap (λ (l : List Event). shows (put d m registers) ram l Behind) (put_silent registers d m low)
    ∙ ap (λ k. shows (put d k registers) ram [] Behind) is

-- ---- actions

abbrev pub operand_in : Action → Operand
operand_in (Computes op b) = b
operand_in (Finds b) = b
operand_in Complements = operand.Imm 0

abbrev pub acted : Action → ℕ → ℕ → ℕ
acted (Computes op b) x y = computed op x y
acted (Finds b) x y = leftmost x y
acted Complements x y = bit_not w32 x

both : (es fs : List Event) → es ≡ [] → fs ≡ [] → es ++ fs ≡ []
both es fs e f = ap (λ (l : List Event). l ++ fs) e ∙ f

-- what an action gives of a field, by the registers
abbrev pub given_by : List ℕ → Action → Field → ℕ
given_by registers x a = acted x (number_of registers a) (operand_number registers (operand_in x))

pub action_does : (x : Action) (d a : Field) (registers ram : List ℕ) → d.reg < 30 → a.reg < 30 → IsLow (operand_in x)
    → Does (inst_of x d a) registers ram (put d (given_by registers x a) registers) ram
action_does (Computes op b) d a registers ram low left right = record {
  effect = λ behind g. made registers ram (field_reads g.first a ++ operand_reads g.second b) d
      (computed op (field_value registers g.first a) (operand_value registers g.second b)) (given_by registers (Computes op b) a) low
      (both (field_reads g.first a) (operand_reads g.second b) (silent g.first a left) (operand_silent g.second b right))
      (ap (λ x. computed op x (operand_value registers g.second b)) (field_is registers g.first a left)
      ∙ ap (computed op (number_of registers a)) (operand_is registers g.second b right));
}
action_does (Finds b) d a registers ram low left right = record {
  effect = λ behind g. made registers ram (field_reads g.first a ++ operand_reads g.second b) d
      (leftmost (field_value registers g.first a) (operand_value registers g.second b)) (given_by registers (Finds b) a) low
      (both (field_reads g.first a) (operand_reads g.second b) (silent g.first a left) (operand_silent g.second b right))
      (ap (λ x. leftmost x (operand_value registers g.second b)) (field_is registers g.first a left)
      ∙ ap (leftmost (number_of registers a)) (operand_is registers g.second b right));
}
action_does Complements d a registers ram low left right = record {
  effect = λ behind g. made registers ram (field_reads g.first a) d (bit_not w32 (field_value registers g.first a))
      (given_by registers Complements a) low (silent g.first a left) (ap (bit_not w32) (field_is registers g.first a left));
}

pub ldi_does : (d : Field) (n : ℕ) (registers ram : List ℕ) → d.reg < 30 → Does (inst.Ldi d n) registers ram (put d n registers) ram
ldi_does d n registers ram low = record { effect = λ behind g. made registers ram [] d n n low refl refl }

-- ---- what stands in fields behind a write

module _ (d : Field) (n : ℕ) (registers : List ℕ) (low : d.reg < 30) (full : length registers ≡ 124) where
  room : place_of d + length (little_bytes (part_length d.part) n) ≤ length registers
  room = omega (arith, within d low, little_size (width_of d.part) n)

  pub put_size : length (put d n registers) ≡ 124
  put_size = with_size (place_of d) (little_bytes (part_length d.part) n) registers room ∙ full

  pub put_bytes : bytes_at (place_of d) (part_length d.part) (put d n registers) ≡ little_bytes (part_length d.part) n
  put_bytes =
      let bytes : List ℕ = little_bytes (part_length d.part) n in
      ap (λ len. bytes_at (place_of d) len (put d n registers)) (sym (little_size (width_of d.part) n))
      ∙ read_same (place_of d) bytes registers room

  pub put_same : number_of (put d n registers) d ≡ n % 2 ^ (8 * part_length d.part)
  put_same = ap (little_number (part_length d.part)) put_bytes ∙ read_back (width_of d.part) n

  pub put_other : (at len : ℕ) → AreApart at len (place_of d) (part_length d.part)
      → bytes_at at len (put d n registers) ≡ bytes_at at len registers
  put_other at len apart =
      let bytes : List ℕ = little_bytes (part_length d.part) n in
      elim apart [
        | inl less ↦ read_below (place_of d) bytes registers room at len less
        | inr more ↦ read_above (place_of d) bytes registers room at len (omega (arith, more, little_size (width_of d.part) n))
      ]

  pub put_keeps : (ranges : List (ℕ × ℕ))
      → ((at len : ℕ) → IsApartFrom at len ranges → AreApart at len (place_of d) (part_length d.part))
      → Keeps ranges registers (put d n registers)
  put_keeps ranges apart = record { size = put_size ∙ sym full; others = λ at len from. put_other at len (apart at len from) }

-- ---- keeping

pub keeps_all : (ranges : List (ℕ × ℕ)) (a b c : List ℕ) → Keeps ranges a b → Keeps ranges b c → Keeps ranges a c
keeps_all ranges a b c first second = record {
  size = second.size ∙ first.size;
  others = λ at len from. second.others at len from ∙ first.others at len from;
}

pub keeps_more : (few many : List (ℕ × ℕ)) (a b : List ℕ) → ((at len : ℕ) → IsApartFrom at len many → IsApartFrom at len few)
    → Keeps few a b → Keeps many a b
keeps_more few many a b less kept = record { size = kept.size; others = λ at len from. kept.others at len (less at len from) }

-- what is apart from a range is apart from each within it
pub inner : (at len first count g e : ℕ) → first ≤ g → g + e ≤ first + count → AreApart at len first count → AreApart at len g e
inner at len first count g e from to apart =
    elim apart [ inl less ↦ inl (omega arith) | inr more ↦ inr (omega arith) ]
