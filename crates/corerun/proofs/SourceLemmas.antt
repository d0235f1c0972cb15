-- What sources read is what is taken of the values for them.
use Rattle.std.proofs.Common.{◌≡◌, ℕ, ◌+◌, ◌%◌, ◌^◌, ◌<◌, ◌≤◌, Bool, true, false, cond, List, [], ◌∷◌, ◌++◌}
use Rattle.std.proofs.Common.{Option, Some, None, refl, sym, ap, subst, ◌∙◌, arith, inl, inr}
use Rattle.std.specs.Prelude.{nat_lt, nat_eq}
use Rattle.std.proofs.Math.Nat.{mod-eq_of_lt}
use Rattle.std.proofs.lemmas.Bool.{cases_lt}
use Rattle.std.proofs.lemmas.Bool.Decides.{nat_tests}
use Rattle.prunum.specs.declared.width.Width.TheVariants.{B4}
use Rattle.prutrace.specs.declared.event.Place.TheVariants.{Reg30, Reg31}
use Rattle.prutrace.specs.declared.event.Event.{Event}
use Rattle.prutrace.specs.declared.event.Event.TheVariants.{Read}
use Rattle.isa.specs.declared.control.Jump.{Jump}
use Rattle.isa.specs.declared.control.Jump.TheVariants as jump
use Rattle.isa.specs.declared.field.Field.{Field}
use Rattle.isa.specs.declared.field.Operand.{Operand}
use Rattle.isa.specs.declared.field.Operand.TheVariants as operand
use Rattle.isa.specs.declared.field.Part.{Part}
use Rattle.prunum.specs.Bytes.{little_number}
use Rattle.corestep.specs.Fields.{bytes_at, place_of, part_length, field_value, field_reads, operand_value, operand_reads, part_of}
use Rattle.corestep.specs.Effect.{jump_number, jump_reads}
use Rattle.corestep.specs.Given.{field_of, field_in}
use Rattle.corerun.specs.Values.{Taken, take_word, take_source, values_of}

-- which of three kinds of register a source is in: below R30, R30, R31
data Kind : Bool → Bool → Bool → Type 0 where
  Low : Kind true false false
  Output : Kind false true false
  Input : Kind false false true

kind_by : (x y z : Bool) (b o i : Bool) → b ≡ x → o ≡ y → i ≡ z → Kind x y z → Kind b o i
kind_by x y z b o i e f g k =
    subst (λ (v : Bool). Kind v o i) (sym e) (subst (λ (v : Bool). Kind x v i) (sym f) (subst (λ (v : Bool). Kind x y v) (sym g) k))

lt_test : (r n : ℕ) → r < n → nat_lt r n ≡ true
lt_test r n h = grind (arith, nat_tests)

ge_test : (r n : ℕ) → n ≤ r → nat_lt r n ≡ false
ge_test r n h = grind (arith, nat_tests)

lt_no : (r n : ℕ) → r < n → nat_eq r n ≡ false
lt_no r n h = grind (arith, nat_tests)

gt_no : (r n : ℕ) → n < r → nat_eq r n ≡ false
gt_no r n h = grind (arith, nat_tests)

eq_yes : (r n : ℕ) → r ≡ n → nat_eq r n ≡ true
eq_yes r n h = grind (arith, nat_tests)

kind_at : (r : ℕ) → r < 32 → Kind (nat_lt r 30) (nat_eq r 30) (nat_eq r 31)
kind_at r h = elim (cases_lt r 30) [
  | inl low ↦ kind_by true false false _ _ _ (lt_test r 30 low) (lt_no r 30 low) (lt_no r 31 (omega arith)) Low
  | inr high ↦ elim (cases_lt r 31) [
    | inl less ↦ kind_by false true false _ _ _ (ge_test r 30 high) (eq_yes r 30 (omega arith)) (lt_no r 31 less) Output
    | inr more ↦ kind_by false false true _ _ _ (ge_test r 30 high) (gt_no r 30 (omega arith)) (eq_yes r 31 (omega arith)) Input
  ]
]

abbrev reads_by : Bool → Bool → ℕ → List Event
reads_by o i outer = cond o (Read Reg30 B4 outer ∷ []) (cond i (Read Reg31 B4 outer ∷ []) [])

abbrev take_by : Bool → List ℕ → Taken ℕ
take_by b values = cond b (Some (0, values)) (take_word values)

record ByKind (b o i : Bool) (outer low : ℕ) (part : Part) : Type 0 where
  taken : ℕ
  takes : (values : List ℕ) → take_by b (values_of (reads_by o i outer) ++ values) ≡ Some (taken, values)
  same_value : cond b low (part_of part taken) ≡ cond b low (part_of part outer)
  same_reads : reads_by o i taken ≡ reads_by o i outer

by_kind : (b o i : Bool) → Kind b o i → (outer low : ℕ) (part : Part) → outer < 2 ^ 32 → ByKind b o i outer low part
by_kind b o i Low outer low part small = record { taken = 0; takes = λ values. refl; same_value = refl; same_reads = refl }
by_kind b o i Output outer low part small =
    record { taken = outer; takes = λ values. ap (λ (n : ℕ). Some (n, values)) (mod-eq_of_lt small); same_value = refl; same_reads = refl }
by_kind b o i Input outer low part small =
    record { taken = outer; takes = λ values. ap (λ (n : ℕ). Some (n, values)) (mod-eq_of_lt small); same_value = refl; same_reads = refl }

-- what is taken for a source does as the register outside
pub record Sourced (f : Option Field) (reads : ℕ → List Event) (value : ℕ → ℕ) (outer : ℕ) : Type 0 where
  pub taken : ℕ
  pub takes : (values : List ℕ) → take_source f (values_of (reads outer) ++ values) ≡ Some (taken, values)
  pub same_value : value taken ≡ value outer
  pub same_reads : reads taken ≡ reads outer

pub field_sourced : (registers : List ℕ) (f : Field) (outer : ℕ) → outer < 2 ^ 32
    → Sourced (Some f) (λ o. field_reads o f) (λ o. field_value registers o f) outer
field_sourced registers f outer small =
    let low = by_kind (nat_lt f.reg 30) (nat_eq f.reg 30) (nat_eq f.reg 31) (kind_at f.reg f.in_range) outer
    (little_number (part_length f.part) (bytes_at (place_of f) (part_length f.part) registers)) f.part small in
    record { taken = low.taken; takes = low.takes; same_value = low.same_value; same_reads = low.same_reads }

pub operand_sourced : (registers : List ℕ) (b : Operand) (outer : ℕ) → outer < 2 ^ 32
    → Sourced (field_of b) (λ o. operand_reads o b) (λ o. operand_value registers o b) outer
operand_sourced registers (operand.Field f) outer small =
    let s = field_sourced registers f outer small in
    record { taken = s.taken; takes = s.takes; same_value = s.same_value; same_reads = s.same_reads }
operand_sourced registers (operand.Imm n) outer small = record { taken = 0; takes = λ values. refl; same_value = refl; same_reads = refl }

pub jump_sourced : (registers : List ℕ) (to : Jump) (outer : ℕ) → outer < 2 ^ 32
    → Sourced (field_in to) (λ o. jump_reads o to) (λ o. jump_number registers o to) outer
jump_sourced registers (jump.Field f) outer small =
    let s = field_sourced registers f outer small in
    record { taken = s.taken; takes = s.takes; same_value = ap (λ (n : ℕ). n % 2 ^ 16) s.same_value; same_reads = s.same_reads }
jump_sourced registers (jump.Word n) outer small = record { taken = 0; takes = λ values. refl; same_value = refl; same_reads = refl }
