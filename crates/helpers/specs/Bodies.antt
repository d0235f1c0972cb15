-- The bodies as listings.
use Rattle.std.specs.Prelude.{ℕ, ◌%◌, List, [], ◌∷◌, ◌++◌}
use Rattle.isa.specs.declared.control.BranchOffset.{BranchOffset}
use Rattle.isa.specs.declared.control.Condition.{Condition}
use Rattle.isa.specs.declared.control.Condition.TheVariants as conditions
use Rattle.isa.specs.declared.control.LoopBody.{LoopBody}
use Rattle.isa.specs.declared.control.Jump.TheVariants as jump
use Rattle.isa.specs.declared.field.Field.{Field}
use Rattle.isa.specs.declared.field.Operand.{Operand}
use Rattle.isa.specs.declared.field.Operand.TheVariants as operand
use Rattle.isa.specs.declared.field.Part.TheVariants as parts
use Rattle.isa.specs.declared.inst.AluOp.{AluOp}
use Rattle.isa.specs.declared.inst.AluOp.TheVariants as ops
use Rattle.isa.specs.declared.inst.Inst.TheVariants as inst
use Rattle.isa.specs.declared.note.NoteKind.TheVariants as kinds
use Rattle.isa.specs.declared.program.Item.{Item}
use Rattle.isa.specs.declared.program.Item.TheVariants as item
use Rattle.isa.specs.declared.program.Target.TheVariants as target
use Rattle.isa.specs.Ranges as Ranges
use Rattle.std.proofs.Common.{refl}

-- ---- items

abbrev pub whole : ℕ → Field
whole r = record { reg = r % 32; part = parts.All; in_range = Ranges.register r }

abbrev pub register : ℕ → Operand
register r = operand.Field (whole r)

abbrev pub calculated : AluOp → ℕ → ℕ → Operand → Item
calculated op d a b = item.Whole (inst.Alu op (whole d) (whole a) b)

abbrev pub loaded : ℕ → ℕ → Item
loaded d n = item.Whole (inst.Ldi (whole d) n)

abbrev pub turns : LoopBody
turns = record {
  count = 32;
  length = 1;
  once = Ranges.count_least 31;
  at_most = Ranges.count_greatest 31;
  some_word = Ranges.length_least 1 refl;
  short = Ranges.length_greatest 1 refl;
}

abbrev pub looped : ℕ → Item
looped end = item.Aimed (inst.Loop turns) (target.Label end)

abbrev pub unaimed : BranchOffset
unaimed = record { words = Ranges.signed 512; least = Ranges.signed_least 512; greatest = Ranges.signed_greatest 512 }

abbrev pub branched : Condition → ℕ → Operand → ℕ → Item
branched condition a b to = item.Aimed (inst.Branch condition unaimed (whole a) b) (target.Label to)

abbrev pub skipped : ℕ → Item
skipped to = item.Aimed (inst.Qba unaimed) (target.Label to)

abbrev pub return_field : Field
return_field = record { reg = 3; part = parts.W2; in_range = Ranges.register 3 }

abbrev pub returned : Item
returned = item.Whole (inst.Jmp (jump.Field return_field))

abbrev pub return_note : Item
return_note = item.Note kinds.Return 0

abbrev pub back : List Item
back = return_note ∷ returned ∷ []

-- ---- multiplication

abbrev pub multiplied : List Item
multiplied =
    loaded 16 0 ∷ loaded 17 32 ∷ looped 0 ∷ calculated ops.Sub 17 17 (operand.Imm 1) ∷ calculated ops.Add 16 16 (register 16)
    ∷ branched conditions.BitSet 15 (register 17) 1 ∷ skipped 0 ∷ item.Label 1 ∷ calculated ops.Add 16 16 (register 14)
    ∷ item.Label 0 ∷ calculated ops.Add 14 16 (operand.Imm 0) ∷ []

abbrev pub multiplication : List Item
multiplication = multiplied ++ back

-- ---- division

-- a register becomes 2^32 less itself, where bit 31 of another is 1
abbrev pub negated : ℕ → ℕ → ℕ → ℕ → List Item
negated r sign negative done =
    branched conditions.BitSet sign (operand.Imm 31) negative ∷ skipped done ∷ item.Label negative
    ∷ calculated ops.Rsb r r (operand.Imm 0) ∷ item.Label done ∷ []

abbrev pub magnitudes : List Item
magnitudes = negated 14 14 2 3 ++ negated 15 15 4 5

-- R16 becomes the quotient of R14 by R15, and R14 what is left over
abbrev pub divided : List Item
divided =
    loaded 16 0 ∷ loaded 17 32 ∷ looped 0 ∷ calculated ops.Sub 17 17 (operand.Imm 1) ∷ calculated ops.Lsr 18 14 (register 17)
    ∷ branched conditions.Le 18 (register 15) 1 ∷ loaded 18 0 ∷ loaded 18 0 ∷ skipped 0 ∷ item.Label 1
    ∷ calculated ops.Lsl 18 15 (register 17) ∷ calculated ops.Sub 14 14 (register 18) ∷ calculated ops.Set 16 16 (register 17)
    ∷ item.Label 0 ∷ []

-- bit 31 of R19 becomes the sign of the quotient, and 0 where R15 is 0
abbrev pub quotient_sign : List Item
quotient_sign =
    calculated ops.Xor 19 14 (register 15) ∷ branched conditions.Eq 15 (operand.Imm 0) 6 ∷ skipped 7 ∷ item.Label 6 ∷ loaded 19 0
    ∷ item.Label 7 ∷ []

abbrev pub quotient_moved : Item
quotient_moved = calculated ops.Add 14 16 (operand.Imm 0)

abbrev pub divided_unsigned : List Item
divided_unsigned = divided ++ (quotient_moved ∷ back)

abbrev pub rest_unsigned : List Item
rest_unsigned = divided ++ back

abbrev pub divided_signed : List Item
divided_signed = quotient_sign ++ (magnitudes ++ (divided ++ (quotient_moved ∷ (negated 14 19 8 9 ++ back))))

abbrev pub rest_signed : List Item
rest_signed = calculated ops.Add 19 14 (operand.Imm 0) ∷ (magnitudes ++ (divided ++ (negated 14 19 8 9 ++ back)))
