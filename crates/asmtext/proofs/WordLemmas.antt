-- Notes on words, by their mnemonics and by the instructions that are made of them.
use Rattle.std.proofs.Common.{◌≡◌, ℕ, List, Bool, true, false, ◌&&◌, refl, ap, sym, ◌∙◌}
use Rattle.std.proofs.lemmas.Bool.{and_parts, and_from}
use Rattle.isa.specs.declared.access.Base.{Base}
use Rattle.isa.specs.declared.access.Base.TheVariants as base
use Rattle.isa.specs.declared.control.Jump.TheVariants as jump
use Rattle.isa.specs.declared.inst.Inst.{Inst}
use Rattle.isa.specs.declared.inst.Inst.TheVariants as inst
use Rattle.isa.specs.declared.note.NoteKind.{NoteKind}
use Rattle.isa.specs.declared.note.NoteKind.TheVariants.{Enter, DelayIn, DelayOut, Leave, Own, Return, Turns}
use Rattle.isa.specs.declared.program.Item.TheVariants as item
use Rattle.isa.specs.declared.program.Target.TheVariants as target
use Rattle.isa.specs.Judging.{has, may_precede}
use Rattle.isa.specs.Note as word
use Rattle.isa.specs.Program as program
use Rattle.isa.specs.Program.{has_target}
use Rattle.asmword.specs.declared.form.Form.{Form}
use Rattle.asmword.specs.declared.mnemonic.Mnemonic.TheVariants.{Lbbo, Lbco, Sbbo, Sbco}
use Rattle.asmword.specs.Forms.{written, base_mnemonic}
use Rattle.asmtext.specs.Causes.{is_loop}
use Rattle.asmtext.specs.Notes.{is_access, is_jump, is_branch, may_rest, may_aim}

load_accesses : (b : Base) → true ≡ is_access (base_mnemonic Lbbo Lbco b)
load_accesses (base.Reg n) = refl
load_accesses (base.Constant c) = refl

store_accesses : (b : Base) → true ≡ is_access (base_mnemonic Sbbo Sbco b)
store_accesses (base.Reg n) = refl
store_accesses (base.Constant c) = refl

own_is : (i : Inst) → word.is_access i ≡ is_access (written i).mnemonic
own_is (inst.Load access) = load_accesses access.base
own_is (inst.Store access) = store_accesses access.base
own_is _ = refl

load_stays : (b : Base) → false ≡ is_jump (base_mnemonic Lbbo Lbco b)
load_stays (base.Reg n) = refl
load_stays (base.Constant c) = refl

store_stays : (b : Base) → false ≡ is_jump (base_mnemonic Sbbo Sbco b)
store_stays (base.Reg n) = refl
store_stays (base.Constant c) = refl

return_is : (i : Inst) → has_target i ≡ false → word.is_jump_to_field i ≡ is_jump (written i).mnemonic
return_is (inst.Load access) h = load_stays access.base
return_is (inst.Store access) h = store_stays access.base
return_is (inst.Jmp (jump.Word n)) h = sym h
return_is _ h = refl

rest_is : (k : NoteKind) (i : Inst) → has_target i ≡ false → program.may_rest k i ≡ may_rest k (written i).mnemonic
rest_is Enter i h = refl
rest_is DelayIn i h = refl
rest_is DelayOut i h = refl
rest_is Leave i h = refl
rest_is Own i h = own_is i
rest_is Return i h = return_is i h
rest_is Turns i h = refl

pub may_rest_too : (k : NoteKind) (i : Inst) (form : Form) → written i ≡ form → has_target i ≡ false
    → may_rest k form.mnemonic ≡ true → program.may_rest k i ≡ true
may_rest_too k i form e h m = rest_is k i h ∙ ap (λ f. may_rest k f.mnemonic) e ∙ m

turns_is : (i : Inst) → has_target i ≡ true → is_branch (written i).mnemonic ≡ true → program.is_branch i ≡ true
turns_is (inst.Branch condition offset a b) h m = refl
turns_is (inst.Qba offset) h m = refl
turns_is (inst.Jmp (jump.Word n)) h m = refl
turns_is (inst.Jal d (jump.Word n)) h m = m
turns_is (inst.Loop body) h m = m
turns_is _ h m = h

aim_is : (k : NoteKind) (i : Inst) (l : ℕ) (before : List ℕ) (back : Bool) → has_target i ≡ true
    → may_aim k (written i).mnemonic back ≡ true → (back ≡ true → has before l ≡ true)
    → program.may_aim before k i (target.Label l) ≡ true
aim_is Enter i l before back h m f = refl
aim_is DelayIn i l before back h m f = refl
aim_is DelayOut i l before back h m f = refl
aim_is Leave i l before back h m f = refl
aim_is Own i l before back h m f = m
aim_is Return i l before back h m f = m
aim_is Turns i l before back h m f =
    let parts = and_parts (is_branch (written i).mnemonic) back m in
    and_from (program.is_branch i) (has before l) (turns_is i h parts.0) (f parts.1)

pub may_aim_too : (k : NoteKind) (i : Inst) (form : Form) (l : ℕ) (before : List ℕ) (back : Bool) → written i ≡ form → has_target i ≡ true
    → may_aim k form.mnemonic back ≡ true → (back ≡ true → has before l ≡ true)
    → program.may_aim before k i (target.Label l) ≡ true
may_aim_too k i form l before back e h m f =
    aim_is k i l before back h (ap (λ g. may_aim k g.mnemonic back) e ∙ m) f

pub aimed_precedes : (i : Inst) (form : Form) (behind : List ℕ) (l : ℕ) → written i ≡ form
    → (is_loop form.mnemonic ≡ true → has behind l ≡ true) → may_precede behind (item.Aimed i (target.Label l)) ≡ true
aimed_precedes (inst.Loop body) form behind l e f = f (ap (λ g. is_loop g.mnemonic) (sym e))
aimed_precedes _ form behind l e f = refl
