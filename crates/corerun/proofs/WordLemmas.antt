-- A core's step over words is its step over the code that the words are.
use Rattle.std.proofs.Common.{◌≡◌, ℕ, ◌+◌, ◌-◌, ◌<◌, ◌++◌, Bool, true, false, cond, Option, Some, None, refl, sym, ap, ◌∙◌, option_and_then}
use Rattle.std.specs.Prelude.{unwrap_or}
use Rattle.isa.specs.declared.inst.Inst.{Inst}
use Rattle.isa.specs.declared.inst.Inst.TheVariants as inst
use Rattle.isa.specs.Image.{Contents}
use Rattle.corestep.specs.declared.goes.Goes.{Goes}
use Rattle.corestep.specs.declared.goes.Goes.TheVariants.{Behind, Number, Target, Around, Nowhere}
use Rattle.corestep.specs.declared.onward.Onward.{Onward}
use Rattle.corestep.specs.declared.onward.Turning.{Turning}
use Rattle.corestep.specs.Core.{State, onward}
use Rattle.corestep.specs.Effect.{Given, Effect, effect}
use Rattle.corestep.specs.Step.{Stepped, istep, step_by, inst_at, goes_on, marks_before, marks_behind, stop_of, notes_at}
use Rattle.corerun.specs.Code.{Code, IsNumbered, code_of_words, code_step, step_by_code, goes_on_in, target_of_word}

pub words_numbered : (image : Contents) → IsNumbered (code_of_words image)
words_numbered image = record { rises = λ p q less. less; found = λ p. refl }

either_behind : (b : Bool) (x y : Effect) → x.goes ≡ Behind → y.goes ≡ Behind → (cond b x y).goes ≡ Behind
either_behind true x y at_x at_y = at_x
either_behind false x y at_x at_y = at_y

-- whatever the instruction does, the two go on alike
module _ (image : Contents) (s : State) where
  behind : (i : Inst) (goes : Goes) → goes ≡ Behind → goes_on s.pc s.turning i goes ≡ goes_on_in (code_of_words image) s.pc s.turning i goes
  behind i goes is =
      ap (goes_on s.pc s.turning i) is ∙ sym (ap (goes_on_in (code_of_words image) s.pc s.turning i) is)

  numbered : (i : Inst) (n : ℕ) → (code_of_words image).target s.pc ≡ None
      → goes_on s.pc s.turning i (Number n) ≡ goes_on_in (code_of_words image) s.pc s.turning i (Number n)
  numbered i n none = ap (λ (o : Option ℕ). onward (unwrap_or o n) s.turning) (sym none)

  aimed : (i : Inst) (p : ℕ) (b : Bool) → goes_on s.pc s.turning i Target ≡ onward p s.turning → (code_of_words image).target s.pc ≡ Some p
      → goes_on s.pc s.turning i (cond b Target Behind) ≡ goes_on_in (code_of_words image) s.pc s.turning i (cond b Target Behind)
  aimed i p true at some = at ∙ ap (λ (o : Option ℕ). onward (unwrap_or o s.pc) s.turning) (sym some)
  aimed i p false at some = refl

  goes_alike : (g : Given) (i : Inst) → (code_of_words image).target s.pc ≡ target_of_word s.pc i
      → goes_on s.pc s.turning i (effect (s.pc + 1) s.registers s.ram g i).goes
      ≡ goes_on_in (code_of_words image) s.pc s.turning i (effect (s.pc + 1) s.registers s.ram g i).goes
  goes_alike g (inst.Alu op d a b) at = refl
  goes_alike g (inst.Not d a) at = refl
  goes_alike g (inst.Jmp to) at = numbered (inst.Jmp to) _ at
  goes_alike g (inst.Jal d to) at = numbered (inst.Jal d to) _ at
  goes_alike g (inst.Ldi d n) at = refl
  goes_alike g (inst.Lmbd d a b) at = refl
  goes_alike g inst.Halt at = refl
  goes_alike g (inst.Xin t) at = refl
  goes_alike g (inst.Xout t) at = refl
  goes_alike g (inst.Loop body) at =
      ap (λ (o : Option ℕ). record {
        pc = s.pc + 1;
        turning =
            Some (record { first = s.pc + 1; end = unwrap_or o (s.pc + 1); left = body.count - 1 });
      }) (sym at)
  goes_alike g (inst.Branch condition offset a b) at = aimed (inst.Branch condition offset a b) _ _ refl at
  goes_alike g (inst.Qba offset) at = aimed (inst.Qba offset) _ true refl at
  goes_alike g (inst.Load a) at = behind (inst.Load a) _ (either_behind _ _ _ refl refl)
  goes_alike g (inst.Store a) at = behind (inst.Store a) _ (either_behind _ _ _ refl refl)

  alike : (g : Given) (o : Option Inst) → inst_at image.words s.pc ≡ o
      → step_by image.notes s g o ≡ step_by_code (code_of_words image) s g o
  alike g None at = refl
  alike g (Some i) at =
      let e : Effect = effect (s.pc + 1) s.registers s.ram g i in
      let notes = notes_at image.notes s.pc in
      ap (λ (on : Onward). record {
        core = record { pc = on.pc; turning = on.turning; registers = e.registers; ram = e.ram };
        out = record {
          events = marks_before notes ++ (e.events ++ marks_behind notes);
          at = e.at;
          stored = e.stored;
          stop =
              stop_of e.goes;
        };
      }) (goes_alike g i (ap (option_and_then (target_of_word s.pc)) at))

pub words_step : (image : Contents) (s : State) (g : Given) → istep image s g ≡ code_step (code_of_words image) s g
unfolding istep
words_step image s g = alike image s g (inst_at image.words s.pc) refl
