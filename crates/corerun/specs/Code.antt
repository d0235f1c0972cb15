-- The step of a core over instructions that stand at places, whatever numbers their words have. Words are such a code, and so are the
-- items of an
-- assembly program under any numbering: an item may be one word or several.
use Rattle.std.specs.Prelude.{◌≡◌, ℕ, ◌+◌, ◌-◌, ◌<◌, List, ◌++◌, Option, Some, None, unwrap_or, option_and_then}
use Rattle.isa.specs.declared.inst.Inst.{Inst}
use Rattle.isa.specs.declared.inst.Inst.TheVariants as inst
use Rattle.isa.specs.declared.note.Note.{Note}
use Rattle.isa.specs.Image.{Contents}
use Rattle.isa.specs.Note.{branch_target}
use Rattle.corestep.specs.declared.goes.Goes.{Goes}
use Rattle.corestep.specs.declared.goes.Goes.TheVariants.{Behind, Number, Target, Around, Nowhere}
use Rattle.corestep.specs.declared.onward.Onward.{Onward}
use Rattle.corestep.specs.declared.onward.Turning.{Turning}
use Rattle.corestep.specs.Core.{State, onward}
use Rattle.corestep.specs.Effect.{Given, Effect, effect}
use Rattle.corestep.specs.Step.{Stepped, inst_at, notes_at, marks_before, marks_behind, stop_of, stuck}

-- What stands at each place: an instruction, its notes, the number of its first word, and the place that it aims at, where it is a
-- branch, a jump
-- to a label, or a LOOP, which aims at the place behind its body. A place is found by its number.
pub record Code : Type 0 where
  pub inst : ℕ → Option Inst
  pub notes : ℕ → List Note
  pub number : ℕ → ℕ
  pub target : ℕ → Option ℕ
  pub place : ℕ → ℕ

-- the numbers rise from place to place, and a place is found by its own
pub record IsNumbered (code : Code) : Type 0 where
  pub rises : (p q : ℕ) → p < q → code.number p < code.number q
  pub found : (p : ℕ) → code.place (code.number p) ≡ p

-- the LOOP that begins behind a place
abbrev pub turning_at : Code → ℕ → Inst → Option Turning
turning_at code p (inst.Loop body) = Some (record { first = p + 1; end = unwrap_or (code.target p) (p + 1); left = body.count - 1 })
turning_at code p _ = None

-- where a core goes on behind the instruction at a place
abbrev pub goes_on_in : Code → ℕ → Option Turning → Inst → Goes → Onward
goes_on_in code p turning i Behind = onward (p + 1) turning
goes_on_in code p turning i (Number n) = onward (unwrap_or (code.target p) (code.place n)) turning
goes_on_in code p turning i Target = onward (unwrap_or (code.target p) p) turning
goes_on_in code p turning i Around = record { pc = p + 1; turning = turning_at code p i }
goes_on_in code p turning i Nowhere = record { pc = p; turning = turning }

abbrev pub after_effect_in : Code → State → Inst → Effect → Stepped
after_effect_in code s i e =
    let on = goes_on_in code s.pc s.turning i e.goes in
    record {
      core = record { pc = on.pc; turning = on.turning; registers = e.registers; ram = e.ram };
      out = record {
        events = marks_before (code.notes s.pc) ++ (e.events ++ marks_behind (code.notes s.pc));
        at = e.at;
        stored =
            e.stored;
        stop = stop_of e.goes;
      };
    }

abbrev pub step_by_code : Code → State → Given → Option Inst → Stepped
step_by_code code s g None = stuck s
step_by_code code s g (Some i) = after_effect_in code s i (effect (code.number (s.pc + 1)) s.registers s.ram g i)

-- the step of the instruction at the core's place; the counter of its state is a place
abbrev pub code_step : Code → State → Given → Stepped
code_step code s g = step_by_code code s g (code.inst s.pc)

-- ---- words are a code: each place is its own number

abbrev pub target_of_word : ℕ → Inst → Option ℕ
target_of_word p (inst.Branch condition offset a b) = Some (branch_target p offset)
target_of_word p (inst.Qba offset) = Some (branch_target p offset)
target_of_word p (inst.Loop body) = Some (p + 1 + body.length)
target_of_word p _ = None

abbrev pub code_of_words : Contents → Code
code_of_words image = record {
  inst = λ p. inst_at image.words p;
  notes = λ p. notes_at image.notes p;
  number = λ p. p;
  target = λ p. option_and_then (target_of_word p) (inst_at image.words p);
  place = λ n. n;
}
