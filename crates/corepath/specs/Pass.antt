-- Passes of a run: from a word at a region's entry to the next word with its Leave mark. A pass that keeps the notes, and is closed, is
-- told by what the run does, word by word.
use Rattle.std.specs.Prelude.{◌≡◌, ℕ, ◌+◌, ◌⊎◌, Bool, true, false, List, [], ◌∷◌, Option, Some, None}
use Rattle.isa.specs.declared.inst.Inst.{Inst}
use Rattle.isa.specs.declared.inst.Inst.TheVariants as inst
use Rattle.isa.specs.declared.control.Jump.{Jump}
use Rattle.isa.specs.declared.control.Jump.TheVariants as jump
use Rattle.isa.specs.declared.note.NoteKind.TheVariants.{Return}
use Rattle.isa.specs.Image.{Contents}
use Rattle.isa.specs.Note.{is_access, is_jump_to_field}
use Rattle.behaviour.specs.Ran.{Done}
use Rattle.corestep.specs.declared.onward.Turning.{Turning}
use Rattle.corestep.specs.declared.out.Stop.TheVariants.{Going}
use Rattle.corestep.specs.declared.table.Class.TheVariants.{Own}
use Rattle.corestep.specs.declared.table.Table.{Table}
use Rattle.corestep.specs.Core.{State}
use Rattle.corestep.specs.Cost.{cost}
use Rattle.corestep.specs.Memory.{address_of, class_of}
use Rattle.corestep.specs.Step.{inst_at}
use Rattle.corerun.specs.Code.{code_of_words}
use Rattle.corerun.specs.Solo.{Alone, alone_step}
use Rattle.corepath.specs.Flow.{called, has_note, leaves}
use Rattle.corepath.specs.Loops.{Loop, Counts, NoneTurned, AllLeft}
use Rattle.corepath.specs.Path.{is_loop}

-- neither a call nor a jump to a register
abbrev pub is_plain_jump : Jump → Bool
is_plain_jump (jump.Word n) = true
is_plain_jump (jump.Field f) = false

abbrev pub is_plain : Inst → Bool
is_plain (inst.Jal field to) = false
is_plain (inst.Jmp to) = is_plain_jump to
is_plain _ = true

-- the address of a memory word; 0 of any other word
abbrev pub address : State → Inst → ℕ
address s (inst.Load a) = address_of s.registers a
address s (inst.Store a) = address_of s.registers a
address s _ = 0

-- The run does the word at its counter and goes on. The region doesn't end with it, and an access is of the own RAM.
pub record Does (image : Contents) (region : ℕ) (now next : Alone) : Type 0 where
  pub inst : Inst
  pub is : inst_at image.words now.core.pc ≡ Some inst
  pub stays : leaves (code_of_words image) region now.core.pc ≡ false
  pub own : is_access inst ≡ true → class_of (address now.core inst) ≡ Own
  pub done : alone_step image now ≡ Done tt next
  pub going : next.stands ≡ Going

-- the cycles that it takes then
abbrev pub cycles_of : Table → State → Inst → ℕ
cycles_of table s i = cost table i (address s i) 0

-- no LOOP turned that the run was already in when the pass began
abbrev pub Stays : Alone → Alone → Type 0
Stays now next = (next.core.turning ≡ now.core.turning) ⊎ (next.core.turning ≡ None)

-- The LOOP that began in the pass, behind a word: one that runs goes on as the core has it, and one begins with a LOOP word. A LOOP that
-- the run was already in isn't one of the pass, and doesn't turn.
abbrev pub TurningBy : Bool → Option Turning → Alone → Alone → Option Turning → Type 0
TurningBy true turning now next after = after ≡ next.core.turning
TurningBy false (Some t) now next after = after ≡ next.core.turning
TurningBy false None now next after = (after ≡ None) × Stays now next

abbrev pub TurningBehind : Option Turning → Alone → Alone → Inst → Option Turning → Type 0
TurningBehind turning now next i after = TurningBy (is_loop i) turning now next after

-- A call that is open: the entry of the function that made it, the word that did, how often its loops have turned, at how many cycles of
-- the pass the function began, and at how many it made the call.
pub record Open : Type 0 where
  pub entry : ℕ
  pub word : ℕ
  pub counts : Loop → ℕ
  pub began : ℕ
  pub at : ℕ

-- A pass of a run so far: the calls that are open, the entry of the function that runs and at how many cycles it began, the LOOP that began
-- in it, how often its loops have turned, the cycles so far, and the core. Of a closed pass that keeps the notes each loop that is left
-- has turned one time less than it is run, a return goes behind the latest open call, and no LOOP that the run was already in turns. A pass
-- with a call or a return in a LOOP's body is not told of: that LOOP is crossed.
pub data Passing (table : Table) (image : Contents) (region : ℕ) (loops : List Loop) (from : Alone)
    : List Open → ℕ → ℕ → Option Turning → (Loop → ℕ) → ℕ → Alone → Type 0 where
  begin : (k : Loop → ℕ) → NoneTurned loops k → Passing table image region loops from [] from.core.pc 0 None k 0 from
  word : (calls : List Open) (e began c : ℕ) (t after : Option Turning) (k j : Loop → ℕ) (now next : Alone)
      → Passing table image region loops from calls e began t k c now → (did : Does image region now next)
      → is_plain did.inst ≡ true → TurningBehind t now next did.inst after
      → Counts loops now.core.pc next.core.pc k j
      → Passing table image region loops from calls e began after j (c + cycles_of table now.core did.inst) next
  call : (calls : List Open) (e began c f : ℕ) (k j : Loop → ℕ) (now next : Alone)
      → Passing table image region loops from calls e began None k c now → (did : Does image region now next)
      → called (code_of_words image) now.core.pc did.inst ≡ Some f → Stays now next → NoneTurned loops j
      → Passing table image region loops from (record { entry = e; word = now.core.pc; counts = k; began = began; at = c } ∷ calls) f
      (c + cycles_of table now.core did.inst) None j (c + cycles_of table now.core did.inst) next
  return : (calls : List Open) (caller : Open) (f began c : ℕ) (k j : Loop → ℕ) (now next : Alone)
      → Passing table image region loops from (caller ∷ calls) f began None k c now → (did : Does image region now next)
      → is_jump_to_field did.inst ≡ true → has_note (code_of_words image) Return now.core.pc ≡ true → next.core.pc ≡ caller.word + 1
      → Stays now next → AllLeft loops now.core.pc k → Counts loops caller.word (caller.word + 1) caller.counts j
      → Passing table image region loops from calls caller.entry caller.began None j (c + cycles_of table now.core did.inst) next

-- a whole pass and the cycles that it takes
pub record IsPass (table : Table) (image : Contents) (region : ℕ) (loops : List Loop) (from : Alone) (cycles : ℕ) : Type 0 where
  pub turning : Option Turning
  pub counts : Loop → ℕ
  pub before : ℕ
  pub last : Alone
  pub inst : Inst
  pub passing : Passing table image region loops from [] from.core.pc 0 turning counts before last
  pub is : inst_at image.words last.core.pc ≡ Some inst
  pub left : leaves (code_of_words image) region last.core.pc ≡ true
  pub own : is_access inst ≡ true → class_of (address last.core inst) ≡ Own
  pub cycles_are : cycles ≡ before + cycles_of table last.core inst
