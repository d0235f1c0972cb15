-- Why a region gets no certificate. Each cause stands at a word, and speaks of paths that have the turns of all loops free.
use Rattle.std.specs.Prelude.{◌≡◌, ◌≢◌, ℕ, ◌+◌, ◌≤◌, ◌⊎◌, Bool, true, false, nat_le, List, Option, Some, None, Contains}
use Rattle.std.specs.List.{AllByRecursion}
use Rattle.isa.specs.declared.control.LoopBody.{LoopBody}
use Rattle.isa.specs.declared.inst.Inst.{Inst}
use Rattle.isa.specs.declared.inst.Inst.TheVariants as inst
use Rattle.isa.specs.declared.note.NoteKind.TheVariants.{Own, Return, Turns}
use Rattle.isa.specs.Note.{is_access, is_jump_to_field}
use Rattle.corerun.specs.Code.{Code}
use Rattle.corepath.specs.Flow.{has_note, leaves, called, Goes, Calls, Returns, Reaches, IsEntry, IsCalled, Reached, CallsOn}
use Rattle.corepath.specs.Loops.{Loop, loop_at, body_at, body_end, branch_aim, holds}

-- the loops that limit paths are those of the reached words with Turns, each one once or more
pub record AreLoops (code : Code) (region first : ℕ) (loops : List Loop) : Type 0 where
  pub each : AllByRecursion (λ l. (loop_at code l.last ≡ Some l) × Reached code region first l.last) loops
  pub all : (l : Loop) → loop_at code l.last ≡ Some l → Reached code region first l.last → Contains loops l

-- ---- an access that isn't known to stay in the own RAM

pub record Touches (code : Code) (region first w : ℕ) : Type 0 where
  pub reached : Reached code region first w
  pub inst : Inst
  pub is : code.inst w ≡ Some inst
  pub accesses : is_access inst ≡ true
  pub foreign : has_note code Own w ≡ false

-- ---- no bound

-- a branch, or a jump to a number, whose aim isn't behind it
abbrev pub is_at_most : ℕ → Option ℕ → Bool
is_at_most w None = false
is_at_most w (Some d) = nat_le d w

abbrev pub goes_back : Code → ℕ → Inst → Bool
goes_back code w i = is_at_most w (branch_aim code w i)

-- a call to a register
abbrev pub calls_register : Inst → Bool
calls_register (inst.Jal field to) = is_jump_to_field (inst.Jmp to)
calls_register _ = false

abbrev pub is_halt : Inst → Bool
is_halt inst.Halt = true
is_halt _ = false

pub data Unbounded (code : Code) (region first w : ℕ) : Type 0 where
  -- a branch back without Turns
  back : (i : Inst) → Reached code region first w → code.inst w ≡ Some i → goes_back code w i ≡ true
      → has_note code Turns w ≡ false
      → Unbounded code region first w
  -- a jump to a register without Return
  jump : (i : Inst) → Reached code region first w → code.inst w ≡ Some i → is_jump_to_field i ≡ true
      → has_note code Return w ≡ false
      → Unbounded code region first w
  -- a return with no call open
  return : (i : Inst) → Reaches code region first w → code.inst w ≡ Some i → is_jump_to_field i ≡ true
      → Unbounded code region first w
  -- a call to a register
  call : (i : Inst) → Reached code region first w → code.inst w ≡ Some i → calls_register i ≡ true
      → Unbounded code region first w
  -- a call from f to g where g comes to f by calls, or is f
  cycle : (f g : ℕ) → IsEntry code region first f → Reaches code region f w → Calls code region w g
      → (g ≡ f) ⊎ CallsOn code region g f
      → Unbounded code region first w
  halt : Reached code region first w → code.inst w ≡ Some inst.Halt → Unbounded code region first w

-- ---- loops that cross

-- A path goes from one word to another in one function, by a step or round a call.
pub data Passes (code : Code) (region first u v : ℕ) : Type 0 where
  step : (e : ℕ) → IsEntry code region first e → Reaches code region e u → Goes code region u v → Passes code region first u v
  call : (e f b : ℕ) → IsEntry code region first e → Reaches code region e u → Calls code region u f
      → Reaches code region f b → Returns code region b → v ≡ u + 1
      → Passes code region first u v

-- a reached word with Turns, or a reached LOOP word, and its loop
pub data IsLoopOf (code : Code) (region first w : ℕ) (l : Loop) : Type 0 where
  turns : Reached code region first w → loop_at code w ≡ Some l → IsLoopOf code region first w l
  body : (b : LoopBody) → Reached code region first w → code.inst w ≡ Some (inst.Loop b) → l ≡ body_at code w b
      → IsLoopOf code region first w l

-- all words of the one are words of the other
abbrev pub LiesIn : Loop → Loop → Type 0
LiesIn a b = (b.first ≤ a.first) × (a.last ≤ b.last)

pub data Crossed (code : Code) (region first w : ℕ) : Type 0 where
  -- The loop of a word with Turns is entered at another word than its first: from outside,
  entered : (l : Loop) (u v : ℕ) → Reached code region first w → loop_at code w ≡ Some l → Passes code region first u v
      → holds l u ≡ false → holds l v ≡ true → v ≢ l.first
      → Crossed code region first w
  -- or because the region, or a called function, begins there.
  begun : (l : Loop) (e : ℕ) → Reached code region first w → loop_at code w ≡ Some l → IsEntry code region first e
      → holds l e ≡ true → e ≢ l.first
      → Crossed code region first w
  -- A word of a loop is run in a call that is made in the loop.
  run_in_call : (l : Loop) (e u f g x : ℕ) → loop_at code w ≡ Some l → IsEntry code region first e → Reaches code region e u
      → holds l u ≡ true → Calls code region u f → (g ≡ f) ⊎ CallsOn code region f g → Reaches code region g x → holds l x ≡ true
      → Crossed code region first w
  -- The body of a LOOP is entered otherwise than from its LOOP word,
  body_entered : (b : LoopBody) (u v : ℕ) → Reached code region first w → code.inst w ≡ Some (inst.Loop b)
      → Passes code region first u v → u ≢ w → holds (body_at code w b) u ≡ false → holds (body_at code w b) v ≡ true
      → Crossed code region first w
  -- as by a call,
  body_called : (b : LoopBody) (f : ℕ) → Reached code region first w → code.inst w ≡ Some (inst.Loop b)
      → IsCalled code region first f → holds (body_at code w b) f ≡ true
      → Crossed code region first w
  -- or is left for another word than the one behind it,
  body_left : (b : LoopBody) (u v : ℕ) → Reached code region first w → code.inst w ≡ Some (inst.Loop b)
      → Passes code region first u v → holds (body_at code w b) u ≡ true → holds (body_at code w b) v ≡ false → v ≢ body_end code w
      → Crossed code region first w
  -- past the code,
  body_runs_out : (b : LoopBody) (u v : ℕ) → Reached code region first w → code.inst w ≡ Some (inst.Loop b)
      → Passes code region first u v → holds (body_at code w b) u ≡ true → code.inst v ≡ None
      → Crossed code region first w
  -- or by a return.
  body_returns : (b : LoopBody) (f u : ℕ) → Reached code region first w → code.inst w ≡ Some (inst.Loop b)
      → IsCalled code region first f → Reaches code region f u → Returns code region u → holds (body_at code w b) u ≡ true
      → Crossed code region first w
  -- It holds a call,
  body_calls : (b : LoopBody) (u : ℕ) (i : Inst) → Reached code region first w → code.inst w ≡ Some (inst.Loop b)
      → Reached code region first u → holds (body_at code w b) u ≡ true → code.inst u ≡ Some i
      → ((f : ℕ) × (called code u i ≡ Some f)) ⊎ (calls_register i ≡ true)
      → Crossed code region first w
  -- or another LOOP.
  body_nests : (b c : LoopBody) (u : ℕ) → Reached code region first w → code.inst w ≡ Some (inst.Loop b)
      → Reached code region first u → holds (body_at code w b) u ≡ true → code.inst u ≡ Some (inst.Loop c)
      → Crossed code region first w
  -- A turn of the LOOP would not leave an inner loop that begins with its body and runs to the body's end.
  body_shared : (b : LoopBody) (l : Loop) (u : ℕ) → Reached code region first w → code.inst w ≡ Some (inst.Loop b)
      → IsLoopOf code region first l.last l → loop_at code l.last ≡ Some l → holds (body_at code w b) l.last ≡ true → l.first ≡ w + 1
      → Reached code region first u → holds l u ≡ true → Goes code region u (body_end code w)
      → Crossed code region first w
  -- A loop holds a word with the region's Leave mark,
  ends_inside : (l : Loop) (u : ℕ) → IsLoopOf code region first w l → holds l u ≡ true → leaves code region u ≡ true
      → Crossed code region first w
  -- or shares words with another while neither lies in the other.
  overlaps : (l other : Loop) (p u : ℕ) → IsLoopOf code region first w l → IsLoopOf code region first p other
      → holds l u ≡ true → holds other u ≡ true → (LiesIn l other → ⊥) → (LiesIn other l → ⊥)
      → Crossed code region first w
  -- A path comes to a word with the region's Leave mark with a call open.
  ends_in_call : (f : ℕ) (i : Inst) → IsCalled code region first f → Reaches code region f w → code.inst w ≡ Some i
      → leaves code region w ≡ true
      → Crossed code region first w
