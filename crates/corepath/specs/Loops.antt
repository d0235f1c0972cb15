-- Loops that a note limits: a branch back with Turns is taken one time less than the loop is run.
use Rattle.std.specs.Prelude.{◌≡◌, ℕ, ◌+◌, ◌-◌, ◌<◌, ◌==◌, ◌&&◌, Bool, true, false, nat_le}
use Rattle.std.specs.Prelude.{List, Option, Some, None, option_and_then, option_map}
use Rattle.std.specs.List.{AllByRecursion}
use Rattle.isa.specs.declared.control.LoopBody.{LoopBody}
use Rattle.isa.specs.declared.inst.Inst.{Inst}
use Rattle.isa.specs.declared.inst.Inst.TheVariants as inst
use Rattle.isa.specs.declared.note.NoteKind.TheVariants.{Turns}
use Rattle.corestep.specs.Step.{value_of_kind}
use Rattle.corerun.specs.Code.{Code}
use Rattle.corepath.specs.Flow.{aim_or, jump_aim}

-- the words from its first to its last, which branches back to the first, and how often it is run
pub record Loop : Type 0 where
  pub first : ℕ
  pub last : ℕ
  pub turns : ℕ

-- where a branch at w, or a jump to a number, goes
abbrev pub branch_aim : Code → ℕ → Inst → Option ℕ
branch_aim code w (inst.Branch condition offset a b) = Some (aim_or code w w)
branch_aim code w (inst.Qba offset) = Some (aim_or code w w)
branch_aim code w (inst.Jmp to) = jump_aim code w to
branch_aim code w _ = None

-- the loop of a word with a Turns note
abbrev pub loop_at : Code → ℕ → Option Loop
loop_at code w =
    option_and_then (λ n. option_map (λ q. record { first = q; last = w; turns = n })
    (option_and_then (branch_aim code w) (code.inst w)))
    (value_of_kind Turns (code.notes w))

-- the place behind the body of a LOOP at w, and the body as a loop
abbrev pub body_end : Code → ℕ → ℕ
body_end code w = aim_or code w (w + 1)

abbrev pub body_at : Code → ℕ → LoopBody → Loop
body_at code w body = record { first = w + 1; last = body_end code w - 1; turns = body.count }

abbrev pub holds : Loop → ℕ → Bool
holds l w = nat_le l.first w && nat_le w l.last

-- ---- counts: how often each loop has turned since a path entered it, and 0 outside of it

-- what a step is to a loop
pub data Move : Type 0 where
  Stay : Move
  Turn : Move
  Leave : Move

abbrev pub move_by : Bool → Bool → Bool → Move
move_by false inside turns = Stay
move_by true false turns = Leave
move_by true true false = Stay
move_by true true true = Turn

-- A step from word w to word v. The loop's last word turns it by going to the first.
abbrev pub move : Loop → ℕ → ℕ → Move
move l w v = move_by (holds l w) (holds l v) ((w == l.last) && (v == l.first))

-- A loop that runs has turned at most one time less than it is run, and one that is left just so often.
abbrev pub Counted : Move → ℕ → ℕ → ℕ → Type 0
Counted Stay turns k after = after ≡ k
Counted Turn turns k after = (after ≡ k + 1) × (after < turns)
Counted Leave turns k after = (k + 1 ≡ turns) × (after ≡ 0)

abbrev pub Counts : List Loop → ℕ → ℕ → (Loop → ℕ) → (Loop → ℕ) → Type 0
Counts loops w v k after = AllByRecursion (λ l. Counted (move l w v) l.turns (k l) (after l)) loops

abbrev pub NoneTurned : List Loop → (Loop → ℕ) → Type 0
NoneTurned loops k = AllByRecursion (λ l. k l ≡ 0) loops

-- a function that returns at word b leaves all loops that hold this word
abbrev pub LeftBy : Bool → ℕ → ℕ → Type 0
LeftBy true turns k = k + 1 ≡ turns
LeftBy false turns k = Unit {0}

abbrev pub AllLeft : List Loop → ℕ → (Loop → ℕ) → Type 0
AllLeft loops b k = AllByRecursion (λ l. LeftBy (holds l b) l.turns (k l)) loops
