-- Where control goes in a region of a code, with the turns of all loops left free. A call is one step of what calls it: the places of a
-- called function are reached from that function's own entry. The code may be the words of an image, or the items of a program under any
-- numbering; a word is what stands at a place.
use Rattle.std.specs.Prelude.{◌≡◌, ℕ, ◌+◌, ◌==◌, ◌&&◌, ◌⊎◌, Bool, true, false, Option, Some, None, unwrap_or}
use Rattle.std.specs.List.{list_any}
use Rattle.isa.specs.declared.control.Jump.{Jump}
use Rattle.isa.specs.declared.control.Jump.TheVariants as jump
use Rattle.isa.specs.declared.inst.Inst.{Inst}
use Rattle.isa.specs.declared.inst.Inst.TheVariants as inst
use Rattle.isa.specs.declared.note.Note.{Note}
use Rattle.isa.specs.declared.note.NoteKind.{NoteKind}
use Rattle.isa.specs.declared.note.NoteKind.TheVariants.{Leave, Return}
use Rattle.isa.specs.Note.{kind_number, is_jump_to_field}
use Rattle.corerun.specs.Code.{Code}

-- ---- notes

-- a word has a note of a kind
abbrev pub has_note : Code → NoteKind → ℕ → Bool
has_note code kind w = list_any (λ n. kind_number n.kind == kind_number kind) (code.notes w)

abbrev pub is_mark : NoteKind → ℕ → Note → Bool
is_mark kind region n = (kind_number n.kind == kind_number kind) && (n.value == region)

-- a word has the region's Leave mark: a path ends behind the first of these
abbrev pub leaves : Code → ℕ → ℕ → Bool
leaves code region w = list_any (is_mark Leave region) (code.notes w)

-- ---- a word

-- where an instruction at w aims, or this place where it has no aim
abbrev pub aim_or : Code → ℕ → ℕ → ℕ
aim_or code w p = unwrap_or (code.target w) p

-- where a jump at w to a number goes
abbrev pub jump_aim : Code → ℕ → Jump → Option ℕ
jump_aim code w (jump.Word n) = Some (aim_or code w (code.place n))
jump_aim code w (jump.Field f) = None

-- The words that an instruction at w may go to, calls and returns aside. A jump to a register goes nowhere that is known.
abbrev pub Aims : Code → ℕ → Inst → ℕ → Type 0
Aims code w (inst.Branch condition offset a b) d = (d ≡ aim_or code w w) ⊎ (d ≡ w + 1)
Aims code w (inst.Qba offset) d = d ≡ aim_or code w w
Aims code w (inst.Jmp to) d = jump_aim code w to ≡ Some d
Aims code w (inst.Jal field to) d = ⊥
Aims code w inst.Halt d = ⊥
Aims code w _ d = d ≡ w + 1

-- the function that an instruction at w calls
abbrev pub called : Code → ℕ → Inst → Option ℕ
called code w (inst.Jal field to) = jump_aim code w to
called code w _ = None

-- a path goes from word w to word d, unless it ended there
pub record Goes (code : Code) (region w d : ℕ) : Type 0 where
  pub inst : Inst
  pub is : code.inst w ≡ Some inst
  pub stays : leaves code region w ≡ false
  pub aims : Aims code w inst d

-- it calls the function at word f
pub record Calls (code : Code) (region w f : ℕ) : Type 0 where
  pub inst : Inst
  pub is : code.inst w ≡ Some inst
  pub stays : leaves code region w ≡ false
  pub calls : called code w inst ≡ Some f

-- it returns to behind the word that called
pub record Returns (code : Code) (region w : ℕ) : Type 0 where
  pub inst : Inst
  pub is : code.inst w ≡ Some inst
  pub stays : leaves code region w ≡ false
  pub jumps : is_jump_to_field inst ≡ true
  pub noted : has_note code Return w ≡ true

-- ---- reached words

-- From an entry a path comes to a word. Past the code it ends.
pub data Reaches (code : Code) (region : ℕ) : ℕ → ℕ → Type 0 where
  begin : (e : ℕ) → Reaches code region e e
  step : (e w d : ℕ) → Reaches code region e w → Goes code region w d → Reaches code region e d
  call : (e w f b : ℕ) → Reaches code region e w → Calls code region w f → Reaches code region f b → Returns code region b
      → Reaches code region e (w + 1)

-- the entries from which paths of the region that begins at `first` come to words: its own, and those of called functions
pub data IsEntry (code : Code) (region first : ℕ) : ℕ → Type 0 where
  at_first : IsEntry code region first first
  by_call : (e w f : ℕ) → IsEntry code region first e → Reaches code region e w → Calls code region w f
      → IsEntry code region first f

-- a function that is called on a path
pub record IsCalled (code : Code) (region first f : ℕ) : Type 0 where
  pub entry : ℕ
  pub word : ℕ
  pub is_entry : IsEntry code region first entry
  pub reaches : Reaches code region entry word
  pub calls : Calls code region word f

-- a path comes to a word
pub record Reached (code : Code) (region first w : ℕ) : Type 0 where
  pub entry : ℕ
  pub is_entry : IsEntry code region first entry
  pub reaches : Reaches code region entry w

-- a function comes to another by calls
pub data CallsOn (code : Code) (region : ℕ) : ℕ → ℕ → Type 0 where
  once : (f w g : ℕ) → Reaches code region f w → Calls code region w g → CallsOn code region f g
  more : (f w h g : ℕ) → Reaches code region f w → Calls code region w h → CallsOn code region h g → CallsOn code region f g
