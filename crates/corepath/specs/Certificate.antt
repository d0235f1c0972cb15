-- What a certificate of a region says: its bounds, and one label for each word that a path comes to, by the entry that it comes from.
use Rattle.std.specs.Prelude.{◌≡◌, ℕ, ◌<◌, ◌⊎◌, List, [], ◌∷◌, Option, Some, None, IsSome, Contains, find, option_map}
use Rattle.isa.specs.declared.note.NoteKind.TheVariants.{Enter}
use Rattle.isa.specs.Image.{Contents}
use Rattle.corestep.specs.declared.onward.Turning.{Turning}
use Rattle.corestep.specs.declared.table.Table.{Table}
use Rattle.corerun.specs.Code.{Code, code_of_words}
use Rattle.corepath.specs.Flow.{is_mark, IsEntry}
use Rattle.corepath.specs.Loops.{Loop}
use Rattle.corepath.specs.Path.{Path, Ends, Shares, AreBounds}
use Rattle.corepath.specs.Cause.{AreLoops, Touches, Unbounded, Crossed}

-- the greatest sum that is certified
abbrev pub longest : ℕ
longest = 2000000

-- the number that stands for the region's end
abbrev pub end_pc : ℕ
end_pc = 65535

-- a path's sum at a word, or at the end, is above that
pub data IsLong (table : Table) (code : Code) (region : ℕ) (loops : List Loop) (first pc : ℕ) : Type 0 where
  word : (e s : ℕ) (t : Option Turning) (k : Loop → ℕ) → IsEntry code region first e → IsSome (code.inst pc)
      → Path table code region loops e pc t k s → longest < s
      → IsLong table code region loops first pc
  end : (s : ℕ) → pc ≡ end_pc → Ends table code region loops first s → longest < s → IsLong table code region loops first pc

pub data Kind : Type 0 where
  Touching : Kind
  Unlimited : Kind
  Crossing : Kind

-- a cause at a word
abbrev pub Causes : Code → ℕ → ℕ → ℕ → Kind → Type 0
Causes code region first pc Touching = Touches code region first pc
Causes code region first pc Unlimited = Unbounded code region first pc
Causes code region first pc Crossing = Crossed code region first pc

abbrev pub AnyCause : Code → ℕ → ℕ → ℕ → Type 0
AnyCause code region first pc = Touches code region first pc ⊎ (Unbounded code region first pc ⊎ Crossed code region first pc)

-- on one word the first of these kinds is named
abbrev pub NoneBefore : Code → ℕ → ℕ → ℕ → Kind → Type 0
NoneBefore code region first pc Touching = Unit {0}
NoneBefore code region first pc Unlimited = Touches code region first pc → ⊥
NoneBefore code region first pc Crossing = (Touches code region first pc → ⊥) × (Unbounded code region first pc → ⊥)

pub record Label : Type 0 where
  pub entry : ℕ
  pub pc : ℕ
  pub least : ℕ
  pub most : ℕ

-- a label by (entry, pc)
abbrev pub IsBefore : Label → Label → Type 0
IsBefore a b = (a.entry < b.entry) ⊎ ((a.entry ≡ b.entry) × (a.pc < b.pc))

abbrev pub Ascend : List Label → Type 0
Ascend [] = Unit {0}
Ascend (a ∷ []) = Unit {0}
Ascend (a ∷ b ∷ labels) = IsBefore a b × Ascend (b ∷ labels)

-- a label has the bounds of the sums in first turns, and each word with such a sum has its label
pub record AreLabels (table : Table) (code : Code) (region : ℕ) (loops : List Loop) (first : ℕ) (labels : List Label)
    : Type 0 where
  pub ascend : Ascend labels
  pub each : (l : Label) → Contains labels l
      → IsEntry code region first l.entry × IsSome (code.inst l.pc)
      × AreBounds (Shares table code region loops l.entry l.pc) l.least l.most
  pub all : (e pc s : ℕ) → IsEntry code region first e → IsSome (code.inst pc) → Shares table code region loops e pc s
      → (l : Label) × Contains labels l × (l.entry ≡ e) × (l.pc ≡ pc)

-- the bounds of the sums at the region's end, or 0 and 0 where no path comes there
abbrev pub EndBounds : (ℕ → Type 0) → ℕ → ℕ → Type 0
EndBounds Ended least most = AreBounds Ended least most ⊎ (((s : ℕ) → Ended s → ⊥) × (least ≡ 0) × (most ≡ 0))

-- ---- what is answered for a region that begins at this entry, if it has one

pub data Answer : Type 0 where
  Absent : Answer
  Refused : Kind → ℕ → Answer
  Long : ℕ → Answer
  Certified : ℕ → ℕ → List Label → Answer

pub data AnswersAt (table : Table) (code : Code) (region : ℕ) (entry : Option ℕ) : Answer → Type 0 where
  -- nothing has its Enter mark
  absent : entry ≡ None → AnswersAt table code region entry Absent
  -- the least word with a cause
  refused : (first pc : ℕ) (kind : Kind) → entry ≡ Some first → Causes code region first pc kind
      → NoneBefore code region first pc kind → ((w : ℕ) → w < pc → AnyCause code region first w → ⊥)
      → AnswersAt table code region entry (Refused kind pc)
  -- where there is none, the least place of a sum that is too great
  long : (first pc : ℕ) (loops : List Loop) → entry ≡ Some first → ((w : ℕ) → AnyCause code region first w → ⊥)
      → AreLoops code region first loops → IsLong table code region loops first pc
      → ((w : ℕ) → w < pc → IsLong table code region loops first w → ⊥)
      → AnswersAt table code region entry (Long pc)
  certified : (first least most : ℕ) (labels : List Label) (loops : List Loop) → entry ≡ Some first
      → ((w : ℕ) → AnyCause code region first w → ⊥) → AreLoops code region first loops
      → ((w : ℕ) → IsLong table code region loops first w → ⊥)
      → EndBounds (Ends table code region loops first) least most → AreLabels table code region loops first labels
      → AnswersAt table code region entry (Certified least most labels)

-- The entry of a region of an image: the least word with its Enter mark. Notes stand in the order of their words.
abbrev pub entry_of : Contents → ℕ → Option ℕ
entry_of image region = option_map (λ n. n.word) (find (is_mark Enter region) image.notes)

abbrev pub Answers : Table → Contents → ℕ → Answer → Type 0
Answers table image region = AnswersAt table (code_of_words image) region (entry_of image region)
