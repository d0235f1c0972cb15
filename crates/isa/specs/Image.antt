-- What a core may be loaded with. The limits of code and data are this project's own; the RAMs are those of the AM335x
-- reference manual, chapter PRU-ICSS.
use Rattle.std.specs.Prelude.{◌≡◌, ℕ, ◌+◌, ◌%◌, ◌≤◌, List, length, All, IsSome}
use Rattle.isa.specs.declared.note.Note.{Note}
use Rattle.isa.specs.Decoded.{decoded}
use Rattle.isa.specs.Note.{Stands, AreOrdered}

-- the words, and the data: where it begins, its first bytes, and how many bytes 0 follow them
pub record Contents : Type 0 where
  pub words : List ℕ
  pub data_at : ℕ
  pub init : List ℕ
  pub zero : ℕ
  pub notes : List Note

-- The data lies from 0x10 to 0x1DFF, so that no object has the address 0 and the volatile window is kept free.
pub record IsPlaced (at init zero : ℕ) : Type 0 where
  pub aligned : at % 4 ≡ 0
  pub from : 0x10 ≤ at
  pub below : at ≤ 0x1DFC
  pub within : at + init + zero ≤ 0x1E00

pub record IsImage (i : Contents) : Type 0 where
  pub few : length i.words ≤ 2048
  pub decode : All (λ w. IsSome (decoded w)) i.words
  pub placed : IsPlaced i.data_at (length i.init) i.zero
  pub stand : All (Stands i.words) i.notes
  pub ordered : AreOrdered i.notes
