-- Records of a fixed number of bytes, and reading them with the first fault.
use Rattle.std.specs.Prelude.{◌≡◌, ℕ, zero, suc, ◌+◌, ◌<◌, nat_lt, ◌&&◌, if◌then◌else◌, List, [], ◌∷◌}
use Rattle.std.specs.Prelude.{length, take, drop, slice_index, Bool, Result, Ok, Err}
use Rattle.elfrec.specs.declared.fault.ElfCause.TheVariants.{Short, Size}
use Rattle.elfrec.specs.declared.fault.ElfFault.{ElfFault}
use Rattle.elfrec.specs.declared.fault.ElfFault.TheVariants.{At, Memory}

-- One kind of record: the number of its bytes, what they are, which record bytes of that number are, and whether
-- the sizes that a record gives of others are right.
pub record Format (R : Type 0) : Type 0 where
  pub size : ℕ
  pub bytes : R → List ℕ
  pub from_bytes : List ℕ → R
  pub has_right_sizes : R → Bool

abbrev pub IsBytes : List ℕ → Type 0
IsBytes bytes = (i : ℕ) → slice_index bytes i < 256

-- A record that fits has its bytes, which are that record; and bytes of the number are a record that has them.
pub record IsExact {R : Type 0} (format : Format R) (Fits : R → Type 0) : Type 0 where
  pub positive : 0 < format.size
  pub long : (r : R) → Fits r → length (format.bytes r) ≡ format.size
  pub again : (r : R) → Fits r → format.from_bytes (format.bytes r) ≡ r
  pub same : (bytes : List ℕ) → IsBytes bytes → length bytes ≡ format.size → format.bytes (format.from_bytes bytes) ≡ bytes
  pub fits : (bytes : List ℕ) → IsBytes bytes → length bytes ≡ format.size → Fits (format.from_bytes bytes)

-- One step behind another, up to the first fault.
infixl 10 ◌>>=◌
abbrev pub ◌>>=◌ : {A B : Type 0} → Result A ElfFault → (A → Result B ElfFault) → Result B ElfFault
(Ok x) >>= f = f x
(Err e) >>= f = Err e

-- What a function returned, seen by view, is what reading gives, unless memory ran out.
abbrev pub Fails : {Y : Type 0} → ElfFault → Result Y ElfFault → Type 0
Fails (At offset cause) read = read ≡ Err (At offset cause)
Fails Memory read = Unit {0}

abbrev pub Gives : {X Y : Type 0} → (X → Y) → Result X ElfFault → Result Y ElfFault → Type 0
Gives view (Ok x) read = read ≡ Ok (view x)
Gives view (Err e) read = Fails e read

-- the bytes of this number from this place on, where there are so many; no bytes stand anywhere
abbrev pub bytes_at : ℕ → ℕ → List ℕ → Result (List ℕ) ElfFault
bytes_at size at bytes =
    if nat_lt 0 size && nat_lt (length bytes) (at + size) then Err (At at Short) else Ok (take size (drop at bytes))

-- the record, where the sizes that it gives are right
abbrev pub sized : {R : Type 0} → Format R → ℕ → R → Result R ElfFault
sized format at r = if format.has_right_sizes r then Ok r else Err (At at Size)

-- the record at this place
abbrev pub record_at : {R : Type 0} → Format R → ℕ → List ℕ → Result R ElfFault
record_at format at bytes =
    if nat_lt (length bytes) (at + format.size) then Err (At at Short)
    else sized format at (format.from_bytes (take format.size (drop at bytes)))

-- so many records from this place on, one behind the other
unfoldable pub records_at : {R : Type 0} → Format R → ℕ → ℕ → List ℕ → Result (List R) ElfFault
records_at format zero at bytes = Ok []
records_at format (suc n) at bytes = do
  first ← record_at format at bytes
  others ← records_at format n (at + format.size) bytes
  Ok (first ∷ others)
