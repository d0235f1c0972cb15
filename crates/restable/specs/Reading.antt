-- Reading from left to right: a field is a value and the bytes behind it, or the offset of the first fault.
use Rattle.std.specs.Prelude.{◌≡◌, ℕ, zero, suc, ◌+◌, ◌*◌, ◌==◌, not, nat_lt, if◌then◌else◌, List}
use Rattle.std.specs.Prelude.{[], ◌∷◌, length, take, drop, Result, Ok, Err}
use Rattle.std.specs.List.{list_all, prefix_len}
use Rattle.std.specs.Int.{w32, from_le_bytes}
use Rattle.restable.specs.declared.trace.Trace.{Trace}
use Rattle.restable.specs.declared.fault.TableFault.{TableFault}
use Rattle.restable.specs.declared.fault.TableFault.TheVariants.{At, Memory}

infixl 10 ◌>>=◌
abbrev pub ◌>>=◌ : {A B : Type 0} → Result A ℕ → (A → Result B ℕ) → Result B ℕ
(Ok x) >>= f = f x
(Err offset) >>= f = Err offset

-- A word. Where the bytes end in it, the fault stands at their end.
abbrev pub word_at : ℕ → List ℕ → Result (ℕ × List ℕ) ℕ
word_at at bytes = if nat_lt (length bytes) 4 then Err (at + length bytes) else Ok (from_le_bytes w32 (take 4 bytes), drop 4 bytes)

-- a word of which there is one value
unfoldable pub fixed_at : ℕ → ℕ → List ℕ → Result (List ℕ) ℕ
fixed_at value at bytes = do
  word ← word_at at bytes
  if word.0 == value then Ok word.1 else Err at

-- how many bytes stand before the first zero
abbrev pub name_len : List ℕ → ℕ
name_len field = prefix_len (λ b. not (b == 0)) field

-- a name in 32 bytes, filled with zeros
unfoldable pub name_at : ℕ → List ℕ → Result (List ℕ × List ℕ) ℕ
name_at at bytes =
    if nat_lt (length bytes) 32 then Err (at + length bytes)
    else (if list_all (λ b. b == 0) (drop (name_len (take 32 bytes)) (take 32 bytes)) then Ok
    (take (name_len (take 32 bytes)) (take 32 bytes), drop 32 bytes) else Err at)

-- an entry: the type 2, the address, the length, 0, and the name
unfoldable pub entry_at : ℕ → List ℕ → Result (Trace × List ℕ) ℕ
entry_at at bytes = do
  behind ← fixed_at 2 at bytes
  addr ← word_at (at + 4) behind
  len ← word_at (at + 8) addr.1
  behind ← fixed_at 0 (at + 12) len.1
  name ← name_at (at + 16) behind
  Ok (record { name = name.0; addr = addr.0; len = len.0 }, name.1)

-- so many offsets, of which the first has this value
unfoldable pub offsets_at : ℕ → ℕ → ℕ → List ℕ → Result (List ℕ) ℕ
offsets_at zero value at bytes = Ok bytes
offsets_at (suc count) value at bytes = do
  behind ← fixed_at value at bytes
  offsets_at count (value + 48) (at + 4) behind

-- so many entries, one behind the other
unfoldable pub entries_at : ℕ → ℕ → List ℕ → Result (List Trace × List ℕ) ℕ
entries_at zero at bytes = Ok ([], bytes)
entries_at (suc count) at bytes = do
  first ← entry_at at bytes
  others ← entries_at count (at + 48) first.1
  Ok (first.0 ∷ others.0, others.1)

-- all of the bytes: a table, and nothing behind it
unfoldable pub table_in : List ℕ → Result (List Trace) ℕ
table_in bytes = do
  behind ← fixed_at 1 0 bytes
  count ← word_at 4 behind
  behind ← fixed_at 0 8 count.1
  behind ← fixed_at 0 12 behind
  behind ← offsets_at count.0 (16 + 4 * count.0) 16 behind
  traces ← entries_at count.0 (16 + 4 * count.0) behind
  if length traces.1 == 0 then Ok traces.0 else Err (16 + 52 * count.0)

-- What a function returned, seen by view, is what reading gives, unless memory ran out.
abbrev pub Fails : {Y : Type 0} → TableFault → Result Y ℕ → Type 0
Fails Memory read = Unit {0}
Fails (At offset) read = read ≡ Err offset

abbrev pub Gives : {X Y : Type 0} → (X → Y) → Result X TableFault → Result Y ℕ → Type 0
Gives view (Ok x) read = read ≡ Ok (view x)
Gives view (Err fault) read = Fails fault read
