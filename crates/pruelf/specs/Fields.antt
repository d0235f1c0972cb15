-- Reading from left to right: a field is a number and the bytes behind it, or the first fault. `end` is the length of the whole
-- file, of which the bytes are the last.
use Rattle.std.specs.Prelude.{◌≡◌, ℕ, zero, suc, ◌+◌, ◌-◌, ◌%◌, ◌==◌, ◌&&◌, nat_lt, nat_le, if◌then◌else◌, Bool, List}
use Rattle.std.specs.Prelude.{[], ◌∷◌, length, take, drop, Option, Some, None, Result, Ok, Err}
use Rattle.std.specs.Int.{Width, w8, w16, w32, byte_len, from_le_bytes}
use Rattle.prunum.specs.declared.width.Width.{Width as Bytes}
use Rattle.prunum.specs.declared.width.Width.TheVariants.{B1, B2, B4}
use Rattle.pruelf.specs.declared.fault.LoadCause.{LoadCause}
use Rattle.pruelf.specs.declared.fault.LoadCause.TheVariants.{Truncated}
use Rattle.pruelf.specs.declared.fault.LoadFault.{LoadFault}
use Rattle.pruelf.specs.declared.fault.LoadFault.TheVariants.{At, Memory}
use Rattle.pruelf.specs.declared.span.Span.{Span}

-- ---- one step behind another

infixl 10 ◌>>=◌
abbrev pub ◌>>=◌ : {A B : Type 0} → Result A LoadFault → (A → Result B LoadFault) → Result B LoadFault
(Ok x) >>= f = f x
(Err e) >>= f = Err e

-- What a function returned, seen by view, is what reading gives, unless memory ran out.
abbrev pub Fails : {Y : Type 0} → LoadFault → Result Y LoadFault → Type 0
Fails (At offset cause) read = read ≡ Err (At offset cause)
Fails Memory read = Unit {0}

abbrev pub Gives : {X Y : Type 0} → (X → Y) → Result X LoadFault → Result Y LoadFault → Type 0
Gives view (Ok x) read = read ≡ Ok (view x)
Gives view (Err e) read = Fails e read

-- ---- fields

-- where the bytes begin
abbrev pub place : ℕ → List ℕ → ℕ
place end bytes = end - length bytes

-- their first field is at fault
abbrev pub wrong : LoadCause → ℕ → List ℕ → LoadFault
wrong cause end bytes = At (place end bytes) cause

abbrev pub kind_of : Bytes → Width
kind_of B1 = w8
kind_of B2 = w16
kind_of B4 = w32

-- so many bytes, and those behind them
abbrev pub bytes_in : ℕ → ℕ → List ℕ → Result (List ℕ × List ℕ) LoadFault
bytes_in count end bytes = if nat_lt (length bytes) count then Err (At end Truncated) else Ok (take count bytes, drop count bytes)

-- any number of this width
abbrev pub number_in : Width → ℕ → List ℕ → Result (ℕ × List ℕ) LoadFault
number_in w end bytes =
    if nat_lt (length bytes) (byte_len w) then Err (At end Truncated)
    else Ok (from_le_bytes w (take (byte_len w) bytes), drop (byte_len w) bytes)

-- a number that may stand there
unfoldable pub judged_in : LoadCause → Width → (ℕ → Bool) → ℕ → List ℕ → Result (ℕ × List ℕ) LoadFault
judged_in cause w may end bytes = do
  number ← number_in w end bytes
  if may number.0 then Ok number else Err (wrong cause end bytes)

-- fields of one width, each of which has one value
unfoldable pub fixed_in : LoadCause → Width → List ℕ → ℕ → List ℕ → Result (List ℕ) LoadFault
fixed_in cause w [] end bytes = Ok bytes
fixed_in cause w (value ∷ values) end bytes = do
  number ← judged_in cause w (λ n. n == value) end bytes
  fixed_in cause w values end number.1

-- the numbers of a span
abbrev pub allows : Span → ℕ → Bool
allows span n = nat_le span.least n && nat_le n span.most && (n - span.least) % span.unit == 0

abbrev pub only : ℕ → Span
only value = record { least = value; most = value; unit = 1 }

-- a number of four bytes within a span
abbrev pub within_in : LoadCause → Span → ℕ → List ℕ → Result (ℕ × List ℕ) LoadFault
within_in cause span end bytes = judged_in cause w32 (allows span) end bytes

-- So many things, one behind the other. Each is read knowing how many are left with it, and the one before it.
unfoldable pub many_in : {A : Type 0} → (ℕ → Option A → List ℕ → Result (A × List ℕ) LoadFault) → ℕ → Option A → List ℕ
    → Result (List A × List ℕ) LoadFault
many_in one zero before bytes = Ok ([], bytes)
many_in one (suc left) before bytes = do
  first ← one (suc left) before bytes
  others ← many_in one left (Some first.0) first.1
  Ok (first.0 ∷ others.0, others.1)
