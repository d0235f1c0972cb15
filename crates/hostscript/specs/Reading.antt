-- What the reader gives of the fields of an act's line.
use Rattle.std.specs.Prelude.{◌≡◌, Bool, false, option_map, ℕ, ◌%◌, ◌^◌, ◌==◌, ◌&&◌, nat_le, nat_lt, if◌then◌else◌, List, [], ◌∷◌}
use Rattle.std.specs.Prelude.{length, drop, slice_get, codes, Option, Some, None, option_and_then, Result, Ok, Err}
use Rattle.std.specs.Option.{ok_or}
use Rattle.std.specs.List.{list_all}
use Rattle.std.specs.Str.{bytes_eq}
use Rattle.prunum.specs.declared.width.Width.{Width}
use Rattle.prunum.specs.declared.width.Width.TheVariants.{B1, B2, B4}
use Rattle.prunum.specs.Width.{byte_count}
use Rattle.textline.specs.Numbers.{decimal_in, hex_in, is_decimal}
use Rattle.textline.specs.Lines.{fields_of}
use Rattle.hostscript.specs.declared.action.Action.{Action}
use Rattle.hostscript.specs.declared.action.Action.TheVariants.{Poke, Pins, Event, Start}
use Rattle.hostscript.specs.declared.action.Act.{Act}
use Rattle.hostscript.specs.declared.cause.ScriptCause.{ScriptCause}
use Rattle.hostscript.specs.declared.cause.ScriptCause.TheVariants.{Form, Range}
use Rattle.hostscript.specs.declared.fault.LineFault.{LineFault}
use Rattle.hostscript.specs.declared.fault.LineFault.TheVariants as faults
use Rattle.hostscript.specs.declared.line.Saying.{Saying}
use Rattle.hostscript.specs.declared.line.Saying.TheVariants.{Nothing, Does, Waits}
use Rattle.hostscript.specs.Acts.{may_be_poked}
use Rattle.hostscript.specs.Forms.{is_skipped}

infixl 10 ◌>>=◌
abbrev pub ◌>>=◌ : {A B : Type 0} → Result A ScriptCause → (A → Result B ScriptCause) → Result B ScriptCause
(Ok x) >>= f = f x
(Err e) >>= f = Err e

-- the field read, and not of its form where that gives nothing
abbrev pub field : {A : Type 0} → (List ℕ → Option A) → List (List ℕ) → Result A ScriptCause
field read fields = ok_or (option_and_then read (slice_get fields 0)) Form

-- no field is left
abbrev pub at_end : {A : Type 0} → List (List ℕ) → Result A ScriptCause → Result A ScriptCause
at_end fields read = if length fields == 0 then read else Err Form

abbrev pub width_of : ℕ → Option Width
width_of n = if n == 1 then Some B1 else (if n == 2 then Some B2 else (if n == 4 then Some B4 else None))

abbrev pub poke_of : ℕ → ℕ → ℕ → Option Action
poke_of addr n value = option_and_then
    (λ width. if may_be_poked addr && addr % byte_count width == 0 && nat_lt value (256 ^ byte_count width) then Some
    (Poke addr width value) else None)
    (width_of n)

unfoldable pub poke_in : List (List ℕ) → Result Action ScriptCause
poke_in fields = do
  addr ← field (hex_in 8) fields
  width ← field decimal_in (drop 1 fields)
  value ← field (hex_in 8) (drop 1 (drop 1 fields))
  at_end (drop 1 (drop 1 (drop 1 fields))) (ok_or (poke_of addr width value) Range)

unfoldable pub pins_in : List (List ℕ) → Result Action ScriptCause
pins_in fields = do
  core ← field decimal_in fields
  bits ← field (hex_in 4) (drop 1 fields)
  at_end (drop 1 (drop 1 fields)) (if nat_le core 1 then Ok (Pins core bits) else Err Range)

unfoldable pub event_in : List (List ℕ) → Result Action ScriptCause
event_in fields = do
  number ← field decimal_in fields
  at_end (drop 1 fields) (if nat_le number 63 then Ok (Event number) else Err Range)

unfoldable pub start_in : List (List ℕ) → Result Action ScriptCause
start_in fields = do
  core ← field decimal_in fields
  at_end (drop 1 fields) (if nat_le core 1 then Ok (Start core) else Err Range)

unfoldable pub action_in : List (List ℕ) → Result Action ScriptCause
action_in [] = Err Form
action_in (word ∷ operands) =
    if bytes_eq word (codes "poke") then poke_in operands
    else (if bytes_eq word (codes "pins") then pins_in operands
    else (if bytes_eq word (codes "event") then event_in operands
    else (if bytes_eq word (codes "start") then start_in operands else Err Form)))

unfoldable pub act_in : List (List ℕ) → Result Act ScriptCause
act_in fields = do
  cycle ← field decimal_in fields
  action ← action_in (drop 1 fields)
  if nat_le cycle 1999999 then Ok (record { cycle = cycle; action = action }) else Err Range

-- numbers of one byte
unfoldable pub small_numbers : List (List ℕ) → Option (List ℕ)
small_numbers [] = Some []
small_numbers (word ∷ words) = option_and_then (λ n. if nat_le n 255 then option_map (λ ns. n ∷ ns) (small_numbers words) else None)
    (decimal_in word)

-- behind the word arb
unfoldable pub arb_in : List (List ℕ) → Result (ℕ × List ℕ) ScriptCause
arb_in fields = do
  core ← field decimal_in fields
  if length (drop 1 fields) == 0 then Err Form
      else (if list_all is_decimal (drop 1 fields) then ok_or (small_numbers (drop 1 fields)) Range else Err Form) >>= λ numbers.
      (if nat_le core 1 then Ok (core, numbers) else Err Range)

unfoldable pub fields_said : List (List ℕ) → Result Saying ScriptCause
fields_said [] = Err Form
fields_said (word ∷ words) =
    if bytes_eq word (codes "arb") then (arb_in words >>= λ x. Ok (Waits x.0 x.1)) else (act_in (word ∷ words) >>= λ act. Ok (Does act))

unfoldable pub said_in : List ℕ → Result Saying ScriptCause
said_in line = if is_skipped line then Ok Nothing else fields_said (fields_of line)

-- What a function returned, seen by view, is what reading gives, unless memory ran out.
abbrev pub Fails : {Y : Type 0} → LineFault → Result Y ScriptCause → Type 0
Fails faults.Memory read = Unit {0}
Fails (faults.Cause cause) read = read ≡ Err cause

abbrev pub Reads : {X Y : Type 0} → (X → Y) → Result X LineFault → Result Y ScriptCause → Type 0
Reads view (Ok x) read = read ≡ Ok (view x)
Reads view (Err e) read = Fails e read

-- memory is wanting, or a word is not of the form
abbrev pub IsFormFault : Bool → LineFault → Type 0
IsFormFault all faults.Memory = Unit {0}
IsFormFault all (faults.Cause cause) = (all ≡ false) × (cause ≡ Form)
