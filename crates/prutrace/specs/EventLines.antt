-- Reading a line of an event field by field. What is read is said in `Reading`: this is no more than the way there.
use Rattle.std.specs.Prelude.{◌≡◌, ℕ, ◌+◌, ◌^◌, ◌==◌, nat_lt, nat_le, if◌then◌else◌, List, [], ◌∷◌, ◌++◌, length, drop}
use Rattle.std.specs.Prelude.{codes, slice_get, slice_index, Option, Some, None, option_and_then}
use Rattle.std.specs.Str.{bytes_eq}
use Rattle.std.specs.Fmt.{decimal}
use Rattle.prunum.specs.declared.width.Width.{Width}
use Rattle.prunum.specs.declared.width.Width.TheVariants.{B1, B2, B4}
use Rattle.prunum.specs.Width.{byte_count}
use Rattle.textline.specs.Numbers.{decimal_in, hex_in, hex8}
use Rattle.prutrace.specs.declared.event.Event.{Event}
use Rattle.prutrace.specs.declared.event.Event.TheVariants.{Read, Write, Enter, Leave, DelayIn, DelayOut, Halted}
use Rattle.prutrace.specs.declared.event.Place.{Place}
use Rattle.prutrace.specs.declared.event.Place.TheVariants.{Reg30, Reg31, Addr, Pad}
use Rattle.prutrace.specs.Text.{place_text}

-- ---- the fields of a line

abbrev pub access_fields : Place → Width → ℕ → List (List ℕ)
access_fields place width value = place_text place ∷ decimal (byte_count width) ∷ hex8 value ∷ []

abbrev pub event_fields : Event → List (List ℕ)
event_fields (Read place width value) = codes "R" ∷ access_fields place width value
event_fields (Write place width value) = codes "W" ∷ access_fields place width value
event_fields (Enter region) = codes "E" ∷ decimal region ∷ []
event_fields (Leave region) = codes "L" ∷ decimal region ∷ []
event_fields (DelayIn cycles) = codes "I" ∷ decimal cycles ∷ []
event_fields (DelayOut cycles) = codes "O" ∷ decimal cycles ∷ []
event_fields Halted = codes "H" ∷ []

-- ---- words

-- a number of at most so much
abbrev pub within : ℕ → ℕ → Option ℕ
within most n = if nat_le n most then Some n else None

abbrev pub number_in : ℕ → List ℕ → Option ℕ
number_in most word = option_and_then (within most) (decimal_in word)

abbrev pub width_of : ℕ → Option Width
width_of n = if n == 1 then Some B1 else (if n == 2 then Some B2 else (if n == 4 then Some B4 else None))

abbrev pub width_in : List ℕ → Option Width
width_in word = option_and_then width_of (decimal_in word)

-- what stands before the first such byte, and what behind it
unfoldable pub cut_at : ℕ → List ℕ → Option (List ℕ × List ℕ)
cut_at byte [] = None
cut_at byte (b ∷ text) = if b == byte then Some ([], text) else option_and_then (λ parts. Some (b ∷ parts.0, parts.1)) (cut_at byte text)

abbrev pub pad_of : List ℕ → List ℕ → Option Place
pad_of bank reg = option_and_then (λ b. option_and_then (λ r. Some (Pad b r)) (number_in 255 reg)) (number_in 255 bank)

unfoldable pub pad_in : List ℕ → Option Place
pad_in pad = option_and_then (λ parts. pad_of parts.0 parts.1) (cut_at 46 pad)

unfoldable pub place_in : List ℕ → Option Place
place_in word =
    if bytes_eq word (codes "R30") then Some Reg30
    else (if bytes_eq word (codes "R31") then Some Reg31
    else (if slice_index word 0 == 80 then pad_in (drop 1 word)
    else option_and_then (λ address. Some (Addr address)) (hex_in 8 word)))

-- ---- fields

-- the first field, read so
abbrev pub field : {A : Type 0} → (List ℕ → Option A) → List (List ℕ) → Option A
field read fields = option_and_then read (slice_get fields 0)

-- this, where no field is left
abbrev pub at_end : {A : Type 0} → List (List ℕ) → Option A → Option A
at_end fields read = if length fields == 0 then read else None

abbrev pub fitting : Place → Width → ℕ → Option (Place × Width × ℕ)
fitting place width value = if nat_lt value (256 ^ byte_count width) then Some (place, width, value) else None

unfoldable pub access_in : List (List ℕ) → Option (Place × Width × ℕ)
access_in fields =
    option_and_then (λ place.
    option_and_then (λ width.
    option_and_then (λ value. at_end (drop 1 (drop 1 (drop 1 fields))) (fitting place width value))
    (field (hex_in 8) (drop 1 (drop 1 fields))))
    (field width_in (drop 1 fields)))
    (field place_in fields)

unfoldable pub number_alone : ℕ → List (List ℕ) → Option ℕ
number_alone most fields = option_and_then (λ n. at_end (drop 1 fields) (Some n)) (field (number_in most) fields)

unfoldable pub kind_in : List ℕ → List (List ℕ) → Option Event
kind_in kind fields =
    if bytes_eq kind (codes "R") then option_and_then (λ a. Some (Read a.0 a.1 a.2)) (access_in fields)
    else (if bytes_eq kind (codes "W") then option_and_then (λ a. Some (Write a.0 a.1 a.2)) (access_in fields)
    else (if bytes_eq kind (codes "E") then option_and_then (λ n. Some (Enter n)) (number_alone 65535 fields)
    else (if bytes_eq kind (codes "L") then option_and_then (λ n. Some (Leave n)) (number_alone 65535 fields)
    else (if bytes_eq kind (codes "I") then option_and_then (λ n. Some (DelayIn n)) (number_alone 4294967295 fields)
    else (if bytes_eq kind (codes "O") then option_and_then (λ n. Some (DelayOut n)) (number_alone 4294967295 fields)
    else (if bytes_eq kind (codes "H") then at_end fields (Some Halted) else None))))))

unfoldable pub event_in : List (List ℕ) → Option Event
event_in [] = None
event_in (kind ∷ fields) = kind_in kind fields
