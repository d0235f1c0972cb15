-- What a word reads, out of a list of values: each event that reads takes the next one, cut to its width.
use Rattle.std.specs.Prelude.{ℕ, zero, suc, ◌%◌, ◌^◌, nat_lt, if◌then◌else◌, List, [], ◌∷◌, ◌++◌, map, replicate, Option, Some, None}
use Rattle.prunum.specs.declared.width.Width.{Width}
use Rattle.prunum.specs.Width.{byte_count}
use Rattle.prunum.specs.Bytes.{little_bytes}
use Rattle.prutrace.specs.declared.event.Event.{Event}
use Rattle.prutrace.specs.declared.event.Event.TheVariants.{Read}
use Rattle.isa.specs.declared.field.Field.{Field}
use Rattle.isa.specs.declared.inst.Inst.{Inst}
use Rattle.isa.specs.declared.inst.Inst.TheVariants as inst
use Rattle.corestep.specs.Memory.{address_of, is_private}
use Rattle.corestep.specs.Pieces.{pieces}
use Rattle.corestep.specs.Effect.{Given}
use Rattle.corestep.specs.Given.{first_source, second_source}

-- What is taken of the values, and the values that are left; nothing where they are used up.
abbrev pub Taken : Type 0 → Type 0
Taken A = Option (A × List ℕ)

module _ {A B : Type 0} where
  abbrev pub and_take : Taken A → (A → List ℕ → Taken B) → Taken B
  and_take None f = None
  and_take (Some (a, values)) f = f a values

-- the next value, cut to 32 bits
abbrev pub take_word : List ℕ → Taken ℕ
take_word [] = None
take_word (v ∷ values) = Some (v % 2 ^ 32, values)

-- the whole register of a source in R30 or R31
abbrev pub take_source : Option Field → List ℕ → Taken ℕ
take_source None values = Some (0, values)
take_source (Some f) values = if nat_lt f.reg 30 then Some (0, values) else take_word values

-- the bytes of pieces of these widths
abbrev pub take_bytes : List Width → List ℕ → Taken (List ℕ)
take_bytes [] values = Some ([], values)
take_bytes (w ∷ widths) [] = None
take_bytes (w ∷ widths) (v ∷ values) =
    and_take (take_bytes widths values) (λ bytes left. Some (little_bytes (byte_count w) v ++ bytes, left))

abbrev pub take_words : ℕ → List ℕ → Taken (List ℕ)
take_words zero values = Some ([], values)
take_words (suc n) values = and_take (take_word values) (λ v left. and_take (take_words n left) (λ vs rest. Some (v ∷ vs, rest)))

-- the widths of the pieces of an access
abbrev pub widths_of : ℕ → List Width
widths_of len = map (λ p. p.width) (pieces 0 (replicate len 0))

-- the bytes of a load that isn't private
abbrev pub load_bytes : List ℕ → Inst → List ℕ → Taken (List ℕ)
load_bytes registers (inst.Load a) values =
    if is_private (address_of registers a) a.len then Some ([], values) else take_bytes (widths_of a.len) values
load_bytes registers _ values = Some ([], values)

abbrev pub pad_words : Inst → List ℕ → Taken (List ℕ)
pad_words (inst.Xin t) values = take_words t.count values
pad_words _ values = Some ([], values)

-- all that an instruction reads
abbrev pub taken_by : List ℕ → Inst → List ℕ → Taken Given
taken_by registers i values =
    and_take (take_source (first_source i) values) (λ a after_first.
    and_take (take_source (second_source i) after_first) (λ b after_second.
    and_take (load_bytes registers i after_second) (λ bytes after_bytes.
    and_take (pad_words i after_bytes) (λ pads left.
    Some (record { first = a; second = b; bytes = bytes; pads = pads }, left)))))

-- the values that events read
abbrev pub values_of : List Event → List ℕ
values_of [] = []
values_of (Read place width value ∷ events) = value ∷ values_of events
values_of (_ ∷ events) = values_of events
