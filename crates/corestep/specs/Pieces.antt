-- What shows of accesses outside the private part, and of moves between registers and the scratchpad.
use Rattle.std.specs.Prelude.{ℕ, ◌+◌, ◌%◌, ◌^◌, Bool, true, false, List, [], ◌∷◌, map}
use Rattle.prunum.specs.declared.width.Width.{Width}
use Rattle.prunum.specs.declared.width.Width.TheVariants.{B1, B2, B4}
use Rattle.prunum.specs.Bytes.{little_number}
use Rattle.prutrace.specs.declared.event.Place.{Place}
use Rattle.prutrace.specs.declared.event.Place.TheVariants.{Addr, Pad}
use Rattle.prutrace.specs.declared.event.Event.{Event}
use Rattle.prutrace.specs.declared.event.Event.TheVariants.{Read, Write}
use Rattle.isa.specs.declared.transfer.Bank.{Bank}
use Rattle.isa.specs.declared.transfer.Bank.TheVariants.{Bank0, Bank1, Bank2}

-- a piece of an access
pub record Piece : Type 0 where
  pub addr : ℕ
  pub width : Width
  pub value : ℕ

abbrev pub piece : ℕ → Width → ℕ → Piece
piece addr width value = record { addr = addr; width = width; value = value }

-- An access is cut from its first byte on into pieces of four bytes, then two, then one. Addresses wrap.
abbrev pub pieces : ℕ → List ℕ → List Piece
pieces addr [] = []
pieces addr (a ∷ []) = piece addr B1 a ∷ []
pieces addr (a ∷ b ∷ []) = piece addr B2 (little_number 2 (a ∷ b ∷ [])) ∷ []
pieces addr (a ∷ b ∷ c ∷ []) = piece addr B2 (little_number 2 (a ∷ b ∷ [])) ∷ piece ((addr + 2) % 2 ^ 32) B1 c ∷ []
pieces addr (a ∷ b ∷ c ∷ d ∷ bytes) = piece addr B4 (little_number 4 (a ∷ b ∷ c ∷ d ∷ [])) ∷ pieces ((addr + 4) % 2 ^ 32) bytes

-- a value that is read, or written where `store` is true
abbrev pub access_event : Bool → Place → Width → ℕ → Event
access_event false place width value = Read place width value
access_event true place width value = Write place width value

-- an access's events, one a piece
abbrev pub access_events : Bool → ℕ → List ℕ → List Event
access_events store addr bytes = map (λ p. access_event store (Addr p.addr) p.width p.value) (pieces addr bytes)

-- ---- the scratchpad

abbrev pub bank_number : Bank → ℕ
bank_number Bank0 = 0
bank_number Bank1 = 1
bank_number Bank2 = 2

-- the events of registers of a bank, from one on
abbrev pub pad_events : Bool → ℕ → ℕ → List ℕ → List Event
pad_events store bank reg [] = []
pad_events store bank reg (v ∷ values) = access_event store (Pad bank reg) B4 v ∷ pad_events store bank (reg + 1) values
