-- What the types of a core and of its input keep: how many bytes and numbers there are, and how great they are.
use Rattle.std.specs.Prelude.{◌≡◌, ℕ, ◌^◌, ◌<◌, List, length}
use Rattle.std.specs.List.{AllByRecursion}
use Rattle.corestep.specs.declared.out.Input.{Input}
use Rattle.corestep.specs.Core.{State}
use Rattle.corestep.specs.Step.{Stepped}

abbrev pub AreBytes : List ℕ → Type 0
AreBytes bytes = AllByRecursion (λ b. b < 256) bytes

pub record InputFits (registers : List ℕ) (input : Input) : Type 0 where
  pub registers_size : length registers ≡ 124
  pub registers_bytes : AreBytes registers
  pub r31 : input.r31 < 2 ^ 32
  pub bytes_size : length input.bytes ≡ 124
  pub bytes : AreBytes input.bytes
  pub pads_size : length input.pads ≡ 4
  pub pads : AllByRecursion (λ v. v < 2 ^ 32) input.pads

pub record CoreFits (s : State) : Type 0 where
  pub registers_size : length s.registers ≡ 124
  pub registers_bytes : AreBytes s.registers
  pub ram_size : length s.ram ≡ 0x1E00
  pub ram_bytes : AreBytes s.ram

pub record StepFits (did : Stepped) : Type 0 where
  pub core : CoreFits did.core
  pub stored : AreBytes did.out.stored
