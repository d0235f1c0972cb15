-- The registers of the interrupt controller: a part of those in the AM335x reference manual, chapter PRU-ICSS, interrupt controller
-- registers.
use Rattle.std.specs.Prelude.{ℕ, ◌+◌, ◌*◌, ◌<◌, ◌==◌, List, [], ◌∷◌, ◌++◌, map, find, Option}
use Rattle.devices.specs.declared.register.Register.{Register}
use Rattle.devices.specs.declared.register.Register.TheVariants.{GlobalEnable, SetPending, ClearPending, EnableEvent, DisableEvent}
use Rattle.devices.specs.declared.register.Register.TheVariants.{EnableHost, DisableHost, PendingBits, ActiveBits, EnabledBits}
use Rattle.devices.specs.declared.register.Register.TheVariants.{Channels, Hosts}

-- where each register stands, in bytes from the controller's first
abbrev pub offset_of : Register → ℕ
offset_of GlobalEnable = 0x010
offset_of SetPending = 0x020
offset_of ClearPending = 0x024
offset_of EnableEvent = 0x028
offset_of DisableEvent = 0x02c
offset_of EnableHost = 0x034
offset_of DisableHost = 0x038
offset_of (PendingBits half) = 0x200 + 4 * half
offset_of (ActiveBits half) = 0x280 + 4 * half
offset_of (EnabledBits half) = 0x300 + 4 * half
offset_of (Channels four) = 0x400 + 4 * four
offset_of (Hosts four) = 0x800 + 4 * four

-- there is a register of this number
abbrev pub IsPresent : Register → Type 0
IsPresent (PendingBits half) = half < 2
IsPresent (ActiveBits half) = half < 2
IsPresent (EnabledBits half) = half < 2
IsPresent (Channels four) = four < 16
IsPresent (Hosts four) = four < 3
IsPresent _ = Unit {0}

abbrev pub registers : List Register
registers =
    GlobalEnable ∷ SetPending ∷ ClearPending ∷ EnableEvent ∷ DisableEvent ∷ EnableHost ∷ DisableHost ∷ []
    ++ map PendingBits (0 ∷ 1 ∷ []) ++ map ActiveBits (0 ∷ 1 ∷ []) ++ map EnabledBits (0 ∷ 1 ∷ [])
    ++ map Channels (0 ∷ 1 ∷ 2 ∷ 3 ∷ 4 ∷ 5 ∷ 6 ∷ 7 ∷ 8 ∷ 9 ∷ 10 ∷ 11 ∷ 12 ∷ 13 ∷ 14 ∷ 15 ∷ [])
    ++ map Hosts (0 ∷ 1 ∷ 2 ∷ [])

-- the register that stands at an offset
abbrev pub register_at : ℕ → Option Register
register_at at = find (λ r. offset_of r == at) registers
