-- When a call may say that it failed.
use Rattle.std.specs.Prelude.{ℕ, ◌+◌, ◌-◌, ◌^◌, ◌≤◌, min, Bool, true, false, Result, Ok, Err, IsErrOf}
use Rattle.fileset.specs.declared.fault.FileFault.{FileFault}
use Rattle.fileset.specs.declared.fault.FileFault.TheVariants.{Failed, Memory}

-- one more, in a u64 that stays at its last value
abbrev pub raised : ℕ → ℕ
raised count = min (count + 1) (2 ^ 64 - 1)

-- The count rose, or stands at its last value: it is kept in a u64.
abbrev pub Rose : ℕ → ℕ → Type 0
Rose before now = raised before ≤ now

-- The count never falls, and a failure is told only where it rose.
pub record HasCause {T : Type 0} (before now : ℕ) (result : Result T FileFault) : Type 0 where
  pub grows : before ≤ now
  pub failed : IsErrOf result Failed → Rose before now

-- whether a call failed; want of memory is no failure of the files
abbrev pub is_failed : {T : Type 0} → Result T FileFault → Bool
is_failed (Ok value) = false
is_failed (Err Failed) = true
is_failed (Err Memory) = false
