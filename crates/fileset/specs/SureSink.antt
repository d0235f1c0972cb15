-- What is seen of a sink that never fails.
use Rattle.std.specs.Prelude.{ℕ, Bool, if◌then◌else◌, List, Option, Some, None}
use Rattle.fileset.specs.Room.{Space}

pub record LossySink : Type 0 where
  pub room : Space
  -- no byte was dropped
  pub whole : Bool

-- the bytes taken, until one was dropped
abbrev pub told_of : LossySink → Option (List ℕ)
told_of sink = if sink.whole then Some sink.room.taken else None
