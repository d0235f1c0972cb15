-- What is seen of a sink over a room, of which some calls are to fail.
use Rattle.fileset.specs.CallPlan.{Plan}
use Rattle.fileset.specs.Room.{Space}

pub record PlannedSink : Type 0 where
  pub room : Space
  pub plan : Plan
