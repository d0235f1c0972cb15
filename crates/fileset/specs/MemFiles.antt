-- What is seen of files in memory, of which some calls are to fail.
use Rattle.fileset.specs.CallPlan.{Plan}
use Rattle.fileset.specs.FileMap.{NamedFiles}

pub record PlannedFiles : Type 0 where
  pub files : NamedFiles
  pub plan : Plan
