use Rattle.std.proofs.Common.{◌≡◌, map, take}
use Rattle.clap.specs.Words.{app_of}
use Rattle.cmdwords.specs.Splitting.{app_with}
use Rattle.cmdwords.proofs.reader.command.Given as goal

-- the command has the options so far
abbrev pub invariant-loop-name : goal.invariant-loop-name
invariant-loop-name l = app_of l.command ≡ app_with l.mode (map (λ name. name.now) (take l.name-index l.names))
