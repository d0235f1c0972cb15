use Rattle.std.proofs.Common.{◌≡◌, ◌++◌, ◌-◌, ◌≤◌, ℕ, List, length, take, min, arith}
use Rattle.std.proofs.Math.Seq.{take-append-add}
use Rattle.std.proofs.lemmas.Grind.{common_steps}
use Rattle.fileset.proofs.room.Room.fill.Goals as goal

-- as many of the bytes as fit behind those that stand there are the first that fit of both
filled : (taken bytes : List ℕ) (size : ℕ) → length taken ≤ size
    → taken ++ take (min (length bytes) (size - length taken)) bytes ≡ take size (taken ++ bytes)
filled taken bytes size fits =
    let behind = take-append-add taken bytes (size - length taken) in
    grind (arith, common_steps, behind)

pub returns : goal.returns
returns c =
    let within : length c.self.inside.taken.items ≤ c.self.inside.size = omega (arith, c.self.inside.taken.ok.0) in
    let all = filled c.self.inside.taken.items c.args.bytes.now c.self.inside.size within in
    grind (arith, common_steps, all)
