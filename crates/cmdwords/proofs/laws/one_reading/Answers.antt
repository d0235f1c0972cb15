use Rattle.cmdwords.proofs.laws.one_reading.Goals as goal
use Rattle.cmdwords.proofs.Reading.{one_meaning}

pub returns : goal.returns
returns c form words asked other named ranged first second = one_meaning form words asked other named ranged first second
