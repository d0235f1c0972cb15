-- A body that keeps to a plan, quietly, is even.
use Rattle.std.proofs.Common.{ℕ, List}
use Rattle.isa.specs.declared.program.Item.{Item}
use Rattle.helpers.specs.Paths.{IsEven}
use Rattle.helpers.proofs.Causes.{IsQuiet, no_cause}
use Rattle.helpers.proofs.EvenPaths.{Keeps, stays, returned, one_sum}
use Rattle.helpers.proofs.Plans.{Plan}

pub even : (plan : Plan) (count cycles : ℕ) (items : List Item) → Keeps plan count cycles items → IsQuiet plan count items
    → IsEven count cycles items
even plan count cycles items keeps quiet = record {
  stays = λ code region base w stands so. stays plan count cycles items keeps code region base stands w so;
  returns = λ table code region base w s loops t k stands so r.
      returned plan count cycles items keeps code region base stands table loops w s t k so r;
  one_sum = λ table code region base w s z loops stands a b.
      one_sum plan count cycles items keeps code region base stands table loops w s z a b;
  no_cause = λ code region first base w stands only within cause.
      no_cause plan count cycles items keeps quiet code region first base stands only w within cause;
}
