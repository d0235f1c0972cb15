use Rattle.std.proofs.Common.{◌≡◌, ℕ, List, [], Bool, not, Option, Some, None, IsTrue, ◌∙◌, sym, Bor, true, false, refl}
use Rattle.std.specs.Option.{is_some}
use Rattle.textline.specs.Fields.{fields_in}
use Rattle.textline.proofs.SplitLaws.{fields_some}
use Rattle.textline.proofs.fields.Fields.is_end.Goals as goal

ended : (rest : Option (Bor (List ℕ))) (b : Bool) (now : List (List ℕ)) → is_some rest ≡ not b → fields_in rest ≡ now
    → (IsTrue b → now ≡ []) × (now ≡ [] → IsTrue b)
ended None true now e v = (λ _. sym v, λ _. refl)
ended None false now e v = absurd (cc)
ended (Some rest) true now e v = absurd (cc)
ended (Some rest) false now e v = (λ t. absurd (cc), λ n. absurd (fields_some rest.now (v ∙ n)))

pub returns : goal.returns
returns c = ended c.self.inside.rest c.is_none.result c.args.self.now c.is_none.ensures c.self.view_is
