use Rattle.std.proofs.Common.{◌≡◌, ℕ, List, [], Bool, not, Option, Some, None, IsTrue, ◌∙◌, sym, Bor, true, false, refl}
use Rattle.std.specs.Option.{is_some}
use Rattle.asmword.specs.Parts.{parts_in}
use Rattle.asmword.proofs.PartLaws.{parts_some}
use Rattle.asmword.proofs.parts.Parts.is_end.Goals as goal

ended : (byte : ℕ) (rest : Option (Bor (List ℕ))) (b : Bool) (now : List (List ℕ)) → is_some rest ≡ not b → parts_in byte rest ≡ now
    → (IsTrue b → now ≡ []) × (now ≡ [] → IsTrue b)
ended byte None true now e v = (λ _. sym v, λ _. refl)
ended byte None false now e v = absurd (cc)
ended byte (Some rest) true now e v = absurd (cc)
ended byte (Some rest) false now e v = (λ t. absurd (cc), λ n. absurd (parts_some byte rest.now (v ∙ n)))

pub returns : goal.returns
returns c = ended c.self.inside.byte c.self.inside.rest c.is_none.result c.args.self.now c.is_none.ensures c.self.view_is
