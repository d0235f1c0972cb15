-- A loop that is run three times, between a step to it and a step out of it: a pass may be made over it.
use Rattle.std.proofs.Common.{◌≡◌, ℕ, zero, suc, ◌<◌, true, List, [], ◌∷◌, length, Option, Some, None, is_some}
use Rattle.std.proofs.Common.{refl, sym, ap, arith}
use Rattle.std.specs.List.{AllByRecursion}
use Rattle.std.proofs.lemmas.Bool.{false≢true}
use Rattle.loopbound.specs.declared.graph.Bounds.{Bounds}
use Rattle.loopbound.specs.declared.graph.Loop.{Loop}
use Rattle.loopbound.specs.declared.graph.Step.{Step}
use Rattle.loopbound.specs.declared.graph.TimedLoop.{TimedLoop}
use Rattle.loopbound.specs.Table.{label_in, Enters, AtMostOne}
use Rattle.loopbound.specs.Order.{turned_loop, IsReady}
use Rattle.loopbound.proofs.EachLemmas.{each-contained}

abbrev step : ℕ → ℕ → Step
step w v = record { from = w; to = v; cost = record { least = 1; most = 1 } }

abbrev steps : List Step
steps = step 0 1 ∷ step 1 1 ∷ step 1 2 ∷ []

abbrev shape : Loop
shape = record { first = 1; last = 1; after = 1; turns = 3 }

abbrev loops : List TimedLoop
loops = record { shape = shape; turn = None } ∷ []

abbrev labels : List (Option Bounds)
labels = None ∷ None ∷ None ∷ []

no_labels : (w : ℕ) → label_in labels w ≡ None
no_labels zero = refl
no_labels (suc zero) = refl
no_labels (suc (suc zero)) = refl
no_labels (suc (suc (suc w))) = refl

pub ready : IsReady steps loops labels 0
ready = record {
  order = record {
    nested = record {
      run = (omega arith, tt);
      inner_first = (tt, tt);
      begins = (λ inside. absurd (false≢true inside), tt);
      enters = each-contained (λ s. AllByRecursion (Enters s.from s.to) (shape ∷ [])) steps
          ((λ _ _. refl, tt), ((λ out _. absurd (false≢true (sym out)), tt), ((λ out _. absurd (false≢true (sym out)), tt), tt)));
      one_turn = each-contained (λ s. AtMostOne s.from s.to (shape ∷ [])) steps
          ((λ _. tt, tt), ((λ _. tt, tt), ((λ _. tt, tt), tt)));
      takes_time = each-contained (λ s. 0 < s.cost.most) steps (omega arith, (omega arith, (omega arith, tt)));
    };
    ascend = ((omega arith, (omega arith, tt)), ((omega arith, tt), (tt, tt)));
    upwards = each-contained (λ s. turned_loop (shape ∷ []) s.from s.to ≡ None → s.from < s.to) steps
        (λ _. omega arith, (λ is. absurd (false≢true (sym (ap (λ (o : Option Loop). is_some o) is))), (λ _. omega arith, tt)));
  };
  within = each-contained (λ s. s.to < length labels) steps (omega arith, (omega arith, (omega arith, tt)));
  entry_within = omega arith;
  no_turns = (refl, tt);
  no_labels = no_labels;
}
