-- Counts of both cores through a cycle.
use Rattle.std.proofs.Common.{◌≡◌, ℕ, ◌+◌, ◌≤◌, Bool, true, false, cond, List, [], ◌∷◌, refl, ap, subst, ◌∙◌, arith}
use Rattle.std.specs.Prelude.{◌==◌, filter}
use Rattle.std.specs.List.{AllByRecursion}
use Rattle.hostscript.specs.declared.action.Act.{Act}
use Rattle.hostscript.specs.Acts.{IsAct}
use Rattle.twocore.specs.declared.setup.Setup.{Setup}
use Rattle.twocore.specs.World.{Stage}
use Rattle.twocore.specs.Word.{turned}
use Rattle.twocore.specs.Machine.{acts_at, all_acted}
use Rattle.twocore.proofs.KeepLemmas.{Keeps, Counts, KeepsBoth, all_acted_keeps, turned_counts, turned_keeps}

-- of the acts of a cycle each is one
kept : (b : Bool) (a : Act) (acts : List Act) → IsAct a → AllByRecursion IsAct acts → AllByRecursion IsAct (cond b (a ∷ acts) acts)
kept true a acts one all = (one, all)
kept false a acts one all = all

pub acts_are : (t : ℕ) (acts : List Act) → AllByRecursion IsAct acts → AllByRecursion IsAct (acts_at t acts)
acts_are t [] all = tt
acts_are t (a ∷ acts) all = kept (a.cycle == t) a (acts_at t acts) all.0 (acts_are t acts all.1)

pub record SameCounts (old new : Stage) : Type 0 where
  pub own_count : new.own.count ≡ old.own.count
  pub own_waited : new.own.waited ≡ old.own.waited
  pub other_count : new.other.count ≡ old.other.count
  pub other_waited : new.other.waited ≡ old.other.waited

pub acted_counts : (s : Stage) (acts : List Act) (after : Stage) → after ≡ all_acted s acts → SameCounts s after
acted_counts s acts after is =
    let keeps : KeepsBoth s (all_acted s acts) = all_acted_keeps s acts in
    record {
      own_count = ap (λ (x : Stage). x.own.count) is ∙ keeps.own.count;
      own_waited = ap (λ (x : Stage). x.own.waited) is ∙ keeps.own.waited;
      other_count = ap (λ (x : Stage). x.other.count) is ∙ keeps.other.count;
      other_waited = ap (λ (x : Stage). x.other.waited) is ∙ keeps.other.waited;
    }

pub record TurnedCounts (old new : Stage) : Type 0 where
  pub own_count : new.own.count ≤ old.own.count + 1
  pub own_waited : new.own.waited ≤ old.own.waited + 1
  pub other_count : new.other.count ≡ old.other.count
  pub other_waited : new.other.waited ≡ old.other.waited

pub after_turn : (setup : Setup) (t : ℕ) (s after : Stage) → after ≡ (turned setup t s).stage → TurnedCounts s after
after_turn setup t s after is =
    let counts : Counts s.own (turned setup t s).stage.own = turned_counts setup t s in
    let keeps : Keeps s.other (turned setup t s).stage.other = turned_keeps setup t s in
    let count : after.own.count ≡ (turned setup t s).stage.own.count = ap (λ (x : Stage). x.own.count) is in
    let waited : after.own.waited ≡ (turned setup t s).stage.own.waited = ap (λ (x : Stage). x.own.waited) is in
    record {
      own_count = omega (arith, counts.count);
      own_waited = omega (arith, counts.waited);
      other_count = ap (λ (x : Stage). x.other.count) is ∙ keeps.count;
      other_waited = ap (λ (x : Stage). x.other.waited) is ∙ keeps.waited;
    }
