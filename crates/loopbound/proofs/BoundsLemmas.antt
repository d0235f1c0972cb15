-- The label of a word has the bounds of the sums there in first turns.
use Rattle.std.proofs.Common.{◌≡◌, ℕ, ◌+◌, ◌≤◌, List, [], ◌∷◌, Some, is_some, refl, ap, subst, arith, Contains}
use Rattle.loopbound.specs.declared.graph.Bounds.{Bounds}
use Rattle.loopbound.specs.declared.graph.Loop.{Loop}
use Rattle.loopbound.specs.declared.graph.Side.{Side}
use Rattle.loopbound.specs.declared.graph.Side.TheVariants.{Least, Most}
use Rattle.loopbound.specs.declared.graph.Step.{Step}
use Rattle.loopbound.specs.declared.graph.TimedLoop.{TimedLoop}
use Rattle.loopbound.specs.Loops.{NoneTurned}
use Rattle.loopbound.specs.Path.{at, Path, begin, step, Within, Exactly, Shares, AreBounds}
use Rattle.loopbound.specs.Table.{shapes, side_of, taken, Labels, Fits, Tight, Nested}
use Rattle.loopbound.proofs.SoundLemmas.{none_running, none_taken, sound}
use Rattle.loopbound.proofs.ExactLemmas.{exactness}

within : (side : Side) (s : Step) (c : ℕ) → s.cost.least ≤ s.cost.most → Exactly side s c → Within s c
within Least s c ordered is = (omega (arith, is), omega (arith, is, ordered))
within Most s c ordered is = (omega (arith, is, ordered), omega (arith, is))

loosened : (Has : Step → Type 0) (loops : List Loop) (entry : ℕ) (side : Side)
    → ((s : Step) → Has s → s.cost.least ≤ s.cost.most)
    → (w : ℕ) (k : Loop → ℕ) (sum : ℕ) → Path (Exactly side) Has loops entry w k sum → Path Within Has loops entry w k sum
loosened Has loops entry side ordered _ _ _ (begin k none) = begin k none
loosened Has loops entry side ordered _ _ _ (step s k j sum cycles path has is counts) =
    step s k j sum cycles (loosened Has loops entry side ordered s.from k sum path) has (within side s cycles (ordered s has) is) counts

none_turned : (loops : List TimedLoop) → NoneTurned (shapes loops) (λ _. 0)
none_turned [] = tt
none_turned (l ∷ loops) = (refl, none_turned loops)

module _ (steps : List Step) (loops : List TimedLoop) (label : Labels) (entry w : ℕ) (b : Bounds)
    (ordered : (s : Step) → Contains steps s → s.cost.least ≤ s.cost.most)
    (nested : Nested (Contains steps) (shapes loops) entry) (fits : Fits (Contains steps) loops label entry) (is : label w ≡ Some b) where
  reached : (side : Side) → Tight (Contains steps) loops label entry side
      → Shares (Contains steps) (shapes loops) entry w (at side b)
  reached side tight =
      let none = none_turned loops in
      let path = exactness steps loops label entry side w (λ _. 0) nested fits tight (ap is_some is)
      (none_running w (λ _. 0) loops none) in
      let here : side_of side (label w) ≡ at side b = ap (side_of side) is in
      let zero_turns = none_taken side (λ _. 0) loops none in
      record {
        counts = λ _. 0;
        path = subst (λ n. Path Within (Contains steps) (shapes loops) entry w (λ _. 0) n)
            (omega (arith, here, zero_turns))
            (loosened (Contains steps) (shapes loops) entry side ordered w (λ _. 0)
            (side_of side (label w) + taken side (λ _. 0) loops) path);
        first_turns = none;
      }

  pub bounds : Tight (Contains steps) loops label entry Least → Tight (Contains steps) loops label entry Most
      → AreBounds (Shares (Contains steps) (shapes loops) entry w) b
  bounds low high = record {
    has_least = reached Least low;
    has_most = reached Most high;
    within = λ n share.
        let h = sound (Contains steps) loops label entry fits w share.counts n share.path in
        let below = h.low in let above = h.high in
        let least : side_of Least (label w) ≡ b.least = ap (side_of Least) is in
        let most : side_of Most (label w) ≡ b.most = ap (side_of Most) is in
        let none_low = none_taken Least share.counts loops share.first_turns in
        let none_high = none_taken Most share.counts loops share.first_turns in
        (omega (arith, below, least, none_low), omega (arith, above, most, none_high));
  }

pub exact_labels : (steps : List Step) (loops : List TimedLoop) (label : Labels) (entry w : ℕ) (b : Bounds)
    → ((s : Step) → Contains steps s → s.cost.least ≤ s.cost.most)
    → Nested (Contains steps) (shapes loops) entry → Fits (Contains steps) loops label entry
    → Tight (Contains steps) loops label entry Least → Tight (Contains steps) loops label entry Most
    → label w ≡ Some b → AreBounds (Shares (Contains steps) (shapes loops) entry w) b
exact_labels steps loops label entry w b ordered nested fits low high is =
    bounds steps loops label entry w b ordered nested fits is low high
