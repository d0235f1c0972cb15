-- A table is tight where steps of the list explain its words and loops.
use Rattle.std.proofs.Common.{◌≡◌, ℕ, zero, suc, ◌<◌, ◌≤◌, ◌⊎◌, inl, inr, List, [], ◌∷◌, length, Option, None, IsSome, Contains, arith}
use Rattle.std.specs.Prelude.{slice_index_or}
use Rattle.std.specs.List.{AllByRecursion}
use Rattle.std.proofs.lemmas.Bool.{cases_lt, false≢true}
use Rattle.loopbound.specs.declared.graph.Bounds.{Bounds}
use Rattle.loopbound.specs.declared.graph.Side.{Side}
use Rattle.loopbound.specs.declared.graph.Step.{Step}
use Rattle.loopbound.specs.declared.graph.TimedLoop.{TimedLoop}
use Rattle.loopbound.specs.Table.{Labels, label_in, side_of, AnyOf, Explains, ExplainsTurn, WordExplained, LoopExplained}
use Rattle.loopbound.specs.Table.{Reason, at_entry, by_step, TurnReason, Tight}
use Rattle.loopbound.proofs.EachLemmas.{each-map, any-contained, contained-any}

none_behind : (labels : List (Option Bounds)) (w : ℕ) → length labels ≤ w → IsSome (slice_index_or labels w None) → ⊥
none_behind [] w far some = false≢true some
none_behind (l ∷ labels) zero far some = absurd (omega (arith, far))
none_behind (l ∷ labels) (suc w) far some = none_behind labels w (omega (arith, far)) some

module _ (side : Side) (steps : List Step) (loops : List TimedLoop) (labels : List (Option Bounds)) (entry : ℕ) where
  abbrev label : Labels
  label w = label_in labels w

  abbrev Words : Type 0
  Words = (w : ℕ) → w < length labels → WordExplained steps loops label entry side w

  reason : (w : ℕ) → ((w ≡ entry) × (side_of side (label w) ≡ 0)) ⊎ AnyOf (Explains loops label side w) steps
      → Reason (Contains steps) loops label entry side w
  reason w (inl it) = at_entry it.0 it.1
  reason w (inr any) =
      let a = any-contained (Explains loops label side w) steps any in
      by_step a.0 a.1 a.2.0 a.2.1 a.2.2

  explained : (w : ℕ) → Reason (Contains steps) loops label entry side w
      → ((w ≡ entry) × (side_of side (label w) ≡ 0)) ⊎ AnyOf (Explains loops label side w) steps
  explained w (at_entry is at_zero) = inl (is, at_zero)
  explained w (by_step s has to meets none) = inr (contained-any (Explains loops label side w) steps s has (to, meets, none))

  pub tight_from : Words → AllByRecursion (LoopExplained steps loops label side) loops
      → Tight (Contains steps) loops label entry side
  tight_from words rows = record {
    words = λ w known. by w known (cases_lt w (length labels));
    turns = each-map (LoopExplained steps loops label side)
        (λ l. IsSome l.turn → TurnReason (Contains steps) loops label side l.shape)
        (λ l explains some.
        let a = any-contained (ExplainsTurn loops label side l.shape) steps (explains some) in
        record { step = a.0; has = a.1; meets = a.2.0; turns = a.2.1 })
        loops rows;
  }
    where
      by : (w : ℕ) → IsSome (label w) → (w < length labels) ⊎ (length labels ≤ w) → Reason (Contains steps) loops label entry side w
      by w known (inl near) = reason w (words w near known)
      by w known (inr far) = absurd (none_behind labels w far known)

  pub words_from : Tight (Contains steps) loops label entry side → Words
  words_from tight w near known = explained w (tight.words w known)

  pub loops_from : Tight (Contains steps) loops label entry side → AllByRecursion (LoopExplained steps loops label side) loops
  loops_from tight =
      each-map (λ l. IsSome l.turn → TurnReason (Contains steps) loops label side l.shape)
      (LoopExplained steps loops label side)
      (λ l reasons some.
      let r = reasons some in
      contained-any (ExplainsTurn loops label side l.shape) steps r.step r.has (r.meets, r.turns))
      loops tight.turns
