-- A step with a sum above a limit ends a path with that sum.
use Rattle.std.proofs.Common.{◌≡◌, ℕ, ◌+◌, ◌-◌, ◌*◌, ◌<◌, ◌≤◌, ◌⊎◌, inl, inr, Bool, true, false, List, [], ◌∷◌, Option, IsSome}
use Rattle.std.proofs.Common.{refl, sym, ap, ◌∙◌, subst, arith, Contains}
use Rattle.std.specs.List.{AllByRecursion}
use Rattle.loopbound.specs.declared.graph.Bounds.{Bounds}
use Rattle.loopbound.specs.declared.graph.Loop.{Loop}
use Rattle.loopbound.specs.declared.graph.Move.{Move}
use Rattle.loopbound.specs.declared.graph.Move.TheVariants.{Stay, Turn, Leave}
use Rattle.loopbound.specs.declared.graph.Side.{Side}
use Rattle.loopbound.specs.declared.graph.Side.TheVariants.{Least, Most}
use Rattle.loopbound.specs.declared.graph.Step.{Step}
use Rattle.loopbound.specs.declared.graph.TimedLoop.{TimedLoop}
use Rattle.loopbound.specs.Loops.{holds, move, move_by, turns_at, Counted, Counts}
use Rattle.loopbound.specs.Path.{at, Path, begin, step, Exactly}
use Rattle.loopbound.specs.Table.{shapes, side_of, gain, gains, taken, Allows, CanGo, Labels, Runs, Running, Nested}
use Rattle.loopbound.specs.Joining.{sum_behind}
use Rattle.loopbound.specs.Order.{StandsBefore, IsLong, LongPath}
use Rattle.loopbound.proofs.ExactLemmas as exact

-- ---- counts before and behind a step: the loops that it leaves have turned as often as they do, the others not

abbrev before_by : Move → ℕ → ℕ
before_by Stay n = 0
before_by Turn n = 0
before_by Leave n = n - 1

abbrev behind_by : Move → ℕ
behind_by Stay = 0
behind_by Turn = 1
behind_by Leave = 0

module _ (w v : ℕ) where
  abbrev counts_before : Loop → ℕ
  counts_before l = before_by (move l w v) l.turns

  abbrev counts_behind : Loop → ℕ
  counts_behind l = behind_by (move l w v)

  one_counted : (m : Move) (n : ℕ) (turn : Option Bounds) → 0 < n → Allows m n turn → Counted m n (before_by m n) (behind_by m)
  one_counted Stay n turn run allows = refl
  one_counted Turn n turn run allows = (omega arith, allows)
  one_counted Leave n turn run allows = (omega (arith, run), refl)

  counted : (loops : List TimedLoop) → AllByRecursion (λ l. 0 < l.turns) (shapes loops) → CanGo w v loops
      → Counts (shapes loops) w v counts_before counts_behind
  counted [] run can = tt
  counted (l ∷ loops) run can =
      (one_counted (move l.shape w v) l.shape.turns l.turn run.0 can.0, counted loops run.1 can.1)

  one_runs : (a b c : Bool) (n : ℕ) (turn : Option Bounds) → 0 < n → Allows (move_by a b c) n turn
      → Runs a n turn (before_by (move_by a b c) n)
  one_runs false b c n turn run allows = refl
  one_runs true false c n turn run (inl once) = inl (omega (arith, once))
  one_runs true false c n turn run (inr some) = inr (omega (arith, run), some)
  one_runs true true false n turn run allows = inl refl
  one_runs true true true n turn run allows = inl refl

  running : (loops : List TimedLoop) → AllByRecursion (λ l. 0 < l.turns) (shapes loops) → CanGo w v loops
      → Running loops w counts_before
  running [] run can = tt
  running (l ∷ loops) run can = (
    one_runs (holds l.shape w) (holds l.shape v) (turns_at l.shape w v) l.shape.turns l.turn run.0 can.0,
    running loops run.1 can.1,
  )

  one_taken : (m : Move) (n t : ℕ) → before_by m n * t ≡ gain m n t
  one_taken Stay n t = omega arith
  one_taken Turn n t = omega arith
  one_taken Leave n t = refl

  all_taken : (side : Side) (loops : List TimedLoop) → taken side counts_before loops ≡ gains side w v loops
  all_taken side [] = refl
  all_taken side (l ∷ loops) =
      let here = one_taken (move l.shape w v) l.shape.turns (side_of side l.turn) in
      let rest = all_taken side loops in
      omega (arith, here, rest)

-- ---- over the whole list

in_list : (steps : List Step) (i : ℕ) (t : Step) → StandsBefore steps i t → Contains steps t
in_list steps i t d = (d.index, d.stands.0, d.stands.1)

widened : (Has More : Step → Type 0) (Takes : Step → ℕ → Type 0) (loops : List Loop) (entry : ℕ) → ((t : Step) → Has t → More t)
    → (w : ℕ) (k : Loop → ℕ) (sum : ℕ) → Path Takes Has loops entry w k sum → Path Takes More loops entry w k sum
widened Has More Takes loops entry more _ _ _ (begin k none) = begin k none
widened Has More Takes loops entry more _ _ _ (step t k j sum cycles path has is counts) =
    step t k j sum cycles (widened Has More Takes loops entry more t.from k sum path) (more t has) is counts

fewer : (Has More : Step → Type 0) (loops : List Loop) (entry : ℕ) → ((t : Step) → Has t → More t) → Nested More loops entry
    → Nested Has loops entry
fewer Has More loops entry more nested = record {
  run = nested.run;
  inner_first = nested.inner_first;
  begins = nested.begins;
  enters = λ t has. nested.enters t (more t has);
  one_turn = λ t has. nested.one_turn t (more t has);
  takes_time = λ t has. nested.takes_time t (more t has);
}

pub long_path : (steps : List Step) (shape : List Loop) (entry limit : ℕ) → Nested (Contains steps) shape entry
    → IsLong steps shape entry limit → LongPath steps shape entry limit
long_path steps shape entry limit nested long = by long.above.1
  where
    ends : (side : Side) → limit < sum_behind side long.loops long.label long.step → LongPath steps shape entry limit
    ends side above =
        let s = long.step in
        let here : Nested (Contains steps) (shapes long.loops) entry =
        subst (λ (ls : List Loop). Nested (Contains steps) ls entry) (sym long.same) nested in
        let inner = fewer (StandsBefore steps long.index) (Contains steps) (shapes long.loops) entry (in_list steps long.index) here in
        let j = counts_before s.from s.to in
        let sum = side_of side (long.label s.from) + taken side j long.loops in
        let path = exact.reached (StandsBefore steps long.index) long.loops long.label entry side inner long.fits (long.tight side)
        (side_of Most (long.label s.from) + taken Most j long.loops + 1) s.from j (omega arith) long.above.0.0
        (running s.from s.to long.loops here.run long.above.0.1) in
        let whole = step s j (counts_behind s.from s.to) sum (at side s.cost)
        (widened (StandsBefore steps long.index) (Contains steps) (Exactly side) (shapes long.loops) entry (in_list steps long.index)
        s.from j sum path)
        (long.index, long.stands.0, long.stands.1) refl (counted s.from s.to long.loops here.run long.above.0.1) in
        let turns = all_taken s.from s.to side long.loops in
        record {
          side = side;
          word = s.to;
          counts = counts_behind s.from s.to;
          sum = sum + at side s.cost;
          path = subst (λ (ls : List Loop).
              Path (Exactly side) (Contains steps) ls entry s.to (counts_behind s.from s.to) (sum + at side s.cost)) long.same whole;
          above = omega (arith, above, turns);
        }

    by : (limit < sum_behind Least long.loops long.label long.step) ⊎ (limit < sum_behind Most long.loops long.label long.step)
        → LongPath steps shape entry limit
    by (inl above) = ends Least above
    by (inr above) = ends Most above
