-- Where one step meets each bound, some path meets it: from any word and any counts there, one step back at a time.
use Rattle.std.proofs.Common.{◌≡◌, ℕ, zero, suc, ◌+◌, ◌-◌, ◌<◌, ◌≤◌, ◌⊎◌, inl, inr, Bool, true, false, List, [], ◌∷◌, Option, IsSome}
use Rattle.std.proofs.Common.{refl, sym, subst, ◌∙◌, arith, Contains}
use Rattle.std.proofs.lemmas.Bool.{eqb-true, eqb-false, leb-true, le-leb, and_parts, and_from}
use Rattle.std.specs.Prelude.{◌==◌, nat_le}
use Rattle.std.specs.List.{AllByRecursion}
use Rattle.loopbound.specs.declared.graph.Bounds.{Bounds}
use Rattle.loopbound.specs.declared.graph.Loop.{Loop}
use Rattle.loopbound.specs.declared.graph.Step.{Step}
use Rattle.loopbound.specs.declared.graph.TimedLoop.{TimedLoop}
use Rattle.loopbound.specs.declared.graph.Move.{Move}
use Rattle.loopbound.specs.declared.graph.Move.TheVariants.{Stay, Turn, Leave}
use Rattle.loopbound.specs.Loops.{holds, move, move_by, turns_at, Counted, Counts, NoneTurned}
use Rattle.loopbound.specs.declared.graph.Side.{Side}
use Rattle.loopbound.specs.declared.graph.Side.TheVariants.{Most}
use Rattle.loopbound.specs.Path.{at, Path, begin, step, Exactly}
use Rattle.loopbound.specs.Table.{shapes, side_of, taken, Allows, CanGo, Labels, Fits, Meets, TurnsNone}
use Rattle.loopbound.specs.Table.{Reason, at_entry, by_step, TurnReason, Tight, Runs, Running, LiesIn, Apart, InnerFirst, Enters, Nested}
use Rattle.loopbound.proofs.EachLemmas.{each-both, each-map, contained-each, shape-each, Same, only}
use Rattle.loopbound.proofs.SoundLemmas.{all_counts, none_taken}

-- ---- the counts before a step

-- how often a loop had turned
abbrev before : Move → ℕ → ℕ → ℕ
before Stay n k = k
before Turn n k = k - 1
before Leave n k = n - 1

abbrev counts_before : ℕ → ℕ → (Loop → ℕ) → Loop → ℕ
counts_before u v k l = before (move l u v) l.turns (k l)

one_before : (a b c : Bool) (n k : ℕ) (turn : Option Bounds) → Runs b n turn k → Allows (move_by a b c) n turn → 0 < n
    → (move_by a b c ≡ Turn → 0 < k) → (a ≡ false → k ≡ 0)
    → Counted (move_by a b c) n (before (move_by a b c) n k) k × Runs a n turn (before (move_by a b c) n k)
one_before false b c n k turn runs allows run more outside = (refl, outside refl)
one_before true false c n k turn runs (inl once) run more outside = ((omega (arith, run), runs), inl (omega (arith, once)))
one_before true false c n k turn runs (inr some) run more outside = ((omega (arith, run), runs), inr (omega (arith, run), some))
one_before true true false n k turn runs allows run more outside = (refl, runs)
one_before true true true n k turn (inl none) allows run more outside = absurd (let m = more refl in omega (arith, m, none))
one_before true true true n k turn (inr some) allows run more outside =
    let m = more refl in let a = some.0 in ((omega (arith, m), a), inr (omega (arith, m, a), some.1))

-- what has to be known of each loop
record Before (u v : ℕ) (k : Loop → ℕ) (l : TimedLoop) : Type 0 where
  runs : Runs (holds l.shape v) l.shape.turns l.turn (k l.shape)
  allows : Allows (move l.shape u v) l.shape.turns l.turn
  run : 0 < l.shape.turns
  more : move l.shape u v ≡ Turn → 0 < k l.shape
  outside : holds l.shape u ≡ false → k l.shape ≡ 0

all_before : (u v : ℕ) (k : Loop → ℕ) (loops : List TimedLoop) → AllByRecursion (Before u v k) loops
    → Counts (shapes loops) u v (counts_before u v k) k × Running loops u (counts_before u v k)
all_before u v k [] all = (tt, tt)
all_before u v k (l ∷ loops) all =
    let b = all.0 in
    let here = one_before (holds l.shape u) (holds l.shape v) (turns_at l.shape u v) l.shape.turns (k l.shape) l.turn
    b.runs b.allows b.run b.more b.outside in
    let rest = all_before u v k loops all.1 in
    ((here.0, rest.0), (here.1, rest.1))

-- ---- words of loops

pub held : (l : Loop) (w : ℕ) → holds l w ≡ true → (l.first ≤ w) × (w ≤ l.last)
held l w is =
    let parts = and_parts (nat_le l.first w) (nat_le w l.last) is in
    (leb-true l.first w parts.0, leb-true w l.last parts.1)

pub holding : (l : Loop) (w : ℕ) → l.first ≤ w → w ≤ l.last → holds l w ≡ true
holding l w a b =
    and_from (nat_le l.first w) (nat_le w l.last) (le-leb l.first w a) (le-leb w l.last b)

pub held_in : (a b : Loop) (w : ℕ) → LiesIn a b → holds a w ≡ true → holds b w ≡ true
held_in a b w lies is =
    let h = held a w is in
    let x = h.0 in let y = h.1 in let p = lies.0 in let q = lies.1 in
    holding b w (omega (arith, x, p)) (omega (arith, y, q))

turning : (a b c : Bool) → move_by a b c ≡ Turn → (a ≡ true) × (b ≡ true) × (c ≡ true)
turning false b c is = absurd (let e : ◌≡◌ {A = Move} Stay Turn = is in cc)
turning true false c is = absurd (let e : ◌≡◌ {A = Move} Leave Turn = is in cc)
turning true true false is = absurd (let e : ◌≡◌ {A = Move} Stay Turn = is in cc)
turning true true true is = (refl, refl, refl)

pub record Turned (l : Loop) (u v : ℕ) : Type 0 where
  pub from : holds l u ≡ true
  pub to : holds l v ≡ true
  pub late : l.after ≤ u
  pub first : v ≡ l.first

pub turned : (l : Loop) (u v : ℕ) → move l u v ≡ Turn → Turned l u v
turned l u v is =
    let parts = turning (holds l u) (holds l v) (turns_at l u v) is in
    let at = and_parts (nat_le l.after u) (v == l.first) parts.2 in
    record { from = parts.0; to = parts.1; late = leb-true l.after u at.0; first = eqb-true v l.first at.1 }

-- ---- a loop that the step before entered has not turned

entered_none : (a b : Bool) (l : Loop) (w n k : ℕ) (turn : Option Bounds) → Runs b n turn k
    → (a ≡ false → b ≡ true → w ≡ l.first) → (b ≡ true → l.first ≡ w → 0 < k → a ≡ true) → a ≡ false → k ≡ 0
entered_none a false l w n k turn runs enters turns out = runs
entered_none a true l w n zero turn runs enters turns out = refl
entered_none a true l w n (suc k) turn runs enters turns out =
    absurd (let e = turns refl (sym (enters out refl)) (omega arith) in let f : ◌≡◌ {A = Bool} true false = sym e ∙ out in cc)

-- ---- the innermost loop that begins at a word and has turned

split : (a b k : ℕ) → ((a ≡ b) × (0 < k)) ⊎ (a ≡ b → k ≡ 0)
split a b zero = inr (λ _. refl)
split a b (suc k) = by (a == b) refl
  where
    by : (t : Bool) → (a == b) ≡ t → ((a ≡ b) × (0 < suc k)) ⊎ (a ≡ b → suc k ≡ 0)
    by true is = inl (eqb-true a b is, omega arith)
    by false is = inr (λ e. absurd (eqb-false a b is e))

module _ (P : TimedLoop → Type 0) (w : ℕ) (k : Loop → ℕ) where
  abbrev HoldsIt : Loop → TimedLoop → Type 0
  HoldsIt l o = holds o.shape w ≡ true → o.shape.first ≡ w → 0 < k o.shape → LiesIn l o.shape

  record Picked (loops : List TimedLoop) : Type 0 where
    row : TimedLoop
    known : P row
    first : row.shape.first ≡ w
    more : 0 < k row.shape
    innermost : AllByRecursion (HoldsIt row.shape) loops

  abbrev NoneAt : List TimedLoop → Type 0
  NoneAt loops = AllByRecursion (λ l. l.shape.first ≡ w → k l.shape ≡ 0) loops

  within_outer : (l : TimedLoop) → holds l.shape w ≡ true → (o : TimedLoop) → Apart l.shape o.shape → HoldsIt l.shape o
  within_outer l here o (inl lies) holds_it first more = lies
  within_outer l here o (inr (inl before)) holds_it first more =
      absurd (let h = held l.shape w here in let a = h.1 in let b = (held o.shape w holds_it).0 in omega (arith, a, b, before))
  within_outer l here o (inr (inr before)) holds_it first more =
      absurd (let h = held l.shape w here in let a = h.0 in let b = (held o.shape w holds_it).1 in omega (arith, a, b, before))

  later : (l : TimedLoop) (loops : List TimedLoop) → (l.shape.first ≡ w → k l.shape ≡ 0) → Picked loops → Picked (l ∷ loops)
  later l loops none p = record {
    row = p.row;
    known = p.known;
    first = p.first;
    more = p.more;
    innermost = (λ it first more. absurd (let z = none first in omega (arith, z, more)), p.innermost);
  }

  pick : ((l : TimedLoop) → P l → 0 < k l.shape → holds l.shape w ≡ true) → (loops : List TimedLoop) → AllByRecursion P loops
      → InnerFirst (shapes loops) → NoneAt loops ⊎ Picked loops
  pick inside [] known nest = inl tt
  pick inside (l ∷ loops) known nest = by (pick inside loops known.1 nest.1) (split l.shape.first w (k l.shape))
    where
      rest : (l.shape.first ≡ w → k l.shape ≡ 0) → NoneAt loops ⊎ Picked loops → NoneAt (l ∷ loops) ⊎ Picked (l ∷ loops)
      rest none (inl all) = inl (none, all)
      rest none (inr p) = inr (later l loops none p)

      by : NoneAt loops ⊎ Picked loops → ((l.shape.first ≡ w) × (0 < k l.shape)) ⊎ (l.shape.first ≡ w → k l.shape ≡ 0)
          → NoneAt (l ∷ loops) ⊎ Picked (l ∷ loops)
      by inner (inl it) = inr (record {
        row = l;
        known = known.0;
        first = it.0;
        more = it.1;
        innermost = (
          λ _ _ _. (omega arith, omega arith),
          each-map (λ o. Apart l.shape o.shape) (HoldsIt l.shape) (within_outer l (inside l known.0 it.1)) loops
              (shape-each (Apart l.shape) loops nest.0),
        );
      })
      by inner (inr none) = rest none inner

-- ---- one step back

module _ (Has : Step → Type 0) (loops : List TimedLoop) (label : Labels) (entry : ℕ) (side : Side)
    (nested : Nested Has (shapes loops) entry) (fits : Fits Has loops label entry) (tight : Tight Has loops label entry side) where
  abbrev Reached : ℕ → (Loop → ℕ) → Type 0
  Reached w k = Path (Exactly side) Has (shapes loops) entry w k (side_of side (label w) + taken side k loops)

  -- what falls with each step back
  abbrev height : ℕ → (Loop → ℕ) → ℕ
  height w k = side_of Most (label w) + taken Most k loops

  -- from all places that are lower
  abbrev Below : ℕ → (Loop → ℕ) → Type 0
  Below w k = (v : ℕ) (j : Loop → ℕ) → height v j < height w k → IsSome (label v) → Running loops v j → Reached v j

  back : (s : Step) (k : Loop → ℕ) → Has s → Meets loops label side s → AllByRecursion (Before s.from s.to k) loops → Below s.to k
      → Reached s.to k
  back s k has meets all below =
      let j : Loop → ℕ = counts_before s.from s.to k in
      let b = all_before s.from s.to k loops all in
      let f = fits.steps s has meets.known meets.can in
      let high = f.high in
      let most = all_counts Most s.from s.to j k loops b.0 in
      let exact = all_counts side s.from s.to j k loops b.0 in
      let time = nested.takes_time s has in
      let same = meets.same in
      let path = below s.from j (omega (arith, high, most, time)) meets.known b.1 in
      subst (λ n. Path (Exactly side) Has (shapes loops) entry s.to k n)
      (omega (arith, same, exact))
      (step s j k (side_of side (label s.from) + taken side j loops) (at side s.cost) path has refl b.0)

  -- that a step into w is the one before, where it turns what has turned and leaves no turned loop outside
  record Fact (u w : ℕ) (k : Loop → ℕ) (l : TimedLoop) : Type 0 where
    more : move l.shape u w ≡ Turn → 0 < k l.shape
    kept : holds l.shape w ≡ true → l.shape.first ≡ w → 0 < k l.shape → holds l.shape u ≡ true

  facts : (s : Step) (k : Loop → ℕ) (has : Has s) → Running loops s.to k → CanGo s.from s.to loops
      → AllByRecursion (Fact s.from s.to k) loops → AllByRecursion (Before s.from s.to k) loops
  facts s k has running can all = go loops running can nested.run (nested.enters s has) all
    where
      go : (ls : List TimedLoop) → Running ls s.to k → CanGo s.from s.to ls → AllByRecursion (λ l. 0 < l.turns) (shapes ls)
          → AllByRecursion (Enters s.from s.to) (shapes ls)
          → AllByRecursion (Fact s.from s.to k) ls → AllByRecursion (Before s.from s.to k) ls
      go [] running can run enters all = tt
      go (l ∷ ls) running can run enters all = (
        record {
          runs = running.0;
          allows = can.0;
          run = run.0;
          more = all.0.more;
          outside = entered_none (holds l.shape s.from) (holds l.shape s.to) l.shape s.to l.shape.turns (k l.shape) l.turn
              running.0 enters.0 all.0.kept;
        },
        go ls running.1 can.1 run.1 enters.1 all.1,
      )

  -- ---- the step before

  -- a loop that begins here has turned
  by_turn : (s : Step) (k : Loop → ℕ) (l : Loop) → Has s → Meets loops label side s → move l s.from s.to ≡ Turn → 0 < k l
      → AllByRecursion (Same s.from s.to l) (shapes loops)
      → AllByRecursion (λ o. holds o.shape s.to ≡ true → o.shape.first ≡ s.to → 0 < k o.shape → LiesIn l o.shape) loops
      → Running loops s.to k → Below s.to k → Reached s.to k
  by_turn s k l has meets turns more one innermost running below =
      let t = turned l s.from s.to turns in
      back s k has meets
      (facts s k has running meets.can
      (each-both
      (λ o. move o.shape s.from s.to ≡ Turn → l ≡ o.shape)
      (λ o. holds o.shape s.to ≡ true → o.shape.first ≡ s.to → 0 < k o.shape → LiesIn l o.shape)
      (Fact s.from s.to k)
      (λ o one inner. record {
        more = λ it. subst (λ (x : Loop). 0 < k x) (one it) more;
        kept = λ it first has_turned. held_in l o.shape s.from (inner it first has_turned) t.from;
      })
      loops (shape-each (Same s.from s.to l) loops one) innermost))
      below

  -- none has
  by_reason : (s : Step) (k : Loop → ℕ) → Has s → Meets loops label side s → TurnsNone loops s
      → AllByRecursion (λ l. l.shape.first ≡ s.to → k l.shape ≡ 0) loops
      → Running loops s.to k → Below s.to k → Reached s.to k
  by_reason s k has meets none zeros running below =
      back s k has meets
      (facts s k has running meets.can
      (each-both
      (λ o. move o.shape s.from s.to ≡ Turn → ⊥)
      (λ o. o.shape.first ≡ s.to → k o.shape ≡ 0)
      (Fact s.from s.to k)
      (λ o no unturned. record {
        more = λ it. absurd (no it);
        kept = λ it first more. absurd (let z = unturned first in omega (arith, z, more));
      })
      loops none zeros))
      below

  at_begin : (k : Loop → ℕ) → side_of side (label entry) ≡ 0
      → AllByRecursion (λ l. l.shape.first ≡ entry → k l.shape ≡ 0) loops → Running loops entry k → Reached entry k
  at_begin k is zeros running =
      let none = go loops running nested.begins zeros in
      let sum = none_taken side k loops none in
      subst (λ n. Path (Exactly side) Has (shapes loops) entry entry k n) (omega (arith, is, sum)) (begin k none)
    where
      one : (b : Bool) (l : Loop) (n k : ℕ) (turn : Option Bounds) → Runs b n turn k → (b ≡ true → entry ≡ l.first)
          → (l.first ≡ entry → k ≡ 0) → k ≡ 0
      one false l n k turn runs begins unturned = runs
      one true l n k turn runs begins unturned = unturned (sym (begins refl))

      go : (ls : List TimedLoop) → Running ls entry k → AllByRecursion (λ l. holds l entry ≡ true → entry ≡ l.first) (shapes ls)
          → AllByRecursion (λ l. l.shape.first ≡ entry → k l.shape ≡ 0) ls → NoneTurned (shapes ls) k
      go [] running begins zeros = tt
      go (l ∷ ls) running begins zeros = (
        one (holds l.shape entry) l.shape l.shape.turns (k l.shape) l.turn running.0 begins.0 zeros.0,
        go ls running.1 begins.1 zeros.1,
      )

  record Known (w : ℕ) (k : Loop → ℕ) (l : TimedLoop) : Type 0 where
    runs : Runs (holds l.shape w) l.shape.turns l.turn (k l.shape)
    reason : IsSome l.turn → TurnReason Has loops label side l.shape
    one : (s : Step) → Has s → move l.shape s.from s.to ≡ Turn → AllByRecursion (Same s.from s.to l.shape) (shapes loops)

  abbrev One : Loop → Type 0
  One l = (s : Step) → Has s → move l s.from s.to ≡ Turn → AllByRecursion (Same s.from s.to l) (shapes loops)

  ones : AllByRecursion (λ l. One l.shape) loops
  ones =
      shape-each One loops
      (contained-each One (shapes loops)
      (λ l has s step turns.
      contained-each (Same s.from s.to l) (shapes loops)
      (λ m has_m turns_m. only s.from s.to (shapes loops) (nested.one_turn s step) l m has has_m turns turns_m)))

  inside : (b : Bool) (n k : ℕ) (turn : Option Bounds) → Runs b n turn k → 0 < k → (b ≡ true) × IsSome turn
  inside false n k turn runs more = absurd (omega (arith, runs, more))
  inside true n k turn (inl none) more = absurd (omega (arith, none, more))
  inside true n k turn (inr some) more = (refl, some.1)

  before_turn : (w : ℕ) (k : Loop → ℕ) → Running loops w k → Below w k → Picked (Known w k) w k loops → Reached w k
  before_turn w k running below p =
      let l = p.row in
      let h = inside (holds l.shape w) l.shape.turns (k l.shape) l.turn p.known.runs p.more in
      let reason = p.known.reason h.1 in
      let s = reason.step in
      let to : s.to ≡ w = (turned l.shape s.from s.to reason.turns).first ∙ p.first in
      subst
      (λ (v : ℕ). AllByRecursion (λ o. holds o.shape v ≡ true → o.shape.first ≡ v → 0 < k o.shape → LiesIn l.shape o.shape) loops
      → Running loops v k → Below v k → Reached v k)
      to
      (by_turn s k l.shape reason.has reason.meets reason.turns p.more (p.known.one s reason.has reason.turns))
      p.innermost running below

  before_none : (w : ℕ) (k : Loop → ℕ) → Reason Has loops label entry side w
      → AllByRecursion (λ l. l.shape.first ≡ w → k l.shape ≡ 0) loops → Running loops w k → Below w k → Reached w k
  before_none w k (at_entry is at_zero) =
      subst
      (λ (v : ℕ). side_of side (label v) ≡ 0 → AllByRecursion (λ l. l.shape.first ≡ v → k l.shape ≡ 0) loops
      → Running loops v k → Below v k → Reached v k)
      (sym is)
      (λ at_zero zeros running below. at_begin k at_zero zeros running)
      at_zero
  before_none w k (by_step s has to meets none) =
      subst
      (λ (v : ℕ). AllByRecursion (λ l. l.shape.first ≡ v → k l.shape ≡ 0) loops → Running loops v k → Below v k → Reached v k)
      to
      (by_reason s k has meets none)

  one_back : (w : ℕ) (k : Loop → ℕ) → IsSome (label w) → Running loops w k → Below w k → Reached w k
  one_back w k known running below =
      by (pick (Known w k) w k (λ l kn more. (inside (holds l.shape w) l.shape.turns (k l.shape) l.turn kn.runs more).0) loops
      (each-both (λ l. Runs (holds l.shape w) l.shape.turns l.turn (k l.shape))
      (λ l. (IsSome l.turn → TurnReason Has loops label side l.shape) × One l.shape) (Known w k)
      (λ l runs rest. record { runs = runs; reason = rest.0; one = rest.1 }) loops running
      (each-both (λ l. IsSome l.turn → TurnReason Has loops label side l.shape) (λ l. One l.shape)
      (λ l. (IsSome l.turn → TurnReason Has loops label side l.shape) × One l.shape)
      (λ l reason one. (reason, one)) loops tight.turns ones))
      nested.inner_first)
    where
      by : NoneAt (Known w k) w k loops ⊎ Picked (Known w k) w k loops → Reached w k
      by (inl none) = before_none w k (tight.words w known) none running below
      by (inr p) = before_turn w k running below p

  pub reached : (m w : ℕ) (k : Loop → ℕ) → height w k < m → IsSome (label w) → Running loops w k → Reached w k
  reached zero w k low known running = absurd (omega (arith, low))
  reached (suc m) w k low known running =
      one_back w k known running (λ v j less known running. reached m v j (omega (arith, less, low)) known running)

pub exactness : (steps : List Step) (loops : List TimedLoop) (label : Labels) (entry : ℕ) (side : Side) (w : ℕ) (k : Loop → ℕ)
    → Nested (Contains steps) (shapes loops) entry → Fits (Contains steps) loops label entry → Tight (Contains steps) loops label entry side
    → IsSome (label w) → Running loops w k
    → Path (Exactly side) (Contains steps) (shapes loops) entry w k (side_of side (label w) + taken side k loops)
exactness steps loops label entry side w k nested fits tight known running =
    reached (Contains steps) loops label entry side nested fits tight (side_of Most (label w) + taken Most k loops + 1) w k (omega arith)
    known running
