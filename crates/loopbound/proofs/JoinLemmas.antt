-- What joining a value to a cell of a table changes.
use Rattle.std.proofs.Common.{◌≡◌, ℕ, ◌<◌, ◌≤◌, ◌⊎◌, inl, inr, List, [], ◌∷◌, Option, Some, None, IsSome}
use Rattle.std.proofs.Common.{refl, ap, arith}
use Rattle.std.proofs.lemmas.Bool.{cases_lt, false≢true}
use Rattle.std.specs.Prelude.{min, max}
use Rattle.std.specs.List.{AllByRecursion}
use Rattle.loopbound.specs.declared.graph.Bounds.{Bounds}
use Rattle.loopbound.specs.declared.graph.Loop.{Loop}
use Rattle.loopbound.specs.declared.graph.Move.{Move}
use Rattle.loopbound.specs.declared.graph.Move.TheVariants.{Stay, Turn, Leave}
use Rattle.loopbound.specs.declared.graph.Side.{Side}
use Rattle.loopbound.specs.declared.graph.Side.TheVariants.{Least, Most}
use Rattle.loopbound.specs.declared.graph.TimedLoop.{TimedLoop}
use Rattle.loopbound.specs.Loops.{move}
use Rattle.loopbound.specs.Path.{at}
use Rattle.loopbound.specs.Table.{shapes, side_of, gain, due, gains, dues, Allows, CanGo, HasTurn, HaveTurns, NoTurn, AtMostOne}
use Rattle.loopbound.specs.Joining.{joined, turned, turn_all}
use Rattle.loopbound.proofs.EachLemmas.{each-map, shape-each, turns_or}

-- ---- joined bounds

pub low_old : (o : Option Bounds) (v : Bounds) → IsSome o → (joined o v).least ≤ side_of Least o
low_old None v some = absurd (false≢true some)
low_old (Some b) v some = omega arith

pub high_old : (o : Option Bounds) (v : Bounds) → side_of Most o ≤ (joined o v).most
high_old None v = omega arith
high_old (Some b) v = omega arith

pub low_new : (o : Option Bounds) (v : Bounds) → (joined o v).least ≤ v.least
low_new None v = omega arith
low_new (Some b) v = omega arith

pub high_new : (o : Option Bounds) (v : Bounds) → v.most ≤ (joined o v).most
high_new None v = omega arith
high_new (Some b) v = omega arith

pub one_of : (side : Side) (o : Option Bounds) (v : Bounds)
    → (IsSome o × (at side (joined o v) ≡ side_of side o)) ⊎ (at side (joined o v) ≡ at side v)
one_of Least None v = inr refl
one_of Most None v = inr refl
one_of Least (Some b) v = by (cases_lt b.least v.least)
  where
    by : (b.least < v.least) ⊎ (v.least ≤ b.least)
        → (IsSome (Some b) × (min b.least v.least ≡ b.least)) ⊎ (min b.least v.least ≡ v.least)
    by (inl less) = inl (refl, omega (arith, less))
    by (inr more) = inr (omega (arith, more))
one_of Most (Some b) v = by (cases_lt b.most v.most)
  where
    by : (b.most < v.most) ⊎ (v.most ≤ b.most)
        → (IsSome (Some b) × (max b.most v.most ≡ b.most)) ⊎ (max b.most v.most ≡ v.most)
    by (inl less) = inr (omega (arith, less))
    by (inr more) = inl (refl, omega (arith, more))

pub least_joined : (side : Side) (o : Option Bounds) (v : Bounds) (f : ℕ) → (IsSome o → f ≤ side_of side o) → f ≤ at side v
    → f ≤ at side (joined o v)
least_joined side o v f old new = by (one_of side o v)
  where
    by : (IsSome o × (at side (joined o v) ≡ side_of side o)) ⊎ (at side (joined o v) ≡ at side v) → f ≤ at side (joined o v)
    by (inl e) = let a = old e.0 in let b = e.1 in omega (arith, a, b)
    by (inr e) = omega (arith, e, new)

-- ---- a step that turns nothing

no_due : (m : Move) (x : ℕ) → (m ≡ Turn → ⊥) → due m x ≡ 0
no_due Stay x none = refl
no_due Turn x none = absurd (none refl)
no_due Leave x none = refl

no_turn : (m : Move) (turn : Option Bounds) → (m ≡ Turn → ⊥) → HasTurn m turn
no_turn Stay turn none = tt
no_turn Turn turn none = absurd (none refl)
no_turn Leave turn none = tt

module _ (w v : ℕ) where
  pub no_dues : (side : Side) (loops : List TimedLoop) → AllByRecursion (NoTurn w v) (shapes loops) → dues side w v loops ≡ 0
  no_dues side [] none = refl
  no_dues side (l ∷ loops) none =
      let here = no_due (move l.shape w v) (side_of side l.turn) none.0 in
      let rest = no_dues side loops none.1 in
      omega (arith, here, rest)

  pub no_turns : (loops : List TimedLoop) → AllByRecursion (NoTurn w v) (shapes loops) → HaveTurns w v loops
  no_turns [] none = tt
  no_turns (l ∷ loops) none = (no_turn (move l.shape w v) l.turn none.0, no_turns loops none.1)

-- ---- a step that turns one loop

due_of : (m : Move) (x : ℕ) → m ≡ Turn → due m x ≡ x
due_of m x is = ap (λ (m : Move). due m x) is

abbrev pub OneDue : ℕ → ℕ → Side → ℕ → TimedLoop → Type 0
OneDue w v side sum l = move l.shape w v ≡ Turn → sum ≡ side_of side l.turn

pub dues_one : (w v : ℕ) (side : Side) (loops : List TimedLoop) → AtMostOne w v (shapes loops)
    → AllByRecursion (OneDue w v side (dues side w v loops)) loops
dues_one w v side [] one = tt
dues_one w v side (l ∷ loops) one = by (turns_or (move l.shape w v)) (dues_one w v side loops one.1)
  where
    here : move l.shape w v ≡ Turn → dues side w v (l ∷ loops) ≡ side_of side l.turn
    here it =
        let mine = due_of (move l.shape w v) (side_of side l.turn) it in
        let rest = no_dues w v side loops (one.0 it) in
        omega (arith, mine, rest)

    by : (move l.shape w v ≡ Turn) ⊎ (move l.shape w v ≡ Turn → ⊥) → AllByRecursion (OneDue w v side (dues side w v loops)) loops
        → AllByRecursion (OneDue w v side (dues side w v (l ∷ loops))) (l ∷ loops)
    by (inl it) inner = (
      here,
      each-map (λ o. NoTurn w v o.shape) (OneDue w v side (dues side w v (l ∷ loops))) (λ o not turns. absurd (not turns)) loops
          (shape-each (NoTurn w v) loops (one.0 it)),
    )
    by (inr not) inner = (
      here,
      each-map (OneDue w v side (dues side w v loops)) (OneDue w v side (dues side w v (l ∷ loops)))
          (λ o rest turns. let a = rest turns in let z = no_due (move l.shape w v) (side_of side l.turn) not in omega (arith, a, z))
          loops inner,
    )

-- ---- one loop, seen by a step that had been taken

gain_same : (taken now : Move) (n : ℕ) (side : Side) (x : Bounds) (o : Option Bounds) → (now ≡ Turn → taken ≡ Leave → ⊥)
    → gain taken n (side_of side (turned now x o)) ≡ gain taken n (side_of side o)
gain_same Stay now n side x o apart = refl
gain_same Turn now n side x o apart = refl
gain_same Leave Stay n side x o apart = refl
gain_same Leave Turn n side x o apart = absurd (apart refl refl)
gain_same Leave Leave n side x o apart = refl

allows_then : (taken now : Move) (n : ℕ) (x : Bounds) (o : Option Bounds) → (now ≡ Turn → taken ≡ Leave → ⊥)
    → Allows taken n (turned now x o) → Allows taken n o
allows_then Stay now n x o apart allows = tt
allows_then Turn now n x o apart allows = allows
allows_then Leave Stay n x o apart allows = allows
allows_then Leave Turn n x o apart allows = absurd (apart refl refl)
allows_then Leave Leave n x o apart allows = allows

allows_now : (taken now : Move) (n : ℕ) (x : Bounds) (o : Option Bounds) → (now ≡ Turn → taken ≡ Leave → ⊥)
    → Allows taken n o → Allows taken n (turned now x o)
allows_now Stay now n x o apart allows = tt
allows_now Turn now n x o apart allows = allows
allows_now Leave Stay n x o apart allows = allows
allows_now Leave Turn n x o apart allows = absurd (apart refl refl)
allows_now Leave Leave n x o apart allows = allows

has_now : (taken now : Move) (x : Bounds) (o : Option Bounds) → HasTurn taken o → HasTurn taken (turned now x o)
has_now Stay now x o has = tt
has_now Turn Stay x o has = has
has_now Turn Turn x o has = refl
has_now Turn Leave x o has = has
has_now Leave now x o has = tt

has_it : (m : Move) (x : Bounds) (o : Option Bounds) → HasTurn m (turned m x o)
has_it Stay x o = tt
has_it Turn x o = refl
has_it Leave x o = tt

due_low : (taken now : Move) (x : Bounds) (o : Option Bounds) → HasTurn taken o
    → due taken (side_of Least (turned now x o)) ≤ due taken (side_of Least o)
due_low Stay now x o has = omega arith
due_low Turn Stay x o has = omega arith
due_low Turn Turn x o has = low_old o x has
due_low Turn Leave x o has = omega arith
due_low Leave now x o has = omega arith

due_high : (taken now : Move) (x : Bounds) (o : Option Bounds)
    → due taken (side_of Most o) ≤ due taken (side_of Most (turned now x o))
due_high Stay now x o = omega arith
due_high Turn Stay x o = omega arith
due_high Turn Turn x o = high_old o x
due_high Turn Leave x o = omega arith
due_high Leave now x o = omega arith

-- ---- all loops

pub same_shapes : (w v : ℕ) (x : Bounds) (loops : List TimedLoop) → shapes (turn_all w v x loops) ≡ shapes loops
same_shapes w v x [] = refl
same_shapes w v x (l ∷ loops) = ap (λ (ls : List Loop). l.shape ∷ ls) (same_shapes w v x loops)

abbrev pub Kept : ℕ → ℕ → ℕ → ℕ → Loop → Type 0
Kept u d w v l = move l w v ≡ Turn → move l u d ≡ Leave → ⊥

module _ (u d w v : ℕ) (x : Bounds) where
  pub gains_same : (side : Side) (loops : List TimedLoop) → AllByRecursion (Kept u d w v) (shapes loops)
      → gains side u d (turn_all w v x loops) ≡ gains side u d loops
  gains_same side [] kept = refl
  gains_same side (l ∷ loops) kept =
      let here = gain_same (move l.shape u d) (move l.shape w v) l.shape.turns side x l.turn kept.0 in
      let rest = gains_same side loops kept.1 in
      omega (arith, here, rest)

  pub can_then : (loops : List TimedLoop) → AllByRecursion (Kept u d w v) (shapes loops) → CanGo u d (turn_all w v x loops)
      → CanGo u d loops
  can_then [] kept can = tt
  can_then (l ∷ loops) kept can =
      (allows_then (move l.shape u d) (move l.shape w v) l.shape.turns x l.turn kept.0 can.0, can_then loops kept.1 can.1)

  pub can_now : (loops : List TimedLoop) → AllByRecursion (Kept u d w v) (shapes loops) → CanGo u d loops
      → CanGo u d (turn_all w v x loops)
  can_now [] kept can = tt
  can_now (l ∷ loops) kept can =
      (allows_now (move l.shape u d) (move l.shape w v) l.shape.turns x l.turn kept.0 can.0, can_now loops kept.1 can.1)

  pub have_now : (loops : List TimedLoop) → HaveTurns u d loops → HaveTurns u d (turn_all w v x loops)
  have_now [] have = tt
  have_now (l ∷ loops) have = (has_now (move l.shape u d) (move l.shape w v) x l.turn have.0, have_now loops have.1)

  pub dues_low : (loops : List TimedLoop) → HaveTurns u d loops → dues Least u d (turn_all w v x loops) ≤ dues Least u d loops
  dues_low [] have = omega arith
  dues_low (l ∷ loops) have =
      let here = due_low (move l.shape u d) (move l.shape w v) x l.turn have.0 in
      let rest = dues_low loops have.1 in
      omega (arith, here, rest)

  pub dues_high : (loops : List TimedLoop) → dues Most u d loops ≤ dues Most u d (turn_all w v x loops)
  dues_high [] = omega arith
  dues_high (l ∷ loops) =
      let here = due_high (move l.shape u d) (move l.shape w v) x l.turn in
      let rest = dues_high loops in
      omega (arith, here, rest)

pub have_all : (w v : ℕ) (x : Bounds) (loops : List TimedLoop) → HaveTurns w v (turn_all w v x loops)
have_all w v x [] = tt
have_all w v x (l ∷ loops) = (has_it (move l.shape w v) x l.turn, have_all w v x loops)

module _ (w v : ℕ) (x : Bounds) (P : TimedLoop → Type 0) where
  abbrev pub Updated : TimedLoop → Type 0
  Updated l = P (record { shape = l.shape; turn = turned (move l.shape w v) x l.turn })

  pub each-updated : (loops : List TimedLoop) → AllByRecursion P (turn_all w v x loops) → AllByRecursion Updated loops
  each-updated [] all = tt
  each-updated (l ∷ loops) all = (all.0, each-updated loops all.1)

  pub updated-each : (loops : List TimedLoop) → AllByRecursion Updated loops → AllByRecursion P (turn_all w v x loops)
  updated-each [] all = tt
  updated-each (l ∷ loops) all = (all.0, updated-each loops all.1)

pub turned_it : (m : Move) (side : Side) (x : Bounds) (o : Option Bounds) → m ≡ Turn → side_of side (turned m x o) ≡ at side (joined o x)
turned_it m side x o is = ap (λ (m : Move). side_of side (turned m x o)) is

pub not_turned : (m : Move) (x : Bounds) (o : Option Bounds) → (m ≡ Turn → ⊥) → turned m x o ≡ o
not_turned Stay x o not = refl
not_turned Turn x o not = absurd (not refl)
not_turned Leave x o not = refl
