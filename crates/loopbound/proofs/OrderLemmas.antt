-- What the order of the steps says of those before a step.
use Rattle.std.proofs.Common.{◌≡◌, ℕ, zero, suc, ◌+◌, ◌-◌, ◌<◌, ◌≤◌, ◌⊎◌, inl, inr, Bool, true, false, List, [], ◌∷◌}
use Rattle.std.proofs.Common.{length, Option, Some, None}
use Rattle.std.proofs.Common.{IsSome, is_some, refl, sym, ap, ◌∙◌, subst, arith, Contains}
use Rattle.std.specs.Prelude.{slice_index_or, if◌then◌else◌}
use Rattle.std.specs.List.{AllByRecursion}
use Rattle.std.proofs.lemmas.Option.{same_Some}
use Rattle.std.proofs.lemmas.Bool.{cases_lt, false≢true}
use Rattle.loopbound.specs.declared.graph.Bounds.{Bounds}
use Rattle.loopbound.specs.declared.graph.Loop.{Loop}
use Rattle.loopbound.specs.declared.graph.Move.{Move}
use Rattle.loopbound.specs.declared.graph.Move.TheVariants.{Stay, Turn, Leave}
use Rattle.loopbound.specs.declared.graph.Side.{Side}
use Rattle.loopbound.specs.declared.graph.Step.{Step}
use Rattle.loopbound.specs.declared.graph.TimedLoop.{TimedLoop}
use Rattle.loopbound.specs.Loops.{holds, move, move_by, turns_at}
use Rattle.loopbound.specs.Path.{at}
use Rattle.loopbound.specs.Table.{shapes, side_of, CanGo, Labels, TurnsNone, NoTurn, Enters, KeepsBounds}
use Rattle.loopbound.specs.Table.{Reason, at_entry, by_step, TurnReason}
use Rattle.loopbound.specs.Joining.{joined, turn_all, sum_behind}
use Rattle.loopbound.specs.Order.{is_turn, turned_loop, place, Ascend, place_by, NotLater, StandsAt, StandsBefore as Done, InOrder}
use Rattle.loopbound.proofs.EachLemmas.{contained-each, each-contained, each-map, each-shape, shape-each, contains_first, contains_later}
use Rattle.loopbound.proofs.EachLemmas.{only, pairs, Nests}
use Rattle.loopbound.proofs.ExactLemmas.{held, holding, held_in, turned}
use Rattle.loopbound.proofs.JoinLemmas.{Kept}
use Rattle.loopbound.proofs.Made.{Made}
use Rattle.loopbound.proofs.WordLemmas.{word_made}
use Rattle.loopbound.proofs.TurnLemmas.{turn_made}

-- ---- the loop that a step turns

turn_is : (m : Move) → is_turn m ≡ true → m ≡ Turn
turn_is Stay is = absurd (false≢true is)
turn_is Turn is = refl
turn_is Leave is = absurd (false≢true is)

no_turn_is : (m : Move) → is_turn m ≡ false → m ≡ Turn → ⊥
no_turn_is m is turn = false≢true (sym is ∙ ap is_turn turn)

-- a loop of the list that the step turns
pub record TurnsIt (loops : List Loop) (w v : ℕ) (l : Loop) : Type 0 where
  pub stands : Contains loops l
  pub turns : move l w v ≡ Turn

pub some_turned : (loops : List Loop) (w v : ℕ) (l : Loop) → turned_loop loops w v ≡ Some l → TurnsIt loops w v l
some_turned [] w v l is = absurd (false≢true (ap (λ (o : Option Loop). is_some o) is))
some_turned (m ∷ loops) w v l is = by (is_turn (move m w v)) refl (some_turned loops w v l) is
  where
    by : (b : Bool) → is_turn (move m w v) ≡ b → (turned_loop loops w v ≡ Some l → TurnsIt loops w v l)
        → (if b then Some m else turned_loop loops w v) ≡ Some l → TurnsIt (m ∷ loops) w v l
    by true turn rest is =
        subst (λ (x : Loop). TurnsIt (m ∷ loops) w v x) (same_Some m l is)
        (record { stands = contains_first m loops; turns = turn_is (move m w v) turn })
    by false turn rest is =
        let r = rest is in record { stands = contains_later m l loops r.stands; turns = r.turns }

pub none_turned : (loops : List Loop) (w v : ℕ) → turned_loop loops w v ≡ None → AllByRecursion (NoTurn w v) loops
none_turned [] w v is = tt
none_turned (m ∷ loops) w v is = by (is_turn (move m w v)) refl (none_turned loops w v) is
  where
    by : (b : Bool) → is_turn (move m w v) ≡ b → (turned_loop loops w v ≡ None → AllByRecursion (NoTurn w v) loops)
        → (if b then Some m else turned_loop loops w v) ≡ None → AllByRecursion (NoTurn w v) (m ∷ loops)
    by true turn rest is = absurd (false≢true (sym (ap (λ (o : Option Loop). is_some o) is)))
    by false turn rest is = (no_turn_is (move m w v) turn, rest is)

leaving : (a b c : Bool) → move_by a b c ≡ Leave → (a ≡ true) × (b ≡ false)
leaving false b c is = absurd (let e : ◌≡◌ {A = Move} Stay Leave = is in cc)
leaving true false c is = (refl, refl)
leaving true true false is = absurd (let e : ◌≡◌ {A = Move} Stay Leave = is in cc)
leaving true true true is = absurd (let e : ◌≡◌ {A = Move} Turn Leave = is in cc)

staying : (a b c : Bool) → move_by a b c ≡ Turn → b ≡ true
staying false b c is = absurd (let e : ◌≡◌ {A = Move} Stay Turn = is in cc)
staying true false c is = absurd (let e : ◌≡◌ {A = Move} Leave Turn = is in cc)
staying true true c is = refl

-- ---- the steps that stand before one

pub more_done : (steps : List Step) (i : ℕ) (t : Step) → Done steps i t → Done steps (i + 1) t
more_done steps i t d = record { index = d.index; less = let a = d.less in omega (arith, a); stands = d.stands }

pub last_done : (steps : List Step) (i : ℕ) (s : Step) → StandsAt steps i s → Done steps (i + 1) s
last_done steps i s stands = record { index = i; less = omega arith; stands = stands }

-- the element at an index is one, whatever stands for none
pub one_element : {X : Type 0} (xs : List X) (i : ℕ) (x y : X) → i < length xs → slice_index_or xs i x ≡ slice_index_or xs i y
one_element [] i x y less = absurd (omega (arith, less))
one_element (z ∷ xs) zero x y less = refl
one_element (z ∷ xs) (suc i) x y less = one_element xs i x y (omega (arith, less))

pub split_done : (steps : List Step) (i : ℕ) (t s : Step) → StandsAt steps i s → Done steps (i + 1) t → Done steps i t ⊎ (t ≡ s)
split_done steps i t s stands d = by (cases_lt d.index i)
  where
    by : (d.index < i) ⊎ (i ≤ d.index) → Done steps i t ⊎ (t ≡ s)
    by (inl less) = inl (record { index = d.index; less = less; stands = d.stands })
    by (inr more) =
        let e : d.index ≡ i = let a = d.less in omega (arith, a, more) in
        inr (sym d.stands.1 ∙ (one_element steps d.index t s d.stands.0
        ∙ (ap (λ (j : ℕ). slice_index_or steps j s) e ∙ stands.1)))

ascends : (loops : List Loop) (steps : List Step) → Ascend loops steps → (i j : ℕ) (s t : Step) → i < j → StandsAt steps i s
    → StandsAt steps j t → NotLater (place loops s) (place loops t)
ascends loops [] up i j s t less at_i at_j = absurd (let a = at_i.0 in omega (arith, a))
ascends loops (x ∷ xs) up i zero s t less at_i at_j = absurd (omega (arith, less))
ascends loops (x ∷ xs) up zero (suc j) s t less at_i at_j =
    subst (λ (y : Step). NotLater (place loops y) (place loops t)) at_i.1
    (each-contained (λ t. NotLater (place loops x) (place loops t)) xs up.0 t
    (j, let a = at_j.0 in omega (arith, a), at_j.1))
ascends loops (x ∷ xs) up (suc i) (suc j) s t less at_i at_j =
    ascends loops xs up.1 i j s t (omega (arith, less)) (let a = at_i.0 in omega (arith, a), at_i.1)
    (let a = at_j.0 in omega (arith, a), at_j.1)

module _ (steps : List Step) (shape : List Loop) (entry : ℕ) (order : InOrder steps shape entry) where
  pub contained : (i : ℕ) (t : Step) → StandsAt steps i t → Contains steps t
  contained i t stands = (i, stands.0, stands.1)

  contained_done : (i : ℕ) (t : Step) → Done steps i t → Contains steps t
  contained_done i t d = contained d.index t d.stands

  -- how a step that is done stands to one that isn't
  data Earlier (t s : Step) : Type 0 where
    words : turned_loop shape t.from t.to ≡ None → t.from < t.to → t.to ≤ s.to → turned_loop shape s.from s.to ≡ None → Earlier t s
    turn_word : (l : Loop) → TurnsIt shape t.from t.to l → l.last < s.to → turned_loop shape s.from s.to ≡ None → Earlier t s
    word_turn : (m : Loop) → turned_loop shape t.from t.to ≡ None → t.from < t.to → t.to ≤ m.last → TurnsIt shape s.from s.to m
        → Earlier t s
    turns : (l m : Loop) → TurnsIt shape t.from t.to l → TurnsIt shape s.from s.to m
        → (l.last < m.last) ⊎ ((l.last ≡ m.last) × (m.first ≤ l.first))
        → Earlier t s

  earlier : (i : ℕ) (t s : Step) → Done steps i t → StandsAt steps i s → Earlier t s
  earlier i t s d stands =
      by (turned_loop shape t.from t.to) (turned_loop shape s.from s.to) refl refl
      (ascends shape steps order.ascend d.index i t s d.less d.stands stands)
    where
      by : (a b : Option Loop) → turned_loop shape t.from t.to ≡ a → turned_loop shape s.from s.to ≡ b
          → NotLater (place_by t.to a) (place_by s.to b) → Earlier t s
      by None None is_a is_b later = words is_a (order.upwards t (contained_done i t d) is_a) later is_b
      by None (Some m) is_a is_b later =
          word_turn m is_a (order.upwards t (contained_done i t d) is_a) later (some_turned shape s.from s.to m is_b)
      by (Some l) None is_a is_b later = turn_word l (some_turned shape t.from t.to l is_a) later is_b
      by (Some l) (Some m) is_a is_b later =
          turns l m (some_turned shape t.from t.to l is_a) (some_turned shape s.from s.to m is_b) later

  no_both : (t : Step) (l : Loop) → AllByRecursion (NoTurn t.from t.to) shape → TurnsIt shape t.from t.to l → ⊥
  no_both t l none it = each-contained (NoTurn t.from t.to) shape none l it.stands it.turns

  -- ---- before a step that turns nothing

  module _ (i : ℕ) (s : Step) (stands : StandsAt steps i s) (none : turned_loop shape s.from s.to ≡ None) where
    no_loop : (m : Loop) → TurnsIt shape s.from s.to m → ⊥
    no_loop m it = no_both s m (none_turned shape s.from s.to none) it

    below : (t : Step) → Done steps i t → t.from < s.to
    below t d = by (earlier i t s d stands)
      where
        by : Earlier t s → t.from < s.to
        by (words a up less b) = omega (arith, up, less)
        by (turn_word l it less b) =
            let far = (held l t.from (turned l t.from t.to it.turns).from).1 in omega (arith, far, less)
        by (word_turn m a up less it) = absurd (no_loop m it)
        by (turns l m a it later) = absurd (no_loop m it)

    turns_below : (t : Step) (l : Loop) → Done steps i t → Contains shape l → move l t.from t.to ≡ Turn → t.to < s.to
    turns_below t l d has is = by (earlier i t s d stands)
      where
        by : Earlier t s → t.to < s.to
        by (words a up less b) =
            absurd (no_both t l (none_turned shape t.from t.to a) (record { stands = has; turns = is }))
        by (turn_word m it less b) =
            let far = (held m t.to (turned m t.from t.to it.turns).to).1 in omega (arith, far, less)
        by (word_turn m a up less it) = absurd (no_loop m it)
        by (turns m n a it later) = absurd (no_loop n it)

    words_below : (t : Step) → Done steps i t → AllByRecursion (NoTurn t.from t.to) shape → t.to ≤ s.to
    words_below t d turns_none = by (earlier i t s d stands)
      where
        by : Earlier t s → t.to ≤ s.to
        by (words a up less b) = less
        by (turn_word m it less b) = absurd (no_both t m turns_none it)
        by (word_turn m a up less it) = absurd (no_loop m it)
        by (turns m n a it later) = absurd (no_loop n it)

  -- ---- before a step that turns a loop

  module _ (i : ℕ) (s : Step) (stands : StandsAt steps i s) where
    -- no step before left a loop that is turned now
    kept_loop : (t : Step) → Done steps i t → (l : Loop) → Contains shape l → Kept t.from t.to s.from s.to l
    kept_loop t d l has now left = by (earlier i t s d stands)
      where
        was : holds l t.from ≡ true
        was = (leaving (holds l t.from) (holds l t.to) (turns_at l t.from t.to) left).0

        out : holds l t.to ≡ true → ⊥
        out inside =
            false≢true (sym (leaving (holds l t.from) (holds l t.to) (turns_at l t.from t.to) left).1 ∙ inside)

        same : (m : Loop) → TurnsIt shape s.from s.to m → m ≡ l
        same m it = only s.from s.to shape (order.nested.one_turn s (contained i s stands)) m l it.stands has it.turns now

        upwards : (last : ℕ) → l.last ≡ last → t.from < t.to → t.to ≤ last → ⊥
        upwards last is up less =
            out (holding l t.to (let a = (held l t.from was).0 in omega (arith, a, up)) (omega (arith, less, is)))

        apart : (k : Loop) → TurnsIt shape t.from t.to k → (k.last < l.last) ⊎ ((k.last ≡ l.last) × (l.first ≤ k.first)) → Nests k l → ⊥
        apart k it later (inl lies) = out (held_in k l t.to lies (turned k t.from t.to it.turns).to)
        apart k it (inl less) (inr (inl lies)) = let a = lies.1 in omega (arith, a, less)
        apart k it (inr equal) (inr (inl lies)) =
            let e = equal.0 in
            out (held_in k l t.to (equal.1, omega (arith, e)) (turned k t.from t.to it.turns).to)
        apart k it later (inr (inr (inl before))) =
            let a = (held k t.from (turned k t.from t.to it.turns).from).1 in let b = (held l t.from was).0 in
            omega (arith, a, b, before)
        apart k it later (inr (inr (inr before))) =
            let a = (held k t.from (turned k t.from t.to it.turns).from).0 in let b = (held l t.from was).1 in
            omega (arith, a, b, before)

        by : Earlier t s → ⊥
        by (words a up less b) =
            no_both s l (none_turned shape s.from s.to b) (record { stands = has; turns = now })
        by (turn_word m it less b) =
            no_both s l (none_turned shape s.from s.to b) (record { stands = has; turns = now })
        by (word_turn m a up less it) = upwards m.last (ap (λ (x : Loop). x.last) (sym (same m it))) up less
        by (turns k m a it later) =
            apart k a
            (subst (λ (x : Loop). (k.last < x.last) ⊎ ((k.last ≡ x.last) × (x.first ≤ k.first))) (same m it) later)
            (pairs shape order.nested.inner_first k l a.stands has)

    kept : (t : Step) → Done steps (i + 1) t → AllByRecursion (Kept t.from t.to s.from s.to) shape
    kept t d = contained-each (Kept t.from t.to s.from s.to) shape (λ l has. by (split_done steps i t s stands d) l has)
      where
        itself : (l : Loop) → Contains shape l → Kept s.from s.to s.from s.to l
        itself l has now left = let e : ◌≡◌ {A = Move} Turn Leave = sym now ∙ left in cc

        by : Done steps i t ⊎ (t ≡ s) → (l : Loop) → Contains shape l → Kept t.from t.to s.from s.to l
        by (inl had) l has = kept_loop t had l has
        by (inr is) l has = subst (λ (x : Step). Kept x.from x.to s.from s.to l) (sym is) (itself l has)

-- ---- one step more

none_loop : (loops : List Loop) (w v : ℕ) → AllByRecursion (NoTurn w v) loops → turned_loop loops w v ≡ None
none_loop loops w v none = by (turned_loop loops w v) refl
  where
    by : (o : Option Loop) → turned_loop loops w v ≡ o → turned_loop loops w v ≡ None
    by None is = is
    by (Some l) is =
        let it = some_turned loops w v l is in absurd (each-contained (NoTurn w v) loops none l it.stands it.turns)

with_shape : (loops : List TimedLoop) (l : Loop) → Contains (shapes loops) l
    → (it : TimedLoop) × Contains loops it × (it.shape ≡ l)
with_shape loops l has =
    each-contained (λ m. (it : TimedLoop) × Contains loops it × (it.shape ≡ m)) (shapes loops)
    (each-shape (λ m. (it : TimedLoop) × Contains loops it × (it.shape ≡ m)) loops
    (contained-each (λ (l : TimedLoop). (it : TimedLoop) × Contains loops it × (it.shape ≡ l.shape)) loops (λ l has. (l, has, refl))))
    l has

module _ (steps : List Step) (loops : List TimedLoop) (entry i : ℕ) (s : Step) (order : InOrder steps (shapes loops) entry)
    (stands : StandsAt steps i s) where
  from_loops : (t : Step) → TurnsNone loops t → AllByRecursion (NoTurn t.from t.to) (shapes loops)
  from_loops t none = each-shape (NoTurn t.from t.to) loops none

  it_stands : Contains steps s
  it_stands = contained steps (shapes loops) entry order i s stands

  -- a step that no path takes
  pub skipped : (label : Labels) → (IsSome (label s.from) → CanGo s.from s.to loops → ⊥) → Made (Done steps i) loops label entry
      → Made (Done steps (i + 1)) loops label entry
  skipped label not made = record {
    fits = record { known = made.fits.known; zero = made.fits.zero; steps = keeps };
    tight = λ side. record {
      words = λ w some. words side w ((made.tight side).words w some);
      turns = each-map (λ l. IsSome l.turn → TurnReason (Done steps i) loops label side l.shape)
          (λ l. IsSome l.turn → TurnReason (Done steps (i + 1)) loops label side l.shape)
          (λ l why some.
          let r = why some in
          record { step = r.step; has = more_done steps i r.step r.has; meets = r.meets; turns = r.turns })
          loops (made.tight side).turns;
    };
    rises = made.rises;
  }
    where
      keeps : (t : Step) → Done steps (i + 1) t → KeepsBounds loops label t
      keeps t d = by (split_done steps i t s stands d)
        where
          by : Done steps i t ⊎ (t ≡ s) → KeepsBounds loops label t
          by (inl had) = made.fits.steps t had
          by (inr is) = subst (λ (x : Step). KeepsBounds loops label x) (sym is) (λ some can. absurd (not some can))

      words : (side : Side) (w : ℕ) → Reason (Done steps i) loops label entry side w → Reason (Done steps (i + 1)) loops label entry side w
      words side w (at_entry is at_zero) = at_entry is at_zero
      words side w (by_step t had to meets none) = by_step t (more_done steps i t had) to meets none

  pub word_taken : (label after : Labels) (v : Bounds) → TurnsNone loops s → IsSome (label s.from) → CanGo s.from s.to loops
      → ((side : Side) → at side v ≡ sum_behind side loops label s)
      → after s.to ≡ Some (joined (label s.to) v) → ((w : ℕ) → (w ≡ s.to → ⊥) → after w ≡ label w)
      → Made (Done steps i) loops label entry → Made (Done steps (i + 1)) loops after entry
  word_taken label after v none known can value here there made =
      let none_it = none_loop (shapes loops) s.from s.to (from_loops s none) in
      word_made (Done steps i) (Done steps (i + 1)) loops label after entry s v
      (more_done steps i) (last_done steps i s stands) (λ t d. split_done steps i t s stands d) made
      (each-contained (Enters s.from s.to) (shapes loops) (order.nested.enters s it_stands))
      (each-contained (λ l. holds l entry ≡ true → entry ≡ l.first) (shapes loops) order.nested.begins)
      (order.upwards s it_stands none_it)
      (below steps (shapes loops) entry order i s stands none_it)
      (turns_below steps (shapes loops) entry order i s stands none_it)
      (λ t d turns_none. words_below steps (shapes loops) entry order i s stands none_it t d (from_loops t turns_none))
      none known can value here there

  pub turn_taken : (label : Labels) (x : Bounds) → (TurnsNone loops s → ⊥) → IsSome (label s.from) → CanGo s.from s.to loops
      → ((side : Side) → at side x ≡ sum_behind side loops label s - side_of side (label s.to))
      → Made (Done steps i) loops label entry → Made (Done steps (i + 1)) (turn_all s.from s.to x loops) label entry
  turn_taken label x some known can value made = by (turned_loop (shapes loops) s.from s.to) refl
    where
      by : (o : Option Loop) → turned_loop (shapes loops) s.from s.to ≡ o
          → Made (Done steps (i + 1)) (turn_all s.from s.to x loops) label entry
      by None is = absurd (some (shape-each (NoTurn s.from s.to) loops (none_turned (shapes loops) s.from s.to is)))
      by (Some l) is =
          let turn = some_turned (shapes loops) s.from s.to l is in
          let found = with_shape loops l turn.stands in
          let t = turned l s.from s.to turn.turns in
          let rise = made.rises l turn.stands s.from t.from known in
          let first : l.first ≡ s.to = sym t.first in
          turn_made (Done steps i) (Done steps (i + 1)) loops label entry s x found.0
          (more_done steps i) (last_done steps i s stands) (λ t d. split_done steps i t s stands d) made
          found.1 (subst (λ (m : Loop). move m s.from s.to ≡ Turn) (sym found.2) turn.turns)
          (λ t d. order.nested.one_turn t (contained steps (shapes loops) entry order (d.index) t d.stands))
          (kept steps (shapes loops) entry order i s stands)
          known (subst (λ (w : ℕ). IsSome (label w)) first rise.0) can
          (λ side.
          let a = value side in
          let e : side_of side (label l.first) ≡ side_of side (label s.to) = ap (λ (w : ℕ). side_of side (label w)) first in
          let b = rise.1 side in
          omega (arith, a, b, e))
