-- The pass: how the table begins, what a step makes of it, and what it is in the end.
use Rattle.std.proofs.Common.{◌≡◌, ℕ, ◌+◌, ◌-◌, ◌<◌, ◌⊎◌, inl, inr, true, List, length, Option, Some, None, IsSome, is_some}
use Rattle.std.proofs.Common.{refl, sym, ap, ◌∙◌, subst, arith, Contains}
use Rattle.std.proofs.lemmas.Bool.{false≢true}
use Rattle.loopbound.specs.declared.graph.Bounds.{Bounds}
use Rattle.loopbound.specs.declared.graph.Loop.{Loop}
use Rattle.loopbound.specs.declared.graph.Side.{Side}
use Rattle.loopbound.specs.declared.graph.Side.TheVariants.{Least, Most}
use Rattle.loopbound.specs.declared.graph.Step.{Step}
use Rattle.loopbound.specs.declared.graph.TimedLoop.{TimedLoop}
use Rattle.loopbound.specs.Loops.{holds}
use Rattle.loopbound.specs.Path.{at}
use Rattle.loopbound.specs.Table.{shapes, side_of, Labels, label_in, Fits, Tight, Reason, at_entry, by_step, TurnReason}
use Rattle.loopbound.specs.Joining.{Takes, skipped, word, turn, sum_behind}
use Rattle.loopbound.specs.Order.{StandsAt, StandsBefore, InOrder, IsReady}
use Rattle.loopbound.proofs.EachLemmas.{each-map, each-contained, same_or}
use Rattle.loopbound.proofs.Made.{Made}
use Rattle.loopbound.proofs.OrderLemmas as order
use Rattle.loopbound.proofs.OrderLemmas.{one_element}
use Rattle.std.specs.Prelude.{slice_index_or}

nothing : Option Bounds → Type 0
nothing o = o ≡ None

none_some : (o : Option Bounds) → o ≡ None → IsSome o → ⊥
none_some o is some = false≢true (sym (ap (λ (o : Option Bounds). is_some o) is) ∙ some)

-- ---- the beginning

module _ (steps : List Step) (loops : List TimedLoop) (labels after : List (Option Bounds)) (entry : ℕ)
    (ready : IsReady steps loops labels entry)
    (here : label_in after entry ≡ Some (record { least = 0; most = 0 }))
    (there : (w : ℕ) → (w ≡ entry → ⊥) → label_in after w ≡ label_in labels w) where
  only_entry : (w : ℕ) → IsSome (label_in after w) → w ≡ entry
  only_entry w some = by (same_or w entry)
    where
      by : (w ≡ entry) ⊎ (w ≡ entry → ⊥) → w ≡ entry
      by (inl is) = is
      by (inr other) = absurd (none_some (label_in after w) (there w other ∙ ready.no_labels w) some)

  zero_there : (side : Side) → side_of side (label_in after entry) ≡ 0
  zero_there Least = ap (side_of Least) here
  zero_there Most = ap (side_of Most) here

  no_step : (t : Step) → StandsBefore steps 0 t → ⊥
  no_step t d = let less = d.less in omega (arith, less)

  pub begun : Made (StandsBefore steps 0) loops (label_in after) entry
  begun = record {
    fits = record {
      known = subst (λ (o : Option Bounds). IsSome o) (sym here) refl;
      zero = zero_there Least;
      steps = λ t d. absurd (no_step t d);
    };
    tight = λ side. record {
      words = λ w some.
          let is = only_entry w some in
          at_entry is (subst (λ (x : ℕ). side_of side (label_in after x) ≡ 0) (sym is) (zero_there side));
      turns = each-map (λ l. l.turn ≡ None)
          (λ l. IsSome l.turn → TurnReason (StandsBefore steps 0) loops (label_in after) side l.shape)
          (λ l none some. absurd (none_some l.turn none some)) loops ready.no_turns;
    };
    rises = λ l has w holds_it some.
        let is = only_entry w some in
        let first : entry ≡ l.first =
        each-contained (λ l. holds l entry ≡ true → entry ≡ l.first) (shapes loops) ready.order.nested.begins l has
        (subst (λ (x : ℕ). holds l x ≡ true) is holds_it) in
        let e : w ≡ l.first = is ∙ first in (
          subst (λ (x : ℕ). IsSome (label_in after x)) e some,
          λ side. let s = ap (λ (x : ℕ). side_of side (label_in after x)) e in
              let same : side_of side (label_in after w) ≡ side_of side (label_in after l.first) = s in omega (arith, same),
        );
  }

-- ---- a step

pub taken : (steps : List Step) (entry i : ℕ) (s : Step) (loops next : List TimedLoop) (labels after : List (Option Bounds))
    → InOrder steps (shapes loops) entry → StandsAt steps i s → Takes s loops labels next after
    → Made (StandsBefore steps i) loops (label_in labels) entry
    → Made (StandsBefore steps (i + 1)) next (label_in after) entry
taken steps entry i s loops _ labels _ in_order stands (skipped not) made =
    order.skipped steps loops entry i s in_order stands (label_in labels) (λ some can. not (some, can)) made
taken steps entry i s loops _ labels _ in_order stands (word v after known none least most here there) made =
    order.word_taken steps loops entry i s in_order stands (label_in labels) (label_in after) v none known.0 known.1 value here there made
  where
    value : (side : Side) → at side v ≡ sum_behind side loops (label_in labels) s
    value Least = least
    value Most = most
taken steps entry i s loops _ labels _ in_order stands (turn x known some least most) made =
    order.turn_taken steps loops entry i s in_order stands (label_in labels) x some known.0 known.1 value made
  where
    value : (side : Side) → at side x ≡ sum_behind side loops (label_in labels) s - side_of side (label_in labels s.to)
    value Least = least
    value Most = most

-- ---- the whole

module _ (steps : List Step) (loops : List TimedLoop) (label : Labels) (entry : ℕ) where
  abbrev All : Step → Type 0
  All = StandsBefore steps (length steps)

  listed : (t : Step) → All t → Contains steps t
  listed t d = (d.index, d.stands.0, d.stands.1)

  standing : (t : Step) → Contains steps t → All t
  standing t has = record { index = has.0; less = has.1; stands = (has.1, has.2) }

  pub whole_fits : Fits All loops label entry → Fits (Contains steps) loops label entry
  whole_fits fits = record { known = fits.known; zero = fits.zero; steps = λ t has. fits.steps t (standing t has) }

  pub whole_tight : (side : Side) → Tight All loops label entry side → Tight (Contains steps) loops label entry side
  whole_tight side tight = record {
    words = λ w some. by w (tight.words w some);
    turns = each-map (λ l. IsSome l.turn → TurnReason All loops label side l.shape)
        (λ l. IsSome l.turn → TurnReason (Contains steps) loops label side l.shape)
        (λ l why some.
        let r = why some in record { step = r.step; has = listed r.step r.has; meets = r.meets; turns = r.turns })
        loops tight.turns;
  }
    where
      by : (w : ℕ) → Reason All loops label entry side w → Reason (Contains steps) loops label entry side w
      by w (at_entry is at_zero) = at_entry is at_zero
      by w (by_step t has to meets none) = by_step t (listed t has) to meets none

pub taken_at : (steps : List Step) (entry i : ℕ) (none : Step) (first loops next : List TimedLoop)
    (empty labels after : List (Option Bounds))
    → i < length steps → shapes loops ≡ shapes first → length labels ≡ length empty
    → (((slice_index_or steps i none).to < length labels) → Takes (slice_index_or steps i none) loops labels next after)
    → IsReady steps first empty entry
    → Made (StandsBefore steps i) loops (label_in labels) entry
    → Made (StandsBefore steps (i + 1)) next (label_in after) entry
taken_at steps entry i none first loops next empty labels after less same len takes ready made =
    let s = slice_index_or steps i none in
    let stands : StandsAt steps i s = (less, one_element steps i s none less) in
    let within = ready.within s (i, less, one_element steps i s none less) in
    taken steps entry i s loops next labels after
    (subst (λ (ls : List Loop). InOrder steps ls entry) (sym same) ready.order) stands
    (takes (omega (arith, within, len))) made

pub at_end : (steps : List Step) (loops : List TimedLoop) (label : Labels) (entry i : ℕ) → i ≡ length steps
    → Made (StandsBefore steps i) loops label entry → Made (StandsBefore steps (length steps)) loops label entry
at_end steps loops label entry i is made = subst (λ n. Made (StandsBefore steps n) loops label entry) is made
