-- Runs with more budget: each is the same, or goes on, and what was shown stays shown.
use Rattle.std.proofs.Common.{◌≡◌, ℕ, zero, suc, ◌≤◌, Bool, true, false, if◌then◌else◌, nat_lt, List, [], ◌∷◌}
use Rattle.std.proofs.Common.{◌++◌, refl, subst, ap, arith, append_assoc, Option, Some, None}
use Rattle.std.proofs.lemmas.List.{append-nil}
use Rattle.std.proofs.lemmas.Bool.{ltb-true, lt-ltb}
use Rattle.behaviour.specs.declared.stop.Stop.{Stop}
use Rattle.behaviour.specs.declared.stop.Stop.TheVariants.{More, Dry, Ended, Undefined, Stuck}
use Rattle.behaviour.specs.Ran.{Ran, Done, Stopped, and_then, state_of}
use Rattle.behaviour.specs.Simulates.{Extends}
use Rattle.behaviour.proofs.ExtendsLemmas.{extends-same, extends-and_then}
use Rattle.prutrace.specs.declared.event.Event.{Event}
use Rattle.prutrace.specs.declared.event.Event.TheVariants.{Read, Halted}
use Rattle.prutrace.specs.declared.event.Place.{Place}
use Rattle.prunum.specs.declared.width.Width.{Width}
use Rattle.prunum.specs.Number.{wrap}
use Rattle.csyn.specs.declared.span.Span.{Span}
use Rattle.cmean.specs.declared.undefined.UndefinedCause.{UndefinedCause}
use Rattle.cmean.specs.declared.undefined.UndefinedStep.{UndefinedStep}
use Rattle.cmean.specs.Pointer.{Step, Gives, Breaks, Never}
use Rattle.cmean.specs.State.{State, Shown, Run, give, then_with, then_do, with_state, change, stopped, in_budget, tick, node}
use Rattle.cmean.specs.State.{entered, ticks, showing, mark_now, show, take_value, receive, undefined, never, given, sure, halt}

-- ---- what was shown stays shown

pub record Later (s t : State) : Type 0 where
  pub rest : List Shown
  pub shown : s.shown ++ rest ≡ t.shown

pub later-same : (s t : State) → s.shown ≡ t.shown → Later s t
later-same s t same = record { rest = []; shown = subst (λ x. s.shown ++ [] ≡ x) same (append-nil s.shown) }

pub later-refl : (s : State) → Later s s
later-refl s = later-same s s refl

pub later-trans : (s t u : State) → Later s t → Later t u → Later s u
later-trans s t u a b =
    let apart = append_assoc s.shown a.rest b.rest in
    let joined = ap (λ x. x ++ b.rest) a.shown in
    let last = b.shown in
    record { rest = a.rest ++ b.rest; shown = cc }

pub after : {A B : Type 0} (s : State) (r : Ran UndefinedStep State A) (f : A → State → Ran UndefinedStep State B)
    → Later s (state_of r) → ((a : A) (t : State) → Later t (state_of (f a t))) → Later s (state_of (and_then r f))
after s (Done a t) f later on = later-trans s t (state_of (f a t)) later (on a t)
after s (Stopped c t) f later on = later

-- ---- steady runs

pub record Steady {A : Type 0} (run : Run A) : Type 0 where
  pub grows : (b : ℕ) (s : State) → Later s (state_of (run b s))
  pub longer : (b c : ℕ) → b ≤ c → (s : State) → Extends Later (run b s) (run c s)

same : {A : Type 0} (r : Ran UndefinedStep State A) → Extends Later r r
same r = extends-same Later later-trans later-refl r

pub steady-give : {A : Type 0} (a : A) → Steady (give a)
steady-give a = record { grows = λ b s. later-refl s; longer = λ b c _ s. same (Done a s) }

pub steady-with : {A B : Type 0} {run : Run A} {next : A → Run B} → Steady run → ((a : A) → Steady (next a)) → Steady (then_with run next)
steady-with {run = run} {next = next} first rest = record {
  grows = λ b s. after s (run b s) (λ a. next a b) (first.grows b s) (λ a. (rest a).grows b);
  longer = λ b c few s. extends-and_then Later later-trans (run b s) (run c s) (λ a. next a b) (λ a. next a c)
      (first.longer b c few s) (λ a. (rest a).longer b c few) (λ a. (rest a).grows c);
}

pub steady-do : {A B : Type 0} {run : Run A} {next : Run B} → Steady run → Steady next → Steady (then_do run next)
steady-do first rest = steady-with first (λ _. rest)

pub steady-state : {A : Type 0} {f : State → Run A} → ((s : State) → Steady (f s)) → Steady (with_state f)
steady-state all = record { grows = λ b s. (all s).grows b s; longer = λ b c few s. (all s).longer b c few s }

pub steady-change : (f : State → State) → ((s : State) → Later s (f s)) → Steady (change f)
steady-change f later = record { grows = λ b s. later s; longer = λ b c _ s. same (Done tt (f s)) }

pub steady-stopped : {A : Type 0} (cause : Stop UndefinedStep) → Steady (stopped {A = A} cause)
steady-stopped cause = record { grows = λ b s. later-refl s; longer = λ b c _ s. same (Stopped cause s) }

-- ---- within the budget

allowed : {A : Type 0} (x : Bool) (s : State) (r : Ran UndefinedStep State A) → Later s (state_of r)
    → Later s (state_of (if x then r else Stopped More s))
allowed true s r later = later
allowed false s r later = later-refl s

allows : {A : Type 0} (x y : Bool) (s : State) (r r' : Ran UndefinedStep State A) → (x ≡ true → y ≡ true) → Later s (state_of r')
    → Extends Later r r'
    → Extends Later (if x then r else Stopped More s) (if y then r' else Stopped More s)
allows true true s r r' more later extends = extends
allows true false s r r' more later extends = let no = more refl in absurd cc
allows false true s r r' more later extends = record { settled = λ on. cc; later = later }
allows false false s r r' more later extends = same (Stopped More s)

below-more : (n b c : ℕ) → b ≤ c → nat_lt n b ≡ true → nat_lt n c ≡ true
below-more n b c few below = lt-ltb n c (let less = ltb-true n b below in omega (arith, less, few))

pub steady-in_budget : {A : Type 0} {run : Run A} → Steady run → Steady (in_budget run)
steady-in_budget {run = run} steady = record {
  grows = λ b s. allowed (nat_lt s.steps b) s (run b s) (steady.grows b s);
  longer = λ b c few s. allows (nat_lt s.steps b) (nat_lt s.steps c) s (run b s) (run c s)
      (below-more s.steps b c few) (steady.grows c s) (steady.longer b c few s);
}

-- ---- acts

shows : (n : ℕ) (e : Event) (s t : State) → s.shown ≡ t.shown → Later s (showing n e t)
shows n e s t same = record { rest = record { step = n; event = e } ∷ []; shown = ap (λ x. x ++ record { step = n; event = e } ∷ []) same }

pub steady-tick : Steady tick
steady-tick = steady-in_budget (steady-change (λ s. record s { steps = suc s.steps })
    (λ s. later-same s (record s { steps = suc s.steps }) refl))

pub steady-mark_now : (e : Event) → Steady (mark_now e)
steady-mark_now e = steady-change (λ s. showing s.steps e s) (λ s. shows s.steps e s s refl)

pub steady-show : (e : Event) → Steady (show e)
steady-show e = steady-in_budget (steady-change (λ s. showing (suc s.steps) e s) (λ s. shows (suc s.steps) e s s refl))

steady-take_value : (place : Place) (width : Width) (values : List ℕ) → Steady (take_value place width values)
steady-take_value place width [] = steady-stopped Dry
steady-take_value place width (v ∷ values) =
    steady-do (steady-change _ (λ s. shows (suc s.steps) (Read place width (wrap width v)) s (record s { values = values }) refl))
    (steady-give (wrap width v))

pub steady-receive : (place : Place) (width : Width) → Steady (receive place width)
steady-receive place width = steady-in_budget (steady-state (λ s. steady-take_value place width s.values))

pub steady-undefined : {A : Type 0} (span : Span) (cause : UndefinedCause) → Steady (undefined {A = A} span cause)
steady-undefined span cause = steady-in_budget (steady-stopped (Undefined (record { span = span; cause = cause })))

pub steady-never : {A : Type 0} → Steady (never {A = A})
steady-never = steady-stopped Stuck

pub steady-given : {A : Type 0} (span : Span) (step : Step A) → Steady (given span step)
steady-given span (Gives a) = steady-give a
steady-given span (Breaks cause) = steady-undefined span cause
steady-given span Never = steady-never

pub steady-sure : {A : Type 0} (o : Option A) → Steady (sure o)
steady-sure (Some a) = steady-give a
steady-sure None = steady-never

pub steady-halt : {A : Type 0} → Steady (halt {A = A})
steady-halt = steady-do (steady-mark_now Halted) (steady-stopped Ended)

pub steady-node : {A : Type 0} {run : Run A} → Steady run → Steady (node run)
steady-node steady = steady-with steady (λ a. steady-do steady-tick (steady-give a))

pub steady-entered : {A : Type 0} {run : Run A} → Steady run → Steady (entered run)
steady-entered steady = steady-do steady-tick steady

pub steady-ticks : (n : ℕ) → Steady (ticks n)
steady-ticks zero = steady-give tt
steady-ticks (suc n) = steady-do steady-tick (steady-ticks n)
