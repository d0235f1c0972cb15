-- More budget gives the same, or goes on from where it stood.
use Rattle.std.proofs.Common.{◌≡◌, ℕ, zero, suc, ◌≤◌, refl, sym, subst, ap, arith, false}
use Rattle.behaviour.specs.declared.stop.Stop.{Stop}
use Rattle.behaviour.specs.declared.stop.Stop.TheVariants.{Dry, More, Ended, Undefined, Stuck}
use Rattle.behaviour.specs.Ran.{Ran, Done, Stopped, and_then, state_of, goes_on, Turn, Again, Over, turned, turns}
use Rattle.behaviour.specs.Machine.{exec}
use Rattle.behaviour.specs.Simulates.{Extends}

module _ {U S : Type 0} (Later : S → S → Type 0) (trans : (a b c : S) → Later a b → Later b c → Later a c) where
  after-more : {A B : Type 0} (s : S) (r : Ran U S A) (f : A → S → Ran U S B)
      → Later s (state_of r) → ((a : A) (s : S) → Later s (state_of (f a s))) → Later s (state_of (and_then r f))
  after-more s (Done a t) f later on = trans s t (state_of (f a t)) later (on a t)
  after-more s (Stopped c t) f later on = later

  -- each run extends itself
  pub extends-same : (refl' : (s : S) → Later s s) → {A : Type 0} (r : Ran U S A) → Extends Later r r
  extends-same refl' r = record { settled = λ _. refl; later = refl' (state_of r) }

  stops : {A B : Type 0} (c : Stop U) (s : S) (r' : Ran U S A) (f f' : A → S → Ran U S B)
      → r' ≡ Stopped c s → Later s (state_of r') → Extends Later (and_then (Stopped c s) f) (and_then r' f')
  stops c s r' f f' is later = record {
    settled = λ _. ap (λ x. and_then x f') is;
    later =
        subst (λ (x : Ran U S _). Later s (state_of (and_then x f'))) (sym is) (subst (λ (x : Ran U S _). Later s (state_of x)) is later);
  }

  -- One run after another: what follows extends what follows, and never goes back.
  pub extends-and_then : {A B : Type 0} (r r' : Ran U S A) (f f' : A → S → Ran U S B)
      → Extends Later r r'
      → ((a : A) (s : S) → Extends Later (f a s) (f' a s))
      → ((a : A) (s : S) → Later s (state_of (f' a s)))
      → Extends Later (and_then r f) (and_then r' f')
  extends-and_then (Done a s) r' f f' first rest on =
      subst (λ (x : Ran U S _). Extends Later (f a s) (and_then x f')) (sym (first.settled refl)) (rest a s)
  extends-and_then (Stopped More s) r' f f' first rest on =
      record { settled = λ more. cc; later = after-more s r' f' first.later on }
  extends-and_then (Stopped Dry s) r' f f' first rest on = stops Dry s r' f f' (first.settled refl) first.later
  extends-and_then (Stopped Ended s) r' f f' first rest on = stops Ended s r' f f' (first.settled refl) first.later
  extends-and_then (Stopped (Undefined u) s) r' f f' first rest on = stops (Undefined u) s r' f f' (first.settled refl) first.later
  extends-and_then (Stopped Stuck s) r' f f' first rest on = stops Stuck s r' f f' (first.settled refl) first.later

  module _ (refl' : (s : S) → Later s s) where
    -- a machine whose steps never go back never goes back
    exec-later : (step : S → Ran U S (Unit {0})) → ((s : S) → Later s (state_of (step s)))
        → (n : ℕ) (s : S) → Later s (state_of (exec step n s))
    exec-later step goes zero s = refl' s
    exec-later step goes (suc n) s = after-more s (step s) (λ _. exec step n) (goes s) (λ _. exec-later step goes n)

    -- More steps of a machine give the same, or go on from where it stood.
    pub exec-extends : (step : S → Ran U S (Unit {0})) → ((s : S) → Later s (state_of (step s)))
        → (n m : ℕ) → n ≤ m → (s : S) → Extends Later (exec step n s) (exec step m s)
    exec-extends step goes zero m few s = record { settled = λ on. cc; later = exec-later step goes m s }
    exec-extends step goes (suc n) zero few s = absurd (omega (arith, few))
    exec-extends step goes (suc n) (suc m) few s =
        extends-and_then (step s) (step s) (λ _. exec step n) (λ _. exec step m)
        (extends-same refl' (step s))
        (λ _ s. exec-extends step goes n m (omega (arith, few)) s)
        (λ _. exec-later step goes m)

    turned-later : {A : Type 0} (rest : S → Ran U S A) → ((s : S) → Later s (state_of (rest s)))
        → (t : Turn A) (s : S) → Later s (state_of (turned t rest s))
    turned-later rest goes Again s = goes s
    turned-later rest goes (Over a) s = refl' s

    turns-later : {A : Type 0} (turn : S → Ran U S (Turn A)) → ((s : S) → Later s (state_of (turn s)))
        → (n : ℕ) (s : S) → Later s (state_of (turns n turn s))
    turns-later turn goes zero s = refl' s
    turns-later turn goes (suc n) s =
        after-more s (turn s) (λ t. turned t (turns n turn)) (goes s) (turned-later (turns n turn) (turns-later turn goes n))

    turned-extends : {A : Type 0} (rest longer : S → Ran U S A) → ((s : S) → Extends Later (rest s) (longer s))
        → (t : Turn A) (s : S) → Extends Later (turned t rest s) (turned t longer s)
    turned-extends rest longer extends Again s = extends s
    turned-extends rest longer extends (Over a) s = extends-same refl' (Done a s)

    -- More turns of a loop give the same, or go on from where it stood.
    pub turns-extends : {A : Type 0} (turn : S → Ran U S (Turn A)) → ((s : S) → Later s (state_of (turn s)))
        → (n m : ℕ) → n ≤ m → (s : S) → Extends Later (turns n turn s) (turns m turn s)
    turns-extends turn goes zero m few s = record { settled = λ on. cc; later = turns-later turn goes m s }
    turns-extends turn goes (suc n) zero few s = absurd (omega (arith, few))
    turns-extends turn goes (suc n) (suc m) few s =
        extends-and_then (turn s) (turn s) (λ t. turned t (turns n turn)) (λ t. turned t (turns m turn))
        (extends-same refl' (turn s))
        (turned-extends (turns n turn) (turns m turn) (turns-extends turn goes n m (omega (arith, few))))
        (turned-later (turns m turn) (turns-later turn goes m))

module _ {U S : Type 0} where
  -- A run of a machine that is settled stays as it is with more steps.
  pub exec-settled : (step : S → Ran U S (Unit {0})) (n m : ℕ) (s : S)
      → n ≤ m → goes_on (exec step n s) ≡ false → exec step m s ≡ exec step n s
  exec-settled step n m s few settled =
      (exec-extends (λ _ _. Unit {0}) (λ _ _ _ _ _. tt) (λ _. tt) step (λ _. tt) n m few s).settled settled

  -- A run of a loop that is settled stays as it is with more turns.
  pub turns-settled : {A : Type 0} (turn : S → Ran U S (Turn A)) (n m : ℕ) (s : S)
      → n ≤ m → goes_on (turns n turn s) ≡ false → turns m turn s ≡ turns n turn s
  turns-settled turn n m s few settled =
      (turns-extends (λ _ _. Unit {0}) (λ _ _ _ _ _. tt) (λ _. tt) turn (λ _. tt) n m few s).settled settled

pub ruleset settled_rules = (exec-settled, turns-settled)
