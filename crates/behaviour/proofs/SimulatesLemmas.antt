-- The three lemmas by which a machine is proved to do what a meaning says: one after another, turns of a loop, every step
-- of a machine above.
use Rattle.std.proofs.Common.{ℕ, zero, suc, subst}
use Rattle.behaviour.specs.declared.stop.Stop.{Stop}
use Rattle.behaviour.specs.declared.stop.Stop.TheVariants.{More}
use Rattle.behaviour.specs.Ran.{Ran, Done, Stopped, and_then, Turn, Again, Over, turned, turns}
use Rattle.behaviour.specs.Machine.{exec, Reaches}
use Rattle.behaviour.specs.Simulates.{Simulates, Stands, AfterTurn}
use Rattle.behaviour.proofs.MachineLemmas.{reaches-refl, reaches-trans}

module _ {U V S M : Type 0} (step : M → Ran V M (Unit {0})) (E : Stop U → S → M → Type 0) where
  -- a run that is over where the machine stands
  pub simulates-here : {A : Type 0} (D : A → S → M → Type 0) (r : Ran U S A) (m : M) → Stands D E r m → Simulates step D E r m
  simulates-here D r m stands = record { place = m; reached = reaches-refl step m; stands = stands }

  -- the machine first comes to a state from which it does what the run says
  pub simulates-from : {A : Type 0} (D : A → S → M → Type 0) (r : Ran U S A) (m n : M)
      → Reaches step m n → Simulates step D E r n → Simulates step D E r m
  simulates-from D r m n mn rest =
      record { place = rest.place; reached = reaches-trans step m n rest.place mn rest.reached; stands = rest.stands }

  stands-weaker : {A : Type 0} (D D' : A → S → M → Type 0) (E' : Stop U → S → M → Type 0)
      → ((a : A) (s : S) (m : M) → D a s m → D' a s m) → ((c : Stop U) (s : S) (m : M) → E c s m → E' c s m)
      → (r : Ran U S A) (m : M) → Stands D E r m → Stands D' E' r m
  stands-weaker D D' E' done stopped (Done a s) m stands = done a s m stands
  stands-weaker D D' E' done stopped (Stopped c s) m stands = stopped c s m stands

  -- what is said may be weakened
  pub simulates-weaker : {A : Type 0} (D D' : A → S → M → Type 0) (E' : Stop U → S → M → Type 0)
      → ((a : A) (s : S) (m : M) → D a s m → D' a s m) → ((c : Stop U) (s : S) (m : M) → E c s m → E' c s m)
      → (r : Ran U S A) (m : M) → Simulates step D E r m → Simulates step D' E' r m
  simulates-weaker D D' E' done stopped r m first =
      record { place = first.place; reached = first.reached; stands = stands-weaker D D' E' done stopped r first.place first.stands }

  bind-at : {A B : Type 0} (D : A → S → M → Type 0) (D' : B → S → M → Type 0) (f : A → S → Ran U S B) (r : Ran U S A) (m n : M)
      → Reaches step m n → Stands D E r n
      → ((a : A) (s : S) (m : M) → D a s m → Simulates step D' E (f a s) m)
      → Simulates step D' E (and_then r f) m
  bind-at D D' f (Done a s) m n mn stands rest = simulates-from D' (f a s) m n mn (rest a s n stands)
  bind-at D D' f (Stopped c s) m n mn stands rest = record { place = n; reached = mn; stands = stands }

  -- one after another
  pub bind : {A B : Type 0} (D : A → S → M → Type 0) (D' : B → S → M → Type 0) (r : Ran U S A) (f : A → S → Ran U S B) (m : M)
      → Simulates step D E r m
      → ((a : A) (s : S) (m : M) → D a s m → Simulates step D' E (f a s) m)
      → Simulates step D' E (and_then r f) m
  bind D D' r f m first rest = bind-at D D' f r m first.place first.reached first.stands rest

  turned-simulates : {A : Type 0} (I : S → M → Type 0) (D : A → S → M → Type 0) (rest : S → Ran U S A)
      → ((s : S) (m : M) → I s m → Simulates step D E (rest s) m)
      → (t : Turn A) (s : S) (m : M) → AfterTurn I D t s m → Simulates step D E (turned t rest s) m
  turned-simulates I D rest on Again s m holds = on s m holds
  turned-simulates I D rest on (Over a) s m holds = simulates-here D (Done a s) m holds

  -- The turns of a loop. The invariant may name the turns that are left; where none is, E holds of a run that would go on.
  pub loop : {A : Type 0} (I : ℕ → S → M → Type 0) (D : A → S → M → Type 0) (turn : S → Ran U S (Turn A))
      → ((n : ℕ) (s : S) (m : M) → I (suc n) s m → Simulates step (AfterTurn (I n) D) E (turn s) m)
      → ((s : S) (m : M) → I zero s m → E More s m)
      → (n : ℕ) (s : S) (m : M) → I n s m → Simulates step D E (turns n turn s) m
  loop I D turn each out zero s m holds = simulates-here D (turns zero turn s) m (out s m holds)
  loop I D turn each out (suc n) s m holds =
      bind (AfterTurn (I n) D) D (turn s) (λ t. turned t (turns n turn)) m (each n s m holds)
      (turned-simulates (I n) D (turns n turn) (loop I D turn each out n))

  -- Every step of a machine above. The relation may name the steps that are left.
  pub every_step : (above : S → Ran U S (Unit {0})) (R : ℕ → S → M → Type 0) (D : Unit {0} → S → M → Type 0)
      → ((n : ℕ) (s : S) (m : M) → R (suc n) s m → Simulates step (λ _. R n) E (above s) m)
      → ((s : S) (m : M) → R zero s m → E More s m)
      → (n : ℕ) (s : S) (m : M) → R n s m → Simulates step D E (exec above n s) m
  every_step above R D each out zero s m holds = simulates-here D (exec above zero s) m (out s m holds)
  every_step above R D each out (suc n) s m holds =
      bind (λ _. R n) D (above s) (λ _. exec above n) m (each n s m holds) (λ _ s m. every_step above R D each out n s m)

-- what is said of the machine above, said of the machine below
module _ {A S N M : Type 0} (R : N → M → Type 0) where
  abbrev pub Below : (A → S → N → Type 0) → A → S → M → Type 0
  Below D a s m = (n : N) × D a s n × R n m

-- A meaning over a machine over a machine below it.
module _ {U V W S N M : Type 0} (above : N → Ran V N (Unit {0})) (below : M → Ran W M (Unit {0})) (R : N → M → Type 0) where
  stands-below : {A : Type 0} (D : A → S → N → Type 0) (E : Stop U → S → N → Type 0) (r : Ran U S A) (n : N) (m : M)
      → Stands D E r n → R n m → Stands (Below R D) (Below R E) r m
  stands-below D E (Done a s) n m stands related = (n, stands, related)
  stands-below D E (Stopped c s) n m stands related = (n, stands, related)

  -- Where each step of the machine above is done below, and leaves related states also where it stops, the machine below does
  -- what the meaning says of the machine above.
  pub through : {A : Type 0} (D : A → S → N → Type 0) (E : Stop U → S → N → Type 0)
      → ((n : N) (m : M) → R n m → Simulates below (λ _. R) (λ _. R) (above n) m)
      → (r : Ran U S A) (n : N) (m : M) → R n m → Simulates above D E r n → Simulates below (Below R D) (Below R E) r m
  through D E each r n m related first =
      record { place = down.place; reached = down.reached; stands = stands-below D E r first.place down.place first.stands stood }
    where
      j : ℕ
      j = (first.reached.within zero).0

      down : Simulates {A = Unit {0}} below (λ _. R) (λ _. R) (exec above j n) m
      down = every_step below (λ _. R) above (λ _. R) (λ _. R) (λ _. each) (λ n m holds. holds) j n m related

      stood : R first.place down.place
      stood =
          let P : Ran V N (Unit {0}) → Type 0 = λ x. Stands {A = Unit {0}} (λ _. R) (λ _. R) x down.place in
          subst P (first.reached.within zero).2 down.stands
