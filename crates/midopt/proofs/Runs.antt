-- A program whose operations serve as another's do: its runs are better.
use Rattle.std.proofs.Common.{◌≡◌, ℕ, zero, suc, ◌+◌, ◌≤◌, ◌⊎◌, inl, inr, Bool, true, false, not, List, length, take}
use Rattle.std.proofs.Common.{Option, Some, None, refl, sym, subst, ap, ◌∙◌, arith, le_refl, slice_get}
use Rattle.std.specs.List.{list_all}
use Rattle.std.proofs.lemmas.Option.{slice_get_within}
use Rattle.behaviour.specs.Ran.{Ran, Done, Stopped, and_then}
use Rattle.behaviour.specs.Machine.{exec, Reaches}
use Rattle.behaviour.proofs.MachineLemmas.{reaches-refl, reaches-trans, reaches-step}
use Rattle.midcode.specs.declared.op.OpKind.{OpKind}
use Rattle.midcode.specs.Operation.{is_value, reads, writes}
use Rattle.midcode.specs.Function.{standing}
use Rattle.midcode.specs.Cost.{charge}
use Rattle.midcode.specs.Program.{Program}
use Rattle.midcode.specs.declared.register.VReg.{VReg}
use Rattle.midcode.specs.Machine.{Wild, State}
use Rattle.midcode.specs.Meaning.{running, effect, charged, performed, step, start, first_memory}
use Rattle.midopt.specs.Weighed.{Weight, IsOfActs, Weighed, weight_at, weighing, weighed, run}
use Rattle.midopt.specs.Better.{IsShown, is_wild, StandsAs, IsBetterRun}
use Rattle.midopt.proofs.Alike.{Alike}
use Rattle.midopt.proofs.Effects.{Places, LikeAt, Like, shown-of, ops, IsEdit, effect-alike}
use Rattle.midopt.proofs.Quiet.{Quiet, value-skipped}

-- ---- operations

-- What a run of the old program keeps, state by state.
pub record IsKept (q : Program) (a : List ℕ) (Inv : State → Type 0) : Type 0 where
  pub first : (values : List ℕ) → Inv (start q a values)
  pub next : (s t : State) → Inv s → step q a s ≡ Done tt t → Inv t

module _ (q p : Program) (a : List ℕ) (e : Places) (Inv : State → Type 0) where
  -- An operation of the new program does what one of the old does, from every two states that are related there, in no more cycles.
  pub record IsServing (f x : ℕ) (old new : OpKind) : Type 0 where
    pub does : (s t : State) → Inv s → LikeAt e f x (charged old s) (charged new t)
        → Alike (Like e) (effect q a old (charged old s)) (effect p a new (charged new t))
    pub charge : charge new ≤ charge old
    pub acts : (new ≡ old) ⊎ ((is_value old ≡ true) × (is_value new ≡ true))

  abbrev pub Serves : ℕ → ℕ → Option OpKind → Option OpKind → Type 0
  Serves f x None None = Unit {0}
  Serves f x (Some old) (Some new) = IsServing f x old new
  Serves f x _ _ = ⊥

  -- It only computes a value that nobody reads.
  pub record IsIdle (f x : ℕ) (k : OpKind) : Type 0 where
    pub value : is_value k ≡ true
    pub to : VReg
    pub writes : writes k ≡ Some to
    pub unread : e.unread f to.0 ≡ true
    pub skipped : e.moved f (x + 1) ≡ e.moved f x

  -- Each operation of the old program is served where it stands, or idle and without counterpart.
  pub record Serve : Type 0 where
    pub edit : IsEdit q p e
    pub main : p.main ≡ q.main
    pub inv : IsKept q a Inv
    pub served : (f x : ℕ) → e.gone f x ≡ false → Serves f x (slice_get (ops q f) x) (slice_get (ops p f) (e.moved f x))
    pub idle : (f x : ℕ) → e.gone f x ≡ true → (k : OpKind) × (slice_get (ops q f) x ≡ Some k) × IsIdle f x k
    pub standing : (f x : ℕ) → e.gone f x ≡ false → standing (take (e.moved f x) (ops p f)) ≡ standing (take x (ops q f))

-- An operation that stands in both, and reads only registers that are the same, serves for itself.
pub serves-itself : (q p : Program) (a : List ℕ) (e : Places) (Inv : State → Type 0) → IsEdit q p e → (f x : ℕ) → e.gone f x ≡ false
    → (k : OpKind) → list_all (λ r. not (e.unread f r.0)) (reads k) ≡ true → IsServing q p a e Inv f x k k
serves-itself q p a e Inv edit f x kept k own = record {
  does = λ s t inv at. effect-alike q p a e edit f x kept k own (charged k s) (charged k t) at;
  charge = le_refl (charge k);
  acts = inl refl;
}

-- ---- runs

module _ (q p : Program) (a : List ℕ) (e : Places) (Inv : State → Type 0) (serve : Serve q p a e Inv) (w : Weight) (acts : IsOfActs w) where
  charged-at : (f x : ℕ) (j k : OpKind) (s t : State) → charge k ≤ charge j → LikeAt e f x s t → LikeAt e f x (charged j s) (charged k t)
  charged-at f x j k s t less at = record {
    frame = at.frame;
    callers = at.callers;
    memory = at.memory;
    values = at.values;
    events = at.events;
    charge = omega (arith, less, at.charge);
  }

  performed-alike : (f x : ℕ) (o o' : Option OpKind) (s t : State) → Serves q p a e Inv f x o o' → Inv s → LikeAt e f x s t
      → Alike (Like e) (performed q a o s) (performed p a o' t)
  performed-alike f x None None s t serves inv at = inr (refl, shown-of e f x s t at)
  performed-alike f x (Some j) (Some k) s t serves inv at = serves.does s t inv (charged-at f x j k s t serves.charge at)
  performed-alike f x None (Some k) s t serves inv at = absurd serves
  performed-alike f x (Some j) None s t serves inv at = absurd serves

  weight-same : (f x : ℕ) (o o' : Option OpKind) → e.gone f x ≡ false → Serves q p a e Inv f x o o'
      → weight_at w (ops p f) (e.moved f x) o' ≡ weight_at w (ops q f) x o
  weight-same f x None None kept serves = refl
  weight-same f x (Some j) (Some k) kept serves = by serves.acts
    where
      by : (k ≡ j) ⊎ ((is_value j ≡ true) × (is_value k ≡ true))
          → w (standing (take (e.moved f x) (ops p f))) k ≡ w (standing (take x (ops q f))) j
      by (inl same) = ap (w (standing (take (e.moved f x) (ops p f)))) same ∙ ap (λ ls. w ls j) (serve.standing f x kept)
      by (inr (old, new)) = acts (standing (take (e.moved f x) (ops p f))) k new ∙ sym (acts (standing (take x (ops q f))) j old)
  weight-same f x None (Some k) kept serves = absurd serves
  weight-same f x (Some j) None kept serves = absurd serves

  -- the operation at hand
  old-at : (f x : ℕ) (s t : State) → LikeAt e f x s t → slice_get (running q s) s.frame.place ≡ slice_get (ops q f) x
  old-at f x s t at =
      ap (λ n. slice_get (ops q n) s.frame.place) at.frame.old_function ∙ ap (slice_get (ops q f)) at.frame.old_place

  new-at : (f x : ℕ) (s t : State) → LikeAt e f x s t → slice_get (running p t) t.frame.place ≡ slice_get (ops p f) (e.moved f x)
  new-at f x s t at = ap (λ n. slice_get (ops p n) t.frame.place) at.frame.function ∙ ap (slice_get (ops p f)) at.frame.place

  step-alike : (f x : ℕ) (s t : State) → e.gone f x ≡ false → Inv s → LikeAt e f x s t → Alike (Like e) (step q a s) (step p a t)
  unfolding step
  step-alike f x s t kept inv at =
      let P : Option OpKind → Type 0 = λ o. Alike (Like e) (performed q a o s) (performed p a (slice_get (running p t) t.frame.place) t) in
      let Q : Option OpKind → Type 0 = λ o. Alike (Like e) (performed q a (slice_get (ops q f) x) s) (performed p a o t) in
      subst P (sym (old-at f x s t at)) (subst Q (sym (new-at f x s t at))
      (performed-alike f x (slice_get (ops q f) x) (slice_get (ops p f) (e.moved f x)) s t (serve.served f x kept) inv at))

  -- the weights of the operations at hand
  abbrev old-weight : State → ℕ
  old-weight s = weight_at w (running q s) s.frame.place (slice_get (running q s) s.frame.place)

  abbrev new-weight : State → ℕ
  new-weight t = weight_at w (running p t) t.frame.place (slice_get (running p t) t.frame.place)

  old-weight-at : (f x : ℕ) (s t : State) → LikeAt e f x s t
      → weight_at w (running q s) s.frame.place (slice_get (running q s) s.frame.place)
      ≡ weight_at w (ops q f) x (slice_get (ops q f) x)
  old-weight-at f x s t at =
      ap (λ n. weight_at w (ops q n) s.frame.place (slice_get (ops q n) s.frame.place)) at.frame.old_function ∙
      ap (λ n. weight_at w (ops q f) n (slice_get (ops q f) n)) at.frame.old_place

  new-weight-at : (f x : ℕ) (s t : State) → LikeAt e f x s t
      → weight_at w (running p t) t.frame.place (slice_get (running p t) t.frame.place)
      ≡ weight_at w (ops p f) (e.moved f x) (slice_get (ops p f) (e.moved f x))
  new-weight-at f x s t at =
      ap (λ n. weight_at w (ops p n) t.frame.place (slice_get (ops p n) t.frame.place)) at.frame.function ∙
      ap (λ n. weight_at w (ops p f) n (slice_get (ops p f) n)) at.frame.place

  abbrev Run : Type 0
  Run = Ran Wild Weighed (Unit {0})

  abbrev old : Weighed → Run
  old = weighed w q a

  abbrev new : Weighed → Run
  new = weighed w p a

  pub record NearAt (f x : ℕ) (s t : Weighed) : Type 0 where
    pub at : LikeAt e f x s.state t.state
    pub weight : t.weight ≡ s.weight
    pub inv : Inv s.state

  abbrev pub Near : Weighed → Weighed → Type 0
  Near s t = (f : ℕ) × (x : ℕ) × NearAt f x s t

  near-shown : (f x : ℕ) (s t : Weighed) → NearAt f x s t → IsShown s t
  near-shown f x s t near =
      record { events = near.at.events; values = near.at.values; weight = near.weight; charge = near.at.charge }

  -- ---- an operation of both

  abbrev NextOf : Run → Run → Type 0
  NextOf (Done u s) (Done v t) = Near s t
  NextOf (Stopped c s) (Stopped d t) = (d ≡ c) × IsShown s t
  NextOf r r' = ⊥

  both-next : (r r' : Ran Wild State (Unit {0})) (m n : ℕ) → n ≡ m → Alike (Like e) r r' → ((s : State) → r ≡ Done tt s → Inv s)
      → (is_wild (weighing m r) ≡ true) ⊎ NextOf (weighing m r) (weighing n r')
  both-next (Done u s) (Done v t) m n same (inr (one, (f, x, at))) inv = inr (f, x, record { at = at; weight = same; inv = inv s refl })
  both-next (Stopped c s) (Stopped d t) m n same (inr (one, shown)) inv =
      inr (one, record { events = shown.events; values = shown.values; weight = same; charge = shown.charge })
  both-next (Done u s) r' m n same (inl wild) inv = cc
  both-next (Stopped c s) r' m n same (inl wild) inv = inl wild
  both-next (Done u s) (Stopped d t) m n same (inr never) inv = absurd never
  both-next (Stopped c s) (Done v t) m n same (inr never) inv = absurd never

  next-both : (f x : ℕ) (s t : Weighed) → NearAt f x s t → e.gone f x ≡ false → (is_wild (old s) ≡ true) ⊎ NextOf (old s) (new t)
  next-both f x s t near kept =
      both-next (step q a s.state) (step p a t.state) (s.weight + old-weight s.state) (t.weight + new-weight t.state)
      (ap (λ n. n + new-weight t.state) near.weight ∙
      ap (λ n. s.weight + n) (new-weight-at f x s.state t.state near.at ∙
      weight-same f x (slice_get (ops q f) x) (slice_get (ops p f) (e.moved f x)) kept (serve.served f x kept) ∙
      sym (old-weight-at f x s.state t.state near.at)))
      (step-alike f x s.state t.state kept near.inv near.at)
      (λ s' is. serve.inv.next s.state s' near.inv is)

  -- ---- an operation of the old program alone

  quiet-step : (f x : ℕ) (s t : State) (k : OpKind) → LikeAt e f x s t → slice_get (ops q f) x ≡ Some k
      → (idle : IsIdle q p a e Inv f x k) → Quiet q a e f x idle.skipped (step q a s) t
  unfolding step
  quiet-step f x s t k at is idle =
      let P : Option OpKind → Type 0 = λ o. Quiet q a e f x idle.skipped (performed q a o s) t in
      subst P (sym (old-at f x s t at ∙ is))
      (value-skipped q a e f x idle.skipped (charged k s) t
      (record {
        frame = at.frame;
        callers = at.callers;
        memory = at.memory;
        values = at.values;
        events = at.events;
        charge = omega (arith, at.charge);
      }) k idle.to idle.value idle.writes idle.unread)

  abbrev IdleOf : ℕ → ℕ → Run → Weighed → Type 0
  IdleOf f x r t = (is_wild r ≡ true) ⊎ ((s : Weighed) × (r ≡ Done tt s) × NearAt f (x + 1) s t)

  quiet-next : (f x : ℕ) (skipped : e.moved f (x + 1) ≡ e.moved f x) (r : Ran Wild State (Unit {0})) (m : ℕ) (t : Weighed)
      → t.weight ≡ m → Quiet q a e f x skipped r t.state → ((s : State) → r ≡ Done tt s → Inv s) → IdleOf f x (weighing m r) t
  quiet-next f x skipped (Done u s) m t same (inl wild) inv = cc
  quiet-next f x skipped (Stopped c s) m t same (inl wild) inv = inl wild
  quiet-next f x skipped r m t same (inr (s, is, at)) inv =
      inr (record { state = s; weight = m }, ap (weighing m) is, record { at = at; weight = same; inv = inv s is })

  idle-next : (f x : ℕ) (s t : Weighed) → NearAt f x s t → e.gone f x ≡ true → IdleOf f x (old s) t
  idle-next f x s t near gone =
      let k = (serve.idle f x gone).0 in
      let is = (serve.idle f x gone).1 in
      let idle = (serve.idle f x gone).2 in
      let none : old-weight s.state ≡ 0 = old-weight-at f x s.state t.state near.at ∙ ap (weight_at w (ops q f) x) is ∙
      acts (standing (take x (ops q f))) k idle.value in
      quiet-next f x idle.skipped (step q a s.state) (s.weight + old-weight s.state) t
      (omega (arith, near.weight, none))
      (quiet-step f x s.state t.state k near.at is idle)
      (λ s' at. serve.inv.next s.state s' near.inv at)

  -- ---- runs

  abbrev Forth : ℕ → Run → Weighed → Type 0
  Forth n r t = (is_wild r ≡ true) ⊎ ((m : ℕ) × (m ≤ n) × StandsAs r (exec new m t))

  forth-idle : (f x n : ℕ) (r : Run) (t : Weighed) → IdleOf f x r t → ((s : Weighed) → NearAt f (x + 1) s t → Forth n (exec old n s) t)
      → Forth (suc n) (and_then r (λ _. exec old n)) t
  forth-idle f x n (Done u s) t (inl wild) on = cc
  forth-idle f x n (Stopped c s) t (inl wild) on = inl wild
  forth-idle f x n r t (inr (s, is, near)) on =
      subst (λ z. Forth (suc n) (and_then z (λ _. exec old n)) t) (sym is) (later (on s near))
    where
      later : Forth n (exec old n s) t → Forth (suc n) (exec old n s) t
      later (inl wild) = inl wild
      later (inr (m, few, same)) = inr (m, omega (arith, few), same)

  forth-both : (n : ℕ) (r r' : Run) → (is_wild r ≡ true) ⊎ NextOf r r' → ((s t : Weighed) → Near s t → Forth n (exec old n s) t)
      → (is_wild (and_then r (λ _. exec old n)) ≡ true)
      ⊎ ((m : ℕ) × (m ≤ n) × StandsAs (and_then r (λ _. exec old n)) (and_then r' (λ _. exec new m)))
  forth-both n (Done u s) r' (inl wild) on = cc
  forth-both n (Stopped c s) r' (inl wild) on = inl wild
  forth-both n (Done u s) (Done v t) (inr near) on = on s t near
  forth-both n (Stopped c s) (Stopped d t) (inr same) on = inr (zero, omega arith, same)
  forth-both n (Done u s) (Stopped d t) (inr never) on = absurd never
  forth-both n (Stopped c s) (Done v t) (inr never) on = absurd never

  forth-at : (n f x : ℕ) (s t : Weighed) → NearAt f x s t → (b : Bool) → e.gone f x ≡ b
      → ((s t : Weighed) → Near s t → Forth n (exec old n s) t) → Forth (suc n) (exec old (suc n) s) t
  forth-at n f x s t near true gone on =
      forth-idle f x n (old s) t (idle-next f x s t near gone) (λ s near. on s t (f, x + 1, near))
  forth-at n f x s t near false kept on = both (forth-both n (old s) (new t) (next-both f x s t near kept) on)
    where
      both : (is_wild (and_then (old s) (λ _. exec old n)) ≡ true)
          ⊎ ((m : ℕ) × (m ≤ n) × StandsAs (and_then (old s) (λ _. exec old n)) (and_then (new t) (λ _. exec new m)))
          → Forth (suc n) (exec old (suc n) s) t
      both (inl wild) = inl wild
      both (inr (m, few, same)) = inr (suc m, omega (arith, few), same)

  forth : (n : ℕ) (s t : Weighed) → Near s t → Forth n (exec old n s) t
  forth zero s t (f, x, near) = inr (zero, le_refl zero, (refl, near-shown f x s t near))
  forth (suc n) s t (f, x, near) = forth-at n f x s t near (e.gone f x) refl (λ s t near. forth n s t near)

  -- wild after so many operations or more
  abbrev Doomed : Weighed → Type 0
  Doomed s = (k : ℕ) → (j : ℕ) × (k ≤ j) × (is_wild (exec old j s) ≡ true)

  -- The old program comes to a state from which both do an operation.
  abbrev Settled : Weighed → Weighed → Type 0
  Settled s t = Doomed s ⊎ ((u : Weighed) × (f : ℕ) × (x : ℕ) × Reaches old s u × NearAt f x u t × (e.gone f x ≡ false))

  doomed-stop : (s : Weighed) (r : Run) → old s ≡ r → is_wild r ≡ true → Doomed s
  doomed-stop s (Done u t) is wild k = cc
  doomed-stop s (Stopped c t) is wild k =
      (suc k, omega arith, ap (λ z. is_wild (and_then z (λ _. exec old k))) is ∙ wild)

  settle-from : (s t u : Weighed) → Reaches old s u → Settled u t → Settled s t
  settle-from s t u reach (inl doomed) = inl (λ k. let d = doomed k in let r = reach.within d.0 in
      (r.0, omega (arith, r.1, d.1), ap is_wild r.2 ∙ d.2))
  settle-from s t u reach (inr (v, f, x, on, near, kept)) = inr (v, f, x, reaches-trans old s u v reach on, near, kept)

  settled-here : (f x : ℕ) (s t : Weighed) → NearAt f x s t → e.gone f x ≡ false → Settled s t
  settled-here f x s t near kept = inr (s, f, x, reaches-refl old s, near, kept)

  settled-on : (f x : ℕ) (s t : Weighed) → IdleOf f x (old s) t → ((u : Weighed) → NearAt f (x + 1) u t → Settled u t) → Settled s t
  settled-on f x s t (inl wild) on = inl (doomed-stop s (old s) refl wild)
  settled-on f x s t (inr (u, is, near)) on = settle-from s t u (reaches-step old s u is) (on u near)

  -- no operation is idle behind the last
  last-kept : (f x : ℕ) → length (ops q f) ≤ x + 0 → (b : Bool) → e.gone f x ≡ b → b ≡ false
  last-kept f x bound false is = refl
  last-kept f x bound true is =
      let k = serve.idle f x is in
      absurd (omega (arith, bound, slice_get_within (ops q f) x k.0 k.1))

  settled-by : (f x : ℕ) (s t : Weighed) → NearAt f x s t → (b : Bool) → e.gone f x ≡ b
      → ((u : Weighed) → NearAt f (x + 1) u t → Settled u t) → Settled s t
  settled-by f x s t near false kept on = settled-here f x s t near kept
  settled-by f x s t near true gone on = settled-on f x s t (idle-next f x s t near gone) on

  settle : (d f x : ℕ) (s t : Weighed) → NearAt f x s t → length (ops q f) ≤ x + d → Settled s t
  settle zero f x s t near bound = settled-here f x s t near (last-kept f x bound (e.gone f x) refl)
  settle (suc d) f x s t near bound =
      settled-by f x s t near (e.gone f x) refl (λ u near. settle d f (x + 1) u t near (omega (arith, bound)))

  abbrev Back : ℕ → Weighed → Run → Type 0
  Back m s r = (n : ℕ) × (m ≤ n) × ((is_wild (exec old n s) ≡ true) ⊎ StandsAs (exec old n s) r)

  back-both : (m : ℕ) (r r' : Run) → (is_wild r ≡ true) ⊎ NextOf r r' → ((s t : Weighed) → Near s t → Back m s (exec new m t))
      → (n : ℕ) × (m ≤ n) × ((is_wild (and_then r (λ _. exec old n)) ≡ true)
      ⊎ StandsAs (and_then r (λ _. exec old n)) (and_then r' (λ _. exec new m)))
  back-both m (Done u s) r' (inl wild) on = cc
  back-both m (Stopped c s) r' (inl wild) on = (m, le_refl m, inl wild)
  back-both m (Done u s) (Done v t) (inr near) on = on s t near
  back-both m (Stopped c s) (Stopped d t) (inr same) on = (m, le_refl m, inr same)
  back-both m (Done u s) (Stopped d t) (inr never) on = absurd never
  back-both m (Stopped c s) (Done v t) (inr never) on = absurd never

  back-settled : (m : ℕ) (s t : Weighed) → Settled s t → ((s t : Weighed) → Near s t → Back m s (exec new m t))
      → Back (suc m) s (exec new (suc m) t)
  back-settled m s t (inl doomed) on = let d = doomed (suc m) in (d.0, d.1, inl d.2)
  back-settled m s t (inr (u, f, x, reach, near, kept)) on =
      let b = back-both m (old u) (new t) (next-both f x u t near kept) on in
      let r = reach.within (suc b.0) in
      let P : Run → Type 0 = λ z. (is_wild z ≡ true) ⊎ StandsAs z (exec new (suc m) t) in
      (r.0, omega (arith, r.1, b.1), subst P (sym r.2) b.2)

  back : (m : ℕ) (s t : Weighed) → Near s t → Back m s (exec new m t)
  back zero s t (f, x, near) = (zero, le_refl zero, inr (refl, near-shown f x s t near))
  back (suc m) s t (f, x, near) =
      back-settled m s t (settle (length (ops q f)) f x s t near (omega arith)) (λ s t near. back m s t near)

  -- The runs of the new program are better.
  pub serves-better : (values : List ℕ) → IsBetterRun (run w q a values) (run w p a values)
  serves-better values = record { forth = λ n. forth n first second near; back = λ m. back m first second near }
    where
      first : Weighed
      first = record { state = start q a values; weight = 0 }

      second : Weighed
      second = record { state = start p a values; weight = 0 }

      near : Near first second
      near = (
        q.main,
        0,
        record {
          at = record {
            frame = record {
              old_function = refl;
              old_place = refl;
              function = serve.main;
              place = sym (serve.edit.starts q.main);
              registers = λ r seen. refl;
              taken = λ y stays. refl;
            };
            callers = tt;
            memory = ap (first_memory a a) serve.edit.objects;
            values = refl;
            events = refl;
            charge = le_refl zero;
          };
          weight = refl;
          inv = serve.inv.first values;
        },
      )
