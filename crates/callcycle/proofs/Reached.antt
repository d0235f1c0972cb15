-- Marking goes on until it has what is reached: each marked function is reached, and it waits or its callees are marked.
use Rattle.std.proofs.Common.{◌≡◌, ℕ, ◌+◌, ◌<◌, ◌≤◌, ◌⊎◌, inl, inr, Bool, false, List, [], ◌∷◌, ◌++◌, length, replicate}
use Rattle.std.proofs.Common.{refl, ap, ◌∙◌, subst, arith, Option, Some, None, slice_get}
use Rattle.std.specs.Prelude.{Contains, slice_index}
use Rattle.std.specs.Global.{Vec}
use Rattle.std.proofs.lemmas.List.Elements.{Contains-append_left, Contains-push, Contains-push_cases}
use Rattle.std.proofs.lemmas.Option.{slice_get_within}
use Rattle.std.proofs.lemmas.List.{length-replicate}
use Rattle.callcycle.specs.declared.call.Call.{Call}
use Rattle.callcycle.specs.Calls.{calls_in, calls_of, Reaches, here, calls, InCycle}
use Rattle.callcycle.specs.Search.{IsMarked, IsTaken, AreTaken, AreReached, NeverRises}
use Rattle.callcycle.proofs.Taken.{IsBegun, begun-from_none, length-taken}

pub record IsReaching (functions : List (Vec Call)) (from : ℕ) (m : List Bool) (w : List ℕ) : Type 0 where
  pub all : length m ≡ length functions
  pub reached : (g : ℕ) → IsMarked m g → Reaches functions from g
  pub first : from < length functions → IsMarked m from
  pub pending : (g : ℕ) → IsMarked m g
      → Contains w g ⊎ ((c : Call) → Contains (calls_of functions g) c → c.callee < length functions → IsMarked m c.callee)
  pub marked : (g : ℕ) → Contains w g → IsMarked m g

then-call : (functions : List (Vec Call)) (a f : ℕ) (c : Call) → Reaches functions a f → Contains (calls_of functions f) c
    → Reaches functions a c.callee
then-call functions a f c (here _) k = calls a c.callee c k (here c.callee)
then-call functions a f c (calls _ _ d is rest) k = calls a c.callee d is (then-call functions d.callee f c rest k)

pub reaching-first : (functions : List (Vec Call)) (from : ℕ) (m : List Bool) (w : List ℕ) → length m ≡ length functions → IsBegun from m w
    → IsReaching functions from m w
reaching-first functions from m w all b = record {
  all = all;
  reached = λ g k. subst (Reaches functions from) ((b.alone g k).0) (here from);
  first = λ l. b.here (omega (arith, l, all));
  pending = λ g k. inl ((b.alone g k).1);
  marked = b.marked;
}

pub reaching-begun : (functions : List (Vec Call)) (from : ℕ) (m0 m : List Bool) (w0 w : List ℕ)
    → m0 ≡ replicate (length functions) false → w0 ≡ [] → IsTaken from m0 m w0 w → IsReaching functions from m w
reaching-begun functions from m0 m w0 w marks none t =
    reaching-first functions from m w
    (length-taken from m0 m w0 w t ∙ ap length marks ∙ length-replicate (length functions) false)
    (begun-from_none from (length functions) m0 m w0 w marks none t)

pub reaching-next : (functions : List (Vec Call)) (from f : ℕ) (m m' : List Bool) (w w' : List ℕ)
    → IsReaching functions from m (w ++ f ∷ [])
    → AreTaken (calls_of functions f) m m' w w' → IsReaching functions from m' w'
reaching-next functions from f m m' w w' r t =
    let is : IsMarked m f = r.marked f (Contains-push w f) in
    record {
      all = t.same ∙ r.all;
      reached = λ g k. elim (t.found g k) [
        | inl old ↦ r.reached g old
        | inr new ↦ subst (Reaches functions from) new.0.2 (then-call functions from f new.0.0 (r.reached f is) new.0.1)
      ];
      first = λ l. t.kept from (r.first l);
      pending = λ g k. elim (t.found g k) [
        | inl old ↦ elim (r.pending g old) [
          | inl waits ↦ elim (Contains-push_cases w f g waits) [
            | inl before ↦ inl (t.waiting g before)
            | inr e ↦ inr (subst
                (λ (x : ℕ). (c : Call) → Contains (calls_of functions x) c → c.callee < length functions → IsMarked m' c.callee) e
                (λ c k' l. t.callees c k' (omega (arith, l, r.all))))
          ]
          | inr done ↦ inr (λ c k' l. t.kept c.callee (done c k' l))
        ]
        | inr new ↦ inl new.1
      ];
      marked = λ g k. elim (t.marked g k) [
        | inl before ↦ t.kept g (r.marked g (Contains-append_left w (f ∷ []) g before))
        | inr new ↦ new
      ];
    }

caller-in : (functions : List (Vec Call)) (f : ℕ) (c : Call) (o : Option (Vec Call)) → slice_get functions f ≡ o → Contains (calls_in o) c
    → f < length functions
caller-in functions f c None e k = absurd (omega (arith, k.1))
caller-in functions f c (Some v) e k = slice_get_within functions f v e

pub caller-within : (functions : List (Vec Call)) (f : ℕ) (c : Call) → Contains (calls_of functions f) c → f < length functions
caller-within functions f c k = caller-in functions f c (slice_get functions f) refl k

all-marked : (functions : List (Vec Call)) (m : List Bool)
    → ((g : ℕ) → IsMarked m g → (c : Call) → Contains (calls_of functions g) c → c.callee < length functions → IsMarked m c.callee)
    → (a b : ℕ) → Reaches functions a b → (a < length functions → IsMarked m a) → b < length functions → IsMarked m b
all-marked functions m closed a b (here _) is l = is l
all-marked functions m closed a b (calls _ _ c k rest) is l =
    all-marked functions m closed c.callee b rest (λ l'. closed a (is (caller-within functions a c k)) c k l') l

pub reaching-last : (functions : List (Vec Call)) (from : ℕ) (m : List Bool) (w : List ℕ) → IsReaching functions from m w → length w ≡ 0
    → AreReached functions from m
reaching-last functions from m w r none = record {
  all = r.all;
  reached = r.reached;
  complete = λ g l k. all-marked functions m
      (λ h is. elim (r.pending h is) [ inl waits ↦ absurd (omega (arith, waits.1, none)) | inr done ↦ done ])
      from g k r.first l;
}

-- ---- numbers that never rise along a call

pub numbers-fall : (functions : List (Vec Call)) (numbers : List ℕ) → NeverRises functions numbers → (a b : ℕ) → Reaches functions a b
    → slice_index numbers b ≤ slice_index numbers a
numbers-fall functions numbers never a b (here _) = omega arith
numbers-fall functions numbers never a b (calls _ _ c k rest) =
    omega (arith, never a c k, numbers-fall functions numbers never c.callee b rest)

pub in-none : (functions : List (Vec Call)) (numbers : List ℕ) (f : ℕ) (c : Call) → NeverRises functions numbers
    → slice_index numbers c.callee < slice_index numbers f → InCycle functions f c → ⊥
in-none functions numbers f c never less i = omega (arith, less, numbers-fall functions numbers never c.callee f i.back)
