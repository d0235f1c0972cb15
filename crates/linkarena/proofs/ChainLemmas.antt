-- Chains of nodes, where a few links turn.
use Rattle.std.proofs.Common.{◌≡◌, ◌≢◌, ℕ, List, [], ◌∷◌, ◌++◌, Option, Some, None, refl, sym, ◌∙◌}
use Rattle.linkarena.specs.Lists.{first_id, last_id}
use Rattle.linkarena.specs.Links.{Nexts, Prevs, Apart, Distinct}

-- one link has turned, and no other
pub record Turned (old new : Option ℕ → Option ℕ) (at to : Option ℕ) : Type 0 where
  pub here : new at ≡ to
  pub others : (place : Option ℕ) → place ≢ at → new place ≡ old place

module _ {T : Type 0} where
  -- the last of the nodes, or a place before them
  abbrev pub last_or : Option ℕ → List (ℕ × T) → Option ℕ
  last_or from [] = from
  last_or from (e ∷ es) = last_or (Some e.0) es

  -- the first of the nodes, or a place behind them
  abbrev pub first_or : List (ℕ × T) → Option ℕ → Option ℕ
  first_or [] to = to
  first_or (e ∷ es) to = Some e.0

  pub last_or-any : (from : Option ℕ) (e : ℕ × T) (es : List (ℕ × T)) → last_id (e ∷ es) ≡ last_or from (e ∷ es)
  last_or-any from e [] = refl
  last_or-any from e (x ∷ es) = last_or-any (Some e.0) x es

  pub last_id-last_or : (es : List (ℕ × T)) → last_id es ≡ last_or None es
  last_id-last_or [] = refl
  last_id-last_or (e ∷ es) = last_or-any None e es

  pub first_id-first_or : (es : List (ℕ × T)) → first_id es ≡ first_or es None
  first_id-first_or [] = refl
  first_id-first_or (e ∷ es) = refl

  abbrev pub Rest : (Option ℕ → Option ℕ) → List (ℕ × T) → Option ℕ → Type 0
  Rest next [] to = Unit {0}
  Rest next (e ∷ es) to = Nexts next (Some e.0) es to

  abbrev pub Front : (Option ℕ → Option ℕ) → Option ℕ → List (ℕ × T) → Type 0
  Front prev from [] = Unit {0}
  Front prev from (e ∷ es) = (prev (Some e.0) ≡ from) × Front prev (Some e.0) es

  -- the two functions agree at each node
  abbrev pub SameOn : (Option ℕ → Option ℕ) → (Option ℕ → Option ℕ) → List (ℕ × T) → Type 0
  SameOn old new [] = Unit {0}
  SameOn old new (e ∷ es) = (new (Some e.0) ≡ old (Some e.0)) × SameOn old new es

  -- they agree from a place on, but for the last node
  abbrev pub Retains : (Option ℕ → Option ℕ) → (Option ℕ → Option ℕ) → Option ℕ → List (ℕ × T) → Type 0
  Retains old new from [] = Unit {0}
  Retains old new from (e ∷ es) = (new from ≡ old from) × Retains old new (Some e.0) es

  pub cut_next : (next : Option ℕ → Option ℕ) (from : Option ℕ) (xs ys : List (ℕ × T)) (to : Option ℕ)
      → Nexts next from (xs ++ ys) to → Nexts next from xs (first_or ys to) × Rest next ys to
  cut_next next from [] [] to h = (h, tt)
  cut_next next from [] (y ∷ ys) to h = (h.0, h.1)
  cut_next next from (x ∷ xs) ys to h = let r = cut_next next (Some x.0) xs ys to h.1 in ((h.0, r.0), r.1)

  pub join_next : (next : Option ℕ → Option ℕ) (from : Option ℕ) (xs ys : List (ℕ × T)) (to : Option ℕ)
      → Nexts next from xs (first_or ys to) → Rest next ys to → Nexts next from (xs ++ ys) to
  join_next next from [] [] to p r = p
  join_next next from [] (y ∷ ys) to p r = (p, r)
  join_next next from (x ∷ xs) ys to p r = (p.0, join_next next (Some x.0) xs ys to p.1 r)

  pub frame_next : (old new : Option ℕ → Option ℕ) (from : Option ℕ) (es : List (ℕ × T)) (to : Option ℕ) → SameOn old new es
      → new from ≡ old from → Nexts old from es to → Nexts new from es to
  frame_next old new from [] to s e h = e ∙ h
  frame_next old new from (x ∷ es) to s e h = (e ∙ h.0, frame_next old new (Some x.0) es to s.1 s.0 h.1)

  pub frame_rest : (old new : Option ℕ → Option ℕ) (es : List (ℕ × T)) (to : Option ℕ) → SameOn old new es → Rest old es to → Rest new es to
  frame_rest old new [] to s r = tt
  frame_rest old new (y ∷ es) to s r = frame_next old new (Some y.0) es to s.1 s.0 r

  -- the last link of a path turns
  pub aim_next : (old new : Option ℕ → Option ℕ) (from : Option ℕ) (xs : List (ℕ × T)) (to aim : Option ℕ) → Retains old new from xs
      → new (last_or from xs) ≡ aim → Nexts old from xs to → Nexts new from xs aim
  aim_next old new from [] to aim r e h = e
  aim_next old new from (x ∷ xs) to aim r e h = (r.0 ∙ h.0, aim_next old new (Some x.0) xs to aim r.1 e h.1)

  pub cut_prev : (prev : Option ℕ → Option ℕ) (from : Option ℕ) (xs ys : List (ℕ × T)) (to : Option ℕ)
      → Prevs prev from (xs ++ ys) to → Front prev from xs × Prevs prev (last_or from xs) ys to
  cut_prev prev from [] ys to h = (tt, h)
  cut_prev prev from (x ∷ xs) ys to h = let r = cut_prev prev (Some x.0) xs ys to h.1 in ((h.0, r.0), r.1)

  pub join_prev : (prev : Option ℕ → Option ℕ) (from : Option ℕ) (xs ys : List (ℕ × T)) (to : Option ℕ) → Front prev from xs
      → Prevs prev (last_or from xs) ys to → Prevs prev from (xs ++ ys) to
  join_prev prev from [] ys to f p = p
  join_prev prev from (x ∷ xs) ys to f p = (f.0, join_prev prev (Some x.0) xs ys to f.1 p)

  pub frame_front : (old new : Option ℕ → Option ℕ) (from : Option ℕ) (xs : List (ℕ × T)) → SameOn old new xs → Front old from xs
      → Front new from xs
  frame_front old new from [] s h = tt
  frame_front old new from (x ∷ xs) s h = (s.0 ∙ h.0, frame_front old new (Some x.0) xs s.1 h.1)

  pub frame_prev : (old new : Option ℕ → Option ℕ) (from : Option ℕ) (es : List (ℕ × T)) (to : Option ℕ) → SameOn old new es
      → new to ≡ old to → Prevs old from es to → Prevs new from es to
  frame_prev old new from [] to s e h = e ∙ h
  frame_prev old new from (x ∷ es) to s e h = (s.0 ∙ h.0, frame_prev old new (Some x.0) es to s.1 e h.1)

  -- ---- nodes that differ
  pub apart_none : (es : List (ℕ × T)) → Apart None es
  apart_none [] = tt
  apart_none (e ∷ es) = ((λ h. cc), apart_none es)

  not_last : (from : Option ℕ) (x : ℕ × T) (xs : List (ℕ × T)) → Apart from (x ∷ xs) → from ≢ last_or (Some x.0) xs
  not_last from x [] a = a.0
  not_last from x (y ∷ ys) a = not_last from y ys a.1

  pub retain : (old new : Option ℕ → Option ℕ) (from : Option ℕ) (xs : List (ℕ × T)) → Apart from xs → Distinct xs
      → ((place : Option ℕ) → place ≢ last_or from xs → new place ≡ old place) → Retains old new from xs
  retain old new from [] a d same = tt
  retain old new from (x ∷ xs) a d same = (same from (not_last from x xs a), retain old new (Some x.0) xs d.0 d.1 same)

  pub same_apart : (old new : Option ℕ → Option ℕ) (at : Option ℕ) (es : List (ℕ × T)) → Apart at es
      → ((place : Option ℕ) → place ≢ at → new place ≡ old place) → SameOn old new es
  same_apart old new at [] a same = tt
  same_apart old new at (e ∷ es) a same = (same (Some e.0) (λ h. a.0 (sym h)), same_apart old new at es a.1 same)

  pub apart_front : (at : Option ℕ) (xs ys : List (ℕ × T)) → Apart at (xs ++ ys) → Apart at xs
  apart_front at [] ys a = tt
  apart_front at (x ∷ xs) ys a = (a.0, apart_front at xs ys a.1)

  pub apart_back : (at : Option ℕ) (xs ys : List (ℕ × T)) → Apart at (xs ++ ys) → Apart at ys
  apart_back at [] ys a = a
  apart_back at (x ∷ xs) ys a = apart_back at xs ys a.1

  pub apart_both : (at : Option ℕ) (xs ys : List (ℕ × T)) → Apart at xs → Apart at ys → Apart at (xs ++ ys)
  apart_both at [] ys a b = b
  apart_both at (x ∷ xs) ys a b = (a.0, apart_both at xs ys a.1 b)

  pub distinct_front : (xs ys : List (ℕ × T)) → Distinct (xs ++ ys) → Distinct xs
  distinct_front [] ys d = tt
  distinct_front (x ∷ xs) ys d = (apart_front (Some x.0) xs ys d.0, distinct_front xs ys d.1)

  pub distinct_back : (xs ys : List (ℕ × T)) → Distinct (xs ++ ys) → Distinct ys
  distinct_back [] ys d = d
  distinct_back (x ∷ xs) ys d = distinct_back xs ys d.1

  pub apart_last : (from : Option ℕ) (xs ys : List (ℕ × T)) → Apart from (xs ++ ys) → Distinct (xs ++ ys) → Apart (last_or from xs) ys
  apart_last from [] ys a d = a
  apart_last from (x ∷ xs) ys a d = apart_last (Some x.0) xs ys d.0 d.1

  pub apart_here : (at : Option ℕ) (xs : List (ℕ × T)) (y : ℕ × T) (ys : List (ℕ × T)) → Apart at (xs ++ y ∷ ys) → at ≢ Some y.0
  apart_here at [] y ys a = a.0
  apart_here at (x ∷ xs) y ys a = apart_here at xs y ys a.1

  -- a node is none of those before it
  pub apart_before : (xs : List (ℕ × T)) (y : ℕ × T) (ys : List (ℕ × T)) → Distinct (xs ++ y ∷ ys) → Apart (Some y.0) xs
  apart_before [] y ys d = tt
  apart_before (x ∷ xs) y ys d = ((λ h. apart_here (Some x.0) xs y ys d.0 (sym h)), apart_before xs y ys d.1)

  pub apart_first : (xs ys : List (ℕ × T)) → Distinct (xs ++ ys) → Apart (first_or ys None) xs
  apart_first xs [] d = apart_none xs
  apart_first xs (y ∷ ys) d = apart_before xs y ys d

  pub apart_drop : (at : Option ℕ) (xs : List (ℕ × T)) (y : ℕ × T) (ys : List (ℕ × T)) → Apart at (xs ++ y ∷ ys) → Apart at (xs ++ ys)
  apart_drop at [] y ys a = a.1
  apart_drop at (x ∷ xs) y ys a = (a.0, apart_drop at xs y ys a.1)

  pub apart_put : (at : Option ℕ) (xs : List (ℕ × T)) (y : ℕ × T) (ys : List (ℕ × T)) → at ≢ Some y.0 → Apart at (xs ++ ys)
      → Apart at (xs ++ y ∷ ys)
  apart_put at [] y ys n a = (n, a)
  apart_put at (x ∷ xs) y ys n a = (a.0, apart_put at xs y ys n a.1)

  pub distinct_drop : (xs : List (ℕ × T)) (y : ℕ × T) (ys : List (ℕ × T)) → Distinct (xs ++ y ∷ ys) → Distinct (xs ++ ys)
  distinct_drop [] y ys d = d.1
  distinct_drop (x ∷ xs) y ys d = (apart_drop (Some x.0) xs y ys d.0, distinct_drop xs y ys d.1)

  pub distinct_put : (xs : List (ℕ × T)) (y : ℕ × T) (ys : List (ℕ × T)) → Apart (Some y.0) (xs ++ ys) → Distinct (xs ++ ys)
      → Distinct (xs ++ y ∷ ys)
  distinct_put [] y ys a d = (a, d)
  distinct_put (x ∷ xs) y ys a d = (apart_put (Some x.0) xs y ys (λ h. a.0 (sym h)) d.0, distinct_put xs y ys a.1 d.1)

  -- ---- a node leaves a list, or comes into one
  pub nexts_out : (old new : Option ℕ → Option ℕ) (xs : List (ℕ × T)) (y : ℕ × T) (ys : List (ℕ × T)) → Distinct (xs ++ y ∷ ys)
      → Turned old new (last_or None xs) (first_or ys None) → Nexts old None (xs ++ y ∷ ys) None → Nexts new None (xs ++ ys) None
  nexts_out old new xs y ys d turned h =
      let parts = cut_next old None xs (y ∷ ys) None h in
      let behind = cut_next old (Some y.0) [] ys None parts.1 in
      let away = apart_last None xs (y ∷ ys) (apart_none (xs ++ y ∷ ys)) d in
      join_next new None xs ys None
      (aim_next old new None xs (Some y.0) (first_or ys None)
      (retain old new None xs (apart_none xs) (distinct_front xs (y ∷ ys) d) turned.others) turned.here parts.0)
      (frame_rest old new ys None (same_apart old new (last_or None xs) ys away.1 turned.others) behind.1)

  prevs_aimed : (old new : Option ℕ → Option ℕ) (from aim : Option ℕ) (ys : List (ℕ × T)) → Distinct ys
      → Turned old new (first_or ys None) aim → Prevs old from ys None → Prevs new aim ys None
  prevs_aimed old new from aim [] d turned h = turned.here
  prevs_aimed old new from aim (y ∷ ys) d turned h = (
    turned.here,
    frame_prev old new (Some y.0) ys None (same_apart old new (Some y.0) ys d.0 turned.others)
        (turned.others None (λ h. cc)) h.1,
  )

  pub prevs_out : (old new : Option ℕ → Option ℕ) (xs : List (ℕ × T)) (y : ℕ × T) (ys : List (ℕ × T)) → Distinct (xs ++ y ∷ ys)
      → Turned old new (first_or ys None) (last_or None xs) → Prevs old None (xs ++ y ∷ ys) None → Prevs new None (xs ++ ys) None
  prevs_out old new xs y ys d turned h =
      let parts = cut_prev old None xs (y ∷ ys) None h in
      let without = distinct_drop xs y ys d in
      join_prev new None xs ys None
      (frame_front old new None xs (same_apart old new (first_or ys None) xs (apart_first xs ys without) turned.others) parts.0)
      (prevs_aimed old new (Some y.0) (last_or None xs) ys (distinct_back xs ys without) turned parts.1.1)

  pub nexts_in : (old mid new : Option ℕ → Option ℕ) (xs : List (ℕ × T)) (y : ℕ × T) (ys : List (ℕ × T)) → Distinct (xs ++ y ∷ ys)
      → Turned old mid (last_or None xs) (Some y.0) → Turned mid new (Some y.0) (first_or ys None)
      → Nexts old None (xs ++ ys) None → Nexts new None (xs ++ y ∷ ys) None
  nexts_in old mid new xs y ys d first second h =
      let parts = cut_next old None xs ys None h in
      let away = apart_last None xs (y ∷ ys) (apart_none (xs ++ y ∷ ys)) d in
      let front = aim_next old mid None xs (first_or ys None) (Some y.0)
      (retain old mid None xs (apart_none xs) (distinct_front xs (y ∷ ys) d) first.others) first.here parts.0 in
      let back = frame_rest old mid ys None (same_apart old mid (last_or None xs) ys away.1 first.others) parts.1 in
      let apart : (place : Option ℕ) → place ≢ Some y.0 → new place ≡ mid place = second.others in
      join_next new None xs (y ∷ ys) None
      (aim_next mid new None xs (Some y.0) (Some y.0) (retains_all mid new None xs (apart_before xs y ys d) (λ h. cc) apart)
      (apart (last_or None xs) away.0 ∙ first.here) front)
      (join_next new (Some y.0) [] ys None second.here (frame_rest mid new ys None
      (same_apart mid new (Some y.0) ys (distinct_back xs (y ∷ ys) d).0 apart) back))
    where
      retains_all : (mid new : Option ℕ → Option ℕ) (from : Option ℕ) (xs : List (ℕ × T)) → Apart (Some y.0) xs → from ≢ Some y.0
          → ((place : Option ℕ) → place ≢ Some y.0 → new place ≡ mid place) → Retains mid new from xs
      retains_all mid new from [] a n same = tt
      retains_all mid new from (x ∷ xs) a n same = (same from n, retains_all mid new (Some x.0) xs a.1 (λ h. a.0 (sym h)) same)

  pub prevs_in : (old mid new : Option ℕ → Option ℕ) (xs : List (ℕ × T)) (y : ℕ × T) (ys : List (ℕ × T)) → Distinct (xs ++ y ∷ ys)
      → Turned old mid (Some y.0) (last_or None xs) → Turned mid new (first_or ys None) (Some y.0)
      → Prevs old None (xs ++ ys) None → Prevs new None (xs ++ y ∷ ys) None
  prevs_in old mid new xs y ys d first second h =
      let parts = cut_prev old None xs ys None h in
      let without = distinct_drop xs y ys d in
      let back : Distinct (y ∷ ys) = distinct_back xs (y ∷ ys) d in
      let front = frame_front old mid None xs (same_apart old mid (Some y.0) xs (apart_before xs y ys d) first.others) parts.0 in
      let behind = frame_prev old mid (last_or None xs) ys None (same_apart old mid (Some y.0) ys back.0 first.others)
      (first.others None (λ h. cc)) parts.1 in
      let away : Some y.0 ≢ first_or ys None = not_first (Some y.0) ys back.0 (λ h. cc) in
      join_prev new None xs (y ∷ ys) None
      (frame_front mid new None xs (same_apart mid new (first_or ys None) xs (apart_first xs ys without) second.others) front)
      (second.others (Some y.0) away ∙ first.here, prevs_aimed mid new (last_or None xs) (Some y.0) ys back.1 second behind)
    where
      not_first : (at : Option ℕ) (ys : List (ℕ × T)) → Apart at ys → at ≢ None → at ≢ first_or ys None
      not_first at [] a n = n
      not_first at (y ∷ ys) a n = a.0
