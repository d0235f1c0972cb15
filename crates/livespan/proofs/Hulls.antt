-- Hulls, mention by mention.
use Rattle.std.proofs.Common.{◌≡◌, ◌≢◌, ℕ, zero, suc, replicate, ◌+◌, ◌<◌, ◌≤◌, ◌⊎◌, inl, inr, List, [], ◌∷◌, ◌++◌, length, get_or, take}
use Rattle.std.proofs.Common.{refl, sym, ap, ◌∙◌}
use Rattle.std.proofs.Common.{subst, arith, Option, Some, None}
use Rattle.std.specs.Prelude.{slice_get, slice_set, Contains}
use Rattle.std.proofs.lemmas.Bool.{cases_eq, cases_lt}
use Rattle.std.proofs.lemmas.Option.{same_Some, none-some, slice_get-get_or, slice_get_within}
use Rattle.std.proofs.lemmas.List.{take_more}
use Rattle.std.proofs.lemmas.List.Elements.{Contains-append_left, Contains-push, Contains-push_cases}
use Rattle.midcode.specs.declared.register.VReg.{VReg}
use Rattle.midcode.specs.declared.op.OpKind.{OpKind}
use Rattle.midcode.specs.Operation.{reads, writes, parameters}
use Rattle.midcode.specs.Function.{Function, kinds}
use Rattle.subreg.specs.Span.{Stands, ReadsAt, WritesAt, MentionedAt}
use Rattle.subreg.proofs.Elements.{get-set_same, get-set_other}
use Rattle.livespan.specs.declared.area.Area.{Area}
use Rattle.livespan.specs.Live.{Known, up_to, with_mention, with_written, IsHull, AreHulls}

pub same_register : (v w : VReg) → v.0 ≡ w.0 → v ≡ w
same_register v w e = let make : ℕ → VReg = λ n. record { 0 = n } in ap make e

-- ---- one more mention

-- N has the mentions of M, none of which is behind a place, and one at that place.
pub record Adds (M N : ℕ → VReg → Type 0) (w : VReg) (place : ℕ) : Type 0 where
  pub before : (p : ℕ) (v : VReg) → M p v → p ≤ place
  pub kept : (p : ℕ) (v : VReg) → M p v → N p v
  pub one : N place w
  pub only : (p : ℕ) (v : VReg) → N p v → M p v ⊎ ((p ≡ place) × (v.0 ≡ w.0))

hull-kept : (M N : ℕ → VReg → Type 0) (w : VReg) (place : ℕ) → Adds M N w place → (v : VReg) (a : Area) → v.0 ≢ w.0 → IsHull M v a
    → IsHull N v a
hull-kept M N w place adds v a other hull = record {
  first = adds.kept a.first v hull.first;
  last = adds.kept a.last v hull.last;
  all = λ p mentioned.
      elim (adds.only p v mentioned) [
        | inl old ↦ hull.all p old
        | inr new ↦ absurd (other new.1)
      ];
}

hull-longer : (M N : ℕ → VReg → Type 0) (w : VReg) (place : ℕ) → Adds M N w place → (a : Area) → IsHull M w a
    → IsHull N w (up_to (Some a) place)
hull-longer M N w place adds a hull = record {
  first = adds.kept a.first w hull.first;
  last = adds.one;
  all = λ p mentioned.
      elim (adds.only p w mentioned) [
        | inl old ↦ ((hull.all p old).0, adds.before p w old)
        | inr new ↦ (omega (arith, adds.before a.first w hull.first, new.0), omega (arith, new.0))
      ];
}

hull-new : (M N : ℕ → VReg → Type 0) (w : VReg) (place : ℕ) → Adds M N w place → ((p : ℕ) → M p w → ⊥) → IsHull N w (up_to None place)
hull-new M N w place adds none = record {
  first = adds.one;
  last = adds.one;
  all = λ p mentioned.
      elim (adds.only p w mentioned) [
        | inl old ↦ absurd (none p old)
        | inr new ↦ (omega (arith, new.0), omega (arith, new.0))
      ];
}

hull-own : (M N : ℕ → VReg → Type 0) (w : VReg) (place : ℕ) → Adds M N w place → (hulls : List (Option Area)) → AreHulls M hulls
    → (o : Option Area) → slice_get hulls w.0 ≡ Some o → IsHull N w (up_to o place)
hull-own M N w place adds hulls are None at = hull-new M N w place adds (λ p. are.none w p at)
hull-own M N w place adds hulls are (Some a) at = hull-longer M N w place adds a (are.hull w a at)

get-own : (hulls : List (Option Area)) (v w : VReg) (o : Option Area) → w.0 < length hulls → v.0 ≡ w.0
    → slice_get (slice_set hulls w.0 o) v.0 ≡ Some o
get-own hulls v w o within same = ap (slice_get (slice_set hulls w.0 o)) same ∙ get-set_same hulls w.0 o within

pub hulls-add : (M N : ℕ → VReg → Type 0) (w : VReg) (place : ℕ) → Adds M N w place → (hulls : List (Option Area)) → w.0 < length hulls
    → AreHulls M hulls → AreHulls N (with_mention hulls w place)
hulls-add M N w place adds hulls within are =
    let o : Option Area = get_or hulls w.0 None in
    let new : Option Area = Some (up_to o place) in
    record {
      hull = λ v a at.
          elim (cases_eq v.0 w.0) [
            | inl same ↦
                let here : Some new ≡ Some (Some a) = sym (get-own hulls v w new within same) ∙ at in
                let area : up_to o place ≡ a = same_Some (up_to o place) a (same_Some new (Some a) here) in
                let own : IsHull N w (up_to o place) =
                hull-own M N w place adds hulls are o (slice_get-get_or hulls w.0 None within) in
                let P : VReg → Type 0 = λ x. IsHull N x (up_to o place) in
                let Q : Area → Type 0 = λ x. IsHull N v x in
                subst Q area (subst P (sym (same_register v w same)) own)
            | inr other ↦
                hull-kept M N w place adds v a other (are.hull v a (sym (get-set_other hulls w.0 v.0 new other) ∙ at))
          ];
      none = λ v p at mentioned.
          elim (cases_eq v.0 w.0) [
            | inl same ↦
                absurd (none-some (up_to o place)
                (sym (same_Some new None (sym (get-own hulls v w new within same) ∙ at))))
            | inr other ↦
                elim (adds.only p v mentioned) [
                  | inl old ↦ are.none v p (sym (get-set_other hulls w.0 v.0 new other) ∙ at) old
                  | inr last ↦ absurd (other last.1)
                ]
          ];
    }

pub hulls-same : (M N : ℕ → VReg → Type 0) → ((p : ℕ) (v : VReg) → M p v → N p v) → ((p : ℕ) (v : VReg) → N p v → M p v)
    → (hulls : List (Option Area)) → AreHulls M hulls → AreHulls N hulls
hulls-same M N to from hulls are = record {
  hull = λ v a at.
      let h = are.hull v a at in
      record {
        first = to a.first v h.first;
        last = to a.last v h.last;
        all = λ p mentioned. h.all p (from p v mentioned);
      };
  none = λ v p at mentioned. are.none v p at (from p v mentioned);
}

-- ---- the registers that an operation reads

-- these registers are mentioned at a place too
abbrev pub With : (ℕ → VReg → Type 0) → ℕ → List VReg → ℕ → VReg → Type 0
With M place vs p v = M p v ⊎ ((p ≡ place) × Contains vs v)

none-within : (v : VReg) → Contains [] v → ⊥
none-within v h = omega (arith, h.1)

pub with-none : (M : ℕ → VReg → Type 0) (place : ℕ) (hulls : List (Option Area)) → AreHulls M hulls → AreHulls (With M place []) hulls
with-none M place hulls are =
    hulls-same M (With M place []) (λ p v m. inl m)
    (λ p v m.
    elim m [
      | inl old ↦ old
      | inr new ↦ absurd (none-within v new.1)
    ]) hulls are

with-adds : (M : ℕ → VReg → Type 0) (place : ℕ) (vs : List VReg) (w : VReg) → ((p : ℕ) (v : VReg) → M p v → p ≤ place)
    → Adds (With M place vs) (With M place (vs ++ w ∷ [])) w place
with-adds M place vs w before = record {
  before = λ p v m.
      elim m [
        | inl old ↦ before p v old
        | inr new ↦ omega (arith, new.0)
      ];
  kept = λ p v m.
      elim m [
        | inl old ↦ inl old
        | inr new ↦ inr (new.0, Contains-append_left vs (w ∷ []) v new.1)
      ];
  one = inr (refl, Contains-push vs w);
  only = λ p v m.
      elim m [
        | inl old ↦ inl (inl old)
        | inr new ↦
            elim (Contains-push_cases vs w v new.1) [
              | inl old ↦ inl (inr (new.0, old))
              | inr last ↦ let number : VReg → ℕ = λ x. x.0 in inr (new.0, ap number (sym last))
            ]
      ];
}

abbrev no_register : VReg
no_register = record { 0 = 0 }

pub with-more : (M : ℕ → VReg → Type 0) (place : ℕ) (vs : List VReg) (i : ℕ) (hulls : List (Option Area)) → i < length vs
    → ((p : ℕ) (v : VReg) → M p v → p ≤ place) → (get_or vs i no_register).0 < length hulls → AreHulls (With M place (take i vs)) hulls
    → AreHulls (With M place (take (i + 1) vs)) (with_mention hulls (get_or vs i no_register) place)
with-more M place vs i hulls within before below are =
    let w : VReg = get_or vs i no_register in
    let P : List VReg → Type 0 = λ xs. AreHulls (With M place xs) (with_mention hulls w place) in
    subst P (sym (take_more vs i no_register within))
    (hulls-add (With M place (take i vs)) (With M place (take i vs ++ w ∷ [])) w place (with-adds M place (take i vs) w before) hulls below
    are)

-- ---- an operation

pub known-before : (ks : List OpKind) (params place p : ℕ) (v : VReg) → Known ks params place p v → p ≤ place
known-before ks params place p v (inl param) = omega (arith, param.0)
known-before ks params place p v (inr old) = omega (arith, old.0)

read-at : (ks : List OpKind) (place p : ℕ) (k : OpKind) (v : VReg) → Stands ks place k → p ≡ place → Contains (reads k) v → ReadsAt ks p v
read-at ks place p k v stands same read = record { kind = k; stands = ap (slice_get ks) same ∙ stands; read = read }

same-kind : (ks : List OpKind) (place p : ℕ) (k j : OpKind) → Stands ks place k → Stands ks p j → p ≡ place → j ≡ k
same-kind ks place p k j here there same = same_Some j k (sym there ∙ ap (slice_get ks) same ∙ here)

read-of : (ks : List OpKind) (place p : ℕ) (k : OpKind) (v : VReg) → Stands ks place k → p ≡ place → ReadsAt ks p v → Contains (reads k) v
read-of ks place p k v stands same read =
    let P : OpKind → Type 0 = λ j. Contains (reads j) v in
    subst P (same-kind ks place p k read.kind stands read.stands same) read.read

written-of : (ks : List OpKind) (place p : ℕ) (k : OpKind) (v : VReg) → Stands ks place k → p ≡ place → WritesAt ks p v
    → writes k ≡ Some v
written-of ks place p k v stands same written =
    ap writes (sym (same-kind ks place p k written.kind stands written.stands same)) ∙ written.written

-- with what is written there, whichever it is
known-written : (ks : List OpKind) (params place : ℕ) (k : OpKind) (hulls : List (Option Area)) (o : Option VReg) → Stands ks place k
    → writes k ≡ o → ((v : VReg) → o ≡ Some v → v.0 < length hulls) → AreHulls (With (Known ks params place) place (reads k)) hulls
    → AreHulls (Known ks params (place + 1)) (with_written hulls o place)
known-written ks params place k hulls None stands is named are =
    hulls-same (With (Known ks params place) place (reads k)) (Known ks params (place + 1))
    (λ p v m.
    elim m [
      | inl old ↦
          elim old [
            | inl param ↦ inl param
            | inr by ↦ inr (omega (arith, by.0), by.1)
          ]
      | inr new ↦ inr (omega (arith, new.0), inl (read-at ks place p k v stands new.0 new.1))
    ])
    (λ p v m.
    elim m [
      | inl param ↦ inl (inl param)
      | inr by ↦
          elim (cases_eq p place) [
            | inl same ↦
                elim by.1 [
                  | inl read ↦ inr (same, read-of ks place p k v stands same read)
                  | inr written ↦ absurd (none-some v (sym is ∙ written-of ks place p k v stands same written))
                ]
            | inr other ↦ inl (inr (omega (arith, by.0, other), by.1))
          ]
    ]) hulls are
known-written ks params place k hulls (Some w) stands is named are =
    hulls-add (With (Known ks params place) place (reads k)) (Known ks params (place + 1)) w place
    (record {
      before = λ p v m.
          elim m [
            | inl old ↦ known-before ks params place p v old
            | inr new ↦ omega (arith, new.0)
          ];
      kept = λ p v m.
          elim m [
            | inl old ↦
                elim old [
                  | inl param ↦ inl param
                  | inr by ↦ inr (omega (arith, by.0), by.1)
                ]
            | inr new ↦ inr (omega (arith, new.0), inl (read-at ks place p k v stands new.0 new.1))
          ];
      one = inr (omega arith, inr (record { kind = k; stands = stands; written = is }));
      only = λ p v m.
          elim m [
            | inl param ↦ inl (inl (inl param))
            | inr by ↦
                elim (cases_eq p place) [
                  | inl same ↦
                      elim by.1 [
                        | inl read ↦ inl (inr (same, read-of ks place p k v stands same read))
                        | inr written ↦
                            let number : VReg → ℕ = λ x. x.0 in
                            inr (
                              same,
                              ap number (same_Some v w (sym (written-of ks place p k v stands same written) ∙ is)),
                            )
                      ]
                  | inr other ↦ inl (inl (inr (omega (arith, by.0, other), by.1)))
                ]
          ];
    }) hulls (named w refl) are

pub known-next : (ks : List OpKind) (params place : ℕ) (k : OpKind) (hulls : List (Option Area)) → Stands ks place k
    → ((v : VReg) → writes k ≡ Some v → v.0 < length hulls) → AreHulls (With (Known ks params place) place (reads k)) hulls
    → AreHulls (Known ks params (place + 1)) (with_written hulls (writes k) place)
known-next ks params place k hulls stands named are = known-written ks params place k hulls (writes k) stands refl named are

-- ---- parameters

pub no-parameters : (ks : List OpKind) (hulls : List (Option Area))
    → ((v : VReg) (o : Option Area) → slice_get hulls v.0 ≡ Some o → o ≡ None) → AreHulls (Known ks 0 0) hulls
no-parameters ks hulls empty = record {
  hull = λ v a at. absurd (none-some a (sym (empty v (Some a) at)));
  none = λ v p at mentioned.
      elim mentioned [
        | inl param ↦ omega (arith, param.1)
        | inr by ↦ omega (arith, by.0)
      ];
}

pub parameter-more : (ks : List OpKind) (i : ℕ) (hulls : List (Option Area)) (w : VReg) → w.0 ≡ i → i < length hulls
    → AreHulls (Known ks i 0) hulls → AreHulls (Known ks (i + 1) 0) (with_mention hulls w 0)
parameter-more ks i hulls w is within are =
    hulls-add (Known ks i 0) (Known ks (i + 1) 0) w 0
    (record {
      before = λ p v m. known-before ks i 0 p v m;
      kept = λ p v m.
          elim m [
            | inl param ↦ inl (param.0, omega (arith, param.1))
            | inr by ↦ inr by
          ];
      one = inl (refl, omega (arith, is));
      only = λ p v m.
          elim m [
            | inl param ↦
                elim (cases_lt v.0 i) [
                  | inl old ↦ inl (inl (param.0, old))
                  | inr new ↦ inr (param.0, omega (arith, new, param.1, is))
                ]
            | inr by ↦ inl (inr by)
          ];
    }) hulls (omega (arith, is, within)) are

-- ---- all operations

pub known-mentioned : (f : Function) (params : ℕ) → params ≡ length (parameters f.signature) → (hulls : List (Option Area))
    → AreHulls (Known (kinds f) params (length (kinds f))) hulls → AreHulls (MentionedAt f) hulls
known-mentioned f params count hulls are =
    hulls-same (Known (kinds f) params (length (kinds f))) (MentionedAt f)
    (λ p v m.
    elim m [
      | inl param ↦ inr (param.0, omega (arith, param.1, count))
      | inr by ↦ inl by.1
    ])
    (λ p v m.
    elim m [
      | inl by ↦
          elim by [
            | inl read ↦ inr (slice_get_within (kinds f) p read.kind read.stands, inl read)
            | inr written ↦ inr (slice_get_within (kinds f) p written.kind written.stands, inr written)
          ]
      | inr param ↦ inl (param.0, omega (arith, param.1, count))
    ]) hulls are

replicated : (n k : ℕ) (o : Option Area) → slice_get (replicate n None) k ≡ Some o → o ≡ None
replicated zero k o at = absurd (none-some o at)
replicated (suc n) zero o at = sym (same_Some None o at)
replicated (suc n) (suc k) o at = replicated n k o at

pub none-replicated : (n : ℕ) (v : VReg) (o : Option Area) → slice_get (replicate n None) v.0 ≡ Some o → o ≡ None
none-replicated n v o at = replicated n v.0 o at

pub known-in : (f : Function) (ks : List OpKind) (params : ℕ) → ks ≡ kinds f → params ≡ length (parameters f.signature)
    → (hulls : List (Option Area)) → AreHulls (Known ks params (length ks)) hulls → AreHulls (MentionedAt f) hulls
known-in f ks params same count hulls are =
    let P : List OpKind → Type 0 = λ js. AreHulls (Known js params (length js)) hulls in
    known-mentioned f params count hulls (subst P same are)
