-- What is known of a valid function's operations.
use Rattle.std.proofs.Common.{◌≡◌, ℕ, zero, suc, ◌+◌, ◌<◌, ◌≤◌, inl, inr, Bool, true, List, [], ◌∷◌, length}
use Rattle.std.proofs.Common.{sym, ap, ◌∙◌, subst, arith, Option, Some, None, ltb-true}
use Rattle.std.specs.Prelude.{slice_get, Contains, nat_lt, ◌==◌}
use Rattle.std.specs.List.{list_all}
use Rattle.std.proofs.lemmas.Bool.{and_parts, cases_lt, true≢false}
use Rattle.std.proofs.lemmas.List.{length-map, length-take-le}
use Rattle.std.proofs.lemmas.Option.{same_Some, none-some, slice_get_within, slice_get-get_or}
use Rattle.prunum.specs.Width.{byte_count}
use Rattle.prunum.specs.declared.width.Width.{Width}
use Rattle.midcode.specs.declared.op.Op.{Op}
use Rattle.midcode.specs.declared.op.OpKind.{OpKind}
use Rattle.midcode.specs.declared.register.Label.{Label}
use Rattle.midcode.specs.declared.register.VReg.{VReg}
use Rattle.midcode.specs.declared.signature.Signature.{Signature}
use Rattle.midcode.specs.Operation.{reads, writes, target_of, parameters}
use Rattle.midcode.specs.Function.{Function, IsValidFunction, kinds, fits, has, each_of, same_widths}
use Rattle.midcode.proofs.Valid.{parts-of}
use Rattle.subreg.specs.Span.{MentionedAt, Holds, IsSpan}
use Rattle.livespan.specs.Live.{AreNamed, HaveTargets}
use Rattle.livespan.proofs.Crossing.{mentioned-in}

all-at : {X : Type 0} (p : X → Bool) (xs : List X) (n : ℕ) (x : X) → list_all p xs ≡ true → slice_get xs n ≡ Some x → p x ≡ true
all-at p [] n x all at = absurd (none-some x at)
all-at p (y ∷ ys) zero x all at = ap p (sym (same_Some y x at)) ∙ (and_parts (p y) (list_all p ys) all).0
all-at p (y ∷ ys) (suc n) x all at = all-at p ys n x (and_parts (p y) (list_all p ys) all).1 at

all-contained : (p : VReg → Bool) (vs : List VReg) (v : VReg) → list_all p vs ≡ true → Contains vs v → p v ≡ true
all-contained p vs v all h =
    all-at p vs h.0 v all (slice_get-get_or vs h.0 v h.1 ∙ ap Some h.2)

each-at : {X : Type 0} (p : X → Bool) (o : Option X) (x : X) → each_of p o ≡ true → o ≡ Some x → p x ≡ true
each-at p None x all is = absurd (none-some x is)
each-at p (Some y) x all is = ap p (sym (same_Some y x is)) ∙ all

pub valid-named : (f : Function) → IsValidFunction f → AreNamed (kinds f) (length f.registers)
valid-named f valid place k v stands mentions =
    let parts = parts-of f.registers f.labels k (all-at (fits f.registers f.labels) (kinds f) place k valid.fit stands) in
    elim mentions [
      | inl read ↦ ltb-true v.0 (length f.registers) (all-contained (has f.registers) (reads k) v parts.reads_own read)
      | inr written ↦ ltb-true v.0 (length f.registers) (each-at (has f.registers) (writes k) v parts.writes_own written)
    ]

pub valid-targets : (f : Function) → IsValidFunction f → HaveTargets (kinds f) f.labels
valid-targets f valid place k l stands target =
    let parts = parts-of f.registers f.labels k (all-at (fits f.registers f.labels) (kinds f) place k valid.fit stands) in
    ltb-true l.0 f.labels (each-at (λ (m : Label). nat_lt m.0 f.labels) (target_of k) l parts.target target)

widths-fit : (ws vs : List Width) → same_widths ws vs ≡ true → length ws ≤ length vs
widths-fit [] vs same = omega arith
widths-fit (w ∷ ws) [] same = absurd (true≢false (sym same))
widths-fit (w ∷ ws) (v ∷ vs) same =
    let rest = widths-fit ws vs (and_parts (byte_count w == byte_count v) (same_widths ws vs) same).1 in
    omega (arith, rest)

pub valid-parameters : (f : Function) → IsValidFunction f → length (parameters f.signature) ≤ length f.registers
valid-parameters f valid = widths-fit (parameters f.signature) f.registers valid.parameters

pub valid-few : (f : Function) → IsValidFunction f → length (kinds f) < 1048577
valid-few f valid =
    let e : length (kinds f) ≡ length f.nodes = length-map f.nodes (λ (n : ℕ × Op). n.1.kind) in
    omega (arith, e, valid.few)

pub mentioned-named : (f : Function) → IsValidFunction f → (place : ℕ) (v : VReg) → MentionedAt f place v → v.0 < length f.registers
mentioned-named f valid place v mentioned =
    elim mentioned [
      | inl by ↦
          elim by [
            | inl read ↦ valid-named f valid place read.kind v read.stands (inl read.read)
            | inr written ↦ valid-named f valid place written.kind v written.stands (inr written.written)
          ]
      | inr param ↦ omega (arith, param.1, valid-parameters f valid)
    ]

-- ---- spans

pub no-span : (f : Function) (v : VReg) (from to : ℕ) → ((place : ℕ) → MentionedAt f place v → ⊥) → IsSpan f v from to → ⊥
no-span f v from to none is =
    let any : Holds f v (from + 1) to = record {
      mentions = λ place mentioned. absurd (none place mentioned);
      loops = λ first last crosses. let at = mentioned-in f v first last crosses in absurd (none at.0 at.2);
    } in
    omega (arith, (is.least (from + 1) to any).0)

pub span-forward : (f : Function) (v : VReg) (from to : ℕ) → IsSpan f v from to → from ≤ to
span-forward f v from to is =
    elim (cases_lt to from) [
      | inl less ↦
          absurd (no-span f v from to
          (λ place mentioned. let w = is.holds.mentions place mentioned in omega (arith, w.0, w.1, less)) is)
      | inr more ↦ more
    ]

pub span-named : (f : Function) (v : VReg) (from to : ℕ) → IsValidFunction f → IsSpan f v from to → v.0 < length f.registers
span-named f v from to valid is =
    elim (cases_lt v.0 (length f.registers)) [
      | inl less ↦ less
      | inr more ↦
          absurd (no-span f v from to
          (λ place mentioned. omega (arith, mentioned-named f valid place v mentioned, more)) is)
    ]

mentioned-small : (f : Function) → IsValidFunction f → (place : ℕ) (v : VReg) → MentionedAt f place v → place ≤ 1048575
mentioned-small f valid place v mentioned =
    elim mentioned [
      | inl by ↦
          elim by [
            | inl read ↦ omega (arith, slice_get_within (kinds f) place read.kind read.stands, valid-few f valid)
            | inr written ↦ omega (arith, slice_get_within (kinds f) place written.kind written.stands, valid-few f valid)
          ]
      | inr param ↦ omega (arith, param.0)
    ]

pub span-small : (f : Function) (v : VReg) (from to : ℕ) → IsValidFunction f → IsSpan f v from to → to < 1048576
span-small f v from to valid is =
    let wide : Holds f v 0 1048575 = record {
      mentions = λ place mentioned. (omega arith, mentioned-small f valid place v mentioned);
      loops = λ first last crosses.
          (omega arith, omega (arith, slice_get_within (kinds f) last crosses.loop.kind crosses.loop.stands, valid-few f valid));
    } in
    omega (arith, (is.least 0 1048575 wide).1)

-- ---- for operations and numbers that are those of the function

pub targets-in : (f : Function) (ks : List OpKind) (labels : ℕ) → IsValidFunction f → ks ≡ kinds f → labels ≡ f.labels
    → HaveTargets ks labels
targets-in f ks labels valid same number =
    let P : List OpKind → Type 0 = λ js. HaveTargets js f.labels in
    let Q : ℕ → Type 0 = λ n. HaveTargets ks n in
    subst Q (sym number) (subst P (sym same) (valid-targets f valid))

pub named-in : (f : Function) (ks : List OpKind) (registers : ℕ) → IsValidFunction f → ks ≡ kinds f → registers ≡ length f.registers
    → AreNamed ks registers
named-in f ks registers valid same number =
    let P : List OpKind → Type 0 = λ js. AreNamed js (length f.registers) in
    let Q : ℕ → Type 0 = λ n. AreNamed ks n in
    subst Q (sym number) (subst P (sym same) (valid-named f valid))

pub count-is : (s t : Signature) → s ≡ t → s.count ≤ length s.params → s.count ≡ length (parameters t)
count-is s t same all =
    let P : Signature → Type 0 = λ x. s.count ≡ length (parameters x) in
    subst P same (sym (length-take-le s.count s.params all))
