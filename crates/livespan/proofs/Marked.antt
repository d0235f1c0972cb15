-- Marks on the operations of a loop.
use Rattle.std.proofs.Common.{◌≡◌, ◌≢◌, ℕ, zero, suc, ◌+◌, ◌-◌, ◌<◌, ◌≤◌, inl, inr, Bool, true, false, List, [], ◌∷◌, length, get_or, refl}
use Rattle.std.proofs.Common.{sym, ap, ◌∙◌, subst, arith, Option, Some, replicate}
use Rattle.std.specs.Prelude.{slice_get, slice_set, IsTrue}
use Rattle.std.specs.Bool.{OnFalse}
use Rattle.std.proofs.lemmas.Bool.{cases_eq, true≢false, OnFalse_from, OnFalse_at}
use Rattle.std.proofs.lemmas.List.{get_or-set_other}
use Rattle.std.proofs.lemmas.Option.{same_Some}
use Rattle.midcode.specs.declared.register.VReg.{VReg}
use Rattle.midcode.specs.declared.op.OpKind.{OpKind}
use Rattle.subreg.specs.Span.{Stands, Within, MayBeRead, here, onwards, is_onward}
use Rattle.livespan.specs.Live.{AreGoals}
use Rattle.livespan.specs.Marks.{IsMarked, LeadsOn, IsWanted, AreSound, AreClosedFrom, MarksMore, unmarked}
use Rattle.livespan.proofs.Goes.{follows-cases}

-- ---- a mark that leads on

pub leads-goal : (ks : List OpKind) (goals : List (Option ℕ)) (first last : ℕ) (marks : List Bool) (place : ℕ) (k : OpKind) (o : Option ℕ)
    → AreGoals ks goals → Stands ks place k → slice_get goals place ≡ Some o
    → (IsTrue (is_onward k) → IsMarked first last marks (place + 1) → ⊥) → LeadsOn ks first last marks place
    → (g : ℕ) × (o ≡ Some g) × IsMarked first last marks g
leads-goal ks goals first last marks place k o are stands at none leads =
    elim (follows-cases ks place leads.behind leads.follows goals k are stands) [
      | inl next ↦
          let P : ℕ → Type 0 = λ n. IsMarked first last marks n in
          absurd (none next.0 (subst P next.1 leads.marked))
      | inr goal ↦ (leads.behind, same_Some o (Some leads.behind) (sym at ∙ goal), leads.marked)
    ]

-- ---- how many are not marked

pub unmarked-none : (marks : List Bool) (n : ℕ) → n < length marks → get_or marks n false ≡ false
    → unmarked (slice_set marks n true) < unmarked marks
unmarked-none [] n below at = absurd (omega (arith, below))
unmarked-none (true ∷ marks) zero below at = absurd (true≢false at)
unmarked-none (false ∷ marks) zero below at = omega arith
unmarked-none (true ∷ marks) (suc n) below at = unmarked-none marks n (omega (arith, below)) at
unmarked-none (false ∷ marks) (suc n) below at =
    let less = unmarked-none marks n (omega (arith, below)) at in
    omega (arith, less)

-- ---- one more mark

pub mark-one : (ks : List OpKind) (first last : ℕ) (v : VReg) (marks : List Bool) (place n : ℕ) → n ≡ place - first → n < length marks
    → Within first last place → IsWanted ks first last v marks place → AreSound ks first last v marks
    → AreSound ks first last v (slice_set marks n true)
mark-one ks first last v marks place n is below within wanted sound other marked =
    elim (cases_eq other place) [
      | inl same ↦
          let P : ℕ → Type 0 = λ p. MayBeRead ks first last v p in
          subst P (sym same)
          (elim wanted [
            | inl read ↦ here place within read
            | inr leads ↦
                onwards place leads.1.behind within leads.0 leads.1.follows (sound leads.1.behind leads.1.marked)
          ])
      | inr apart ↦
          let w = marked.within in
          let far : other - first ≢ n = λ e. apart (omega (arith, e, is, w.0, within.0)) in
          sound other (record {
            within = w;
            marked = sym (get_or-set_other marks n (other - first) true false far) ∙ marked.marked;
          })
    ]

-- ---- marks that are closed

pub closed-read : (ks : List OpKind) (first last : ℕ) (v : VReg) (marks : List Bool) → AreClosedFrom ks first last v first marks
    → (place : ℕ) → MayBeRead ks first last v place → IsMarked first last marks place
closed-read ks first last v marks closed place (here p within read) = closed p within.0 within.1 (inl read)
closed-read ks first last v marks closed place (onwards p behind within unwritten follows more) =
    closed p within.0 within.1
    (inr (unwritten, record { behind = behind; follows = follows; marked = closed-read ks first last v marks closed behind more }))

get-none : (n k : ℕ) → get_or (replicate n false) k false ≡ false
get-none zero k = refl
get-none (suc n) zero = refl
get-none (suc n) (suc k) = get-none n k

pub none-marked : (ks : List OpKind) (first last : ℕ) (v : VReg) (n : ℕ) → AreSound ks first last v (replicate n false)
none-marked ks first last v n place marked = absurd (true≢false (sym marked.marked ∙ get-none n (place - first)))

-- from the last place on down to one more
pub closed-more : (ks : List OpKind) (first last : ℕ) (v : VReg) (marks : List Bool) (place : ℕ)
    → AreClosedFrom ks first last v (place + 1) marks → (IsWanted ks first last v marks place → IsMarked first last marks place)
    → AreClosedFrom ks first last v place marks
closed-more ks first last v marks place closed one other from to wanted =
    elim (cases_eq other place) [
      | inl same ↦
          let P : ℕ → Type 0 = λ p. IsWanted ks first last v marks p in
          let Q : ℕ → Type 0 = λ p. IsMarked first last marks p in
          subst Q (sym same) (one (subst P same wanted))
      | inr apart ↦ closed other (omega (arith, from, apart)) to wanted
    ]

pub more-more : (a b : Bool) (first old new : List Bool) → MarksMore false a first old → MarksMore a b old new → MarksMore false b first new
more-more true true first old new was is =
    elim was [
      | inl fewer ↦
          elim is [
            | inl less ↦ inl (omega (arith, fewer, less))
            | inr same ↦ inl (omega (arith, fewer, ap unmarked same.1))
          ]
      | inr no_more ↦ absurd (true≢false (sym no_more.0))
    ]
more-more true false first old new was is = absurd (true≢false is.0)
more-more false true first old new was is =
    elim is [
      | inl less ↦ inl (omega (arith, less, ap unmarked was.1))
      | inr same ↦ absurd (true≢false (sym same.0))
    ]
more-more false false first old new was is = (refl, is.1 ∙ was.1)

-- ---- sweeps

pub closed-first : (ks : List OpKind) (first last : ℕ) (v : VReg) (marks : List Bool) → AreClosedFrom ks first last v (last + 1) marks
closed-first ks first last v marks place from to wanted = absurd (omega (arith, from, to))

pub closed-step : (ks : List OpKind) (first last : ℕ) (v : VReg) (before after : Bool) (old new : List Bool) (p q : ℕ) → q + 1 ≡ p
    → MarksMore before after old new → OnFalse before (AreClosedFrom ks first last v p old)
    → OnFalse after (IsWanted ks first last v new q → IsMarked first last new q) → OnFalse after (AreClosedFrom ks first last v q new)
closed-step ks first last v before true old new p q next more closed one = OnFalse_from true (AreClosedFrom ks first last v q new)
    (λ e. absurd (true≢false e))
closed-step ks first last v before false old new p q next more closed one =
    OnFalse_from false (AreClosedFrom ks first last v q new)
    (λ e.
    let P : List Bool → Type 0 = λ ms. AreClosedFrom ks first last v (q + 1) ms in
    let Q : ℕ → Type 0 = λ n. AreClosedFrom ks first last v n old in
    closed-more ks first last v new q (subst P (sym more.1) (subst Q (sym next) (OnFalse_at more.0 closed))) (OnFalse_at refl one))

pub closed-end : (ks : List OpKind) (first last : ℕ) (v : VReg) (changed : Bool) (marks : List Bool) (p : ℕ) → p ≤ first
    → OnFalse changed (AreClosedFrom ks first last v p marks) → OnFalse changed (AreClosedFrom ks first last v first marks)
closed-end ks first last v changed marks p early closed =
    OnFalse_from changed (AreClosedFrom ks first last v first marks)
    (λ e place from to. OnFalse_at e closed place (omega (arith, from, early)) to)
