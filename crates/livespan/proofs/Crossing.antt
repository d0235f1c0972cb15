-- Which loops a span crosses.
use Rattle.std.proofs.Common.{◌≡◌, ◌≢◌, ℕ, ◌<◌, ◌≤◌, ◌⊎◌, inl, inr, List, length, sym, subst, arith}
use Rattle.std.specs.Prelude.{Option}
use Rattle.std.proofs.lemmas.Bool.{cases_lt}
use Rattle.midcode.specs.declared.register.VReg.{VReg}
use Rattle.midcode.specs.declared.op.OpKind.{OpKind}
use Rattle.midcode.specs.Meaning.{standing_at}
use Rattle.midcode.specs.Function.{Function, kinds}
use Rattle.subreg.specs.Span.{Within, ReadsAt, WritesAt, MentionedAt, Follows, next, goes, MayBeRead, here, onwards, Crosses}
use Rattle.livespan.specs.declared.area.Area.{Area}
use Rattle.livespan.specs.Live.{IsHull, IsStraight, AreGoals, GoesBack}
use Rattle.livespan.proofs.Goes.{loop-is, standing-stands}

-- somewhere in the loop it is read
pub record IsReadIn (ks : List OpKind) (first last : ℕ) (v : VReg) : Type 0 where
  pub place : ℕ
  pub within : Within first last place
  pub read : ReadsAt ks place v

read-in : (ks : List OpKind) (first last : ℕ) (v : VReg) (place : ℕ) → MayBeRead ks first last v place → IsReadIn ks first last v
read-in ks first last v place (here p within read) = record { place = p; within = within; read = read }
read-in ks first last v place (onwards p behind within unwritten follows more) = read-in ks first last v behind more

-- a span crosses a loop where its register is mentioned, or the loop is around its mentions
pub mentioned-in : (f : Function) (v : VReg) (first last : ℕ) → Crosses f v first last
    → (place : ℕ) × Within first last place × MentionedAt f place v
mentioned-in f v first last crosses =
    elim crosses.why [
      | inl both ↦ (both.0, both.4, both.2)
      | inr read ↦
          let at = read-in (kinds f) first last v first read in
          (at.place, at.within, inl (inl at.read))
    ]

-- ---- loops that have one end of the hull, or none

pub crosses-first : (f : Function) (v : VReg) (hull turn : Area) (goals : List (Option ℕ)) → AreGoals (kinds f) goals → GoesBack goals turn
    → IsHull (MentionedAt f) v hull → Within turn.first turn.last hull.first → (Within turn.first turn.last hull.last → ⊥)
    → Crosses f v turn.first turn.last
crosses-first f v hull turn goals are goes_back is inside outside = record {
  loop = loop-is (kinds f) goals turn are goes_back;
  why = inl (hull.first, hull.last, is.first, is.last, inside, outside);
}

pub crosses-last : (f : Function) (v : VReg) (hull turn : Area) (goals : List (Option ℕ)) → AreGoals (kinds f) goals → GoesBack goals turn
    → IsHull (MentionedAt f) v hull → Within turn.first turn.last hull.last → (Within turn.first turn.last hull.first → ⊥)
    → Crosses f v turn.first turn.last
crosses-last f v hull turn goals are goes_back is inside outside = record {
  loop = loop-is (kinds f) goals turn are goes_back;
  why = inl (hull.last, hull.first, is.last, is.first, inside, outside);
}

pub crosses-inside : (f : Function) (v : VReg) (hull turn : Area) → IsHull (MentionedAt f) v hull
    → (Within turn.first turn.last hull.first → ⊥) → (Within turn.first turn.last hull.last → ⊥) → Crosses f v turn.first turn.last
    → (hull.first ≤ turn.first) × (turn.last ≤ hull.last)
crosses-inside f v hull turn is no_first no_last crosses =
    let at = mentioned-in f v turn.first turn.last crosses in
    let w = is.all at.0 at.2 in
    let in_loop = at.1 in (
      elim (cases_lt turn.first hull.first) [
        | inl less ↦ absurd (no_first (omega (arith, less), omega (arith, w.0, in_loop.1)))
        | inr more ↦ more
      ],
      elim (cases_lt hull.last turn.last) [
        | inl less ↦ absurd (no_last (omega (arith, w.1, in_loop.0), omega (arith, less)))
        | inr more ↦ more
      ],
    )

-- ---- loops around the hull

pub crosses-around : (f : Function) (v : VReg) (hull turn : Area) (goals : List (Option ℕ)) → AreGoals (kinds f) goals
    → GoesBack goals turn → MayBeRead (kinds f) turn.first turn.last v turn.first → Crosses f v turn.first turn.last
crosses-around f v hull turn goals are goes_back read = record { loop = loop-is (kinds f) goals turn are goes_back; why = inr read }

pub around-read : (f : Function) (v : VReg) (hull turn : Area) → IsHull (MentionedAt f) v hull → turn.first ≤ hull.first
    → hull.last ≤ turn.last → Crosses f v turn.first turn.last → MayBeRead (kinds f) turn.first turn.last v turn.first
around-read f v hull turn is first last crosses =
    elim crosses.why [
      | inl both ↦
          let w = is.all both.1 both.3 in
          absurd (both.5 (omega (arith, w.0, first), omega (arith, w.1, last)))
      | inr read ↦ read
    ]

-- ---- stretches without labels

-- outside of the stretch, and at its first place
abbrev IsAside : Area → ℕ → Type 0
IsAside hull place = (place ≤ hull.first) ⊎ (hull.last < place)

aside-goal : (ks : List OpKind) (v : VReg) (hull : Area) (l : ℕ) → IsStraight ks v hull → hull.last < length ks
    → IsAside hull (standing_at ks l)
aside-goal ks v hull l straight below =
    elim (cases_lt hull.first (standing_at ks l)) [
      | inl behind ↦
          elim (cases_lt hull.last (standing_at ks l)) [
            | inl after ↦ inr after
            | inr before ↦
                let at = standing-stands ks l (omega (arith, before, below)) in
                absurd (straight.plain (standing_at ks l) at.kind at.label behind before at.stands at.is)
          ]
      | inr before ↦ inl before
    ]

aside-follows : (ks : List OpKind) (v : VReg) (hull : Area) (place behind : ℕ) → Follows ks place behind → IsStraight ks v hull
    → hull.last < length ks → IsAside hull place → place ≢ hull.first → IsAside hull behind
aside-follows ks v hull place behind (next p k at onward) straight below aside other =
    elim aside [
      | inl before ↦ inl (omega (arith, before, other))
      | inr after ↦ inr (omega (arith, after))
    ]
aside-follows ks v hull place behind (goes p k l at target) straight below aside other = aside-goal ks v hull l.0 straight below

straight-read : (f : Function) (v : VReg) (hull : Area) (first last : ℕ) → IsHull (MentionedAt f) v hull → IsStraight (kinds f) v hull
    → hull.last < length (kinds f) → (place : ℕ) → MayBeRead (kinds f) first last v place → IsAside hull place → ⊥
straight-read f v hull first last is straight below place (here p within read) aside =
    let w = is.all p (inl (inl read)) in
    let same : p ≡ hull.first =
    elim aside [
      | inl before ↦ omega (arith, before, w.0)
      | inr after ↦ absurd (omega (arith, after, w.1))
    ] in
    let P : ℕ → Type 0 = λ n. ReadsAt (kinds f) n v in
    straight.unread (subst P same read)
straight-read f v hull first last is straight below place (onwards p behind within unwritten follows more) aside =
    let P : ℕ → Type 0 = λ n. WritesAt (kinds f) n v in
    let other : p ≢ hull.first = λ e. unwritten (subst P (sym e) straight.written) in
    straight-read f v hull first last is straight below behind more
    (aside-follows (kinds f) v hull p behind follows straight below aside other)

pub straight-crosses : (f : Function) (v : VReg) (hull turn : Area) → IsHull (MentionedAt f) v hull → IsStraight (kinds f) v hull
    → hull.last < length (kinds f) → turn.first ≤ hull.first → hull.last ≤ turn.last → Crosses f v turn.first turn.last → ⊥
straight-crosses f v hull turn is straight below first last crosses =
    straight-read f v hull turn.first turn.last is straight below turn.first (around-read f v hull turn is first last crosses) (inl first)
