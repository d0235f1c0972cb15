-- Registers whose mentions stand in a stretch without labels.
use Rattle.std.proofs.Common.{◌≡◌, ℕ, ◌<◌, ◌≤◌, List, length, get_or, sym, ◌∙◌, subst, arith, Some}
use Rattle.std.specs.Prelude.{Contains}
use Rattle.std.proofs.lemmas.Option.{same_Some, slice_get-get_or}
use Rattle.midcode.specs.declared.register.VReg.{VReg}
use Rattle.midcode.specs.declared.op.OpKind.{OpKind}
use Rattle.midcode.specs.Operation.{reads, writes}
use Rattle.subreg.specs.Span.{Stands}
use Rattle.livespan.specs.declared.area.Area.{Area}
use Rattle.livespan.specs.Live.{AreStarts, IsStraight}

pub straight-from : (ks : List OpKind) (starts : List ℕ) (v : VReg) (hull : Area) (k : OpKind) → AreStarts ks starts
    → hull.last < length ks → get_or starts hull.last 0 ≤ hull.first → Stands ks hull.first k → (Contains (reads k) v → ⊥)
    → writes k ≡ Some v → IsStraight ks v hull
straight-from ks starts v hull k are below start stands unread written = record {
  written = record { kind = k; stands = stands; written = written };
  unread = λ read.
      let P : OpKind → Type 0 = λ j. Contains (reads j) v in
      unread (subst P (same_Some read.kind k (sym read.stands ∙ stands)) read.read);
  plain = λ place j l from to at label.
      are.plain hull.last (get_or starts hull.last 0) (slice_get-get_or starts hull.last 0 (omega (arith, are.len, below))) place j l
      (omega (arith, start, from)) to at label;
}
