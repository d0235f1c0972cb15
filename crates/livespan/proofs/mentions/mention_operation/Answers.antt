use Rattle.std.proofs.Common.{◌≡◌, ℕ, ◌+◌, ◌<◌, ◌≤◌, List, length, get_or, take, refl, sym, ap, ◌∙◌, subst, arith, inl, inr, Option, Some}
use Rattle.std.proofs.Common.{rules}
use Rattle.std.specs.Prelude.{Contains}
use Rattle.midcode.specs.declared.register.VReg.{VReg}
use Rattle.midcode.specs.Operation.{reads, writes}
use Rattle.livespan.specs.declared.area.Area.{Area}
use Rattle.livespan.specs.Live.{AreHulls, Known, with_written}
use Rattle.livespan.proofs.Hulls.{With, with-none, with-more, known-before, known-next}
use Rattle.livespan.proofs.Found.{no_register, read-found}
use Rattle.livespan.proofs.mentions.mention_operation.Goals as goal

pub loop-n-init : goal.loop-n-init
loop-n-init c = record {
  len = refl;
  hulls = λ params are. with-none (Known c.args.kinds.now params c.args.place) c.args.place c.args.hulls.now are;
}

pub mention-requires : goal.mention-requires
mention-requires c =
    let rs : List VReg = c.reads-read.result.registers in
    let w : VReg = get_or rs c.loop-n.n no_register in
    let all : c.reads-read.result.count ≤ length rs = search rules in
    let P : List VReg → Type 0 = λ vs. Contains vs w in
    let read = subst P c.reads-read.ensures (read-found rs c.reads-read.result.count c.loop-n.n w c.loop-n-test.true all refl) in
    let below = c.requires.named c.args.place c.kind_at-kind.result w c.kind_at-kind.ensures (inl read) in
    omega (arith, below, c.loop-n.invariant.len)

pub loop-n-preserved : goal.loop-n-preserved
loop-n-preserved c =
    let rs : List VReg = c.reads-read.result.registers in
    let w : VReg = get_or rs c.loop-n.n no_register in
    let all : c.reads-read.result.count ≤ length rs = search rules in
    let P : List VReg → Type 0 = λ vs. Contains vs w in
    let read = subst P c.reads-read.ensures (read-found rs c.reads-read.result.count c.loop-n.n w c.loop-n-test.true all refl) in
    let below = c.requires.named c.args.place c.kind_at-kind.result w c.kind_at-kind.ensures (inl read) in
    let within : w.0 < length c.loop-n.hulls = omega (arith, below, c.loop-n.invariant.len) in
    record {
      len = omega (arith, c.mention.auto.hulls, c.loop-n.invariant.len);
      hulls = λ params are.
          let M : ℕ → VReg → Type 0 = Known c.args.kinds.now params c.args.place in
          let Q : List (Option Area) → Type 0 = λ hs. AreHulls (With M c.args.place (take (c.loop-n.n + 1) rs)) hs in
          subst Q (sym c.mention.ensures)
          (with-more M c.args.place rs c.loop-n.n c.loop-n.hulls (omega (arith, c.loop-n-test.true, all))
          (λ p v m. known-before c.args.kinds.now params c.args.place p v m) within (c.loop-n.invariant.hulls params are));
    }

pub mention_written-requires : goal.mention_written-requires
mention_written-requires c = λ v is.
    let below = c.requires.named c.args.place c.kind_at-kind.result v c.kind_at-kind.ensures (inr (sym c.writes.ensures ∙ is)) in
    omega (arith, below, c.loop-n.invariant.len)

pub returns-clause-hulls : goal.returns-clause-hulls
returns-clause-hulls c = λ params are.
    let ks = c.args.kinds.now in
    let k = c.kind_at-kind.result in
    let rs : List VReg = c.reads-read.result.registers in
    let M : ℕ → VReg → Type 0 = Known ks params c.args.place in
    let count : c.loop-n.n ≡ c.reads-read.result.count = omega (arith, c.loop-n-test.false, c.loop-n.auto.n-end) in
    let P : List VReg → Type 0 = λ vs. AreHulls (With M c.args.place vs) c.loop-n.hulls in
    let read : AreHulls (With M c.args.place (reads k)) c.loop-n.hulls =
    subst P (ap (λ n. take n rs) count ∙ c.reads-read.ensures) (c.loop-n.invariant.hulls params are) in
    let named : (v : VReg) → writes k ≡ Some v → v.0 < length c.loop-n.hulls =
    λ v is. omega (arith, c.requires.named c.args.place k v c.kind_at-kind.ensures (inr is), c.loop-n.invariant.len) in
    let Q : List (Option Area) → Type 0 = λ hs. AreHulls (Known ks params (c.args.place + 1)) hs in
    let R : Option VReg → Type 0 = λ o. AreHulls (Known ks params (c.args.place + 1)) (with_written c.loop-n.hulls o c.args.place) in
    subst Q (sym c.mention_written.ensures)
    (subst R (sym c.writes.ensures) (known-next ks params c.args.place k c.loop-n.hulls c.kind_at-kind.ensures named read))
