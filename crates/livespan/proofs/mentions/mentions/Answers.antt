use Rattle.std.proofs.Common.{◌≡◌, ℕ, ◌+◌, List, length, sym, ap, ◌∙◌, subst, arith, Option, rules}
use Rattle.livespan.specs.declared.area.Area.{Area}
use Rattle.livespan.specs.Live.{AreHulls, AreNamed, Known}
use Rattle.livespan.proofs.Back.{put-back}
use Rattle.livespan.proofs.mentions.mentions.Goals as goal

pub loop-place-init : goal.loop-place-init
loop-place-init c = record { len = search rules; hulls = c.in_ok-hulls.ensures.hulls c.args.kinds.now }

pub mention_operation-requires-clause-named : goal.mention_operation-requires-clause-named
mention_operation-requires-clause-named c =
    let P : ℕ → Type 0 = λ n. AreNamed c.args.kinds.now n in
    subst P (sym (ap length c.deref_mut.ensures.value ∙ c.loop-place.invariant.len)) c.requires.named

pub loop-place-preserved : goal.loop-place-preserved
loop-place-preserved c =
    let items : List (Option Area) = c.loop-place.hulls.items in
    let i : ℕ = c.loop-place.place in
    let long : length c.mention_operation.new.hulls ≡ length items =
    c.mention_operation.ensures.len ∙ ap length c.deref_mut.ensures.value in
    let len : c.loop-place.hulls.len ≡ length items = search rules in
    let back = put-back c.loop-place.hulls.len c.mention_operation.new.hulls items len long in
    let P : List (Option Area) → Type 0 = λ hs. AreHulls (Known c.args.kinds.now c.args.params (i + 1)) hs in
    let Q : List (Option Area) → Type 0 = λ hs. AreHulls (Known c.args.kinds.now c.args.params i) hs in
    record {
      len = ap length back ∙ long ∙ c.loop-place.invariant.len;
      hulls = subst P (sym back)
          (c.mention_operation.ensures.hulls c.args.params (subst Q (sym c.deref_mut.ensures.value) c.loop-place.invariant.hulls));
    }

pub returns-clause-hulls : goal.returns-clause-hulls
returns-clause-hulls c =
    let end : c.loop-place.place ≡ length c.args.kinds.now = omega (arith, c.loop-place-test.false, c.loop-place.auto.place-end) in
    let P : ℕ → Type 0 = λ n. AreHulls (Known c.args.kinds.now c.args.params n) c.loop-place.hulls.items in
    subst P end c.loop-place.invariant.hulls
