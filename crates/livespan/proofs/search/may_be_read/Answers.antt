use Rattle.std.proofs.Common.{◌≡◌, Bool, false, List, length, sym, ap, ◌∙◌, subst, arith, rules}
use Rattle.std.proofs.lemmas.Bool.{OnFalse_at}
use Rattle.livespan.specs.Marks.{AreSound, IsMarked}
use Rattle.livespan.proofs.Back.{put-back}
use Rattle.livespan.proofs.Marked.{closed-read}
use Rattle.livespan.proofs.search.may_be_read.Goals as goal

pub sweeps-preserved : goal.sweeps-preserved
sweeps-preserved c =
    let items : List Bool = c.sweeps.marks.items in
    let long : length c.sweep.new.marks ≡ length items = c.sweep.ensures.len ∙ ap length c.deref_mut.ensures.value in
    let len : c.sweeps.marks.len ≡ length items = search rules in
    let back = put-back c.sweeps.marks.len c.sweep.new.marks items len long in
    let P : List Bool → Type 0 = λ ms. AreSound c.args.kinds.now c.args.turn.first c.args.turn.last c.args.v ms in
    record {
      len = omega (arith, ap length back ∙ long, c.sweeps.invariant.len);
      sound = subst P (sym back) (c.sweep.ensures.sound (subst P (sym c.deref_mut.ensures.value) c.sweeps.invariant.sound));
    }

pub returns-then-not-sweep : goal.returns-then-not-sweep
returns-then-not-sweep c =
    let items : List Bool = c.sweeps.marks.items in
    let first = c.args.turn.first in
    let last = c.args.turn.last in
    let long : length c.sweep.new.marks ≡ length items = c.sweep.ensures.len ∙ ap length c.deref_mut.ensures.value in
    let len : c.sweeps.marks.len ≡ length items = search rules in
    let now : c.deref.result.now ≡ c.sweep.new.marks =
    c.deref.ensures.value ∙ put-back c.sweeps.marks.len c.sweep.new.marks items len long in
    let none : c.sweep.result ≡ false = search rules in
    let P : List Bool → Type 0 = λ ms. AreSound c.args.kinds.now first last c.args.v ms in
    let sound = c.sweep.ensures.sound (subst P (sym c.deref_mut.ensures.value) c.sweeps.invariant.sound) in
    let closed = OnFalse_at none c.sweep.ensures.closed in
    let M : List Bool → Type 0 = λ ms. IsMarked first last ms first in (
      λ e. sound first (subst M now (c.is_marked.ensures.0 e)),
      λ may. c.is_marked.ensures.1 (subst M (sym now) (closed-read c.args.kinds.now first last c.args.v c.sweep.new.marks closed first
          may)),
    )
