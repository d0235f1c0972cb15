use Rattle.std.proofs.Common.{◌≡◌, ℕ, ◌+◌, List, length, length-set, get_or, refl, sym, ap, ◌∙◌, subst, arith, None, Some, Option, rules}
use Rattle.midcode.specs.declared.register.VReg.{VReg}
use Rattle.livespan.specs.declared.area.Area.{Area}
use Rattle.livespan.specs.Live.{AreHulls, Known, with_mention, up_to}
use Rattle.livespan.proofs.Back.{put-back}
use Rattle.livespan.proofs.Hulls.{no-parameters, parameter-more, none-replicated}
use Rattle.livespan.proofs.mentions.mention_parameters.Goals as goal

pub loop-number-init : goal.loop-number-init
loop-number-init c =
    record {
      len = search rules;
      hulls = λ ks.
          let P : List (Option Area) → Type 0 = λ hs. AreHulls (Known ks 0 0) hs in
          subst P (sym (c.in_ok-hulls.ensures.items_if_clones_equal (λ y is. search rules)))
          (no-parameters ks _ (none-replicated c.args.registers));
    }

pub loop-number-preserved : goal.loop-number-preserved
loop-number-preserved c =
    let items : List (Option Area) = c.loop-number.hulls.items in
    let w : VReg = record { 0 = c.loop-number.number } in
    let is : c.mention.new.hulls ≡ with_mention items w 0 =
    c.mention.ensures ∙ ap (λ xs. with_mention xs w 0) c.deref_mut.ensures.value in
    let long : length c.mention.new.hulls ≡ length items = ap length is ∙ length-set items w.0 (Some (up_to (get_or items w.0 None) 0)) in
    let len : c.loop-number.hulls.len ≡ length items = search rules in
    let back = put-back c.loop-number.hulls.len c.mention.new.hulls items len long in
    record {
      len = ap length back ∙ long ∙ c.loop-number.invariant.len;
      hulls = λ ks.
          let P : List (Option Area) → Type 0 = λ hs. AreHulls (Known ks (c.loop-number.number + 1) 0) hs in
          subst P (sym (back ∙ is))
          (parameter-more ks c.loop-number.number items w refl
          (omega (arith, c.loop-number.invariant.len, c.requires, c.loop-number-test.true)) (c.loop-number.invariant.hulls ks));
    }

pub returns-clause-hulls : goal.returns-clause-hulls
returns-clause-hulls c = λ ks.
    let P : ℕ → Type 0 = λ n. AreHulls (Known ks n 0) c.loop-number.hulls.items in
    let end : c.loop-number.number ≡ c.args.params = omega (arith, c.loop-number-test.false, c.loop-number.auto.number-end) in
    subst P end (c.loop-number.invariant.hulls ks)
