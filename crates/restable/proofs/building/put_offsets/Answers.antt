use Rattle.std.proofs.Common.{◌≡◌, ℕ, ◌+◌, ◌-◌, suc, ◌++◌, ◌∙◌, List, ap, sym, arith, append_assoc}
use Rattle.std.specs.Int.{w32, to_le_bytes}
use Rattle.restable.specs.Tables.{words, offsets}
use Rattle.restable.proofs.building.put_offsets.Goals as goal

step : (next k m : ℕ) (before out : List ℕ) → k ≡ suc m → out ≡ before ++ to_le_bytes w32 next
    → out ++ words (offsets (next + 48) m) ≡ before ++ words (offsets next k)
step next k m before out e is =
    ap (λ xs. xs ++ words (offsets (next + 48) m)) is ∙ append_assoc before (to_le_bytes w32 next) (words (offsets (next + 48) m))
    ∙ ap (λ j. before ++ words (offsets next j)) (sym e)

pub offsets-preserved : goal.offsets-preserved
offsets-preserved c =
    let l = c.offsets in
    let k : c.args.count - l.counter ≡ suc (c.args.count - (l.counter + 1)) = omega arith in
    record {
      next = omega (arith, l.invariant.next);
      told = step l.next (c.args.count - l.counter) (c.args.count - (l.counter + 1)) l.out.items c.put_word.new.out.items k
          c.in_ok-put_word.ensures ∙ l.invariant.told;
    }
