-- Registers of the scratchpad with the same numbers are the same.
use Rattle.std.proofs.Common.{◌≡◌, ℕ, ◌-◌, ◌<◌, ◌≤◌, false, Some, None, ap, sym, ◌∙◌, arith}
use Rattle.std.specs.Prelude.{IsTrue}
use Rattle.std.proofs.Props.{props}
use Rattle.std.proofs.lemmas.Bool.Decides.{nat_tests}
use Rattle.cprogram.specs.declared.access.ScratchpadRegister.{ScratchpadRegister}
use Rattle.cexpr.proofs.Truths.{by_numbers, where_true-is, where_true-none}
use Rattle.cexpr.specs.Scratchpad.{is_scratchpad, register_made, scratchpad_at}

same_register : (s t : ScratchpadRegister) → s.bank ≡ t.bank → s.register ≡ t.register → s ≡ t
same_register s t e f =
    by_numbers {A = ℕ × ℕ} (λ a. (a.0 < 3) × (a.1 < 30)) (λ a. hlevel props)
    (λ a p. record { bank = a.0; register = a.1; of_a_bank = p.0; moved = p.1 })
    (s.bank, s.register) (t.bank, t.register) (s.of_a_bank, s.moved) (t.of_a_bank, t.moved) (cc)

test_holds : (device base shift : ℕ) → 10 ≤ device → device ≤ 12 → base ≤ 29 → shift ≡ 0 → IsTrue (is_scratchpad device base shift)
test_holds device base shift a b c d = grind (arith, nat_tests)

pub scratchpad_at_is : (device base shift : ℕ) (r : ScratchpadRegister) → r.bank ≡ device - 10 → r.register ≡ base → 10 ≤ device → device ≤ 12 →
    shift ≡ 0 → Some r ≡ scratchpad_at device base shift
scratchpad_at_is device base shift r e f a b d =
    let c : base ≤ 29 = omega (arith, r.moved, f) in
    let t : IsTrue (is_scratchpad device base shift) = test_holds device base shift a b c d in
    ap Some (same_register r (register_made device base shift t) e f)
    ∙ sym (where_true-is (is_scratchpad device base shift) (λ p. Some (register_made device base shift p)) t)

pub scratchpad_at_none : (device base shift : ℕ) → is_scratchpad device base shift ≡ false → None ≡ scratchpad_at device base shift
scratchpad_at_none device base shift h =
    sym (where_true-none (is_scratchpad device base shift) (λ p. Some (register_made device base shift p)) h)

pub ruleset scratchpads = (scratchpad_at_is, scratchpad_at_none, nat_tests)
