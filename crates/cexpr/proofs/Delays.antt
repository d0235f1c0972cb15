-- Delays with the same number are the same.
use Rattle.std.proofs.Common.{◌≡◌, ℕ, ◌≤◌, false, Some, None, ap, sym, ◌∙◌, arith}
use Rattle.std.specs.Prelude.{IsTrue}
use Rattle.std.proofs.Props.{props}
use Rattle.std.proofs.lemmas.Bool.Decides.{nat_tests}
use Rattle.cprogram.specs.declared.value.Delay.{Delay}
use Rattle.cexpr.proofs.Truths.{by_numbers, where_true-is, where_true-none}
use Rattle.cexpr.specs.Intrinsic.{is_delay, delay_made, delay_of}

same_delay : (s t : Delay) → s.cycles ≡ t.cycles → s ≡ t
same_delay s t e =
    by_numbers {A = ℕ} (λ n. (1 ≤ n) × (n ≤ 1000000)) (λ n. hlevel props) (λ n p. record { cycles = n; some_cycle = p.0; at_most = p.1 })
    s.cycles t.cycles (s.some_cycle, s.at_most) (t.some_cycle, t.at_most) e

test_holds : (n : ℕ) → 1 ≤ n → n ≤ 1000000 → IsTrue (is_delay n)
test_holds n a b = grind (arith, nat_tests)

pub delay_of_is : (n : ℕ) (d : Delay) → d.cycles ≡ n → Some d ≡ delay_of (Some n)
delay_of_is n d e =
    let some : 1 ≤ n = omega (arith, d.some_cycle, e) in
    let all : n ≤ 1000000 = omega (arith, d.at_most, e) in
    let t : IsTrue (is_delay n) = test_holds n some all in
    ap Some (same_delay d (delay_made n t) e) ∙ sym (where_true-is (is_delay n) (λ p. Some (delay_made n p)) t)

pub delay_of_none : (n : ℕ) → is_delay n ≡ false → None ≡ delay_of (Some n)
delay_of_none n h = sym (where_true-none (is_delay n) (λ p. Some (delay_made n p)) h)

pub ruleset delays = (delay_of_is, delay_of_none, nat_tests)
