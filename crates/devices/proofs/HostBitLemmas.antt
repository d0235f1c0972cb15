-- The host bits, bit by bit.
use Rattle.std.proofs.Common.{◌≡◌, ◌≢◌, ℕ, zero, suc, ◌+◌, ◌*◌, ◌^◌, ◌/◌, ◌%◌, ◌<◌, ◌≤◌, Bool, true, false, ◌&&◌, ◌||◌, eqb, ltb}
use Rattle.std.proofs.Common.{min, max, refl, sym, ap, ◌∙◌, arith, rules, List, get_or, length, subst, inl, inr, bit_and, bit_or}
use Rattle.std.proofs.Common.{◌↔◌, IsTrue}
use Rattle.std.specs.Int.{bit_at}
use Rattle.std.proofs.lemmas.Nat.Bits.{bit_at_lowest, bit_at-suc, bit_at-zero, bit_at_or, bit_at_and, bit_at-lt}
use Rattle.std.proofs.lemmas.Nat.Bits.{shr_and_one, bit_at-pow_same, bit_at-pow_other, same_from_bits}
use Rattle.std.specs.Bool.{Decides}
use Rattle.std.proofs.lemmas.Bool.Decides.{Decides-below_or, Decides-and, Decides-eqb, Decides-ltb, Decides-like, eqb_tells, nat_tests}
use Rattle.std.proofs.lemmas.List.{get_or_past}
use Rattle.devices.specs.Controller.{Controller}
use Rattle.devices.specs.HostBits.{any_below, number_of, reaches, Reaches, interrupts, Interrupts, bit_of, is_enabled, host_bits_of}

-- one more event
pub any_below-suc : (p : ℕ → Bool) (n : ℕ) → any_below p (suc n) ≡ (p n || any_below p n)
unfolding any_below
any_below-suc p n = refl

pub any_below-zero : (p : ℕ → Bool) → any_below p 0 ≡ false
unfolding any_below
any_below-zero p = refl

pub Decides-any_below : (p : ℕ → Bool) (P : ℕ → Type 0) → ((k : ℕ) → Decides (p k) (P k)) → (n : ℕ)
    → Decides (any_below p n) ((k : ℕ) × (k < n) × P k)
unfolding any_below
Decides-any_below p P each n = Decides-below_or p P (any_below p) each refl (λ _. refl) n

bit_of-bit : (b : Bool) → bit_of b % 2 ≡ bit_of b
bit_of-bit true = refl
bit_of-bit false = refl

bit_of-half : (b : Bool) (n : ℕ) → (bit_of b + 2 * n) / 2 ≡ n
bit_of-half true n = omega arith
bit_of-half false n = omega arith

bit_of-low : (b : Bool) (n : ℕ) → (bit_of b + 2 * n) % 2 ≡ bit_of b
bit_of-low true n = omega arith
bit_of-low false n = omega arith

below_zero : (i : ℕ) → ltb i 0 ≡ false
below_zero i = grind (arith, nat_tests)

below_suc : (i n : ℕ) → ltb (suc i) (suc n) ≡ ltb i n
below_suc i n = grind (arith, nat_tests)

zero_below : (n : ℕ) → ltb 0 (suc n) ≡ true
zero_below n = grind (arith, nat_tests)

-- bit i of the number is the answer of the test at i
pub bit_at-number_of : (p : ℕ → Bool) (n i : ℕ) → bit_at (number_of p n) i ≡ bit_of (ltb i n && p i)
unfolding number_of
bit_at-number_of p zero i = bit_at-zero i ∙ ap (λ b. bit_of (b && p i)) (sym (below_zero i))
bit_at-number_of p (suc n) zero =
    bit_at_lowest _ ∙ bit_of-low (p 0) (number_of (λ k. p (suc k)) n) ∙ ap (λ b. bit_of (b && p 0)) (sym (zero_below n))
bit_at-number_of p (suc n) (suc i) =
    bit_at-suc _ i ∙ ap (λ m. bit_at m i) (bit_of-half (p 0) (number_of (λ k. p (suc k)) n)) ∙ bit_at-number_of (λ k. p (suc k)) n i
    ∙ ap (λ b. bit_of (b && p (suc i))) (sym (below_suc i n))

both_ones : (a b : ℕ) → a < 2 → b < 2 → eqb (min a b) 1 ≡ (eqb a 1 && eqb b 1)
both_ones zero zero p q = refl
both_ones zero (suc zero) p q = refl
both_ones (suc zero) zero p q = refl
both_ones (suc zero) (suc zero) p q = refl
both_ones a (suc (suc b)) p q = absurd (omega arith)
both_ones (suc (suc a)) b p q = absurd (omega arith)

-- the test of one bit of two numbers at once
pub both_bits : (a b k : ℕ) → eqb (bit_and (bit_and a b / 2 ^ k) 1) 1 ≡ (eqb (bit_at a k) 1 && eqb (bit_at b k) 1)
both_bits a b k =
    ap (λ n. eqb n 1) (shr_and_one (bit_and a b) k ∙ bit_at_and a b k) ∙ both_ones (bit_at a k) (bit_at b k) (bit_at-lt a k) (bit_at-lt b k)

and_false : (a b : Bool) → (a && (b && false)) ≡ false
and_false true true = refl
and_false true false = refl
and_false false b = refl

one_bit_other : (x h : ℕ) (a b : Bool) → h ≢ x → bit_at (2 ^ x) h ≡ bit_of (a && (b && eqb x h))
one_bit_other x h a b other =
    bit_at-pow_other x h other ∙ ap bit_of (sym (ap (λ t. a && (b && t)) (let e : eqb x h ≡ false = grind (arith, nat_tests) in e)
    ∙ and_false a b))

one_bit_same : (x : ℕ) (a b : Bool) → a ≡ true → b ≡ true → bit_at (2 ^ x) x ≡ bit_of (a && (b && eqb x x))
one_bit_same x true true p q = bit_at-pow_same x ∙ ap bit_of (sym (let e : eqb x x ≡ true = grind (arith, nat_tests) in e))
one_bit_same x true false p q = absurd (cc)
one_bit_same x false b p q = absurd (cc)

-- the number with the bit of one place alone
pub one_bit : (on : ℕ → Bool) (x h : ℕ) (b : Bool) → on x ≡ true → b ≡ true → bit_at (2 ^ x) h ≡ bit_of (on h && (b && eqb x h))
one_bit on x h b p q =
    elim (eqb_tells h x) [
      | inl e ↦ subst (λ (k : ℕ). bit_at (2 ^ x) k ≡ bit_of (on k && (b && eqb x k))) (sym e.1)
          (one_bit_same x (on x) b p q)
      | inr e ↦ one_bit_other x h (on h) b e.1
    ]

max_bits : (on x y : Bool) → max (bit_of (on && x)) (bit_of (on && y)) ≡ bit_of (on && (y || x))
max_bits false x y = refl
max_bits true true true = refl
max_bits true true false = refl
max_bits true false true = refl
max_bits true false false = refl

-- what is gathered of the first events is so of one more
pub active_more : (c : Controller) (event bits mask : ℕ)
    → (eqb (bit_at c.pending event) 1 && eqb (bit_at c.enabled event) 1) ≡ true
    → ((h : ℕ) → bit_at bits h ≡ bit_of (is_enabled c h && any_below (reaches c h) event))
    → ((h : ℕ) → bit_at mask h ≡ bit_of (is_enabled c h && (ltb (get_or c.channels event 0) 10 && eqb
    (get_or c.hosts (get_or c.channels event 0) 0) h)))
    → (h : ℕ) → bit_at (bit_or bits mask) h ≡ bit_of (is_enabled c h && any_below (reaches c h) (suc event))
unfolding any_below
active_more c event bits mask active before behind h =
    bit_at_or bits mask h
    ∙ ap (λ n. max n (bit_at mask h)) (before h)
    ∙ ap (λ n. max (bit_of (is_enabled c h && any_below (reaches c h) event)) n) (behind h)
    ∙ max_bits (is_enabled c h) (any_below (reaches c h) event) _
    ∙ ap (λ a. bit_of (is_enabled c h && ((a && (ltb (get_or c.channels event 0) 10 && eqb
    (get_or c.hosts (get_or c.channels event 0) 0) h)) || any_below (reaches c h) event))) (sym active)

pub idle_more : (c : Controller) (event bits : ℕ)
    → (eqb (bit_at c.pending event) 1 && eqb (bit_at c.enabled event) 1) ≡ false
    → ((h : ℕ) → bit_at bits h ≡ bit_of (is_enabled c h && any_below (reaches c h) event))
    → (h : ℕ) → bit_at bits h ≡ bit_of (is_enabled c h && any_below (reaches c h) (suc event))
unfolding any_below
idle_more c event bits idle before h =
    before h ∙ ap (λ a. bit_of (is_enabled c h && ((a && (ltb (get_or c.channels event 0) 10 && eqb
    (get_or c.hosts (get_or c.channels event 0) 0) h)) || any_below (reaches c h) event))) (sym idle)

Decides-reaches : (c : Controller) (h event : ℕ) → Decides (reaches c h event) (Reaches c h event)
Decides-reaches c h event =
    Decides-like _ (λ p. record { pending = p.0.0; enabled = p.0.1; channel = p.1.0; leads = p.1.1 })
    (λ r. ((r.pending, r.enabled), (r.channel, r.leads)))
    (Decides-and _ _ (Decides-and _ _ (Decides-eqb _ 1) (Decides-eqb _ 1)) (Decides-and _ _ (Decides-ltb _ 10) (Decides-eqb _ h)))

Decides-itself : (b : Bool) → Decides b (IsTrue b)
Decides-itself b = (λ h. h, λ h. h)

Decides-interrupts : (c : Controller) (h : ℕ) → Decides (interrupts c h) (Interrupts c h)
Decides-interrupts c h =
    Decides-like _ (λ p. record { on = p.0.0; enabled = p.0.1; reached = p.1 }) (λ r. ((r.on, r.enabled), r.reached))
    (Decides-and _ _ (Decides-and _ _ (Decides-itself c.on) (Decides-itself (is_enabled c h)))
    (Decides-any_below (reaches c h) (Reaches c h) (Decides-reaches c h) 64))

bit_of-one : (b : Bool) → (bit_of b ≡ 1) → b ≡ true
bit_of-one true h = refl
bit_of-one false h = absurd (omega arith)

-- a number whose bits are the interrupts
pub Interrupts-bits : (c : Controller) (n : ℕ) → ((h : ℕ) → bit_at n h ≡ bit_of (interrupts c h)) → (h : ℕ)
    → (bit_at n h ≡ 1) ↔ Interrupts c h
Interrupts-bits c n bits h =
    (λ e. (Decides-interrupts c h).0 (bit_of-one _ (sym (bits h) ∙ e)), λ i. bits h ∙ ap bit_of ((Decides-interrupts c h).1 i))

past_ten : (on : List Bool) → length on ≡ 10 → (h : ℕ) → ltb h 10 ≡ false → get_or on h false ≡ false
past_ten on ten h past = get_or_past on h false (let le : 10 ≤ h = grind (arith, nat_tests) in omega arith)

within_ten : (a b : Bool) (on : List Bool) → length on ≡ 10 → (h : ℕ) (t : Bool) → ltb h 10 ≡ t
    → (a && get_or on h false && b) ≡ (t && (a && get_or on h false && b))
within_ten a b on ten h true e = refl
within_ten true b on ten h false e = ap (λ x. x && b) (past_ten on ten h e)
within_ten false b on ten h false e = refl

pub host_bits_of-bits : (c : Controller) (n : ℕ) → length c.hosts_on ≡ 10 → ((h : ℕ) → bit_at n h ≡ bit_of (interrupts c h))
    → n ≡ host_bits_of c
host_bits_of-bits c n ten bits =
    same_from_bits n (host_bits_of c) (λ h. bits h ∙ ap bit_of
    (within_ten c.on (any_below (reaches c h) 64) c.hosts_on ten h (ltb h 10) refl) ∙ sym (bit_at-number_of (interrupts c) 10 h))

-- a shift that stays within 32 bits
one_shl : (x : ℕ) → x < 10 → 1 * 2 ^ x % 4294967296 ≡ 2 ^ x
one_shl x h = search rules

-- what `1 << host` shows, where a channel below 10 leads to an enabled host
pub shown_bit : (hosts_on : List Bool) (hosts : List ℕ) (channel host h : ℕ) → host ≡ get_or hosts channel 0 → channel < 10
    → host < 10 → get_or hosts_on host false ≡ true
    → bit_at (1 * 2 ^ host % 4294967296) h ≡ bit_of (get_or hosts_on h false && (ltb channel 10 && eqb (get_or hosts channel 0) h))
shown_bit hosts_on hosts channel host h leads below within enabled =
    ap (λ n. bit_at n h) (one_shl _ within)
    ∙ one_bit (λ k. get_or hosts_on k false) host h (ltb channel 10) enabled (let e : ltb channel 10 ≡ true = grind (arith, nat_tests) in e)
    ∙ ap (λ x. bit_of (get_or hosts_on h false && (ltb channel 10 && eqb x h))) leads

pub no_bit : (a : Bool) (h : ℕ) → bit_at 0 h ≡ bit_of (a && false)
no_bit true h = bit_at-zero h
no_bit false h = bit_at-zero h

pub off_bits : (c : Controller) → c.on ≡ false → (h : ℕ) → bit_at 0 h ≡ bit_of (interrupts c h)
off_bits c off h = bit_at-zero h ∙ ap (λ a. bit_of (a && is_enabled c h && any_below (reaches c h) 64)) (sym off)

-- where the controller is on, what is gathered of all events are the interrupts
pub all_bits : (c : Controller) (n : ℕ) → c.on ≡ true → ((h : ℕ)
    → bit_at n h ≡ bit_of (is_enabled c h && any_below (reaches c h) 64)) → (h : ℕ) → bit_at n h ≡ bit_of (interrupts c h)
all_bits c n on bits h = bits h ∙ ap (λ a. bit_of (a && is_enabled c h && any_below (reaches c h) 64)) (sym on)
