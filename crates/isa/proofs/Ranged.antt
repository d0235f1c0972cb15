-- Values whose type keeps their ranges: they are told apart by their numbers alone.
use Rattle.std.proofs.Common.{◌≡◌, ℕ, ◌+◌, ◌*◌, ◌/◌, ◌%◌, ◌<◌, ◌≤◌, arith, refl, ap, sym, subst, ◌∙◌, Bool, true, false, Option, Some, None}
use Rattle.std.specs.Prelude.{IsTrue, nat_lt, nat_le, ◌&&◌, option_and_then, ℤ, pos, neg_ℤ, ◌≤ℤ◌}
use Rattle.std.proofs.Props.{props}
use Rattle.std.proofs.lemmas.Bool.Decides.{nat_tests}
use Rattle.isa.specs.declared.access.Access.{Access}
use Rattle.isa.specs.declared.access.Base.{Base}
use Rattle.isa.specs.declared.control.BranchOffset.{BranchOffset}
use Rattle.isa.specs.declared.control.LoopBody.{LoopBody}
use Rattle.isa.specs.declared.field.Part.{Part}
use Rattle.isa.specs.declared.field.Field.{Field}
use Rattle.isa.specs.declared.field.Operand.{Operand}
use Rattle.isa.specs.declared.row.Row.{Row}
use Rattle.isa.specs.declared.transfer.Bank.{Bank}
use Rattle.isa.specs.declared.transfer.Transfer.{Transfer}
use Rattle.isa.specs.Low.{is_low_base, is_low_operand}
use Rattle.isa.specs.Ranges.{is_transfer}
use Rattle.isa.specs.Decoded.{bank_at, where_true, body_at, transfer_at, length_bits, access_from}

-- ---- a test with its proof

pub where_true-is : {X : Type 0} (b : Bool) (f : IsTrue b → Option X) (h : IsTrue b) → where_true b f ≡ f h
where_true-is true f h = let once : IsProp (IsTrue true) = hlevel props in ap f (once refl h)
where_true-is false f h = cc

pub where_true-none : {X : Type 0} (b : Bool) (f : IsTrue b → Option X) → b ≡ false → where_true b f ≡ None
where_true-none true f h = cc
where_true-none false f h = refl

-- ---- values with the same numbers are the same: a fact has one proof

by_numbers : {A X : Type 0} (P : A → Type 0) → ((a : A) → IsProp (P a)) → (make : (a : A) → P a → X) → (a b : A) (p : P a) (q : P b)
    → a ≡ b → make a p ≡ make b q
by_numbers P once make a b p q e = (subst (λ x. (q : P x) → make a p ≡ make x q) e (λ q. ap (make a) (once a p q))) q

pub same_field : (s t : Field) → s.reg ≡ t.reg → s.part ≡ t.part → s ≡ t
same_field s t e f =
    by_numbers {A = ℕ × Part} (λ a. a.0 < 32) (λ a. hlevel props) (λ a p. record { reg = a.0; part = a.1; in_range = p })
    (s.reg, s.part) (t.reg, t.part) s.in_range t.in_range (cc)

pub same_offset : (s t : BranchOffset) → s.words ≡ t.words → s ≡ t
same_offset s t e =
    by_numbers {A = ℤ} (λ z. (neg_ℤ (pos 512) ≤ℤ z) × (z ≤ℤ pos 511)) (λ z. hlevel props)
    (λ z p. record { words = z; least = p.0; greatest = p.1 })
    s.words t.words (s.least, s.greatest) (t.least, t.greatest) e

same_body : (s t : LoopBody) → s.count ≡ t.count → s.length ≡ t.length → s ≡ t
same_body s t e f =
    by_numbers {A = ℕ × ℕ} (λ a. (1 ≤ a.0) × (a.0 ≤ 256) × (1 ≤ a.1) × (a.1 ≤ 255)) (λ a. hlevel props)
    (λ a p. record { count = a.0; length = a.1; once = p.0; at_most = p.1; some_word = p.2; short = p.3 })
    (s.count, s.length) (t.count, t.length) (s.once, s.at_most, s.some_word, s.short) (t.once, t.at_most, t.some_word, t.short) (cc)

same_transfer : (s t : Transfer) → s.bank ≡ t.bank → s.first ≡ t.first → s.count ≡ t.count → s ≡ t
same_transfer s t e f g =
    by_numbers {A = Bank × ℕ × ℕ} (λ a. (1 ≤ a.2) × (a.2 ≤ 4) × (a.1 + a.2 ≤ 30)) (λ a. hlevel props)
    (λ a p. record { bank = a.0; first = a.1; count = a.2; some_register = p.0; at_most = p.1; below = p.2 })
    (s.bank, s.first, s.count) (t.bank, t.first, t.count) (s.some_register, s.at_most, s.below) (t.some_register, t.at_most, t.below) (cc)

same_access : (s t : Access) → s.first ≡ t.first → s.byte ≡ t.byte → s.len ≡ t.len → s.base ≡ t.base → s.offset ≡ t.offset → s ≡ t
same_access s t d e f g h =
    by_numbers {A = ℕ × ℕ × ℕ × Base × Operand}
    (λ a. (a.1 < 4) × (1 ≤ a.2) × (4 * a.0 + a.1 + a.2 ≤ 120) × IsTrue (is_low_base a.3) × IsTrue (is_low_operand a.4)) (λ a. hlevel props)
    (λ a p. record {
      first = a.0;
      byte = a.1;
      len = a.2;
      base = a.3;
      offset = a.4;
      in_register = p.0;
      some_byte = p.1;
      below = p.2;
      low_base = p.3;
      low_offset = p.4;
    })
    (s.first, s.byte, s.len, s.base, s.offset) (t.first, t.byte, t.len, t.base, t.offset)
    (s.in_register, s.some_byte, s.below, s.low_base, s.low_offset) (t.in_register, t.some_byte, t.below, t.low_base, t.low_offset) (cc)

-- ---- what the numbers of a word give

pub transfer_found : (t : Transfer) (d f c : ℕ) → bank_at d ≡ Some t.bank → t.first ≡ f → t.count ≡ c → Some t ≡ transfer_at d f c
transfer_found t d f c e p q =
    let lower : 1 ≤ t.count = t.some_register in
    let upper : t.count ≤ 4 = t.at_most in
    let below : t.first + t.count ≤ 30 = t.below in
    let h : IsTrue (is_transfer f c) = grind (arith, nat_tests) in
    sym (ap (option_and_then _) e ∙ where_true-is (is_transfer f c) _ h ∙ ap Some (same_transfer _ t refl (sym p) (sym q)))

pub body_found : (b : LoopBody) (c l : ℕ) → b.count ≡ c % 256 + 1 → b.length ≡ l → Some b ≡ body_at c l
body_found b c l p q =
    let lower : 1 ≤ b.length = b.some_word in
    let upper : b.length ≤ 255 = b.short in
    let h : IsTrue (nat_lt 0 l && nat_le l 255) = grind (arith, nat_tests) in
    sym (where_true-is (nat_lt 0 l && nat_le l 255) _ h ∙ ap Some (same_body _ b (sym p) (sym q)))

pub access_found : (a : Access) (r : Row) → a.first ≡ r.low % 32 → a.byte ≡ r.top / 2 % 4 → a.len ≡ length_bits r + 1
    → Some a ≡ access_from r a.base a.offset
unfolding access_from
access_found a r p q s =
    let below : 4 * a.first + a.byte + a.len ≤ 120 = a.below in
    let low_base : IsTrue (is_low_base a.base) = a.low_base in
    let low_offset : IsTrue (is_low_operand a.offset) = a.low_offset in
    let h : IsTrue (is_low_base a.base && is_low_operand a.offset && nat_le (4 * (r.low % 32) + r.top / 2 % 4 + (length_bits r + 1))
    120) = grind (arith, nat_tests) in
    sym (where_true-is _ _ h ∙ ap Some (same_access _ a (sym p) (sym q) (sym s) refl refl))

pub access_refused : (r : Row) (b : Base) (o : Operand) (first byte len : ℕ) (fits : Bool)
    → fits ≡ (is_low_base b && is_low_operand o && nat_le (4 * first + byte + len) 120) → fits ≡ false → first ≡ r.low % 32
    → byte ≡ r.top / 2 % 4 → len ≡ length_bits r + 1 → None ≡ access_from r b o
unfolding access_from
access_refused r b o first byte len fits e h p q s =
    sym (where_true-none _ _ (ap (λ n. is_low_base b && is_low_operand o && nat_le n 120)
    (let sum : 4 * (r.low % 32) + r.top / 2 % 4 + (length_bits r + 1) ≡ 4 * first + byte + len = omega arith in sum) ∙ sym e ∙ h))
