-- Values whose type keeps their ranges, found by their numbers.
use Rattle.std.proofs.Common.{◌≡◌, ℕ, ◌+◌, ◌*◌, ◌<◌, ◌≤◌, arith, refl, ap, sym, subst, ◌∙◌, Some}
use Rattle.std.specs.Prelude.{IsTrue, nat_lt}
use Rattle.std.proofs.Props.{props}
use Rattle.std.proofs.lemmas.Bool.{and_from, lt-ltb, le-leb}
use Rattle.std.proofs.lemmas.Bool.Decides.{nat_tests}
use Rattle.isa.specs.declared.access.Access.{Access}
use Rattle.isa.specs.declared.access.Base.{Base}
use Rattle.isa.specs.declared.field.Field.{Field}
use Rattle.isa.specs.declared.field.Operand.{Operand}
use Rattle.isa.specs.declared.field.Part.{Part}
use Rattle.isa.specs.Low.{is_low_base, is_low_operand}
use Rattle.isa.proofs.Ranged.{where_true-is, same_field}
use Rattle.asmword.specs.Instructions.{field_at, is_access, access_at}

pub field_found : (f : Field) (n : ℕ) (part : Part) → f.reg ≡ n → f.part ≡ part → Some f ≡ field_at n part
field_found f n part e g =
    let below : f.reg < 32 = f.in_range in
    let h : IsTrue (nat_lt n 32) = grind (arith, nat_tests) in
    sym (where_true-is (nat_lt n 32) _ h ∙ ap Some (same_field _ f (sym e) (sym g)))

by_numbers : {A X : Type 0} (P : A → Type 0) → ((a : A) → IsProp (P a)) → (make : (a : A) → P a → X) → (a b : A) (p : P a) (q : P b)
    → a ≡ b → make a p ≡ make b q
by_numbers P once make a b p q e = (subst (λ x. (q : P x) → make a p ≡ make x q) e (λ q. ap (make a) (once a p q))) q

same_access : (s t : Access) → s.first ≡ t.first → s.byte ≡ t.byte → s.len ≡ t.len → s.base ≡ t.base → s.offset ≡ t.offset → s ≡ t
same_access s t d e f g h =
    by_numbers {A = ℕ × ℕ × ℕ × Base × Operand}
    (λ a. (a.1 < 4) × (1 ≤ a.2) × (4 * a.0 + a.1 + a.2 ≤ 120) × IsTrue (is_low_base a.3) × IsTrue (is_low_operand a.4)) (λ a. hlevel props)
    (λ a p. record {
      first = a.0;
      byte = a.1;
      len = a.2;
      base = a.3;
      offset = a.4;
      in_register = p.0;
      some_byte = p.1;
      below = p.2;
      low_base = p.3;
      low_offset = p.4;
    })
    (s.first, s.byte, s.len, s.base, s.offset) (t.first, t.byte, t.len, t.base, t.offset)
    (s.in_register, s.some_byte, s.below, s.low_base, s.low_offset) (t.in_register, t.some_byte, t.below, t.low_base, t.low_offset) (cc)

pub is_access-of : (a : Access) → IsTrue (is_access a.first a.byte a.len a.base a.offset)
is_access-of a =
    and_from _ _ (and_from _ _ a.low_base a.low_offset)
    (and_from _ _ (lt-ltb _ _ a.in_register) (and_from _ _ (le-leb _ _ a.some_byte) (le-leb _ _ a.below)))

access_again : (a : Access) → access_at a.first a.byte a.len a.base a.offset ≡ Some a
unfolding access_at
access_again a = where_true-is _ _ (is_access-of a) ∙ ap Some (same_access _ a refl refl refl refl refl)

pub access_found : (a : Access) (first byte len : ℕ) (b : Base) (o : Operand) → a.first ≡ first → a.byte ≡ byte → a.len ≡ len → a.base ≡ b
    → a.offset ≡ o → Some a ≡ access_at first byte len b o
access_found a first byte len b o e f g h k = sym (access_again a) ∙ five e f g h k
  where
    five : {f g m n p q : ℕ} {b c : Base} {o r : Operand} → f ≡ g → m ≡ n → p ≡ q → b ≡ c → o ≡ r
        → access_at f m p b o ≡ access_at g n q c r
    five e f g h k = cc
