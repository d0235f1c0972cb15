use Rattle.std.proofs.Common.{◌≡◌, ℕ, List, ◌++◌, ap, ◌∙◌, append_assoc, arith}
use Rattle.elfrec.proofs.header.HeaderRecord.append_to.Goals as goal

-- what was put behind one after the other
chained : (before i a b c : List ℕ) (one two three four : List ℕ) → one ≡ before ++ i → two ≡ one ++ a → three ≡ two ++ b
    → four ≡ three ++ c → four ≡ before ++ (i ++ (a ++ (b ++ c)))
chained before i a b c one two three four e f g h =
    h ∙ ap (λ (t : List ℕ). t ++ c) (g ∙ ap (λ (t : List ℕ). t ++ b) (f ∙ ap (λ (t : List ℕ). t ++ a) e)) ∙ simp append_assoc

pub returns-clause-bytes : goal.returns-clause-bytes
returns-clause-bytes c =
    chained c.args.out.now.items c.args.self.identification _ _ _ c.extend_from_slice.new.self.items c.append_halves.new.out.items
    c.append_words.new.out.items c.append_halves-2.new.out.items
    c.in_ok-extend_from_slice.ensures.items c.in_ok-append_halves.ensures c.in_ok-append_words.ensures c.in_ok-append_halves-2.ensures

pub returns-clause-fits : goal.returns-clause-fits
returns-clause-fits c = (
  (
    omega arith,
    (
      omega arith,
      (
        omega arith,
        (
          omega arith,
          (
            omega arith,
            (
              omega arith,
              (
                omega arith,
                (omega arith, (omega arith, (omega arith, (omega arith, (omega arith, (omega arith, tt)))))),
              ),
            ),
          ),
        ),
      ),
    ),
  ),
  omega arith,
)
