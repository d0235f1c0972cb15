-- A text cut at the first such byte, and what its parts are then.
use Rattle.std.proofs.Common.{◌≡◌, ◌==◌, ℕ, List, [], ◌∷◌, ◌++◌, cond, refl, ap, ◌∙◌, arith, true, length}
use Rattle.std.proofs.lemmas.Bool.{ne_eqb}
use Rattle.std.proofs.lemmas.Bool.Decides.{nat_tests}
use Rattle.std.proofs.lemmas.List.Splits.{length-slice_split}
use Rattle.std.specs.List.{onto_first}
use Rattle.textline.specs.Lines.{Lacks}
use Rattle.asmword.specs.Blanks.{parts_of}

pub parts_cut : (byte : ℕ) (front behind : List ℕ) → Lacks byte front
    → parts_of byte (front ++ byte ∷ behind) ≡ front ∷ parts_of byte behind
parts_cut byte [] behind l =
    let e : (byte == byte) ≡ true = grind (arith, nat_tests) in
    ap (λ t. cond t ([] ∷ parts_of byte behind) (onto_first byte (parts_of byte behind))) e
parts_cut byte (b ∷ front) behind l =
    ap (λ t. cond t ([] ∷ parts_of byte (front ++ byte ∷ behind)) (onto_first b (parts_of byte (front ++ byte ∷ behind)))) (ne_eqb b byte
    l.0)
    ∙ ap (onto_first b) (parts_cut byte front behind l.1)

pub parts_whole : (byte : ℕ) (text : List ℕ) → Lacks byte text → parts_of byte text ≡ text ∷ []
parts_whole byte [] l = refl
parts_whole byte (b ∷ text) l =
    ap (λ t. cond t ([] ∷ parts_of byte text) (onto_first b (parts_of byte text))) (ne_eqb b byte l.0)
    ∙ ap (onto_first b) (parts_whole byte text l.1)

-- a text has a part
pub parts_some : (byte : ℕ) (text : List ℕ) → parts_of byte text ≡ [] → ⊥
parts_some byte text e = omega (arith, ap length e, length-slice_split (λ b. b == byte) text)
