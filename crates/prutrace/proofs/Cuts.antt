-- A text is cut at the first such byte.
use Rattle.std.proofs.Common.{◌≡◌, ◌==◌, ℕ, List, [], ◌∷◌, ◌++◌, Bool, true, false, Option, Some, None}
use Rattle.std.proofs.Common.{refl, sym, ap, ◌∙◌, cond, option_and_then, arith}
use Rattle.std.specs.Prelude.{IsTrue}
use Rattle.std.proofs.lemmas.Bool.{ne_eqb, eqb-true}
use Rattle.std.proofs.lemmas.Bool.Decides.{nat_tests}
use Rattle.textline.specs.Lines.{Lacks}
use Rattle.prutrace.specs.EventLines.{cut_at}

pub some_inj : {A : Type 0} {x y : A} → Some x ≡ Some y → x ≡ y
some_inj e = cc

pub bind_some : {A B : Type 0} (o : Option A) (f : A → Option B) (y : B) → option_and_then f o ≡ Some y
    → (x : A) × (o ≡ Some x) × (f x ≡ Some y)
bind_some None f y e = absurd (cc)
bind_some (Some x) f y e = (x, refl, e)

pub some_bind : {A B : Type 0} (o : Option A) (x : A) (f : A → Option B) → o ≡ Some x → option_and_then f o ≡ f x
some_bind o x f e = ap (option_and_then f) e

pub cut_lacks : (byte : ℕ) (text : List ℕ) → Lacks byte text → cut_at byte text ≡ None
unfolding cut_at
cut_lacks byte [] l = refl
cut_lacks byte (b ∷ text) l = rw (ne_eqb b byte l.0, cut_lacks byte text l.1)

cut_here : (byte : ℕ) (front behind : List ℕ) → Lacks byte front → cut_at byte (front ++ byte ∷ behind) ≡ Some (front, behind)
unfolding cut_at
cut_here byte [] behind l = let e : (byte == byte) ≡ true = grind (arith, nat_tests) in rw e
cut_here byte (b ∷ front) behind l = rw (ne_eqb b byte l.0, cut_here byte front behind l.1)

pub cut_found : (byte : ℕ) (text front behind : List ℕ) → Lacks byte front → text ≡ front ++ byte ∷ behind
    → cut_at byte text ≡ Some (front, behind)
cut_found byte text front behind l e = ap (cut_at byte) e ∙ cut_here byte front behind l

cut_step : (t : Bool) (byte b : ℕ) (text front behind : List ℕ) → (b == byte) ≡ t
    → ((f r : List ℕ) → cut_at byte text ≡ Some (f, r) → text ≡ f ++ byte ∷ r)
    → cond {A = Option (List ℕ × List ℕ)} t (Some ([], text))
    (option_and_then (λ parts. Some (b ∷ parts.0, parts.1)) (cut_at byte text)) ≡ Some (front, behind)
    → b ∷ text ≡ front ++ byte ∷ behind
cut_step true byte b text front behind is rest e =
    let pair = some_inj e in
    let f : [] ≡ front = ap (λ x. x.0) pair in
    let r : text ≡ behind = ap (λ x. x.1) pair in
    let same : b ≡ byte = eqb-true b byte is in
    let here : b ∷ text ≡ byte ∷ behind = cc in
    here ∙ ap (λ xs. xs ++ byte ∷ behind) f
cut_step false byte b text front behind is rest e =
    let cut = bind_some (cut_at byte text) _ (front, behind) e in
    let pair = some_inj cut.2 in
    let f : b ∷ cut.0.0 ≡ front = ap (λ x. x.0) pair in
    let r : cut.0.1 ≡ behind = ap (λ x. x.1) pair in
    ap (λ xs. b ∷ xs) (rest cut.0.0 cut.0.1 cut.1) ∙ ap (λ xs. b ∷ cut.0.0 ++ byte ∷ xs) r ∙ ap (λ xs. xs ++ byte ∷ behind) f

pub cut_back : (byte : ℕ) (text front behind : List ℕ) → cut_at byte text ≡ Some (front, behind) → text ≡ front ++ byte ∷ behind
unfolding cut_at
cut_back byte [] front behind e = absurd (cc)
cut_back byte (b ∷ text) front behind e = cut_step (b == byte) byte b text front behind refl (cut_back byte text) e

pub untrue : {P : Type 0} (b : Bool) → b ≡ false → (P → IsTrue b) → P → ⊥
untrue b is yields p = let h = yields p in cc
