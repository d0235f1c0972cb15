-- A text cut at the first such byte, and what its lines and fields are then.
use Rattle.std.proofs.Common.{◌≡◌, ◌≢◌, ◌==◌, ℕ, suc, ◌+◌, ◌<◌, Bool, true, false, cond, length-append, List, [], ◌∷◌, ◌++◌, length}
use Rattle.std.proofs.Common.{take, drop, get_or, refl, sym, ap, ◌∙◌, arith, append_assoc, add-one, drop-cons, ◌⊎◌, inl, inr}
use Rattle.std.proofs.lemmas.Bool.{ne_eqb, eqb-true, eqb-false}
use Rattle.std.proofs.lemmas.List.Splits.{join_with_byte-slice_split, length-slice_split}
use Rattle.std.proofs.lemmas.List.{take_more, take-append-drop}
use Rattle.std.specs.List.{onto_first, AllByRecursion}
use Rattle.textline.specs.Lines.{Lacks, lines_of, fields_of, line_of, text_of}

Lacks_push : (byte : ℕ) (text : List ℕ) (b : ℕ) → Lacks byte text → b ≢ byte → Lacks byte (text ++ b ∷ [])
Lacks_push byte [] b l n = (n, tt)
Lacks_push byte (c ∷ text) b l n = (l.0, Lacks_push byte text b l.1 n)

-- the first bytes and one more
pub Lacks_more : (byte : ℕ) (text : List ℕ) (i : ℕ) → i < length text → Lacks byte (take i text) → get_or text i 0 ≢ byte
    → Lacks byte (take (i + 1) text)
Lacks_more byte text i h l n = rw (take_more text i 0 h) (Lacks_push byte (take i text) (get_or text i 0) l n)

-- the parts of a text at a place
pub cut_at : (text : List ℕ) (i byte : ℕ) → i < length text → get_or text i 0 ≡ byte → text ≡ take i text ++ byte ∷ drop (i + 1) text
cut_at text i byte h e =
    sym (take-append-drop i text) ∙ ap (λ xs. take i text ++ xs)
    (drop-cons text i 0 h ∙ ap (λ b. b ∷ drop (suc i) text) e ∙ ap (λ n. byte ∷ drop n text) (sym (add-one i)))

pub fields_cut : (front behind : List ℕ) → Lacks 32 front → fields_of (front ++ 32 ∷ behind) ≡ front ∷ fields_of behind
fields_cut [] behind l = refl
fields_cut (b ∷ front) behind l =
    ap (λ t. cond t ([] ∷ fields_of (front ++ 32 ∷ behind)) (onto_first b (fields_of (front ++ 32 ∷ behind)))) (ne_eqb b 32 l.0)
    ∙ ap (onto_first b) (fields_cut front behind l.1)

pub fields_whole : (line : List ℕ) → Lacks 32 line → fields_of line ≡ line ∷ []
fields_whole [] l = refl
fields_whole (b ∷ line) l =
    ap (λ t. cond t ([] ∷ fields_of line) (onto_first b (fields_of line))) (ne_eqb b 32 l.0)
    ∙ ap (onto_first b) (fields_whole line l.1)

pub lines_cut : (front behind : List ℕ) → Lacks 10 front → lines_of (front ++ 10 ∷ behind) ≡ front ∷ lines_of behind
lines_cut [] behind l = refl
lines_cut (b ∷ front) behind l =
    ap (λ t. cond t ([] ∷ lines_of (front ++ 10 ∷ behind)) (onto_first b (lines_of (front ++ 10 ∷ behind)))) (ne_eqb b 10 l.0)
    ∙ ap (onto_first b) (lines_cut front behind l.1)

pub lines_whole : (line : List ℕ) → 0 < length line → Lacks 10 line → lines_of line ≡ line ∷ []
lines_whole [] some l = absurd (omega arith)
lines_whole (b ∷ []) some l = ap (λ t. cond t ([] ∷ []) (onto_first b [])) (ne_eqb b 10 l.0)
lines_whole (b ∷ c ∷ line) some l =
    ap (λ t. cond t ([] ∷ lines_of (c ∷ line)) (onto_first b (lines_of (c ∷ line)))) (ne_eqb b 10 l.0)
    ∙ ap (onto_first b) (lines_whole (c ∷ line) (omega arith) l.1)

-- a line is its fields, joined again
pub line_back : (line : List ℕ) → line ≡ line_of (fields_of line)
line_back line = sym (join_with_byte-slice_split 32 line)

-- a line has a field
pub fields_some : (line : List ℕ) → fields_of line ≡ [] → ⊥
fields_some line e = omega (arith, ap length e, length-slice_split (λ b. b == 32) line)

-- what joins the front of the first part
onto_lacks : (byte b : ℕ) (parts : List (List ℕ)) (t : Bool) → b == byte ≡ t → AllByRecursion (Lacks byte) parts
    → AllByRecursion (Lacks byte) (cond t ([] ∷ parts) (onto_first b parts))
onto_lacks byte b parts true e all = (tt, all)
onto_lacks byte b [] false e all = ((eqb-false b byte e, tt), tt)
onto_lacks byte b (part ∷ parts) false e all = ((eqb-false b byte e, all.0), all.1)

-- no field has a space, and no line a line end
pub fields_lack : (line : List ℕ) → AllByRecursion (Lacks 32) (fields_of line)
fields_lack [] = (tt, tt)
fields_lack (b ∷ line) = onto_lacks 32 b (fields_of line) (b == 32) refl (fields_lack line)

pub lines_lack : (text : List ℕ) → AllByRecursion (Lacks 10) (lines_of text)
lines_lack [] = tt
lines_lack (b ∷ text) = onto_lacks 10 b (lines_of text) (b == 10) refl (lines_lack text)

-- fields that make a line are its fields
pub fields_again : (fields : List (List ℕ)) → 0 < length fields → AllByRecursion (Lacks 32) fields → fields_of (line_of fields) ≡ fields
fields_again [] some all = absurd (omega arith)
fields_again (field ∷ []) some all = fields_whole field all.0
fields_again (field ∷ next ∷ fields) some all =
    fields_cut field (line_of (next ∷ fields)) all.0 ∙ ap (λ fs. field ∷ fs) (fields_again (next ∷ fields) (omega arith) all.1)

-- lines that make a text, and a last one without its end, are its lines
pub lines_again : (lines : List (List ℕ)) (rest : List ℕ) → AllByRecursion (Lacks 10) lines
    → lines_of (text_of lines ++ rest) ≡ lines ++ lines_of rest
lines_again [] rest all = refl
lines_again (line ∷ lines) rest all =
    ap lines_of (append_assoc (line ++ 10 ∷ []) (text_of lines) rest ∙ append_assoc line (10 ∷ []) (text_of lines ++ rest))
    ∙ lines_cut line (text_of lines ++ rest) all.0
    ∙ ap (λ ls. line ∷ ls) (lines_again lines rest all.1)

-- a text is its lines, each with its end or the last without it
pub lines_back : (text : List ℕ) → (text ≡ text_of (lines_of text)) ⊎ (text ++ 10 ∷ [] ≡ text_of (lines_of text))
lines_back [] = inl refl
lines_back (b ∷ text) = step (lines_of text) (b == 10) refl (lines_back text)
  where
    step : (lines : List (List ℕ)) (t : Bool) → b == 10 ≡ t → (text ≡ text_of lines) ⊎ (text ++ 10 ∷ [] ≡ text_of lines)
        → (b ∷ text ≡ text_of (cond t ([] ∷ lines) (onto_first b lines)))
        ⊎ (b ∷ text ++ 10 ∷ [] ≡ text_of (cond t ([] ∷ lines) (onto_first b lines)))
    step lines true e (inl h) = inl (ap (λ c. c ∷ text) (eqb-true b 10 e) ∙ ap (λ xs. 10 ∷ xs) h)
    step lines true e (inr h) = inr (ap (λ c. c ∷ text ++ 10 ∷ []) (eqb-true b 10 e) ∙ ap (λ xs. 10 ∷ xs) h)
    step [] false e (inl h) = inr (ap (λ xs. b ∷ xs ++ 10 ∷ []) h)
    step [] false e (inr h) = absurd (omega (arith, ap length h, length-append text (10 ∷ [])))
    step (line ∷ lines) false e (inl h) = inl (ap (λ xs. b ∷ xs) h)
    step (line ∷ lines) false e (inr h) = inr (ap (λ xs. b ∷ xs) h)
