-- The values that a word's own events read are what it takes of them.
use Rattle.std.proofs.Common.{◌≡◌, ℕ, zero, suc, ◌+◌, ◌*◌, ◌/◌, ◌%◌, ◌^◌, ◌<◌, ◌≤◌, Bool, true, false, cond, List, [], ◌∷◌, ◌++◌}
use Rattle.std.proofs.Common.{length, map, take, drop, replicate, Option, Some, None, refl, sym, ap, subst, ◌∙◌, arith, inl, inr}
use Rattle.std.proofs.Common.{append_assoc, length-take}
use Rattle.std.specs.Prelude.{option_map, option_to_list, nat_lt, nat_eq}
use Rattle.std.specs.List.{AllByRecursion}
use Rattle.std.proofs.Math.Nat.{mod-eq_of_lt}
use Rattle.std.proofs.lemmas.Bool.{cases_lt, lt-ltb, le-ltb, eqb-false, eq-eqb}
use Rattle.std.proofs.lemmas.List.{append-nil, length-take-le}
use Rattle.prunum.specs.declared.width.Width.{Width}
use Rattle.prunum.specs.declared.width.Width.TheVariants.{B1, B2, B4}
use Rattle.prunum.specs.Width.{byte_count}
use Rattle.prunum.specs.Bytes.{little_bytes, little_number}
use Rattle.prutrace.specs.declared.event.Place.TheVariants.{Reg30, Reg31, Addr}
use Rattle.prutrace.specs.declared.event.Event.{Event}
use Rattle.prutrace.specs.declared.event.Event.TheVariants.{Read, Write, Enter, Leave, DelayIn, DelayOut, Halted}
use Rattle.corestep.specs.Pieces.{Piece, pieces, access_event, access_events, pad_events}
use Rattle.corerun.specs.Values.{Taken, and_take, take_word, take_bytes, take_words, values_of}
use Rattle.corerun.specs.Fits.{AreBytes}

-- ---- lists of events

pub values_of-append : (xs ys : List Event) → values_of (xs ++ ys) ≡ values_of xs ++ values_of ys
values_of-append [] ys = refl
values_of-append (Read place width value ∷ xs) ys = ap (λ (vs : List ℕ). value ∷ vs) (values_of-append xs ys)
values_of-append (Write place width value ∷ xs) ys = values_of-append xs ys
values_of-append (Enter n ∷ xs) ys = values_of-append xs ys
values_of-append (Leave n ∷ xs) ys = values_of-append xs ys
values_of-append (DelayIn n ∷ xs) ys = values_of-append xs ys
values_of-append (DelayOut n ∷ xs) ys = values_of-append xs ys
values_of-append (Halted ∷ xs) ys = values_of-append xs ys

pub mark_reads_nothing : (event : ℕ → Event) → ((n : ℕ) → values_of (event n ∷ []) ≡ []) → (o : Option ℕ)
    → values_of (option_to_list (option_map event o)) ≡ []
mark_reads_nothing event nothing None = refl
mark_reads_nothing event nothing (Some n) = nothing n

pub write_reads_nothing : (b c : Bool) (x y : ℕ) → values_of (cond b (Write Reg30 B4 x ∷ []) (cond c (Write Reg31 B4 y ∷ []) [])) ≡ []
write_reads_nothing true c x y = refl
write_reads_nothing false true x y = refl
write_reads_nothing false false x y = refl

-- ---- numbers and their bytes

same_head : (x y : ℕ) (xs ys : List ℕ) → x ≡ y → xs ≡ ys → x ∷ xs ≡ y ∷ ys
same_head x y xs ys e f = ap (λ (n : ℕ). n ∷ xs) e ∙ ap (λ (l : List ℕ). y ∷ l) f

one_again : (a : ℕ) → a < 256 → little_bytes 1 a ≡ a ∷ []
one_again a ha = same_head _ _ _ _ (omega arith) refl

two_again : (a b : ℕ) → a < 256 → b < 256 → little_bytes 2 (little_number 2 (a ∷ b ∷ [])) ≡ a ∷ b ∷ []
two_again a b ha hb = same_head _ _ _ _ (omega arith) (same_head _ _ _ _ (omega arith) refl)

four_again : (a b c d : ℕ) → a < 256 → b < 256 → c < 256 → d < 256
    → little_bytes 4 (little_number 4 (a ∷ b ∷ c ∷ d ∷ [])) ≡ a ∷ b ∷ c ∷ d ∷ []
four_again a b c d ha hb hc hd =
    same_head _ _ _ _ (omega arith)
    (same_head _ _ _ _ (omega arith) (same_head _ _ _ _ (omega arith) (same_head _ _ _ _ (omega arith) refl)))

-- ---- pieces

load_values : (ps : List Piece) → values_of (map (λ p. access_event false (Addr p.addr) p.width p.value) ps) ≡ map (λ p. p.value) ps
load_values [] = refl
load_values (p ∷ ps) = ap (λ (vs : List ℕ). p.value ∷ vs) (load_values ps)

pieces_taken : (addr at : ℕ) (bytes values : List ℕ) → AreBytes bytes
    → take_bytes (map (λ p. p.width) (pieces at (replicate (length bytes) 0))) (map (λ p. p.value) (pieces addr bytes) ++ values)
    ≡ Some (bytes, values)
pieces_taken addr at [] values small = refl
pieces_taken addr at (a ∷ []) values small = ap (λ (bs : List ℕ). Some (bs, values)) (ap (λ (bs : List ℕ). bs ++ []) (one_again a small.0))
pieces_taken addr at (a ∷ b ∷ []) values small =
    ap (λ (bs : List ℕ). Some (bs, values)) (ap (λ (bs : List ℕ). bs ++ []) (two_again a b small.0 small.1.0))
pieces_taken addr at (a ∷ b ∷ c ∷ []) values small =
    ap (λ (bs : List ℕ). Some (bs, values))
    (ap (λ (bs : List ℕ). bs ++ (little_bytes 1 c ++ [])) (two_again a b small.0 small.1.0)
    ∙ ap (λ (bs : List ℕ). a ∷ b ∷ bs ++ []) (one_again c small.1.1.0))
pieces_taken addr at (a ∷ b ∷ c ∷ d ∷ bytes) values small =
    let n : ℕ = little_number 4 (a ∷ b ∷ c ∷ d ∷ []) in
    let rest = pieces_taken ((addr + 4) % 2 ^ 32) ((at + 4) % 2 ^ 32) bytes values small.1.1.1.1 in
    ap (λ (t : Taken (List ℕ)). and_take t (λ bs left. Some (little_bytes 4 n ++ bs, left))) rest
    ∙ ap (λ (bs : List ℕ). Some (bs ++ bytes, values)) (four_again a b c d small.0 small.1.0 small.1.1.0 small.1.1.1.0)

pub load_taken : (addr : ℕ) (bytes values : List ℕ) → AreBytes bytes
    → take_bytes (map (λ p. p.width) (pieces 0 (replicate (length bytes) 0))) (values_of (access_events false addr bytes) ++ values)
    ≡ Some (bytes, values)
load_taken addr bytes values small =
    ap (λ (vs : List ℕ). take_bytes (map (λ p. p.width) (pieces 0 (replicate (length bytes) 0))) (vs ++ values))
    (load_values (pieces addr bytes))
    ∙ pieces_taken addr 0 bytes values small

-- ---- registers of the scratchpad

pub pads_taken : (bank r : ℕ) (pads values : List ℕ) → AllByRecursion (λ v. v < 2 ^ 32) pads
    → take_words (length pads) (values_of (pad_events false bank r pads) ++ values) ≡ Some (pads, values)
pads_taken bank r [] values small = refl
pads_taken bank r (v ∷ pads) values small =
    let rest = pads_taken bank (r + 1) pads values small.1 in
    ap (λ (n : ℕ). and_take (take_words (length pads) (values_of (pad_events false bank (r + 1) pads) ++ values))
    (λ vs left. Some (n ∷ vs, left))) (mod-eq_of_lt small.0)
    ∙ ap (λ (t : Taken (List ℕ)). and_take t (λ vs left. Some (v ∷ vs, left))) rest
