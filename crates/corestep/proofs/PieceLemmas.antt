-- Ranges of bytes, pieces of accesses and moves of registers, one more at a time.
use Rattle.std.proofs.Common.{◌≡◌, ℕ, zero, suc, ◌+◌, ◌*◌, ◌%◌, ◌^◌, ◌<◌, ◌≤◌, Bool, true, false, List, [], ◌∷◌, ◌++◌, length}
use Rattle.std.proofs.Common.{take, drop, get_or, refl, sym, ap, ◌∙◌, arith, append_assoc, length-append}
use Rattle.std.specs.List.{flat_map}
use Rattle.std.proofs.lemmas.List.{append-nil, take_at, drop_at, take_more, drop-drop, length-take-le}
use Rattle.std.proofs.lemmas.Grind.{flat_map-append}
use Rattle.prutrace.specs.declared.event.Event.{Event}
use Rattle.prutrace.specs.declared.event.Place.TheVariants.{Addr, Pad}
use Rattle.prunum.specs.Bytes.{little_bytes, little_number}
use Rattle.prunum.specs.declared.width.Width.TheVariants.{B4}
use Rattle.corestep.specs.Fields.{with_bytes, register}
use Rattle.corestep.specs.Pieces.{access_event, access_events, pad_events}
use Rattle.corestep.specs.Effect.{numbers_from}

-- ---- pieces

-- four bytes a piece, but for the last three
pub few_events : (store : Bool) (addr : ℕ) (bytes : List ℕ) → 4 * length (access_events store addr bytes) ≤ length bytes + 5
few_events store addr [] = omega arith
few_events store addr (a ∷ []) = omega arith
few_events store addr (a ∷ b ∷ []) = omega arith
few_events store addr (a ∷ b ∷ c ∷ []) = omega arith
few_events store addr (a ∷ b ∷ c ∷ d ∷ bytes) = let ih = few_events store ((addr + 4) % 2 ^ 32) bytes in omega arith

pub four_event : (store : Bool) (addr : ℕ) (four : List ℕ) → length four ≡ 4
    → access_events store addr four ≡ access_event store (Addr addr) B4 (little_number 4 four) ∷ []
four_event store addr [] h = absurd (omega arith)
four_event store addr (a ∷ []) h = absurd (omega arith)
four_event store addr (a ∷ b ∷ []) h = absurd (omega arith)
four_event store addr (a ∷ b ∷ c ∷ []) h = absurd (omega arith)
four_event store addr (a ∷ b ∷ c ∷ d ∷ []) h = refl
four_event store addr (a ∷ b ∷ c ∷ d ∷ e ∷ bytes) h = absurd (omega arith)

pub next_events : (store : Bool) (addr : ℕ) (bytes : List ℕ) → 4 ≤ length bytes
    → access_events store addr bytes ≡ access_events store addr (take 4 bytes) ++ access_events store ((addr + 4) % 2 ^ 32) (drop 4 bytes)
next_events store addr [] h = absurd (omega arith)
next_events store addr (a ∷ []) h = absurd (omega arith)
next_events store addr (a ∷ b ∷ []) h = absurd (omega arith)
next_events store addr (a ∷ b ∷ c ∷ []) h = absurd (omega arith)
next_events store addr (a ∷ b ∷ c ∷ d ∷ bytes) h = refl

-- one turn of the loop
one_turn : (old new now next all : List Event) (rest : List Event) → new ≡ old ++ now → rest ≡ now ++ next → old ++ rest ≡ all
    → new ++ next ≡ all
one_turn old new now next all rest is splits inv =
    ap (λ (es : List Event). es ++ next) is ∙ append_assoc old now next ∙ ap (λ (es : List Event). old ++ es) (sym splits) ∙ inv

pub pieces_turn : (store : Bool) (at : ℕ) (old new all : List Event) (rest four behind : List ℕ) → 4 ≤ length rest → four ≡ take 4 rest
    → behind ≡ drop 4 rest
    → new ≡ old ++ access_events store at four → old ++ access_events store at rest ≡ all → length all ≤ 40
    → (new ++ access_events store ((at + 4) % 2 ^ 32) behind ≡ all)
    × (length new + length (access_events store ((at + 4) % 2 ^ 32) behind) ≤ 40)
pieces_turn store at old new all rest four behind h f b is inv fits =
    let now : List Event = access_events store at four in
    let next : List Event = access_events store ((at + 4) % 2 ^ 32) behind in
    let splits : access_events store at rest ≡ now ++ next =
    next_events store at rest h
    ∙ ap (λ (xs : List ℕ). access_events store at xs ++ access_events store ((at + 4) % 2 ^ 32) (drop 4 rest)) (sym f)
    ∙ ap (λ (xs : List ℕ). now ++ access_events store ((at + 4) % 2 ^ 32) xs) (sym b) in
    let whole : new ++ next ≡ all = one_turn old new now next all (access_events store at rest) is splits inv in
    (whole, omega (arith, length-append new next, ap length whole))

-- ---- ranges

pub with_bytes-append : (at : ℕ) (a b l : List ℕ) → at + length a ≤ length l
    → with_bytes (at + length a) b (with_bytes at a l) ≡ with_bytes at (a ++ b) l
with_bytes-append at a b l h =
    let front : List ℕ = take at l in
    let k : ℕ = at + length a in
    let behind : List ℕ = drop k l in
    let whole : List ℕ = front ++ (a ++ behind) in
    let long : length (front ++ a) ≡ k = omega (arith, length-append front a, length-take-le at l (omega arith)) in
    let regroup : whole ≡ (front ++ a) ++ behind = sym (append_assoc front a behind) in
    let first : take k whole ≡ front ++ a = ap (take k) regroup ∙ take_at (front ++ a) behind k long in
    let last : drop k whole ≡ behind = ap (drop k) regroup ∙ drop_at (front ++ a) behind k long in
    let rest : drop (k + length b) whole ≡ drop (k + length b) l = sym (drop-drop (length b) k whole) ∙ ap (drop (length b)) last
    ∙ drop-drop (length b) k l in
    ap (λ (xs : List ℕ). xs ++ (b ++ drop (k + length b) whole)) first
    ∙ ap (λ (xs : List ℕ). (front ++ a) ++ (b ++ xs)) rest
    ∙ append_assoc front a (b ++ drop (k + length b) l)
    ∙ ap (λ (xs : List ℕ). front ++ xs) (sym (append_assoc a b (drop (k + length b) l)))
    ∙ ap (λ (n : ℕ). front ++ ((a ++ b) ++ drop n l)) (omega (arith, length-append a b))

-- ---- registers of the scratchpad

length-words : (xs : List ℕ) → length (flat_map (little_bytes 4) xs) ≡ 4 * length xs
length-words [] = omega arith
length-words (x ∷ xs) = let ih = length-words xs in omega arith

pub moved_more : (first k : ℕ) (pads registers : List ℕ) → k < length pads → 4 * first + 4 * k ≤ length registers
    → with_bytes (4 * (first + k)) (little_bytes 4 (get_or pads k 0))
    (with_bytes (4 * first) (flat_map (little_bytes 4) (take k pads)) registers)
    ≡ with_bytes (4 * first) (flat_map (little_bytes 4) (take (k + 1) pads)) registers
moved_more first k pads registers h room =
    let moved : List ℕ = flat_map (little_bytes 4) (take k pads) in
    let long : length moved ≡ 4 * k = omega (arith, length-words (take k pads), length-take-le k pads (omega arith)) in
    let value : List ℕ = little_bytes 4 (get_or pads k 0) in
    ap (λ (n : ℕ). with_bytes n value (with_bytes (4 * first) moved registers)) (omega arith)
    ∙ with_bytes-append (4 * first) moved value registers (omega arith)
    ∙ ap (λ (xs : List ℕ). with_bytes (4 * first) xs registers)
    (ap (λ (xs : List ℕ). moved ++ xs) (sym (append-nil value))
    ∙ sym (flat_map-append (little_bytes 4) (take k pads) (get_or pads k 0 ∷ []))
    ∙ ap (flat_map (little_bytes 4)) (sym (take_more pads k 0 h)))

pad_events-append : (store : Bool) (bank r : ℕ) (xs ys : List ℕ)
    → pad_events store bank r (xs ++ ys) ≡ pad_events store bank r xs ++ pad_events store bank (r + length xs) ys
pad_events-append store bank r [] ys = ap (λ (n : ℕ). pad_events store bank n ys) (omega arith)
pad_events-append store bank r (x ∷ xs) ys =
    ap (λ (es : List Event). access_event store (Pad bank r) B4 x ∷ es)
    (pad_events-append store bank (r + 1) xs ys
    ∙ ap (λ (n : ℕ). pad_events store bank (r + 1) xs ++ pad_events store bank n ys) (omega arith))

pub pads_more : (store : Bool) (bank r k : ℕ) (xs : List ℕ) → k < length xs
    → pad_events store bank r (take (k + 1) xs)
    ≡ pad_events store bank r (take k xs) ++ access_event store (Pad bank (r + k)) B4 (get_or xs k 0) ∷ []
pads_more store bank r k xs h =
    ap (pad_events store bank r) (take_more xs k 0 h) ∙ pad_events-append store bank r (take k xs) (get_or xs k 0 ∷ [])
    ∙ ap (λ (n : ℕ). pad_events store bank r (take k xs) ++ access_event store (Pad bank (r + n)) B4 (get_or xs k 0) ∷ [])
    (length-take-le k xs (omega arith))

length-numbers_from : (registers : List ℕ) (r k : ℕ) → length (numbers_from registers r k) ≡ k
length-numbers_from registers r zero = refl
length-numbers_from registers r (suc k) = ap suc (length-numbers_from registers (r + 1) k)

numbers_from-more : (registers : List ℕ) (r k : ℕ)
    → numbers_from registers r (suc k) ≡ numbers_from registers r k ++ register registers (r + k) ∷ []
numbers_from-more registers r zero = ap (λ (n : ℕ). register registers n ∷ []) (omega arith)
numbers_from-more registers r (suc k) =
    ap (λ (xs : List ℕ). register registers r ∷ xs)
    (numbers_from-more registers (r + 1) k ∙ ap (λ (n : ℕ). numbers_from registers (r + 1) k ++ register registers n ∷ []) (omega arith))

pub moved_out_more : (bank r k : ℕ) (registers : List ℕ)
    → pad_events true bank r (numbers_from registers r (k + 1))
    ≡ pad_events true bank r (numbers_from registers r k) ++ access_event true (Pad bank (r + k)) B4 (register registers (r + k)) ∷ []
moved_out_more bank r k registers =
    let next : k + 1 ≡ suc k = omega arith in
    ap (λ (n : ℕ). pad_events true bank r (numbers_from registers r n)) next
    ∙ ap (pad_events true bank r) (numbers_from-more registers r k)
    ∙ pad_events-append true bank r (numbers_from registers r k) (register registers (r + k) ∷ [])
    ∙ ap (λ (n : ℕ). pad_events true bank r (numbers_from registers r k)
    ++ access_event true (Pad bank (r + n)) B4 (register registers (r + k)) ∷ []) (length-numbers_from registers r k)

-- one turn of a move in, and of one out
pub xin_turn : (bank first k : ℕ) (pads registers cur new : List ℕ) (events before after : List Event) → k < length pads
    → 4 * first + 4 * k ≤ length registers
    → cur ≡ with_bytes (4 * first) (flat_map (little_bytes 4) (take k pads)) registers
    → before ≡ events ++ pad_events false bank first (take k pads) → length before ≤ length events + k
    → new ≡ with_bytes (4 * (first + k)) (little_bytes 4 (get_or pads k 0)) cur
    → after ≡ before ++ access_event false (Pad bank (first + k)) B4 (get_or pads k 0) ∷ []
    → (new ≡ with_bytes (4 * first) (flat_map (little_bytes 4) (take (k + 1) pads)) registers)
    × (after ≡ events ++ pad_events false bank first (take (k + 1) pads)) × (length after ≤ length events + (k + 1))
xin_turn bank first k pads registers cur new events before after h room moved shown few put pushed =
    let event : Event = access_event false (Pad bank (first + k)) B4 (get_or pads k 0) in (
      put ∙ ap (with_bytes (4 * (first + k)) (little_bytes 4 (get_or pads k 0))) moved ∙ moved_more first k pads registers h room,
      pushed ∙ ap (λ (es : List Event). es ++ event ∷ []) shown
          ∙ append_assoc events (pad_events false bank first (take k pads)) (event ∷ [])
          ∙ ap (λ (es : List Event). events ++ es) (sym (pads_more false bank first k pads h)),
      omega (arith, ap length pushed, length-append before (event ∷ [])),
    )

pub xout_turn : (bank first k : ℕ) (registers : List ℕ) (events before after : List Event)
    → before ≡ events ++ pad_events true bank first (numbers_from registers first k) → length before ≤ length events + k
    → after ≡ before ++ access_event true (Pad bank (first + k)) B4 (register registers (first + k)) ∷ []
    → (after ≡ events ++ pad_events true bank first (numbers_from registers first (k + 1))) × (length after ≤ length events + (k + 1))
xout_turn bank first k registers events before after shown few pushed =
    let event : Event = access_event true (Pad bank (first + k)) B4 (register registers (first + k)) in (
      pushed ∙ ap (λ (es : List Event). es ++ event ∷ []) shown
          ∙ append_assoc events (pad_events true bank first (numbers_from registers first k)) (event ∷ [])
          ∙ ap (λ (es : List Event). events ++ es) (sym (moved_out_more bank first k registers)),
      omega (arith, ap length pushed, length-append before (event ∷ [])),
    )
