-- A field that is read is the field that was written, and what was written is read again.
use Rattle.std.proofs.Common.{◌≡◌, ℕ, zero, suc, ◌+◌, ◌-◌, ◌^◌, ◌<◌, ◌≤◌, ◌==◌, not, Bool, true, false, cond, List, [], ◌∷◌, ◌++◌}
use Rattle.std.proofs.Common.{length, get_or, take, drop, replicate, Result, Ok, Err, refl, sym, ap, subst, ◌∙◌, append_assoc}
use Rattle.std.proofs.Common.{arith, inl, inr, nat_lt}
use Rattle.std.specs.Int.{w32, from_le_bytes, to_le_bytes}
use Rattle.std.specs.List.{list_all}
use Rattle.std.proofs.lemmas.Bool.{cases_lt, ltb-false, le-ltb, le-leb, leb-true, eqb-true, eq-eqb, and_parts, and_from}
use Rattle.std.proofs.lemmas.List.{take_at, drop_at, take-append-drop, length-append, length-take, length-drop}
use Rattle.std.proofs.lemmas.List.{length-replicate, get_or-drop, get_or-take, get_or_past}
use Rattle.std.proofs.lemmas.Nat.{le_bytes_4, from_le_bytes-to_le_bytes_4}
use Rattle.restable.specs.Names.{can_name}
use Rattle.restable.specs.Tables.{name_field}
use Rattle.restable.specs.Reading.{◌>>=◌, word_at, fixed_at, name_len, name_at}

abbrev pub IsBytes : List ℕ → Type 0
IsBytes bytes = (i : ℕ) → get_or bytes i 0 < 256

pub IsBytes-drop : (n : ℕ) (bytes : List ℕ) → IsBytes bytes → IsBytes (drop n bytes)
IsBytes-drop n bytes h i = rw get_or-drop (h (n + i))

IsBytes-take : (n : ℕ) (bytes : List ℕ) → IsBytes bytes → IsBytes (take n bytes)
IsBytes-take n bytes h i =
    elim (cases_lt i n) [
      | inl lt ↦ rw (get_or-take n bytes i 0 lt) (h i)
      | inr le ↦ rw (get_or_past (take n bytes) i 0 (omega (arith, length-take n bytes))) (omega arith)
    ]

-- the value of a step that did not fail
pub bind_ok : {A B : Type 0} (r : Result A ℕ) (f : A → Result B ℕ) (y : B) → (r >>= f) ≡ Ok y → (x : A) × (r ≡ Ok x) × (f x ≡ Ok y)
bind_ok (Ok x) f y e = (x, refl, e)
bind_ok (Err d) f y e = absurd (cc)

-- a test that did not fail
pub guard_ok : {A : Type 0} (b : Bool) (d : ℕ) (x y : A) → cond b (Err d) (Ok x) ≡ Ok y → (b ≡ false) × (x ≡ y)
guard_ok true d x y e = absurd (cc)
guard_ok false d x y e = (refl, cc)

pub guard_ended : {A : Type 0} (b : Bool) (d : ℕ) (x y : A) → cond b (Ok x) (Err d) ≡ Ok y → (b ≡ true) × (x ≡ y)
guard_ended true d x y e = (refl, cc)
guard_ended false d x y e = absurd (cc)

abbrev done : {A : Type 0} → A → Result A ℕ
done x = Ok x

pub ok_is : {A : Type 0} (x y : A) → done x ≡ done y → x ≡ y
ok_is x y e = cc

-- what a reader took from the front
pub record Takes (bytes text rest : List ℕ) : Type 0 where
  pub parts : bytes ≡ text ++ rest
  pub rest_fits : IsBytes rest

pub Takes-then : (a x b y c : List ℕ) → Takes a x b → Takes b y c → Takes a (x ++ y) c
Takes-then a x b y c p q = record {
  parts = p.parts ∙ ap (λ (t : List ℕ). x ++ t) q.parts ∙ sym (append_assoc x y c);
  rest_fits =
      q.rest_fits;
}

pub word_takes : (at : ℕ) (bytes : List ℕ) (n : ℕ) (rest : List ℕ) → IsBytes bytes → word_at at bytes ≡ Ok (n, rest)
    → Takes bytes (to_le_bytes w32 n) rest × (n < 2 ^ 32)
word_takes at bytes n rest fits e =
    let g = guard_ok (nat_lt (length bytes) 4) (at + length bytes) (from_le_bytes w32 (take 4 bytes), drop 4 bytes) (n, rest) e in
    let long : 4 ≤ length bytes = ltb-false _ _ g.0 in
    let n-is : from_le_bytes w32 (take 4 bytes) ≡ n = ap (λ (p : ℕ × List ℕ). p.0) g.1 in
    let rest-is : drop 4 bytes ≡ rest = ap (λ (p : ℕ × List ℕ). p.1) g.1 in
    let four = IsBytes-take 4 bytes fits in
    let front : to_le_bytes w32 n ≡ take 4 bytes = le_bytes_4 (take 4 bytes) n (omega (arith, length-take 4 bytes)) four (sym n-is) in (
      record {
        parts = sym (take-append-drop 4 bytes) ∙ ap (λ xs. xs ++ drop 4 bytes) (sym front) ∙ ap (λ r. to_le_bytes w32 n ++ r) rest-is;
        rest_fits = subst IsBytes rest-is (IsBytes-drop 4 bytes fits);
      },
      subst (λ m. m < 2 ^ 32) n-is (omega (arith, four 0, four 1, four 2, four 3)),
    )

pub word_again : (at n : ℕ) (rest : List ℕ) → n < 2 ^ 32 → word_at at (to_le_bytes w32 n ++ rest) ≡ Ok (n, rest)
word_again at n rest lt =
    let long : nat_lt (length (to_le_bytes w32 n ++ rest)) 4 ≡ false = le-ltb _ _ (omega (arith, length-append (to_le_bytes w32 n) rest)) in
    ap (λ t. cond t (Err (at + length (to_le_bytes w32 n ++ rest)))
    (Ok (from_le_bytes w32 (take 4 (to_le_bytes w32 n ++ rest)), drop 4 (to_le_bytes w32 n ++ rest)))) long
    ∙ ap (λ (m : ℕ). Ok (m, rest)) (from_le_bytes-to_le_bytes_4 n lt)

pub fixed_takes : (value at : ℕ) (bytes rest : List ℕ) → IsBytes bytes → fixed_at value at bytes ≡ Ok rest
    → Takes bytes (to_le_bytes w32 value) rest
unfolding fixed_at
fixed_takes value at bytes rest fits e =
    let b = bind_ok (word_at at bytes) (λ word. cond (word.0 == value) (Ok word.1) (Err at)) rest e in
    let g = guard_ended (b.0.0 == value) at b.0.1 rest b.2 in
    let t = word_takes at bytes b.0.0 b.0.1 fits b.1 in
    subst (λ (r : List ℕ). Takes bytes (to_le_bytes w32 value) r) g.1
    (subst (λ (n : ℕ). Takes bytes (to_le_bytes w32 n) b.0.1) (eqb-true b.0.0 value g.0) t.0)

pub fixed_again : (value at : ℕ) (rest : List ℕ) → value < 2 ^ 32 → fixed_at value at (to_le_bytes w32 value ++ rest) ≡ Ok rest
unfolding fixed_at
fixed_again value at rest lt =
    ap (λ r. r >>= λ word. cond (word.0 == value) (Ok word.1) (Err at)) (word_again at value rest lt)
    ∙ ap (λ t. cond t (Ok rest) (Err at)) (eq-eqb value value refl)

-- ---- names

abbrev is_zero : ℕ → Bool
is_zero b = b == 0

abbrev no_zero : ℕ → Bool
no_zero b = not (b == 0)

name_len-le : (field : List ℕ) → name_len field ≤ length field
name_len-le [] = omega arith
name_len-le (b ∷ field) = by (no_zero b) (name_len-le field)
  where
    by : (t : Bool) → name_len field ≤ length field → cond t (1 + name_len field) 0 ≤ length (b ∷ field)
    by true h = omega (arith, h)
    by false h = omega arith

front_has_none : (field : List ℕ) → list_all no_zero (take (name_len field) field) ≡ true
front_has_none [] = refl
front_has_none (b ∷ field) = by (no_zero b) refl (front_has_none field)
  where
    by : (t : Bool) → no_zero b ≡ t → list_all no_zero (take (name_len field) field) ≡ true
        → list_all no_zero (take (cond t (1 + name_len field) 0) (b ∷ field)) ≡ true
    by true e h = ap (λ k. list_all no_zero (take k (b ∷ field)))
        (let k : 1 + name_len field ≡ suc (name_len field) = omega arith in k) ∙ and_from (no_zero b) _ e h
    by false e h = refl

zeros : (field : List ℕ) → list_all is_zero field ≡ true → field ≡ replicate (length field) 0
zeros [] h = refl
zeros (b ∷ field) h =
    let parts = and_parts (is_zero b) (list_all is_zero field) h in
    ap (λ c. c ∷ field) (eqb-true b 0 parts.0) ∙ ap (λ xs. 0 ∷ xs) (zeros field parts.1)

all_zeros : (n : ℕ) → list_all is_zero (replicate n 0) ≡ true
all_zeros zero = refl
all_zeros (suc n) = all_zeros n

name_len_of : (name : List ℕ) (n : ℕ) → list_all no_zero name ≡ true → name_len (name ++ replicate n 0) ≡ length name
name_len_of [] zero h = refl
name_len_of [] (suc n) h = refl
name_len_of (b ∷ name) n h =
    let parts = and_parts (no_zero b) (list_all no_zero name) h in
    ap (λ t. cond t (1 + name_len (name ++ replicate n 0)) 0) parts.0 ∙ omega (arith, name_len_of name n parts.1)

-- the first bytes of a field make a name
pub front_names : (field : List ℕ) → length field ≤ 32 → can_name (take (name_len field) field) ≡ true
front_names field long = and_from _ _ (le-leb _ 32 (omega (arith, length-take (name_len field) field))) (front_has_none field)

pub name_takes : (at : ℕ) (bytes name rest : List ℕ) → IsBytes bytes → name_at at bytes ≡ Ok (name, rest)
    → Takes bytes (name_field name) rest
unfolding name_at
name_takes at bytes name rest fits e = by (nat_lt (length bytes) 32) refl e
  where
    by : (t : Bool) → nat_lt (length bytes) 32 ≡ t
        → cond {A = Result (List ℕ × List ℕ) ℕ} t (Err (at + length bytes))
        (cond (list_all is_zero (drop (name_len (take 32 bytes)) (take 32 bytes)))
        (Ok (take (name_len (take 32 bytes)) (take 32 bytes), drop 32 bytes)) (Err at)) ≡ Ok (name, rest)
        → Takes bytes (name_field name) rest
    by true is e = absurd (cc)
    by false is e =
        let field = take 32 bytes in
        let k = name_len field in
        let long : 32 ≤ length bytes = ltb-false _ _ is in
        let whole : length field ≡ 32 = omega (arith, length-take 32 bytes) in
        let g = guard_ended (list_all is_zero (drop k field)) at (take k field, drop 32 bytes) (name, rest) e in
        let name-is : take k field ≡ name = ap (λ (p : List ℕ × List ℕ). p.0) g.1 in
        let rest-is : drop 32 bytes ≡ rest = ap (λ (p : List ℕ × List ℕ). p.1) g.1 in
        let few : k ≤ length field = name_len-le field in
        let count : length (drop k field) ≡ 32 - length (take k field) = omega (arith, length-drop k field, length-take k field) in
        let filled : field ≡ name_field (take k field) = sym (take-append-drop k field)
        ∙ ap (λ xs. take k field ++ xs) (zeros (drop k field) g.0 ∙ ap (λ n. replicate n 0) count) in
        record {
          parts = sym (take-append-drop 32 bytes) ∙ ap (λ xs. xs ++ drop 32 bytes) filled
              ∙ ap (λ xs. name_field xs ++ drop 32 bytes) name-is ∙ ap (λ xs. name_field name ++ xs) rest-is;
          rest_fits = subst IsBytes rest-is (IsBytes-drop 32 bytes fits);
        }

pub name_again : (at : ℕ) (name rest : List ℕ) → can_name name ≡ true → name_at at (name_field name ++ rest) ≡ Ok (name, rest)
unfolding name_at
name_again at name rest h =
    let parts = and_parts _ (list_all no_zero name) h in
    let short : length name ≤ 32 = leb-true _ 32 parts.0 in
    let fill : List ℕ = replicate (32 - length name) 0 in
    let whole : length (name_field name) ≡ 32 = omega (arith, length-append name fill, length-replicate {A = ℕ} (32 - length name) 0) in
    let long : nat_lt (length (name_field name ++ rest)) 32 ≡ false = le-ltb _ _ (omega (arith, length-append (name_field name) rest)) in
    let front : take 32 (name_field name ++ rest) ≡ name_field name = take_at (name_field name) rest 32 whole in
    let back : drop 32 (name_field name ++ rest) ≡ rest = drop_at (name_field name) rest 32 whole in
    let many : name_len (name_field name) ≡ length name = name_len_of name (32 - length name) parts.1 in
    let filling : drop (length name) (name_field name) ≡ fill = drop_at name fill (length name) refl in
    let own : take (length name) (name_field name) ≡ name = take_at name fill (length name) refl in
    rw (long, front, back, many, filling, own, all_zeros (32 - length name)) refl
