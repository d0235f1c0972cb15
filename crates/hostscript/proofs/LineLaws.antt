-- A line is read as it is printed, and what is read is printed so.
use Rattle.std.proofs.Common.{◌≡◌, ℕ, ◌^◌, ◌<◌, ◌≤◌, Bool, true, false, cond, ◌&&◌, ◌||◌, ◌==◌, nat_le, List, [], ◌∷◌, ◌++◌, length}
use Rattle.std.proofs.Common.{map, drop, Option, Some, None, Result, Ok, Err, refl, sym, ap, ◌∙◌, arith, codes, subst}
use Rattle.std.proofs.Common.{option_and_then, ◌⊎◌, inl, inr}
use Rattle.std.specs.Option.{ok_or, option_map}
use Rattle.std.specs.List.{list_all, AllByRecursion, slice_get}
use Rattle.std.specs.Char.{is_ascii_digit}
use Rattle.std.specs.Str.{bytes_eq}
use Rattle.std.specs.Fmt.{decimal}
use Rattle.std.proofs.lemmas.Bool.{ne_eqb, and_parts, and_from, le-leb, leb-true}
use Rattle.std.proofs.lemmas.Bool.Decides.{nat_tests}
use Rattle.std.proofs.lemmas.Option.{cond_some}
use Rattle.std.proofs.lemmas.Slice.Eq.{bytes_eq-Decides}
use Rattle.textline.specs.Numbers.{is_decimal, is_hex_digit, decimal_in, hex_in, hex_digits}
use Rattle.textline.specs.Lines.{Lacks, line_of, fields_of}
use Rattle.textline.proofs.DecimalLaws.{decimal_reads}
use Rattle.textline.proofs.HexLaws.{hex_reads}
use Rattle.textline.proofs.SplitLaws.{fields_again, line_back}
use Rattle.prunum.specs.Width.{byte_count}
use Rattle.hostscript.specs.declared.cause.ScriptCause.{ScriptCause}
use Rattle.hostscript.specs.declared.cause.ScriptCause.TheVariants.{Form, Range, Order}
use Rattle.hostscript.specs.declared.fault.LineFault.TheVariants as faults
use Rattle.hostscript.specs.declared.action.Action.{Action}
use Rattle.hostscript.specs.declared.action.Action.TheVariants.{Poke, Pins, Event, Start}
use Rattle.hostscript.specs.declared.action.Act.{Act}
use Rattle.hostscript.specs.declared.line.Saying.{Saying}
use Rattle.hostscript.specs.declared.line.Saying.TheVariants.{Nothing, Does, Waits}
use Rattle.hostscript.specs.Acts.{IsAction, IsAct, IsArb, action_fields, act_fields, act_text, arb_fields}
use Rattle.hostscript.specs.Forms.{is_skipped, has_form, has_act_form, has_arb_form}
use Rattle.hostscript.specs.Lines.{Says, Misfits, NamesCore}
use Rattle.hostscript.specs.Reading.{◌>>=◌, at_end, poke_of, poke_in, pins_in, event_in, start_in, action_in}
use Rattle.hostscript.specs.Reading.{act_in, small_numbers, arb_in, fields_said, said_in}
use Rattle.hostscript.proofs.ActLaws.{bind_ok, field_ok, range_ok, choice_ok, some_field, decimal_back}
use Rattle.hostscript.proofs.ActLaws.{act_back, act_there, poke_small, value_small, count_small}
use Rattle.hostscript.proofs.NumberLaws.{is_decimal_told, small_step}
use Rattle.hostscript.proofs.FormLaws.{formed, formed_said}

-- no byte below '0'
abbrev high_bytes : List ℕ → Bool
high_bytes word = list_all (λ c. nat_le 48 c) word

lacks_low : (byte : ℕ) (word : List ℕ) → byte < 48 → high_bytes word ≡ true → Lacks byte word
lacks_low byte [] low h = tt
lacks_low byte (c ∷ word) low h =
    let parts = and_parts (nat_le 48 c) (high_bytes word) h in
    let le = leb-true 48 c parts.0 in
    (λ e. omega (arith, le, e), lacks_low byte word low parts.1)

digit_high : (word : List ℕ) → list_all is_ascii_digit word ≡ true → high_bytes word ≡ true
digit_high [] h = refl
digit_high (c ∷ word) h =
    let parts = and_parts (is_ascii_digit c) (list_all is_ascii_digit word) h in
    and_from _ _ (one c parts.0) (digit_high word parts.1)
  where
    one : (c : ℕ) → is_ascii_digit c ≡ true → nat_le 48 c ≡ true
    one c h = grind (arith, nat_tests)

hex_high : (word : List ℕ) → list_all is_hex_digit word ≡ true → high_bytes word ≡ true
hex_high [] h = refl
hex_high (c ∷ word) h =
    let parts = and_parts (is_hex_digit c) (list_all is_hex_digit word) h in
    and_from _ _ (one c parts.0) (hex_high word parts.1)
  where
    one : (c : ℕ) → is_hex_digit c ≡ true → nat_le 48 c ≡ true
    one c h = grind (arith, nat_tests)

decimal_digits : (n : ℕ) → n < 2 ^ 64 → (list_all is_ascii_digit (decimal n) ≡ true) × (0 < length (decimal n))
decimal_digits n small =
    let told = is_decimal_told (decimal n) n (decimal_reads n small) in
    let outer = and_parts _ _ told in
    let inner = and_parts _ _ outer.0 in
    (inner.0, grind (arith, nat_tests))

decimal_lacks : (byte n : ℕ) → byte < 48 → n < 2 ^ 64 → Lacks byte (decimal n)
decimal_lacks byte n low small = lacks_low byte (decimal n) low (digit_high (decimal n) (decimal_digits n small).0)

hex_lacks : (byte count n : ℕ) → byte < 48 → n < 16 ^ count → Lacks byte (hex_digits count n)
hex_lacks byte count n low small =
    let told = cond_some (length (hex_digits count n) == count && list_all is_hex_digit (hex_digits count n)) _ n
    (hex_reads count n small) in
    lacks_low byte (hex_digits count n) low (hex_high (hex_digits count n) (and_parts _ _ told.0).1)

action_lacks : (byte : ℕ) (action : Action) → byte < 48 → IsAction action → AllByRecursion (Lacks byte) (action_fields action)
action_lacks byte (Poke addr w value) low h = (
  lacks_low byte (codes "poke") low refl,
  (
    hex_lacks byte 8 addr low (poke_small addr h.window),
    (
      decimal_lacks byte (byte_count w) low (omega (arith, count_small w)),
      (hex_lacks byte 8 value low (value_small value w h.fits), tt),
    ),
  ),
)
action_lacks byte (Pins core bits) low h = (
  lacks_low byte (codes "pins") low refl,
  (
    decimal_lacks byte core low (omega (arith, h.0)),
    (hex_lacks byte 4 bits low (omega (arith, h.1)), tt),
  ),
)
action_lacks byte (Event n) low h = (lacks_low byte (codes "event") low refl, (decimal_lacks byte n low (omega (arith, h)), tt))
action_lacks byte (Start core) low h = (lacks_low byte (codes "start") low refl, (decimal_lacks byte core low (omega (arith, h)), tt))

pub act_lacks : (byte : ℕ) (act : Act) → byte < 48 → IsAct act → AllByRecursion (Lacks byte) (act_fields act)
act_lacks byte act low h = (decimal_lacks byte act.cycle low (omega (arith, h.cycle)), action_lacks byte act.action low h.action)

numbers_lack : (byte : ℕ) (ns : List ℕ) → byte < 48 → AllByRecursion (λ n. n < 256) ns → AllByRecursion (Lacks byte) (map decimal ns)
numbers_lack byte [] low h = tt
numbers_lack byte (n ∷ ns) low h = (decimal_lacks byte n low (omega (arith, h.0)), numbers_lack byte ns low h.1)

pub arb_lacks : (byte core : ℕ) (ns : List ℕ) → byte < 48 → IsArb core ns → AllByRecursion (Lacks byte) (arb_fields core ns)
arb_lacks byte core ns low h = (
  lacks_low byte (codes "arb") low refl,
  (decimal_lacks byte core low (omega (arith, h.known)), numbers_lack byte ns low h.each),
)

-- the numbers that a list of words spells
abbrev Spelled : List (List ℕ) → List ℕ → Type 0
Spelled words ns = AllByRecursion (λ n. n < 256) ns × (words ≡ map decimal ns)

one_more : (word : List ℕ) (words : List (List ℕ)) (n : ℕ) (o : Option (List ℕ)) (ns : List ℕ) → decimal_in word ≡ Some n → n ≤ 255
    → ((ms : List ℕ) → o ≡ Some ms → Spelled words ms) → option_map (λ ms. n ∷ ms) o ≡ Some ns → Spelled (word ∷ words) ns
one_more word words n None ns is le back e = absurd (cc)
one_more word words n (Some ms) ns is le back e =
    let more = back ms refl in
    let told : word ≡ decimal n = decimal_back word n 255 is le (omega arith) in
    subst (Spelled (word ∷ words)) (let s : n ∷ ms ≡ ns = cc in s)
    ((omega (arith, le), more.0), ap (λ w. w ∷ words) told ∙ ap (λ ws. decimal n ∷ ws) more.1)

small_or_not : (t : Bool) (o : Option (List ℕ)) (ns : List ℕ) → cond t o None ≡ Some ns → (t ≡ true) × (o ≡ Some ns)
small_or_not true o ns e = (refl, e)
small_or_not false o ns e = absurd (cc)

small_by : (word : List ℕ) (words : List (List ℕ)) (o : Option ℕ) (ns : List ℕ) → decimal_in word ≡ o
    → ((ms : List ℕ) → small_numbers words ≡ Some ms → Spelled words ms)
    → option_and_then (λ n. cond (nat_le n 255) (option_map (λ ns. n ∷ ns) (small_numbers words)) None) o ≡ Some ns
    → Spelled (word ∷ words) ns
small_by word words None ns is back e = absurd (cc)
small_by word words (Some n) ns is back e =
    let s = small_or_not (nat_le n 255) _ ns e in
    one_more word words n (small_numbers words) ns is (leb-true n 255 s.0) back s.1

small_back : (fields : List (List ℕ)) (ns : List ℕ) → small_numbers fields ≡ Some ns → Spelled fields ns
unfolding small_numbers
small_back [] ns e = subst (Spelled []) (let s : [] ≡ ns = cc in s) (tt, refl)
small_back (word ∷ words) ns e = small_by word words (decimal_in word) ns refl (λ ms h. small_back words ms h) e

small_there : (ns : List ℕ) → AllByRecursion (λ n. n < 256) ns → small_numbers (map decimal ns) ≡ Some ns
unfolding small_numbers
small_there [] h = refl
small_there (n ∷ ns) h =
    small_step (decimal n) (map decimal ns) n (decimal_reads n (omega (arith, h.0))) (le-leb n 255 (omega (arith, h.0)))
    ∙ ap (option_map (λ ns. n ∷ ns)) (small_there ns h.1)

decimals : (ns : List ℕ) → AllByRecursion (λ n. n < 256) ns → list_all is_decimal (map decimal ns) ≡ true
decimals [] h = refl
decimals (n ∷ ns) h = and_from _ _ (is_decimal_told (decimal n) n (decimal_reads n (omega (arith, h.0)))) (decimals ns h.1)

-- a choice that came out well
chosen_ok : {A : Type 0} (t : Bool) (r : Result A ScriptCause) (y : A) → cond t r (Err Form) ≡ Ok y → (t ≡ true) × (r ≡ Ok y)
chosen_ok true r y e = (refl, e)
chosen_ok false r y e = absurd (cc)

refused_ok : {A : Type 0} (t : Bool) (r : Result A ScriptCause) (y : A) → cond t (Err Form) r ≡ Ok y → (t ≡ false) × (r ≡ Ok y)
refused_ok true r y e = absurd (cc)
refused_ok false r y e = (refl, e)

arb_back : (fields : List (List ℕ)) (x : ℕ × List ℕ) → arb_in fields ≡ Ok x → IsArb x.0 x.1 × (fields ≡ decimal x.0 ∷ map decimal x.1)
unfolding arb_in
arb_back [] x e = absurd (cc)
arb_back (word ∷ words) x e =
    let f = field_ok (decimal_in word) _ x e in
    let g = refused_ok (length words == 0) _ x f.2 in
    let h = bind_ok (cond (list_all is_decimal words) (ok_or (small_numbers words) Range) (Err Form)) _ x g.1 in
    let k = chosen_ok (list_all is_decimal words) (ok_or (small_numbers words) Range) h.0 h.1 in
    let s = small_back words h.0 (range_ok (small_numbers words) h.0 k.1) in
    let p = choice_ok (nat_le f.0 1) (f.0, h.0) x h.2 in
    let le = leb-true f.0 1 p.0 in
    let told : word ≡ decimal f.0 = decimal_back word f.0 1 f.1 le (omega arith) in
    subst (λ (x : ℕ × List ℕ). IsArb x.0 x.1 × (word ∷ words ≡ decimal x.0 ∷ map decimal x.1)) p.1 (
      record { known = omega (arith, le); some = filled h.0 s.1 g.0; each = s.0 },
      ap (λ w. w ∷ words) told
          ∙ ap (λ ws. decimal f.0 ∷ ws) s.1,
    )
  where
    filled : (ns : List ℕ) → words ≡ map decimal ns → (length words == 0) ≡ false → 0 < length ns
    filled [] e h = absurd (let z = sym (ap (λ (ws : List (List ℕ)). length ws == 0) e) ∙ h in cc)
    filled (n ∷ ns) e h = omega arith

arb_there : (core : ℕ) (ns : List ℕ) → IsArb core ns → arb_in (decimal core ∷ map decimal ns) ≡ Ok (core, ns)
unfolding arb_in
arb_there core [] h = absurd (omega (arith, h.some))
arb_there core (n ∷ ns) h =
    let rest = map decimal (n ∷ ns) in
    let last : List ℕ → Result (ℕ × List ℕ) ScriptCause = λ ms. cond (nat_le core 1) (Ok (core, ms)) (Err Range) in
    some_field (decimal_in (decimal core)) core _ (decimal_reads core (omega (arith, h.known)))
    ∙ ap (λ t. cond t (Err Form) ((cond (list_all is_decimal rest) (ok_or (small_numbers rest) Range) (Err Form)) >>= last))
    (ne_eqb (length rest) 0 (λ z. omega arith))
    ∙ ap (λ t. (cond t (ok_or (small_numbers rest) Range) (Err Form)) >>= last) (decimals (n ∷ ns) h.each)
    ∙ ap (λ o. (ok_or o Range) >>= last) (small_there (n ∷ ns) h.each)
    ∙ ap (λ t. cond t (Ok (core, n ∷ ns)) (Err Range)) (le-leb core 1 (omega (arith, h.known)))

-- what the fields say
fields_back : (fields : List (List ℕ)) (said : Saying) → fields_said fields ≡ Ok said
    → ((act : Act) × (said ≡ Does act) × IsAct act × (fields ≡ act_fields act))
    ⊎ ((core : ℕ) × (ns : List ℕ) × (said ≡ Waits core ns) × IsArb core ns × (fields ≡ arb_fields core ns))
unfolding fields_said
fields_back [] said e = absurd (cc)
fields_back (word ∷ words) said e = by (bytes_eq word (codes "arb")) refl e
  where
    by : (t : Bool) → bytes_eq word (codes "arb") ≡ t → cond t (arb_in words >>= λ x. Ok (Waits x.0 x.1))
        (act_in (word ∷ words) >>= λ act. Ok (Does act)) ≡ Ok said
        → ((act : Act) × (said ≡ Does act) × IsAct act × (word ∷ words ≡ act_fields act))
        ⊎ ((core : ℕ) × (ns : List ℕ) × (said ≡ Waits core ns) × IsArb core ns × (word ∷ words ≡ arb_fields core ns))
    by true is e =
        let b = bind_ok (arb_in words) _ said e in
        let a = arb_back words b.0 b.1 in
        inr (
          b.0.0,
          b.0.1,
          (let s : Waits b.0.0 b.0.1 ≡ said = cc in sym s),
          a.0,
          ap (λ w. w ∷ words)
              ((bytes_eq-Decides word (codes "arb")).0 is) ∙ ap (λ ws. codes "arb" ∷ ws) a.1,
        )
    by false is e =
        let b = bind_ok (act_in (word ∷ words)) _ said e in
        let a = act_back (word ∷ words) b.0 b.1 in
        inl (b.0, (let s : Does b.0 ≡ said = cc in sym s), a.0, a.1)

pub said_back : (line : List ℕ) (said : Saying) → said_in line ≡ Ok said → Says line said
unfolding said_in
said_back line said e = by (is_skipped line) refl e
  where
    by : (t : Bool) → is_skipped line ≡ t → cond t (Ok Nothing) (fields_said (fields_of line)) ≡ Ok said → Says line said
    by true is e = subst (Says line) (let s : Nothing ≡ said = cc in s) is
    by false is e = elim (fields_back (fields_of line) said e) [
      | inl h ↦ subst (Says line) (sym h.1) (h.2, line_back line ∙ ap line_of h.3)
      | inr h ↦ subst (Says line) (sym h.2) (h.3, line_back line ∙ ap line_of h.4)
    ]

-- a digit is no '#'
not_skipped : (word : List ℕ) (rest : List ℕ) → high_bytes word ≡ true → 0 < length word → is_skipped (word ++ rest) ≡ false
not_skipped [] rest h some = absurd (omega arith)
not_skipped (c ∷ word) rest h some = let le = leb-true 48 c (and_parts (nat_le 48 c) (high_bytes word) h).0 in
    ne_eqb c 35 (λ e. omega (arith, le, e))

act_text_said : (act : Act) → IsAct act → is_skipped (act_text act) ≡ false
act_text_said act h =
    let d = decimal_digits act.cycle (omega (arith, h.cycle)) in
    joined act.action
  where
    joined : (action : Action) → is_skipped (line_of (decimal act.cycle ∷ action_fields action)) ≡ false
    joined (Poke addr w value) = not_skipped (decimal act.cycle) _
        (digit_high (decimal act.cycle) (decimal_digits act.cycle (omega (arith, h.cycle))).0)
        (decimal_digits act.cycle (omega (arith, h.cycle))).1
    joined (Pins core bits) = not_skipped (decimal act.cycle) _
        (digit_high (decimal act.cycle) (decimal_digits act.cycle (omega (arith, h.cycle))).0)
        (decimal_digits act.cycle (omega (arith, h.cycle))).1
    joined (Event n) = not_skipped (decimal act.cycle) _ (digit_high (decimal act.cycle)
        (decimal_digits act.cycle (omega (arith, h.cycle))).0) (decimal_digits act.cycle (omega (arith, h.cycle))).1
    joined (Start core) = not_skipped (decimal act.cycle) _ (digit_high (decimal act.cycle)
        (decimal_digits act.cycle (omega (arith, h.cycle))).0) (decimal_digits act.cycle (omega (arith, h.cycle))).1

not_arb : (n : ℕ) → n < 2 ^ 64 → bytes_eq (decimal n) (codes "arb") ≡ false
not_arb n small = by (bytes_eq (decimal n) (codes "arb")) refl
  where
    by : (t : Bool) → bytes_eq (decimal n) (codes "arb") ≡ t → t ≡ false
    by false e = refl
    by true e = absurd (let w = (bytes_eq-Decides (decimal n) (codes "arb")).0 e in
        let d = (decimal_digits n small).0 in
        let z : list_all is_ascii_digit (codes "arb") ≡ true = ap (list_all is_ascii_digit) (sym w) ∙ d in cc)

pub said_there : (line : List ℕ) (said : Saying) → Says line said → said_in line ≡ Ok said
unfolding said_in fields_said
said_there line Nothing h = ap (λ t. cond t (Ok Nothing) (fields_said (fields_of line))) h
said_there line (Does act) h =
    ap said_in h.1
    ∙ ap (λ t. cond t (Ok Nothing) (fields_said (fields_of (act_text act)))) (act_text_said act h.0)
    ∙ ap fields_said (fields_again (act_fields act) (omega arith) (act_lacks 32 act (omega arith) h.0))
    ∙ ap (λ t. cond t (arb_in (action_fields act.action) >>= λ x. Ok (Waits x.0 x.1))
    (act_in (act_fields act) >>= λ act. Ok (Does act))) (not_arb act.cycle (omega (arith, h.0.cycle)))
    ∙ ap (λ r. r >>= λ act. Ok (Does act)) (act_there act h.0)
said_there line (Waits core ns) h =
    ap said_in h.1
    ∙ ap fields_said (fields_again (arb_fields core ns) (omega arith) (arb_lacks 32 core ns (omega arith) h.0))
    ∙ ap (λ r. r >>= λ x. Ok (Waits x.0 x.1)) (arb_there core ns h.0)

-- a line says one thing
pub one_saying : (line : List ℕ) (a b : Saying) → Says line a → Says line b → a ≡ b
one_saying line a b h k = let e : Ok a ≡ Ok b = sym (said_there line a h) ∙ said_there line b k in cc

pub form_told : (line : List ℕ) → formed (said_in line) ≡ has_form line
unfolding said_in
form_told line = by (is_skipped line)
  where
    by : (t : Bool) → formed (cond t (Ok Nothing) (fields_said (fields_of line)))
        ≡ (t || has_act_form (fields_of line) || has_arb_form (fields_of line))
    by true = refl
    by false = formed_said (fields_of line)

-- a saying has a form
pub has_form_of : (line : List ℕ) (said : Saying) → Says line said → has_form line ≡ true
has_form_of line said h = sym (form_told line) ∙ ap formed (said_there line said h)

-- no cause but Form and Range
abbrev plain : {A : Type 0} → Result A ScriptCause → Bool
plain (Ok x) = true
plain (Err Form) = true
plain (Err Range) = true
plain (Err Order) = false

plain_bind : {A B : Type 0} (r : Result A ScriptCause) (f : A → Result B ScriptCause) → plain r ≡ true
    → ((x : A) → plain (f x) ≡ true) → plain (r >>= f) ≡ true
plain_bind (Ok x) f h k = k x
plain_bind (Err cause) f h k = h

plain_field : {A B : Type 0} (o : Option A) (f : A → Result B ScriptCause) → ((x : A) → plain (f x) ≡ true)
    → plain (ok_or o Form >>= f) ≡ true
plain_field None f h = refl
plain_field (Some x) f h = h x

plain_range : {A : Type 0} (o : Option A) → plain (ok_or o Range) ≡ true
plain_range None = refl
plain_range (Some x) = refl

plain_choice : {A : Type 0} (t : Bool) (x : A) → plain (cond t (Ok x) (Err Range)) ≡ true
plain_choice true x = refl
plain_choice false x = refl

plain_cond : {A : Type 0} (t : Bool) (r s : Result A ScriptCause) → plain r ≡ true → plain s ≡ true → plain (cond t r s) ≡ true
plain_cond true r s h k = h
plain_cond false r s h k = k

plain_end : {A : Type 0} (rest : List (List ℕ)) (r : Result A ScriptCause) → plain r ≡ true → plain (at_end rest r) ≡ true
plain_end rest r h = plain_cond (length rest == 0) r (Err Form) h refl

-- what the field at a place gives
abbrev told : {A : Type 0} → (List ℕ → Option A) → List (List ℕ) → Option A
told read fields = option_and_then read (slice_get fields 0)

plain_poke : (fields : List (List ℕ)) → plain (poke_in fields) ≡ true
unfolding poke_in
plain_poke fields =
    plain_field (told (hex_in 8) fields) _ (λ a. plain_field (told decimal_in (drop 1 fields)) _ (λ b.
    plain_field (told (hex_in 8) (drop 1 (drop 1 fields))) _
    (λ d. plain_end (drop 1 (drop 1 (drop 1 fields))) _ (plain_range (poke_of a b d)))))

plain_pins : (fields : List (List ℕ)) → plain (pins_in fields) ≡ true
unfolding pins_in
plain_pins fields =
    plain_field (told decimal_in fields) _ (λ a. plain_field (told (hex_in 4) (drop 1 fields)) _
    (λ b. plain_end (drop 1 (drop 1 fields)) _ (plain_choice (nat_le a 1) _)))

plain_event : (fields : List (List ℕ)) → plain (event_in fields) ≡ true
unfolding event_in
plain_event fields = plain_field (told decimal_in fields) _ (λ a. plain_end (drop 1 fields) _ (plain_choice (nat_le a 63) _))

plain_start : (fields : List (List ℕ)) → plain (start_in fields) ≡ true
unfolding start_in
plain_start fields = plain_field (told decimal_in fields) _ (λ a. plain_end (drop 1 fields) _ (plain_choice (nat_le a 1) _))

plain_action : (fields : List (List ℕ)) → plain (action_in fields) ≡ true
unfolding action_in
plain_action [] = refl
plain_action (word ∷ words) =
    plain_cond (bytes_eq word (codes "poke")) _ _ (plain_poke words)
    (plain_cond (bytes_eq word (codes "pins")) _ _ (plain_pins words)
    (plain_cond (bytes_eq word (codes "event")) _ _ (plain_event words)
    (plain_cond (bytes_eq word (codes "start")) _ _ (plain_start words) refl)))

plain_act : (fields : List (List ℕ)) → plain (act_in fields) ≡ true
unfolding act_in
plain_act fields = plain_field (told decimal_in fields) _ (λ cycle. plain_bind (action_in (drop 1 fields)) _
    (plain_action (drop 1 fields)) (λ action. plain_choice (nat_le cycle 1999999) _))

plain_arb : (fields : List (List ℕ)) → plain (arb_in fields) ≡ true
unfolding arb_in
plain_arb fields =
    let words = drop 1 fields in
    plain_field (told decimal_in fields) _ (λ core. plain_cond (length words == 0) (Err Form) _ refl
    (plain_bind (cond (list_all is_decimal words) (ok_or (small_numbers words) Range) (Err Form)) _
    (plain_cond (list_all is_decimal words) (ok_or (small_numbers words) Range) (Err Form) (plain_range (small_numbers words)) refl)
    (λ ns. plain_choice (nat_le core 1) _)))

plain_fields : (fields : List (List ℕ)) → plain (fields_said fields) ≡ true
unfolding fields_said
plain_fields [] = refl
plain_fields (word ∷ words) =
    plain_cond (bytes_eq word (codes "arb")) _ _
    (plain_bind (arb_in words) (λ x. Ok (Waits x.0 x.1)) (plain_arb words) (λ x. refl))
    (plain_bind (act_in (word ∷ words)) (λ act. Ok (Does act)) (plain_act (word ∷ words)) (λ act. refl))

plain_said : (line : List ℕ) → plain (said_in line) ≡ true
unfolding said_in
plain_said line = plain_cond (is_skipped line) (Ok Nothing) (fields_said (fields_of line)) refl (plain_fields (fields_of line))

pub misfit : (line : List ℕ) (cause : ScriptCause) → said_in line ≡ Err cause → Misfits line (faults.Cause cause)
misfit line Form e = λ h. absurd (let z = sym (ap formed e) ∙ form_told line ∙ h in cc)
misfit line Range e = (sym (form_told line) ∙ ap formed e, λ said h. absurd (let z = sym (said_there line said h) ∙ e in cc))
misfit line Order e = absurd (let z = sym (plain_said line) ∙ ap plain e in cc)

pub core_named : (line : List ℕ) (said : Saying) → Says line said → NamesCore said
core_named line Nothing h = tt
core_named line (Does act) h = tt
core_named line (Waits core ns) h = h.0.known
