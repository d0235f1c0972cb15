-- An act's line is read as it is printed, and what is read is printed so.
use Rattle.std.proofs.Common.{◌≡◌, ℕ, ◌%◌, ◌^◌, ◌-◌, ◌<◌, ◌≤◌, Bool, true, false, cond, ◌&&◌, ◌==◌, nat_le, nat_lt, List, [], ◌∷◌}
use Rattle.std.proofs.Common.{length, Option, Some, None, Result, Ok, Err, refl, sym, ap, ◌∙◌, arith, codes, option_and_then, subst}
use Rattle.std.specs.Option.{ok_or}
use Rattle.std.specs.List.{list_all}
use Rattle.std.specs.Str.{bytes_eq}
use Rattle.std.specs.Fmt.{decimal}
use Rattle.std.proofs.lemmas.Bool.{ne_eqb, and_parts, and_from, le-leb, leb-true, lt-ltb, ltb-true, eq-eqb, eqb-true}
use Rattle.std.proofs.lemmas.Bool.Decides.{nat_tests}
use Rattle.std.proofs.lemmas.Option.{cond_some}
use Rattle.std.proofs.lemmas.Slice.Eq.{bytes_eq-Decides}
use Rattle.std.specs.Str.Parse.{digits_value}
use Rattle.textline.specs.Numbers.{is_hex_digit, decimal_in, hex_in, hex8, hex4}
use Rattle.textline.proofs.DecimalLaws.{decimal_reads, decimal_only}
use Rattle.textline.proofs.HexLaws.{hex_reads, hex_only, hex_small}
use Rattle.prunum.specs.declared.width.Width.{Width}
use Rattle.prunum.specs.declared.width.Width.TheVariants.{B1, B2, B4}
use Rattle.prunum.specs.Width.{byte_count}
use Rattle.hostscript.specs.declared.cause.ScriptCause.{ScriptCause}
use Rattle.hostscript.specs.declared.cause.ScriptCause.TheVariants.{Form, Range}
use Rattle.hostscript.specs.declared.action.Action.{Action}
use Rattle.hostscript.specs.declared.action.Action.TheVariants.{Poke, Pins, Event, Start}
use Rattle.hostscript.specs.declared.action.Act.{Act}
use Rattle.hostscript.specs.Acts.{may_be_poked, IsPoke, IsAction, IsAct, action_fields, act_fields}
use Rattle.hostscript.specs.Reading.{◌>>=◌, at_end, width_of, poke_of, poke_in, pins_in, event_in, start_in, action_in, act_in}

pub bind_ok : {A B : Type 0} (r : Result A ScriptCause) (f : A → Result B ScriptCause) (y : B) → (r >>= f) ≡ Ok y
    → (x : A) × (r ≡ Ok x) × (f x ≡ Ok y)
bind_ok (Ok x) f y e = (x, refl, e)
bind_ok (Err cause) f y e = absurd (cc)

pub field_ok : {A B : Type 0} (o : Option A) (f : A → Result B ScriptCause) (y : B) → (ok_or o Form >>= f) ≡ Ok y
    → (x : A) × (o ≡ Some x) × (f x ≡ Ok y)
field_ok None f y e = absurd (cc)
field_ok (Some x) f y e = (x, refl, e)

pub range_ok : {A : Type 0} (o : Option A) (y : A) → ok_or o Range ≡ Ok y → o ≡ Some y
range_ok None y e = absurd (cc)
range_ok (Some x) y e = ap Some (cc)

pub choice_ok : {A : Type 0} (t : Bool) (x y : A) → cond t (Ok x) (Err Range) ≡ Ok y → (t ≡ true) × (x ≡ y)
choice_ok true x y e = (refl, cc)
choice_ok false x y e = absurd (cc)

end_ok : {A : Type 0} (rest : List (List ℕ)) (r : Result A ScriptCause) (y : A) → at_end rest r ≡ Ok y → (rest ≡ []) × (r ≡ Ok y)
end_ok [] r y e = (refl, e)
end_ok (word ∷ rest) r y e =
    absurd (let h = ap (λ t. cond t r (Err Form)) (sym (ne_eqb (length (word ∷ rest)) 0 (λ z. omega arith))) ∙ e in cc)

pub some_field : {A B : Type 0} (o : Option A) (x : A) (f : A → Result B ScriptCause) → o ≡ Some x → (ok_or o Form >>= f) ≡ f x
some_field o x f e = ap (λ p. ok_or p Form >>= f) e

-- numbers within 32 bits
pub decimal_back : (word : List ℕ) (n most : ℕ) → decimal_in word ≡ Some n → n ≤ most → most < 2 ^ 64 - 1 → word ≡ decimal n
decimal_back word n most e le small = decimal_only word n e (omega arith)

width_back : (n : ℕ) (w : Width) → width_of n ≡ Some w → n ≡ byte_count w
width_back n w e = grind (arith, nat_tests)

width_of_count : (w : Width) → width_of (byte_count w) ≡ Some w
width_of_count B1 = refl
width_of_count B2 = refl
width_of_count B4 = refl

poke_back : (addr n value : ℕ) (action : Action) → poke_of addr n value ≡ Some action
    → (w : Width) × (n ≡ byte_count w) × IsPoke addr w value × (action ≡ Poke addr w value)
poke_back addr n value action e = by (width_of n) refl e
  where
    by : (o : Option Width) → width_of n ≡ o
        → option_and_then (λ w. cond (may_be_poked addr && addr % byte_count w == 0 && nat_lt value (256 ^ byte_count w))
        (Some (Poke addr w value)) None) o ≡ Some action
        → (w : Width) × (n ≡ byte_count w) × IsPoke addr w value × (action ≡ Poke addr w value)
    by None is e = absurd (cc)
    by (Some w) is e =
        let told = cond_some (may_be_poked addr && addr % byte_count w == 0 && nat_lt value (256 ^ byte_count w))
        (Poke addr w value) action e in
        let outer = and_parts (may_be_poked addr && addr % byte_count w == 0) _ told.0 in
        let inner = and_parts (may_be_poked addr) _ outer.0 in (
          w,
          width_back n w is,
          record { window = inner.0; aligned = eqb-true _ 0 inner.1; fits = ltb-true _ _ outer.1 },
          sym told.1,
        )

poke_there : (addr value : ℕ) (w : Width) → IsPoke addr w value → poke_of addr (byte_count w) value ≡ Some (Poke addr w value)
poke_there addr value w h =
    ap (option_and_then (λ w. cond (may_be_poked addr && addr % byte_count w == 0 && nat_lt value (256 ^ byte_count w))
    (Some (Poke addr w value)) None)) (width_of_count w)
    ∙ ap (λ t. cond t (Some (Poke addr w value)) None) (and_from _ _
    (and_from (may_be_poked addr) _ h.window (eq-eqb _ 0 h.aligned)) (lt-ltb _ _ h.fits))

pub count_small : (w : Width) → byte_count w ≤ 4
count_small B1 = omega arith
count_small B2 = omega arith
count_small B4 = omega arith

pub poke_small : (addr : ℕ) → may_be_poked addr ≡ true → addr < 16 ^ 8
poke_small addr h = grind (arith, nat_tests)

pub value_small : (value : ℕ) (w : Width) → value < 256 ^ byte_count w → value < 16 ^ 8
value_small value B1 h = omega arith
value_small value B2 h = omega arith
value_small value B4 h = omega arith

hex_bound : (count : ℕ) (word : List ℕ) (n : ℕ) → hex_in count word ≡ Some n → n < 16 ^ count
hex_bound count word n e =
    let told = cond_some (length word == count && list_all is_hex_digit word) (digits_value 16 word) n e in
    let parts = and_parts _ _ told.0 in
    subst (λ m. m < 16 ^ count) told.1 (subst (λ k. digits_value 16 word < 16 ^ k) (eqb-true _ _ parts.0) (hex_small word parts.1))

poke_ok : (words : List (List ℕ)) (action : Action) → poke_in words ≡ Ok action
    → IsAction action × (codes "poke" ∷ words ≡ action_fields action)
unfolding poke_in
poke_ok [] action e = absurd (cc)
poke_ok (a ∷ []) action e = absurd (let f = (field_ok (hex_in 8 a) _ action e).2 in cc)
poke_ok (a ∷ w ∷ []) action e = absurd (let f = (field_ok (decimal_in w) _ action (field_ok (hex_in 8 a) _ action e).2).2 in cc)
poke_ok (a ∷ w ∷ v ∷ rest) action e =
    let f = field_ok (hex_in 8 a) _ action e in
    let g = field_ok (decimal_in w) _ action f.2 in
    let h = field_ok (hex_in 8 v) _ action g.2 in
    let done = end_ok rest _ action h.2 in
    let p = poke_back f.0 g.0 h.0 action (range_ok (poke_of f.0 g.0 h.0) action done.1) in
    let ea : a ≡ hex8 f.0 = hex_only 8 a f.0 f.1 in
    let ew : w ≡ decimal (byte_count p.0) = decimal_only w g.0 g.1 (omega (arith, p.1, count_small p.0)) ∙ ap decimal p.1 in
    let ev : v ≡ hex8 h.0 = hex_only 8 v h.0 h.1 in
    subst (λ (x : Action). IsAction x × (codes "poke" ∷ a ∷ w ∷ v ∷ rest ≡ action_fields x)) (sym p.3) (p.2, four ea ew ev done.0)
  where
    four : {a b w x v y : List ℕ} {rest : List (List ℕ)} → a ≡ b → w ≡ x → v ≡ y → rest ≡ []
        → codes "poke" ∷ a ∷ w ∷ v ∷ rest ≡ codes "poke" ∷ b ∷ x ∷ y ∷ []
    four e f g h = cc

pins_ok : (words : List (List ℕ)) (action : Action) → pins_in words ≡ Ok action
    → IsAction action × (codes "pins" ∷ words ≡ action_fields action)
unfolding pins_in
pins_ok [] action e = absurd (cc)
pins_ok (w ∷ []) action e = absurd (let f = (field_ok (decimal_in w) _ action e).2 in cc)
pins_ok (w ∷ v ∷ rest) action e =
    let g = field_ok (decimal_in w) _ action e in
    let h = field_ok (hex_in 4 v) _ action g.2 in
    let done = end_ok rest _ action h.2 in
    let p = choice_ok (nat_le g.0 1) _ action done.1 in
    let le = leb-true g.0 1 p.0 in
    let ew : w ≡ decimal g.0 = decimal_back w g.0 1 g.1 le (omega arith) in
    let ev : v ≡ hex4 h.0 = hex_only 4 v h.0 h.1 in
    subst (λ (x : Action). IsAction x × (codes "pins" ∷ w ∷ v ∷ rest ≡ action_fields x)) p.1
    ((omega (arith, le), omega (arith, hex_bound 4 v h.0 h.1)), three ew ev done.0)
  where
    three : {w x v y : List ℕ} {rest : List (List ℕ)} → w ≡ x → v ≡ y → rest ≡ [] → codes "pins" ∷ w ∷ v ∷ rest ≡ codes "pins" ∷ x ∷ y ∷ []
    three f g h = cc

two : {word w x : List ℕ} {rest : List (List ℕ)} → w ≡ x → rest ≡ [] → word ∷ w ∷ rest ≡ word ∷ x ∷ []
two f h = cc

event_ok : (words : List (List ℕ)) (action : Action) → event_in words ≡ Ok action
    → IsAction action × (codes "event" ∷ words ≡ action_fields action)
unfolding event_in
event_ok [] action e = absurd (cc)
event_ok (w ∷ rest) action e =
    let g = field_ok (decimal_in w) _ action e in
    let done = end_ok rest _ action g.2 in
    let p = choice_ok (nat_le g.0 63) _ action done.1 in
    let le = leb-true g.0 63 p.0 in
    let ew : w ≡ decimal g.0 = decimal_back w g.0 63 g.1 le (omega arith) in
    subst (λ (x : Action). IsAction x × (codes "event" ∷ w ∷ rest ≡ action_fields x)) p.1 (omega (arith, le), two ew done.0)

start_ok : (words : List (List ℕ)) (action : Action) → start_in words ≡ Ok action
    → IsAction action × (codes "start" ∷ words ≡ action_fields action)
unfolding start_in
start_ok [] action e = absurd (cc)
start_ok (w ∷ rest) action e =
    let g = field_ok (decimal_in w) _ action e in
    let done = end_ok rest _ action g.2 in
    let p = choice_ok (nat_le g.0 1) _ action done.1 in
    let le = leb-true g.0 1 p.0 in
    let ew : w ≡ decimal g.0 = decimal_back w g.0 1 g.1 le (omega arith) in
    subst (λ (x : Action). IsAction x × (codes "start" ∷ w ∷ rest ≡ action_fields x)) p.1 (omega (arith, le), two ew done.0)

-- where the word is the one tested for, the first reader was taken, and the others where it isn't
tested : {Goal : Type 0} (word text : List ℕ) (r s : Result Action ScriptCause) (action : Action)
    → cond (bytes_eq word text) r s ≡ Ok action
    → (word ≡ text → r ≡ Ok action → Goal) → (s ≡ Ok action → Goal) → Goal
tested {Goal} word text r s action e here else_ = by (bytes_eq word text) refl e
  where
    by : (t : Bool) → bytes_eq word text ≡ t → cond t r s ≡ Ok action → Goal
    by true is e = here ((bytes_eq-Decides word text).0 is) e
    by false is e = else_ e

headed : (word text : List ℕ) (words : List (List ℕ)) (action : Action) → word ≡ text
    → IsAction action × (text ∷ words ≡ action_fields action) → IsAction action × (word ∷ words ≡ action_fields action)
headed word text words action e h = (h.0, ap (λ w. w ∷ words) e ∙ h.1)

pub action_back : (fields : List (List ℕ)) (action : Action) → action_in fields ≡ Ok action
    → IsAction action × (fields ≡ action_fields action)
unfolding action_in
action_back [] action e = absurd (cc)
action_back (word ∷ words) action e =
    tested word (codes "poke") _ _ action e (λ is r. headed word (codes "poke") words action is (poke_ok words action r)) (λ e.
    tested word (codes "pins") _ _ action e (λ is r. headed word (codes "pins") words action is (pins_ok words action r)) (λ e.
    tested word (codes "event") _ _ action e (λ is r. headed word (codes "event") words action is (event_ok words action r)) (λ e.
    tested word (codes "start") _ _ action e (λ is r. headed word (codes "start") words action is (start_ok words action r))
    (λ e. absurd (cc)))))

pub action_there : (action : Action) → IsAction action → action_in (action_fields action) ≡ Ok action
unfolding action_in poke_in pins_in event_in start_in
action_there (Poke addr w value) h =
    some_field (hex_in 8 (hex8 addr)) addr _ (hex_reads 8 addr (poke_small addr h.window))
    ∙ some_field (decimal_in (decimal (byte_count w))) (byte_count w) _ (decimal_reads (byte_count w) (omega (arith, count_small w)))
    ∙ some_field (hex_in 8 (hex8 value)) value _ (hex_reads 8 value (value_small value w h.fits))
    ∙ ap (λ o. ok_or o Range) (poke_there addr value w h)
action_there (Pins core bits) h =
    some_field (decimal_in (decimal core)) core _ (decimal_reads core (omega (arith, h.0)))
    ∙ some_field (hex_in 4 (hex4 bits)) bits _ (hex_reads 4 bits (omega (arith, h.1)))
    ∙ ap (λ t. cond t (Ok (Pins core bits)) (Err Range)) (le-leb core 1 (omega (arith, h.0)))
action_there (Event n) h =
    some_field (decimal_in (decimal n)) n _ (decimal_reads n (omega (arith, h)))
    ∙ ap (λ t. cond t (Ok (Event n)) (Err Range)) (le-leb n 63 (omega (arith, h)))
action_there (Start core) h =
    some_field (decimal_in (decimal core)) core _ (decimal_reads core (omega (arith, h)))
    ∙ ap (λ t. cond t (Ok (Start core)) (Err Range)) (le-leb core 1 (omega (arith, h)))

pub act_back : (fields : List (List ℕ)) (act : Act) → act_in fields ≡ Ok act → IsAct act × (fields ≡ act_fields act)
unfolding act_in
act_back [] act e = absurd (cc)
act_back (cycle ∷ words) act e =
    let first = field_ok (decimal_in cycle) _ act e in
    let second = bind_ok (action_in words) _ act first.2 in
    let third = choice_ok (nat_le first.0 1999999) _ act second.2 in
    let action = action_back words second.0 second.1 in
    let le = leb-true first.0 1999999 third.0 in
    let is : cycle ≡ decimal first.0 = decimal_back cycle first.0 1999999 first.1 le (omega arith) in
    subst (λ (a : Act). IsAct a × (cycle ∷ words ≡ act_fields a)) third.1
    (record { cycle = omega (arith, le); action = action.0 }, ap (λ c. c ∷ words) is ∙ ap (λ ws. decimal first.0 ∷ ws) action.1)

pub act_there : (act : Act) → IsAct act → act_in (act_fields act) ≡ Ok act
unfolding act_in
act_there act h =
    some_field (decimal_in (decimal act.cycle)) act.cycle _ (decimal_reads act.cycle (omega (arith, h.cycle)))
    ∙ ap (λ r. r >>= λ action. cond (nat_le act.cycle 1999999) (Ok (record { cycle = act.cycle; action = action })) (Err Range))
    (action_there act.action h.action)
    ∙ ap (λ t. cond t (Ok act) (Err Range)) (le-leb act.cycle 1999999 (omega (arith, h.cycle)))
