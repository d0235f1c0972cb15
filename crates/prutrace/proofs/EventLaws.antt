-- The fields of an event's line are read as they are printed, and what is read is printed so.
use Rattle.std.proofs.Common.{◌≡◌, ◌≢◌, ℕ, ◌^◌, ◌-◌, ◌<◌, ◌≤◌, Bool, true, false, cond, ◌==◌, nat_le, nat_lt, List, [], ◌∷◌, ◌++◌}
use Rattle.std.proofs.Common.{length, drop, Option, Some, None, refl, sym, ap, ◌∙◌, arith, codes, option_and_then, subst}
use Rattle.std.specs.List.{list_all, AllByRecursion, slice_get}
use Rattle.std.specs.Prelude.{slice_index, IfSome}
use Rattle.std.specs.Str.{bytes_eq}
use Rattle.std.specs.Fmt.{decimal}
use Rattle.std.proofs.lemmas.Bool.{ne_eqb, and_parts, le-leb, leb-true, lt-ltb, ltb-true, eqb-true}
use Rattle.std.proofs.lemmas.Bool.Decides.{nat_tests}
use Rattle.std.proofs.lemmas.Option.{cond_some}
use Rattle.std.proofs.lemmas.Slice.Eq.{bytes_eq-Decides}
use Rattle.prunum.specs.declared.width.Width.{Width}
use Rattle.prunum.specs.declared.width.Width.TheVariants.{B1, B2, B4}
use Rattle.prunum.specs.Width.{byte_count}
use Rattle.textline.specs.Lines.{Lacks, fields_of, line_of}
use Rattle.textline.specs.Numbers.{is_hex_digit, decimal_in, hex_in, hex8, hex_digits}
use Rattle.textline.proofs.DecimalLaws.{decimal_reads, decimal_only}
use Rattle.textline.proofs.HexLaws.{hex_reads, hex_only}
use Rattle.textline.proofs.Printed.{lacks_low, decimal_lacks, hex_is, hex_bound, hex_lacks, append_lacks, line_lacks}
use Rattle.textline.proofs.SplitLaws.{fields_again, line_back}
use Rattle.prutrace.specs.declared.event.Event.{Event}
use Rattle.prutrace.specs.declared.event.Event.TheVariants.{Read, Write, Enter, Leave, DelayIn, DelayOut, Halted}
use Rattle.prutrace.specs.declared.event.Place.{Place}
use Rattle.prutrace.specs.declared.event.Place.TheVariants.{Reg30, Reg31, Addr, Pad}
use Rattle.prutrace.specs.Text.{place_text, event_text}
use Rattle.prutrace.specs.Reading.{PlaceFits, AccessFits, EventFits}
use Rattle.prutrace.specs.EventLines.{access_fields, event_fields, within, number_in, width_of, width_in, cut_at, pad_of, pad_in}
use Rattle.prutrace.specs.EventLines.{place_in, field, at_end, fitting, access_in, number_alone, kind_in, event_in}
use Rattle.prutrace.proofs.Cuts.{some_inj, bind_some, some_bind, cut_found, cut_back}

end_some : {A : Type 0} (rest : List (List ℕ)) (o : Option A) (y : A) → at_end rest o ≡ Some y → (rest ≡ []) × (o ≡ Some y)
end_some [] o y e = (refl, e)
end_some (word ∷ rest) o y e = absurd (let h = ap (λ t. cond t o None) (sym (ne_eqb (length (word ∷ rest)) 0 (λ z. omega arith))) ∙ e in cc)

-- where the word is the one tested for, the first reader was taken, and the others where it isn't
tested : {A Goal : Type 0} (word text : List ℕ) (r s : Option A) (y : A) → cond (bytes_eq word text) r s ≡ Some y
    → (word ≡ text → r ≡ Some y → Goal) → (s ≡ Some y → Goal) → Goal
tested {A} {Goal} word text r s y e here others = by (bytes_eq word text) refl e
  where
    by : (t : Bool) → bytes_eq word text ≡ t → cond t r s ≡ Some y → Goal
    by true is e = here ((bytes_eq-Decides word text).0 is) e
    by false is e = others e

bytes_other : (word text : List ℕ) → (word ≡ text → ⊥) → bytes_eq word text ≡ false
bytes_other word text apart = by (bytes_eq word text) refl
  where
    by : (t : Bool) → bytes_eq word text ≡ t → t ≡ false
    by true is = absurd (apart ((bytes_eq-Decides word text).0 is))
    by false is = refl

-- ---- numbers and widths

number_back : (most : ℕ) (word : List ℕ) (n : ℕ) → most < 2 ^ 64 - 1 → number_in most word ≡ Some n → (word ≡ decimal n) × (n ≤ most)
number_back most word n small e =
    let read = bind_some (decimal_in word) (within most) n e in
    let told = cond_some (nat_le read.0 most) read.0 n read.2 in
    let le = leb-true read.0 most told.0 in
    (decimal_only word read.0 read.1 (omega (arith, le)) ∙ ap decimal told.1, omega (arith, le, told.1))

number_there : (most n : ℕ) → most < 2 ^ 64 - 1 → n ≤ most → number_in most (decimal n) ≡ Some n
number_there most n small le =
    some_bind (decimal_in (decimal n)) n (within most) (decimal_reads n (omega arith)) ∙ ap (λ t. cond t (Some n) None) (le-leb n most le)

count_small : (w : Width) → byte_count w ≤ 4
count_small B1 = omega arith
count_small B2 = omega arith
count_small B4 = omega arith

width_is : (n : ℕ) (w : Width) → width_of n ≡ Some w → n ≡ byte_count w
width_is n w e = grind (arith, nat_tests)

width_of_count : (w : Width) → width_of (byte_count w) ≡ Some w
width_of_count B1 = refl
width_of_count B2 = refl
width_of_count B4 = refl

width_back : (word : List ℕ) (w : Width) → width_in word ≡ Some w → word ≡ decimal (byte_count w)
width_back word w e =
    let read = bind_some (decimal_in word) width_of w e in
    let same = width_is read.0 w read.2 in
    decimal_only word read.0 read.1 (omega (arith, same, count_small w)) ∙ ap decimal same

width_there : (w : Width) → width_in (decimal (byte_count w)) ≡ Some w
width_there w =
    some_bind (decimal_in (decimal (byte_count w))) (byte_count w) width_of
    (decimal_reads (byte_count w) (omega (arith, count_small w))) ∙ width_of_count w

value_small : (value : ℕ) (w : Width) → value < 256 ^ byte_count w → value < 16 ^ 8
value_small value B1 h = omega arith
value_small value B2 h = omega arith
value_small value B4 h = omega arith

-- ---- places

pad_back : (pad : List ℕ) (place : Place) → pad_in pad ≡ Some place → PlaceFits place × (80 ∷ pad ≡ place_text place)
unfolding pad_in
pad_back pad place e =
    let parts = bind_some (cut_at 46 pad) _ place e in
    let bank = bind_some (number_in 255 parts.0.0) _ place parts.2 in
    let reg = bind_some (number_in 255 parts.0.1) _ place bank.2 in
    let b = number_back 255 parts.0.0 bank.0 (omega arith) bank.1 in
    let r = number_back 255 parts.0.1 reg.0 (omega arith) reg.1 in
    let text : 80 ∷ pad ≡ place_text (Pad bank.0 reg.0) =
    ap (λ xs. 80 ∷ xs) (cut_back 46 pad parts.0.0 parts.0.1 parts.1)
    ∙ ap (λ xs. 80 ∷ (xs ++ 46 ∷ parts.0.1)) b.0 ∙ ap (λ xs. 80 ∷ (decimal bank.0 ++ 46 ∷ xs)) r.0 in
    subst (λ (p : Place). PlaceFits p × (80 ∷ pad ≡ place_text p)) (some_inj reg.2) ((omega (arith, b.1), omega (arith, r.1)), text)

pad_there : (bank reg : ℕ) → bank < 256 → reg < 256 → pad_in (decimal bank ++ 46 ∷ decimal reg) ≡ Some (Pad bank reg)
unfolding pad_in
pad_there bank reg b r =
    some_bind (cut_at 46 (decimal bank ++ 46 ∷ decimal reg)) (decimal bank, decimal reg) _
    (cut_found 46 (decimal bank ++ 46 ∷ decimal reg) (decimal bank) (decimal reg) (decimal_lacks 46 bank (omega arith) (omega arith)) refl)
    ∙ some_bind (number_in 255 (decimal bank)) bank _ (number_there 255 bank (omega arith) (omega arith))
    ∙ some_bind (number_in 255 (decimal reg)) reg _ (number_there 255 reg (omega arith) (omega arith))

address_back : (word : List ℕ) (place : Place) → option_and_then (λ address. Some (Addr address)) (hex_in 8 word) ≡ Some place
    → PlaceFits place × (word ≡ place_text place)
address_back word place e =
    let read = bind_some (hex_in 8 word) _ place e in
    subst (λ (p : Place). PlaceFits p × (word ≡ place_text p)) (some_inj read.2)
    (omega (arith, hex_bound 8 word read.0 read.1), hex_only 8 word read.0 read.1)

-- behind the names of registers
other_back : (word : List ℕ) (place : Place) → cond (slice_index word 0 == 80) (pad_in (drop 1 word))
    (option_and_then (λ address. Some (Addr address)) (hex_in 8 word)) ≡ Some place
    → PlaceFits place × (word ≡ place_text place)
other_back [] place e = address_back [] place e
other_back (c ∷ pad) place e = by (c == 80) refl e
  where
    by : (t : Bool) → (c == 80) ≡ t → cond t (pad_in pad) (option_and_then (λ address. Some (Addr address)) (hex_in 8 (c ∷ pad)))
        ≡ Some place → PlaceFits place × (c ∷ pad ≡ place_text place)
    by true is e = let h = pad_back pad place e in (h.0, ap (λ x. x ∷ pad) (eqb-true c 80 is) ∙ h.1)
    by false is e = address_back (c ∷ pad) place e

register : (word text : List ℕ) (register place : Place) → PlaceFits register → text ≡ place_text register → word ≡ text
    → Some register ≡ Some place → PlaceFits place × (word ≡ place_text place)
register word text r place fits named is e = subst (λ (p : Place). PlaceFits p × (word ≡ place_text p)) (some_inj e) (fits, is ∙ named)

place_back : (word : List ℕ) (place : Place) → place_in word ≡ Some place → PlaceFits place × (word ≡ place_text place)
unfolding place_in
place_back word place e =
    tested word (codes "R30") _ _ place e (λ is r. register word (codes "R30") Reg30 place tt refl is r) (λ e.
    tested word (codes "R31") _ _ place e (λ is r. register word (codes "R31") Reg31 place tt refl is r) (λ e.
    other_back word place e))

first_hex : (word : List ℕ) → list_all is_hex_digit word ≡ true → (slice_index word 0 == 80) ≡ false
first_hex [] h = refl
first_hex (c ∷ word) h = one c (and_parts (is_hex_digit c) (list_all is_hex_digit word) h).0
  where
    one : (c : ℕ) → is_hex_digit c ≡ true → (c == 80) ≡ false
    one c h = grind (arith, nat_tests)

-- where the word is none of the registers' names
others_taken : (word : List ℕ) → (word ≡ codes "R30" → ⊥) → (word ≡ codes "R31" → ⊥)
    → place_in word ≡ cond (slice_index word 0 == 80) (pad_in (drop 1 word))
    (option_and_then (λ address. Some (Addr address)) (hex_in 8 word))
unfolding place_in
others_taken word a b = rw (bytes_other word (codes "R30") a, bytes_other word (codes "R31") b)

first_of : List ℕ → ℕ
first_of [] = 0
first_of (c ∷ word) = c

place_there : (place : Place) → PlaceFits place → place_in (place_text place) ≡ Some place
unfolding place_in first_of
place_there Reg30 h = refl
place_there Reg31 h = refl
place_there (Addr address) h =
    let is = hex_is 8 address (omega (arith, h)) in
    others_taken (hex8 address) (λ e. omega (arith, ap length e, is.0)) (λ e. omega (arith, ap length e, is.0))
    ∙ ap (λ t. cond t (pad_in (drop 1 (hex8 address))) (option_and_then (λ a. Some (Addr a)) (hex_in 8 (hex8 address))))
    (first_hex (hex8 address) is.1)
    ∙ some_bind (hex_in 8 (hex8 address)) address _ (hex_reads 8 address (omega (arith, h)))
place_there (Pad bank reg) h =
    others_taken (80 ∷ (decimal bank ++ 46 ∷ decimal reg)) (λ e. omega (arith, ap first_of e)) (λ e. omega (arith, ap first_of e))
    ∙ pad_there bank reg h.0 h.1

-- ---- accesses and numbers

three : {a b w x v y : List ℕ} {rest : List (List ℕ)} → a ≡ b → w ≡ x → v ≡ y → rest ≡ [] → a ∷ w ∷ v ∷ rest ≡ b ∷ x ∷ y ∷ []
three e f g h = cc

access_back : (fields : List (List ℕ)) (a : Place × Width × ℕ) → access_in fields ≡ Some a
    → AccessFits a.0 a.1 a.2 × (fields ≡ access_fields a.0 a.1 a.2)
unfolding access_in
access_back [] a e = absurd (cc)
access_back (p ∷ []) a e = absurd (let f = (bind_some (place_in p) _ a e).2 in cc)
access_back (p ∷ w ∷ []) a e = absurd (let f = (bind_some (width_in w) _ a (bind_some (place_in p) _ a e).2).2 in cc)
access_back (p ∷ w ∷ v ∷ rest) a e =
    let f = bind_some (place_in p) _ a e in
    let g = bind_some (width_in w) _ a f.2 in
    let h = bind_some (hex_in 8 v) _ a g.2 in
    let done = end_some rest (fitting f.0 g.0 h.0) a h.2 in
    let told = cond_some (nat_lt h.0 (256 ^ byte_count g.0)) (f.0, g.0, h.0) a done.1 in
    let place = place_back p f.0 f.1 in
    subst (λ (x : Place × Width × ℕ). AccessFits x.0 x.1 x.2 × (p ∷ w ∷ v ∷ rest ≡ access_fields x.0 x.1 x.2)) told.1
    ((place.0, ltb-true _ _ told.0), three place.1 (width_back w g.0 g.1) (hex_only 8 v h.0 h.1) done.0)

access_there : (place : Place) (width : Width) (value : ℕ) → AccessFits place width value
    → access_in (access_fields place width value) ≡ Some (place, width, value)
unfolding access_in
access_there place width value h =
    some_bind (place_in (place_text place)) place _ (place_there place h.0)
    ∙ some_bind (width_in (decimal (byte_count width))) width _ (width_there width)
    ∙ some_bind (hex_in 8 (hex8 value)) value _ (hex_reads 8 value (value_small value width h.1))
    ∙ ap (λ t. cond t (Some (place, width, value)) None) (lt-ltb _ _ h.1)

alone_back : (most : ℕ) (fields : List (List ℕ)) (n : ℕ) → most < 2 ^ 64 - 1 → number_alone most fields ≡ Some n
    → (n ≤ most) × (fields ≡ decimal n ∷ [])
unfolding number_alone
alone_back most [] n small e = absurd (cc)
alone_back most (w ∷ rest) n small e =
    let read = bind_some (number_in most w) _ n e in
    let done = end_some rest (Some read.0) n read.2 in
    let number = number_back most w read.0 small read.1 in
    let same : read.0 ≡ n = some_inj done.1 in
    (omega (arith, number.1, same), two (number.0 ∙ ap decimal same) done.0)
  where
    two : {a b : List ℕ} {rest : List (List ℕ)} → a ≡ b → rest ≡ [] → a ∷ rest ≡ b ∷ []
    two e h = cc

alone_there : (most n : ℕ) → most < 2 ^ 64 - 1 → n ≤ most → number_alone most (decimal n ∷ []) ≡ Some n
unfolding number_alone
alone_there most n small le = some_bind (number_in most (decimal n)) n _ (number_there most n small le)

-- ---- events

access_told : (kind : List ℕ) (fields : List (List ℕ)) (event : Place → Width → ℕ → Event) (e : Event)
    → ((p : Place) (w : Width) (v : ℕ) → AccessFits p w v → EventFits (event p w v)
    × (kind ∷ access_fields p w v ≡ event_fields (event p w v)))
    → option_and_then (λ a. Some (event a.0 a.1 a.2)) (access_in fields) ≡ Some e → EventFits e × (kind ∷ fields ≡ event_fields e)
access_told kind fields event e is h =
    let read = bind_some (access_in fields) _ e h in
    let access = access_back fields read.0 read.1 in
    let told = is read.0.0 read.0.1 read.0.2 access.0 in
    subst (λ (x : Event). EventFits x × (kind ∷ fields ≡ event_fields x)) (some_inj read.2) (told.0, ap (λ fs. kind ∷ fs) access.1 ∙ told.1)

number_told : (kind : List ℕ) (most : ℕ) (fields : List (List ℕ)) (event : ℕ → Event) (e : Event) → most < 2 ^ 64 - 1
    → ((n : ℕ) → n ≤ most → EventFits (event n) × (kind ∷ decimal n ∷ [] ≡ event_fields (event n)))
    → option_and_then (λ n. Some (event n)) (number_alone most fields) ≡ Some e → EventFits e × (kind ∷ fields ≡ event_fields e)
number_told kind most fields event e small is h =
    let read = bind_some (number_alone most fields) _ e h in
    let number = alone_back most fields read.0 small read.1 in
    let told = is read.0 number.0 in
    subst (λ (x : Event). EventFits x × (kind ∷ fields ≡ event_fields x)) (some_inj read.2) (told.0, ap (λ fs. kind ∷ fs) number.1 ∙ told.1)

halt_told : (fields : List (List ℕ)) (e : Event) → at_end fields (Some Halted) ≡ Some e
    → EventFits e × (codes "H" ∷ fields ≡ event_fields e)
halt_told fields e h =
    let done = end_some fields (Some Halted) e h in
    subst (λ (x : Event). EventFits x × (codes "H" ∷ fields ≡ event_fields x)) (some_inj done.1) (tt, ap (λ fs. codes "H" ∷ fs) done.0)

headed : (kind text : List ℕ) (fields : List (List ℕ)) (e : Event) → kind ≡ text → EventFits e × (text ∷ fields ≡ event_fields e)
    → EventFits e × (kind ∷ fields ≡ event_fields e)
headed kind text fields e is h = (h.0, ap (λ k. k ∷ fields) is ∙ h.1)

kind_back : (kind : List ℕ) (fields : List (List ℕ)) (e : Event) → kind_in kind fields ≡ Some e
    → EventFits e × (kind ∷ fields ≡ event_fields e)
unfolding kind_in
kind_back kind fields e h =
    tested kind (codes "R") _ _ e h (λ is r. headed kind (codes "R") fields e is
    (access_told (codes "R") fields Read e (λ p w v a. (a, refl)) r)) (λ h.
    tested kind (codes "W") _ _ e h (λ is r. headed kind (codes "W") fields e is
    (access_told (codes "W") fields Write e (λ p w v a. (a, refl)) r)) (λ h.
    tested kind (codes "E") _ _ e h (λ is r. headed kind (codes "E") fields e is
    (number_told (codes "E") 65535 fields Enter e (omega arith) (λ n le. (omega arith, refl)) r)) (λ h.
    tested kind (codes "L") _ _ e h (λ is r. headed kind (codes "L") fields e is
    (number_told (codes "L") 65535 fields Leave e (omega arith) (λ n le. (omega arith, refl)) r)) (λ h.
    tested kind (codes "I") _ _ e h (λ is r. headed kind (codes "I") fields e is
    (number_told (codes "I") 4294967295 fields DelayIn e (omega arith) (λ n le. (omega arith, refl)) r)) (λ h.
    tested kind (codes "O") _ _ e h (λ is r. headed kind (codes "O") fields e is
    (number_told (codes "O") 4294967295 fields DelayOut e (omega arith) (λ n le. (omega arith, refl)) r)) (λ h.
    tested kind (codes "H") _ _ e h (λ is r. headed kind (codes "H") fields e is (halt_told fields e r)) (λ h. absurd (cc))))))))

event_back : (fields : List (List ℕ)) (e : Event) → event_in fields ≡ Some e → EventFits e × (fields ≡ event_fields e)
unfolding event_in
event_back [] e h = absurd (cc)
event_back (kind ∷ fields) e h = kind_back kind fields e h

event_there : (e : Event) → EventFits e → event_in (event_fields e) ≡ Some e
unfolding event_in kind_in
event_there (Read p w v) h = some_bind (access_in (access_fields p w v)) (p, w, v) _ (access_there p w v h)
event_there (Write p w v) h = some_bind (access_in (access_fields p w v)) (p, w, v) _ (access_there p w v h)
event_there (Enter n) h = some_bind (number_alone 65535 (decimal n ∷ [])) n _ (alone_there 65535 n (omega arith) (omega (arith, h)))
event_there (Leave n) h = some_bind (number_alone 65535 (decimal n ∷ [])) n _ (alone_there 65535 n (omega arith) (omega (arith, h)))
event_there (DelayIn n) h = some_bind (number_alone 4294967295 (decimal n ∷ [])) n _
    (alone_there 4294967295 n (omega arith) (omega (arith, h)))
event_there (DelayOut n) h = some_bind (number_alone 4294967295 (decimal n ∷ [])) n _
    (alone_there 4294967295 n (omega arith) (omega (arith, h)))
event_there Halted h = refl

-- ---- lines

place_lacks : (byte : ℕ) (place : Place) → byte < 46 → PlaceFits place → Lacks byte (place_text place)
place_lacks byte Reg30 low h = lacks_low byte (codes "R30") (omega arith) refl
place_lacks byte Reg31 low h = lacks_low byte (codes "R31") (omega arith) refl
place_lacks byte (Addr address) low h = hex_lacks byte 8 address (omega arith) (omega (arith, h))
place_lacks byte (Pad bank reg) low h = (
  λ e. omega (arith, e),
  append_lacks byte (decimal bank) (46 ∷ decimal reg) (decimal_lacks byte bank (omega arith) (omega (arith, h.0)))
      (λ e. omega (arith, e), decimal_lacks byte reg (omega arith) (omega (arith, h.1))),
)

access_lacks : (byte : ℕ) (kind : List ℕ) (p : Place) (w : Width) (v : ℕ) → byte < 46 → Lacks byte kind → AccessFits p w v
    → AllByRecursion (Lacks byte) (kind ∷ access_fields p w v)
access_lacks byte kind p w v low k h = (
  k,
  (
    place_lacks byte p low h.0,
    (
      decimal_lacks byte (byte_count w) (omega arith) (omega (arith, count_small w)),
      (hex_lacks byte 8 v (omega arith) (value_small v w h.1), tt),
    ),
  ),
)

number_lacks : (byte : ℕ) (kind : List ℕ) (n : ℕ) → byte < 46 → Lacks byte kind → n < 2 ^ 64
    → AllByRecursion (Lacks byte) (kind ∷ decimal n ∷ [])
number_lacks byte kind n low k small = (k, (decimal_lacks byte n (omega arith) small, tt))

fields_lack : (byte : ℕ) (e : Event) → byte < 46 → EventFits e → AllByRecursion (Lacks byte) (event_fields e)
fields_lack byte (Read p w v) low h = access_lacks byte (codes "R") p w v low (lacks_low byte (codes "R") (omega arith) refl) h
fields_lack byte (Write p w v) low h = access_lacks byte (codes "W") p w v low (lacks_low byte (codes "W") (omega arith) refl) h
fields_lack byte (Enter n) low h = number_lacks byte (codes "E") n low (lacks_low byte (codes "E") (omega arith) refl) (omega (arith, h))
fields_lack byte (Leave n) low h = number_lacks byte (codes "L") n low (lacks_low byte (codes "L") (omega arith) refl) (omega (arith, h))
fields_lack byte (DelayIn n) low h = number_lacks byte (codes "I") n low (lacks_low byte (codes "I") (omega arith) refl) (omega (arith, h))
fields_lack byte (DelayOut n) low h = number_lacks byte (codes "O") n low (lacks_low byte (codes "O") (omega arith) refl) (omega (arith, h))
fields_lack byte Halted low h = (lacks_low byte (codes "H") (omega arith) refl, tt)

text_is_line : (e : Event) → event_text e ≡ line_of (event_fields e)
text_is_line (Read p w v) = refl
text_is_line (Write p w v) = refl
text_is_line (Enter n) = refl
text_is_line (Leave n) = refl
text_is_line (DelayIn n) = refl
text_is_line (DelayOut n) = refl
text_is_line Halted = refl

some_field : (e : Event) → 0 < length (event_fields e)
some_field (Read p w v) = omega arith
some_field (Write p w v) = omega arith
some_field (Enter n) = omega arith
some_field (Leave n) = omega arith
some_field (DelayIn n) = omega arith
some_field (DelayOut n) = omega arith
some_field Halted = omega arith

-- an event's line is read as the event
pub line_told : (line : List ℕ) (e : Event) → EventFits e → line ≡ event_text e → event_in (fields_of line) ≡ Some e
line_told line e fits is =
    ap (λ l. event_in (fields_of l)) (is ∙ text_is_line e)
    ∙ ap event_in (fields_again (event_fields e) (some_field e) (fields_lack 32 e (omega arith) fits)) ∙ event_there e fits

pub told_only : (line : List ℕ) (o : Option Event) → o ≡ event_in (fields_of line) → (e : Event) → EventFits e → line ≡ event_text e
    → o ≡ Some e
told_only line o h e fits is = h ∙ line_told line e fits is

-- what is read of a line fits, and the line is its text
pub told_fits : (line : List ℕ) (o : Option Event) → o ≡ event_in (fields_of line) → IfSome o (λ e. EventFits e)
told_fits line None h = tt
told_fits line (Some e) h = (event_back (fields_of line) e (sym h)).0

pub told_text : (line : List ℕ) (o : Option Event) → o ≡ event_in (fields_of line) → IfSome o (λ e. line ≡ event_text e)
told_text line None h = tt
told_text line (Some e) h = line_back line ∙ ap line_of (event_back (fields_of line) e (sym h)).1 ∙ sym (text_is_line e)

-- no line end stands in an event's text
pub text_lacks : (e : Event) → EventFits e → Lacks 10 (event_text e)
text_lacks e fits = subst (Lacks 10) (sym (text_is_line e)) (line_lacks 10 (event_fields e) (omega arith)
    (fields_lack 10 e (omega arith) fits))

-- two events with one text are one
pub one_event : (e f : Event) → EventFits e → EventFits f → event_text e ≡ event_text f → e ≡ f
one_event e f a b same = some_inj (sym (line_told (event_text e) e a refl) ∙ line_told (event_text e) f b same)
