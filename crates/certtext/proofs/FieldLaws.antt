-- The fields of a line are read as they are printed, and what is read is printed so.
use Rattle.std.proofs.Common.{◌≡◌, ◌≢◌, ℕ, ◌^◌, ◌-◌, ◌<◌, ◌≤◌, Bool, true, false, cond, ◌==◌, not, nat_le, List, [], ◌∷◌}
use Rattle.std.proofs.Common.{length, Option, Some, None, refl, sym, ap, ◌∙◌, arith, codes, option_and_then, subst}
use Rattle.std.specs.List.{list_all, AllByRecursion}
use Rattle.std.specs.Prelude.{IfSome}
use Rattle.std.specs.Str.{bytes_eq}
use Rattle.std.specs.Fmt.{decimal}
use Rattle.std.proofs.lemmas.Bool.{and_parts, ne_eqb, eqb-false, le-leb, leb-true}
use Rattle.std.proofs.lemmas.Option.{cond_some}
use Rattle.std.proofs.lemmas.Slice.Eq.{bytes_eq-Decides}
use Rattle.corestep.specs.declared.table.Table.TheVariants.{One, Two}
use Rattle.textline.specs.Lines.{Lacks, fields_of, line_of}
use Rattle.textline.specs.Numbers.{decimal_in}
use Rattle.textline.proofs.DecimalLaws.{decimal_reads, decimal_only}
use Rattle.textline.proofs.Printed.{lacks_low, decimal_lacks, line_lacks}
use Rattle.textline.proofs.SplitLaws.{fields_again, line_back}
use Rattle.certtext.specs.declared.cert.Cause.{Cause}
use Rattle.certtext.specs.declared.cert.Cause.TheVariants.{Touches, Unbounded, Crossed, Long}
use Rattle.certtext.specs.declared.edition.Edition.{Edition}
use Rattle.certtext.specs.declared.edition.Edition.TheVariants.{First, Second}
use Rattle.certtext.specs.declared.saying.Saying.{Saying}
use Rattle.certtext.specs.declared.saying.Saying.TheVariants.{Core, Certified, Labelled, Refused, Unbalanced}
use Rattle.certtext.specs.Texts.{edition_text, cause_text, saying_text, BoundsFit, Fits}
use Rattle.certtext.specs.Fields.{edition_in, bounds_fields, saying_fields, within, number_in, at_end, alone, ordered}
use Rattle.certtext.specs.Fields.{bounds_in, core_in, cert_in, label_in, cause_in, unbalanced_in, behind_word, refused_in, word_in, said_in}

pub some_inj : {A : Type 0} {x y : A} → Some x ≡ Some y → x ≡ y
some_inj e = cc

bind_some : {A B : Type 0} (o : Option A) (f : A → Option B) (y : B) → option_and_then f o ≡ Some y
    → (x : A) × (o ≡ Some x) × (f x ≡ Some y)
bind_some None f y e = absurd (cc)
bind_some (Some x) f y e = (x, refl, e)

some_bind : {A B : Type 0} (o : Option A) (x : A) (f : A → Option B) → o ≡ Some x → option_and_then f o ≡ f x
some_bind o x f e = ap (option_and_then f) e

end_some : {A : Type 0} (rest : List (List ℕ)) (o : Option A) (y : A) → at_end rest o ≡ Some y → (rest ≡ []) × (o ≡ Some y)
end_some [] o y e = (refl, e)
end_some (word ∷ rest) o y e = absurd (let h = ap (λ t. cond t o None) (sym (ne_eqb (length (word ∷ rest)) 0 (λ z. omega arith))) ∙ e in cc)

-- where the word is the one tested for, the first reader was taken, and the others where it isn't
tested : {A Goal : Type 0} (word text : List ℕ) (r s : Option A) (y : A) → cond (bytes_eq word text) r s ≡ Some y
    → (word ≡ text → r ≡ Some y → Goal) → (s ≡ Some y → Goal) → Goal
tested {A} {Goal} word text r s y e here others = by (bytes_eq word text) refl e
  where
    by : (t : Bool) → bytes_eq word text ≡ t → cond t r s ≡ Some y → Goal
    by true is e = here ((bytes_eq-Decides word text).0 is) e
    by false is e = others e

-- ---- the first line

edition_there : (edition : Edition) → edition_in (edition_text edition) ≡ Some edition
unfolding edition_in
edition_there First = refl
edition_there (Second One) = refl
edition_there (Second Two) = refl

pub edition_back : (line : List ℕ) (edition : Edition) → edition_in line ≡ Some edition → line ≡ edition_text edition
unfolding edition_in
edition_back line edition e =
    tested line (codes "certs 1") _ _ edition e (λ is r. is ∙ ap edition_text (some_inj r)) (λ e.
    tested line (codes "certs 2 1") _ _ edition e (λ is r. is ∙ ap edition_text (some_inj r)) (λ e.
    tested line (codes "certs 2 2") _ _ edition e (λ is r. is ∙ ap edition_text (some_inj r)) (λ e. absurd (cc))))

pub edition_only : (line : List ℕ) (edition : Edition) → line ≡ edition_text edition → edition_in line ≡ Some edition
edition_only line edition is = ap edition_in is ∙ edition_there edition

pub one_edition : (a b : Edition) → edition_text a ≡ edition_text b → a ≡ b
one_edition a b e = some_inj (sym (edition_there a) ∙ edition_only (edition_text a) b e)

apart : (byte c : ℕ) (t : Bool) → (c == byte) ≡ t → not t ≡ true → c ≢ byte
apart byte c true is h = absurd (cc)
apart byte c false is h = eqb-false c byte is

lacks_all : (byte : ℕ) (word : List ℕ) → list_all (λ c. not (c == byte)) word ≡ true → Lacks byte word
lacks_all byte [] h = tt
lacks_all byte (c ∷ word) h =
    let parts = and_parts (not (c == byte)) (list_all (λ x. not (x == byte)) word) h in
    (apart byte c (c == byte) refl parts.0, lacks_all byte word parts.1)

pub edition_lacks : (edition : Edition) → Lacks 10 (edition_text edition)
edition_lacks First = lacks_all 10 (codes "certs 1") refl
edition_lacks (Second One) = lacks_all 10 (codes "certs 2 1") refl
edition_lacks (Second Two) = lacks_all 10 (codes "certs 2 2") refl

-- ---- numbers

number_back : (most : ℕ) (word : List ℕ) (n : ℕ) → most < 2 ^ 64 - 1 → number_in most word ≡ Some n → (word ≡ decimal n) × (n ≤ most)
number_back most word n small e =
    let read = bind_some (decimal_in word) (within most) n e in
    let told = cond_some (nat_le read.0 most) read.0 n read.2 in
    let le = leb-true read.0 most told.0 in
    (decimal_only word read.0 read.1 (omega (arith, le)) ∙ ap decimal told.1, omega (arith, le, told.1))

number_there : (most n : ℕ) → most < 2 ^ 64 - 1 → n ≤ most → number_in most (decimal n) ≡ Some n
number_there most n small le =
    some_bind (decimal_in (decimal n)) n (within most) (decimal_reads n (omega arith)) ∙ ap (λ t. cond t (Some n) None) (le-leb n most le)

put : (k : List ℕ) {a b : List ℕ} {r s : List (List ℕ)} → a ≡ b → r ≡ s → k ∷ a ∷ r ≡ k ∷ b ∷ s
put k e h = cc

pair : {a b : List ℕ} {r s : List (List ℕ)} → a ≡ b → r ≡ s → a ∷ r ≡ b ∷ s
pair e h = cc

alone_back : (most : ℕ) (fields : List (List ℕ)) (n : ℕ) → most < 2 ^ 64 - 1 → alone most fields ≡ Some n
    → (fields ≡ decimal n ∷ []) × (n ≤ most)
unfolding alone
alone_back most [] n small e = absurd (cc)
alone_back most (w ∷ rest) n small e =
    let f = bind_some (number_in most w) _ n e in
    let done = end_some rest (Some f.0) n f.2 in
    let number = number_back most w f.0 small f.1 in
    subst (λ (x : ℕ). (w ∷ rest ≡ decimal x ∷ []) × (x ≤ most)) (some_inj done.1) (pair number.0 done.0, number.1)

alone_there : (most n : ℕ) → most < 2 ^ 64 - 1 → n ≤ most → alone most (decimal n ∷ []) ≡ Some n
unfolding alone
alone_there most n small le = some_bind (number_in most (decimal n)) n _ (number_there most n small le)

-- ---- bounds

bounds_back : (edition : Edition) (fields : List (List ℕ)) (b : ℕ × ℕ) → bounds_in edition fields ≡ Some b
    → BoundsFit edition b.0 b.1 × (fields ≡ bounds_fields edition b.0 b.1)
unfolding bounds_in
bounds_back First fields b e =
    let f = bind_some (alone 2000000 fields) _ b e in
    let n = alone_back 2000000 fields f.0 (omega arith) f.1 in
    subst (λ (x : ℕ × ℕ). BoundsFit First x.0 x.1 × (fields ≡ bounds_fields First x.0 x.1)) (some_inj f.2) ((refl, n.1), n.0)
bounds_back (Second table) [] b e = absurd (cc)
bounds_back (Second table) (w ∷ rest) b e =
    let f = bind_some (number_in 2000000 w) _ b e in
    let g = bind_some (alone 2000000 rest) (ordered f.0) b f.2 in
    let told = cond_some (nat_le f.0 g.0) (f.0, g.0) b g.2 in
    let l = number_back 2000000 w f.0 (omega arith) f.1 in
    let m = alone_back 2000000 rest g.0 (omega arith) g.1 in
    subst (λ (x : ℕ × ℕ). BoundsFit (Second table) x.0 x.1 × (w ∷ rest ≡ bounds_fields (Second table) x.0 x.1)) told.1
    ((leb-true f.0 g.0 told.0, m.1), pair l.0 m.0)

bounds_there : (edition : Edition) (l m : ℕ) → BoundsFit edition l m → bounds_in edition (bounds_fields edition l m) ≡ Some (l, m)
unfolding bounds_in
bounds_there First l m h =
    some_bind (alone 2000000 (decimal l ∷ [])) l _ (alone_there 2000000 l (omega arith) (omega (arith, h.0, h.1)))
    ∙ ap (λ x. Some (l, x)) h.0
bounds_there (Second table) l m h =
    some_bind (number_in 2000000 (decimal l)) l _ (number_there 2000000 l (omega arith) (omega (arith, h.0, h.1)))
    ∙ some_bind (alone 2000000 (decimal m ∷ [])) m _ (alone_there 2000000 m (omega arith) h.1)
    ∙ ap (λ t. cond t (Some (l, m)) None) (le-leb l m h.0)

-- ---- each kind of line

-- the line is this saying's, and fits
abbrev Tells : Edition → List (List ℕ) → Saying → Type 0
Tells edition fields s = Fits edition s × (fields ≡ saying_fields edition s)

core_back : (edition : Edition) (fields : List (List ℕ)) (s : Saying) → core_in fields ≡ Some s → Tells edition (codes "core" ∷ fields) s
core_back edition fields s e =
    let f = bind_some (alone 1 fields) _ s e in
    let n = alone_back 1 fields f.0 (omega arith) f.1 in
    subst (λ (x : Saying). Tells edition (codes "core" ∷ fields) x) (some_inj f.2) (omega (arith, n.1), ap (λ fs. codes "core" ∷ fs) n.0)

cert_back : (edition : Edition) (fields : List (List ℕ)) (s : Saying) → cert_in edition fields ≡ Some s
    → Tells edition (codes "cert" ∷ fields) s
cert_back edition [] s e = absurd (cc)
cert_back edition (r ∷ rest) s e =
    let f = bind_some (number_in 63 r) _ s e in
    let g = bind_some (bounds_in edition rest) _ s f.2 in
    let n = number_back 63 r f.0 (omega arith) f.1 in
    let b = bounds_back edition rest g.0 g.1 in
    subst (λ (x : Saying). Tells edition (codes "cert" ∷ r ∷ rest) x) (some_inj g.2)
    ((omega (arith, n.1), b.0), put (codes "cert") n.0 b.1)

label_back : (edition : Edition) (fields : List (List ℕ)) (s : Saying) → label_in edition fields ≡ Some s
    → Tells edition (codes "at" ∷ fields) s
label_back edition [] s e = absurd (cc)
label_back edition (w ∷ []) s e = absurd (let f = (bind_some (number_in 65535 w) _ s e).2 in cc)
label_back edition (w ∷ v ∷ rest) s e =
    let f = bind_some (number_in 65535 w) _ s e in
    let g = bind_some (number_in 65535 v) _ s f.2 in
    let h = bind_some (bounds_in edition rest) _ s g.2 in
    let n = number_back 65535 w f.0 (omega arith) f.1 in
    let m = number_back 65535 v g.0 (omega arith) g.1 in
    let b = bounds_back edition rest h.0 h.1 in
    subst (λ (x : Saying). Tells edition (codes "at" ∷ w ∷ v ∷ rest) x) (some_inj h.2)
    ((omega (arith, n.1), omega (arith, m.1), b.0), put (codes "at") n.0 (pair m.0 b.1))

cause_back : (word : List ℕ) (c : Cause) → cause_in word ≡ Some c → word ≡ cause_text c
unfolding cause_in
cause_back word c e =
    tested word (codes "touches") _ _ c e (λ is r. is ∙ ap cause_text (some_inj r)) (λ e.
    tested word (codes "unbounded") _ _ c e (λ is r. is ∙ ap cause_text (some_inj r)) (λ e.
    tested word (codes "crossed") _ _ c e (λ is r. is ∙ ap cause_text (some_inj r)) (λ e.
    tested word (codes "long") _ _ c e (λ is r. is ∙ ap cause_text (some_inj r)) (λ e. absurd (cc)))))

unbalanced_back : (edition : Edition) (region : ℕ) (fields : List (List ℕ)) (s : Saying) → region < 64
    → unbalanced_in edition region fields ≡ Some s → Tells edition (codes "none" ∷ decimal region ∷ codes "unbalanced" ∷ fields) s
unfolding unbalanced_in
unbalanced_back (Second table) region fields s r e = absurd (cc)
unbalanced_back First region [] s r e = absurd (cc)
unbalanced_back First region (w ∷ []) s r e = absurd (let f = (bind_some (number_in 65535 w) _ s e).2 in cc)
unbalanced_back First region (w ∷ v ∷ rest) s r e =
    let f = bind_some (number_in 65535 w) _ s e in
    let g = bind_some (number_in 2000000 v) _ s f.2 in
    let h = bind_some (alone 2000000 rest) _ s g.2 in
    let n = number_back 65535 w f.0 (omega arith) f.1 in
    let m = number_back 2000000 v g.0 (omega arith) g.1 in
    let k = alone_back 2000000 rest h.0 (omega arith) h.1 in
    subst (λ (x : Saying). Tells First (codes "none" ∷ decimal region ∷ codes "unbalanced" ∷ w ∷ v ∷ rest) x) (some_inj h.2)
    ((r, omega (arith, n.1), m.1, k.1), ap (λ fs. codes "none" ∷ decimal region ∷ fs) (put (codes "unbalanced") n.0 (pair m.0 k.0)))

behind_back : (edition : Edition) (region : ℕ) (word : List ℕ) (fields : List (List ℕ)) (s : Saying) → region < 64
    → behind_word edition region word fields ≡ Some s → Tells edition (codes "none" ∷ decimal region ∷ word ∷ fields) s
unfolding behind_word
behind_back edition region word fields s r e =
    tested word (codes "unbalanced") _ _ s e
    (λ is e. let h = unbalanced_back edition region fields s r e in
    (h.0, ap (λ w. codes "none" ∷ decimal region ∷ w ∷ fields) is ∙ h.1))
    (λ e.
    let c = bind_some (cause_in word) _ s e in
    let p = bind_some (alone 65535 fields) _ s c.2 in
    let n = alone_back 65535 fields p.0 (omega arith) p.1 in
    subst (λ (x : Saying). Tells edition (codes "none" ∷ decimal region ∷ word ∷ fields) x) (some_inj p.2)
    ((r, omega (arith, n.1)), ap (λ fs. codes "none" ∷ fs) (put (decimal region) (cause_back word c.0 c.1) n.0)))

refused_back : (edition : Edition) (fields : List (List ℕ)) (s : Saying) → refused_in edition fields ≡ Some s
    → Tells edition (codes "none" ∷ fields) s
refused_back edition [] s e = absurd (cc)
refused_back edition (w ∷ []) s e = absurd (let f = (bind_some (number_in 63 w) _ s e).2 in cc)
refused_back edition (w ∷ v ∷ rest) s e =
    let f = bind_some (number_in 63 w) _ s e in
    let n = number_back 63 w f.0 (omega arith) f.1 in
    let h = behind_back edition f.0 v rest s (omega (arith, n.1)) f.2 in
    (h.0, ap (λ x. codes "none" ∷ x ∷ v ∷ rest) n.0 ∙ h.1)

headed : (edition : Edition) (word text : List ℕ) (fields : List (List ℕ)) (s : Saying) → word ≡ text → Tells edition (text ∷ fields) s
    → Tells edition (word ∷ fields) s
headed edition word text fields s is h = (h.0, ap (λ k. k ∷ fields) is ∙ h.1)

word_back : (edition : Edition) (word : List ℕ) (fields : List (List ℕ)) (s : Saying) → word_in edition word fields ≡ Some s
    → Tells edition (word ∷ fields) s
unfolding word_in
word_back edition word fields s e =
    tested word (codes "at") _ _ s e (λ is r. headed edition word (codes "at") fields s is (label_back edition fields s r)) (λ e.
    tested word (codes "cert") _ _ s e (λ is r. headed edition word (codes "cert") fields s is (cert_back edition fields s r)) (λ e.
    tested word (codes "none") _ _ s e (λ is r. headed edition word (codes "none") fields s is (refused_back edition fields s r)) (λ e.
    tested word (codes "core") _ _ s e (λ is r. headed edition word (codes "core") fields s is (core_back edition fields s r)) (λ e.
    absurd (cc)))))

said_back : (edition : Edition) (fields : List (List ℕ)) (s : Saying) → said_in edition fields ≡ Some s → Tells edition fields s
unfolding said_in
said_back edition [] s e = absurd (cc)
said_back edition (word ∷ fields) s e = word_back edition word fields s e

refused_there : (edition : Edition) (region pc : ℕ) (c : Cause) → pc < 2 ^ 16
    → behind_word edition region (cause_text c) (decimal pc ∷ []) ≡ Some (Refused region (record { cause = c; pc = pc }))
unfolding behind_word cause_in
refused_there edition region pc Touches h = some_bind (alone 65535 (decimal pc ∷ [])) pc _ (alone_there 65535 pc (omega arith) (omega
    arith))
refused_there edition region pc Unbounded h =
    some_bind (alone 65535 (decimal pc ∷ [])) pc _ (alone_there 65535 pc (omega arith) (omega arith))
refused_there edition region pc Crossed h = some_bind (alone 65535 (decimal pc ∷ [])) pc _ (alone_there 65535 pc (omega arith) (omega
    arith))
refused_there edition region pc Long h = some_bind (alone 65535 (decimal pc ∷ [])) pc _ (alone_there 65535 pc (omega arith) (omega arith))

said_there : (edition : Edition) (s : Saying) → Fits edition s → said_in edition (saying_fields edition s) ≡ Some s
unfolding said_in word_in behind_word unbalanced_in
said_there edition (Core n) h = some_bind (alone 1 (decimal n ∷ [])) n _ (alone_there 1 n (omega arith) (omega (arith, h)))
said_there edition (Certified r l m) h =
    some_bind (number_in 63 (decimal r)) r _ (number_there 63 r (omega arith) (omega (arith, h.0)))
    ∙ some_bind (bounds_in edition (bounds_fields edition l m)) (l, m) _ (bounds_there edition l m h.1)
said_there edition (Labelled l) h =
    some_bind (number_in 65535 (decimal l.entry)) l.entry _ (number_there 65535 l.entry (omega arith) (omega (arith, h.0)))
    ∙ some_bind (number_in 65535 (decimal l.pc)) l.pc _ (number_there 65535 l.pc (omega arith) (omega (arith, h.1)))
    ∙ some_bind (bounds_in edition (bounds_fields edition l.least l.most)) (l.least, l.most) _ (bounds_there edition l.least l.most h.2)
said_there edition (Refused r x) h =
    some_bind (number_in 63 (decimal r)) r _ (number_there 63 r (omega arith) (omega (arith, h.0)))
    ∙ refused_there edition r x.pc x.cause h.1
said_there First (Unbalanced r p f s) h =
    some_bind (number_in 63 (decimal r)) r _ (number_there 63 r (omega arith) (omega (arith, h.0)))
    ∙ some_bind (number_in 65535 (decimal p)) p _ (number_there 65535 p (omega arith) (omega (arith, h.1)))
    ∙ some_bind (number_in 2000000 (decimal f)) f _ (number_there 2000000 f (omega arith) h.2)
    ∙ some_bind (alone 2000000 (decimal s ∷ [])) s _ (alone_there 2000000 s (omega arith) h.3)
said_there (Second table) (Unbalanced r p f s) h = absurd h

-- ---- lines

bounds_lack : (byte : ℕ) (edition : Edition) (l m : ℕ) → byte < 48 → BoundsFit edition l m
    → AllByRecursion (Lacks byte) (bounds_fields edition l m)
bounds_lack byte First l m low h = (decimal_lacks byte l low (omega (arith, h.0, h.1)), tt)
bounds_lack byte (Second table) l m low h =
    (decimal_lacks byte l low (omega (arith, h.0, h.1)), (decimal_lacks byte m low (omega (arith, h.1)), tt))

cause_lacks : (byte : ℕ) (c : Cause) → byte < 48 → Lacks byte (cause_text c)
cause_lacks byte Touches low = lacks_low byte (codes "touches") low refl
cause_lacks byte Unbounded low = lacks_low byte (codes "unbounded") low refl
cause_lacks byte Crossed low = lacks_low byte (codes "crossed") low refl
cause_lacks byte Long low = lacks_low byte (codes "long") low refl

fields_lack : (byte : ℕ) (edition : Edition) (s : Saying) → byte < 48 → Fits edition s
    → AllByRecursion (Lacks byte) (saying_fields edition s)
fields_lack byte edition (Core n) low h = (lacks_low byte (codes "core") low refl, (decimal_lacks byte n low (omega (arith, h)), tt))
fields_lack byte edition (Certified r l m) low h =
    (lacks_low byte (codes "cert") low refl, (decimal_lacks byte r low (omega (arith, h.0)), bounds_lack byte edition l m low h.1))
fields_lack byte edition (Labelled l) low h = (
  lacks_low byte (codes "at") low refl,
  (
    decimal_lacks byte l.entry low (omega (arith, h.0)),
    (decimal_lacks byte l.pc low (omega (arith, h.1)), bounds_lack byte edition l.least l.most low h.2),
  ),
)
fields_lack byte edition (Refused r x) low h = (
  lacks_low byte (codes "none") low refl,
  (
    decimal_lacks byte r low (omega (arith, h.0)),
    (cause_lacks byte x.cause low, (decimal_lacks byte x.pc low (omega (arith, h.1)), tt)),
  ),
)
fields_lack byte First (Unbalanced r p f s) low h = (
  lacks_low byte (codes "none") low refl,
  (
    decimal_lacks byte r low (omega (arith, h.0)),
    (
      lacks_low byte (codes "unbalanced") low refl,
      (
        decimal_lacks byte p low (omega (arith, h.1)),
        (decimal_lacks byte f low (omega (arith, h.2)), (decimal_lacks byte s low (omega (arith, h.3)), tt)),
      ),
    ),
  ),
)
fields_lack byte (Second table) (Unbalanced r p f s) low h = absurd h

text_is_line : (edition : Edition) (s : Saying) → saying_text edition s ≡ line_of (saying_fields edition s)
text_is_line edition (Core n) = refl
text_is_line First (Certified r l m) = refl
text_is_line (Second table) (Certified r l m) = refl
text_is_line First (Labelled l) = refl
text_is_line (Second table) (Labelled l) = refl
text_is_line edition (Refused r x) = refl
text_is_line edition (Unbalanced r p f s) = refl

some_field : (edition : Edition) (s : Saying) → 0 < length (saying_fields edition s)
some_field edition (Core n) = omega arith
some_field edition (Certified r l m) = omega arith
some_field edition (Labelled l) = omega arith
some_field edition (Refused r x) = omega arith
some_field edition (Unbalanced r p f s) = omega arith

-- a line is read as what it says
line_told : (edition : Edition) (line : List ℕ) (s : Saying) → Fits edition s → line ≡ saying_text edition s
    → said_in edition (fields_of line) ≡ Some s
line_told edition line s fits is =
    ap (λ l. said_in edition (fields_of l)) (is ∙ text_is_line edition s)
    ∙ ap (said_in edition) (fields_again (saying_fields edition s) (some_field edition s) (fields_lack 32 edition s (omega arith) fits))
    ∙ said_there edition s fits

pub told_only : (edition : Edition) (line : List ℕ) (o : Option Saying) → o ≡ said_in edition (fields_of line)
    → (s : Saying) → Fits edition s → line ≡ saying_text edition s → o ≡ Some s
told_only edition line o h s fits is = h ∙ line_told edition line s fits is

pub told_fits : (edition : Edition) (line : List ℕ) (o : Option Saying) → o ≡ said_in edition (fields_of line)
    → IfSome o (λ s. Fits edition s)
told_fits edition line None h = tt
told_fits edition line (Some s) h = (said_back edition (fields_of line) s (sym h)).0

pub told_text : (edition : Edition) (line : List ℕ) (o : Option Saying) → o ≡ said_in edition (fields_of line)
    → IfSome o (λ s. line ≡ saying_text edition s)
told_text edition line None h = tt
told_text edition line (Some s) h =
    line_back line ∙ ap line_of (said_back edition (fields_of line) s (sym h)).1 ∙ sym (text_is_line edition s)

-- no line end stands in a line's text
pub text_lacks : (edition : Edition) (s : Saying) → Fits edition s → Lacks 10 (saying_text edition s)
text_lacks edition s fits = subst (Lacks 10) (sym (text_is_line edition s)) (line_lacks 10 (saying_fields edition s) (λ e. omega (arith, e))
    (fields_lack 10 edition s (omega arith) fits))

-- two lines with one text say one thing
pub one_saying : (edition : Edition) (s t : Saying) → Fits edition s → Fits edition t → saying_text edition s ≡ saying_text edition t
    → s ≡ t
one_saying edition s t a b same =
    some_inj (sym (line_told edition (saying_text edition s) s a refl) ∙ line_told edition (saying_text edition s) t b same)

pub edition_text_told : (line : List ℕ) (o : Option Edition) → o ≡ edition_in line → IfSome o (λ edition. line ≡ edition_text edition)
edition_text_told line None h = tt
edition_text_told line (Some edition) h = edition_back line edition (sym h)

pub edition_told_only : (line : List ℕ) (o : Option Edition) → o ≡ edition_in line → (edition : Edition) → line ≡ edition_text edition
    → o ≡ Some edition
edition_told_only line o h edition is = h ∙ edition_only line edition is
