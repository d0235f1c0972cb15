-- What is read is of the form, or not, as the forms say.
use Rattle.std.proofs.Common.{◌≡◌, ℕ, Bool, true, false, cond, ◌&&◌, ◌||◌, nat_le, List, [], ◌∷◌, length, Option, Some}
use Rattle.std.proofs.Common.{None, is_some, Result, Ok, Err, refl, sym, ap, ◌∙◌, arith, codes}
use Rattle.std.specs.Option.{ok_or}
use Rattle.std.specs.List.{list_all}
use Rattle.std.specs.Str.{bytes_eq}
use Rattle.std.proofs.lemmas.Bool.{ne_eqb}
use Rattle.std.proofs.lemmas.Slice.Eq.{bytes_eq-Decides}
use Rattle.textline.specs.Numbers.{is_decimal, decimal_in, hex_in}
use Rattle.hostscript.specs.declared.cause.ScriptCause.{ScriptCause}
use Rattle.hostscript.specs.declared.cause.ScriptCause.TheVariants.{Form, Range, Order}
use Rattle.hostscript.specs.declared.line.Saying.TheVariants.{Does, Waits}
use Rattle.hostscript.specs.Forms.{number, digits, are_operands, has_operands, has_act_form, has_arb_form}
use Rattle.hostscript.specs.Reading.{◌>>=◌, at_end, poke_of, poke_in, pins_in, event_in, start_in}
use Rattle.hostscript.specs.Reading.{action_in, act_in, arb_in, small_numbers, fields_said}

-- every cause but Form
abbrev pub formed : {A : Type 0} → Result A ScriptCause → Bool
formed (Ok x) = true
formed (Err Form) = false
formed (Err Range) = true
formed (Err Order) = true

formed_field : {A B : Type 0} (o : Option A) (f : A → Result B ScriptCause) (b : Bool) → ((x : A) → formed (f x) ≡ b)
    → formed (ok_or o Form >>= f) ≡ (is_some o && b)
formed_field None f b h = refl
formed_field (Some x) f b h = h x

formed_none : {A B : Type 0} (o : Option A) (f : A → Result B ScriptCause) → ((x : A) → formed (f x) ≡ false)
    → formed (ok_or o Form >>= f) ≡ false
formed_none None f h = refl
formed_none (Some x) f h = h x

formed_range : {A : Type 0} (o : Option A) → formed (ok_or o Range) ≡ true
formed_range None = refl
formed_range (Some x) = refl

formed_choice : {A : Type 0} (t : Bool) (x : A) → formed (cond t (Ok x) (Err Range)) ≡ true
formed_choice true x = refl
formed_choice false x = refl

formed_cond : {A : Type 0} (t : Bool) (r s : Result A ScriptCause) (p q : Bool) → formed r ≡ p → formed s ≡ q
    → formed (cond t r s) ≡ cond t p q
formed_cond true r s p q e f = e
formed_cond false r s p q e f = f

formed_after : {A B : Type 0} (r : Result A ScriptCause) (f : A → Result B ScriptCause) → ((x : A) → formed (f x) ≡ true)
    → formed (r >>= f) ≡ formed r
formed_after (Ok x) f h = h x
formed_after (Err Form) f h = refl
formed_after (Err Range) f h = refl
formed_after (Err Order) f h = refl

some_cond : {A : Type 0} (b : Bool) (x : A) → is_some (cond b (Some x) None) ≡ b
some_cond true x = refl
some_cond false x = refl

decimal_formed : (word : List ℕ) → is_some (decimal_in word) ≡ is_decimal word
decimal_formed word = some_cond (is_decimal word) _

and_same : (a b c : Bool) → a ≡ b → (a && c) ≡ (b && c)
and_same a b c e = ap (λ t. t && c) e

formed_end : {A : Type 0} (rest : List (List ℕ)) (r : Result A ScriptCause) → formed r ≡ true
    → formed (at_end rest r) ≡ are_operands [] rest
formed_end [] r e = e
formed_end (word ∷ rest) r e = ap (λ t. formed (cond t r (Err Form))) (ne_eqb (length (word ∷ rest)) 0 (λ z. omega arith))

formed_poke : (fields : List (List ℕ)) → formed (poke_in fields) ≡ are_operands (digits 8 ∷ number ∷ digits 8 ∷ []) fields
unfolding poke_in
formed_poke [] = refl
formed_poke (a ∷ []) = formed_field (hex_in 8 a) _ false (λ x. refl)
formed_poke (a ∷ w ∷ []) = formed_field (hex_in 8 a) _ (is_decimal w && false)
    (λ x. formed_field (decimal_in w) _ false (λ y. refl) ∙ and_same _ _ false (decimal_formed w))
formed_poke (a ∷ w ∷ v ∷ rest) =
    formed_field (hex_in 8 a) _ (is_decimal w && (is_some (hex_in 8 v) && are_operands [] rest)) (λ x.
    formed_field (decimal_in w) _ (is_some (hex_in 8 v) && are_operands [] rest) (λ y.
    formed_field (hex_in 8 v) _ (are_operands [] rest) (λ z. formed_end rest _ (formed_range (poke_of x y z))))
    ∙ and_same _ _ _ (decimal_formed w))

formed_pins : (fields : List (List ℕ)) → formed (pins_in fields) ≡ are_operands (number ∷ digits 4 ∷ []) fields
unfolding pins_in
formed_pins [] = refl
formed_pins (w ∷ []) = formed_field (decimal_in w) _ false (λ y. refl) ∙ and_same _ _ false (decimal_formed w)
formed_pins (w ∷ v ∷ rest) =
    formed_field (decimal_in w) _ (is_some (hex_in 4 v) && are_operands [] rest) (λ y.
    formed_field (hex_in 4 v) _ (are_operands [] rest) (λ z. formed_end rest _ (formed_choice (nat_le y 1) _)))
    ∙ and_same _ _ _ (decimal_formed w)

formed_event : (fields : List (List ℕ)) → formed (event_in fields) ≡ are_operands (number ∷ []) fields
unfolding event_in
formed_event [] = refl
formed_event (w ∷ rest) = formed_field (decimal_in w) _ (are_operands [] rest)
    (λ y. formed_end rest _ (formed_choice (nat_le y 63) _)) ∙ and_same _ _ _ (decimal_formed w)

formed_start : (fields : List (List ℕ)) → formed (start_in fields) ≡ are_operands (number ∷ []) fields
unfolding start_in
formed_start [] = refl
formed_start (w ∷ rest) = formed_field (decimal_in w) _ (are_operands [] rest)
    (λ y. formed_end rest _ (formed_choice (nat_le y 1) _)) ∙ and_same _ _ _ (decimal_formed w)

formed_action : (word : List ℕ) (words : List (List ℕ)) → formed (action_in (word ∷ words)) ≡ has_operands word words
unfolding action_in
formed_action word words =
    formed_cond (bytes_eq word (codes "poke")) _ _ _ _ (formed_poke words)
    (formed_cond (bytes_eq word (codes "pins")) _ _ _ _ (formed_pins words)
    (formed_cond (bytes_eq word (codes "event")) _ _ _ _ (formed_event words)
    (formed_cond (bytes_eq word (codes "start")) _ _ _ _ (formed_start words) refl)))

pub formed_act : (fields : List (List ℕ)) → formed (act_in fields) ≡ has_act_form fields
unfolding act_in action_in
formed_act [] = refl
formed_act (cycle ∷ []) = formed_none (decimal_in cycle) _ (λ x. refl)
formed_act (cycle ∷ word ∷ words) =
    formed_field (decimal_in cycle) _ (has_operands word words) (λ x.
    formed_after (action_in (word ∷ words)) _ (λ a. formed_choice (nat_le x 1999999) _) ∙ formed_action word words)
    ∙ and_same _ _ _ (decimal_formed cycle)

-- behind the word arb
abbrev pub has_arb_operands : List (List ℕ) → Bool
has_arb_operands (core ∷ first ∷ others) = list_all is_decimal (core ∷ first ∷ others)
has_arb_operands _ = false

pub formed_arb : (fields : List (List ℕ)) → formed (arb_in fields) ≡ has_arb_operands fields
unfolding arb_in
formed_arb [] = refl
formed_arb (core ∷ []) = formed_none (decimal_in core) _ (λ x. refl)
formed_arb (core ∷ first ∷ others) =
    let some = ne_eqb (length (first ∷ others)) 0 (λ z. omega arith) in
    formed_field (decimal_in core) _ (list_all is_decimal (first ∷ others)) (λ x.
    ap (λ t. formed {A = ℕ × List ℕ} (cond t (Err Form) ((cond (list_all is_decimal (first ∷ others))
    (ok_or (small_numbers (first ∷ others)) Range) (Err Form)) >>= λ ns. cond (nat_le x 1) (Ok (x, ns)) (Err Range)))) some
    ∙ formed_after (cond (list_all is_decimal (first ∷ others)) (ok_or (small_numbers (first ∷ others)) Range) (Err Form)) _
    (λ ns. formed_choice (nat_le x 1) _)
    ∙ formed_cond (list_all is_decimal (first ∷ others)) _ _ true false (formed_range (small_numbers (first ∷ others))) refl
    ∙ self (list_all is_decimal (first ∷ others)))
    ∙ and_same _ _ _ (decimal_formed core)
  where
    self : (b : Bool) → cond b true false ≡ b
    self true = refl
    self false = refl

arb_word : (words : List (List ℕ)) → has_act_form (codes "arb" ∷ words) ≡ false
arb_word [] = refl
arb_word (word ∷ words) = refl

arb_operands : (words : List (List ℕ)) → has_arb_form (codes "arb" ∷ words) ≡ has_arb_operands words
arb_operands [] = refl
arb_operands (core ∷ []) = refl
arb_operands (core ∷ first ∷ others) = refl

no_arb : (word : List ℕ) (words : List (List ℕ)) → bytes_eq word (codes "arb") ≡ false → has_arb_form (word ∷ words) ≡ false
no_arb word [] e = refl
no_arb word (core ∷ []) e = refl
no_arb word (core ∷ first ∷ others) e = ap (λ t. t && list_all is_decimal (core ∷ first ∷ others)) e

or_false : (a : Bool) → (a || false) ≡ a
or_false true = refl
or_false false = refl

-- a line's fields have a form just where what is read of them isn't a fault of form
pub formed_said : (fields : List (List ℕ)) → formed (fields_said fields) ≡ (has_act_form fields || has_arb_form fields)
unfolding fields_said
formed_said [] = refl
formed_said (word ∷ words) = step (bytes_eq word (codes "arb")) refl
  where
    step : (t : Bool) → bytes_eq word (codes "arb") ≡ t
        → formed (cond t (arb_in words >>= λ x. Ok (Waits x.0 x.1)) (act_in (word ∷ words) >>= λ act. Ok (Does act)))
        ≡ (has_act_form (word ∷ words) || has_arb_form (word ∷ words))
    step true e =
        let is = (bytes_eq-Decides word (codes "arb")).0 e in
        formed_after (arb_in words) _ (λ x. refl) ∙ formed_arb words ∙ sym (arb_operands words)
        ∙ ap (λ t. t || has_arb_form (codes "arb" ∷ words)) (sym (arb_word words))
        ∙ ap (λ w. has_act_form (w ∷ words) || has_arb_form (w ∷ words)) (sym is)
    step false e =
        formed_after (act_in (word ∷ words)) _ (λ x. refl) ∙ formed_act (word ∷ words)
        ∙ sym (or_false (has_act_form (word ∷ words))) ∙ ap (λ t. has_act_form (word ∷ words) || t) (sym (no_arb word words e))
