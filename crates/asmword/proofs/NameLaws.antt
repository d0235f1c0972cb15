-- The mnemonics of a table, tried one by one.
use Rattle.std.proofs.Common.{◌≡◌, ℕ, true, false, cond, List, [], ◌∷◌, length, refl, sym, ap, ◌∙◌, arith, Some, None}
use Rattle.std.specs.Prelude.{find}
use Rattle.asmword.specs.declared.mnemonic.Mnemonic.{Mnemonic}
use Rattle.asmword.specs.Reading.{is_named, named_among}

among_more : (m : Mnemonic) (rest : List Mnemonic) (word : List ℕ) → is_named word m ≡ false
    → named_among (m ∷ rest) word ≡ named_among rest word
unfolding named_among
among_more m rest word e = ap (λ t. cond t (Some m) (find (is_named word) rest)) e

among_here : (m : Mnemonic) (rest : List Mnemonic) (word : List ℕ) → is_named word m ≡ true → named_among (m ∷ rest) word ≡ Some m
unfolding named_among
among_here m rest word e = ap (λ t. cond t (Some m) (find (is_named word) rest)) e

among_none : (rest : List Mnemonic) (word : List ℕ) → length rest ≡ 0 → named_among rest word ≡ None
unfolding named_among
among_none [] word e = refl
among_none (m ∷ rest) word e = absurd (omega arith)

pub name_step : (rest table others : List Mnemonic) (m : Mnemonic) (word : List ℕ) → rest ≡ m ∷ others → is_named word m ≡ false
    → named_among rest word ≡ named_among table word → named_among others word ≡ named_among table word
name_step rest table others m word e no_ h = sym (among_more m others word no_) ∙ sym (ap (λ r. named_among r word) e) ∙ h

pub name_stop : (rest table others : List Mnemonic) (m : Mnemonic) (word : List ℕ) → rest ≡ m ∷ others → is_named word m ≡ true
    → named_among rest word ≡ named_among table word → Some m ≡ named_among table word
name_stop rest table others m word e yes_ h = sym (among_here m others word yes_) ∙ sym (ap (λ r. named_among r word) e) ∙ h

pub name_none : (rest table : List Mnemonic) (word : List ℕ) → length rest ≡ 0
    → named_among rest word ≡ named_among table word → None ≡ named_among table word
name_none rest table word e h = sym (among_none rest word e) ∙ h
