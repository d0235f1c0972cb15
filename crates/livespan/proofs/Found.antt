-- The first registers of an array.
use Rattle.std.proofs.Common.{◌≡◌, ◌≢◌, ℕ, ◌<◌, ◌≤◌, List, length, get_or, take, sym, ap, ◌∙◌, subst, arith}
use Rattle.std.specs.Prelude.{Contains}
use Rattle.std.proofs.lemmas.List.{get_or_default, length-take-le, get_or-take}
use Rattle.std.proofs.lemmas.List.Elements.{Contains-get_or}
use Rattle.midcode.specs.declared.register.VReg.{VReg}
use Rattle.livespan.proofs.Hulls.{same_register}

abbrev pub no_register : VReg
no_register = record { 0 = 0 }

pub read-found : (rs : List VReg) (count i : ℕ) (v : VReg) → i < count → count ≤ length rs → (get_or rs i no_register).0 ≡ v.0
    → Contains (take count rs) v
read-found rs count i v below all same =
    let within : i < length (take count rs) = omega (arith, below, length-take-le count rs all) in
    let P : VReg → Type 0 = λ x. Contains (take count rs) x in
    subst P (get_or-take count rs i no_register below ∙ same_register (get_or rs i no_register) v same)
    (Contains-get_or (take count rs) i no_register within)

pub read-none : (rs : List VReg) (count : ℕ) (v : VReg) → count ≤ length rs
    → ((k : ℕ) → k < count → (get_or rs k no_register).0 ≢ v.0) → Contains (take count rs) v → ⊥
read-none rs count v all none h =
    let below : h.0 < count = omega (arith, h.1, length-take-le count rs all) in
    let within : h.0 < length rs = omega (arith, below, all) in
    let number : VReg → ℕ = λ x. x.0 in
    let is : get_or rs h.0 no_register ≡ v =
    get_or_default rs h.0 no_register v within ∙ sym (get_or-take count rs h.0 v below) ∙ h.2 in
    none h.0 below (ap number is)
