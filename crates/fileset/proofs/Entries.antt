-- The map of files against the list of names and bytes that contracts see.
use Rattle.std.proofs.Common.{◌≡◌, ◌≢◌, ℕ, Bool, true, false, cond, List, [], ◌∷◌, map, Option, Some}
use Rattle.std.proofs.Common.{refl, ap, sym, ◌∙◌, Vec, String, Global, string_bytes}
use Rattle.std.specs.Option.{option_map}
use Rattle.std.specs.Map.{lookup}
use Rattle.std.specs.Ordering.{nat_cmp}
use Rattle.std.specs.Cmp.Lexicographic.{slice_cmp}
use Rattle.std.specs.String.{string_cmp}
use Rattle.std.specs.BTreeMap.{BTreeMap, UpdatesBy, is_at, get_by_text}
use Rattle.std.proofs.lemmas.Map.Text.{is_eq-slice_cmp, btree_map_updates_text}
use Rattle.std.proofs.lemmas.Slice.Eq.{bytes_eq-Decides}
use Rattle.std.proofs.lemmas.Bool.{false_from_ne_true, cond-true, cond-false}
use Rattle.fileset.specs.FileMap.{NamedFiles, held_in}

-- the names and bytes of a map's entries
abbrev pub named : BTreeMap (String Global) (Vec ℕ Global) → NamedFiles
named m = map (λ e. (string_bytes e.0, e.1.items)) m.entries

option_map-cond : {T U : Type 0} (f : T → U) (b : Bool) (x y : Option T)
    → option_map f (cond b x y) ≡ cond b (option_map f x) (option_map f y)
option_map-cond f true x y = refl
option_map-cond f false x y = refl

lookup-named : (es : List (String Global × Vec ℕ Global)) (name : List ℕ)
    → held_in (map (λ e. (string_bytes e.0, e.1.items)) es) name
    ≡ option_map (λ v. v.items) (lookup (is_at (λ k. slice_cmp nat_cmp name (string_bytes k))) es)
lookup-named [] name = refl
lookup-named (e ∷ es) name =
    rw (option_map-cond, is_eq-slice_cmp, lookup-named es name)

-- what is held under a name is what the map has at that text
pub held_in-named : (m : BTreeMap (String Global) (Vec ℕ Global)) (name : List ℕ)
    → held_in (named m) name ≡ option_map (λ v. v.items) (get_by_text m name)
held_in-named m name = lookup-named m.entries name

-- after an insert at a text the file of that name has the inserted bytes
pub held_in-inserted : (m n : BTreeMap (String Global) (Vec ℕ Global)) (name : List ℕ) (v : Vec ℕ Global)
    → UpdatesBy string_cmp (λ k. slice_cmp nat_cmp name (string_bytes k)) m n (Some v) → held_in (named n) name ≡ Some v.items
held_in-inserted m n name v updates =
    held_in-named n name
    ∙ ap (option_map (λ v. v.items)) (btree_map_updates_text name m n (Some v) updates name
    ∙ cond-true _ _ _ ((bytes_eq-Decides name name).1 refl))

-- and the others are as they were
pub held_in-others : (m n : BTreeMap (String Global) (Vec ℕ Global)) (name : List ℕ) (v : Vec ℕ Global)
    → UpdatesBy string_cmp (λ k. slice_cmp nat_cmp name (string_bytes k)) m n (Some v) → (other : List ℕ) → other ≢ name
    → held_in (named n) other ≡ held_in (named m) other
held_in-others m n name v updates other differs =
    held_in-named n other
    ∙ ap (option_map (λ v. v.items)) (btree_map_updates_text name m n (Some v) updates other
    ∙ cond-false _ _ _ (false_from_ne_true _ (λ same. differs (sym ((bytes_eq-Decides name other).0 same)))))
    ∙ sym (held_in-named m other)
