-- The entries of the table of macros.
use Rattle.std.proofs.Common.{◌≡◌, ℕ, Bool, true, false, cond, List, [], ◌∷◌, ◌++◌, map, Option, Some, None, refl, sym, ap, ◌∙◌}
use Rattle.std.specs.Option.{option_map}
use Rattle.std.specs.Map.{lookup}
use Rattle.indexmap.specs.IndexMap.{insert_entry}

module _ {K V N T : Type 0} (name : K → N) (tokens : V → T) where
  abbrev pub seen : List (K × V) → List (N × T)
  seen = map (λ e. (name e.0, tokens e.1))

  pub seen_push : (es : List (K × V)) (k : K) (v : V) → seen (es ++ (k, v) ∷ []) ≡ seen es ++ (name k, tokens v) ∷ []
  seen_push [] k v = refl
  seen_push (e ∷ es) k v = ap (λ es. (name e.0, tokens e.1) ∷ es) (seen_push es k v)

  some : (a b : T) → Some a ≡ Some b → a ≡ b
  some a b h = cc

  by-test : (e : K × V) (es fs : List (K × V)) (v : V) (b : Bool) (found : Option V)
      → option_map tokens (cond b (Some e.1) found) ≡ Some (tokens v)
      → (option_map tokens found ≡ Some (tokens v) → seen fs ≡ seen es) → seen (cond b ((e.0, v) ∷ es) (e ∷ fs)) ≡ seen (e ∷ es)
  by-test e es fs v true found h rest = ap (λ t. (name e.0, t) ∷ seen es) (sym (some (tokens e.1) (tokens v) h))
  by-test e es fs v false found h rest = ap (λ es. (name e.0, tokens e.1) ∷ es) (rest h)

  -- a key that is there keeps its name, and its tokens where the value has the same
  pub seen_kept : (eq : K → K → Bool) (es : List (K × V)) (k : K) (v : V) → option_map tokens (lookup (eq k) es) ≡ Some (tokens v)
      → seen (insert_entry eq es k v) ≡ seen es
  seen_kept eq [] k v h = absurd (cc)
  seen_kept eq (e ∷ es) k v h = by-test e es (insert_entry eq es k v) v (eq k e.0) (lookup (eq k) es) h (λ h. seen_kept eq es k v h)
