-- What an arena is seen as.
use Rattle.std.specs.Prelude.{◌≡◌, ℕ, List, [], ◌∷◌, ◌++◌, length, Option, Some, None, sum_by, slice_index_or, refl}
use Rattle.std.specs.Coded.{Coded, code_by, coded×, coded_ℕ, coded_list}

-- lists of values, each under the id of its node, and how many more pushes need no memory
pub record Lists (T : Type 0) : Type 0 where
  pub lists : List (List (ℕ × T))
  pub spare : ℕ

abbrev pub lists_code : {T : Type 0} → Coded T → Coded (Lists T)
lists_code {T} code =
    code_by
    (List (List (ℕ × T)) × ℕ)
    (coded× (coded_list (coded_list (coded× coded_ℕ code))) coded_ℕ)
    (λ m. (m.lists, m.spare))
    (λ p. record { lists = p.0; spare = p.1 })
    (λ _. refl)

module _ {T : Type 0} where
  -- the nodes of a list in their order
  abbrev pub list_at : List (List (ℕ × T)) → ℕ → List (ℕ × T)
  list_at lists list = slice_index_or lists list []

  -- how many nodes are in the lists
  abbrev pub node_count : List (List (ℕ × T)) → ℕ
  node_count lists = sum_by length lists

  -- the node stands in a list, with this value, between what is before it and what is behind it
  pub record Stands (lists : List (List (ℕ × T))) (list : ℕ) (front : List (ℕ × T)) (node : ℕ) (value : T) (back : List (ℕ × T)) :
      Type 0 where
    pub at : list_at lists list ≡ front ++ (node, value) ∷ back

  -- a node with this id is in one of the lists
  pub record IsLive (lists : List (List (ℕ × T))) (node : ℕ) : Type 0 where
    pub list : ℕ
    pub front : List (ℕ × T)
    pub value : T
    pub back : List (ℕ × T)
    pub stands : Stands lists list front node value back

  -- each node stands at one place alone
  pub record StandsOnce (lists : List (List (ℕ × T))) : Type 0 where
    pub same_list : (node list other : ℕ) (front front' : List (ℕ × T)) (value value' : T) (back back' : List (ℕ × T))
        → Stands lists list front node value back → Stands lists other front' node value' back' → list ≡ other
    pub same_place : (node list : ℕ) (front front' : List (ℕ × T)) (value value' : T) (back back' : List (ℕ × T))
        → Stands lists list front node value back → Stands lists list front' node value' back'
        → (front ≡ front') × (value ≡ value') × (back ≡ back')

  -- wherever the node stands, P holds of the place
  abbrev pub AtItsPlace : List (List (ℕ × T)) → ℕ → (ℕ → List (ℕ × T) → T → List (ℕ × T) → Type 0) → Type 0
  AtItsPlace lists node P =
      (list : ℕ) (front : List (ℕ × T)) (value : T) (back : List (ℕ × T)) → Stands lists list front node value back
      → P list front value back

  -- the id of a list's first node
  abbrev pub first_id : List (ℕ × T) → Option ℕ
  first_id [] = None
  first_id (entry ∷ entries) = Some entry.0

  -- the id of a list's last node
  abbrev pub last_id : List (ℕ × T) → Option ℕ
  last_id [] = None
  last_id (entry ∷ []) = Some entry.0
  last_id (entry ∷ next ∷ entries) = last_id (next ∷ entries)
