-- Files that are read, one after the other, each followed at once by the judgement of its length.
use Rattle.std.specs.Prelude.{◌≡◌, ◌⊎◌, ℕ, ◌<◌, ◌≤◌, List, [], ◌∷◌, length, map, Option}
use Rattle.std.specs.declared.alloc.Global.{Global}
use Rattle.std.specs.Prelude.{Vec}
use Rattle.fileset.specs.Told.{Held, content, Tells}
use Rattle.fileset.specs.Faults.{Rose}
use Rattle.modefiles.specs.declared.input.Input.{Input}
use Rattle.modefiles.specs.declared.fault.InputFault.{InputFault}
use Rattle.modefiles.specs.declared.fault.InputFault.TheVariants.{Failed, TooLong, NoMemory}

-- the bytes of each
abbrev pub bytes_of : List (Vec ℕ Global) → List (List ℕ)
bytes_of texts = map (λ text. text.items) texts

-- what the files hold of these
abbrev pub contents : Held → List Input → List (List ℕ)
contents held inputs = map (λ input. content held input.name) inputs

-- there is a text for each of these, of its most bytes at most
abbrev pub AreWithin : List Input → List (List ℕ) → Type 0
AreWithin [] [] = Unit {0}
AreWithin (input ∷ inputs) (text ∷ texts) = (length text ≤ input.most) × AreWithin inputs texts
AreWithin other texts = ⊥

-- one of these has this name
abbrev pub IsNamed : List Input → List ℕ → Type 0
IsNamed [] name = ⊥
IsNamed (input ∷ inputs) name = (name ≡ input.name) ⊎ IsNamed inputs name

-- one of these has this name, and these most bytes
abbrev pub IsMost : List Input → List ℕ → ℕ → Type 0
IsMost [] name max = ⊥
IsMost (input ∷ inputs) name max = ((name ≡ input.name) × (max ≡ input.most)) ⊎ IsMost inputs name max

-- the first of these of which more bytes are held than its most has this name and these most bytes
abbrev pub IsFirstLong : Held → List Input → List ℕ → ℕ → Type 0
IsFirstLong held [] name max = ⊥
IsFirstLong held (input ∷ inputs) name max =
    ((name ≡ input.name) × (max ≡ input.most) × (input.most < length (content held input.name)))
    ⊎ ((length (content held input.name) ≤ input.most) × IsFirstLong held inputs name max)

-- Why these aren't read: the files failed at one of them, or the first that is too long is this one.
abbrev pub InputFails : List Input → Option Held → Option Held → ℕ → ℕ → InputFault → Type 0
InputFails inputs held now before after (Failed name) = IsNamed inputs name × Rose before after
InputFails inputs held now before after (TooLong name max) =
    IsMost inputs name max × Tells held now (λ held _. IsFirstLong held inputs name max)
InputFails inputs held now before after NoMemory = Unit {0}
