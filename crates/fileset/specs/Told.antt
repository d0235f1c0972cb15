-- What files and a sink tell of what they hold, before a call and after it.
use Rattle.std.specs.Prelude.{◌≡◌, ◌≢◌, ◌⊎◌, ℕ, List, [], ◌++◌, Option, Some, None, unwrap_or}

-- the bytes under each name, or none where no such file is held
abbrev pub Held : Type 0
Held = List ℕ → Option (List ℕ)

-- a file's bytes; none of a file that isn't held
abbrev pub content : Held → List ℕ → List ℕ
content held name = unwrap_or (held name) []

-- What is told after a call was told before it, and P holds of the two. Where nothing is told after it, this says nothing.
abbrev pub Tells : {T : Type 0} → Option T → Option T → (T → T → Type 0) → Type 0
Tells before None P = Unit {0}
Tells None (Some after) P = ⊥
Tells (Some before) (Some after) P = P before after

abbrev pub IsSameFiles : Held → Held → Type 0
IsSameFiles before after = (name : List ℕ) → after name ≡ before name

abbrev pub IsSameButFor : List ℕ → Held → Held → Type 0
IsSameButFor name before after = (other : List ℕ) → other ≢ name → after other ≡ before other

-- the text begins with the front
abbrev pub IsFrontOf : List ℕ → List ℕ → Type 0
IsFrontOf front text = (rest : List ℕ) × (front ++ rest ≡ text)

-- a file after a write that may have been cut short: as it was, or a front of the bytes
abbrev pub IsCutShort : List ℕ → Option (List ℕ) → Option (List ℕ) → Type 0
IsCutShort bytes before after = (after ≡ before) ⊎ ((front : List ℕ) × IsFrontOf front bytes × (after ≡ Some front))

-- a sink after bytes of which it may have taken a front alone
abbrev pub AppendsFront : List ℕ → List ℕ → List ℕ → Type 0
AppendsFront before bytes after = (front : List ℕ) × IsFrontOf front bytes × (after ≡ before ++ front)
