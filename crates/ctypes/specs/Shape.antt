-- What a type is made of: steps from the outermost, and the type that they end at. `int *a[3]` is an array step, a pointer step, int.
use Rattle.std.specs.Prelude.{ℕ, Option, Some, None, option_map, List, [], ◌∷◌, false, if◌then◌else◌}
use Rattle.cprogram.specs.declared.pointer.PointerKind.{PointerKind}
use Rattle.cprogram.specs.declared.pointer.PointerKind.TheVariants.{Plain, Volatile}
use Rattle.cprogram.specs.declared.scalar.Scalar.{Scalar}
use Rattle.cprogram.specs.declared.scalar.Scalar.TheVariants as scalar
use Rattle.ctypes.specs.Base.{kind_integer}
use Rattle.ctypes.specs.declared.base.Base.{Base}
use Rattle.ctypes.specs.declared.step.Qualifiers.{Qualifiers}
use Rattle.ctypes.specs.declared.step.Step.{Step}
use Rattle.ctypes.specs.declared.step.Step.TheVariants.{Pointer, Array}

pub record Shape : Type 0 where
  pub base : Base
  pub steps : List Step

-- the qualifiers of a type; those of an array are its elements' (C99 6.7.3)
abbrev pub qualifiers : Base → List Step → Qualifiers
qualifiers base [] = base.qualifiers
qualifiers _ (Pointer q ∷ _) = q
qualifiers base (Array _ ∷ rest) = qualifiers base rest

-- which kind of pointer points to a type with such qualifiers
abbrev pub kind_of_target : Qualifiers → PointerKind
kind_of_target q = if q.is_volatile then Volatile else Plain

abbrev pub scalar_of : Base → List Step → Option Scalar
scalar_of base [] = option_map scalar.Integer (kind_integer base.kind)
scalar_of base (Pointer _ ∷ target) = Some (scalar.Pointer (kind_of_target (qualifiers base target)))
scalar_of _ (Array _ ∷ _) = None

-- an array becomes a pointer to its first element (C99 6.3.2.1)
abbrev pub decayed : List Step → List Step
decayed [] = []
decayed (Pointer q ∷ rest) = Pointer q ∷ rest
decayed (Array _ ∷ rest) = Pointer (record { is_const = false; is_volatile = false }) ∷ rest

-- a pointer to a type
abbrev pub pointed : Shape → Shape
pointed t = record { base = t.base; steps = Pointer (record { is_const = false; is_volatile = false }) ∷ t.steps }

-- what a pointer points to, or an array is made of
abbrev pub behind : Base → List Step → Option Shape
behind _ [] = None
behind base (_ ∷ rest) = Some (record { base = base; steps = rest })

abbrev pub target_of : Shape → Option Shape
target_of t = behind t.base t.steps
