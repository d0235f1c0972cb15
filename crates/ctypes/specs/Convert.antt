-- What converts to what (C99 6.3), narrowed: pointers convert to pointers to the same type, to which const may be added; the constant
-- 0 converts to every pointer; integers and volatile pointers convert to one another by a cast alone.
use Rattle.std.specs.Prelude.{ℕ, ◌==◌, Option, Some, None, List, [], ◌∷◌, Bool, true, false, not, ◌&&◌, ◌||◌, if◌then◌else◌}
use Rattle.csyn.specs.declared.specifiers.Sign.{Sign}
use Rattle.csyn.specs.declared.specifiers.Sign.TheVariants.{Signed, Unsigned}
use Rattle.prunum.specs.declared.width.Width.{Width}
use Rattle.prunum.specs.declared.width.Width.TheVariants.{B1, B2, B4}
use Rattle.cprogram.specs.Scalar.{converted}
use Rattle.cprogram.specs.declared.pointer.PointerKind.{PointerKind}
use Rattle.cprogram.specs.declared.pointer.PointerKind.TheVariants.{Plain, Volatile}
use Rattle.cprogram.specs.declared.scalar.Conversion.{Conversion}
use Rattle.cprogram.specs.declared.scalar.Conversion.TheVariants.{Same, ToAddress, FromAddress, ToNull}
use Rattle.cprogram.specs.declared.scalar.Integer.{Integer}
use Rattle.cprogram.specs.declared.scalar.Scalar.{Scalar}
use Rattle.cprogram.specs.declared.scalar.Scalar.TheVariants as scalar
use Rattle.ctypes.specs.Shape.{Shape, scalar_of}
use Rattle.ctypes.specs.declared.base.Base.{Base}
use Rattle.ctypes.specs.declared.base.BaseKind.{BaseKind}
use Rattle.ctypes.specs.declared.base.BaseKind.TheVariants as kind
use Rattle.ctypes.specs.declared.convert.ConstRule.{ConstRule}
use Rattle.ctypes.specs.declared.convert.ConstRule.TheVariants.{Kept, Added, Aside}
use Rattle.ctypes.specs.declared.step.Qualifiers.{Qualifiers}
use Rattle.ctypes.specs.declared.step.Step.{Step}
use Rattle.ctypes.specs.declared.step.Step.TheVariants.{Pointer, Array}

-- ---- arithmetic (C99 6.3.1): whatever is narrower than int becomes int

abbrev pub sign_at : Width → Sign → Sign
sign_at B1 _ = Signed
sign_at B2 _ = Signed
sign_at B4 s = s

abbrev pub promoted : Integer → Sign
promoted i = sign_at i.width i.sign

-- if either side is unsigned, the operation is
abbrev pub either : Sign → Sign → Sign
either Signed s = s
either Unsigned _ = Unsigned

abbrev pub common : Integer → Integer → Sign
common i j = either (promoted i) (promoted j)

-- ---- equal types

abbrev pub kind_same : BaseKind → BaseKind → Bool
kind_same kind.Void kind.Void = true
kind_same kind.Char kind.Char = true
kind_same kind.SignedChar kind.SignedChar = true
kind_same kind.UnsignedChar kind.UnsignedChar = true
kind_same kind.Short kind.Short = true
kind_same kind.UnsignedShort kind.UnsignedShort = true
kind_same kind.Int kind.Int = true
kind_same kind.UnsignedInt kind.UnsignedInt = true
kind_same (kind.Struct a) (kind.Struct b) = a.0 == b.0
kind_same _ _ = false

abbrev pub bool_same : Bool → Bool → Bool
bool_same a b = if a then b else not b

-- qualifiers of two types, by what is asked of const
abbrev pub const_fits : ConstRule → Bool → Bool → Bool
const_fits Kept a b = bool_same a b
const_fits Added a b = if a then b else true
const_fits Aside _ _ = true

abbrev pub qualifiers_fit : ConstRule → Qualifiers → Qualifiers → Bool
qualifiers_fit rule q r = const_fits rule q.is_const r.is_const && bool_same q.is_volatile r.is_volatile

abbrev pub step_fits : ConstRule → Step → Step → Bool
step_fits rule (Pointer q) (Pointer r) = qualifiers_fit rule q r
step_fits _ (Array m) (Array n) = m == n
step_fits _ _ _ = false

abbrev pub base_fits : ConstRule → Base → Base → Bool
base_fits rule b c = kind_same b.kind c.kind && qualifiers_fit rule b.qualifiers c.qualifiers

abbrev pub steps_same : List Step → List Step → Bool
steps_same [] [] = true
steps_same (s ∷ ss) (t ∷ ts) = step_fits Kept s t && steps_same ss ts
steps_same _ _ = false

-- a type and another that is the same, but for the outermost const, of which so much is asked
abbrev pub type_fits : ConstRule → Base → List Step → Base → List Step → Bool
type_fits rule b [] c [] = base_fits rule b c
type_fits rule b (s ∷ ss) c (t ∷ ts) = step_fits rule s t && (steps_same ss ts && base_fits Kept b c)
type_fits _ _ _ _ _ = false

-- two pointers, by what they point to
abbrev pub targets_fit : ConstRule → Base → List Step → Base → List Step → Bool
targets_fit rule b (Pointer _ ∷ ss) c (Pointer _ ∷ ts) = type_fits rule b ss c ts
targets_fit _ _ _ _ _ = false

-- ---- conversions

-- the constant 0 as a pointer
abbrev pub null_of : Integer → PointerKind → Conversion
null_of _ Plain = ToNull
null_of i Volatile = ToAddress i

-- what is implied where a value of one scalar type becomes one of another: whether it is the constant 0, and whether their targets fit
abbrev pub implied_between : Bool → Bool → Scalar → Scalar → Option Conversion
implied_between _ _ (scalar.Integer i) (scalar.Integer j) = Some (converted i j.width)
implied_between zero _ (scalar.Integer i) (scalar.Pointer k) = if zero then Some (null_of i k) else None
implied_between _ _ (scalar.Pointer _) (scalar.Integer _) = None
implied_between _ fit (scalar.Pointer _) (scalar.Pointer _) = if fit then Some Same else None

-- what a cast may do
abbrev pub cast_between : Bool → Bool → Scalar → Scalar → Option Conversion
cast_between _ _ (scalar.Integer i) (scalar.Integer j) = Some (converted i j.width)
cast_between zero _ (scalar.Integer i) (scalar.Pointer Plain) = if zero then Some ToNull else None
cast_between _ _ (scalar.Integer i) (scalar.Pointer Volatile) = Some (ToAddress i)
cast_between _ _ (scalar.Pointer Plain) (scalar.Integer _) = None
cast_between _ _ (scalar.Pointer Volatile) (scalar.Integer j) = Some (FromAddress j.width)
cast_between _ fit (scalar.Pointer Plain) (scalar.Pointer Plain) = if fit then Some Same else None
cast_between _ _ (scalar.Pointer Plain) (scalar.Pointer Volatile) = None
cast_between _ _ (scalar.Pointer Volatile) (scalar.Pointer Plain) = None
cast_between _ _ (scalar.Pointer Volatile) (scalar.Pointer Volatile) = Some Same

abbrev pub of_scalars : (Scalar → Scalar → Option Conversion) → Option Scalar → Option Scalar → Option Conversion
of_scalars f (Some s) (Some t) = f s t
of_scalars _ _ _ = None

abbrev pub implied : Bool → Shape → Shape → Option Conversion
implied zero from to =
    of_scalars (implied_between zero (targets_fit Added from.base from.steps to.base to.steps)) (scalar_of from.base from.steps)
    (scalar_of to.base to.steps)

abbrev pub cast : Bool → Shape → Shape → Option Conversion
cast zero from to =
    of_scalars (cast_between zero (targets_fit Added from.base from.steps to.base to.steps)) (scalar_of from.base from.steps)
    (scalar_of to.base to.steps)
