-- The homes before any span is given one.
use Rattle.std.specs.Prelude.{◌≡◌, ℕ, List, length, Some, slice_get}
use Rattle.prunum.specs.declared.width.Width.{Width}
use Rattle.isa.specs.declared.field.Field.{Field}
use Rattle.subreg.specs.declared.home.Home.{Home}
use Rattle.subreg.specs.declared.home.Home.TheVariants as home
use Rattle.subreg.specs.Allocation.{IsField}

pub record IsFieldHome (w : Width) (h : Home) : Type 0 where
  pub field : Field
  pub is : h ≡ home.Field field
  pub well : IsField field w

pub record AreFirstHomes (registers : List Width) (homes : List Home) : Type 0 where
  pub all : length homes ≡ length registers
  pub well : (n : ℕ) (w : Width) (h : Home) → slice_get registers n ≡ Some w → slice_get homes n ≡ Some h → IsFieldHome w h
