-- A program has one layout, so one list of words, one length and one first long loop.
use Rattle.std.proofs.Common.{◌≡◌, ℕ, ◌≤◌, List, Bool, Option, ap, sym, ◌∙◌, subst, length}
use Rattle.std.specs.Prelude.{option_map}
use Rattle.isa.specs.declared.program.Item.{Item}
use Rattle.isa.specs.Fitted.{Fitted}
use Rattle.branchfit.specs.declared.spot.Spot.{Spot}
use Rattle.branchfit.specs.Far.{AreFar, numbers_of, number_in}
use Rattle.branchfit.specs.Laid.{Layout, laid, number_at}
use Rattle.branchfit.specs.Fits.{IsLayout, Fits, HasLength, named}
use Rattle.branchfit.specs.Loops.{IsLongLoop, first_long}
use Rattle.branchfit.proofs.FarLemmas.{one_far, number_few}

laid_out : (s t : List Spot) (f g : List Bool) (n m : List ℕ) → s ≡ t → f ≡ g → n ≡ m
    → (let a : Layout = record { spots = s; far = f; numbers = n } in a) ≡ record { spots = t; far = g; numbers = m }
laid_out s t f g n m a b c = cc

one_layout : (items : List Item) (a b : Layout) → IsLayout items a → IsLayout items b → a ≡ b
one_layout items a b x y =
    let spots : a.spots ≡ b.spots = x.spots ∙ sym y.spots in
    let P : List Spot → Type 0 = λ s. AreFar s a.far in
    let far : a.far ≡ b.far = one_far b.spots a.far b.far (subst P spots x.least) y.least in
    let numbers : a.numbers ≡ b.numbers = x.numbers ∙ ap (λ s. numbers_of s a.far) spots ∙ ap (numbers_of b.spots) far ∙ sym y.numbers in
    laid_out a.spots b.spots a.far b.far a.numbers b.numbers spots far numbers

pub one_fit : (items : List Item) (these those : Fitted) → Fits items these → Fits items those → these ≡ those
one_fit items these those x y = x.words ∙ ap (λ l. laid l items) (one_layout items x.layout y.layout x.places y.places) ∙ sym y.words

pub one_length : (items : List Item) (n m : ℕ) → HasLength items n → HasLength items m → n ≡ m
one_length items n m x y =
    x.last ∙ ap (λ (l : Layout). number_at l (length l.spots)) (one_layout items x.layout y.layout x.places y.places) ∙ sym y.last

pub one_loop : (items : List Item) (this that : Option ℕ) → IsLongLoop items this → IsLongLoop items that → this ≡ that
one_loop items this that x y =
    x.first ∙ ap (λ (l : Layout). option_map named (first_long l 0 items)) (one_layout items x.layout y.layout x.places y.places) ∙ sym
    y.first

pub small_everywhere : (items : List Item) (layout : Layout) (most : ℕ) → IsLayout items layout → number_at layout (length layout.spots) ≤
    most
    → (p : ℕ) → number_at layout p ≤ most
small_everywhere items layout most places h p =
    let P : List ℕ → Type 0 = λ ns. number_in ns (length layout.spots) ≤ most in
    let Q : List ℕ → Type 0 = λ ns. number_in ns p ≤ most in
    subst Q (sym places.numbers) (number_few layout.spots layout.far most (subst P places.numbers h) p)
