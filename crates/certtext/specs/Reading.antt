-- The lines read so far. What a file is, is said in `Files`: this is no more than the way there.
use Rattle.std.specs.Prelude.{◌≡◌, ℕ, ◌+◌, List, [], ◌∷◌, ◌++◌, length, map, Some}
use Rattle.std.specs.List.{AllByRecursion}
use Rattle.textline.specs.Lines.{text_of}
use Rattle.certtext.specs.declared.edition.Edition.{Edition}
use Rattle.certtext.specs.declared.fault.CertsFault.{CertsFault}
use Rattle.certtext.specs.declared.fault.CertsFault.TheVariants.{Line, Memory}
use Rattle.certtext.specs.declared.order.Place.{Place}
use Rattle.certtext.specs.declared.saying.Saying.{Saying}
use Rattle.certtext.specs.Texts.{edition_text, saying_text, Fits}
use Rattle.certtext.specs.Order.{start, InOrder, place_behind, MayCome}

-- the text behind the first line begins with lines that say this, and these bytes are left
pub record IsSoFar (edition : Edition) (text : List ℕ) (number : ℕ) (said : List Saying) (left : List ℕ) (at : ℕ) : Type 0 where
  pub fits : AllByRecursion (Fits edition) said
  pub order : InOrder start said
  pub same : text ≡ text_of (map (saying_text edition) said) ++ left
  pub count : at ≡ number + length said

-- all of it is such lines, and both cores are named
pub record IsRest (edition : Edition) (text : List ℕ) (said : List Saying) : Type 0 where
  pub fits : AllByRecursion (Fits edition) said
  pub order : InOrder start said
  pub whole : (place_behind start said).core ≡ Some 1
  pub same : text ≡ text_of (map (saying_text edition) said)

-- no line that may come next is left
abbrev pub NoNext : Edition → Place → List ℕ → Type 0
NoNext edition place left =
    (s : Saying) (behind : List ℕ) → Fits edition s → MayCome place s → left ≡ saying_text edition s ++ 10 ∷ behind → ⊥

pub record FailsAt (edition : Edition) (text : List ℕ) (number at : ℕ) : Type 0 where
  pub said : List Saying
  pub left : List ℕ
  pub so_far : IsSoFar edition text number said left at
  pub next : NoNext edition (place_behind start said) left
  pub end : left ≡ [] → (place_behind start said).core ≡ Some 1 → ⊥

abbrev pub Fails : Edition → List ℕ → ℕ → CertsFault → Type 0
Fails edition text number (Line at) = FailsAt edition text number at
Fails edition text number Memory = Unit {0}

-- the line that names an edition is not the first
abbrev pub LacksEdition : List ℕ → Type 0
LacksEdition text = (edition : Edition) (behind : List ℕ) → text ≡ edition_text edition ++ 10 ∷ behind → ⊥

abbrev pub FailsFirst : List ℕ → ℕ → CertsFault → Type 0
FailsFirst text number (Line at) = (at ≡ number) × LacksEdition text
FailsFirst text number Memory = ⊥
