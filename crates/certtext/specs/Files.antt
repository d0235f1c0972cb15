-- Which texts are certificate files, and the first bad line: this project's own.
use Rattle.std.specs.Prelude.{◌≡◌, ℕ, ◌+◌, List, [], ◌∷◌, ◌++◌, length, map, Some}
use Rattle.std.specs.List.{AllByRecursion}
use Rattle.textline.specs.Lines.{Lacks, text_of}
use Rattle.certtext.specs.declared.edition.Edition.{Edition}
use Rattle.certtext.specs.declared.fault.CertsFault.{CertsFault}
use Rattle.certtext.specs.declared.fault.CertsFault.TheVariants.{Line, Memory}
use Rattle.certtext.specs.declared.saying.Saying.{Saying}
use Rattle.certtext.specs.Texts.{edition_text, saying_text, Fits}
use Rattle.certtext.specs.Order.{start, InOrder, place_behind}

-- what the lines of a file say behind the first: each in its ranges and in its order, and both cores are named
pub record AreSaid (edition : Edition) (said : List Saying) : Type 0 where
  pub fits : AllByRecursion (Fits edition) said
  pub order : InOrder start said
  pub whole : (place_behind start said).core ≡ Some 1

abbrev pub file_lines : Edition → List Saying → List (List ℕ)
file_lines edition said = edition_text edition ∷ map (saying_text edition) said

-- the text is the file that says this, and each line has its end
pub record IsFile (text : List ℕ) (edition : Edition) (said : List Saying) : Type 0 where
  pub are : AreSaid edition said
  pub same : text ≡ text_of (file_lines edition said)

-- the lines are those of a whole file
pub record AreFile (lines : List (List ℕ)) : Type 0 where
  pub edition : Edition
  pub said : List Saying
  pub are : AreSaid edition said
  pub same : lines ≡ file_lines edition said

-- some file begins with these lines
pub record IsFront (lines : List (List ℕ)) : Type 0 where
  pub more : List (List ℕ)
  pub file : AreFile (lines ++ more)

-- The first bad line, with its number from 1: some file begins with the lines before it, and none begins with these and the
-- next line, which has to have its end; and where no byte is left, the lines before are no whole file.
pub record IsFirstBad (text : List ℕ) (number : ℕ) : Type 0 where
  pub before : List (List ℕ)
  pub rest : List ℕ
  pub same : text ≡ text_of before ++ rest
  pub place : number ≡ length before + 1
  pub front : IsFront before
  pub next : (line behind : List ℕ) → Lacks 10 line → rest ≡ line ++ 10 ∷ behind → IsFront (before ++ line ∷ []) → ⊥
  pub end : rest ≡ [] → AreFile before → ⊥

-- a fault names the first bad line, or says that memory was wanting
abbrev pub IsFaultOf : List ℕ → CertsFault → Type 0
IsFaultOf text (Line number) = IsFirstBad text number
IsFaultOf text Memory = Unit {0}
