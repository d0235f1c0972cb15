-- What a script's lines say, and the first bad line.
use Rattle.std.specs.Prelude.{◌≡◌, ℕ, ◌+◌, ◌<◌, ◌==◌, if◌then◌else◌, List, [], ◌∷◌, ◌++◌, length, map, Result, Ok, Err}
use Rattle.std.specs.List.{AllByRecursion, AllZip}
use Rattle.textline.specs.Lines.{lines_of, text_of}
use Rattle.hostscript.specs.declared.action.Act.{Act}
use Rattle.hostscript.specs.declared.cause.ScriptCause.{ScriptCause}
use Rattle.hostscript.specs.declared.cause.ScriptCause.TheVariants.{Form, Range, Order}
use Rattle.hostscript.specs.declared.fault.ScriptFault.{ScriptFault}
use Rattle.hostscript.specs.declared.fault.ScriptFault.TheVariants.{Line, Memory}
use Rattle.hostscript.specs.declared.fault.LineFault.{LineFault}
use Rattle.hostscript.specs.declared.fault.LineFault.TheVariants as faults
use Rattle.hostscript.specs.declared.line.Saying.{Saying}
use Rattle.hostscript.specs.declared.line.Saying.TheVariants.{Nothing, Does, Waits}
use Rattle.hostscript.specs.declared.script.Script.{Script}
use Rattle.hostscript.specs.Acts.{IsAct, InOrder, act_text, arb_text}
use Rattle.hostscript.specs.Lines.{Says, HasNoForm, IsOutOfRange}

-- the acts that lines say, and the numbers of a core, in the order of the lines
abbrev pub acts_in : List Saying → List Act
acts_in [] = []
acts_in (Nothing ∷ said) = acts_in said
acts_in (Does act ∷ said) = act ∷ acts_in said
acts_in (Waits core numbers ∷ said) = acts_in said

abbrev pub numbers_in : ℕ → List Saying → List ℕ
numbers_in core [] = []
numbers_in core (Nothing ∷ said) = numbers_in core said
numbers_in core (Does act ∷ said) = numbers_in core said
numbers_in core (Waits other numbers ∷ said) = (if other == core then numbers else []) ++ numbers_in core said

-- Each line says something, and the cycles do not fall.
pub record AreGood (lines : List (List ℕ)) (said : List Saying) : Type 0 where
  pub each : AllZip Says lines said
  pub order : InOrder (acts_in said)

-- the text is a script, whose last line may lack its end
pub record IsScript (text : List ℕ) (script : Script) : Type 0 where
  pub said : List Saying
  pub good : AreGood (lines_of text) said
  pub acts : script.acts ≡ acts_in said
  pub arb0 : script.arb0 ≡ numbers_in 0 said
  pub arb1 : script.arb1 ≡ numbers_in 1 said

-- why a line is bad behind lines that say these acts
abbrev pub HasCause : List Act → List ℕ → ScriptCause → Type 0
HasCause acts line Form = HasNoForm line
HasCause acts line Range = IsOutOfRange line
HasCause acts line Order = (act : Act) × Says line (Does act) × (InOrder (acts ++ act ∷ []) → ⊥)

-- a fault of a line behind them
abbrev pub IsLineFault : List Act → List ℕ → LineFault → Type 0
IsLineFault acts line (faults.Cause cause) = HasCause acts line cause
IsLineFault acts line faults.Memory = Unit {0}

-- the first bad line, with its number from 1
pub record IsFirstBad (text : List ℕ) (number : ℕ) (cause : ScriptCause) : Type 0 where
  pub before : List (List ℕ)
  pub line : List ℕ
  pub after : List (List ℕ)
  pub lines : lines_of text ≡ before ++ line ∷ after
  pub place : number ≡ length before + 1
  pub said : List Saying
  pub good : AreGood before said
  pub bad : HasCause (acts_in said) line cause

-- a fault names the first bad line, or says that memory was wanting
abbrev pub IsFaultOf : List ℕ → ScriptFault → Type 0
IsFaultOf text (Line line cause) = IsFirstBad text line cause
IsFaultOf text Memory = Unit {0}

-- the value, unless memory was wanting
abbrev pub Gives : Script → Result Script ScriptFault → Type 0
Gives script (Ok read) = read ≡ script
Gives script (Err (Line line cause)) = ⊥
Gives script (Err Memory) = Unit {0}

-- what a script's type keeps
pub record IsWhole (script : Script) : Type 0 where
  pub acts : AllByRecursion IsAct script.acts
  pub order : InOrder script.acts
  pub arb0 : AllByRecursion (λ n. n < 256) script.arb0
  pub arb1 : AllByRecursion (λ n. n < 256) script.arb1

-- a line of numbers, where there are some
abbrev pub arb_lines : ℕ → List ℕ → List (List ℕ)
arb_lines core [] = []
arb_lines core (number ∷ numbers) = arb_text core (number ∷ numbers) ∷ []

-- a text of a script: its acts, then the numbers of core 0, then those of core 1
abbrev pub script_text : Script → List ℕ
script_text script = text_of (map act_text script.acts ++ arb_lines 0 script.arb0 ++ arb_lines 1 script.arb1)
