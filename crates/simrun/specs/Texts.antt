-- The texts that a run leaves: this project's own.
use Rattle.std.specs.Prelude.{◌≡◌, ℕ, List, ◌++◌, length, codes}
use Rattle.std.specs.Fmt.{decimal}
use Rattle.std.specs.String.{string_bytes}
use Rattle.prutrace.specs.Text.{line, events_of, events_text, trace_text}
use Rattle.corestep.specs.declared.out.Stop.{Stop}
use Rattle.corestep.specs.declared.out.Stop.TheVariants.{Going, Halted, Stuck}
use Rattle.twocore.specs.declared.outcome.Outcome.{Outcome}
use Rattle.simrun.specs.declared.texts.Texts.{Texts}

abbrev pub stop_text : Stop → List ℕ
stop_text Going = codes "running"
stop_text Halted = codes "halted"
stop_text Stuck = codes "stuck"

-- a core's numbers of events and of instructions, and how it stands
abbrev pub core_line : ℕ → ℕ → ℕ → Stop → List ℕ
core_line core events instructions stop =
    line (codes "core " ++ (decimal core ++ (codes " events "
    ++ (decimal events ++ (codes " instructions " ++ (decimal instructions
    ++ (codes " " ++ stop_text stop)))))))

-- the line of core 0, and that of core 1
abbrev pub summary_text : Outcome → List ℕ
summary_text o = core_line 0 (length o.trace0) o.count0 o.stop0 ++ core_line 1 (length o.trace1) o.count1 o.stop1

-- the file of events, the file of traces and the two lines of what both cores have shown
pub record AreTexts (o : Outcome) (texts : Texts) : Type 0 where
  pub events : texts.events.items ≡ events_text (events_of o.trace0) (events_of o.trace1)
  pub trace : texts.trace.items ≡ trace_text o.trace0 o.trace1
  pub summary : string_bytes texts.summary ≡ summary_text o
