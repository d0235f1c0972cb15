-- The state that the code holds, as definitions see it.
use Rattle.std.specs.Prelude.{◌≡◌, ◌≤◌, [], length}
use Rattle.csyn.specs.declared.tree.TheConstants.{MAX_TOKENS}
use Rattle.cpre.specs.declared.state.State as declared
use Rattle.cpre.specs.Expansion.{State}
use Rattle.cpre.specs.Held.{macros_of}
use Rattle.cpre.specs.Replacing.{IsSound}

abbrev pub view : declared.State → State
view s = record { macros = macros_of s.replacer.macros; is_included = s.is_included; groups = s.groups; made = s.replacer.made.items }

-- No name is being replaced, and there are no more tokens than may be.
pub record IsSettled (s : declared.State) : Type 0 where
  pub sound : IsSound s.replacer.macros []
  pub none : s.replacer.frames ≡ []
  pub few : length s.replacer.made.items ≤ MAX_TOKENS
