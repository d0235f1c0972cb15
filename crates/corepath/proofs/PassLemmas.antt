-- A pass of a run goes along a path.
use Rattle.std.proofs.Common.{◌≡◌, ℕ, ◌+◌, List, [], ◌∷◌, Option, None}
use Rattle.std.proofs.Common.{refl, sym, ap, subst, arith, inr}
use Rattle.isa.specs.Image.{Contents}
use Rattle.corestep.specs.declared.onward.Turning.{Turning}
use Rattle.corestep.specs.declared.table.Table.{Table}
use Rattle.behaviour.specs.Machine.{Reaches}
use Rattle.behaviour.proofs.MachineLemmas.{reaches-refl, reaches-trans, reaches-step}
use Rattle.corerun.specs.Code.{code_of_words}
use Rattle.corerun.specs.Solo.{Alone, alone_step}
use Rattle.corepath.specs.Flow.{Calls}
use Rattle.corepath.specs.Loops.{Loop}
use Rattle.corepath.specs.Path.{Path, begin as path_begin, step as path_step, call as path_call, own_cost, Ends}
use Rattle.corepath.specs.Pass.{Open, Passing, begin, word, call, return, IsPass}
use Rattle.corepath.proofs.StepLemmas.{Agrees, own_cycles, plain_along, call_comes}

module _ (table : Table) (image : Contents) (region : ℕ) (loops : List Loop) where
  -- the path of a function that made a call, whose callee began at so many cycles
  record OpenPath (o : Open) (f began : ℕ) : Type 0 where
    sum : ℕ
    path : Path table (code_of_words image) region loops o.entry o.word None o.counts sum
    at_is : o.at ≡ o.began + sum
    calls : Calls (code_of_words image) region o.word f
    began_is : began ≡ o.at + own_cost table calls.inst

  abbrev OpenPaths : List Open → ℕ → ℕ → Type 0
  OpenPaths [] e began = Unit {0}
  OpenPaths (o ∷ calls) e began = OpenPath o e began × OpenPaths calls o.entry o.began

  record Follows (calls : List Open) (e began : ℕ) (t : Option Turning) (k : Loop → ℕ) (c : ℕ) (now : Alone) : Type 0 where
    sum : ℕ
    path : Path table (code_of_words image) region loops e now.core.pc t k sum
    cycles : c ≡ began + sum
    agrees : Agrees t now
    before : OpenPaths calls e began

  follows : (from : Alone) (calls : List Open) (e began : ℕ) (t : Option Turning) (k : Loop → ℕ) (c : ℕ) (now : Alone)
      → Passing table image region loops from calls e began t k c now
      → Follows calls e began t k c now
  follows from _ _ _ _ _ _ _ (begin k none) =
      record { sum = 0; path = path_begin from.core.pc k none; cycles = omega arith; agrees = inr refl; before = tt }
  follows from _ _ _ _ _ _ _ (word calls e began c t after k j now next so did plain behind counts) =
      let h = follows from calls e began t k c now so in
      let a = plain_along image region now next t after did plain h.agrees behind in
      let cost = own_cycles table now.core did.inst did.own in
      record {
        sum = h.sum + own_cost table did.inst;
        path = path_step e now.core.pc a.to next.core.pc t after k j h.sum h.path
            (record { inst = did.inst; is = did.is; stays = did.stays; aims = a.aims }) a.comes counts;
        cycles = let c = h.cycles in omega (arith, c, cost);
        agrees = a.agrees;
        before = h.before;
      }
  follows from _ _ _ _ _ _ _ (call calls e began c f k j now next so did is stays none) =
      let h = follows from calls e began None k c now so in
      let cost = own_cycles table now.core did.inst did.own in
      record {
        sum = 0;
        path = subst (λ (w : ℕ). Path table (code_of_words image) region loops f w None j 0)
            (sym (call_comes image region now next f did is stays)) (path_begin f j none);
        cycles = omega arith;
        agrees = inr refl;
        before = (
          record {
            sum = h.sum;
            path = h.path;
            at_is = h.cycles;
            calls = record { inst = did.inst; is = did.is; stays = did.stays; calls = is };
            began_is = ap (λ (n : ℕ). c + n) cost;
          },
          h.before,
        );
      }
  follows from _ _ _ _ _ _ _ (return calls caller f began c k j now next so did jumps noted to stays left counts) =
      let h = follows from (caller ∷ calls) f began None k c now so in
      let o : OpenPath caller f began = h.before.0 in
      let cost = own_cycles table now.core did.inst did.own in
      record {
        sum = o.sum + (own_cost table o.calls.inst + (h.sum + own_cost table did.inst));
        path = subst
            (λ (w : ℕ). Path table (code_of_words image) region loops caller.entry w None j
            (o.sum + (own_cost table o.calls.inst + (h.sum + own_cost table did.inst)))) (sym to)
            (path_call caller.entry caller.word f now.core.pc caller.counts j k o.sum h.sum o.path o.calls h.path
            (record { inst = did.inst; is = did.is; stays = did.stays; jumps = jumps; noted = noted }) left counts);
        cycles = let a = h.cycles in let b = o.began_is in let d = o.at_is in omega (arith, a, b, d, cost);
        agrees = inr refl;
        before = h.before.1;
      }

pub along : (table : Table) (image : Contents) (region : ℕ) (loops : List Loop) (from : Alone) (calls : List Open)
    (e began : ℕ) (t : Option Turning) (k : Loop → ℕ) (c : ℕ) (now : Alone)
    → Passing table image region loops from calls e began t k c now
    → (s : ℕ) × Path table (code_of_words image) region loops e now.core.pc t k s × (c ≡ began + s)
along table image region loops from calls e began t k c now so =
    let h = follows table image region loops from calls e began t k c now so in
    (h.sum, h.path, h.cycles)

pub whole : (table : Table) (image : Contents) (region : ℕ) (loops : List Loop) (from : Alone) (cycles : ℕ)
    → IsPass table image region loops from cycles → Ends table (code_of_words image) region loops from.core.pc cycles
whole table image region loops from cycles p =
    let h = follows table image region loops from [] from.core.pc 0 p.turning p.counts p.before p.last p.passing in
    record {
      word = p.last.core.pc;
      turning = p.turning;
      counts = p.counts;
      before = h.sum;
      inst = p.inst;
      path = h.path;
      is = p.is;
      left = p.left;
      sum_is = let a = h.cycles in let b = own_cycles table p.last.core p.inst p.own in let d = p.cycles_are in omega (arith, a, b, d);
    }

-- a pass is a part of the run
pub runs : (table : Table) (image : Contents) (region : ℕ) (loops : List Loop) (from : Alone) (calls : List Open) (e began : ℕ)
    (t : Option Turning) (k : Loop → ℕ) (c : ℕ) (now : Alone)
    → Passing table image region loops from calls e began t k c now → Reaches (alone_step image) from now
runs table image region loops from _ _ _ _ _ _ _ (begin k none) = reaches-refl (alone_step image) from
runs table image region loops from _ _ _ _ _ _ _ (word calls e began c t after k j now next so did plain behind counts) =
    reaches-trans (alone_step image) from now next (runs table image region loops from calls e began t k c now so)
    (reaches-step (alone_step image) now next did.done)
runs table image region loops from _ _ _ _ _ _ _ (call calls e began c f k j now next so did is stays none) =
    reaches-trans (alone_step image) from now next (runs table image region loops from calls e began None k c now so)
    (reaches-step (alone_step image) now next did.done)
runs table image region loops from _ _ _ _ _ _ _ (return calls caller f began c k j now next so did jumps noted to stays left counts) =
    reaches-trans (alone_step image) from now next (runs table image region loops from (caller ∷ calls) f began None k c now so)
    (reaches-step (alone_step image) now next did.done)
