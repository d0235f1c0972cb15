use Rattle.std.proofs.Common.{◌≡◌, ℕ, List, [], ◌∷◌, ◌++◌, length, Bool, true, eqb, sym, ap, subst, ◌∙◌}
use Rattle.std.proofs.lemmas.Bool.{eqb-true}
use Rattle.std.proofs.lemmas.List.{nil_from_length}
use Rattle.std.proofs.lemmas.Result.{err_from_is_err_and}
use Rattle.prucc.specs.Run.{ShowsMeaning}
use Rattle.prucc.specs.Job.{events_name}
use Rattle.prucc.specs.Summary.{line_of, summary_line}
use Rattle.prucc.proofs.RunOfSources.{line_is, events_are, zero_fails, one_fails}
use Rattle.prucc.proofs.sources.run_sources.Goals as goal

nothing : (xs : List ℕ) (b : Bool) → b ≡ eqb (length xs) 0 → b ≡ true → xs ≡ []
nothing xs b is holds = nil_from_length xs (eqb-true (length xs) 0 (sym is ∙ holds))

pub returns-in_err-zero-clause-refuses : goal.returns-in_err-zero-clause-refuses
returns-in_err-zero-clause-refuses c =
    let p = err_from_is_err_and c.from_residual.result c.from_residual.ensures.1 in
    rw (p.1, p.2) (zero_fails c.args.cores.now c.args.zero.now c.args.one.now c.args.script.now c.in_err-zero.field-0.0
    (nothing c.args.script.now c.is_empty.result c.is_empty.ensures c.if-not-is_empty.false) c.in_err-zero.ensures.err)

pub returns-in_err-one-clause-refuses : goal.returns-in_err-one-clause-refuses
returns-in_err-one-clause-refuses c =
    let p = err_from_is_err_and c.from_residual-in_err-one.result c.from_residual-in_err-one.ensures.1 in
    rw (p.1, p.2) (one_fails c.args.cores.now c.args.zero.now c.args.one.now c.args.script.now c.in_ok-zero.zero.items
    c.in_err-one.field-0.0 (nothing c.args.script.now c.is_empty.result c.is_empty.ensures c.if-not-is_empty.false) c.in_ok-zero.ensures.writes c.in_err-one.ensures.err)

both_lines : (zero one zero' one' : List ℕ) → zero ≡ zero' → one ≡ one' → zero ++ one ≡ zero' ++ one'
both_lines zero one zero' one' z o = ap (λ (t : List ℕ). t ++ one) z ∙ ap (λ (t : List ℕ). zero' ++ t) o

pub returns-clause-makes : goal.returns-clause-makes
returns-clause-makes c =
    let r = c.args.cores.now in
    let n = r.cycles in
    let ks0 = c.in_ok-zero.zero.items in
    let ks1 = c.in_ok-one.one.items in
    let zero : ShowsMeaning ks0 n c.in_ok-zero-2.zero =
    subst (λ (ks : List ℕ). ShowsMeaning ks n c.in_ok-zero-2.zero) c.deref.ensures.value c.in_ok-zero-2.ensures in
    let one : ShowsMeaning ks1 n c.in_ok-one-2.one =
    subst (λ (ks : List ℕ). ShowsMeaning ks n c.in_ok-one-2.one) c.deref-2.ensures.value c.in_ok-one-2.ensures in
    record {
      ks0 = ks0;
      ks1 = ks1;
      built = record {
        no_script = (nothing c.args.script.now c.is_empty.result c.is_empty.ensures c.if-not-is_empty.false);
        writes_zero = c.in_ok-zero.ensures.writes;
        writes_one = c.in_ok-one.ensures.writes;
      };
      events = c.in_ok-work_of.ensures.events
          ∙ ap (λ (bytes : List ℕ). (events_name r, bytes) ∷ []) (events_are n ks0 ks1 c.in_ok-zero-2.zero c.in_ok-one-2.one zero one);
      summary = c.in_ok-work_of.ensures.lines ∙ both_lines (line_of 0 c.in_ok-zero-2.zero) (line_of 1 c.in_ok-one-2.one)
          (summary_line 0 n ks0) (summary_line 1 n ks1)
          (line_is 0 n ks0 c.in_ok-zero-2.zero zero) (line_is 1 n ks1 c.in_ok-one-2.one one);
    }
