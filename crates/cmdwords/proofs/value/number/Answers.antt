use Rattle.std.proofs.Common.{◌≡◌, ℕ, ◌≤◌, true, not, List, Result, Ok, Err, sym, ap, ◌∙◌, arith}
use Rattle.std.specs.Fmt.{decimal}
use Rattle.std.specs.Str.{bytes_eq}
use Rattle.std.specs.Str.Parse.{ParsesUnsigned}
use Rattle.std.proofs.lemmas.Bool.{true≢false}
use Rattle.std.proofs.lemmas.Fmt.{parse-decimal}
use Rattle.std.proofs.lemmas.Slice.Eq.{bytes_eq-Decides}
use Rattle.cmdwords.proofs.value.number.Goals as goal

-- a word that is a number in decimal is parsed as that number
parsed : {E : Type 0} (n : ℕ) (word : List ℕ) (r : Result ℕ E) → n ≤ 4294967295 → decimal n ≡ word → ParsesUnsigned 32 10 word r → r ≡ Ok n
parsed n word r le e is = parse-decimal 32 n word r (omega arith) (omega arith) (sym e) is

no_error : {E : Type 0} (n : ℕ) (word : List ℕ) (r : Result ℕ E) (error : E) → n ≤ 4294967295 → decimal n ≡ word → ParsesUnsigned 32 10 word
    r → r ≡ Err error → ⊥
no_error {E} n word r error le e is failed = differ (sym failed ∙ parsed n word r le e is)
  where
    differ : ◌≡◌ {A = Result ℕ E} (Err error) (Ok n) → ⊥
    differ d = cc

same : {E : Type 0} (n m : ℕ) (word : List ℕ) (r : Result ℕ E) → n ≤ 4294967295 → decimal n ≡ word → ParsesUnsigned 32 10 word r → r ≡ Ok m
    → m ≡ n
same {E} n m word r le e is ok = inside (sym ok ∙ parsed n word r le e is)
  where
    inside : ◌≡◌ {A = Result ℕ E} (Ok m) (Ok n) → m ≡ n
    inside d = cc

printed : (text word : List ℕ) → text ≡ word → true ≡ not (bytes_eq text word) → ⊥
printed text word e differs = true≢false (differs ∙ ap not ((bytes_eq-Decides text word).1 e))

pub returns-in_default : goal.returns-in_default
returns-in_default c = λ n low high e.
    let le : n ≤ 4294967295 = omega (arith, high, c.ranges.most) in
    no_error n c.args.word.now c.parse.result c.in_default.field-0 le e c.parse.ensures.value.0 c.in_default.is

pub returns-then-number-least : goal.returns-then-number-least
returns-then-number-least c = λ n low high e.
    let le : n ≤ 4294967295 = omega (arith, high, c.ranges.most) in
    let is = same n c.in-Ok.number c.args.word.now c.parse.result le e c.parse.ensures.value.0 c.in-Ok.is in
    omega (arith, c.if-number-least.true, is, low)

pub returns-then-number-most : goal.returns-then-number-most
returns-then-number-most c = λ n low high e.
    let le : n ≤ 4294967295 = omega (arith, high, c.ranges.most) in
    let is = same n c.in-Ok.number c.args.word.now c.parse.result le e c.parse.ensures.value.0 c.in-Ok.is in
    omega (arith, c.if-number-most.true, is, high)

pub returns-then-ne : goal.returns-then-ne
returns-then-ne c = λ n low high e.
    let le : n ≤ 4294967295 = omega (arith, high, c.ranges.most) in
    let is = same n c.in-Ok.number c.args.word.now c.parse.result le e c.parse.ensures.value.0 c.in-Ok.is in
    printed c.as_str.result.now c.args.word.now (c.as_str.ensures.value ∙ c.in_ok-text.ensures.ok ∙ ap decimal is ∙ e) c.if-ne.ensures
