-- A node that stands too deep begins before the end token.
use Rattle.std.proofs.Common.{◌≡◌, ◌+◌, ◌<◌, ◌≤◌, ℕ, true, false, List, [], ◌∷◌, ◌++◌, length, Some}
use Rattle.std.proofs.Common.{sym, ap, subst, refl, ◌∙◌, arith, length-append}
use Rattle.std.proofs.lemmas.List.{append-nil}
use Rattle.std.specs.Prelude.{slice_get}
use Rattle.csyn.specs.declared.token.Token.{Token}
use Rattle.csyn.specs.declared.operator.BinaryOperator.TheVariants as operator
use Rattle.csyn.specs.declared.operator.BinaryOperator.{BinaryOperator}
use Rattle.csyn.specs.declared.operator.ComparisonOperator.{ComparisonOperator}
use Rattle.csyn.specs.declared.operator.ComparisonOperator.TheVariants as comparison
use Rattle.csyn.specs.declared.operator.LogicalOperator.{LogicalOperator}
use Rattle.csyn.specs.declared.operator.LogicalOperator.TheVariants as logical
use Rattle.cgrammar.specs.declared.production.Production.{Production}
use Rattle.cgrammar.specs.declared.production.Production.TheVariants as make
use Rattle.cgrammar.specs.declared.production.Word.{Word}
use Rattle.cgrammar.specs.declared.production.Word.TheVariants as word
use Rattle.cgrammar.specs.declared.production.Words.{Words}
use Rattle.cgrammar.specs.declared.production.Words.TheVariants as words
use Rattle.cgrammar.specs.Grammar.{source, home, under, is_wider, class_number, words_number, operator_level}
use Rattle.cgrammar.specs.Grammar.{comparison_level, logical_level, alone, joined, template, own_nodes}
use Rattle.cgrammar.specs.Text.{Written, leaf, node, Forest, none, more, spell, spells, IsProper, Match, IsText}
use Rattle.cparse.specs.Nodes.{deep, deep_of}
use Rattle.cparse.proofs.Ascending.{Between, deep-between}

false-true : {A : Type 0} → false ≡ true → A
false-true h = absurd (cc)

of-binary : (o : BinaryOperator) → under (home (make.Binary o)) source ≡ true → make.Binary o ≡ make.Source
unfolding home under is_wider class_number operator_level
of-binary operator.Add h = false-true h
of-binary _ h = false-true h

of-comparison : (o : ComparisonOperator) → under (home (make.Comparison o)) source ≡ true → make.Comparison o ≡ make.Source
unfolding home under is_wider class_number comparison_level
of-comparison comparison.Less h = false-true h
of-comparison _ h = false-true h

of-logical : (o : LogicalOperator) → under (home (make.Logical o)) source ≡ true → make.Logical o ≡ make.Source
unfolding home under is_wider class_number logical_level
of-logical logical.And h = false-true h
of-logical logical.Or h = false-true h

of-word : (w : Word) → under (home (make.FirstWord w)) source ≡ true → make.FirstWord w ≡ make.Source
unfolding home under is_wider class_number words_number alone
of-word word.Sign h = false-true h
of-word _ h = false-true h

of-words : (a : Words) (w : Word) → under (home (make.NextWord a w)) source ≡ true → make.NextWord a w ≡ make.Source
unfolding home under is_wider class_number words_number joined
of-words words.Sign word.Sign h = false-true h
of-words _ word.Sign h = false-true h
of-words words.Sign word.Char h = false-true h
of-words _ word.Char h = false-true h
of-words words.Sign word.Length h = false-true h
of-words _ word.Length h = false-true h
of-words words.Sign word.Int h = false-true h
of-words _ word.Int h = false-true h

-- one production makes a source
source-only : (p : Production) → under (home p) source ≡ true → p ≡ make.Source
unfolding home under is_wider class_number
source-only make.Source h = refl
source-only (make.Binary o) h = of-binary o h
source-only (make.Comparison o) h = of-comparison o h
source-only (make.Logical o) h = of-logical o h
source-only (make.FirstWord w) h = of-word w h
source-only (make.NextWord a w) h = of-words a w h
source-only _ h = false-true h

first-between : (low high : ℕ) (all : List ℕ) (place : ℕ) → Between low high all → slice_get all 0 ≡ Some place → place ≤ high
unfolding Between
first-between low high [] place between e = absurd (cc)
first-between low high (x ∷ []) place between e = let same : x ≡ place = cc in omega arith
first-between low high (x ∷ y ∷ all) place between e =
    let same : x ≡ place = cc in let rest = first-between x high (y ∷ all) y between.1 refl in omega (arith, between.1.0)

deep-parts : (own : Forest) (place : ℕ) → Match (template make.Source) own → slice_get (deep 0 0 (node make.Source own)) 0 ≡ Some place
    → place < length (spells own)
unfolding Match template deep deep_of own_nodes
deep-parts none place proper e = elim proper [ ]
deep-parts (more (leaf t) parts) place proper e = elim (proper.0) [ ]
deep-parts (more (node p g) none) place proper e = elim (proper.3) [ ]
deep-parts (more (node p g) (more (node q h) parts)) place proper e = elim (proper.3.0) [ ]
deep-parts (more (node p g) (more (leaf t) (more w parts))) place proper e = elim (proper.3.3) [ ]
deep-parts (more (node p g) (more (leaf t) none)) place proper e =
    let all : deep 0 0 (node p g) ++ [] ≡ deep 0 0 (node p g) = append-nil (deep 0 0 (node p g)) in
    let first : slice_get (deep 0 0 (node p g)) 0 ≡ Some place = ap (λ xs. slice_get xs 0) (sym all) ∙ e in
    let low = first-between 0 (0 + length (spell (node p g))) (deep 0 0 (node p g)) place (deep-between 0 0 (node p g)) first in
    let count = length-append (spells g) (t ∷ []) in
    omega (arith, low, count)

-- what is found stands before the end
pub deep-within : (tokens : List Token) (written : Written) (place : ℕ) → IsText written tokens
    → slice_get (deep 0 0 written) 0 ≡ Some place
    → place < length tokens
unfolding IsProper
deep-within tokens (leaf t) place text e = elim (text.is_source) [ ]
deep-within tokens (node production own) place text e =
    let is = source-only production text.is_source in
    let proper = subst (λ p. Match (template p) own) is text.proper in
    let found = subst (λ p. slice_get (deep 0 0 (node p own)) 0 ≡ Some place) is e in
    omega (arith, deep-parts own place proper found, ap length text.spelled)
