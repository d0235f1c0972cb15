-- What symbols will make of the values so far: what they still want on the top, and one source at the end.
use Rattle.std.proofs.Common.{◌≡◌, ◌+◌, Bool, true, false, List, [], ◌∷◌, ◌++◌, length, Option, Some, None}
use Rattle.std.proofs.Common.{if◌then◌else◌, refl, ◌∙◌, subst, append-nil, arith}
use Rattle.std.proofs.lemmas.Bool.{false≢true}
use Rattle.std.proofs.lemmas.Option.{none-some, same_Some}
use Rattle.csyn.specs.declared.token.Token.{Token}
use Rattle.cgrammar.specs.declared.production.Production.{Production}
use Rattle.creader.specs.declared.part.Symbol.{Symbol}
use Rattle.creader.specs.declared.part.Symbol.TheVariants as symbol
use Rattle.cgrammar.specs.Kind.{kind_of}
use Rattle.cgrammar.specs.Terminal.{accepts}
use Rattle.cgrammar.specs.Grammar as class
use Rattle.cgrammar.specs.Grammar.{Class, Piece, home, template}
use Rattle.cgrammar.specs.Text.{Written, leaf, node, Forest, none, more, Stands}
use Rattle.creader.specs.Machine.{gather, reduce}
use Rattle.creader.proofs.Sound.Order.{below, below-stands, under_refl}
use Rattle.creader.proofs.Sound.Signature.{entry, exit, strip, turned, at_rest, types}

-- Proper, but for the rule on else.
unfoldable mutual
  pub IsShaped : Written → Type 0
  IsShaped (leaf _) = Unit {0}
  IsShaped (node production parts) = Shape (template production) parts

  pub Shape : List Piece → Forest → Type 0
  Shape [] none = Unit {0}
  Shape (piece ∷ pieces) (more written parts) = Stands piece written × IsShaped written × Shape pieces parts
  Shape _ _ = ⊥

-- The first values are of these sorts, and of the others the rest holds.
abbrev pub Upon : List Piece → (List Written → Type 0) → List Written → Type 0
Upon [] Rest values = Rest values
Upon (sort ∷ sorts) Rest (value ∷ values) = Stands sort value × IsShaped value × Upon sorts Rest values
Upon (sort ∷ sorts) Rest [] = ⊥

-- What comes next holds with one more value of the class.
abbrev pub Gives : Class → (List Written → Type 0) → List Written → Type 0
Gives c Next values = (written : Written) → Stands (class.part c) written → IsShaped written → Next (written ∷ values)

-- What is still to do makes one source of the values, whatever tokens it takes and whatever parts it reads.
abbrev pub Good : List Symbol → List Written → Type 0
Good [] values = (written : Written) × (values ≡ written ∷ []) × Stands (class.part class.source) written × IsShaped written
Good (symbol.Take t ∷ symbols) values = (token : Token) → accepts t (kind_of token) ≡ true → Good symbols (leaf token ∷ values)
Good (symbol.Read p ∷ symbols) values = Upon (entry p) (Gives (exit p) (Good symbols)) values
Good (symbol.Reduce p ∷ symbols) values = Good symbols (reduce p values)

Upon-map : (sorts : List Piece) (P Q : List Written → Type 0) → ((values : List Written) → P values → Q values)
    → (values : List Written) → Upon sorts P values → Upon sorts Q values
Upon-map [] P Q f values u = f values u
Upon-map (sort ∷ sorts) P Q f [] u = absurd u
Upon-map (sort ∷ sorts) P Q f (value ∷ values) u = (u.0, u.1, Upon-map sorts P Q f values u.2)

-- a condition that gives something is true
pub if_some : {A : Type 0} (b : Bool) (o : Option A) (x : A) → (if b then o else None) ≡ Some x → (b ≡ true) × (o ≡ Some x)
if_some true o x e = (refl, e)
if_some false o x e = absurd (none-some x e)

at_rest-some : (o : Option (List Piece)) (test : List Piece → Bool) → at_rest o test ≡ true
    → (rest : List Piece) × (o ≡ Some rest) × (test rest ≡ true)
at_rest-some None test h = absurd (false≢true h)
at_rest-some (Some rest) test h = (rest, refl, h)

-- taking the wanted sorts off
strip-Upon : (wanted sorts rest : List Piece) (P : List Written → Type 0) → strip wanted sorts ≡ Some rest
    → (values : List Written) → Upon sorts P values → Upon wanted (Upon rest P) values
unfolding strip
strip-Upon [] sorts rest P e values u = subst (λ x. Upon x P values) (same_Some sorts rest e) u
strip-Upon (want ∷ wanted) [] rest P e values u = absurd (none-some rest e)
strip-Upon (want ∷ wanted) (sort ∷ sorts) rest P e [] u = absurd u
strip-Upon (want ∷ wanted) (sort ∷ sorts) rest P e (value ∷ values) u =
    let k = if_some (below sort want) (strip wanted sorts) rest e in
    (below-stands sort want k.0 value u.0, u.1, strip-Upon wanted sorts rest P k.1 values u.2)

turned-turned : (pieces others last : List Piece) → turned (turned pieces others) last ≡ turned others (pieces ++ last)
unfolding turned
turned-turned [] others last = refl
turned-turned (piece ∷ pieces) others last = turned-turned pieces (piece ∷ others) last

-- turned twice, pieces are as they were
turned_back : (pieces : List Piece) → turned (turned pieces []) [] ≡ pieces
unfolding turned
turned_back pieces = turned-turned pieces [] [] ∙ append-nil pieces

-- turning loses none
length-turned : (pieces others : List Piece) → length (turned pieces others) ≡ length pieces + length others
unfolding turned
length-turned [] others = omega arith
length-turned (piece ∷ pieces) others = omega (arith, length-turned pieces (piece ∷ others))

-- the values that are gathered make a right side
Gathered : List Piece → (List Written → Type 0) → Forest × List Written → Type 0
Gathered pieces P gathered = Shape pieces gathered.0 × P gathered.1

gather-shape : (pieces others : List Piece) (P : List Written → Type 0) (values : List Written) (parts : Forest)
    → Shape others parts → Upon pieces P values → Gathered (turned pieces others) P (gather (length pieces) values parts)
unfolding gather turned Shape Gathered
gather-shape [] others P values parts s u = (s, u)
gather-shape (piece ∷ pieces) others P [] parts s u = absurd u
gather-shape (piece ∷ pieces) others P (value ∷ values) parts s u =
    gather-shape pieces (piece ∷ others) P values (more value parts) (u.0, u.1, s) u.2

-- one value made of the last ones, whose sorts are the right side backwards
reduce-shape : (p : Production) (P : List Written → Type 0) (values : List Written) → Upon (turned (template p) []) P values
    → Upon (class.part (home p) ∷ []) P (reduce p values)
unfolding reduce Gathered Shape IsShaped
reduce-shape p P values u =
    let n : length (turned (template p) []) ≡ length (template p) = length-turned (template p) [] ∙ omega arith in
    let g : Gathered (turned (turned (template p) []) []) P (gather (length (turned (template p) [])) values none)
    = gather-shape (turned (template p) []) [] P values none tt u in
    let h : Gathered (template p) P (gather (length (template p)) values none)
    = rw (turned_back (template p), n) at g in
    (under_refl (home p), h.0, h.1)

one : (c : Class) (values : List Written) (rest : List Piece) (P : List Written → Type 0)
    → Upon (class.part c ∷ []) (Upon rest P) values → Upon (class.part c ∷ rest) P values
one c [] rest P u = u
one c (value ∷ values) rest P u = u

-- Symbols that leave one value of the class, and then the others.
pub run : (symbols : List Symbol) (c : Class) (sorts : List Piece) (next : List Symbol) (values : List Written)
    → types c symbols sorts ≡ true → Upon sorts (Gives c (Good next)) values → Good (symbols ++ next) values
unfolding types IsShaped
run [] c [] next values h u = absurd (false≢true h)
run [] c (sort ∷ []) next [] h u = absurd u
run [] c (sort ∷ []) next (value ∷ values) h u = u.2 value (below-stands sort (class.part c) h value u.0) u.1
run [] c (sort ∷ second ∷ sorts) next values h u = absurd (false≢true h)
run (symbol.Take t ∷ symbols) c sorts next values h u =
    λ token a. run symbols c (class.token t ∷ sorts) next (leaf token ∷ values) h (a, tt, u)
run (symbol.Read p ∷ symbols) c sorts next values h u =
    let k = at_rest-some (strip (entry p) sorts) (λ rest. types c symbols (class.part (exit p) ∷ rest)) h in
    Upon-map (entry p) (Upon k.0 (Gives c (Good next))) (Gives (exit p) (Good (symbols ++ next)))
    (λ below v written s i. run symbols c (class.part (exit p) ∷ k.0) next (written ∷ below) k.2 (s, i, v))
    values (strip-Upon (entry p) sorts k.0 (Gives c (Good next)) k.1 values u)
run (symbol.Reduce p ∷ symbols) c sorts next values h u =
    let k = at_rest-some (strip (turned (template p) []) sorts) (λ rest. types c symbols (class.part (home p) ∷ rest)) h in
    run symbols c (class.part (home p) ∷ k.0) next (reduce p values) k.2
    (one (home p) (reduce p values) k.0 (Gives c (Good next))
    (reduce-shape p (Upon k.0 (Gives c (Good next))) values
    (strip-Upon (turned (template p) []) sorts k.0 (Gives c (Good next)) k.1 values u)))
