-- Files that are read or written one after the other.
use Rattle.std.proofs.Common.{◌≡◌, ℕ, ◌<◌, ◌≤◌, List, [], ◌∷◌, ◌++◌, length, Option, Some, None, refl, sym, ap, subst, ◌∙◌, inl, inr}
use Rattle.std.specs.Prelude.{Vec}
use Rattle.std.specs.declared.alloc.Global.{Global}
use Rattle.std.proofs.lemmas.List.{map-append, append_assoc}
use Rattle.fileset.specs.FileMap.{NamedFiles}
use Rattle.fileset.specs.Told.{Held, content, Tells, IsSameFiles}
use Rattle.modefiles.specs.declared.input.Input.{Input}
use Rattle.modefiles.specs.declared.fault.InputFault.{InputFault}
use Rattle.modefiles.specs.declared.fault.InputFault.TheVariants as input_fault
use Rattle.modefiles.specs.declared.fault.OutputFault.{OutputFault}
use Rattle.modefiles.specs.declared.fault.OutputFault.TheVariants as output_fault
use Rattle.modefiles.specs.Reading.{InputFails, IsFirstLong, bytes_of, contents}
use Rattle.modefiles.specs.Writing.{HoldsFile, CutsAt, Wrote, WroteSome, OutputFails}
use Rattle.modefiles.proofs.Told.{Tells-then, Tells-weaker, content-same, rose-since}

-- ---- reading

abbrev Texts : Type 0
Texts = List (Vec ℕ Global)

pub contents-same : (x y : Held) (inputs : List Input) → IsSameFiles x y → contents y inputs ≡ contents x inputs
contents-same x y [] same = refl
contents-same x y (input ∷ rest) same =
    ap (λ (t : List ℕ). t ∷ contents y rest) (content-same x y input.name same)
    ∙ ap (λ (ts : List (List ℕ)). content x input.name ∷ ts) (contents-same x y rest same)

-- what stands behind some texts, of which the first is read and pushed
pub behind_pushed : (before pushed after : Texts) (bytes : Vec ℕ Global) (rest : List (List ℕ)) → pushed ≡ before ++ (bytes ∷ [])
    → bytes_of after ≡ bytes_of pushed ++ rest → bytes_of after ≡ bytes_of before ++ (bytes.items ∷ rest)
behind_pushed before pushed after bytes rest is behind =
    behind ∙ ap (λ (ts : Texts). bytes_of ts ++ rest) is
    ∙ ap (λ (ts : List (List ℕ)). ts ++ rest) (map-append (λ (text : Vec ℕ Global). text.items) before (bytes ∷ []))
    ∙ append_assoc (bytes_of before) (bytes.items ∷ []) rest

pub read_in_turn : (all : List Input) (input : Input) (rest : List Input) (before pushed after : Texts) (bytes : Vec ℕ Global)
    (a b c : Option Held) → all ≡ input ∷ rest → pushed ≡ before ++ (bytes ∷ [])
    → Tells a b (λ x _. bytes.items ≡ content x input.name) → Tells a b IsSameFiles
    → Tells b c (λ y _. bytes_of after ≡ bytes_of pushed ++ contents y rest)
    → Tells a c (λ x _. bytes_of after ≡ bytes_of before ++ contents x all)
read_in_turn all input rest before pushed after bytes a None None is push p s q = tt
read_in_turn all input rest before pushed after bytes a (Some y) None is push p s q = tt
read_in_turn all input rest before pushed after bytes a None (Some z) is push p s q = absurd q
read_in_turn all input rest before pushed after bytes None (Some y) (Some z) is push p s q = absurd p
read_in_turn all input rest before pushed after bytes (Some x) (Some y) (Some z) is push p s q =
    behind_pushed before pushed after bytes (contents y rest) push q
    ∙ ap (λ (t : List ℕ). bytes_of before ++ (t ∷ contents y rest)) p
    ∙ ap (λ (ts : List (List ℕ)). bytes_of before ++ (content x input.name ∷ ts)) (contents-same x y rest s)
    ∙ ap (λ (inputs : List Input). bytes_of before ++ contents x inputs) (sym is)

first-long-same : (x y : Held) (inputs : List Input) (name : List ℕ) (max : ℕ) → IsSameFiles x y → IsFirstLong y inputs name max
    → IsFirstLong x inputs name max
first-long-same x y [] name max same h = h
first-long-same x y (input ∷ rest) name max same (inl h) =
    inl (h.0, h.1, subst (λ (t : List ℕ). input.most < length t) (content-same x y input.name same) h.2)
first-long-same x y (input ∷ rest) name max same (inr h) =
    inr (subst (λ (t : List ℕ). length t ≤ input.most) (content-same x y input.name same) h.0, first-long-same x y rest name max same h.1)

later_long : (input : Input) (rest : List Input) (bytes : List ℕ) (name : List ℕ) (max : ℕ) (a b c : Option Held)
    → length bytes ≤ input.most → Tells a b (λ x _. bytes ≡ content x input.name) → Tells a b IsSameFiles
    → Tells b c (λ y _. IsFirstLong y rest name max) → Tells a c (λ x _. IsFirstLong x (input ∷ rest) name max)
later_long input rest bytes name max a None None within p s q = tt
later_long input rest bytes name max a (Some y) None within p s q = tt
later_long input rest bytes name max a None (Some z) within p s q = absurd q
later_long input rest bytes name max None (Some y) (Some z) within p s q = absurd p
later_long input rest bytes name max (Some x) (Some y) (Some z) within p s q =
    inr (subst (λ (t : List ℕ). length t ≤ input.most) p within, first-long-same x y rest name max s q)

-- the first fails, so all do
pub first_fails : (all : List Input) (input : Input) (rest : List Input) (a b : Option Held) (f0 f1 : ℕ) (fault : InputFault)
    → all ≡ input ∷ rest → InputFails (input ∷ []) a b f0 f1 fault → InputFails all a b f0 f1 fault
first_fails all input rest a b f0 f1 fault is h =
    subst (λ (inputs : List Input). InputFails inputs a b f0 f1 fault) (sym is) (of_all fault h)
  where
    first : (x : Held) (name : List ℕ) (max : ℕ) → IsFirstLong x (input ∷ []) name max → IsFirstLong x (input ∷ rest) name max
    first x name max (inl h) = inl h
    first x name max (inr h) = absurd h.1

    of_all : (fault : InputFault) → InputFails (input ∷ []) a b f0 f1 fault → InputFails (input ∷ rest) a b f0 f1 fault
    of_all (input_fault.Failed name) (inl e, rose) = (inl e, rose)
    of_all (input_fault.Failed name) (inr e, rose) = absurd e
    of_all (input_fault.TooLong name max) (inl e, told) = (
      inl e,
      Tells-weaker a b (λ x _. IsFirstLong x (input ∷ []) name max) (λ x _. IsFirstLong x (input ∷ rest) name max)
          (λ x y h. first x name max h) told,
    )
    of_all (input_fault.TooLong name max) (inr e, told) = absurd e
    of_all input_fault.NoMemory h = tt

-- a later one fails
pub later_fails : (all : List Input) (input : Input) (rest : List Input) (bytes : List ℕ) (a b c : Option Held) (f0 f1 f2 : ℕ)
    (fault : InputFault) → all ≡ input ∷ rest → length bytes ≤ input.most → Tells a b (λ x _. bytes ≡ content x input.name)
    → Tells a b IsSameFiles → f0 ≤ f1 → InputFails rest b c f1 f2 fault → InputFails all a c f0 f2 fault
later_fails all input rest bytes a b c f0 f1 f2 fault is within p s grows h =
    subst (λ (inputs : List Input). InputFails inputs a c f0 f2 fault) (sym is) (of_all fault h)
  where
    of_all : (fault : InputFault) → InputFails rest b c f1 f2 fault → InputFails (input ∷ rest) a c f0 f2 fault
    of_all (input_fault.Failed name) h = (inr h.0, rose-since f0 f1 f2 grows h.1)
    of_all (input_fault.TooLong name max) h = (inr h.0, later_long input rest bytes name max a b c within p s h.1)
    of_all input_fault.NoMemory h = tt

-- ---- writing

pub write_fails : (file : List ℕ × List ℕ) (all rest : NamedFiles) (a b : Option Held) (f0 f1 : ℕ) (fault : OutputFault)
    → all ≡ file ∷ rest → OutputFails (file ∷ []) a b f0 f1 fault → OutputFails all a b f0 f1 fault
write_fails file all rest a b f0 f1 fault is h =
    subst (λ (files : NamedFiles). OutputFails files a b f0 f1 fault) (sym is) (of_all fault h)
  where
    cut : (x y : Held) (name : List ℕ) → CutsAt (file ∷ []) name x y → CutsAt (file ∷ rest) name x y
    cut x y name (inl h) = inl h
    cut x y name (inr h) = absurd h.2

    none : (rest : NamedFiles) (x y : Held) → IsSameFiles x y → WroteSome rest x y
    none [] x y same = same
    none (file ∷ rest) x y same = inl same

    some : (x y : Held) → WroteSome (file ∷ []) x y → WroteSome (file ∷ rest) x y
    some x y (inl same) = inl same
    some x y (inr h) = inr (h.0, h.1, none rest h.0 y h.2)

    of_all : (fault : OutputFault) → OutputFails (file ∷ []) a b f0 f1 fault → OutputFails (file ∷ rest) a b f0 f1 fault
    of_all (output_fault.Failed name) h =
        (h.0, Tells-weaker a b (CutsAt (file ∷ []) name) (CutsAt (file ∷ rest) name) (λ x y h. cut x y name h) h.1)
    of_all output_fault.NoMemory h = Tells-weaker a b (WroteSome (file ∷ [])) (WroteSome (file ∷ rest)) some h

pub write_in_turn : (file : List ℕ × List ℕ) (all rest : NamedFiles) (a b c : Option Held) → all ≡ file ∷ rest
    → Tells a b (HoldsFile file) → Tells b c (Wrote rest) → Tells a c (Wrote all)
write_in_turn file all rest a b c is p q = subst (λ (files : NamedFiles). Tells a c (Wrote files)) (sym is)
    (Tells-then a b c (HoldsFile file) (Wrote rest) (Wrote (file ∷ rest)) (λ x y z h k. (y, h, k)) p q)

pub later_write_fails : (file : List ℕ × List ℕ) (all rest : NamedFiles) (a b c : Option Held) (f0 f1 f2 : ℕ) (fault : OutputFault)
    → all ≡ file ∷ rest → Tells a b (HoldsFile file) → f0 ≤ f1 → OutputFails rest b c f1 f2 fault → OutputFails all a c f0 f2 fault
later_write_fails file all rest a b c f0 f1 f2 fault is p grows h =
    subst (λ (files : NamedFiles). OutputFails files a c f0 f2 fault) (sym is) (of_all fault h)
  where
    of_all : (fault : OutputFault) → OutputFails rest b c f1 f2 fault → OutputFails (file ∷ rest) a c f0 f2 fault
    of_all (output_fault.Failed name) h = (
      rose-since f0 f1 f2 grows h.0,
      Tells-then a b c (HoldsFile file) (CutsAt rest name)
          (CutsAt (file ∷ rest) name) (λ x y z h k. inr (y, h, k)) p h.1,
    )
    of_all output_fault.NoMemory h =
        Tells-then a b c (HoldsFile file) (WroteSome rest) (WroteSome (file ∷ rest)) (λ x y z h k. inr (y, h, k)) p h
