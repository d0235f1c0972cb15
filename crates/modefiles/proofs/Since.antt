-- What is written to files that are as they were before.
use Rattle.std.proofs.Common.{List, [], ◌∷◌, ℕ, Option, subst, ◌∙◌, inl, inr}
use Rattle.fileset.specs.FileMap.{NamedFiles}
use Rattle.fileset.specs.Told.{Held, Tells, IsSameFiles, IsCutShort}
use Rattle.modefiles.specs.Writing.{HoldsFile, CutsFile, CutsAt, Wrote, WroteSome}
use Rattle.modefiles.proofs.Told.{Tells-then, same-then}

holds-since : (file : List ℕ × List ℕ) (x y z : Held) → IsSameFiles x y → HoldsFile file y z → HoldsFile file x z
holds-since file x y z same h = record { written = h.written; others = λ other ne. h.others other ne ∙ same other }

cuts-since : (file : List ℕ × List ℕ) (x y z : Held) → IsSameFiles x y → CutsFile file y z → CutsFile file x z
cuts-since file x y z same h = record {
  cut_short = subst (λ (o : Option (List ℕ)). IsCutShort file.1 o (z file.0)) (same file.0) h.cut_short;
  others = λ other ne. h.others other ne ∙ same other;
}

wrote-since : (files : NamedFiles) (x y z : Held) → IsSameFiles x y → Wrote files y z → Wrote files x z
wrote-since [] x y z same h = same-then x y z same h
wrote-since (file ∷ rest) x y z same h = (h.0, holds-since file x y h.0 same h.1, h.2)

cut-since : (files : NamedFiles) (name : List ℕ) (x y z : Held) → IsSameFiles x y → CutsAt files name y z → CutsAt files name x z
cut-since [] name x y z same h = h
cut-since (file ∷ rest) name x y z same (inl h) = inl (h.0, cuts-since file x y z same h.1)
cut-since (file ∷ rest) name x y z same (inr h) = inr (h.0, holds-since file x y h.0 same h.1, h.2)

some-as-since : (files : NamedFiles) (x y z : Held) → IsSameFiles x y → WroteSome files y z → WroteSome files x z
some-as-since [] x y z same h = same-then x y z same h
some-as-since (file ∷ rest) x y z same (inl h) = inl (same-then x y z same h)
some-as-since (file ∷ rest) x y z same (inr h) = inr (h.0, holds-since file x y h.0 same h.1, h.2)

pub all_since : (files : NamedFiles) (a b c : Option Held) → Tells a b IsSameFiles → Tells b c (Wrote files) → Tells a c (Wrote files)
all_since files a b c p q = Tells-then a b c IsSameFiles (Wrote files) (Wrote files) (wrote-since files) p q

pub cut_short_since : (files : NamedFiles) (name : List ℕ) (a b c : Option Held) → Tells a b IsSameFiles → Tells b c (CutsAt files name)
    → Tells a c (CutsAt files name)
cut_short_since files name a b c p q = Tells-then a b c IsSameFiles (CutsAt files name) (CutsAt files name) (cut-since files name) p q

pub some_since : (files : NamedFiles) (a b c : Option Held) → Tells a b IsSameFiles → Tells b c (WroteSome files)
    → Tells a c (WroteSome files)
some_since files a b c p q = Tells-then a b c IsSameFiles (WroteSome files) (WroteSome files) (some-as-since files) p q
