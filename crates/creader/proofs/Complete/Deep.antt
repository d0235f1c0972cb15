-- What is known of all parts of a tree.
use Rattle.cgrammar.specs.Text.{Written, leaf, node, Forest, none, more}
use Rattle.creader.proofs.Complete.Heads.{Known, AllKnown}

unfoldable mutual
  pub Deep : Written → Type 0
  Deep (leaf _) = Unit {0}
  Deep (node p f) = Known (node p f) × Deeps f

  pub Deeps : Forest → Type 0
  Deeps none = Unit {0}
  Deeps (more w f) = Deep w × Deeps f

-- what is known of a tree is known of it and of its parts
pub deep-known : (w : Written) → Deep w → Known w
unfolding Deep Known
deep-known (leaf _) d = tt
deep-known (node p f) d = d.0

pub deeps-known : (f : Forest) → Deeps f → AllKnown f
unfolding Deep AllKnown
deeps-known none d = tt
deeps-known (more w f) d = (deep-known w d.0, deeps-known f d.1)

-- the same of the parts alone
unfoldable pub Below : Written → Type 0
Below (leaf _) = Unit {0}
Below (node p f) = Deeps f

pub deep-below : (w : Written) → Deep w → Below w
unfolding Deep Below
deep-below (leaf _) d = tt
deep-below (node p f) d = d.1
