-- Bytes of a list, behind a write of some of them.
use Rattle.std.proofs.Common.{◌≡◌, ℕ, ◌+◌, ◌-◌, ◌*◌, ◌%◌, ◌^◌, ◌≤◌, List, ◌++◌, length, take, drop, refl, sym, ap, ◌∙◌, arith}
use Rattle.std.proofs.Common.{length-append, length-drop}
use Rattle.std.proofs.lemmas.List.{take_at, drop_at, drop-drop, length-take-le, take-append-drop, drop-append-le, take-append-le}
use Rattle.std.proofs.Math.Seq.{drop-append-add}
use Rattle.prunum.specs.Bytes.{little_bytes, little_number}
use Rattle.prunum.specs.Width.{byte_count}
use Rattle.prunum.specs.declared.width.Width.{Width}
use Rattle.prunum.specs.declared.width.Width.TheVariants.{B1, B2, B4}
use Rattle.corestep.specs.Fields.{bytes_at, with_bytes}

-- ---- ranges of a list in two parts

in_front : (front rest : List ℕ) (a len : ℕ) → a + len ≤ length front → bytes_at a len (front ++ rest) ≡ bytes_at a len front
in_front front rest a len less =
    ap (take len) (drop-append-le a front rest (omega arith))
    ∙ take-append-le len (drop a front) rest (omega (arith, length-drop a front))

past : (front rest : List ℕ) (a m len : ℕ) → a ≡ length front + m → bytes_at a len (front ++ rest) ≡ bytes_at m len rest
past front rest a m len is = ap (λ i. take len (drop i (front ++ rest))) is ∙ ap (take len) (drop-append-add front rest m)

module _ (at : ℕ) (bytes list : List ℕ) (within : at + length bytes ≤ length list) where
  front_size : length (take at list) ≡ at
  front_size = length-take-le at list (omega arith)

  pub with_size : length (with_bytes at bytes list) ≡ length list
  with_size =
      let rest : List ℕ = drop (at + length bytes) list in
      omega (
        arith,
        front_size,
        length-append (take at list) (bytes ++ rest),
        length-append bytes rest,
        length-drop (at + length bytes) list,
      )

  pub read_same : bytes_at at (length bytes) (with_bytes at bytes list) ≡ bytes
  read_same =
      let rest : List ℕ = drop (at + length bytes) list in
      ap (take (length bytes)) (drop_at (take at list) (bytes ++ rest) at front_size) ∙ take_at bytes rest (length bytes) refl

  pub read_below : (a len : ℕ) → a + len ≤ at → bytes_at a len (with_bytes at bytes list) ≡ bytes_at a len list
  read_below a len less =
      let front : List ℕ = take at list in
      let size : length front ≡ at = front_size in
      in_front front (bytes ++ drop (at + length bytes) list) a len (omega arith)
      ∙ sym (in_front front (drop at list) a len (omega arith))
      ∙ ap (bytes_at a len) (take-append-drop at list)

  pub read_above : (a len : ℕ) → at + length bytes ≤ a → bytes_at a len (with_bytes at bytes list) ≡ bytes_at a len list
  read_above a len less =
      let front : List ℕ = take at list in
      let size : length front ≡ at = front_size in
      let m : ℕ = a - (at + length bytes) in
      let rest : List ℕ = drop (at + length bytes) list in
      past front (bytes ++ rest) a (length bytes + m) len (omega arith)
      ∙ past bytes rest (length bytes + m) m len refl
      ∙ ap (take len) (drop-drop m (at + length bytes) list ∙ ap (λ i. drop i list) (let e : at + length bytes + m ≡ a = omega arith in e))

-- ---- numbers

pub little_size : (w : Width) (n : ℕ) → length (little_bytes (byte_count w) n) ≡ byte_count w
little_size B1 n = refl
little_size B2 n = refl
little_size B4 n = refl

pub read_back : (w : Width) (n : ℕ) → little_number (byte_count w) (little_bytes (byte_count w) n) ≡ n % 2 ^ (8 * byte_count w)
read_back B1 n = omega arith
read_back B2 n = omega arith
read_back B4 n = omega arith
