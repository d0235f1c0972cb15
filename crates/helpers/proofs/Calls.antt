-- From the registers of a core to R14 to R19 and what lies round them, and back.
use Rattle.std.proofs.Common.{◌≡◌, ℕ, suc, ◌+◌, ◌*◌, ◌%◌, ◌^◌, ◌≤◌, List, [], ◌∷◌, ◌++◌, length, take, drop, get_or, refl}
use Rattle.std.proofs.Common.{sym, ap, ◌∙◌, subst, arith, None, length-append, length-drop}
use Rattle.std.proofs.lemmas.List.{take_at, drop_at, drop-drop, length-take-le, take-append-drop, drop-append-le, take-append-le}
use Rattle.prunum.specs.Bytes.{little_bytes, little_number}
use Rattle.corestep.specs.Core.{State}
use Rattle.corestep.specs.Fields.{bytes_at}
use Rattle.corerun.specs.Code.{Code}
use Rattle.helpers.specs.Runs.{RunsTo, here, on, Begins, Call, return_number}
use Rattle.helpers.proofs.Laid.{joined, Fours, laid, read_laid}
use Rattle.helpers.proofs.Steps.{Sized, core, registers}

-- ---- runs

counted : (code : Code) (n m : ℕ) (s t : State) → n ≡ m → RunsTo code n s t → RunsTo code m s t
counted code n m s t is runs = subst (λ (k : ℕ). RunsTo code k s t) is runs

pub then_runs : (code : Code) (n m total : ℕ) (s t u : State) → n + m ≡ total → RunsTo code n s t → RunsTo code m t u → RunsTo code total
    s u
then_runs code _ m total _ _ u is (here s) more = counted code m total s u (omega arith) more
then_runs code _ m total _ _ u is (on n s r t step rest) more =
    counted code (suc (n + m)) total s u (omega arith) (on (n + m) s r u step (then_runs code n m (n + m) r t u refl rest more))

-- ---- registers

-- four bytes of the rest
cut : (list : List ℕ) (n m : ℕ) → n + 4 ≡ m → drop n list ≡ bytes_at n 4 list ++ drop m list
cut list n m is =
    sym (take-append-drop 4 (drop n list))
    ∙ ap (λ (l : List ℕ). bytes_at n 4 list ++ l) (drop-drop 4 n list ∙ ap (λ i. drop i list) is)

four_long : (list : List ℕ) (n : ℕ) → length list ≡ 124 → n ≤ 120 → length (bytes_at n 4 list) ≡ 4
four_long list n size less = length-take-le 4 (drop n list) (omega (arith, length-drop n list))

cut_up : (list : List ℕ)
    → list ≡ take 56 list ++ (bytes_at 56 4 list ++ (bytes_at 60 4 list ++ (bytes_at 64 4 list ++ (bytes_at 68 4 list
    ++ (bytes_at 72 4 list ++ (bytes_at 76 4 list ++ drop 80 list))))))
cut_up list =
    let at = λ (n : ℕ). bytes_at n 4 list in
    sym (take-append-drop 56 list)
    ∙ ap (λ (l : List ℕ). take 56 list ++ l) (cut list 56 60 refl
    ∙ ap (λ (l : List ℕ). at 56 ++ l) (cut list 60 64 refl
    ∙ ap (λ (l : List ℕ). at 60 ++ l) (cut list 64 68 refl
    ∙ ap (λ (l : List ℕ). at 64 ++ l) (cut list 68 72 refl
    ∙ ap (λ (l : List ℕ). at 68 ++ l) (cut list 72 76 refl
    ∙ ap (λ (l : List ℕ). at 72 ++ l) (cut list 76 80 refl))))))

joined_size : (v : List (List ℕ)) (back : List ℕ) → Fours v → length (joined v back) ≡ 4 * length v + length back
joined_size [] back fours = omega arith
joined_size (x ∷ v) back fours =
    let long : length x ≡ 4 = fours.0 in
    omega (arith, length-append x (joined v back), joined_size v back fours.1)

behind_joined : (v : List (List ℕ)) (back : List ℕ) (n : ℕ) → Fours v → n ≡ 4 * length v → drop n (joined v back) ≡ back
behind_joined [] back n fours is = ap (λ i. drop i back) (let e : n ≡ 0 = omega arith in e)
behind_joined (x ∷ v) back n fours is =
    let m : ℕ = 4 * length v in
    let long : length x ≡ 4 = fours.0 in
    let whole : n ≡ 4 + m = omega arith in
    ap (λ i. drop i (x ++ joined v back)) whole ∙ sym (drop-drop m 4 (x ++ joined v back))
    ∙ ap (drop m) (drop_at x (joined v back) 4 long) ∙ behind_joined v back m fours.1 refl

returns_alike : (front rest : List ℕ) → length front ≡ 56 → return_number (front ++ rest) ≡ return_number front
returns_alike front rest size =
    let long : 14 ≤ length front = omega arith in
    let some : 2 ≤ length (drop 14 front) = omega (arith, length-drop 14 front) in
    ap (little_number 2) (ap (take 2) (drop-append-le 14 front rest long) ∙ take-append-le 2 (drop 14 front) rest some)

-- ---- calls

-- what a body does, said of R14 to R19 alone
pub record Left (code : Code) (base a b n cycles : ℕ) (front back ram x16 x17 x18 x19 : List ℕ) (size : length front ≡ 56) : Type 0 where
  pub after : List (List ℕ)
  pub sized : Sized after
  pub result : get_or after 0 [] ≡ little_bytes 4 n
  pub runs : RunsTo code cycles
      (core code front back ram size base None (little_bytes 4 a ∷ little_bytes 4 b ∷ x16 ∷ x17 ∷ x18 ∷ x19 ∷ []))
      (core code front back ram size (code.place (return_number (registers code front back ram size after) % 2 ^ 16)) None after)

pub called : (code : Code) (base a b n cycles : ℕ) (s : State) → Begins base a b s
    → ((front back ram x16 x17 x18 x19 : List ℕ) (size : length front ≡ 56) → length x16 ≡ 4 → length x17 ≡ 4 → length x18 ≡ 4
    → length x19 ≡ 4 → Left code base a b n cycles front back ram x16 x17 x18 x19 size)
    → Call code cycles s n
called code base a b n cycles s begins runs =
    let list : List ℕ = s.registers in
    let front : List ℕ = take 56 list in
    let back : List ℕ = drop 80 list in
    let full : length list ≡ 124 = begins.size in
    let size : length front ≡ 56 = length-take-le 56 list (omega arith) in
    let x = λ (i : ℕ). bytes_at i 4 list in
    let did : Left code base a b n cycles front back s.ram (x 64) (x 68) (x 72) (x 76) size =
    runs front back s.ram (x 64) (x 68) (x 72) (x 76) size (four_long list 64 full (omega arith)) (four_long list 68 full (omega arith))
    (four_long list 72 full (omega arith)) (four_long list 76 full (omega arith)) in
    let before : List (List ℕ) = little_bytes 4 a ∷ little_bytes 4 b ∷ x 64 ∷ x 68 ∷ x 72 ∷ x 76 ∷ [] in
    let same : list ≡ laid front back size before =
    cut_up list
    ∙ ap (λ (l : List ℕ). front ++ (l ++ (x 60 ++ (x 64 ++ (x 68 ++ (x 72 ++ (x 76 ++ back))))))) begins.first
    ∙ ap (λ (l : List ℕ). front ++ (little_bytes 4 a ++ (l ++ (x 64 ++ (x 68 ++ (x 72 ++ (x 76 ++ back))))))) begins.second in
    let from : State = core code front back s.ram size base None before in
    let state : from ≡ s =
    ap (λ (p : ℕ). record { pc = p; turning = None; registers = laid front back size before; ram = s.ram }) (sym begins.place)
    ∙ ap (λ (t : _). record { pc = s.pc; turning = t; registers = laid front back size before; ram = s.ram }) (sym begins.no_loop)
    ∙ ap (λ (l : List ℕ). record { pc = s.pc; turning = s.turning; registers = l; ram = s.ram }) (sym same) in
    let after : List ℕ = laid front back size did.after in
    let to : State = core code front back s.ram size (code.place (return_number after % 2 ^ 16)) None did.after in
    let count : length did.after ≡ 6 = did.sized.count in
    let rest : List ℕ = joined did.after back in
    record {
      after = to;
      runs = subst (λ (t : State). RunsTo code cycles t to) state did.runs;
      returns = record {
        place = ap (λ (i : ℕ). code.place (i % 2 ^ 16)) (returns_alike front rest size ∙ sym (returns_alike front (drop 56 list) size)
            ∙ ap return_number (take-append-drop 56 list));
        no_loop = refl {a = None};
        result = read_laid front back size did.after 0 56 refl (omega arith) did.sized.fours ∙ did.result;
        size = omega (arith, length-append front rest, joined_size did.after back did.sized.fours, length-drop 80 list);
        below = take_at front rest 56 size;
        above = sym (drop-drop 24 56 after) ∙ ap (drop 24) (drop_at front rest 56 size)
            ∙ behind_joined did.after back 24 did.sized.fours (omega arith);
        ram = refl {a = s.ram};
      };
    }
