-- Lemmas on runs of places, and on the bytes that they hold.
use Rattle.std.proofs.Common.{◌≡◌, ℕ, ◌+◌, ◌-◌, ◌≤◌, List, [], ◌∷◌, ◌++◌, map, length, take, drop, replicate, Option, Some, refl, sym, ap, ◌∙◌, arith, append_assoc, add_assoc, length-append, length-take, length-drop, take-add, take_at, drop_at}
use Rattle.std.proofs.lemmas.List.{length-map, length-replicate, map-append, take-map, drop-map, take-take, drop-take, take-replicate, drop-replicate}
use Rattle.std.proofs.lemmas.Slice.{drop-append-drop}
use Rattle.std.proofs.Math.Seq.{drop-append-add}
use Rattle.std.specs.List.{refill, length_refill}
use Rattle.bs_block.specs.Bytes.{range, padded}
use Rattle.bs_block.specs.inner.Bytes.{with_range, extended}
use Rattle.bs_block.specs.inner.Region.{somes, spliced}
use Rattle.bs_block.specs.Rounding.{rounded}
use Rattle.bs_block.proofs.Rounded.{rounded_above}

pub somes_map : (xs : List ℕ) → somes (map Some xs) ≡ xs
somes_map [] = refl
somes_map (x ∷ xs) = ap (λ l. x ∷ l) (somes_map xs)

module _ (cs : List (Option ℕ)) (at n : ℕ) (ws : List ℕ) (long : length ws ≡ n) where
  pub length-spliced : at + n ≤ length cs → length (spliced cs at n ws) ≡ length cs
  length-spliced le = let rest = drop (at + n) cs in
      omega (arith, le, long, length-append (take at cs) (map Some ws ++ rest), length-append (map Some ws) rest, length-map ws Some, length-take at cs, length-drop (at + n) cs)

  module _ (le : at ≤ length cs) where
    front : length (take at cs ++ map Some ws) ≡ at + n
    front = omega (arith, le, long, length-append (take at cs) (map Some ws), length-map ws Some, length-take at cs)

    parts : spliced cs at n ws ≡ (take at cs ++ map Some ws) ++ drop (at + n) cs
    parts = sym (append_assoc (take at cs) (map Some ws) (drop (at + n) cs))

    front_spliced : take (at + n) (spliced cs at n ws) ≡ take at cs ++ map Some ws
    front_spliced = ap (take (at + n)) parts ∙ take_at (take at cs ++ map Some ws) (drop (at + n) cs) (at + n) front

    back_spliced : (k : ℕ) → at + n ≤ k → drop k (spliced cs at n ws) ≡ drop k cs
    back_spliced k past = ap (drop k) parts ∙ drop-append-drop (at + n) cs (take at cs ++ map Some ws) k past front

    -- two runs are written, the second right after the first
    pub spliced_more : (m : ℕ) (vs : List ℕ) → spliced (spliced cs at n ws) (at + n) m vs ≡ spliced cs at (n + m) (ws ++ vs)
    spliced_more m vs = let rest = drop (at + n + m) cs in
        (λ i. front_spliced i ++ (map Some vs ++ back_spliced (at + n + m) (omega arith) i)) ∙ append_assoc (take at cs) (map Some ws) (map Some vs ++ rest)
        ∙ ap (λ l. take at cs ++ l) (sym (append_assoc (map Some ws) (map Some vs) rest) ∙ (λ i. sym (map-append Some ws vs) i ++ drop (add_assoc at n m i) cs))

    take_spliced : (len : ℕ) → at + n ≤ len → take len (spliced cs at n ws) ≡ spliced (take len cs) at n ws
    take_spliced len within =
        let k = len - (at + n) in let all : len ≡ at + n + k = omega (arith, within) in
        ap (λ m. take m (spliced cs at n ws)) all ∙ take-add (at + n) k (spliced cs at n ws)
        ∙ (λ i. front_spliced i ++ take k (back_spliced (at + n) (omega arith) i)) ∙ append_assoc (take at cs) (map Some ws) (take k (drop (at + n) cs))
        ∙ (λ i. sym (take-take at len cs (omega (arith, within))) i ++ (map Some ws ++ (sym (drop-take (at + n) k cs) ∙ ap (λ m. drop (at + n) (take m cs)) (sym all)) i))

spliced_map : (xs : List ℕ) (at n : ℕ) (ws : List ℕ) → spliced (map Some xs) at n ws ≡ map Some (take at xs ++ (ws ++ drop (at + n) xs))
spliced_map xs at n ws =
    (λ i. take-map Some at xs i ++ (map Some ws ++ drop-map Some (at + n) xs i)) ∙ ap (λ l. map Some (take at xs) ++ l) (sym (map-append Some ws (drop (at + n) xs)))
    ∙ sym (map-append Some (take at xs) (ws ++ drop (at + n) xs))

-- the first len places hold xs
module _ (cs : List (Option ℕ)) (len : ℕ) (xs : List ℕ) (holds : take len cs ≡ map Some xs) where
  -- so each run among them holds its range of xs
  pub run_within : (at n : ℕ) → at + n ≤ len → take n (drop at cs) ≡ map Some (range at n xs)
  run_within at n le =
      sym (drop-take at n cs) ∙ ap (drop at) (sym (take-take (at + n) len cs le) ∙ ap (take (at + n)) holds) ∙ drop-take at n (map Some xs)
      ∙ ap (take n) (drop-map Some at xs) ∙ take-map Some n (drop at xs)

  -- bytes are appended
  pub appended : (n : ℕ) (ws : List ℕ) → len ≤ length cs → length ws ≡ n → take (len + n) (spliced cs len n ws) ≡ map Some (xs ++ ws)
  appended n ws le long = front_spliced cs len n ws long le ∙ ap (λ l. l ++ map Some ws) holds ∙ sym (map-append Some xs ws)

  -- some of the bytes are overwritten
  pub overwritten : (at n : ℕ) (ws : List ℕ) → len ≤ length cs → at + n ≤ len → length ws ≡ n → take len (spliced cs at n ws) ≡ map Some (take at xs ++ (ws ++ drop (at + n) xs))
  overwritten at n ws le within long = take_spliced cs at n ws long (omega (arith, le, within)) len within ∙ ap (λ l. spliced l at n ws) holds ∙ spliced_map xs at n ws

-- the first n of the new zeros are overwritten
pub extended_is : (xs : List ℕ) (n : ℕ) (ws : List ℕ) → with_range (xs ++ replicate (rounded n) 0) (length xs) n ws ≡ extended xs n ws
extended_is xs n ws =
    let at = length xs in let m = rounded n in let zs = replicate m 0 in
    let run : range at n (xs ++ zs) ≡ replicate n 0 = ap (take n) (drop_at xs zs at refl) ∙ take-replicate n m 0 (rounded_above n) in
    let rest : drop (at + n) (xs ++ zs) ≡ replicate (m - n) 0 = drop-append-add xs zs n ∙ drop-replicate n m 0 in
    let new = refill n (replicate n 0) ws in let long : length new ≡ n = sym (length_refill n (replicate n 0) ws (sym (length-replicate n 0))) in
    (λ i. take_at xs zs at refl i ++ (refill n (run i) ws ++ rest i)) ∙ ap (λ k. xs ++ (new ++ replicate (rounded k - k) 0)) (sym long)

-- `ds`, a splice at `k`, is the splice at any place equal to `k`
pub spliced_at : (cs ds : List (Option ℕ)) (k at n : ℕ) (ws : List ℕ) → ds ≡ spliced cs k n ws → k ≡ at → ds ≡ spliced cs at n ws
spliced_at cs ds k at n ws is at_is = is ∙ ap (λ j. spliced cs j n ws) at_is

-- what `fill` makes of ys, which are xs and new zeros
pub extended_by : (xs ys : List ℕ) (at n : ℕ) (ws : List ℕ) → ys ≡ xs ++ replicate (rounded n) 0 → at ≡ length xs → with_range ys at n ws ≡ extended xs n ws
extended_by xs ys at n ws is at_is = (λ i. with_range (is i) (at_is i) n ws) ∙ extended_is xs n ws

pub old_by : (xs ys zs : List ℕ) (at : ℕ) → ys ≡ xs ++ zs → at ≡ length xs → take at ys ≡ xs
old_by xs ys zs at is at_is = ap (take at) is ∙ take_at xs zs at (sym at_is)

pub fresh_by : (xs ys : List ℕ) (at n : ℕ) → ys ≡ xs ++ replicate (rounded n) 0 → at ≡ length xs → range at n ys ≡ replicate n 0
fresh_by xs ys at n is at_is = ap (range at n) is ∙ ap (take n) (drop_at xs (replicate (rounded n) 0) at (sym at_is)) ∙ take-replicate n (rounded n) 0 (rounded_above n)

pub length-range : (xs : List ℕ) (at n : ℕ) → at + n ≤ length xs → length (range at n xs) ≡ n
length-range xs at n le = omega (arith, le, length-take n (drop at xs), length-drop at xs)

pub length-padded : (ws : List ℕ) → length (padded ws) ≡ rounded (length ws)
length-padded ws = let n = length ws in omega (arith, rounded_above n, length-append ws (replicate (rounded n - n) 0), length-replicate {A = ℕ} (rounded n - n) 0)
