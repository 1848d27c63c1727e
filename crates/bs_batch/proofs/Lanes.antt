-- The first lanes of a mask.
use Rattle.std.proofs.Common.{◌≡◌, ℕ, zero, suc, ◌+◌, ◌-◌, ◌*◌, ◌%◌, ◌^◌, ◌≤◌, Bool, cond, eqb, List, [], ◌∷◌, length, take, drop, map, replicate, count_by, ap, ◌∙◌, arith, length-take, w8}
use Rattle.std.specs.List.{take-map}
use Rattle.std.specs.Int.RustNames.{count_ones}
use Rattle.std.proofs.Math.Nat.{add-mul-mod_self_left}
use Rattle.std.proofs.lemmas.List.{take-take}
use Rattle.std.proofs.lemmas.Nat.{one_shl, pow-add}
use Rattle.std.proofs.lemmas.Simd.{bitmask_splat, mask_l-mod, ones-mask_l}
use Rattle.bs_batch.specs.inner.FreeCells.{is_zero}
use lib.Lanes.{mask_l, top, zip2}
use mir.Val.{bits, hbits}

mask_split : (w : ℕ) (ms : List Bool) → mask_l ms ≡ mask_l (take w ms) + 2 ^ w * mask_l (drop w ms)
mask_split zero ms = omega arith
mask_split (suc w) [] = omega arith
mask_split (suc w) (m ∷ ms) =
    let rest = mask_split w ms in
    let one : suc w ≡ 1 + w = omega arith in
    let power : 2 ^ suc w ≡ 2 * 2 ^ w = ap (λ n. 2 ^ n) one ∙ pow-add 2 1 w in
    let twice : 2 ^ suc w * mask_l (drop w ms) ≡ 2 * (2 ^ w * mask_l (drop w ms)) = rw power (grind arith) in
    omega arith

low_mask : (w : ℕ) (ms : List Bool) → mask_l ms % 2 ^ w ≡ mask_l (take w ms)
low_mask w ms =
    ap (λ n. n % 2 ^ w) (mask_split w ms) ∙ add-mul-mod_self_left (mask_l (take w ms)) (2 ^ w) (mask_l (drop w ms))
    ∙ mask_l-mod (take w ms) w (omega (arith, length-take w ms))

-- the zeros of a mask's first lanes
low_zeros : (w : ℕ) (xs : List ℕ) → count_ones (mask_l (map is_zero xs) % 2 ^ w) ≡ count_by is_zero (take w xs)
low_zeros w xs = ap count_ones (low_mask w (map is_zero xs) ∙ ap mask_l (take-map is_zero w xs)) ∙ ones-mask_l is_zero (take w xs)

-- the mask of a comparison with 0, modulo 2 to the width
pub lane_zeros : (lanes : List ℕ) (width : ℕ) → 32 ≤ length lanes → width ≤ 25
    → count_ones (mask_l (map (top (hbits w8)) (zip2 (λ a b. cond (eqb a b) (2 ^ bits w8 - 1) 0) (take 32 lanes) (replicate 32 0))) % 2 ^ 64 % (1 * 2 ^ width % 2 ^ 64))
    ≡ count_by is_zero (take width lanes)
lane_zeros lanes width whole narrow =
    let long : length (take 32 lanes) ≡ 32 = omega (arith, length-take 32 lanes, whole) in
    ap (λ n. count_ones (n % (1 * 2 ^ width % 2 ^ 64))) (bitmask_splat w8 eqb (take 32 lanes) 32 0 long (omega arith))
    ∙ ap (λ n. count_ones (mask_l (map is_zero (take 32 lanes)) % n)) (one_shl width 64 (omega arith)) ∙ low_zeros width (take 32 lanes)
    ∙ ap (count_by is_zero) (take-take width 32 lanes (omega arith))
