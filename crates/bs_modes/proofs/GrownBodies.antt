-- The body of a snake after it has grown.
use Rattle.std.proofs.Common.{◌≡◌, ◌+◌, ◌-◌, ◌<◌, ◌≤◌, zero, suc, List, [], ◌∷◌, ◌++◌, length, get_or, drop, All, refl, arith, length-append}
use Rattle.std.proofs.lemmas.Bool.{cond_both}
use Rattle.bs_board.specs.declared.boards.point.Point.{Point}
use Rattle.bs_board.specs.boards.Cell.{origin, head_of}
use Rattle.bs_modes.specs.Growth.{grown_body, is_stretched, part_from_end}

-- by at most one part
pub grown_at_most_one : (body : List Point) → length (grown_body body) ≤ length body + 1
unfolding grown_body
grown_at_most_one body =
    let longer = length-append body (part_from_end 1 body ∷ []) in
    cond_both (is_stretched body) (body ++ part_from_end 1 body ∷ []) body (λ b. length b ≤ length body + 1) (λ _. omega arith) (λ _. omega arith)

-- no part is lost
pub grown_keeps_length : (body : List Point) → length body ≤ length (grown_body body)
unfolding grown_body
grown_keeps_length body =
    let longer = length-append body (part_from_end 1 body ∷ []) in
    cond_both (is_stretched body) (body ++ part_from_end 1 body ∷ []) body (λ b. length body ≤ length b) (λ _. omega arith) (λ _. omega arith)

head_of-append : (body tail : List Point) → 0 < length body → head_of (body ++ tail) ≡ head_of body
head_of-append [] tail some = absurd (omega arith)
head_of-append (p ∷ body) tail some = refl

pub grown_keeps_head : (body : List Point) → 0 < length body → head_of (grown_body body) ≡ head_of body
unfolding grown_body
grown_keeps_head body some =
    cond_both (is_stretched body) (body ++ part_from_end 1 body ∷ []) body (λ b. head_of b ≡ head_of body)
    (λ _. head_of-append body _ some) (λ _. refl)

-- one more element of which P holds
all_and_last : (P : Point → Type 0) (xs : List Point) (x : Point) → All P xs → P x → All P (xs ++ x ∷ [])
all_and_last P [] x all here zero d within = here
all_and_last P [] x all here (suc k) d within = absurd (omega arith)
all_and_last P (y ∷ ys) x all here zero d within = all 0 d (omega arith)
all_and_last P (y ∷ ys) x all here (suc k) d within =
    all_and_last P ys x (λ i e b. all (suc i) e (omega arith)) here k d (omega arith)

-- the part that is repeated comes after the head
pub grown_stays_inside : (P : Point → Type 0) (body : List Point) → 2 ≤ length body → All P (drop 1 body) → All P (drop 1 (grown_body body))
unfolding grown_body
grown_stays_inside P [] long all = absurd (omega arith)
grown_stays_inside P (p ∷ rest) long all =
    let behind : length rest - 1 < length rest = omega arith in
    let place : length (p ∷ rest) - 1 ≡ suc (length rest - 1) = omega arith in
    let same : part_from_end 1 (p ∷ rest) ≡ get_or rest (length rest - 1) origin = rw place refl in
    let here : P (part_from_end 1 (p ∷ rest)) = rw same (all (length rest - 1) origin behind) in
    let more = all_and_last P rest (part_from_end 1 (p ∷ rest)) all here in
    cond_both (is_stretched (p ∷ rest)) ((p ∷ rest) ++ part_from_end 1 (p ∷ rest) ∷ []) (p ∷ rest)
    (λ b. All P (drop 1 b)) (λ _. more) (λ _. all)
