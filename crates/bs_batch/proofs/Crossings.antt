-- A turn adds no crossing to a body that lives on.
use Rattle.std.proofs.Common.{◌≡◌, ℕ, ◌+◌, ◌-◌, ◌≤◌, ◌⊎◌, Bool, true, false, cond, not, ◌&&◌, List, [], ◌∷◌, ◌++◌, length, take, drop, get_or, count_by, Contains, refl, sym, ap, ◌∙◌, arith, inl, inr, leb, length-take}
use Rattle.std.proofs.lemmas.Bool.{cases_Bool, cond_both}
use Rattle.std.proofs.lemmas.List.Folds.{list_any-append}
use Rattle.std.proofs.lemmas.List.{get_or_append_left, get_or-append_right, length_push, take_at}
use Rattle.std.proofs.lemmas.List.Sums.{sum_by-cons, sum_by-le-sum_by, sum_by-take-le}
use Rattle.bs_board.specs.declared.boards.point.Point.{Point}
use Rattle.bs_board.specs.boards.Cell.{head_of, is_same_cell, origin}
use Rattle.bs_food.specs.Free.{all_cells}
use Rattle.bs_modes.specs.Growth.{grown_body, is_stretched, part_from_end}
use Rattle.bs_rules.specs.Feeding.{last_of}
use Rattle.bs_rules.proofs.CollisionTest.{has_cell, same_cell}
use Rattle.bs_batch.specs.Lasting.{crossings, parts_before_last}

-- the parts that are left after a motion
abbrev pub front_of : List Point → List Point
front_of body = take (length body - 1) body

-- a head in front of the parts that are left, and the last part once more
abbrev pub repeats_last : List Point → List Point
repeats_last body = body ++ last_of body ∷ []

-- a body one step further: a new head in front of the parts that are left, and perhaps the last part
-- once more
abbrev pub Advances : List Point → Point → List Point → Type 0
Advances old head new = (new ≡ head ∷ front_of old) ⊎ (new ≡ repeats_last (head ∷ front_of old))

pub none_counted : (cells : List Point) (p : Point) → (Contains cells p → ⊥) → count_by (is_same_cell p) cells ≡ 0
none_counted [] p none = refl
none_counted (q ∷ cells) p none =
    let all = sum_by-cons (λ r. cond {A = ℕ} (is_same_cell p r) 1 0) q cells in
    elim (cases_Bool (is_same_cell p q)) [
      | inl here ↦ absurd (none ((has_cell (q ∷ cells) p).0 (rw here refl)))
      | inr other ↦
          let rest = none_counted cells p (λ there. none ((has_cell (q ∷ cells) p).0 (rw other ((has_cell cells p).1 there)))) in
          let zero : cond {A = ℕ} (is_same_cell p q) 1 0 ≡ 0 = rw other refl in
          omega arith
    ]

-- all parts but the last
before_push : (body : List Point) (x p : Point) → parts_before_last p (body ++ x ∷ []) ≡ count_by (is_same_cell p) body
before_push body x p =
    let count = length_push body x in
    let same : length (body ++ x ∷ []) - 1 ≡ length body = omega arith in
    ap (λ n. count_by (is_same_cell p) (take n (body ++ x ∷ []))) same ∙ ap (count_by (is_same_cell p)) (take_at body (x ∷ []) (length body) refl)

before_all : (body : List Point) (p : Point) → parts_before_last p body ≤ count_by (is_same_cell p) body
before_all body p = sum_by-take-le (λ r. cond {A = ℕ} (is_same_cell p r) 1 0) body (length body - 1)

advanced_parts : (old : List Point) (head : Point) (new : List Point) (p : Point) → Advances old head new
    → parts_before_last p new ≤ count_by (is_same_cell p) (head ∷ front_of old)
advanced_parts old head new p (inl is) = rw is (before_all (head ∷ front_of old) p)
advanced_parts old head new p (inr is) = let e = before_push (head ∷ front_of old) (last_of (head ∷ front_of old)) p in rw is (omega arith)

-- a head that is on none of the parts that are left
pub no_more_crossings : (width height : ℕ) (old : List Point) (head : Point) (new : List Point) → Advances old head new → (Contains (front_of old) head → ⊥)
    → crossings width height new ≤ crossings width height old
no_more_crossings width height old head new goes free =
    sum_by-le-sum_by (λ p. parts_before_last p new - 1) (λ p. parts_before_last p old - 1) (all_cells width height)
    (λ p.
    let few = advanced_parts old head new p goes in
    let all = sum_by-cons (λ r. cond {A = ℕ} (is_same_cell p r) 1 0) head (front_of old) in
    elim (cases_Bool (is_same_cell p head)) [
      | inl here ↦
          let same : p ≡ head = (same_cell p head).0 here in
          let none : count_by (is_same_cell p) (front_of old) ≡ 0 = rw same (none_counted (front_of old) head free) in
          let one : cond {A = ℕ} (is_same_cell p head) 1 0 ≡ 1 = rw here refl in
          omega arith
      | inr other ↦ let zero : cond {A = ℕ} (is_same_cell p head) 1 0 ≡ 0 = rw other refl in omega arith
    ])

contains_append : (xs ys : List Point) (p : Point) → Contains xs p → Contains (xs ++ ys) p
contains_append xs ys p there =
    let first = (has_cell xs p).1 there in
    (has_cell (xs ++ ys) p).0 (list_any-append (is_same_cell p) xs ys ∙ rw first refl)

-- the parts that are left stand behind the new head
pub behind_head : (old : List Point) (head : Point) (new : List Point) → Advances old head new → Contains (front_of old) head → Contains (drop 1 new) (head_of new)
behind_head old head new (inl is) there = rw is there
behind_head old head new (inr is) there = rw is (contains_append (front_of old) (last_of (head ∷ front_of old) ∷ []) head there)

both_false : (a : Bool) → (a && false) ≡ false
both_false true = refl
both_false false = refl

-- a body that has just repeated its last part does not grow
fed_is_short : (body : List Point) → 1 ≤ length body → is_stretched (repeats_last body) ≡ false
fed_is_short body some =
    let new = repeats_last body in
    let count = length_push body (last_of body) in
    let none : length body - length body ≡ 0 = omega arith in
    let one : length new - 1 ≡ length body = omega arith in
    let two : length new - 2 ≡ length body - 1 = omega arith in
    let last : part_from_end 1 new ≡ last_of body =
    ap (λ n. get_or new n origin) one ∙ get_or-append_right body (last_of body ∷ []) (length body) (length body) origin refl (omega arith)
    ∙ ap (λ n. get_or (last_of body ∷ []) n origin) none in
    let before : part_from_end 2 new ≡ last_of body =
    ap (λ n. get_or new n origin) two ∙ get_or_append_left body (last_of body ∷ []) origin (length body - 1) (omega arith) in
    let same : is_same_cell (part_from_end 1 new) (part_from_end 2 new) ≡ true = (same_cell (part_from_end 1 new) (part_from_end 2 new)).1 (last ∙ sym before) in
    ap (λ s. leb 2 (length new) && not s) same ∙ both_false (leb 2 (length new))

-- growth is a step further too
pub advances_grown : (old : List Point) (head : Point) (new : List Point) → Advances old head new → Advances old head (grown_body new)
unfolding grown_body
advances_grown old head new (inl is) =
    cond_both (is_stretched new) (new ++ part_from_end 1 new ∷ []) new (λ body. Advances old head body)
    (λ _. inr (ap repeats_last is)) (λ _. inl is)
advances_grown old head new (inr is) =
    let short : is_stretched new ≡ false = ap is_stretched is ∙ fed_is_short (head ∷ front_of old) (omega arith) in
    rw short (inr is)

-- the length of a body that is one step further
pub advanced_length : (old : List Point) (head : Point) (new : List Point) → 1 ≤ length old → Advances old head new → length new ≤ length old + 1
advanced_length old head new some (inl is) = let n = ap length is in let k = length-take (length old - 1) old in omega arith
advanced_length old head new some (inr is) =
    let n = ap length is in
    let k = length-take (length old - 1) old in
    let m = length_push (head ∷ front_of old) (last_of (head ∷ front_of old)) in
    omega arith
