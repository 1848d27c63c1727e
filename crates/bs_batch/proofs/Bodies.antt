-- The parts of a body that leave the plane one by one.
use Rattle.std.proofs.Common.{◌≡◌, ℕ, zero, suc, ◌+◌, ◌<◌, ◌≤◌, true, cond, List, [], ◌∷◌, length, drop, get_or, All, count_by, refl, ap, ◌∙◌, arith, add-one}
use Rattle.std.proofs.lemmas.List.{get_or-map, length-map}
use Rattle.std.proofs.lemmas.List.Elements.{All-get_or}
use Rattle.std.proofs.lemmas.List.Sums.{sum_by-cons}
use Rattle.bs_board.specs.declared.boards.point.Point.{Point}
use Rattle.bs_board.specs.boards.Cell.{is_same_cell, origin}
use Rattle.bs_board.specs.boards.Legal.{is_near}
use Rattle.bs_rules.proofs.CollisionTest.{same_cell}
use Rattle.bs_batch.specs.Numbers.{number_of, numbers_of}
use Rattle.bs_batch.specs.Counts.{CountsLess, CountsNone, HasBytes, and_one}
use Rattle.bs_batch.proofs.Bytes.{same_bytes}

-- of a body, the parts from that index on are still counted
abbrev pub with_parts : (Point → ℕ) → ℕ → List Point → Point → ℕ
with_parts byte index parts p = byte p + count_by (is_same_cell p) (drop index parts)

abbrev pub GoneSoFar : List ℕ → ℕ → List ℕ → List ℕ → Type 0
GoneSoFar body index old now =
    (width height : ℕ) (byte : Point → ℕ) (parts : List Point) → All (λ p. is_near width height p ≡ true) parts → body ≡ numbers_of parts
    → ((p : Point) → byte p + count_by (is_same_cell p) parts < 256)
    → HasBytes width height (with_parts byte 0 parts) old → HasBytes width height (with_parts byte index parts) now

pub none_yet : (body old : List ℕ) → GoneSoFar body 0 old old
none_yet body old width height byte parts near is few has = has

-- the next part is counted apart from the later ones
next_apart : (index : ℕ) (parts : List Point) (p : Point) → index < length parts
    → count_by (is_same_cell p) (drop index parts) ≡ cond (is_same_cell p (get_or parts index origin)) 1 0 + count_by (is_same_cell p) (drop (suc index) parts)
next_apart index [] p within = absurd (omega arith)
next_apart zero (x ∷ xs) p within = sum_by-cons (λ q. cond (is_same_cell p q) 1 0) x xs
next_apart (suc index) (x ∷ xs) p within = next_apart index xs p (omega arith)

fewer : (index : ℕ) (parts : List Point) (p : Point) → count_by (is_same_cell p) (drop index parts) ≤ count_by (is_same_cell p) parts
fewer zero parts p = omega arith
fewer (suc index) [] p = omega arith
fewer (suc index) (x ∷ xs) p =
    let rest = fewer index xs p in
    let more = sum_by-cons (λ q. cond {A = ℕ} (is_same_cell p q) 1 0) x xs in
    let more' : count_by (is_same_cell p) (x ∷ xs) ≡ cond (is_same_cell p x) 1 0 + count_by (is_same_cell p) xs = more in
    omega arith

pub one_gone : (body : List ℕ) (index cell : ℕ) (old now new : List ℕ) → index < length body → cell ≡ get_or body index 0 → GoneSoFar body index old now
    → CountsLess cell now new → GoneSoFar body (index + 1) old new
one_gone body index cell old now new within at so_far less width height byte parts near is few has =
    let long : length body ≡ length parts = ap length is ∙ length-map parts number_of in
    let part = get_or parts index origin in
    let number : cell ≡ number_of part = at ∙ ap (λ b. get_or b index 0) is ∙ get_or-map number_of parts index origin 0 (omega arith) in
    let here = All-get_or (λ p. is_near width height p ≡ true) parts index origin (omega arith) near in
    let before = so_far width height byte parts near is few has in
    let split : (p : Point) → with_parts byte index parts p ≡ and_one (with_parts byte (suc index) parts) part p =
    λ p. let apart = next_apart index parts p (omega arith) in omega arith in
    let itself = (same_cell part part).1 refl in
    let total = few part in
    let one : and_one (with_parts byte (suc index) parts) part part ≡ with_parts byte (suc index) parts part + 1 = rw itself refl in
    let part_count = fewer (suc index) parts part in
    let all = split part in
    let whole = fewer index parts part in
    let low : with_parts byte (suc index) parts part < 255 = omega arith in
    rw add-one (less width height (with_parts byte (suc index) parts) part here number low
    (same_bytes width height (with_parts byte index parts) (and_one (with_parts byte (suc index) parts) part) now (λ p _. split p) before))

past_end : (parts : List Point) (p : Point) (index : ℕ) → length parts ≤ index → count_by (is_same_cell p) (drop index parts) ≡ 0
past_end [] p zero long = refl
past_end [] p (suc index) long = refl
past_end (x ∷ xs) p zero long = absurd (omega arith)
past_end (x ∷ xs) p (suc index) long = past_end xs p index (omega arith)

pub all_gone : (body : List ℕ) (index : ℕ) (old now : List ℕ) → length body ≤ index → GoneSoFar body index old now → CountsNone body old now
all_gone body index old now long so_far width height byte parts near is few has =
    let count : length body ≡ length parts = ap length is ∙ length-map parts number_of in
    same_bytes width height (with_parts byte index parts) byte now (λ p _. let none = past_end parts p index (omega arith) in omega arith)
    (so_far width height byte parts near is few has)
