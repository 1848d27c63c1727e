-- A plane in which one byte is written.
use Rattle.std.proofs.Common.{◌≡◌, ℕ, ◌+◌, ◌%◌, true, false, cond, List, set, get_or, refl, sym, ap, ◌∙◌, arith, inl, inr, length-set}
use Rattle.std.proofs.lemmas.Bool.{cases_Bool}
use Rattle.std.proofs.lemmas.List.{get_or-set_same, get_or-set_other}
use Rattle.bs_board.specs.declared.boards.point.Point.{Point}
use Rattle.bs_board.specs.boards.Cell.{is_same_cell}
use Rattle.bs_board.specs.boards.Legal.{is_near}
use Rattle.bs_rules.proofs.CollisionTest.{same_cell}
use Rattle.bs_batch.specs.Numbers.{number_of}
use Rattle.bs_batch.specs.Counts.{CountsLess, CountsMore, HasBytes, WritesFood, and_one}
use Rattle.bs_batch.proofs.Numbers.{number_fits, one_number}

pub same_bytes : (width height : ℕ) (f g : Point → ℕ) (plane : List ℕ) → ((p : Point) → is_near width height p ≡ true → f p ≡ g p)
    → HasBytes width height f plane → HasBytes width height g plane
same_bytes width height f g plane e old =
    let narrow = old.narrow in
    let room = old.room in
    record { narrow = narrow; room = room; bytes = λ p near. old.bytes p near ∙ e p near }

-- the plane after a write at the number of a cell, where the bytes of the other cells stay
pub after_write : (width height : ℕ) (f g : Point → ℕ) (plane : List ℕ) (cell : Point) (n byte : ℕ) → is_near width height cell ≡ true
    → n ≡ number_of cell → HasBytes width height f plane → byte ≡ g cell
    → ((p : Point) → is_same_cell p cell ≡ false → g p ≡ f p)
    → HasBytes width height g (set plane n byte)
after_write width height f g plane cell n byte near is old here elsewhere =
    let narrow = old.narrow in
    let room = old.room in
    let fits = number_fits width height cell narrow near in
    let kept = length-set plane n byte in
    record {
      narrow = narrow;
      room = omega arith;
      bytes = λ p near_p. elim (cases_Bool (is_same_cell p cell)) [
        | inl same ↦
            let e : p ≡ cell = (same_cell p cell).0 same in
            let now = get_or-set_same plane n byte 0 (omega arith) in
            rw (e, ← is) (now ∙ here)
        | inr other ↦
            let apart : number_of p ≡ n → ⊥ = λ e. let one = one_number width height p cell narrow near_p near (e ∙ is) in let same = (same_cell p cell).1 one in cc in
            get_or-set_other plane n (number_of p) byte 0 apart ∙ old.bytes p near_p ∙ sym (elsewhere p other)
      ];
    }

one_here : (byte : Point → ℕ) (p : Point) → and_one byte p p ≡ byte p + 1
one_here byte p = let itself : is_same_cell p p ≡ true = (same_cell p p).1 refl in rw itself refl

none_there : (byte : Point → ℕ) (p q : Point) → is_same_cell q p ≡ false → and_one byte p q ≡ byte q
none_there byte p q other = rw other (omega arith)

pub counts_more : (cell : ℕ) (plane new : List ℕ) (count before : ℕ) → before ≡ get_or plane cell 0 → new ≡ set plane cell count → count ≡ (before + 1) % 256
    → CountsMore cell plane new
counts_more cell plane new count before at written e width height byte p near is few old =
    let more = one_here byte p in
    let was : get_or plane cell 0 ≡ byte p = rw is (old.bytes p near) in
    rw written (after_write width height byte (and_one byte p) plane p cell count near is old (omega arith) (none_there byte p))

pub counts_less : (cell : ℕ) (plane new : List ℕ) (count before : ℕ) → before ≡ get_or plane cell 0 → new ≡ set plane cell count → count ≡ (before + 255) % 256
    → CountsLess cell plane new
counts_less cell plane new count before at written e width height byte p near is few old =
    let more = one_here byte p in
    let was : get_or plane cell 0 ≡ and_one byte p p = rw is (old.bytes p near) in
    rw written (after_write width height (and_one byte p) byte plane p cell count near is old (omega arith) (λ q other. sym (none_there byte p q other)))

pub writes_food : (food cell : ℕ) (plane new : List ℕ) (count before : ℕ) → before ≡ get_or plane cell 0 → new ≡ set plane cell count → count ≡ before % 128 + food
    → WritesFood food cell plane new
writes_food food cell plane new count before at written e width height byte p near is old =
    let was : get_or plane cell 0 ≡ byte p = rw is (old.bytes p near) in
    let itself : is_same_cell p p ≡ true = (same_cell p p).1 refl in
    let now : count ≡ byte p % 128 + food = e ∙ ap (λ n. n % 128 + food) (at ∙ was) in
    rw written (after_write width height byte (λ q. cond (is_same_cell q p) (byte q % 128 + food) (byte q)) plane p cell count near is old (rw itself now) (λ q other. rw other refl))
