-- Straight on, by numbers.
use Rattle.std.specs.Prelude.{nat_le}
use Rattle.std.proofs.Common.{◌≡◌, ℕ, ◌<◌, Bool, true, false, cond, List, ◌∷◌, refl, sym, ap, ◌∙◌, arith, inl, inr, eqb}
use Rattle.std.proofs.lemmas.Bool.{cases_Bool, eqb-true, eq-eqb, false≢true, leb-true}
use Rattle.bs_board.specs.declared.boards.point.Point.{Point}
use Rattle.bs_board.specs.declared.boards.point.Direction.{Direction}
use Rattle.bs_board.specs.declared.boards.point.Direction.TheVariants.{Up, Down, Left, Right}
use Rattle.bs_board.specs.boards.Cell.{is_same_cell}
use Rattle.bs_rules.proofs.CollisionTest.{same_cell}
use Rattle.bs_rules.specs.Motion.{neighbor, onward}
use Rattle.bs_batch.specs.declared.layout.Settings.{Settings}
use Rattle.bs_batch.specs.Numbers.{HasSides, IsOn, number_of, sides_of}
use Rattle.bs_batch.specs.inner.Steps.{GoesOn, StepsCell, TakesDirection}
use Rattle.bs_batch.proofs.Neighbors.{near_neighbor, near_on}
use Rattle.bs_batch.proofs.Numbers.{one_number}

-- the test of numbers is that of cells
test_is : (s : Settings) (t h : Point) (d : Direction) (b : Bool) → HasSides s → IsOn s h → IsOn s t
    → eqb (number_of (neighbor (sides_of s) t d)) (number_of h) ≡ b → is_same_cell (neighbor (sides_of s) t d) h ≡ b
test_is s t h d true sides on_h on_t e =
    (same_cell (neighbor (sides_of s) t d) h).1
    (one_number s.width s.height (neighbor (sides_of s) t d) h sides.narrow (near_neighbor s t d sides on_t) (near_on s h on_h) (eqb-true _ _ e))
test_is s t h d false sides on_h on_t e =
    elim (cases_Bool (is_same_cell (neighbor (sides_of s) t d) h)) [
      | inl is ↦
          let cell : neighbor (sides_of s) t d ≡ h = (same_cell (neighbor (sides_of s) t d) h).0 is in
          let numbers : number_of (neighbor (sides_of s) t d) ≡ number_of h = ap number_of cell in
          absurd (false≢true (sym e ∙ eq-eqb _ _ numbers))
      | inr apart ↦ apart
    ]

onward_by : (s : Settings) (t h : Point) (rest : List Point) (a b c : Bool) → is_same_cell (neighbor (sides_of s) t Down) h ≡ a
    → is_same_cell (neighbor (sides_of s) t Left) h ≡ b → is_same_cell (neighbor (sides_of s) t Right) h ≡ c
    → onward (sides_of s) (h ∷ t ∷ rest) ≡ cond a Down (cond b Left (cond c Right Up))
onward_by s t h rest true b c d l r = rw d refl
onward_by s t h rest false true c d l r = rw (d, l) refl
onward_by s t h rest false false true d l r = rw (d, l, r) refl
onward_by s t h rest false false false d l r =
    rw (d, l, r) (elim (cases_Bool (is_same_cell (neighbor (sides_of s) t Up) h)) [ inl is ↦ rw is refl | inr apart ↦ rw apart refl ])

-- a step that reaches the head, and one that does not
reaches : (s : Settings) (t h : Point) (d : Direction) (next head : ℕ) → HasSides s → IsOn s h → IsOn s t → next ≡ number_of (neighbor (sides_of s) t d) → head ≡ number_of h
    → next ≡ head → is_same_cell (neighbor (sides_of s) t d) h ≡ true
reaches s t h d next head sides on_h on_t is_next is_head e = test_is s t h d true sides on_h on_t (eq-eqb _ _ (sym is_next ∙ e ∙ is_head))

misses : (s : Settings) (t h : Point) (d : Direction) (next head : ℕ) → HasSides s → IsOn s h → IsOn s t → next ≡ number_of (neighbor (sides_of s) t d) → head ≡ number_of h
    → (next ≡ head → ⊥) → is_same_cell (neighbor (sides_of s) t d) h ≡ false
misses s t h d next head sides on_h on_t is_next is_head apart =
    test_is s t h d false sides on_h on_t
    (elim (cases_Bool (eqb (number_of (neighbor (sides_of s) t d)) (number_of h))) [
      | inl same ↦ absurd (apart (is_next ∙ eqb-true _ _ same ∙ sym is_head))
      | inr other ↦ other
    ])

pub goes_down : (s : Settings) (head second down : ℕ) → StepsCell s second 1 down → down ≡ head → GoesOn s head second 1
goes_down s head second down sd ed h t rest sides on_h on_t eh et =
    sym (onward_by s t h rest true (is_same_cell (neighbor (sides_of s) t Left) h) (is_same_cell (neighbor (sides_of s) t Right) h)
    (reaches s t h Down down head sides on_h on_t (sd t sides on_t et) eh ed) refl refl)

pub goes_left : (s : Settings) (head second down left : ℕ) → StepsCell s second 1 down → (down ≡ head → ⊥) → StepsCell s second 2 left → left ≡ head
    → GoesOn s head second 2
goes_left s head second down left sd ed sl el h t rest sides on_h on_t eh et =
    sym (onward_by s t h rest false true (is_same_cell (neighbor (sides_of s) t Right) h)
    (misses s t h Down down head sides on_h on_t (sd t sides on_t et) eh ed) (reaches s t h Left left head sides on_h on_t (sl t sides on_t et) eh el) refl)

pub goes_right : (s : Settings) (head second down left right : ℕ) → StepsCell s second 1 down → (down ≡ head → ⊥) → StepsCell s second 2 left → (left ≡ head → ⊥)
    → StepsCell s second 3 right → right ≡ head → GoesOn s head second 3
goes_right s head second down left right sd ed sl el sr er h t rest sides on_h on_t eh et =
    sym (onward_by s t h rest false false true
    (misses s t h Down down head sides on_h on_t (sd t sides on_t et) eh ed) (misses s t h Left left head sides on_h on_t (sl t sides on_t et) eh el)
    (reaches s t h Right right head sides on_h on_t (sr t sides on_t et) eh er))

pub goes_up : (s : Settings) (head second down left right : ℕ) → StepsCell s second 1 down → (down ≡ head → ⊥) → StepsCell s second 2 left → (left ≡ head → ⊥)
    → StepsCell s second 3 right → (right ≡ head → ⊥) → GoesOn s head second 0
goes_up s head second down left right sd ed sl el sr er h t rest sides on_h on_t eh et =
    sym (onward_by s t h rest false false false
    (misses s t h Down down head sides on_h on_t (sd t sides on_t et) eh ed) (misses s t h Left left head sides on_h on_t (sl t sides on_t et) eh el)
    (misses s t h Right right head sides on_h on_t (sr t sides on_t et) eh er))

-- without a direction
pub taken_onward : (s : Settings) (head second given result : ℕ) → 3 < given → GoesOn s head second result → TakesDirection s head second given result
taken_onward s head second given result none goes h t rest sides on_h on_t eh et =
    let e : nat_le given 3 ≡ false = elim (cases_Bool (nat_le given 3)) [
      | inl some ↦ let few = leb-true given 3 some in absurd (omega arith)
      | inr other ↦ other
    ] in
    rw e (goes h t rest sides on_h on_t eh et)
