-- Which cells are under living heads.
use Rattle.std.proofs.Common.{◌≡◌, ℕ, ◌<◌, ◌≤◌, Bool, true, false, List, [], ◌∷◌, length, take, get_or, slice_index, Decides, refl, ap, ◌∙◌, arith, suc, zero, eqb, inl, inr}
use Rattle.std.specs.List.{list_any}
use Rattle.std.proofs.lemmas.Bool.{cases_Bool}
use Rattle.std.proofs.lemmas.Bool.Decides.{Decides-eqb, Decides-like, same_from_decides}
use Rattle.std.proofs.lemmas.List.Elements.{All-get_or}
use Rattle.bs_board.specs.declared.boards.point.Point.{Point}
use Rattle.bs_board.specs.declared.boards.snake.Snake.{Snake}
use Rattle.bs_board.specs.boards.Cell.{head_of, is_same_cell}
use Rattle.bs_board.specs.boards.Legal.{is_near}
use Rattle.bs_rules.specs.Collision.{nobody, snake_at}
use Rattle.bs_rules.specs.Feeding.{has_head_on}
use Rattle.bs_rules.proofs.CollisionTest.{same_cell}
use Rattle.bs_batch.specs.declared.layout.Head.{Head}
use Rattle.bs_batch.specs.Numbers.{number_of}
use Rattle.bs_batch.specs.Shown.{HasBody, room_of, seat_at}
use Rattle.bs_batch.specs.inner.Collisions.{ShowsJudged}
use Rattle.bs_batch.proofs.Judged.{head_number_at, is_out, lives}
use Rattle.bs_batch.proofs.Numbers.{one_number}
use Rattle.bs_batch.proofs.Shown.{head_near}

pub some_any : {X : Type 0} (f : X → Bool) (xs : List X) (k : ℕ) (d : X) → k < length xs → f (get_or xs k d) ≡ true → list_any f xs ≡ true
some_any f [] k d within e = absurd (omega arith)
some_any f (x ∷ xs) zero d within e = rw e refl
some_any f (x ∷ xs) (suc k) d within e = elim (cases_Bool (f x)) [
  | inl here ↦ rw here refl
  | inr other ↦ rw other (some_any f xs k d (omega arith) e)
]

pub none_any : {X : Type 0} (f : X → Bool) (xs : List X) (d : X) → ((k : ℕ) → k < length xs → f (get_or xs k d) ≡ false) → list_any f xs ≡ false
none_any f [] d e = refl
none_any f (x ∷ xs) d e = rw (e zero (omega arith)) (none_any f xs d (λ k within. e (suc k) (omega arith)))

pub same_numbers : (width height : ℕ) (p q : Point) → width ≤ 25 → is_near width height p ≡ true → is_near width height q ≡ true
    → eqb (number_of p) (number_of q) ≡ is_same_cell p q
same_numbers width height p q narrow near_p near_q =
    let by_number : Decides (eqb (number_of p) (number_of q)) (p ≡ q) =
    Decides-like (eqb (number_of p) (number_of q)) (λ e. one_number width height p q narrow near_p near_q e) (λ e. ap number_of e) (Decides-eqb (number_of p) (number_of q)) in
    same_from_decides (eqb (number_of p) (number_of q)) (is_same_cell p q) by_number (same_cell p q)

module _ (head : Head) (bodies : List ℕ) (width height : ℕ) (snakes : List Snake) (p : Point) (shows : ShowsJudged head bodies width height snakes)
    (near : is_near width height p ≡ true) where
  pub out_has_none : (seat : ℕ) → seat < length snakes → ((seat_at head.seats seat).cause ≡ 0 → ⊥) → false ≡ has_head_on p (snake_at snakes seat)
  out_has_none seat within other = rw (is_out head bodies width height snakes shows seat within other) refl

  pub head_is_on : (seat first cell : ℕ) (body : List ℕ) → seat < length snakes → (seat_at head.seats seat).cause ≡ 0
      → body ≡ take (seat_at head.seats seat).parts (room_of bodies seat) → first ≡ slice_index body 0 → cell ≡ number_of p
      → eqb first cell ≡ has_head_on p (snake_at snakes seat)
  head_is_on seat first cell body within lives_byte of at_first is =
      let s = snake_at snakes seat in
      let body_at = All-get_or (HasBody width height) snakes seat nobody within shows.bodies_near in
      let there : first ≡ number_of (head_of s.body) = at_first ∙ ap (λ b. slice_index b 0) of ∙ head_number_at head bodies width height snakes shows seat within in
      let same = same_numbers width height (head_of s.body) p shows.narrow (head_near width height s body_at) near in
      let alive = lives head bodies width height snakes shows seat within lives_byte in
      rw (there, is, alive) same
