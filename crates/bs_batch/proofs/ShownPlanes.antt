-- Planes that lie one after the other in a list of bytes.
use Rattle.std.proofs.Common.{◌≡◌, ℕ, ◌+◌, ◌-◌, ◌*◌, ◌<◌, ◌≤◌, min, true, cond, List, ◌++◌, length, take, drop, get_or, replicate, refl, subst, sym, ap, ◌∙◌, arith, inl, inr, length-append, length-drop, length-take-le}
use Rattle.std.proofs.lemmas.Bool.{cases_eq, cases_lt}
use Rattle.std.proofs.lemmas.List.{get_or-append_right, get_or-drop, get_or-replicate, get_or-take, get_or_append_left, get_or_past, length-replicate}
use borrow.Rule.Slice.PartMut.{mid_of, put_mid}
use Rattle.bs_board.specs.declared.boards.board.Board.{Board}
use Rattle.bs_board.specs.declared.boards.point.Point.{Point}
use Rattle.bs_board.specs.boards.Cell.{cell_index, is_on_board}
use Rattle.bs_board.specs.boards.Legal.{IsLegal}
use Rattle.bs_rules.specs.Collision.{snake_at}
use Rattle.bs_batch.specs.declared.layout.Head.{Head}
use Rattle.bs_batch.specs.Shown.{ShowsGame, room_of, seat_at}
use Rattle.bs_batch.specs.Showing.{HasPlane, ShowsBoard, body_mark, food_mark, turns_left}
use Rattle.bs_batch.specs.inner.Loading.{AreNear}
use Rattle.bs_batch.specs.inner.Showing.{HasCells, MarksBody, MarksFood, ShowsFoodPlane, ShowsSeatPlane, WritesPlane}
use Rattle.bs_batch.proofs.FirstOut.{seat_is_out, seat_lives}
use Rattle.bs_batch.proofs.Listed.{food_shown}
use Rattle.bs_batch.proofs.LoadedBoard.{body_near, food_near}
use Rattle.bs_batch.proofs.Marked.{placed}
use Rattle.bs_batch.proofs.Shown.{body_shown}

rows_below : (k seat row : ℕ) → k < seat → k * row + row ≤ seat * row
rows_below k seat row below = grind arith

index_fits : (width height : ℕ) (p : Point) → is_on_board width height p ≡ true → cell_index width p < width * height
index_fits width height p on =
    let at = placed width height p on in
    let x = at.x_fits in
    let y = at.y_fits in
    let rows = rows_below _ height width y in
    let turned : height * width ≡ width * height = grind arith in
    omega arith

module _ (start k area : ℕ) (into piece : List ℕ) (row : k ≡ area) (fits : start + area ≤ length into) (kept : length piece ≡ length (mid_of start k into)) where
  pub long_piece : length piece ≡ area
  long_piece =
      let rest = length-drop start into in
      let mid = length-take-le k (drop start into) (omega arith) in
      kept ∙ mid ∙ row

  front : length (take start into) ≡ start
  front = length-take-le start into (omega arith)

  pub from_mid : (i : ℕ) → i < area → get_or (mid_of start k into) i 0 ≡ get_or into (start + i) 0
  from_mid i low = get_or-take k (drop start into) i 0 (omega arith) ∙ get_or-drop start into i 0

  pub inside : (i : ℕ) → i < area → get_or (put_mid start k into piece) (start + i) 0 ≡ get_or piece i 0
  inside i low =
      let long = long_piece in
      let f = front in
      let less : start + i - start ≡ i = omega arith in
      get_or-append_right (take start into) (piece ++ drop k (drop start into)) start (start + i) 0 f (omega arith)
      ∙ ap (λ n. get_or (piece ++ drop k (drop start into)) n 0) less ∙ get_or_append_left piece (drop k (drop start into)) 0 i (omega arith)

  pub before : (j : ℕ) → j < start → get_or (put_mid start k into piece) j 0 ≡ get_or into j 0
  before j low =
      let f = front in
      get_or_append_left (take start into) (piece ++ drop k (drop start into)) 0 j (omega arith) ∙ get_or-take start into j 0 low

  pub after : (j : ℕ) → start + area ≤ j → get_or (put_mid start k into piece) j 0 ≡ get_or into j 0
  after j high =
      let long = long_piece in
      let f = front in
      let back : start + (k + (j - start - area)) ≡ j = omega arith in
      get_or-append_right (take start into) (piece ++ drop k (drop start into)) start j 0 f (omega arith)
      ∙ get_or-append_right piece (drop k (drop start into)) area (j - start) 0 long (omega arith)
      ∙ get_or-drop k (drop start into) (j - start - area) 0 ∙ get_or-drop start into (k + (j - start - area)) 0 ∙ ap (λ n. get_or into n 0) back

  pub same_length : length (put_mid start k into piece) ≡ length into
  same_length =
      let long = long_piece in
      let f = front in
      let a = length-append piece (drop k (drop start into)) in
      let b = length-append (take start into) (piece ++ drop k (drop start into)) in
      let c = length-drop k (drop start into) in
      let d = length-drop start into in
      omega arith

  pub plane_written : (width height number : ℕ) (byte : Point → ℕ) → area ≡ width * height → start ≡ number * area
      → (HasCells width height (λ _. 0) (mid_of start k into) → HasCells width height byte piece) → WritesPlane width height number byte into (put_mid start k into piece)
  plane_written width height number byte size at writes =
      let begin : start ≡ number * (width * height) = at ∙ ap (λ n. number * n) size in
      record {
        long = same_length;
        own = λ _ zeros p on.
            let low = index_fits width height p on in
            let mid : HasCells width height (λ _. 0) (mid_of start k into) = record {
              area = sym kept ∙ long_piece ∙ size;
              cells = λ q there. let small = index_fits width height q there in
                  from_mid (cell_index width q) (omega arith) ∙ ap (λ n. get_or into (n + cell_index width q) 0) begin ∙ zeros q there;
            } in
            ap (λ n. get_or (put_mid start k into piece) (n + cell_index width p) 0) (sym begin) ∙ inside (cell_index width p) (omega arith) ∙ (writes mid).cells p on;
        others = λ n other apart has p on.
            let low = index_fits width height p on in
            elim (cases_lt n number) [
              | inl less ↦
                  let rows = rows_below n number (width * height) less in
                  before (n * (width * height) + cell_index width p) (omega arith) ∙ has p on
              | inr more ↦
                  let above : number < n = omega arith in
                  let rows = rows_below number n (width * height) above in
                  after (n * (width * height) + cell_index width p) (omega arith) ∙ has p on
            ];
      }

-- nothing is written
not_written : (width height number : ℕ) (byte : Point → ℕ) (into : List ℕ)
    → (number * (width * height) + width * height ≤ length into → (p : Point) → byte p ≡ 0) → WritesPlane width height number byte into into
not_written width height number byte into none = record {
  long = refl;
  own = λ room zeros p on. zeros p on ∙ sym (none room p);
  others = λ n other apart has. has;
}

pub food_plane : (head : Head) (food into piece : List ℕ) (area k n : ℕ) → area ≤ length into → k ≡ area → length piece ≡ length (mid_of 0 k into)
    → n ≡ min head.foods (length food) → MarksFood head.settings (take n food) (mid_of 0 k into) piece → ShowsFoodPlane head food area into (put_mid 0 k into piece)
food_plane head food into piece area k n fits row kept few marks b plane bodies legal shows size =
    let s = shows.seats.settings in
    plane_written 0 k area into piece row (omega arith) kept b.width b.height 0 (food_mark b.food) size (omega arith)
    (λ zeros. subst (λ (w : ℕ). HasCells w b.height (food_mark b.food) piece) s.width
    (marks b.height b.food (subst (λ (w : ℕ). AreNear w b.height b.food) (sym s.width) (food_near b legal)) (food_shown head.foods n food b.food few shows.food)
    (subst (λ (w : ℕ). HasCells w b.height (λ _. 0) (mid_of 0 k into)) (sym s.width) zeros)))

pub seat_out : (head : Head) (bodies : List ℕ) (seat area : ℕ) (into : List ℕ) → ((seat_at head.seats seat).cause ≡ 0 → ⊥) → ShowsSeatPlane head bodies seat area into into
seat_out head bodies seat area into other b food plane legal shows size within =
    let dead = seat_is_out head plane bodies b seat shows.seats within other in
    not_written b.width b.height (seat + 1) (body_mark (snake_at b.snakes seat)) into
    (λ room p. ap (λ l. cond l (min (turns_left (snake_at b.snakes seat).body p) 255) 0) dead)

pub seat_plane : (head : Head) (bodies : List ℕ) (seat area start k : ℕ) (into piece numbers : List ℕ) → (seat_at head.seats seat).cause ≡ 0 → start ≡ (seat + 1) * area
    → start + area ≤ length into → k ≡ area → length piece ≡ length (mid_of start k into) → numbers ≡ take (seat_at head.seats seat).parts (room_of bodies seat)
    → MarksBody head.settings numbers (mid_of start k into) piece → ShowsSeatPlane head bodies seat area into (put_mid start k into piece)
seat_plane head bodies seat area start k into piece numbers none at fits row kept body marks b food plane legal shows size within =
    let s = shows.seats.settings in
    let alive = seat_lives head plane bodies b seat shows.seats within none in
    let cells = (snake_at b.snakes seat).body in
    let are = body ∙ body_shown head.seats bodies b.snakes seat shows.seats.snakes within in
    let same : (p : Point) → min (turns_left cells p) 255 ≡ body_mark (snake_at b.snakes seat) p = λ p. ap (λ l. cond l (min (turns_left cells p) 255) 0) (sym alive) in
    plane_written start k area into piece row fits kept b.width b.height (seat + 1) (body_mark (snake_at b.snakes seat)) size at
    (λ zeros.
    let done = subst (λ (w : ℕ). HasCells w b.height (λ p. min (turns_left cells p) 255) piece) s.width
    (marks b.height cells (subst (λ (w : ℕ). AreNear w b.height cells) (sym s.width) (body_near b seat legal within)) are
    (subst (λ (w : ℕ). HasCells w b.height (λ _. 0) (mid_of start k into)) (sym s.width) zeros)) in
    record { area = done.area; cells = λ p on. done.cells p on ∙ same p })

-- the food and the first seats are shown, and the other planes are empty
pub record StoodShown (b : Board) (i : ℕ) (into : List ℕ) : Type 0 where
  pub food : b.width * b.height ≤ length into → HasPlane b.width b.height 0 (food_mark b.food) into
  pub snakes : (seat : ℕ) → seat < i → (seat + 1) * (b.width * b.height) + b.width * b.height ≤ length into
      → HasPlane b.width b.height (seat + 1) (body_mark (snake_at b.snakes seat)) into
  pub rest : (number : ℕ) → i < number → HasPlane b.width b.height number (λ _. 0) into

abbrev pub ShownSoFar : Head → List ℕ → List ℕ → ℕ → List ℕ → Type 0
ShownSoFar head food bodies i into = (b : Board) (plane : List ℕ) → IsLegal b → ShowsGame head food plane bodies b → StoodShown b i into

empty_at : (n j : ℕ) → get_or {A = ℕ} (replicate n 0) j 0 ≡ 0
empty_at n j = let long : length (replicate {A = ℕ} n 0) ≡ n = length-replicate n 0 in elim (cases_lt j n) [
  | inl low ↦ get_or-replicate n j 0 0 low
  | inr high ↦ get_or_past (replicate n 0) j 0 (omega arith)
]

pub food_first : (head : Head) (food bodies : List ℕ) (w h n : ℕ) (empty into : List ℕ) → w ≡ head.settings.width → h ≡ head.settings.height → empty ≡ replicate n 0
    → ShowsFoodPlane head food (w * h) empty into → ShownSoFar head food bodies 0 into
food_first head food bodies w h n empty into wide high zeros step b plane legal shows =
    let s = shows.seats.settings in
    let area_is : w * h ≡ b.width * b.height = ap (λ n. n * h) (wide ∙ s.width) ∙ ap (λ n. b.width * n) (high ∙ s.height) in
    let writes = step b plane bodies legal shows area_is in
    let long = writes.long in
    let none : (number : ℕ) → HasPlane b.width b.height number (λ _. 0) empty =
    λ number p on. ap (λ l. get_or l (number * (b.width * b.height) + cell_index b.width p) 0) zeros ∙ empty_at n (number * (b.width * b.height) + cell_index b.width p) in
    record {
      food = λ room. writes.own (omega arith) (none 0);
      snakes = λ seat before room. absurd (omega arith);
      rest = λ number later. writes.others number (λ _. 0) (λ e. absurd (omega arith)) (none number);
    }

pub seat_next : (head : Head) (food bodies : List ℕ) (w h i : ℕ) (old into : List ℕ) → w ≡ head.settings.width → h ≡ head.settings.height → i < head.settings.seats
    → ShowsSeatPlane head bodies i (w * h) old into → ShownSoFar head food bodies i old → ShownSoFar head food bodies (i + 1) into
seat_next head food bodies w h i old into wide high within step so_far b plane legal shows =
    let s = shows.seats.settings in
    let count = s.seats in
    let area_is : w * h ≡ b.width * b.height = ap (λ n. n * h) (wide ∙ s.width) ∙ ap (λ n. b.width * n) (high ∙ s.height) in
    let stood = so_far b plane legal shows in
    let writes = step b food plane legal shows area_is (omega arith) in
    let long = writes.long in
    record {
      food = λ room. writes.others 0 (food_mark b.food) (λ e. absurd (omega arith)) (stood.food (omega arith));
      snakes = λ seat before room. elim (cases_eq seat i) [
        | inl same ↦
            subst (λ (k : ℕ). HasPlane b.width b.height (k + 1) (body_mark (snake_at b.snakes k)) into) (sym same)
            (writes.own (subst (λ (k : ℕ). (k + 1) * (b.width * b.height) + b.width * b.height ≤ length old) same (omega arith)) (stood.rest (i + 1) (omega arith)))
        | inr other ↦
            writes.others (seat + 1) (body_mark (snake_at b.snakes seat)) (λ e. other (omega arith)) (stood.snakes seat (omega arith) (omega arith))
      ];
      rest = λ number later. writes.others number (λ _. 0) (λ e. absurd (omega arith)) (stood.rest number (omega arith));
    }

pub all_shown : (head : Head) (food bodies : List ℕ) (i : ℕ) (into : List ℕ) → i ≡ head.settings.seats → ShownSoFar head food bodies i into → ShowsBoard head food bodies into
all_shown head food bodies i into end so_far b plane legal shows =
    let count = shows.seats.settings.seats in
    let stood = so_far b plane legal shows in
    record { food = stood.food; snakes = λ seat within room. stood.snakes seat (omega arith) room }
