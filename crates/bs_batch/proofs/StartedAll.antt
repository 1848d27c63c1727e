-- The new snakes that are placed seat by seat.
use Rattle.std.proofs.Common.{◌≡◌, ℕ, ◌+◌, ◌<◌, ◌≤◌, Bool, true, false, List, [], length, take, get_or, refl, subst, sym, ap, ◌∙◌, arith, inl, inr}
use Rattle.std.proofs.lemmas.Bool.{cases_eq}
use Rattle.std.proofs.lemmas.List.{get_or-map, length-map, take_all}
use Rattle.bs_board.specs.declared.boards.point.Point.{Point}
use Rattle.bs_board.specs.boards.Cell.{origin}
use Rattle.bs_board.specs.commands.Setup.{is_fit_food}
use Rattle.bs_rules.specs.Collision.{nobody, snake_at}
use Rattle.bs_batch.specs.declared.layout.Cell.{Cell}
use Rattle.bs_batch.specs.declared.layout.Head.{Head}
use Rattle.bs_batch.specs.declared.layout.Settings.{Settings}
use Rattle.bs_batch.specs.Counts.{HasBytes}
use Rattle.bs_batch.specs.Shown.{ShowsSnake, occupants, parts_on, room_of, seat_at}
use Rattle.bs_batch.specs.Starting.{point_of, points_of}
use Rattle.bs_batch.specs.inner.Starting.{PlacesSnake, PlacesSnakes, SnakePlaced, SnakesPlaced, starter, starters}
use Rattle.bs_batch.proofs.Bytes.{same_bytes}
use Rattle.bs_batch.proofs.FirstCells.{fit_more, free_cell, next_fits, none_here, one_more_starter}

-- the cell that stands for one past the list
abbrev pub no_cell : Cell
no_cell = record { x = 0; y = 0 }

-- the first i snakes are placed
pub record StoodPlaced (i : ℕ) (starts : List Point) (old : Head) (bodies0 : List ℕ) (head : Head) (bodies plane : List ℕ) : Type 0 where
  pub fit : is_fit_food old.settings.width old.settings.height (take i starts) ≡ true
  pub shows : (k : ℕ) → k < i → ShowsSnake (seat_at head.seats k) (room_of bodies k) (snake_at (starters starts) k)
  pub bytes : HasBytes old.settings.width old.settings.height (occupants (starters (take i starts))) plane
  pub rest : head ≡ record old { seats = head.seats }
  pub eight : length head.seats ≡ 8
  pub long : length bodies ≡ length bodies0

abbrev pub PlacedSoFar : List Cell → ℕ → Head → List ℕ → List ℕ → Head → List ℕ → List ℕ → Type 0
PlacedSoFar starts i head0 bodies0 plane0 head bodies plane =
    24 ≤ length bodies0 → length head0.seats ≡ 8 → HasBytes head0.settings.width head0.settings.height (λ _. 0) plane0
    → StoodPlaced i (points_of starts) head0 bodies0 head bodies plane

pub none_placed : (starts : List Cell) (head : Head) (bodies plane : List ℕ) → PlacedSoFar starts 0 head bodies plane head bodies plane
none_placed starts head bodies plane enough eight has = record {
  fit = refl;
  shows = λ k before. absurd (omega arith);
  bytes = same_bytes head.settings.width head.settings.height (λ _. 0) (occupants []) plane (λ p _. refl) has;
  rest = refl;
  eight = eight;
  long = refl;
}

module _ (starts : List Point) (i : ℕ) (within : i < length starts) (eight : i < 8) (head0 : Head) (bodies0 : List ℕ) (enough : 24 ≤ length bodies0) (head : Head) (bodies plane : List ℕ)
    (stood : StoodPlaced i starts head0 bodies0 head bodies plane) (cell : Cell) (is : point_of cell ≡ get_or starts i origin) (head' : Head) (bodies' plane' : List ℕ) (result : Bool)
    (step : PlacesSnake i cell head bodies plane head' bodies' plane' result) where
  abbrev p : Point
  p = get_or starts i origin

  abbrev columns : ℕ
  columns = head0.settings.width

  abbrev rows : ℕ
  rows = head0.settings.height

  abbrev others : Point → ℕ
  others = occupants (starters (take i starts))

  same : head.settings ≡ head0.settings
  same = ap (λ (h : Head). h.settings) stood.rest

  now : HasBytes head.settings.width head.settings.height others plane
  now = subst (λ (s : Settings). HasBytes s.width s.height others plane) (sym same) stood.bytes

  more_bodies : 24 ≤ length bodies
  more_bodies = let l = stood.long in omega arith

  fits : i < length head.seats
  fits = let e = stood.eight in omega arith

  placed : SnakePlaced columns rows others i p head' bodies' plane' result
  placed =
      let one = (step others more_bodies fits now).1 in
      let at_old = subst (λ (s : Settings). SnakePlaced s.width s.height others i (point_of cell) head' bodies' plane' result) same one in
      subst (λ (q : Point). SnakePlaced columns rows others i q head' bodies' plane' result) is at_old

  pub one_more : result ≡ true → StoodPlaced (i + 1) starts head0 bodies0 head' bodies' plane'
  one_more t =
      let writes = (step others more_bodies fits now).0 in
      let both = placed.fits.0 t in
      record {
        fit = fit_more columns rows i starts within stood.fit both.0 (free_cell (take i starts) p both.1);
        shows = λ k before. elim (cases_eq k i) [
          | inl at_i ↦
              let own : snake_at (starters starts) i ≡ starter p = get_or-map starter starts i origin nobody within in
              rw (at_i, own) (placed.shows t)
          | inr other ↦ rw (writes.seats k other, writes.rooms k other) (stood.shows k (omega arith))
        ];
        bytes = same_bytes columns rows (λ q. others q + parts_on q (starter p)) (occupants (starters (take (i + 1) starts))) plane'
            (λ q _. sym (one_more_starter i starts q within)) (placed.bytes t);
        rest = writes.rest ∙ ap (λ (h : Head). record h { seats = head'.seats }) stood.rest;
        eight = writes.eight ∙ stood.eight;
        long = writes.long ∙ stood.long;
      }

  pub one_less : result ≡ false → SnakesPlaced head0 starts head' bodies' plane' false
  one_less f =
      let writes = (step others more_bodies fits now).0 in
      record {
        fits = (
          λ t. absurd cc,
          λ both.
              let next = next_fits columns rows i starts within both.1 in
              let holds : result ≡ true = placed.fits.1 (next.0, none_here (take i starts) p next.1) in
              absurd cc,
        );
        shows = λ t. absurd cc;
        bytes = λ t. absurd cc;
        rest = writes.rest ∙ ap (λ (h : Head). record h { seats = head'.seats }) stood.rest;
        eight = writes.eight ∙ stood.eight;
      }

point_is : (starts : List Cell) (i : ℕ) → i < length starts → point_of (get_or starts i no_cell) ≡ get_or (points_of starts) i origin
point_is starts i within = sym (get_or-map point_of starts i no_cell origin within)

pub next_placed : (starts : List Cell) (i : ℕ) (head0 : Head) (bodies0 plane0 : List ℕ) (head : Head) (bodies plane : List ℕ) (head' : Head) (bodies' plane' : List ℕ) (result : Bool)
    → i < length starts → i < 8 → result ≡ true → PlacedSoFar starts i head0 bodies0 plane0 head bodies plane
    → PlacesSnake i (get_or starts i no_cell) head bodies plane head' bodies' plane' result → PlacedSoFar starts (i + 1) head0 bodies0 plane0 head' bodies' plane'
next_placed starts i head0 bodies0 plane0 head bodies plane head' bodies' plane' result within few t so_far step enough eight has =
    let n = length-map starts point_of in
    one_more (points_of starts) i (omega arith) few head0 bodies0 enough head bodies plane (so_far enough eight has) (get_or starts i no_cell) (point_is starts i within) head' bodies'
    plane' result step t

pub none_more_placed : (starts : List Cell) (i : ℕ) (head0 : Head) (bodies0 plane0 : List ℕ) (head : Head) (bodies plane : List ℕ) (head' : Head) (bodies' plane' : List ℕ) (result : Bool)
    → i < length starts → i < 8 → result ≡ false → PlacedSoFar starts i head0 bodies0 plane0 head bodies plane
    → PlacesSnake i (get_or starts i no_cell) head bodies plane head' bodies' plane' result → PlacesSnakes starts head0 bodies0 plane0 head' bodies' plane' false
none_more_placed starts i head0 bodies0 plane0 head bodies plane head' bodies' plane' result within few f so_far step enough eight has =
    let n = length-map starts point_of in
    one_less (points_of starts) i (omega arith) few head0 bodies0 enough head bodies plane (so_far enough eight has) (get_or starts i no_cell) (point_is starts i within) head' bodies'
    plane' result step f

pub all_placed : (starts : List Cell) (i : ℕ) (head0 : Head) (bodies0 plane0 : List ℕ) (head : Head) (bodies plane : List ℕ) → i ≡ length starts
    → length starts ≡ head0.settings.seats → PlacedSoFar starts i head0 bodies0 plane0 head bodies plane → PlacesSnakes starts head0 bodies0 plane0 head bodies plane true
all_placed starts i head0 bodies0 plane0 head bodies plane end seats so_far enough eight has =
    let ps = points_of starts in
    let stood = so_far enough eight has in
    let n = length-map starts point_of in
    let all : take i ps ≡ ps = take_all i ps (omega arith) in
    let m = length-map ps starter in
    record {
      fits = (λ _. (n ∙ seats, ap (is_fit_food head0.settings.width head0.settings.height) (sym all) ∙ stood.fit), λ _. refl);
      shows = λ _ k before. stood.shows k (omega arith);
      bytes = λ _. same_bytes head0.settings.width head0.settings.height (occupants (starters (take i ps))) (occupants (starters ps)) plane
          (λ q _. ap (λ l. occupants (starters l) q) all) stood.bytes;
      rest = stood.rest;
      eight = stood.eight;
    }
