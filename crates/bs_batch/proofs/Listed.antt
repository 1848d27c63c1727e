-- Cells that are listed one by one.
use Rattle.std.proofs.Common.{◌≡◌, ℕ, ◌+◌, ◌<◌, min, true, List, [], ◌∷◌, ◌++◌, length, take, set, get_or, refl, sym, ap, ◌∙◌, arith, inl, inr, length-take}
use Rattle.std.proofs.lemmas.Bool.{cases_lt}
use Rattle.std.proofs.lemmas.List.{get_or-map, length-map, map_push, take-map, take_all, take_more, take_more_set}
use Rattle.std.proofs.lemmas.List.Elements.{All-get_or}
use Rattle.bs_board.specs.declared.boards.point.Point.{Point}
use Rattle.bs_board.specs.boards.Cell.{origin}
use Rattle.bs_board.specs.boards.Legal.{is_near}
use Rattle.bs_batch.specs.declared.layout.Place.{Place}
use Rattle.bs_batch.specs.Listing.{PlacesCell, place_at, places_of}
use Rattle.bs_batch.specs.Numbers.{number_of, numbers_of}
use Rattle.bs_batch.specs.Shown.{ShowsFood}
use Rattle.bs_batch.specs.inner.Listing.{ListsCells}
use Rattle.bs_batch.specs.inner.Loading.{AreNear}

-- the first cells are listed
abbrev pub ListedSoFar : List ℕ → ℕ → List Place → Type 0
ListedSoFar numbers i into =
    (width height : ℕ) (cells : List Point) → AreNear width height cells → numbers ≡ numbers_of cells → take i into ≡ places_of (take i cells)

pub none_listed : (numbers : List ℕ) (into : List Place) → ListedSoFar numbers 0 into
none_listed numbers into width height cells near are = refl

pub one_listed : (numbers : List ℕ) (i : ℕ) (into : List Place) (place : Place) → i < length numbers → i < length into → PlacesCell (get_or numbers i 0) place
    → ListedSoFar numbers i into → ListedSoFar numbers (i + 1) (set into i place)
one_listed numbers i into place within fits is so_far width height cells near are =
    let long : length numbers ≡ length cells = ap length are ∙ length-map cells number_of in
    let p = get_or cells i origin in
    let here = All-get_or (λ q. is_near width height q ≡ true) cells i origin (omega arith) near.near in
    let number : get_or numbers i 0 ≡ number_of p = ap (λ l. get_or l i 0) are ∙ get_or-map number_of cells i origin 0 (omega arith) in
    let both : take i into ++ place ∷ [] ≡ places_of (take i cells) ++ place_at p ∷ [] =
    rw (so_far width height cells near are, is width height p near.narrow near.low here number) refl in
    take_more_set into i place fits ∙ both ∙ sym (map_push place_at (take i cells) p) ∙ ap places_of (sym (take_more cells i origin (omega arith)))

pub all_listed : (numbers : List ℕ) (i : ℕ) (into : List Place) → i ≡ min (length numbers) (length into) → ListedSoFar numbers i into → ListsCells numbers into (length numbers)
all_listed numbers i into end so_far width height cells near are =
    let long : length numbers ≡ length cells = ap length are ∙ length-map cells number_of in
    let places = length-map cells place_at in
    record {
      count = long;
      places = elim (cases_lt (length into) (length cells)) [
        | inl short ↦
            let all : i ≡ length into = omega arith in
            take_all (length cells) into (omega arith) ∙ sym (take_all i into (omega arith)) ∙ so_far width height cells near are ∙ sym (take-map place_at i cells)
            ∙ ap (λ n. take n (places_of cells)) all
        | inr enough ↦
            let all : i ≡ length cells = omega arith in
            ap (λ n. take n into) (sym all) ∙ so_far width height cells near are ∙ ap places_of (take_all i cells (omega arith))
            ∙ sym (take_all (length into) (places_of cells) (omega arith))
      ];
    }

-- the cells of the food that is shown
pub food_shown : (foods n : ℕ) (food : List ℕ) (cells : List Point) → n ≡ min foods (length food) → ShowsFood foods food cells → take n food ≡ numbers_of cells
food_shown foods n food cells few shows =
    let count = shows.count in
    let long : length (take (length cells) food) ≡ length cells = ap length shows.listed ∙ length-map cells number_of in
    let room = length-take (length cells) food in
    let same : n ≡ length cells = omega arith in
    ap (λ k. take k food) same ∙ shows.listed
