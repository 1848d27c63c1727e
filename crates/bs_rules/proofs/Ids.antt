-- Steps that keep ids keep them distinct.
use Rattle.std.proofs.Common.{◌≡◌, ℕ, ◌+◌, true, List, [], ◌∷◌, map, refl, ap, sym, ◌∙◌}
use Rattle.bs_board.specs.declared.boards.snake.Snake.{Snake}
use Rattle.bs_board.specs.Distinct.{are_distinct}
use Rattle.bs_board.specs.boards.Legal.{are_distinct_ids}
use Rattle.bs_board.specs.Texts.{is_same_text}
use Rattle.bs_rules.specs.Collision.{map_seats}
use Rattle.bs_board.proofs.Distinct.{are_distinct_map}
use Rattle.bs_rules.proofs.Seats.{map_from}

abbrev pub ids_of : List Snake → List (List ℕ)
ids_of = map (λ s. s.id)

pub distinct_by_ids : (xs ys : List Snake) → ids_of ys ≡ ids_of xs → are_distinct_ids xs ≡ true → are_distinct_ids ys ≡ true
distinct_by_ids xs ys e h =
    let before = are_distinct_map is_same_text (λ (s : Snake). s.id) xs in
    let after = are_distinct_map is_same_text (λ (s : Snake). s.id) ys in
    sym after ∙ ap (are_distinct is_same_text) e ∙ before ∙ h

pub ids_of_map : (f : Snake → Snake) → ((s : Snake) → (f s).id ≡ s.id) → (xs : List Snake) → ids_of (map f xs) ≡ ids_of xs
ids_of_map f same [] = refl
ids_of_map f same (x ∷ xs) = rw (same x, ids_of_map f same xs) refl

ids_from : (n : ℕ) (f : ℕ → Snake → Snake) → ((k : ℕ) (s : Snake) → (f k s).id ≡ s.id) → (xs : List Snake) → ids_of (map_from n f xs) ≡ ids_of xs
ids_from n f same [] = refl
ids_from n f same (x ∷ xs) = rw (same n x, ids_from (n + 1) f same xs) refl

pub ids_of_map_seats : (f : ℕ → Snake → Snake) → ((k : ℕ) (s : Snake) → (f k s).id ≡ s.id) → (xs : List Snake) → ids_of (map_seats f xs) ≡ ids_of xs
ids_of_map_seats f same xs = ids_from 0 f same xs
