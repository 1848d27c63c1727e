-- The hazards of a board: what is read is what is written so, and what is written is read again.
use Rattle.std.proofs.Common.{◌≡◌, ℕ, suc, Bool, true, false, List, [], ◌∷◌, ◌++◌, length, Option, Some, None, is_some, refl, ap, ◌∙◌, append_assoc}
use Rattle.std.specs.List.{flat_map}
use Rattle.std.proofs.lemmas.List.Elements.{recursion_from_All}
use Rattle.bs_board.specs.declared.boards.board.Board.{Board}
use Rattle.bs_board.specs.declared.boards.hazards.Hazards.{Hazards}
use Rattle.bs_board.specs.declared.boards.point.Point.{Point}
use Rattle.bs_board.specs.inner.Decoder.{from_two_bytes, read_cell, read_many, read_hazards}
use Rattle.bs_board.specs.records.Record.{cell_bytes, head_bytes, hazard_bytes, snake_record, record_of}
use Rattle.bs_board.specs.records.Writing.{IsByteCell}
use Rattle.bs_board.specs.inner.Writing.{AreWritableHazards}
use Rattle.bs_board.proofs.records.Fields.{AreBytes, bind_some, carried, Takes, high_back, low_back, number_again, cell_takes, cell_again}
use Rattle.bs_board.proofs.records.Repeats.{many_takes, many_again}

pub regrouped : (b : Board) → record_of b ≡ head_bytes b ++ (flat_map (cell_bytes 0) b.food ++ (hazard_bytes b.hazards ++ flat_map snake_record b.snakes))
unfolding record_of
regrouped b =
    append_assoc (head_bytes b ++ flat_map (cell_bytes 0) b.food) (hazard_bytes b.hazards) (flat_map snake_record b.snakes)
    ∙ append_assoc (head_bytes b) (flat_map (cell_bytes 0) b.food) (hazard_bytes b.hazards ++ flat_map snake_record b.snakes)

pub hazards_take : (hazardous : Bool) (bytes : List ℕ) (hazards : Option Hazards) (rest : List ℕ) → AreBytes bytes
    → read_hazards hazardous bytes ≡ Some (hazards, rest) → Takes bytes (hazard_bytes hazards) rest × (is_some hazards ≡ hazardous)
unfolding read_hazards hazard_bytes
hazards_take false bytes hazards rest fits e =
    carried (λ (r : Option Hazards × List ℕ). Takes bytes (hazard_bytes r.0) r.1 × (is_some r.0 ≡ false)) (None, bytes) (hazards, rest) e
    (record { parts = refl; rest_fits = fits }, refl)
hazards_take true [] hazards rest fits e = absurd cc
hazards_take true (a ∷ []) hazards rest fits e = absurd cc
hazards_take true (a ∷ b ∷ []) hazards rest fits e = absurd cc
hazards_take true (damage ∷ high ∷ low ∷ after) hazards rest fits e =
    let bytes : List ℕ = damage ∷ high ∷ low ∷ after in
    let made : List Point → Option Hazards = λ cells. Some (record { damage = damage; cells = cells }) in
    let a = bind_some (read_many (read_cell 0) (from_two_bytes high low) after) (λ cells. Some (made cells.0, cells.1)) (hazards, rest) e in
    let cells =
    many_takes (read_cell 0) (cell_bytes 0) (λ p. true) (λ bytes p rest fits e. (cell_takes 0 bytes p rest fits e, refl)) (from_two_bytes high low) after a.0.0 a.0.1
    (λ i. fits (suc (suc (suc i)))) a.1 in
    let here : Takes bytes (hazard_bytes (made a.0.0)) a.0.1 = record {
      parts = rw (cells.1, high_back high low (fits 2), low_back high low (fits 2)) (ap (λ (t : List ℕ). damage ∷ high ∷ low ∷ t) cells.0.parts);
      rest_fits = cells.0.rest_fits;
    } in
    carried (λ (r : Option Hazards × List ℕ). Takes bytes (hazard_bytes r.0) r.1 × (is_some r.0 ≡ true)) (made a.0.0, a.0.1) (hazards, rest) a.2 (here, refl)

pub hazards_again : (hazards : Option Hazards) (rest : List ℕ) → AreWritableHazards hazards
    → read_hazards (is_some hazards) (hazard_bytes hazards ++ rest) ≡ Some (hazards, rest)
unfolding read_hazards hazard_bytes
hazards_again None rest fits = refl
hazards_again (Some h) rest fits =
    let cells = many_again (read_cell 0) (cell_bytes 0) (IsByteCell 0) (cell_again 0) h.cells rest (recursion_from_All (IsByteCell 0) h.cells fits.cells) in
    rw (number_again (length h.cells), cells) refl
