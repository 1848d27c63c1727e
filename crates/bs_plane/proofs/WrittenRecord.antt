-- The record of a board in which a turn changed food and snakes.
use Rattle.std.proofs.Common.{◌≡◌, ℕ, ◌+◌, ◌/◌, true, false, List, ◌∷◌, ◌++◌, length, Option, Some, None, refl, sym, ap, ◌∙◌, arith, append_assoc, append-nil}
use Rattle.std.specs.List.{flat_map}
use Rattle.std.proofs.lemmas.Bool.{false≢true}
use Rattle.bs_board.specs.declared.boards.board.Board.{Board}
use Rattle.bs_board.specs.declared.boards.hazards.Hazards.{Hazards}
use Rattle.bs_board.specs.declared.records.layout.BoardBytes.{BoardBytes}
use Rattle.bs_board.specs.records.Record.{cell_bytes, hazard_bytes, head_bytes, record_of, two_bytes}
use Rattle.bs_board.proofs.records.Lengths.{length_of_pairs}
use Rattle.bs_plane.specs.Food.{food_bytes}
use Rattle.bs_plane.specs.Written.{WritesNext}
use Rattle.bs_plane.specs.inner.Written.{SeesHazards}
use Rattle.bs_plane.specs.inner.Written.{next_head}
use Rattle.bs_plane.proofs.KeptFood.{food_length}

pub no_hazards : (h : Option Hazards) (parts : BoardBytes) (old : List ℕ) → SeesHazards h parts → parts.hazardous ≡ false → old ≡ old ++ hazard_bytes h
unfolding hazard_bytes
no_hazards None parts old sees none = sym (append-nil old)
no_hazards (Some h) parts old sees none = absurd (false≢true (sym none ∙ sees.hazardous))

pub some_hazards : (h : Option Hazards) (parts : BoardBytes) (old mid new : List ℕ) → SeesHazards h parts → parts.hazardous ≡ true
    → mid ≡ old ++ parts.damage ∷ two_bytes (length parts.hazards.now / 2) → new ≡ mid ++ parts.hazards.now → new ≡ old ++ hazard_bytes h
unfolding hazard_bytes
some_hazards None parts old mid new sees some first second = absurd (false≢true (sym sees.hazardous ∙ some))
some_hazards (Some h) parts old mid new sees some first second =
    let pairs = length_of_pairs (cell_bytes 0) (λ p. refl) h.cells in
    let size = ap length sees.cells in
    let half : length parts.hazards.now / 2 ≡ length h.cells = omega arith in
    let damage = sees.damage in
    second ∙ ap (λ l. l ++ parts.hazards.now) first ∙ append_assoc old (parts.damage ∷ two_bytes (length parts.hazards.now / 2)) parts.hazards.now
    ∙ ap (λ n. old ++ ((parts.damage ∷ two_bytes n) ++ parts.hazards.now)) half
    ∙ ap (λ l. old ++ ((parts.damage ∷ two_bytes (length h.cells)) ++ l)) sees.cells
    ∙ ap (λ d. old ++ ((d ∷ two_bytes (length h.cells)) ++ flat_map (cell_bytes 0) h.cells)) damage

pub writes_next : (parts : BoardBytes) (food snakes a b c new : List ℕ) → a ≡ next_head parts (length food / 2) → b ≡ a ++ food
    → ((h : Option Hazards) → SeesHazards h parts → c ≡ b ++ hazard_bytes h) → new ≡ c ++ snakes → WritesNext parts food snakes new
unfolding record_of
writes_next parts food snakes a b c new first second third fourth board now of same seats eaten moved =
    let hazards : now.hazards ≡ board.hazards = ap (λ (x : Board). x.hazards) same in
    let mode : now.mode ≡ board.mode = ap (λ (x : Board). x.mode) same in
    let width : now.width ≡ board.width = ap (λ (x : Board). x.width) same in
    let height : now.height ≡ board.height = ap (λ (x : Board). x.height) same in
    let turn : now.turn ≡ board.turn + 1 = ap (λ (x : Board). x.turn) same in
    let least : now.min_food ≡ board.min_food = ap (λ (x : Board). x.min_food) same in
    let chance : now.chance ≡ board.chance = ap (λ (x : Board). x.chance) same in
    let size = ap length eaten ∙ food_length now.food in
    let count : length food / 2 ≡ length now.food = omega arith in
    let head : next_head parts (length food / 2) ≡ head_bytes now =
    rw (of.hazardous, of.mode, of.width, of.height, of.turn, of.min_food, of.chance, of.seats, count, hazards, mode, width, height, turn, least, chance, seats) refl in
    let sees : SeesHazards board.hazards parts = record { hazardous = of.hazardous; damage = of.damage; cells = of.hazards } in
    let some : c ≡ b ++ hazard_bytes now.hazards = third board.hazards sees ∙ ap (λ h. b ++ hazard_bytes h) (sym hazards) in
    let front : b ≡ head_bytes now ++ food_bytes now.food = second ∙ ap (λ l. l ++ food) (first ∙ head) ∙ ap (λ l. head_bytes now ++ l) eaten in
    fourth ∙ ap (λ l. l ++ snakes) (some ∙ ap (λ l. l ++ hazard_bytes now.hazards) front) ∙ ap (λ l. (head_bytes now ++ food_bytes now.food ++ hazard_bytes now.hazards) ++ l) moved
