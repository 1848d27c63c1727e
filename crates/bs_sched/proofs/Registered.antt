-- The registry of the open stays after an admission, a leave, and any other change of a stay.
use Rattle.std.proofs.Common.{◌≡◌, ℕ, ◌+◌, not, List, [], ◌∷◌, ◌++◌, length, map, refl, sym, ap, ◌∙◌, arith}
use Rattle.std.specs.Prelude.{filter, nat_eq, slice_set}
use Rattle.std.proofs.Math.ListN.{get_or-map}
use Rattle.std.proofs.Math.Seq.{map-set_same}
use Rattle.std.proofs.lemmas.List.{length-set, length_push, map-set, map_push}
use Rattle.bs_board.specs.plans.Plan.{GameRow}
use Rattle.bs_registry.specs.OpenStays.{OpenStayList, open_of, open_stays_of}
use Rattle.bs_registry.specs.Registry.{Listing, row_open, seen, with_stay, without_stay}
use Rattle.bs_registry.specs.Stays.{Stay, closed_stay, open_stay, stay_at, with_admitted, with_closed}
use Rattle.bs_registry.proofs.OpenStays.{open_law}
use Rattle.bs_registry.proofs.Rows.{filtered_rows}
use Rattle.bs_sched.specs.Lane.{Lane, empty_lane, no_lane}
use Rattle.bs_sched.specs.Machine.{lane_of}
use Rattle.bs_sched.specs.Registry.{registry_of, stay_of}

abbrev stays_with : ℕ → List (ℕ × GameRow) → OpenStayList
stays_with made stays = record { made = made; stays = stays }

abbrev one_more : GameRow → OpenStayList → OpenStayList
one_more row open_stays = stays_with (open_stays.made + 1) (open_stays.stays ++ (open_stays.made, row) ∷ [])

abbrev one_less : ℕ → OpenStayList → OpenStayList
one_less game open_stays = stays_with open_stays.made (filter (λ other. not (nat_eq other.0 game)) open_stays.stays)

more_open : (registry : List Stay) (row : GameRow) → open_stays_of (with_admitted row registry) ≡ one_more row (open_stays_of registry)
more_open registry row =
    let many : length (with_admitted row registry) ≡ length registry + 1 = omega (arith, length_push registry (open_stay row)) in
    ap (λ n. stays_with n (open_of (with_admitted row registry))) many ∙ ap (stays_with (length registry + 1)) ((open_law 0 registry).admits row)

less_open : (registry : List Stay) (game : ℕ) → open_stays_of (with_closed game registry) ≡ one_less game (open_stays_of registry)
less_open registry game =
    ap (λ n. stays_with n (open_of (with_closed game registry))) (length-set registry game (closed_stay (stay_at registry game)))
    ∙ ap (stays_with (length registry)) ((open_law 0 registry).leaves game)

module _ {X : Type 0} (stays : Listing X) (lanes : List Lane) (is : seen stays ≡ open_stays_of (registry_of lanes)) where
  pub listed_more : (row : GameRow) (kept : X) → seen (with_stay row kept stays) ≡ open_stays_of (registry_of (lanes ++ empty_lane row ∷ []))
  listed_more row kept =
      ap (stays_with (stays.made + 1)) (map_push row_open stays.stays (record { number = stays.made; row = row; kept = kept }))
      ∙ ap (one_more row) is ∙ sym (more_open (registry_of lanes) row) ∙ ap open_stays_of (sym (map_push stay_of lanes (empty_lane row)))

  pub listed_less : (game : ℕ) (y : Lane) → stay_of y ≡ closed_stay (stay_of (lane_of lanes game))
      → seen (without_stay game stays) ≡ open_stays_of (registry_of (slice_set lanes game y))
  listed_less game y left =
      let set = map-set stay_of lanes game y ∙ ap (slice_set (registry_of lanes) game) left
      ∙ ap (λ (entry : Stay). slice_set (registry_of lanes) game (closed_stay entry)) (sym (get_or-map stay_of lanes game no_lane)) in
      ap (stays_with stays.made) (filtered_rows game stays.stays) ∙ ap (one_less game) is ∙ sym (less_open (registry_of lanes) game)
      ∙ ap open_stays_of (sym set)

  pub listed_same : (game : ℕ) (y : Lane) → stay_of y ≡ stay_of (lane_of lanes game) → seen stays ≡ open_stays_of (registry_of (slice_set lanes game y))
  listed_same game y same = is ∙ ap open_stays_of (sym (map-set_same stay_of lanes game y no_lane same))

-- a newly opened core
pub registry_opened : (rows : List GameRow) → registry_of (map (λ row. empty_lane row) rows) ≡ map open_stay rows
registry_opened [] = refl
registry_opened (row ∷ rows) = ap (λ rest. open_stay row ∷ rest) (registry_opened rows)
