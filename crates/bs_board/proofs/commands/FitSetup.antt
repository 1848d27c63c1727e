-- A setup whose hazards fit is within its limits.
use Rattle.std.proofs.Common.{◌≡◌, true, ◌&&◌, Option, refl}
use Rattle.std.specs.Prelude.{nat_le}
use Rattle.bs_board.specs.declared.boards.hazards.Hazards.{Hazards}
use Rattle.bs_board.specs.boards.Hazards.{are_fit_hazards}
use Rattle.bs_board.specs.declared.limits.TheConstants.{MOST_CHANCE, MOST_MIN_FOOD}
use Rattle.bs_board.specs.commands.Setup.{Setup, is_side, are_fit_starts, is_fit_food, is_fit_setup}
use Rattle.bs_board.proofs.Chains.{and_both}

-- the hazards decide
pub with_hazards_fits : (s : Setup) (hazards : Option Hazards) → is_fit_setup s ≡ true
    → is_fit_setup (record s { hazards = hazards }) ≡ are_fit_hazards s.width s.height hazards
unfolding is_fit_setup
with_hazards_fits s hazards fits =
    let front =
    is_side s.width && is_side s.height && nat_le s.min_food MOST_MIN_FOOD && nat_le s.chance MOST_CHANCE
    && are_fit_starts s.width s.height s.snakes && is_fit_food s.width s.height s.food in
    let passed : front ≡ true = (and_both front (are_fit_hazards s.width s.height s.hazards) fits).0 in
    rw passed refl
