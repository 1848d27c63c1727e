-- A setup by seats: the snake of a seat has the seat's digit as its id.
use Rattle.std.specs.Prelude.{ℕ, ◌+◌, List, [], ◌∷◌, map, min, Option, Some, None, if◌then◌else◌, nat_eq}
use Rattle.bs_batch.specs.declared.layout.Cell.{Cell}
use Rattle.bs_board.specs.declared.boards.point.Point.{Point}
use Rattle.bs_board.specs.declared.boards.board.Mode.{Mode}
use Rattle.bs_board.specs.declared.boards.board.Mode.TheVariants.{Standard, Solo, Constrictor, Wrapped}
use Rattle.bs_board.specs.commands.Setup.{Setup, setup_of, is_fit_setup}
use Rattle.bs_calls.specs.declared.setups.SeatSetup.{SeatSetup}
use Rattle.bs_calls.specs.BySeat.{point_of}

abbrev pub mode_from : ℕ → Option Mode
mode_from byte =
    if nat_eq byte 0 then Some Standard
    else if nat_eq byte 1 then Some Solo
    else if nat_eq byte 2 then Some Constrictor
    else if nat_eq byte 3 then Some Wrapped
    else None

-- the seat's digit, which is 48 for seat 0
abbrev pub id_of : ℕ → List ℕ
id_of seat = (48 + min seat 8) ∷ []

-- the seats from this one on, with their ids
abbrev pub starts_from : ℕ → List Cell → List (List ℕ × Point)
starts_from seat [] = []
starts_from seat (c ∷ cells) = (id_of seat, point_of c) ∷ starts_from (seat + 1) cells

-- without hazards
abbrev pub plain_setup : SeatSetup → Mode → Setup
plain_setup s mode =
    setup_of mode s.width s.height (starts_from 0 s.starts.now) (map point_of s.food.now) s.min_food s.chance

abbrev pub fit_setup : Setup → Option Setup
fit_setup setup = if is_fit_setup setup then Some setup else None

abbrev pub with_hazards : SeatSetup → Setup → Option Setup
with_hazards s setup =
    if nat_eq s.has_hazards 0 then Some setup
    else fit_setup (record setup { hazards = Some (record { damage = s.damage; cells = map point_of s.hazards.now }) })

abbrev pub hazardous : SeatSetup → Option Setup → Option Setup
hazardous s None = None
hazardous s (Some setup) = with_hazards s setup

abbrev pub setup_in_mode : SeatSetup → Option Mode → Option Setup
setup_in_mode s None = None
setup_in_mode s (Some mode) = hazardous s (fit_setup (plain_setup s mode))

-- the setup, if it is within the limits of a game
unfoldable pub setup_by_seat : SeatSetup → Option Setup
setup_by_seat s = setup_in_mode s (mode_from s.mode)
