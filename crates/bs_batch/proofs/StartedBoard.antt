-- The first board of a game, put together.
use Rattle.std.proofs.Common.{◌≡◌, ℕ, ◌+◌, ◌*◌, ◌<◌, ◌≤◌, min, Bool, true, List, [], ◌∷◌, length, take, map, get_or, replicate, refl, subst, sym, ap, ◌∙◌, arith, length-take}
use Rattle.std.proofs.lemmas.List.{get_or-map, length-map, take_all}
use Rattle.std.proofs.lemmas.List.Sums.{sum_by-cons}
use Rattle.bs_board.specs.declared.boards.board.Mode.{Mode}
use Rattle.bs_board.specs.declared.boards.board.Mode.TheVariants.{Standard, Solo, Constrictor, Wrapped}
use Rattle.bs_board.specs.declared.boards.point.Point.{Point}
use Rattle.bs_board.specs.declared.boards.snake.Snake.{Snake}
use Rattle.bs_board.specs.boards.Cell.{origin}
use Rattle.bs_board.specs.commands.Setup.{Setup, is_fit_food}
use Rattle.bs_board.specs.records.Record.{mode_byte}
use Rattle.bs_modes.specs.FirstBoard.{first_board, first_food, first_snake}
use Rattle.bs_rules.specs.Collision.{nobody, snake_at}
use Rattle.bs_batch.specs.declared.layout.Cell.{Cell}
use Rattle.bs_batch.specs.declared.layout.Head.{Head}
use Rattle.bs_batch.specs.declared.layout.Seat.{Seat}
use Rattle.bs_batch.specs.declared.layout.Settings.{Settings}
use Rattle.bs_batch.specs.Counts.{HasBytes}
use Rattle.bs_batch.specs.Living.{CountsBoard, ShowsCauses}
use Rattle.bs_batch.specs.Loading.{cleared}
use Rattle.bs_batch.specs.Shown.{ShowsGame}
use Rattle.bs_batch.specs.Shown.{ShowsFood, ShowsSnake, ShowsSnakes, byte_of, food_byte, occupants, parts_on, room_of, seat_at}
use Rattle.bs_batch.specs.Starting.{AreFirstCells, CanStart, IsSetupOf, point_of, points_of}
use Rattle.bs_batch.specs.inner.Starting.{AllPlaced, DropsFood, KeepsFirstFood, PlacesAll, PlacesFood, PlacesSnakes, starter, starters}
use Rattle.bs_batch.proofs.Bytes.{same_bytes}
use Rattle.bs_batch.proofs.FirstCells.{few_starters}
use Rattle.bs_batch.proofs.LoadedBoard.{no_bytes}

-- the food of constrictor is dropped
constrictor_food : (m : Mode) (byte : ℕ) (cells : List Point) → byte ≡ mode_byte m → byte ≡ 2 → first_food m cells ≡ []
constrictor_food Standard byte cells is two = absurd (omega arith)
constrictor_food Solo byte cells is two = absurd (omega arith)
constrictor_food Constrictor byte cells is two = refl
constrictor_food Wrapped byte cells is two = absurd (omega arith)

pub dropped_food : (list : List ℕ) (n : ℕ) (head head' : Head) (plane plane' : List ℕ) → n ≡ min head.foods (length list) → head.settings.mode ≡ 2
    → DropsFood (take n list) head plane head' plane' → KeepsFirstFood list head plane head' plane'
dropped_food list n head head' plane plane' few two drops m width height others cells mode low fits shows has =
    let count = shows.count in
    let long = length-take (length cells) list in
    let all : length (take (length cells) list) ≡ length cells = ap length shows.listed ∙ length-map cells _ in
    let same : n ≡ length cells = omega arith in
    let front : length (take n list) ≡ length cells = ap (λ k. length (take k list)) same ∙ all in
    let listed : ShowsFood (length (take n list)) (take n list) cells = record {
      count = front;
      listed = take_all (length cells) (take n list) (omega arith) ∙ ap (λ k. take k list) same ∙ shows.listed;
    } in
    let dropped = drops width height others cells low fits listed has in
    let none : first_food m cells ≡ [] = constrictor_food m head.settings.mode cells mode two in
    let zero_food : head'.foods ≡ 0 = ap (λ (h : Head). h.foods) dropped.1 in
    record {
      food = subst (λ (fs : List Point). ShowsFood head'.foods list fs) (sym none) (record { count = zero_food; listed = refl });
      bytes = subst (λ (fs : List Point). HasBytes width height (λ p. others p + food_byte fs p) plane') (sym none)
          (same_bytes width height others (λ p. others p + food_byte [] p) plane' (λ p _. omega arith) dropped.0);
      rest = dropped.1 ∙ ap (λ (k : ℕ). record head { foods = k }) (sym zero_food);
    }

module _ (starts cells : List Cell) (head head1 head2 : Head) (bodies0 bodies list plane0 plane1 plane2 : List ℕ) (one two : Bool) (holds : one ≡ true) (long : length bodies ≡ length bodies0)
    (same_plane : length plane2 ≡ length plane0)
    (first : PlacesSnakes starts head bodies0 plane0 head1 bodies plane1 one) (second : PlacesFood cells head1 plane1 head2 list plane2 two) where
  pub all_placed : PlacesAll starts cells head plane0 head2 list plane2 bodies two
  all_placed can none eight has =
      let ps = points_of starts in
      let enough = can.bodies in
      let n = length-map starts point_of in
      let snakes = first (omega arith) eight has in
      let fit = snakes.fits.0 holds in
      let few_seats = can.few in
      let settings : head1.settings ≡ head.settings = ap (λ (h : Head). h.settings) snakes.rest in
      let foods : head1.foods ≡ 0 = ap (λ (h : Head). h.foods) snakes.rest ∙ none in
      let low : (p : Point) → occupants (starters ps) p < 128 = λ p. let few = few_starters ps p in let count = fit.0 in omega arith in
      let area = subst (λ (s : Settings). s.width * s.height ≤ length list) (sym settings) can.area in
      let now = subst (λ (s : Settings). HasBytes s.width s.height (occupants (starters ps)) plane1) (sym settings) (snakes.bytes holds) in
      let food = second (occupants (starters ps)) low foods area can.small now in
      let seats : head2.seats ≡ head1.seats = ap (λ (h : Head). h.seats) food.rest in
      record {
        fits = (
          λ t. record { seats = sym n ∙ fit.0; snakes = fit.1; food = subst (λ (s : Settings). is_fit_food s.width s.height (points_of cells) ≡ true) settings (food.fits.0 t) },
          λ fits. food.fits.1 (subst (λ (s : Settings). is_fit_food s.width s.height (points_of cells) ≡ true) (sym settings) fits.food),
        );
        snakes = λ _. rw seats (snakes.shows holds);
        food = food.shows;
        bytes = λ t. subst (λ (s : Settings). HasBytes s.width s.height (λ p. occupants (starters ps) p + food_byte (points_of cells) p) plane2) settings (food.bytes t);
        rest = λ _. food.rest ∙ ap (λ (h : Head). record h { foods = head2.foods }) snakes.rest
            ∙ ap (λ (ss : List Seat). record head { foods = head2.foods; seats = ss }) (sym seats);
        eight = λ _. ap length seats ∙ snakes.eight;
      }

-- an id changes nothing that is shown
with_id : (seat : Seat) (room : List ℕ) (id : List ℕ) (p : Point) → ShowsSnake seat room (starter p) → ShowsSnake seat room (first_snake (id, p))
with_id seat room id p shows =
    record { parts = shows.parts; body = shows.body; health = shows.health; cause = shows.cause; killer = shows.killer; out = shows.out }

abbrev no_start : List ℕ × Point
no_start = ([], origin)

abbrev starts_of : List (List ℕ × Point) → List Point
starts_of ss = map (λ start. start.1) ss

snakes_with_ids : (seats : List Seat) (bodies : List ℕ) (ss : List (List ℕ × Point)) → ShowsSnakes seats bodies (starters (starts_of ss)) → ShowsSnakes seats bodies (map first_snake ss)
snakes_with_ids seats bodies ss shows k before =
    let a = length-map ss first_snake in
    let b = length-map ss (λ start. start.1) in
    let c = length-map (starts_of ss) starter in
    let there : snake_at (map first_snake ss) k ≡ first_snake (get_or ss k no_start) = get_or-map first_snake ss k no_start nobody (omega arith) in
    let cell : get_or (starts_of ss) k origin ≡ (get_or ss k no_start).1 = get_or-map (λ start. start.1) ss k no_start origin (omega arith) in
    let here : snake_at (starters (starts_of ss)) k ≡ starter (get_or ss k no_start).1 =
    get_or-map starter (starts_of ss) k origin nobody (omega arith) ∙ ap starter cell in
    let one = subst (λ (s : Snake). ShowsSnake (seat_at seats k) (room_of bodies k) s) here (shows k (omega arith)) in
    subst (λ (s : Snake). ShowsSnake (seat_at seats k) (room_of bodies k) s) (sym there)
    (with_id (seat_at seats k) (room_of bodies k) (get_or ss k no_start).0 (get_or ss k no_start).1 one)

parts_with_ids : (ss : List (List ℕ × Point)) (p : Point) → occupants (map first_snake ss) p ≡ occupants (starters (starts_of ss)) p
parts_with_ids [] p = refl
parts_with_ids (s ∷ ss) p =
    let rest = parts_with_ids ss p in
    let a : occupants (map first_snake (s ∷ ss)) p ≡ parts_on p (first_snake s) + occupants (map first_snake ss) p = sum_by-cons (parts_on p) (first_snake s) (map first_snake ss) in
    let b : occupants (starters (starts_of (s ∷ ss))) p ≡ parts_on p (starter s.1) + occupants (starters (starts_of ss)) p =
    sum_by-cons (parts_on p) (starter s.1) (starters (starts_of ss)) in
    let same : parts_on p (first_snake s) ≡ parts_on p (starter s.1) = refl in
    omega arith

-- the game shows the first board of a setup
pub shows_first : (settings : Settings) (starts cells : List Cell) (head1 head2 head3 head4 : Head) (list plane2 plane3 bodies : List ℕ) (result : Bool) (s : Setup)
    → head1 ≡ cleared settings → IsSetupOf settings starts cells s → result ≡ true → settings.seats ≤ 8 → AllPlaced head1 starts cells head2 list plane2 bodies result
    → KeepsFirstFood list head2 plane2 head3 plane3 → CountsBoard head3 head4 → ShowsGame head4 list plane3 bodies (first_board s)
unfolding first_board
shows_first settings starts cells head1 head2 head3 head4 list plane2 plane3 bodies result s clear setup holds eight placed keeps counts =
    let ps = points_of starts in
    let same1 : head1.settings ≡ settings = ap (λ (h : Head). h.settings) clear in
    let same2 : head2.settings ≡ settings = ap (λ (h : Head). h.settings) (placed.rest holds) ∙ same1 in
    let fits = subst (λ (t : Settings). AreFirstCells t starts cells) same1 (placed.fits.0 holds) in
    let n = length-map starts point_of in
    let count : length ps ≤ 8 = let seats = fits.seats in omega arith in
    let low : (p : Point) → occupants (starters ps) p < 128 = λ p. let few = few_starters ps p in omega arith in
    let bytes2 = subst (λ (t : Settings). HasBytes t.width t.height (λ p. occupants (starters ps) p + food_byte (points_of cells) p) plane2) same1 (placed.bytes holds) in
    let kept = keeps s.mode settings.width settings.height (occupants (starters ps)) (points_of cells) (ap (λ (t : Settings). t.mode) same2 ∙ setup.mode) low fits.food (placed.food holds) bytes2 in
    let same3 : head3.settings ≡ settings = ap (λ (h : Head). h.settings) kept.rest ∙ same2 in
    let seats3 : head3.seats ≡ head2.seats = ap (λ (h : Head). h.seats) kept.rest in
    let turn3 : head3.turn ≡ 0 = ap (λ (h : Head). h.turn) kept.rest ∙ ap (λ (h : Head). h.turn) (placed.rest holds) ∙ ap (λ (h : Head). h.turn) clear in
    let snakes2 = subst (λ (qs : List Point). ShowsSnakes head2.seats bodies (starters qs)) (sym setup.snakes) (placed.snakes holds) in
    let snakes3 : ShowsSnakes head3.seats bodies (map first_snake s.snakes) = rw seats3 (snakes_with_ids head2.seats bodies s.snakes snakes2) in
    let a = length-map s.snakes first_snake in
    let b = length-map s.snakes (λ start. start.1) in
    let c : length (map (λ start. start.1) s.snakes) ≡ length ps = ap length setup.snakes in
    let seats : settings.seats ≡ length (map first_snake s.snakes) = let d = fits.seats in omega arith in
    let causes : ShowsCauses head3 (map first_snake s.snakes) = record {
      seats = ap (λ (t : Settings). t.seats) same3 ∙ seats;
      causes = λ k within. (snakes3 k within).cause;
    } in
    let now = counts (first_board s) (ap (λ (t : Settings). t.mode) same3 ∙ setup.mode) causes in
    let food : first_food s.mode (points_of cells) ≡ first_food s.mode s.food = ap (first_food s.mode) (sym setup.food) in
    let parts : (p : Point) → occupants (starters ps) p ≡ occupants (map first_snake s.snakes) p =
    λ p. ap (λ qs. occupants (starters qs) p) (sym setup.snakes) ∙ sym (parts_with_ids s.snakes p) in
    let bytes3 : HasBytes settings.width settings.height (byte_of (first_food s.mode s.food) (map first_snake s.snakes)) plane3 =
    same_bytes settings.width settings.height (λ p. occupants (starters ps) p + food_byte (first_food s.mode (points_of cells)) p)
    (byte_of (first_food s.mode s.food) (map first_snake s.snakes)) plane3
    (λ p _. ap (λ n. n + food_byte (first_food s.mode (points_of cells)) p) (parts p) ∙ ap (λ fs. occupants (map first_snake s.snakes) p + food_byte fs p) food) kept.bytes in
    let wide = setup.width in
    let high = setup.height in
    subst (λ (h : Head). ShowsGame h list plane3 bodies (first_board s)) (sym now) (record {
      seats = record {
        settings = record {
          mode = ap (λ (t : Settings). t.mode) same3 ∙ setup.mode;
          width = ap (λ (t : Settings). t.width) same3 ∙ setup.width;
          height = ap (λ (t : Settings). t.height) same3 ∙ setup.height;
          seats = ap (λ (t : Settings). t.seats) same3 ∙ seats;
          min_food = ap (λ (t : Settings). t.min_food) same3 ∙ setup.min_food;
          chance = ap (λ (t : Settings). t.chance) same3 ∙ setup.chance;
        };
        turn = turn3;
        eight = ap length seats3 ∙ placed.eight holds;
        snakes = snakes3;
        counts = rw (← wide, ← high) bytes3;
      };
      food = subst (λ (fs : List Point). ShowsFood head3.foods list fs) food kept.food;
      living = refl;
      over = refl;
    })

-- the plane and the seats of a cleared game
pub all_from_cleared : (settings : Settings) (starts cells : List Cell) (head1 head2 : Head) (list plane0 plane2 bodies : List ℕ) (n : ℕ) (result : Bool) → head1 ≡ cleared settings
    → CanStart settings (length list) (length plane2) (length bodies) → length plane2 ≡ n → plane0 ≡ replicate n 0
    → PlacesAll starts cells head1 plane0 head2 list plane2 bodies result → AllPlaced head1 starts cells head2 list plane2 bodies result
all_from_cleared settings starts cells head1 head2 list plane0 plane2 bodies n result clear can long zeros places =
    let same : head1.settings ≡ settings = ap (λ (h : Head). h.settings) clear in
    let room = can.plane in
    let empty = no_bytes settings.width settings.height plane0 n can.narrow (omega arith) zeros in
    places (subst (λ (t : Settings). CanStart t (length list) (length plane2) (length bodies)) (sym same) can) (ap (λ (h : Head). h.foods) clear) (ap (λ (h : Head). length h.seats) clear)
    (subst (λ (t : Settings). HasBytes t.width t.height (λ _. 0) plane0) (sym same) empty)
