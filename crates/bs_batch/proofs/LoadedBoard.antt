-- A board that is loaded.
use Rattle.std.proofs.Common.{◌≡◌, ◌≢◌, ℕ, ◌+◌, ◌*◌, ◌<◌, ◌≤◌, Bool, true, false, List, [], ◌∷◌, length, drop, get_or, replicate, All, MatchOption, Option, Some, None, refl, subst, sym, ap, ◌∙◌, arith}
use Rattle.std.specs.Prelude.{is_none, is_some}
use Rattle.std.proofs.lemmas.Bool.{and_parts}
use Rattle.std.proofs.lemmas.List.{get_or-replicate, length-replicate}
use Rattle.std.proofs.lemmas.List.Elements.{All-cons, All-nil, All-weaker}
use Rattle.std.proofs.lemmas.List.Sums.{AllPass-from_list_all}
use Rattle.bs_board.specs.declared.boards.board.Board.{Board}
use Rattle.bs_board.specs.declared.boards.hazards.Hazards.{Hazards}
use Rattle.bs_board.specs.declared.boards.point.Point.{Point}
use Rattle.bs_board.specs.declared.boards.snake.Cause.{Cause}
use Rattle.bs_board.specs.declared.boards.snake.Cause.TheVariants.{OutOfHealth, WallCollision, SelfCollision, BodyCollision, HeadCollision, Hazard}
use Rattle.bs_board.specs.declared.boards.snake.Snake.{Snake}
use Rattle.bs_board.specs.boards.Cell.{are_distinct_cells, head_of, is_on_board}
use Rattle.std.specs.List.{list_all}
use Rattle.bs_board.specs.boards.Legal.{IsKillerOf, IsLegal, IsLegalLiving, IsLegalOut, IsLegalSnake, is_head_of, is_near}
use Rattle.bs_board.specs.boards.Wrap.{is_wrapped}
use Rattle.bs_board.proofs.records.Longest.{side_fits}
use Rattle.bs_rules.specs.Collision.{nobody, snake_at}
use Rattle.bs_rules.proofs.Movable.{near_from_on_board}
use Rattle.bs_batch.specs.declared.layout.Head.{Head}
use Rattle.bs_batch.specs.declared.layout.Settings.{Settings}
use Rattle.bs_batch.specs.declared.loading.Misfit.TheVariants.{Room}
use Rattle.bs_batch.specs.Counts.{HasBytes}
use Rattle.bs_batch.specs.Living.{CountsBoard, ShowsCauses}
use Rattle.bs_batch.specs.Loading.{cleared, misfit_of}
use Rattle.bs_batch.specs.Shown.{ShowsGame}
use Rattle.bs_batch.specs.Numbers.{number_of}
use Rattle.bs_batch.specs.Shown.{ShowsSettings}
use Rattle.bs_batch.specs.inner.Loading.{AreNear, CanLoad, CanLoadBoard, CellsLoaded, IsSeatOfEight, LoadsCells, LoadsFood, LoadsSnakes}
use Rattle.bs_batch.proofs.Numbers.{number_fits}

head_of_out : (cause : Cause) (wraps : Bool) (w h : ℕ) (p : Point) → is_head_of wraps cause w h p ≡ true → is_near w h p ≡ true
head_of_out OutOfHealth true w h p head = near_from_on_board w h p head
head_of_out OutOfHealth false w h p head = head
head_of_out WallCollision true w h p head = absurd cc
head_of_out WallCollision false w h p head = (and_parts (is_near w h p) _ head).0
head_of_out SelfCollision wraps w h p head = near_from_on_board w h p head
head_of_out BodyCollision wraps w h p head = near_from_on_board w h p head
head_of_out HeadCollision wraps w h p head = near_from_on_board w h p head
head_of_out Hazard wraps w h p head = near_from_on_board w h p head

head_is_near : (b : Board) (seat : ℕ) (s : Snake) (cause : Option Cause) → MatchOption cause (IsLegalLiving b s) (IsLegalOut b seat s)
    → is_near b.width b.height (head_of s.body) ≡ true
head_is_near b seat s None state = near_from_on_board b.width b.height (head_of s.body) state.head
head_is_near b seat s (Some cause) state = head_of_out cause (is_wrapped b.mode) b.width b.height (head_of s.body) state.head

near_body : (w h : ℕ) (body : List Point) → is_near w h (head_of body) ≡ true → All (λ p. is_near w h p ≡ true) (drop 1 body)
    → All (λ p. is_near w h p ≡ true) body
near_body w h [] head rest = All-nil (λ p. is_near w h p ≡ true)
near_body w h (p ∷ ps) head rest = All-cons (λ p. is_near w h p ≡ true) p ps head rest

seat_of_killer : (cause : Cause) (seats seat : ℕ) (killer : Option ℕ) → seats ≤ 8 → seat < seats → IsKillerOf cause seats seat killer → IsSeatOfEight killer
seat_of_killer cause seats seat None few within is = tt
seat_of_killer OutOfHealth seats seat (Some k) few within is = absurd cc
seat_of_killer WallCollision seats seat (Some k) few within is = absurd cc
seat_of_killer SelfCollision seats seat (Some k) few within is = let e : k ≡ seat = cc in omega arith
seat_of_killer BodyCollision seats seat (Some k) few within is = let l = is.0 in omega arith
seat_of_killer HeadCollision seats seat (Some k) few within is = let l = is.0 in omega arith
seat_of_killer Hazard seats seat (Some k) few within is = absurd cc

pub killer_of_legal : (b : Board) (seat : ℕ) (s : Snake) (cause : Option Cause) → length b.snakes ≤ 8 → seat < length b.snakes
    → MatchOption cause (IsLegalLiving b s) (IsLegalOut b seat s) → IsSeatOfEight s.killer
killer_of_legal b seat s None few within state = rw state.killer tt
killer_of_legal b seat s (Some cause) few within state = seat_of_killer cause (length b.snakes) seat s.killer few within state.killer

not_hazard : (b : Board) (seat : ℕ) (s : Snake) (cause : Option Cause) → is_some b.hazards ≡ false → MatchOption cause (IsLegalLiving b s) (IsLegalOut b seat s)
    → cause ≢ Some Hazard
not_hazard b seat s None none state e = absurd cc
not_hazard b seat s (Some OutOfHealth) none state e = absurd cc
not_hazard b seat s (Some WallCollision) none state e = absurd cc
not_hazard b seat s (Some SelfCollision) none state e = absurd cc
not_hazard b seat s (Some BodyCollision) none state e = absurd cc
not_hazard b seat s (Some HeadCollision) none state e = absurd cc
not_hazard b seat s (Some Hazard) none state e = let h : is_some b.hazards ≡ true = state.hazard in absurd cc

can_load_snake : (b : Board) (seat : ℕ) (s : Snake) → length b.snakes ≤ 8 → seat < length b.snakes → b.width ≤ 25 → b.height ≤ 25 → is_some b.hazards ≡ false
    → IsLegalSnake b seat s → CanLoad b.width b.height s
can_load_snake b seat s few within wide high none legal =
    let on = All-weaker (λ p. is_on_board b.width b.height p ≡ true) (λ p. is_near b.width b.height p ≡ true) (λ p. near_from_on_board b.width b.height p) (drop 1 s.body)
    legal.body.inside in
    record {
      body = record { narrow = wide; low = high; near = near_body b.width b.height s.body (head_is_near b seat s s.cause legal.state) on };
      killer = killer_of_legal b seat s s.cause few within legal.state;
      cause = not_hazard b seat s s.cause none legal.state;
    }

-- the cells of a legal board without hazards
pub can_load : (b : Board) → IsLegal b → is_some b.hazards ≡ false → CanLoadBoard b
can_load b legal none =
    let wide = side_fits b.width legal.limits.width in
    let high = side_fits b.height legal.limits.height in
    let food = and_parts (list_all (is_on_board b.width b.height) b.food) (are_distinct_cells b.food) legal.food.fits in
    record {
      food = record {
        narrow = wide;
        low = high;
        near = All-weaker (λ p. is_on_board b.width b.height p ≡ true) (λ p. is_near b.width b.height p ≡ true) (λ p. near_from_on_board b.width b.height p) b.food
            (AllPass-from_list_all (is_on_board b.width b.height) b.food food.0);
      };
      snakes = λ k d within. can_load_snake b k (get_or b.snakes k d) legal.limits.few within wide high none (legal.snakes k d within);
      few = legal.limits.few;
    }

-- the food and the bodies of a legal board
pub food_near : (b : Board) → IsLegal b → AreNear b.width b.height b.food
food_near b legal =
    let food = and_parts (list_all (is_on_board b.width b.height) b.food) (are_distinct_cells b.food) legal.food.fits in
    record {
      narrow = side_fits b.width legal.limits.width;
      low = side_fits b.height legal.limits.height;
      near = All-weaker (λ p. is_on_board b.width b.height p ≡ true) (λ p. is_near b.width b.height p ≡ true) (λ p. near_from_on_board b.width b.height p) b.food
          (AllPass-from_list_all (is_on_board b.width b.height) b.food food.0);
    }

pub body_near : (b : Board) (seat : ℕ) → IsLegal b → seat < length b.snakes → AreNear b.width b.height (snake_at b.snakes seat).body
body_near b seat legal within =
    let s = snake_at b.snakes seat in
    let one = legal.snakes seat nobody within in
    record {
      narrow = side_fits b.width legal.limits.width;
      low = side_fits b.height legal.limits.height;
      near = near_body b.width b.height s.body (head_is_near b seat s s.cause one.state)
          (All-weaker (λ p. is_on_board b.width b.height p ≡ true) (λ p. is_near b.width b.height p ≡ true) (λ p. near_from_on_board b.width b.height p) (drop 1 s.body)
          one.body.inside);
    }

-- a plane of zeros
pub no_bytes : (width height : ℕ) (plane : List ℕ) (n : ℕ) → width ≤ 25 → (height + 2) * 32 ≤ n → plane ≡ replicate n 0 → HasBytes width height (λ _. 0) plane
no_bytes width height plane n narrow room zeros = rw zeros (record {
  narrow = narrow;
  room = let long : length (replicate {A = ℕ} n 0) ≡ n = length-replicate n 0 in omega arith;
  bytes = λ p near. let fits = number_fits width height p narrow near in get_or-replicate n (number_of p) 0 0 (omega arith);
})

-- food that does not fit
pub food_refused : (b : Board) (head head' : Head) (plane0 plane bodies list : List ℕ) (cells : List Point) (result : Bool) → cells ≡ b.food → result ≡ false
    → LoadsFood cells head plane0 head' list plane result → LoadsCells b head plane0 head' list plane bodies false
food_refused b head head' plane0 plane bodies list cells result same fails loads can small few eight has =
    let loaded = subst (λ (cs : List Point). LoadsFood cs head plane0 head' list plane result) same loads b.width b.height can.food small has in
    record {
      fits = (λ t. absurd cc, λ fits. let holds = loaded.fits.1 fits.cells in absurd cc);
      food = λ t. absurd cc;
      snakes = λ t. absurd cc;
      bytes = λ t. absurd cc;
      rest = loaded.rest ∙ ap (λ seats. record head { foods = head'.foods; seats = seats }) (sym (ap (λ (h : Head). h.seats) loaded.rest));
      eight = ap (λ (h : Head). length h.seats) loaded.rest ∙ eight;
    }

pub cells_loaded : (b : Board) (head head1 head2 : Head) (plane0 plane1 plane2 bodies0 bodies list : List ℕ) (cells : List Point) (snakes : List Snake) (one two : Bool) → cells ≡ b.food
    → snakes ≡ b.snakes → one ≡ true → length bodies ≡ length bodies0 → LoadsFood cells head plane0 head1 list plane1 one
    → LoadsSnakes snakes head1 bodies0 plane1 head2 bodies plane2 two → LoadsCells b head plane0 head2 list plane2 bodies two
cells_loaded b head head1 head2 plane0 plane1 plane2 bodies0 bodies list cells snakes one two same_food same_snakes holds long first second can small few eight has =
    let food = subst (λ (cs : List Point). LoadsFood cs head plane0 head1 list plane1 one) same_food first b.width b.height can.food small has in
    let eight1 : length head1.seats ≡ 8 = ap (λ (h : Head). length h.seats) food.rest ∙ eight in
    let all = subst (λ (ss : List Snake). LoadsSnakes ss head1 bodies0 plane1 head2 bodies plane2 two) same_snakes second b.width b.height b.food can.snakes can.few (omega arith)
    eight1 (food.bytes holds) in
    let foods : head2.foods ≡ head1.foods = ap (λ (h : Head). h.foods) all.rest in
    record {
      fits = (λ t. let both = all.fits.0 t in record { cells = food.fits.0 holds; short = both.0; few = both.1 }, λ fits. all.fits.1 (fits.short, fits.few));
      food = λ _. rw foods (food.shows holds);
      snakes = all.shows;
      bytes = all.bytes;
      rest = all.rest ∙ ap (λ (h : Head). record h { seats = head2.seats }) food.rest ∙ ap (λ (n : ℕ). record head { foods = n; seats = head2.seats }) (sym foods);
      eight = all.eight;
    }

-- the game of a board whose cells are loaded
pub shows_game : (b : Board) (settings : Settings) (head1 head2 head3 : Head) (list plane bodies : List ℕ) (result : Bool) → head1 ≡ cleared settings → ShowsSettings settings b
    → result ≡ true → CellsLoaded b head1 head2 list plane bodies result → CountsBoard (record head2 { turn = b.turn }) head3 → ShowsGame head3 list plane bodies b
shows_game b settings head1 head2 head3 list plane bodies result clear shows holds cells counts =
    let same : head2.settings ≡ settings = ap (λ (h : Head). h.settings) cells.rest ∙ ap (λ (h : Head). h.settings) clear in
    let causes : ShowsCauses (record head2 { turn = b.turn }) b.snakes = record {
      seats = ap (λ (s : Settings). s.seats) same ∙ shows.seats;
      causes = λ seat within. (cells.snakes holds seat within).cause;
    } in
    let now = counts b (ap (λ (s : Settings). s.mode) same ∙ shows.mode) causes in
    subst (λ (h : Head). ShowsGame h list plane bodies b) (sym now) (record {
      seats = record {
        settings = rw same shows;
        turn = refl;
        eight = cells.eight;
        snakes = cells.snakes holds;
        counts = cells.bytes holds;
      };
      food = cells.food holds;
      living = refl;
      over = refl;
    })

-- no hazards, and a misfit for want of room
pub room_is : (b : Board) → is_some b.hazards ≡ false → Room ≡ misfit_of b
room_is b none = rw none refl

pub none_is : (hazards : Option Hazards) → is_some hazards ≡ false → is_none hazards ≡ true
none_is None fails = refl
none_is (Some h) fails = absurd cc

pub no_hazards : {X : Type 0} (hazards : Option X) → is_some hazards ≡ false → hazards ≡ None
no_hazards None none = refl
no_hazards (Some h) none = absurd cc
