-- What is gathered of stays that were played alone.
use Rattle.std.proofs.Common.{◌≡◌, ◌≢◌, ℕ, suc, ◌+◌, ◌*◌, ◌<◌, ◌≤◌, Bool, true, false, List, [], ◌∷◌, ◌++◌, length, map, Option, Some, None, refl, sym, ap, subst, ◌∙◌, arith}
use Rattle.std.specs.Prelude.{All, AllPairs, slice_index_or}
use Rattle.std.proofs.Math.ListN.{get_or-map}
use Rattle.std.proofs.lemmas.List.{append-nil, append_assoc, length-map, length_push}
use Rattle.std.proofs.lemmas.List.Elements.{All-nil, All-weaker}
use Rattle.std.proofs.lemmas.List.Sums.{sum_by-cons}
use Rattle.bs_board.specs.declared.commands.command.Command.{Command}
use Rattle.bs_board.specs.plans.Plan.{GameRow}
use Rattle.bs_heap.specs.Packing.{Packing, numbers_of}
use Rattle.bs_heap.specs.Renaming.{renamed_packing}
use Rattle.bs_heap.proofs.RenamedHeap.{packing_places}
use Rattle.bs_pool.specs.declared.reservation.Reservation.{Reservation}
use Rattle.bs_pool.specs.Ledger.{Ledger, size}
use Rattle.bs_pool.specs.Woven.{ArePlaces, place_in}
use Rattle.bs_pool.proofs.Woven.{places_grow}
use Rattle.bs_registry.specs.declared.blocks.TheConstants.{MOST_STAYS}
use Rattle.bs_sched.specs.Assembly.{RanAlone}
use Rattle.bs_sched.specs.Core.{CoreView}
use Rattle.bs_sched.specs.Game.{GameView}
use Rattle.bs_sched.specs.LoneStay.{LoneView}
use Rattle.bs_sched.specs.StaysApart.{PlayedStay, all_owners_kept, all_reservations_kept, frames_kept, lane_kept, owners_kept, packing_kept, packings_kept, reservations_kept}
use Rattle.bs_sched.specs.StaysHeld.{blocks_held, blocks_of_pool, lone_of}
use Rattle.bs_sched.specs.Storage.{frame_tag, packing_of, record_tag}
use Rattle.bs_sched.specs.inner.Assembling.{ArePlaced, GatheredView, renamed_game}
use Rattle.bs_sched.specs.inner.Game.{no_game}
use Rattle.bs_sched.specs.inner.GamesLayout.{game_at, lanes_in}
use Rattle.bs_sched.specs.inner.LoneStays.{AreNextStays, AreNumbersOf, IsNextStay, LieInPool, gathered_stay, gathered_stays, laid_if, placed_stay, without_tally}
use Rattle.bs_sched.proofs.ApartNeeds.{held_below}
use Rattle.bs_sched.proofs.ApartReservations.{own_reserved}
use Rattle.bs_sched.proofs.Gathered.{AreBelow, one_lane, pushed, pushed_placed, row_new, still_below}
use Rattle.bs_sched.proofs.Led.{HoldsBlocks, holds_blocks}

-- the game of a stay gets its place

-- places in order are distinct
once_placed : (whole : List (Option ℕ)) (n : ℕ) (numbers : List ℕ) → ArePlaces whole n numbers → AllPairs (λ j k. j ≢ k) numbers
once_placed whole n numbers are i j d less within same =
    let here = are.each i d (omega (arith, less, within)) in
    let there = are.each j d within in
    let grows = places_grow whole i j less in
    let one : place_in whole i ≡ place_in whole j = sym here ∙ same ∙ there in
    omega (arith, one, grows)

pub numbers_within : (packing : Packing) (pool : Option Ledger) (owners : List (Option ℕ)) (numbers : List ℕ) → LieInPool packing pool → AreNumbersOf pool owners numbers
    → All (λ n. n < length numbers) (numbers_of packing)
numbers_within packing None owners numbers lie are =
    subst (λ (p : Packing). All (λ n. n < length numbers) (numbers_of p)) (sym lie) (All-nil (λ n. n < length numbers))
numbers_within packing (Some pool) owners numbers lie are =
    let enough = are.enough in
    All-weaker (λ n. n < size pool) (λ n. n < length numbers) (λ n less. omega (arith, enough, less)) (numbers_of packing) lie.within

pub numbers_once : (pool : Option Ledger) (owners : List (Option ℕ)) (numbers : List ℕ) → AreNumbersOf pool owners numbers → AllPairs (λ j k. j ≢ k) numbers
numbers_once None owners numbers are = subst (AllPairs (λ j k. j ≢ k)) (sym are) (λ i j d less within. absurd (omega (arith, within)))
numbers_once (Some pool) owners numbers are = once_placed owners (size pool) numbers are

packing_placed : (packing : Packing) (pool : Option Ledger) (owners : List (Option ℕ)) (numbers : List ℕ) → LieInPool packing pool → AreNumbersOf pool owners numbers
    → renamed_packing (λ n. slice_index_or numbers n 0) packing ≡ renamed_packing (place_in owners) packing
packing_placed packing None owners numbers lie are =
    subst (λ (p : Packing). renamed_packing (λ n. slice_index_or numbers n 0) p ≡ renamed_packing (place_in owners) p) (sym lie) refl
packing_placed packing (Some pool) owners numbers lie are =
    packing_places owners (size pool) numbers packing are lie.apart (numbers_within packing (Some pool) owners numbers lie are)

pub stay_placed : (row : ℕ) (owners : List (Option ℕ)) (numbers : List ℕ) (v : GameView) (stay : LoneView) → v.lane ≡ stay.lane → v.packing ≡ stay.packing
    → v.frames.numbers ≡ stay.frames → LieInPool stay.packing stay.pool → AreNumbersOf stay.pool owners numbers
    → without_tally (renamed_game row (λ n. slice_index_or numbers n 0) v) ≡ placed_stay row owners stay
stay_placed row owners numbers v stay lane packing frames lie are =
    let packed = ap (renamed_packing (λ n. slice_index_or numbers n 0)) packing ∙ packing_placed stay.packing stay.pool owners numbers lie are in
    (λ i. record {
      tag = record_tag row;
      lane = lane i;
      packing = packed i;
      frames = record { tag = frame_tag row; tally = None; keys = []; numbers = frames i; moved = [] };
    })

-- games without their tallies

pub lanes_same : (games : List GameView) → lanes_in (map without_tally games) ≡ lanes_in games
lanes_same [] = refl
lanes_same (v ∷ games) = ap (λ xs. v.lane ∷ xs) (lanes_same games)

pub packings_same : (games : List GameView) → map (λ (v : GameView). v.packing) (map without_tally games) ≡ map (λ (v : GameView). v.packing) games
packings_same [] = refl
packings_same (v ∷ games) = ap (λ xs. v.packing ∷ xs) (packings_same games)

pub numbers_same : (games : List GameView) → map (λ (v : GameView). v.frames.numbers) (map without_tally games) ≡ map (λ (v : GameView). v.frames.numbers) games
numbers_same [] = refl
numbers_same (v ∷ games) = ap (λ xs. v.frames.numbers ∷ xs) (numbers_same games)

pub placed_same : (games : List GameView) → ArePlaced (map without_tally games) → ArePlaced games
placed_same games placed game less =
    let many = length-map games without_tally in
    let there : game_at (map without_tally games) game ≡ without_tally (game_at games game) = get_or-map without_tally games game no_game in
    let tags = placed game (omega (arith, many, less)) in
    (ap (λ (v : GameView). v.tag) (sym there) ∙ tags.0, ap (λ (v : GameView). v.frames.tag) (sym there) ∙ tags.1)

-- each stay may be gathered in its turn

-- it was played in a core of its own
pub record HasRun (cap workers : ℕ) (core : CoreView) : Type 0 where
  pub row : GameRow
  pub commands : List Command
  pub alone : RanAlone cap workers row commands core

abbrev pub HaveRun : ℕ → ℕ → List PlayedStay → Type 0
HaveRun cap workers [] = Unit {0}
HaveRun cap workers (stay ∷ stays) = HasRun cap workers stay.core × HaveRun cap workers stays

abbrev pub stay_of : CoreView → Bool → PlayedStay
stay_of core leaves = record { core = core; leaves = leaves }

abbrev pub held_by : PlayedStay → ℕ
held_by stay = blocks_of_pool (lone_of stay).pool

pub record MayGatherStay (row : ℕ) (stay : PlayedStay) (g : GatheredView) : Type 0 where
  pub many : length g.games ≡ row
  pub few : row < MOST_STAYS
  pub room : held_by stay ≤ g.assembly.missing
  pub below : AreBelow row g.assembly.ledger.reservations

-- with that stay
pub record GathersStay (row : ℕ) (stay : PlayedStay) (g : GatheredView) : Type 0 where
  pub next : IsNextStay row (lone_of stay) g
  pub lane : (lone_of stay).lane ≡ lane_kept stay
  pub packing : renamed_packing (place_in g.assembly.ledger.owners) (lone_of stay).packing ≡ packing_kept g.assembly.ledger.owners stay
  pub frames : (lone_of stay).frames ≡ frames_kept stay
  pub owners : (laid_if row (lone_of stay).pool g.assembly).ledger.owners ≡ owners_kept row g.assembly.ledger.owners stay
  pub reservations : (laid_if row (lone_of stay).pool g.assembly).ledger.reservations ≡ g.assembly.ledger.reservations ++ reservations_kept row stay
  pub missing : (laid_if row (lone_of stay).pool g.assembly).missing + held_by stay ≡ g.assembly.missing
  pub below : AreBelow (suc row) (laid_if row (lone_of stay).pool g.assembly).ledger.reservations

gathers_stay : (cap workers row : ℕ) (core : CoreView) (leaves : Bool) (g : GatheredView) → HasRun cap workers core → MayGatherStay row (stay_of core leaves) g
    → GathersStay row (stay_of core leaves) g
gathers_stay cap workers row core true g ran may =
    let few = may.few in
    record {
      next = record { few = may.few; idle = ran.alone.idle; lie = refl; room = record {} };
      lane = refl;
      packing = refl;
      frames = refl;
      owners = refl;
      reservations = sym (append-nil g.assembly.ledger.reservations);
      missing = omega arith;
      below = All-weaker (λ (r : Reservation). r.tag < 2 * row) (λ (r : Reservation). r.tag < 2 * suc row) (λ r less. omega (arith, less))
          g.assembly.ledger.reservations may.below;
    }
gathers_stay cap workers row core false g ran may =
    let alone = ran.alone in
    let pool = core.games.storage.pool in
    let room = may.room in
    let reserved = own_reserved cap workers ran.row ran.commands core alone in
    let one = one_lane cap workers ran.row ran.commands core alone in
    let holds : HoldsBlocks core.games.storage 0 = holds_blocks cap core 0 alone.journaled (omega (arith, one)) in
    record {
      next = record {
        few = may.few;
        idle = alone.idle;
        lie = record { within = held_below _ (numbers_of (packing_of core.games.storage 0)) pool holds.records; apart = holds.places };
        room = (may.room, row_new cap row ran.row pool g.assembly.ledger reserved may.below may.few);
      };
      lane = refl;
      packing = refl;
      frames = refl;
      owners = refl;
      reservations = refl;
      missing = omega (arith, room);
      below = still_below cap row ran.row pool g.assembly.ledger reserved may.below;
    }

-- what is gathered in the end

pub record MayGatherStays (row : ℕ) (stays : List PlayedStay) (g : GatheredView) : Type 0 where
  pub many : length g.games ≡ row
  pub few : row + length stays ≤ MOST_STAYS
  pub room : blocks_held (map lone_of stays) ≤ g.assembly.missing
  pub below : AreBelow row g.assembly.ledger.reservations

pub record EndsAsStays (row : ℕ) (stays : List PlayedStay) (g done : GatheredView) : Type 0 where
  pub lanes : lanes_in done.games ≡ lanes_in g.games ++ map lane_kept stays
  pub packings : map (λ (v : GameView). v.packing) done.games ≡ map (λ (v : GameView). v.packing) g.games ++ packings_kept row g.assembly.ledger.owners stays
  pub numbers : map (λ (v : GameView). v.frames.numbers) done.games ≡ map (λ (v : GameView). v.frames.numbers) g.games ++ map frames_kept stays
  pub journals : done.journals ≡ g.journals ++ map (λ (v : LoneView). v.journal) (map lone_of stays)
  pub owners : done.assembly.ledger.owners ≡ all_owners_kept row g.assembly.ledger.owners stays
  pub reservations : done.assembly.ledger.reservations ≡ g.assembly.ledger.reservations ++ all_reservations_kept row stays
  pub missing : done.assembly.missing + blocks_held (map lone_of stays) ≡ g.assembly.missing
  pub placed : ArePlaced done.games

first_may : (row : ℕ) (stay : PlayedStay) (stays : List PlayedStay) (g : GatheredView) → MayGatherStays row (stay ∷ stays) g → MayGatherStay row stay g
first_may row stay stays g may =
    let few = may.few in
    let room = may.room in
    let sum = sum_by-cons (λ (v : LoneView). blocks_of_pool v.pool) (lone_of stay) (map lone_of stays) in
    record { many = may.many; few = omega (arith, few); room = omega (arith, room, sum); below = may.below }

rest_may : (row : ℕ) (stay : PlayedStay) (stays : List PlayedStay) (g : GatheredView) → MayGatherStays row (stay ∷ stays) g → GathersStay row stay g
    → MayGatherStays (suc row) stays (gathered_stay row (lone_of stay) g)
rest_may row stay stays g may one =
    let few = may.few in
    let many = may.many in
    let room = may.room in
    let missing = one.missing in
    let sum = sum_by-cons (λ (v : LoneView). blocks_of_pool v.pool) (lone_of stay) (map lone_of stays) in
    let more = length_push g.games (placed_stay row g.assembly.ledger.owners (lone_of stay)) in
    record { many = omega (arith, more, many); few = omega (arith, few); room = omega (arith, room, sum, missing); below = one.below }

pub may_gather_stays : (cap workers row : ℕ) (stays : List PlayedStay) (g : GatheredView) → HaveRun cap workers stays → MayGatherStays row stays g
    → AreNextStays row (map lone_of stays) g
may_gather_stays cap workers row [] g ran may = record {}
may_gather_stays cap workers row (stay ∷ stays) g ran may =
    let one = gathers_stay cap workers row stay.core stay.leaves g ran.0 (first_may row stay stays g may) in
    (one.next, may_gather_stays cap workers (suc row) stays (gathered_stay row (lone_of stay) g) ran.1 (rest_may row stay stays g may one))

pub ends_as_stays : (cap workers row : ℕ) (stays : List PlayedStay) (g : GatheredView) → HaveRun cap workers stays → MayGatherStays row stays g → ArePlaced g.games
    → EndsAsStays row stays g (gathered_stays row (map lone_of stays) g)
ends_as_stays cap workers row [] g ran may placed =
    record {
      lanes = sym (append-nil (lanes_in g.games));
      packings = sym (append-nil (map (λ (v : GameView). v.packing) g.games));
      numbers = sym (append-nil (map (λ (v : GameView). v.frames.numbers) g.games));
      journals = sym (append-nil g.journals);
      owners = refl;
      reservations = sym (append-nil g.assembly.ledger.reservations);
      missing = omega arith;
      placed = placed;
    }
ends_as_stays cap workers row (stay ∷ stays) g ran may placed =
    let owners = g.assembly.ledger.owners in
    let lone = lone_of stay in
    let v = placed_stay row owners lone in
    let one = gathers_stay cap workers row stay.core stay.leaves g ran.0 (first_may row stay stays g may) in
    let rest = ends_as_stays cap workers (suc row) stays (gathered_stay row lone g) ran.1 (rest_may row stay stays g may one)
    (pushed_placed row g.games v may.many refl refl placed) in
    let sum = sum_by-cons (λ (w : LoneView). blocks_of_pool w.pool) lone (map lone_of stays) in
    let left = rest.missing in
    let missing = one.missing in
    record {
      lanes = rest.lanes ∙ pushed (λ (w : GameView). w.lane) g.games v (map lane_kept stays) ∙ ap (λ x. lanes_in g.games ++ x ∷ map lane_kept stays) one.lane;
      packings = rest.packings ∙ pushed (λ (w : GameView). w.packing) g.games v _
          ∙ (λ i. map (λ (w : GameView). w.packing) g.games ++ one.packing i ∷ packings_kept (suc row) (one.owners i) stays);
      numbers = rest.numbers ∙ pushed (λ (w : GameView). w.frames.numbers) g.games v (map frames_kept stays)
          ∙ ap (λ f. map (λ (w : GameView). w.frames.numbers) g.games ++ f ∷ map frames_kept stays) one.frames;
      journals = rest.journals ∙ append_assoc g.journals (lone.journal ∷ []) (map (λ (w : LoneView). w.journal) (map lone_of stays));
      owners = rest.owners ∙ ap (λ os. all_owners_kept (suc row) os stays) one.owners;
      reservations = rest.reservations ∙ ap (λ rs. rs ++ all_reservations_kept (suc row) stays) one.reservations
          ∙ append_assoc g.assembly.ledger.reservations (reservations_kept row stay) (all_reservations_kept (suc row) stays);
      missing = omega (arith, sum, left, missing);
      placed = rest.placed;
    }
