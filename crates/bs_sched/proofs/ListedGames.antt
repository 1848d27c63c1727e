-- The games of a list: what is read of one of them, and the list after one has changed.
use Rattle.std.proofs.Common.{◌≡◌, ℕ, ◌<◌, List, length, map, refl, sym, ap, subst, ◌∙◌, get_or}
use Rattle.std.specs.Prelude.{All, slice_set}
use Rattle.std.proofs.lemmas.List.{length-map, map-set}
use Rattle.std.proofs.Math.Seq.{map-set_same}
use Rattle.std.proofs.Math.ListN.{get_or-map}
use Rattle.std.proofs.lemmas.Option.{slice_get_read, get_or_from_slice_get}
use Rattle.bs_pool.specs.Ledger.{Ledger}
use Rattle.bs_sched.specs.Game.{GameView}
use Rattle.bs_sched.specs.inner.Game.{no_game}
use Rattle.bs_registry.specs.Registry.{Listing, seen}
use Rattle.bs_registry.specs.OpenStays.{open_stays_of}
use Rattle.bs_sched.specs.Registry.{registry_of}
use Rattle.bs_sched.specs.inner.GamesLayout.{game_at, lanes_in, storage_in}
use Rattle.bs_sched.specs.Machine.{lane_of}
use Rattle.bs_sched.specs.Storage.{frames_of, packing_of}
use Rattle.bs_sched.proofs.OpenRows.{listed_within, numbers_listed}

-- an element read within a list is the same, whatever the default
pub read_at : {X : Type 0} (xs : List X) (i : ℕ) (x d : X) → i < length xs → x ≡ get_or xs i x → x ≡ get_or xs i d
read_at xs i x d within is = sym (get_or_from_slice_get xs i x d (slice_get_read xs (length xs) i x refl within is))

pub many_lanes : (games : List GameView) → length (lanes_in games) ≡ length games
many_lanes games = length-map games (λ (v : GameView). v.lane)

pub lane_at : (games : List GameView) (game : ℕ) → lane_of (lanes_in games) game ≡ (game_at games game).lane
lane_at games game = get_or-map (λ (v : GameView). v.lane) games game no_game

pub lane_read : (games : List GameView) (game : ℕ) (v : GameView) → game < length games → v ≡ get_or games game v → lane_of (lanes_in games) game ≡ v.lane
lane_read games game v within is = lane_at games game ∙ ap (λ (w : GameView). w.lane) (sym (read_at games game v no_game within is))

pub packing_at : (games : List GameView) (game : ℕ) (pool : Ledger) → packing_of (storage_in games pool) game ≡ (game_at games game).packing
packing_at games game pool = get_or-map (λ (v : GameView). v.packing) games game no_game

pub numbers_at : (games : List GameView) (game : ℕ) (pool : Ledger) → frames_of (storage_in games pool) game ≡ (game_at games game).frames.numbers
numbers_at games game pool = get_or-map (λ (v : GameView). v.frames.numbers) games game no_game

-- after one game has changed

pub lanes_set : (games : List GameView) (game : ℕ) (w : GameView) → lanes_in (slice_set games game w) ≡ slice_set (lanes_in games) game w.lane
lanes_set games game w = map-set (λ (v : GameView). v.lane) games game w

pub packings_set : (games : List GameView) (game : ℕ) (w : GameView)
    → map (λ (v : GameView). v.packing) (slice_set games game w) ≡ slice_set (map (λ (v : GameView). v.packing) games) game w.packing
packings_set games game w = map-set (λ (v : GameView). v.packing) games game w

pub numbers_set : (games : List GameView) (game : ℕ) (w : GameView)
    → map (λ (v : GameView). v.frames.numbers) (slice_set games game w) ≡ slice_set (map (λ (v : GameView). v.frames.numbers) games) game w.frames.numbers
numbers_set games game w = map-set (λ (v : GameView). v.frames.numbers) games game w

pub same_packings : (games : List GameView) (game : ℕ) (w : GameView) → w.packing ≡ (game_at games game).packing
    → map (λ (v : GameView). v.packing) (slice_set games game w) ≡ map (λ (v : GameView). v.packing) games
same_packings games game w same = map-set_same (λ (v : GameView). v.packing) games game w no_game same

pub same_numbers : (games : List GameView) (game : ℕ) (w : GameView) → w.frames.numbers ≡ (game_at games game).frames.numbers
    → map (λ (v : GameView). v.frames.numbers) (slice_set games game w) ≡ map (λ (v : GameView). v.frames.numbers) games
same_numbers games game w same = map-set_same (λ (v : GameView). v.frames.numbers) games game w no_game same

-- the listed stays are games of the list
pub listed_games : {X : Type 0} (stays : Listing X) (games : List GameView) → seen stays ≡ open_stays_of (registry_of (lanes_in games))
    → All (λ stay. stay.number < length games) stays.stays
listed_games stays games is =
    subst (λ (many : ℕ). All (λ stay. stay.number < many) stays.stays) (many_lanes games) (listed_within stays.stays (lanes_in games) (numbers_listed stays (lanes_in games) is))
