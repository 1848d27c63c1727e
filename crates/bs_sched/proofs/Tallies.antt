-- The tallies of all stays, after one of them changed.
use Rattle.std.proofs.Common.{◌≡◌, ◌≢◌, ℕ, zero, suc, ◌+◌, ◌<◌, List, [], ◌∷◌, ◌++◌, length, map, Option, Some, None, refl, ap, ◌∙◌, sym}
use Rattle.std.specs.Prelude.{slice_set}
use Rattle.std.proofs.lemmas.List.{get_or-set_other, get_or-set_same}
use Rattle.std.proofs.lemmas.List.{map_push}
use Rattle.std.proofs.Math.ListN.{get_or-map}
use Rattle.std.proofs.Math.Seq.{map-set_same}
use Rattle.bs_counter.specs.Keys.{Key, TallyId}
use Rattle.bs_fiber.specs.declared.job.JobKind.{JobKind}
use Rattle.bs_fiber.specs.declared.job.JobKind.TheVariants as kind
use Rattle.bs_board.specs.plans.Plan.{GameRow}
use Rattle.bs_sched.specs.Game.{GameView}
use Rattle.bs_sched.specs.inner.Game.{no_game, opened_game, taken_game}
use Rattle.bs_sched.specs.Games.{tally_of}
use Rattle.bs_sched.specs.inner.GamesLayout.{game_at, opened_games, opened_games_from, tallies_in, tally_before, trimmed}

abbrev tally_in : GameView → Option TallyId
tally_in v = v.frames.tally

-- what is read is not changed by what is left out

before_at : (tally : Option TallyId) (tallies : List (Option TallyId)) (game : ℕ) → tally_of (tally_before tally tallies) game ≡ tally_of (tally ∷ tallies) game
before_at None [] zero = refl
before_at None [] (suc game) = refl
before_at None (next ∷ tallies) game = refl
before_at (Some tally) tallies game = refl

trimmed_at : (tallies : List (Option TallyId)) (game : ℕ) → tally_of (trimmed tallies) game ≡ tally_of tallies game
trimmed_at [] game = refl
trimmed_at (tally ∷ tallies) zero = before_at tally (trimmed tallies) zero
trimmed_at (tally ∷ tallies) (suc game) = before_at tally (trimmed tallies) (suc game) ∙ trimmed_at tallies game

tally_at : (games : List GameView) (game : ℕ) → tally_of (tallies_in games) game ≡ (game_at games game).frames.tally
tally_at games game = trimmed_at (map tally_in games) game ∙ get_or-map tally_in games game no_game

pub tally_there : (games : List GameView) (game : ℕ) (w : GameView) → game < length games → tally_of (tallies_in (slice_set games game w)) game ≡ w.frames.tally
tally_there games game w within = tally_at (slice_set games game w) game ∙ ap tally_in (get_or-set_same games game w no_game within)

-- a game of the same tally
pub same_tallies : (game : ℕ) (games : List GameView) (v w : GameView) → v ≡ game_at games game → w.frames.tally ≡ v.frames.tally
    → tallies_in (slice_set games game w) ≡ tallies_in games
same_tallies game games v w is tally =
    ap (λ (ts : List (Option TallyId)). trimmed ts) (map-set_same tally_in games game w no_game (tally ∙ ap tally_in is))

-- a job is taken
pub keeps_tallies : (k : JobKind) (game worker p number : ℕ) (games : List GameView) (tally : Option TallyId) (keys : List Key) (v w : GameView)
    → v ≡ game_at games game → w ≡ taken_game worker (record { game = game; kind = k; part = p }) number tally keys v
    → (other : ℕ) → (k ≡ kind.Begin → other ≢ game) → tally_of (tallies_in (slice_set games game w)) other ≡ tally_of (tallies_in games) other
keeps_tallies kind.Begin game worker p number games tally keys v w is taken other apart =
    tally_at (slice_set games game w) other ∙ ap tally_in (get_or-set_other games game other w no_game (apart refl)) ∙ sym (tally_at games other)
keeps_tallies kind.Part game worker p number games tally keys v w is taken other apart =
    ap (λ (ts : List (Option TallyId)). tally_of ts other) (same_tallies game games v w is (ap tally_in taken))
keeps_tallies kind.Join game worker p number games tally keys v w is taken other apart =
    ap (λ (ts : List (Option TallyId)). tally_of ts other) (same_tallies game games v w is (ap tally_in taken))

-- a stay comes

none_behind : (tallies : List (Option TallyId)) → trimmed (tallies ++ None ∷ []) ≡ trimmed tallies
none_behind [] = refl
none_behind (tally ∷ tallies) = ap (tally_before tally) (none_behind tallies)

pub tallies_come : (games : List GameView) (game : ℕ) (row : GameRow) → tallies_in (games ++ opened_game game row ∷ []) ≡ tallies_in games
tallies_come games game row = ap (λ (ts : List (Option TallyId)). trimmed ts) (map_push tally_in games (opened_game game row)) ∙ none_behind (map tally_in games)

-- the games are opened

none_opened : (from : ℕ) (rows : List GameRow) → tallies_in (opened_games_from from rows) ≡ []
none_opened from [] = refl
none_opened from (row ∷ rows) = ap (tally_before None) (none_opened (from + 1) rows)

pub opened_tallies : (rows : List GameRow) → tallies_in (opened_games rows) ≡ []
opened_tallies rows = none_opened 0 rows
