-- The game of a core of one row.
use Rattle.std.proofs.Common.{◌≡◌, ℕ, [], ◌∷◌, Option, Some, None, refl}
use Rattle.bs_counter.specs.Keys.{TallyId}
use Rattle.bs_sched.specs.declared.games.Games.TheInside.{Inside}
use Rattle.bs_sched.specs.Game.{GameView}
use Rattle.bs_sched.specs.Games.{tally_of}
use Rattle.bs_sched.specs.inner.Assembling.{IsOnly}
use Rattle.bs_sched.specs.inner.GamesLayout.{games_in, tally_before}

only_tally : (tally : Option TallyId) → tally ≡ tally_of (tally_before tally []) 0
only_tally None = refl
only_tally (Some tally) = refl

pub is_only : {at : ℕ} (c : Inside at) (v : GameView) → c.list.items ≡ v ∷ [] → IsOnly (games_in c) v
is_only c v is = rw is (record { lane = refl; packing = refl; numbers = refl; tally = only_tally v.frames.tally })
