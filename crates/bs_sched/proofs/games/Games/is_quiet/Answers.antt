use Rattle.std.proofs.Common.{ℕ, List, ap, arith, sym, ◌∙◌}
use Rattle.std.specs.List.{list_all}
use Rattle.bs_sched.specs.Game.{GameView}
use Rattle.bs_sched.specs.Games.{GamesView}
use Rattle.bs_sched.specs.inner.GamesLayout.{lanes_in, numbers_in}
use Rattle.bs_sched.specs.Lane.{Lane, is_quiet}
use Rattle.bs_sched.specs.Machine.{lane_of}
use Rattle.bs_sched.proofs.ListedGames.{lane_at, many_lanes}
use Rattle.bs_sched.proofs.OpenRows.{all_among, numbers_listed}
use Rattle.bs_sched.proofs.games.Games.is_quiet.Goals as goal

pub returns : goal.returns
returns g c =
    let games = c.self.inside.list.items in
    let many = many_lanes games in
    c.are_quiet.ensures
    ∙ ap (λ (xs : List GameView). list_all (λ (game : ℕ). is_quiet (lane_of (lanes_in xs) game)) (numbers_in c.as_slice.result.now)) c.deref.ensures.value
    ∙ ap (list_all (λ (game : ℕ). is_quiet (lane_of (lanes_in games) game)))
    (ap numbers_in c.as_slice.ensures ∙ numbers_listed c.self.inside.registry (lanes_in games) c.self.invariant.listed)
    ∙ all_among is_quiet (lanes_in games)
    (λ game less shut.
    let lane = lane_at games game in
    ap is_quiet lane ∙ c.self.invariant.gone game (omega (arith, less, many)) (ap (λ (x : Lane). x.is_open) (sym lane) ∙ shut))
    ∙ ap (λ (v : GamesView). list_all is_quiet v.lanes) c.self.view_is
