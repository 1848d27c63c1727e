use Rattle.std.proofs.Common.{List, length, ap, subst, ◌∙◌}
use Rattle.std.specs.Prelude.{MatchOption}
use Rattle.bs_sched.specs.Game.{GameView}
use Rattle.bs_sched.specs.Games.{GamesView}
use Rattle.bs_sched.specs.inner.GamesLayout.{lanes_in, numbers_in}
use Rattle.bs_sched.specs.inner.Taking.{AreNoneOpenReady, AreNoneReadyBetween, IsReadyJob}
use Rattle.bs_sched.proofs.FoundJobs.{found_before}
use Rattle.bs_sched.proofs.OpenRows.{as_many_numbers, numbers_listed}
use Rattle.bs_sched.proofs.games.Games.search.Goals as goal

pub returns-in-None : goal.returns-in-None
returns-in-None g c =
    let games = c.self.inside.list.items in
    let rows = numbers_in c.as_slice-stays.result.now in
    let from = c.place_from-from.result in
    let many = as_many_numbers c.as_slice-stays.result.now in
    let behind : AreNoneReadyBetween from (length rows) rows (lanes_in games)
    = rw many (subst (λ (xs : List GameView). AreNoneReadyBetween from (length c.as_slice-stays.result.now) rows (lanes_in xs)) c.deref.ensures.value c.in-None.ensures) in
    subst (λ (v : GamesView). MatchOption c.find_job-in-None.result (AreNoneOpenReady v.lanes) (IsReadyJob v.lanes)) c.self.view_is
    (found_before from rows (lanes_in games) c.find_job-in-None.result (ap numbers_in c.as_slice-stays.ensures ∙ numbers_listed c.self.inside.registry (lanes_in games) c.self.invariant.listed) behind
    (subst (λ (xs : List GameView). MatchOption c.find_job-in-None.result (AreNoneReadyBetween 0 from rows (lanes_in xs)) (IsReadyJob (lanes_in xs))) c.deref-in-None.ensures.value c.find_job-in-None.ensures))
