use Rattle.std.proofs.Common.{◌≡◌, ℕ, ◌<◌, length, ap, subst, ◌∙◌, arith, get_or}
use Rattle.std.specs.Prelude.{◌↔◌, IsTrue}
use Rattle.bs_fiber.specs.declared.job.JobName.{JobName}
use Rattle.bs_fiber.specs.Tickets.{TicketView}
use Rattle.bs_sched.specs.Game.{GameView}
use Rattle.bs_sched.specs.inner.Game.{IsOwnTicket}
use Rattle.bs_sched.specs.Games.{GamesView}
use Rattle.bs_sched.proofs.ChangedGames.{own_at_stay, stay_there}
use Rattle.bs_sched.proofs.ListedGames.{many_lanes}
use Rattle.bs_sched.proofs.games.Games.is_own.Goals as goal

pub returns : goal.returns
returns g c =
    let inside = c.self.inside in
    let games = inside.list.items in
    let v : GameView = c.index.result.now in
    let ticket : TicketView = c.args.done.now in
    let game : c.job-game.result.game ≡ ticket.input.job.game = ap (λ (j : JobName). j.game) c.job-game.ensures ∙ ap (λ (t : TicketView). t.input.job.game) c.ticket-ticket.ensures in
    let many = many_lanes games in
    let same = ap (λ (u : GamesView). length u.lanes) c.self.view_is in
    let all = c.len.ensures ∙ inside.list.ok.0 in
    let within = c.if-game-len.false in
    let less : ticket.input.job.game < length c.args.self.now.lanes = omega (arith, game, many, same, all, within) in
    let read = subst (λ (k : ℕ). v ≡ get_or games k v) game c.index.ensures in
    let here = stay_there inside c.args.self.now ticket.input.job.game v c.self.view_is less read in
    let own = subst (λ (t : TicketView). IsTrue c.is_own.result ↔ IsOwnTicket v c.args.worker t) c.ticket-ticket.ensures c.is_own.ensures in
    let both = own_at_stay g.row.CAP inside c.args.self.now c.args.worker ticket v c.self.invariant c.self.view_is here in
    (λ yes. both.0 (own.0 yes), λ is. own.1 (both.1 is))
