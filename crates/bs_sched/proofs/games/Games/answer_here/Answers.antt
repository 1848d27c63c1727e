use Rattle.std.proofs.Common.{◌≡◌, true, sym, ap, subst, ◌∙◌, arith}
use Rattle.std.specs.Prelude.{slice_set}
use Rattle.bs_fiber.specs.declared.job.JobKind.TheVariants as kind
use Rattle.bs_sched.specs.Answering.{AreNextParts, answer_events, begun, begin_job}
use Rattle.bs_sched.specs.Game.{GameView}
use Rattle.bs_sched.specs.Games.{GamesView}
use Rattle.bs_sched.specs.Lane.{Lane, answered, is_ready}
use Rattle.bs_sched.specs.Machine.{lane_of}
use Rattle.bs_sched.specs.inner.Answering.{games_after, game_here, number_behind, pool_here}
use Rattle.bs_sched.specs.inner.GamesLayout.{lanes_in}
use Rattle.bs_sched.proofs.ChangedGames.{IsAtStay, at_ready, sound_game, stay_there}
use Rattle.bs_sched.proofs.HereRun.{IsStanding, here_same, here_view}
use Rattle.bs_sched.proofs.ListedGames.{lanes_set}
use Rattle.bs_sched.proofs.Results.{on_both, on_ok}
use Rattle.bs_sched.proofs.games.Games.answer_here.Given.{Over}
use Rattle.bs_sched.proofs.games.Games.answer_here.Goals as goal

here_stay : (g : Over) (c : goal.After-self-1 g) → IsAtStay g.row.CAP c.self.inside c.args.self.now c.args.game c.index_mut.result.now
here_stay g c =
    at_ready g.row.CAP c.self.inside c.args.self.now (begin_job c.args.game) c.index_mut.result.now c.self.invariant
    (stay_there c.self.inside c.args.self.now c.args.game c.index_mut.result.now c.self.view_is c.requires.game c.index_mut.ensures.value) c.requires.ready

pub answer_here-requires : goal.answer_here-requires
answer_here-requires g c =
    let v = c.index_mut.result.now in
    let here = stay_there c.self.inside c.args.self.now c.args.game v c.self.view_is c.requires.game c.index_mut.ensures.value in
    let at = at_ready g.row.CAP c.self.inside c.args.self.now (begin_job c.args.game) v c.self.invariant here c.requires.ready in
    (omega arith, (omega arith, (subst (λ (x : Lane). is_ready x kind.Begin 0 ≡ true) at.here.lane c.requires.ready, (c.requires.parts.few, at.row.blocks))))

pub invariant_of-self : goal.invariant_of-self
invariant_of-self g c =
    let at = here_stay g c in
    let v = c.index_mut.result.now in
    let w = c.answer_here.new.self in
    let did = c.answer_here.ensures in
    sound_game g.row.CAP c.self.inside c.args.game v w c.answer_here.new.pool c.self.invariant at.here.within at.here.there at.stands
    (here_same c.answer_here.result v w g.row.CAP (number_behind v.frames.tag c.args.parts c.self.inside.pool) did.game did.err) did.blocks did.others

pub returns-clause-ok : goal.returns-clause-ok
returns-clause-ok g c =
    let at = here_stay g c in
    let inside = c.self.inside in
    let v = c.index_mut.result.now in
    let w = c.answer_here.new.self in
    let n = c.args.parts in
    let game = c.args.game in
    let standing : IsStanding inside game v = record { within = at.here.within; there = at.here.there; tag = at.row.tag; frames = at.row.frame_tag_is } in
    let are = subst (λ (x : Lane). AreNextParts x n) at.here.lane c.requires.parts in
    on_ok c.answer_here.result
    (λ (is : (w ≡ game_here g.row.CAP (number_behind v.frames.tag n inside.pool) v) × (c.answer_here.new.pool ≡ pool_here g.row.CAP n v inside.pool)) worker.
    here_view g.row.CAP worker game n inside v w c.answer_here.new.pool standing c.answer_here.ensures.idle are is.0 is.1
    ∙ ap (λ (u : GamesView). games_after g.row.CAP u (answer_events worker game n)) c.self.view_is)
    (on_both _ _ c.answer_here.result c.answer_here.ensures.game c.answer_here.ensures.pool)

pub returns-clause-lanes : goal.returns-clause-lanes
returns-clause-lanes g c =
    let at = here_stay g c in
    let inside = c.self.inside in
    let v = c.index_mut.result.now in
    let w = c.answer_here.new.self in
    let game = c.args.game in
    on_ok c.answer_here.result
    (λ (is : w ≡ game_here g.row.CAP (number_behind v.frames.tag c.args.parts inside.pool) v).
    lanes_set inside.list.items game w
    ∙ ap (λ (x : Lane). slice_set (lanes_in inside.list.items) game x)
    (ap (λ (u : GameView). u.lane) is ∙ ap (λ (x : Lane). answered (begun x)) (sym at.here.lane))
    ∙ ap (λ (u : GamesView). slice_set u.lanes game (answered (begun (lane_of c.args.self.now.lanes game)))) c.self.view_is)
    c.answer_here.ensures.game
