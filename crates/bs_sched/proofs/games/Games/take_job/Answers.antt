use Rattle.std.proofs.Common.{◌≡◌, true, sym, ap, subst, ◌∙◌, arith}
use Rattle.std.specs.Prelude.{slice_set}
use Rattle.std.proofs.lemmas.Result.{IfOk-weaker}
use Rattle.bs_heap.specs.HeldBlocks.{next_number}
use Rattle.bs_sched.specs.inner.Frames.{pool_taken}
use Rattle.bs_sched.specs.inner.Game.{taken_game}
use Rattle.bs_sched.specs.Games.{GamesView, games_taken, tally_of}
use Rattle.bs_sched.specs.inner.GamesLayout.{tallies_in}
use Rattle.bs_sched.specs.Inputs.{input_of}
use Rattle.bs_sched.specs.Lane.{Lane, is_ready}
use Rattle.bs_sched.proofs.ChangedGame.{leaves_more}
use Rattle.bs_sched.proofs.ChangedGames.{IsAtStay, at_ready, lane_set, names_set, sound_game, stay_there, taken_stay, taken_view}
use Rattle.bs_sched.proofs.Results.{on_both, on_ok}
use Rattle.bs_sched.proofs.Tallies.{keeps_tallies, tally_there}
use Rattle.bs_sched.proofs.games.Games.take_job.Given.{Over}
use Rattle.bs_sched.proofs.games.Games.take_job.Goals as goal

ready_stay : (g : Over) (c : goal.After-self-1 g) → IsAtStay g.row.CAP c.self.inside c.args.self.now c.args.job.game c.index_mut.result.now
ready_stay g c =
    at_ready g.row.CAP c.self.inside c.args.self.now c.args.job c.index_mut.result.now c.self.invariant
    (stay_there c.self.inside c.args.self.now c.args.job.game c.index_mut.result.now c.self.view_is c.requires.game c.index_mut.ensures.value) c.requires.ready

pub take-requires : goal.take-requires
take-requires g c =
    let v = c.index_mut.result.now in
    let here = stay_there c.self.inside c.args.self.now c.args.job.game v c.self.view_is c.requires.game c.index_mut.ensures.value in
    let at = at_ready g.row.CAP c.self.inside c.args.self.now c.args.job v c.self.invariant here c.requires.ready in
    (omega arith, (omega arith, (omega arith, (omega arith, (omega arith, (subst (λ (x : Lane). is_ready x c.args.job.kind c.args.job.part ≡ true) at.here.lane c.requires.ready, at.row.blocks))))))

pub invariant_of-self : goal.invariant_of-self
invariant_of-self g c =
    let at = ready_stay g c in
    let v = c.index_mut.result.now in
    let w = c.take.new.self in
    let took = c.take.ensures in
    let same = taken_stay c.take.result v w c.args.worker c.args.job (next_number c.self.inside.pool) w.frames.tally w.frames.keys took.ok took.err in
    sound_game g.row.CAP c.self.inside c.args.job.game v w c.take.new.pool c.self.invariant at.here.within at.here.there at.stands same took.blocks
    (leaves_more v.tag v.frames.tag c.self.inside.pool c.take.new.pool took.others)

pub returns-clause-ticket : goal.returns-clause-ticket
returns-clause-ticket g c =
    let at = ready_stay g c in
    let lane = lane_set c.self.inside.list.items c.args.job.game c.take.new.self at.here.within in
    IfOk-weaker c.take.result _ _ (λ taken is. is.input ∙ ap (λ (x : Lane). input_of x c.args.worker c.args.job) (sym lane)) c.take.ensures.ticket

pub returns-clause-names : goal.returns-clause-names
returns-clause-names g c =
    let at = ready_stay g c in
    let w = c.take.new.self in
    let took = c.take.ensures in
    let same = taken_stay c.take.result c.index_mut.result.now w c.args.worker c.args.job (next_number c.self.inside.pool) w.frames.tally w.frames.keys took.ok took.err in
    let names = names_set c.self.inside.list.items c.args.job w c.take.new.pool at.here.within (same.frame_tag_is ∙ at.row.frame_tag_is) in
    IfOk-weaker c.take.result _ _ (λ taken is. is.names ∙ names) took.ticket

pub returns-clause-key : goal.returns-clause-key
returns-clause-key g c =
    let at = ready_stay g c in
    let tally = tally_there c.self.inside.list.items c.args.job.game c.take.new.self at.here.within in
    let lane = lane_set c.self.inside.list.items c.args.job.game c.take.new.self at.here.within in
    IfOk-weaker c.take.result _ _ (λ taken key. rw (tally, lane) key) c.take.ensures.key

pub returns-clause-ok : goal.returns-clause-ok
returns-clause-ok g c =
    let at = ready_stay g c in
    let inside = c.self.inside in
    let job = c.args.job in
    let v = c.index_mut.result.now in
    let w = c.take.new.self in
    let number = next_number inside.pool in
    on_ok c.take.result
    (λ (is : (w ≡ taken_game c.args.worker job number w.frames.tally w.frames.keys v) × (c.take.new.pool ≡ pool_taken job.kind v.frames.tag number inside.pool)).
    taken_view g.row.CAP inside c.args.worker job w.frames.tally w.frames.keys v w c.take.new.pool at.here.there at.row.frame_tag_is is.0 is.1
    ∙ ap (λ (u : GamesView). games_taken g.row.CAP u c.args.worker job (tallies_in (slice_set inside.list.items job.game w))) c.self.view_is)
    (on_both _ _ c.take.result c.take.ensures.ok c.take.ensures.pool)

pub returns-clause-tallies : goal.returns-clause-tallies
returns-clause-tallies g c =
    let at = ready_stay g c in
    let job = c.args.job in
    let v = c.index_mut.result.now in
    let w = c.take.new.self in
    let number = next_number c.self.inside.pool in
    on_ok c.take.result
    (λ (is : w ≡ taken_game c.args.worker job number w.frames.tally w.frames.keys v) other apart.
    keeps_tallies job.kind job.game c.args.worker job.part number c.self.inside.list.items w.frames.tally w.frames.keys v w at.here.there is other apart
    ∙ ap (λ (u : GamesView). tally_of u.tallies other) c.self.view_is)
    c.take.ensures.ok
