use Rattle.std.proofs.Common.{◌≡◌, ℕ, [], true, sym, ap, subst, ◌∙◌, arith}
use Rattle.bs_fiber.specs.declared.job.JobKind.{JobKind}
use Rattle.bs_fiber.specs.declared.job.JobKind.TheVariants as kind
use Rattle.bs_fiber.specs.Tickets.{bytes_of, frames_in, worked_bytes}
use Rattle.bs_fiber.specs.Work.{out_seen}
use Rattle.bs_heap.specs.HeldBlocks.{next_number}
use Rattle.bs_sched.specs.Game.{GameView}
use Rattle.bs_sched.specs.inner.Game.{no_game}
use Rattle.bs_sched.specs.Games.{GamesView}
use Rattle.bs_sched.specs.inner.Games.{games_completed}
use Rattle.bs_sched.specs.Lane.{Lane, is_out, lane_command, lane_view}
use Rattle.bs_sched.proofs.ChangedGames.{IsAtStay, at_out, completed_stay, completed_view, names_there, sound_game, stay_there}
use Rattle.bs_sched.proofs.ListedGames.{read_at}
use Rattle.bs_sched.proofs.games.Games.complete_job.Given.{Over}
use Rattle.bs_sched.proofs.games.Games.complete_job.Goals as goal

out_stay : (g : Over) (c : goal.After-self-1 g) → IsAtStay g.row.CAP c.self.inside c.args.self.now c.args.job.game c.index_mut.result.now
out_stay g c =
    at_out g.row.CAP c.self.inside c.args.self.now c.args.job c.index_mut.result.now c.requires.out.0 c.self.invariant
    (stay_there c.self.inside c.args.self.now c.args.job.game c.index_mut.result.now c.self.view_is c.requires.game c.index_mut.ensures.value) c.requires.out.1

pub complete-requires : goal.complete-requires
complete-requires g c =
    let inside = c.self.inside in
    let job = c.args.job in
    let v = c.index_mut.result.now in
    let here = stay_there inside c.args.self.now job.game v c.self.view_is c.requires.game c.index_mut.ensures.value in
    let at = at_out g.row.CAP inside c.args.self.now job v c.requires.out.0 c.self.invariant here c.requires.out.1 in
    let worked = subst (λ (x : Lane). c.args.out ≡ out_seen job.kind job.part (lane_view x) (lane_command x)) at.here.lane c.requires.worked in
    let holds = subst (λ (x : Lane). bytes_of (frames_in c.args.blocks.now.items) ≡ worked_bytes job.kind job.part (lane_view x) (lane_command x)) at.here.lane c.requires.holds in
    let names = c.requires.names ∙ sym (names_there inside c.args.self.now job v c.self.view_is at.here at.row.frame_tag_is) in
    let out = subst (λ (x : Lane). (w : ℕ) × (is_out w x job.kind job.part ≡ true)) at.here.lane c.requires.out in
    (omega arith, (omega arith, (omega arith, (out, (worked, (at.row.blocks, (names, holds)))))))

pub invariant_of-self : goal.invariant_of-self
invariant_of-self g c =
    let inside = c.self.inside in
    let job = c.args.job in
    let v = c.index_mut.result.now in
    let at = out_stay g c in
    let done = c.complete.ensures in
    sound_game g.row.CAP inside job.game v c.complete.new.self c.complete.new.pool c.self.invariant at.here.within at.here.there at.stands
    (completed_stay job.kind g.row.CAP job.part (next_number inside.pool) v c.complete.new.self done.game) done.blocks done.others

pub returns : goal.returns
returns g c =
    let inside = c.self.inside in
    let job = c.args.job in
    let v = c.index_mut.result.now in
    let at = out_stay g c in
    let done = c.complete.ensures in
    let out = subst (λ (x : Lane). (w : ℕ) × (is_out w x job.kind job.part ≡ true)) at.here.lane c.requires.out in
    let same : c.index.result.now ≡ v = read_at inside.list.items job.game c.index.result.now no_game at.here.within c.index.ensures ∙ sym at.here.there in
    let begun = subst (λ (u : GameView). (w p : ℕ) → is_out w u.lane kind.Begin p ≡ true → u.frames.numbers ≡ []) same c.keeps.ensures.begun in
    let none : job.kind ≡ kind.Begin → v.frames.numbers ≡ []
    = λ begins. begun out.0 job.part (subst (λ (k : JobKind). is_out out.0 v.lane k job.part ≡ true) begins out.1) in
    completed_view g.row.CAP inside job v c.complete.new.self c.complete.new.pool at.here.there at.row.tag none done.game done.pool
    ∙ ap (λ (u : GamesView). games_completed g.row.CAP u job) c.self.view_is
