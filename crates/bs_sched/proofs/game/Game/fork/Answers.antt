use Rattle.std.proofs.Common.{◌≡◌, ℕ, List, length, map, true, false, refl, sym, ap, subst, ◌∙◌}
use Rattle.std.proofs.lemmas.List.{length-replicate}
use Rattle.bs_fiber.specs.declared.job.JobKind.TheVariants as kind
use Rattle.bs_heap.specs.HeldBlocks.{Holds}
use Rattle.bs_sched.specs.Frames.{FramesView, flattened}
use Rattle.bs_sched.specs.Game.{GameView}
use Rattle.bs_sched.specs.inner.Game.{HasBlocks}
use Rattle.bs_sched.specs.inner.Insides.{may_answer}
use Rattle.bs_sched.specs.Lane.{Lane, goes_on, is_out}
use Rattle.bs_sched.specs.MoveParts.{PartView, PartsView}
use Rattle.bs_sched.specs.inner.MoveParts.{frames_of, number_of, states_of}
use Rattle.bs_sched.specs.PartState as state
use Rattle.bs_sched.proofs.ChangedGame.{framed_blocks, game_forked, kept_game, leaves_none, open_out}
use Rattle.bs_sched.proofs.PartFrames.{forked_fit, none_known, seen_forked, states_forked, to_fork}
use Rattle.bs_sched.proofs.game.Game.fork.Goals as goal

pub invariant_of-self : goal.invariant_of-self
invariant_of-self g c =
    let inside = c.self.inside in
    let x = c.fork.new.self in
    let ps = c.fork-2.new.self in
    let begun = subst (λ (v : GameView). (w : ℕ) × (is_out w v.lane kind.Begin 0 ≡ true)) (sym c.self.view_is) c.requires.begun in
    let goes = subst (λ (v : GameView). goes_on v.lane ≡ true) (sym c.self.view_is) c.requires.goes in
    let stands = open_out g.row.CAP inside begun.0 kind.Begin 0 c.self.invariant begun.1 in
    let lane = c.fork.ensures in
    let parts = c.fork-2.ensures in
    let to = to_fork inside.fiber begun.0 inside.parts begun.1 goes c.self.invariant.parts in
    let many = ap (λ (v : PartsView). length (states_of v)) parts ∙ ap length (states_forked inside.parts) ∙ length-replicate (length inside.parts.keys) state.Ready ∙ to.many in
    kept_game g.row.CAP inside x inside.heap ps c.self.invariant stands
    (record { row = ap (λ (y : Lane). y.row) lane; flag = ap (λ (y : Lane). y.is_open) lane; game = ap (λ (y : Lane). y.game) lane }) refl
    (λ may. let none : may_answer x.stage ≡ false = ap (λ (y : Lane). may_answer y.stage) lane in let wrong : false ≡ true = sym none ∙ may in absurd cc)
    (λ plays. rw lane many) (rw (lane, parts) (forked_fit inside.fiber begun.0 inside.parts begun.1 goes c.self.invariant.parts))

pub returns-clause-game : goal.returns-clause-game
returns-clause-game g c =
    let inside = c.self.inside in
    let begun = subst (λ (v : GameView). (w : ℕ) × (is_out w v.lane kind.Begin 0 ≡ true)) (sym c.self.view_is) c.requires.begun in
    let goes = subst (λ (v : GameView). goes_on v.lane ≡ true) (sym c.self.view_is) c.requires.goes in
    game_forked g.row.CAP inside c.args.self.now c.fork.new.self c.fork-2.new.self begun.0 c.self.invariant c.self.view_is begun.1 goes c.fork.ensures c.fork-2.ensures

pub returns-clause-blocks : goal.returns-clause-blocks
returns-clause-blocks g c pool before =
    let inside = c.self.inside in
    let begun = subst (λ (v : GameView). (w : ℕ) × (is_out w v.lane kind.Begin 0 ≡ true)) (sym c.self.view_is) c.requires.begun in
    let goes = subst (λ (v : GameView). goes_on v.lane ≡ true) (sym c.self.view_is) c.requires.goes in
    let has = subst (λ (v : GameView). HasBlocks g.row.CAP v pool) (sym c.self.view_is) before in
    let none = (to_fork inside.fiber begun.0 inside.parts begun.1 goes c.self.invariant.parts).none in
    let parts = c.fork-2.ensures in
    let numbers : flattened (frames_of inside.parts).numbers ≡ flattened (frames_of c.fork-2.new.self).numbers
    = ap (λ (l : List PartView). flattened (map number_of l)) none
    ∙ sym (ap (λ (v : PartsView). flattened (frames_of v).numbers) parts ∙ ap (λ (f : FramesView). flattened f.numbers) (seen_forked inside.parts) ∙ none_known (length inside.parts.keys)) in
    framed_blocks g.row.CAP _ _ pool pool has refl refl (ap (λ (y : Lane). y.row) c.fork.ensures) (ap (λ (v : PartsView). v.tag) parts)
    (subst (λ (ns : List ℕ). Holds inside.parts.tag ns pool) numbers has.frames) (leaves_none inside.parts.tag pool)
