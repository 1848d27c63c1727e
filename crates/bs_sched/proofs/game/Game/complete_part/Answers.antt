use Rattle.std.proofs.Common.{◌≡◌, ℕ, None, Some, true, slice_get, refl, sym, ap, subst, ◌∙◌, arith}
use Rattle.std.specs.List.{list_all}
use Rattle.bs_fiber.specs.declared.job.JobKind.TheVariants as kind
use Rattle.bs_fiber.specs.Work.{moved_part}
use Rattle.bs_sched.specs.declared.stage.Stage.TheVariants as stage
use Rattle.bs_sched.specs.Frames.{Written, written}
use Rattle.bs_sched.specs.Game.{GameView}
use Rattle.bs_sched.specs.inner.Game.{lane_at}
use Rattle.bs_sched.specs.inner.Insides.{may_answer}
use Rattle.bs_sched.specs.Lane.{is_out, is_part_done, lane_command, lane_view, with_part_done}
use Rattle.bs_sched.specs.MoveParts.{PartsView}
use Rattle.bs_sched.specs.inner.MoveParts.{part_completed, states_of}
use Rattle.bs_sched.proofs.ChangedGame.{done_game, game_completed, open_out}
use Rattle.bs_sched.proofs.Lanes.{done_lane, out_part, undone_lane}
use Rattle.bs_sched.proofs.PartFrames.{all_completed_fit, completed_fit, part_out, states_completed}
use Rattle.bs_sched.proofs.game.Game.complete_part.Goals as goal

pub complete-requires : goal.complete-requires
complete-requires g c =
    let inside = c.self.inside in
    let p = c.args.part in
    let is = subst (λ (v : GameView). (w : ℕ) × (is_out w v.lane kind.Part p ≡ true)) (sym c.self.view_is) c.requires.out in
    let tag = subst (λ (v : GameView). c.args.owned.tag ≡ v.frames.tag) (sym c.self.view_is) c.requires.tag in
    (omega arith, (omega arith, (part_out inside.fiber p is.0 inside.parts is.1, tag)))

pub invariant_of-self : goal.invariant_of-self
invariant_of-self g c =
    let inside = c.self.inside in
    let p = c.args.part in
    let n = c.args.owned.number in
    let is = subst (λ (v : GameView). (w : ℕ) × (is_out w v.lane kind.Part p ≡ true)) (sym c.self.view_is) c.requires.out in
    let wrote : Written = record { pieces = c.args.moved; bytes = c.args.owned.block } in
    let moved = subst (λ (v : GameView). wrote ≡ written (moved_part p (lane_view v.lane) (lane_command v.lane))) (sym c.self.view_is) (rw (c.requires.moved, c.requires.holds) refl) in
    let at = out_part (lane_at inside) is.0 p is.1 in
    let all = ap (λ (v : PartsView). list_all is_part_done (states_of v)) (sym c.complete.ensures) ∙ sym c.are_done.ensures ∙ c.if-are_done.true in
    let stands = open_out g.row.CAP inside is.0 kind.Part p c.self.invariant is.1 in
    rw c.complete.ensures
    (done_game g.row.CAP inside c.end_parts.new.self (stage.Join None) p n wrote c.self.invariant stands at c.end_parts.ensures refl
    (all_completed_fit inside.fiber inside.parts p n wrote at c.self.invariant.parts moved all))

pub invariant_of-self-else-are_done : goal.invariant_of-self-else-are_done
invariant_of-self-else-are_done g c =
    let inside = c.self.inside in
    let p = c.args.part in
    let n = c.args.owned.number in
    let is = subst (λ (v : GameView). (w : ℕ) × (is_out w v.lane kind.Part p ≡ true)) (sym c.self.view_is) c.requires.out in
    let wrote : Written = record { pieces = c.args.moved; bytes = c.args.owned.block } in
    let moved = subst (λ (v : GameView). wrote ≡ written (moved_part p (lane_view v.lane) (lane_command v.lane))) (sym c.self.view_is) (rw (c.requires.moved, c.requires.holds) refl) in
    let at = out_part (lane_at inside) is.0 p is.1 in
    let stands = open_out g.row.CAP inside is.0 kind.Part p c.self.invariant is.1 in
    rw c.complete.ensures
    (done_game g.row.CAP inside inside.fiber inside.fiber.stage p n wrote c.self.invariant stands at refl (ap may_answer at)
    (completed_fit inside.fiber inside.parts p n wrote at c.self.invariant.parts moved))

pub returns-then-are_done : goal.returns-then-are_done
returns-then-are_done g c =
    let inside = c.self.inside in
    let p = c.args.part in
    let n = c.args.owned.number in
    let is = subst (λ (v : GameView). (w : ℕ) × (is_out w v.lane kind.Part p ≡ true)) (sym c.self.view_is) c.requires.out in
    let wrote : Written = record { pieces = c.args.moved; bytes = c.args.owned.block } in
    let moved = subst (λ (v : GameView). wrote ≡ written (moved_part p (lane_view v.lane) (lane_command v.lane))) (sym c.self.view_is) (rw (c.requires.moved, c.requires.holds) refl) in
    let at = out_part (lane_at inside) is.0 p is.1 in
    let all = ap (λ (v : PartsView). list_all is_part_done (states_of v)) (sym c.complete.ensures) ∙ sym c.are_done.ensures ∙ c.if-are_done.true in
    let number = subst (λ (v : GameView). slice_get v.frames.numbers p ≡ Some (Some n)) (sym c.self.view_is) c.requires.number in
    let states = states_completed inside.parts p n wrote in
    let new = states_of (part_completed p wrote n inside.parts) in
    let lane : record c.end_parts.new.self { parts = new } ≡ with_part_done p (lane_at inside) = rw c.end_parts.ensures (done_lane (lane_at inside) new p states all) in
    rw c.complete.ensures (game_completed inside c.args.self.now c.end_parts.new.self p n wrote c.self.view_is number moved lane)

pub returns-else-are_done : goal.returns-else-are_done
returns-else-are_done g c =
    let inside = c.self.inside in
    let p = c.args.part in
    let n = c.args.owned.number in
    let is = subst (λ (v : GameView). (w : ℕ) × (is_out w v.lane kind.Part p ≡ true)) (sym c.self.view_is) c.requires.out in
    let wrote : Written = record { pieces = c.args.moved; bytes = c.args.owned.block } in
    let moved = subst (λ (v : GameView). wrote ≡ written (moved_part p (lane_view v.lane) (lane_command v.lane))) (sym c.self.view_is) (rw (c.requires.moved, c.requires.holds) refl) in
    let at = out_part (lane_at inside) is.0 p is.1 in
    let some = ap (λ (v : PartsView). list_all is_part_done (states_of v)) (sym c.complete.ensures) ∙ sym c.are_done.ensures ∙ c.if-are_done.false in
    let number = subst (λ (v : GameView). slice_get v.frames.numbers p ≡ Some (Some n)) (sym c.self.view_is) c.requires.number in
    let states = states_completed inside.parts p n wrote in
    let new = states_of (part_completed p wrote n inside.parts) in
    let lane = undone_lane (lane_at inside) new p at states some in
    rw c.complete.ensures (game_completed inside c.args.self.now inside.fiber p n wrote c.self.view_is number moved lane)
