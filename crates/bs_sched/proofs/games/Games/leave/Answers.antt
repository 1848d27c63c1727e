use Rattle.std.proofs.Common.{◌≡◌, ℕ, List, Option, true, refl, ap, subst, ◌∙◌, arith}
use Rattle.std.specs.Vec.{with_item}
use Rattle.bs_heap.specs.HeldBlocks.{LeavesOthers, all_given}
use Rattle.bs_heap.specs.Packing.{numbers_of}
use Rattle.bs_sched.specs.declared.games.Games.TheInside.{Inside}
use Rattle.bs_sched.specs.Frames.{flattened}
use Rattle.bs_sched.specs.Game.{GameView}
use Rattle.bs_sched.specs.inner.Game.{closed_game}
use Rattle.bs_sched.specs.Lane.{Lane, may_leave}
use Rattle.bs_sched.specs.Machine.{lane_of}
use Rattle.bs_sched.proofs.ChangedGames.{at_leave, stay_there}
use Rattle.bs_sched.proofs.ChangedStays.{Leaves, can_release, lanes_left, open_quiet, sound_left, storage_left, tallies_left}
use Rattle.bs_sched.proofs.games.Games.leave.Given.{Over}
use Rattle.bs_sched.proofs.games.Games.leave.Goals as goal

abbrev new_inside : (g : Over) → goal.After-remove g → Inside g.row.CAP
new_inside g c = record c.self.inside {
  list = with_item c.self.inside.list c.args.game c.close.new.self;
  registry = c.remove.new.self;
  pool = c.release_row.new.pool;
}

left : (g : Over) (c : goal.After-remove g) → Leaves g.row.CAP c.self.inside (new_inside g c) c.args.game c.close.new.self c.close.new.pool
left g c =
    let here = stay_there c.self.inside c.args.self.now c.args.game c.index_mut.result.now c.self.view_is c.requires.game c.index_mut.ensures.value in
    let at = at_leave g.row.CAP c.self.inside c.args.self.now c.args.game c.index_mut.result.now c.self.invariant here c.requires.may in
    record {
      rows = refl;
      games = refl;
      closed = c.close.ensures.game ∙ ap closed_game at.here.there;
      listed = c.remove.ensures;
      given = c.close.ensures.pool ∙ ap (λ (u : GameView). all_given (numbers_of u.packing) c.self.inside.pool) at.here.there;
      others = subst (λ (tag : ℕ). LeavesOthers tag c.self.inside.pool c.close.new.pool) at.row.tag c.close.ensures.others;
      pool = c.release_row.ensures;
    }

pub close-requires : goal.close-requires
close-requires g c =
    let here = stay_there c.self.inside c.args.self.now c.args.game c.index_mut.result.now c.self.view_is c.requires.game c.index_mut.ensures.value in
    let at = at_leave g.row.CAP c.self.inside c.args.self.now c.args.game c.index_mut.result.now c.self.invariant here c.requires.may in
    (omega arith, (omega arith, (subst (λ (x : Lane). may_leave x ≡ true) at.here.lane c.requires.may, at.row.blocks)))

pub release_row-requires : goal.release_row-requires
release_row-requires g c =
    let here = stay_there c.self.inside c.args.self.now c.args.game c.index_mut.result.now c.self.view_is c.requires.game c.index_mut.ensures.value in
    let at = at_leave g.row.CAP c.self.inside c.args.self.now c.args.game c.index_mut.result.now c.self.invariant here c.requires.may in
    let closed = c.close.ensures in
    let few = c.self.invariant.few in
    let within = at.here.within in
    let none = ap (λ (u : GameView). flattened u.frames.numbers) closed.game ∙ ap (λ (ns : List (Option ℕ)). flattened ns) closed.no_frames in
    let can = can_release g.row.CAP c.args.game c.close.new.self c.close.new.pool (ap (λ (u : GameView). u.tag) closed.game ∙ at.row.tag)
    (ap (λ (u : GameView). u.frames.tag) closed.game ∙ at.row.frame_tag_is) (ap (λ (u : GameView). u.packing) closed.game) none closed.blocks in
    (omega arith, (omega (arith, within, few), (can.records, (can.frames, (can.no_records, can.no_frames)))))

pub invariant_of-self : goal.invariant_of-self
invariant_of-self g c =
    let here = stay_there c.self.inside c.args.self.now c.args.game c.index_mut.result.now c.self.view_is c.requires.game c.index_mut.ensures.value in
    let may = open_quiet (lane_of c.args.self.now.lanes c.args.game) c.requires.may in
    let lane = here.lane ∙ ap (λ (u : GameView). u.lane) here.there in
    sound_left g.row.CAP c.self.inside (new_inside g c) c.args.game c.close.new.self c.close.new.pool c.self.invariant here.within (rw (← lane) may.0) (rw (← lane) may.1) (left g c)

pub returns : goal.returns
returns g c =
    rw (
      ← c.self.view_is,
      lanes_left g.row.CAP c.self.inside (new_inside g c) c.args.game c.close.new.self c.close.new.pool (left g c),
      storage_left g.row.CAP c.self.inside (new_inside g c) c.args.game c.close.new.self c.close.new.pool (left g c),
      tallies_left g.row.CAP c.self.inside (new_inside g c) c.args.game c.close.new.self c.close.new.pool (left g c),
    )
    refl
