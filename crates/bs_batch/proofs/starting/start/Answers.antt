use Rattle.std.proofs.Common.{arith, length, refl, subst, ap, ◌∙◌, ◌≡◌}
use Rattle.bs_batch.specs.declared.layout.Head.{Head}
use Rattle.bs_batch.specs.declared.layout.Settings.{Settings}
use Rattle.bs_batch.specs.Starting.{AreFirstCells, CanStart}
use Rattle.bs_batch.proofs.StartedBoard.{all_from_cleared, shows_first}
use Rattle.bs_batch.proofs.starting.start.Goals as goal

pub returns : goal.returns
returns c settings clear can =
    let starts = c.args.first.starts.now in
    let cells = c.args.first.food.now in
    let can_now : CanStart settings (length c.place_all.new.food) (length c.place_all.new.plane) (length c.place_all.new.bodies) =
    record { few = can.few; narrow = can.narrow; area = can.area; small = can.small; plane = omega (arith, can.plane, c.keep_first_food.auto.plane); bodies = can.bodies } in
    let placed = all_from_cleared settings starts cells c.args.head.now c.place_all.new.head c.place_all.new.food c.clear_plane.new.plane c.place_all.new.plane
    c.place_all.new.bodies (length c.args.plane.now) c.place_all.result clear can_now (c.place_all.auto.plane ∙ c.clear_plane.auto.plane) c.clear_plane.ensures
    c.place_all.ensures.board in
    let same : c.args.head.now.settings ≡ settings = ap (λ (h : Head). h.settings) clear in
    record {
      exactly = (λ _. subst (λ (t : Settings). AreFirstCells t starts cells) same (placed.fits.0 c.if-not-place_all.false), λ _. refl);
      shows = λ _ s setup.
          shows_first settings starts cells c.args.head.now c.place_all.new.head c.keep_first_food.new.head c.count.new.head c.place_all.new.food c.place_all.new.plane
          c.keep_first_food.new.plane c.place_all.new.bodies c.place_all.result s clear setup c.if-not-place_all.false can.few placed c.keep_first_food.ensures.board
          c.count.ensures.board;
      none = λ f. absurd cc;
    }
