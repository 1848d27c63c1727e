use Rattle.std.proofs.Common.{◌∙◌, refl, sym}
use Rattle.bs_board.specs.declared.boards.board.Mode.TheVariants.{Standard, Solo, Wrapped}
use Rattle.bs_plane.proofs.Refilled.{refills_in, stays_empty}
use Rattle.bs_plane.proofs.stepper.refill.Goals as goal

pub returns-in-Constrictor : goal.returns-in-Constrictor
returns-in-Constrictor c empty b moves of bytes shows listed none =
    stays_empty c.args.orders.now b moves c.args.plane.now c.args.board.now.food.now c.args.food.now.items (sym of.mode ∙ c.in-Constrictor.is) of.food (sym c.is_empty.ensures ∙ empty) shows none

pub returns-in-Standard : goal.returns-in-Standard
returns-in-Standard c =
    refills_in Standard c.args.orders.now (λ b. refl) c.refill_food.result c.args.board.now c.in-Standard.is c.args.heads.now c.args.plane.now c.args.food.now.items c.refill_food.new.plane
    c.refill_food.new.food.items c.refill_food.ensures

pub returns-in-Solo : goal.returns-in-Solo
returns-in-Solo c =
    refills_in Solo c.args.orders.now (λ b. refl) c.refill_food-in-Solo.result c.args.board.now c.in-Solo.is c.args.heads.now c.args.plane.now c.args.food.now.items
    c.refill_food-in-Solo.new.plane c.refill_food-in-Solo.new.food.items c.refill_food-in-Solo.ensures

pub returns-in-Wrapped : goal.returns-in-Wrapped
returns-in-Wrapped c =
    refills_in Wrapped c.args.orders.now (λ b. refl) c.refill_food-in-Wrapped.result c.args.board.now c.in-Wrapped.is c.args.heads.now c.args.plane.now c.args.food.now.items
    c.refill_food-in-Wrapped.new.plane c.refill_food-in-Wrapped.new.food.items c.refill_food-in-Wrapped.ensures
