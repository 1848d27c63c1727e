use Rattle.std.proofs.Common.{[], ◌∷◌, ◌∙◌, ap, sym, List, ℕ}
use Rattle.bs_fiber.specs.Frames.{frame_of, pieces_from}
use Rattle.bs_fiber.proofs.Framed.{frame_none, pieces_none}
use Rattle.bs_fiber.proofs.MovedSeats.{name_stays, none_moved}
use Rattle.bs_fiber.proofs.moving.move_part.Goals as goal

pub returns-in-None-clause-pieces : goal.returns-in-None-clause-pieces
returns-in-None-clause-pieces g c view seen =
    let none = none_moved c.args.input.now view c.args.input.now.job.part c.in-None.is seen in
    c.new-in-None.ensures ∙ c.new.ensures ∙ sym (ap (pieces_from 0) none ∙ pieces_none)

pub returns-in-None-clause-holds : goal.returns-in-None-clause-holds
returns-in-None-clause-holds g c view seen =
    let none = none_moved c.args.input.now view c.args.input.now.job.part c.in-None.is seen in
    c.requires.fresh ∙ ap (λ (bytes : List ℕ). bytes ∷ []) (sym (ap frame_of none ∙ frame_none))

pub returns-in-Some-clause-names : goal.returns-in-Some-clause-names
returns-in-Some-clause-names g c =
    name_stays c.args.frames.now.items c.index_mut.result.now c.move_seats.new.owned c.index_mut.ensures.value c.move_seats.ensures.name.0 c.move_seats.ensures.name.1
