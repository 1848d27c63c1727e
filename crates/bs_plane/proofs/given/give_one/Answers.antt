use Rattle.std.proofs.Common.{◌∙◌, sym}
use Rattle.std.proofs.lemmas.Result.{IfOk-weaker}
use Rattle.bs_plane.proofs.GivenFood.{none_off_board, none_on_taken, one_on_free}
use Rattle.bs_plane.proofs.given.give_one.Goals as goal

pub returns-then-not-is_on_board : goal.returns-then-not-is_on_board
returns-then-not-is_on_board c _ = none_off_board c.args.cell c.args.plane.now c.args.into.now.items (sym c.is_on_board.ensures ∙ c.if-not-is_on_board.true)

pub returns-then-not-is_free : goal.returns-then-not-is_free
returns-then-not-is_free c _ =
    none_on_taken c.args.cell c.args.plane.now c.in-Some.there c.in-Some.ensures c.args.into.now.items (sym c.is_free.ensures ∙ c.if-not-is_free.true)

pub returns-else-not-is_free : goal.returns-else-not-is_free
returns-else-not-is_free c =
    IfOk-weaker c.put_given.result _ _
    (λ done adds is.
    one_on_free c.args.cell c.args.plane.now c.in-Some.there c.in-Some.ensures c.args.into.now.items c.put_given.new.into.items c.put_given.new.plane
    (sym c.is_free.ensures ∙ c.if-not-is_free.false) (adds is))
    c.put_given.ensures
