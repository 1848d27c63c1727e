use Rattle.std.proofs.Common.{ap, sym, subst, ◌∙◌, List, arith}
use Rattle.std.proofs.lemmas.Result.{IfOk-weaker}
use Rattle.bs_fiber.specs.declared.piece.Piece.{Piece}
use Rattle.bs_fiber.specs.Tickets.{bytes_of, frames_in}
use Rattle.bs_fiber.specs.Work.{moved_parts}
use Rattle.bs_fiber.specs.inner.Frames.{HoldAll}
use Rattle.bs_game.specs.View.{answer_of}
use Rattle.bs_fiber.proofs.Joined.{moved_from_seen, moved_from_some}
use Rattle.bs_fiber.proofs.Seen.{some_view}
use Rattle.bs_fiber.proofs.Written.{parts_are_held}
use Rattle.bs_fiber.proofs.joining.join_move.Goals as goal

pub moved_board-requires : goal.moved_board-requires
moved_board-requires g c =
    let input = c.args.input.now in
    let blocks = bytes_of (frames_in c.args.frames.now) in
    let seen = some_view input c.requires.fit.game in
    let all = moved_parts seen.0 input.command in
    let held = parts_are_held input seen.0 blocks c.requires.fit c.requires.kind seen.1 (c.requires.fresh seen.0 seen.1) in
    (omega arith, (all, subst (λ (ps : List (List Piece)). HoldAll all ps blocks) (sym c.as_slice.ensures) held))

pub joined_within-requires : goal.joined_within-requires
joined_within-requires g c =
    let input = c.args.input.now in
    let blocks = bytes_of (frames_in c.args.frames.now) in
    moved_from_some input c.args.orders.now c.args.last.now c.requires.fit c.requires.kind c.requires.command c.requires.last c.in_ok-moved.moved
    (λ view b seen legal is.
    c.in_ok-moved.ensures b (moved_parts view input.command) legal is
    (subst (λ (ps : List (List Piece)). HoldAll (moved_parts view input.command) ps blocks) (sym c.as_slice.ensures)
    (parts_are_held input view blocks c.requires.fit c.requires.kind seen (c.requires.fresh view seen))))

-- the answer is the one in each view
pub returns-clause-value : goal.returns-clause-value
returns-clause-value g c =
    let input = c.args.input.now in
    let blocks = bytes_of (frames_in c.args.frames.now) in
    IfOk-weaker c.joined_within.result _ _
    (λ answer given view seen.
    given view
    (moved_from_seen input c.args.orders.now c.args.last.now c.requires.fit c.requires.kind c.requires.command c.requires.last c.in_ok-moved.moved
    (λ v b sees legal is.
    c.in_ok-moved.ensures b (moved_parts v input.command) legal is
    (subst (λ (ps : List (List Piece)). HoldAll (moved_parts v input.command) ps blocks) (sym c.as_slice.ensures)
    (parts_are_held input v blocks c.requires.fit c.requires.kind sees (c.requires.fresh v sees))))
    view seen)
    ∙ ap (answer_of view) (sym c.requires.command))
    c.joined_within.ensures.value
