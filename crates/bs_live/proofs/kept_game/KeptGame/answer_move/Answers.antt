use Rattle.std.proofs.Common.{◌≡◌, ℕ, List, Option, map, refl, sym, ap, subst, ◌∙◌, arith}
use Rattle.std.specs.Prelude.{is_some}
use Rattle.std.proofs.lemmas.Bool.{false≢true}
use Rattle.bs_board.specs.declared.commands.command.Command.TheVariants as command
use Rattle.bs_board.specs.inner.Kept.{board_in}
use Rattle.bs_game.specs.Answer.{answer_to, view_of_game}
use Rattle.bs_game.specs.Law.{effected}
use Rattle.bs_heap.specs.Heap.{Heap}
use Rattle.bs_pool.specs.Ledger.{size}
use Rattle.bs_live.specs.Game.{KeptBoards}
use Rattle.bs_live.specs.inner.Game.{game_after, newest_record}
use Rattle.bs_live.proofs.Boards.{answered, change_fits, same_kept, told}
use Rattle.bs_live.proofs.Newest.{move_seen, newest_there}
use Rattle.bs_live.proofs.kept_game.KeptGame.answer_move.Goals as goal

pub answer-requires : goal.answer-requires
answer-requires g c =
    let inside = c.self.inside in
    let boards = map board_in inside.heap.records in
    let kept = c.self.invariant in
    let orders = c.args.orders.now in
    let order = command.Move orders in
    let bytes = c.in-Some.last in
    let here = sym c.in-Some.is ∙ kept.newest in
    let of = move_seen inside.heap.records inside.quota c.args.self.now orders c.charge-charge.result (size inside.pool) bytes c.self.view_is kept.recorded kept.small c.charge-charge.ensures.value
    c.charge-charge.ensures.within here in
    (view_of_game inside.quota boards order, of)

pub change_records-requires : goal.change_records-requires
change_records-requires g c =
    let inside = c.self.inside in
    let boards = map board_in inside.heap.records in
    let kept = c.self.invariant in
    let orders = c.args.orders.now in
    let order = command.Move orders in
    let bytes = c.in-Some.last in
    let here = sym c.in-Some.is ∙ kept.newest in
    let of = move_seen inside.heap.records inside.quota c.args.self.now orders c.charge-charge.result (size inside.pool) bytes c.self.view_is kept.recorded kept.small c.charge-charge.ensures.value
    c.charge-charge.ensures.within here in
    let is = told (view_of_game inside.quota boards order) c.in_ok-answer-in-Some.answer inside.quota boards order kept.recorded.right c.fits.ensures of.fit refl
    (c.in_ok-answer-in-Some.ensures.value (view_of_game inside.quota boards order) of) in (
      omega arith,
      (
        omega arith,
        (
          c.in_ok-grow_index.ensures.ok,
          change_fits g.row.CAP inside.quota c.grow_index.new.self.index_room inside.heap c.grow_index.new.self inside.pool c.in_ok-answer-in-Some.answer.effect boards
              c.grow_index.ensures.heap kept.quota kept.reserved kept.kept kept.recorded is.fits,
        ),
      ),
    )

pub invariant_of-self-in-Some : goal.invariant_of-self-in-Some
invariant_of-self-in-Some g c =
    let inside = c.self.inside in
    let boards = map board_in inside.heap.records in
    let kept = c.self.invariant in
    let orders = c.args.orders.now in
    let order = command.Move orders in
    let bytes = c.in-Some.last in
    let here = sym c.in-Some.is ∙ kept.newest in
    let of = move_seen inside.heap.records inside.quota c.args.self.now orders c.charge-charge.result (size inside.pool) bytes c.self.view_is kept.recorded kept.small c.charge-charge.ensures.value
    c.charge-charge.ensures.within here in
    let is = told (view_of_game inside.quota boards order) c.in_ok-answer-in-Some.answer inside.quota boards order kept.recorded.right c.fits.ensures of.fit refl
    (c.in_ok-answer-in-Some.ensures.value (view_of_game inside.quota boards order) of) in
    let changed = c.change_records.ensures in
    let grown = c.grow_index.ensures.heap in
    let records = changed.records ∙ ap (λ (h : Heap). effected c.in_ok-answer-in-Some.answer.effect h.records) grown in
    let next = answered inside.quota (answer_to inside.quota boards order) c.in_ok-answer-in-Some.answer inside.heap.records c.change_records.new.heap.records kept.recorded is records in
    let renewed = c.renew.ensures inside.heap.records kept.newest in
    let tag = changed.tag ∙ ap (λ (h : Heap). h.tag) grown in
    record {
      small = kept.small;
      quota = changed.quota ∙ ap (λ (h : Heap). h.quota) grown ∙ kept.quota;
      recorded = next.1;
      kept = changed.held;
      reserved = rw (tag, changed.reservations) kept.reserved;
      newest = renewed ∙ ap newest_record (sym records);
    }

pub returns-clause-reply : goal.returns-clause-reply
returns-clause-reply g c =
    let inside = c.self.inside in
    let boards = map board_in inside.heap.records in
    let kept = c.self.invariant in
    let orders = c.args.orders.now in
    let order = command.Move orders in
    let bytes = c.in-Some.last in
    let here = sym c.in-Some.is ∙ kept.newest in
    let of = move_seen inside.heap.records inside.quota c.args.self.now orders c.charge-charge.result (size inside.pool) bytes c.self.view_is kept.recorded kept.small c.charge-charge.ensures.value
    c.charge-charge.ensures.within here in
    let is = told (view_of_game inside.quota boards order) c.in_ok-answer-in-Some.answer inside.quota boards order kept.recorded.right c.fits.ensures of.fit refl
    (c.in_ok-answer-in-Some.ensures.value (view_of_game inside.quota boards order) of) in
    subst (λ (v : KeptBoards). c.in_ok-answer-in-Some.answer.reply ≡ (answer_to v.quota v.game order).reply) c.self.view_is is.reply

pub returns-clause-game : goal.returns-clause-game
returns-clause-game g c =
    let inside = c.self.inside in
    let boards = map board_in inside.heap.records in
    let kept = c.self.invariant in
    let orders = c.args.orders.now in
    let order = command.Move orders in
    let bytes = c.in-Some.last in
    let here = sym c.in-Some.is ∙ kept.newest in
    let of = move_seen inside.heap.records inside.quota c.args.self.now orders c.charge-charge.result (size inside.pool) bytes c.self.view_is kept.recorded kept.small c.charge-charge.ensures.value
    c.charge-charge.ensures.within here in
    let is = told (view_of_game inside.quota boards order) c.in_ok-answer-in-Some.answer inside.quota boards order kept.recorded.right c.fits.ensures of.fit refl
    (c.in_ok-answer-in-Some.ensures.value (view_of_game inside.quota boards order) of) in
    let changed = c.change_records.ensures in
    let grown = c.grow_index.ensures.heap in
    let records = changed.records ∙ ap (λ (h : Heap). effected c.in_ok-answer-in-Some.answer.effect h.records) grown in
    let next = answered inside.quota (answer_to inside.quota boards order) c.in_ok-answer-in-Some.answer inside.heap.records c.change_records.new.heap.records kept.recorded is records in
    let new = c.change_records.new in
    let same = same_kept (map board_in new.heap.records) (answer_to inside.quota boards order).game inside.quota (size new.pool) (size inside.pool) next.0 changed.size in
    subst (λ (v : KeptBoards). record { game = map board_in new.heap.records; quota = inside.quota; blocks = size new.pool } ≡ game_after order v) c.self.view_is same

pub unreachable-requires : goal.unreachable-requires
unreachable-requires g c =
    let inside = c.self.inside in
    let kept = c.self.invariant in
    let there = newest_there inside.heap.records inside.quota c.args.self.now (size inside.pool) c.self.view_is kept.recorded in
    false≢true (ap is_some (sym c.in-None.is ∙ kept.newest) ∙ there ∙ c.requires)
