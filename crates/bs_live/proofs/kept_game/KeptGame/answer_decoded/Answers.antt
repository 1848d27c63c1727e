use Rattle.std.proofs.Common.{◌≡◌, ℕ, List, Option, map, sym, ap, subst, ◌∙◌, arith}
use Rattle.bs_board.specs.inner.Kept.{board_in}
use Rattle.bs_game.specs.Answer.{answer_to, view_of_game}
use Rattle.bs_game.specs.Law.{effected}
use Rattle.bs_heap.specs.Heap.{Heap}
use Rattle.bs_pool.specs.Ledger.{size}
use Rattle.bs_live.specs.Game.{KeptBoards}
use Rattle.bs_live.specs.inner.Game.{game_after, newest_record}
use Rattle.bs_live.proofs.Boards.{answered, change_fits, same_kept, told}
use Rattle.bs_live.proofs.kept_game.KeptGame.answer_decoded.Goals as goal

pub change_records-requires : goal.change_records-requires
change_records-requires g c =
    let inside = c.self.inside in
    let boards = map board_in inside.heap.records in
    let kept = c.self.invariant in
    let seen = subst (λ (v : KeptBoards). c.in_ok-view.view ≡ view_of_game v.quota v.game c.args.command.now) (sym c.self.view_is) c.in_ok-view.ensures.value in
    let is = told c.in_ok-view.view c.in_ok-answer.answer inside.quota boards c.args.command.now kept.recorded.right c.keeps_limits.ensures c.in_ok-view.ensures.fit seen c.in_ok-answer.ensures.value in (
      omega arith,
      (
        omega arith,
        (
          c.in_ok-grow_index.ensures.ok,
          change_fits g.row.CAP inside.quota c.grow_index.new.self.index_room inside.heap c.grow_index.new.self inside.pool c.in_ok-answer.answer.effect boards
              c.grow_index.ensures.heap kept.quota kept.reserved kept.kept kept.recorded is.fits,
        ),
      ),
    )

pub invariant_of-self-2 : goal.invariant_of-self-2
invariant_of-self-2 g c =
    let inside = c.self.inside in
    let boards = map board_in inside.heap.records in
    let kept = c.self.invariant in
    let seen = subst (λ (v : KeptBoards). c.in_ok-view.view ≡ view_of_game v.quota v.game c.args.command.now) (sym c.self.view_is) c.in_ok-view.ensures.value in
    let is = told c.in_ok-view.view c.in_ok-answer.answer inside.quota boards c.args.command.now kept.recorded.right c.keeps_limits.ensures c.in_ok-view.ensures.fit seen c.in_ok-answer.ensures.value in
    let changed = c.change_records.ensures in
    let grown = c.grow_index.ensures.heap in
    let records = changed.records ∙ ap (λ (h : Heap). effected c.in_ok-answer.answer.effect h.records) grown in
    let next = answered inside.quota (answer_to inside.quota boards c.args.command.now) c.in_ok-answer.answer inside.heap.records c.change_records.new.heap.records kept.recorded is records in
    let renewed = c.renew.ensures inside.heap.records kept.newest in
    let tag = changed.tag ∙ ap (λ (h : Heap). h.tag) grown in
    record {
      small = kept.small;
      quota = changed.quota ∙ ap (λ (h : Heap). h.quota) grown ∙ kept.quota;
      recorded = next.1;
      kept = changed.held;
      reserved = rw (tag, changed.reservations) kept.reserved;
      newest = renewed ∙ ap newest_record (sym records);
    }

pub returns-clause-reply : goal.returns-clause-reply
returns-clause-reply g c =
    let inside = c.self.inside in
    let boards = map board_in inside.heap.records in
    let kept = c.self.invariant in
    let seen = subst (λ (v : KeptBoards). c.in_ok-view.view ≡ view_of_game v.quota v.game c.args.command.now) (sym c.self.view_is) c.in_ok-view.ensures.value in
    let is = told c.in_ok-view.view c.in_ok-answer.answer inside.quota boards c.args.command.now kept.recorded.right c.keeps_limits.ensures c.in_ok-view.ensures.fit seen c.in_ok-answer.ensures.value in
    subst (λ (v : KeptBoards). c.in_ok-answer.answer.reply ≡ (answer_to v.quota v.game c.args.command.now).reply) c.self.view_is is.reply

pub returns-clause-game : goal.returns-clause-game
returns-clause-game g c =
    let inside = c.self.inside in
    let boards = map board_in inside.heap.records in
    let kept = c.self.invariant in
    let seen = subst (λ (v : KeptBoards). c.in_ok-view.view ≡ view_of_game v.quota v.game c.args.command.now) (sym c.self.view_is) c.in_ok-view.ensures.value in
    let is = told c.in_ok-view.view c.in_ok-answer.answer inside.quota boards c.args.command.now kept.recorded.right c.keeps_limits.ensures c.in_ok-view.ensures.fit seen c.in_ok-answer.ensures.value in
    let changed = c.change_records.ensures in
    let records = changed.records ∙ ap (λ (h : Heap). effected c.in_ok-answer.answer.effect h.records) c.grow_index.ensures.heap in
    let next = answered inside.quota (answer_to inside.quota boards c.args.command.now) c.in_ok-answer.answer inside.heap.records c.change_records.new.heap.records kept.recorded is records in
    let new = c.change_records.new in
    let same = same_kept (map board_in new.heap.records) (answer_to inside.quota boards c.args.command.now).game inside.quota (size new.pool) (size inside.pool) next.0 changed.size in
    subst (λ (v : KeptBoards). record { game = map board_in new.heap.records; quota = inside.quota; blocks = size new.pool } ≡ game_after c.args.command.now v) c.self.view_is same
