use Rattle.std.proofs.Common.{◌≡◌, refl}
use Rattle.bs_batch.specs.declared.layout.TheConstants.{SMALL_SIDE}
use Rattle.bs_batch.specs.Loading.{FitsGame, FitsSides}
use Rattle.arena_c.proofs.LoadedRecord.{board_read, not_read}
use Rattle.arena_c.proofs.small.arena_small_load.Goals as goal

pub returns-in-Ok : goal.returns-in-Ok
returns-in-Ok c =
    board_read (λ b. FitsSides SMALL_SIDE b × FitsGame 121 1000 b) c.args.bytes.now (c.load_small.new.game ≡ c.args.game.now) c.in-Ok.board c.load_small.result c.loaded.result
    c.load_small.new.game.head c.load_small.new.game.food c.load_small.new.game.plane c.load_small.new.game.bodies c.in-Ok.ensures (c.load_small.ensures c.in-Ok.ensures.0) c.loaded.ensures

pub returns-in-Err : goal.returns-in-Err
returns-in-Err c =
    not_read (λ b. FitsSides SMALL_SIDE b × FitsGame 121 1000 b) c.args.bytes.now (c.args.game.now ≡ c.args.game.now) c.in-Err.fault c.status_of.result c.args.game.now.head c.args.game.now.food
    c.args.game.now.plane c.args.game.now.bodies refl c.in-Err.ensures c.status_of.ensures
