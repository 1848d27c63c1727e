use Rattle.std.proofs.Common.{◌≡◌, refl}
use Rattle.bs_batch.specs.declared.layout.TheConstants.{LARGE_SIDE}
use Rattle.bs_batch.specs.Loading.{FitsGame, FitsSides}
use Rattle.arena_c.proofs.LoadedRecord.{board_read, not_read}
use Rattle.arena_c.proofs.large.arena_large_load.Goals as goal

pub returns-in-Ok : goal.returns-in-Ok
returns-in-Ok c =
    board_read (λ b. FitsSides LARGE_SIDE b × FitsGame 625 5032 b) c.args.bytes.now (c.load_large.new.game ≡ c.args.game.now) c.in-Ok.board c.load_large.result c.loaded.result
    c.load_large.new.game.head c.load_large.new.game.food c.load_large.new.game.plane c.load_large.new.game.bodies c.in-Ok.ensures (c.load_large.ensures c.in-Ok.ensures.0) c.loaded.ensures

pub returns-in-Err : goal.returns-in-Err
returns-in-Err c =
    not_read (λ b. FitsSides LARGE_SIDE b × FitsGame 625 5032 b) c.args.bytes.now (c.args.game.now ≡ c.args.game.now) c.in-Err.fault c.status_of.result c.args.game.now.head c.args.game.now.food
    c.args.game.now.plane c.args.game.now.bodies refl c.in-Err.ensures c.status_of.ensures
