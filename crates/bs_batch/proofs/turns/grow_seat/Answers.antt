use Rattle.std.proofs.Common.{◌≡◌, ◌∙◌, sym, true, false}
use Rattle.bs_modes.specs.Growth.{is_stretched}
use Rattle.bs_batch.proofs.Grown.{full, grows_full, stays_full}
use Rattle.bs_batch.proofs.turns.grow_seat.Goals as goal

pub returns-then-not-is_stretched : goal.returns-then-not-is_stretched
returns-then-not-is_stretched c width height others food s shows spare =
    let now = full width height others food c.args.state.now c.args.room.now c.args.plane.now s shows in
    let same : is_stretched s.body ≡ false =
    sym (c.is_stretched.ensures width height (record s { health = 100 }) now.bytes.narrow now.body now.shows) ∙ c.if-not-is_stretched.true in
    stays_full width height others food c.args.state.now c.args.room.now c.args.plane.now s shows same

pub returns : goal.returns
returns c width height others food s shows spare =
    let now = full width height others food c.args.state.now c.args.room.now c.args.plane.now s shows in
    let longer : is_stretched s.body ≡ true =
    sym (c.is_stretched.ensures width height (record s { health = 100 }) now.bytes.narrow now.body now.shows) ∙ c.if-not-is_stretched.false in
    grows_full width height others food c.args.state.now c.args.room.now c.args.plane.now s c.repeat_last.new.seat c.repeat_last.new.room c.repeat_last.new.plane
    shows spare longer c.repeat_last.ensures
