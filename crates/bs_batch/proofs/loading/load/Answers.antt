use Rattle.std.proofs.Common.{◌≡◌, arith, false, length, refl, sym, ap, ◌∙◌}
use Rattle.std.specs.Prelude.{is_some}
use Rattle.bs_board.proofs.records.Longest.{side_fits}
use Rattle.bs_batch.specs.declared.layout.Head.{Head}
use Rattle.bs_batch.specs.Loading.{cleared}
use Rattle.bs_batch.proofs.LoadedBoard.{can_load, no_bytes, none_is, room_is, shows_game}
use Rattle.bs_batch.proofs.loading.load.Goals as goal

pub returns-then-not-load_cells : goal.returns-then-not-load_cells
returns-then-not-load_cells c can =
    let b = c.args.board.now in
    let none : is_some b.hazards ≡ false = sym c.is_some.ensures ∙ c.if-is_some.false in
    let wide = side_fits b.width can.legal.limits.width in
    let empty = no_bytes b.width b.height c.clear_plane.new.plane (length c.args.plane.now) wide
    (omega (arith, can.plane, c.load_cells.auto.plane, c.clear_plane.auto.plane)) c.clear_plane.ensures in
    let eight : length c.clear.new.head.seats ≡ 8 = ap (λ (h : Head). length h.seats) c.clear.ensures in
    let cells = c.load_cells.ensures.board (can_load b can.legal none) can.food can.bodies eight empty in
    record {
      exactly = (λ t. absurd cc, λ both. let loaded = cells.fits.1 both.1.lists in let refused = c.if-not-load_cells.true in absurd cc);
      shows = tt;
      lasts = tt;
      misfit = room_is b none;
      none = c.clear-then-not-load_cells.ensures ∙ ap cleared (sym (ap (λ (h : Head). h.settings) c.clear-then-not-load_cells.ensures));
    }

pub returns-then-not-cross_little : goal.returns-then-not-cross_little
returns-then-not-cross_little c can =
    let b = c.args.board.now in
    let none : is_some b.hazards ≡ false = sym c.is_some.ensures ∙ c.if-is_some.false in
    record {
      exactly = (
        λ t. absurd cc,
        λ both. let crosses = (c.cross_little.ensures b can.legal c.as_slice.ensures).1 both.1.crossings in
            let refused = c.if-not-cross_little.true in absurd cc,
      );
      shows = tt;
      lasts = tt;
      misfit = room_is b none;
      none = c.clear.ensures ∙ ap cleared (sym (ap (λ (h : Head). h.settings) c.clear.ensures));
    }

pub returns : goal.returns
returns c can =
    let b = c.args.board.now in
    let none : is_some b.hazards ≡ false = sym c.is_some.ensures ∙ c.if-is_some.false in
    let little = (c.cross_little.ensures b can.legal c.as_slice.ensures).0 c.if-not-cross_little.false in
    let wide = side_fits b.width can.legal.limits.width in
    let empty = no_bytes b.width b.height c.clear_plane.new.plane (length c.args.plane.now) wide
    (omega (arith, can.plane, c.load_cells.auto.plane, c.clear_plane.auto.plane)) c.clear_plane.ensures in
    let eight : length c.clear.new.head.seats ≡ 8 = ap (λ (h : Head). length h.seats) c.clear.ensures in
    let cells = c.load_cells.ensures.board (can_load b can.legal none) can.food can.bodies eight empty in
    record {
      exactly = (λ _. (none_is b.hazards none, record { lists = cells.fits.0 c.if-not-load_cells.false; crossings = little }), λ _. refl);
      shows = shows_game b c.settings_of-settings.result c.clear.new.head c.load_cells.new.head c.count.new.head c.load_cells.new.food c.load_cells.new.plane
          c.load_cells.new.bodies c.load_cells.result c.clear.ensures (c.settings_of-settings.ensures.board can.legal.limits.few) c.if-not-load_cells.false cells c.count.ensures.board;
      lasts = record { legal = can.legal; bodies = little };
      misfit = tt;
      none = tt;
    }
