use Rattle.std.proofs.Common.{◌++◌, ◌∙◌, ap}
use Rattle.bs_plane.proofs.WrittenRecord.{writes_next}
use Rattle.bs_plane.proofs.writing.write_record.Goals as goal

pub returns : goal.returns
returns c =
    writes_next c.args.board.now c.args.food.now c.args.snakes.now c.extend_from_slice.new.self.items c.extend_from_slice-2.new.self.items c.push_hazards.new.into.items
    c.extend_from_slice-3.new.self.items
    (c.in_ok-extend_from_slice.ensures.items ∙ ap (λ l. l ++ c.next_head_bytes.result) c.clear.ensures.items ∙ c.next_head_bytes.ensures)
    c.in_ok-extend_from_slice-2.ensures.items (λ h sees. c.in_ok-push_hazards.ensures h sees) c.in_ok-extend_from_slice-3.ensures.items
