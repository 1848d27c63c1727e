use Rattle.std.proofs.Common.{◌∙◌, sym}
use Rattle.std.proofs.lemmas.List.{with_items_is}
use Rattle.bs_json.proofs.Writing.{put_written}
use Rattle.bs_json.proofs.text_buffer.TextBuffer.store_cells.Goals as goal

pub returns-in-Some : goal.returns-in-Some
returns-in-Some c =
    let own = c.self.inside in
    let wrote = rw c.deref_mut.ensures.value at c.in-Some.ensures.written in
    let new = c.write_list.new.bytes in
    put_written own.bytes.items new _ _ own.len own.missing c.in-Some.end c.args.self.now c.self.view_is c.self.invariant wrote
    (with_items_is own.bytes new (wrote.room ∙ sym own.bytes.ok.0))
