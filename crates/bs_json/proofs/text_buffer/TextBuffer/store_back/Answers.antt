use Rattle.std.proofs.Common.{◌∙◌, sym}
use Rattle.std.proofs.lemmas.List.{with_items_is}
use Rattle.bs_json.proofs.Writing.{put_written}
use Rattle.bs_json.proofs.text_buffer.TextBuffer.store_back.Goals as goal

pub returns : goal.returns
returns c =
    let own = c.self.inside in
    let wrote = rw c.deref_mut.ensures.value at c.write_back-self-inside.ensures in
    let new = c.write_back-self-inside.new.bytes in
    put_written own.bytes.items new _ _ own.len own.missing c.write_back-self-inside.result c.args.self.now c.self.view_is c.self.invariant wrote
    (with_items_is own.bytes new (wrote.room ∙ sym own.bytes.ok.0))
