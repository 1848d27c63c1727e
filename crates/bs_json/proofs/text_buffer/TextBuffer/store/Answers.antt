use Rattle.std.proofs.Common.{◌≡◌, ◌+◌, ◌-◌, ◌≤◌, ◌∙◌, List, ℕ, ap, arith, length, refl, sym, take}
use Rattle.std.proofs.Math.Seq.{paste}
use Rattle.std.proofs.lemmas.List.{length-take-le, with_items_is}
use Rattle.std.proofs.lemmas.List.Edits.{length-paste}
use Rattle.std.proofs.lemmas.Slice.{put_mid-paste}
use borrow.Rule.Slice.PartMut.{put_mid}
use Rattle.bs_json.specs.Text.{Text}
use Rattle.bs_json.proofs.Puts.{put_over}
use Rattle.bs_json.proofs.text_buffer.TextBuffer.store.Goals as goal

pub returns : goal.returns
returns c =
    let own = c.self.inside in
    let piece = c.args.piece.now in
    let n = length piece in
    let stored = ap (λ (t : Text). length t.bytes) c.self.view_is in
    let room = ap (λ (t : Text). t.room) c.self.view_is in
    let long : length (take own.len own.bytes.items) ≡ own.len = length-take-le own.len own.bytes.items c.self.invariant in
    let fits : own.len + n ≤ length own.bytes.items = omega (arith, stored, room, long, c.requires) in
    let base = c.deref_mut.result.now in
    let part = own.len + n - own.len in
    let written = put_mid own.len part base c.copy_from_slice.new.self in
    let pasted : written ≡ paste own.bytes.items own.len piece n =
    put_mid-paste own.len part base c.copy_from_slice.new.self piece n c.copy_from_slice.ensures.after (omega arith) refl
    ∙ ap (λ (b : List ℕ). paste b own.len piece n) c.deref_mut.ensures.value in
    let whole : length written ≡ own.bytes.len = ap length pasted ∙ length-paste own.bytes.items own.len piece n fits (omega arith) ∙ sym own.bytes.ok.0 in
    put_over own.bytes.items _ piece own.len own.missing c.args.self.now c.self.view_is (with_items_is own.bytes written whole ∙ pasted) fits
