use Rattle.std.proofs.Common.{◌∙◌, ◌<◌, ◌^◌, arith}
use Rattle.bs_json.proofs.Puts.{put_part}
use Rattle.bs_json.proofs.text_buffer.TextBuffer.push_part.Goals as goal

pub returns : goal.returns
returns c =
    let few : c.self.inside.missing < 2 ^ 64 = grind (arith, c.self.ranges) in
    put_part c.args.self.now _ c.args.piece.now c.split_at.result.0.now c.split_at.result.1.now c.left.result _ c.split_at.ensures.front c.split_at.ensures.back
    (let long = c.requires in let fills = c.left.ensures in omega arith) c.left.ensures (c.self.view_is ∙ c.store.ensures) few c.saturating_add-self-inside.ensures
