use Rattle.std.proofs.Common.{◌+◌, ◌≤◌, length, ap, ◌∙◌, arith}
use Rattle.bs_json.specs.Text.{put}
use Rattle.bs_live.proofs.Lines.{moved_text}
use Rattle.bs_live.proofs.room.make_room.Goals as goal

pub returns-clause-bytes : goal.returns-clause-bytes
returns-clause-bytes c =
    let fits : length c.args.text.now.bytes + c.args.more ≤ c.in_ok-room.room = omega (arith, c.in_ok-room.ensures, ap length c.as_slice.ensures) in
    (moved_text c.in_ok-wider.wider c.push.new.self c.args.text.now.bytes c.in_ok-room.room c.args.more c.in_ok-wider.ensures.value (c.push.ensures ∙ ap (put c.in_ok-wider.wider) c.as_slice-2.ensures) fits).0

pub returns-clause-room : goal.returns-clause-room
returns-clause-room c =
    let fits : length c.args.text.now.bytes + c.args.more ≤ c.in_ok-room.room = omega (arith, c.in_ok-room.ensures, ap length c.as_slice.ensures) in
    (moved_text c.in_ok-wider.wider c.push.new.self c.args.text.now.bytes c.in_ok-room.room c.args.more c.in_ok-wider.ensures.value (c.push.ensures ∙ ap (put c.in_ok-wider.wider) c.as_slice-2.ensures) fits).1
