use Rattle.std.proofs.Common.{◌+◌, ◌≤◌, ◌∙◌, ap, sym, arith, drop, get_or, length}
use Rattle.std.proofs.lemmas.List.{drop_all, drop_more}
use Rattle.json.specs.Print.{escape, escape_byte}
use Rattle.bs_json.specs.Text.{put}
use Rattle.bs_json.proofs.Puts.{put_none, put_step}
use Rattle.bs_json.proofs.pieces.push_escapes.Goals as goal

pub loop-byte-preserved : goal.loop-byte-preserved
loop-byte-preserved c =
    let bytes = c.args.bytes.now in
    let i = c.loop-byte.byte-index in
    put_step c.loop-byte.text c.push_escape.new.text _ (escape_byte (get_or bytes i 0)) (escape (drop (i + 1) bytes)) c.push_escape.ensures
    (ap (λ left. put c.loop-byte.text (escape left)) (sym (drop_more bytes i 0 c.loop-byte-test.true)) ∙ c.loop-byte.invariant)

pub returns : goal.returns
returns c =
    let past : length c.args.bytes.now ≤ c.loop-byte.byte-index = (let end = c.loop-byte-test.false in omega arith) in
    sym (put_none c.loop-byte.text) ∙ ap (λ left. put c.loop-byte.text (escape left)) (sym (drop_all c.loop-byte.byte-index c.args.bytes.now past)) ∙ c.loop-byte.invariant
