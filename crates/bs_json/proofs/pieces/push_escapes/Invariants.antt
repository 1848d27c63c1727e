use Rattle.std.proofs.Common.{◌≡◌, drop}
use Rattle.json.specs.Print.{escape}
use Rattle.bs_json.specs.Text.{put}
use Rattle.bs_json.proofs.pieces.push_escapes.Given as goal

-- the text so far, and the escapes of the bytes that are left
abbrev pub invariant-loop-byte : goal.invariant-loop-byte
invariant-loop-byte l = put l.text (escape (drop l.byte-index l.bytes)) ≡ put l.fn.text (escape l.bytes)
