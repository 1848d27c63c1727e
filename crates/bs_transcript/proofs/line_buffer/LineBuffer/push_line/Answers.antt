use Rattle.std.proofs.Common.{[], ◌∷◌, get_or, refl, rules}
use Rattle.bs_transcript.specs.inner.Parts.{lines_of_part}
use Rattle.bs_transcript.specs.Written.{IsCutOff}
use Rattle.bs_transcript.proofs.Sent.{pushed}
use Rattle.bs_transcript.proofs.line_buffer.LineBuffer.push_line.Goals as goal

pub returns-in_err-make_room-clause-sent : goal.returns-in_err-make_room-clause-sent
returns-in_err-make_room-clause-sent g c =
    λ first text left way.
    let line = get_or (lines_of_part c.args.part.now) c.args.index [] in
    let cut : IsCutOff c.in_err-make_room.field-0.0.written first (g.W.Write.contents c.make_room.new.output) text =
    c.in_err-make_room.ensures.sent first text (line ∷ left) way in
    search rules

pub returns-clause-sent : goal.returns-clause-sent
returns-clause-sent g c =
    λ first text left way.
    let line = get_or (lines_of_part c.args.part.now) c.args.index [] in
    pushed first (g.W.Write.contents c.make_room.new.output) c.make_room.new.self _ text line left
    (c.in_ok-make_room.ensures.sent first text (line ∷ left) way) (c.in_ok-make_room.ensures.room way.room) c.push_line.ensures refl refl
