use Rattle.std.proofs.Common.{◌<◌, ◌∙◌, length, sym, ap, arith, rules}
use Rattle.bs_json.specs.Text.{put}
use Rattle.bs_transcript.specs.inner.Between.{between}
use Rattle.bs_transcript.proofs.Places.{put_between, put_between_none}
use Rattle.bs_transcript.proofs.cursor.Cursor.render.Goals as goal

pub lines-init : goal.lines-init
lines-init g c = (omega arith, put_between_none c.args.text.now c.args.self.now.number g.L.Lines.lines)

pub lines-preserved : goal.lines-preserved
lines-preserved g c =
    let from = c.args.self.now.number in
    let to = c.lines.self.number in
    let inside : to < length g.L.Lines.lines = search rules in (
      omega (arith, c.advance.ensures, c.lines.invariant.0),
      c.push_line.ensures ∙ put_between c.args.text.now c.lines.text from to g.L.Lines.lines c.lines.invariant.0 inside c.lines.invariant.1
          ∙ ap (λ n. put c.args.text.now (between from n g.L.Lines.lines)) (sym c.advance.ensures),
    )
