use Rattle.std.proofs.Common.{◌<◌, ◌∙◌, length, drop, sym, arith, length-drop}
use Rattle.std.proofs.lemmas.Bool.{lt-ltb}
use Rattle.std.proofs.lemmas.List.{drop_all}
use Rattle.bs_transcript.proofs.Places.{line_in_section, same_test, strays_left}
use Rattle.bs_transcript.proofs.cursor.Cursor.has_line.Goals as goal

pub returns-then-self : goal.returns-then-self
returns-then-self g c =
    let me = c.args.self.now in
    let some = drop me.section me.sections.now in
    let one : 0 < length some = omega (arith, c.if-self.true, length-drop me.section me.sections.now) in
    let more = line_in_section some me.strays.now g.L.Lines.lines me.index me.number one me.within me.passed me.left in
    lt-ltb me.section (length me.sections.now) c.if-self.true ∙ sym (lt-ltb me.number (length g.L.Lines.lines) more)

pub returns-else-self : goal.returns-else-self
returns-else-self g c =
    let me = c.args.self.now in
    let none = drop_all me.section me.sections.now c.if-self.false in
    same_test me.index (length me.strays.now) me.number (length g.L.Lines.lines)
    (strays_left (drop me.section me.sections.now) me.strays.now g.L.Lines.lines me.index me.number none me.left)
