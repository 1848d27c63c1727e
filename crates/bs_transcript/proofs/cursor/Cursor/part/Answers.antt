use Rattle.std.proofs.Common.{◌+◌, drop, get_or}
use Rattle.std.proofs.lemmas.List.{drop_all, drop_more}
use Rattle.bs_transcript.proofs.Places.{first_count, section_line, stray_line}
use Rattle.bs_transcript.proofs.cursor.Cursor.part.Goals as goal

pub returns-then-self-clause-within : goal.returns-then-self-clause-within
returns-then-self-clause-within g c =
    let me = c.args.self.now in
    let first = drop_more me.sections.now me.section c.index-self-self.result c.if-self.true in
    (section_line (drop me.section me.sections.now) (get_or me.sections.now me.section c.index-self-self.result) (drop (me.section + 1) me.sections.now) me.strays.now g.L.Lines.lines me.index me.number first me.within me.left).0

pub returns-then-self-clause-count : goal.returns-then-self-clause-count
returns-then-self-clause-count g c =
    λ some.
    let me = c.args.self.now in
    let first = drop_more me.sections.now me.section c.index-self-self.result c.if-self.true in
    first_count (drop me.section me.sections.now) (get_or me.sections.now me.section c.index-self-self.result) (drop (me.section + 1) me.sections.now) me.index first

pub returns-then-self-clause-line : goal.returns-then-self-clause-line
returns-then-self-clause-line g c =
    let me = c.args.self.now in
    let first = drop_more me.sections.now me.section c.index-self-self.result c.if-self.true in
    (section_line (drop me.section me.sections.now) (get_or me.sections.now me.section c.index-self-self.result) (drop (me.section + 1) me.sections.now) me.strays.now g.L.Lines.lines me.index me.number first me.within me.left).1

pub returns-else-self-clause-within : goal.returns-else-self-clause-within
returns-else-self-clause-within g c =
    let me = c.args.self.now in
    let none = drop_all me.section me.sections.now c.if-self.false in
    (stray_line (drop me.section me.sections.now) me.strays.now g.L.Lines.lines me.index me.number none c.requires me.left).0

pub returns-else-self-clause-line : goal.returns-else-self-clause-line
returns-else-self-clause-line g c =
    let me = c.args.self.now in
    let none = drop_all me.section me.sections.now c.if-self.false in
    (stray_line (drop me.section me.sections.now) me.strays.now g.L.Lines.lines me.index me.number none c.requires me.left).1
