use Rattle.std.proofs.Common.{◌≡◌, ◌+◌, ◌<◌, ◌∙◌, length, drop, ap, sym, arith, length-drop}
use Rattle.std.proofs.lemmas.List.{drop_all, drop-drop}
use Rattle.bs_transcript.specs.inner.Between.{lines_of_first}
use Rattle.bs_transcript.specs.inner.Parts.{all_lines_of}
use Rattle.bs_transcript.proofs.Places.{next_section, none_within, one_on, some_count, stays_within}
use Rattle.bs_transcript.proofs.cursor.Cursor.advance.Goals as goal

pub invariant_of-self : goal.invariant_of-self
invariant_of-self g c =
    let me = c.args.self.now in
    let some = drop me.section me.sections.now in
    let one : 0 < length some = omega (arith, c.if-self.true, length-drop me.section me.sections.now) in
    let last : me.index + 1 ≡ lines_of_first me.index some = omega (arith, c.if-self-count.true, c.len-count.ensures, c.part.ensures.count c.if-self.true) in
    let next = next_section some me.strays.now g.L.Lines.lines me.index me.number one last me.left in
    record {
      few = me.few;
      left = ap (λ s. all_lines_of s me.strays.now) (sym (drop-drop 1 me.section me.sections.now)) ∙ next;
      within = some_count 0 (drop (me.section + 1) me.sections.now);
      passed = omega (arith, c.requires);
    }

pub invariant_of-self-else-self : goal.invariant_of-self-else-self
invariant_of-self-else-self g c =
    let me = c.args.self.now in
    let some = drop me.section me.sections.now in
    record {
      few = me.few;
      left = one_on (all_lines_of some me.strays.now) g.L.Lines.lines me.index me.number me.left;
      within = none_within some me.index (drop_all me.section me.sections.now c.if-self.false);
      passed = omega (arith, c.requires);
    }

pub invariant_of-self-else-self-count : goal.invariant_of-self-else-self-count
invariant_of-self-else-self-count g c =
    let me = c.args.self.now in
    let some = drop me.section me.sections.now in
    let within : me.index < c.len-count.result = omega (arith, c.part.ensures.within, c.len-count.ensures) in
    record {
      few = me.few;
      left = one_on (all_lines_of some me.strays.now) g.L.Lines.lines me.index me.number me.left;
      within =
          stays_within some me.index c.len-count.result
          (λ one. c.len-count.ensures ∙ c.part.ensures.count (omega (arith, one, length-drop me.section me.sections.now))) within
          c.if-self-count.false;
      passed = omega (arith, c.requires);
    }
