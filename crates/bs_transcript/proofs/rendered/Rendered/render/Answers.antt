use Rattle.std.proofs.Common.{◌≡◌, ◌∙◌, ap, rules}
use Rattle.bs_json.specs.Text.{put}
use Rattle.bs_transcript.specs.inner.Between.{between}
use Rattle.bs_transcript.proofs.Places.{none_missing}
use Rattle.bs_transcript.proofs.rendered.Rendered.render.Goals as goal

pub invariant_of-self-else-missing-gt0 : goal.invariant_of-self-else-missing-gt0
invariant_of-self-else-missing-gt0 g c =
    let missing : c.render.new.text.missing ≡ 0 = search rules in
    let lines = between c.args.at.now.number c.render.new.self.number g.L.Lines.lines in
    record {
      inside = c.render.new.self.passed;
      is = none_missing c.args.self.now.text.room lines c.render.new.text (c.render.ensures.text ∙ ap (λ t. put t lines) c.clear.ensures) missing;
    }
