use Rattle.std.proofs.Common.{◌≡◌, ◌-◌, ◌≤◌}
use Rattle.bs_json.specs.Text.{put}
use Rattle.bs_transcript.specs.inner.Between.{between}
use Rattle.bs_transcript.proofs.cursor.Cursor.render.Given as goal

-- the lines so far are in the text
abbrev pub invariant-lines : goal.invariant-lines
invariant-lines g l = (l.fn.self.number ≤ l.self.number) × (l.text ≡ put l.fn.text (between l.fn.self.number l.self.number g.L.Lines.lines))

abbrev pub decreases-lines : goal.decreases-lines
decreases-lines g l = l.limits.end - l.self.number
