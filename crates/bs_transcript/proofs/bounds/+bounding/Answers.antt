use Rattle.std.proofs.Common.{rules, ◌++◌, ◌≡◌, IfOk, ap, sym, subst, ◌∙◌}
use Rattle.std.specs.List.{flat_map}
use Rattle.std.proofs.lemmas.List.Concat.{flat_map-append}
use Rattle.bs_transcript.specs.inner.Buffer.{AreBounded}
use Rattle.bs_transcript.specs.inner.Parts.{lines_of_section}
use Rattle.bs_transcript.proofs.bounds.+bounding.Goals as goal

-- the bounds of both ranges are those of all sections
pub returns : goal.returns
returns g t c =
    let front = c.split_at.result.0.now in
    let back = c.split_at.result.1.now in
    let some = flat_map lines_of_section front in
    let others = flat_map lines_of_section back in
    let first : AreBounded c.in_ok-first.field-0 some = search rules in
    let rest : AreBounded c.in_ok-rest.field-0 others = search rules in
    let whole : some ++ others ≡ flat_map lines_of_section c.args.sections.now
    = sym (ap (flat_map lines_of_section) c.split_at.ensures.by_index.0 ∙ flat_map-append lines_of_section front back) in
    subst (λ lines. IfOk c.and.result (λ bounds. AreBounded bounds lines)) whole (c.and.ensures some others first rest)
