use Rattle.std.specs.Prelude.{option_copied}
use Rattle.bs_host.specs.inner.File.{pieces_after}
use Rattle.bs_host.specs.inner.Parsed.{all_lines}
use Rattle.bs_host.specs.Routing.{capacity_of}
use Rattle.bs_host.proofs.ParsedLines.{routed}
use Rattle.bs_host.proofs.serving.read_requests.Goals as goal

pub returns-clause-routed : goal.returns-clause-routed
returns-clause-routed g c =
    let file = c.args.file in
    routed (capacity_of file.blocks) file.plan.now (pieces_after (option_copied file.rest)) (all_lines c.in_ok-core.lines.items)
    c.in_ok-route_lines.field-0 c.in_ok-core.ensures.lines c.in_ok-route_lines.ensures
