use Rattle.std.proofs.Common.{refl}
use Rattle.std.specs.Prelude.{option_copied}
use Rattle.bs_host.specs.inner.File.{pieces_after}
use Rattle.bs_host.specs.inner.Parsed.{parsed_lines}
use Rattle.bs_host.specs.Routing.{capacity_of}
use Rattle.bs_host.proofs.ParsedLines.{routed}
use Rattle.bs_host.proofs.serving.read_alone.Goals as goal

pub returns-clause-routed : goal.returns-clause-routed
returns-clause-routed c =
    let file = c.args.file in
    let pieces = pieces_after (option_copied file.rest) in
    routed (capacity_of file.blocks) file.plan.now pieces (parsed_lines file.plan.now.version pieces) c.in_ok-requests.requests refl c.in_ok-requests.ensures
