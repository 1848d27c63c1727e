use Rattle.std.proofs.Common.{◌≡◌, ◌∷◌, subst, rules}
use Rattle.std.specs.Prelude.{option_copied}
use Rattle.bs_workers.specs.Acts.{opened}
use Rattle.bs_registry.specs.OpenStays.{open_stays_of}
use Rattle.bs_host.specs.inner.File.{pieces_after}
use Rattle.bs_host.specs.inner.Parsed.{parsed_lines, routes_parsed}
use Rattle.bs_host.specs.inner.Routing.{WillRoute}
use Rattle.bs_host.specs.Routing.{capacity_of}
use Rattle.bs_host.proofs.ParsedLines.{next_parsed}
use Rattle.bs_host.proofs.route.route_text.Goals as goal

pub lines-preserved : goal.lines-preserved
lines-preserved c =
    let capacity = capacity_of c.args.blocks in
    let version = c.args.plan.now.version in
    let all = routes_parsed capacity (open_stays_of (opened c.args.plan.now.rows)) 2 (parsed_lines version (pieces_after (option_copied c.args.text))) in
    let more = c.split_line.result.1 in
    let after = parsed_lines version (pieces_after (option_copied more)) in
    let is : parsed_lines version (pieces_after (option_copied c.lines.left)) ≡ c.in_ok-parsed.parsed ∷ after
    = next_parsed version c.lines.left more c.in-Some.text c.split_line.result.0.now c.in_ok-parsed.parsed (search rules) c.split_line.ensures.pieces c.in_ok-parsed.ensures in
    c.in_ok-route.ensures all after (subst (λ lines. WillRoute capacity all c.lines.router lines) is c.lines.invariant)
