use Rattle.std.proofs.Common.{◌≡◌, ◌∷◌, subst, rules}
use Rattle.bs_workers.specs.Acts.{opened}
use Rattle.bs_registry.specs.OpenStays.{open_stays_of}
use Rattle.bs_host.specs.inner.Parsed.{all_lines, routes_parsed}
use Rattle.bs_host.specs.inner.Routing.{WillRoute}
use Rattle.bs_host.specs.Routing.{capacity_of}
use Rattle.bs_host.proofs.route.route_lines.Goals as goal

pub loop-share-preserved : goal.loop-share-preserved
loop-share-preserved c =
    let capacity = capacity_of c.args.blocks in
    let all = routes_parsed capacity (open_stays_of (opened c.args.rows.now)) 2 (all_lines c.args.shares.items) in
    let rest = c.next.new.self.rest.items in
    let is : c.loop-share.share-iterator.rest.items ≡ c.in-Some.share ∷ rest = search rules in
    c.in_ok-route_share.ensures all (all_lines rest)
    (subst (λ shares. WillRoute capacity all c.loop-share.router (all_lines shares)) is c.loop-share.invariant)
