use Rattle.std.proofs.Common.{◌≡◌, ◌+◌, ◌++◌, ap, ◌∙◌, rules}
use Rattle.bs_live.specs.Stay.{Stay}
use Rattle.bs_registry.specs.Registry.{Listing}
use Rattle.bs_host.specs.inner.LiveHost.{stays_then, text_then}
use Rattle.bs_host.proofs.LiveStates.{step_is, told_is}
use Rattle.bs_host.proofs.live_host.LiveHost.answer.Goals as goal

pub returns-clause-host : goal.returns-clause-host
returns-clause-host c =
    let host = c.args.self.now in
    let r = c.route_line-route.result in
    let next : c.in_ok-number.number ≡ c.args.self.now.number + 1 = search rules in
    let moved = c.in_ok-follow.ensures.host ∙ ap (λ (stays : Listing Stay). record host { stays = stays_then r stays }) c.route_line-route.ensures.same in
    step_is host c.follow.new.self c.args.line.now c.in_ok-parsed.parsed r c.in_ok-number.number
    c.in_ok-parsed.ensures c.route_line-route.ensures.route next moved

pub returns-clause-text : goal.returns-clause-text
returns-clause-text c =
    let host = c.args.self.now in
    let r = c.route_line-route.result in
    let told = c.in_ok-follow.ensures.text
    ∙ ap (λ (stays : Listing Stay). c.args.text.now.bytes ++ text_then host.number r stays) c.route_line-route.ensures.same in
    told_is host c.args.line.now c.in_ok-parsed.parsed r c.args.text.now.bytes c.follow.new.text.bytes
    c.in_ok-parsed.ensures c.route_line-route.ensures.route told
