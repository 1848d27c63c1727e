use Rattle.std.proofs.Common.{◌≡◌, ◌∷◌, ◌++◌, length, subst, rules}
use Rattle.std.proofs.lemmas.List.{nil_from_length}
use Rattle.bs_host.specs.inner.Routing.{WillRoute}
use Rattle.bs_host.specs.Routing.{capacity_of}
use Rattle.bs_host.proofs.route.Router.route_share.Goals as goal

pub loop-line-preserved : goal.loop-line-preserved
loop-line-preserved c =
    λ all later will.
    let rest = c.next.new.self.rest.items in
    let is : c.loop-line.line-iterator.rest.items ≡ c.in-Some.line ∷ rest = search rules in
    c.in_ok-route.ensures all (rest ++ later)
    (subst (λ lines. WillRoute (capacity_of c.args.blocks) all c.loop-line.self (lines ++ later)) is (c.loop-line.invariant all later will))

pub returns : goal.returns
returns c =
    λ all later will.
    let none : length c.loop-line.line-iterator.rest.items ≡ 0 = search rules in
    subst (λ lines. WillRoute (capacity_of c.args.blocks) all c.loop-line.self (lines ++ later))
    (nil_from_length c.loop-line.line-iterator.rest.items none) (c.loop-line.invariant all later will)
