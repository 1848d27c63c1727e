use Rattle.std.proofs.Common.{ℕ, ◌-◌, ap, ◌∙◌}
use Rattle.bs_pool.specs.Ledger.{size}
use Rattle.bs_registry.specs.Registry.{seen}
use Rattle.bs_registry.specs.Stays.{first_refusal}
use Rattle.bs_sched.specs.Games.{GamesView, setting_of}
use Rattle.bs_sched.specs.Registry.{capacity_of, registry_of}
use Rattle.bs_sched.specs.inner.GamesLayout.{games_in}
use Rattle.bs_sched.proofs.RegistryRefusals.{told_by_open}
use Rattle.bs_sched.proofs.games.Games.refusal.Goals as goal

pub returns : goal.returns
returns g c =
    let cap = g.row.CAP in
    let games = games_in c.self.inside in
    let row = c.args.row.now in
    let left = c.unreserved.ensures ∙ ap (λ (n : ℕ). size c.self.inside.pool - n) c.self.invariant.reserved.within in
    let told = told_by_open (setting_of cap games) (seen c.self.inside.registry) games.lanes row c.unreserved.result c.self.invariant.listed left in
    c.refusal.ensures.reason ∙ rw c.blocks_of.ensures.value told
    ∙ ap (λ (v : GamesView). first_refusal (capacity_of (setting_of cap v)) (registry_of v.lanes) row) c.self.view_is
