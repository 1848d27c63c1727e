-- The registry of the open stays gives the first reason against the row.
use Rattle.std.proofs.Common.{◌≡◌, ℕ, Option, Some, None, refl, sym, subst, arith}
use Rattle.std.proofs.lemmas.Result.{err_from_is_err_and}
use Rattle.bs_board.specs.plans.Plan.{GameRow}
use Rattle.bs_registry.specs.declared.refusal.Refusal.{Refusal}
use Rattle.bs_registry.specs.Stays.{first_refusal}
use Rattle.bs_sched.specs.Coming.{IsFirstRefusal}
use Rattle.bs_sched.specs.Core.{CoreView}
use Rattle.bs_sched.specs.Games.{setting_of}
use Rattle.bs_sched.specs.Registry.{capacity_of, registry_of}
use Rattle.bs_sched.proofs.RegistryRefusals.{may_admit_unrefused}
use Rattle.bs_sched.proofs.cores.Core.admit.Goals as goal

abbrev Finds : ℕ → GameRow → Option Refusal → CoreView → Type 0
Finds cap row found core = first_refusal (capacity_of (setting_of cap core.games)) (registry_of core.games.lanes) row ≡ found

pub returns-in-Some : goal.returns-in-Some
returns-in-Some g c =
    let refusal = Some c.in-Some.refusal in
    let found = subst (Finds g.row.CAP c.args.row refusal) c.self.view_is (sym c.in-Some.ensures) in
    (subst (λ (o : Option Refusal). IsFirstRefusal o c.from.result) (sym found) c.from.ensures, refl)

pub open_stay-requires : goal.open_stay-requires
open_stay-requires g c =
    let games = c.args.self.now.games in
    let none = subst (Finds g.row.CAP c.args.row None) c.self.view_is (sym c.in_default.ensures) in
    (omega arith, may_admit_unrefused (setting_of g.row.CAP games) games.lanes c.args.row none)

pub returns-in_err-open_stay : goal.returns-in_err-open_stay
returns-in_err-open_stay g c =
    let none = subst (Finds g.row.CAP c.args.row None) c.self.view_is (sym c.in_default.ensures) in
    let p = err_from_is_err_and c.from_residual.result c.from_residual.ensures.1 in
    rw (p.1, p.2) (none, c.in_err-open_stay.ensures.err)

pub returns : goal.returns
returns g c =
    let games = c.args.self.now.games in
    let none = subst (Finds g.row.CAP c.args.row None) c.self.view_is (sym c.in_default.ensures) in
    let stay = c.in_ok-open_stay.ensures in
    (stay.row, may_admit_unrefused (setting_of g.row.CAP games) games.lanes c.args.row none, stay.ok)
