-- What `admit` and `leave` return, and the core after them.
use Rattle.std.specs.Prelude.{◌≡◌, ℕ, true, false, List, length, Option, Some, None, Result, MatchResult}
use Rattle.bs_board.specs.plans.Plan.{GameRow}
use Rattle.bs_sched.specs.declared.event.Event.TheVariants as event
use Rattle.bs_sched.specs.declared.stays.Admit.{Admit}
use Rattle.bs_sched.specs.declared.stays.Admit.TheVariants as admit
use Rattle.bs_sched.specs.declared.stays.Leave.{Leave}
use Rattle.bs_sched.specs.declared.stays.Leave.TheVariants as leave
use Rattle.bs_registry.specs.declared.refusal.Refusal.{Refusal}
use Rattle.bs_registry.specs.declared.refusal.Refusal.TheVariants as refused
use Rattle.bs_sched.specs.Core.{CoreView, core_after}
use Rattle.bs_sched.specs.Games.{setting_of}
use Rattle.bs_sched.specs.Lane.{Lane, is_quiet, may_leave}
use Rattle.bs_sched.specs.Machine.{Setting, lane_of, may_admit}
use Rattle.bs_sched.specs.Registry.{capacity_of, registry_of}
use Rattle.bs_registry.specs.Stays.{first_refusal}

-- the first reason against the row; `Memory` only if there is none
abbrev pub IsFirstRefusal : Option Refusal → Admit → Type 0
IsFirstRefusal found admit.NameOpen = found ≡ Some refused.NameOpen
IsFirstRefusal found admit.Full = found ≡ Some refused.Full
IsFirstRefusal found (admit.Short free) = found ≡ Some (refused.Short free)
IsFirstRefusal found admit.Memory = found ≡ None

abbrev pub RefusesAdmit : Setting → List Lane → GameRow → Admit → Type 0
RefusesAdmit setting lanes row = IsFirstRefusal (first_refusal (capacity_of setting) (registry_of lanes) row)

-- the stay has the next row, and its event was enabled; or the core is unchanged
abbrev pub Admits : ℕ → CoreView → GameRow → Result ℕ Admit → CoreView → Type 0
Admits cap old row answer new =
    MatchResult answer
    (λ game.
    (game ≡ length old.games.lanes) × (may_admit (setting_of cap old.games) old.games.lanes row ≡ true) × (new ≡ core_after cap old (event.Admit row)))
    (λ refusal. RefusesAdmit (setting_of cap old.games) old.games.lanes row refusal × (new ≡ old))

abbrev pub RefusesLeave : Lane → Leave → Type 0
RefusesLeave x leave.Closed = x.is_open ≡ false
RefusesLeave x leave.Busy = (x.is_open ≡ true) × (is_quiet x ≡ false)
RefusesLeave x leave.Memory = may_leave x ≡ true

-- the stay is closed, and its event was enabled; or the core is unchanged
abbrev pub Leaves : {U : Type 0} → ℕ → CoreView → ℕ → Result U Leave → CoreView → Type 0
Leaves cap old game answer new =
    MatchResult answer
    (λ _. (may_leave (lane_of old.games.lanes game) ≡ true) × (new ≡ core_after cap old (event.Leave game)))
    (λ refusal. RefusesLeave (lane_of old.games.lanes game) refusal × (new ≡ old))
