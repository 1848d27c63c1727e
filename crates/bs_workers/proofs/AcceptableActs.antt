-- An act that is acceptable by the registry is enabled in the core.
use Rattle.std.proofs.Common.{◌≡◌, ℕ, ◌+◌, ◌-◌, ◌<◌, Bool, true, false, List, [], ◌∷◌, ◌++◌, length, take, drop, get_or, None, refl, sym, ap, subst, ◌∙◌}
use Rattle.std.specs.Prelude.{◌&&◌, fold, nat_le, nat_lt, not}
use Rattle.std.specs.List.{list_any}
use Rattle.std.proofs.lemmas.Bool.{and_from, and_parts, cond-false, ltb-true}
use Rattle.std.proofs.lemmas.List.{append_assoc, drop_more, take-append-drop}
use Rattle.bs_board.specs.declared.commands.command.Command.{Command}
use Rattle.bs_board.specs.plans.Plan.{GameRow}
use Rattle.bs_registry.specs.Blocks.{blocks_of}
use Rattle.bs_sched.specs.declared.event.Event.{Event}
use Rattle.bs_sched.specs.declared.event.Event.TheVariants as event
use Rattle.bs_sched.specs.Core.{CoreView}
use Rattle.bs_sched.specs.Isolation.{opened_lanes, shared_run}
use Rattle.bs_sched.specs.Journal.{IsItsJournal, KeepsApart, setting_in}
use Rattle.bs_sched.specs.Coming.{RefusesAdmit}
use Rattle.bs_sched.specs.Lane.{Lane, is_quiet}
use Rattle.bs_sched.specs.Machine.{Setting, game_of, has_hands, is_admit, is_allowed, is_enabled, is_enabled_there, lane_of, may_admit, row_in}
use Rattle.bs_sched.specs.declared.stays.Admit.{Admit}
use Rattle.bs_sched.specs.declared.stays.Admit.TheVariants as admit
use Rattle.bs_sched.specs.declared.stays.Leave.{Leave}
use Rattle.bs_sched.specs.declared.stays.Leave.TheVariants as leave
use Rattle.bs_sched.specs.Registry.{capacity_of, registry_of, registry_after as registry_after_event}
use Rattle.bs_registry.specs.Stays.{Capacity, Stay, blocks_in_registry, first_refusal, has_name, is_full, is_in, may_admit_in, refusal_in_order}
use Rattle.bs_sched.proofs.Registry.{registry_law}
use Rattle.bs_workers.specs.declared.act.Act.{Act}
use Rattle.bs_workers.specs.declared.act.Act.TheVariants as act
use Rattle.bs_workers.specs.Acceptable.{AcceptableLaw, MayBeMade}
use Rattle.bs_workers.specs.Acts.{are_acceptable, capacity_of_core, is_acceptable, opened, registry_after}
use Rattle.bs_workers.specs.Run.{acts_of}
use Rattle.bs_workers.specs.inner.Making.{AreNext, IsNext, Makes}
use Rattle.bs_workers.proofs.Acted.{acts_append}

opened_registry : (plan : List GameRow) → registry_of (opened_lanes plan) ≡ opened plan
opened_registry [] = refl
opened_registry (row ∷ plan) = ap (λ (stays : List Stay). record { row = row; is_open = true } ∷ stays) (opened_registry plan)

-- jobs do not change the registry, so it depends on the acts alone
made_by_acts : (registry : List Stay) (events : List Event) → fold registry_after_event registry events ≡ fold registry_after registry (acts_of events)
made_by_acts registry [] = refl
made_by_acts registry (event.Hand game command ∷ events) = made_by_acts registry events
made_by_acts registry (event.Take worker job ∷ events) = made_by_acts registry events
made_by_acts registry (event.Put worker job ∷ events) = made_by_acts registry events
made_by_acts registry (event.Admit row ∷ events) = made_by_acts (registry_after registry (act.Admit row)) events
made_by_acts registry (event.Leave game ∷ events) = made_by_acts (registry_after registry (act.Leave game)) events

next_is_acceptable : (capacity : Capacity) (registry : List Stay) (acts : List Act) (a : Act) (rest : List Act) → are_acceptable capacity registry (acts ++ a ∷ rest) ≡ true
    → is_acceptable capacity (fold registry_after registry acts) a ≡ true
next_is_acceptable capacity registry [] a rest all = (and_parts (is_acceptable capacity registry a) (are_acceptable capacity (registry_after registry a) rest) all).0
next_is_acceptable capacity registry (first ∷ acts) a rest all =
    let next = registry_after registry first in
    next_is_acceptable capacity next acts a rest (and_parts (is_acceptable capacity registry first) (are_acceptable capacity next (acts ++ a ∷ rest)) all).1

may_be_made : (setting : Setting) (lanes : List Lane) (a : Act) → is_acceptable (capacity_of setting) (registry_of lanes) a ≡ true → MayBeMade setting lanes a
may_be_made setting lanes (act.Hand stay command) is = (registry_law setting lanes []).hands stay command ∙ is
may_be_made setting lanes (act.Admit row) is = (registry_law setting lanes []).admits row ∙ is
may_be_made setting lanes (act.Leave stay) is = λ quiet.
    (registry_law setting lanes []).leaves stay ∙ and_from (is_in (registry_of lanes) stay) (is_quiet (lane_of lanes stay)) is quiet

pub acts_law : AcceptableLaw
acts_law setting plan events a rest acceptable enabled =
    let lanes = shared_run setting plan events in
    let told : registry_of lanes ≡ fold registry_after (opened plan) (acts_of events) =
    (registry_law setting (opened_lanes plan) events).registry enabled
    ∙ ap (λ (registry : List Stay). fold registry_after_event registry events) (opened_registry plan) ∙ made_by_acts (opened plan) events in
    may_be_made setting lanes a
    (ap (λ (registry : List Stay). is_acceptable (capacity_of setting) registry a) told
    ∙ next_is_acceptable (capacity_of setting) (opened plan) (acts_of events) a rest acceptable)

-- in a core

pub next_may : (cap : ℕ) (core : CoreView) (a : Act) → IsItsJournal cap core → KeepsApart cap core → IsNext cap core a → MayBeMade (setting_in cap core) core.games.lanes a
next_may cap core a journal apart next =
    subst (λ (ls : List Lane). MayBeMade (setting_in cap core) ls a) apart.lanes
    (acts_law (setting_in cap core) core.games.rows core.journal a next.0 next.1 journal.enabled)

-- after some acts and jobs
next_again : (cap : ℕ) (old new : CoreView) (made acts : List Act) → Makes made old new → AreNext cap old (made ++ acts) → AreNext cap new acts
next_again cap old new made acts makes next =
    let told : acts_of new.journal ≡ acts_of old.journal ++ made
    = ap (λ (events : List Event). acts_of events) makes.journal ∙ acts_append old.journal makes.added ∙ ap (λ (more : List Act). acts_of old.journal ++ more) makes.acted in
    subst (λ (rows : List GameRow). are_acceptable (capacity_of_core cap new) (opened rows) (acts_of new.journal ++ acts) ≡ true) (sym makes.rows)
    (subst (λ (blocks : ℕ). are_acceptable (record { cap = cap; blocks = blocks }) (opened old.games.rows) (acts_of new.journal ++ acts) ≡ true) (sym makes.blocks)
    (subst (λ (all : List Act). are_acceptable (capacity_of_core cap old) (opened old.games.rows) all ≡ true)
    (sym (ap (λ (first : List Act). first ++ acts) told ∙ append_assoc (acts_of old.journal) made acts)) next))

-- jobs change nothing
pub next_still : (cap : ℕ) (old new : CoreView) (a : Act) → Makes [] old new → IsNext cap old a → IsNext cap new a
next_still cap old new a makes next = (next.0, next_again cap old new [] (a ∷ next.0) makes next.1)

pub next_of : (cap : ℕ) (old new : CoreView) (acts : List Act) (i : ℕ) (a : Act) → i < length acts → a ≡ get_or acts i a → Makes (take i acts) old new → AreNext cap old acts
    → IsNext cap new a
next_of cap old new acts i a within is makes next =
    let behind : drop i acts ≡ a ∷ drop (i + 1) acts = drop_more acts i a within ∙ ap (λ (first : Act). first ∷ drop (i + 1) acts) (sym is) in
    let whole : acts ≡ take i acts ++ a ∷ drop (i + 1) acts = sym (take-append-drop i acts) ∙ ap (λ (rest : List Act). take i acts ++ rest) behind in
    (drop (i + 1) acts, next_again cap old new (take i acts) (a ∷ drop (i + 1) acts) makes (subst (AreNext cap old) whole next))

-- an enabled event is not refused

unrefused : (named full : Bool) (needed left : ℕ) → (not named && (not full && nat_le needed left)) ≡ true → refusal_in_order named full needed left ≡ None
unrefused true full needed left may = let wrong : false ≡ true = may in absurd cc
unrefused false true needed left may = let wrong : false ≡ true = may in absurd cc
unrefused false false needed left may = rw may refl

none_refuses : (setting : Setting) (lanes : List Lane) (row : GameRow) → is_enabled setting lanes (event.Admit row) ≡ true
    → first_refusal (capacity_of setting) (registry_of lanes) row ≡ None
none_refuses setting lanes row enabled =
    let may : may_admit_in (capacity_of setting) (registry_of lanes) row ≡ true = sym ((registry_law setting lanes []).admits row) ∙ enabled in
    unrefused (list_any (has_name row.game) (registry_of lanes)) (is_full (registry_of lanes)) (blocks_of setting.cap row)
    (setting.blocks - blocks_in_registry setting.cap (registry_of lanes)) may

-- if the event of an admission is enabled, memory is the only reason to refuse it
pub admit_for_memory : (setting : Setting) (lanes : List Lane) (row : GameRow) (reason : Admit) → is_enabled setting lanes (event.Admit row) ≡ true
    → RefusesAdmit setting lanes row reason → reason ≡ admit.Memory
admit_for_memory setting lanes row admit.NameOpen enabled refuses = let wrong = sym refuses ∙ none_refuses setting lanes row enabled in absurd cc
admit_for_memory setting lanes row admit.Full enabled refuses = let wrong = sym refuses ∙ none_refuses setting lanes row enabled in absurd cc
admit_for_memory setting lanes row (admit.Short free) enabled refuses = let wrong = sym refuses ∙ none_refuses setting lanes row enabled in absurd cc
admit_for_memory setting lanes row admit.Memory enabled refuses = refl

-- the row of an enabled event is there
pub is_there : (setting : Setting) (lanes : List Lane) (e : Event) → is_admit e ≡ false → is_enabled setting lanes e ≡ true → game_of e < length lanes
is_there setting lanes e named enabled =
    let there : is_enabled_there setting.workers lanes e ≡ true = sym (cond-false (is_admit e) (may_admit setting lanes (row_in e)) (is_enabled_there setting.workers lanes e) named) ∙ enabled in
    ltb-true (game_of e) (length lanes) (and_parts (nat_lt (game_of e) (length lanes)) (is_allowed (lane_of lanes (game_of e)) e && has_hands setting.workers lanes e) there).0

pub is_open_there : (setting : Setting) (lanes : List Lane) (stay : ℕ) (command : Command) → is_enabled setting lanes (event.Hand stay command) ≡ true
    → (lane_of lanes stay).is_open ≡ true
is_open_there setting lanes stay command enabled =
    let may = and_parts (nat_lt stay (length lanes)) ((lane_of lanes stay).is_open && true) enabled in
    (and_parts (lane_of lanes stay).is_open true may.1).0
