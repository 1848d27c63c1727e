-- Which stays are open, and what they have answered.
use Rattle.std.proofs.Common.{◌≡◌, ℕ, Bool, true, false, ◌&&◌, if◌then◌else◌, List, [], ◌∷◌, ◌++◌, length, refl, sym, ap, ◌∙◌, inl, inr}
use Rattle.std.specs.Prelude.{nat_eq, nat_lt, fold, slice_set, slice_index_or}
use Rattle.std.proofs.Math.ListN.{get_or-map}
use Rattle.std.proofs.Math.Seq.{map-set_same}
use Rattle.std.proofs.lemmas.Bool.{cases_Bool, cond-true, cond-false, and_from, and_left}
use Rattle.std.proofs.lemmas.List.{length-map, map_push, map-set}
use Rattle.bs_board.proofs.Chains.{and_both}
use Rattle.bs_board.specs.declared.commands.command.Command.{Command}
use Rattle.bs_fiber.specs.declared.job.JobKind.{JobKind}
use Rattle.bs_fiber.specs.declared.job.JobKind.TheVariants as kind
use Rattle.bs_sched.specs.declared.event.Event.{Event}
use Rattle.bs_sched.specs.declared.event.Event.TheVariants as event
use Rattle.bs_sched.specs.Registry.{stay_of, registry_of, registry_after, RegistryLaw, ServedLaw, JournalLaw, rows_in, commands_to}
use Rattle.bs_registry.specs.Stays.{Stay, closed_stay, is_in, no_stay}
use Rattle.bs_sched.specs.Isolation.{alone_event, accepted, is_accepted, admitted, are_enabled, opened_lanes, own_events, commands_in, shared_run}
use Rattle.bs_sched.specs.Lane.{Lane, empty_lane, no_lane, is_quiet, goes_on, forked, answered, with_taken, with_put, with_waiting, closed_lane}
use Rattle.bs_sched.specs.Machine.{Setting, lane_of, is_named, is_enabled, lane_effect, step, run_of}
use Rattle.bs_sched.proofs.HandedCommands.{one_more_event, served}
use Rattle.bs_sched.proofs.Isolation.{keeps_commands, rows_run, opened_rows}
use Rattle.bs_sched.proofs.RegistryRefusals.{admits_by_registry}
use Rattle.bs_sched.proofs.LoneLanes.{step_enabled, step_refused}
use Rattle.bs_sched.proofs.RightRuns.{well_run, well_opened}

-- a job or a command leaves it unchanged

stay_taken : (x : Lane) (worker : ℕ) (k : JobKind) (p : ℕ) → stay_of (with_taken worker k p x) ≡ stay_of x
stay_taken x worker kind.Begin p = refl
stay_taken x worker kind.Part p = refl
stay_taken x worker kind.Join p = refl

stay_begun : (x : Lane) (on : Bool) → stay_of (if on then forked x else answered x) ≡ stay_of x
stay_begun x true = refl
stay_begun x false = refl

stay_put : (x : Lane) (k : JobKind) (p : ℕ) → stay_of (with_put k p x) ≡ stay_of x
stay_put x kind.Begin p = stay_begun x (goes_on x)
stay_put x kind.Part p = refl
stay_put x kind.Join p = refl

registry_changed : (lanes : List Lane) (e : Event) → registry_of (lane_effect lanes e) ≡ registry_after (registry_of lanes) e
registry_changed lanes (event.Hand game command) = map-set_same stay_of lanes game (with_waiting command (lane_of lanes game)) no_lane refl
registry_changed lanes (event.Take worker job) =
    map-set_same stay_of lanes job.game (with_taken worker job.kind job.part (lane_of lanes job.game)) no_lane (stay_taken (lane_of lanes job.game) worker job.kind job.part)
registry_changed lanes (event.Put worker job) =
    map-set_same stay_of lanes job.game (with_put job.kind job.part (lane_of lanes job.game)) no_lane (stay_put (lane_of lanes job.game) job.kind job.part)
registry_changed lanes (event.Admit row) = map_push stay_of lanes (empty_lane row)
registry_changed lanes (event.Leave game) =
    map-set stay_of lanes game (closed_lane (lane_of lanes game))
    ∙ ap (λ (entry : Stay). slice_set (registry_of lanes) game (closed_stay entry)) (sym (get_or-map stay_of lanes game no_lane))

registry_run : (setting : Setting) (lanes : List Lane) (events : List Event) → are_enabled setting lanes events ≡ true
    → registry_of (run_of setting lanes events) ≡ fold registry_after (registry_of lanes) events
registry_run setting lanes [] enabled = refl
registry_run setting lanes (e ∷ events) enabled =
    let both = and_both (is_enabled setting lanes e) (are_enabled setting (step setting lanes e) events) enabled in
    let one : registry_of (step setting lanes e) ≡ registry_after (registry_of lanes) e = ap registry_of (step_enabled setting lanes e both.0) ∙ registry_changed lanes e in
    registry_run setting (step setting lanes e) events both.1 ∙ ap (λ (registry : List Stay). fold registry_after registry events) one

and_true : (b : Bool) → (b && true) ≡ b
and_true true = refl
and_true false = refl

open_in_registry : (lanes : List Lane) (game : ℕ) → (slice_index_or (registry_of lanes) game no_stay).is_open ≡ (lane_of lanes game).is_open
open_in_registry lanes game = ap (λ (entry : Stay). entry.is_open) (get_or-map stay_of lanes game no_lane)

hands_by_registry : (setting : Setting) (lanes : List Lane) (game : ℕ) (command : Command) → is_enabled setting lanes (event.Hand game command) ≡ is_in (registry_of lanes) game
hands_by_registry setting lanes game command = rw (open_in_registry lanes game, length-map lanes stay_of, and_true (lane_of lanes game).is_open) refl

all_three : (a b c : Bool) → (a && ((b && c) && true)) ≡ ((a && b) && c)
all_three true b c = and_true (b && c)
all_three false b c = refl

leaves_by_registry : (setting : Setting) (lanes : List Lane) (game : ℕ)
    → is_enabled setting lanes (event.Leave game) ≡ (is_in (registry_of lanes) game && is_quiet (lane_of lanes game))
leaves_by_registry setting lanes game =
    rw (open_in_registry lanes game, length-map lanes stay_of)
    (all_three (nat_lt game (length lanes)) (lane_of lanes game).is_open (is_quiet (lane_of lanes game)))

same_registry : (setting : Setting) (lanes : List Lane) (e : Event) → registry_of (lane_effect lanes e) ≡ registry_of lanes → registry_of (step setting lanes e) ≡ registry_of lanes
same_registry setting lanes e same =
    elim (cases_Bool (is_enabled setting lanes e)) [
      | inl on ↦ ap registry_of (step_enabled setting lanes e on) ∙ same
      | inr off ↦ ap registry_of (step_refused setting lanes e off)
    ]

pub registry_law : RegistryLaw
registry_law setting lanes events =
    record {
      admits = admits_by_registry setting lanes;
      hands = hands_by_registry setting lanes;
      leaves = leaves_by_registry setting lanes;
      takes = λ worker job. same_registry setting lanes (event.Take worker job) (registry_changed lanes (event.Take worker job));
      puts = λ worker job. same_registry setting lanes (event.Put worker job) (registry_changed lanes (event.Put worker job));
      registry = registry_run setting lanes events;
    }

-- events that were all enabled

admitted_all : (setting : Setting) (lanes : List Lane) (events : List Event) → are_enabled setting lanes events ≡ true → admitted setting lanes events ≡ rows_in events
admitted_all setting lanes [] enabled = refl
admitted_all setting lanes (event.Hand game command ∷ events) enabled =
    let e = event.Hand game command in
    admitted_all setting (step setting lanes e) events (and_both (is_enabled setting lanes e) (are_enabled setting (step setting lanes e) events) enabled).1
admitted_all setting lanes (event.Take worker job ∷ events) enabled =
    let e = event.Take worker job in
    admitted_all setting (step setting lanes e) events (and_both (is_enabled setting lanes e) (are_enabled setting (step setting lanes e) events) enabled).1
admitted_all setting lanes (event.Put worker job ∷ events) enabled =
    let e = event.Put worker job in
    admitted_all setting (step setting lanes e) events (and_both (is_enabled setting lanes e) (are_enabled setting (step setting lanes e) events) enabled).1
admitted_all setting lanes (event.Admit row ∷ events) enabled =
    let e = event.Admit row in
    let next = step setting lanes e in
    let both = and_both (is_enabled setting lanes e) (are_enabled setting next events) enabled in
    cond-true (is_enabled setting lanes e) (row ∷ admitted setting next events) (admitted setting next events) both.0
    ∙ ap (λ rows. row ∷ rows) (admitted_all setting next events both.1)
admitted_all setting lanes (event.Leave game ∷ events) enabled =
    let e = event.Leave game in
    admitted_all setting (step setting lanes e) events (and_both (is_enabled setting lanes e) (are_enabled setting (step setting lanes e) events) enabled).1

none_if : (b : Bool) → (let none : List Command = [] in if b then none else none) ≡ []
none_if true = refl
none_if false = refl

-- the command that one event queues for the stay, if it is enabled
handed_once : (game : ℕ) (e : Event) → (if is_named game e then commands_in (alone_event e ∷ []) else []) ≡ commands_to game (e ∷ [])
handed_once game (event.Hand row command) = refl
handed_once game (event.Take worker job) = none_if (nat_eq job.game game)
handed_once game (event.Put worker job) = none_if (nat_eq job.game game)
handed_once game (event.Admit row) = refl
handed_once game (event.Leave row) = none_if (nat_eq row game)

handed_more : (game : ℕ) (e : Event) (events : List Event) → commands_to game (e ∷ []) ++ commands_to game events ≡ commands_to game (e ∷ events)
handed_more game (event.Hand row command) events =
    elim (cases_Bool (nat_eq row game)) [
      | inl here ↦ rw here refl
      | inr other ↦ rw other refl
    ]
handed_more game (event.Take worker job) events = refl
handed_more game (event.Put worker job) events = refl
handed_more game (event.Admit row) events = refl
handed_more game (event.Leave row) events = refl

handed_all : (setting : Setting) (game : ℕ) (lanes : List Lane) (events : List Event) → are_enabled setting lanes events ≡ true
    → commands_in (accepted setting game lanes events) ≡ commands_to game events
handed_all setting game lanes [] enabled = refl
handed_all setting game lanes (e ∷ events) enabled =
    let next = step setting lanes e in
    let own = accepted setting game next events in
    let both = and_both (is_enabled setting lanes e) (are_enabled setting next events) enabled in
    let rest = handed_all setting game next events both.1 in
    elim (cases_Bool (is_named game e)) [
      | inl named ↦
          let on : is_accepted setting game lanes e ≡ true = and_from (is_named game e) (is_enabled setting lanes e) named both.0 in
          let one : commands_in (alone_event e ∷ []) ≡ commands_to game (e ∷ [])
          = sym (cond-true (is_named game e) (commands_in (alone_event e ∷ [])) [] named) ∙ handed_once game e in
          ap commands_in (cond-true (is_accepted setting game lanes e) (alone_event e ∷ own) own on)
          ∙ sym (one_more_event (alone_event e) own)
          ∙ ap (λ cs. cs ++ commands_in own) one ∙ ap (λ cs. commands_to game (e ∷ []) ++ cs) rest ∙ handed_more game e events
      | inr other ↦
          let off : is_accepted setting game lanes e ≡ false = and_left (is_named game e) (is_enabled setting lanes e) other in
          let none : [] ≡ commands_to game (e ∷ [])
          = sym (cond-false (is_named game e) (commands_in (alone_event e ∷ [])) [] other) ∙ handed_once game e in
          ap commands_in (cond-false (is_accepted setting game lanes e) (alone_event e ∷ own) own off)
          ∙ rest ∙ ap (λ cs. cs ++ commands_to game events) none ∙ handed_more game e events
    ]

pub journal_law : JournalLaw
journal_law setting plan events enabled =
    record {
      rows = rows_run setting (opened_lanes plan) events ∙ ap (λ rs. rs ++ admitted setting (opened_lanes plan) events) (opened_rows plan)
          ∙ ap (λ rs. plan ++ rs) (admitted_all setting (opened_lanes plan) events enabled);
      commands = λ game there. keeps_commands setting plan events game there ∙ handed_all setting game (opened_lanes plan) events enabled;
    }

pub served_law : ServedLaw
served_law setting rows events game plan fit there quiet =
    served (lane_of (shared_run setting rows events) game) (commands_in (own_events setting rows events game))
    (well_run setting (opened_lanes rows) events fit (well_opened rows plan) game there).right quiet (keeps_commands setting rows events game there)
