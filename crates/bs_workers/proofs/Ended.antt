-- The state of an idle core that has made the acts.
use Rattle.std.proofs.Common.{◌≡◌, ℕ, ◌<◌, true, false, List, [], ◌∷◌, ◌++◌, length, refl, sym, ap, subst, ◌∙◌, inl, inr}
use Rattle.std.specs.Prelude.{nat_eq}
use Rattle.std.specs.List.{filter_map, list_all}
use Rattle.std.proofs.Math.ListN.{get_or-map}
use Rattle.std.proofs.lemmas.Bool.{cases_Bool}
use Rattle.std.proofs.lemmas.List.{length-map}
use Rattle.std.proofs.lemmas.List.Sums.{AllPass-from_list_all}
use Rattle.bs_pool.specs.Ledger.{size}
use Rattle.bs_sched.specs.declared.event.Event.{Event}
use Rattle.bs_sched.specs.declared.event.Event.TheVariants as event
use Rattle.bs_sched.specs.Registry.{IsServedAlone, commands_to, rows_in}
use Rattle.bs_sched.specs.Core.{CoreView}
use Rattle.bs_sched.specs.Games.{row_at}
use Rattle.bs_sched.specs.Handed.{commands_of}
use Rattle.bs_sched.specs.Isolation.{IsWell, shared_run}
use Rattle.bs_sched.specs.Journal.{KeepsApart, setting_in}
use Rattle.bs_sched.specs.Lane.{Lane, no_lane, is_quiet}
use Rattle.bs_sched.specs.Machine.{lane_of}
use Rattle.bs_sched.proofs.HandedCommands.{served}
use Rattle.bs_workers.specs.declared.act.Act.{Act}
use Rattle.bs_workers.specs.Acts.{command_in, rows_admitted}
use Rattle.bs_workers.specs.Run.{IsRunOf, acts_of, rows_made}

-- the rows of the stays

row_there : (lanes : List Lane) (game : ℕ) → row_at (rows_made lanes) game ≡ (lane_of lanes game).row
row_there lanes game = get_or-map (λ (x : Lane). x.row) lanes game no_lane

-- the rows that are admitted, and the commands of a stay

pub rows_of_acts : (events : List Event) → rows_in events ≡ rows_admitted (acts_of events)
rows_of_acts [] = refl
rows_of_acts (event.Hand game command ∷ events) = rows_of_acts events
rows_of_acts (event.Take worker job ∷ events) = rows_of_acts events
rows_of_acts (event.Put worker job ∷ events) = rows_of_acts events
rows_of_acts (event.Admit row ∷ events) = ap (λ rows. row ∷ rows) (rows_of_acts events)
rows_of_acts (event.Leave game ∷ events) = rows_of_acts events

pub commands_of_acts : (stay : ℕ) (events : List Event) → commands_to stay events ≡ filter_map (command_in stay) (acts_of events)
commands_of_acts stay [] = refl
commands_of_acts stay (event.Hand game command ∷ events) =
    elim (cases_Bool (nat_eq game stay)) [
      | inl on ↦ rw on (ap (λ rest. command ∷ rest) (commands_of_acts stay events))
      | inr off ↦ rw off (commands_of_acts stay events)
    ]
commands_of_acts stay (event.Take worker job ∷ events) = commands_of_acts stay events
commands_of_acts stay (event.Put worker job ∷ events) = commands_of_acts stay events
commands_of_acts stay (event.Admit row ∷ events) = commands_of_acts stay events
commands_of_acts stay (event.Leave game ∷ events) = commands_of_acts stay events

-- an idle core whose journal makes the acts has served each stay

-- one stay of a core
served_one : (cap : ℕ) (core : CoreView) (stay : ℕ) → KeepsApart cap core → list_all is_quiet core.games.lanes ≡ true → stay < length core.games.lanes
    → IsServedAlone (lane_of core.games.lanes stay).row (filter_map (command_in stay) (acts_of core.journal)) (lane_of core.games.lanes stay)
served_one cap core stay apart quiet there =
    let x = lane_of core.games.lanes stay in
    let among : stay < length (shared_run (setting_in cap core) core.games.rows core.journal) = subst (λ (ls : List Lane). stay < length ls) (sym apart.lanes) there in
    let well : IsWell x = subst (λ (ls : List Lane). IsWell (lane_of ls stay)) apart.lanes (apart.stays.stays stay among).course.well in
    let told : commands_of x ≡ filter_map (command_in stay) (acts_of core.journal)
    = ap (λ (ls : List Lane). commands_of (lane_of ls stay)) (sym apart.lanes) ∙ apart.told.commands stay among ∙ commands_of_acts stay core.journal in
    let still : is_quiet x ≡ true = AllPass-from_list_all is_quiet core.games.lanes quiet stay no_lane there in
    served x (filter_map (command_in stay) (acts_of core.journal)) well.right still told

-- the rows are those of the plan, then those that the acts admit
made_of : (cap : ℕ) (core : CoreView) → KeepsApart cap core → rows_made core.games.lanes ≡ core.games.rows ++ rows_admitted (acts_of core.journal)
made_of cap core apart =
    ap (λ (ls : List Lane). rows_made ls) (sym apart.lanes) ∙ apart.told.rows ∙ ap (λ more. core.games.rows ++ more) (rows_of_acts core.journal)

-- a core of that plan, which makes the acts and is idle, is the result of their run
pub run_made : (cap : ℕ) (acts : List Act) (old new : CoreView) → KeepsApart cap new → acts_of new.journal ≡ acts → new.games.rows ≡ old.games.rows
    → size new.games.storage.pool ≡ size old.games.storage.pool → new.games.failed ≡ false → list_all is_quiet new.games.lanes ≡ true → IsRunOf old acts new
run_made cap acts old new apart acted plan blocks works quiet =
    let stays : rows_made new.games.lanes ≡ old.games.rows ++ rows_admitted acts
    = made_of cap new apart ∙ ap (λ all. new.games.rows ++ rows_admitted all) acted ∙ ap (λ first. first ++ rows_admitted acts) plan in
    record {
      plan = plan;
      stays = stays;
      blocks = blocks;
      failed = works;
      quiet = quiet;
      acted = acted;
      served =
          λ stay within.
          let x = lane_of new.games.lanes stay in
          let there : stay < length new.games.lanes
          = subst (λ n. stay < n) (ap length (sym stays) ∙ length-map new.games.lanes (λ (y : Lane). y.row)) within in
          let row : x.row ≡ row_at (old.games.rows ++ rows_admitted acts) stay
          = sym (row_there new.games.lanes stay) ∙ ap (λ all. row_at all stay) stays in
          let one : IsServedAlone x.row (filter_map (command_in stay) acts) x
          = subst (λ all. IsServedAlone x.row (filter_map (command_in stay) all) x) acted (served_one cap new stay apart quiet there) in
          subst (λ r. IsServedAlone r (filter_map (command_in stay) acts) x) row one;
    }
