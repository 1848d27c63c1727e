-- A stay that plays a turn in a core of its own, by all jobs of a move.
use Rattle.std.proofs.Common.{◌≡◌, ℕ, zero, suc, true, List, [], ◌∷◌, ◌++◌, map, refl, sym, ap, subst, ◌∙◌, arith}
use Rattle.std.specs.Prelude.{All, codes, nat_le}
use Rattle.std.specs.Str.{IsAscii, is_utf8}
use Rattle.std.proofs.lemmas.Bool.{le-leb}
use Rattle.std.proofs.lemmas.List.Elements.{All-from_recursion, All-nil}
use Rattle.std.proofs.lemmas.Str.{IsUtf8-from_ascii, is_utf8-from_IsUtf8}
use Rattle.bs_board.proofs.Chains.{and_both}
use Rattle.bs_board.specs.commands.Setup.{is_fit_setup}
use Rattle.bs_board.specs.plans.Plan.{GameRow}
use Rattle.bs_fiber.specs.declared.job.JobKind.TheVariants as kind
use Rattle.bs_pool.specs.Ledger.{size}
use Rattle.bs_registry.specs.Blocks.{blocks_of}
use Rattle.bs_sched.specs.declared.event.Event.{Event}
use Rattle.bs_sched.specs.declared.event.Event.TheVariants as event
use Rattle.bs_sched.specs.Assembly.{RanAlone, setting_with}
use Rattle.bs_sched.specs.Core.{CoreView}
use Rattle.bs_sched.specs.Games.{GamesView, opened}
use Rattle.bs_sched.specs.Isolation.{HandsFit, are_enabled, opened_lanes}
use Rattle.bs_sched.specs.Lane.{empty_lane, may_leave}
use Rattle.bs_sched.specs.Machine.{Setting, lane_of, run_of, step}
use Rattle.bs_sched.specs.Memory.{games_run}
use Rattle.bs_sched.specs.Registry.{job_then, solo_commands, solo_setup}
use Rattle.bs_sched.specs.SharedMemory.{IsHosted}
use Rattle.bs_sched.specs.StaysApart.{PlayedExample}
use Rattle.bs_sched.proofs.ApartRows.{enabled_after}
use Rattle.bs_sched.proofs.ApartRun.{games_law, storage_run}
use Rattle.bs_sched.proofs.LoneLanes.{met, step_enabled}
use Rattle.bs_sched.proofs.MemoryLaw.{memory_law}
use Rattle.bs_sched.proofs.Progress.{progress_example}

-- the id of the snake
abbrev id : List ℕ
id = codes "s"

is_ascii : IsAscii id
is_ascii zero = omega arith
is_ascii (suc i) = omega arith

is_text : is_utf8 id ≡ true
is_text = is_utf8-from_IsUtf8 id (IsUtf8-from_ascii id is_ascii)

setup_fits : is_fit_setup solo_setup ≡ true
unfolding is_fit_setup
setup_fits = rw is_text refl

module _ (cap workers : ℕ) (row : GameRow) (hosted : IsHosted (setting_with cap (blocks_of cap row) workers) (row ∷ [])) (quota : nat_le 64 row.quota ≡ true) where
  abbrev mine : Setting
  mine = setting_with cap (blocks_of cap row) workers

  abbrev jobs : List Event
  jobs = job_then 0 kind.Begin (job_then 0 kind.Begin (job_then 0 kind.Part (job_then 0 kind.Join [])))

  abbrev events : List Event
  events = map (event.Hand 0) solo_commands ++ jobs

  -- after an admission, and before a leave
  record CanPlay : Type 0 where
    pub enabled : are_enabled mine (opened_lanes (row ∷ [])) events ≡ true
    pub may : may_leave (lane_of (run_of mine (opened_lanes (row ∷ [])) events) 0) ≡ true

  can_play : CanPlay
  can_play =
      let lanes = empty_lane row ∷ [] in
      let later = event.Leave 0 ∷ event.Admit row ∷ [] in
      let example = progress_example mine 0 row (le-leb 0 workers (omega arith)) (le-leb (blocks_of cap row) (blocks_of cap row) (omega arith)) quota in
      let both = and_both _ _ example.enabled in
      let comes : step mine [] (event.Admit row) ≡ lanes = step_enabled mine [] (event.Admit row) both.0 in
      let on : are_enabled mine lanes (events ++ later) ≡ true = ap (λ ls. are_enabled mine ls (events ++ later)) (sym comes) ∙ both.1 in
      let parts = and_both _ _ (sym (enabled_after mine lanes events later) ∙ on) in
      let leave = (and_both _ _ parts.1).0 in
      record { enabled = parts.0; may = (met mine (run_of mine lanes events) (event.Leave 0) refl leave).allowed }

  abbrev start : GamesView
  start = opened cap (blocks_of cap row) workers (row ∷ [])

  abbrev core : CoreView
  core = record {
    games = record start { lanes = run_of mine start.lanes events; storage = storage_run cap mine events start.lanes start.storage };
    journal = events;
  }

  fits : All HandsFit events
  fits =
      All-from_recursion HandsFit events (
        setup_fits,
        (record { texts = All-nil _; distinct = refl; words = record { few = omega arith; small = All-nil _ } }, (record {}, (record {}, (record {}, (record {}, (record {}, (record {}, (record {}, (record {}, record {}))))))))),
      )

  pub ran_alone : RanAlone cap workers row solo_commands core
  ran_alone =
      let can = can_play in
      let goes = games_law mine start events can.enabled in
      let law = memory_law mine (row ∷ []) events hosted fits in
      let many : size core.games.storage.pool ≡ blocks_of cap row = ap (λ (g : GamesView). size g.storage.pool) (sym goes ∙ law.core) ∙ law.blocks_shared.size in
      record {
        journaled = record {
          hosted = subst (λ b. IsHosted (setting_with cap b workers) (row ∷ [])) (sym many) hosted;
          fits = fits;
          enabled = subst (λ b. are_enabled (setting_with cap b workers) (opened_lanes (row ∷ [])) events ≡ true) (sym many) can.enabled;
          games = ap (λ b. games_run (setting_with cap b workers) (opened cap b workers (row ∷ [])) events) many ∙ goes;
        };
        plan = refl;
        workers_same = refl;
        blocks = many;
        hands_first = refl;
        idle = (and_both _ _ (and_both _ _ can.may).1).0;
      }

pub played_example : PlayedExample
played_example cap workers row leaves hosted quota = (
  record { core = core cap workers row hosted quota; leaves = leaves },
  record {
    alone = ran_alone cap workers row hosted quota;
    leaves_same = refl;
    may = λ leaving. (can_play cap workers row hosted quota).may;
  },
)
