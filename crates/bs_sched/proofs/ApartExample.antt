-- Two games that ran apart, each in a core of its own.
use Rattle.std.proofs.Common.{◌≡◌, ℕ, zero, suc, ◌<◌, true, List, [], ◌∷◌, None, refl, sym, ap, subst, ◌∙◌, arith}
use Rattle.std.specs.Prelude.{All, codes, fold, map, nat_le}
use Rattle.std.specs.Str.{IsAscii, is_utf8}
use Rattle.std.proofs.lemmas.Bool.{le-leb}
use Rattle.std.proofs.lemmas.List.{length-replicate}
use Rattle.std.proofs.lemmas.List.Elements.{All-nil, All-from_recursion, All-head, All-tail}
use Rattle.std.proofs.lemmas.Str.{IsUtf8-from_ascii, is_utf8-from_IsUtf8}
use Rattle.bs_board.proofs.Chains.{and_both}
use Rattle.bs_board.specs.declared.boards.board.Board.{Board}
use Rattle.bs_board.specs.declared.commands.command.Command.TheVariants as command
use Rattle.bs_board.specs.commands.Orders.{IsFitOrders, orders_of}
use Rattle.bs_board.specs.commands.Setup.{is_fit_setup}
use Rattle.bs_board.specs.plans.Plan.{GameRow}
use Rattle.bs_registry.specs.Blocks.{blocks_of}
use Rattle.bs_sched.specs.declared.event.Event.{Event}
use Rattle.bs_sched.specs.ApartExample.{ApartExample, core_of_turn, one_turn, two_cores, two_games}
use Rattle.bs_sched.specs.Assembly.{Hand, RanAlone, commands_for, core_at, own_lane, setting_with}
use Rattle.bs_sched.specs.Core.{CoreView, core_after, opened_core}
use Rattle.bs_sched.specs.Games.{row_at}
use Rattle.bs_sched.specs.Isolation.{HandsFit}
use Rattle.bs_sched.specs.Journal.{IsItsJournal, setting_in}
use Rattle.bs_sched.specs.Lane.{Lane, is_idle}
use Rattle.bs_sched.specs.Machine.{Setting, lane_of, step}
use Rattle.bs_sched.specs.Registry.{solo_setup}
use Rattle.bs_sched.specs.SharedMemory.{IsHosted}
use Rattle.bs_sched.proofs.Journaled.{journal_after, opened_journal, same_setting}
use Rattle.bs_sched.proofs.LoneLanes.{step_enabled}
use Rattle.bs_sched.proofs.OpenedApart.{row_hosted}
use Rattle.bs_sched.proofs.Progress.{Goes, moved, queued}

-- a core after events that are enabled one after the other

record Went (cap : ℕ) (core : CoreView) (events : List Event) (last : List Lane) : Type 0 where
  journaled : IsItsJournal cap (fold (core_after cap) core events)
  setting : setting_in cap (fold (core_after cap) core events) ≡ setting_in cap core
  lanes : (fold (core_after cap) core events).games.lanes ≡ last

went : (cap : ℕ) (core : CoreView) (events : List Event) (last : List Lane) → IsItsJournal cap core → Goes (setting_in cap core) core.games.lanes events last
    → All HandsFit events → Went cap core events last
went cap core [] last is goes fits = record { journaled = is; setting = refl; lanes = goes.1 }
went cap core (e ∷ events) last is goes fits =
    let setting = setting_in cap core in
    let next = core_after cap core e in
    let both = and_both _ _ goes.0 in
    let fit = All-head HandsFit e events fits in
    let same = same_setting cap core e is both.0 fit in
    let stepped : step setting core.games.lanes e ≡ next.games.lanes = step_enabled setting core.games.lanes e both.0 in
    let later : Goes setting next.games.lanes events last = subst (λ (ls : List Lane). Goes setting ls events last) stepped (both.1, goes.1) in
    let rest = went cap next events last (journal_after cap core e is both.0 fit)
    (subst (λ (s : Setting). Goes s next.games.lanes events last) (sym same) later) (All-tail HandsFit e events fits) in
    record { journaled = rest.journaled; setting = rest.setting ∙ same; lanes = rest.lanes }

-- one game

name_is_ascii : IsAscii (codes "s")
name_is_ascii zero = omega arith
name_is_ascii (suc i) = omega arith

name_is_text : is_utf8 (codes "s") ≡ true
name_is_text = is_utf8-from_IsUtf8 (codes "s") (IsUtf8-from_ascii (codes "s") name_is_ascii)

solo_fits : is_fit_setup solo_setup ≡ true
unfolding is_fit_setup
solo_fits = rw name_is_text refl

no_orders_fit : IsFitOrders (orders_of [] [])
no_orders_fit = record { texts = All-nil _; distinct = refl; words = record { few = omega arith; small = All-nil _ } }

turn_fits : (worker : ℕ) → All HandsFit (one_turn worker)
turn_fits worker = All-from_recursion HandsFit (one_turn worker) (solo_fits, (no_orders_fit, (tt, (tt, (tt, (tt, (tt, (tt, (tt, (tt, tt))))))))))

module _ (cap workers worker : ℕ) (row : GameRow) (hosted : IsHosted (setting_with cap (blocks_of cap row) workers) (row ∷ [])) (flattened : nat_le worker workers ≡ true)
    (quota : nat_le 64 row.quota ≡ true) where
  abbrev start : CoreView
  start = opened_core cap (blocks_of cap row) workers (row ∷ [])

  many : (setting_in cap start).blocks ≡ blocks_of cap row
  many = length-replicate (blocks_of cap row) None

  room : nat_le (blocks_of cap row) (setting_in cap start).blocks ≡ true
  room = le-leb (blocks_of cap row) (setting_in cap start).blocks (omega (arith, many))

  played : Went cap start (one_turn worker) (moved (setting_in cap start) worker row flattened room quota ∷ [])
  played =
      went cap start (one_turn worker) _ (opened_journal cap (blocks_of cap row) workers (row ∷ []) hosted many)
      (queued (setting_in cap start) worker row flattened room quota [] _ (refl, refl)) (turn_fits worker)

  ran_alone : RanAlone cap workers row (command.New solo_setup ∷ command.Move (orders_of [] []) ∷ []) (core_of_turn cap workers worker row)
  ran_alone =
      record {
        journaled = played.journaled;
        plan = refl;
        workers_same = refl;
        blocks = ap (λ (s : Setting). s.blocks) played.setting ∙ many;
        hands_first = refl;
        idle = ap (λ (ls : List Lane). is_idle (lane_of ls 0).stage) played.lanes;
      }

  turns : map (λ (board : Board). board.turn) (own_lane (core_of_turn cap workers worker row)).game ≡ 0 ∷ 1 ∷ []
  turns = ap (λ (ls : List Lane). map (λ (board : Board). board.turn) (lane_of ls 0).game) played.lanes

-- both

module _ (cap workers worker : ℕ) (first second : GameRow) (upper : IsHosted (setting_with cap (blocks_of cap first) workers) (first ∷ []))
    (lower : IsHosted (setting_with cap (blocks_of cap second) workers) (second ∷ [])) (flattened : nat_le worker workers ≡ true) (one : nat_le 64 first.quota ≡ true)
    (two : nat_le 64 second.quota ≡ true) where
  each_ran : (row : ℕ) → row < 2
      → RanAlone cap workers (row_at (first ∷ second ∷ []) row) (commands_for row two_games) (core_at (two_cores cap workers worker first second) row)
  each_ran zero less = ran_alone cap workers worker first upper flattened one
  each_ran (suc zero) less = ran_alone cap workers worker second lower flattened two
  each_ran (suc (suc row)) less = absurd (omega (arith, less))

  each_turned : (row : ℕ) → row < 2
      → map (λ (board : Board). board.turn) (lane_of (map own_lane (two_cores cap workers worker first second)) row).game ≡ 0 ∷ 1 ∷ []
  each_turned zero less = turns cap workers worker first upper flattened one
  each_turned (suc zero) less = turns cap workers worker second lower flattened two
  each_turned (suc (suc row)) less = absurd (omega (arith, less))

pub apart_example : ApartExample
apart_example cap blocks workers worker first second hosted flattened one two =
    let plan = first ∷ second ∷ [] in
    let upper = row_hosted cap blocks workers plan 0 hosted (omega arith) in
    let lower = row_hosted cap blocks workers plan 1 hosted (omega arith) in
    let P : Hand → Type 0 = λ hand. hand.row < 2 in
    record {
      within = All-from_recursion P two_games (omega arith, (omega arith, (omega arith, (omega arith, tt))));
      apart = record { many = refl; each = each_ran cap workers worker first second upper lower flattened one two };
      turns = each_turned cap workers worker first second upper lower flattened one two;
    }
