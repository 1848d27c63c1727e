-- What a thread that has the core alone does to it, call by call.
use Rattle.std.proofs.Common.{◌≡◌, ℕ, ◌+◌, ◌<◌, ◌≤◌, Bool, true, false, if◌then◌else◌, List, [], ◌∷◌, ◌++◌, length, map, take, get_or, Option, None, refl, sym, ap, subst, ◌∙◌}
use Rattle.std.specs.Prelude.{nat_eq}
use Rattle.std.specs.List.{cons_option, range_with_len}
use Rattle.std.proofs.lemmas.List.{append-nil, append_assoc, take_all, take_more}
use Rattle.bs_board.specs.plans.Plan.{GameRow}
use Rattle.bs_pool.specs.Ledger.{size}
use Rattle.bs_sched.specs.declared.event.Event.{Event}
use Rattle.bs_sched.specs.declared.event.Event.TheVariants as event
use Rattle.bs_sched.specs.Core.{CoreView, core_after, opened_core}
use Rattle.bs_sched.specs.Answering.{AreNextParts, CanAnswer, answer_events, begin_job, job_events, join_job, move_events, part_puts, part_takes}
use Rattle.bs_sched.specs.Games.{GamesView, after}
use Rattle.bs_sched.specs.Lane.{Lane, closed_lane, empty_lane, with_waiting}
use Rattle.bs_sched.specs.Machine.{is_enabled_there, lane_effect, lane_of}
use Rattle.bs_sched.specs.Parts.{core_run, part_job}
use Rattle.bs_sched.specs.inner.Answering.{games_after}
use Rattle.bs_sched.proofs.HereLanes.{core_runs}
use Rattle.bs_workers.specs.declared.act.Act.{Act}
use Rattle.bs_workers.specs.declared.act.Act.TheVariants as act
use Rattle.bs_workers.specs.Run.{act_of, acts_of}
use Rattle.bs_workers.specs.inner.Making.{AreIdle, Makes, waiting_in}
use Rattle.bs_workers.proofs.Acted.{acts_append}
use Rattle.bs_workers.proofs.Calm.{AreAnswered, answered_here, answered_idle, one_fewer, push_idle, set_idle}
use Rattle.bs_workers.proofs.Sizes.{size_after}

-- the acts that calls make

-- the event of an act
abbrev pub event_of_act : Act → Event
event_of_act (act.Hand stay command) = event.Hand stay command
event_of_act (act.Admit row) = event.Admit row
event_of_act (act.Leave stay) = event.Leave stay

made_by_event : (a : Act) → acts_of (event_of_act a ∷ []) ≡ a ∷ []
made_by_event (act.Hand stay command) = refl
made_by_event (act.Admit row) = refl
made_by_event (act.Leave stay) = refl

idle_after : (a : Act) (lanes : List Lane) → AreIdle lanes → AreIdle (lane_effect lanes (event_of_act a))
idle_after (act.Hand stay command) lanes idle = set_idle lanes stay (with_waiting command (lane_of lanes stay)) idle (idle stay)
idle_after (act.Admit row) lanes idle = push_idle lanes (empty_lane row) idle refl
idle_after (act.Leave stay) lanes idle = set_idle lanes stay (closed_lane (lane_of lanes stay)) idle (idle stay)

pub makes_event : (cap : ℕ) (old new : CoreView) (a : Act) → new ≡ core_after cap old (event_of_act a) → Makes (a ∷ []) old new
makes_event cap old new a after =
    record {
      added = event_of_act a ∷ [];
      journal = ap (λ (c : CoreView). c.journal) after;
      acted = made_by_event a;
      workers = ap (λ (c : CoreView). c.games.workers) after;
      rows = ap (λ (c : CoreView). c.games.rows) after;
      blocks = ap (λ (c : CoreView). size c.games.storage.pool) after ∙ size_after cap (event_of_act a) old.games.lanes old.games.storage;
      calm =
          λ calm.
          record {
            works = ap (λ (c : CoreView). c.games.failed) after ∙ calm.works;
            idle = subst AreIdle (sym (ap (λ (c : CoreView). c.games.lanes) after)) (idle_after a old.games.lanes calm.idle);
          };
    }

pub makes_none : (core : CoreView) → Makes [] core core
makes_none core =
    record { added = []; journal = sym (append-nil core.journal); acted = refl; workers = refl; rows = refl; blocks = refl; calm = λ calm. calm }

pub makes_both : (some more : List Act) (old between new : CoreView) → Makes some old between → Makes more between new → Makes (some ++ more) old new
makes_both some more old between new first second =
    record {
      added = first.added ++ second.added;
      journal =
          second.journal ∙ ap (λ (events : List Event). events ++ second.added) first.journal
          ∙ append_assoc old.journal first.added second.added;
      acted =
          acts_append first.added second.added ∙ ap (λ (acts : List Act). acts ++ acts_of second.added) first.acted
          ∙ ap (λ (acts : List Act). some ++ acts) second.acted;
      workers = second.workers ∙ first.workers;
      rows = second.rows ∙ first.rows;
      blocks = second.blocks ∙ first.blocks;
      calm = λ calm. second.calm (first.calm calm);
    }

-- jobs before the acts
pub makes_after : (acts : List Act) (old between new : CoreView) → Makes [] old between → Makes acts between new → Makes acts old new
makes_after acts old between new first second = makes_both [] acts old between new first second

-- a command that is answered where it is makes no act

nothing_made : (f : ℕ → Event) (numbers : List ℕ) → ((p : ℕ) → act_of (f p) ≡ None) → acts_of (map f numbers) ≡ []
nothing_made f [] none = refl
nothing_made f (p ∷ numbers) none =
    ap (λ (made : Option Act). cons_option made (acts_of (map f numbers))) (none p) ∙ nothing_made f numbers none

jobs_make_nothing : (worker game parts : ℕ) (some : Bool) → acts_of (if some then [] else move_events worker game parts) ≡ []
jobs_make_nothing worker game parts true = refl
jobs_make_nothing worker game parts false =
    let takes = part_takes worker game parts in
    let puts = part_puts worker game parts in
    let join = job_events worker (join_job game) in
    acts_append takes (puts ++ join)
    ∙ ap (λ (acts : List Act). acts ++ acts_of (puts ++ join)) (nothing_made (λ p. event.Take worker (part_job game p)) (range_with_len 0 parts) (λ p. refl))
    ∙ acts_append puts join
    ∙ ap (λ (acts : List Act). acts ++ acts_of join) (nothing_made (λ p. event.Put worker (part_job game p)) (range_with_len 0 parts) (λ p. refl))

-- no event changes the plan, the number of blocks or whether `fail` was called
record KeepsGames (old new : GamesView) : Type 0 where
  workers : new.workers ≡ old.workers
  rows : new.rows ≡ old.rows
  blocks : size new.storage.pool ≡ size old.storage.pool
  failed : new.failed ≡ old.failed

keeps_games : (cap : ℕ) (games : GamesView) (events : List Event) → KeepsGames games (games_after cap games events)
keeps_games cap games [] = record { workers = refl; rows = refl; blocks = refl; failed = refl }
keeps_games cap games (e ∷ events) =
    let rest = keeps_games cap (after cap games e) events in
    record { workers = rest.workers; rows = rest.rows; blocks = rest.blocks ∙ size_after cap e games.lanes games.storage; failed = rest.failed }

-- a command that is answered where it is
pub record IsHere (cap : ℕ) (old new : CoreView) (worker game parts : ℕ) : Type 0 where
  pub enabled : is_enabled_there old.games.workers old.games.lanes (event.Take worker (begin_job game)) ≡ true
  pub are : AreNextParts (lane_of old.games.lanes game) parts
  pub is : new ≡ core_run cap old (answer_events worker game parts)

pub here : (cap : ℕ) (old new : CoreView) (worker game parts : ℕ) → CanAnswer old worker game parts
    → new ≡ core_run cap old (answer_events worker game parts) → IsHere cap old new worker game parts
here cap old new worker game parts can is = record { enabled = can.enabled; are = can.are; is = is }

lanes_here : (cap : ℕ) (old new : CoreView) (worker game parts : ℕ) → IsHere cap old new worker game parts → AreAnswered game old.games.lanes new.games.lanes
lanes_here cap old new worker game parts is =
    let runs = is.is ∙ core_runs cap old (answer_events worker game parts) in
    subst (AreAnswered game old.games.lanes) (sym (ap (λ (c : CoreView). c.games.lanes) runs)) (answered_here cap worker game parts old.games is.enabled is.are)

pub makes_here : (cap : ℕ) (old new : CoreView) (worker game parts : ℕ) → IsHere cap old new worker game parts → Makes [] old new
makes_here cap old new worker game parts is =
    let events = answer_events worker game parts in
    let runs = is.is ∙ core_runs cap old events in
    let keeps = keeps_games cap old.games events in
    record {
      added = events;
      journal = ap (λ (c : CoreView). c.journal) runs;
      acted = jobs_make_nothing worker game parts (nat_eq parts 0);
      workers = ap (λ (c : CoreView). c.games.workers) runs ∙ keeps.workers;
      rows = ap (λ (c : CoreView). c.games.rows) runs ∙ keeps.rows;
      blocks = ap (λ (c : CoreView). size c.games.storage.pool) runs ∙ keeps.blocks;
      calm =
          λ calm.
          record {
            works = ap (λ (c : CoreView). c.games.failed) runs ∙ keeps.failed ∙ calm.works;
            idle = answered_idle game old.games.lanes new.games.lanes (lanes_here cap old new worker game parts is) calm.idle;
          };
    }

pub fewer_here : (cap : ℕ) (old new : CoreView) (worker game parts : ℕ) → IsHere cap old new worker game parts
    → waiting_in new.games.lanes + 1 ≡ waiting_in old.games.lanes
fewer_here cap old new worker game parts is = one_fewer game old.games.lanes new.games.lanes (lanes_here cap old new worker game parts is)

pub makes_next : (acts : List Act) (i : ℕ) (next : Act) (old between new : CoreView) → i < length acts → next ≡ get_or acts i next
    → Makes (take i acts) old between → Makes (next ∷ []) between new → Makes (take (i + 1) acts) old new
makes_next acts i next old between new within is first second =
    let more : take (i + 1) acts ≡ take i acts ++ next ∷ []
    = take_more acts i next within ∙ ap (λ (a : Act). take i acts ++ a ∷ []) (sym is) in
    rw more (makes_both (take i acts) (next ∷ []) old between new first second)

-- all acts are made, and jobs follow
pub makes_all : (acts : List Act) (i : ℕ) (old between new : CoreView) → length acts ≤ i → Makes (take i acts) old between → Makes [] between new → Makes acts old new
makes_all acts i old between new all first second =
    subst (λ made. Makes made old new) (append-nil (take i acts) ∙ take_all i acts all) (makes_both (take i acts) [] old between new first second)

-- a core that was just opened has made no act
pub made_since_opened : (cap blocks workers : ℕ) (rows : List GameRow) (acts : List Act) (old new : CoreView) → old ≡ opened_core cap blocks workers rows → Makes acts old new
    → acts_of new.journal ≡ acts
made_since_opened cap blocks workers rows acts old new fresh made =
    ap (λ (events : List Event). acts_of events) (made.journal ∙ ap (λ (c : CoreView). c.journal ++ made.added) fresh) ∙ made.acted
