-- A file's plan and its lines, from its first line and the others, to the transcript.
use Rattle.std.proofs.Common.{◌≡◌, ℕ, ◌<◌, ◌≤◌, true, List, ◌∷◌, ◌++◌, Option, Some, None, Result, Ok, Err, length, refl, sym, subst, ap, ◌∙◌}
use Rattle.std.specs.Prelude.{IfErr}
use Rattle.std.proofs.lemmas.Bool.{lt-ltb, le-ltb, cond-true, cond-false}
use Rattle.std.proofs.lemmas.List.{length-replicate}
use Rattle.bs_board.specs.declared.plans.plan.Plan.{Plan}
use Rattle.bs_board.specs.plans.Plan.{GameRow}
use Rattle.bs_json.specs.declared.plan.PlanFault.{PlanFault}
use Rattle.bs_json.specs.declared.plan.PlanFault.TheVariants as fault
use Rattle.bs_json.specs.PlanLine.{IsPlanFault, plan_line_of}
use Rattle.bs_json.specs.declared.line.Stray.{Stray}
use Rattle.bs_pool.specs.Ledger.{size}
use Rattle.bs_sched.specs.Core.{CoreView, opened_core}
use Rattle.bs_workers.specs.declared.act.Act.{Act}
use Rattle.bs_workers.specs.Acts.{are_acceptable, capacity_of_core, opened as opened_registry, rows_admitted}
use Rattle.bs_workers.specs.Run.{IsRunOf}
use Rattle.bs_transcript.specs.Written.{Leaves as LeavesOfText}
use Rattle.bs_transcript.specs.declared.fault.TranscriptFault.{TranscriptFault}
use Rattle.bs_transcript.specs.declared.fault.TranscriptFault.TheVariants as transcript
use Rattle.bs_host.specs.declared.fault.Fault.{Fault}
use Rattle.bs_host.specs.declared.fault.Fault.TheVariants.{TooLong, Plan as OfPlan, Memory, Write}
use Rattle.bs_host.specs.declared.limits.TheConstants.{BLOCK_BYTES, MOST_FILE_BYTES}
use Rattle.bs_host.specs.declared.route.Requests.{Requests}
use Rattle.bs_host.specs.File.{pieces_of, first_piece, later_pieces, plan_of, rows_of}
use Rattle.bs_host.specs.inner.File.{plan_in}
use Rattle.bs_host.specs.Hosted.{Hosts}
use Rattle.bs_host.specs.inner.Hosted.{IsCoreOf, IsRead}
use Rattle.bs_host.specs.declared.route.Route.{Route}
use Rattle.bs_host.specs.Routing.{acts_in, capacity_of, routes_from, routes_of, stays_of, strays_in}
use Rattle.bs_host.specs.inner.Routing.{IsRouted, acts_of}
use Rattle.bs_workers.specs.Causes.{IsCause}
use Rattle.bs_workers.specs.declared.fault.Run.{Run}
use Rattle.bs_workers.specs.declared.fault.Run.TheVariants as run
use Rattle.bs_host.specs.Faults.{IsFault, Leaves, fault_of, fault_of_run, fault_of_writing, refusal_of, refusal_of_plan}
use Rattle.bs_host.specs.inner.Faults.{IsRefusal}
use Rattle.bs_host.specs.Transcript.{transcript_of}
use Rattle.bs_host.specs.inner.Transcript.{core_text_of}
use Rattle.bs_host.proofs.ActsLaw.{acts_law}
use Rattle.bs_host.proofs.HostedCore.{hosts_lines, is_fresh, no_refusal, transcript_of_core}

pub refusal_of_long : (blocks : ℕ) (file : List ℕ) → MOST_FILE_BYTES < length file → refusal_of blocks file ≡ Some TooLong
unfolding refusal_of
refusal_of_long blocks file long = cond-true _ (Some TooLong) (refusal_of_plan blocks (plan_of file)) (lt-ltb MOST_FILE_BYTES (length file) long)

refusal_of_short : (blocks : ℕ) (file : List ℕ) → length file ≤ MOST_FILE_BYTES → refusal_of blocks file ≡ refusal_of_plan blocks (plan_of file)
unfolding refusal_of
refusal_of_short blocks file short = cond-false _ (Some TooLong) (refusal_of_plan blocks (plan_of file)) (le-ltb MOST_FILE_BYTES (length file) short)

refused_by : (blocks : ℕ) (found : Result Plan PlanFault) (error : PlanFault) → IsPlanFault found error → IsRefusal (refusal_of_plan blocks found) (fault_of error)
refused_by blocks found fault.Malformed is = ap (refusal_of_plan blocks) is
refused_by blocks found fault.BadRow is = ap (refusal_of_plan blocks) is
refused_by blocks found fault.TooMany is = ap (refusal_of_plan blocks) is
refused_by blocks found fault.Memory is = tt

-- the plan and the later lines of a file

pub is_read : (file first : List ℕ) (rest : List (List ℕ)) (plan : Plan) → length file ≤ MOST_FILE_BYTES → pieces_of file ≡ first ∷ rest → plan_line_of first ≡ Ok plan
    → IsRead file plan rest
is_read file first rest plan short pieces read =
    record {
      short = short;
      is_plan = ap (λ all. plan_line_of (first_piece all)) pieces ∙ read;
      are_lines = sym (ap later_pieces pieces);
    }

refusal_of_read : (blocks : ℕ) (file : List ℕ) (plan : Plan) (lines : List (List ℕ)) → IsRead file plan lines → refusal_of blocks file ≡ refusal_of_plan blocks (Ok plan)
refusal_of_read blocks file plan lines read = refusal_of_short blocks file read.short ∙ ap (refusal_of_plan blocks) read.is_plan

-- the file is not refused; the core is opened with its plan and `blocks` blocks; the lines are
-- those after the plan
pub record IsOpened (blocks : ℕ) (file : List ℕ) (core : CoreView) (plan : Plan) (lines : List (List ℕ)) : Type 0 where
  pub served : refusal_of blocks file ≡ None
  pub opened : core ≡ opened_core BLOCK_BYTES blocks core.games.workers plan.rows
  pub is_plan : plan ≡ plan_in (plan_of file)
  pub are_lines : lines ≡ later_pieces (pieces_of file)

pub opened : (blocks : ℕ) (file : List ℕ) (lines : List (List ℕ)) (plan : Plan) (core : CoreView) → IsRead file plan lines → IsCoreOf blocks plan core
    → IsOpened blocks file core plan lines
opened blocks file lines plan core read is =
    record {
      served = refusal_of_read blocks file plan lines read ∙ no_refusal blocks plan is.room;
      opened = is.opened;
      is_plan = sym (ap plan_in read.is_plan);
      are_lines = read.are_lines;
    }

pub is_served : (blocks : ℕ) (file : List ℕ) (lines : List (List ℕ)) (plan : Plan) (core : CoreView) → IsRead file plan lines → IsCoreOf blocks plan core
    → refusal_of blocks file ≡ None
is_served blocks file lines plan core read is = (opened blocks file lines plan core read is).served

-- why a file is refused

pub plan_refused : (file first : List ℕ) (rest : List (List ℕ)) (error : PlanFault) → length file ≤ MOST_FILE_BYTES → pieces_of file ≡ first ∷ rest
    → IsPlanFault (plan_line_of first) error → (blocks : ℕ) → IsRefusal (refusal_of blocks file) (fault_of error)
plan_refused file first rest error short pieces is blocks =
    let plan : plan_of file ≡ plan_line_of first = ap (λ all. plan_line_of (first_piece all)) pieces in
    let refusal : refusal_of blocks file ≡ refusal_of_plan blocks (plan_line_of first) = refusal_of_short blocks file short ∙ ap (refusal_of_plan blocks) plan in
    subst (λ found. IsRefusal found (fault_of error)) (sym refusal) (refused_by blocks (plan_line_of first) error is)

pub for_all_blocks : {T : Type 0} (file : List ℕ) (result : Result T Fault) → ((blocks : ℕ) → IfErr result (IsRefusal (refusal_of blocks file)))
    → IfErr result (λ fault. (blocks : ℕ) → IsRefusal (refusal_of blocks file) fault)
for_all_blocks file (Ok read) refused = tt
for_all_blocks file (Err error) refused = refused

pub read_refused : (blocks : ℕ) (file : List ℕ) (plan : Plan) (lines : List (List ℕ)) (fault : Fault) → IsRead file plan lines
    → IsRefusal (refusal_of_plan blocks (Ok plan)) fault → IsRefusal (refusal_of blocks file) fault
read_refused blocks file plan lines fault read is = subst (λ found. IsRefusal found fault) (sym (refusal_of_read blocks file plan lines read)) is

pub refused_is_fault : (refuses : Type 0) (refusal : Option Fault) (error : Fault) → IsRefusal refusal error → IsFault refuses refusal error
refused_is_fault refuses refusal TooLong is = is
refused_is_fault refuses refusal (OfPlan reason) is = is
refused_is_fault refuses refusal Memory is = is
refused_is_fault refuses refusal _ is = absurd is

pub refused_leaves : {W : Type 0} (contents : W → Option (List ℕ)) (text : List ℕ) (old : W) (refusal : Option Fault) (error : Fault) → IsRefusal refusal error
    → Leaves contents text old old error
refused_leaves contents text old refusal (Write written) is = absurd is
refused_leaves contents text old refusal _ is = refl

-- from the opened file to its transcript

abbrev routes_behind : ℕ → Plan → List (List ℕ) → List (ℕ × Route)
routes_behind blocks plan lines = routes_from (capacity_of blocks) plan.version (opened_registry plan.rows) 2 lines

same_routes : (blocks : ℕ) (file : List ℕ) (lines : List (List ℕ)) (plan : Plan) (old : CoreView) → IsOpened blocks file old plan lines
    → routes_behind blocks plan lines ≡ routes_of blocks file
same_routes blocks file lines plan old opens =
    ap (λ plan. routes_behind blocks plan lines) opens.is_plan ∙ ap (routes_behind blocks (plan_in (plan_of file))) opens.are_lines

module _ (blocks : ℕ) (file : List ℕ) (lines : List (List ℕ)) (plan : Plan) (requests : Requests) (acts : List Act) (old : CoreView) (opens : IsOpened blocks file old plan lines) (goes : IsRouted (routes_behind blocks plan lines) requests) (given : acts ≡ requests.acts.items) where
  asked : acts ≡ acts_of blocks file
  asked = given ∙ goes.acts ∙ ap acts_in (same_routes blocks file lines plan old opens)

  opened_with : old ≡ opened_core BLOCK_BYTES blocks old.games.workers (rows_of file)
  opened_with = opens.opened ∙ ap (λ (plan : Plan). opened_core BLOCK_BYTES blocks old.games.workers plan.rows) opens.is_plan

  -- the core accepts the acts in their order
  pub acts_accepted : are_acceptable (capacity_of_core BLOCK_BYTES old) (opened_registry old.games.rows) acts ≡ true
  acts_accepted =
      let many : size old.games.storage.pool ≡ blocks = ap (λ (core : CoreView). size core.games.storage.pool) opened_with ∙ length-replicate blocks None in
      let rows : old.games.rows ≡ rows_of file = ap (λ (core : CoreView). core.games.rows) opened_with in
      ap (λ n. are_acceptable (capacity_of n) (opened_registry old.games.rows) acts) many
      ∙ ap (λ (rows : List GameRow). are_acceptable (capacity_of blocks) (opened_registry rows) acts) rows
      ∙ ap (λ all. are_acceptable (capacity_of blocks) (opened_registry (rows_of file)) all) asked ∙ (acts_law blocks file).acceptable

  pub hosts_of_run : (new : CoreView) → IsRunOf old acts new → Hosts blocks file new
  hosts_of_run new ran =
      hosts_lines BLOCK_BYTES blocks old.games.workers (rows_of file) (stays_of blocks file) (routes_of blocks file) acts old new opened_with
      ((acts_law blocks file).stays ∙ ap (λ all. rows_of file ++ rows_admitted all) (sym asked)) asked (acts_law blocks file).commands ran

  pub text_of_run : (new : CoreView) (strays : List (ℕ × Stray)) → IsRunOf old acts new → strays ≡ requests.strays.items
      → core_text_of new strays ≡ transcript_of blocks file
  text_of_run new strays ran told =
      transcript_of_core blocks file new strays (hosts_of_run new ran) (told ∙ goes.strays ∙ ap strays_in (same_routes blocks file lines plan old opens))

pub fresh_core : (blocks : ℕ) (file : List ℕ) (lines : List (List ℕ)) (plan : Plan) (core : CoreView) → IsOpened blocks file core plan lines
    → core ≡ opened_core BLOCK_BYTES (size core.games.storage.pool) core.games.workers core.games.rows
fresh_core blocks file lines plan core opens = is_fresh BLOCK_BYTES blocks core.games.workers plan.rows core opens.opened

-- why a transcript is not written whole

pub writing_is_fault : (refuses : Type 0) (refusal : Option Fault) (error : TranscriptFault) → refusal ≡ None → IsFault refuses refusal (fault_of_writing error)
writing_is_fault refuses refusal transcript.Memory none = tt
writing_is_fault refuses refusal (transcript.Write fault) none = none

-- why a run is stopped

pub run_is_fault : (refuses : Type 0) (refusal : Option Fault) (error : Run) → refusal ≡ None → IsCause refuses error → IsFault refuses refusal (fault_of_run error)
run_is_fault refuses refusal run.Memory none cause = tt
run_is_fault refuses refusal run.Broken none cause = (none, cause)

pub writing_leaves : {W : Type 0} (contents : W → Option (List ℕ)) (text : List ℕ) (old new : W) (error : TranscriptFault)
    → LeavesOfText contents text old new error → Leaves contents text old new (fault_of_writing error)
writing_leaves contents text old new transcript.Memory left = left
writing_leaves contents text old new (transcript.Write fault) left = left
