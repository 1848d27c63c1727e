-- Stays that were played, as the call that puts them together requires them, and what their core is.
use Rattle.std.proofs.Common.{◌≡◌, ℕ, zero, suc, ◌+◌, ◌<◌, Bool, true, false, List, [], ◌∷◌, ◌++◌, length, map, get_or, Option, Some, None, refl, sym, ap, subst, ◌∙◌, arith, inl, inr}
use Rattle.std.specs.Prelude.{slice_index_or, slice_set, All}
use Rattle.std.specs.List.{filter_map, list_all}
use Rattle.std.proofs.Math.ListN.{get_or-eq_default}
use Rattle.std.proofs.lemmas.Bool.{and_from, cases_Bool, cases_lt}
use Rattle.std.proofs.lemmas.Bool.Decides.{eqb_tells}
use Rattle.std.proofs.lemmas.Grind.{get_or-set_at}
use Rattle.std.proofs.lemmas.List.{append-nil, get_or-set_other, length-map}
use Rattle.std.proofs.lemmas.List.Sums.{AllPass-from_list_all}
use Rattle.bs_board.specs.declared.commands.command.Command.{Command}
use Rattle.bs_board.specs.plans.Plan.{GameRow}
use Rattle.bs_sched.specs.declared.event.Event.{Event}
use Rattle.bs_sched.specs.declared.event.Event.TheVariants as event
use Rattle.bs_sched.specs.declared.step.Step.{Step}
use Rattle.bs_sched.specs.Assembly.{RanAlone, jobs_at}
use Rattle.bs_sched.specs.Core.{CoreView}
use Rattle.bs_sched.specs.Games.{row_at}
use Rattle.bs_sched.specs.Lane.{is_quiet, no_lane}
use Rattle.bs_sched.specs.LoneStay.{LoneView, kept_of_core, left_of_core}
use Rattle.bs_sched.specs.Machine.{lane_of}
use Rattle.bs_sched.specs.Registry.{commands_to}
use Rattle.bs_sched.specs.StaysApart.{PlayedAlone, PlayedStay, acts_with_jobs, all_rows, jobs_kept, jobs_left, leaves_in, played_journal, stay_of_row}
use Rattle.bs_sched.specs.StaysHeld.{WerePlayed, lone_of}
use Rattle.bs_workers.specs.declared.act.Act.{Act}
use Rattle.bs_workers.specs.declared.act.Act.TheVariants as act
use Rattle.bs_workers.specs.declared.stays.Stays.{Stays}
use Rattle.bs_workers.specs.Acts.{are_acceptable, command_in, opened}
use Rattle.bs_workers.specs.Run.{acts_of}
use Rattle.bs_workers.specs.inner.Apart.{HavePlaces}
use Rattle.bs_workers.specs.inner.Stays.{AreListed, ArePlayedStays, IsPlayedStay, WasPlayed, event_of}
use Rattle.bs_workers.proofs.Acted.{acts_append}
use Rattle.bs_workers.proofs.ListedStays.{acts_again, allowed_again, commands_again, leaves_again, rows_again, steps_again}

-- The slots.

-- one more stay is in its slot
pub slot_more : (cap workers : ℕ) (acts : List Act) (stays : Stays) (slots new : List (Option LoneView)) (row : ℕ) (stay : LoneView) → row < length slots
    → new ≡ slice_set slots row (Some stay) → IsPlayedStay cap workers acts stays row stay → ArePlayedStays cap workers acts stays slots
    → ArePlayedStays cap workers acts stays new
slot_more cap workers acts stays slots new row stay inside is one before =
    λ at found there.
    elim (eqb_tells at row) [
      | inl on ↦
          let same : at ≡ row = on.1 in
          let gets : Some stay ≡ Some found
          = sym (get_or-set_at slots row at (Some stay) None same inside) ∙ ap (λ some. get_or some at None) (sym is) ∙ there in
          let stays_same : stay ≡ found = cc in
          subst (λ r. IsPlayedStay cap workers acts stays r found) (sym same) (subst (λ s. IsPlayedStay cap workers acts stays row s) stays_same one)
      | inr off ↦ before at found (sym (get_or-set_other slots row at (Some stay) None off.1) ∙ ap (λ some. get_or some at None) (sym is) ∙ there)
    ]

-- no slot has a stay
pub none_played : (cap workers : ℕ) (acts : List Act) (stays : Stays) (slots : List (Option LoneView)) → All (λ slot. slot ≡ None) slots
    → ArePlayedStays cap workers acts stays slots
none_played cap workers acts stays slots none =
    λ row stay there.
    let wrong : None ≡ Some stay =
    elim (cases_lt row (length slots)) [
      | inl less ↦ sym (none row None less) ∙ there
      | inr past ↦ sym (get_or-eq_default slots None (omega (arith, past))) ∙ there
    ] in
    absurd cc

-- The stays in the order of their rows.

abbrev pub lone_at : List LoneView → ℕ → LoneView → LoneView
lone_at stays row none = slice_index_or stays row none

pub record Gathered (cap workers : ℕ) (row : ℕ → GameRow) (commands : ℕ → List Command) (leaves : ℕ → Bool) (stays : List LoneView) : Type 0 where
  pub played : List PlayedStay
  pub same : map lone_of played ≡ stays
  pub each : (r : ℕ) → r < length played → PlayedAlone cap workers (row r) (commands r) (leaves r) (stay_of_row played r)

each_of : (cap workers : ℕ) (row : ℕ → GameRow) (commands : ℕ → List Command) (leaves : ℕ → Bool) (first : PlayedStay) (more : List PlayedStay)
    → PlayedAlone cap workers (row 0) (commands 0) (leaves 0) first
    → ((r : ℕ) → r < length more → PlayedAlone cap workers (row (suc r)) (commands (suc r)) (leaves (suc r)) (stay_of_row more r))
    → (r : ℕ) → r < length (first ∷ more) → PlayedAlone cap workers (row r) (commands r) (leaves r) (stay_of_row (first ∷ more) r)
each_of cap workers row commands leaves first more one rest zero within = one
each_of cap workers row commands leaves first more one rest (suc r) within = rest r (omega (arith, within))

pub gathered : (cap workers : ℕ) (row : ℕ → GameRow) (commands : ℕ → List Command) (leaves : ℕ → Bool) (stays : List LoneView)
    → ((r : ℕ) (stay : LoneView) → slice_index_or (map Some stays) r None ≡ Some stay → WasPlayed cap workers (row r) (commands r) (leaves r) stay)
    → Gathered cap workers row commands leaves stays
gathered cap workers row commands leaves [] was = record { played = []; same = refl; each = λ r within. absurd (omega (arith, within)) }
gathered cap workers row commands leaves (stay ∷ stays) was =
    let first = was 0 stay refl in
    let rest = gathered cap workers (λ r. row (suc r)) (λ r. commands (suc r)) (λ r. leaves (suc r)) stays (λ r some there. was (suc r) some there) in
    let one : PlayedStay = record { core = first.core; leaves = leaves 0 } in
    record {
      played = one ∷ rest.played;
      same = ap (λ (s : LoneView). s ∷ map lone_of rest.played) (sym first.is) ∙ ap (λ (more : List LoneView). stay ∷ more) rest.same;
      each = each_of cap workers row commands leaves one rest.played first.played rest.each;
    }

-- The acts of the whole.

jobs_make_nothing : (row : ℕ) (events : List Event) → acts_of (jobs_at row events) ≡ []
jobs_make_nothing row [] = refl
jobs_make_nothing row (event.Hand game command ∷ events) = jobs_make_nothing row events
jobs_make_nothing row (event.Take worker job ∷ events) = jobs_make_nothing row events
jobs_make_nothing row (event.Put worker job ∷ events) = jobs_make_nothing row events
jobs_make_nothing row (event.Admit new ∷ events) = jobs_make_nothing row events
jobs_make_nothing row (event.Leave game ∷ events) = jobs_make_nothing row events

acts_with : (stays : List PlayedStay) (acts : List Act) → acts_of (acts_with_jobs stays (map event_of acts)) ≡ acts
acts_with stays [] = refl
acts_with stays (act.Hand stay command ∷ acts) = ap (λ (more : List Act). act.Hand stay command ∷ more) (acts_with stays acts)
acts_with stays (act.Admit row ∷ acts) = ap (λ (more : List Act). act.Admit row ∷ more) (acts_with stays acts)
acts_with stays (act.Leave stay ∷ acts) =
    let jobs = jobs_at stay (stay_of_row stays stay).core.journal in
    let rest = acts_with_jobs stays (map event_of acts) in
    acts_append jobs (event.Leave stay ∷ rest) ∙ ap (λ (some : List Act). some ++ acts_of (event.Leave stay ∷ rest)) (jobs_make_nothing stay (stay_of_row stays stay).core.journal)
    ∙ ap (λ (more : List Act). act.Leave stay ∷ more) (acts_with stays acts)

kept_make_nothing : (row : ℕ) (stay : PlayedStay) → acts_of (jobs_kept row stay) ≡ []
kept_make_nothing row stay =
    elim (cases_Bool stay.leaves) [
      | inl on ↦ rw on refl
      | inr off ↦ rw off (jobs_make_nothing row stay.core.journal)
    ]

left_make_nothing : (row : ℕ) (stays : List PlayedStay) → acts_of (jobs_left row stays) ≡ []
left_make_nothing row [] = refl
left_make_nothing row (stay ∷ stays) =
    acts_append (jobs_kept row stay) (jobs_left (suc row) stays)
    ∙ ap (λ (some : List Act). some ++ acts_of (jobs_left (suc row) stays)) (kept_make_nothing row stay) ∙ left_make_nothing (suc row) stays

pub whole_acts : (stays : List PlayedStay) (acts : List Act) → acts_of (played_journal stays (map event_of acts)) ≡ acts
whole_acts stays acts =
    acts_append (acts_with_jobs stays (map event_of acts)) (jobs_left 0 stays)
    ∙ ap (λ (some : List Act). acts_of (acts_with_jobs stays (map event_of acts)) ++ some) (left_make_nothing 0 stays)
    ∙ append-nil (acts_of (acts_with_jobs stays (map event_of acts))) ∙ acts_with stays acts

-- What the stays were played for.

pub record ArePut (cap blocks workers : ℕ) (plan : List GameRow) (acts : List Act) (stays : List LoneView) (order : List Step) : Type 0 where
  pub played : List PlayedStay
  pub were : WerePlayed cap blocks workers plan stays order (map event_of acts) played

pub are_put : (cap blocks workers : ℕ) (plan : List GameRow) (acts : List Act) (listed : Stays) (stays : List LoneView)
    → are_acceptable (record { cap = cap; blocks = blocks }) (opened plan) acts ≡ true → AreListed plan acts listed
    → length stays ≡ length listed.rows.items → ArePlayedStays cap workers acts listed (map Some stays)
    → ArePut cap blocks workers plan acts stays listed.order.items
are_put cap blocks workers plan acts listed stays acceptable are many played =
    let rows = listed.rows.items in
    let row = row_at rows in
    let commands = λ (r : ℕ). filter_map (command_in r) acts in
    let leaves = λ (r : ℕ). slice_index_or listed.leaves.items r false in
    let all = gathered cap workers row commands leaves stays (λ r stay there. played r stay there are.places) in
    let long : length all.played ≡ length stays = sym (length-map all.played lone_of) ∙ ap length all.same in
    let rows_same : rows ≡ all_rows plan (map event_of acts) = are.rows ∙ ap (λ more. plan ++ more) (sym (rows_again acts)) in
    record {
      played = all.played;
      were = record {
        ordered = steps_again acts ∙ sym are.order;
        same = all.same;
        fits = are.fits;
        allowed = allowed_again (record { cap = cap; blocks = blocks }) (opened plan) acts ∙ acceptable;
        apart = record {
          many = long ∙ many ∙ ap length rows_same;
          each =
              λ r within.
              let there : r < length listed.leaves.items = (let same_many = are.many in omega (arith, within, long, many, same_many)) in
              let leave : leaves r ≡ leaves_in r (map event_of acts) = are.leaves r there ∙ sym (leaves_again r acts) in
              let one = all.each r within in
              subst (λ (all_of : List GameRow). PlayedAlone cap workers (row_at all_of r) (commands_to r (map event_of acts)) (leaves_in r (map event_of acts)) (stay_of_row all.played r))
              rows_same
              (subst (λ (some : List Command). PlayedAlone cap workers (row r) some (leaves_in r (map event_of acts)) (stay_of_row all.played r))
              (sym (commands_again r acts))
              (subst (λ (leaves_so : Bool). PlayedAlone cap workers (row r) (commands r) leaves_so (stay_of_row all.played r)) leave one));
        };
      };
    }

-- What a player leaves of a core.

pub kept_stay : (cap workers : ℕ) (acts : List Act) (stays : Stays) (row : ℕ) (core : CoreView) (stay : LoneView) → slice_index_or stays.leaves.items row false ≡ false
    → stay ≡ kept_of_core core
    → (HavePlaces acts stays.places.items → RanAlone cap workers (row_at stays.rows.items row) (filter_map (command_in row) acts) core)
    → IsPlayedStay cap workers acts stays row stay
kept_stay cap workers acts stays row core stay stays_open is alone =
    λ have.
    subst (λ leaves. WasPlayed cap workers (row_at stays.rows.items row) (filter_map (command_in row) acts) leaves stay) (sym stays_open)
    (record { core = core; is = is; played = record { alone = alone have; leaves_same = refl; may = λ on. absurd cc } })

pub left_stay : (cap workers : ℕ) (acts : List Act) (stays : Stays) (row : ℕ) (core : CoreView) (stay : LoneView) → slice_index_or stays.leaves.items row false ≡ true
    → (lane_of core.games.lanes 0).is_open ≡ true → list_all is_quiet core.games.lanes ≡ true → length core.games.lanes ≡ 1 → stay ≡ left_of_core core
    → (HavePlaces acts stays.places.items → RanAlone cap workers (row_at stays.rows.items row) (filter_map (command_in row) acts) core)
    → IsPlayedStay cap workers acts stays row stay
left_stay cap workers acts stays row core stay leaves_it opens quiet one is alone =
    λ have.
    let there : 0 < length core.games.lanes = omega (arith, one) in
    let still : is_quiet (lane_of core.games.lanes 0) ≡ true = AllPass-from_list_all is_quiet core.games.lanes quiet 0 no_lane there in
    subst (λ leaves. WasPlayed cap workers (row_at stays.rows.items row) (filter_map (command_in row) acts) leaves stay) (sym leaves_it)
    (record {
      core = core;
      is = is;
      played = record {
        alone = alone have;
        leaves_same = refl;
        may = λ on. and_from (lane_of core.games.lanes 0).is_open (is_quiet (lane_of core.games.lanes 0)) opens still;
      };
    })
