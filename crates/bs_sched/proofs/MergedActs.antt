-- The journals of stays that come and go, each of which was played in a core of its own, merged: the
-- journal of the whole.
use Rattle.std.proofs.Common.{◌≡◌, ℕ, suc, ◌+◌, ◌<◌, Bool, true, false, List, [], ◌∷◌, ◌++◌, drop, length, map, refl, sym, ap, subst, ◌∙◌, arith, inl, inr}
use Rattle.std.specs.Prelude.{◌&&◌, if◌then◌else◌, not, option_to_list, slice_index_or, slice_set}
use Rattle.std.proofs.Math.ListN.{get_or-map}
use Rattle.std.proofs.lemmas.Bool.{and_parts, and_right, cases_Bool, cases_eq, ltb-true, or_right}
use Rattle.std.proofs.lemmas.List.{append_assoc, get_or-set_other, get_or-set_same, length-append, length-map, length-set, length_push}
use Rattle.bs_board.proofs.Chains.{and_both}
use Rattle.bs_board.specs.declared.commands.command.Command.{Command}
use Rattle.bs_board.specs.plans.Plan.{GameRow}
use Rattle.bs_registry.specs.Stays.{Stay, closed_stay, is_in, no_stay, open_stay, stay_at, with_admitted, with_closed}
use Rattle.bs_sched.specs.declared.event.Event.{Event}
use Rattle.bs_sched.specs.declared.event.Event.TheVariants as event
use Rattle.bs_sched.specs.declared.step.Step.TheVariants as step
use Rattle.bs_sched.specs.Assembly.{jobs_at, setting_with}
use Rattle.bs_sched.specs.LoneStay.{LoneView}
use Rattle.bs_sched.specs.Machine.{Setting}
use Rattle.bs_sched.specs.Registry.{capacity_of, commands_to, rows_in}
use Rattle.bs_sched.specs.StaysApart.{PlayedApart, PlayedStay, acts_with_jobs, are_acts_in, jobs_kept, jobs_left, leaves_in, played_journal, stay_of_row}
use Rattle.bs_sched.specs.StaysHeld.{lone_of, steps_of}
use Rattle.bs_sched.specs.Core.{opened_core}
use Rattle.bs_sched.specs.inner.Merging.{act_taken, acts_taken, all_jobs, first_hand, lefts_after, merged, taken_from}
use Rattle.bs_sched.proofs.Merged.{jobs_again}
use Rattle.bs_sched.proofs.ToldStays.{leaves_here, leaves_other, never_again, told_here, told_other}

-- the jobs of a stay, none once it has left
abbrev jobs_of : Bool → List Event → List Event
jobs_of gone journal = if gone then [] else jobs_at 0 journal

-- what is left of the journal of a stay while these acts are to come
abbrev left_of : ℕ → List Event → PlayedStay → List Event
left_of row acts stay = map (event.Hand 0) (commands_to row acts) ++ jobs_of (stay.leaves && not (leaves_in row acts)) stay.core.journal

-- queued commands are no jobs
no_jobs : (row : ℕ) (commands : List Command) (events : List Event) → jobs_at row (map (event.Hand 0) commands ++ events) ≡ jobs_at row events
no_jobs row [] events = refl
no_jobs row (command ∷ commands) events = no_jobs row commands events

both_not : (b : Bool) → (b && not b) ≡ false
both_not true = refl
both_not false = refl

module _ (setting : Setting) (stays : List PlayedStay) where
  abbrev at : ℕ → PlayedStay
  at = stay_of_row stays

  -- while these acts are to come
  record AreLefts (registry : List Stay) (acts : List Event) (lefts : List (List Event)) : Type 0 where
    pub many : length lefts ≡ length stays
    pub known : length registry + length (rows_in acts) ≡ length stays
    pub allowed : are_acts_in (capacity_of setting) registry acts ≡ true
    pub leaving : (row : ℕ) → row < length stays → leaves_in row acts ≡ true → (at row).leaves ≡ true
    pub each : (row : ℕ) → row < length stays → slice_index_or lefts row [] ≡ left_of row acts (at row)

  in_registry : (registry : List Stay) (game : ℕ) → is_in registry game ≡ true → game < length registry
  in_registry registry game is = ltb-true game (length registry) (and_parts _ _ is).0

  -- a command

  first_is : (registry : List Stay) (acts : List Event) (lefts : List (List Event)) (game : ℕ) (command : Command) → game < length stays
      → AreLefts registry (event.Hand game command ∷ acts) lefts
      → slice_index_or lefts game [] ≡ event.Hand 0 command ∷ left_of game acts (at game)
  first_is registry acts lefts game command within st =
      st.each game within
      ∙ ap (λ cs. map (event.Hand 0) cs ++ jobs_of ((at game).leaves && not (leaves_in game acts)) (at game).core.journal) (told_here game command acts)

  record HandTaken (registry : List Stay) (acts : List Event) (lefts : List (List Event)) (game : ℕ) (command : Command) : Type 0 where
    pub taken : act_taken (step.Hand game) lefts ≡ event.Hand game command ∷ []
    pub after : AreLefts registry acts (taken_from game lefts)

  hand_taken : (registry : List Stay) (acts : List Event) (lefts : List (List Event)) (game : ℕ) (command : Command)
      → AreLefts registry (event.Hand game command ∷ acts) lefts → HandTaken registry acts lefts game command
  hand_taken registry acts lefts game command st =
      let may = and_both _ _ st.allowed in
      let there = in_registry registry game may.0 in
      let known = st.known in
      let many = st.many in
      let within : game < length stays = omega (arith, there, known) in
      let first = first_is registry acts lefts game command within st in
      let left = left_of game acts (at game) in
      let set : taken_from game lefts ≡ slice_set lefts game left = ap (λ es. slice_set lefts game (drop 1 es)) first in
      record {
        taken = ap (λ es. option_to_list (first_hand game es)) first;
        after = record {
          many = ap length set ∙ length-set lefts game left ∙ st.many;
          known = st.known;
          allowed = may.1;
          leaving = st.leaving;
          each = λ row less.
              elim (cases_eq row game) [
                | inl is ↦
                    subst (λ j. slice_index_or (taken_from game lefts) j [] ≡ left_of j acts (at j)) (sym is)
                    (ap (λ ls. slice_index_or ls game []) set ∙ get_or-set_same lefts game left [] (omega (arith, within, many)))
                | inr differ ↦
                    ap (λ ls. slice_index_or ls row []) set ∙ get_or-set_other lefts game row left [] differ ∙ st.each row less
                    ∙ ap (λ cs. map (event.Hand 0) cs ++ jobs_of ((at row).leaves && not (leaves_in row acts)) (at row).core.journal)
                    (told_other game row command acts (λ same. differ (sym same)))
              ];
        };
      }

  -- an admission
  admit_taken : (registry : List Stay) (acts : List Event) (lefts : List (List Event)) (row : GameRow) → AreLefts registry (event.Admit row ∷ acts) lefts
      → AreLefts (with_admitted row registry) acts lefts
  admit_taken registry acts lefts row st =
      let long = length_push registry (open_stay row) in
      let known = st.known in
      record {
        many = st.many;
        known = omega (arith, known, long);
        allowed = (and_both _ _ st.allowed).1;
        leaving = st.leaving;
        each = st.each;
      }

  -- a leave

  record LeaveTaken (registry : List Stay) (acts : List Event) (lefts : List (List Event)) (game : ℕ) : Type 0 where
    pub taken : act_taken (step.Leave game) lefts ≡ jobs_at game (at game).core.journal ++ event.Leave game ∷ []
    pub after : AreLefts (with_closed game registry) acts (slice_set lefts game [])

  leave_taken : (registry : List Stay) (acts : List Event) (lefts : List (List Event)) (game : ℕ) → AreLefts registry (event.Leave game ∷ acts) lefts
      → LeaveTaken registry acts lefts game
  leave_taken registry acts lefts game st =
      let stay = at game in
      let journal = stay.core.journal in
      let may = and_both _ _ st.allowed in
      let there = in_registry registry game may.0 in
      let known = st.known in
      let many = st.many in
      let within : game < length stays = omega (arith, there, known) in
      let leaves = leaves_here game acts in
      let gone : stay.leaves ≡ true = st.leaving game within leaves in
      let closed = with_closed game registry in
      let long = length-set registry game (closed_stay (stay_at registry game)) in
      let shut : stay_at closed game ≡ closed_stay (stay_at registry game)
      = get_or-set_same registry game (closed_stay (stay_at registry game)) no_stay there in
      let out : is_in closed game ≡ false = and_right _ _ (ap (λ (e : Stay). e.is_open) shut) in
      let never = never_again setting closed game acts (omega (arith, there, long)) out may.1 in
      let jobs : jobs_of (stay.leaves && not (leaves_in game (event.Leave game ∷ acts))) journal ≡ jobs_at 0 journal
      = ap (λ b. jobs_of (stay.leaves && not b) journal) leaves ∙ ap (λ b. jobs_of (b && false) journal) gone in
      let none : left_of game acts stay ≡ []
      = ap (λ cs. map (event.Hand 0) cs ++ jobs_of (stay.leaves && not (leaves_in game acts)) journal) never.0
      ∙ ap (λ b. jobs_of (stay.leaves && not b) journal) never.1 ∙ ap (λ b. jobs_of (b && true) journal) gone in
      record {
        taken =
            ap (λ es. jobs_at game es ++ event.Leave game ∷ [])
            (st.each game within ∙ ap (λ es. map (event.Hand 0) (commands_to game acts) ++ es) jobs)
            ∙ ap (λ es. es ++ event.Leave game ∷ []) (no_jobs game (commands_to game acts) (jobs_at 0 journal) ∙ jobs_again game journal);
        after = record {
          many = length-set lefts game [] ∙ st.many;
          known = omega (arith, known, long);
          allowed = may.1;
          leaving = λ row less later. st.leaving row less (or_right _ _ later);
          each = λ row less.
              elim (cases_eq row game) [
                | inl is ↦
                    subst (λ j. slice_index_or (slice_set lefts game []) j [] ≡ left_of j acts (at j)) (sym is)
                    (get_or-set_same lefts game [] [] (omega (arith, within, many)) ∙ sym none)
                | inr differ ↦
                    get_or-set_other lefts game row [] [] differ ∙ st.each row less
                    ∙ ap (λ b. map (event.Hand 0) (commands_to row acts) ++ jobs_of ((at row).leaves && not b) (at row).core.journal)
                    (leaves_other game row acts (λ same. differ (sym same)))
              ];
        };
      }

  -- all acts

  record ActsTaken (acts : List Event) (lefts : List (List Event)) : Type 0 where
    pub taken : acts_taken (steps_of acts) lefts ≡ acts_with_jobs stays acts
    pub many : length (lefts_after (steps_of acts) lefts) ≡ length stays
    pub each : (row : ℕ) → row < length stays → slice_index_or (lefts_after (steps_of acts) lefts) row [] ≡ left_of row [] (at row)

  taken_all : (registry : List Stay) (acts : List Event) (lefts : List (List Event)) → AreLefts registry acts lefts → ActsTaken acts lefts
  taken_all registry [] lefts st = record { taken = refl; many = st.many; each = st.each }
  taken_all registry (event.Hand game command ∷ acts) lefts st =
      let one = hand_taken registry acts lefts game command st in
      let rest = taken_all registry acts (taken_from game lefts) one.after in
      record {
        taken = ap (λ es. es ++ acts_taken (steps_of acts) (taken_from game lefts)) one.taken ∙ ap (λ es. event.Hand game command ∷ es) rest.taken;
        many = rest.many;
        each = rest.each;
      }
  taken_all registry (event.Take worker job ∷ acts) lefts st = let wrong : false ≡ true = st.allowed in absurd cc
  taken_all registry (event.Put worker job ∷ acts) lefts st = let wrong : false ≡ true = st.allowed in absurd cc
  taken_all registry (event.Admit row ∷ acts) lefts st =
      let rest = taken_all (with_admitted row registry) acts lefts (admit_taken registry acts lefts row st) in
      record { taken = ap (λ es. event.Admit row ∷ es) rest.taken; many = rest.many; each = rest.each }
  taken_all registry (event.Leave game ∷ acts) lefts st =
      let jobs = jobs_at game (at game).core.journal in
      let one = leave_taken registry acts lefts game st in
      let rest = taken_all (with_closed game registry) acts (slice_set lefts game []) one.after in
      record {
        taken = ap (λ es. es ++ acts_taken (steps_of acts) (slice_set lefts game [])) one.taken
            ∙ append_assoc jobs (event.Leave game ∷ []) (acts_taken (steps_of acts) (slice_set lefts game []))
            ∙ ap (λ es. jobs ++ event.Leave game ∷ es) rest.taken;
        many = rest.many;
        each = rest.each;
      }

-- the jobs of the stays that are open in the end

left_kept : (row : ℕ) (leaves : Bool) (journal left : List Event) → left ≡ jobs_of (leaves && true) journal
    → jobs_at row left ≡ (if leaves then [] else jobs_at row journal)
left_kept row true journal left is = ap (jobs_at row) is
left_kept row false journal left is = ap (jobs_at row) is ∙ jobs_again row journal

jobs_kept_left : (row : ℕ) (stays : List PlayedStay) (lefts : List (List Event)) → length lefts ≡ length stays
    → ((k : ℕ) → k < length stays → slice_index_or lefts k [] ≡ left_of k [] (stay_of_row stays k)) → all_jobs row lefts ≡ jobs_left row stays
jobs_kept_left row [] [] many each = refl
jobs_kept_left row [] (left ∷ lefts) many each = absurd (omega (arith, many))
jobs_kept_left row (stay ∷ stays) [] many each = absurd (omega (arith, many))
jobs_kept_left row (stay ∷ stays) (left ∷ lefts) many each =
    ap (λ es. es ++ all_jobs (suc row) lefts) (left_kept row stay.leaves stay.core.journal left (each 0 (omega arith)))
    ∙ ap (λ es. jobs_kept row stay ++ es) (jobs_kept_left (suc row) stays lefts (omega (arith, many)) (λ k less. each (suc k) (omega (arith, less))))

-- the journals of the stays

abbrev journal_of : PlayedStay → List Event
journal_of stay = stay.core.journal

pub own_journal : (stay : PlayedStay) → (lone_of stay).journal ≡ stay.core.journal
own_journal stay =
    elim (cases_Bool stay.leaves) [
      | inl leaves ↦ rw leaves refl
      | inr stays ↦ rw stays refl
    ]

pub own_journals : (stays : List PlayedStay) → map (λ (v : LoneView). v.journal) (map lone_of stays) ≡ map journal_of stays
own_journals [] = refl
own_journals (stay ∷ stays) =
    ap (λ es. es ∷ map (λ (v : LoneView). v.journal) (map lone_of stays)) (own_journal stay) ∙ ap (λ js. stay.core.journal ∷ js) (own_journals stays)

module _ (cap blocks workers : ℕ) (plan : List GameRow) (acts : List Event) (stays : List PlayedStay)
    (allowed : are_acts_in (capacity_of (setting_with cap blocks workers)) (map open_stay plan) acts ≡ true) (apart : PlayedApart cap workers plan acts stays) where
  first_lefts : AreLefts (setting_with cap blocks workers) stays (map open_stay plan) acts (map journal_of stays)
  first_lefts =
      let rows = length-append plan (rows_in acts) in
      let open_rows = length-map plan open_stay in
      let many = apart.many in
      record {
        many = length-map stays journal_of;
        known = omega (arith, rows, open_rows, many);
        allowed = allowed;
        leaving = λ row less leaves. (apart.each row less).leaves_same ∙ leaves;
        each = λ row less.
            let stay = stay_of_row stays row in
            let played = apart.each row less in
            let commands = commands_to row acts in
            let journal = stay.core.journal in
            let none : (stay.leaves && not (leaves_in row acts)) ≡ false = ap (λ b. b && not (leaves_in row acts)) played.leaves_same ∙ both_not (leaves_in row acts) in
            get_or-map journal_of stays row (record { core = opened_core 0 0 0 []; leaves = false }) ∙ played.alone.hands_first
            ∙ ap (λ b. map (event.Hand 0) commands ++ jobs_of b journal) (sym none);
      }

  pub merged_stays : merged (steps_of acts) (map (λ (v : LoneView). v.journal) (map lone_of stays)) ≡ played_journal stays acts
  merged_stays =
      let all = taken_all (setting_with cap blocks workers) stays (map open_stay plan) acts (map journal_of stays) first_lefts in
      ap (merged (steps_of acts)) (own_journals stays)
      ∙ ap (λ es. es ++ all_jobs 0 (lefts_after (steps_of acts) (map journal_of stays))) all.taken
      ∙ ap (λ es. acts_with_jobs stays acts ++ es) (jobs_kept_left 0 stays (lefts_after (steps_of acts) (map journal_of stays)) all.many all.each)
