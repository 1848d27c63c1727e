-- Stays that come and go, each of which was played in a core of its own, put together: the whole is
-- its journal.
use Rattle.std.proofs.Common.{◌≡◌, ℕ, zero, suc, ◌+◌, ◌<◌, true, false, List, [], ◌∷◌, ◌++◌, length, map, replicate, Option, None, refl, sym, ap, subst, ◌∙◌, arith, inl, inr}
use Rattle.std.specs.Prelude.{All, slice_index_or}
use Rattle.std.proofs.lemmas.Bool.{cases_Bool}
use Rattle.std.proofs.lemmas.List.{append-nil, get_or-append-add, get_or_append_left, length-append, length-map, length-replicate}
use Rattle.std.proofs.lemmas.List.Elements.{All-append, All-cons, All-head, All-nil, All-tail}
use Rattle.bs_board.specs.plans.Plan.{GameRow, row_of}
use Rattle.bs_heap.specs.Packing.{no_packing}
use Rattle.bs_pool.specs.Ledger.{ledger_of, size}
use Rattle.bs_registry.specs.Stays.{open_stay}
use Rattle.bs_sched.specs.declared.event.Event.{Event}
use Rattle.bs_sched.specs.declared.event.Event.TheVariants as event
use Rattle.bs_sched.specs.Assembly.{jobs_at, reservation_at, setting_with}
use Rattle.bs_sched.specs.Core.{CoreView}
use Rattle.bs_sched.specs.Games.{opened, row_at}
use Rattle.bs_sched.specs.Isolation.{HandsFit, are_enabled, opened_lanes}
use Rattle.bs_sched.specs.Lane.{Lane, empty_lane}
use Rattle.bs_sched.specs.Machine.{Setting, lane_of}
use Rattle.bs_sched.specs.Memory.{games_run}
use Rattle.bs_sched.specs.PlanBlocks.{reservations_of}
use Rattle.bs_sched.specs.Registry.{capacity_of, commands_to, rows_in}
use Rattle.bs_sched.specs.SharedMemory.{IsHosted}
use Rattle.bs_sched.specs.StaysApart.{AreStaysAssembled, PlayedAlone, PlayedApart, PlayedStay, StaysApartLaw, acts_with_jobs, all_reservations_kept, reservations_kept, all_rows, are_acts_in, jobs_kept, jobs_left, lane_kept, leaves_in, played_journal, stay_of_row, stays_assembled}
use Rattle.bs_sched.specs.Storage.{Storage, frames_of}
use Rattle.bs_sched.proofs.ApartGames.{all_unowned}
use Rattle.bs_sched.proofs.ApartLanes.{AreFree}
use Rattle.bs_sched.proofs.ApartReservations.{own_reserved, two_reservations}
use Rattle.bs_sched.proofs.ApartRun.{games_law, storage_run}
use Rattle.bs_sched.proofs.Assembly.{jobs_fit}
use Rattle.bs_sched.proofs.Leading.{Leads, leads_on}
use Rattle.bs_sched.proofs.OpenReservations.{lane_reserved, lanes_reserved, opened_reserved}
use Rattle.bs_sched.proofs.Registered.{registry_opened}
use Rattle.bs_sched.proofs.Reserved.{opened_blocks}
use Rattle.bs_sched.proofs.RightRuns.{opened_lane}
use Rattle.bs_sched.proofs.StayJobs.{all_free}
use Rattle.bs_sched.proofs.StaysEnd.{AreLast, Ends, ends, storage_end, storage_with}
use Rattle.bs_sched.proofs.StaysPlayed.{AreStays, IsStay, PlaysTo, plays, stay_idle}

-- the events are within the limits

played_fit : (stays : List PlayedStay) (acts : List Event) → All HandsFit acts → All HandsFit (acts_with_jobs stays acts)
played_fit stays [] fits = All-nil HandsFit
played_fit stays (event.Hand game command ∷ acts) fits =
    let e = event.Hand game command in
    All-cons HandsFit e (acts_with_jobs stays acts) (All-head HandsFit e acts fits) (played_fit stays acts (All-tail HandsFit e acts fits))
played_fit stays (event.Take worker job ∷ acts) fits =
    let e = event.Take worker job in
    All-cons HandsFit e (acts_with_jobs stays acts) (All-head HandsFit e acts fits) (played_fit stays acts (All-tail HandsFit e acts fits))
played_fit stays (event.Put worker job ∷ acts) fits =
    let e = event.Put worker job in
    All-cons HandsFit e (acts_with_jobs stays acts) (All-head HandsFit e acts fits) (played_fit stays acts (All-tail HandsFit e acts fits))
played_fit stays (event.Admit row ∷ acts) fits =
    let e = event.Admit row in
    All-cons HandsFit e (acts_with_jobs stays acts) (All-head HandsFit e acts fits) (played_fit stays acts (All-tail HandsFit e acts fits))
played_fit stays (event.Leave game ∷ acts) fits =
    let e = event.Leave game in
    let journal = (stay_of_row stays game).core.journal in
    All-append HandsFit (jobs_at game journal) (e ∷ acts_with_jobs stays acts) (jobs_fit game journal)
    (All-cons HandsFit e (acts_with_jobs stays acts) (All-head HandsFit e acts fits) (played_fit stays acts (All-tail HandsFit e acts fits)))

kept_fit : (row : ℕ) (stay : PlayedStay) → All HandsFit (jobs_kept row stay)
kept_fit row stay =
    elim (cases_Bool stay.leaves) [
      | inl leaves ↦ rw leaves (All-nil HandsFit)
      | inr stays ↦ rw stays (jobs_fit row stay.core.journal)
    ]

left_fit : (row : ℕ) (stays : List PlayedStay) → All HandsFit (jobs_left row stays)
left_fit row [] = All-nil HandsFit
left_fit row (stay ∷ stays) = All-append HandsFit (jobs_kept row stay) (jobs_left (suc row) stays) (kept_fit row stay) (left_fit (suc row) stays)

-- the lanes after all acts, one after the other

last_from : (cap workers : ℕ) (lanes : List Lane) (frames : List (List (Option ℕ))) (stays : List PlayedStay) → length frames ≡ length lanes
    → length stays ≡ length lanes
    → ((k : ℕ) → k < length lanes → IsStay cap workers [] false (lane_of lanes k) (slice_index_or frames k []) (stay_of_row stays k))
    → AreLast cap workers lanes frames stays
last_from cap workers [] [] [] many_frames many each = record {}
last_from cap workers [] [] (stay ∷ stays) many_frames many each = absurd (omega (arith, many))
last_from cap workers [] (f ∷ frames) stays many_frames many each = absurd (omega (arith, many_frames))
last_from cap workers (x ∷ lanes) [] stays many_frames many each = absurd (omega (arith, many_frames))
last_from cap workers (x ∷ lanes) (f ∷ frames) [] many_frames many each = absurd (omega (arith, many))
last_from cap workers (x ∷ lanes) (f ∷ frames) (stay ∷ stays) many_frames many each = (
  each 0 (omega arith),
  last_from cap workers lanes frames stays (omega (arith, many_frames)) (omega (arith, many)) (λ k less. each (suc k) (omega (arith, less))),
)

-- their reservations are those of the cores of the open ones

stay_reserved : (cap workers game : ℕ) (x : Lane) (f : List (Option ℕ)) (stay : PlayedStay) → IsStay cap workers [] false x f stay
    → lane_reserved cap game x ≡ reservations_kept game stay
stay_reserved cap workers game x f stay is =
    elim (cases_Bool x.is_open) [
      | inl stands ↦
          let w = is.waits stands in
          let own = own_reserved cap workers x.row (x.waiting ++ []) stay.core w.played.alone in
          let laid = two_reservations cap game x.row [] in
          rw (stands, w.played.leaves_same)
          (sym laid ∙ append-nil (map (reservation_at game) (reservations_of cap (x.row ∷ []))) ∙ ap (map (reservation_at game)) (sym own))
      | inr shut ↦ rw (shut, (is.gone shut).left) refl
    ]

kept_reserved : (cap workers game : ℕ) (lanes : List Lane) (frames : List (List (Option ℕ))) (stays : List PlayedStay) → AreLast cap workers lanes frames stays
    → lanes_reserved cap game lanes ≡ all_reservations_kept game stays
kept_reserved cap workers game [] [] [] last = refl
kept_reserved cap workers game [] [] (stay ∷ stays) last = absurd last
kept_reserved cap workers game [] (f ∷ frames) stays last = absurd last
kept_reserved cap workers game (x ∷ lanes) [] stays last = absurd last
kept_reserved cap workers game (x ∷ lanes) (f ∷ frames) [] last = absurd last
kept_reserved cap workers game (x ∷ lanes) (f ∷ frames) (stay ∷ stays) last =
    ap (λ rs. rs ++ lanes_reserved cap (suc game) lanes) (stay_reserved cap workers game x f stay last.0)
    ∙ ap (λ rs. reservations_kept game stay ++ rs) (kept_reserved cap workers (suc game) lanes frames stays last.1)

-- the newly opened core

none_packed : (rows : List GameRow) → map (λ (r : GameRow). no_packing) rows ≡ map (λ (x : Lane). no_packing) (opened_lanes rows)
none_packed [] = refl
none_packed (row ∷ rows) = ap (λ ps. no_packing ∷ ps) (none_packed rows)

abbrev blank_frames : List GameRow → List (List (Option ℕ))
blank_frames = map (λ (r : GameRow). [])

none_framed : (rows : List GameRow) (k : ℕ) → slice_index_or (blank_frames rows) k [] ≡ []
none_framed [] k = refl
none_framed (row ∷ rows) zero = refl
none_framed (row ∷ rows) (suc k) = none_framed rows k

module _ (cap blocks workers : ℕ) (plan : List GameRow) (acts : List Event) (stays : List PlayedStay) (hosted : IsHosted (setting_with cap blocks workers) plan)
    (fits : All HandsFit acts) (allowed : are_acts_in (capacity_of (setting_with cap blocks workers)) (map open_stay plan) acts ≡ true)
    (apart : PlayedApart cap workers plan acts stays) where
  abbrev all : Setting
  all = setting_with cap blocks workers

  abbrev start : Storage
  start = (opened cap blocks workers plan).storage

  first_stay : (game : ℕ) → game < length plan
      → IsStay cap workers (commands_to game acts) (leaves_in game acts) (lane_of (opened_lanes plan) game) (frames_of start game) (stay_of_row stays game)
  first_stay game less =
      let row = row_at plan game in
      let many = apart.many in
      let long = length-append plan (rows_in acts) in
      let same : row_at (all_rows plan acts) game ≡ row = get_or_append_left plan (rows_in acts) (row_of [] 0) game less in
      let played : PlayedAlone cap workers row (commands_to game acts) (leaves_in game acts) (stay_of_row stays game)
      = subst (λ r. PlayedAlone cap workers r (commands_to game acts) (leaves_in game acts) (stay_of_row stays game)) same
      (apart.each game (omega (arith, less, many, long))) in
      let here : IsStay cap workers (commands_to game acts) (leaves_in game acts) (empty_lane row) [] (stay_of_row stays game)
      = record { waits = λ stands. record { fresh = refl; none = refl; played = played }; gone = λ shut. absurd cc } in
      subst (λ x. IsStay cap workers (commands_to game acts) (leaves_in game acts) x (frames_of start game) (stay_of_row stays game)) (sym (opened_lane plan game))
      (subst (λ f. IsStay cap workers (commands_to game acts) (leaves_in game acts) (empty_lane row) f (stay_of_row stays game)) (sym (none_framed plan game)) here)

  begins : AreStays cap blocks workers stays acts (opened_lanes plan) start
  begins =
      let long = length-map plan empty_lane in
      let both = length-append plan (rows_in acts) in
      let many = apart.many in
      record {
        packings = none_packed plan;
        frames_many = length-map plan (λ (r : GameRow). []) ∙ sym long;
        pool = ap (ledger_of (replicate blocks None)) (opened_reserved cap 0 plan);
        room = let same = opened_blocks cap plan in let fit = hosted.room in omega (arith, same, fit);
        many = omega (arith, many, both, long);
        allowed = ap (λ r. are_acts_in (capacity_of all) r acts) (registry_opened plan) ∙ allowed;
        each = λ game less. first_stay game (omega (arith, less, long));
        coming = λ k row less is.
            let same : row_at (all_rows plan acts) (length plan + k) ≡ row_at (rows_in acts) k = get_or-append-add plan (rows_in acts) k (row_of [] 0) in
            let at : length plan + k ≡ row = omega (arith, long, is) in
            subst (λ r. PlayedAlone cap workers r (commands_to row acts) (leaves_in row acts) (stay_of_row stays row))
            (ap (row_at (all_rows plan acts)) (sym at) ∙ same) (apart.each row (omega (arith, at, less, many, both)));
      }

  abbrev whole : CoreView
  whole = stays_assembled blocks workers plan acts stays

  abbrev journal : List Event
  journal = played_journal stays acts

  -- all acts, and then the jobs of the open stays
  pub record IsPlayed : Type 0 where
    pub leads : Leads cap all (opened_lanes plan) start journal whole.games.lanes whole.games.storage
    pub many : size whole.games.storage.pool ≡ blocks

  is_played : IsPlayed
  is_played =
      let played : PlaysTo cap blocks workers stays (acts_with_jobs stays acts) [] (opened_lanes plan) start
      = plays cap blocks workers stays acts (opened_lanes plan) start begins in
      let lanes = played.lanes' in
      let s = played.s' in
      let st = played.are in
      let rs = lanes_reserved cap 0 lanes in
      let many = st.many in
      let last : AreLast cap workers lanes s.frames stays = last_from cap workers lanes s.frames stays st.frames_many (omega (arith, many)) st.each in
      let free : AreFree lanes = all_free lanes (λ k less. stay_idle cap workers [] false (lane_of lanes k) (frames_of s k) (stay_of_row stays k) (st.each k less)) in
      let unowned = all_unowned blocks in
      let room = st.room in
      let goes : Ends cap workers all refl rs [] lanes [] [] s.frames (replicate blocks None) 0 stays
      = ends cap workers all refl rs [] lanes [] [] s.frames (replicate blocks None) 0 stays refl refl refl (λ worker. refl) free last (omega (arith, room, unowned)) in
      let here : s ≡ storage_with cap workers all refl rs [] [] (replicate blocks None) lanes s.frames
      = ap (λ ps. record { packings = ps; frames = s.frames; pool = s.pool }) st.packings
      ∙ ap (λ l. record { packings = map (λ (x : Lane). no_packing) lanes; frames = s.frames; pool = l }) st.pool in
      let later : Leads cap all lanes s (jobs_left 0 stays) (map lane_kept stays) (storage_end cap workers all refl rs [] [] (replicate blocks None) 0 stays)
      = subst (λ t. Leads cap all lanes t (jobs_left 0 stays) (map lane_kept stays) (storage_end cap workers all refl rs [] [] (replicate blocks None) 0 stays)) (sym here)
      goes.leads in
      let kept = kept_reserved cap workers 0 lanes s.frames stays last in
      let end : Leads cap all lanes s (jobs_left 0 stays) (map lane_kept stays) whole.games.storage
      = subst (λ r. Leads cap all lanes s (jobs_left 0 stays) (map lane_kept stays) (storage_end cap workers all refl r [] [] (replicate blocks None) 0 stays)) kept later in
      record {
        leads = leads_on cap all (opened_lanes plan) start (acts_with_jobs stays acts) lanes s (jobs_left 0 stays) (map lane_kept stays) whole.games.storage
            played.leads end;
        many = goes.many ∙ length-replicate blocks None;
      }

  pub are_assembled : AreStaysAssembled cap blocks workers plan acts stays
  are_assembled =
      let is = is_played in
      let many = is.many in
      let goes : games_run all (opened cap blocks workers plan) journal ≡ whole.games
      = games_law all (opened cap blocks workers plan) journal is.leads.enabled
      ∙ ap (λ ls. record (opened cap blocks workers plan) { lanes = ls; storage = storage_run cap all journal (opened_lanes plan) start }) is.leads.lanes_are
      ∙ ap (λ s. record (opened cap blocks workers plan) { lanes = map lane_kept stays; storage = s }) is.leads.storage_is in
      record {
        blocks_same = many;
        journaled = record {
          hosted = subst (λ b. IsHosted (setting_with cap b workers) plan) (sym many) hosted;
          fits = All-append HandsFit (acts_with_jobs stays acts) (jobs_left 0 stays) (played_fit stays acts fits) (left_fit 0 stays);
          enabled = subst (λ b. are_enabled (setting_with cap b workers) (opened_lanes plan) journal ≡ true) (sym many) is.leads.enabled;
          games = ap (λ b. games_run (setting_with cap b workers) (opened cap b workers plan) journal) many ∙ goes;
        };
      }

pub stays_apart_law : StaysApartLaw
stays_apart_law cap blocks workers plan acts stays hosted fits allowed apart = are_assembled cap blocks workers plan acts stays hosted fits allowed apart
