-- Stays that come and go, each of which was played in a core of its own: the acts of a file, and
-- before each leave the jobs of the stay that leaves.
use Rattle.std.proofs.Common.{◌≡◌, ℕ, suc, ◌+◌, ◌<◌, ◌≤◌, Bool, true, false, List, [], ◌∷◌, ◌++◌, length, map, replicate, take, drop, Option, None, refl, sym, ap, subst, ◌∙◌, arith, inl, inr}
use Rattle.std.specs.Prelude.{fold, slice_index_or, slice_set}
use Rattle.std.proofs.Math.Seq.{map-set_same}
use Rattle.std.proofs.lemmas.Bool.{and_right, cases_Bool, cases_eq, cases_lt}
use Rattle.std.proofs.lemmas.Grind.{get_or-set_at}
use Rattle.std.proofs.lemmas.List.{append-nil, append_assoc, get_or-set_other, get_or-set_same, get_or_append_left, get_or_push, length-map, length-set, length-take-le, length_push, map-append, map_push, set-get_or, set_split}
use Rattle.std.proofs.lemmas.List.Sums.{fold-append, get_or-le-sum_by, sum_by-set}
use Rattle.bs_board.proofs.Chains.{and_both}
use Rattle.bs_board.specs.declared.commands.command.Command.{Command}
use Rattle.bs_board.specs.declared.commands.command.Command.TheVariants as command
use Rattle.bs_board.specs.plans.Plan.{GameRow}
use Rattle.bs_heap.specs.Packing.{no_packing}
use Rattle.bs_pool.specs.declared.reservation.Reservation.{Reservation}
use Rattle.bs_pool.specs.Ledger.{ledger_of, size}
use Rattle.bs_registry.specs.Blocks.{blocks_of}
use Rattle.bs_registry.specs.Stays.{Stay, closed_stay, is_in, no_stay, stay_at, with_admitted, with_closed}
use Rattle.bs_sched.specs.declared.event.Event.{Event}
use Rattle.bs_sched.specs.declared.event.Event.TheVariants as event
use Rattle.bs_sched.specs.Assembly.{RanAlone, jobs_at, own_frames, own_lane, setting_with}
use Rattle.bs_sched.specs.Core.{CoreView}
use Rattle.bs_sched.specs.Games.{row_at, with_stay}
use Rattle.bs_sched.specs.Lane.{Lane, closed_lane, empty_lane, is_idle, may_leave, no_lane, with_waiting}
use Rattle.bs_sched.specs.Machine.{Setting, blocks_in, is_enabled, lane_of, open_blocks, run_of, step}
use Rattle.bs_sched.specs.PlanBlocks.{with_row}
use Rattle.bs_sched.specs.Registry.{capacity_of, commands_to, registry_after, registry_of, rows_in, stay_of}
use Rattle.bs_sched.specs.StaysApart.{PlayedAlone, PlayedStay, acts_with_jobs, are_acts_in, leaves_in, stay_of_row}
use Rattle.bs_sched.specs.Storage.{Storage, frames_of}
use Rattle.bs_sched.proofs.ApartGames.{all_unowned}
use Rattle.bs_sched.proofs.ApartLanes.{AreFree, queued}
use Rattle.bs_sched.proofs.Isolation.{room_run, room_step}
use Rattle.bs_sched.proofs.Leading.{Leads, leads_none, leads_on, leads_one}
use Rattle.bs_sched.proofs.LoneLanes.{met, step_enabled}
use Rattle.bs_sched.proofs.OpenReservations.{lanes_reserved, left_reserved, more_reserved, same_reserved}
use Rattle.bs_sched.proofs.Registry.{registry_law}
use Rattle.bs_sched.proofs.Reserved.{rest_of}
use Rattle.bs_sched.proofs.StayJobs.{all_free, free_before, free_behind}
use Rattle.bs_sched.proofs.StayLeaves.{leaves_beside}
use Rattle.bs_sched.proofs.ToldStays.{leaves_here, leaves_other, never_again, told_here, told_other}

-- an open stay whose jobs have not begun: these commands and perhaps a leave are to come
pub record IsWaiting (cap workers : ℕ) (commands : List Command) (leaves : Bool) (x : Lane) (frames : List (Option ℕ)) (stay : PlayedStay) : Type 0 where
  pub fresh : x ≡ queued x.waiting (empty_lane x.row)
  pub none : frames ≡ []
  pub played : PlayedAlone cap workers x.row (x.waiting ++ commands) leaves stay

-- a stay that has left
pub record HasGone (x : Lane) (frames : List (Option ℕ)) (stay : PlayedStay) : Type 0 where
  pub lane : x ≡ closed_lane (own_lane stay.core)
  pub frames_own : frames ≡ own_frames stay.core
  pub left : stay.leaves ≡ true
  pub idle : is_idle (own_lane stay.core).stage ≡ true

pub record IsStay (cap workers : ℕ) (commands : List Command) (leaves : Bool) (x : Lane) (frames : List (Option ℕ)) (stay : PlayedStay) : Type 0 where
  pub waits : x.is_open ≡ true → IsWaiting cap workers commands leaves x frames stay
  pub gone : x.is_open ≡ false → HasGone x frames stay

pub stay_idle : (cap workers : ℕ) (commands : List Command) (leaves : Bool) (x : Lane) (frames : List (Option ℕ)) (stay : PlayedStay)
    → IsStay cap workers commands leaves x frames stay → is_idle x.stage ≡ true
stay_idle cap workers commands leaves x frames stay is =
    elim (cases_Bool x.is_open) [
      | inl stands ↦ ap (λ (y : Lane). is_idle y.stage) (is.waits stands).fresh
      | inr shut ↦ let gone = is.gone shut in ap (λ (y : Lane). is_idle y.stage) gone.lane ∙ gone.idle
    ]

same_blanks : (lanes : List Lane) (k : ℕ) (y : Lane) → map (λ (x : Lane). no_packing) (slice_set lanes k y) ≡ map (λ (x : Lane). no_packing) lanes
same_blanks lanes k y = map-set_same (λ (x : Lane). no_packing) lanes k y no_lane refl

jobs_in_registry : (row : ℕ) (registry : List Stay) (journal : List Event) → fold registry_after registry (jobs_at row journal) ≡ registry
jobs_in_registry row registry [] = refl
jobs_in_registry row registry (event.Hand game command ∷ journal) = jobs_in_registry row registry journal
jobs_in_registry row registry (event.Take worker job ∷ journal) = jobs_in_registry row registry journal
jobs_in_registry row registry (event.Put worker job ∷ journal) = jobs_in_registry row registry journal
jobs_in_registry row registry (event.Admit new ∷ journal) = jobs_in_registry row registry journal
jobs_in_registry row registry (event.Leave game ∷ journal) = jobs_in_registry row registry journal

module _ (cap blocks workers : ℕ) (stays : List PlayedStay) where
  abbrev pub all : Setting
  all = setting_with cap blocks workers

  abbrev pub free_owners : List (Option ℕ)
  free_owners = replicate blocks None

  -- between the acts: no stay has a block, and each is waiting or has left; these acts are to come
  pub record AreStays (acts : List Event) (lanes : List Lane) (s : Storage) : Type 0 where
    pub packings : s.packings ≡ map (λ (x : Lane). no_packing) lanes
    pub frames_many : length s.frames ≡ length lanes
    pub pool : s.pool ≡ ledger_of free_owners (lanes_reserved cap 0 lanes)
    pub room : open_blocks cap lanes ≤ blocks
    pub many : length stays ≡ length lanes + length (rows_in acts)
    pub allowed : are_acts_in (capacity_of all) (registry_of lanes) acts ≡ true
    pub each : (game : ℕ) → game < length lanes
        → IsStay cap workers (commands_to game acts) (leaves_in game acts) (lane_of lanes game) (frames_of s game) (stay_of_row stays game)
    pub coming : (k row : ℕ) → k < length (rows_in acts) → length lanes + k ≡ row
        → PlayedAlone cap workers (row_at (rows_in acts) k) (commands_to row acts) (leaves_in row acts) (stay_of_row stays row)

  -- an act may name the stay: it is there, and open

  pub record IsThere (lanes : List Lane) (game : ℕ) : Type 0 where
    pub within : game < length lanes
    pub stands : (lane_of lanes game).is_open ≡ true

  is_there : (lanes : List Lane) (game : ℕ) → is_in (registry_of lanes) game ≡ true → IsThere lanes game
  is_there lanes game is =
      let e = event.Hand game command.Bad in
      let on : is_enabled all lanes e ≡ true = (registry_law all lanes []).hands game command.Bad ∙ is in
      let has = met all lanes e refl on in
      record { within = has.within; stands = has.allowed }

  -- a command

  handed : (acts : List Event) (lanes : List Lane) (s : Storage) (game : ℕ) (command : Command) → AreStays (event.Hand game command ∷ acts) lanes s
      → AreStays acts (slice_set lanes game (with_waiting command (lane_of lanes game))) s
  handed acts lanes s game command st =
      let e = event.Hand game command in
      let x = lane_of lanes game in
      let y = with_waiting command x in
      let lanes' = slice_set lanes game y in
      let may = and_both _ _ st.allowed in
      let there = is_there lanes game may.0 in
      let size = length-set lanes game y in
      let room : open_blocks cap lanes' ≤ blocks
      =
      let sum = sum_by-set (blocks_in cap) lanes game y no_lane there.within in
      let term : blocks_in cap y ≡ blocks_in cap x = refl in
      let fit = st.room in
      omega (arith, sum, term, fit) in
      let registry : registry_of lanes' ≡ registry_of lanes = map-set_same stay_of lanes game y no_lane refl in
      let here : IsStay cap workers (commands_to game acts) (leaves_in game acts) y (frames_of s game) (stay_of_row stays game)
      = record {
        waits = λ stands.
            let w = (st.each game there.within).waits there.stands in
            record {
              fresh = ap (with_waiting command) w.fresh;
              none = w.none;
              played = subst (λ cs. PlayedAlone cap workers x.row cs (leaves_in game acts) (stay_of_row stays game))
                  (ap (λ cs. x.waiting ++ cs) (told_here game command acts) ∙ sym (append_assoc x.waiting (command ∷ []) (commands_to game acts))) w.played;
            };
        gone = λ shut. let wrong : true ≡ false = sym there.stands ∙ shut in absurd cc;
      } in
      record {
        packings = st.packings ∙ sym (same_blanks lanes game y);
        frames_many = st.frames_many ∙ sym size;
        pool = st.pool ∙ ap (ledger_of free_owners) (sym (same_reserved cap 0 game lanes y refl refl));
        room = room;
        many = let many = st.many in omega (arith, many, size);
        allowed = ap (λ r. are_acts_in (capacity_of all) r acts) registry ∙ may.1;
        each = λ k less.
            elim (cases_eq k game) [
              | inl is ↦
                  let now : lane_of lanes' game ≡ y = get_or-set_at lanes game game y no_lane refl there.within in
                  subst (λ j. IsStay cap workers (commands_to j acts) (leaves_in j acts) (lane_of lanes' j) (frames_of s j) (stay_of_row stays j)) (sym is)
                  (subst (λ z. IsStay cap workers (commands_to game acts) (leaves_in game acts) z (frames_of s game) (stay_of_row stays game)) (sym now) here)
              | inr differ ↦
                  let now : lane_of lanes' k ≡ lane_of lanes k = get_or-set_other lanes game k y no_lane differ in
                  subst (λ z. IsStay cap workers (commands_to k acts) (leaves_in k acts) z (frames_of s k) (stay_of_row stays k)) (sym now)
                  (subst (λ cs. IsStay cap workers cs (leaves_in k acts) (lane_of lanes k) (frames_of s k) (stay_of_row stays k))
                  (told_other game k command acts (λ same. differ (sym same))) (st.each k (omega (arith, less, size))))
            ];
        coming = λ k row less is.
            let within = there.within in
            subst (λ cs. PlayedAlone cap workers (row_at (rows_in acts) k) cs (leaves_in row acts) (stay_of_row stays row))
            (told_other game row command acts (λ same. omega (arith, same, is, size, within))) (st.coming k row less (omega (arith, is, size)));
      }

  -- an admission

  admitted : (acts : List Event) (lanes : List Lane) (s : Storage) (row : GameRow) → AreStays (event.Admit row ∷ acts) lanes s
      → AreStays acts (lanes ++ empty_lane row ∷ []) (with_stay cap (length lanes) row s)
  admitted acts lanes s row st =
      let e = event.Admit row in
      let y = empty_lane row in
      let lanes' = lanes ++ y ∷ [] in
      let s' = with_stay cap (length lanes) row s in
      let may = and_both _ _ st.allowed in
      let on : is_enabled all lanes e ≡ true = (registry_law all lanes []).admits row ∙ may.0 in
      let size = length_push lanes y in
      let is : step all lanes e ≡ lanes' = step_enabled all lanes e on in
      let registry : registry_of lanes' ≡ with_admitted row (registry_of lanes) = map_push stay_of lanes y in
      let long = st.frames_many in
      let here : IsStay cap workers (commands_to (length lanes) acts) (leaves_in (length lanes) acts) y [] (stay_of_row stays (length lanes))
      = record {
        waits = λ stands. record { fresh = refl; none = refl; played = st.coming 0 (length lanes) (omega arith) (omega arith) };
        gone = λ shut. absurd cc;
      } in
      record {
        packings = ap (λ ps. ps ++ no_packing ∷ []) st.packings ∙ sym (map_push (λ (x : Lane). no_packing) lanes y);
        frames_many = let pushed = length_push s.frames [] in omega (arith, pushed, size, long);
        pool =
            ap (with_row cap (length lanes) row) st.pool
            ∙ ap (ledger_of free_owners)
            (append_assoc (lanes_reserved cap 0 lanes) _ _ ∙ sym (more_reserved cap 0 (length lanes) lanes row (omega arith)));
        room = subst (λ ls. open_blocks cap ls ≤ blocks) is (room_step all lanes e st.room);
        many = let many = st.many in omega (arith, many, size);
        allowed = ap (λ r. are_acts_in (capacity_of all) r acts) registry ∙ may.1;
        each = λ k less.
            elim (cases_lt k (length lanes)) [
              | inl before ↦
                  let now : lane_of lanes k ≡ lane_of lanes' k = sym (get_or_append_left lanes (y ∷ []) no_lane k before) in
                  let framed : frames_of s k ≡ frames_of s' k = sym (get_or_append_left s.frames ([] ∷ []) [] k (omega (arith, before, long))) in
                  subst (λ z. IsStay cap workers (commands_to k acts) (leaves_in k acts) z (frames_of s' k) (stay_of_row stays k)) now
                  (subst (λ f. IsStay cap workers (commands_to k acts) (leaves_in k acts) (lane_of lanes k) f (stay_of_row stays k)) framed
                  (st.each k before))
              | inr past ↦
                  let last : length lanes ≡ k = omega (arith, past, less, size) in
                  let now : y ≡ lane_of lanes' k = sym (get_or_push lanes y no_lane k last) in
                  let framed : [] ≡ frames_of s' k = sym (get_or_push s.frames [] [] k (omega (arith, last, long))) in
                  subst (λ z. IsStay cap workers (commands_to k acts) (leaves_in k acts) z (frames_of s' k) (stay_of_row stays k)) now
                  (subst (λ f. IsStay cap workers (commands_to k acts) (leaves_in k acts) y f (stay_of_row stays k)) framed
                  (subst (λ j. IsStay cap workers (commands_to j acts) (leaves_in j acts) y [] (stay_of_row stays j)) last here))
            ];
        coming = λ k game less at. st.coming (suc k) game (omega (arith, less)) (omega (arith, at, size));
      }

  -- the jobs of a stay, and its leave

  -- what the jobs and the leave of a stay lead to
  pub record GoesAway (lanes : List Lane) (s : Storage) (game : ℕ) (core : CoreView) : Type 0 where
    pub lanes' : List Lane
    pub s' : Storage
    pub lanes_are : lanes' ≡ slice_set lanes game (closed_lane (own_lane core))
    pub packings : s'.packings ≡ s.packings
    pub frames : s'.frames ≡ slice_set s.frames game (own_frames core)
    pub pool : s'.pool ≡ ledger_of free_owners (rest_of game (lanes_reserved cap 0 lanes))
    pub leads : Leads cap all lanes s (jobs_at game core.journal ++ event.Leave game ∷ []) lanes' s'

  split_at : {X : Type 0} (xs : List X) (k : ℕ) (d : X) → k < length xs → xs ≡ take k xs ++ slice_index_or xs k d ∷ drop (suc k) xs
  split_at xs k d within = sym (set-get_or xs k d) ∙ set_split xs k (slice_index_or xs k d) within

  -- the stay between others, with these frames
  abbrev storage_between : List Lane → List Lane → List (List (Option ℕ)) → List (List (Option ℕ)) → List Reservation → List (Option ℕ) → Storage
  storage_between done rest done_frames rest_frames rs f =
      record {
        packings = map (λ (z : Lane). no_packing) done ++ no_packing ∷ map (λ (z : Lane). no_packing) rest;
        frames = done_frames ++ f ∷ rest_frames;
        pool = ledger_of free_owners rs;
      }

  leaves_between : (done rest : List Lane) (done_frames rest_frames : List (List (Option ℕ))) (rs : List Reservation) (row : GameRow) (commands : List Command) (core : CoreView)
      → AreFree done → AreFree rest → length done_frames ≡ length done → RanAlone cap workers row commands core → size core.games.storage.pool ≤ blocks
      → may_leave (own_lane core) ≡ true
      → Leads cap all (done ++ queued commands (empty_lane row) ∷ rest) (storage_between done rest done_frames rest_frames rs [])
      (jobs_at (length done) core.journal ++ event.Leave (length done) ∷ []) (done ++ closed_lane (own_lane core) ∷ rest)
      (storage_between done rest done_frames rest_frames (rest_of (length done) rs) (own_frames core))
  leaves_between done rest done_frames rest_frames rs row commands core before behind many_frames alone room may =
      let enough = all_unowned blocks in
      let goes = leaves_beside cap workers all refl rs done rest before behind (map (λ (z : Lane). no_packing) done) (map (λ (z : Lane). no_packing) rest) done_frames rest_frames
      (length-map done (λ (z : Lane). no_packing)) many_frames free_owners row commands core alone (omega (arith, room, enough)) may in
      record { enabled = goes.enabled; lanes_are = goes.lanes; storage_is = goes.storage }

  -- the same events of the same lanes and storage
  leads_from : (lanes split : List Lane) (s t : Storage) (n game : ℕ) (journal : List Event) (lanes' : List Lane) (s' : Storage) → lanes ≡ split → s ≡ t → n ≡ game
      → Leads cap all split t (jobs_at n journal ++ event.Leave n ∷ []) lanes' s' → Leads cap all lanes s (jobs_at game journal ++ event.Leave game ∷ []) lanes' s'
  leads_from lanes split s t n game journal lanes' s' same stored here goes =
      subst (λ g. Leads cap all lanes s (jobs_at g journal ++ event.Leave g ∷ []) lanes' s') here
      (subst (λ ls. Leads cap all ls s (jobs_at n journal ++ event.Leave n ∷ []) lanes' s') (sym same)
      (subst (λ u. Leads cap all split u (jobs_at n journal ++ event.Leave n ∷ []) lanes' s') (sym stored) goes))

  goes_away : (lanes : List Lane) (s : Storage) (game : ℕ) (row : GameRow) (commands : List Command) (core : CoreView) → AreFree lanes → game < length lanes
      → lane_of lanes game ≡ queued commands (empty_lane row) → s.packings ≡ map (λ (x : Lane). no_packing) lanes → length s.frames ≡ length lanes
      → frames_of s game ≡ [] → s.pool ≡ ledger_of free_owners (lanes_reserved cap 0 lanes) → RanAlone cap workers row commands core
      → size core.games.storage.pool ≤ blocks → may_leave (own_lane core) ≡ true → GoesAway lanes s game core
  goes_away lanes s game row commands core free within stands packings long none pool alone room may =
      let x = queued commands (empty_lane row) in
      let y = closed_lane (own_lane core) in
      let done = take game lanes in
      let rest = drop (suc game) lanes in
      let done_frames = take game s.frames in
      let rest_frames = drop (suc game) s.frames in
      let rs = lanes_reserved cap 0 lanes in
      let lanes_split : lanes ≡ done ++ x ∷ rest = split_at lanes game no_lane within ∙ ap (λ z. done ++ z ∷ rest) stands in
      let all_free_here : AreFree (done ++ x ∷ rest) = subst AreFree lanes_split free in
      let here : length done ≡ game = length-take-le game lanes (omega (arith, within)) in
      let frames_here : length done_frames ≡ game = length-take-le game s.frames (omega (arith, within, long)) in
      let framed : s.frames ≡ done_frames ++ [] ∷ rest_frames
      = split_at s.frames game [] (omega (arith, within, long)) ∙ ap (λ f. done_frames ++ f ∷ rest_frames) none in
      let packed : s.packings ≡ map (λ (z : Lane). no_packing) done ++ no_packing ∷ map (λ (z : Lane). no_packing) rest
      = packings ∙ ap (map (λ (z : Lane). no_packing)) lanes_split ∙ map-append (λ (z : Lane). no_packing) done (x ∷ rest) in
      let start : s ≡ storage_between done rest done_frames rest_frames rs [] = (λ i. record { packings = packed i; frames = framed i; pool = pool i }) in
      let goes = leaves_between done rest done_frames rest_frames rs row commands core (free_before done rest x all_free_here) (free_behind done rest x all_free_here)
      (frames_here ∙ sym here) alone room may in
      record {
        lanes' = done ++ y ∷ rest;
        s' = storage_between done rest done_frames rest_frames (rest_of (length done) rs) (own_frames core);
        lanes_are = sym (set_split lanes game y within);
        packings = sym packed;
        frames = sym (set_split s.frames game (own_frames core) (omega (arith, within, long)));
        pool = ap (λ g. ledger_of free_owners (rest_of g rs)) here;
        leads = leads_from lanes (done ++ x ∷ rest) s (storage_between done rest done_frames rest_frames rs []) (length done) game core.journal (done ++ y ∷ rest)
            (storage_between done rest done_frames rest_frames (rest_of (length done) rs) (own_frames core)) lanes_split start here goes;
      }

  -- events that lead from one such state to another
  pub record PlaysTo (events acts : List Event) (lanes : List Lane) (s : Storage) : Type 0 where
    pub lanes' : List Lane
    pub s' : Storage
    pub leads : Leads cap all lanes s events lanes' s'
    pub are : AreStays acts lanes' s'

  left : (acts : List Event) (lanes : List Lane) (s : Storage) (game : ℕ) → AreStays (event.Leave game ∷ acts) lanes s
      → PlaysTo (jobs_at game (stay_of_row stays game).core.journal ++ event.Leave game ∷ []) acts lanes s
  left acts lanes s game st =
      let stay = stay_of_row stays game in
      let core = stay.core in
      let x = lane_of lanes game in
      let z = closed_lane (own_lane core) in
      let events = jobs_at game core.journal ++ event.Leave game ∷ [] in
      let may = and_both _ _ st.allowed in
      let there = is_there lanes game may.0 in
      let within = there.within in
      let w = (st.each game there.within).waits there.stands in
      let registry = registry_of lanes in
      let closed = with_closed game registry in
      let known = length-map lanes stay_of in
      let long_closed = length-set registry game (closed_stay (stay_at registry game)) in
      let shut_there : stay_at closed game ≡ closed_stay (stay_at registry game)
      = get_or-set_same registry game (closed_stay (stay_at registry game)) no_stay (omega (arith, within, known)) in
      let out : is_in closed game ≡ false = and_right _ _ (ap (λ (e : Stay). e.is_open) shut_there) in
      let never = never_again all closed game acts (omega (arith, within, known, long_closed)) out may.1 in
      let alone : RanAlone cap workers x.row x.waiting core
      = subst (λ cs. RanAlone cap workers x.row cs core) (ap (λ cs. x.waiting ++ cs) never.0 ∙ append-nil x.waiting) w.played.alone in
      let leaves : stay.leaves ≡ true = w.played.leaves_same ∙ leaves_here game acts in
      let room : size core.games.storage.pool ≤ blocks
      =
      let had : blocks_in cap x ≡ blocks_of cap x.row = rw there.stands refl in
      let part = get_or-le-sum_by (blocks_in cap) lanes game no_lane within in
      let mine = alone.blocks in
      let fit = st.room in
      omega (arith, had, part, mine, fit) in
      let free = all_free lanes (λ k less. stay_idle cap workers (commands_to k (event.Leave game ∷ acts)) (leaves_in k (event.Leave game ∷ acts)) (lane_of lanes k)
      (frames_of s k) (stay_of_row stays k) (st.each k less)) in
      let goes : GoesAway lanes s game core
      = goes_away lanes s game x.row x.waiting core free within w.fresh st.packings st.frames_many w.none st.pool alone room (w.played.may leaves) in
      let lanes' = slice_set lanes game z in
      let is : run_of all lanes events ≡ lanes' = goes.leads.lanes_are ∙ goes.lanes_are in
      let size = length-set lanes game z in
      let long = st.frames_many in
      let registry_is : registry_of lanes' ≡ closed
      = ap registry_of (sym is)
      ∙ (registry_law all lanes events).registry goes.leads.enabled
      ∙ fold-append registry_after registry (jobs_at game core.journal) (event.Leave game ∷ [])
      ∙ ap (λ r. with_closed game r) (jobs_in_registry game registry core.journal) in
      record {
        lanes' = lanes';
        s' = goes.s';
        leads = subst (λ ls. Leads cap all lanes s events ls goes.s') goes.lanes_are goes.leads;
        are = record {
          packings = goes.packings ∙ st.packings ∙ sym (same_blanks lanes game z);
          frames_many = ap length goes.frames ∙ length-set s.frames game (own_frames core) ∙ st.frames_many ∙ sym size;
          pool = goes.pool ∙ ap (ledger_of free_owners) (left_reserved cap 0 game game lanes z (omega arith) within refl);
          room = subst (λ ls. open_blocks cap ls ≤ blocks) is (room_run all lanes events st.room);
          many = let many = st.many in omega (arith, many, size);
          allowed = ap (λ r. are_acts_in (capacity_of all) r acts) registry_is ∙ may.1;
          each = λ k less.
              elim (cases_eq k game) [
                | inl same ↦
                    let now : z ≡ lane_of lanes' game = sym (get_or-set_same lanes game z no_lane within) in
                    let framed : own_frames core ≡ frames_of goes.s' game
                    = sym (ap (λ fs. slice_index_or fs game []) goes.frames ∙ get_or-set_same s.frames game (own_frames core) [] (omega (arith, within, long))) in
                    let here : IsStay cap workers (commands_to game acts) (leaves_in game acts) z (own_frames core) stay
                    = record {
                      waits = λ stands. absurd cc;
                      gone = λ shut. record { lane = refl; frames_own = refl; left = leaves; idle = alone.idle };
                    } in
                    subst (λ j. IsStay cap workers (commands_to j acts) (leaves_in j acts) (lane_of lanes' j) (frames_of goes.s' j) (stay_of_row stays j)) (sym same)
                    (subst (λ y. IsStay cap workers (commands_to game acts) (leaves_in game acts) y (frames_of goes.s' game) stay) now
                    (subst (λ f. IsStay cap workers (commands_to game acts) (leaves_in game acts) z f stay) framed here))
                | inr differ ↦
                    let now : lane_of lanes k ≡ lane_of lanes' k = sym (get_or-set_other lanes game k z no_lane differ) in
                    let framed : frames_of s k ≡ frames_of goes.s' k
                    = sym (ap (λ fs. slice_index_or fs k []) goes.frames ∙ get_or-set_other s.frames game k (own_frames core) [] differ) in
                    subst (λ y. IsStay cap workers (commands_to k acts) (leaves_in k acts) y (frames_of goes.s' k) (stay_of_row stays k)) now
                    (subst (λ f. IsStay cap workers (commands_to k acts) (leaves_in k acts) (lane_of lanes k) f (stay_of_row stays k)) framed
                    (subst (λ b. IsStay cap workers (commands_to k acts) b (lane_of lanes k) (frames_of s k) (stay_of_row stays k))
                    (leaves_other game k acts (λ same. differ (sym same))) (st.each k (omega (arith, less, size)))))
              ];
          coming = λ k row less at.
              subst (λ b. PlayedAlone cap workers (row_at (rows_in acts) k) (commands_to row acts) b (stay_of_row stays row))
              (leaves_other game row acts (λ same. omega (arith, same, at, size, within))) (st.coming k row less (omega (arith, at, size)));
        };
      }

  -- all acts

  plays_then : (first later acts : List Event) (lanes : List Lane) (s : Storage) (one : PlaysTo first acts lanes s) → PlaysTo later [] one.lanes' one.s'
      → PlaysTo (first ++ later) [] lanes s
  plays_then first later acts lanes s one rest = record {
    lanes' = rest.lanes';
    s' = rest.s';
    leads = leads_on cap all lanes s first one.lanes' one.s' later rest.lanes' rest.s' one.leads rest.leads;
    are = rest.are;
  }

  pub plays : (acts : List Event) (lanes : List Lane) (s : Storage) → AreStays acts lanes s → PlaysTo (acts_with_jobs stays acts) [] lanes s
  plays [] lanes s st = record { lanes' = lanes; s' = s; leads = leads_none cap all lanes s; are = st }
  plays (event.Hand game command ∷ acts) lanes s st =
      let e = event.Hand game command in
      let lanes' = slice_set lanes game (with_waiting command (lane_of lanes game)) in
      let on : is_enabled all lanes e ≡ true = (registry_law all lanes []).hands game command ∙ (and_both _ _ st.allowed).0 in
      let one : PlaysTo (e ∷ []) acts lanes s
      = record { lanes' = lanes'; s' = s; leads = leads_one cap all lanes s e on; are = handed acts lanes s game command st } in
      plays_then (e ∷ []) (acts_with_jobs stays acts) acts lanes s one (plays acts one.lanes' one.s' one.are)
  plays (event.Take worker job ∷ acts) lanes s st = let wrong : false ≡ true = st.allowed in absurd cc
  plays (event.Put worker job ∷ acts) lanes s st = let wrong : false ≡ true = st.allowed in absurd cc
  plays (event.Admit row ∷ acts) lanes s st =
      let e = event.Admit row in
      let on : is_enabled all lanes e ≡ true = (registry_law all lanes []).admits row ∙ (and_both _ _ st.allowed).0 in
      let one : PlaysTo (e ∷ []) acts lanes s
      = record {
        lanes' = lanes ++ empty_lane row ∷ [];
        s' = with_stay cap (length lanes) row s;
        leads = leads_one cap all lanes s e on;
        are = admitted acts lanes s row st;
      } in
      plays_then (e ∷ []) (acts_with_jobs stays acts) acts lanes s one (plays acts one.lanes' one.s' one.are)
  plays (event.Leave game ∷ acts) lanes s st =
      let jobs = jobs_at game (stay_of_row stays game).core.journal in
      let one = left acts lanes s game st in
      let later = acts_with_jobs stays acts in
      subst (λ es. PlaysTo es [] lanes s) (append_assoc jobs (event.Leave game ∷ []) later)
      (plays_then (jobs ++ event.Leave game ∷ []) later acts lanes s one (plays acts one.lanes' one.s' one.are))
