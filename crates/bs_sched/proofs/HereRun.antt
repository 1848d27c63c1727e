-- A command that is answered at once: what the events of its jobs do to its stay and to the pool,
-- one after the other.
use Rattle.std.proofs.Common.{◌≡◌, ℕ, zero, suc, ◌<◌, ◌≤◌, true, List, [], ◌∷◌, ◌++◌, length, map, Option, Result, Ok, Err, refl, sym, ap, subst, ◌∙◌, arith, inl, inr}
use Rattle.std.specs.Prelude.{replicate, slice_set, OnOk, OnErr}
use Rattle.std.specs.List.{range_with_len}
use Rattle.std.specs.Vec.{with_item}
use Rattle.std.proofs.lemmas.Bool.{cases_Bool}
use Rattle.std.proofs.lemmas.List.{length-replicate, length-set, set-set}
use Rattle.bs_counter.specs.Keys.{TallyId}
use Rattle.bs_fiber.specs.declared.job.JobKind.{JobKind}
use Rattle.bs_fiber.specs.declared.job.JobKind.TheVariants as kind
use Rattle.bs_fiber.specs.declared.job.JobName.{JobName}
use Rattle.bs_fiber.specs.Work.{parts_of, snakes_in}
use Rattle.bs_game.specs.Game.{last_board}
use Rattle.bs_heap.specs.HeldBlocks.{next_number}
use Rattle.bs_heap.specs.Packing.{Packing}
use Rattle.bs_pool.specs.Ledger.{Ledger}
use Rattle.bs_sched.specs.declared.event.Event.{Event}
use Rattle.bs_sched.specs.declared.event.Event.TheVariants as event
use Rattle.bs_sched.specs.declared.games.Games.TheInside.{Inside}
use Rattle.bs_sched.specs.declared.stage.Stage.TheVariants as stage
use Rattle.bs_sched.specs.PartState as part
use Rattle.bs_sched.specs.Answering.{AreNextParts, answer_events, begun}
use Rattle.bs_sched.specs.Frames.{FramesView}
use Rattle.bs_sched.specs.Game.{GameView}
use Rattle.bs_sched.specs.Games.{GamesView, after}
use Rattle.bs_sched.specs.Lane.{Lane, forked, goes_on, with_taken}
use Rattle.bs_sched.specs.Storage.{frame_tag, record_tag}
use Rattle.bs_sched.specs.inner.Answering.{game_here, games_after, number_behind, pool_here}
use Rattle.bs_sched.specs.inner.Frames.{forked_frames, idle_frames, pool_taken}
use Rattle.bs_sched.specs.inner.Game.{completed_game, pool_completed, taken_game}
use Rattle.bs_sched.specs.inner.GamesLayout.{game_at, games_in, lanes_in, storage_in, tallies_in}
use Rattle.bs_sched.proofs.ChangedGames.{IsSameStay, completed_stay, completed_view, game_set, same_view, taken_view}
use Rattle.bs_sched.proofs.Tallies.{same_tallies}

-- a job is taken, or completed
pub data Step : Type 0 where
  take : JobKind → ℕ → Step
  put : JobKind → ℕ → Step

abbrev pub event_of : ℕ → ℕ → Step → Event
event_of worker game (take k p) = event.Take worker (record { game = game; kind = k; part = p })
event_of worker game (put k p) = event.Put worker (record { game = game; kind = k; part = p })

abbrev pub events_of : ℕ → ℕ → List Step → List Event
events_of worker game [] = []
events_of worker game (step ∷ steps) = event_of worker game step ∷ events_of worker game steps

-- a stay, and the pool of its blocks
pub record Standing : Type 0 where
  pub view : GameView
  pub pool : Ledger

abbrev pub standing_after : ℕ → ℕ → ℕ → Standing → Step → Standing
standing_after cap worker game s (take k p) =
    record {
      view = taken_game worker (record { game = game; kind = k; part = p }) (next_number s.pool) s.view.frames.tally s.view.frames.keys s.view;
      pool = pool_taken k s.view.frames.tag (next_number s.pool) s.pool;
    }
standing_after cap worker game s (put k p) =
    record { view = completed_game cap k p (next_number s.pool) s.view; pool = pool_completed cap k s.view s.pool }

abbrev pub standing_run : ℕ → ℕ → ℕ → Standing → List Step → Standing
standing_run cap worker game s [] = s
standing_run cap worker game s (step ∷ steps) = standing_run cap worker game (standing_after cap worker game s step) steps

-- a Begin is completed while the stay has no frame block
abbrev pub AreUnframed : ℕ → ℕ → ℕ → Standing → List Step → Type 0
AreUnframed cap worker game s [] = Unit {0}
AreUnframed cap worker game s (take k p ∷ steps) = AreUnframed cap worker game (standing_after cap worker game s (take k p)) steps
AreUnframed cap worker game s (put k p ∷ steps) =
    (k ≡ kind.Begin → s.view.frames.numbers ≡ []) × AreUnframed cap worker game (standing_after cap worker game s (put k p)) steps

-- the stay of that row, and the tags that it has there
pub record IsStanding {at : ℕ} (c : Inside at) (game : ℕ) (v : GameView) : Type 0 where
  pub within : game < length c.list.items
  pub there : v ≡ game_at c.list.items game
  pub tag : v.tag ≡ record_tag game
  pub frames : v.frames.tag ≡ frame_tag game

taken_tag : (k : JobKind) (worker game p number : ℕ) (v : GameView)
    → (taken_game worker (record { game = game; kind = k; part = p }) number v.frames.tally v.frames.keys v).frames.tag ≡ v.frames.tag
taken_tag kind.Begin worker game p number v = refl
taken_tag kind.Part worker game p number v = refl
taken_tag kind.Join worker game p number v = refl

taken_tally : (k : JobKind) (worker game p number : ℕ) (v : GameView)
    → (taken_game worker (record { game = game; kind = k; part = p }) number v.frames.tally v.frames.keys v).frames.tally ≡ v.frames.tally
taken_tally kind.Begin worker game p number v = refl
taken_tally kind.Part worker game p number v = refl
taken_tally kind.Join worker game p number v = refl

-- the games with that stay in its row
abbrev with_view : {at : ℕ} → Inside at → ℕ → Standing → Inside at
with_view c game s = record c { list = with_item c.list game s.view; pool = s.pool }

abbrev seen_list : {at : ℕ} → Inside at → Ledger → List GameView → GamesView
seen_list c pool games =
    record { rows = c.rows; workers = c.workers; failed = c.failed; lanes = lanes_in games; storage = storage_in games pool; tallies = tallies_in games }

abbrev pub seen_with : {at : ℕ} → Inside at → ℕ → Standing → GamesView
seen_with c game s = seen_list c s.pool (slice_set c.list.items game s.view)

still_standing : {at : ℕ} (c : Inside at) (game : ℕ) (s : Standing) → game < length c.list.items → s.view.tag ≡ record_tag game → s.view.frames.tag ≡ frame_tag game
    → IsStanding (with_view c game s) game s.view
still_standing c game s within tag frames =
    record {
      within = let long = length-set c.list.items game s.view in omega (arith, long, within);
      there = sym (game_set c.list.items game s.view within);
      tag = tag;
      frames = frames;
    }

-- the second change of the row is the one that is seen
seen_last : {at : ℕ} (c : Inside at) (game : ℕ) (first second : Standing) → seen_with (with_view c game first) game second ≡ seen_with c game second
seen_last c game first second = ap (λ (games : List GameView). seen_list c second.pool games) (set-set c.list.items game first.view second.view)

one_step : (cap worker game : ℕ) {at : ℕ} (c : Inside at) (v : GameView) (step : Step) → IsStanding c game v
    → AreUnframed cap worker game (record { view = v; pool = c.pool }) (step ∷ [])
    → seen_with c game (standing_after cap worker game (record { view = v; pool = c.pool }) step) ≡ after cap (games_in c) (event_of worker game step)
one_step cap worker game c v (take k p) at none =
    let job : JobName = record { game = game; kind = k; part = p } in
    let number = next_number c.pool in
    let w = taken_game worker job number v.frames.tally v.frames.keys v in
    let tallies = same_tallies game c.list.items v w at.there (taken_tally k worker game p number v) in
    taken_view cap c worker job v.frames.tally v.frames.keys v w (pool_taken k v.frames.tag number c.pool) at.there at.frames refl refl
    ∙ ap (λ (ts : List (Option TallyId)). record (after cap (games_in c) (event.Take worker job)) { tallies = ts }) tallies
one_step cap worker game c v (put k p) at none =
    completed_view cap c (record { game = game; kind = k; part = p }) v (completed_game cap k p (next_number c.pool) v) (pool_completed cap k v c.pool)
    at.there at.tag none.0 refl refl

same_tags : (cap worker game : ℕ) (s : Standing) (step : Step) → ((standing_after cap worker game s step).view.tag ≡ s.view.tag) × ((standing_after cap worker game s step).view.frames.tag ≡ s.view.frames.tag)
same_tags cap worker game s (take k p) = (refl, taken_tag k worker game p (next_number s.pool) s.view)
same_tags cap worker game s (put k p) =
    let same = completed_stay k cap p (next_number s.pool) s.view (completed_game cap k p (next_number s.pool) s.view) refl in (same.tag, same.frame_tag_is)

first_unframed : (cap worker game : ℕ) (s : Standing) (step : Step) (steps : List Step) → AreUnframed cap worker game s (step ∷ steps)
    → AreUnframed cap worker game s (step ∷ []) × AreUnframed cap worker game (standing_after cap worker game s step) steps
first_unframed cap worker game s (take k p) steps none = (tt, none)
first_unframed cap worker game s (put k p) steps none = ((none.0, tt), none.1)

-- the events of the games are those steps of the stay
pub seen_run : (cap worker game : ℕ) {at : ℕ} (c : Inside at) (v : GameView) (steps : List Step) → IsStanding c game v
    → AreUnframed cap worker game (record { view = v; pool = c.pool }) steps
    → seen_with c game (standing_run cap worker game (record { view = v; pool = c.pool }) steps) ≡ games_after cap (games_in c) (events_of worker game steps)
seen_run cap worker game c v [] at none = same_view c game v v c.pool at.there refl refl
seen_run cap worker game c v (step ∷ steps) at none =
    let s : Standing = record { view = v; pool = c.pool } in
    let s' = standing_after cap worker game s step in
    let tags = same_tags cap worker game s step in
    let both = first_unframed cap worker game s step steps none in
    let c' = with_view c game s' in
    let still = still_standing c game s' at.within (tags.0 ∙ at.tag) (tags.1 ∙ at.frames) in
    let rest = seen_run cap worker game c' s'.view steps still both.1 in
    sym (seen_last c game s' (standing_run cap worker game s' steps)) ∙ rest
    ∙ ap (λ (games : GamesView). games_after cap games (events_of worker game steps)) (one_step cap worker game c v step at both.0)

-- ---- the jobs of a command

-- the parts and the Join of a move
abbrev pub moves : ℕ → List Step
moves n = map (λ p. take kind.Part p) (range_with_len 0 n) ++ (map (λ p. put kind.Part p) (range_with_len 0 n) ++ take kind.Join 0 ∷ put kind.Join 0 ∷ [])

abbrev pub jobs : ℕ → List Step
jobs zero = take kind.Begin 0 ∷ put kind.Begin 0 ∷ []
jobs (suc n) = take kind.Begin 0 ∷ put kind.Begin 0 ∷ moves (suc n)

pub jobs_are : (worker game n : ℕ) → n ≤ 4 → events_of worker game (jobs n) ≡ answer_events worker game n
jobs_are worker game zero few = refl
jobs_are worker game (suc zero) few = refl
jobs_are worker game (suc (suc zero)) few = refl
jobs_are worker game (suc (suc (suc zero))) few = refl
jobs_are worker game (suc (suc (suc (suc zero)))) few = refl
jobs_are worker game (suc (suc (suc (suc (suc n))))) few = absurd (omega arith)

-- the lane of a move of `n` parts once it goes on
abbrev pub moving : ℕ → ℕ → Lane → Lane
moving worker n x = record (with_taken worker kind.Begin 0 x) { stage = stage.Parts; parts = replicate n part.Ready }

pub forked_is : (worker n : ℕ) (x : Lane) → AreNextParts x n → goes_on (begun x) ≡ true → forked (with_taken worker kind.Begin 0 x) ≡ moving worker n x
forked_is worker n x are goes =
    let y = with_taken worker kind.Begin 0 x in
    let many : parts_of (length (snakes_in (last_board x.game))) ≡ n = sym (are.is ∙ rw goes refl) in
    ap (λ (k : ℕ). record y { stage = stage.Parts; parts = replicate k part.Ready }) many

abbrev standing_at : ℕ → Lane → Packing → FramesView → Ledger → Standing
standing_at tag x packing frames pool = record { view = record { tag = tag; lane = x; packing = packing; frames = frames }; pool = pool }

module _ (cap worker game tag frames : ℕ) (tally : Option TallyId) (x : Lane) (packing : Packing) (pool : Ledger) where
  abbrev start : Standing
  start = standing_at tag x packing (idle_frames frames tally) pool

  abbrev forked_at : ℕ → Standing
  forked_at n = standing_at tag (moving worker n x) packing (forked_frames frames tally n) pool

  abbrev ended : ℕ → Standing
  ended n = record { view = game_here cap (number_behind frames n pool) start.view; pool = pool_here cap n start.view pool }

  begins : (n : ℕ) → AreNextParts x n → goes_on (begun x) ≡ true
      → standing_run cap worker game start (take kind.Begin 0 ∷ put kind.Begin 0 ∷ []) ≡ forked_at n
  begins n are goes =
      let lane = forked_is worker n x are goes in
      let y = with_taken worker kind.Begin 0 x in
      let long : length (replicate (parts_of (length (snakes_in (last_board x.game)))) part.Ready) ≡ n
      = length-replicate (parts_of (length (snakes_in (last_board x.game)))) part.Ready ∙ sym (are.is ∙ rw goes refl) in
      let went : standing_run cap worker game start (take kind.Begin 0 ∷ put kind.Begin 0 ∷ [])
      ≡ standing_at tag (forked y) packing (forked_frames frames tally (length (forked y).parts)) pool = rw goes refl in
      went
      ∙ ap (λ (z : Lane). standing_at tag z packing (forked_frames frames tally (length (forked y).parts)) pool) lane
      ∙ ap (λ (k : ℕ). standing_at tag (moving worker n x) packing (forked_frames frames tally k) pool) long

  answers : AreNextParts x 0 → standing_run cap worker game start (jobs 0) ≡ ended 0
  answers are =
      elim (cases_Bool (goes_on (begun x))) [
        | inl goes ↦ absurd (let some = are.some goes in omega (arith, some))
        | inr stays ↦ rw stays refl
      ]

  goes_with : (n : ℕ) → AreNextParts x n → 0 < n → goes_on (begun x) ≡ true
  goes_with n are some =
      elim (cases_Bool (goes_on (begun x))) [
        | inl goes ↦ goes
        | inr stays ↦ let none : n ≡ 0 = are.is ∙ rw stays refl in absurd (omega (arith, none, some))
      ]

  begun_then : (n : ℕ) → AreNextParts x n → 0 < n
      → standing_run cap worker game start (take kind.Begin 0 ∷ put kind.Begin 0 ∷ moves n) ≡ standing_run cap worker game (forked_at n) (moves n)
  begun_then n are some = ap (λ (s : Standing). standing_run cap worker game s (moves n)) (begins n are (goes_with n are some))

  -- the jobs lead to the stay whose command is answered
  pub here_run : (n : ℕ) → AreNextParts x n → standing_run cap worker game start (jobs n) ≡ ended n
  here_run zero are = answers are
  here_run (suc zero) are = begun_then 1 are (omega arith)
  here_run (suc (suc zero)) are = begun_then 2 are (omega arith)
  here_run (suc (suc (suc zero))) are = begun_then 3 are (omega arith)
  here_run (suc (suc (suc (suc zero)))) are = begun_then 4 are (omega arith)
  here_run (suc (suc (suc (suc (suc n))))) are = absurd (let few = are.few in omega (arith, few))

never_begin : {X : Type 0} → kind.Part ≡ kind.Begin → X
never_begin same = absurd cc

never_begin_join : {X : Type 0} → kind.Join ≡ kind.Begin → X
never_begin_join same = absurd cc

unframed_moves : (cap worker game n : ℕ) (s : Standing) → n ≤ 4 → AreUnframed cap worker game s (moves n)
unframed_moves cap worker game zero s few = (never_begin_join, tt)
unframed_moves cap worker game (suc zero) s few = (never_begin, (never_begin_join, tt))
unframed_moves cap worker game (suc (suc zero)) s few = (never_begin, (never_begin, (never_begin_join, tt)))
unframed_moves cap worker game (suc (suc (suc zero))) s few = (never_begin, (never_begin, (never_begin, (never_begin_join, tt))))
unframed_moves cap worker game (suc (suc (suc (suc zero)))) s few = (never_begin, (never_begin, (never_begin, (never_begin, (never_begin_join, tt)))))
unframed_moves cap worker game (suc (suc (suc (suc (suc n))))) s few = absurd (omega arith)

pub unframed_jobs : (cap worker game n : ℕ) (s : Standing) → n ≤ 4 → s.view.frames.numbers ≡ [] → AreUnframed cap worker game s (jobs n)
unframed_jobs cap worker game zero s few none = ((λ _. none), tt)
unframed_jobs cap worker game (suc n) s few none = ((λ _. none), unframed_moves cap worker game (suc n) (standing_after cap worker game (standing_after cap worker game s (take kind.Begin 0)) (put kind.Begin 0)) few)

-- the same in the games
pub here_view : (cap worker game n : ℕ) {at : ℕ} (c : Inside at) (v w : GameView) (pool : Ledger) → IsStanding c game v
    → v.frames ≡ idle_frames v.frames.tag v.frames.tally → AreNextParts v.lane n → w ≡ game_here cap (number_behind v.frames.tag n c.pool) v
    → pool ≡ pool_here cap n v c.pool
    → games_in (record c { list = with_item c.list game w; pool = pool }) ≡ games_after cap (games_in c) (answer_events worker game n)
here_view cap worker game n c v w pool at idle are game_is pool_is =
    let tag = v.frames.tag in
    let run : standing_run cap worker game (record { view = v; pool = c.pool }) (jobs n)
    ≡ record { view = game_here cap (number_behind tag n c.pool) v; pool = pool_here cap n v c.pool }
    = subst
    (λ (f : FramesView).
    standing_run cap worker game (record { view = record v { frames = f }; pool = c.pool }) (jobs n)
    ≡ record { view = game_here cap (number_behind tag n c.pool) (record v { frames = f }); pool = pool_here cap n (record v { frames = f }) c.pool })
    (sym idle) (here_run cap worker game v.tag tag v.frames.tally v.lane v.packing c.pool n are) in
    let none = ap (λ (f : FramesView). f.numbers) idle in
    let seen = seen_run cap worker game c v (jobs n) at (unframed_jobs cap worker game n (record { view = v; pool = c.pool }) are.few none) in
    ap (λ (s : Standing). seen_with c game s) ((λ i. record { view = game_is i; pool = pool_is i }) ∙ sym run) ∙ seen
    ∙ ap (λ (events : List Event). games_after cap (games_in c) events) (jobs_are worker game n are.few)

-- the stay keeps its tags and its row
pub here_same : {A B : Type 0} (result : Result A B) (v w : GameView) (cap number : ℕ) → OnOk result (w ≡ game_here cap number v) → OnErr result (w ≡ v) → IsSameStay v w
here_same (Ok value) v w cap number is same = rw is (record { tag = refl; frame_tag_is = refl; row = refl; flag = refl })
here_same (Err error) v w cap number is same = rw same (record { tag = refl; frame_tag_is = refl; row = refl; flag = refl })
