-- The effect of an event on the records of its game, determined by the lane.
use Rattle.std.proofs.Common.{◌≡◌, ℕ, ◌≤◌, Bool, true, false, if◌then◌else◌, List, [], length, map, refl, sym, ap, arith, ◌∙◌}
use Rattle.std.specs.Prelude.{nat_eq, slice_set}
use Rattle.std.proofs.lemmas.List.{set-get_or}
use Rattle.bs_board.proofs.Chains.{and_both}
use Rattle.bs_board.specs.records.Record.{record_of}
use Rattle.bs_game.specs.declared.reply.Effect.{Effect}
use Rattle.bs_game.specs.declared.reply.Effect.TheVariants as effect
use Rattle.bs_game.specs.Game.{IsGame, Game, game_charge}
use Rattle.bs_game.specs.Law.{IsFitEffect, effected}
use Rattle.bs_game.proofs.Recorded.{same_charge}
use Rattle.bs_fiber.specs.declared.job.JobKind.{JobKind}
use Rattle.bs_fiber.specs.declared.job.JobKind.TheVariants as kind
use Rattle.bs_heap.specs.Charge.{charge_of}
use Rattle.bs_heap.specs.Packing.{no_packing}
use Rattle.bs_sched.specs.declared.event.Event.{Event}
use Rattle.bs_sched.specs.declared.event.Event.TheVariants as event
use Rattle.bs_sched.specs.declared.stage.Stage.{Stage}
use Rattle.bs_sched.specs.declared.stage.Stage.TheVariants as stage
use Rattle.bs_sched.specs.inner.FrameEffects.{Keeps, Forks, Draws, brought_effect, frame_effect, framed_by, taken_effect}
use Rattle.bs_sched.specs.Games.{answer_effect, put_effect, storage_after, storage_answered, storage_put, storage_taken, unreserved_storage, with_stay}
use Rattle.bs_sched.specs.Courses.{IsRight}
use Rattle.bs_sched.specs.Isolation.{HandsFit, IsWell}
use Rattle.bs_sched.specs.Lane.{Lane, records_of, goes_on, is_idle, has_begin, has_join, is_out, forked, answered, with_put, with_taken}
use Rattle.bs_sched.specs.Machine.{is_admit, is_allowed, lane_after, lane_of, game_of, row_in}
use Rattle.bs_sched.specs.Memory.{effect_at}
use Rattle.bs_sched.specs.Storage.{Storage, frames_of, stored, with_parts}
use Rattle.bs_sched.proofs.Answered.{told}
use Rattle.bs_sched.proofs.HandedCommands.{row_kept}
use Rattle.bs_sched.proofs.RightRuns.{right_after, open_when, open_taken, open_put}

-- the boards after the event are those whose records the effect leaves, and an added record fits
-- into the quota
pub record HasEffect (x y : Lane) (effect : Effect) : Type 0 where
  pub records : records_of y.game ≡ effected effect (records_of x.game)
  pub fits : IsFitEffect x.row.quota (charge_of (records_of x.game)) effect

pub charge_of_boards : (game : Game) → IsGame game → charge_of (records_of game) ≡ game_charge game
charge_of_boards game right = same_charge game (map record_of game) (record { right = right; is = refl })

told_answered : (x : Lane) → IsRight x → is_idle x.stage ≡ false → HasEffect x (answered x) (answer_effect x)
told_answered x right busy =
    let is = told x right busy in
    record {
      records = sym is.records;
      fits = rw (charge_of_boards x.game right.right) is.fits;
    }

told_begun : (x : Lane) (on : Bool) → IsRight x → is_idle x.stage ≡ false
    → HasEffect x (if on then forked x else answered x) (if on then effect.Keep else answer_effect x)
told_begun x true right busy = record { records = refl; fits = tt }
told_begun x false right busy = told_answered x right busy

busy_of_begin : (worker : ℕ) (s : Stage) → has_begin worker s ≡ true → is_idle s ≡ false
busy_of_begin worker stage.Idle has = let wrong : false ≡ true = has in absurd cc
busy_of_begin worker (stage.Begin other) has = refl
busy_of_begin worker stage.Parts has = refl
busy_of_begin worker (stage.Join taker) has = refl

busy_of_join : (worker : ℕ) (s : Stage) → has_join worker s ≡ true → is_idle s ≡ false
busy_of_join worker stage.Idle has = let wrong : false ≡ true = has in absurd cc
busy_of_join worker (stage.Begin other) has = refl
busy_of_join worker stage.Parts has = refl
busy_of_join worker (stage.Join taker) has = refl

told_put : (x : Lane) (worker : ℕ) (k : JobKind) (p : ℕ) → IsRight x → is_out worker x k p ≡ true → HasEffect x (with_put k p x) (put_effect k x)
told_put x worker kind.Begin p right out =
    told_begun x (goes_on x) right (busy_of_begin worker x.stage (and_both (nat_eq p 0) (has_begin worker x.stage) out).1)
told_put x worker kind.Part p right out = record { records = refl; fits = tt }
told_put x worker kind.Join p right out = told_answered x right (busy_of_join worker x.stage (and_both (nat_eq p 0) (has_join worker x.stage) out).1)

told_taken : (x : Lane) (worker : ℕ) (k : JobKind) (p : ℕ) → HasEffect x (with_taken worker k p x) effect.Keep
told_taken x worker kind.Begin p = record { records = refl; fits = tt }
told_taken x worker kind.Part p = record { records = refl; fits = tt }
told_taken x worker kind.Join p = record { records = refl; fits = tt }

-- the same for any event, also one that closes the stay, which then keeps no record
pub record HasAnyEffect (x y : Lane) (done : Effect) : Type 0 where
  pub records : y.is_open ≡ true → records_of y.game ≡ effected done (records_of x.game)
  pub dropped : y.is_open ≡ false → done ≡ effect.Drop
  pub fits : IsFitEffect x.row.quota (charge_of (records_of x.game)) done
  pub within : charge_of (effected done (records_of x.game)) ≤ x.row.quota

told_open : (x y : Lane) (effect : Effect) → x.is_open ≡ true → y.is_open ≡ x.is_open → y.row ≡ x.row → IsRight y → HasEffect x y effect → HasAnyEffect x y effect
told_open x y effect stands same row right is =
    record {
      records = λ _. is.records;
      dropped = λ shut. let wrong : true ≡ false = sym stands ∙ sym same ∙ shut in cc;
      fits = is.fits;
      within = let all : charge_of (records_of y.game) ≤ x.row.quota = rw (charge_of_boards y.game right.right, ← row) right.within in rw (← is.records) all;
    }

pub told_at : (x : Lane) (e : Event) → IsWell x → HandsFit e → is_allowed x e ≡ true → HasAnyEffect x (lane_after x e) (effect_at e x)
told_at x (event.Hand game command) well fits allowed =
    let e = event.Hand game command in
    told_open x (lane_after x e) effect.Keep allowed refl refl (right_after x e well.right fits allowed) (record { records = refl; fits = tt })
told_at x (event.Take worker job) well fits allowed =
    let e = event.Take worker job in
    told_open x (lane_after x e) effect.Keep (open_when x e well allowed) (open_taken x worker job.kind job.part) (row_kept x e)
    (right_after x e well.right fits allowed) (told_taken x worker job.kind job.part)
told_at x (event.Put worker job) well fits allowed =
    let e = event.Put worker job in
    told_open x (lane_after x e) (put_effect job.kind x) (open_when x e well allowed) (open_put x job.kind job.part) (row_kept x e)
    (right_after x e well.right fits allowed) (told_put x worker job.kind job.part well.right allowed)
told_at x (event.Admit row) well fits allowed = let wrong : false ≡ true = allowed in absurd cc
told_at x (event.Leave game) well fits allowed =
    record { records = λ stands. let wrong : false ≡ true = stands in absurd cc; dropped = λ _. refl; fits = tt; within = omega arith }

-- an added record fits into the quota, whatever is queued
pub fits_now : (x : Lane) (e : Event) → IsRight x → is_allowed x e ≡ true → IsFitEffect x.row.quota (charge_of (records_of x.game)) (effect_at e x)
fits_now x (event.Hand game command) right allowed = tt
fits_now x (event.Take worker job) right allowed = tt
fits_now x (event.Put worker job) right allowed = (told_put x worker job.kind job.part right allowed).fits
fits_now x (event.Admit row) right allowed = tt
fits_now x (event.Leave game) right allowed = tt

-- the effect of an event on the records leaves the frames, and its effect on the frames comes after
-- that

kept_frames : (game : ℕ) (storage : Storage) → slice_set storage.frames game (frames_of storage game) ≡ storage.frames
kept_frames game storage = set-get_or storage.frames game []

same_storage : (cap game : ℕ) (storage : Storage) → stored cap game effect.Keep storage ≡ storage
same_storage cap game storage = ap (λ packings. record storage { packings = packings }) (set-get_or storage.packings game no_packing)

-- the frames are unchanged
framed_kept : (game : ℕ) (storage : Storage) → framed_by Keeps game storage ≡ storage
framed_kept game storage = ap (λ frames. record storage { frames = frames }) (kept_frames game storage)

-- an event without effect on either
same_after : (cap game : ℕ) (storage : Storage) → storage ≡ framed_by Keeps game (stored cap game effect.Keep storage)
same_after cap game storage = sym (ap (λ (s : Storage). framed_by Keeps game s) (same_storage cap game storage) ∙ framed_kept game storage)

storage_of_taken : (cap game p : ℕ) (k : JobKind) (storage : Storage) → storage_taken k game p storage ≡ framed_by (taken_effect k p) game (stored cap game effect.Keep storage)
storage_of_taken cap game p kind.Begin storage = same_after cap game storage
storage_of_taken cap game p kind.Part storage = sym (ap (λ (s : Storage). framed_by (Draws p) game s) (same_storage cap game storage))
storage_of_taken cap game p kind.Join storage = same_after cap game storage

storage_of_begun : (cap game : ℕ) (x : Lane) (on : Bool) (storage : Storage)
    → (if on then with_parts game (length (forked x).parts) storage else storage_answered kind.Begin cap game x storage)
    ≡ framed_by (if on then Forks (length (forked x).parts) else Keeps) game (stored cap game (if on then effect.Keep else answer_effect x) storage)
storage_of_begun cap game x true storage =
    sym (ap (λ (s : Storage). framed_by (Forks (length (forked x).parts)) game s) (same_storage cap game storage))
storage_of_begun cap game x false storage = sym (framed_kept game (stored cap game (answer_effect x) storage))

storage_of_put : (cap game : ℕ) (k : JobKind) (x : Lane) (storage : Storage)
    → storage_put k cap game x storage ≡ framed_by (brought_effect k x) game (stored cap game (put_effect k x) storage)
storage_of_put cap game kind.Begin x storage = storage_of_begun cap game x (goes_on x) storage
storage_of_put cap game kind.Part x storage = same_after cap game storage
storage_of_put cap game kind.Join x storage = refl

-- a stay that leaves also gives back its reservations
abbrev pub released : Event → Storage → Storage
released (event.Hand game command) storage = storage
released (event.Take worker job) storage = storage
released (event.Put worker job) storage = storage
released (event.Admit row) storage = storage
released (event.Leave game) storage = unreserved_storage game storage

-- of an event that names a stay
pub storage_is : (cap : ℕ) (e : Event) (lanes : List Lane) (storage : Storage) → is_admit e ≡ false
    → storage_after cap e lanes storage
    ≡ released e (framed_by (frame_effect e (lane_of lanes (game_of e))) (game_of e) (stored cap (game_of e) (effect_at e (lane_of lanes (game_of e))) storage))
storage_is cap (event.Hand game command) lanes storage there = same_after cap game storage
storage_is cap (event.Take worker job) lanes storage there = storage_of_taken cap job.game job.part job.kind storage
storage_is cap (event.Put worker job) lanes storage there = storage_of_put cap job.game job.kind (lane_of lanes job.game) storage
storage_is cap (event.Admit row) lanes storage there = let wrong : true ≡ false = there in absurd cc
storage_is cap (event.Leave game) lanes storage there =
    ap (λ (s : Storage). unreserved_storage game s) (sym (framed_kept game (stored cap game effect.Drop storage)))

-- of one that opens a stay
pub storage_comes : (cap : ℕ) (e : Event) (lanes : List Lane) (storage : Storage) → is_admit e ≡ true
    → storage_after cap e lanes storage ≡ with_stay cap (length lanes) (row_in e) storage
storage_comes cap (event.Hand game command) lanes storage comes = let wrong : false ≡ true = comes in absurd cc
storage_comes cap (event.Take worker job) lanes storage comes = let wrong : false ≡ true = comes in absurd cc
storage_comes cap (event.Put worker job) lanes storage comes = let wrong : false ≡ true = comes in absurd cc
storage_comes cap (event.Admit row) lanes storage comes = refl
storage_comes cap (event.Leave game) lanes storage comes = let wrong : false ≡ true = comes in absurd cc
