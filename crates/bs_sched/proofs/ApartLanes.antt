-- The lanes of games that ran apart: what the one lane of a core does, it does in the core of all.
use Rattle.std.proofs.Common.{◌≡◌, ℕ, zero, suc, ◌+◌, ◌<◌, Bool, true, false, ◌&&◌, ◌||◌, if◌then◌else◌, List, [], ◌∷◌, ◌++◌, length, map, refl, sym, ap, subst, ◌∙◌, arith}
use Rattle.std.specs.List.{list_all}
use Rattle.std.specs.Prelude.{All, nat_lt, slice_set}
use Rattle.std.proofs.lemmas.Bool.{cond-true, lt-ltb, and_from, eq-eqb, ne_eqb}
use Rattle.std.proofs.lemmas.List.{append_assoc, append-nil, get_or_at, set_at, length-append, length-set}
use Rattle.std.proofs.lemmas.List.Elements.{All-head, All-tail}
use Rattle.std.proofs.lemmas.List.Folds.{list_any-append}
use Rattle.bs_board.proofs.Chains.{and_both}
use Rattle.bs_board.specs.declared.commands.command.Command.{Command}
use Rattle.bs_fiber.specs.declared.job.JobName.{JobName}
use Rattle.bs_sched.specs.declared.event.Event.{Event}
use Rattle.bs_sched.specs.declared.event.Event.TheVariants as event
use Rattle.bs_sched.specs.Assembly.{Hand, hand_event, commands_for, job_at, jobs_at}
use Rattle.bs_sched.specs.Isolation.{are_enabled}
use Rattle.bs_sched.specs.Lane.{Lane, no_lane, occupies, with_waiting, with_taken, with_put}
use Rattle.bs_sched.specs.Machine.{Setting, lane_of, is_busy, is_enabled, lane_after, lane_effect, step, run_of}

-- no worker has a Begin or a Join
abbrev pub AreFree : List Lane → Type 0
AreFree lanes = (worker : ℕ) → is_busy worker lanes ≡ false

-- one lane among others

pub alone_busy : (worker : ℕ) (done rest : List Lane) (x : Lane) → AreFree done → AreFree rest → is_busy worker (done ++ x ∷ rest) ≡ is_busy worker (x ∷ [])
alone_busy worker done rest x free after =
    list_any-append (occupies worker) done (x ∷ rest)
    ∙ ap (λ (b : Bool). b || (occupies worker x || is_busy worker rest)) (free worker)
    ∙ ap (λ (b : Bool). occupies worker x || b) (after worker)

-- the lane of a core of its own after an event
abbrev pub lane_stepped : Setting → Lane → Event → Lane
lane_stepped setting x e = if is_enabled setting (x ∷ []) e then lane_after x e else x

module _ (mine all : Setting) (same : mine.workers ≡ all.workers) (done rest : List Lane) (free : AreFree done) (after : AreFree rest) where
  there : (x : Lane) → nat_lt (length done) (length (done ++ x ∷ rest)) ≡ true
  there x = let e = length-append done (x ∷ rest) in lt-ltb _ _ (omega (arith, e))

  pub at : (x : Lane) → lane_of (done ++ x ∷ rest) (length done) ≡ x
  at x = get_or_at done x rest no_lane (length done) refl

  take_same : (x : Lane) (worker : ℕ) (job : JobName)
      → is_enabled all (done ++ x ∷ rest) (event.Take worker (job_at (length done) job)) ≡ is_enabled mine (x ∷ []) (event.Take worker (job_at 0 job))
  take_same x worker job = rw (there x, at x, alone_busy worker done rest x free after, same) refl

  put_same : (x : Lane) (worker : ℕ) (job : JobName)
      → is_enabled all (done ++ x ∷ rest) (event.Put worker (job_at (length done) job)) ≡ is_enabled mine (x ∷ []) (event.Put worker (job_at 0 job))
  put_same x worker job = rw (there x, at x) refl

  set_lane : (x y : Lane) → slice_set (done ++ x ∷ rest) (length done) y ≡ done ++ y ∷ rest
  set_lane x y = set_at done x rest y (length done) refl

  pub take_step : (x : Lane) (worker : ℕ) (job : JobName)
      → step all (done ++ x ∷ rest) (event.Take worker (job_at (length done) job)) ≡ done ++ lane_stepped mine x (event.Take worker (job_at 0 job)) ∷ rest
  take_step x worker job =
      ap (λ (b : Bool). if b then lane_effect (done ++ x ∷ rest) (event.Take worker (job_at (length done) job)) else done ++ x ∷ rest) (take_same x worker job)
      ∙ choose (is_enabled mine (x ∷ []) (event.Take worker (job_at 0 job)))
    where
      choose : (b : Bool) → (if b then lane_effect (done ++ x ∷ rest) (event.Take worker (job_at (length done) job)) else done ++ x ∷ rest)
          ≡ done ++ (if b then with_taken worker job.kind job.part x else x) ∷ rest
      choose true = set_lane x _ ∙ ap (λ (y : Lane). done ++ with_taken worker job.kind job.part y ∷ rest) (at x)
      choose false = refl

  pub put_step : (x : Lane) (worker : ℕ) (job : JobName)
      → step all (done ++ x ∷ rest) (event.Put worker (job_at (length done) job)) ≡ done ++ lane_stepped mine x (event.Put worker (job_at 0 job)) ∷ rest
  put_step x worker job =
      ap (λ (b : Bool). if b then lane_effect (done ++ x ∷ rest) (event.Put worker (job_at (length done) job)) else done ++ x ∷ rest) (put_same x worker job)
      ∙ choose (is_enabled mine (x ∷ []) (event.Put worker (job_at 0 job)))
    where
      choose : (b : Bool) → (if b then lane_effect (done ++ x ∷ rest) (event.Put worker (job_at (length done) job)) else done ++ x ∷ rest)
          ≡ done ++ (if b then with_put job.kind job.part x else x) ∷ rest
      choose true = set_lane x _ ∙ ap (λ (y : Lane). done ++ with_put job.kind job.part y ∷ rest) (at x)
      choose false = refl

  pub one_lane : (x y : Lane) (b : Bool) → (if b then y ∷ [] else x ∷ []) ≡ (if b then y else x) ∷ []
  one_lane x y true = refl
  one_lane x y false = refl

  -- the jobs are enabled in both cores or in none, and lead to the same lane
  pub record GoesBeside (x : Lane) (own whole : List Event) : Type 0 where
    pub enabled : are_enabled all (done ++ x ∷ rest) whole ≡ are_enabled mine (x ∷ []) own
    pub lanes : run_of all (done ++ x ∷ rest) whole ≡ done ++ lane_of (run_of mine (x ∷ []) own) 0 ∷ rest

  goes_on_beside : (x y : Lane) (own whole : List Event) (e d : Event) → is_enabled all (done ++ x ∷ rest) d ≡ is_enabled mine (x ∷ []) e
      → step all (done ++ x ∷ rest) d ≡ done ++ y ∷ rest → step mine (x ∷ []) e ≡ y ∷ [] → GoesBeside y own whole → GoesBeside x (e ∷ own) (d ∷ whole)
  goes_on_beside x y own whole e d on all_step my_step later = record {
    enabled =
        ap (λ (b : Bool). b && are_enabled all (step all (done ++ x ∷ rest) d) whole) on
        ∙ ap (λ (ls : List Lane). is_enabled mine (x ∷ []) e && are_enabled all ls whole) all_step
        ∙ ap (λ (b : Bool). is_enabled mine (x ∷ []) e && b) later.enabled
        ∙ ap (λ (ls : List Lane). is_enabled mine (x ∷ []) e && are_enabled mine ls own) (sym my_step);
    lanes =
        ap (λ (ls : List Lane). run_of all ls whole) all_step
        ∙ later.lanes
        ∙ ap (λ (ls : List Lane). done ++ lane_of (run_of mine ls own) 0 ∷ rest) (sym my_step);
  }

  pub jobs_beside : (journal : List Event) (x : Lane) → GoesBeside x (jobs_at 0 journal) (jobs_at (length done) journal)
  jobs_beside [] x = record { enabled = refl; lanes = refl }
  jobs_beside (event.Hand game command ∷ journal) x = jobs_beside journal x
  jobs_beside (event.Take worker job ∷ journal) x =
      let e = event.Take worker (job_at 0 job) in
      goes_on_beside x (lane_stepped mine x e) (jobs_at 0 journal) (jobs_at (length done) journal) e (event.Take worker (job_at (length done) job))
      (take_same x worker job) (take_step x worker job) (one_lane x (with_taken worker job.kind job.part x) (is_enabled mine (x ∷ []) e))
      (jobs_beside journal (lane_stepped mine x e))
  jobs_beside (event.Put worker job ∷ journal) x =
      let e = event.Put worker (job_at 0 job) in
      goes_on_beside x (lane_stepped mine x e) (jobs_at 0 journal) (jobs_at (length done) journal) e (event.Put worker (job_at (length done) job))
      (put_same x worker job) (put_step x worker job) (one_lane x (with_put job.kind job.part x) (is_enabled mine (x ∷ []) e))
      (jobs_beside journal (lane_stepped mine x e))
  jobs_beside (event.Admit new ∷ journal) x = jobs_beside journal x
  jobs_beside (event.Leave game ∷ journal) x = jobs_beside journal x

-- All hands first.

-- the lane with commands that wait
abbrev pub queued : List Command → Lane → Lane
queued commands x = record x { waiting = x.waiting ++ commands }

-- the lanes from that row on, each with its commands
abbrev pub handed : List Hand → ℕ → List Lane → List Lane
handed hands row [] = []
handed hands row (x ∷ lanes) = queued (commands_for row hands) x ∷ handed hands (suc row) lanes

pub for_this : (row : ℕ) (hand : Hand) (hands : List Hand) → hand.row ≡ row → commands_for row (hand ∷ hands) ≡ hand.command ∷ commands_for row hands
for_this row hand hands is = rw (eq-eqb hand.row row is) refl

pub for_others : (row : ℕ) (hand : Hand) (hands : List Hand) → (hand.row ≡ row → ⊥) → commands_for row (hand ∷ hands) ≡ commands_for row hands
for_others row hand hands is_not = rw (ne_eqb hand.row row is_not) refl

handed_later : (hand : Hand) (hands : List Hand) (row : ℕ) (lanes : List Lane) → hand.row < row → handed (hand ∷ hands) row lanes ≡ handed hands row lanes
handed_later hand hands row [] less = refl
handed_later hand hands row (x ∷ lanes) less =
    ap (λ cs. queued cs x ∷ handed (hand ∷ hands) (suc row) lanes) (for_others row hand hands (λ is. omega (arith, less, is)))
    ∙ ap (λ ls. queued (commands_for row hands) x ∷ ls) (handed_later hand hands (suc row) lanes (omega (arith, less)))

queued_one : (x : Lane) (command : Command) (commands : List Command) → queued commands (with_waiting command x) ≡ queued (command ∷ commands) x
queued_one x command commands = ap (λ ws. record x { waiting = ws }) (append_assoc x.waiting (command ∷ []) commands)

queued_none : (x : Lane) → queued [] x ≡ x
queued_none x = ap (λ ws. record x { waiting = ws }) (append-nil x.waiting)

handed_set : (hand : Hand) (hands : List Hand) (row k : ℕ) (lanes : List Lane) → hand.row ≡ row + k → k < length lanes
    → handed hands row (slice_set lanes k (with_waiting hand.command (lane_of lanes k))) ≡ handed (hand ∷ hands) row lanes
handed_set hand hands row k [] is within = absurd (omega (arith, within))
handed_set hand hands row zero (x ∷ lanes) is within =
    ap (λ y. y ∷ handed hands (suc row) lanes) (queued_one x hand.command (commands_for row hands))
    ∙ ap (λ cs. queued cs x ∷ handed hands (suc row) lanes) (sym (for_this row hand hands (omega (arith, is))))
    ∙ ap (λ ls. queued (commands_for row (hand ∷ hands)) x ∷ ls) (sym (handed_later hand hands (suc row) lanes (omega (arith, is))))
handed_set hand hands row (suc k) (x ∷ lanes) is within =
    ap (λ cs. queued cs x ∷ handed hands (suc row) (slice_set lanes k (with_waiting hand.command (lane_of lanes k))))
    (sym (for_others row hand hands (λ same. omega (arith, is, same))))
    ∙ ap (λ ls. queued (commands_for row (hand ∷ hands)) x ∷ ls) (handed_set hand hands (suc row) k lanes (omega (arith, is)) (omega (arith, within)))

handed_none : (row : ℕ) (lanes : List Lane) → handed [] row lanes ≡ lanes
handed_none row [] = refl
handed_none row (x ∷ lanes) = ap (λ y. y ∷ handed [] (suc row) lanes) (queued_none x) ∙ ap (λ ls. x ∷ ls) (handed_none (suc row) lanes)

-- no stay has left
abbrev pub are_open : List Lane → Bool
are_open = list_all (λ x. x.is_open)

open_at : (lanes : List Lane) (k : ℕ) → are_open lanes ≡ true → k < length lanes → (lane_of lanes k).is_open ≡ true
open_at [] k opens within = absurd (omega (arith, within))
open_at (x ∷ lanes) zero opens within = (and_both x.is_open (are_open lanes) opens).0
open_at (x ∷ lanes) (suc k) opens within = open_at lanes k (and_both x.is_open (are_open lanes) opens).1 (omega (arith, within))

open_set : (command : Command) (lanes : List Lane) (k : ℕ) → are_open (slice_set lanes k (with_waiting command (lane_of lanes k))) ≡ are_open lanes
open_set command [] k = refl
open_set command (x ∷ lanes) zero = refl
open_set command (x ∷ lanes) (suc k) = ap (λ b. x.is_open && b) (open_set command lanes k)

hand_enabled : (setting : Setting) (lanes : List Lane) (hand : Hand) → are_open lanes ≡ true → hand.row < length lanes
    → is_enabled setting lanes (hand_event hand) ≡ true
hand_enabled setting lanes hand opens within = rw (lt-ltb hand.row (length lanes) within, open_at lanes hand.row opens within) refl

pub record AreHanded (setting : Setting) (lanes : List Lane) (hands : List Hand) : Type 0 where
  pub enabled : are_enabled setting lanes (map hand_event hands) ≡ true
  pub lanes_after : run_of setting lanes (map hand_event hands) ≡ handed hands 0 lanes

pub hands_run : (setting : Setting) (lanes : List Lane) (hands : List Hand) → are_open lanes ≡ true → All (λ hand. hand.row < length lanes) hands
    → AreHanded setting lanes hands
hands_run setting lanes [] opens within = record { enabled = refl; lanes_after = sym (handed_none 0 lanes) }
hands_run setting lanes (hand ∷ hands) opens within =
    let less = All-head (λ h. h.row < length lanes) hand hands within in
    let next = slice_set lanes hand.row (with_waiting hand.command (lane_of lanes hand.row)) in
    let size : length next ≡ length lanes = length-set lanes hand.row _ in
    let on = hand_enabled setting lanes hand opens less in
    let is : step setting lanes (hand_event hand) ≡ next = cond-true _ next lanes on in
    let later = hands_run setting next hands (open_set hand.command lanes hand.row ∙ opens)
    (subst (λ n. All (λ h. h.row < n) hands) (sym size) (All-tail (λ h. h.row < length lanes) hand hands within)) in
    record {
      enabled = and_from _ _ on (ap (λ ls. are_enabled setting ls (map hand_event hands)) is ∙ later.enabled);
      lanes_after = ap (λ ls. run_of setting ls (map hand_event hands)) is ∙ later.lanes_after ∙ handed_set hand hands 0 hand.row lanes (omega arith) less;
    }

-- in a core of its own
pub record IsHandedAlone (setting : Setting) (x : Lane) (commands : List Command) : Type 0 where
  pub enabled : are_enabled setting (x ∷ []) (map (event.Hand 0) commands) ≡ true
  pub lanes_after : run_of setting (x ∷ []) (map (event.Hand 0) commands) ≡ queued commands x ∷ []

pub hands_alone : (setting : Setting) (x : Lane) (commands : List Command) → x.is_open ≡ true → IsHandedAlone setting x commands
hands_alone setting x [] opens = record { enabled = refl; lanes_after = ap (λ y. y ∷ []) (sym (queued_none x)) }
hands_alone setting x (command ∷ commands) opens =
    let on : is_enabled setting (x ∷ []) (event.Hand 0 command) ≡ true = rw opens refl in
    let is : step setting (x ∷ []) (event.Hand 0 command) ≡ with_waiting command x ∷ [] = cond-true _ (with_waiting command x ∷ []) (x ∷ []) on in
    let later = hands_alone setting (with_waiting command x) commands opens in
    record {
      enabled = and_from _ _ on (ap (λ ls. are_enabled setting ls (map (event.Hand 0) commands)) is ∙ later.enabled);
      lanes_after = ap (λ ls. run_of setting ls (map (event.Hand 0) commands)) is ∙ later.lanes_after ∙ ap (λ y. y ∷ []) (queued_one x command commands);
    }
