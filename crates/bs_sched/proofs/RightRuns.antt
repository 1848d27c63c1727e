-- Each lane stays right, whatever events follow.
use Rattle.std.proofs.Common.{◌≡◌, ℕ, ◌+◌, ◌-◌, ◌<◌, ◌≤◌, Bool, true, false, List, [], ◌∷◌, ◌++◌, length, take, refl, sym, ap, ◌∙◌, arith, inl, inr}
use Rattle.std.specs.Prelude.{Some, None, if◌then◌else◌, nat_eq, slice_set, slice_index_or, All}
use Rattle.std.specs.List.{list_all}
use Rattle.std.proofs.Math.Seq.{take-length, take-append_seam}
use Rattle.std.proofs.Math.ListN.{get_or-map}
use Rattle.std.proofs.lemmas.Bool.{cases_Bool, cases_eq, cases_lt, cond-true, cond-false, ltb-true, leb-true, ne_eqb, and_left, and_right}
use Rattle.std.proofs.lemmas.List.{length-set, length_push, length-map, length-append, length-take-le, length-replicate, take_more, get_or_append_left, get_or_push, get_or-set_other}
use Rattle.std.proofs.lemmas.Grind.{get_or-set_at}
use Rattle.std.proofs.lemmas.List.Elements.{All-nil, All-push, All-append, All-take, All-drop, All-head, All-tail, All-get_or}
use Rattle.bs_board.proofs.Chains.{and_both}
use Rattle.bs_board.specs.declared.limits.TheConstants.{MOST_QUOTA}
use Rattle.bs_board.specs.declared.commands.command.Command.{Command}
use Rattle.bs_board.specs.declared.commands.command.Command.TheVariants as command
use Rattle.bs_board.specs.plans.Plan.{GameRow, IsFitPlan, is_fit_row, row_of}
use Rattle.bs_game.specs.Alone.{course_of, course_with}
use Rattle.bs_game.specs.Answer.{Fits, answer_to}
use Rattle.bs_game.proofs.Courses.{course_snoc, course_is_game}
use Rattle.bs_fiber.specs.declared.job.JobKind.{JobKind}
use Rattle.bs_fiber.specs.declared.job.JobKind.TheVariants as kind
use Rattle.bs_sched.specs.declared.event.Event.{Event}
use Rattle.bs_sched.specs.declared.event.Event.TheVariants as event
use Rattle.bs_sched.specs.declared.stage.Stage.{Stage}
use Rattle.bs_sched.specs.declared.stage.Stage.TheVariants as stage
use Rattle.bs_sched.specs.PartState.{PartState}
use Rattle.bs_sched.specs.PartState as part
use Rattle.bs_sched.specs.Courses.{answered_commands, IsMove, IsRight}
use Rattle.bs_sched.specs.Isolation.{opened_lanes, HandsFit, IsWell}
use Rattle.bs_sched.specs.Lane.{Lane, empty_lane, no_lane, is_quiet, lane_command, lane_outcome, goes_on, is_idle, is_in_parts, is_playing, is_to_join, has_begin, has_join, is_part_done, is_ready, is_out, with_waiting, with_taken, with_put, answered, forked, stage_with, with_part_done}
use Rattle.bs_sched.specs.Machine.{Setting, lane_of, game_of, row_in, is_admit, is_allowed, lane_after, step, run_of}
use Rattle.bs_sched.proofs.Lanes.{ready_part, out_part}
use Rattle.bs_sched.proofs.LoneLanes.{comer, changed, cases_step}

-- the stage in which an event is allowed

begin_busy : (worker : ℕ) (s : Stage) → has_begin worker s ≡ true → (is_idle s ≡ false) × (is_playing s ≡ false)
begin_busy worker stage.Idle has = let wrong : false ≡ true = has in absurd cc
begin_busy worker (stage.Begin other) has = (refl, refl)
begin_busy worker stage.Parts has = let wrong : false ≡ true = has in absurd cc
begin_busy worker (stage.Join taker) has = let wrong : false ≡ true = has in absurd cc

join_busy : (worker : ℕ) (s : Stage) → has_join worker s ≡ true → is_idle s ≡ false
join_busy worker stage.Idle has = let wrong : false ≡ true = has in absurd cc
join_busy worker (stage.Begin other) has = refl
join_busy worker stage.Parts has = refl
join_busy worker (stage.Join taker) has = refl

to_join : (s : Stage) → is_to_join s ≡ true → (is_idle s ≡ false) × (is_playing s ≡ true)
to_join stage.Idle has = let wrong : false ≡ true = has in absurd cc
to_join (stage.Begin other) has = let wrong : false ≡ true = has in absurd cc
to_join stage.Parts has = let wrong : false ≡ true = has in absurd cc
to_join (stage.Join None) has = (refl, refl)
to_join (stage.Join (Some other)) has = let wrong : false ≡ true = has in absurd cc

in_parts : (s : Stage) → is_in_parts s ≡ true → s ≡ stage.Parts
in_parts stage.Idle has = let wrong : false ≡ true = has in cc
in_parts (stage.Begin other) has = let wrong : false ≡ true = has in cc
in_parts stage.Parts has = refl
in_parts (stage.Join taker) has = let wrong : false ≡ true = has in cc

-- the commands that are answered

answered_idle : (x : Lane) → is_idle x.stage ≡ true → answered_commands x ≡ x.taken
answered_idle x idle = cond-true (is_idle x.stage) x.taken (take (length x.taken - 1) x.taken) idle

answered_busy : (x : Lane) → is_idle x.stage ≡ false → answered_commands x ≡ take (length x.taken - 1) x.taken
answered_busy x busy = cond-false (is_idle x.stage) x.taken (take (length x.taken - 1) x.taken) busy

all_but_one : {X : Type 0} (xs ys : List X) → length ys ≡ 1 → take (length (xs ++ ys) - 1) (xs ++ ys) ≡ xs
all_but_one xs ys one =
    let many : length (xs ++ ys) - 1 ≡ length xs = omega (arith, length-append xs ys, one) in
    rw many (take-append_seam xs ys)

last_behind : {X : Type 0} (xs : List X) (d : X) → 0 < length xs → xs ≡ take (length xs - 1) xs ++ slice_index_or xs (length xs - 1) d ∷ []
last_behind xs d some =
    let whole : length xs - 1 + 1 ≡ length xs = omega arith in
    let all : take (length xs - 1 + 1) xs ≡ xs = rw whole (take-length xs) in
    sym all ∙ take_more xs (length xs - 1) d (omega arith)

-- a command is answered

answered_course : (x : Lane) → IsRight x → is_idle x.stage ≡ false → course_of x.row.quota x.taken ≡ course_with x.row.quota (course_of x.row.quota (answered_commands x)) (lane_command x)
answered_course x right busy =
    let some = right.some busy in
    let all : x.taken ≡ answered_commands x ++ lane_command x ∷ []
    = last_behind x.taken command.Bad some ∙ ap (λ cs. cs ++ lane_command x ∷ []) (sym (answered_busy x busy)) in
    ap (course_of x.row.quota) all ∙ course_snoc x.row.quota (answered_commands x) (lane_command x)

pub right_answered : (x : Lane) → IsRight x → is_idle x.stage ≡ false → IsRight (answered x)
right_answered x right busy =
    let course = answered_course x right busy in
    let game : (lane_outcome x).game ≡ (course_of x.row.quota x.taken).game
    = ap (λ g. (answer_to x.row.quota g (lane_command x)).game) right.course.game ∙ sym (ap (λ c. c.game) course) in
    let replies : x.replies ++ (lane_outcome x).reply ∷ [] ≡ (course_of x.row.quota x.taken).replies
    = ap (λ g. x.replies ++ (answer_to x.row.quota g (lane_command x)).reply ∷ []) right.course.game
    ∙ ap (λ rs. rs ++ (answer_to x.row.quota (course_of x.row.quota (answered_commands x)).game (lane_command x)).reply ∷ []) right.course.replies
    ∙ sym (ap (λ c. c.replies) course) in
    let whole = course_is_game x.row.quota x.taken right.taken in
    record {
      small = right.small;
      taken = right.taken;
      waiting = right.waiting;
      some = λ wrong. let is : true ≡ false = wrong in absurd cc;
      course = record { replies = replies; game = game };
      right = rw game whole.0;
      within = rw game whole.1;
      moves = λ plays. let wrong : false ≡ true = plays in absurd cc;
    }

-- each event

right_handed : (x : Lane) (command : Command) → IsRight x → Fits command → IsRight (with_waiting command x)
right_handed x command right fits =
    record {
      small = right.small;
      taken = right.taken;
      waiting = All-push Fits x.waiting command right.waiting fits;
      some = right.some;
      course = record { replies = right.course.replies; game = right.course.game };
      right = right.right;
      within = right.within;
      moves = λ plays. record { goes = (right.moves plays).goes; parts = (right.moves plays).parts };
    }

right_begun : (x : Lane) (worker : ℕ) → IsRight x → is_idle x.stage ≡ true → 0 < length x.waiting → IsRight (with_taken worker kind.Begin 0 x)
right_begun x worker right idle some =
    let one : length (take 1 x.waiting) ≡ 1 = length-take-le 1 x.waiting (omega arith) in
    let before : take (length (x.taken ++ take 1 x.waiting) - 1) (x.taken ++ take 1 x.waiting) ≡ answered_commands x
    = all_but_one x.taken (take 1 x.waiting) one ∙ sym (answered_idle x idle) in
    record {
      small = right.small;
      taken = All-append Fits x.taken (take 1 x.waiting) right.taken (All-take Fits 1 x.waiting right.waiting);
      waiting = All-drop Fits 1 x.waiting right.waiting;
      some = λ _. omega (arith, length-append x.taken (take 1 x.waiting), one);
      course = record { replies = rw before right.course.replies; game = rw before right.course.game };
      right = right.right;
      within = right.within;
      moves = λ plays. let wrong : false ≡ true = plays in absurd cc;
    }

right_with_stage : (x : Lane) (s : Stage) (parts : List PartState) → IsRight x → is_idle x.stage ≡ false → is_idle s ≡ false
    → (is_playing s ≡ true → IsMove (record x { stage = s; parts = parts })) → IsRight (record x { stage = s; parts = parts })
right_with_stage x s parts right busy still moves =
    let same : (if is_idle s then x.taken else take (length x.taken - 1) x.taken) ≡ answered_commands x
    = cond-false (is_idle s) x.taken (take (length x.taken - 1) x.taken) still ∙ sym (answered_busy x busy) in
    record {
      small = right.small;
      taken = right.taken;
      waiting = right.waiting;
      some = λ _. right.some busy;
      course = record { replies = rw same right.course.replies; game = rw same right.course.game };
      right = right.right;
      within = right.within;
      moves = moves;
    }

-- the parts of a move in progress

still_moves : (x : Lane) (s : Stage) (p : ℕ) (new : PartState) → IsMove x → IsMove (record x { stage = s; parts = slice_set x.parts p new })
still_moves x s p new move = record { goes = move.goes; parts = length-set x.parts p new ∙ move.parts }

busy_of_parts : (s : Stage) → s ≡ stage.Parts → (is_idle s ≡ false) × (is_playing s ≡ true)
busy_of_parts s is = rw is (refl, refl)

right_part_taken : (x : Lane) (worker p : ℕ) → IsRight x → x.stage ≡ stage.Parts → IsRight (with_taken worker kind.Part p x)
right_part_taken x worker p right at =
    let busy = busy_of_parts x.stage at in
    right_with_stage x x.stage (slice_set x.parts p (part.Out worker)) right busy.0 busy.0
    (λ _. still_moves x x.stage p (part.Out worker) (right.moves busy.1))

closed_busy : (all : Bool) → is_idle (if all then stage.Join None else stage.Parts) ≡ false
closed_busy true = refl
closed_busy false = refl

right_part_done : (x : Lane) (p : ℕ) → IsRight x → x.stage ≡ stage.Parts → IsRight (with_part_done p x)
right_part_done x p right at =
    let busy = busy_of_parts x.stage at in
    let parts = slice_set x.parts p part.Done in
    right_with_stage x (stage_with parts) parts right busy.0 (closed_busy (list_all is_part_done parts))
    (λ _. still_moves x (stage_with parts) p part.Done (right.moves busy.1))

right_forked : (x : Lane) → IsRight x → is_idle x.stage ≡ false → goes_on x ≡ true → IsRight (forked x)
right_forked x right busy on =
    right_with_stage x stage.Parts (forked x).parts right busy refl
    (λ _. record { goes = on; parts = length-replicate _ _ })

right_taken : (x : Lane) (worker : ℕ) (k : JobKind) (p : ℕ) → IsRight x → is_ready x k p ≡ true → IsRight (with_taken worker k p x)
right_taken x worker kind.Begin p right ready =
    let both = and_both _ _ (and_both (nat_eq p 0) _ ready).1 in
    right_begun x worker right both.0 (ltb-true _ _ both.1)
right_taken x worker kind.Part p right ready = right_part_taken x worker p right (ready_part x p ready)
right_taken x worker kind.Join p right ready =
    let at = to_join x.stage (and_both (nat_eq p 0) (is_to_join x.stage) ready).1 in
    right_with_stage x (stage.Join (Some worker)) x.parts right at.0 refl (λ _. record { goes = (right.moves at.1).goes; parts = (right.moves at.1).parts })

right_put : (x : Lane) (worker : ℕ) (k : JobKind) (p : ℕ) → IsRight x → is_out worker x k p ≡ true → IsRight (with_put k p x)
right_put x worker kind.Begin p right out =
    let busy = begin_busy worker x.stage (and_both (nat_eq p 0) (has_begin worker x.stage) out).1 in
    elim (cases_Bool (goes_on x)) [
      | inl on ↦ rw on (right_forked x right busy.0 on)
      | inr off ↦ rw off (right_answered x right busy.0)
    ]
right_put x worker kind.Part p right out = right_part_done x p right (out_part x worker p out)
right_put x worker kind.Join p right out = right_answered x right (join_busy worker x.stage (and_both (nat_eq p 0) (has_join worker x.stage) out).1)

right_with_flag : (x : Lane) (flag : Bool) → IsRight x → IsRight (record x { is_open = flag })
right_with_flag x flag right =
    record {
      small = right.small;
      taken = right.taken;
      waiting = right.waiting;
      some = right.some;
      course = record { replies = right.course.replies; game = right.course.game };
      right = right.right;
      within = right.within;
      moves = λ plays. record { goes = (right.moves plays).goes; parts = (right.moves plays).parts };
    }

pub right_after : (x : Lane) (e : Event) → IsRight x → HandsFit e → is_allowed x e ≡ true → IsRight (lane_after x e)
right_after x (event.Hand game command) right fits allowed = right_handed x command right fits
right_after x (event.Take worker job) right fits allowed = right_taken x worker job.kind job.part right allowed
right_after x (event.Put worker job) right fits allowed = right_put x worker job.kind job.part right allowed
right_after x (event.Admit row) right fits allowed = right
right_after x (event.Leave game) right fits allowed =
    right_with_flag x false right

-- a stay that has left is idle, so an event is allowed only while the stay is open

pub open_busy : (x : Lane) → (x.is_open ≡ false → is_quiet x ≡ true) → is_quiet x ≡ false → x.is_open ≡ true
open_busy x closed busy =
    elim (cases_Bool x.is_open) [
      | inl stands ↦ stands
      | inr shut ↦ let wrong : true ≡ false = sym (closed shut) ∙ busy in cc
    ]

open_of : (x : Lane) → IsWell x → is_quiet x ≡ false → x.is_open ≡ true
open_of x well busy = open_busy x well.closed busy

pub not_quiet : (x : Lane) → is_idle x.stage ≡ false → is_quiet x ≡ false
not_quiet x busy = and_left (is_idle x.stage) (nat_eq (length x.waiting) 0) busy

some_waits : (x : Lane) → 0 < length x.waiting → is_quiet x ≡ false
some_waits x some = and_right (is_idle x.stage) (nat_eq (length x.waiting) 0) (ne_eqb (length x.waiting) 0 (λ none. omega (arith, some, none)))

pub busy_ready : (x : Lane) (k : JobKind) (p : ℕ) → is_ready x k p ≡ true → is_quiet x ≡ false
busy_ready x kind.Begin p ready = some_waits x (ltb-true _ _ (and_both _ _ (and_both (nat_eq p 0) _ ready).1).1)
busy_ready x kind.Part p ready = not_quiet x (busy_of_parts x.stage (ready_part x p ready)).0
busy_ready x kind.Join p ready = not_quiet x (to_join x.stage (and_both (nat_eq p 0) (is_to_join x.stage) ready).1).0

pub busy_out : (x : Lane) (worker : ℕ) (k : JobKind) (p : ℕ) → is_out worker x k p ≡ true → is_quiet x ≡ false
busy_out x worker kind.Begin p out = not_quiet x (begin_busy worker x.stage (and_both (nat_eq p 0) (has_begin worker x.stage) out).1).0
busy_out x worker kind.Part p out = not_quiet x (busy_of_parts x.stage (out_part x worker p out)).0
busy_out x worker kind.Join p out = not_quiet x (join_busy worker x.stage (and_both (nat_eq p 0) (has_join worker x.stage) out).1)

pub open_when : (x : Lane) (e : Event) → IsWell x → is_allowed x e ≡ true → x.is_open ≡ true
open_when x (event.Hand game command) well allowed = allowed
open_when x (event.Take worker job) well allowed = open_of x well (busy_ready x job.kind job.part allowed)
open_when x (event.Put worker job) well allowed = open_of x well (busy_out x worker job.kind job.part allowed)
open_when x (event.Admit row) well allowed = let wrong : false ≡ true = allowed in absurd cc
open_when x (event.Leave game) well allowed = (and_both x.is_open (is_quiet x) allowed).0

-- only a leave closes a stay

pub open_taken : (x : Lane) (worker : ℕ) (k : JobKind) (p : ℕ) → (with_taken worker k p x).is_open ≡ x.is_open
open_taken x worker kind.Begin p = refl
open_taken x worker kind.Part p = refl
open_taken x worker kind.Join p = refl

open_begun : (x : Lane) (on : Bool) → (if on then forked x else answered x).is_open ≡ x.is_open
open_begun x true = refl
open_begun x false = refl

pub open_put : (x : Lane) (k : JobKind) (p : ℕ) → (with_put k p x).is_open ≡ x.is_open
open_put x kind.Begin p = open_begun x (goes_on x)
open_put x kind.Part p = refl
open_put x kind.Join p = refl

still_open : (x y : Lane) → y.is_open ≡ x.is_open → x.is_open ≡ true → y.is_open ≡ false → is_quiet y ≡ true
still_open x y same stands shut = let wrong : true ≡ false = sym stands ∙ sym same ∙ shut in cc

closed_after : (x : Lane) (e : Event) → x.is_open ≡ true → is_allowed x e ≡ true → (lane_after x e).is_open ≡ false → is_quiet (lane_after x e) ≡ true
closed_after x (event.Hand game command) stands allowed = still_open x (with_waiting command x) refl stands
closed_after x (event.Take worker job) stands allowed = still_open x (with_taken worker job.kind job.part x) (open_taken x worker job.kind job.part) stands
closed_after x (event.Put worker job) stands allowed = still_open x (with_put job.kind job.part x) (open_put x job.kind job.part) stands
closed_after x (event.Admit row) stands allowed = still_open x x refl stands
closed_after x (event.Leave game) stands allowed = λ _. (and_both x.is_open (is_quiet x) allowed).1

pub well_after : (x : Lane) (e : Event) → IsWell x → HandsFit e → is_allowed x e ≡ true → IsWell (lane_after x e)
well_after x e well fits allowed =
    record { right = right_after x e well.right fits allowed; closed = closed_after x e (open_when x e well allowed) allowed }

-- a newly opened lane

right_empty : (row : GameRow) → row.quota ≤ MOST_QUOTA → IsRight (empty_lane row)
right_empty row small =
    let course = course_is_game row.quota [] (All-nil Fits) in
    record {
      small = small;
      taken = All-nil Fits;
      waiting = All-nil Fits;
      some = λ busy. let wrong : true ≡ false = busy in absurd cc;
      course = record { replies = refl; game = refl };
      right = course.0;
      within = course.1;
      moves = λ plays. let wrong : false ≡ true = plays in absurd cc;
    }

small_quota : (row : GameRow) → is_fit_row row ≡ true → row.quota ≤ MOST_QUOTA
small_quota row fit = leb-true row.quota MOST_QUOTA (and_both _ _ fit).1

pub well_empty : (row : GameRow) → is_fit_row row ≡ true → IsWell (empty_lane row)
well_empty row fit = record { right = right_empty row (small_quota row fit); closed = λ shut. let wrong : true ≡ false = shut in absurd cc }

-- all events

abbrev pub AreWell : List Lane → Type 0
AreWell lanes = (game : ℕ) → game < length lanes → IsWell (lane_of lanes game)

-- the row that an event admits is within the limits
pub fit_comer : (e : Event) → HandsFit e → is_admit e ≡ true → is_fit_row (row_in e) ≡ true
fit_comer (event.Hand game command) fits comes = let wrong : false ≡ true = comes in absurd cc
fit_comer (event.Take worker job) fits comes = let wrong : false ≡ true = comes in absurd cc
fit_comer (event.Put worker job) fits comes = let wrong : false ≡ true = comes in absurd cc
fit_comer (event.Admit row) fits comes = fits
fit_comer (event.Leave game) fits comes = let wrong : false ≡ true = comes in absurd cc

pub well_step : (setting : Setting) (lanes : List Lane) (e : Event) → HandsFit e → AreWell lanes → AreWell (step setting lanes e)
well_step setting lanes e fits well game within =
    elim (cases_step setting lanes e) [
      | inl stays ↦
          let same = ap length stays.is in
          rw stays.is (well game (omega (arith, same, within)))
      | inr (inl comes) ↦
          let more = ap length comes.is ∙ length_push lanes (comer e) in
          rw comes.is (elim (cases_lt game (length lanes)) [
            | inl less ↦ rw (get_or_append_left lanes (comer e ∷ []) no_lane game less) (well game less)
            | inr past ↦ rw (get_or_push lanes (comer e) no_lane game (omega (arith, more, past, within))) (well_empty (row_in e) (fit_comer e fits comes.admits))
          ])
      | inr (inr changes) ↦
          let same = ap length changes.is ∙ length-set lanes (game_of e) (changed lanes e) in
          rw changes.is (elim (cases_eq game (game_of e)) [
            | inl here ↦
                rw (get_or-set_at lanes (game_of e) game (changed lanes e) no_lane here changes.met.within)
                (well_after (lane_of lanes (game_of e)) e (well (game_of e) changes.met.within) fits changes.met.allowed)
            | inr other ↦
                rw (get_or-set_other lanes (game_of e) game (changed lanes e) no_lane other) (well game (omega (arith, same, within)))
          ])
    ]

pub well_run : (setting : Setting) (lanes : List Lane) (events : List Event) → All HandsFit events → AreWell lanes → AreWell (run_of setting lanes events)
well_run setting lanes [] fit well = well
well_run setting lanes (e ∷ events) fit well =
    well_run setting (step setting lanes e) events (All-tail HandsFit e events fit) (well_step setting lanes e (All-head HandsFit e events fit) well)

pub opened_lane : (rows : List GameRow) (game : ℕ) → lane_of (opened_lanes rows) game ≡ empty_lane (slice_index_or rows game (row_of [] 0))
opened_lane rows game = get_or-map empty_lane rows game (row_of [] 0)

pub well_opened : (rows : List GameRow) → IsFitPlan rows → AreWell (opened_lanes rows)
well_opened rows plan game within =
    let many : length (opened_lanes rows) ≡ length rows = length-map rows empty_lane in
    rw (opened_lane rows game)
    (well_empty (slice_index_or rows game (row_of [] 0)) (All-get_or (λ row. is_fit_row row ≡ true) rows game (row_of [] 0) (omega (arith, many, within)) plan.rows_fit))
