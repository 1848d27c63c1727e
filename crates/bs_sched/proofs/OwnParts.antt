-- The parts of a move are completed one after the other: each is still the core's own once the ones
-- before it are completed.
use Rattle.std.proofs.Common.{◌≡◌, ◌≢◌, ℕ, zero, suc, ◌+◌, ◌<◌, true, false, List, [], ◌∷◌, length, Option, Some, None, refl, sym, ap, subst, ◌∙◌, arith, get_or, slice_index_or}
use Rattle.std.specs.Prelude.{nat_lt, slice_set, slice_get}
use Rattle.std.specs.List.{list_all}
use Rattle.std.proofs.lemmas.Bool.{and_from, lt-ltb, cond-true}
use Rattle.std.proofs.lemmas.List.{get_or-set_same, get_or-set_other, length-set}
use Rattle.bs_board.proofs.Chains.{and_both}
use Rattle.bs_fiber.specs.Tickets.{TicketView}
use Rattle.bs_fiber.specs.declared.job.JobName.{JobName}
use Rattle.bs_fiber.specs.declared.job.JobKind.TheVariants as kind
use Rattle.bs_sched.specs.declared.event.Event.TheVariants as event
use Rattle.bs_sched.specs.PartState.{PartState}
use Rattle.bs_sched.specs.PartState as part
use Rattle.bs_sched.specs.Core.{CoreView}
use Rattle.bs_sched.specs.Games.{GamesView, after}
use Rattle.bs_sched.specs.Inputs.{input_of}
use Rattle.bs_sched.specs.Lane.{Lane, no_lane, is_out, is_in_parts, is_part_done, has_part, part_at, with_part_done}
use Rattle.bs_sched.specs.Isolation.{are_enabled}
use Rattle.bs_sched.specs.Journal.{setting_in}
use Rattle.bs_sched.specs.Machine.{Setting, lane_of, is_enabled, is_enabled_there, step, lane_effect}
use Rattle.bs_sched.specs.Parts.{IsOwnPart, AreOwnParts, part_job, core_run, puts_of}
use Rattle.bs_sched.proofs.OwnJobs.{own_there, own_out}

-- a part that is out is not done, so not all are
not_all_done : (parts : List PartState) (worker q : ℕ) → has_part worker (get_or parts q part.Done) ≡ true → list_all is_part_done parts ≡ false
not_all_done [] worker q has = let wrong : false ≡ true = has in absurd cc
not_all_done (part.Ready ∷ parts) worker q has = refl
not_all_done (part.Out other ∷ parts) worker q has = refl
not_all_done (part.Done ∷ parts) worker zero has = let wrong : false ≡ true = has in absurd cc
not_all_done (part.Done ∷ parts) worker (suc q) has = not_all_done parts worker q has

-- one part is completed, another is still out
out_still : (x : Lane) (worker p q : ℕ) → p ≢ q → is_out worker x kind.Part q ≡ true → is_out worker (with_part_done p x) kind.Part q ≡ true
out_still x worker p q other out =
    let both = and_both (is_in_parts x.stage) (has_part worker (part_at x q)) out in
    let same : get_or (slice_set x.parts p part.Done) q part.Done ≡ get_or x.parts q part.Done
    = get_or-set_other x.parts p q part.Done part.Done (λ e. other (sym e)) in
    let has : has_part worker (get_or (slice_set x.parts p part.Done) q part.Done) ≡ true = ap (has_part worker) same ∙ both.1 in
    let left : list_all is_part_done (slice_set x.parts p part.Done) ≡ false = not_all_done (slice_set x.parts p part.Done) worker q has in
    rw (left, has) refl

-- the parts still to be completed, from the p-th on
abbrev pub AreOwnFrom : GamesView → ℕ → ℕ → List (Option TicketView) → Type 0
AreOwnFrom games game p [] = Unit {0}
AreOwnFrom games game p (one ∷ completed) = IsOwnPart games game p one × AreOwnFrom games game (p + 1) completed

from_each : (games : GamesView) (game p : ℕ) (completed : List (Option TicketView))
    → ((i : ℕ) → i < length completed → IsOwnPart games game (p + i) (slice_index_or completed i None)) → AreOwnFrom games game p completed
from_each games game p [] each = tt
from_each games game p (one ∷ completed) each =
    let here : p + 0 ≡ p = omega arith in (
      subst (λ (k : ℕ). IsOwnPart games game k one) here (each 0 (omega arith)),
      from_each games game (p + 1) completed
          (λ i within. let next : p + suc i ≡ p + 1 + i = omega arith in subst (λ (k : ℕ). IsOwnPart games game k (slice_index_or completed i None)) next (each (suc i) (omega arith))),
    )

pub from_all : (games : GamesView) (completed : List (Option TicketView)) (are : AreOwnParts games completed) → AreOwnFrom games are.game 0 completed
from_all games completed are =
    from_each games are.game 0 completed (λ i within. let none : i ≡ 0 + i = omega arith in subst (λ (k : ℕ). IsOwnPart games are.game k (slice_index_or completed i None)) none (are.each i within))

-- one of them is completed, and another is still the core's own
own_still : (cap : ℕ) (games : GamesView) (game p q worker : ℕ) (one : Option TicketView) → p ≢ q → IsOwnPart games game q one
    → IsOwnPart (after cap games (event.Put worker (part_job game p))) game q one
own_still cap games game p q worker one other own =
    let done : TicketView = own.done in
    let is : done.input.job ≡ part_job game q = own.job in
    let x = lane_of games.lanes game in
    let new = after cap games (event.Put worker (part_job game p)) in
    let there : game < length games.lanes = subst (λ (j : JobName). j.game < length games.lanes) is (own_there games done.input.worker done own.own) in
    let out : is_out done.input.worker x kind.Part q ≡ true
    = subst (λ (j : JobName). is_out done.input.worker (lane_of games.lanes j.game) j.kind j.part ≡ true) is (own_out games done.input.worker done own.own) in
    let lane : lane_of new.lanes game ≡ with_part_done p x = get_or-set_same games.lanes game (with_part_done p x) no_lane there in
    let many : length new.lanes ≡ length games.lanes = length-set games.lanes game (with_part_done p x) in
    let here : nat_lt game (length new.lanes) ≡ true = lt-ltb _ _ (omega (arith, many)) in
    let still : is_out done.input.worker (lane_of new.lanes game) kind.Part q ≡ true = rw lane (out_still x done.input.worker p q other out) in
    let enabled : is_enabled_there new.workers new.lanes (event.Put done.input.worker (part_job game q)) ≡ true = rw (here, still) refl in
    let input : input_of (lane_of new.lanes game) done.input.worker (part_job game q) ≡ input_of x done.input.worker (part_job game q)
    = ap (λ (y : Lane). input_of y done.input.worker (part_job game q)) lane in
    let before : done.input ≡ input_of x done.input.worker (part_job game q)
    = subst (λ (j : JobName). done.input ≡ input_of (lane_of games.lanes j.game) done.input.worker j) is own.own.input in
    record {
      done = done;
      is = own.is;
      job = is;
      own = record {
        out = subst (λ (j : JobName). is_enabled_there new.workers new.lanes (event.Put done.input.worker j) ≡ true) (sym is) enabled;
        input = subst (λ (j : JobName). done.input ≡ input_of (lane_of new.lanes j.game) done.input.worker j) (sym is) (before ∙ sym input);
        frames = own.own.frames;
      };
    }

pub own_rest : (cap : ℕ) (games : GamesView) (game p k worker : ℕ) (completed : List (Option TicketView)) → p < k → AreOwnFrom games game k completed
    → AreOwnFrom (after cap games (event.Put worker (part_job game p))) game k completed
own_rest cap games game p k worker [] less own = tt
own_rest cap games game p k worker (one ∷ completed) less own =
    (own_still cap games game p k worker one (λ e. absurd (omega arith)) own.0, own_rest cap games game p (k + 1) worker completed (omega arith) own.1)

-- the first of them names the game
pub first_part : (games : GamesView) (completed : List (Option TicketView)) (first : TicketView) → slice_get completed 0 ≡ Some (Some first) → (are : AreOwnParts games completed)
    → (are.game ≡ first.input.job.game) × (first.input.job.game < length games.lanes)
first_part games [] first is are = let wrong : None ≡ Some (Some first) = is in absurd cc
first_part games (x ∷ completed) first is are =
    let own = are.each 0 are.some in
    let same : own.done ≡ first = let e : x ≡ Some own.done = own.is in let f : Some x ≡ Some (Some first) = is in cc in
    let job : first.input.job ≡ part_job are.game 0 = ap (λ (i : TicketView). i.input.job) (sym same) ∙ own.job in
    let game : are.game ≡ first.input.job.game = ap (λ (j : JobName). j.game) (sym job) in
    (game, subst (λ (i : TicketView). i.input.job.game < length games.lanes) same (own_there games own.done.input.worker own.done own.own))

abbrev pub NextPart : ℕ → CoreView → CoreView → ℕ → ℕ → List (Option TicketView) → List (Option TicketView) → Type 0
NextPart cap old new game p items rest = AreOwnFrom new.games game (p + 1) rest × (core_run cap new (puts_of rest) ≡ core_run cap old (puts_of items))

next_of : (cap : ℕ) (old : CoreView) (game p : ℕ) (one : Option TicketView) (rest : List (Option TicketView)) → AreOwnFrom old.games game p (one ∷ rest)
    → NextPart cap old (core_run cap old (puts_of (one ∷ []))) game p (one ∷ rest) rest
next_of cap old game p None rest own = let wrong : None ≡ Some own.0.done = own.0.is in absurd cc
next_of cap old game p (Some done) rest own =
    let same : own.0.done ≡ done = let e : Some done ≡ Some own.0.done = own.0.is in cc in
    let job : done.input.job ≡ part_job game p = ap (λ (i : TicketView). i.input.job) (sym same) ∙ own.0.job in (
      subst (λ (j : JobName). AreOwnFrom (after cap old.games (event.Put done.input.worker j)) game (p + 1) rest) (sym job)
          (own_rest cap old.games game p (p + 1) done.input.worker rest (omega arith) own.1),
      refl,
    )

-- the first of the remaining ones is completed
pub next_part : (cap : ℕ) (old new : CoreView) (game p : ℕ) (items rest : List (Option TicketView)) (one : Option TicketView) → items ≡ one ∷ rest
    → AreOwnFrom old.games game p items → new ≡ core_run cap old (puts_of (one ∷ [])) → NextPart cap old new game p items rest
next_part cap old new game p items rest one is own run =
    subst (λ (core : CoreView). NextPart cap old core game p items rest) (sym run)
    (subst (λ (all : List (Option TicketView)). NextPart cap old (core_run cap old (puts_of (one ∷ []))) game p all rest) (sym is)
    (next_of cap old game p one rest (subst (AreOwnFrom old.games game p) is own)))

pub own_next : (games : GamesView) (game p : ℕ) (items rest : List (Option TicketView)) (one : Option TicketView) → items ≡ one ∷ rest → AreOwnFrom games game p items
    → IsOwnPart games game p one
own_next games game p items rest one is own =
    let here : AreOwnFrom games game p (one ∷ rest) = subst (AreOwnFrom games game p) is own in
    here.0

-- each is enabled in its place
enabled_from : (setting : Setting) (games : GamesView) (game p : ℕ) (completed : List (Option TicketView)) → setting.workers ≡ games.workers → AreOwnFrom games game p completed
    → are_enabled setting games.lanes (puts_of completed) ≡ true
enabled_from setting games game p [] same own = refl
enabled_from setting games game p (None ∷ rest) same own = let wrong : None ≡ Some own.0.done = own.0.is in absurd cc
enabled_from setting games game p (Some done ∷ rest) same own =
    let e = event.Put done.input.worker done.input.job in
    let its : own.0.done ≡ done = let e : Some done ≡ Some own.0.done = own.0.is in cc in
    let job : done.input.job ≡ part_job game p = ap (λ (i : TicketView). i.input.job) (sym its) ∙ own.0.job in
    let there : is_enabled_there games.workers games.lanes e ≡ true
    = subst (λ (i : TicketView). is_enabled_there games.workers games.lanes (event.Put i.input.worker i.input.job) ≡ true) its own.0.own.out in
    let here : is_enabled setting games.lanes e ≡ true = subst (λ (w : ℕ). is_enabled_there w games.lanes e ≡ true) (sym same) there in
    let next = subst (λ (j : JobName). AreOwnFrom (after 0 games (event.Put done.input.worker j)) game (p + 1) rest) (sym job)
    (own_rest 0 games game p (p + 1) done.input.worker rest (omega arith) own.1) in
    let goes : step setting games.lanes e ≡ lane_effect games.lanes e = cond-true _ (lane_effect games.lanes e) games.lanes here in
    and_from (is_enabled setting games.lanes e) _ here
    (subst (λ (lanes : List Lane). are_enabled setting lanes (puts_of rest) ≡ true) (sym goes) (enabled_from setting (after 0 games e) game (p + 1) rest same next))

pub all_enabled : (cap : ℕ) (core : CoreView) (completed : List (Option TicketView)) → AreOwnParts core.games completed
    → are_enabled (setting_in cap core) core.games.lanes (puts_of completed) ≡ true
all_enabled cap core completed are = enabled_from (setting_in cap core) core.games are.game 0 completed refl (from_all core.games completed are)
