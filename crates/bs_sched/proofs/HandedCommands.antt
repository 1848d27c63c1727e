-- The commands of a lane after each event, and the commands that an idle lane has answered.
use Rattle.std.proofs.Common.{◌≡◌, ℕ, Bool, true, false, List, [], ◌∷◌, ◌++◌, take, drop, refl, sym, ap, ◌∙◌}
use Rattle.std.specs.Prelude.{if◌then◌else◌}
use Rattle.std.proofs.lemmas.Bool.{eqb-true}
use Rattle.std.proofs.lemmas.List.{append_assoc, append-nil, take-append-drop, nil_from_length}
use Rattle.bs_board.proofs.Chains.{and_both}
use Rattle.bs_board.specs.declared.commands.command.Command.{Command}
use Rattle.bs_board.specs.plans.Plan.{GameRow}
use Rattle.bs_game.specs.Alone.{alone, course_of}
use Rattle.bs_fiber.specs.declared.job.JobKind.{JobKind}
use Rattle.bs_fiber.specs.declared.job.JobKind.TheVariants as kind
use Rattle.bs_sched.specs.declared.event.Event.{Event}
use Rattle.bs_sched.specs.declared.event.Event.TheVariants as event
use Rattle.bs_sched.specs.Courses.{IsRight, answered_commands}
use Rattle.bs_sched.specs.Handed.{commands_of}
use Rattle.bs_sched.specs.Isolation.{commands_in}
use Rattle.bs_sched.specs.Lane.{Lane, goes_on, is_idle, is_quiet, records_of, forked, answered, with_waiting, with_taken, with_put}
use Rattle.bs_sched.specs.Machine.{lane_after}
use Rattle.bs_sched.specs.Registry.{IsServedAlone}

-- of one lane

pub commands_handed : (x : Lane) (command : Command) → commands_of (with_waiting command x) ≡ commands_of x ++ command ∷ []
commands_handed x command = sym (append_assoc x.taken x.waiting (command ∷ []))

pub commands_taken : (x : Lane) (worker : ℕ) (k : JobKind) (p : ℕ) → commands_of (with_taken worker k p x) ≡ commands_of x
commands_taken x worker kind.Begin p =
    append_assoc x.taken (take 1 x.waiting) (drop 1 x.waiting) ∙ ap (λ rest. x.taken ++ rest) (take-append-drop 1 x.waiting)
commands_taken x worker kind.Part p = refl
commands_taken x worker kind.Join p = refl

commands_begun : (x : Lane) (on : Bool) → commands_of (if on then forked x else answered x) ≡ commands_of x
commands_begun x true = refl
commands_begun x false = refl

pub commands_put : (x : Lane) (k : JobKind) (p : ℕ) → commands_of (with_put k p x) ≡ commands_of x
commands_put x kind.Begin p = commands_begun x (goes_on x)
commands_put x kind.Part p = refl
commands_put x kind.Join p = refl

-- the event adds the command that it queues
pub commands_after : (x : Lane) (e : Event) → commands_of (lane_after x e) ≡ commands_of x ++ commands_in (e ∷ [])
commands_after x (event.Hand game command) = commands_handed x command
commands_after x (event.Take worker job) = commands_taken x worker job.kind job.part ∙ sym (append-nil (commands_of x))
commands_after x (event.Put worker job) = commands_put x job.kind job.part ∙ sym (append-nil (commands_of x))
commands_after x (event.Admit row) = sym (append-nil (commands_of x))
commands_after x (event.Leave game) = sym (append-nil (commands_of x))

pub one_more_event : (e : Event) (events : List Event) → commands_in (e ∷ []) ++ commands_in events ≡ commands_in (e ∷ events)
one_more_event (event.Hand game command) events = refl
one_more_event (event.Take worker job) events = refl
one_more_event (event.Put worker job) events = refl
one_more_event (event.Admit row) events = refl
one_more_event (event.Leave game) events = refl

abbrev pub its_row : Lane → GameRow
its_row x = x.row

row_taken : (x : Lane) (worker : ℕ) (k : JobKind) (p : ℕ) → its_row (with_taken worker k p x) ≡ its_row x
row_taken x worker kind.Begin p = refl
row_taken x worker kind.Part p = refl
row_taken x worker kind.Join p = refl

row_begun : (x : Lane) (on : Bool) → its_row (if on then forked x else answered x) ≡ its_row x
row_begun x true = refl
row_begun x false = refl

row_put : (x : Lane) (k : JobKind) (p : ℕ) → its_row (with_put k p x) ≡ its_row x
row_put x kind.Begin p = row_begun x (goes_on x)
row_put x kind.Part p = refl
row_put x kind.Join p = refl

pub row_kept : (x : Lane) (e : Event) → its_row (lane_after x e) ≡ its_row x
row_kept x (event.Hand game command) = refl
row_kept x (event.Take worker job) = row_taken x worker job.kind job.part
row_kept x (event.Put worker job) = row_put x job.kind job.part
row_kept x (event.Admit row) = refl
row_kept x (event.Leave game) = refl

-- a lane with nothing to do has answered all its commands

quiet_commands : (x : Lane) → is_quiet x ≡ true → answered_commands x ≡ commands_of x
quiet_commands x quiet =
    let both = and_both _ _ quiet in
    let idle : is_idle x.stage ≡ true = both.0 in
    let none : x.waiting ≡ [] = nil_from_length x.waiting (eqb-true _ _ both.1) in
    let all : x.taken ++ [] ≡ x.taken = append-nil x.taken in
    rw (idle, none, all) refl

pub served : (x : Lane) (commands : List Command) → IsRight x → is_quiet x ≡ true → commands_of x ≡ commands → IsServedAlone x.row commands x
served x commands right quiet handed =
    let same = quiet_commands x quiet ∙ handed in
    let game : x.game ≡ (alone x.row commands).game = right.course.game ∙ ap (λ cs. (course_of x.row.quota cs).game) same in
    record {
      replies = right.course.replies ∙ ap (λ cs. (course_of x.row.quota cs).replies) same;
      game = game;
      records = ap (λ g. if x.is_open then records_of g else []) game;
    }
