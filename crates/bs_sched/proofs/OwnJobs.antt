-- When a ticket holds what its lane expects for its job.
use Rattle.std.proofs.Common.{◌≡◌, ℕ, ◌<◌, Bool, true, List, length, sym, ap, subst, ◌∙◌}
use Rattle.std.specs.Prelude.{IsTrue, ◌↔◌, nat_lt}
use Rattle.std.proofs.lemmas.Bool.{ltb-true}
use Rattle.bs_board.proofs.Chains.{and_both}
use Rattle.bs_board.specs.declared.commands.command.Command.{Command}
use Rattle.bs_fiber.specs.declared.expected.Expected.{Expected}
use Rattle.bs_fiber.specs.declared.input.Input.{Input}
use Rattle.bs_fiber.specs.declared.job.JobName.{JobName}
use Rattle.bs_fiber.specs.Expected.{IsOf}
use Rattle.bs_fiber.specs.declared.out.Out.{Out}
use Rattle.bs_fiber.specs.Fit.{IsFitInput}
use Rattle.bs_fiber.specs.Seeing.{IsSeen}
use Rattle.bs_fiber.specs.Tickets.{Frame, HoldsWork, TicketView, bytes_of, names_of, worked_bytes}
use Rattle.bs_fiber.specs.Work.{IsWorked, out_seen}
use Rattle.bs_fiber.proofs.Seen.{both_expected}
use Rattle.bs_sched.specs.Courses.{IsRight}
use Rattle.bs_sched.specs.Inputs.{input_for, input_of, names_for}
use Rattle.bs_sched.specs.Lane.{Lane, lane_command, lane_view, is_out}
use Rattle.bs_sched.specs.Games.{GamesView}
use Rattle.bs_sched.specs.Machine.{lane_of}
use Rattle.bs_sched.specs.Putting.{IsOwn}
use Rattle.bs_sched.specs.inner.Putting.{IsOwnOf}
use Rattle.bs_sched.proofs.FitInputs.{lane_input, lane_seen}

-- what the lane expects does not depend on the parts
own_expected : (x : Lane) (worker : ℕ) (job : JobName) (command : Command) (seq : ℕ) (e : Expected) → command ≡ lane_command x → seq ≡ length x.taken
    → IsOf (input_for x command seq worker job) e → IsOf (input_of x worker job) e
own_expected x worker job command seq e is_command is_seq expects =
    let here = subst (λ (n : ℕ). IsOf (input_for x (lane_command x) n worker job) e) is_seq
    (subst (λ (c : Command). IsOf (input_for x c seq worker job) e) is_command expects) in
    record {
      numbers = record {
        job = here.numbers.job;
        worker = here.numbers.worker;
        seq = here.numbers.seq;
        quota = here.numbers.quota;
        charge = here.numbers.charge;
        kept = here.numbers.kept;
      };
      contents = record { last = here.contents.last; asked = here.contents.asked; command = here.contents.command };
    }

pub own_of_expected : (x : Lane) (worker : ℕ) (ticket : TicketView) (command : Command) (seq : ℕ) (e : Expected) (answer : Bool) → IsRight x
    → is_out worker x ticket.input.job.kind ticket.input.job.part ≡ true → command ≡ lane_command x → seq ≡ length x.taken
    → IsOf (input_for x command seq worker ticket.input.job) e → IsFitInput ticket.input → IsTrue answer ↔ IsOf ticket.input e → IsTrue answer ↔ IsOwnOf x worker ticket
own_of_expected x worker ticket command seq e answer right out is_command is_seq expects fit both =
    let mine = own_expected x worker ticket.input.job command seq e is_command is_seq expects in (
      (λ yes.
          record {
            out = out;
            input = both_expected ticket.input (input_of x worker ticket.input.job) e fit (lane_input x worker ticket.input.job right out) (both.0 yes) mine;
          }),
      (λ own. both.1 (subst (λ (i : Input). IsOf i e) (sym own.input) mine)),
    )

-- a completed job of the core's own, which is out

pub own_there : (core : GamesView) (worker : ℕ) (ticket : TicketView) → IsOwn core worker ticket → ticket.input.job.game < length core.lanes
own_there core worker ticket own = ltb-true _ _ (and_both (nat_lt ticket.input.job.game (length core.lanes)) _ own.out).0

pub own_out : (core : GamesView) (worker : ℕ) (ticket : TicketView) → IsOwn core worker ticket
    → is_out worker (lane_of core.lanes ticket.input.job.game) ticket.input.job.kind ticket.input.job.part ≡ true
own_out core worker ticket own =
    let rest = (and_both (nat_lt ticket.input.job.game (length core.lanes)) _ own.out).1 in
    (and_both (is_out worker (lane_of core.lanes ticket.input.job.game) ticket.input.job.kind ticket.input.job.part) true rest).0

-- its outcome is the job's, from the lane's view
pub own_worked : (x : Lane) (worker : ℕ) (ticket : Input) (out : Out) → IsRight x → ticket ≡ input_of x worker ticket.job → IsWorked ticket out
    → out ≡ out_seen ticket.job.kind ticket.job.part (lane_view x) (lane_command x)
own_worked x worker ticket out right is worked =
    let seen : IsSeen (lane_view x) ticket = subst (IsSeen (lane_view x)) (sym is) (lane_seen x worker ticket.job right) in
    worked (lane_view x) seen ∙ ap (λ (i : Input). out_seen ticket.job.kind ticket.job.part (lane_view x) i.command) is

-- its blocks hold what the job writes, from the lane's view
pub own_bytes : (x : Lane) (worker : ℕ) (ticket : TicketView) → IsRight x → ticket.input ≡ input_of x worker ticket.input.job → HoldsWork ticket
    → bytes_of ticket.frames ≡ worked_bytes ticket.input.job.kind ticket.input.job.part (lane_view x) (lane_command x)
own_bytes x worker ticket right is holds =
    let job = ticket.input.job in
    let seen : IsSeen (lane_view x) ticket.input = subst (IsSeen (lane_view x)) (sym is) (lane_seen x worker job right) in
    holds (lane_view x) seen ∙ ap (λ (i : Input). worked_bytes job.kind job.part (lane_view x) i.command) is

pub record IsBrought (core : GamesView) (job : JobName) (frames : List Frame) (value : Out) : Type 0 where
  pub there : job.game < length core.lanes
  pub out : (worker : ℕ) × (is_out worker (lane_of core.lanes job.game) job.kind job.part ≡ true)
  pub worked : value ≡ out_seen job.kind job.part (lane_view (lane_of core.lanes job.game)) (lane_command (lane_of core.lanes job.game))
  pub names : names_of frames ≡ names_for core.storage job
  pub holds : bytes_of frames ≡ worked_bytes job.kind job.part (lane_view (lane_of core.lanes job.game)) (lane_command (lane_of core.lanes job.game))

pub brings : (core : GamesView) (worker : ℕ) (ticket : TicketView) (job : JobName) (out : Out) → IsOwn core worker ticket → job ≡ ticket.input.job
    → IsRight (lane_of core.lanes job.game) → IsWorked ticket.input out → HoldsWork ticket → IsBrought core job ticket.frames out
brings core worker ticket job out own is right worked holds =
    let here = subst (λ (j : JobName). IsRight (lane_of core.lanes j.game)) is right in
    subst (λ (j : JobName). IsBrought core j ticket.frames out) (sym is)
    (record {
      there = own_there core worker ticket own;
      out = (worker, own_out core worker ticket own);
      worked = own_worked (lane_of core.lanes ticket.input.job.game) worker ticket.input out
          here own.input worked;
      names = own.frames;
      holds = own_bytes (lane_of core.lanes ticket.input.job.game) worker ticket here own.input holds;
    })
