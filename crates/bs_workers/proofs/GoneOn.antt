-- What calls of a core add to its journal: jobs.
use Rattle.std.proofs.Common.{◌≡◌, ℕ, List, [], ◌∷◌, ◌++◌, Option, Some, None, refl, sym, ap, subst, ◌∙◌}
use Rattle.std.specs.Prelude.{All}
use Rattle.std.proofs.lemmas.List.{append-nil, append_assoc}
use Rattle.std.proofs.lemmas.List.Elements.{All-nil, All-append, All-cons}
use Rattle.bs_fiber.specs.Tickets.{TicketView}
use Rattle.bs_fiber.specs.declared.job.JobName.{JobName}
use Rattle.bs_sched.specs.Assembly.{IsJob}
use Rattle.bs_sched.specs.Core.{CoreView, core_after}
use Rattle.bs_sched.specs.Parts.{core_run, puts_of}
use Rattle.bs_sched.specs.declared.event.Event.{Event}
use Rattle.bs_sched.specs.declared.event.Event.TheVariants as event
use Rattle.bs_workers.specs.inner.Apart.{GoesOn}
use Rattle.bs_workers.specs.inner.Making.{Makes}
use Rattle.bs_workers.proofs.Played.{are_jobs}

pub goes_on_none : (core : CoreView) → GoesOn core core
goes_on_none core = record { jobs = []; journal = sym (append-nil core.journal); are_jobs = All-nil IsJob; workers = refl }

pub goes_on_both : (old between new : CoreView) → GoesOn old between → GoesOn between new → GoesOn old new
goes_on_both old between new first second =
    record {
      jobs = first.jobs ++ second.jobs;
      journal =
          second.journal ∙ ap (λ (events : List Event). events ++ second.jobs) first.journal
          ∙ append_assoc old.journal first.jobs second.jobs;
      are_jobs = All-append IsJob first.jobs second.jobs first.are_jobs second.are_jobs;
      workers = second.workers ∙ first.workers;
    }

-- a command that is answered where it is
pub goes_on_here : (old new : CoreView) → Makes [] old new → GoesOn old new
goes_on_here old new made =
    record { jobs = made.added; journal = made.journal; are_jobs = are_jobs made.added made.acted; workers = made.workers }

pub goes_on_put : (cap : ℕ) (old new : CoreView) (worker : ℕ) (job : JobName) → new ≡ core_after cap old (event.Put worker job) → GoesOn old new
goes_on_put cap old new worker job is =
    record {
      jobs = event.Put worker job ∷ [];
      journal = ap (λ (c : CoreView). c.journal) is;
      are_jobs = All-cons IsJob (event.Put worker job) [] tt (All-nil IsJob);
      workers = ap (λ (c : CoreView). c.games.workers) is;
    }

parts_go_on : (cap : ℕ) (old : CoreView) (parts : List (Option TicketView)) → GoesOn old (core_run cap old (puts_of parts))
parts_go_on cap old [] = goes_on_none old
parts_go_on cap old (None ∷ parts) = parts_go_on cap old parts
parts_go_on cap old (Some done ∷ parts) =
    let next = core_after cap old (event.Put done.input.worker done.input.job) in
    goes_on_both old next (core_run cap next (puts_of parts)) (goes_on_put cap old next done.input.worker done.input.job refl) (parts_go_on cap next parts)

pub goes_on_parts : (cap : ℕ) (old new : CoreView) (parts : List (Option TicketView)) → new ≡ core_run cap old (puts_of parts) → GoesOn old new
goes_on_parts cap old new parts is = subst (GoesOn old) (sym is) (parts_go_on cap old parts)
