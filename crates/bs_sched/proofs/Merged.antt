-- What is left of journals while they are merged.
use Rattle.std.proofs.Common.{◌≡◌, ℕ, ◌<◌, true, false, List, [], ◌∷◌, ◌++◌, drop, length, Option, Some, None, refl, sym, ap, ◌∙◌, arith}
use Rattle.std.specs.Prelude.{IsSome, option_to_list, slice_index_or}
use Rattle.std.proofs.lemmas.List.{length-set}
use Rattle.bs_sched.specs.declared.event.Event.{Event}
use Rattle.bs_sched.specs.declared.event.Event.TheVariants as event
use Rattle.bs_sched.specs.declared.step.Step.{Step}
use Rattle.bs_sched.specs.declared.step.Step.TheVariants as step
use Rattle.bs_sched.specs.Assembly.{job_at, jobs_at}
use Rattle.bs_sched.specs.inner.Merging.{first_event, lefts_after, lefts_then}

pub is_first : (old new : List Event) (first : Option Event) → old ≡ option_to_list first ++ new → (0 < length old → IsSome first) → first ≡ first_event old
is_first [] new None is some = refl
is_first [] new (Some e) is some = cc
is_first (x ∷ old) new None is some = let wrong : false ≡ true = some (omega arith) in absurd cc
is_first (x ∷ old) new (Some e) is some = ap first_event (sym is)

pub is_rest : (old new : List Event) (first : Option Event) → old ≡ option_to_list first ++ new → (0 < length old → IsSome first) → new ≡ drop 1 old
is_rest [] new None is some = sym is
is_rest [] new (Some e) is some = cc
is_rest (x ∷ old) new None is some = let wrong : false ≡ true = some (omega arith) in absurd cc
is_rest (x ∷ old) new (Some e) is some = sym (ap (drop 1) is)

-- the jobs of jobs
pub jobs_again : (row : ℕ) (journal : List Event) → jobs_at row (jobs_at 0 journal) ≡ jobs_at row journal
jobs_again row [] = refl
jobs_again row (event.Hand game command ∷ journal) = jobs_again row journal
jobs_again row (event.Take worker job ∷ journal) = ap (λ es. event.Take worker (job_at row job) ∷ es) (jobs_again row journal)
jobs_again row (event.Put worker job ∷ journal) = ap (λ es. event.Put worker (job_at row job) ∷ es) (jobs_again row journal)
jobs_again row (event.Admit new ∷ journal) = jobs_again row journal
jobs_again row (event.Leave game ∷ journal) = jobs_again row journal

-- each row still has a journal

pub many_then : (act : Step) (lefts : List (List Event)) → length (lefts_then act lefts) ≡ length lefts
many_then (step.Hand row) lefts = length-set lefts row (drop 1 (slice_index_or lefts row []))
many_then (step.Admit row) lefts = refl
many_then (step.Leave row) lefts = length-set lefts row []

pub many_left : (order : List Step) (lefts : List (List Event)) → length (lefts_after order lefts) ≡ length lefts
many_left [] lefts = refl
many_left (act ∷ order) lefts = many_left order (lefts_then act lefts) ∙ many_then act lefts
