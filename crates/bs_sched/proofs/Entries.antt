-- The events of entries, and those of a command that was answered in place.
use Rattle.std.proofs.Common.{◌≡◌, ℕ, suc, ◌+◌, true, List, [], ◌∷◌, ◌++◌, length, map, refl, sym, ap, subst, ◌∙◌, arith, append_assoc}
use Rattle.std.specs.Prelude.{◌==◌}
use Rattle.std.specs.List.{range_with_len}
use Rattle.std.proofs.lemmas.Bool.{eqb-true}
use Rattle.std.proofs.lemmas.List.{flat_map_more}
use Rattle.std.proofs.lemmas.List.FromFn.{map-range_with_len_more}
use Rattle.bs_sched.specs.declared.entry.Entry.{Entry}
use Rattle.bs_sched.specs.declared.entry.Entry.TheVariants as entry
use Rattle.bs_sched.specs.declared.event.Event.{Event}
use Rattle.bs_sched.specs.declared.event.Event.TheVariants as event
use Rattle.bs_sched.specs.Answering.{job_events, join_job, move_events, part_puts, part_takes}
use Rattle.bs_sched.specs.Parts.{part_job}
use Rattle.bs_sched.specs.inner.Entries.{all_events, events_of}

-- an entry more has its events at the end
pub one_more_entry : (before events : List Event) (entries new : List Entry) (e : Entry) → events_of e ≡ events → new ≡ entries ++ e ∷ []
    → before ++ all_events new ≡ (before ++ all_events entries) ++ events
one_more_entry before events entries new e is after =
    ap (λ es. before ++ all_events es) after ∙ sym (flat_map_more events_of before entries e) ∙ ap (λ es. (before ++ all_events entries) ++ es) is

-- each entry has an event, so there are no events if and only if there are no entries

pub none_counted : (entries : List Entry) (count : ℕ) → count ≡ length entries → (count == 0) ≡ true → all_events entries ≡ []
none_counted [] count is none = refl
none_counted (e ∷ entries) count is none = let wrong : suc (length entries) ≡ 0 = sym is ∙ eqb-true count 0 none in absurd (omega (arith, wrong))

not_first : (e : Event) (events : List Event) → e ∷ events ≡ [] → ⊥
not_first e events is = cc

pub count_none : (entries : List Entry) (count : ℕ) → count ≡ length entries → all_events entries ≡ [] → (count == 0) ≡ true
count_none [] count is none = subst (λ (n : ℕ). (n == 0) ≡ true) (sym is) refl
count_none (entry.Hand game command ∷ entries) count is none = absurd (not_first _ _ none)
count_none (entry.Take worker job ∷ entries) count is none = absurd (not_first _ _ none)
count_none (entry.Put worker job ∷ entries) count is none = absurd (not_first _ _ none)
count_none (entry.Admit row ∷ entries) count is none = absurd (not_first _ _ none)
count_none (entry.Leave game ∷ entries) count is none = absurd (not_first _ _ none)
count_none (entry.Answered worker game parts ∷ entries) count is none = absurd (not_first _ _ none)

one_more : (f : ℕ → Event) (old now new : List Event) (p : ℕ) → now ≡ old ++ map f (range_with_len 0 p) → new ≡ now ++ f p ∷ []
    → new ≡ old ++ map f (range_with_len 0 (p + 1))
one_more f old now new p before after =
    after ∙ ap (λ (events : List Event). events ++ f p ∷ []) before ∙ append_assoc old (map f (range_with_len 0 p)) (f p ∷ [])
    ∙ ap (λ (events : List Event). old ++ events) (sym (map-range_with_len_more f 0 p p (omega arith)))

pub one_more_take : (worker game p : ℕ) (old now new : List Event) → new ≡ now ++ event.Take worker (part_job game p) ∷ [] → now ≡ old ++ part_takes worker game p
    → new ≡ old ++ part_takes worker game (p + 1)
one_more_take worker game p old now new after before = one_more (λ q. event.Take worker (part_job game q)) old now new p before after

pub one_more_put : (worker game p : ℕ) (old now new : List Event) → new ≡ now ++ event.Put worker (part_job game p) ∷ [] → now ≡ old ++ part_puts worker game p
    → new ≡ old ++ part_puts worker game (p + 1)
one_more_put worker game p old now new after before = one_more (λ q. event.Put worker (part_job game q)) old now new p before after

pub all_pushed : (worker game parts : ℕ) (old takes puts new : List Event) → new ≡ puts ++ job_events worker (join_job game) → takes ≡ old ++ part_takes worker game parts
    → puts ≡ takes ++ part_puts worker game parts → new ≡ old ++ move_events worker game parts
all_pushed worker game parts old takes puts new last first middle =
    let ts = part_takes worker game parts in
    let ps = part_puts worker game parts in
    let join = job_events worker (join_job game) in
    last ∙ ap (λ (events : List Event). events ++ join) (middle ∙ ap (λ (events : List Event). events ++ ps) first)
    ∙ append_assoc (old ++ ts) ps join ∙ append_assoc old ts (ps ++ join)
