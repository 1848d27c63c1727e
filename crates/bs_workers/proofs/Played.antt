-- The core of one row, in which the commands for the row were queued first.
use Rattle.std.proofs.Common.{◌≡◌, ℕ, suc, ◌+◌, ◌<◌, true, List, [], ◌∷◌, ◌++◌, length, map, take, drop, get_or, Option, Some, None, refl, sym, ap, subst, ◌∙◌, arith, inl, inr}
use Rattle.std.specs.Prelude.{All, nat_eq, nat_lt, slice_index_or}
use Rattle.std.specs.List.{filter_map}
use Rattle.std.proofs.lemmas.Bool.{cases_Bool, cases_lt, ltb-true, ne_eqb}
use Rattle.std.proofs.lemmas.Bool.Decides.{eqb_tells}
use Rattle.std.proofs.lemmas.List.{append_assoc, append-nil, get_or-map, get_or_default, get_or_append_left, get_or_push, length-append, length-map, length-set, get_or-set_other, map-append, take_more}
use Rattle.std.proofs.lemmas.Grind.{get_or-set_at}
use Rattle.std.proofs.lemmas.List.Elements.{All-nil, All-append, All-cons, All-push, All-drop, All-take, filter_map-append}
use Rattle.bs_sched.specs.Assembly.{IsJob}
use Rattle.bs_sched.specs.Core.{CoreView}
use Rattle.bs_sched.specs.declared.event.Event.{Event}
use Rattle.bs_sched.specs.declared.event.Event.TheVariants as event
use Rattle.bs_workers.specs.declared.act.Act.{Act}
use Rattle.bs_workers.specs.declared.act.Act.TheVariants as act
use Rattle.bs_workers.specs.Acts.{command_in}
use Rattle.bs_workers.specs.Run.{acts_of}
use Rattle.bs_workers.specs.inner.Apart.{GoesOn, HavePlaces, IsPlayed, acts_at, placed_act}

-- the commands of one row, queued one after the other

pub queued_more : (acts : List Act) (i : ℕ) (next : Act) (row : ℕ) (old between new : List Event) → i < length acts → next ≡ get_or acts i next
    → between ≡ old ++ map (event.Hand 0) (filter_map (command_in row) (take i acts))
    → new ≡ between ++ map (event.Hand 0) (filter_map (command_in row) (next ∷ []))
    → new ≡ old ++ map (event.Hand 0) (filter_map (command_in row) (take (i + 1) acts))
queued_more acts i next row old between new within is before after =
    let some = filter_map (command_in row) (take i acts) in
    let one = filter_map (command_in row) (next ∷ []) in
    let more : take (i + 1) acts ≡ take i acts ++ next ∷ []
    = take_more acts i next within ∙ ap (λ (a : Act). take i acts ++ a ∷ []) (sym is) in
    let all : map (event.Hand 0) (filter_map (command_in row) (take (i + 1) acts)) ≡ map (event.Hand 0) some ++ map (event.Hand 0) one
    = ap (λ (a : List Act). map (event.Hand 0) (filter_map (command_in row) a)) more
    ∙ ap (map (event.Hand 0)) (filter_map-append (command_in row) (take i acts) (next ∷ [])) ∙ map-append (event.Hand 0) some one in
    after ∙ ap (λ (events : List Event). events ++ map (event.Hand 0) one) before
    ∙ append_assoc old (map (event.Hand 0) some) (map (event.Hand 0) one) ∙ ap (λ (events : List Event). old ++ events) (sym all)

-- the command at one more place is queued
pub queued_at : (acts : List Act) (places : List ℕ) (i : ℕ) (next : Act) (row : ℕ) (old between new : List Event) → i < length places
    → true ≡ nat_lt (get_or places i 0) (length acts) → next ≡ get_or acts (get_or places i 0) next
    → between ≡ old ++ map (event.Hand 0) (filter_map (command_in row) (take i (acts_at acts places)))
    → new ≡ between ++ map (event.Hand 0) (filter_map (command_in row) (next ∷ []))
    → new ≡ old ++ map (event.Hand 0) (filter_map (command_in row) (take (i + 1) (acts_at acts places)))
queued_at acts places i next row old between new within less is before after =
    let act_at = λ (place : ℕ). get_or acts place (act.Leave 0) in
    let there : i < length (acts_at acts places) = rw (length-map places act_at) within in
    let gets : next ≡ get_or (acts_at acts places) i (act.Leave 0)
    = is ∙ get_or_default acts (get_or places i 0) next (act.Leave 0) (ltb-true (get_or places i 0) (length acts) (sym less)) ∙ sym (get_or-map act_at places i 0 (act.Leave 0) within) in
    queued_more (acts_at acts places) i next row old between new there (gets ∙ get_or_default (acts_at acts places) i (act.Leave 0) next there) before after

-- the commands of the acts with one more
one_more_command : (acts : List Act) (i : ℕ) (next : Act) (row : ℕ) → i < length acts → next ≡ get_or acts i next
    → filter_map (command_in row) (take (i + 1) acts) ≡ filter_map (command_in row) (take i acts) ++ filter_map (command_in row) (next ∷ [])
one_more_command acts i next row within is =
    let more : take (i + 1) acts ≡ take i acts ++ next ∷ []
    = take_more acts i next within ∙ ap (λ (a : Act). take i acts ++ a ∷ []) (sym is) in
    ap (filter_map (command_in row)) more ∙ filter_map-append (command_in row) (take i acts) (next ∷ [])

-- the acts at the places so far have the commands of the first acts
abbrev pub ArePlaced : List Act → List (List ℕ) → ℕ → Type 0
ArePlaced acts places i =
    (row : ℕ) → row < length places → filter_map (command_in row) (acts_at acts (slice_index_or places row [])) ≡ filter_map (command_in row) (take i acts)

-- an act that has no command for the row adds no place to it
same_places : (acts : List Act) (i : ℕ) (next : Act) (row : ℕ) (old new : List ℕ) → i < length acts → next ≡ get_or acts i next
    → filter_map (command_in row) (next ∷ []) ≡ [] → new ≡ old
    → filter_map (command_in row) (acts_at acts old) ≡ filter_map (command_in row) (take i acts)
    → filter_map (command_in row) (acts_at acts new) ≡ filter_map (command_in row) (take (i + 1) acts)
same_places acts i next row old new within is none same before =
    ap (λ places. filter_map (command_in row) (acts_at acts places)) same ∙ before
    ∙ sym (one_more_command acts i next row within is ∙ ap (λ rest. filter_map (command_in row) (take i acts) ++ rest) none
    ∙ append-nil (filter_map (command_in row) (take i acts)))

-- a command of the row has one more place in it
next_place : (acts : List Act) (i : ℕ) (next : Act) (row : ℕ) (old new : List ℕ) → i < length acts → next ≡ get_or acts i next → new ≡ old ++ i ∷ []
    → filter_map (command_in row) (acts_at acts old) ≡ filter_map (command_in row) (take i acts)
    → filter_map (command_in row) (acts_at acts new) ≡ filter_map (command_in row) (take (i + 1) acts)
next_place acts i next row old new within is more before =
    let commands = filter_map (command_in row) in
    let gets : get_or acts i (act.Leave 0) ≡ next = sym (is ∙ get_or_default acts i next (act.Leave 0) within) in
    ap (λ places. commands (acts_at acts places)) more
    ∙ ap commands (map-append (λ place. get_or acts place (act.Leave 0)) old (i ∷ []))
    ∙ filter_map-append (command_in row) (acts_at acts old) (get_or acts i (act.Leave 0) ∷ [])
    ∙ ap (λ (a : Act). commands (acts_at acts old) ++ commands (a ∷ [])) gets
    ∙ ap (λ some. some ++ commands (next ∷ [])) before
    ∙ sym (one_more_command acts i next row within is)

pub many_placed : (next : Act) (i : ℕ) (places : List (List ℕ)) → length (placed_act next i places) ≡ length places
many_placed (act.Hand stay command) i places = length-set places stay (get_or places stay [] ++ i ∷ [])
many_placed (act.Admit row) i places = refl
many_placed (act.Leave stay) i places = refl

pub one_placed : (acts : List Act) (i : ℕ) (next : Act) (old new : List (List ℕ)) → i < length acts → next ≡ get_or acts i next → new ≡ placed_act next i old
    → ArePlaced acts old i → ArePlaced acts new (i + 1)
one_placed acts i (act.Hand stay command) old new there is added before =
    λ row within.
    let list = get_or old stay [] ++ i ∷ [] in
    let long : length new ≡ length old = ap length added ∙ length-set old stay list in
    let inside : row < length old = omega (arith, within, long) in
    elim (eqb_tells row stay) [
      | inl on ↦
          let same : row ≡ stay = on.1 in
          let gets : get_or new row [] ≡ get_or old row [] ++ i ∷ []
          = ap (λ lists. get_or lists row []) added ∙ get_or-set_at old stay row list [] same (subst (λ r. r < length old) same inside)
          ∙ ap (λ r. get_or old r [] ++ i ∷ []) (sym same) in
          next_place acts i (act.Hand stay command) row (get_or old row []) (get_or new row []) there is gets (before row inside)
      | inr off ↦
          let other : ¬ (row ≡ stay) = off.1 in
          let none : filter_map (command_in row) (act.Hand stay command ∷ []) ≡ [] = rw (ne_eqb stay row (λ e. other (sym e))) refl in
          same_places acts i (act.Hand stay command) row (get_or old row []) (get_or new row []) there is none
          (ap (λ lists. get_or lists row []) added ∙ get_or-set_other old stay row list [] other) (before row inside)
    ]
one_placed acts i (act.Admit added_row) old new there is added before =
    λ row within.
    same_places acts i (act.Admit added_row) row (get_or old row []) (get_or new row []) there is refl (ap (λ lists. get_or lists row []) added)
    (before row (subst (λ lists. row < length lists) added within))
one_placed acts i (act.Leave stay) old new there is added before =
    λ row within.
    same_places acts i (act.Leave stay) row (get_or old row []) (get_or new row []) there is refl (ap (λ lists. get_or lists row []) added)
    (before row (subst (λ lists. row < length lists) added within))

-- events that make no act are jobs
pub are_jobs : (events : List Event) → acts_of events ≡ [] → All IsJob events
are_jobs [] none = All-nil IsJob
are_jobs (event.Hand game command ∷ events) none = absurd cc
are_jobs (event.Take worker job ∷ events) none = All-cons IsJob (event.Take worker job) events tt (are_jobs events none)
are_jobs (event.Put worker job ∷ events) none = All-cons IsJob (event.Put worker job) events tt (are_jobs events none)
are_jobs (event.Admit row ∷ events) none = absurd cc
are_jobs (event.Leave game ∷ events) none = absurd cc

-- the commands of the row are queued, and jobs follow
pub played_on : (acts : List Act) (places : List (List ℕ)) (row : ℕ) (between new : CoreView)
    → (row < length places) × (between.journal ≡ map (event.Hand 0) (filter_map (command_in row) (acts_at acts (slice_index_or places row []))))
    → GoesOn between new → IsPlayed acts places row new
played_on acts places row between new queued on =
    λ have.
    let same : filter_map (command_in row) (acts_at acts (slice_index_or places row [])) ≡ filter_map (command_in row) acts = have row queued.0 in
    record {
      jobs = on.jobs;
      journal_is = on.journal ∙ ap (λ (events : List Event). events ++ on.jobs) (queued.1 ∙ ap (map (event.Hand 0)) same);
      are_jobs = on.are_jobs;
    }
