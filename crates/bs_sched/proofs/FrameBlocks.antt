-- The parts of a game's parts, filled and emptied.
use Rattle.std.proofs.Common.{◌≡◌, ℕ, zero, suc, ◌+◌, ◌<◌, All, List, [], ◌∷◌, length, map, drop, get_or, Option, Some, None, slice_get, replicate, refl, sym, ap, ◌∙◌, subst, arith}
use Rattle.std.specs.Prelude.{Bool, true, false, ◌&&◌, MatchOption, slice_index_or}
use Rattle.std.specs.List.{list_all}
use Rattle.std.proofs.lemmas.List.{length-map}
use Rattle.std.proofs.lemmas.List.Elements.{All-cons, All-nil}
use Rattle.bs_counter.specs.Keys.{Key, TallyId}
use Rattle.bs_sched.specs.declared.parts.Part.{Part}
use Rattle.bs_sched.specs.declared.parts.Part.TheVariants as field
use Rattle.bs_sched.specs.PartState.{PartState}
use Rattle.bs_sched.specs.PartState as state
use Rattle.bs_sched.specs.MoveParts.{PartView}
use Rattle.bs_sched.specs.inner.MoveParts.{number_of, state_of}
use Rattle.bs_sched.specs.MoveParts as part
use Rattle.bs_sched.specs.inner.PartsLayout.{number_in, part_in, state_in, view_of, AreReadyAt, IsReadyAt, IsPartOf}
use Rattle.bs_sched.specs.Lane.{is_part_done, is_part_ready}
use Rattle.bs_sched.specs.Frames.{flattened}
use Rattle.bs_sched.specs.Keyed.{IsKeyAt}
use Rattle.bs_sched.specs.inner.Keyed.{AreKeysOf}

-- the state of a part, read from the list
pub state_read : {most : ℕ} (parts : List (Part most)) (p : ℕ) → slice_index_or (map state_of (map view_of parts)) p state.Done ≡ state_in (part_in parts p)
state_read [] p = refl
state_read (s ∷ parts) zero = refl
state_read (s ∷ parts) (suc p) = state_read parts p

pub there : {most : ℕ} (parts : List (Part most)) (p : ℕ) (v : PartView) → slice_get (map view_of parts) p ≡ Some v → p < length parts
there [] p v is = absurd cc
there (s ∷ parts) zero v is = omega arith
there (s ∷ parts) (suc p) v is = let rest = there parts p v is in omega arith

-- the numbers of the blocks
pub numbers_read : {most : ℕ} (parts : List (Part most)) → map number_in parts ≡ map number_of (map view_of parts)
numbers_read [] = refl
numbers_read (s ∷ parts) = ap (λ (l : List (Option ℕ)). number_in s ∷ l) (numbers_read parts)

pub number_got : {most : ℕ} (parts : List (Part most)) (p : ℕ) (s : Part most) → p < length parts → s ≡ get_or parts p s
    → slice_index_or (map number_of (map view_of parts)) p None ≡ number_in s
number_got [] p s within is = absurd (omega arith)
number_got (t ∷ parts) zero s within is = ap number_in (sym is)
number_got (t ∷ parts) (suc p) s within is = number_got parts p s (omega arith) is

-- the first part that is ready, by its state
pub found_state : {most : ℕ} (parts : List (Part most)) (states : List PartState) (found : Option ℕ) → map state_of (map view_of parts) ≡ states
    → MatchOption found ((p : ℕ) → is_part_ready (state_in (part_in parts p)) ≡ false) (λ p. is_part_ready (state_in (part_in parts p)) ≡ true)
    → MatchOption found ((p : ℕ) → is_part_ready (slice_index_or states p state.Done) ≡ false) (λ p. is_part_ready (slice_index_or states p state.Done) ≡ true)
found_state parts states None same none = λ p.
    ap (λ (l : List PartState). is_part_ready (slice_index_or l p state.Done)) (sym same) ∙ ap is_part_ready (state_read parts p) ∙ none p
found_state parts states (Some p) same found =
    ap (λ (l : List PartState). is_part_ready (slice_index_or l p state.Done)) (sym same) ∙ ap is_part_ready (state_read parts p) ∙ found

pub all_done : {most : ℕ} (parts : List (Part most)) → list_all (λ p. is_part_done (state_in p)) parts ≡ list_all is_part_done (map state_of (map view_of parts))
all_done [] = refl
all_done (s ∷ parts) = ap (λ (b : Bool). is_part_done (state_in s) && b) (all_done parts)

-- ---- the keys

pub ready_views : (most : ℕ) (keys : List Key) → map (view_of {most = most}) (map (λ key. field.Ready key) keys) ≡ replicate (length keys) part.Ready
ready_views most [] = refl
ready_views most (key ∷ keys) = ap (λ (l : List PartView). part.Ready ∷ l) (ready_views most keys)

pub no_block_stands : {most : ℕ} (tag : ℕ) (keys : List Key) → All (IsPartOf {most = most} tag) (map (λ key. field.Ready key) keys)
no_block_stands tag [] = All-nil (IsPartOf tag)
no_block_stands tag (key ∷ keys) = All-cons (IsPartOf tag) (field.Ready key) (map (λ k. field.Ready k) keys) tt (no_block_stands tag keys)

key_at_part : {most : ℕ} (keys : List Key) (p : ℕ) (key : Key) → slice_get keys p ≡ Some key
    → ◌≡◌ {A = Part most} (slice_index_or (map (λ k. field.Ready k) keys) p (field.Joining 0)) (field.Ready key)
key_at_part [] p key is = let wrong : None ≡ Some key = is in absurd cc
key_at_part (first ∷ keys) zero key is = let same : first ≡ key = let e : Some first ≡ Some key = is in cc in ap (λ (k : Key). field.Ready k) same
key_at_part (first ∷ keys) (suc p) key is = key_at_part keys p key is

pub ready_with_keys : (most : ℕ) (tally : Option TallyId) (keys : List Key) → AreKeysOf tally (length keys) keys
    → AreReadyAt {most = most} tally (map (λ key. field.Ready key) keys)
ready_with_keys most tally keys are p within =
    let ready : Key → Part most = λ k. field.Ready k in
    let many : length (map ready keys) ≡ length keys = length-map keys ready in
    let here = are.all.each p (omega (arith, many, within)) in
    let key : IsKeyAt tally (length (map ready keys)) p here.0 =
    record { part = here.2; parts = here.3 ∙ sym many; named = are.named ∙ ap (λ (t : TallyId). Some t) (sym here.4) } in
    subst (λ (s : Part most). IsReadyAt tally (length (map ready keys)) p s) (sym (key_at_part keys p here.0 here.1)) key

-- the key of a ready part is its own
pub key_in : {most : ℕ} (tally : Option TallyId) (parts : List (Part most)) (p : ℕ) (key : Key) → AreReadyAt tally parts → p < length parts
    → slice_index_or parts p (field.Joining 0) ≡ field.Ready key → IsKeyAt tally (length parts) p key
key_in {most} tally parts p key are within is = subst (λ (s : Part most). IsReadyAt tally (length parts) p s) is (are p within)

-- a part without a number is skipped
passed : {most : ℕ} (parts : List (Part most)) (i : ℕ) (s : Part most) → i < length parts → s ≡ get_or parts i s → number_in s ≡ None
    → flattened (map number_in (drop i parts)) ≡ flattened (map number_in (drop (suc i) parts))
passed [] i s within is none = absurd (omega arith)
passed (x ∷ parts) zero s within is none =
    let here : number_in x ≡ None = ap number_in (sym is) ∙ none in
    ap (λ (o : Option ℕ). flattened (o ∷ map number_in parts)) here
passed (x ∷ parts) (suc i) s within is none = passed parts i s (omega arith) is none

pub known_passed : {most : ℕ} (parts : List (Part most)) (i : ℕ) (s : Part most) → i < length parts → s ≡ get_or parts i s → number_in s ≡ None
    → flattened (map number_in (drop i parts)) ≡ flattened (map number_in (drop (i + 1) parts))
known_passed parts i s within is none = let next : i + 1 ≡ suc i = omega arith in rw next (passed parts i s within is none)
