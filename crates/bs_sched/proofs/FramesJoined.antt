-- What the Join gets from the parts, and what is given back to the pool after it.
use Rattle.std.proofs.Common.{◌≡◌, ℕ, ◌<◌, arith, List, [], ◌∷◌, ◌++◌, length, map, Option, Some, refl, sym, ap, subst, All, append-nil}
use Rattle.std.specs.Prelude.{flat_map, option_to_list, slice_index_or}
use Rattle.std.proofs.lemmas.List.{get_or-map, length-map}
use Rattle.std.proofs.lemmas.List.Elements.{All-nil, All-cons, All-head, All-tail}
use Rattle.bs_fiber.specs.declared.piece.Piece.{Piece}
use Rattle.bs_counter.specs.Keys.{TallyId}
use Rattle.bs_pool.specs.declared.owned.Owned.{Owned}
use Rattle.bs_pool.specs.Ledger.{Ledger}
use Rattle.bs_fiber.specs.Tickets.{bytes_of, frames_in, names_of}
use Rattle.bs_heap.specs.HeldBlocks.{AreOwned, Holds, LeavesOthers, all_given}
use Rattle.bs_heap.specs.inner.Lent.{AreLent, owned_numbers}
use Rattle.bs_heap.proofs.GivenBlocks.{lent_from_owned}
use Rattle.bs_heap.proofs.HeldBlocks.{holds_rest, leaves_rest}
use Rattle.bs_sched.specs.declared.parts.Part.{Part}
use Rattle.bs_sched.specs.declared.parts.Part.TheVariants as field
use Rattle.bs_sched.specs.inner.PartsLayout.{block_in, joined, pieces_in, view_of, AreReadyAt, IsReadyAt, IsPartOf}
use Rattle.bs_sched.specs.MoveParts.{PartView}
use Rattle.bs_sched.specs.inner.MoveParts.{joined_of, moved_of, number_of}
use Rattle.bs_sched.specs.MoveParts as part
use Rattle.bs_sched.specs.Frames.{Written, flattened}

-- ---- to the Join

abbrev blocks_in : {most : ℕ} → List (Part most) → List (Owned most)
blocks_in = flat_map (λ s. option_to_list (block_in s))

pub all_moved : {most : ℕ} (parts : List (Part most)) → flat_map (λ s. option_to_list (pieces_in s)) parts ≡ map (λ w. w.pieces) (flattened (map moved_of (map view_of parts)))
all_moved [] = refl
all_moved (field.Ready key ∷ parts) = all_moved parts
all_moved (field.Out worker block ∷ parts) = all_moved parts
all_moved (field.Joining block ∷ parts) = all_moved parts
all_moved (field.Done moved owned ∷ parts) = ap (λ (l : List (List Piece)). moved ∷ l) (all_moved parts)

pub all_bytes : {most : ℕ} (parts : List (Part most)) → bytes_of (frames_in (blocks_in parts)) ≡ map (λ w. w.bytes) (flattened (map moved_of (map view_of parts)))
all_bytes [] = refl
all_bytes (field.Ready key ∷ parts) = all_bytes parts
all_bytes (field.Out worker block ∷ parts) = all_bytes parts
all_bytes (field.Joining block ∷ parts) = all_bytes parts
all_bytes (field.Done moved owned ∷ parts) = ap (λ (l : List (List ℕ)). owned.block ∷ l) (all_bytes parts)

pub all_names : {most : ℕ} (tag : ℕ) (parts : List (Part most)) (all : List Written) → All (IsPartOf tag) parts → map moved_of (map view_of parts) ≡ map Some all
    → names_of (frames_in (blocks_in parts)) ≡ map (λ n. (tag, n)) (flattened (map number_of (map view_of parts)))
all_names tag [] all fit back = refl
all_names tag (field.Ready key ∷ parts) [] fit back = absurd cc
all_names tag (field.Ready key ∷ parts) (m ∷ all) fit back = absurd cc
all_names tag (field.Out worker block ∷ parts) [] fit back = absurd cc
all_names tag (field.Joining block ∷ parts) [] fit back = absurd cc
all_names tag (field.Out worker block ∷ parts) (m ∷ all) fit back = absurd cc
all_names tag (field.Joining block ∷ parts) (m ∷ all) fit back = absurd cc
all_names tag (field.Done moved owned ∷ parts) [] fit back = absurd cc
all_names tag (field.Done moved owned ∷ parts) (m ∷ all) fit back =
    let here = All-head (IsPartOf tag) (field.Done moved owned) parts fit in
    let others : map moved_of (map view_of parts) ≡ map Some all = cc in
    let rest = all_names tag parts all (All-tail (IsPartOf tag) (field.Done moved owned) parts fit) others in
    rw (here, rest) refl

pub views_joined : {most : ℕ} (parts : List (Part most)) → map view_of (map joined parts) ≡ map joined_of (map view_of parts)
views_joined [] = refl
views_joined (field.Ready key ∷ parts) = ap (λ (l : List PartView). part.Ready ∷ l) (views_joined parts)
views_joined (field.Out worker block ∷ parts) = ap (λ (l : List PartView). part.Out worker block ∷ l) (views_joined parts)
views_joined (field.Done moved owned ∷ parts) = ap (λ (l : List PartView). part.Joining owned.number ∷ l) (views_joined parts)
views_joined (field.Joining block ∷ parts) = ap (λ (l : List PartView). part.Joining block ∷ l) (views_joined parts)

sent_fits : {most : ℕ} (tag : ℕ) (s : Part most) → IsPartOf tag (joined s)
sent_fits tag (field.Ready key) = tt
sent_fits tag (field.Out worker block) = tt
sent_fits tag (field.Joining block) = tt
sent_fits tag (field.Done moved owned) = tt

pub all_sent_fit : {most : ℕ} (tag : ℕ) (parts : List (Part most)) → All (IsPartOf tag) (map joined parts)
all_sent_fit tag [] = All-nil (IsPartOf tag)
all_sent_fit tag (s ∷ parts) = All-cons (IsPartOf tag) (joined s) (map joined parts) (sent_fits tag s) (all_sent_fit tag parts)

-- ---- to the pool

pub named : {most : ℕ} (frames : List (Owned most)) (tag : ℕ) (numbers : List ℕ) → names_of (frames_in frames) ≡ map (λ n. (tag, n)) numbers
    → (owned_numbers frames ≡ numbers) × All (λ o. o.tag ≡ tag) frames
named [] tag [] names = (refl, All-nil (λ o. o.tag ≡ tag))
named [] tag (n ∷ numbers) names = absurd cc
named (f ∷ frames) tag [] names = absurd cc
named (f ∷ frames) tag (n ∷ numbers) names =
    let head : (f.tag, f.number) ≡ (tag, n) = cc in
    let tail : names_of (frames_in frames) ≡ map (λ n. (tag, n)) numbers = cc in
    let rest = named frames tag numbers tail in
    let number : f.number ≡ n = ap (λ (p : ℕ × ℕ). p.1) head in
    (rw (number, rest.0) refl, All-cons (λ o. o.tag ≡ tag) f frames (ap (λ (p : ℕ × ℕ). p.0) head) rest.1)

module _ {most : ℕ} (frames : List (Owned most)) (tag : ℕ) (numbers : List ℕ) (pool : Ledger) (names : names_of (frames_in frames) ≡ map (λ n. (tag, n)) numbers)
    (holds : Holds tag numbers pool) where
  pub lent : AreLent frames pool
  lent = let n = named frames tag numbers names in
      lent_from_owned frames tag pool n.1 (subst (λ (l : List ℕ). AreOwned tag l pool) (sym n.0) holds.owned)

  pub all_numbers : all_given (owned_numbers frames) pool ≡ all_given numbers pool
  all_numbers = ap (λ (l : List ℕ). all_given l pool) (named frames tag numbers names).0

  none_behind : Holds tag (numbers ++ []) pool
  none_behind = subst (λ (l : List ℕ). Holds tag l pool) (sym (append-nil numbers)) holds

  pub holds_none : Holds tag [] (all_given numbers pool)
  holds_none = holds_rest tag [] numbers pool none_behind

  pub others : LeavesOthers tag pool (all_given numbers pool)
  others = leaves_rest tag [] numbers pool none_behind.owned

-- a part that is ready keeps its key
sent_ready : {most : ℕ} (tally : Option TallyId) (parts p : ℕ) (s : Part most) → IsReadyAt tally parts p s → IsReadyAt tally parts p (joined s)
sent_ready tally parts p (field.Ready key) is = is
sent_ready tally parts p (field.Out worker block) is = tt
sent_ready tally parts p (field.Joining block) is = tt
sent_ready tally parts p (field.Done moved owned) is = tt

pub all_sent_ready : {most : ℕ} (tally : Option TallyId) (parts : List (Part most)) → AreReadyAt tally parts → AreReadyAt tally (map joined parts)
all_sent_ready {most} tally parts are p within =
    let many : length (map joined parts) ≡ length parts = length-map parts joined in
    let here : p < length parts = omega (arith, many, within) in
    let ready = sent_ready tally (length parts) p (slice_index_or parts p (field.Joining 0)) (are p here) in
    subst (λ (n : ℕ). IsReadyAt tally n p (slice_index_or (map joined parts) p (field.Joining 0))) (sym many)
    (subst (λ (s : Part most). IsReadyAt tally (length parts) p s) (sym (get_or-map joined parts p (field.Joining 0) (field.Joining 0) here)) ready)
