-- Blocks that are given back to their pool.
use Rattle.std.proofs.Common.{◌≡◌, ◌≢◌, ℕ, ◌<◌, List, [], ◌∷◌, ◌++◌, length, map, slice_index_or, Option, Some, None, refl, sym, ap, subst, ◌∙◌, arith, inl, inr}
use Rattle.std.specs.Prelude.{All, option_to_list}
use Rattle.std.proofs.lemmas.Bool.{cases_eq}
use Rattle.std.proofs.lemmas.List.{set_comm, map-append, map_push, length-map, get_or-map, length_push, get_or_append_left, get_or_push}
use Rattle.bs_pool.specs.Ledger.{Ledger, Owns, given}
use Rattle.bs_pool.specs.declared.owned.Owned.{Owned}
use Rattle.bs_pool.proofs.Owners.{still_owns_given}
use Rattle.bs_heap.specs.Blocks.{NumberedBlock}
use Rattle.bs_heap.specs.inner.Blocks.{block_numbers}
use Rattle.bs_heap.specs.HeldBlocks.{AreOwned, all_given}
use Rattle.bs_heap.specs.inner.Lent.{AreLent, owned_numbers}
use Rattle.bs_heap.specs.inner.OwnedBlocks.{numbered_block}

-- two numbers may be given in either order
pub given_comm : (m n : ℕ) (pool : Ledger) → given m (given n pool) ≡ given n (given m pool)
given_comm m n pool =
    elim (cases_eq n m) [
      | inl same ↦ (λ i. given (sym same i) (given (same i) pool))
      | inr apart ↦ ap (λ (os : List (Option ℕ)). record pool { owners = os }) (set_comm pool.owners n m None None apart)
    ]

pub all_given_first : (numbers : List ℕ) (n : ℕ) (pool : Ledger) → all_given numbers (given n pool) ≡ given n (all_given numbers pool)
all_given_first [] n pool = refl
all_given_first (m ∷ numbers) n pool = ap (all_given numbers) (given_comm m n pool) ∙ all_given_first numbers n (given m pool)

pub all_given-append : (xs ys : List ℕ) (pool : Ledger) → all_given (xs ++ ys) pool ≡ all_given ys (all_given xs pool)
all_given-append [] ys pool = refl
all_given-append (x ∷ xs) ys pool = all_given-append xs ys (given x pool)

pub all_given_last : (numbers : List ℕ) (n : ℕ) (pool : Ledger) → all_given (numbers ++ n ∷ []) pool ≡ all_given numbers (given n pool)
all_given_last numbers n pool = all_given-append numbers (n ∷ []) pool ∙ sym (all_given_first numbers n pool)

module _ {most : ℕ} (blocks : List (Owned most)) (last : Owned most) (pool : Ledger) (lent : AreLent (blocks ++ last ∷ []) pool) where
  there : length blocks < length (blocks ++ last ∷ [])
  there = omega (arith, length_push blocks last)

  before : (k : ℕ) (d : Owned most) → k < length blocks → slice_index_or (blocks ++ last ∷ []) k d ≡ slice_index_or blocks k d
  before k d h = get_or_append_left blocks (last ∷ []) d k h

  at_last : (d : Owned most) → slice_index_or (blocks ++ last ∷ []) (length blocks) d ≡ last
  at_last d = get_or_push blocks last d (length blocks) refl

  pub last_lent : Owns last.tag last.number pool
  last_lent = let P : Owned most → Type 0 = λ o. Owns o.tag o.number pool in subst P (at_last last) (lent.each (length blocks) last there)

  apart : (k : ℕ) (d : Owned most) → k < length blocks → (slice_index_or blocks k d).number ≢ last.number
  apart k d h =
      let P : Owned most → Type 0 = λ o. o.number ≢ last.number in
      let Q : Owned most → Type 0 = λ o. (slice_index_or (blocks ++ last ∷ []) k d).number ≢ o.number in
      subst P (before k d h) (subst Q (at_last d) (lent.once k (length blocks) d h there))

  pub rest_lent : AreLent blocks (given last.number pool)
  rest_lent =
      let owns : (k : ℕ) (d : Owned most) → k < length blocks → Owns (slice_index_or blocks k d).tag (slice_index_or blocks k d).number pool = λ k d h.
      let P : Owned most → Type 0 = λ o. Owns o.tag o.number pool in subst P (before k d h) (lent.each k d (omega (arith, there))) in
      let once : (i j : ℕ) (d : Owned most) → i < j → j < length blocks → (slice_index_or blocks i d).number ≢ (slice_index_or blocks j d).number = λ i j d below h.
      let P : Owned most → Type 0 = λ o. o.number ≢ (slice_index_or blocks j d).number in
      let Q : Owned most → Type 0 = λ o. (slice_index_or (blocks ++ last ∷ []) i d).number ≢ o.number in
      subst P (before i d (omega arith)) (subst Q (before j d h) (lent.once i j d below (omega (arith, there)))) in
      record {
        each = λ k d h. still_owns_given pool last.number (slice_index_or blocks k d).tag (slice_index_or blocks k d).number (owns k d h) (apart k d h);
        once = once;
      }

  pub last_given : all_given (owned_numbers (blocks ++ last ∷ [])) pool ≡ all_given (owned_numbers blocks) (given last.number pool)
  last_given = ap (λ ns. all_given ns pool) (map_push (λ (o : Owned most). o.number) blocks last) ∙ all_given_last (owned_numbers blocks) last.number pool

-- the numbers of blocks, seen with and without their tags
pub numbers_filled : {most : ℕ} (blocks : List (Owned most)) → block_numbers (map numbered_block blocks) ≡ owned_numbers blocks
numbers_filled [] = refl
numbers_filled (b ∷ blocks) = ap (λ ns. b.number ∷ ns) (numbers_filled blocks)

pub lent_from_owned : {most : ℕ} (blocks : List (Owned most)) (tag : ℕ) (pool : Ledger) → All (λ o. o.tag ≡ tag) blocks → AreOwned tag (owned_numbers blocks) pool → AreLent blocks pool
lent_from_owned {most} blocks tag pool tagged owned =
    let long : length (owned_numbers blocks) ≡ length blocks = length-map blocks (λ (o : Owned most). o.number) in
    let at : (k : ℕ) (d : Owned most) → k < length blocks → slice_index_or (owned_numbers blocks) k d.number ≡ (slice_index_or blocks k d).number = λ k d h. get_or-map (λ (o : Owned most). o.number) blocks k d d.number h in
    record {
      each = λ k d h.
          let o = slice_index_or blocks k d in
          let owns : Owns tag o.number pool = subst (λ n. Owns tag n pool) (at k d h) (owned.each k d.number (omega (arith, long))) in
          rw (tagged k d h) owns;
      once = λ i j d below h e. owned.once i j d.number below (omega (arith, long)) (at i d (omega arith) ∙ e ∙ sym (at j d h));
    }

-- the closed blocks first, and then the current one
module _ (closed : List NumberedBlock) (current : Option NumberedBlock) where
  pub all_numbers : block_numbers (closed ++ option_to_list current) ≡ block_numbers closed ++ block_numbers (option_to_list current)
  all_numbers = map-append (λ (f : NumberedBlock). f.number) closed (option_to_list current)

  pub all_given_in_turn : (pool : Ledger) → all_given (block_numbers (closed ++ option_to_list current)) pool ≡ all_given (block_numbers (option_to_list current)) (all_given (block_numbers closed) pool)
  all_given_in_turn pool = ap (λ ns. all_given ns pool) all_numbers ∙ all_given-append (block_numbers closed) (block_numbers (option_to_list current)) pool

pub current_owned : {most : ℕ} (owned : Owned most) (tag : ℕ) (current : Option NumberedBlock) (pool : Ledger) → owned.tag ≡ tag → current ≡ Some (numbered_block owned)
    → AreOwned tag (block_numbers (option_to_list current)) pool → Owns owned.tag owned.number pool
current_owned owned tag current pool tagged is all =
    let one : AreOwned tag (owned.number ∷ []) pool = subst (λ (o : Option NumberedBlock). AreOwned tag (block_numbers (option_to_list o)) pool) is all in
    rw tagged (one.each 0 0 (omega arith))
