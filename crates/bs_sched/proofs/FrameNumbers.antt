-- Numbers that a tag owns, with one more somewhere among them.
use Rattle.std.proofs.Common.{◌≡◌, ◌≢◌, ℕ, zero, suc, List, [], ◌∷◌, ◌++◌, slice_get, slice_index_or, Option, Some, None, refl, sym, ap, arith, set}
use Rattle.std.specs.Prelude.{All, AllPairs}
use Rattle.std.proofs.lemmas.List.{length-append}
use Rattle.std.proofs.lemmas.List.Elements.{All-cons, All-head, All-tail}
use Rattle.std.proofs.lemmas.List.Kept.{AllPairs-cons}
use Rattle.bs_pool.specs.Ledger.{Ledger, Owns, least_free, drawn}
use Rattle.bs_pool.proofs.Owners.{held_drawn, owns_drawn, still_owns_drawn}
use Rattle.bs_heap.specs.HeldBlocks.{Holds}
use Rattle.bs_heap.proofs.HeldBlocks.{not_free}
use Rattle.bs_sched.specs.Frames.{flattened}

pub all_inserted : {X : Type 0} (P : X → Type 0) (front back : List X) (x : X) → All P (front ++ back) → P x → All P (front ++ x ∷ back)
all_inserted P [] back x all here = All-cons P x back here all
all_inserted P (y ∷ front) back x all here =
    All-cons P y (front ++ x ∷ back) (All-head P y (front ++ back) all) (all_inserted P front back x (All-tail P y (front ++ back) all) here)

pairs_tail : {X : Type 0} (R : X → X → Type 0) (x : X) (xs : List X) → AllPairs R (x ∷ xs) → All (R x) xs × AllPairs R xs
pairs_tail R x xs pairs = (λ k d h. pairs 0 (suc k) d (omega arith) (omega arith), λ i j d below h. pairs (suc i) (suc j) d (omega arith) (omega arith))

pairs_inserted : (front back : List ℕ) (n : ℕ) → AllPairs (λ l m. l ≢ m) (front ++ back) → All (λ m. m ≢ n) (front ++ back) → AllPairs (λ l m. l ≢ m) (front ++ n ∷ back)
pairs_inserted [] back n pairs all = AllPairs-cons (λ l m. l ≢ m) n back (λ k d h e. all k d h (sym e)) pairs
pairs_inserted (m ∷ front) back n pairs all =
    let rest = pairs_tail (λ l m. l ≢ m) m (front ++ back) pairs in
    AllPairs-cons (λ l m. l ≢ m) m (front ++ n ∷ back) (all_inserted (λ l. m ≢ l) front back n rest.0 (All-head (λ l. l ≢ n) m (front ++ back) all))
    (pairs_inserted front back n rest.1 (All-tail (λ l. l ≢ n) m (front ++ back) all))

pub holds_inserted : (tag n : ℕ) (pool : Ledger) (front back : List ℕ) → least_free pool ≡ Some n → Holds tag (front ++ back) pool → Holds tag (front ++ n ∷ back) (drawn tag n pool)
holds_inserted tag n pool front back at holds =
    let o = holds.owned in
    record {
      owned = record {
        each =
            all_inserted (λ m. Owns tag m (drawn tag n pool)) front back n
            (λ k d h. still_owns_drawn pool tag n tag (slice_index_or (front ++ back) k d) at (o.each k d h)) (owns_drawn pool tag n at);
        once = pairs_inserted front back n o.once (λ k d h. not_free tag (slice_index_or (front ++ back) k d) n pool at (o.each k d h));
      };
      all = omega (arith, held_drawn pool tag n at, holds.all, length-append front back, length-append front (n ∷ back));
    }

-- the numbers before and after a part that has none
pub parted : (numbers : List (Option ℕ)) (part n : ℕ) → slice_get numbers part ≡ Some None
    → (front : List ℕ) × (back : List ℕ) × (flattened numbers ≡ front ++ back) × (flattened (set numbers part (Some n)) ≡ front ++ n ∷ back)
parted [] part n free = absurd cc
parted (None ∷ numbers) zero n free = ([], flattened numbers, refl, refl)
parted (Some m ∷ numbers) zero n free = absurd (let wrong : Some (Some m) ≡ Some None = free in cc)
parted (None ∷ numbers) (suc part) n free = parted numbers part n free
parted (Some m ∷ numbers) (suc part) n free =
    let p = parted numbers part n free in
    (m ∷ p.0, p.1, ap (λ (l : List ℕ). m ∷ l) p.2, ap (λ (l : List ℕ). m ∷ l) p.3)
