-- Blocks get another tag and other numbers.
use Rattle.std.proofs.Common.{◌≡◌, ℕ, zero, suc, ◌<◌, List, [], ◌∷◌, ◌++◌, length, map, take, drop, slice_index_or, slice_set, refl, ap, arith}
use Rattle.std.specs.Prelude.{All, IfSome, Option, Some, None, option_map, option_to_list}
use Rattle.std.proofs.lemmas.List.Elements.{All-nil, All-cons, All-head, All-tail, All-map}
use Rattle.bs_pool.specs.declared.owned.Owned.{Owned}
use Rattle.bs_heap.specs.inner.Blocks.{block_numbers}
use Rattle.bs_heap.specs.inner.OwnedBlocks.{numbered_block}
use Rattle.bs_heap.specs.inner.Renaming.{renamed_owned, renamed_block}

-- a list of which the first k elements are mapped
abbrev pub mapped_below : {X : Type 0} → (X → X) → ℕ → List X → List X
mapped_below f k xs = map f (take k xs) ++ drop k xs

-- the next one is as it was
pub next_same : {X : Type 0} (f : X → X) (xs : List X) (k : ℕ) (d : X) → k < length xs → slice_index_or (mapped_below f k xs) k d ≡ slice_index_or xs k d
next_same f [] k d within = absurd (omega (arith, within))
next_same f (x ∷ xs) zero d within = refl
next_same f (x ∷ xs) (suc k) d within = next_same f xs k d (omega (arith, within))

-- it is mapped
pub next_mapped : {X : Type 0} (f : X → X) (xs : List X) (k : ℕ) (d : X) → k < length xs
    → slice_set (mapped_below f k xs) k (f (slice_index_or xs k d)) ≡ mapped_below f (suc k) xs
next_mapped f [] k d within = absurd (omega (arith, within))
next_mapped f (x ∷ xs) zero d within = refl
next_mapped f (x ∷ xs) (suc k) d within = ap (λ ys. f x ∷ ys) (next_mapped f xs k d (omega (arith, within)))

-- two maps, one after the other
pub map_twice : {X Y Z V : Type 0} (f : X → Y) (g : Y → Z) (f' : X → V) (g' : V → Z) → ((x : X) → g (f x) ≡ g' (f' x)) → (xs : List X) → map g (map f xs) ≡ map g' (map f' xs)
map_twice f g f' g' same [] = refl
map_twice f g f' g' same (x ∷ xs) = (λ i. same x i ∷ map_twice f g f' g' same xs i)

pub option_twice : {X Y Z V : Type 0} (f : X → Y) (g : Y → Z) (f' : X → V) (g' : V → Z) → ((x : X) → g (f x) ≡ g' (f' x)) → (o : Option X) → option_map g (option_map f o) ≡ option_map g' (option_map f' o)
option_twice f g f' g' same None = refl
option_twice f g f' g' same (Some x) = ap Some (same x)

-- the numbers of the blocks are those of the value
pub within_blocks : {most : ℕ} (n : ℕ) (closed : List (Owned most)) (current : Option (Owned most)) → All (λ m. m < n) (block_numbers (map numbered_block closed ++ option_to_list (option_map numbered_block current)))
    → All (λ o. o.number < n) closed × IfSome current (λ o. o.number < n)
within_blocks n [] None all = (All-nil (λ o. o.number < n), tt)
within_blocks n [] (Some o) all = (All-nil (λ b. b.number < n), all 0 o.number (omega arith))
within_blocks n (o ∷ closed) current all =
    let rest = block_numbers (map numbered_block closed ++ option_to_list (option_map numbered_block current)) in
    let more = within_blocks n closed current (All-tail (λ m. m < n) o.number rest all) in
    (All-cons (λ b. b.number < n) o closed (All-head (λ m. m < n) o.number rest all) more.0, more.1)

-- each block has the tag
module _ {most : ℕ} (tag : ℕ) (number : ℕ → ℕ) where
  pub closed_tagged : (closed : List (Owned most)) → All (λ o. o.tag ≡ tag) (map (renamed_owned tag number) closed)
  closed_tagged closed = All-map (λ (o : Owned most). o.tag ≡ tag) (renamed_owned tag number) closed (λ k d within. refl)

  pub current_tagged : (current : Option (Owned most)) → IfSome (option_map (renamed_owned tag number) current) (λ o. o.tag ≡ tag)
  current_tagged None = tt
  current_tagged (Some o) = refl

  pub closed_renamed : (closed : List (Owned most)) → map numbered_block (map (renamed_owned tag number) closed) ≡ map (renamed_block number) (map numbered_block closed)
  closed_renamed = map_twice (renamed_owned tag number) numbered_block numbered_block (renamed_block number) (λ o. refl)

  pub current_renamed : (current : Option (Owned most)) → option_map numbered_block (option_map (renamed_owned tag number) current) ≡ option_map (renamed_block number) (option_map numbered_block current)
  current_renamed = option_twice (renamed_owned tag number) numbered_block numbered_block (renamed_block number) (λ o. refl)
