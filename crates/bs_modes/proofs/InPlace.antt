-- A list changed in place, one entry after the other.
use Rattle.std.proofs.Common.{◌≡◌, ℕ, suc, zero, ◌+◌, List, [], ◌∷◌, ◌++◌, Some, slice_get, map, take, drop, set, refl, ap, add-one}

set_here : {X : Type 0} (f : X → X) (xs : List X) (i : ℕ) (x : X) → slice_get (map f (take i xs) ++ drop i xs) i ≡ Some x
    → set (map f (take i xs) ++ drop i xs) i (f x) ≡ map f (take (suc i) xs) ++ drop (suc i) xs
set_here f [] zero x g = refl
set_here f [] (suc i) x g = refl
set_here f (y ∷ xs) zero x g = let same : y ≡ x = cc in rw same refl
set_here f (y ∷ xs) (suc i) x g = ap (λ t. f y ∷ t) (set_here f xs i x g)

-- the entry after the finished ones is written
pub set_next : {X : Type 0} (f : X → X) (xs zs : List X) (i : ℕ) (x y : X) → zs ≡ map f (take i xs) ++ drop i xs
    → slice_get zs i ≡ Some x → y ≡ f x → set zs i y ≡ map f (take (i + 1) xs) ++ drop (i + 1) xs
set_next f xs zs i x y e g h =
    let there : slice_get (map f (take i xs) ++ drop i xs) i ≡ Some x = rw (← e) g in
    rw (e, h, add-one) (set_here f xs i x there)
