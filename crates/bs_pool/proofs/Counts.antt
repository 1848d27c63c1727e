-- A count of a list, at its head and after one write.
use Rattle.std.proofs.Common.{◌≡◌, ℕ, ◌+◌, Bool, cond, List, ◌∷◌, Some, slice_get, slice_set, subst}
use Rattle.std.specs.Prelude.{count_by}
use Rattle.std.proofs.lemmas.List.Sums.{sum_by-cons, sum_by-set}
use Rattle.std.proofs.lemmas.Option.{slice_get_within, get_or_from_slice_get}

pub count_cons : {X : Type 0} (p : X → Bool) (x : X) (xs : List X) → count_by p (x ∷ xs) ≡ cond (p x) 1 0 + count_by p xs
count_cons p x xs = sum_by-cons (λ y. cond (p y) 1 0) x xs

pub count_when : {X : Type 0} (p : X → Bool) (x : X) (xs : List X) (b : Bool) → p x ≡ b → count_by p (x ∷ xs) ≡ cond b 1 0 + count_by p xs
count_when p x xs b is =
    let P : Bool → Type 0 = λ c. count_by p (x ∷ xs) ≡ cond c 1 0 + count_by p xs in
    subst P is (count_cons p x xs)

pub count_set : {X : Type 0} (p : X → Bool) (xs : List X) (i : ℕ) (x y : X) → slice_get xs i ≡ Some x
    → count_by p (slice_set xs i y) + cond (p x) 1 0 ≡ count_by p xs + cond (p y) 1 0
count_set {X} p xs i x y at =
    let P : X → Type 0 = λ z. count_by p (slice_set xs i y) + cond (p z) 1 0 ≡ count_by p xs + cond (p y) 1 0 in
    subst P (get_or_from_slice_get xs i x x at) (sum_by-set (λ z. cond (p z) 1 0) xs i y x (slice_get_within xs i x at))
