-- Reading values one after the other, as a loop does.
use Rattle.std.proofs.Common.{◌≡◌, ℕ, zero, suc, ◌-◌, ◌+◌, ◌≤◌, ◌<◌, Bool, true, length, List, [], ◌∷◌, ◌++◌, take, drop, min, Option, Some, None, refl, sym, ap, ◌∙◌, append_assoc, arith}
use Rattle.std.specs.List.{flat_map, list_all, AllByRecursion}
use Rattle.std.proofs.lemmas.List.{append-nil}
use Rattle.std.proofs.Math.Nat.{zero-min, min-zero}
use Rattle.bs_board.specs.declared.records.decode_error.Decode.{Decode}
use Rattle.bs_board.specs.declared.records.decode_error.Decode.TheVariants.{NotARecord, Memory}
use Rattle.bs_board.specs.inner.Decoder.{◌>>=◌, Fails, read_many}
use Rattle.bs_board.proofs.records.Fields.{AreBytes, bind_some, carried, Takes, takes_both}

-- what was read before, and what is still read
abbrev pub with_front : {X : Type 0} → List X → Option (List X × List ℕ) → Option (List X × List ℕ)
with_front front read = read >>= λ x. Some (front ++ x.0, x.1)

regroup : {X : Type 0} (front : List X) (x : X) (read : Option (List X × List ℕ)) → with_front front (read >>= λ xs. Some (x ∷ xs.0, xs.1)) ≡ with_front (front ++ x ∷ []) read
regroup {X = X} front x (Some xs) = ap (λ (ys : List X). Some (ys, xs.1)) (simp append_assoc)
regroup front x None = refl

pub goes_on : {X : Type 0} (one : List ℕ → Option (X × List ℕ)) (front next : List X) (count i : ℕ) (bytes : List ℕ) (x : X) (after : List ℕ) (total : Option (List X × List ℕ))
    → next ≡ front ++ x ∷ [] → i < count → one bytes ≡ Some (x, after)
    → with_front front (read_many one (count - i) bytes) ≡ total → with_front next (read_many one (count - (i + 1)) after) ≡ total
unfolding read_many
goes_on one front next count i bytes x after total longer within here so_far =
    let k : count - i ≡ suc (count - (i + 1)) = omega arith in
    let step : with_front front (read_many one (count - i) bytes) ≡ with_front (front ++ x ∷ []) (read_many one (count - (i + 1)) after) =
    rw (k, here) (regroup front x (read_many one (count - (i + 1)) after)) in
    rw longer (sym step ∙ so_far)

pub ends : {X : Type 0} (one : List ℕ → Option (X × List ℕ)) (error : Decode) (front : List X) (count i : ℕ) (bytes : List ℕ) (total : Option (List X × List ℕ))
    → i < count → Fails error (one bytes) → with_front front (read_many one (count - i) bytes) ≡ total → Fails error total
unfolding read_many
ends one NotARecord front count i bytes total within here so_far =
    let k : count - i ≡ suc (count - (i + 1)) = omega arith in
    let step : with_front front (read_many one (count - i) bytes) ≡ None = rw (k, here) refl in
    sym so_far ∙ step
ends one Memory front count i bytes total within here so_far = tt

pub is_done : {X : Type 0} (one : List ℕ → Option (X × List ℕ)) (front : List X) (count i : ℕ) (bytes : List ℕ) (total : Option (List X × List ℕ))
    → count ≤ i → with_front front (read_many one (count - i) bytes) ≡ total → total ≡ Some (front, bytes)
unfolding read_many
is_done {X = X} one front count i bytes total over so_far =
    let k : count - i ≡ 0 = omega arith in
    let step : with_front front (read_many one (count - i) bytes) ≡ Some (front, bytes) = rw k (ap (λ (xs : List X). Some (xs, bytes)) (append-nil front)) in
    sym so_far ∙ step

-- values that are read are written so, and pass what each one does
pub many_takes : {X : Type 0} (one : List ℕ → Option (X × List ℕ)) (text : X → List ℕ) (test : X → Bool)
    → ((bytes : List ℕ) (x : X) (rest : List ℕ) → AreBytes bytes → one bytes ≡ Some (x, rest) → Takes bytes (text x) rest × (test x ≡ true))
    → (count : ℕ) (bytes : List ℕ) (xs : List X) (rest : List ℕ) → AreBytes bytes → read_many one count bytes ≡ Some (xs, rest)
    → Takes bytes (flat_map text xs) rest × (length xs ≡ count) × (list_all test xs ≡ true)
unfolding read_many
many_takes {X = X} one text test law zero bytes xs rest fits e =
    let Q : List X × List ℕ → Type 0 = λ r. Takes bytes (flat_map text r.0) r.1 × (length r.0 ≡ 0) × (list_all test r.0 ≡ true) in
    carried Q ([], bytes) (xs, rest) e (record { parts = refl; rest_fits = fits }, refl, refl)
many_takes {X = X} one text test law (suc count) bytes xs rest fits e =
    let a = bind_some (one bytes) (λ first. read_many one count first.1 >>= λ others. Some (first.0 ∷ others.0, others.1)) (xs, rest) e in
    let b = bind_some (read_many one count a.0.1) (λ others. Some (a.0.0 ∷ others.0, others.1)) (xs, rest) a.2 in
    let first = law bytes a.0.0 a.0.1 fits a.1 in
    let others = many_takes one text test law count a.0.1 b.0.0 b.0.1 first.0.rest_fits b.1 in
    let both = takes_both bytes (text a.0.0) a.0.1 (flat_map text b.0.0) b.0.1 first.0 others.0 in
    let Q : List X × List ℕ → Type 0 = λ r. Takes bytes (flat_map text r.0) r.1 × (length r.0 ≡ suc count) × (list_all test r.0 ≡ true) in
    carried Q (a.0.0 ∷ b.0.0, b.0.1) (xs, rest) b.2 (both, ap suc others.1, rw (first.1) others.2)

-- values that are written are read again
pub many_again : {X : Type 0} (one : List ℕ → Option (X × List ℕ)) (text : X → List ℕ) (P : X → Type 0)
    → ((x : X) (rest : List ℕ) → P x → one (text x ++ rest) ≡ Some (x, rest))
    → (xs : List X) (rest : List ℕ) → AllByRecursion P xs → read_many one (length xs) (flat_map text xs ++ rest) ≡ Some (xs, rest)
unfolding read_many
many_again one text P law [] rest fits = refl
many_again one text P law (x ∷ xs) rest fits =
    rw (append_assoc (text x) (flat_map text xs) rest, law x (flat_map text xs ++ rest) fits.0, many_again one text P law xs rest fits.1) refl

-- of values that are written, as many are read as are requested, as far as there are any
pub some_again : {X : Type 0} (one : List ℕ → Option (X × List ℕ)) (text : X → List ℕ) (P : X → Type 0)
    → ((x : X) (rest : List ℕ) → P x → one (text x ++ rest) ≡ Some (x, rest))
    → (count : ℕ) (xs : List X) → AllByRecursion P xs
    → read_many one (min count (length xs)) (flat_map text xs) ≡ Some (take count xs, flat_map text (drop count xs))
unfolding read_many
some_again one text P law zero xs fits = rw (zero-min (length xs)) refl
some_again one text P law (suc count) [] fits = rw (min-zero (suc count)) refl
some_again one text P law (suc count) (x ∷ xs) fits =
    let more : min (suc count) (suc (length xs)) ≡ suc (min count (length xs)) = omega arith in
    rw (more, law x (flat_map text xs) fits.0, some_again one text P law count xs fits.1) refl
