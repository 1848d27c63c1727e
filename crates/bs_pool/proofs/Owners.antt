-- The counts, and the owners of other numbers, after a number is drawn or given back.
use Rattle.std.proofs.Common.{◌≡◌, ◌≢◌, ℕ, ◌+◌, ◌<◌, true, not, List, [], ◌∷◌, length, Option, Some, None, slice_get, slice_index_or, slice_set, subst, refl, sym, ap, ◌∙◌, arith}
use Rattle.std.specs.Prelude.{count_by, position}
use Rattle.std.proofs.lemmas.Bool.{eq-eqb, ne_eqb}
use Rattle.std.proofs.lemmas.List.{length-set, get_or-set_same, get_or-set_other}
use Rattle.std.proofs.lemmas.List.Quantifiers.{position-Some}
use Rattle.std.proofs.lemmas.Option.{slice_get_within, slice_get-get_or, get_or_from_slice_get}
use Rattle.bs_pool.specs.Ledger.{Ledger, is_unowned, is_owned_by, size, free, held, least_free, Owns, drawn, given}
use Rattle.bs_pool.specs.declared.owned.Owned.{Owned}
use Rattle.bs_pool.specs.DrawAnswer.{Draws}
use Rattle.bs_pool.proofs.Counts.{count_cons, count_set}

free_is_none : (o : Option ℕ) → is_unowned o ≡ true → o ≡ None
free_is_none None free = refl
free_is_none (Some owner) free = cc

pub free_at : (owners : List (Option ℕ)) (n : ℕ) → position is_unowned owners ≡ Some n → slice_get owners n ≡ Some None
free_at owners n at =
    let found = position-Some is_unowned owners n None at in
    slice_get-get_or owners n None found.0 ∙ ap Some (free_is_none _ found.1)

-- the same number, as a read of its place gives it
pub first_is_free : (owners : List (Option ℕ)) (n : ℕ) (o : Option ℕ) → position is_unowned owners ≡ Some n → o ≡ slice_index_or owners n o → o ≡ None
first_is_free owners n o at here = free_is_none o (ap is_unowned here ∙ (position-Some is_unowned owners n o at).1)

-- a draw: the tag holds one more, each other tag as many, and one number less is free
pub held_drawn : (pool : Ledger) (tag n : ℕ) → least_free pool ≡ Some n → held tag (drawn tag n pool) ≡ held tag pool + 1
held_drawn pool tag n at =
    let e = count_set (is_owned_by tag) pool.owners n None (Some tag) (free_at pool.owners n at) in
    let e' = rw (eq-eqb tag tag refl) at e in
    omega (arith, e')

pub held_drawn_other : (pool : Ledger) (tag n other : ℕ) → least_free pool ≡ Some n → tag ≢ other
    → held other (drawn tag n pool) ≡ held other pool
held_drawn_other pool tag n other at apart =
    let e = count_set (is_owned_by other) pool.owners n None (Some tag) (free_at pool.owners n at) in
    let e' = rw (ne_eqb tag other apart) at e in
    omega (arith, e')

pub free_drawn : (pool : Ledger) (tag n : ℕ) → least_free pool ≡ Some n → free (drawn tag n pool) + 1 ≡ free pool
free_drawn pool tag n at =
    let e = count_set is_unowned pool.owners n None (Some tag) (free_at pool.owners n at) in
    omega (arith, e)

pub size_drawn : (pool : Ledger) (tag n : ℕ) → size (drawn tag n pool) ≡ size pool
size_drawn pool tag n = length-set pool.owners n (Some tag)

-- a number is given back: the tag holds one less, each other tag as many, and one more number is
-- free
pub held_given : (pool : Ledger) (tag n : ℕ) → Owns tag n pool → held tag (given n pool) + 1 ≡ held tag pool
held_given pool tag n owns =
    let e = count_set (is_owned_by tag) pool.owners n (Some tag) None owns in
    let e' = rw (eq-eqb tag tag refl) at e in
    omega (arith, e')

pub held_given_other : (pool : Ledger) (tag n other : ℕ) → Owns tag n pool → tag ≢ other → held other (given n pool) ≡ held other pool
held_given_other pool tag n other owns apart =
    let e = count_set (is_owned_by other) pool.owners n (Some tag) None owns in
    let e' = rw (ne_eqb tag other apart) at e in
    omega (arith, e')

pub free_given : (pool : Ledger) (tag n : ℕ) → Owns tag n pool → free (given n pool) ≡ free pool + 1
free_given pool tag n owns =
    let e = count_set is_unowned pool.owners n (Some tag) None owns in
    omega (arith, e)

pub size_given : (pool : Ledger) (n : ℕ) → size (given n pool) ≡ size pool
size_given pool n = length-set pool.owners n None

-- the owners afterwards
get_set_same : (xs : List (Option ℕ)) (i : ℕ) (y : Option ℕ) → i < length xs → slice_get (slice_set xs i y) i ≡ Some y
get_set_same xs i y within =
    let long : i < length (slice_set xs i y) = omega (arith, length-set xs i y) in
    slice_get-get_or (slice_set xs i y) i y long ∙ ap Some (get_or-set_same xs i y y within)

get_set_other : (xs : List (Option ℕ)) (i j : ℕ) (x y : Option ℕ) → slice_get xs j ≡ Some x → j ≢ i → slice_get (slice_set xs i y) j ≡ Some x
get_set_other xs i j x y at apart =
    let long : j < length (slice_set xs i y) = omega (arith, length-set xs i y, slice_get_within xs j x at) in
    slice_get-get_or (slice_set xs i y) j x long ∙ ap Some (get_or-set_other xs i j y x apart ∙ get_or_from_slice_get xs j x x at)

pub owns_drawn : (pool : Ledger) (tag n : ℕ) → least_free pool ≡ Some n → Owns tag n (drawn tag n pool)
owns_drawn pool tag n at = get_set_same pool.owners n (Some tag) (slice_get_within pool.owners n None (free_at pool.owners n at))

pub still_owns_drawn : (pool : Ledger) (tag n other m : ℕ) → least_free pool ≡ Some n → Owns other m pool → Owns other m (drawn tag n pool)
still_owns_drawn pool tag n other m at owns =
    let apart : m ≢ n = λ same. let here : slice_get pool.owners n ≡ Some (Some other) = rw (← same) owns in let none = free_at pool.owners n at in cc in
    get_set_other pool.owners n m (Some other) (Some tag) owns apart

-- the owner of another number, whatever the draw returns
pub still_owns_draw : {most : ℕ} (old new : Ledger) (tag other m : ℕ) (answer : Option (Owned most)) → Draws tag old answer new → Owns other m old → Owns other m new
still_owns_draw old new tag other m None (full, same) owns = subst (Owns other m) (sym same) owns
still_owns_draw old new tag other m (Some owned) is owns =
    subst (Owns other m) (sym is.4) (still_owns_drawn old tag owned.number other m is.2 owns)

pub still_owns_given : (pool : Ledger) (n other m : ℕ) → Owns other m pool → m ≢ n → Owns other m (given n pool)
still_owns_given pool n other m owns apart = get_set_other pool.owners n m (Some other) None owns apart

-- one number has one owner
pub one_owner : (pool : Ledger) (tag other n m : ℕ) → Owns tag n pool → Owns other m pool → tag ≢ other → m ≢ n
one_owner pool tag other n m owns owns' apart =
    λ same. let here : slice_get pool.owners n ≡ Some (Some other) = rw (← same) owns' in apart cc

-- each number is free or owned
abbrev pub owned : List (Option ℕ) → ℕ
owned owners = count_by (λ o. not (is_unowned o)) owners

free_and_owned : (owners : List (Option ℕ)) → count_by is_unowned owners + owned owners ≡ length owners
free_and_owned [] = refl
free_and_owned (None ∷ owners) =
    let e = count_cons is_unowned None owners in
    let e' = count_cons (λ o. not (is_unowned o)) None owners in
    omega (arith, e, e', free_and_owned owners)
free_and_owned (Some tag ∷ owners) =
    let e = count_cons is_unowned (Some tag) owners in
    let e' = count_cons (λ o. not (is_unowned o)) (Some tag) owners in
    omega (arith, e, e', free_and_owned owners)

pub all_numbers : (pool : Ledger) → free pool + owned pool.owners ≡ size pool
all_numbers pool = free_and_owned pool.owners
