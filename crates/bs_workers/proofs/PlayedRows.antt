-- Which rows the threads of a run play, and when: one more row.
use Rattle.std.proofs.Common.{◌≡◌, ℕ, zero, suc, ◌+◌, ◌<◌, Bool, cond, List, [], ◌∷◌, ◌++◌, length, take, get_or, refl, sym, ap, ◌∙◌, arith, add-zero}
use Rattle.std.specs.List.{filter, range_with_len}
use Rattle.std.proofs.lemmas.List.{take_more}
use Rattle.std.proofs.lemmas.List.Elements.{filter-append}

range_more : (a n : ℕ) → range_with_len a (suc n) ≡ range_with_len a n ++ (a + n) ∷ []
range_more a zero = rw add-zero refl
range_more a (suc n) =
    let place : (a + 1) + n ≡ a + suc n = omega arith in
    ap (λ t. a ∷ t) (range_more (a + 1) n ∙ ap (λ k. range_with_len (a + 1) n ++ k ∷ []) place)

-- one more number was tested
pub one_more_number : (p : ℕ → Bool) (n : ℕ) (test : Bool) (old new : List ℕ) → test ≡ p n → old ≡ filter p (range_with_len 0 n)
    → new ≡ old ++ cond test (n ∷ []) [] → new ≡ filter p (range_with_len 0 (n + 1))
one_more_number p n test old new tested before added =
    let on : n + 1 ≡ suc n = omega arith in
    let last : 0 + n ≡ n = omega arith in
    let more : range_with_len 0 (n + 1) ≡ range_with_len 0 n ++ n ∷ []
    = ap (range_with_len 0) on ∙ range_more 0 n ∙ ap (λ k. range_with_len 0 n ++ k ∷ []) last in
    added ∙ ap (λ some. some ++ cond test (n ∷ []) []) before ∙ ap (λ b. filter p (range_with_len 0 n) ++ cond b (n ∷ []) []) tested
    ∙ sym (filter-append p (range_with_len 0 n) (n ∷ [])) ∙ ap (filter p) (sym more)

-- one more row of the list was tested
pub one_more_of : (p : ℕ → Bool) (rows : List ℕ) (i d : ℕ) (test : Bool) (old new : List ℕ) → i < length rows → test ≡ p (get_or rows i d)
    → old ≡ filter p (take i rows) → new ≡ old ++ cond test (get_or rows i d ∷ []) [] → new ≡ filter p (take (i + 1) rows)
one_more_of p rows i d test old new within tested before added =
    let row = get_or rows i d in
    added ∙ ap (λ some. some ++ cond test (row ∷ []) []) before ∙ ap (λ b. filter p (take i rows) ++ cond b (row ∷ []) []) tested
    ∙ sym (filter-append p (take i rows) (row ∷ [])) ∙ ap (filter p) (sym (take_more rows i d within))
