-- Games that are changed one after the other.
use Rattle.std.proofs.Common.{◌≡◌, ℕ, ◌+◌, ◌<◌, ◌≤◌, List, length, set, get_or, ◌∙◌, arith, inl, inr}
use Rattle.std.proofs.lemmas.Bool.{cases_eq}
use Rattle.std.proofs.lemmas.List.{get_or_default, get_or-set_same, get_or-set_other}

module _ {G : Type 0} (P : ℕ → G → G → Type 0) (games0 games : List G) (n : ℕ) (new d0 : G) (within : n < length games) (long : length games ≡ length games0)
    (rest : (i : ℕ) (d : G) → n ≤ i → get_or games i d ≡ get_or games0 i d) where
  -- P holds of each game so far
  pub one_more : ((i : ℕ) (d : G) → i < n → P i (get_or games0 i d) (get_or games i d)) → P n (get_or games n d0) new
      → (i : ℕ) (d : G) → i < n + 1 → P i (get_or games0 i d) (get_or (set games n new) i d)
  one_more played here i d low = elim (cases_eq i n) [
    | inl same ↦
        let e : get_or games n d0 ≡ get_or games0 n d = get_or_default games n d0 d within ∙ rest n d (omega arith) in
        rw (same, get_or-set_same games n new d within, ← e) here
    | inr other ↦ rw (get_or-set_other games n i new d other) (played i d (omega arith))
  ]

  pub others_rest : (i : ℕ) (d : G) → n + 1 ≤ i → get_or (set games n new) i d ≡ get_or games0 i d
  others_rest i d high =
      let other : (i ≡ n → ⊥) = λ e. omega arith in
      get_or-set_other games n i new d other ∙ rest i d (omega arith)
