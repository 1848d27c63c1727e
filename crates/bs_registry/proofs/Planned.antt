-- The rows of a plan are listed one after the other.
use Rattle.std.proofs.Common.{◌≡◌, ℕ, ◌+◌, ◌<◌, List, [], ◌∷◌, ◌++◌, drop, get_or, length, map, sym, ap, ◌∙◌, refl, arith, append-nil, append_assoc}
use Rattle.std.specs.List.{enumerate_from}
use Rattle.std.proofs.lemmas.List.{drop_all, drop_more, length-map}
use Rattle.bs_board.specs.plans.Plan.{GameRow, row_of}
use Rattle.bs_registry.specs.declared.registry.Listed.{Listed}
use Rattle.bs_registry.specs.OpenStays.{OpenStayList, open_from, open_of, open_stays_of}
use Rattle.bs_registry.specs.Registry.{listed_from, listing_of, rows_open, seen}
use Rattle.bs_registry.specs.Stays.{open_stay}

module _ {X : Type 0} (kept : GameRow → X) where
  pub one_more_listed : (rows : List GameRow) (index : ℕ) (row : GameRow) (value : X) (old new : List (Listed X)) → index < length rows
      → row ≡ get_or rows index (row_of [] 0) → value ≡ kept row → new ≡ old ++ record { number = index; row = row; kept = value } ∷ []
      → old ++ listed_from kept index (drop index rows) ≡ listed_from kept 0 rows
      → new ++ listed_from kept (index + 1) (drop (index + 1) rows) ≡ listed_from kept 0 rows
  one_more_listed rows index row value old new within is value_is pushed before =
      let next = ap (listed_from kept index) (drop_more rows index (row_of [] 0) within) in
      let rest = listed_from kept (index + 1) (drop (index + 1) rows) in
      ap (λ stays. stays ++ rest) pushed
      ∙ append_assoc old (record { number = index; row = row; kept = value } ∷ []) rest
      ∙ ap (λ v. old ++ record { number = index; row = row; kept = v } ∷ rest) value_is
      ∙ ap (λ first. old ++ record { number = index; row = first; kept = kept first } ∷ rest) is
      ∙ ap (λ stays. old ++ stays) (sym next) ∙ before

  pub all_listed : (rows : List GameRow) (stays : List (Listed X)) (end : ℕ) → end ≡ length rows
      → stays ++ listed_from kept end (drop end rows) ≡ listed_from kept 0 rows → stays ≡ listed_from kept 0 rows
  all_listed rows stays end is before =
      let none : [] ≡ drop end rows = sym (drop_all end rows (omega (arith, is))) in
      sym (append-nil stays) ∙ ap (λ left. stays ++ listed_from kept end left) none ∙ before

  pub rows_listed : (first : ℕ) (rows : List GameRow) → rows_open (listed_from kept first rows) ≡ enumerate_from first rows
  rows_listed first [] = refl
  rows_listed first (row ∷ rows) = ap (λ rest. (first, row) ∷ rest) (rows_listed (first + 1) rows)

  -- the open rows of a plan

  pub listed_rows : (rows all : List GameRow) (stays : List (Listed X)) → all ≡ rows → stays ≡ listed_from kept 0 all → rows_open stays ≡ enumerate_from 0 rows
  listed_rows rows all stays same are = ap rows_open are ∙ rows_listed 0 all ∙ ap (enumerate_from 0) same

pub rows_are_open : (first : ℕ) (rows : List GameRow) → open_from first (map open_stay rows) ≡ enumerate_from first rows
rows_are_open first [] = refl
rows_are_open first (row ∷ rows) = ap (λ rest. (first, row) ∷ rest) (rows_are_open (first + 1) rows)

abbrev open_stays_with : ℕ → List (ℕ × GameRow) → OpenStayList
open_stays_with made stays = record { made = made; stays = stays }

pub plan_open : {X : Type 0} (rows : List GameRow) (stays : List (Listed X)) → rows_open stays ≡ enumerate_from 0 rows
    → seen (listing_of (length rows) stays) ≡ open_stays_of (map open_stay rows)
plan_open rows stays are =
    ap (open_stays_with (length rows)) (are ∙ sym (rows_are_open 0 rows))
    ∙ ap (λ n. open_stays_with n (open_of (map open_stay rows))) (sym (length-map rows open_stay))
