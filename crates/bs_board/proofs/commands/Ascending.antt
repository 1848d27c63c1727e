-- Lists of directions whose ids ascend.
use Rattle.std.proofs.Common.{◌≡◌, ℕ, List, [], ◌∷◌, true, false, refl, Less, Equal, Greater, ◌∙◌}
use Rattle.std.specs.Cmp.Lexicographic.{slice_cmp, texts_ties}
use Rattle.std.specs.List.{list_any}
use Rattle.std.specs.Ordering.{nat_cmp, is_lt}
use Rattle.std.specs.declared.cmp.Ordering.{Ordering}
use Rattle.std.proofs.lemmas.Cmp.{nat_list_cmp_total}
use Rattle.bs_board.specs.declared.boards.point.Direction.{Direction}
use Rattle.bs_board.specs.Texts.{is_same_text, is_text_below}
use Rattle.bs_board.specs.commands.Orders.{Orders, IsFitOrders, are_distinct_moves, is_ascending}
use Rattle.bs_board.specs.inner.Orders.{IsAscendingOrders}
use Rattle.bs_board.proofs.Chains.{and_both}

less_is : (o : Ordering) → is_lt o ≡ true → o ≡ Less
less_is Less h = refl
less_is Equal h = let wrong : false ≡ true = h in cc
less_is Greater h = let wrong : false ≡ true = h in cc

below_before : (a b c : List ℕ) → is_text_below a b ≡ true → is_text_below b c ≡ true → is_text_below a c ≡ true
below_before a b c h k = rw (nat_list_cmp_total.trans a b c (less_is (slice_cmp nat_cmp a b) h) (less_is (slice_cmp nat_cmp b c) k)) refl

below_is_other : (a b : List ℕ) → is_text_below a b ≡ true → is_same_text a b ≡ false
below_is_other a b h = texts_ties a b ∙ rw (less_is (slice_cmp nat_cmp a b) h) refl

-- an id below the first one is not among them
below_is_none : (id : List ℕ) (x : List ℕ × Direction) (rest : List (List ℕ × Direction)) → is_text_below id x.0 ≡ true → is_ascending (x ∷ rest) ≡ true
    → list_any (λ entry. is_same_text id entry.0) (x ∷ rest) ≡ false
below_is_none id x [] below h = rw (below_is_other id x.0 below) refl
below_is_none id x (y ∷ rest) below h =
    let parts = and_both (is_text_below x.0 y.0) (is_ascending (y ∷ rest)) h in
    rw (below_is_other id x.0 below) (below_is_none id y rest (below_before id x.0 y.0 below parts.0) parts.1)

-- so ascending ids are distinct
pub ascending_ids_are_distinct : (moves : List (List ℕ × Direction)) → is_ascending moves ≡ true → are_distinct_moves moves ≡ true
ascending_ids_are_distinct [] h = refl
ascending_ids_are_distinct (x ∷ []) h = refl
ascending_ids_are_distinct (x ∷ y ∷ rest) h =
    let parts = and_both (is_text_below x.0 y.0) (is_ascending (y ∷ rest)) h in
    rw (below_is_none x.0 y rest parts.0 parts.1) (ascending_ids_are_distinct (y ∷ rest) parts.1)

-- a value of the type `Move` is within the limits
pub ascending_orders_fit : (orders : Orders) → IsAscendingOrders orders → IsFitOrders orders
ascending_orders_fit orders kept = record { texts = kept.texts; distinct = ascending_ids_are_distinct orders.moves kept.ascending; words = kept.words }
