-- The rows of the open stays.
use Rattle.std.proofs.Common.{◌≡◌, ℕ, zero, suc, ◌+◌, ◌<◌, Bool, true, false, List, [], ◌∷◌, length, refl, sym, ap, subst, ◌∙◌, arith, inl, inr}
use Rattle.std.specs.Prelude.{All, ◌&&◌, ◌||◌, if◌then◌else◌, nat_eq, not, slice_index_or}
use Rattle.std.specs.List.{list_all}
use Rattle.std.proofs.lemmas.Bool.{cases_Bool}
use Rattle.std.proofs.lemmas.List.{length-map}
use Rattle.std.proofs.lemmas.List.Elements.{All-nil, All-cons, All-head, All-tail, All-weaker}
use Rattle.bs_board.proofs.Chains.{and_both}
use Rattle.bs_board.specs.plans.Plan.{GameRow}
use Rattle.bs_registry.specs.declared.registry.Listed.{Listed}
use Rattle.bs_registry.specs.OpenStays.{OpenStayList, open_from, open_stays_of}
use Rattle.bs_registry.specs.Registry.{Listing, row_open, rows_open, seen}
use Rattle.bs_sched.specs.Registry.{registry_of}
use Rattle.bs_sched.specs.inner.GamesLayout.{numbers_in, numbers_of, open_rows, open_rows_from}
use Rattle.bs_sched.specs.declared.stage.Stage.{Stage}
use Rattle.bs_sched.specs.declared.stage.Stage.TheVariants as stage
use Rattle.bs_sched.specs.Lane.{Lane, has_begin, has_join, is_idle, is_quiet, occupies}
use Rattle.bs_sched.specs.Machine.{is_busy, lane_of}

pub numbers_listed : {X : Type 0} (stays : Listing X) (lanes : List Lane) → seen stays ≡ open_stays_of (registry_of lanes)
    → numbers_in stays.stays ≡ open_rows lanes
numbers_listed stays lanes is = ap (λ (all : OpenStayList). numbers_of all.stays) is

-- each is a row

pub as_many_numbers : {X : Type 0} (stays : List (Listed X)) → length (numbers_in stays) ≡ length stays
as_many_numbers stays = length-map (rows_open stays) (λ (at : ℕ × GameRow). at.0) ∙ length-map stays row_open

within_from : (from : ℕ) (lanes : List Lane) → All (λ game. game < from + length lanes) (open_rows_from from lanes)
within_from from [] = All-nil (λ game. game < from + 0)
within_from from (x ∷ lanes) =
    let P : ℕ → Type 0 = λ game. game < from + length (x ∷ lanes) in
    let rest : All P (open_rows_from (from + 1) lanes)
    = All-weaker (λ game. game < from + 1 + length lanes) P (λ game less. omega (arith, less)) (open_rows_from (from + 1) lanes) (within_from (from + 1) lanes) in
    elim (cases_Bool x.is_open) [
      | inl stands ↦ rw stands (All-cons P from (open_rows_from (from + 1) lanes) (omega arith) rest)
      | inr shut ↦ rw shut rest
    ]

pub open_within : (lanes : List Lane) → All (λ game. game < length lanes) (open_rows lanes)
open_within lanes = All-weaker (λ game. game < 0 + length lanes) (λ game. game < length lanes) (λ game less. omega (arith, less)) (open_rows lanes) (within_from 0 lanes)

numbers_all : {X : Type 0} (P : ℕ → Type 0) (stays : List (Listed X)) → All P (numbers_in stays) → All (λ stay. P stay.number) stays
numbers_all P [] all = All-nil (λ stay. P stay.number)
numbers_all P (x ∷ stays) all =
    All-cons (λ stay. P stay.number) x stays (All-head P x.number (numbers_in stays) all) (numbers_all P stays (All-tail P x.number (numbers_in stays) all))

pub listed_within : {X : Type 0} (stays : List (Listed X)) (lanes : List Lane) → numbers_in stays ≡ open_rows lanes
    → All (λ stay. stay.number < length lanes) stays
listed_within stays lanes is = numbers_all (λ game. game < length lanes) stays (rw is (open_within lanes))

-- and each open stay's row is in the list

pub record IsListed (rows : List ℕ) (game : ℕ) : Type 0 where
  pub place : ℕ
  pub within : place < length rows
  pub is : slice_index_or rows place 0 ≡ game

listed_from : (from game : ℕ) (lanes : List Lane) → game < length lanes → (lane_of lanes game).is_open ≡ true → IsListed (open_rows_from from lanes) (from + game)
listed_from from game [] within stands = absurd (omega arith)
listed_from from zero (x ∷ lanes) within stands =
    let open_now : x.is_open ≡ true = stands in
    rw open_now (record { place = 0; within = omega arith; is = omega arith })
listed_from from (suc game) (x ∷ lanes) within stands =
    let rest = listed_from (from + 1) game lanes (omega arith) stands in
    let less = rest.within in
    let is : slice_index_or (open_rows_from (from + 1) lanes) rest.place 0 ≡ from + suc game = let same = rest.is in omega (arith, same) in
    elim (cases_Bool x.is_open) [
      | inl open_now ↦ rw open_now (record { place = suc rest.place; within = omega (arith, less); is = is })
      | inr shut ↦ rw shut (record { place = rest.place; within = less; is = is })
    ]

pub open_listed : (lanes : List Lane) (game : ℕ) → game < length lanes → (lane_of lanes game).is_open ≡ true → IsListed (open_rows lanes) game
open_listed lanes game within stands =
    let none : 0 + game ≡ game = omega arith in
    subst (λ (row : ℕ). IsListed (open_rows lanes) row) none (listed_from 0 game lanes within stands)

-- among listed stays

module _ {X : Type 0} where
  pub number_read : (stays : List (Listed X)) (place : ℕ) (stay : Listed X) → place < length stays → stay ≡ slice_index_or stays place stay
      → slice_index_or (numbers_in stays) place 0 ≡ stay.number
  number_read [] place stay within at = absurd (omega arith)
  number_read (x ∷ stays) zero stay within at = ap (λ (s : Listed X). s.number) (sym at)
  number_read (x ∷ stays) (suc place) stay within at = number_read stays place stay (omega (arith, within)) at

  pub some_busy : (f : ℕ → Bool) (stays : List (Listed X)) (place : ℕ) (stay : Listed X) → place < length stays → stay ≡ slice_index_or stays place stay
      → f stay.number ≡ false → list_all f (numbers_in stays) ≡ false
  some_busy f [] place stay within at is = absurd (omega arith)
  some_busy f (x ∷ stays) zero stay within at is =
      let first : f x.number ≡ false = ap (λ (s : Listed X). f s.number) (sym at) ∙ is in
      rw first refl
  some_busy f (x ∷ stays) (suc place) stay within at is =
      let rest = some_busy f stays place stay (omega (arith, within)) at is in
      elim (cases_Bool (f x.number)) [
        | inl on ↦ rw (on, rest) refl
        | inr off ↦ rw off refl
      ]

  pub all_quiet : (f : ℕ → Bool) (stays : List (Listed X)) → ((place : ℕ) → place < length stays → f (slice_index_or (numbers_in stays) place 0) ≡ true)
      → list_all f (numbers_in stays) ≡ true
  all_quiet f [] all = refl
  all_quiet f (x ∷ stays) all =
      let first : f x.number ≡ true = all 0 (omega arith) in
      let rest = all_quiet f stays (λ place within. all (suc place) (omega (arith, within))) in
      rw (first, rest) refl

-- what holds of each stay that has left holds of all stays if it holds of the open ones

one_more : (f : ℕ → Bool) (at : ℕ × GameRow) (rest : List (ℕ × GameRow)) (stands here all : Bool) → f at.0 ≡ here → (stands ≡ false → here ≡ true)
    → list_all f (numbers_of rest) ≡ all → list_all f (numbers_of (if stands then at ∷ rest else rest)) ≡ (here && all)
one_more f at rest true here all first closed same = rw (first, same) refl
one_more f at rest false here all first closed same = rw (closed refl) same

all_from : (p : Lane → Bool) (f : ℕ → Bool) (from : ℕ) (lanes : List Lane) → ((game : ℕ) → game < length lanes → f (from + game) ≡ p (lane_of lanes game))
    → ((game : ℕ) → game < length lanes → (lane_of lanes game).is_open ≡ false → p (lane_of lanes game) ≡ true)
    → list_all f (open_rows_from from lanes) ≡ list_all p lanes
all_from p f from [] same closed = refl
all_from p f from (x ∷ lanes) same closed =
    let first : f from ≡ p x = let none : from + 0 ≡ from = omega arith in ap f (sym none) ∙ same 0 (omega arith) in
    let rest = all_from p f (from + 1) lanes (λ game less. let next : from + 1 + game ≡ from + suc game = omega arith in ap f next ∙ same (suc game) (omega (arith, less)))
    (λ game less shut. closed (suc game) (omega (arith, less)) shut) in
    one_more f (from, x.row) (open_from (from + 1) (registry_of lanes)) x.is_open (p x) (list_all p lanes) first (λ shut. closed 0 (omega arith) shut) rest

pub all_among : (p : Lane → Bool) (lanes : List Lane) → ((game : ℕ) → game < length lanes → (lane_of lanes game).is_open ≡ false → p (lane_of lanes game) ≡ true)
    → list_all (λ game. p (lane_of lanes game)) (open_rows lanes) ≡ list_all p lanes
all_among p lanes closed = all_from p (λ game. p (lane_of lanes game)) 0 lanes
    (λ game less. let none : 0 + game ≡ game = omega arith in ap (λ (row : ℕ). p (lane_of lanes row)) none) closed

-- stays that have left are idle, so no worker has a job of one of them

idle_free : (worker : ℕ) (s : Stage) → is_idle s ≡ true → (has_begin worker s || has_join worker s) ≡ false
idle_free worker stage.Idle idle = refl
idle_free worker (stage.Begin other) idle = let wrong : false ≡ true = idle in absurd cc
idle_free worker stage.Parts idle = let wrong : false ≡ true = idle in absurd cc
idle_free worker (stage.Join taker) idle = let wrong : false ≡ true = idle in absurd cc

none_occupied : (worker : ℕ) (lanes : List Lane) → not (list_all (λ x. not (occupies worker x)) lanes) ≡ is_busy worker lanes
none_occupied worker [] = refl
none_occupied worker (x ∷ lanes) =
    elim (cases_Bool (occupies worker x)) [
      | inl on ↦ rw on refl
      | inr off ↦ rw off (none_occupied worker lanes)
    ]

pub busy_among : (worker : ℕ) (lanes : List Lane) → ((game : ℕ) → game < length lanes → (lane_of lanes game).is_open ≡ false → is_quiet (lane_of lanes game) ≡ true)
    → not (list_all (λ game. not (occupies worker (lane_of lanes game))) (open_rows lanes)) ≡ is_busy worker lanes
busy_among worker lanes closed =
    ap not (all_among (λ x. not (occupies worker x)) lanes
    (λ game less shut.
    let x = lane_of lanes game in
    ap not (idle_free worker x.stage (and_both (is_idle x.stage) (nat_eq (length x.waiting) 0) (closed game less shut)).0)))
    ∙ none_occupied worker lanes
