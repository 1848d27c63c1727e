-- The open stays of a list of games: each is listed, and no two have one name.
use Rattle.std.proofs.Common.{◌≡◌, ◌≢◌, ℕ, suc, ◌+◌, ◌<◌, true, false, List, [], ◌∷◌, ◌++◌, drop, get_or, length, refl, sym, ap, ◌∙◌, arith, append-nil, append_assoc, inl, inr}
use Rattle.std.specs.List.{list_any}
use Rattle.std.proofs.lemmas.Bool.{cases_Bool}
use Rattle.std.proofs.lemmas.List.{drop_all, drop_more, length-map, map-append}
use Rattle.std.proofs.lemmas.Slice.Eq.{bytes_eq-Decides}
use Rattle.bs_board.specs.plans.Plan.{GameRow}
use Rattle.bs_board.specs.Texts.{is_same_text}
use Rattle.bs_registry.specs.declared.registry.Listed.{Listed}
use Rattle.bs_registry.specs.OpenStays.{are_named_once, open_from, open_of, open_stays_of}
use Rattle.bs_registry.specs.Registry.{Listing, listing_of, row_open, rows_open, seen}
use Rattle.bs_sched.specs.Core.{CoreView}
use Rattle.bs_sched.specs.Game.{GameView}
use Rattle.bs_sched.specs.inner.Game.{no_game}
use Rattle.bs_sched.specs.inner.GamesLayout.{lanes_in}
use Rattle.bs_sched.specs.Journal.{IsItsJournal}
use Rattle.bs_sched.specs.Lane.{Lane}
use Rattle.bs_sched.specs.Machine.{lane_of}
use Rattle.bs_sched.specs.Registry.{registry_of, stay_of}
use Rattle.bs_sched.proofs.Journaled.{keeps_apart}
use Rattle.bs_sched.proofs.ListedGames.{many_lanes, read_at}

-- the open stays from that row on
abbrev pub open_in : ℕ → List GameView → List (ℕ × GameRow)
open_in first games = open_from first (registry_of (lanes_in games))

module _ (games : List GameView) (number : ℕ) (v : GameView) (within : number < length games) (is : v ≡ get_or games number v) where
  next : drop number games ≡ v ∷ drop (number + 1) games
  next = drop_more games number no_game within ∙ ap (λ (w : GameView). w ∷ drop (number + 1) games) (sym (read_at games number v no_game within is))

  -- a stay that has left
  pub none_more : {X : Type 0} (stays : List (Listed X)) → v.lane.is_open ≡ false → rows_open stays ++ open_in number (drop number games) ≡ open_in 0 games
      → rows_open stays ++ open_in (number + 1) (drop (number + 1) games) ≡ open_in 0 games
  none_more stays shut before =
      let here : open_in number (v ∷ drop (number + 1) games) ≡ open_in (number + 1) (drop (number + 1) games) = rw shut refl in
      ap (λ rows. rows_open stays ++ rows) (sym here ∙ ap (open_in number) (sym next)) ∙ before

  -- an open one
  pub one_more : {X : Type 0} (row : GameRow) (kept : X) (old new : List (Listed X)) → v.lane.is_open ≡ true → row ≡ v.lane.row
      → new ≡ old ++ record { number = number; row = row; kept = kept } ∷ [] → rows_open old ++ open_in number (drop number games) ≡ open_in 0 games
      → rows_open new ++ open_in (number + 1) (drop (number + 1) games) ≡ open_in 0 games
  one_more {X} row kept old new stands same pushed before =
      let rest = open_in (number + 1) (drop (number + 1) games) in
      let stay : Listed X = record { number = number; row = row; kept = kept } in
      let here : open_in number (v ∷ drop (number + 1) games) ≡ (number, v.lane.row) ∷ rest = rw stands refl in
      ap (λ stays. rows_open stays ++ rest) pushed
      ∙ ap (λ rows. rows ++ rest) (map-append row_open old (stay ∷ []))
      ∙ append_assoc (rows_open old) ((number, row) ∷ []) rest
      ∙ ap (λ (r : GameRow). rows_open old ++ (number, r) ∷ rest) same
      ∙ ap (λ rows. rows_open old ++ rows) (sym here ∙ ap (open_in number) (sym next)) ∙ before

pub all_open : {X : Type 0} (games : List GameView) (stays : List (Listed X)) (end : ℕ) → end ≡ length games
    → rows_open stays ++ open_in end (drop end games) ≡ open_in 0 games → rows_open stays ≡ open_in 0 games
all_open games stays end is before =
    let none : drop end games ≡ [] = drop_all end games (omega (arith, is)) in
    sym (append-nil (rows_open stays)) ∙ ap (λ (vs : List GameView). rows_open stays ++ open_in end vs) (sym none) ∙ before

pub seen_open : {X : Type 0} (games : List GameView) (made : ℕ) (registry : Listing X) (stays : List (Listed X)) → made ≡ length games
    → registry ≡ listing_of made stays → rows_open stays ≡ open_in 0 games → seen registry ≡ open_stays_of (registry_of (lanes_in games))
seen_open games made registry stays same is rows =
    let many : made ≡ length (registry_of (lanes_in games))
    = let one = many_lanes games in let other = length-map (lanes_in games) stay_of in omega (arith, same, one, other) in
    ap seen is ∙ (λ i. record { made = many i; stays = rows i })

-- their names

differ_text : (name other : List ℕ) → name ≢ other → is_same_text name other ≡ false
differ_text name other differ = elim (cases_Bool (is_same_text name other)) [
  | inl same ↦ absurd (differ ((bytes_eq-Decides name other).0 same))
  | inr others ↦ others
]

abbrev AreOthers : List ℕ → List Lane → Type 0
AreOthers name lanes = (k : ℕ) → k < length lanes → (lane_of lanes k).is_open ≡ true → name ≢ (lane_of lanes k).row.game

abbrev ArePairs : List Lane → Type 0
ArePairs lanes = (game other : ℕ) → game < length lanes → other < length lanes → game ≢ other → (lane_of lanes game).is_open ≡ true
    → (lane_of lanes other).is_open ≡ true → (lane_of lanes game).row.game ≢ (lane_of lanes other).row.game

none_named : (name : List ℕ) (first : ℕ) (lanes : List Lane) → AreOthers name lanes
    → list_any (λ (stay : ℕ × GameRow). is_same_text name stay.1.game) (open_from first (registry_of lanes)) ≡ false
none_named name first [] others = refl
none_named name first (x ∷ lanes) others =
    let rest = none_named name (first + 1) lanes (λ k less stands. others (suc k) (omega (arith, less)) stands) in
    elim (cases_Bool x.is_open) [
      | inl stands ↦
          let differ = differ_text name x.row.game (others 0 (omega arith) stands) in
          rw (stands, differ) rest
      | inr shut ↦ rw shut rest
    ]

named_once : (first : ℕ) (lanes : List Lane) → ArePairs lanes → are_named_once (open_from first (registry_of lanes)) ≡ true
named_once first [] pairs = refl
named_once first (x ∷ lanes) pairs =
    let rest = named_once (first + 1) lanes
    (λ game other here there differ stands also. pairs (suc game) (suc other) (omega (arith, here)) (omega (arith, there)) (λ same. differ (omega (arith, same))) stands also) in
    elim (cases_Bool x.is_open) [
      | inl stands ↦
          let none = none_named x.row.game (first + 1) lanes
          (λ k less also. pairs 0 (suc k) (omega arith) (omega (arith, less)) (λ same. omega (arith, same)) stands also) in
          rw (stands, none) rest
      | inr shut ↦ rw shut rest
    ]

pub open_once : (cap : ℕ) (core : CoreView) → IsItsJournal cap core → are_named_once (open_of (registry_of core.games.lanes)) ≡ true
open_once cap core is = named_once 0 core.games.lanes (keeps_apart cap core is).names.names
