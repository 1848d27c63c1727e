-- Food for each of several words, and by chance.
use Rattle.std.proofs.Common.{◌≡◌, ℕ, ◌+◌, ◌-◌, ◌%◌, ◌<◌, ◌≤◌, List, [], ◌∷◌, length, take, get_or, refl, false, ltb, inl, inr, ◌∙◌, arith}
use Rattle.std.proofs.lemmas.Bool.{cases_Bool, lt-ltb, ltb-true}
use Rattle.std.proofs.lemmas.List.{get_or_default}
use Rattle.bs_board.specs.declared.boards.board.Board.{Board}
use Rattle.bs_food.specs.Spawning.{spawned, with_food_by_chance, with_one_food}
use Rattle.bs_food.proofs.Minimum.{one_word_more}
use Rattle.bs_batch.specs.declared.layout.Head.{Head}
use Rattle.bs_batch.specs.Food.{AddsFood, CanSpawn, HasSpawned}
use Rattle.bs_batch.specs.Shown.{HasRoom}
use Rattle.bs_batch.specs.inner.Food.{with_food_by}
use Rattle.bs_batch.proofs.FoodPlaced.{can_stay, room_stays}

can_after : (words : List ℕ) (b : Board) (list : List ℕ) → CanSpawn list b → CanSpawn list (with_food_by words b)
can_after [] b list can = can
can_after (word ∷ words) b list can = can_after words (with_one_food word b) list (can_stay word b list can)

room_after : (words : List ℕ) (b : Board) → HasRoom 0 b → HasRoom 0 (with_food_by words b)
room_after [] b room = room
room_after (word ∷ words) b room = room_after words (with_one_food word b) (room_stays word b room)

-- a list of the same length has as much room
same_room : (list other : List ℕ) (b : Board) → length other ≡ length list → CanSpawn list b → CanSpawn other b
same_room list other b long can = let room = can.room in record { low = can.low; room = omega arith; fits = can.fits }

pub one_food_more : (words : List ℕ) (i word : ℕ) (head0 : Head) (food0 plane0 : List ℕ) (head : Head) (food plane : List ℕ) (head' : Head) (food' plane' : List ℕ)
    → i < length words → word ≡ get_or words i 0 → AddsFood (with_food_by (take i words)) head0 food0 plane0 head food plane
    → AddsFood (with_one_food word) head food plane head' food' plane'
    → AddsFood (with_food_by (take (i + 1) words)) head0 food0 plane0 head' food' plane'
one_food_more words i word head0 food0 plane0 head food plane head' food' plane' within is so_far step bodies b shows listed room can =
    let now = with_food_by (take i words) b in
    let before = so_far bodies b shows listed room can in
    let fits = same_room food0 food now before.long (can_after (take i words) b food0 can) in
    let next = step bodies now before.seats before.list (room_after (take i words) b room) fits in
    let e : with_one_food word now ≡ with_food_by (take (i + 1) words) b = one_word_more b now (with_one_food word now) words i word within (is ∙ get_or_default words i 0 word within) refl refl in
    let all : HasSpawned (with_one_food word now) food0 head' food' plane' bodies = record { seats = next.seats; list = next.list; long = next.long ∙ before.long } in
    rw e at all

not_below : (a b : ℕ) → b ≤ a → ltb a b ≡ false
not_below a b high = elim (cases_Bool (ltb a b)) [
  | inl low ↦ let wrong = ltb-true a b low in absurd (omega arith)
  | inr other ↦ other
]

pub spawned_missing : (words : List ℕ) (b : Board) → length b.food < b.min_food → spawned words b ≡ with_food_by (take (b.min_food - length b.food) words) b
unfolding spawned
spawned_missing words b few = rw (lt-ltb (length b.food) b.min_food few) refl

pub spawned_by_chance : (words : List ℕ) (b : Board) → b.min_food ≤ length b.food → spawned words b ≡ with_food_by_chance words b
unfolding spawned
spawned_by_chance words b enough = rw (not_below (length b.food) b.min_food enough) refl

pub too_few_words : (words : List ℕ) (b : Board) → length words < 2 → with_food_by_chance words b ≡ b
too_few_words [] b few = refl
too_few_words (first ∷ []) b few = refl
too_few_words (first ∷ second ∷ rest) b few = absurd (omega arith)

pub chance_met : (words : List ℕ) (b : Board) → 2 ≤ length words → get_or words 0 0 % 100 < b.chance
    → with_food_by_chance words b ≡ with_one_food (get_or words 1 0) b
chance_met [] b many met = absurd (omega arith)
chance_met (first ∷ []) b many met = absurd (omega arith)
chance_met (first ∷ second ∷ rest) b many met = rw (lt-ltb (first % 100) b.chance met) refl

pub chance_not_met : (words : List ℕ) (b : Board) → 2 ≤ length words → b.chance ≤ get_or words 0 0 % 100 → with_food_by_chance words b ≡ b
chance_not_met [] b many met = absurd (omega arith)
chance_not_met (first ∷ []) b many met = absurd (omega arith)
chance_not_met (first ∷ second ∷ rest) b many met = rw (not_below (first % 100) b.chance met) refl
