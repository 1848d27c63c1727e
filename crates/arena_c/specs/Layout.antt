-- A game whose fields all differ.
use Rattle.std.specs.Prelude.{◌≡◌, ℕ, ◌+◌, ◌*◌, ◌%◌, ◌<◌, List, [], ◌∷◌, length, map, slice_index}
use Rattle.bs_batch.specs.declared.layout.Head.{Head}
use Rattle.bs_batch.specs.declared.layout.Seat.{Seat}

-- the seats are numbered from 100 on, in steps of 10
abbrev pub numbered_seat : ℕ → Seat
numbered_seat first = record {
  parts = first * 256;
  out = first * 256 + 1;
  health = first + 2;
  cause = first + 3;
  killer = first + 4;
  spare = first + 5;
}

abbrev pub numbered_head : Head
numbered_head = record {
  settings = record { mode = 1; width = 2; height = 3; seats = 4; min_food = 5; chance = 6 };
  turn = 1793;
  foods = 2050;
  living = 9;
  over = 10;
  seats = map numbered_seat (100 ∷ 110 ∷ 120 ∷ 130 ∷ 140 ∷ 150 ∷ 160 ∷ 170 ∷ []);
}

-- each field has its number
pub record IsNumbered (head : Head) (food plane bodies : List ℕ) : Type 0 where
  pub head_is : head ≡ numbered_head
  pub food_is : (k : ℕ) → k < length food → slice_index food k ≡ 10000 + k
  pub plane_is : (k : ℕ) → k < length plane → slice_index plane k ≡ k % 251
  pub bodies_is : (k : ℕ) → k < length bodies → slice_index bodies k ≡ 20000 + k
