-- The stay of a name is the first open one with it.
use Rattle.std.proofs.Common.{◌≡◌, ℕ, suc, ◌+◌, List, [], ◌∷◌, Option, Some, None, get_or, length, option_map, inl, inr, refl, sym, ap, ◌∙◌, arith}
use Rattle.std.specs.List.{position}
use Rattle.std.proofs.lemmas.Bool.{cases_Bool, lt-ltb}
use Rattle.bs_board.specs.plans.Plan.{GameRow, row_of}
use Rattle.bs_registry.specs.OpenStays.{bears, found_in}
use Rattle.bs_registry.proofs.OpenStays.{position_behind}

abbrev number_at : List (ℕ × GameRow) → ℕ × GameRow → ℕ → ℕ
number_at stays d i = (get_or stays i d).0

shifted : (stay : ℕ × GameRow) (stays : List (ℕ × GameRow)) (d : ℕ × GameRow) (o : Option ℕ)
    → option_map (number_at stays d) o ≡ option_map (number_at (stay ∷ stays) d) (option_map (λ i. 1 + i) o)
shifted stay stays d None = refl
shifted stay stays d (Some i) = let e : suc i ≡ 1 + i = omega arith in ap (λ n. Some (number_at (stay ∷ stays) d n)) e

found_by_position : (name : List ℕ) (stays : List (ℕ × GameRow)) (d : ℕ × GameRow) → found_in name stays ≡ option_map (number_at stays d) (position (bears name) stays)
found_by_position name [] d = refl
found_by_position name (stay ∷ stays) d = elim (cases_Bool (bears name stay)) [
  | inl hit ↦
      let first : found_in name (stay ∷ stays) ≡ Some stay.0 = rw hit refl in
      let at : position (bears name) (stay ∷ stays) ≡ Some 0 = (let more = lt-ltb 0 (suc (length stays)) (omega arith) in rw (hit, more) refl) in
      first ∙ sym (ap (option_map (number_at (stay ∷ stays) d)) at)
  | inr miss ↦
      let skipped : found_in name (stay ∷ stays) ≡ found_in name stays = rw miss refl in
      skipped ∙ found_by_position name stays d ∙ shifted stay stays d (position (bears name) stays)
      ∙ sym (ap (option_map (number_at (stay ∷ stays) d)) (position_behind (bears name) stay stays miss))
]

pub found_at : (name : List ℕ) (stays : List (ℕ × GameRow)) (place : ℕ) (d : ℕ × GameRow) → Some place ≡ position (bears name) stays
    → Some (get_or stays place d).0 ≡ found_in name stays
found_at name stays place d is = ap (option_map (number_at stays d)) is ∙ sym (found_by_position name stays d)

pub found_nowhere : (name : List ℕ) (stays : List (ℕ × GameRow)) → None ≡ position (bears name) stays → None ≡ found_in name stays
found_nowhere name stays none = ap (option_map (number_at stays (0, row_of [] 0))) none ∙ sym (found_by_position name stays (0, row_of [] 0))
