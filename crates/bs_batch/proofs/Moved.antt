-- A body of numbers that is moved.
use Rattle.std.proofs.Common.{◌≡◌, ℕ, suc, ◌-◌, ◌≤◌, List, [], ◌∷◌, length, map, get_or, ap, ◌∙◌, arith}
use Rattle.std.specs.List.{take-map}
use Rattle.std.proofs.lemmas.List.{length-map, get_or-map}
use Rattle.std.proofs.lemmas.List.Elements.{All-get_or}
use Rattle.bs_board.specs.declared.boards.point.Point.{Point}
use Rattle.bs_board.specs.boards.Cell.{origin}
use Rattle.bs_rules.specs.Feeding.{last_of}
use Rattle.bs_rules.specs.Motion.{direction_taken, neighbor}
use Rattle.bs_batch.specs.declared.layout.Settings.{Settings}
use Rattle.bs_batch.specs.Directions.{given_by}
use Rattle.bs_batch.specs.Numbers.{IsOn, number_of, numbers_of, sides_of}
use Rattle.bs_batch.specs.Steps.{MovesBody, shifted}
use Rattle.bs_batch.specs.inner.Steps.{StepsCell, TakesDirection}

pub last_number : (parts : List Point) → 1 ≤ length parts → get_or (numbers_of parts) (length parts - 1) 0 ≡ number_of (last_of parts)
last_number parts some = get_or-map number_of parts (length parts - 1) origin 0 (omega arith)

pub moves_body : (s : Settings) (given : ℕ) (body : List ℕ) (next direction head second last : ℕ) (new : List ℕ)
    → head ≡ get_or body 0 0 → second ≡ get_or body 1 0 → last ≡ get_or body (length body - 1) 0
    → TakesDirection s head second given direction → StepsCell s head direction next → new ≡ shifted next body → MovesBody s given body new next last
moves_body s given body next direction head second last new eh et el way step pushed [] sides on three e = absurd (omega arith)
moves_body s given body next direction head second last new eh et el way step pushed (h ∷ []) sides on three e = absurd (omega arith)
moves_body s given body next direction head second last new eh et el way step pushed (h ∷ t ∷ rest) sides on three e =
    let on_h = All-get_or (IsOn s) (h ∷ t ∷ rest) 0 h (omega arith) on in
    let on_t = All-get_or (IsOn s) (h ∷ t ∷ rest) 1 h (omega arith) on in
    let first : head ≡ number_of h = eh ∙ ap (λ b. get_or b 0 0) e in
    let after : second ≡ number_of t = et ∙ ap (λ b. get_or b 1 0) e in
    let taken = way h t rest sides on_h on_t first after in
    let n : next ≡ number_of (neighbor (sides_of s) h (direction_taken (sides_of s) (given_by given) (h ∷ t ∷ rest))) =
    step h sides on_h first ∙ ap (λ d. number_of (neighbor (sides_of s) h d)) taken in
    let k : length (map number_of rest) ≡ length rest = length-map rest number_of in
    let m : length (h ∷ t ∷ rest) - 1 ≡ suc (length rest) = omega arith in
    let tail = take-map number_of (suc (length rest)) (h ∷ t ∷ rest) in
    record {
      body = pushed ∙ ap (λ b. shifted next b) e ∙ rw (k, m, n) (ap (λ xs. number_of (neighbor (sides_of s) h (direction_taken (sides_of s) (given_by given) (h ∷ t ∷ rest))) ∷ xs) tail);
      head = n;
      last = el ∙ ap (λ b. get_or b (length b - 1) 0) e ∙ ap (λ n. get_or (numbers_of (h ∷ t ∷ rest)) (n - 1) 0) (length-map (h ∷ t ∷ rest) number_of)
          ∙ last_number (h ∷ t ∷ rest) (omega arith);
    }
