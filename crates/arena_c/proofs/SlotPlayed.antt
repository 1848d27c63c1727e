-- A turn in one slot.
use Rattle.std.proofs.Common.{◌≡◌, ◌≢◌, ◌∙◌, ℕ, ◌≤◌, List, length, take, ap, arith, subst, MatchResult, Result}
use Rattle.std.specs.Prelude.{IfOk, OnErr}
use Rattle.std.proofs.lemmas.List.{length-take, take_all}
use Rattle.bs_board.specs.declared.boards.board.Board.{Board}
use Rattle.bs_calls.specs.declared.fault.Fault.{Fault}
use Rattle.bs_calls.specs.BySeat.{turn_with}
use Rattle.bs_calls.specs.Records.{HasNoTurnBy, IsTurnBy, KeepsBehind}
use Rattle.arena_c.specs.Slots.{PlaysSlot, words_alone}
use Rattle.arena_c.specs.Status.{status_of}
use Rattle.arena_c.proofs.Answered.{answered_behind, answered_fault, answered_status}

-- the first 32 of the first 32 words
first_words : (words : List ℕ) → take 32 (take 32 words) ≡ take 32 words
first_words words = take_all 32 (take 32 words) (omega (arith, length-take 32 words))

pub same_turn : (moves moves' words piece : List ℕ) → moves ≡ moves' → words ≡ take 32 piece → turn_with moves (words_alone (take 32 words)) ≡ turn_with moves' (words_alone (take 32 piece))
same_turn moves moves' words piece m w =
    ap (λ (l : List ℕ). turn_with l (words_alone (take 32 words))) m ∙ ap (λ (l : List ℕ). turn_with moves' (words_alone l)) (ap (take 32) w ∙ first_words piece)

pub slot_played : (turn turn' : Board → Board) (slot slot' : List ℕ) (count count' status : ℕ) (r : Result ℕ Fault) → turn ≡ turn'
    → MatchResult r (IsTurnBy turn (take count slot) slot') (HasNoTurnBy turn (take count slot) (length slot)) → IfOk r (λ n. KeepsBehind n slot slot') → OnErr r (slot' ≡ slot)
    → MatchResult r (λ n. (status ≡ 0) × (count' ≡ n)) (λ fault. (status ≡ status_of fault) × (count' ≡ count)) → PlaysSlot turn' slot slot' count count' status
slot_played turn turn' slot slot' count count' status r e answer behind err s =
    subst (λ (t : Board → Board). PlaysSlot t slot slot' count count' status) e (record {
      answer = answered_status (IsTurnBy turn (take count slot) slot') (HasNoTurnBy turn (take count slot) (length slot)) r status count count' answer s;
      behind = answered_behind (λ n. KeepsBehind n slot slot') r status count count' behind s;
      fault = answered_fault (slot' ≡ slot) r status count count' err s;
    })
