-- What the status of a load says.
use Rattle.std.proofs.Common.{◌≡◌, ◌∙◌, ℕ, true, List, ap, refl, inl, inr, MatchResult, Result, Ok, Err, Option, Some, None, is_none}
use Rattle.std.proofs.lemmas.Bool.{false≢true}
use Rattle.bs_board.specs.declared.boards.board.Board.{Board}
use Rattle.bs_board.specs.declared.boards.hazards.Hazards.{Hazards}
use Rattle.bs_batch.specs.declared.layout.Head.{Head}
use Rattle.bs_batch.specs.declared.loading.Misfit.{Misfit}
use Rattle.bs_batch.specs.Loading.{IsLoaded}
use Rattle.bs_calls.specs.declared.fault.Fault.{Fault}
use Rattle.bs_calls.specs.declared.fault.Fault.TheVariants.{NotARecord, NotASetup, LastTurn, Room, Memory}
use Rattle.bs_calls.specs.Records.{IsRecordOf, IsUnread}
use Rattle.arena_c.specs.Loading.{IsLoadStatus}
use Rattle.arena_c.specs.Status.{status_of, status_of_misfit}

none_there : (hazards : Option Hazards) → is_none hazards ≡ true → hazards ≡ None
none_there None plain = refl
none_there (Some h) plain = absurd (false≢true plain)

pub board_read : {T : Type 0} (fits : Board → Type 0) (bytes : List ℕ) (same : Type 0) (b : Board) (r : Result T Misfit) (status : ℕ) (head : Head) (food plane bodies : List ℕ)
    → IsRecordOf bytes b → IsLoaded (fits b) b r head food plane bodies → MatchResult r (λ _. status ≡ 0) (λ misfit. status ≡ status_of_misfit misfit)
    → IsLoadStatus fits bytes status same head food plane bodies
board_read fits bytes same b (Ok x) status head food plane bodies is h s =
    inl (s, (b, record { record_is = is; fitting = (h.exactly.0 refl).1; shows = h.shows; plain = none_there b.hazards (h.exactly.0 refl).0; lasts = h.lasts }))
board_read fits bytes same b (Err misfit) status head food plane bodies is h s =
    inr (inl (
      b,
      record {
        record_is = is;
        unfit = λ plain fit. false≢true (h.exactly.1 (plain, fit));
        misfit = s ∙ ap status_of_misfit h.misfit;
        none = h.none;
      },
    ))

pub not_read : (fits : Board → Type 0) (bytes : List ℕ) (same : Type 0) (fault : Fault) (status : ℕ) (head : Head) (food plane bodies : List ℕ) → same → IsUnread bytes fault
    → status ≡ status_of fault → IsLoadStatus fits bytes status same head food plane bodies
not_read fits bytes same NotARecord status head food plane bodies kept h s = inr (inr (inl (s, h, kept)))
not_read fits bytes same NotASetup status head food plane bodies kept h s = absurd h
not_read fits bytes same LastTurn status head food plane bodies kept h s = absurd h
not_read fits bytes same Room status head food plane bodies kept h s = absurd h
not_read fits bytes same Memory status head food plane bodies kept h s = inr (inr (inr (s, kept)))
