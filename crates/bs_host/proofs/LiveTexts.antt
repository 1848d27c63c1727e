-- Several lines of a live host, and the rows of its stays.
use Rattle.std.proofs.Common.{◌≡◌, ℕ, List, [], ◌∷◌, ◌++◌, sym, ap, ◌∙◌, append-nil, append_assoc}
use Rattle.bs_board.specs.declared.plans.version.Version.{Version}
use Rattle.bs_board.specs.plans.Plan.{GameRow}
use Rattle.bs_workers.specs.Acts.{opened, rows_admitted, rows_in_registry}
use Rattle.bs_host.specs.Live.{acts_behind, answer_after, answers_from, rows_behind, stays_left}
use Rattle.bs_host.specs.Routing.{capacity_of}
use Rattle.bs_host.proofs.ActsLaw.{rows_made as rows_of_stays}
use Rattle.bs_host.proofs.PlainLines.{rows_opened}

-- several lines

pub answers_append : (blocks : ℕ) (version : Version) (plan : List GameRow) (before done more : List (List ℕ))
    → answers_from blocks version plan before (done ++ more) ≡ answers_from blocks version plan before done ++ answers_from blocks version plan (before ++ done) more
answers_append blocks version plan before [] more = ap (λ lines. answers_from blocks version plan lines more) (sym (append-nil before))
answers_append blocks version plan before (line ∷ done) more =
    let first = answer_after blocks version plan before line in
    ap (λ rest. first ++ rest) (answers_append blocks version plan (before ++ line ∷ []) done more)
    ∙ sym (append_assoc first (answers_from blocks version plan (before ++ line ∷ []) done) (answers_from blocks version plan ((before ++ line ∷ []) ++ done) more))
    ∙ ap (λ lines. (first ++ answers_from blocks version plan (before ++ line ∷ []) done) ++ answers_from blocks version plan lines more) (append_assoc before (line ∷ []) done)

-- the rows of all stays

pub rows_left : (blocks : ℕ) (version : Version) (plan : List GameRow) (lines : List (List ℕ))
    → rows_in_registry (stays_left blocks version plan lines) ≡ rows_behind plan (acts_behind blocks version plan lines)
rows_left blocks version plan lines =
    let acts = acts_behind blocks version plan lines in
    rows_of_stays (capacity_of blocks) version (opened plan) 2 lines ∙ ap (λ first. first ++ rows_admitted acts) (rows_opened plan)
