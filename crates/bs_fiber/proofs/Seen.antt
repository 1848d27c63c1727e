-- A job reads one view, and its outcome depends on what it needs of that.
use Rattle.std.proofs.Common.{◌≡◌, ℕ, List, [], Option, Some, None, refl, sym, ap, ◌∙◌, arith}
use Rattle.std.specs.Prelude.{IfSome}
use Rattle.bs_board.specs.declared.boards.board.Board.{Board}
use Rattle.bs_board.specs.boards.Legal.{IsLegal}
use Rattle.bs_board.specs.records.Kept.{IsLegalRecord}
use Rattle.bs_board.proofs.records.BoardRecord.{record_is_of_one_board}
use Rattle.bs_game.specs.declared.view.View.{View}
use Rattle.bs_game.specs.View.{IsFitView}
use Rattle.bs_fiber.specs.declared.expected.Expected.{Expected}
use Rattle.bs_fiber.specs.declared.input.Input.{Input}
use Rattle.bs_fiber.specs.declared.job.JobKind.{JobKind}
use Rattle.bs_fiber.specs.declared.job.JobKind.TheVariants.{Begin, Part, Join}
use Rattle.bs_fiber.specs.declared.out.Out.{Out}
use Rattle.bs_fiber.specs.declared.piece.Piece.{Piece}
use Rattle.bs_fiber.specs.Expected.{IsOf}
use Rattle.bs_fiber.specs.Fit.{IsFitGame, IsFitInput, IsFitJob}
use Rattle.bs_fiber.specs.Seeing.{IsBoardOf, IsSeen}
use Rattle.bs_fiber.specs.Work.{begun}

-- bytes are the record of at most one board
pub same_board : (bytes : Option (List ℕ)) (a b : Option Board) → IsBoardOf bytes a → IsBoardOf bytes b → a ≡ b
same_board None None None is_a is_b = refl
same_board None None (Some b) is_a is_b = absurd is_b
same_board None (Some a) b is_a is_b = absurd is_a
same_board (Some bytes) None b is_a is_b = absurd is_a
same_board (Some bytes) (Some a) None is_a is_b = absurd is_b
same_board (Some bytes) (Some a) (Some b) is_a is_b = ap Some (record_is_of_one_board a b is_a.0 is_b.0 (sym is_a.1 ∙ is_b.1))

pub seen_once : (input : Input) (view other : View) → IsSeen view input → IsSeen other input → view ≡ other
seen_once input view other one two =
    let quota : view.quota ≡ other.quota = one.quota ∙ sym two.quota in
    let charge : view.charge ≡ other.charge = one.charge ∙ sym two.charge in
    let kept : view.kept ≡ other.kept = one.kept ∙ sym two.kept in
    let last : view.last ≡ other.last = same_board input.last view.last other.last one.last two.last in
    let asked : view.asked ≡ other.asked = same_board input.asked view.asked other.asked one.asked two.asked in
    rw (← quota, ← charge, ← kept, ← last, ← asked) refl

-- a legal record is that of some board
some_board : (bytes : Option (List ℕ)) → IfSome bytes IsLegalRecord → (board : Option Board) × IsBoardOf bytes board
some_board None legal = (None, tt)
some_board (Some bytes) legal = (Some legal.board, (legal.legal, legal.is))

pub some_view : (input : Input) → IsFitGame input → (view : View) × IsSeen view input
some_view input fit =
    let last = some_board input.last fit.last in
    let asked = some_board input.asked fit.asked in (
      record { quota = input.quota; charge = input.charge; kept = input.kept; last = last.0; asked = asked.0 },
      record { quota = refl; charge = refl; kept = refl; last = last.1; asked = asked.1 },
    )

legal_board : (bytes : Option (List ℕ)) (board : Option Board) → IsBoardOf bytes board → IfSome board IsLegal
legal_board None None is = tt
legal_board None (Some board) is = absurd is
legal_board (Some bytes) None is = absurd is
legal_board (Some bytes) (Some board) is = is.0

pub seen_is_fit : (input : Input) (view : View) → IsFitGame input → IsSeen view input → IsFitView view
seen_is_fit input view fit seen =
    let quota = seen.quota in
    let charge = seen.charge in
    let within = fit.within in
    let small = fit.small in
    record {
      legal = legal_board input.last view.last seen.last;
      asked = legal_board input.asked view.asked seen.asked;
      within = omega arith;
      small = omega arith;
    }

pub fit_job : (input : Input) (view : View) → IsFitInput input → IsSeen view input → IsFitJob input.job.kind input view
fit_job input view fit seen = fit.job view seen

-- the parts are determined by the other fields

same_parts_of : (kind : JobKind) (input : Input) (others : List (List Piece)) (view : View) → IsFitJob kind input view
    → IsFitJob kind (record input { parts = others }) view → input.parts ≡ others
same_parts_of Begin input others view one two = one ∙ sym two
same_parts_of Part input others view one two = one.0 ∙ sym two.0
same_parts_of Join input others view one two = one.moved ∙ sym two.moved

-- two fit inputs that differ only in their parts
pub same_parts : (input : Input) (others : List (List Piece)) → IsFitInput input → IsFitInput (record input { parts = others }) → input.parts ≡ others
same_parts input others one two =
    let seen = some_view input one.game in
    let too : IsSeen seen.0 (record input { parts = others }) =
    record { quota = seen.1.quota; charge = seen.1.charge; kept = seen.1.kept; last = seen.1.last; asked = seen.1.asked } in
    same_parts_of input.job.kind input others seen.0 (one.job seen.0 seen.1) (two.job seen.0 too)

pub same_input : (one two : Input) → IsFitInput one → IsFitInput two → record one { parts = [] } ≡ record two { parts = [] } → one ≡ two
same_input one two fit_one fit_two same =
    let but_parts : record one { parts = two.parts } ≡ two = ap (λ (i : Input). record i { parts = two.parts }) same in
    let fits : IsFitInput (record one { parts = two.parts }) = rw but_parts fit_two in
    let parts : one.parts ≡ two.parts = same_parts one two.parts fit_one fits in
    ap (λ parts. record one { parts = parts }) parts ∙ but_parts

numbers : (one two : Input) → one.job ≡ two.job → one.worker ≡ two.worker → one.seq ≡ two.seq → one.quota ≡ two.quota → one.charge ≡ two.charge
    → one.kept ≡ two.kept → one.last ≡ two.last → one.asked ≡ two.asked → one.command ≡ two.command
    → record one { parts = [] } ≡ record two { parts = [] }
numbers one two job worker seq quota charge kept last asked command =
    rw (job, worker, seq, quota, charge, kept, last, asked, command) refl

-- two fit inputs that are both the expected one are equal
pub both_expected : (one two : Input) (expected : Expected) → IsFitInput one → IsFitInput two → IsOf one expected → IsOf two expected → one ≡ two
both_expected one two expected fit_one fit_two is_one is_two =
    let a = is_one.numbers in
    let b = is_two.numbers in
    let c = is_one.contents in
    let d = is_two.contents in
    same_input one two fit_one fit_two
    (numbers one two (a.job ∙ sym b.job) (a.worker ∙ sym b.worker) (a.seq ∙ sym b.seq) (a.quota ∙ sym b.quota) (a.charge ∙ sym b.charge)
    (a.kept ∙ sym b.kept) (c.last ∙ sym d.last) (c.asked ∙ sym d.asked) (c.command ∙ sym d.command))

-- a command has the same outcome in every view of the input
pub begun_once : (input : Input) (view : View) (out : Out) → IsSeen view input → out ≡ begun view input.command
    → (other : View) → IsSeen other input → out ≡ begun other input.command
begun_once input view out seen is other too = is ∙ ap (λ (v : View). begun v input.command) (seen_once input view other seen too)
