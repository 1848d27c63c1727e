-- The place of the record that a Join adds.
use Rattle.std.proofs.Common.{◌≡◌, ℕ, ◌+◌, ◌-◌, ◌<◌, ◌≤◌, List, [], ◌∷◌, ◌++◌, length, map, take, replicate, get_or, Option, Some, refl, sym, ap, ◌∙◌, arith, length-append, take_at, drop_at, inl, inr}
use Rattle.std.proofs.lemmas.Bool.{cases_Bool}
use Rattle.bs_block.specs.Bytes.{padded, range}
use Rattle.bs_block.specs.Rounding.{rounded}
use Rattle.bs_board.specs.declared.boards.snake.Snake.{Snake}
use Rattle.bs_board.specs.declared.commands.command.Command.{Command}
use Rattle.bs_pool.specs.declared.owned.Owned.{Owned}
use Rattle.bs_game.specs.declared.reply.Answer.{Answer}
use Rattle.bs_game.specs.declared.reply.Effect.{Effect}
use Rattle.bs_game.specs.declared.reply.Effect.TheVariants as effect
use Rattle.bs_game.specs.declared.view.View.{View}
use Rattle.bs_game.specs.View.{answer_of}
use Rattle.bs_fiber.specs.declared.input.Input.{Input}
use Rattle.bs_fiber.specs.declared.job.JobKind.{JobKind}
use Rattle.bs_fiber.specs.declared.job.JobKind.TheVariants.{Begin, Part, Join}
use Rattle.bs_fiber.specs.declared.out.Out.{Out}
use Rattle.bs_fiber.specs.declared.out.Out.TheVariants.{Goes, Answered, Joined}
use Rattle.bs_fiber.specs.declared.piece.Piece.{Piece}
use Rattle.bs_fiber.specs.Fit.{IsFitInput}
use Rattle.bs_fiber.specs.Frames.{frame_of}
use Rattle.bs_fiber.specs.Seeing.{IsSeen}
use Rattle.bs_fiber.specs.Tickets.{TicketView, HoldsWork, bytes_of, frames_in, with_added, worked_bytes}
use Rattle.bs_fiber.specs.Work.{IsWorked, added_by, added_seen, begun, goes, moved_part, moved_parts, out_seen, piece_added}
use Rattle.bs_fiber.proofs.Seen.{some_view}
use Rattle.bs_fiber.proofs.Written.{first_part, some_parts}

-- ---- only a Join has this outcome

begun_is_no_join : (view : View) (command : Command) (answer : Answer) (piece : Option Piece) → Joined answer piece ≡ begun view command → ⊥
begun_is_no_join view command answer piece is =
    elim (cases_Bool (goes view command)) [
      | inl on ↦ let wrong : Joined answer piece ≡ Goes = rw on at is in cc
      | inr off ↦ let wrong : Joined answer piece ≡ Answered (answer_of view command) = rw off at is in cc
    ]

kind_of_join : (kind : JobKind) (part : ℕ) (view : View) (command : Command) (answer : Answer) (piece : Option Piece)
    → Joined answer piece ≡ out_seen kind part view command → kind ≡ Join
kind_of_join Begin part view command answer piece is = absurd (begun_is_no_join view command answer piece is)
kind_of_join Part part view command answer piece is = absurd cc
kind_of_join Join part view command answer piece is = refl

joined_both : (view : View) (command : Command) (answer : Answer) (piece : Option Piece) → Joined answer piece ≡ out_seen Join 0 view command
    → (answer ≡ answer_of view command) × (piece ≡ piece_added (answer_of view command).effect (moved_part 0 view command))
joined_both view command answer piece is = (cc, cc)

-- the input of a Join with this outcome, in the view that it sees
pub record IsJoined (input : Input) (answer : Answer) (piece : Option Piece) (view : View) : Type 0 where
  pub kind : input.job.kind ≡ Join
  pub some : 1 ≤ length (moved_parts view input.command)
  pub answer_is : answer ≡ answer_of view input.command
  pub piece_is : piece ≡ piece_added answer.effect (get_or (moved_parts view input.command) 0 [])

pub joined_is : (input : Input) (answer : Answer) (piece : Option Piece) (view : View) → IsFitInput input → IsWorked input (Joined answer piece) → IsSeen view input
    → IsJoined input answer piece view
joined_is input answer piece view fit worked seen =
    let kind = kind_of_join input.job.kind input.job.part view input.command answer piece (worked view seen) in
    let some = some_parts input view fit kind seen in
    let both = joined_both view input.command answer piece (rw kind at (worked view seen)) in
    record {
      kind = kind;
      some = some;
      answer_is = both.0;
      piece_is = both.1 ∙ ap (λ (x : Answer). piece_added x.effect (moved_part 0 view input.command)) (sym both.0) ∙ ap (piece_added answer.effect) (sym (first_part view input.command some));
    }

-- ---- the bytes

first_block : {most : ℕ} (frames : List (Owned most)) (f : Owned most) (blocks : List (List ℕ)) → bytes_of (frames_in frames) ≡ blocks → 0 < length blocks
    → f ≡ get_or frames 0 f → (f.block ≡ get_or blocks 0 []) × (0 < length frames)
first_block [] f blocks same some is = let none : length blocks ≡ 0 = ap length (sym same) in absurd (omega arith)
first_block {most} (g ∷ frames) f blocks same some is =
    (ap (λ (o : Owned most). o.block) is ∙ ap (λ (bs : List (List ℕ)). get_or bs 0 []) same, omega arith)

-- the piece of a record that is added, in the first block
pub record IsAddedAt (e : Effect) (p : Piece) (block : List ℕ) : Type 0 where
  pub there : p.at + p.len ≤ length block
  pub is : Some (range p.at p.len block) ≡ added_by e

behind : (front bytes : List ℕ) → (length front + length bytes ≤ length (front ++ padded bytes)) × (range (length front) (length bytes) (front ++ padded bytes) ≡ bytes)
behind front bytes =
    let zeros = replicate (rounded (length bytes) - length bytes) 0 in (
      omega (arith, length-append front (padded bytes), length-append bytes zeros),
      ap (take (length bytes)) (drop_at front (padded bytes) (length front) refl) ∙ take_at bytes zeros (length bytes) refl,
    )

added_first : (e : Effect) (parts : List (List Snake)) (p : Piece) → Some p ≡ piece_added e (get_or parts 0 []) → 1 ≤ length parts
    → (0 < length (with_added e (map frame_of parts))) × IsAddedAt e p (get_or (with_added e (map frame_of parts)) 0 [])
added_first effect.Keep parts p is some = absurd cc
added_first (effect.Add bytes) [] p is some = absurd (omega arith)
added_first (effect.Add bytes) (part ∷ parts) p is some =
    let place : p ≡ record { at = length (frame_of part); len = length bytes } = cc in
    let b = behind (frame_of part) bytes in
    (omega arith, rw place (record { there = b.0; is = ap Some b.1 }))
added_first effect.Trim parts p is some = absurd cc
added_first effect.Drop parts p is some = absurd cc

-- the same for a ticket's own blocks
pub added_at : {most : ℕ} (frames : List (Owned most)) (f : Owned most) (e : Effect) (parts : List (List Snake)) (p : Piece)
    → bytes_of (frames_in frames) ≡ with_added e (map frame_of parts) → Some p ≡ piece_added e (get_or parts 0 []) → 1 ≤ length parts
    → f ≡ get_or frames 0 f → IsAddedAt e p f.block
added_at frames f e parts p same is some f_is =
    let added = added_first e parts p is some in
    let block = first_block frames f (with_added e (map frame_of parts)) same added.0 f_is in
    rw block.0 added.1

pub some_frames : {most : ℕ} (frames : List (Owned most)) (e : Effect) (parts : List (List Snake)) (p : Piece)
    → bytes_of (frames_in frames) ≡ with_added e (map frame_of parts) → Some p ≡ piece_added e (get_or parts 0 []) → 1 ≤ length parts → 0 < length frames
some_frames [] e parts p same is some =
    let added = added_first e parts p is some in
    let none : length (with_added e (map frame_of parts)) ≡ 0 = ap length (sym same) in
    absurd (omega arith)
some_frames (f ∷ frames) e parts p same is some = omega arith

-- ---- a Join that was run

pub record HasAdded {most : ℕ} (t : TicketView) (frames : List (Owned most)) (answer : Answer) (p : Piece) : Type 0 where
  pub some : 0 < length frames
  pub first : (f : Owned most) → f ≡ get_or frames 0 f → IsAddedAt answer.effect p f.block
  pub seen : (view : View) → IsSeen view t.input → added_by answer.effect ≡ added_seen t.input.job.kind view t.input.command

pub has_added : {most : ℕ} (t : TicketView) (frames : List (Owned most)) (out : Out) (answer : Answer) (piece : Option Piece) (p : Piece) → frames_in frames ≡ t.frames
    → IsFitInput t.input → IsWorked t.input out → HoldsWork t → out ≡ Joined answer piece → piece ≡ Some p → HasAdded t frames answer p
has_added t frames out answer piece p frames_are fit worked holds is piece_is =
    let out_is : out ≡ Joined answer (Some p) = is ∙ ap (Joined answer) piece_is in
    let joined : IsWorked t.input (Joined answer (Some p)) = rw out_is at worked in
    let one = some_view t.input fit.game in
    let join = joined_is t.input answer (Some p) one.0 fit joined one.1 in
    let parts = moved_parts one.0 t.input.command in
    let work : worked_bytes t.input.job.kind t.input.job.part one.0 t.input.command ≡ with_added answer.effect (map frame_of parts) =
    ap (λ (k : JobKind). worked_bytes k t.input.job.part one.0 t.input.command) join.kind ∙ ap (λ (x : Answer). with_added x.effect (map frame_of parts)) (sym join.answer_is) in
    let same : bytes_of (frames_in frames) ≡ with_added answer.effect (map frame_of parts) = ap bytes_of frames_are ∙ holds one.0 one.1 ∙ work in
    record {
      some = some_frames frames answer.effect parts p same join.piece_is join.some;
      first = λ f f_is. added_at frames f answer.effect parts p same join.piece_is join.some f_is;
      seen = λ view seen.
          ap (λ (x : Answer). added_by x.effect) (joined_is t.input answer (Some p) view fit joined seen).answer_is
          ∙ ap (λ (k : JobKind). added_seen k view t.input.command) (sym join.kind);
    }
