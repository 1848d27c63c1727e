-- The frame blocks of a job that is completed.
use Rattle.std.proofs.Common.{◌≡◌, ◌≢◌, ℕ, zero, suc, List, [], ◌∷◌, map, Option, Some, None, slice_get, refl, sym, ap, ◌∙◌, inl, inr, true}
use Rattle.std.specs.Prelude.{nat_eq, slice_index_or, slice_set}
use Rattle.std.proofs.lemmas.Bool.{and_parts, cases_Bool}
use Rattle.std.proofs.lemmas.List.{set-get_or}
use Rattle.bs_board.specs.declared.commands.command.Command.{Command}
use Rattle.bs_pool.specs.declared.owned.Owned.{Owned}
use Rattle.bs_game.specs.declared.view.View.{View}
use Rattle.bs_game.specs.View.{answer_of}
use Rattle.bs_game.specs.declared.reply.Answer.{Answer}
use Rattle.bs_fiber.specs.declared.job.JobKind.{JobKind}
use Rattle.bs_fiber.specs.declared.job.JobKind.TheVariants as kind
use Rattle.bs_fiber.specs.declared.out.Out.TheVariants.{Goes, Answered, Moved}
use Rattle.bs_fiber.specs.declared.piece.Piece.{Piece}
use Rattle.bs_fiber.specs.Frames.{frame_of, pieces_from}
use Rattle.bs_fiber.specs.Tickets.{bytes_of, frames_in, names_of, worked_bytes}
use Rattle.bs_fiber.specs.Work.{goes, moved_part, out_seen}
use Rattle.bs_sched.specs.Frames.{flattened}
use Rattle.bs_sched.specs.Games.{answer_effect, storage_answered}
use Rattle.bs_sched.specs.Inputs.{job_numbers}
use Rattle.bs_sched.specs.Lane.{Lane, has_begin, has_join, is_out, occupies}
use Rattle.bs_sched.specs.Storage.{Storage, frames_of, stored, without_frames}

-- ---- a job that answers

-- it has all frame blocks of its game
pub all_of_job : (k : JobKind) (p : ℕ) (numbers : List (Option ℕ)) → k ≢ kind.Part → (k ≡ kind.Begin → numbers ≡ []) → job_numbers k p numbers ≡ flattened numbers
all_of_job kind.Begin p numbers other none = ap (λ (ns : List (Option ℕ)). flattened ns) (sym (none refl))
all_of_job kind.Part p numbers other none = absurd (other refl)
all_of_job kind.Join p numbers other none = refl

pub occupied : (k : JobKind) (x : Lane) (worker p : ℕ) → k ≢ kind.Part → is_out worker x k p ≡ true → occupies worker x ≡ true
occupied kind.Begin x worker p other out = let has = (and_parts (nat_eq p 0) (has_begin worker x.stage) out).1 in rw has refl
occupied kind.Part x worker p other out = absurd (other refl)
occupied kind.Join x worker p other out =
    let has = (and_parts (nat_eq p 0) (has_join worker x.stage) out).1 in
    elim (cases_Bool (has_begin worker x.stage)) [
      | inl on ↦ rw on refl
      | inr off ↦ rw (off, has) refl
    ]

-- if no block was drawn there is none to give back
pub answered_storage : (k : JobKind) (cap game : ℕ) (x : Lane) (storage : Storage) → k ≢ kind.Part → (k ≡ kind.Begin → frames_of storage game ≡ [])
    → without_frames game (stored cap game (answer_effect x) storage) ≡ storage_answered k cap game x storage
answered_storage kind.Begin cap game x storage other none =
    let here : frames_of storage game ≡ [] = none refl in
    let frames : slice_set storage.frames game [] ≡ storage.frames
    = ap (λ (ns : List (Option ℕ)). slice_set storage.frames game ns) (sym here) ∙ set-get_or storage.frames game [] in
    rw (here, frames) refl
answered_storage kind.Part cap game x storage other none = absurd (other refl)
answered_storage kind.Join cap game x storage other none = refl

-- ---- a part

known_one : (numbers : List (Option ℕ)) (p n : ℕ) → slice_index_or numbers p None ≡ Some n → slice_get numbers p ≡ Some (Some n)
known_one [] p n is = absurd cc
known_one (o ∷ numbers) zero n is = ap (λ (x : Option ℕ). Some x) is
known_one (o ∷ numbers) (suc p) n is = known_one numbers p n is

named_one : (own tag n : ℕ) (o : Option ℕ) → ◌≡◌ {A = List (ℕ × ℕ)} ((tag, n) ∷ []) (map (λ (m : ℕ). (own, m)) (flattened (o ∷ []))) → (tag ≡ own) × (o ≡ Some n)
named_one own tag n None is = absurd cc
named_one own tag n (Some m) is =
    let pair : ◌≡◌ {A = ℕ × ℕ} (tag, n) (own, m) = cc in
    (ap (λ (x : ℕ × ℕ). x.0) pair, ap (λ (x : ℕ × ℕ). Some x.1) (sym pair))

-- its only block is the one that was drawn for it, and holds the snakes that it moved
pub record IsPartBlock {most : ℕ} (own p : ℕ) (numbers : List (Option ℕ)) (bytes : List ℕ) (owned : Owned most) : Type 0 where
  pub tag : owned.tag ≡ own
  pub number : slice_get numbers p ≡ Some (Some owned.number)
  pub holds : owned.block ≡ bytes

pub record IsPart (k : JobKind) (p : ℕ) (view : View) (command : Command) (pieces : List Piece) : Type 0 where
  pub kind : k ≡ kind.Part
  pub pieces_are : pieces ≡ pieces_from 0 (moved_part p view command)

pub part_of_moved : (k : JobKind) (p : ℕ) (view : View) (command : Command) (pieces : List Piece) → Moved pieces ≡ out_seen k p view command → IsPart k p view command pieces
part_of_moved kind.Begin p view command pieces is =
    elim (cases_Bool (goes view command)) [
      | inl on ↦ let wrong : Moved pieces ≡ Goes = rw on at is in absurd cc
      | inr off ↦ let wrong : Moved pieces ≡ Answered (answer_of view command) = rw off at is in absurd cc
    ]
part_of_moved kind.Part p view command pieces is = record { kind = refl; pieces_are = cc }
part_of_moved kind.Join p view command pieces is = absurd cc

pub part_block : {most : ℕ} (own p : ℕ) (numbers : List (Option ℕ)) (view : View) (command : Command) (blocks : List (Owned most)) (owned : Owned most)
    → blocks ≡ owned ∷ [] → names_of (frames_in blocks) ≡ map (λ n. (own, n)) (job_numbers kind.Part p numbers)
    → bytes_of (frames_in blocks) ≡ worked_bytes kind.Part p view command → IsPartBlock own p numbers (frame_of (moved_part p view command)) owned
part_block {most} own p numbers view command blocks owned only names holds =
    let here : ◌≡◌ {A = List (ℕ × ℕ)} ((owned.tag, owned.number) ∷ []) (map (λ (m : ℕ). (own, m)) (flattened (slice_index_or numbers p None ∷ [])))
    = ap (λ (bs : List (Owned most)). names_of (frames_in bs)) (sym only) ∙ names in
    let named = named_one own owned.tag owned.number (slice_index_or numbers p None) here in
    let bytes : owned.block ∷ [] ≡ frame_of (moved_part p view command) ∷ [] = ap (λ (bs : List (Owned most)). bytes_of (frames_in bs)) (sym only) ∙ holds in
    record { tag = named.0; number = known_one numbers p owned.number named.1; holds = cc }

-- only a Begin answers without having joined

pub record IsAnswer (k : JobKind) (view : View) (command : Command) (answer : Answer) : Type 0 where
  pub other : k ≢ kind.Part
  pub answer_is : answer ≡ answer_of view command

pub answer_of_out : (k : JobKind) (p : ℕ) (view : View) (command : Command) (answer : Answer) → Answered answer ≡ out_seen k p view command → IsAnswer k view command answer
answer_of_out kind.Begin p view command answer is =
    elim (cases_Bool (goes view command)) [
      | inl on ↦ let wrong : Answered answer ≡ Goes = rw on at is in absurd cc
      | inr off ↦ let same : Answered answer ≡ Answered (answer_of view command) = rw off at is in record { other = λ same. absurd cc; answer_is = cc }
    ]
answer_of_out kind.Part p view command answer is = absurd cc
answer_of_out kind.Join p view command answer is = absurd cc
