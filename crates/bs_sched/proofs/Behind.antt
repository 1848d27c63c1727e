-- Frame blocks that are drawn before the records of a stay change, and are then given back.
use Rattle.std.proofs.Common.{◌≡◌, ℕ, zero, suc, ◌+◌, ◌<◌, ◌≤◌, List, [], ◌∷◌, ◌++◌, length, map, refl, sym, ap, subst, ◌∙◌, arith, append-nil}
use Rattle.std.proofs.lemmas.List.{length_push, map_push}
use Rattle.bs_fiber.specs.Tickets.{frames_in, names_of}
use Rattle.bs_game.specs.declared.reply.Answer.{Answer}
use Rattle.bs_heap.specs.Charge.{blocks_for}
use Rattle.bs_heap.specs.Heap.{Heap, with_index_room}
use Rattle.bs_heap.specs.HeldBlocks.{Holds, IsKeptIn, LeavesOthers, all_given, next_number}
use Rattle.bs_heap.specs.Packing.{Packing, numbers_of}
use Rattle.bs_heap.proofs.HeldBlocks.{leaves_then}
use Rattle.bs_pool.specs.declared.owned.Owned.{Owned}
use Rattle.bs_pool.specs.Ledger.{Ledger, drawn, held, reserved}
use Rattle.bs_sched.specs.declared.game.Game.TheInside.{Inside}
use Rattle.bs_sched.specs.Frames.{flattened}
use Rattle.bs_sched.specs.Game.{GameView}
use Rattle.bs_sched.specs.Lane.{Lane}
use Rattle.bs_sched.specs.MoveParts.{PartView}
use Rattle.bs_sched.specs.Storage.{packing_after, pool_after}
use Rattle.bs_sched.specs.inner.Answering.{frame_numbers, next_answer, number_behind, pool_here, with_frames}
use Rattle.bs_sched.specs.inner.Frames.{LeavesBut}
use Rattle.bs_sched.specs.inner.Game.{HasBlocks, IsGame, game_in, lane_at}
use Rattle.bs_sched.specs.inner.MoveParts.{number_of}

many_numbers : (tag n : ℕ) (pool : Ledger) → length (frame_numbers tag n pool) ≡ n
many_numbers tag zero pool = refl
many_numbers tag (suc n) pool = let before = many_numbers tag n pool in let more = length_push (frame_numbers tag n pool) (next_number (with_frames tag n pool)) in omega (arith, before, more)

-- that many blocks are drawn so far
pub record AreFrames {most : ℕ} (frames : List (Owned most)) (tag n : ℕ) (old new : Ledger) : Type 0 where
  pub names : names_of (frames_in frames) ≡ map (λ m. (tag, m)) (frame_numbers tag n old)
  pub pool : new ≡ with_frames tag n old
  pub kept : Holds tag (frame_numbers tag n old) new
  pub others : LeavesOthers tag old new

pub room_for_one : (tag n count : ℕ) (old new : Ledger) → Holds tag (frame_numbers tag n old) new → LeavesOthers tag old new → n < count → count ≤ reserved tag old
    → held tag new < reserved tag new
room_for_one tag n count old new holds others less room =
    let all = holds.all in let many = many_numbers tag n old in
    rw others.reservations (omega (arith, all, many, less, room))

names_more : {most : ℕ} (frames : List (Owned most)) (owned : Owned most) (tag n : ℕ) (pool : Ledger)
    → names_of (frames_in frames) ≡ map (λ m. (tag, m)) (frame_numbers tag n pool) → owned.tag ≡ tag → owned.number ≡ next_number (with_frames tag n pool)
    → names_of (frames_in (frames ++ owned ∷ [])) ≡ map (λ m. (tag, m)) (frame_numbers tag (suc n) pool)
names_more frames owned tag n pool before tagged number =
    let numbers = frame_numbers tag n pool in
    let next = next_number (with_frames tag n pool) in
    ap names_of (map_push _ frames owned) ∙ map_push _ (frames_in frames) _
    ∙ (λ i. before i ++ (tagged i, number i) ∷ []) ∙ sym (map_push (λ (m : ℕ). (tag, m)) numbers next)

-- one more is drawn
pub one_more_frame : {most : ℕ} (frames : List (Owned most)) (owned : Owned most) (tag n : ℕ) (old mid new : Ledger) → AreFrames frames tag n old mid
    → owned.tag ≡ tag → owned.number ≡ next_number mid → new ≡ drawn tag (next_number mid) mid
    → ((front back : List ℕ) → Holds tag (front ++ back) mid → Holds tag (front ++ next_number mid ∷ back) new) → LeavesOthers tag mid new
    → AreFrames (frames ++ owned ∷ []) tag (n + 1) old new
one_more_frame frames owned tag n old mid new are tagged number is kept others =
    let more : n + 1 ≡ suc n = omega arith in
    let numbers = frame_numbers tag n old in
    let next = ap next_number are.pool in
    let here = kept numbers [] (subst (λ (l : List ℕ). Holds tag l mid) (sym (append-nil numbers)) are.kept) in
    rw more (record {
      names = names_more frames owned tag n old are.names tagged (number ∙ next);
      pool = is ∙ ap (λ (pool : Ledger). drawn tag (next_number pool) pool) are.pool;
      kept = subst (λ (m : ℕ). Holds tag (numbers ++ m ∷ []) new) next here;
      others = leaves_then tag old mid new are.others others;
    })

-- ---- the stay whose records change then

pub leaves_between : (tag frames : ℕ) (old first second new : Ledger) → LeavesOthers frames old first → LeavesOthers tag first second → LeavesOthers frames second new
    → LeavesBut tag frames old new
leaves_between tag frames old first second new drew changed gave =
    record {
      holds = λ own numbers not_tag not_frames holds.
          gave.holds own numbers not_frames (changed.holds own numbers not_tag (drew.holds own numbers not_frames holds));
      reservations = gave.reservations ∙ changed.reservations ∙ drew.reservations;
    }

module _ (cap : ℕ) {at : ℕ} (c : Inside at) (pool : Ledger) (has : HasBlocks cap (game_in c) pool) where
  pub none_held : c.parts.list ≡ [] → Holds c.parts.tag [] pool
  none_held none = subst (λ (l : List PartView). Holds c.parts.tag (flattened (map number_of l)) pool) none has.frames

  pub room_here : (heap : Heap) (drew : Ledger) → IsGame cap c → heap ≡ with_index_room heap.index_room c.heap → LeavesOthers c.parts.tag pool drew
      → (blocks_for cap heap.quota ≤ reserved heap.tag drew) × IsKeptIn heap drew
  room_here heap drew is grown others =
      let room = has.room in
      let quota = is.quota in
      rw grown (rw (quota, others.reservations) room, others.holds c.heap.tag (numbers_of c.heap.packing) has.apart has.records)

  -- the frame blocks are still held once the records have changed
  pub held_here : (heap : Heap) (numbers : List ℕ) (drew changed : Ledger) → heap ≡ with_index_room heap.index_room c.heap → LeavesOthers heap.tag drew changed
      → Holds c.parts.tag numbers drew → Holds c.parts.tag numbers changed
  held_here heap numbers drew changed grown others holds =
      let tag : heap.tag ≡ c.heap.tag = ap (λ (h : Heap). h.tag) grown in
      others.holds c.parts.tag numbers (λ same. has.apart (sym tag ∙ sym same)) holds

  pub blocks_here : (x : Lane) (heap : Heap) (new : Ledger) → c.parts.list ≡ [] → x.row ≡ c.fiber.row → heap.tag ≡ c.heap.tag → IsKeptIn heap new
      → Holds c.parts.tag [] new → new.reservations ≡ pool.reservations → HasBlocks cap (game_in (record c { fiber = x; heap = heap })) new
  blocks_here x heap new none row tag records frames reservations =
      record {
        records = records;
        room = rw (row, tag, reservations) has.room;
        frames = subst (λ (l : List PartView). Holds c.parts.tag (flattened (map number_of l)) new) (sym none) frames;
        frame_room = rw reservations has.frame_room;
        apart = rw tag has.apart;
      }

pub pool_is_here : (cap n : ℕ) {at : ℕ} (c : Inside at) (v : GameView) (answer : Answer) (heap : Heap) (pool drew changed new : Ledger) → game_in c ≡ v
    → heap ≡ with_index_room heap.index_room c.heap → answer ≡ next_answer (lane_at c) → drew ≡ with_frames c.parts.tag n pool
    → changed ≡ pool_after cap heap.tag answer.effect heap.packing drew → new ≡ all_given (frame_numbers c.parts.tag n pool) changed
    → new ≡ pool_here cap n v pool
pool_is_here cap n c v answer heap pool drew changed new is grown told drew_is changed_is new_is =
    let tag : heap.tag ≡ c.heap.tag = ap (λ (h : Heap). h.tag) grown in
    let packing : heap.packing ≡ c.heap.packing = ap (λ (h : Heap). h.packing) grown in
    new_is ∙ ap (all_given (frame_numbers c.parts.tag n pool)) (changed_is ∙ (λ i. pool_after cap (tag i) (told i).effect (packing i) (drew_is i)))
    ∙ ap (λ (u : GameView). pool_here cap n u pool) is

pub packing_is_here : (cap n : ℕ) {at : ℕ} (c : Inside at) (answer : Answer) (heap : Heap) (pool drew : Ledger) (packing : Packing)
    → heap ≡ with_index_room heap.index_room c.heap → answer ≡ next_answer (lane_at c) → drew ≡ with_frames c.parts.tag n pool
    → packing ≡ packing_after cap (next_number drew) answer.effect heap.packing
    → packing ≡ packing_after cap (number_behind c.parts.tag n pool) (next_answer (lane_at c)).effect c.heap.packing
packing_is_here cap n c answer heap pool drew packing grown told drew_is is =
    let same : heap.packing ≡ c.heap.packing = ap (λ (h : Heap). h.packing) grown in
    is ∙ (λ i. packing_after cap (next_number (drew_is i)) (told i).effect (same i))
