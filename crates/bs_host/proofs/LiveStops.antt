-- The output of a live host when it stops.
use Rattle.std.proofs.Common.{◌≡◌, ℕ, ◌+◌, ◌≤◌, List, [], ◌++◌, Option, length, map, take, sym, ap, subst, ◌∙◌, arith, append-nil, append_assoc, length-append}
use Rattle.std.specs.Prelude.{◌⊎◌}
use Rattle.std.specs.Io.KnownBytes.{Appends, Keeps}
use Rattle.std.proofs.lemmas.List.{length-map, take-append-le, take-map}
use Rattle.std.proofs.Math.Seq.{take-append_seam, take-append-add}
use Rattle.bs_board.specs.declared.plans.version.Version.{Version}
use Rattle.bs_board.specs.plans.Plan.{GameRow}
use Rattle.bs_host.specs.declared.live_host.LiveHost.{LiveHost}
use Rattle.bs_host.specs.declared.fault.Fault.{Fault}
use Rattle.bs_host.specs.declared.fault.Fault.TheVariants.{Device, Memory, Write, Flush}
use Rattle.bs_host.specs.File.{pieces_of}
use Rattle.bs_host.specs.Live.{answers_from, closing_behind, live_lines_of}
use Rattle.bs_host.specs.inner.Live.{IsCutLast, IsServing, held_of}
use Rattle.bs_host.specs.LiveFaults.{HasFirstAnswers}
use Rattle.bs_host.specs.inner.LiveFaults.{IsReadFault, LeavesLines, LeavesText}
use Rattle.bs_host.proofs.LiveBytes.{appends_both, appends_kept, appends_none}
use Rattle.bs_host.proofs.LiveHeld.{answers_same, live_same, map_both}
use Rattle.bs_host.proofs.LiveTexts.{answers_append}

pub take_both : (xs text rest : List ℕ) (n : ℕ) → n ≤ length text → take (length xs + n) ((xs ++ text) ++ rest) ≡ xs ++ take n text
take_both xs text rest n few =
    ap (take (length xs + n)) (append_assoc xs text rest) ∙ take-append-add xs (text ++ rest) n ∙ ap (λ t. xs ++ t) (take-append-le n text rest few)

module _ (blocks : ℕ) (version : Version) (plan : List GameRow) where
  answers_held : (a b : List (List ℕ)) → map held_of a ≡ map held_of b → answers_from blocks version plan [] a ≡ answers_from blocks version plan [] b
  answers_held a b same =
      sym (answers_same blocks version plan [] a) ∙ ap (answers_from blocks version plan []) same ∙ answers_same blocks version plan [] b

  -- if the kept bytes of the first lines are these, their answers are whole answers
  pub first_of : (lines done more : List (List ℕ)) (old new : Option (List ℕ)) → map held_of lines ≡ map held_of done ++ more
      → Appends old new (answers_from blocks version plan [] done) → HasFirstAnswers blocks version plan lines old new
  first_of lines done more old new same wrote =
      let many = ap length same in
      let front : take (length done) (map held_of done ++ more) ≡ map held_of done
      = ap (λ n. take n (map held_of done ++ more)) (sym (length-map done held_of)) ∙ take-append_seam (map held_of done) more in
      let held : map held_of (take (length done) lines) ≡ map held_of done
      = sym (take-map held_of (length done) lines) ∙ ap (take (length done)) same ∙ front in
      record {
        count = length done;
        few = omega (arith, many, length-map lines held_of, length-map done held_of, length-append (map held_of done) more);
        written = subst (λ text. Appends old new text) (sym (answers_held (take (length done) lines) done held)) wrote;
      }

  pub serving_first : (after pending more : List ℕ) (old now : Option (List ℕ)) (count : ℕ) (host : LiveHost)
      → IsServing blocks version plan after pending old now count host → HasFirstAnswers blocks version plan (pieces_of (after ++ more)) old now
  serving_first after pending more old now count host is =
      first_of (pieces_of (after ++ more)) is.done (map held_of (pieces_of (pending ++ more))) old now (is.parts more) is.written

  pub serving_last : (after pending : List ℕ) (old now : Option (List ℕ)) (count : ℕ) (host : LiveHost)
      → IsServing blocks version plan after pending old now count host → HasFirstAnswers blocks version plan (pieces_of after) old now
  serving_last after pending old now count host is =
      subst (λ text. HasFirstAnswers blocks version plan (pieces_of text) old now) (append-nil after) (serving_first after pending [] old now count host is)

  pub none_first : (lines : List (List ℕ)) (a : Option (List ℕ)) → HasFirstAnswers blocks version plan lines a a
  none_first lines a = record { count = 0; few = omega arith; written = appends_none a }

  first_kept : (lines : List (List ℕ)) (old now next : Option (List ℕ)) → HasFirstAnswers blocks version plan lines old now → Keeps now next
      → HasFirstAnswers blocks version plan lines old next
  first_kept lines old now next has keeps =
      record { count = has.count; few = has.few; written = appends_kept old now next (answers_from blocks version plan [] (take has.count lines)) has.written keeps }

  -- the answers so far, followed by this text, are a prefix of all that is written
  pub serving_text : (after pending front back text more : List ℕ) (old now : Option (List ℕ)) (count : ℕ) (host : LiveHost)
      → (is : IsServing blocks version plan after pending old now count host) → IsCutLast pending front back
      → text ≡ [] ++ answers_from blocks version plan is.done (pieces_of front)
      → (rest : List ℕ) × (live_lines_of blocks version plan (pieces_of (after ++ more)) ≡ (answers_from blocks version plan [] is.done ++ text) ++ rest)
  serving_text after pending front back text more old now count host is cut new =
      let lines = pieces_of (after ++ more) in
      let done = is.done ++ pieces_of front in
      let behind = pieces_of (back ++ more) in
      let first = answers_from blocks version plan [] is.done in
      let later = answers_from blocks version plan done behind in
      let end = closing_behind blocks version plan (done ++ behind) in
      let held : map held_of lines ≡ map held_of (done ++ behind)
      = is.parts more ∙ ap (λ pieces. map held_of is.done ++ map held_of pieces) (cut more)
      ∙ ap (λ pieces. map held_of is.done ++ pieces) (map_both (pieces_of front) behind)
      ∙ sym (append_assoc (map held_of is.done) (map held_of (pieces_of front)) (map held_of behind))
      ∙ ap (λ pieces. pieces ++ map held_of behind) (sym (map_both is.done (pieces_of front))) ∙ sym (map_both done behind) in
      let both : answers_from blocks version plan [] done ≡ first ++ text
      = answers_append blocks version plan [] is.done (pieces_of front) ∙ ap (λ t. first ++ t) (sym new) in (
        later ++ end,
        live_same blocks version plan lines (done ++ behind) held ∙ ap (λ t. t ++ end) (answers_append blocks version plan [] done behind)
            ∙ append_assoc (answers_from blocks version plan [] done) later end ∙ ap (λ t. t ++ (later ++ end)) both,
      )

  -- a write of the text failed
  pub text_leaves : (lines : List (List ℕ)) (first text rest : List ℕ) (old now next : Option (List ℕ)) (count : ℕ) (fault : Fault)
      → live_lines_of blocks version plan lines ≡ (first ++ text) ++ rest → count ≡ length first → Appends old now first
      → HasFirstAnswers blocks version plan lines old now
      → (Appends now next text → HasFirstAnswers blocks version plan lines old next ⊎ Appends old next (live_lines_of blocks version plan lines))
      → LeavesText text count now next fault → LeavesLines blocks version plan lines old next fault
  text_leaves lines first text rest old now next count Memory whole many wrote has flushed left = first_kept lines old now next has left
  text_leaves lines first text rest old now next count (Write written) whole many wrote has flushed left =
      let (taken, at, few, part) = left in
      let all = ap length whole in
      let place : written ≡ length first + taken = omega (arith, at, many) in
      let front : take written (live_lines_of blocks version plan lines) ≡ first ++ take taken text
      = ap (λ n. take n (live_lines_of blocks version plan lines)) place ∙ ap (take (length first + taken)) whole ∙ take_both first text rest taken (omega (arith, few)) in (
        omega (arith, place, few, all, length-append (first ++ text) rest, length-append first text),
        subst (λ t. Appends old next t) (sym front) (appends_both old now next first (take taken text) wrote part),
      )
  text_leaves lines first text rest old now next count Flush whole many wrote has flushed left = flushed left
  text_leaves lines first text rest old now next count _ whole many wrote has flushed left = absurd left

  pub read_leaves : (lines : List (List ℕ)) (old new : Option (List ℕ)) (fault : Fault) → IsReadFault fault → HasFirstAnswers blocks version plan lines old new
      → LeavesLines blocks version plan lines old new fault
  read_leaves lines old new Device is has = has
  read_leaves lines old new Memory is has = has
  read_leaves lines old new _ is has = absurd is
