-- The answers to some lines, while they are written.
use Rattle.std.proofs.Common.{◌≡◌, ℕ, ◌+◌, ◌-◌, ◌≤◌, List, [], ◌∷◌, ◌++◌, Option, length, map, take, drop, refl, sym, ap, subst, ◌∙◌, arith, inl, append-nil, append_assoc, length-append, length-drop, take-append-drop}
use Rattle.std.specs.Prelude.{fold}
use Rattle.std.specs.Io.KnownBytes.{Appends}
use Rattle.std.specs.List.{copy_within}
use Rattle.std.proofs.Math.Seq.{take-append_seam}
use Rattle.std.proofs.lemmas.List.{take_all}
use Rattle.std.proofs.lemmas.List.Edits.{paste_all}
use Rattle.std.proofs.lemmas.List.Sums.{fold-append}
use Rattle.bs_board.specs.declared.plans.version.Version.{Version}
use Rattle.bs_board.specs.plans.Plan.{GameRow}
use Rattle.bs_host.specs.declared.fault.Fault.{Fault}
use Rattle.bs_host.specs.declared.fault.Fault.TheVariants.{Memory, Write, Flush}
use Rattle.bs_host.specs.declared.live.Answers.{Answers}
use Rattle.bs_host.specs.declared.live_host.LiveHost.{LiveHost}
use Rattle.bs_host.specs.File.{pieces_of}
use Rattle.bs_host.specs.Live.{answers_from}
use Rattle.bs_host.specs.LiveFaults.{HasFirstAnswers}
use Rattle.bs_host.specs.inner.Live.{IsCutLast, IsServing, held_of}
use Rattle.bs_host.specs.inner.LiveAnswers.{HasAnswers, HasTexts, LeavesTexts}
use Rattle.bs_host.specs.inner.LiveFaults.{LeavesLines, LeavesText}
use Rattle.bs_host.specs.inner.LiveHost.{live_after, live_text, live_texts}
use Rattle.bs_host.proofs.LiveBytes.{appends_both, appends_kept, appends_none, serving_answers}
use Rattle.bs_host.proofs.LiveHeld.{map_both}
use Rattle.bs_host.proofs.LiveStates.{answered_more, texts_are}
use Rattle.bs_host.proofs.LiveStops.{first_of, serving_first, serving_text, take_both, text_leaves}
use Rattle.bs_host.proofs.LiveTexts.{answers_append}

texts_append : (host : LiveHost) (done more : List (List ℕ)) → live_texts host (done ++ more) ≡ live_texts host done ++ live_texts (fold live_after host done) more
texts_append host [] more = refl
texts_append host (line ∷ done) more =
    ap (λ rest. live_text host line ++ rest) (texts_append (live_after host line) done more)
    ∙ sym (append_assoc (live_text host line) (live_texts (live_after host line) done) (live_texts (fold live_after (live_after host line) done) more))

-- some lines are answered

pub answers_begin : (from now : Answers) (lines : List (List ℕ)) (old : Option (List ℕ)) → now.host ≡ from.host → now.text.bytes ≡ [] → now.written ≡ from.written
    → HasAnswers from now lines lines old old
answers_begin from now lines old same empty count =
    record {
      done = [];
      parts = refl;
      answered = same;
      told = [];
      all = sym empty;
      written = appends_none old;
      counted = omega (arith, count);
      whole = record { count = 0; few = omega arith; written = appends_none old };
    }

pub answers_line : (from now next : Answers) (lines left more : List (List ℕ)) (line : List ℕ) (old new : Option (List ℕ)) → HasAnswers from now lines left old new
    → left ≡ line ∷ more → next.host ≡ live_after now.host line → next.text.bytes ≡ now.text.bytes ++ live_text now.host line → next.written ≡ now.written
    → HasAnswers from next lines more old new
answers_line from now next lines left more line old new has is moved told same =
    let behind = fold live_after from.host has.done in
    record {
      done = has.done ++ line ∷ [];
      parts = has.parts ∙ ap (λ rest. has.done ++ rest) is ∙ sym (append_assoc has.done (line ∷ []) more);
      answered = moved ∙ ap (λ host. live_after host line) has.answered ∙ sym (fold-append live_after from.host has.done (line ∷ []));
      told = has.told;
      all =
          texts_append from.host has.done (line ∷ []) ∙ ap (λ text. text ++ (live_text behind line ++ [])) has.all
          ∙ ap (λ text. (has.told ++ now.text.bytes) ++ text) (append-nil (live_text behind line))
          ∙ ap (λ host. (has.told ++ now.text.bytes) ++ live_text host line) (sym has.answered)
          ∙ append_assoc has.told now.text.bytes (live_text now.host line) ∙ ap (λ text. has.told ++ text) (sym told);
      written = has.written;
      counted = same ∙ has.counted;
      whole = has.whole;
    }

-- the answers so far are whole
all_written : (from now : Answers) (lines left : List (List ℕ)) (old mid new : Option (List ℕ)) → HasAnswers from now lines left old mid
    → Appends mid new now.text.bytes → HasTexts from.host lines old new
all_written from now lines left old mid new has wrote =
    let front : take (length has.done) lines ≡ has.done
    = ap (take (length has.done)) has.parts ∙ take-append_seam has.done left in
    let many = ap length has.parts in
    let whole : live_texts from.host (take (length has.done) lines) ≡ has.told ++ now.text.bytes
    = ap (live_texts from.host) front ∙ has.all in
    record {
      count = length has.done;
      few = omega (arith, many, length-append has.done left);
      written = subst (λ text. Appends old new text) (sym whole) (appends_both old mid new has.told now.text.bytes has.written wrote);
    }

pub answers_written : (from now next : Answers) (lines left : List (List ℕ)) (old mid new : Option (List ℕ)) → HasAnswers from now lines left old mid
    → Appends mid new now.text.bytes → next.host ≡ now.host → next.text.bytes ≡ [] → next.written ≡ now.written + length now.text.bytes
    → HasAnswers from next lines left old new
answers_written from now next lines left old mid new has wrote same empty adds =
    let before = has.counted in
    record {
      done = has.done;
      parts = has.parts;
      answered = same ∙ has.answered;
      told = has.told ++ now.text.bytes;
      all = has.all ∙ sym (append-nil (has.told ++ now.text.bytes)) ∙ ap (λ text. (has.told ++ now.text.bytes) ++ text) (sym empty);
      written = appends_both old mid new has.told now.text.bytes has.written wrote;
      counted = omega (arith, adds, before, length-append has.told now.text.bytes);
      whole = all_written from now lines left old mid new has wrote;
    }

-- a write of the answers failed
pub answers_leave : (from now : Answers) (lines left : List (List ℕ)) (old mid new : Option (List ℕ)) (fault : Fault) → HasAnswers from now lines left old mid
    → LeavesText now.text.bytes now.written mid new fault → LeavesTexts from lines old new fault
answers_leave from now lines left old mid new Memory has keeps =
    record {
      count = has.whole.count;
      few = has.whole.few;
      written = appends_kept old mid new (live_texts from.host (take has.whole.count lines)) has.whole.written keeps;
    }
answers_leave from now lines left old mid new (Write written) has stops =
    let (taken, at, few, part) = stops in
    let before = has.counted in
    let rest = live_texts (fold live_after from.host has.done) left in
    let whole : live_texts from.host lines ≡ (has.told ++ now.text.bytes) ++ rest
    = ap (live_texts from.host) has.parts ∙ texts_append from.host has.done left ∙ ap (λ text. text ++ rest) has.all in
    let all = ap length whole in
    let front : take (length has.told + taken) (live_texts from.host lines) ≡ has.told ++ take taken now.text.bytes
    = ap (take (length has.told + taken)) whole ∙ take_both has.told now.text.bytes rest taken (omega (arith, few)) in (
      length has.told + taken,
      omega (arith, at, before),
      omega (arith, few, all, length-append (has.told ++ now.text.bytes) rest, length-append has.told now.text.bytes),
      subst (λ text. Appends old new text) (sym front) (appends_both old mid new has.told (take taken now.text.bytes) has.written part),
    )
answers_leave from now lines left old mid new Flush has wrote = all_written from now lines left old mid new has wrote
answers_leave from now lines left old mid new _ has stops = absurd stops

-- the lines are those of the first pending bytes

module _ (blocks : ℕ) (version : Version) (plan : List GameRow) where
  pub answers_serve : (after pending front back : List ℕ) (first now next : Option (List ℕ)) (from to : Answers)
      → IsServing blocks version plan after pending first now from.written from.host → IsCutLast pending front back
      → HasAnswers from to (pieces_of front) [] now next → to.text.bytes ≡ [] → IsServing blocks version plan after back first next to.written to.host
  answers_serve after pending front back first now next from to is cut has empty =
      let text = live_texts from.host (pieces_of front) in
      let all : pieces_of front ≡ has.done = has.parts ∙ append-nil has.done in
      let told : text ≡ has.told
      = ap (live_texts from.host) all ∙ has.all ∙ ap (λ last. has.told ++ last) empty ∙ append-nil has.told in
      let moved : to.host ≡ fold live_after from.host (pieces_of front) = has.answered ∙ ap (fold live_after from.host) (sym all) in
      serving_answers blocks version plan after pending front back text first now next from.written to.written from.host to.host is cut
      (λ before done. answered_more blocks version plan before (pieces_of front) from.host to.host done moved)
      (λ before done. texts_are blocks version plan before (pieces_of front) from.host done)
      (subst (λ t. Appends now next t) (sym told) has.written)
      (has.counted ∙ ap (λ t. from.written + length t) (sym told))

  texts_first : (after pending front back more : List ℕ) (first now next : Option (List ℕ)) (count : ℕ) (host : LiveHost)
      → IsServing blocks version plan after pending first now count host → IsCutLast pending front back
      → HasTexts host (pieces_of front) now next → HasFirstAnswers blocks version plan (pieces_of (after ++ more)) first next
  texts_first after pending front back more first now next count host is cut has =
      let lines = pieces_of front in
      let behind = pieces_of (back ++ more) in
      let some = take has.count lines in
      let rest = drop has.count lines ++ behind in
      let done = is.done ++ some in
      let held : map held_of (pieces_of (after ++ more)) ≡ map held_of done ++ map held_of rest
      = is.parts more ∙ ap (λ pieces. map held_of is.done ++ map held_of pieces) (cut more)
      ∙ ap (λ pieces. map held_of is.done ++ map held_of (pieces ++ behind)) (sym (take-append-drop has.count lines))
      ∙ ap (λ pieces. map held_of is.done ++ map held_of pieces) (append_assoc some (drop has.count lines) behind)
      ∙ ap (λ pieces. map held_of is.done ++ pieces) (map_both some rest)
      ∙ sym (append_assoc (map held_of is.done) (map held_of some) (map held_of rest))
      ∙ ap (λ pieces. pieces ++ map held_of rest) (sym (map_both is.done some)) in
      let before = answers_from blocks version plan [] is.done in
      let told : answers_from blocks version plan [] done ≡ before ++ live_texts host some
      = answers_append blocks version plan [] is.done some ∙ ap (λ text. before ++ text) (sym (texts_are blocks version plan is.done some host is.answered)) in
      first_of blocks version plan (pieces_of (after ++ more)) done (map held_of rest) first next held
      (subst (λ text. Appends first next text) (sym told) (appends_both first now next before (live_texts host some) is.written has.written))

  pub texts_leave : (after pending front back more : List ℕ) (first now next : Option (List ℕ)) (from : Answers) (fault : Fault)
      → IsServing blocks version plan after pending first now from.written from.host → IsCutLast pending front back
      → LeavesTexts from (pieces_of front) now next fault → LeavesLines blocks version plan (pieces_of (after ++ more)) first next fault
  texts_leave after pending front back more first now next from Memory is cut stops =
      texts_first after pending front back more first now next from.written from.host is cut stops
  texts_leave after pending front back more first now next from (Write written) is cut stops =
      let lines = pieces_of front in
      let text = live_texts from.host lines in
      let all : live_texts from.host (take (length lines) lines) ≡ text = ap (live_texts from.host) (take_all (length lines) lines (omega arith)) in
      let (rest, whole) = serving_text blocks version plan after pending front back text more first now from.written from.host is cut
      (texts_are blocks version plan is.done lines from.host is.answered) in
      text_leaves blocks version plan (pieces_of (after ++ more)) (answers_from blocks version plan [] is.done) text rest first now next from.written (Write written)
      whole is.counted is.written (serving_first blocks version plan after pending more first now from.written from.host is)
      (λ wrote.
      inl (texts_first after pending front back more first now next from.written from.host is cut
      (record { count = length lines; few = omega arith; written = subst (λ t. Appends now next t) (sym all) wrote })))
      stops
  texts_leave after pending front back more first now next from Flush is cut stops =
      inl (texts_first after pending front back more first now next from.written from.host is cut stops)
  texts_leave after pending front back more first now next from _ is cut stops = absurd stops

-- the pending bytes that are left

none_taken : {X : Type 0} (xs : List X) → take 0 xs ≡ []
none_taken [] = refl
none_taken (x ∷ xs) = refl

pub moved_front : (bytes : List ℕ) (count left : ℕ) → count ≤ length bytes → left ≡ length bytes - count
    → take left (copy_within bytes count (length bytes) 0) ≡ drop count bytes
moved_front bytes count left within is =
    let many : left ≡ length (drop count bytes) = is ∙ sym (length-drop count bytes) in
    let rest = drop (0 + (length bytes - count)) bytes in
    ap (take left) (paste_all bytes 0 (drop count bytes) (length bytes - count) (sym (length-drop count bytes)))
    ∙ ap (λ none. take left (none ++ (drop count bytes ++ rest))) (none_taken bytes)
    ∙ ap (λ n. take n (drop count bytes ++ rest)) many
    ∙ take-append_seam (drop count bytes) rest
