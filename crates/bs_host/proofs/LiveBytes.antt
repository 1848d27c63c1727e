-- The bytes that a live host read and wrote.
use Rattle.std.proofs.Common.{◌≡◌, ℕ, ◌+◌, List, [], ◌++◌, Option, Some, None, length, map, refl, sym, ap, subst, ◌∙◌, arith, append-nil, append_assoc, length-append}
use Rattle.std.specs.Io.KnownBytes.{Appends, Consumes, IsAtEnd, Keeps}
use Rattle.std.specs.Prelude.{IfSome}
use Rattle.bs_board.specs.declared.plans.version.Version.{Version}
use Rattle.bs_board.specs.plans.Plan.{GameRow}
use Rattle.bs_host.specs.declared.live_host.LiveHost.{LiveHost}
use Rattle.bs_host.specs.File.{pieces_of}
use Rattle.bs_host.specs.Live.{answers_from, closing_behind, live_lines_of}
use Rattle.bs_host.specs.inner.Live.{HasAnswered, IsCutLast, IsSameText, IsServing, held_of}
use Rattle.bs_host.proofs.LiveHeld.{live_same, map_both}
use Rattle.bs_host.proofs.LiveTexts.{answers_append}

pub appends_none : (a : Option (List ℕ)) → Appends a a []
appends_none None = tt
appends_none (Some xs) = sym (append-nil xs)

pub appends_kept : (a b c : Option (List ℕ)) (text : List ℕ) → Appends a b text → Keeps b c → Appends a c text
appends_kept None b c text one two = tt
appends_kept (Some xs) None c text one two = absurd one
appends_kept (Some xs) (Some ys) None text one two = absurd two
appends_kept (Some xs) (Some ys) (Some zs) text one two = two ∙ one

pub appends_both : (a b c : Option (List ℕ)) (text more : List ℕ) → Appends a b text → Appends b c more → Appends a c (text ++ more)
appends_both None b c text more one two = tt
appends_both (Some xs) None c text more one two = absurd one
appends_both (Some xs) (Some ys) None text more one two = absurd two
appends_both (Some xs) (Some ys) (Some zs) text more one two = two ∙ ap (λ all. all ++ more) one ∙ append_assoc xs text more

pub consumes_none : (a : Option (List ℕ)) → Consumes a a []
consumes_none None = tt
consumes_none (Some xs) = refl

pub consumes_both : (a b c : Option (List ℕ)) (bytes more : List ℕ) → Consumes a b bytes → Consumes b c more → Consumes a c (bytes ++ more)
consumes_both None b c bytes more one two = tt
consumes_both (Some xs) None c bytes more one two = absurd one
consumes_both (Some xs) (Some ys) None bytes more one two = absurd two
consumes_both (Some xs) (Some ys) (Some zs) bytes more one two = one ∙ ap (λ rest. bytes ++ rest) two ∙ sym (append_assoc bytes more zs)

-- at the end all bytes were read
pub all_consumed : (a b : Option (List ℕ)) (bytes : List ℕ) → Consumes a b bytes → IsAtEnd b → IfSome a (λ left. left ≡ bytes)
all_consumed None b bytes one end = tt
all_consumed (Some xs) None bytes one end = absurd one
all_consumed (Some xs) (Some ys) bytes one end = one ∙ ap (λ rest. bytes ++ rest) end ∙ append-nil bytes

pub if_some : {P Q : List ℕ → Type 0} (a : Option (List ℕ)) → ((xs : List ℕ) → a ≡ Some xs → P xs → Q xs) → IfSome a P → IfSome a Q
if_some None f p = tt
if_some (Some xs) f p = f xs refl p

module _ (blocks : ℕ) (version : Version) (plan : List GameRow) where
  pub serving_begins : (after : List ℕ) (old : Option (List ℕ)) (host : LiveHost)
      → HasAnswered blocks version plan [] host → IsServing blocks version plan after after old old 0 host
  serving_begins after old host is = record { done = []; parts = λ more. refl; answered = is; written = appends_none old; counted = refl }

  pub serving_reads : (after pending new bytes : List ℕ) (old now : Option (List ℕ)) (count : ℕ) (host : LiveHost)
      → IsServing blocks version plan after pending old now count host → new ≡ pending ++ bytes
      → IsServing blocks version plan (after ++ bytes) new old now count host
  serving_reads after pending new bytes old now count host is read =
      record {
        done = is.done;
        parts =
            λ more.
            ap (λ text. map held_of (pieces_of text)) (append_assoc after bytes more) ∙ is.parts (bytes ++ more)
            ∙ ap (λ text. map held_of is.done ++ map held_of (pieces_of text)) (sym (append_assoc pending bytes more) ∙ ap (λ all. all ++ more) (sym read));
        answered = is.answered;
        written = is.written;
        counted = is.counted;
      }

  -- the part of the pending line that does not matter is dropped
  pub serving_holds : (after pending new : List ℕ) (old now : Option (List ℕ)) (count : ℕ) (host : LiveHost)
      → IsServing blocks version plan after pending old now count host → IsSameText pending new
      → IsServing blocks version plan after new old now count host
  serving_holds after pending new old now count host is same =
      record {
        done = is.done;
        parts = λ more. is.parts more ∙ ap (λ pieces. map held_of is.done ++ pieces) (same more);
        answered = is.answered;
        written = is.written;
        counted = is.counted;
      }

  pub serving_answers : (after pending front back text : List ℕ) (old now next : Option (List ℕ)) (count total : ℕ) (host behind : LiveHost)
      → IsServing blocks version plan after pending old now count host → IsCutLast pending front back
      → ((before : List (List ℕ)) → HasAnswered blocks version plan before host → HasAnswered blocks version plan (before ++ pieces_of front) behind)
      → ((before : List (List ℕ)) → HasAnswered blocks version plan before host → text ≡ [] ++ answers_from blocks version plan before (pieces_of front))
      → Appends now next text → total ≡ count + length text → IsServing blocks version plan after back old next total behind
  serving_answers after pending front back text old now next count total host behind is cut answers told wrote adds =
      let new : text ≡ answers_from blocks version plan is.done (pieces_of front) = told is.done is.answered in
      let before = answers_from blocks version plan [] is.done in
      let whole : answers_from blocks version plan [] (is.done ++ pieces_of front) ≡ before ++ text
      = answers_append blocks version plan [] is.done (pieces_of front) ∙ ap (λ more. before ++ more) (sym new) in
      let many = is.counted in
      record {
        done = is.done ++ pieces_of front;
        parts =
            λ more.
            is.parts more ∙ ap (λ pieces. map held_of is.done ++ map held_of pieces) (cut more)
            ∙ ap (λ pieces. map held_of is.done ++ pieces) (map_both (pieces_of front) (pieces_of (back ++ more)))
            ∙ sym (append_assoc (map held_of is.done) (map held_of (pieces_of front)) (map held_of (pieces_of (back ++ more))))
            ∙ ap (λ pieces. pieces ++ map held_of (pieces_of (back ++ more))) (sym (map_both is.done (pieces_of front)));
        answered = answers is.done is.answered;
        written =
            subst (λ all. Appends old next all) (sym whole) (appends_both old now next before text is.written wrote);
        counted = let all = ap length whole in omega (arith, adds, many, all, length-append before text);
      }

  -- the output once all is read
  pub serving_whole : (after pending text both : List ℕ) (old now : Option (List ℕ)) (count : ℕ) (host behind : LiveHost)
      → (is : IsServing blocks version plan after pending old now count host)
      → ((before : List (List ℕ)) → HasAnswered blocks version plan before host → HasAnswered blocks version plan (before ++ pieces_of pending) behind)
      → ((before : List (List ℕ)) → HasAnswered blocks version plan before host → text ≡ [] ++ answers_from blocks version plan before (pieces_of pending))
      → ((lines : List (List ℕ)) → HasAnswered blocks version plan lines behind → both ≡ text ++ closing_behind blocks version plan lines)
      → live_lines_of blocks version plan (pieces_of after) ≡ answers_from blocks version plan [] is.done ++ both
  serving_whole after pending text both old now count host behind is answers told closes =
      let lines = is.done ++ pieces_of pending in
      let all : map held_of (pieces_of after) ≡ map held_of lines
      = ap (λ text. map held_of (pieces_of text)) (sym (append-nil after)) ∙ is.parts []
      ∙ ap (λ text. map held_of is.done ++ map held_of (pieces_of text)) (append-nil pending) ∙ sym (map_both is.done (pieces_of pending)) in
      let new : text ≡ answers_from blocks version plan is.done (pieces_of pending) = told is.done is.answered in
      let before = answers_from blocks version plan [] is.done in
      let end = closing_behind blocks version plan lines in
      let ends : both ≡ answers_from blocks version plan is.done (pieces_of pending) ++ end
      = closes lines (answers is.done is.answered) ∙ ap (λ t. t ++ end) new in
      let whole : before ++ both ≡ live_lines_of blocks version plan lines
      = ap (λ t. before ++ t) ends ∙ sym (append_assoc before (answers_from blocks version plan is.done (pieces_of pending)) end)
      ∙ ap (λ t. t ++ end) (sym (answers_append blocks version plan [] is.done (pieces_of pending))) in
      live_same blocks version plan (pieces_of after) lines all ∙ sym whole

  pub serving_ends : (after both : List ℕ) (old now next : Option (List ℕ)) (count : ℕ) (pending : List ℕ) (host : LiveHost)
      → (is : IsServing blocks version plan after pending old now count host)
      → live_lines_of blocks version plan (pieces_of after) ≡ answers_from blocks version plan [] is.done ++ both
      → Appends now next both → Appends old next (live_lines_of blocks version plan (pieces_of after))
  serving_ends after both old now next count pending host is whole wrote =
      subst (λ t. Appends old next t) (sym whole) (appends_both old now next (answers_from blocks version plan [] is.done) both is.written wrote)

-- some more bytes

pub reads_more : (a b c : Option (List ℕ)) (old new : List ℕ) → Consumes a b old → ((bytes : List ℕ) × Consumes b c bytes × (new ≡ old ++ bytes)) → Consumes a c new
reads_more a b c old new one (bytes, two, is) = subst (λ all. Consumes a c all) (sym is) (consumes_both a b c old bytes one two)
