-- Lines that are bounded, and then sent to a writer through a buffer.
use Rattle.std.proofs.Common.{◌≡◌, ℕ, suc, ◌+◌, ◌^◌, ◌<◌, ◌≤◌, min, List, [], ◌∷◌, ◌++◌, Option, length, take, drop, get_or, refl, sym, ap, ap₂, subst, ◌∙◌, arith, append_assoc, append-nil, length-append, take-append-drop, ◌-◌}
use Rattle.std.specs.Prelude.{All}
use Rattle.std.specs.Io.KnownBytes.{Appends}
use Rattle.std.proofs.KnownBytes.{Appends-nil, Appends-trans}
use Rattle.std.proofs.Math.Seq.{take-append-add}
use Rattle.std.proofs.lemmas.List.{drop-drop, get_or-append-add, take-append-le, take_more, drop_more}
use Rattle.std.proofs.lemmas.List.Concat.{flat_map-append}
use Rattle.std.proofs.lemmas.List.Elements.{All-append}
use Rattle.bs_json.specs.Text.{Text, blank, put}
use Rattle.bs_json.proofs.Puts.{put_whole}
use Rattle.bs_transcript.specs.inner.Buffer.{AreBounded, IsOnItsWay}
use Rattle.bs_transcript.specs.inner.Parts.{joined}
use Rattle.bs_transcript.specs.Written.{IsCutOff}
use Rattle.bs_transcript.specs.declared.line_buffer.LineBuffer.{LineBuffer}
use Rattle.bs_transcript.specs.declared.bounds.Bounds.{Bounds}

-- Bounds.

-- one line more
pub one_more_line : (before lines : List (List ℕ)) (at : ℕ) → at < length lines
    → (before ++ take at lines) ++ get_or lines at [] ∷ [] ≡ before ++ take (at + 1) lines
one_more_line before lines at within =
    append_assoc before (take at lines) (get_or lines at [] ∷ []) ∙ ap (λ ls. before ++ ls) (sym (take_more lines at [] within))

-- lines that are bounded, and others behind them
pub bounded_both : (one two both : Bounds) (lines others : List (List ℕ)) → one.longest ≤ both.longest → two.longest ≤ both.longest
    → both.total ≡ one.total + two.total → both.total < 2 ^ 64 → both.count ≡ one.count + two.count
    → AreBounded one lines → AreBounded two others → AreBounded both (lines ++ others)
bounded_both one two both lines others long long' total few count some more =
    record {
      each =
          All-append (λ line. length line ≤ both.longest) lines others (λ k d within. let short = some.each k d within in omega arith)
          (λ k d within. let short = more.each k d within in omega arith);
      total = omega (arith, some.total, more.total, ap length (flat_map-append (λ line. line) lines others), length-append (joined lines) (joined others));
      few = few;
      count = omega (arith, some.count, more.count, length-append lines others);
    }

-- Sending.

-- the buffer is empty before the first line
pub sets_out : (now : Option (List ℕ)) (buffer : LineBuffer) (bounds : Bounds) (lines : List (List ℕ)) (text : List ℕ) → joined lines ≡ text
    → AreBounded bounds lines → buffer.text ≡ blank buffer.text.room → buffer.longest ≡ bounds.longest
    → bounds.longest ≤ buffer.text.room → buffer.written ≡ 0 → IsOnItsWay now now buffer text lines
sets_out now buffer bounds lines text all bounded fresh longest room none =
    let empty : buffer.text.bytes ≡ [] = ap (λ (t : Text). t.bytes) fresh in
    record {
      front = [];
      taken = Appends-nil now;
      many = none;
      whole = sym all ∙ ap (λ bytes. bytes ++ joined lines) (sym empty);
      none_lost = ap (λ (t : Text). t.missing) fresh;
      room = omega arith;
      each = subst (λ most. All (λ line. length line ≤ most) lines) (sym longest) bounded.each;
      few = omega (arith, bounded.total, bounded.few, ap length all);
    }

few_so_far : (first now : Option (List ℕ)) (buffer : LineBuffer) (text : List ℕ) (left : List (List ℕ)) (way : IsOnItsWay first now buffer text left)
    → buffer.written + length buffer.text.bytes ≤ length text
few_so_far first now buffer text left way =
    omega (arith, way.many, ap length way.whole, length-append way.front (buffer.text.bytes ++ joined left), length-append buffer.text.bytes (joined left))

-- the writer took all that was in the buffer
pub sent_whole : (first now new : Option (List ℕ)) (buffer after : LineBuffer) (text : List ℕ) (left : List (List ℕ)) → IsOnItsWay first now buffer text left
    → Appends now new buffer.text.bytes → after.text ≡ blank buffer.text.room → after.longest ≡ buffer.longest
    → after.written ≡ min (buffer.written + length buffer.text.bytes) (2 ^ 64 - 1) → IsOnItsWay first new after text left
sent_whole first now new buffer after text left way sent cleared longest counts =
    let empty : after.text.bytes ≡ [] = ap (λ (t : Text). t.bytes) cleared in
    let room : after.text.room ≡ buffer.text.room = ap (λ (t : Text). t.room) cleared in
    record {
      front = way.front ++ buffer.text.bytes;
      taken = Appends-trans first now new way.front buffer.text.bytes way.taken sent;
      many = omega (arith, counts, way.many, way.few, few_so_far first now buffer text left way, length-append way.front buffer.text.bytes);
      whole =
          way.whole ∙ sym (append_assoc way.front buffer.text.bytes (joined left))
          ∙ ap (λ bytes. (way.front ++ buffer.text.bytes) ++ (bytes ++ joined left)) (sym empty);
      none_lost = ap (λ (t : Text). t.missing) cleared;
      room = omega (arith, way.room, room, longest);
      each = subst (λ most. All (λ line. length line ≤ most) left) (sym longest) way.each;
      few = way.few;
    }

-- the writer failed within what was in the buffer
pub cut_off : (first now new : Option (List ℕ)) (buffer : LineBuffer) (text : List ℕ) (left : List (List ℕ)) (taken written : ℕ)
    → IsOnItsWay first now buffer text left → taken < length buffer.text.bytes → Appends now new (take taken buffer.text.bytes)
    → written ≡ min (buffer.written + taken) (2 ^ 64 - 1) → IsCutOff written first new text
cut_off first now new buffer text left taken written way fewer sent counts =
    let bytes = buffer.text.bytes in
    let most = few_so_far first now buffer text left way in
    let is : written ≡ length way.front + taken = omega (arith, way.many, way.few, counts, most, fewer) in
    let cut : take written text ≡ way.front ++ take taken bytes
    = ap (λ n. take n text) is ∙ ap (take (length way.front + taken)) way.whole
    ∙ take-append-add way.front (bytes ++ joined left) taken
    ∙ ap (λ t. way.front ++ t) (take-append-le taken bytes (joined left) (omega arith)) in
    (omega (arith, is, way.many, most, fewer), subst (Appends first new) (sym cut) (Appends-trans first now new _ _ way.taken sent))

-- a line for which there is room
pub pushed : (first now : Option (List ℕ)) (buffer after : LineBuffer) (text line : List ℕ) (left : List (List ℕ)) → IsOnItsWay first now buffer text (line ∷ left)
    → length buffer.text.bytes + buffer.longest ≤ buffer.text.room → after.text ≡ put buffer.text line → after.longest ≡ buffer.longest
    → after.written ≡ buffer.written → IsOnItsWay first now after text left
pushed first now buffer after text line left way room is longest counts =
    let own : length line ≤ buffer.longest = way.each 0 [] (omega arith) in
    let fits : length buffer.text.bytes + length line ≤ buffer.text.room = omega arith in
    let whole : after.text ≡ record { bytes = buffer.text.bytes ++ line; missing = buffer.text.missing; room = buffer.text.room }
    = is ∙ put_whole buffer.text line fits in
    record {
      front = way.front;
      taken = way.taken;
      many = counts ∙ way.many;
      whole =
          way.whole ∙ ap (λ t. way.front ++ t) (sym (append_assoc buffer.text.bytes line (joined left)))
          ∙ ap (λ bytes. way.front ++ (bytes ++ joined left)) (sym (ap (λ (t : Text). t.bytes) whole));
      none_lost = ap (λ (t : Text). t.missing) whole ∙ way.none_lost;
      room = omega (arith, way.room, longest, ap (λ (t : Text). t.room) whole);
      each = λ k d within. subst (λ most. length (get_or left k d) ≤ most) (sym longest) (way.each (suc k) d (omega arith));
      few = way.few;
    }

-- the text of some lines, as if it were in the empty buffer
abbrev loaded : LineBuffer → List ℕ → LineBuffer
loaded buffer text = record { text = record { bytes = text; missing = 0; room = buffer.text.room }; longest = buffer.longest; written = buffer.written }

loads : (first now : Option (List ℕ)) (buffer : LineBuffer) (whole text : List ℕ) (some left : List (List ℕ)) → buffer.text.bytes ≡ [] → joined some ≡ text
    → IsOnItsWay first now buffer whole (some ++ left) → IsOnItsWay first now (loaded buffer text) whole left
loads first now buffer whole text some left empty is way =
    record {
      front = way.front;
      taken = way.taken;
      many = way.many;
      whole =
          way.whole ∙ ap (λ bytes. way.front ++ (bytes ++ joined (some ++ left))) empty
          ∙ ap (λ t. way.front ++ t) (flat_map-append (λ line. line) some left) ∙ ap (λ t. way.front ++ (t ++ joined left)) is;
      none_lost = refl;
      room = way.room;
      each = λ k d within. subst (λ line. length line ≤ buffer.longest) (get_or-append-add some left k d) (way.each (length some + k) d (omega (arith, length-append some left)));
      few = way.few;
    }

-- the writer took the text of some lines, which was not in the buffer
pub sent_text : (first now new : Option (List ℕ)) (buffer after : LineBuffer) (whole text : List ℕ) (some left : List (List ℕ)) → buffer.text.bytes ≡ []
    → joined some ≡ text → IsOnItsWay first now buffer whole (some ++ left) → Appends now new text → after.text ≡ buffer.text → after.longest ≡ buffer.longest
    → after.written ≡ min (buffer.written + length text) (2 ^ 64 - 1) → IsOnItsWay first new after whole left
sent_text first now new buffer after whole text some left empty is way sent same longest counts =
    let blank_is : buffer.text ≡ blank buffer.text.room = ap₂ (λ b m. record { bytes = b; missing = m; room = buffer.text.room }) empty way.none_lost in
    sent_whole first now new (loaded buffer text) after whole left (loads first now buffer whole text some left empty is way) sent (same ∙ blank_is) longest counts

-- the writer failed within such a text
pub cut_text : (first now new : Option (List ℕ)) (buffer : LineBuffer) (whole text : List ℕ) (some left : List (List ℕ)) (taken written : ℕ)
    → buffer.text.bytes ≡ [] → joined some ≡ text → IsOnItsWay first now buffer whole (some ++ left) → taken < length text → Appends now new (take taken text)
    → written ≡ min (buffer.written + taken) (2 ^ 64 - 1) → IsCutOff written first new whole
cut_text first now new buffer whole text some left taken written empty is way fewer sent counts =
    cut_off first now new (loaded buffer text) whole left taken written (loads first now buffer whole text some left empty is way) fewer sent counts

-- the buffer is empty, and no line is left
pub arrived : (first now : Option (List ℕ)) (buffer : LineBuffer) (text : List ℕ) (room : ℕ) → IsOnItsWay first now buffer text [] → buffer.text ≡ blank room
    → Appends first now text
arrived first now buffer text room way empty =
    let all : text ≡ way.front = way.whole ∙ ap (λ (t : Text). way.front ++ (t.bytes ++ [])) empty ∙ append-nil way.front in
    subst (Appends first now) (sym all) way.taken

-- the line at a place is the next
pub next_line : (first now : Option (List ℕ)) (buffer : LineBuffer) (text : List ℕ) (lines left : List (List ℕ)) (at : ℕ) → at < length lines
    → IsOnItsWay first now buffer text (drop at lines ++ left) → IsOnItsWay first now buffer text (get_or lines at [] ∷ drop (at + 1) lines ++ left)
next_line first now buffer text lines left at within way =
    subst (λ ls. IsOnItsWay first now buffer text (ls ++ left)) (drop_more lines at [] within) way

-- the line of a number is the next
pub next_of : (first now : Option (List ℕ)) (buffer : LineBuffer) (text line : List ℕ) (lines : List (List ℕ)) (number : ℕ) → number < length lines
    → line ≡ get_or lines number [] → IsOnItsWay first now buffer text (drop number lines) → IsOnItsWay first now buffer text (line ∷ drop (number + 1) lines)
next_of first now buffer text line lines number inside is way =
    subst (IsOnItsWay first now buffer text) (drop_more lines number [] inside ∙ ap (λ l. l ∷ drop (number + 1) lines) (sym is)) way

-- the lines from one number on: those up to another, and the others
pub lines_cut : (lines : List (List ℕ)) (number from to : ℕ) → number ≡ from → from ≤ to → drop number lines ≡ take (to - from) (drop from lines) ++ drop to lines
lines_cut lines number from to is later =
    let place : from + (to - from) ≡ to = omega arith in
    ap (λ n. drop n lines) is ∙ sym (take-append-drop (to - from) (drop from lines))
    ∙ ap (λ rest. take (to - from) (drop from lines) ++ rest) (drop-drop (to - from) from lines ∙ ap (λ n. drop n lines) place)

pub on_its_way : (first now : Option (List ℕ)) (buffer : LineBuffer) (text : List ℕ) (left other : List (List ℕ)) → left ≡ other
    → IsOnItsWay first now buffer text left → IsOnItsWay first now buffer text other
on_its_way first now buffer text left other is way = subst (IsOnItsWay first now buffer text) is way
