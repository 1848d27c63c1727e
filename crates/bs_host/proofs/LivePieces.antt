-- A text split at a line feed, with more text after it.
use Rattle.std.proofs.Common.{◌≡◌, ℕ, suc, ◌+◌, ◌-◌, ◌<◌, true, false, List, [], ◌∷◌, ◌++◌, Option, Some, None, All, length, take, drop, get_or, refl, sym, ap, subst, ◌∙◌, arith, append_assoc, length-drop, length-take, take-append-drop, add-one}
use Rattle.std.proofs.Math.Seq.{drop-cons}
use Rattle.std.proofs.lemmas.List.{get_or-drop, get_or-take, get_or_default, take_rest}
use Rattle.std.proofs.lemmas.List.Quantifiers.{position-Some}
use Rattle.std.proofs.lemmas.List.Splits.{slice_split_at}
use Rattle.std.specs.List.{position}
use Rattle.std.specs.Prelude.{IfSome, IsNone}
use Rattle.memchr.specs.Find.{IsLastByte, Nowhere, Passes, is_byte}
use Rattle.bs_host.specs.declared.lines.TheConstants.{LINE_FEED}
use Rattle.bs_host.specs.File.{pieces_of}
use Rattle.bs_host.specs.inner.Live.{IsCutFirst, IsCutLast}
use Rattle.bs_host.proofs.CutPieces.{is_feed, is_not, pieces_between}
use Rattle.bs_host.proofs.LiveHeld.{none_found}

around : (text : List ℕ) (at : ℕ) → at < length text → text ≡ take at text ++ get_or text at 0 ∷ drop (suc at) text
around text at inside = sym (ap (λ t. take at text ++ t) (sym (drop-cons text at 0 inside)) ∙ take-append-drop at text)

pub first_cut : (text : List ℕ) (at : ℕ) → position is_feed text ≡ Some at → IsCutFirst text (take at text) (take (length text - (at + 1)) (drop (at + 1) text))
first_cut text at found =
    λ more.
    let (inside, hit, before) = position-Some is_feed text at 0 found in
    let front : All (λ byte. is_feed byte ≡ false) (take at text) = λ k d within.
    let place : k < at = omega (arith, length-take at text) in
    rw (get_or-take at text k d place) ((position-Some is_feed text at d found).2 k place) in
    let rest = take_rest text (at + 1) in
    let all : text ++ more ≡ take at text ++ get_or text at 0 ∷ (drop (suc at) text ++ more)
    = ap (λ t. t ++ more) (around text at inside) ∙ append_assoc (take at text) (get_or text at 0 ∷ drop (suc at) text) more in
    ap pieces_of all ∙ slice_split_at is_feed (take at text) (get_or text at 0) (drop (suc at) text ++ more) front hit
    ∙ ap (λ n. take at text ∷ pieces_of (drop n text ++ more)) (sym (add-one at))
    ∙ ap (λ back. take at text ∷ pieces_of (back ++ more)) (sym rest)

pub last_cut : (text : List ℕ) (at : ℕ) → at < length text → is_feed (get_or text at 0) ≡ true → IsCutLast text (take at text) (drop (at + 1) text)
last_cut text at inside hit =
    λ more.
    let all : text ++ more ≡ take at text ++ get_or text at 0 ∷ (drop (suc at) text ++ more)
    = ap (λ t. t ++ more) (around text at inside) ∙ append_assoc (take at text) (get_or text at 0 ∷ drop (suc at) text) more in
    ap pieces_of all ∙ pieces_between (take at text) (get_or text at 0) (drop (suc at) text ++ more) hit
    ∙ ap (λ n. pieces_of (take at text) ++ pieces_of (drop n text ++ more)) (sym (add-one at))

-- no line feed is at these places
none_from : (text : List ℕ) (place : ℕ) → Nowhere (Passes (is_byte LINE_FEED) text) place (length text) → position is_feed (drop place text) ≡ None
none_from text place nowhere =
    none_found (drop place text) (position is_feed (drop place text)) refl (λ k d within.
    let inside : place + k < length text = omega (arith, within, length-drop place text) in
    let same : get_or (drop place text) k d ≡ get_or text (place + k) 0 = get_or-drop place text k d ∙ get_or_default text (place + k) d 0 inside in
    ap is_feed same ∙ is_not (is_feed (get_or text (place + k) 0)) (nowhere (place + k) (omega arith) inside))

pub feed_behind : (text : List ℕ) (found : Option ℕ) → IsLastByte (is_byte LINE_FEED) text found → IfSome found (λ at. position is_feed (drop (at + 1) text) ≡ None)
feed_behind text None is = tt
feed_behind text (Some at) is = none_from text (at + 1) is.0.after

none_dropped : (text : List ℕ) → drop 0 text ≡ text
none_dropped [] = refl
none_dropped (byte ∷ text) = refl

pub no_feed : (text : List ℕ) (found : Option ℕ) → IsLastByte (is_byte LINE_FEED) text found → IsNone found → position is_feed text ≡ None
no_feed text None is none = subst (λ bytes. position is_feed bytes ≡ None) (none_dropped text) (none_from text 0 is)
no_feed text (Some at) is none = let wrong : true ≡ false = none in absurd cc
