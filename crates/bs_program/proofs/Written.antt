-- The bytes of an output after one more write, and after one more text.
use Rattle.std.proofs.Common.{◌≡◌, ◌++◌, ℕ, Bool, true, false, true≢false, ◌+◌, ◌-◌, ◌<◌, ◌≤◌, ◌∙◌, List, Option, length, take, drop, refl, sym, subst, arith, length-drop}
use Rattle.std.proofs.lemmas.List.{take_rest}
use Rattle.std.proofs.Math.Seq.{take-add}
use Rattle.std.specs.Io.KnownBytes.{Appends}
use Rattle.std.proofs.KnownBytes.{Appends-trans, Appends-nil}
use Rattle.bs_program.specs.Outcome.{Puts}
use Rattle.bs_program.specs.Streams.{held_by}
use Rattle.bs_program.specs.declared.stream.Output.{Output}

pub appends_nothing : (a : Option (List ℕ)) (text : List ℕ) → Appends a a (take 0 text)
appends_nothing a text = Appends-nil a

-- the first n bytes of `&text[at..]` after the first `at` bytes of the text
pub appends_more : (a b c : Option (List ℕ)) (text : List ℕ) (at n : ℕ) → at < length text → Appends a b (take at text)
    → n ≤ length (take (length text - at) (drop at text)) → Appends b c (take n (take (length text - at) (drop at text)))
    → (at + n ≤ length text) × Appends a c (take (at + n) text)
appends_more a b c text at n inside before bound more =
    let rest = take_rest text at in
    let few : n ≤ length (drop at text) = rw rest at bound in
    let next : Appends b c (take n (drop at text)) = rw rest at more in
    (omega (arith, length-drop at text), subst (Appends a c) (sym (take-add at n text)) (Appends-trans a b c _ _ before next))

pub puts_both : {W : Type 0} (contents : W → Option (List ℕ)) (first last : List ℕ) (old mid new : Output W)
    → Puts contents first old mid → Puts contents last mid new → Puts contents (first ++ last) old new
puts_both contents first last old mid new before after = record {
  written = λ sound. Appends-trans (held_by contents old) (held_by contents mid) (held_by contents new) first last (before.written (earlier mid.has_failed refl sound)) (after.written sound);
  lasting = λ failed. after.lasting (before.lasting failed);
}
  where
    earlier : (b : Bool) → mid.has_failed ≡ b → new.has_failed ≡ false → mid.has_failed ≡ false
    earlier false is sound = is
    earlier true is sound = absurd (true≢false (sym (after.lasting is) ∙ sound))

pub puts_three : {W : Type 0} (contents : W → Option (List ℕ)) (first middle last : List ℕ) (a b c d : Output W)
    → Puts contents first a b → Puts contents middle b c → Puts contents last c d → Puts contents (first ++ (middle ++ last)) a d
puts_three contents first middle last a b c d one two three =
    puts_both contents first (middle ++ last) a b d one (puts_both contents middle last b c d two three)
