-- The number that a typed getter reads from an option.
use Rattle.std.proofs.Common.{◌≡◌, ◌^◌, ℕ, Bool, true, false, refl, ap, List, [], ◌∷◌, length, Option, Some, None, Result, Ok, Err, nat_lt, lt-ltb, ltb-true}
use Rattle.std.specs.List.{list_all}
use Rattle.std.specs.Option.{option_map, unwrap_or}
use Rattle.std.specs.Char.{digit_value}
use Rattle.std.specs.Prelude.{option_and_then}
use Rattle.std.specs.Borrow.{Bor}
use Rattle.std.specs.Str.Parse.{AllDigits, ParsesUnsigned, digits_value, without_leading_plus}
use Rattle.clap.specs.Words.{ReadsOne, first_value, one_of, one_text, rows_of}
use Rattle.clap.specs.Walk.{Text}
use Rattle.clap.specs.declared.parser.matches.Found.{Found}
use Rattle.clap.proofs.WalkLemmas.{first_value-rows, one_text-rows, both}
use Rattle.arena.specs.Words.{is_number, number_of, text_at}

digits_pass : (ds : List ℕ) → AllDigits 10 ds → list_all (λ d. nat_lt (digit_value d) 10) ds ≡ true
digits_pass [] h = refl
digits_pass (d ∷ ds) h = rw (lt-ltb (digit_value d) 10 h.0) (digits_pass ds h.1)

digits_from : (ds : List ℕ) → list_all (λ d. nat_lt (digit_value d) 10) ds ≡ true → AllDigits 10 ds
digits_from [] e = tt
digits_from (d ∷ ds) e =
    let parts = both _ _ e in
    (ltb-true _ _ parts.0, digits_from ds parts.1)

-- a text that parses is the number that it says
number_parsed : (E : Type 0) (bits : ℕ) (text : Text) (n : ℕ) → ParsesUnsigned {E = E} bits 10 text (Ok n) → Some n ≡ number_of bits text
number_parsed E bits text n h =
    let ds = without_leading_plus text in
    rw (lt-ltb 0 (length ds) h.0.0.0, digits_pass ds h.0.0.1, lt-ltb (digits_value 10 ds) (2 ^ bits) h.0.1) (ap Some h.1)

not_parsed : (E : Type 0) (bits : ℕ) (text : Text) (e : E) → ParsesUnsigned {E = E} bits 10 text (Err e) → None ≡ number_of bits text
not_parsed E bits text e h = go (is_number bits (without_leading_plus text)) refl
  where
    go : (b : Bool) → is_number bits (without_leading_plus text) ≡ b → None ≡ number_of bits text
    go false t = rw t refl
    go true t =
        let outer = both _ _ t in
        let inner = both _ _ outer.1 in
        absurd (h ((ltb-true _ _ outer.0, digits_from (without_leading_plus text) inner.0), ltb-true _ _ inner.1))

-- what `get_one` gives is the number of the row's text
pub number_read : {E : Type 0} (bits : ℕ) (G : Text → Result ℕ E → Type 0) → ((t : Text) (x : Result ℕ E) → G t x → ParsesUnsigned bits 10 t x)
    → (f : Found) (id : Text) (r : Option ℕ) → (one_text f id ≡ None → r ≡ None) → ((t : Text) → one_text f id ≡ Some t → ReadsOne G t r)
    → r ≡ option_and_then (number_of bits) (one_of id (rows_of f))
number_read {E} bits G parses f id r none value = rw (← one_text-rows f id) (go (one_text f id) refl)
  where
    read : (t : Text) (o : Option ℕ) → ReadsOne G t o → o ≡ number_of bits t
    read t None h = not_parsed E bits t h.0 (parses t (Err h.0) h.1)
    read t (Some n) h = number_parsed E bits t n (parses t (Ok n) h)

    go : (found : Option Text) → one_text f id ≡ found → r ≡ option_and_then (number_of bits) found
    go None is = none is
    go (Some t) is = read t r (value t is)

pub text_read : (f : Found) (id : Text) (found : Option (Bor Text)) (otherwise : Bor Text) → option_map (λ s. s.now) found ≡ first_value f id
    → (unwrap_or found otherwise).now ≡ text_at id otherwise.now (rows_of f)
text_read f id found otherwise is = rw (← first_value-rows f id, ← is) (go found)
  where
    go : (o : Option (Bor Text)) → (unwrap_or o otherwise).now ≡ unwrap_or (option_map (λ s. s.now) o) otherwise.now
    go None = refl
    go (Some s) = refl
