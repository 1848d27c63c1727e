-- Parts that are joined one after the other.
use Rattle.std.proofs.Common.{◌≡◌, ℕ, zero, suc, ◌+◌, ◌<◌, ◌≤◌, List, [], ◌∷◌, ◌++◌, length, take, drop, map, get_or, refl, sym, ap, ◌∙◌, arith, length-append}
use Rattle.std.specs.Prelude.{slice_set, flat_map, option_to_list}
use Rattle.std.proofs.lemmas.List.{append-nil, take_more}
use Rattle.std.proofs.lemmas.List.Concat.{flat_map-append}
use Rattle.std.proofs.lemmas.Option.{slice_get_read}
use Rattle.bs_modes.proofs.InPlace.{set_next}
use Rattle.bs_sched.specs.declared.parts.Part.{Part}
use Rattle.bs_sched.specs.declared.parts.Part.TheVariants as field
use Rattle.bs_sched.specs.inner.PartsLayout.{block_in, pieces_in}

seam_here : {X : Type 0} (f : X → X) (xs : List X) (i : ℕ) (d : X) → get_or (map f (take i xs) ++ drop i xs) i d ≡ get_or xs i d
seam_here f [] zero d = refl
seam_here f [] (suc i) d = refl
seam_here f (x ∷ xs) zero d = refl
seam_here f (x ∷ xs) (suc i) d = seam_here f xs i d

seam_length : {X : Type 0} (f : X → X) (xs : List X) (i : ℕ) → length (map f (take i xs) ++ drop i xs) ≡ length xs
seam_length f [] zero = refl
seam_length f [] (suc i) = refl
seam_length f (x ∷ xs) zero = refl
seam_length f (x ∷ xs) (suc i) = ap suc (seam_length f xs i)

pub same_length : {X : Type 0} (f : X → X) (xs zs : List X) (i : ℕ) → zs ≡ map f (take i xs) ++ drop i xs → length zs ≡ length xs
same_length f xs zs i is = ap length is ∙ seam_length f xs i

pub emptied_next : {X : Type 0} (f : X → X) (xs zs : List X) (i : ℕ) (x y : X) → zs ≡ map f (take i xs) ++ drop i xs → x ≡ get_or zs i x → i < length zs
    → y ≡ f x → slice_set zs i y ≡ map f (take (i + 1) xs) ++ drop (i + 1) xs
emptied_next f xs zs i x y is here within e = set_next f xs zs i x y is (slice_get_read zs (length zs) i x refl within here) e

pub collected_next : {X Y : Type 0} (f : X → X) (h : X → List Y) (xs zs : List X) (i : ℕ) (x : X) (before after one : List Y)
    → zs ≡ map f (take i xs) ++ drop i xs → x ≡ get_or zs i x → i < length xs → one ≡ h x
    → before ≡ flat_map h (take i xs) → after ≡ before ++ one → after ≡ flat_map h (take (i + 1) xs)
collected_next {X} {Y} f h xs zs i x before after one is here within e was next =
    let same : get_or xs i x ≡ x = sym (ap (λ (all : List X). get_or all i x) is ∙ seam_here f xs i x) ∙ sym here in
    let more : flat_map h (take (i + 1) xs) ≡ flat_map h (take i xs) ++ h x =
    ap (flat_map h) (take_more xs i x within) ∙ flat_map-append h (take i xs) (get_or xs i x ∷ []) ∙ ap (λ (y : X). flat_map h (take i xs) ++ (h y ++ [])) same
    ∙ ap (λ (ys : List Y). flat_map h (take i xs) ++ ys) (append-nil (h x)) in
    rw (next, was, e) (sym more)

pub few_collected : {X Y : Type 0} (h : X → List Y) (one : (x : X) → length (h x) ≤ 1) (xs : List X) → length (flat_map h xs) ≤ length xs
few_collected h one [] = omega arith
few_collected h one (x ∷ xs) = let here = one x in let rest = few_collected h one xs in omega (arith, length-append (h x) (flat_map h xs))

pub one_block : {most : ℕ} (s : Part most) → length (option_to_list (block_in s)) ≤ 1
one_block (field.Ready key) = omega arith
one_block (field.Out worker block) = omega arith
one_block (field.Joining block) = omega arith
one_block (field.Done moved owned) = omega arith

pub one_moved : {most : ℕ} (s : Part most) → length (option_to_list (pieces_in s)) ≤ 1
one_moved (field.Ready key) = omega arith
one_moved (field.Out worker block) = omega arith
one_moved (field.Joining block) = omega arith
one_moved (field.Done moved owned) = omega arith
