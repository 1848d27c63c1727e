-- What each tag owns and has reserved once a pool is laid into another, with the offset added to its
-- tags.
use Rattle.std.proofs.Common.{◌≡◌, ◌≢◌, ℕ, zero, suc, ◌+◌, ◌-◌, ◌<◌, ◌≤◌, ◌^◌, Bool, true, false, cond, List, [], ◌∷◌, ◌++◌, length, map, slice_index_or, Option, Some, None, IsSome, refl, sym, ap, subst, ◌∙◌, arith, inl, inr}
use Rattle.std.specs.Prelude.{nat_eq, count_by, find, All, AllPairs, IfSome, option_map, unwrap_or}
use Rattle.std.specs.Option.{option_or}
use Rattle.std.proofs.lemmas.Bool.{cases_Bool, cases_eq, cases_lt, eq-eqb, ne_eqb, eqb-true}
use Rattle.std.proofs.lemmas.List.{length-map, get_or-map}
use Rattle.std.proofs.lemmas.List.Elements.{All-head, All-tail, All-append, All-map}
use Rattle.std.proofs.lemmas.List.Folds.{find-append}
use Rattle.std.proofs.lemmas.List.Kept.{AllPairs-cons}
use Rattle.std.proofs.lemmas.List.Sums.{sum_by-cons}
use Rattle.bs_pool.specs.Assembly.{raised, raised_reservation}
use Rattle.bs_pool.specs.declared.reservation.Reservation.{Reservation}
use Rattle.bs_pool.specs.Ledger.{is_unowned, is_owned_by}
use Rattle.bs_pool.specs.Reservations.{is_of, reserved_by, all_reserved}
use Rattle.bs_pool.specs.Woven.{woven}
use Rattle.bs_pool.specs.inner.FreeNumbers.{HaveRoom}
use Rattle.bs_pool.proofs.Counts.{count_cons}
use Rattle.bs_pool.proofs.Reservations.{other_tags, reserved_none}

abbrev one_if : Bool → ℕ
one_if b = cond b 1 0

-- the owners of a group with other tags
abbrev pub renamed_owners : (ℕ → ℕ) → List (Option ℕ) → List (Option ℕ)
renamed_owners rename group = map (option_map rename) group

-- each owner of the whole and of the group is an owner of both
pub held_woven : (rename : ℕ → ℕ) (tag : ℕ) (whole group : List (Option ℕ))
    → count_by (is_owned_by tag) (woven rename whole group) ≡ count_by (is_owned_by tag) whole + count_by (is_owned_by tag) (renamed_owners rename group)
held_woven rename tag [] group = omega arith
held_woven rename tag (Some owner ∷ whole) group =
    omega (arith, count_cons (is_owned_by tag) (Some owner) whole, count_cons (is_owned_by tag) (Some owner) (woven rename whole group), held_woven rename tag whole group)
held_woven rename tag (None ∷ whole) [] =
    omega (arith, count_cons (is_owned_by tag) None whole, count_cons (is_owned_by tag) None (woven rename whole []), held_woven rename tag whole [])
held_woven rename tag (None ∷ whole) (o ∷ group) =
    omega (
      arith,
      count_cons (is_owned_by tag) None whole,
      count_cons (is_owned_by tag) (option_map rename o) (woven rename whole group),
      count_cons (is_owned_by tag) (option_map rename o) (renamed_owners rename group),
      held_woven rename tag whole group,
    )

renamed_free : (rename : ℕ → ℕ) (o : Option ℕ) → is_unowned (option_map rename o) ≡ is_unowned o
renamed_free rename None = refl
renamed_free rename (Some owner) = refl

-- the free numbers of the group take the place of as many as it has
pub free_woven : (rename : ℕ → ℕ) (whole group : List (Option ℕ)) → length group ≤ count_by is_unowned whole
    → count_by is_unowned (woven rename whole group) + length group ≡ count_by is_unowned whole + count_by is_unowned group
free_woven rename [] [] room = refl
free_woven rename [] (o ∷ group) room = absurd (omega (arith, room))
free_woven rename (Some owner ∷ whole) group room =
    let e = count_cons is_unowned (Some owner) whole in
    let e' = count_cons is_unowned (Some owner) (woven rename whole group) in
    let rest = free_woven rename whole group (omega (arith, e, room)) in
    omega (arith, e, e', rest)
free_woven rename (None ∷ whole) [] room =
    let e = count_cons is_unowned None whole in
    let e' = count_cons is_unowned None (woven rename whole []) in
    let rest = free_woven rename whole [] (omega arith) in
    omega (arith, e, e', rest)
free_woven rename (None ∷ whole) (o ∷ group) room =
    let e = count_cons is_unowned None whole in
    let e' = count_cons is_unowned (option_map rename o) (woven rename whole group) in
    let e'' = count_cons is_unowned o group in
    let rest = free_woven rename whole group (omega (arith, e, room)) in
    omega (arith, e, e', e'', ap one_if (renamed_free rename o), rest)

same_tags : (offset a b : ℕ) → nat_eq (a + offset) (b + offset) ≡ nat_eq a b
same_tags offset a b = elim (cases_eq a b) [
  | inl same ↦ eq-eqb (a + offset) (b + offset) (ap (raised offset) same) ∙ sym (eq-eqb a b same)
  | inr differ ↦ ne_eqb (a + offset) (b + offset) (λ same. differ (omega (arith, same))) ∙ sym (ne_eqb a b differ)
]

low_tag : (offset a tag : ℕ) → tag < offset → nat_eq (a + offset) tag ≡ false
low_tag offset a tag low = ne_eqb (a + offset) tag (λ same. absurd (omega (arith, same, low)))

module _ (offset : ℕ) where
  pub held_raised : (tag : ℕ) (group : List (Option ℕ)) → count_by (is_owned_by (tag + offset)) (renamed_owners (raised offset) group) ≡ count_by (is_owned_by tag) group
  held_raised tag [] = refl
  held_raised tag (None ∷ group) =
      omega (arith, count_cons (is_owned_by tag) None group, count_cons (is_owned_by (tag + offset)) None (renamed_owners (raised offset) group), held_raised tag group)
  held_raised tag (Some owner ∷ group) =
      omega (
        arith,
        count_cons (is_owned_by tag) (Some owner) group,
        count_cons (is_owned_by (tag + offset)) (Some (owner + offset)) (renamed_owners (raised offset) group),
        ap one_if (same_tags offset owner tag),
        held_raised tag group,
      )

  held_low : (tag : ℕ) (group : List (Option ℕ)) → tag < offset → count_by (is_owned_by tag) (renamed_owners (raised offset) group) ≡ 0
  held_low tag [] low = refl
  held_low tag (None ∷ group) low =
      omega (arith, count_cons (is_owned_by tag) None (renamed_owners (raised offset) group), held_low tag group low)
  held_low tag (Some owner ∷ group) low =
      omega (arith, count_cons (is_owned_by tag) (Some (owner + offset)) (renamed_owners (raised offset) group), ap one_if (low_tag offset owner tag low), held_low tag group low)

  pub reserved_raised : (tag : ℕ) (rs : List Reservation) → reserved_by (tag + offset) (map (raised_reservation offset) rs) ≡ reserved_by tag rs
  reserved_raised tag [] = refl
  reserved_raised tag (r ∷ rs) = elim (cases_Bool (nat_eq r.tag tag)) [
    | inl same ↦ rw (same_tags offset r.tag tag, same) refl
    | inr differ ↦ rw (same_tags offset r.tag tag, differ) (reserved_raised tag rs)
  ]

  -- no tag owns more than it reserved
  raised_kept : (group : List (Option ℕ)) (rs : List Reservation) → ((tag : ℕ) → count_by (is_owned_by tag) group ≤ reserved_by tag rs)
      → (tag : ℕ) → count_by (is_owned_by tag) (renamed_owners (raised offset) group) ≤ reserved_by tag (map (raised_reservation offset) rs)
  raised_kept group rs kept tag = elim (cases_lt tag offset) [
    | inl low ↦ omega (arith, held_low tag group low)
    | inr above ↦
        let back : tag - offset + offset ≡ tag = omega (arith, above) in
        let P : ℕ → Type 0 = λ t. count_by (is_owned_by t) (renamed_owners (raised offset) group) ≤ reserved_by t (map (raised_reservation offset) rs) in
        subst P back (omega (arith, held_raised (tag - offset) group, reserved_raised (tag - offset) rs, kept (tag - offset)))
  ]

  pub all_raised : (rs : List Reservation) → all_reserved (map (raised_reservation offset) rs) ≡ all_reserved rs
  all_raised [] = refl
  all_raised (r ∷ rs) =
      omega (arith, sum_by-cons (λ (q : Reservation). q.blocks) r rs, sum_by-cons (λ (q : Reservation). q.blocks) (raised_reservation offset r) (map (raised_reservation offset) rs), all_raised rs)

  -- the tags of a group are new in the whole
  abbrev pub TagsNew : List Reservation → List Reservation → Type 0
  TagsNew rs qs = All (λ q. find (is_of (q.tag + offset)) rs ≡ None) qs

  none_raised : (rs qs : List Reservation) (tag : ℕ) → TagsNew rs qs → IsSome (find (is_of tag) rs) → reserved_by tag (map (raised_reservation offset) qs) ≡ 0
  none_raised rs [] tag new some = refl
  none_raised rs (q ∷ qs) tag new some = elim (cases_Bool (nat_eq (q.tag + offset) tag)) [
    | inl same ↦
        let none = All-head (λ p. find (is_of (p.tag + offset)) rs ≡ None) q qs new in
        let none' : find (is_of tag) rs ≡ None = ap (λ t. find (is_of t) rs) (sym (eqb-true (q.tag + offset) tag same)) ∙ none in
        let no = rw none' at some in cc
    | inr differ ↦ rw differ (none_raised rs qs tag (All-tail (λ p. find (is_of (p.tag + offset)) rs ≡ None) q qs new) some)
  ]

  module _ (whole group : List (Option ℕ)) (rs qs : List Reservation) (new : TagsNew rs qs)
      (kept : (tag : ℕ) → count_by (is_owned_by tag) whole ≤ reserved_by tag rs) (kept' : (tag : ℕ) → count_by (is_owned_by tag) group ≤ reserved_by tag qs) where
    -- a tag with a reservation in the whole owns no more than before
    pub held_before : (tag : ℕ) → IsSome (find (is_of tag) rs) → count_by (is_owned_by tag) (woven (raised offset) whole group) ≡ count_by (is_owned_by tag) whole
    held_before tag some =
        omega (arith, held_woven (raised offset) tag whole group, raised_kept group qs kept' tag, none_raised rs qs tag new some)

    -- a tag without one owns what it does in the group
    pub held_new : (tag : ℕ) → find (is_of (tag + offset)) rs ≡ None → count_by (is_owned_by (tag + offset)) (woven (raised offset) whole group) ≡ count_by (is_owned_by tag) group
    held_new tag none =
        omega (arith, held_woven (raised offset) (tag + offset) whole group, held_raised tag group, kept (tag + offset), reserved_none (tag + offset) rs none)

    kept_by : (tag : ℕ) (o : Option Reservation) → find (is_of tag) rs ≡ o
        → count_by (is_owned_by tag) (woven (raised offset) whole group) ≤ unwrap_or (option_map (λ r. r.blocks) (option_or o (find (is_of tag) (map (raised_reservation offset) qs)))) 0
    kept_by tag None is =
        omega (arith, held_woven (raised offset) tag whole group, kept tag, reserved_none tag rs is, raised_kept group qs kept' tag)
    kept_by tag (Some r) is =
        let some : IsSome (find (is_of tag) rs) = rw is refl in
        let mine : reserved_by tag rs ≡ r.blocks = ap (λ o. unwrap_or (option_map (λ q. q.blocks) o) 0) is in
        omega (arith, held_before tag some, kept tag, mine)

    pub kept_woven : (tag : ℕ) → count_by (is_owned_by tag) (woven (raised offset) whole group) ≤ reserved_by tag (rs ++ map (raised_reservation offset) qs)
    kept_woven tag =
        subst (λ o. count_by (is_owned_by tag) (woven (raised offset) whole group) ≤ unwrap_or (option_map (λ r. r.blocks) o) 0) (sym (find-append (is_of tag) rs (map (raised_reservation offset) qs)))
        (kept_by tag (find (is_of tag) rs) refl)

pairs_append : (xs ys : List Reservation) → AllPairs (λ r s. r.tag ≢ s.tag) xs → AllPairs (λ r s. r.tag ≢ s.tag) ys → All (λ r. All (λ s. r.tag ≢ s.tag) ys) xs → AllPairs (λ r s. r.tag ≢ s.tag) (xs ++ ys)
pairs_append [] ys mine theirs across = theirs
pairs_append (r ∷ xs) ys mine theirs across =
    AllPairs-cons (λ p s. p.tag ≢ s.tag) r (xs ++ ys)
    (All-append (λ s. r.tag ≢ s.tag) xs ys (λ k d h. mine 0 (suc k) d (omega arith) (omega (arith, h))) (All-head (λ p. All (λ s. p.tag ≢ s.tag) ys) r xs across))
    (pairs_append xs ys (λ i j d below h. mine (suc i) (suc j) d (omega (arith, below)) (omega (arith, h))) theirs (All-tail (λ p. All (λ s. p.tag ≢ s.tag) ys) r xs across))

raised_apart : (offset : ℕ) (rs : List Reservation) → AllPairs (λ r s. r.tag ≢ s.tag) rs → AllPairs (λ r s. r.tag ≢ s.tag) (map (raised_reservation offset) rs)
raised_apart offset rs apart = λ i j d below h same.
    let h' : j < length rs = omega (arith, h, length-map rs (raised_reservation offset)) in let i' : i < length rs = omega (arith, below, h') in
    let at_i = get_or-map (raised_reservation offset) rs i d d i' in let at_j = get_or-map (raised_reservation offset) rs j d d h' in
    let tags : (slice_index_or rs i d).tag + offset ≡ (slice_index_or rs j d).tag + offset = sym (ap (λ r. r.tag) at_i) ∙ same ∙ ap (λ r. r.tag) at_j in
    apart i j d below h' (omega (arith, tags))

pub distinct_raised : (offset : ℕ) (rs qs : List Reservation) → TagsNew offset rs qs → AllPairs (λ r s. r.tag ≢ s.tag) rs → AllPairs (λ r s. r.tag ≢ s.tag) qs
    → AllPairs (λ r s. r.tag ≢ s.tag) (rs ++ map (raised_reservation offset) qs)
distinct_raised offset rs qs new mine theirs =
    pairs_append rs (map (raised_reservation offset) qs) mine
    (raised_apart offset qs theirs)
    (λ k d h. All-map (λ s. (slice_index_or rs k d).tag ≢ s.tag) (raised_reservation offset) qs (λ j e h'. other_tags ((slice_index_or qs j e).tag + offset) rs (new j e h') k d h))

-- a tag that owns a number has a reservation, so the offset fits
some_held : (group : List (Option ℕ)) (k : ℕ) (d : Option ℕ) (tag : ℕ) → k < length group → slice_index_or group k d ≡ Some tag → 0 < count_by (is_owned_by tag) group
some_held [] k d tag within is = absurd (omega (arith, within))
some_held (o ∷ group) zero d tag within is =
    let one : one_if (is_owned_by tag o) ≡ one_if true = ap one_if (ap (is_owned_by tag) is ∙ eq-eqb tag tag refl) in
    omega (arith, count_cons (is_owned_by tag) o group, one)
some_held (o ∷ group) (suc k) d tag within is =
    omega (arith, count_cons (is_owned_by tag) o group, some_held group k d tag (omega (arith, within)) is)

fits_offset : (offset tag : ℕ) (rs : List Reservation) → 0 < reserved_by tag rs → All (λ r. r.tag + offset < 2 ^ 32) rs → tag + offset < 2 ^ 32
fits_offset offset tag [] some fits = absurd (omega (arith, some))
fits_offset offset tag (r ∷ rs) some fits = elim (cases_Bool (nat_eq r.tag tag)) [
  | inl same ↦ subst (λ t. t + offset < 2 ^ 32) (eqb-true r.tag tag same) (All-head (λ q. q.tag + offset < 2 ^ 32) r rs fits)
  | inr differ ↦ fits_offset offset tag rs (let e = rw differ at some in e) (All-tail (λ q. q.tag + offset < 2 ^ 32) r rs fits)
]

pub have_room : (offset : ℕ) (group : List (Option ℕ)) (rs : List Reservation) → ((tag : ℕ) → count_by (is_owned_by tag) group ≤ reserved_by tag rs) → All (λ r. r.tag + offset < 2 ^ 32) rs → HaveRoom offset group
have_room offset group rs kept fits = λ k d h.
    let by : (o : Option ℕ) → slice_index_or group k d ≡ o → IfSome o (λ tag. tag + offset < 2 ^ 32)
    = λ o. elim o as (λ o. slice_index_or group k d ≡ o → IfSome o (λ tag. tag + offset < 2 ^ 32)) [
      | None ↦ λ is. tt
      | Some tag ↦ λ is. fits_offset offset tag rs (omega (arith, some_held group k d tag h is, kept tag)) fits
    ] in
    by (slice_index_or group k d) refl
