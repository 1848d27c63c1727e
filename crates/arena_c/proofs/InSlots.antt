-- Records that are changed one after the other, each in its slot.
use Rattle.std.proofs.Common.{◌≡◌, ◌≢◌, ℕ, ◌+◌, ◌-◌, ◌*◌, ◌/◌, ◌%◌, ◌<◌, ◌≤◌, max, Bool, true, false, cond, List, [], ◌∷◌, ◌++◌, length, take, drop, set, get_or, count_by, subst, sym, ap, ◌∙◌, arith, inl, inr, length-append, length-drop, length-set, length-take-le}
use Rattle.std.specs.Prelude.{◌==◌}
use Rattle.std.specs.List.{between}
use Rattle.std.proofs.lemmas.Bool.{cases_eq, cases_lt}
use Rattle.std.proofs.lemmas.List.{drop-set-lt, get_or-set_other, get_or-set_same, take_more_set}
use Rattle.std.proofs.lemmas.List.Sums.{count_by-le-length, sum_by_push}
use Rattle.std.proofs.lemmas.Slice.{between-put_mid, between_is, drop-put_mid, take-put_mid_below}
use Rattle.std.proofs.Math.Nat.{mul-div-le}
use borrow.Rule.Slice.PartMut.{mid_of, put_mid}
use mir.Val.{bool_byte}
use Rattle.arena_c.specs.Slots.{slot_at}

rows_below : (k i row : ℕ) → k < i → k * row + row ≤ i * row
rows_below k i row below = grind arith

-- the slots lie in the records
pub slots_fit : (size games i each : ℕ) → each ≡ size / max games 1 → i < games → i * each + each ≤ size
slots_fit size games i each e low =
    let m : max games 1 ≡ games = omega arith in
    let rows = rows_below i games each low in
    let same : games * each ≡ games * (size / games) = ap (λ n. games * n) (e ∙ ap (λ n. size / n) m) in
    let whole = mul-div-le size games in
    omega arith

module _ (i each from k : ℕ) (records slot : List ℕ) (at : from ≡ i * each) (row : k ≡ each) (fits : from + each ≤ length records) (kept : length slot ≡ length (mid_of from k records)) where
  pub long_slot : length slot ≡ each
  long_slot =
      let rest = length-drop from records in
      let mid = length-take-le k (drop from records) (omega arith) in
      kept ∙ mid ∙ row

  pub mid_slot : mid_of from k records ≡ slot_at records each i
  mid_slot = ap (λ n. take n (drop from records)) row ∙ ap (λ n. take each (drop n records)) at

  pub same_length : length (put_mid from k records slot) ≡ length records
  same_length =
      let long = long_slot in
      let front = length-take-le from records (omega arith) in
      let a = length-append slot (drop k (drop from records)) in
      let b = length-append (take from records) (slot ++ drop k (drop from records)) in
      let c = length-drop k (drop from records) in
      let d = length-drop from records in
      omega arith

  pub own_slot : slot_at (put_mid from k records slot) each i ≡ slot
  own_slot =
      let long = long_slot in
      let part : from + each - from ≡ each = omega arith in
      ap (λ n. take each (drop n (put_mid from k records slot))) (sym at) ∙ ap (λ n. take n (drop from (put_mid from k records slot))) (sym part)
      ∙ between-put_mid from k records slot (from + each) (omega arith) (omega arith)

  -- a slot is what lies between two places
  cut : (list : List ℕ) (j : ℕ) → slot_at list each j ≡ drop (j * each) (take (j * each + each) list)
  cut list j =
      let part : j * each + each - j * each ≡ each = omega arith in
      ap (λ n. take n (drop (j * each) list)) (sym part) ∙ between_is list (j * each) (j * each + each)

  pub other_slot : (j : ℕ) → j ≢ i → slot_at (put_mid from k records slot) each j ≡ slot_at records each j
  other_slot j apart = elim (cases_lt j i) [
    | inl less ↦
        let rows = rows_below j i each less in
        cut (put_mid from k records slot) j ∙ ap (drop (j * each)) (take-put_mid_below from k records slot (j * each + each) (omega arith) (omega arith)) ∙ sym (cut records j)
    | inr more ↦
        let above : i < j = omega arith in
        let rows = rows_below i j each above in
        let long = long_slot in
        ap (take each) (drop-put_mid from k records slot (j * each) (omega arith) (omega arith) (omega arith))
  ]

  pub behind_slots : (slots : ℕ) → i < slots → drop (slots * each) (put_mid from k records slot) ≡ drop (slots * each) records
  behind_slots slots low =
      let rows = rows_below i slots each low in
      let long = long_slot in
      drop-put_mid from k records slot (slots * each) (omega arith) (omega arith) (omega arith)

-- the first i slots have changed, and nothing else
pub record SlotsSoFar (P : ℕ → List ℕ → List ℕ → ℕ → ℕ → ℕ → Type 0) (each slots i : ℕ) (records0 records lengths0 lengths statuses0 statuses : List ℕ) (played : ℕ) : Type 0 where
  pub records_long : length records ≡ length records0
  pub lengths_long : length lengths ≡ length lengths0
  pub statuses_long : length statuses ≡ length statuses0
  pub done : (k : ℕ) → k < i → P k (slot_at records0 each k) (slot_at records each k) (get_or lengths0 k 0) (get_or lengths k 0) (get_or statuses k 0)
  pub rest : (k : ℕ) → i ≤ k → slot_at records each k ≡ slot_at records0 each k
  pub rest_lengths : (k : ℕ) → i ≤ k → get_or lengths k 0 ≡ get_or lengths0 k 0
  pub behind : drop (slots * each) records ≡ drop (slots * each) records0
  pub other_lengths : drop slots lengths ≡ drop slots lengths0
  pub other_statuses : drop slots statuses ≡ drop slots statuses0
  pub count : played ≡ count_by (λ status. status == 0) (take i statuses)

counted : (result : Bool) (i n n' one : ℕ) → n ≤ i → i + 1 < 18446744073709551616 → one ≡ bool_byte result → n' ≡ (n + one) % 18446744073709551616
    → n' ≡ n + cond result 1 0
counted true i n n' one low small is e = omega arith
counted false i n n' one low small is e = omega arith

module _ (P : ℕ → List ℕ → List ℕ → ℕ → ℕ → ℕ → Type 0) (each slots i from k : ℕ) (records0 records slot lengths0 lengths statuses0 statuses : List ℕ) (old new status played played' one : ℕ)
    (low : i < slots) (small : i + 1 < 18446744073709551616) (lengths_fit : slots ≤ length lengths0) (statuses_fit : slots ≤ length statuses0)
    (at : from ≡ i * each) (row : k ≡ each) (fits : from + each ≤ length records) (kept : length slot ≡ length (mid_of from k records))
    (was : (d : ℕ) → old ≡ get_or lengths i d) (byte : one ≡ bool_byte (status == 0)) (sum : played' ≡ (played + one) % 18446744073709551616)
    (step : P i (mid_of from k records) slot old new status) (so_far : SlotsSoFar P each slots i records0 records lengths0 lengths statuses0 statuses played) where
  abbrev records' : List ℕ
  records' = put_mid from k records slot

  here : P i (slot_at records0 each i) (slot_at records' each i) (get_or lengths0 i 0) (get_or (set lengths i new) i 0) (get_or (set statuses i status) i 0)
  here =
      let own = own_slot i each from k records slot at row fits kept in
      let mid = mid_slot i each from k records slot at row fits kept ∙ so_far.rest i (omega arith) in
      let l = so_far.lengths_long in
      let s = so_far.statuses_long in
      let count : old ≡ get_or lengths0 i 0 = was 0 ∙ so_far.rest_lengths i (omega arith) in
      let new_count : get_or (set lengths i new) i 0 ≡ new = get_or-set_same lengths i new 0 (omega arith) in
      let new_status : get_or (set statuses i status) i 0 ≡ status = get_or-set_same statuses i status 0 (omega arith) in
      rw (own, ← mid, ← count, new_count, new_status) step

  others : (j : ℕ) → j < i + 1 → P j (slot_at records0 each j) (slot_at records' each j) (get_or lengths0 j 0) (get_or (set lengths i new) j 0) (get_or (set statuses i status) j 0)
  others j below = elim (cases_eq j i) [
    | inl same ↦ subst (λ (n : ℕ). P n (slot_at records0 each n) (slot_at records' each n) (get_or lengths0 n 0) (get_or (set lengths i new) n 0) (get_or (set statuses i status) n 0)) (sym same) here
    | inr apart ↦
        let slot_is = other_slot i each from k records slot at row fits kept j apart in
        let l : get_or (set lengths i new) j 0 ≡ get_or lengths j 0 = get_or-set_other lengths i j new 0 apart in
        let s : get_or (set statuses i status) j 0 ≡ get_or statuses j 0 = get_or-set_other statuses i j status 0 apart in
        rw (slot_is, l, s) (so_far.done j (omega arith))
  ]

  pub one_more : SlotsSoFar P each slots (i + 1) records0 records' lengths0 (set lengths i new) statuses0 (set statuses i status) played'
  one_more =
      let few = count_by-le-length (λ (s : ℕ). s == 0) (take i statuses) in
      let s = so_far.statuses_long in
      let front = length-take-le i statuses (omega arith) in
      let so_many = so_far.count in
      let next = counted (status == 0) i played played' one (omega arith) small byte sum in
      let pushed : count_by (λ s. s == 0) (take i statuses ++ status ∷ []) ≡ count_by (λ s. s == 0) (take i statuses) + cond (status == 0) 1 0 =
      sum_by_push (λ (s : ℕ). cond {A = ℕ} (s == 0) 1 0) (take i statuses) status in
      record {
        records_long = same_length i each from k records slot at row fits kept ∙ so_far.records_long;
        lengths_long = length-set lengths i new ∙ so_far.lengths_long;
        statuses_long = length-set statuses i status ∙ so_far.statuses_long;
        done = others;
        rest = λ j high. other_slot i each from k records slot at row fits kept j (λ e. absurd (omega arith)) ∙ so_far.rest j (omega arith);
        rest_lengths = λ j high. get_or-set_other lengths i j new 0 (λ e. absurd (omega arith)) ∙ so_far.rest_lengths j (omega arith);
        behind = behind_slots i each from k records slot at row fits kept slots low ∙ so_far.behind;
        other_lengths = drop-set-lt slots lengths i new low ∙ so_far.other_lengths;
        other_statuses = drop-set-lt slots statuses i status low ∙ so_far.other_statuses;
        count = next ∙ ap (λ n. n + cond (status == 0) 1 0) so_many ∙ sym pushed ∙ ap (count_by (λ s. s == 0)) (sym (take_more_set statuses i status (omega arith)));
      }
