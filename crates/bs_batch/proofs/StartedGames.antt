-- Games that are started one by one.
use Rattle.std.proofs.Common.{◌≡◌, ℕ, ◌+◌, ◌-◌, ◌*◌, ◌%◌, ◌<◌, ◌≤◌, Bool, true, false, cond, List, [], ◌∷◌, ◌++◌, length, set, get_or, count_by, refl, subst, sym, ap, ◌∙◌, arith, inl, inr, length-set}
use Rattle.std.proofs.lemmas.Bool.{cases_eq}
use Rattle.std.proofs.lemmas.List.{get_or-append_right, get_or-set_other, get_or-set_same, get_or_append_left, length_push}
use Rattle.std.proofs.lemmas.List.Sums.{count_by-le-length, sum_by_push}
use Rattle.std.proofs.lemmas.Nat.{mul-le}
use mir.Val.{bool_byte}
use Rattle.bs_batch.specs.declared.layout.Cell.{Cell}
use Rattle.bs_batch.specs.declared.layout.Head.{Head}
use Rattle.bs_batch.specs.declared.many.ManyStarts.{ManyStarts}
use Rattle.bs_batch.specs.Loading.{cleared}
use Rattle.bs_batch.specs.Starting.{AreSettings, CanStart, StartsEach, StartsGame, StartsOne, food_of, has_to_start, starts_of}

pub game_begins : (longest : ℕ) (first : ManyStarts) (number : ℕ) (stays : Type 0) (result : Bool) (old head : Head) (food plane bodies : List ℕ) (starts cells : List Cell)
    → longest ≤ 25 → has_to_start first number ≡ true → AreSettings longest first.settings → starts ≡ starts_of first number → cells ≡ food_of first number
    → old ≡ cleared first.settings → longest * longest ≤ length food → length food ≤ 1024 → (longest + 2) * 32 ≤ length plane → 24 ≤ length bodies
    → StartsGame starts cells old head food plane bodies result → StartsOne longest first number stays result head food plane bodies
game_begins longest first number stays result old head food plane bodies starts cells few due fits same_starts same_cells clear area small rows long starting =
    let low = fits.low in
    let narrow = fits.narrow in
    let cells_fit = mul-le first.settings.width first.settings.height longest longest narrow low in
    let can : CanStart first.settings (length food) (length plane) (length bodies) =
    record { few = fits.few; narrow = omega arith; area = omega arith; small = small; plane = omega arith; bodies = long } in
    let by_starts = subst (λ (l : List Cell). StartsGame l cells old head food plane bodies result) same_starts starting in
    let started = subst (λ (l : List Cell). StartsGame (starts_of first number) l old head food plane bodies result) same_cells by_starts first.settings clear can in
    record {
      left = λ f. absurd cc;
      begins = λ _. record {
        exactly = (λ t. (fits, started.exactly.0 t), λ both. started.exactly.1 both.1);
        shows = started.shows;
        none = started.none;
      };
    }

-- the first i games are started, or stay
pub record StoodStarted {G : Type 0} (Starts : ℕ → G → G → Bool → Type 0) (i : ℕ) (games0 games : List G) (n : ℕ) : Type 0 where
  pub started : List Bool
  pub long : length started ≡ i
  pub same : length games ≡ length games0
  pub each : (k : ℕ) (d : G) → k < i → Starts k (get_or games0 k d) (get_or games k d) (get_or started k false)
  pub rest : (k : ℕ) (d : G) → i ≤ k → get_or games k d ≡ get_or games0 k d
  pub count : n ≡ count_by (λ b. b) started

module _ {G : Type 0} (Starts : ℕ → G → G → Bool → Type 0) where
  pub none_started : (games : List G) → StoodStarted Starts 0 games games 0
  none_started games = record {
    started = [];
    long = refl;
    same = refl;
    each = λ k d before. absurd (omega arith);
    rest = λ k d after. refl;
    count = refl;
  }

  counted : (result : Bool) (i n n' one : ℕ) → n ≤ i → i + 1 < 18446744073709551616 → one ≡ bool_byte result → n' ≡ (n + one) % 18446744073709551616
      → n' ≡ n + cond result 1 0
  counted true i n n' one low small is e = omega arith
  counted false i n n' one low small is e = omega arith

  pub one_started : (i : ℕ) (games0 games : List G) (count count' one : ℕ) (old new : G) (result : Bool) → i < length games0 → i + 1 < 18446744073709551616
      → ((d : G) → old ≡ get_or games i d) → one ≡ bool_byte result → count' ≡ (count + one) % 18446744073709551616
      → StoodStarted Starts i games0 games count → Starts i old new result → StoodStarted Starts (i + 1) games0 (set games i new) count'
  one_started i games0 games count count' one old new result within small is byte sum stood step =
      let flags = stood.started in
      let long = stood.long in
      let same = stood.same in
      let few = count_by-le-length (λ (b : Bool). b) flags in
      let so_far = stood.count in
      let pushed : count_by (λ b. b) (flags ++ result ∷ []) ≡ count_by (λ b. b) flags + cond result 1 0 = sum_by_push (λ (b : Bool). cond {A = ℕ} b 1 0) flags result in
      let next = counted result i count count' one (omega arith) small byte sum in
      record {
        started = flags ++ result ∷ [];
        long = length_push flags result ∙ ap (λ n. n + 1) long;
        same = length-set games i new ∙ same;
        each = λ k d before. elim (cases_eq k i) [
          | inl at_i ↦
              let now : get_or (set games i new) i d ≡ new = get_or-set_same games i new d (omega arith) in
              let was : get_or games0 i d ≡ old = sym (is d ∙ stood.rest i d (omega arith)) in
              let none : i - i ≡ 0 = omega arith in
              let flag : get_or (flags ++ result ∷ []) i false ≡ result =
              get_or-append_right flags (result ∷ []) i i false long (omega arith) ∙ ap (λ n. get_or (result ∷ []) n false) none in
              rw (at_i, now, was, flag) step
          | inr other ↦
              let now : get_or (set games i new) k d ≡ get_or games k d = get_or-set_other games i k new d other in
              let flag : get_or (flags ++ result ∷ []) k false ≡ get_or flags k false = get_or_append_left flags (result ∷ []) false k (omega arith) in
              rw (now, flag) (stood.each k d (omega arith))
        ];
        rest = λ k d after. get_or-set_other games i k new d (λ e. absurd (omega arith)) ∙ stood.rest k d (omega arith);
        count = next ∙ ap (λ n. n + cond result 1 0) so_far ∙ sym pushed;
      }

  pub all_started : (i : ℕ) (games0 games : List G) (count : ℕ) → i ≡ length games0 → StoodStarted Starts i games0 games count → StartsEach Starts games0 games count
  all_started i games0 games count end stood = record {
    started = stood.started;
    long = stood.long ∙ end;
    same = stood.same;
    each = λ k d before. stood.each k d (omega arith);
    count = stood.count;
  }
