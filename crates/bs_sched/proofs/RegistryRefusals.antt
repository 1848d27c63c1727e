-- The registry decides which rows may be admitted, and the first reason against a row.
use Rattle.std.proofs.Common.{◌≡◌, ℕ, ◌-◌, Bool, true, false, ◌&&◌, not, if◌then◌else◌, List, [], ◌∷◌, Some, None, refl, sym, ap, ◌∙◌, arith, inl, inr}
use Rattle.std.specs.Prelude.{count_by, nat_le}
use Rattle.std.specs.List.{list_any}
use Rattle.std.proofs.lemmas.Bool.{cases_Bool, not-true}
use Rattle.std.proofs.lemmas.List.{length-map}
use Rattle.std.proofs.lemmas.List.Sums.{sum_by-cons}
use Rattle.bs_board.specs.plans.Plan.{GameRow}
use Rattle.bs_board.specs.Texts.{is_same_text}
use Rattle.bs_registry.specs.declared.refusal.Refusal.TheVariants as refused
use Rattle.bs_board.proofs.Chains.{and_both}
use Rattle.bs_registry.specs.Blocks.{blocks_of}
use Rattle.bs_registry.specs.OpenStays.{OpenStayList, bears, is_full_open, open_stays_of}
use Rattle.bs_registry.proofs.OpenStays.{open_law}
use Rattle.bs_sched.specs.Lane.{Lane}
use Rattle.bs_sched.specs.Machine.{Setting, blocks_in, has_name, is_full, may_admit, open_blocks}
use Rattle.bs_sched.specs.Registry.{capacity_of, registry_of, stay_of}
use Rattle.bs_registry.specs.Stays.{Stay, blocks_in_registry, first_refusal, has_name as has_name_in, is_full as is_full_in, may_admit_in, refusal_in_order}

named_in : (row : GameRow) (lanes : List Lane)
    → list_any (has_name row) lanes ≡ list_any (λ (entry : Stay). entry.is_open && is_same_text row.game entry.row.game) (registry_of lanes)
named_in row [] = refl
named_in row (x ∷ lanes) = rw (named_in row lanes) refl

counted_in : (lanes : List Lane) → count_by (λ (x : Lane). x.is_open) lanes ≡ count_by (λ (entry : Stay). entry.is_open) (registry_of lanes)
counted_in [] = refl
counted_in (x ∷ lanes) =
    let one = sum_by-cons (λ (y : Lane). if y.is_open then 1 else 0) x lanes in
    let other = sum_by-cons (λ (entry : Stay). if entry.is_open then 1 else 0) (stay_of x) (registry_of lanes) in
    let rest = counted_in lanes in
    omega (arith, one, other, rest)

blocks_told : (cap : ℕ) (lanes : List Lane) → open_blocks cap lanes ≡ blocks_in_registry cap (registry_of lanes)
blocks_told cap [] = refl
blocks_told cap (x ∷ lanes) =
    let one = sum_by-cons (blocks_in cap) x lanes in
    let other = sum_by-cons (λ (entry : Stay). if entry.is_open then blocks_of cap entry.row else 0) (stay_of x) (registry_of lanes) in
    let rest = blocks_told cap lanes in
    omega (arith, one, other, rest)

pub admits_by_registry : (setting : Setting) (lanes : List Lane) (row : GameRow) → may_admit setting lanes row ≡ may_admit_in (capacity_of setting) (registry_of lanes) row
admits_by_registry setting lanes row = rw (named_in row lanes, counted_in lanes, blocks_told setting.cap lanes, length-map lanes stay_of) refl

-- the list of the open stays gives the same reasons
pub told_by_open : (setting : Setting) (open_stays : OpenStayList) (lanes : List Lane) (row : GameRow) (left : ℕ) → open_stays ≡ open_stays_of (registry_of lanes)
    → left ≡ setting.blocks - open_blocks setting.cap lanes
    → refusal_in_order (list_any (bears row.game) open_stays.stays) (is_full_open open_stays.made open_stays.stays) (blocks_of setting.cap row) left
    ≡ first_refusal (capacity_of setting) (registry_of lanes) row
told_by_open setting open_stays lanes row left is free =
    let law = open_law setting.cap (registry_of lanes) in
    let any = law.any row.game in
    rw (is, free, any, law.many, blocks_told setting.cap lanes) refl

unrefused : (named full : Bool) (needed left : ℕ) → refusal_in_order named full needed left ≡ None → (not named && (not full && nat_le needed left)) ≡ true
unrefused true full needed left none = absurd cc
unrefused false true needed left none = absurd cc
unrefused false false needed left none = elim (cases_Bool (nat_le needed left)) [
  | inl fits ↦ fits
  | inr less ↦ let wrong : Some (refused.Short left) ≡ None = rw less at none in absurd cc
]

-- a row that nothing refuses may be admitted
pub may_admit_unrefused : (setting : Setting) (lanes : List Lane) (row : GameRow) → first_refusal (capacity_of setting) (registry_of lanes) row ≡ None
    → may_admit setting lanes row ≡ true
may_admit_unrefused setting lanes row none =
    let registry = registry_of lanes in
    admits_by_registry setting lanes row
    ∙ unrefused (list_any (has_name_in row.game) registry) (is_full_in registry) (blocks_of setting.cap row) (setting.blocks - blocks_in_registry setting.cap registry) none

-- its name is new among the open stays
pub new_name : (setting : Setting) (open_stays : OpenStayList) (lanes : List Lane) (row : GameRow) → open_stays ≡ open_stays_of (registry_of lanes)
    → may_admit setting lanes row ≡ true → list_any (bears row.game) open_stays.stays ≡ false
new_name setting open_stays lanes row is may =
    let both = and_both (not (list_any (has_name row) lanes)) (not (is_full lanes) && nat_le (blocks_of setting.cap row) (setting.blocks - open_blocks setting.cap lanes)) may in
    ap (λ (all : OpenStayList). list_any (bears row.game) all.stays) is ∙ sym ((open_law setting.cap (registry_of lanes)).any row.game) ∙ sym (named_in row lanes)
    ∙ not-true (list_any (has_name row) lanes) both.0
