-- Games that advance one after the other, with their planes.
use Rattle.std.proofs.Common.{◌≡◌, ℕ, ◌+◌, ◌*◌, ◌<◌, ◌≤◌, List, length, set, get_or, refl, subst, sym, ap, ◌∙◌, arith, inl, inr, length-set}
use Rattle.std.proofs.lemmas.Bool.{cases_eq}
use Rattle.std.proofs.lemmas.List.{get_or-set_other, get_or-set_same}
use Rattle.bs_board.specs.declared.boards.board.Board.{Board}
use Rattle.bs_batch.specs.declared.many.ManyStarts.{ManyStarts}
use Rattle.bs_batch.specs.Advancing.{ShowsAdvanced, act_of}
use Rattle.bs_batch.specs.Showing.{ShowsPlanes}
use Rattle.bs_batch.specs.Starting.{piece_of}
use Rattle.bs_batch.specs.inner.Advancing.{PieceAdvanced}

-- the planes of the first i games
pub record PlanesSoFar {G : Type 0} (Shows : G → Board → Type 0) (first : ManyStarts) (games : List G) (each i : ℕ) (old into : List ℕ) : Type 0 where
  pub long : length into ≡ length old
  pub shown : (k : ℕ) (d : G) (b : Board) → k < i → k < length games → act_of first k ≤ 1 → Shows (get_or games k d) b → k * each + each ≤ length into
      → ShowsPlanes b (piece_of into k each)
  pub kept : (k : ℕ) → 1 < act_of first k → piece_of into k each ≡ piece_of old k each

module _ {G : Type 0} (Shows : G → Board → Type 0) (first : ManyStarts) (each : ℕ) where
  pub none_yet : (games : List G) (into : List ℕ) → PlanesSoFar Shows first games each 0 into into
  none_yet games into = record {
    long = refl;
    shown = λ k d b none within changes is room. absurd (omega arith);
    kept = λ k stays. refl;
  }

  module _ (games : List G) (i : ℕ) (read new : G) (old into into' : List ℕ) (within : i < length games) (is_read : read ≡ new)
      (step : PieceAdvanced (act_of first i) (Shows read) i each into into') (so_far : PlanesSoFar Shows first games each i old into) where
    kept_at : (k : ℕ) → 1 < act_of first k → piece_of into' k each ≡ piece_of into k each
    kept_at k stays = elim (cases_eq k i) [
      | inl same ↦ subst (λ (n : ℕ). piece_of into' n each ≡ piece_of into n each) (sym same) (step.kept (subst (λ (n : ℕ). 1 < act_of first n) same stays))
      | inr other ↦ step.others k other
    ]

    shown_at : (k : ℕ) (d : G) (b : Board) → k < i + 1 → k < length (set games i new) → act_of first k ≤ 1 → Shows (get_or (set games i new) k d) b
        → k * each + each ≤ length into' → ShowsPlanes b (piece_of into' k each)
    shown_at k d b low long_enough changes is room = elim (cases_eq k i) [
      | inl same ↦
          let here : get_or (set games i new) k d ≡ read = ap (λ n. get_or (set games i new) n d) same ∙ get_or-set_same games i new d within ∙ sym is_read in
          let shown = subst (λ (g : G). Shows g b) here is in
          subst (λ (n : ℕ). ShowsPlanes b (piece_of into' n each)) (sym same)
          (step.own (subst (λ (n : ℕ). act_of first n ≤ 1) same changes) b shown (subst (λ (n : ℕ). n * each + each ≤ length into') same room))
      | inr other ↦
          let long = step.long in
          let size = length-set games i new in
          let there : get_or (set games i new) k d ≡ get_or games k d = get_or-set_other games i k new d other in
          let was = subst (λ (g : G). Shows g b) there is in
          subst (λ (l : List ℕ). ShowsPlanes b l) (sym (step.others k other)) (so_far.shown k d b (omega arith) (omega arith) changes was (omega arith))
    ]

    pub one_more : PlanesSoFar Shows first (set games i new) each (i + 1) old into'
    one_more = record {
      long = step.long ∙ so_far.long;
      shown = shown_at;
      kept = λ k stays. kept_at k stays ∙ so_far.kept k stays;
    }

  pub all_advanced : (games : List G) (i : ℕ) (old into : List ℕ) → length games ≤ i → PlanesSoFar Shows first games each i old into
      → ShowsAdvanced Shows first games each old into
  all_advanced games i old into end so_far = record {
    shown = λ k d b within changes is room. so_far.shown k d b (omega arith) within changes is room;
    kept = so_far.kept;
  }
