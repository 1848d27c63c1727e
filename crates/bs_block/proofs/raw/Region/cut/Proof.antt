-- `cut` makes two rows of one. Assumes `Logic`.
use mathlib.Core.Path.{◌≡◌, refl, sym, ap}
use Prim.Native.Nat.{ℕ, ◌+◌, ◌≤◌, ◌^◌}
use native.Mathlib.Omega.{arith}
use mathlib.Core.List.{List, [], ◌∷◌}
use lib.ListN.{length, take, drop, take-append-drop, length-take, length-drop}
use base.Logic.{emp, never, id⊢}
use contract.Monad.{fact, fact_i}
use contract.Running.{tables}
use types.Kit.{‵, raw, ◌⊛◌, ◌$◌, ◌∵◌, !, qed, by, move, keep, use0, use1, use2, split, rewrite, fsplit, fjoin, flt_l, flt_i}
use types.Run.{enter, no_more, and_then, returns}
use types.Part.{agg}
use types.ByLocal.{alloc_all, pass_all, free_all, look_at, get, sets}
use denote.RattleType.{owns}
use denote.RawPtr.{Ptr, ◌+ₚ◌, in_a_block}
use denote.Signature.{plain}
use denote.Steps.{nothing, heard}
use denote.Triple.Walked.{Stays, walk_of, stay_dropped, Goes-dropped}
use Rattle.atomic_table.proofs.Names.{alive}
use Rattle.atomic_table.proofs.Walks.{proved, leaves}
use Rattle.core.proofs.alloc.Calls.{Goes-blank}
use Rattle.std.specs.Prelude.{Option}
use Rattle.bs_block.specs.Ownership.{row, region_own}
use Rattle.bs_block.specs.contracts.raw.Region as P
use mir.Syntax.{w64}
use denote.Builtin.{usize}
use denote.Plain.{uint_vals, uint_Tells}
use denote.Struct.Tuple.{Tuple}
use Rattle.std_alloc.proofs.Pairs.{pair_val, pair_of}
use Rattle.bs_block.specs.contracts.raw.Region.cut as f
use Rattle.bs_block.proofs.RegionWalks.{Fields, mark, mark_made}
use Rattle.bs_block.proofs.RegionWalks as rows
use Rattle.bs_block.proofs.raw.Region.TheLaws as places_laws
use Rattle.bs_block.proofs.raw.Region.cut.Statement.{statement}
use Rattle.bs_block.proofs.raw.Region.cut.Code as code

abbrev stayed : Stays f.ended.signature.params f.ended.kept
stayed = (stay_dropped (plain (λ _. P.the_row)) f.ended.kept.0, (stay_dropped (plain (λ _. usize)) f.ended.kept.1.0, tt))

pub cut_spec : {M : Type 1} → statement M
cut_spec 𝓤 𝓛 𝓜 𝓡 wired =
    let c = f.clauses 𝓛 𝓜.mem 𝓡.returns in let W = walk_of 𝓛 f.ended stayed c in let 𝓣 = tables 𝓤 𝓛.H 𝓜 𝓡 𝓡.env in
    proved 𝓛 f.ended stayed c 𝓜 𝓡 (Goes-blank 𝓛 0 (plain (λ _. P.the_row)) f.ended.kept.0 (λ κs x w. tt), (Goes-dropped 𝓛 0 (plain (λ _. usize)) f.ended.kept.1.0 (λ κs x w. refl), tt))
    f.Key.name code.function (code.unfolded 𝓤 𝓛.H 𝓜 𝓡 wired)
    (λ κs. ((λ x. mark ∷ []), (uint_vals w64, tt))) (λ κs. (places_laws.lowers.val_is, (uint_Tells w64, tt)))
    (λ κs qs bounds a gh are.
    let x : P.the_row.Denot = a.0 in let at = a.1.0 in let fits = are.1.0.1 in let xs = take at x.slots in let ys = drop at x.slots in
    let r₀ : P.the_row.Denot = record { mark = record {}; at = x.at; slots = xs } in
    let r₁ : P.the_row.Denot = record { mark = record {}; at = x.at +ₚ at; slots = ys } in
    let y : W.Ghost = ((κs, qs, bounds, a, (mark ∷ [], (uint_vals w64 at, tt))), gh) in
    let Told : Type 0 = (x.at ≡ x.at) × (xs ≡ xs) × (x.at +ₚ at ≡ x.at +ₚ at) × (ys ≡ ys) in
    qed 𝓛 ((raw (alive 𝓛 f.ended.signature κs qs) ⊛ ‵ (owns (P.the_row ∷ usize ∷ []) (x, (at, tt)) (mark ∷ [], (uint_vals w64 at, tt))))
    ∷ raw (fact 𝓤 (at ≤ length x.slots)) ∷ []) ∵
    move ! (1 ∷ []) $ heard ! _ (λ asked. split ! $ move ! (1 ∷ []) $ fsplit ! $ fsplit ! $ keep ! (1 ∷ 3 ∷ []) $
    -- [the places; the tokens]
    in_a_block ! x.at (λ p. region_own p x.slots) (id⊢ 𝓤 (never 𝓤)) (λ b o e. fsplit ! $ flt_l ! (λ small.
    rewrite ! 0 (λ (l : List (Option ℕ)). ‵ (row b o l)) (sym (take-append-drop at x.slots)) refl $
    use1 𝓛 (‵ (row b o xs) ⊛ ‵ (row b (o + at) ys)) (rows.cut 𝓛 b xs ys o (o + at) (omega (arith, asked, length-take at x.slots))) $ split ! $
    flt_i ! (length xs) (2 ^ 63) (omega (arith, asked, small, length-take at x.slots)) $ fjoin ! $ rewrite ! 0 (λ (p : Ptr). ‵ (region_own p xs)) (sym e) refl $
    use0 𝓛 (‵ (Fields.own_val (tt, tt) (mark ∷ []))) (mark_made 𝓛) $ fjoin ! $ move ! (1 ∷ []) $
    flt_i ! (length ys) (2 ^ 63) (omega (arith, asked, small, length-drop at x.slots)) $ fjoin ! $ rewrite ! 0 (λ (p : Ptr). ‵ (region_own p ys)) (sym (ap (λ p. p +ₚ at) e)) refl $
    use0 𝓛 (‵ (Fields.own_val (tt, tt) (mark ∷ []))) (mark_made 𝓛) $ fjoin ! $ move ! (1 ∷ 0 ∷ []) $
    use2 𝓛 (‵ ((Tuple (P.the_row ∷ P.the_row ∷ [])).own_val (r₀, r₁) (pair_val mark mark ∷ []))) (pair_of 𝓛 P.the_row P.the_row r₀ r₁ mark mark) $
    enter ! _ _ _ _ _ $ alloc_all ! (λ l. pass_all ! refl ((tt, (tt, tt)), ((tt, record { fits = fits }), tt)) $
    sets ! (agg ! (no_more !)) refl (tt, tt) $ sets ! (agg ! (and_then ! (get ! refl) (no_more !))) refl (tt, (tt, tt)) $
    sets ! (agg ! (no_more !)) refl (tt, tt) $ sets ! (agg ! (and_then ! (get ! refl) (no_more !))) refl (tt, (tt, tt)) $
    sets ! (agg ! (and_then ! (get ! refl) (and_then ! (get ! refl) (no_more !)))) refl (tt, ((tt, tt), ((tt, tt), tt))) $
    use0 𝓛 (raw (fact 𝓤 Told)) (fact_i 𝓤 Told (emp 𝓤) (refl, refl, refl, refl)) $ nothing ! $ nothing ! $ fjoin ! $ nothing ! $ fjoin ! $
    returns ! (look_at ! 0 refl) $ free_all ! refl $ keep ! (3 ∷ 0 ∷ 2 ∷ 1 ∷ []) $ by ! (leaves 𝓛 f.ended stayed c y (pair_val mark mark) (r₀, r₁) (tt, (tt, tt)) (tt, (tt, tt))))))))
