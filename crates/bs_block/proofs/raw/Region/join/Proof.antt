-- `join` makes one row of two. Assumes `Logic`.
use mathlib.Core.Path.{◌≡◌, refl, sym, ap, ◌∙◌}
use Prim.Native.Nat.{◌+◌, ◌<◌, ◌^◌}
use native.Mathlib.Omega.{arith}
use mathlib.Core.List.{[], ◌∷◌, ◌++◌}
use lib.ListN.{length, length-append}
use base.Logic.{emp, never, id⊢}
use contract.Monad.{fact, fact_i}
use contract.Running.{tables}
use types.Kit.{‵, raw, ◌⊛◌, ◌$◌, ◌∵◌, !, qed, by, move, keep, use0, use2, split, rewrite, fsplit, fsplit3, fjoin, flt_l, flt_i}
use types.Run.{enter, no_more, and_then, returns}
use types.Part.{agg}
use types.ByLocal.{alloc_all, pass_all, free_all, look_at, get, sets}
use denote.RattleType.{owns}
use denote.RawPtr.{Ptr, ◌+ₚ◌, in_a_block}
use denote.Signature.{plain}
use denote.Steps.{nothing, heard}
use denote.Triple.Walked.{Stays, walk_of, stay_dropped}
use Rattle.atomic_table.proofs.Names.{alive}
use Rattle.atomic_table.proofs.Walks.{proved, leaves}
use Rattle.core.proofs.alloc.Calls.{Goes-blank}
use Rattle.bs_block.specs.Ownership.{row, region_own}
use Rattle.bs_block.specs.contracts.raw.Region as P
use Rattle.bs_block.specs.contracts.raw.Region.join as f
use Rattle.bs_block.proofs.RegionWalks.{Fields, mark, mark_made, glue}
use Rattle.bs_block.proofs.raw.Region.TheLaws as places_laws
use Rattle.bs_block.proofs.raw.Region.join.Statement.{statement}
use Rattle.bs_block.proofs.raw.Region.join.Code as code

abbrev stayed : Stays f.ended.signature.params f.ended.kept
stayed = (stay_dropped (plain (λ _. P.the_row)) f.ended.kept.0, (stay_dropped (plain (λ _. P.the_row)) f.ended.kept.1.0, tt))

pub join_spec : {M : Type 1} → statement M
join_spec 𝓤 𝓛 𝓜 𝓡 wired =
    let c = f.clauses 𝓛 𝓜.mem 𝓡.returns in let W = walk_of 𝓛 f.ended stayed c in let 𝓣 = tables 𝓤 𝓛.H 𝓜 𝓡 𝓡.env in
    proved 𝓛 f.ended stayed c 𝓜 𝓡 (Goes-blank 𝓛 0 (plain (λ _. P.the_row)) f.ended.kept.0 (λ κs x w. tt), (Goes-blank 𝓛 0 (plain (λ _. P.the_row)) f.ended.kept.1.0 (λ κs x w. tt), tt))
    f.Key.name code.function (code.unfolded 𝓤 𝓛.H 𝓜 𝓡 wired)
    (λ κs. ((λ x. mark ∷ []), ((λ x. mark ∷ []), tt))) (λ κs. (places_laws.lowers.val_is, (places_laws.lowers.val_is, tt)))
    (λ κs qs bounds a gh are.
    let x : P.the_row.Denot = a.0 in let z : P.the_row.Denot = a.1.0 in let n = length x.slots in let all = x.slots ++ z.slots in
    let r : P.the_row.Denot = record { mark = record {}; at = x.at; slots = all } in
    let y : W.Ghost = ((κs, qs, bounds, a, (mark ∷ [], (mark ∷ [], tt))), gh) in
    let Told : Type 0 = (x.at ≡ x.at) × (all ≡ all) in
    qed 𝓛 ((raw (alive 𝓛 f.ended.signature κs qs) ⊛ ‵ (owns (P.the_row ∷ P.the_row ∷ []) (x, (z, tt)) (mark ∷ [], (mark ∷ [], tt))))
    ∷ raw (fact 𝓤 ((z.at ≡ x.at +ₚ n) × (n + length z.slots < 2 ^ 63))) ∷ []) ∵
    move ! (1 ∷ []) $ heard ! _ (λ asked. split ! $ move ! (1 ∷ []) $ fsplit3 ! $ fsplit ! $ move ! (2 ∷ []) $ fsplit ! $ keep ! (3 ∷ 1 ∷ 5 ∷ []) $
    -- [the places of the first; those of the second; the tokens]
    in_a_block ! x.at (λ p. region_own p x.slots) (id⊢ 𝓤 (never 𝓤)) (λ b o e. fsplit ! $ flt_l ! (λ small. move ! (1 ∷ []) $
    rewrite ! 0 (λ (p : Ptr). ‵ (region_own p z.slots)) (asked.0 ∙ ap (λ p. p +ₚ n) e) refl $ fsplit ! $ flt_l ! (λ small'. move ! (1 ∷ 0 ∷ []) $
    use2 𝓛 (‵ (row b o all)) (glue 𝓛 b x.slots z.slots o (o + n) (omega arith)) $
    flt_i ! (length all) (2 ^ 63) (omega (arith, asked.1, length-append x.slots z.slots)) $ fjoin ! $ rewrite ! 0 (λ (p : Ptr). ‵ (region_own p all)) (sym e) refl $
    use0 𝓛 (‵ (Fields.own_val (tt, tt) (mark ∷ []))) (mark_made 𝓛) $ fjoin ! $
    enter ! _ _ _ _ _ $ alloc_all ! (λ l. pass_all ! refl ((tt, (tt, tt)), ((tt, (tt, tt)), tt)) $
    sets ! (agg ! (no_more !)) refl (tt, tt) $ sets ! (agg ! (and_then ! (get ! refl) (no_more !))) refl (tt, (tt, tt)) $
    use0 𝓛 (raw (fact 𝓤 Told)) (fact_i 𝓤 Told (emp 𝓤) (refl, refl)) $ nothing ! $ nothing ! $ fjoin ! $ nothing ! $ fjoin ! $
    returns ! (look_at ! 0 refl) $ free_all ! refl $ keep ! (3 ∷ 0 ∷ 2 ∷ 1 ∷ []) $ by ! (leaves 𝓛 f.ended stayed c y mark r (tt, (tt, tt)) (tt, (tt, tt)))))))))
