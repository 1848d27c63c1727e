-- `at` moves the pointer. Assumes `Logic`.
use mathlib.Core.Path.{◌≡◌, refl, sym, ap, ◌∙◌}
use native.Mathlib.Omega.{arith}
use Prim.Native.Nat.{ℕ, ◌+◌}
use mathlib.Core.List.{[], ◌∷◌}
use base.Fraction.{full_share}
use base.Fml.{fat}
use base.Logic.{emp}
use mir.Syntax.{w64}
use contract.Monad.{fact, fact_i}
use contract.Running.{tables}
use types.Kit.{‵, raw, ◌⊛◌, at_ret, ◌$◌, ◌∵◌, !, qed, by, move, keep, use0, split, rewrite}
use types.Run.{enter, of_opd, bin, stop, fld, no_more, and_then, first, blocks, exec, returns}
use types.Part.{whole, sub, agg}
use types.ByLocal.{alloc_all, pass_all, free_all, look_at, get, get_in, sets, sets_last, env, take_at, give_at}
use denote.Builtin.{usize}
use denote.Param.{layout}
use denote.Plain.{uint_vals, uint_Tells}
use denote.RattleType.{owns}
use denote.RawPtr.{Ptr, block_ptr, block_of, count_of, ◌+ₚ◌}
use denote.Signature.{plain}
use denote.Steps.{nothing, heard}
use denote.Triple.Walked.{Stays, walk_of, stay_dropped, Goes-dropped}
use Rattle.atomic_table.proofs.Names.{alive, fjoin}
use Rattle.atomic_table.proofs.Walks.{proved, leaves}
use Rattle.std_alloc.proofs.RcSteps.{word, word-Good}
use Rattle.std_alloc.proofs.VecSteps.Shapes.{after}
use Rattle.bs_block.specs.inner.Region.{IsThere}
use Rattle.bs_block.specs.contracts.raw.Base as B
use Rattle.bs_block.specs.contracts.raw.Base.at as f
use Rattle.bs_block.proofs.RegionWalks.{base_vals, base_tells, base_made}
use Rattle.bs_block.proofs.raw.Base.at.Statement.{statement}
use Rattle.bs_block.proofs.raw.Base.at.Code as code

moved_to : (p : Ptr) (n b o : ℕ) → p ≡ block_ptr b o → p +ₚ n ≡ block_ptr b (n + o)
moved_to p n b o e = ap (λ q. q +ₚ n) e ∙ ap (block_ptr b) (omega arith)

abbrev stayed : Stays f.ended.signature.params f.ended.kept
stayed = (stay_dropped (plain (λ _. B.the_row)) f.ended.kept.0, (stay_dropped (plain (λ _. usize)) f.ended.kept.1.0, tt))

pub at_spec : {M : Type 1} → statement M
at_spec 𝓤 𝓛 𝓜 𝓡 wired =
    let c = f.clauses 𝓛 𝓜.mem 𝓡.returns in let W = walk_of 𝓛 f.ended stayed c in let 𝓣 = tables 𝓤 𝓛.H 𝓜 𝓡 𝓡.env in
    proved 𝓛 f.ended stayed c 𝓜 𝓡 (Goes-dropped 𝓛 0 (plain (λ _. B.the_row)) f.ended.kept.0 (λ κs x w. refl), (Goes-dropped 𝓛 0 (plain (λ _. usize)) f.ended.kept.1.0 (λ κs x w. refl), tt))
    f.Key.name code.function (code.unfolded 𝓤 𝓛.H 𝓜 𝓡 wired)
    (λ κs. (base_vals, (uint_vals w64, tt))) (λ κs. (base_tells, (uint_Tells w64, tt)))
    (λ κs qs bounds a gh are.
    let p = a.0.ptr in let at = a.1.0 in let fits = are.1.0.1 in
    let y : W.Ghost = ((κs, qs, bounds, a, (base_vals a.0, (uint_vals w64 at, tt))), gh) in
    let b = block_of p in let o = count_of p in
    let Told : Type 0 = p +ₚ at ≡ p +ₚ at in
    let r : B.the_row.Denot = record { ptr = p +ₚ at } in
    qed 𝓛 ((raw (alive 𝓛 f.ended.signature κs qs) ⊛ ‵ (owns (B.the_row ∷ usize ∷ []) (a.0, (at, tt)) (base_vals a.0, (uint_vals w64 at, tt)))) ∷ raw (fact 𝓤 (IsThere p)) ∷ []) ∵
    move ! (1 ∷ []) $ heard ! _ (λ e. split ! $ keep ! (0 ∷ []) $
    let moved : p +ₚ at ≡ block_ptr b (at + o) = moved_to p at b o e in
    enter ! _ _ _ _ _ $ alloc_all ! (λ l. pass_all ! refl (word-Good [] p, ((tt, record { fits = fits }), tt)) $
    let En = env code.Mir.locals l in
    take_at ! 1 $ rewrite ! 0 (λ (p : Ptr). ‵ (fat full_share (layout B.the_row) (l 1) 0 (word p))) e refl $ give_at ! 1 $
    first ! $ blocks ! $ sets_last ! (bin ! (get_in ! (fld ! refl (stop !)) (sub ! 0 refl (whole !))) (get ! refl) tt) refl (tt, tt) $
    exec ! 𝓣.C 𝓣.Λ En (after 1 (code.function).body) (at_ret En (W.post y)) $
    sets ! (of_opd ! (get ! refl)) refl (tt, tt) $ sets ! (agg ! (and_then ! (get ! refl) (no_more !))) refl (word-Good [] (block_ptr b (at + o))) $
    use0 𝓛 (‵ (B.the_row.own_val (record { ptr = block_ptr b (at + o) }) (word (block_ptr b (at + o)) ∷ []))) (base_made 𝓛 (block_ptr b (at + o))) $
    rewrite ! 0 (λ (p : Ptr). ‵ (B.the_row.own_val (record { ptr = p }) (word (block_ptr b (at + o)) ∷ []))) (sym moved) refl $
    use0 𝓛 (raw (fact 𝓤 Told)) (fact_i 𝓤 Told (emp 𝓤) refl) $ nothing ! $ nothing ! $ fjoin ! $ nothing ! $ fjoin ! $
    returns ! (look_at ! 0 refl) $ free_all ! refl $ keep ! (3 ∷ 0 ∷ 2 ∷ 1 ∷ []) $ by ! (leaves 𝓛 f.ended stayed c y (word (block_ptr b (at + o))) r (tt, (tt, tt)) (tt, (tt, tt))))))
