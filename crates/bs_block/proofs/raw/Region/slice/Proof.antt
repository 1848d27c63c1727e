-- `slice` shows a run of bytes that the places lend. Assumes `Logic`.
use mathlib.Core.Path.{◌≡◌, refl, sym, ap, ◌∙◌}
use Prim.Native.Nat.{◌+◌, ◌*◌, ◌^◌}
use native.Mathlib.Omega.{arith}
use mathlib.Core.List.{List, [], ◌∷◌}
use lib.ListN.{length, drop, length-take, length-drop}
use base.Fraction.{full_share}
use base.Logic.{never, id⊢}
use base.Fml.{ftrue, fat, flft}
use mir.Syntax.{named, w64}
use mir.Val.{Val}
use contract.Monad.{fact}
use contract.Running.{tables}
use types.Kit.{‵, raw, ◌⊛◌, at_ret, ◌$◌, ◌∵◌, !, qed, done, move, keep, drop as skip, use1, split, join, rewrite, fsplit, fjoin, feq_i, flt_l, flt_i, suffices, frame}
use types.Part.{whole, sub, agg}
use types.Run.{enter, of_opd, bin, stop, fld, and_then, no_more, first, blocks, exec, returns}
use types.ByLocal.{alloc_all, pass_all, free_all, look_at, get, get_in, sets, sets_last, env, take_at, give_at}
use denote.Builtin.{u8, usize, RefOf}
use denote.Opens.{hide, unhide}
use denote.Param.{layout}
use denote.Plain.{uint_vals, uint_Tells}
use denote.RattleType.{RattleType, owns}
use denote.RawPtr.{Ptr, in_a_block}
use denote.Ref.{ShrRef, shr_vals, shr_Tells}
use denote.Signature.{plain}
use denote.Slice.{elements_shared, slice_val}
use denote.Steps.{nothing, heard}
use denote.Triple.Walked.{Stays, walk_of, says, stay_dropped, Goes-dropped, ends_at}
use Rattle.std.proofs.lemmas.List.{length-map}
use Rattle.std.proofs.raw_atomic.Walks.{proved}
use Rattle.std.specs.Prelude.{Some}
use Rattle.std_alloc.proofs.RcSteps.{word, word-Good}
use Rattle.std_alloc.proofs.VecSteps.Shapes.{after}
use Rattle.bs_block.specs.Ownership.{region_lent}
use Rattle.bs_block.specs.inner.Region.{IsRun}
use Rattle.bs_block.specs.contracts.raw.Base as B
use Rattle.bs_block.specs.contracts.raw.Region as P
use Rattle.bs_block.specs.contracts.raw.Region.slice as f
use Rattle.bs_block.proofs.RegionWalks.{base_vals, base_tells, run_seen}
use Rattle.bs_block.proofs.raw.Region.slice.Statement.{statement}
use Rattle.bs_block.proofs.raw.Region.slice.Code as code

abbrev Row : RattleType
Row = P.the_row

abbrev stayed : Stays f.ended.signature.params f.ended.kept
stayed = (stay_dropped (RefOf (0 ∷ []) tt (plain (λ _. Row)) (λ _. tt)) f.ended.kept.0, (stay_dropped (plain (λ _. B.the_row)) f.ended.kept.1.0, (stay_dropped (plain (λ _. usize)) f.ended.kept.1.1.0, (stay_dropped (plain (λ _. usize)) f.ended.kept.1.1.1.0, tt))))

pub slice_spec : {M : Type 1} → statement M
slice_spec 𝓤 𝓛 𝓜 𝓡 wired =
    let c = f.clauses 𝓛 𝓜.mem 𝓡.returns in let W = walk_of 𝓛 f.ended stayed c in let 𝓣 = tables 𝓤 𝓛.H 𝓜 𝓡 𝓡.env in
    proved 𝓛 f.ended stayed c 𝓜 𝓡
    (Goes-dropped 𝓛 1 (RefOf (0 ∷ []) tt (plain (λ _. Row)) (λ _. tt)) f.ended.kept.0 (λ κs x w. refl), (Goes-dropped 𝓛 1 (plain (λ _. B.the_row)) f.ended.kept.1.0 (λ κs x w. refl), (Goes-dropped 𝓛 1 (plain (λ _. usize)) f.ended.kept.1.1.0 (λ κs x w. refl), (Goes-dropped 𝓛 1 (plain (λ _. usize)) f.ended.kept.1.1.1.0 (λ κs x w. refl), tt))))
    f.Key.name code.function (code.unfolded 𝓤 𝓛.H 𝓜 𝓡 wired)
    (λ κs. (shr_vals, (base_vals, (uint_vals w64, (uint_vals w64, tt))))) (λ κs. (shr_Tells (named 0) κs.0 Row, (base_tells, (uint_Tells w64, (uint_Tells w64, tt)))))
    (λ κs qs bounds a _ are.
    let κ = κs.0 in let d = a.0.now in let base = a.1.0 in let at = a.1.1.0 in let n = a.1.1.1.0 in let vs = shr_vals a.0 in
    let y : W.Ghost = ((κs, qs, bounds, a, (vs, (base_vals base, (uint_vals w64 at, (uint_vals w64 n, tt))))), tt) in
    let fits_at = are.1.1.0.1 in let fits_n = are.1.1.1.0.1 in
    qed 𝓛 (((‵ (flft κ qs.0) ⊛ ‵ ftrue) ⊛ ‵ ((ShrRef (named 0) κ Row).own_val a.0 vs)
    ⊛ ‵ (owns (B.the_row ∷ usize ∷ usize ∷ []) (base, (at, (n, tt))) (base_vals base, (uint_vals w64 at, (uint_vals w64 n, tt)))))
    ∷ raw (fact 𝓤 ((base.ptr ≡ d.at) × IsRun d.slots at n)) ∷ []) ∵
    move ! (1 ∷ []) $ heard ! _ (λ asked. split ! $ split ! $ move ! (2 ∷ []) $ split ! $ keep ! (0 ∷ 2 ∷ []) $
    let xs = asked.1.0 in let within = asked.1.1.0 in let extended = asked.1.1.1 in
    let long : length xs ≡ n = omega (arith, within, ap length extended, length-map xs Some, length-take n (drop at d.slots), length-drop at d.slots) in
    enter ! _ _ _ _ _ $ alloc_all ! (λ l. pass_all ! refl ((tt, tt), (word-Good [] base.ptr, ((tt, record { fits = fits_at }), ((tt, record { fits = fits_n }), tt)))) $
    let En = env code.Mir.locals l in
    fsplit ! $ skip ! $ unhide ! $ fsplit ! $ skip ! $ in_a_block ! d.at (λ p. region_lent p d.slots κ) (id⊢ 𝓤 (never 𝓤)) (λ b o e. fsplit ! $ flt_l ! (λ small.
    take_at ! 2 $ rewrite ! 0 (λ (p : Ptr). ‵ (fat full_share (layout B.the_row) (l 2) 0 (word p))) (asked.0 ∙ e) refl $ give_at ! 2 $
    first ! $ blocks ! $ sets ! (bin ! (get_in ! (fld ! refl (stop !)) (sub ! 0 refl (whole !))) (get ! refl) tt) refl (tt, tt) $
    let v = slice_val (b, at + o) n in
    sets_last ! (agg ! (and_then ! (get ! refl) (and_then ! (get ! refl) (no_more !)))) refl (tt, (tt, (record { fits = fits_n }, tt))) $
    exec ! 𝓣.C 𝓣.Λ En (after 1 (code.function).body) (at_ret En (W.post y)) $ sets ! (of_opd ! (get ! refl)) refl (tt, (tt, (record { fits = fits_n }, tt))) $
    use1 𝓛 (‵ (elements_shared u8 xs b (at + o) κ)) (run_seen 𝓛 b κ o d.slots at n xs (omega (arith, within)) extended) $ hide ! $
    flt_i ! (length xs * 1) (2 ^ 63) (omega (arith, within, small, long)) $ flt_i ! (length xs) (2 ^ 64) (omega (arith, within, small, long)) $ fjoin ! $
    feq_i ! (List Val) (v ∷ []) (slice_val (b, at + o) (length xs) ∷ []) (ap (λ k. slice_val (b, at + o) k ∷ []) (sym long)) $ fjoin ! $ fjoin ! $
    -- [the result; the token]
    returns ! (look_at ! 0 refl) $ free_all ! refl $
    suffices ! _ (ends_at 𝓛 f.ended stayed c y v (record { ref_ptr = (b, at + o); now = xs }) (tt, (tt, (tt, (tt, tt)))) (tt, (tt, (tt, (tt, tt))))) $ says ! extended $
    nothing ! $ move ! (2 ∷ 0 ∷ []) $ join ! $ frame ! $ nothing ! $ nothing ! $ join ! $ nothing ! $ join ! $ nothing ! $ join ! $ nothing ! $ join ! $ frame ! $ done !)))))
