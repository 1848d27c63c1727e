-- `write` puts a byte into one place, whatever it held. Assumes `Logic`.
use mathlib.Core.Path.{◌≡◌, refl, sym, ◌∙◌}
use Prim.Native.Nat.{◌+◌, ◌<◌, ◌≤◌, ◌^◌}
use native.Mathlib.Omega.{arith}
use mathlib.Core.List.{[], ◌∷◌}
use lib.ListN.{length, take, drop, length-append, length-take, length-drop}
use base.Fraction.{full_share}
use base.Logic.{never, id⊢}
use base.Fml.{ftrue, fat, froom, flft}
use mir.Syntax.{named, w8, w64, ty_int}
use mir.Val.{vunit}
use contract.Monad.{fact}
use contract.Running.{tables}
use types.Kit.{‵, raw, ◌⊛◌, at_ret, ◌$◌, ◌∵◌, !, qed, done, move, keep, use1, use2, split, join, rewrite, fsplit, fsplit3, fjoin, feq_i, flt_l, flt_i, suffices, frame, group}
use types.Part.{whole, sub}
use types.Run.{enter, of_opd, bin, init, unit_lit, stop, fld, assigns_last, first, blocks, exec, returns}
use types.ByLocal.{alloc_all, pass_all, free_all, look_at, get, get_in, through, sets, env, take_at, give_at}
use denote.Param.{layout}
use denote.Plain.{uint_in, uint_vals, uint_Tells}
use denote.RattleType.{RattleType, owns}
use denote.Builtin.{u8, usize}
use denote.Memory.{part_at}
use denote.RawPtr.{Ptr, in_a_block}
use denote.Ref.{MutRef, mut_vals, mut_Tells}
use denote.Signature.{plain}
use denote.Steps.{nothing, heard, opens, closes}
use denote.Triple.Walked.{Stays, walk_of, says, stay_dropped, stay_ref, Goes-dropped, Goes-ref, ends_at}
use Rattle.std.proofs.raw_atomic.Walks.{proved}
use Rattle.std.specs.Prelude.{Some}
use Rattle.std_alloc.proofs.RcSteps.{word, word-Good}
use Rattle.std_alloc.proofs.VecSteps.Shapes.{after}
use Rattle.bs_block.specs.inner.RegionLends.{with_slots}
use Rattle.bs_block.specs.Ownership.{row, region_own}
use Rattle.bs_block.specs.inner.Region.{spliced}
use Rattle.bs_block.specs.contracts.raw.Base as B
use Rattle.bs_block.specs.contracts.raw.Region as P
use Rattle.bs_block.specs.contracts.raw.Region.write as f
use Rattle.bs_block.proofs.RegionWalks.{base_vals, base_tells, Around, run_out, run_in, one_room}
use Rattle.bs_block.proofs.raw.Region.write.Statement.{statement}
use Rattle.bs_block.proofs.raw.Region.write.Code as code

abbrev Row : RattleType
Row = P.the_row

abbrev stayed : Stays f.ended.signature.params f.ended.kept
stayed = (stay_ref (0 ∷ []) tt (plain (λ _. Row)), (stay_dropped (plain (λ _. B.the_row)) f.ended.kept.1.0, (stay_dropped (plain (λ _. usize)) f.ended.kept.1.1.0, (stay_dropped (plain (λ _. u8)) f.ended.kept.1.1.1.0, tt))))

pub write_spec : {M : Type 1} → statement M
write_spec 𝓤 𝓛 𝓜 𝓡 wired =
    let c = f.clauses 𝓛 𝓜.mem 𝓡.returns in let W = walk_of 𝓛 f.ended stayed c in let 𝓣 = tables 𝓤 𝓛.H 𝓜 𝓡 𝓡.env in
    proved 𝓛 f.ended stayed c 𝓜 𝓡
    (Goes-ref 𝓛 1 0 tt (plain (λ _. Row)), (Goes-dropped 𝓛 1 (plain (λ _. B.the_row)) f.ended.kept.1.0 (λ κs x w. refl), (Goes-dropped 𝓛 1 (plain (λ _. usize)) f.ended.kept.1.1.0 (λ κs x w. refl), (Goes-dropped 𝓛 1 (plain (λ _. u8)) f.ended.kept.1.1.1.0 (λ κs x w. refl), tt))))
    f.Key.name code.function (code.unfolded 𝓤 𝓛.H 𝓜 𝓡 wired)
    (λ κs. (mut_vals, (base_vals, (uint_vals w64, (uint_vals w8, tt))))) (λ κs. (mut_Tells (named 0) κs.0 Row, (base_tells, (uint_Tells w64, (uint_Tells w8, tt)))))
    (λ κs qs bounds a _ are.
    let rb = a.0.ref_ptr.0 in let ro = a.0.ref_ptr.1 in let d = a.0.now in let base = a.1.0 in let at = a.1.1.0 in let byte = a.1.1.1.0 in let vs = mut_vals a.0 in
    let y : W.Ghost = ((κs, qs, bounds, a, (vs, (base_vals base, (uint_vals w64 at, (uint_vals w8 byte, tt))))), tt) in
    let fits_byte = are.1.1.1.0.1 in let fits_at = are.1.1.0.1 in
    qed 𝓛 (((‵ (flft κs.0 qs.0) ⊛ ‵ ftrue) ⊛ ‵ ((MutRef (named 0) κs.0 Row).own_val a.0 vs)
    ⊛ ‵ (owns (B.the_row ∷ usize ∷ u8 ∷ []) (base, (at, (byte, tt))) (base_vals base, (uint_vals w64 at, (uint_vals w8 byte, tt)))))
    ∷ raw (fact 𝓤 ((base.ptr ≡ d.at) × (at < length d.slots))) ∷ []) ∵
    move ! (1 ∷ []) $ heard ! _ (λ asked. split ! $ split ! $ move ! (2 ∷ []) $ split ! $ keep ! (0 ∷ 2 ∷ []) $
    enter ! _ _ _ _ _ $ alloc_all ! (λ l. pass_all ! refl ((tt, tt), (word-Good [] base.ptr, ((tt, record { fits = fits_at }), ((tt, record { fits = fits_byte }), tt)))) $
    let En = env code.Mir.locals l in
    fsplit3 ! $ move ! (1 ∷ 2 ∷ 3 ∷ []) $ opens ! tt Row rb ro (λ us. move ! (1 ∷ []) $ fsplit ! $ move ! (1 ∷ []) $
    in_a_block ! d.at (λ p. region_own p d.slots) (id⊢ 𝓤 (never 𝓤)) (λ b o e. fsplit ! $ flt_l ! (λ small.
    let le : at + 1 ≤ length d.slots = omega (arith, asked.1) in let run = take 1 (drop at d.slots) in
    let one : length run ≡ 1 = omega (arith, le, length-take 1 (drop at d.slots), length-drop at d.slots) in
    let new = with_slots d (spliced d.slots at 1 (byte ∷ [])) in
    let rest = drop (at + 1) d.slots in
    let fit : length new.slots < 2 ^ 63 = omega (arith, le, small, length-append (take at d.slots) (Some byte ∷ rest), length-take at d.slots, length-drop (at + 1) d.slots) in
    take_at ! 2 $ rewrite ! 0 (λ (p : Ptr). ‵ (fat full_share (layout B.the_row) (l 2) 0 (word p))) (asked.0 ∙ e) refl $ give_at ! 2 $
    first ! $ blocks ! $ sets ! (bin ! (get_in ! (fld ! refl (stop !)) (sub ! 0 refl (whole !))) (get ! refl) tt) refl (tt, tt) $
    use1 𝓛 (‵ (row b (at + o) run) ⊛ ‵ (Around 𝓛 b o d.slots at 1 le)) (run_out 𝓛 b o d.slots at 1 le) $ split ! $
    use1 𝓛 (‵ (froom (ty_int w8) b (at + o))) (one_room 𝓛 b (at + o) run one) $
    -- [the room; the other places; the fields; self's cell; the open borrow, in three entries;
    -- self's first part]
    assigns_last ! (of_opd ! (get ! refl)) (through ! refl (stop !)) (init ! 0 refl (tt, record { fits = fits_byte })) $
    exec ! 𝓣.C 𝓣.Λ En (after 1 (code.function).body) (at_ret En (W.post y)) $ sets ! (of_opd ! (unit_lit !)) refl (tt, tt) $
    use1 𝓛 (‵ (part_at u8 full_share byte b (at + o))) (uint_in 𝓛 full_share w8 byte b (at + o)) $ nothing ! $ move ! (1 ∷ 0 ∷ []) $ fjoin ! $
    use2 𝓛 (‵ (row b o new.slots)) (run_in 𝓛 b o d.slots at 1 le (Some byte ∷ []) refl) $ flt_i ! (length new.slots) (2 ^ 63) fit $ fjoin ! $
    rewrite ! 0 (λ (p : Ptr). ‵ (region_own p new.slots)) (sym e) refl $ move ! (1 ∷ 0 ∷ []) $ fjoin ! $ move ! (1 ∷ 0 ∷ []) $ closes ! tt Row new us rb ro $
    -- [two parts of self; the token; self's first part]
    returns ! (look_at ! 0 refl) $ free_all ! refl $ move ! (3 ∷ []) $
    suffices ! _ (ends_at 𝓛 f.ended stayed c y vunit tt (new, (tt, (tt, (tt, tt)))) (tt, (tt, (tt, (tt, tt))))) $ says ! (refl, refl) $
    group ! 3 $ nothing ! $ nothing ! $ join ! $ nothing ! $ join ! $ nothing ! $ join ! $ move ! (1 ∷ 0 ∷ []) $ join ! $ nothing ! $ move ! (2 ∷ 0 ∷ []) $ join ! $ frame ! $ frame ! $
    feq_i ! _ (vunit ∷ []) _ refl $ done !))))))
