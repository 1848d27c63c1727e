-- `allocate` cuts the new block into unwritten places, and keeps the right to free it. Assumes
-- `Logic`.
use mathlib.Core.Path.{◌≡◌, refl, sym, ap, subst, ◌∙◌}
use mathlib.Core.Bool.{true, false}
use Prim.Native.Nat.{◌<◌, ◌^◌}
use native.Mathlib.Omega.{arith}
use mathlib.Core.List.{List, [], ◌∷◌}
use lib.Dec.{lit<}
use lib.ListN.{length, replicate, length-replicate}
use seplogic.Ra.Ura.{Ura}
use base.Logic.{ent, sep}
use base.Fml.{ftrue, flft, Incl-trans}
use contract.BorrowLft.{◌⊑◌}
use contract.Monad.{fact}
use contract.Running.{tables, tables_of}
use mir.MapTy.{inst_fn}
use mir.Syntax.{Fn, Body, Args, Ty, named, a_type, dcons, dnil, w8, w64, ty_int, ty_array}
use mir.Val.{Val, vint, vptr, vstruct, vcons, vnil}
use prog.Capped.{capped_is}
use prog.Memory.{capped, size}
use prog.Wp.{Wp, after_seq, at_return}
use types.Kit.{‵, raw, ◌⊛◌, later, await, at_ret, any_q, ◌$◌, ◌∵◌, !, qed, done, move, keep, use0, use1, use2, use3, split, join, fsplit, fjoin, fpack, feq_i, flt_i, suffices, frame}
use types.Kit.{Post as After}
use types.Logic.{Logic, sem}
use types.Match.{live, vrt, in_variant}
use types.Part.{whole, agg}
use types.Run.{enter, of_opd, lit, stop, fld, and_then, no_more, first, exec, returns, switches_on}
use types.ByLocal.{alloc_all, pass_all, free_all, look_at, get, get_in, get_tag, sets, sets_last, lands_as, env}
use denote.Builtin.{usize, RefOf}
use denote.Laws.{Is}
use denote.Param.{layout, param, bounded}
use denote.Plain.{uint_vals, uint_Tells}
use denote.RattleType.{RattleType, Valss, owns}
use denote.RawPtr.{Ptr, block_ptr}
use denote.Ref.{ShrRef, shr_vals, shr_Tells}
use denote.Signature.{plain}
use denote.Steps.{nothing, owned, heard}
use denote.Struct.Declared as Declared
use denote.Struct.Struct.{Struct, Struct-Makes, within}
use denote.Struct.Tuple.{Tuple, tuple_type}
use denote.Triple.Call.{calls_at}
use denote.Triple.Clauses.{Ended}
use denote.Triple.Table.{framed}
use denote.Triple.Walked.{Stays, walk_of, says, stay_dropped, Goes-dropped, ends_at}
use Rattle.core.proofs.alloc.Calls.{Al, Answer-typed, Takes, at_takes, Answered, Takes-goes, Takes-gives, answers}
use Rattle.core.specs.contracts.alloc.AllocError as AE
use Rattle.core.specs.contracts.result.Result as RS
use Rattle.std.proofs.raw_atomic.Walks.{proved}
use Rattle.std.specs.Prelude.{None, Ok, Err}
use Rattle.std_alloc.proofs.RcSteps.{Good, word, word-Good, first_Good}
use Rattle.std_alloc.proofs.ResultValues.{ok_of, err_of}
use Rattle.std_alloc.proofs.VecSteps.Shapes.{after, head, arm_body}
use Rattle.bs_block.specs.Ownership.{row}
use Rattle.bs_block.specs.contracts.raw.Base as B
use Rattle.bs_block.specs.contracts.raw.Deed as D
use Rattle.bs_block.specs.contracts.raw.Region as P
use Rattle.bs_block.specs.contracts.raw.allocate as f
use Rattle.bs_block.proofs.RegionWalks.{Fields, mark, mark_made, base_made, of_room}
use Rattle.bs_block.proofs.raw.allocate.Statement.{statement}
use Rattle.bs_block.proofs.raw.allocate.Code as code

module _ (Z : Al) where
  abbrev args : Args
  args = bounded (a_type ∷ []) (Z.row, tt) (dcons Z.d (dcons Z.drops dnil))

  abbrev ended : Ended
  ended = f.ended Z.row Z.g Z.d Z.drops

  abbrev Handle : RattleType
  Handle = param 0 Z.row

  abbrev stayed : Stays ended.signature.params ended.kept
  stayed = (stay_dropped (RefOf (0 ∷ []) tt (plain (λ _. Handle)) (λ _. tt)) ended.kept.0, (stay_dropped (plain (λ _. usize)) ended.kept.1.0, tt))

  -- the three parts of a new block
  abbrev Parts : RattleType
  Parts = Tuple (B.the_row ∷ P.the_row ∷ D.the_row Handle Z.g ∷ [])

  abbrev Out : RattleType
  Out = RS.the_row Parts AE.the_row

abbrev triple_val : Val → Val → Val → Val
triple_val u v w = vstruct (vcons u (vcons v (vcons w vnil)))

triple_of : {M : Type 1} {𝓤 : Ura M} (𝓛 : Logic 𝓤) (R S T : RattleType) (x : R.Denot) (y : S.Denot) (z : T.Denot) (u v w : Val)
    → ent 𝓤 (sep 𝓤 (sem 𝓛 (R.own_val x (u ∷ []))) (sep 𝓤 (sem 𝓛 (S.own_val y (v ∷ []))) (sem 𝓛 (T.own_val z (w ∷ []))))) (sem 𝓛 ((Tuple (R ∷ S ∷ T ∷ [])).own_val (x, y, z) (triple_val u v w ∷ [])))
triple_of 𝓛 R S T x y z u v w =
    let Rs = R ∷ S ∷ T ∷ [] in let all = triple_val u v w ∷ [] in
    qed 𝓛 (‵ (R.own_val x (u ∷ [])) ∷ ‵ (S.own_val y (v ∷ [])) ∷ ‵ (T.own_val z (w ∷ [])) ∷ []) ∵
    nothing ! $ move ! (3 ∷ 0 ∷ []) $ fjoin ! $ move ! (2 ∷ 0 ∷ []) $ fjoin ! $ move ! (1 ∷ 0 ∷ []) $ fjoin ! $ feq_i ! (List Val) all all refl $ fjoin ! $
    fpack ! (Valss Rs) (within (Declared.shape (tuple_type Rs)) (x, (y, (z, tt))) all) (u ∷ [], (v ∷ [], (w ∷ [], tt))) $ done !

pub allocate_spec : {M : Type 1} → statement M
unfolding tables_of
allocate_spec 𝓤 𝓛 𝓜 𝓡 wired W LW g d dd met md =
    let Z : Al = record { row = W; laws = LW; g = g; d = d; drops = dd } in
    let E = ended Z in let hs = stayed Z in
    let c = f.clauses W g d dd 𝓛 𝓜.mem 𝓡.returns in let V = walk_of 𝓛 E hs c in let 𝓣 = tables 𝓤 𝓛.H 𝓜 𝓡 𝓡.env in
    let fn : Fn = inst_fn (args Z) code.function in
    proved 𝓛 E hs c 𝓜 𝓡 (Goes-dropped 𝓛 2 (RefOf (0 ∷ []) tt (plain (λ _. Handle Z)) (λ _. tt)) E.kept.0 (λ κs x w. refl), (Goes-dropped 𝓛 2 (plain (λ _. usize)) E.kept.1.0 (λ κs x w. refl), tt))
    (f.Key.name (args Z)) fn (code.unfolded 𝓤 𝓛.H 𝓜 𝓡 wired (W, tt) d dd)
    (λ κs. (shr_vals, (uint_vals w64, tt))) (λ κs. (shr_Tells (named 0) κs.0 (Handle Z), (uint_Tells w64, tt)))
    (λ κs qs bounds a _ are.
    let κ = κs.0 in let q = qs.0 in let rb = a.0.ref_ptr.0 in let ro = a.0.ref_ptr.1 in let h = a.0.now in let len = a.1.0 in let vs = shr_vals a.0 in
    let y : V.Ghost = ((κs, qs, bounds, a, (vs, (uint_vals w64 len, tt))), tt) in
    let fits = are.1.0.1 in
    let τ : Ty = ty_array (ty_int w8) len in
    qed 𝓛 (((‵ (flft κ q) ⊛ ‵ (flft κs.1.0 qs.1.0) ⊛ ‵ ftrue) ⊛ ‵ ((ShrRef (named 0) κ (Handle Z)).own_val a.0 vs) ⊛ ‵ (owns (usize ∷ []) (len, tt) (uint_vals w64 len, tt)))
    ∷ (raw (fact 𝓤 (κs.1.0 ⊑ W.lives)) ⊛ raw (fact 𝓤 (len < 2 ^ 63))) ∷ []) ∵
    move ! (1 ∷ []) $ split ! $ heard ! _ (λ within. heard ! _ (λ small. split ! $ move ! (1 ∷ []) $ split ! $ move ! (2 ∷ []) $ split ! $ move ! (2 ∷ []) $ fsplit ! $ keep ! (1 ∷ 2 ∷ 3 ∷ []) $
    -- [the handle; the token; the other token]
    enter ! _ _ fn (vptr rb ro ∷ vint w64 len ∷ []) _ $ alloc_all ! (λ l. pass_all ! refl ((tt, tt), ((tt, record { fits = fits }), tt)) $
    let En = env fn.locals l in let both : Body = head (after 1 fn.body) in
    let Post = V.post y in
    let Then : After 𝓤 𝓛.H = any_q (after_seq 𝓤 𝓛.H (Wp 𝓤 𝓛.H 𝓣.C 𝓣.Λ En (after 2 fn.body) (at_return 𝓤 𝓛.H En Post)) (at_return 𝓤 𝓛.H En Post)) in
    let asks = at_takes Z 𝓛 𝓜.mem 𝓡.returns κ q (rb, ro) h len 1 τ in
    let bytes : size τ ≡ len = omega arith in
    use2 𝓛 (raw ((Takes Z 𝓛 𝓜.mem 𝓡.returns).pre asks)) (Takes-goes Z 𝓛 𝓜.mem 𝓡.returns κ q (rb, ro) h (Incl-trans bounds.0 within) len 1 τ (ap capped bytes ∙ capped_is len fits) refl fits (lit< tt)) $
    calls_at ! (framed 𝓤 𝓛.H 𝓜 𝓣) (Takes Z 𝓛 𝓜.mem 𝓡.returns) (met.allocate dd) asks (and_then ! (get ! refl) (and_then ! (get ! refl) (and_then ! (lit ! tt) (no_more !)))) (λ v.
    use1 𝓛 (later (raw (Answered Z 𝓛 𝓜.mem 𝓡.returns h τ v) ⊛ ‵ (flft κ q))) (Takes-gives Z 𝓛 𝓜.mem 𝓡.returns κ q (rb, ro) h len 1 τ v) $ await ! tt $ split ! $
    answers Z ! 𝓜.mem 𝓡.returns h τ v
    (λ b o e.
    let p : Ptr = block_ptr b o in
    let base : B.the_row.Denot = record { ptr = p } in
    let region : P.the_row.Denot = record { mark = record {}; at = p; slots = replicate len None } in
    let deed : (D.the_row (Handle Z) g).Denot = record { mark = record {}; at = p; len = len; alloc = h } in
    let parts : (Parts Z).Denot = (base, region, deed) in
    let made : Val = triple_val (word p) mark mark in
    let typed : Good (layout (Parts Z)) made = (tt, ((tt, tt), ((tt, tt), ((tt, tt), tt)))) in
    let ok = first_Good (layout (Parts Z)) made typed in
    lands_as ! e refl (Answer-typed true b o) $ first ! $ switches_on ! (get_tag ! (vrt ! refl (fld ! refl (stop !))) (whole !)) $ exec ! 𝓣.C 𝓣.Λ En (arm_body 0 both) Then $
    sets ! (of_opd ! (get_in ! (vrt ! refl (fld ! refl (stop !))) (in_variant ! 0 0 refl refl (whole !)))) refl (tt, tt) $
    sets ! (agg ! (and_then ! (get ! refl) (no_more !))) refl (word-Good [] p) $
    sets ! (agg ! (no_more !)) refl (tt, tt) $ sets ! (agg ! (and_then ! (get ! refl) (no_more !))) refl (tt, (tt, tt)) $
    sets ! (agg ! (no_more !)) refl (tt, tt) $ sets ! (agg ! (and_then ! (get ! refl) (no_more !))) refl (tt, (tt, tt)) $
    sets ! (agg ! (and_then ! (get ! refl) (and_then ! (get ! refl) (and_then ! (get ! refl) (no_more !))))) refl typed $
    sets_last ! (agg ! (and_then ! (lit ! tt) (and_then ! (get ! refl) (no_more !)))) refl ok $
    exec ! 𝓣.C 𝓣.Λ En (after 2 fn.body) (at_ret En Post) $ sets ! (of_opd ! (get ! refl)) refl ok $
    -- [the room; the right to free it; the token; the other token]
    move ! (1 ∷ []) $ use0 𝓛 (‵ (Fields.own_val (tt, tt) (mark ∷ []))) (mark_made 𝓛) $ fjoin ! $ move ! (1 ∷ []) $
    use1 𝓛 (‵ (row b o region.slots)) (of_room 𝓛 b len o) $ flt_i ! (length region.slots) (2 ^ 63) (subst (λ k. k < 2 ^ 63) (sym (length-replicate len None)) small) $ fjoin ! $
    use0 𝓛 (‵ (Fields.own_val (tt, tt) (mark ∷ []))) (mark_made 𝓛) $ fjoin ! $ use0 𝓛 (‵ (B.the_row.own_val base (word p ∷ []))) (base_made 𝓛 p) $
    use3 𝓛 (‵ ((Parts Z).own_val parts (made ∷ []))) (triple_of 𝓛 B.the_row P.the_row (D.the_row (Handle Z) g) base region deed (word p) mark mark) $
    use1 𝓛 (‵ ((Out Z).own_val (Ok parts) (live 0 (vcons made vnil) ∷ []))) (ok_of 𝓛 (Parts Z) AE.the_row parts made) $
    returns ! (look_at ! 0 refl) $ free_all ! refl $
    suffices ! _ (ends_at 𝓛 E hs c y (live 0 (vcons made vnil)) (Ok parts) (tt, (tt, tt)) (tt, (tt, tt))) $ says ! (refl, refl, refl, refl, refl, refl) $
    move ! (1 ∷ 2 ∷ []) $ join ! $ frame ! $ nothing ! $ nothing ! $ join ! $ nothing ! $ join ! $ frame ! $ done !)
    (λ e.
    let Refusal : RattleType = Struct (Declared.shape AE.the_type) in
    let none : Val = live 1 (vcons (vstruct vnil) vnil) in
    lands_as ! e refl (Answer-typed false 0 0) $ first ! $ switches_on ! (get_tag ! (vrt ! refl (fld ! refl (stop !))) (whole !)) $ exec ! 𝓣.C 𝓣.Λ En (arm_body 1 both) Then $
    sets ! (of_opd ! (get_in ! (vrt ! refl (fld ! refl (stop !))) (in_variant ! 1 0 refl refl (whole !)))) refl (tt, tt) $
    sets_last ! (agg ! (and_then ! (lit ! tt) (and_then ! (get ! refl) (no_more !)))) refl (tt, (record { fits = lit< tt }, (tt, tt))) $
    exec ! 𝓣.C 𝓣.Λ En (after 2 fn.body) (at_ret En Post) $ sets ! (of_opd ! (get ! refl)) refl (tt, (record { fits = lit< tt }, (tt, tt))) $
    owned ! Refusal (Is Refusal) (Struct-Makes 𝓛 (Declared.shape AE.the_type) tt) tt (vstruct vnil ∷ []) (tt, (refl, tt)) $
    use1 𝓛 (‵ ((Out Z).own_val (Err (record {})) (none ∷ []))) (err_of 𝓛 (Parts Z) AE.the_row (record {}) (vstruct vnil)) $
    returns ! (look_at ! 0 refl) $ free_all ! refl $
    suffices ! _ (ends_at 𝓛 E hs c y none (Err (record {})) (tt, (tt, tt)) (tt, (tt, tt))) $ says ! tt $
    move ! (1 ∷ 2 ∷ []) $ join ! $ frame ! $ nothing ! $ nothing ! $ join ! $ nothing ! $ join ! $ frame ! $ done !))))))
