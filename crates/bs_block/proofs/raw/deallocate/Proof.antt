-- `deallocate` joins the places, whatever they hold, into one block and returns it with the
-- allocator's token. Assumes `Logic`.
use mathlib.Core.Path.{◌≡◌, refl, sym, ap, subst, ◌∙◌}
use Prim.Native.Nat.{ℕ}
use native.Mathlib.Omega.{arith}
use mathlib.Core.List.{List, [], ◌∷◌}
use lib.Dec.{T, lit<}
use lib.ListN.{length}
use base.Fraction.{full_share}
use base.Logic.{never, id⊢}
use base.Fml.{ftrue, fat, flft, froom, Incl-trans}
use contract.BorrowLft.{◌⊑◌}
use contract.Monad.{fact}
use contract.Running.{tables, tables_of}
use mir.MapTy.{inst_fn}
use mir.Syntax.{Fn, Args, Ty, named, a_type, dcons, dnil, w8, w64, ty_int, ty_array, ty_unit}
use mir.Val.{Val, vint, vptr, vunit, has_ty, WT}
use prog.Capped.{capped_is}
use prog.Memory.{capped, size}
use types.Kit.{‵, raw, ◌⊛◌, given, later, await, learn, at_ret, ◌$◌, ◌∵◌, !, qed, done, move, keep, drop as skip, use1, split, join, rewrite, fsplit, feq_i, flt_l, suffices, group}
use types.Part.{whole, sub}
use types.Run.{enter, of_opd, lit, unit_lit, stop, fld, and_then, no_more, first, blocks, exec, returns}
use types.ByLocal.{alloc_all, pass_all, free_all, look_at, get, get_in, sets, lands_last, env, take_at, give_at}
use denote.Builtin.{usize, RefOf}
use denote.Param.{layout, param, bounded}
use denote.Param.Laws.{param_laws}
use denote.Plain.{uint_vals, uint_Tells}
use denote.RattleType.{RattleType}
use denote.RawPtr.{Ptr, in_a_block}
use denote.Ref.{ShrRef, shr_vals, shr_Tells}
use denote.Signature.{plain}
use denote.Steps.{nothing, heard}
use denote.Triple.Call.{calls_at_last}
use denote.Triple.Clauses.{Ended}
use denote.Triple.Table.{framed}
use denote.Triple.Walked.{Stays, walk_of, stay_dropped, Goes-dropped, ends_at}
use Rattle.core.proofs.alloc.Calls.{Al, token, Gives, at_gives, Gives-goes, Gives-Gives, Goes-blank}
use Rattle.std.proofs.raw_atomic.Walks.{proved}
use Rattle.std_alloc.proofs.RcSteps.{word, word-Good}
use Rattle.std_alloc.proofs.VecSteps.Shapes.{after}
use Rattle.bs_block.specs.Ownership.{region_own, deed_owns}
use Rattle.bs_block.specs.contracts.raw.Base as B
use Rattle.bs_block.specs.contracts.raw.Deed as D
use Rattle.bs_block.specs.contracts.raw.Region as P
use Rattle.bs_block.specs.contracts.raw.deallocate as f
use Rattle.bs_block.proofs.RegionWalks.{base_vals, base_tells, mark, to_room}
use Rattle.bs_block.proofs.raw.deallocate.Statement.{statement}
use Rattle.bs_block.proofs.raw.deallocate.Code as code
use Rattle.bs_block.proofs.raw.Region.TheLaws as places_laws
use Rattle.bs_block.proofs.raw.Deed.TheLaws as deed_laws

module _ (Z : Al) where
  abbrev args : Args
  args = bounded (a_type ∷ []) (Z.row, tt) (dcons Z.d (dcons Z.drops dnil))

  abbrev ended : Ended
  ended = f.ended Z.row Z.g Z.d Z.drops

  abbrev Handle : RattleType
  Handle = param 0 Z.row

  abbrev Right : RattleType
  Right = D.the_row Handle Z.g

  abbrev stayed : Stays ended.signature.params ended.kept
  stayed = (stay_dropped (RefOf (0 ∷ []) tt (plain (λ _. Handle)) (λ _. tt)) ended.kept.0, (stay_dropped (plain (λ _. B.the_row)) ended.kept.1.0, (stay_dropped (plain (λ _. usize)) ended.kept.1.1.0, (stay_dropped (plain (λ _. P.the_row)) ended.kept.1.1.1.0, (stay_dropped (plain (λ _. Right)) ended.kept.1.1.1.1.0, tt)))))

pub deallocate_spec : {M : Type 1} → statement M
unfolding tables_of
deallocate_spec 𝓤 𝓛 𝓜 𝓡 wired W LW g d dd met md =
    let Z : Al = record { row = W; laws = LW; g = g; d = d; drops = dd } in
    let E = ended Z in let hs = stayed Z in
    let c = f.clauses W g d dd 𝓛 𝓜.mem 𝓡.returns in let V = walk_of 𝓛 E hs c in let 𝓣 = tables 𝓤 𝓛.H 𝓜 𝓡 𝓡.env in
    let fn : Fn = inst_fn (args Z) code.function in
    proved 𝓛 E hs c 𝓜 𝓡 (
      Goes-dropped 𝓛 2 (RefOf (0 ∷ []) tt (plain (λ _. Handle Z)) (λ _. tt)) E.kept.0 (λ κs x w. refl),
      (
        Goes-dropped 𝓛 2 (plain (λ _. B.the_row)) E.kept.1.0 (λ κs x w. refl),
        (
          Goes-dropped 𝓛 2 (plain (λ _. usize)) E.kept.1.1.0 (λ κs x w. refl),
          (Goes-blank 𝓛 2 (plain (λ _. P.the_row)) E.kept.1.1.1.0 (λ κs x w. tt), (Goes-blank 𝓛 2 (plain (λ _. Right Z)) E.kept.1.1.1.1.0 (λ κs x w. tt), tt)),
        ),
      ),
    )
    (f.Key.name (args Z)) fn (code.unfolded 𝓤 𝓛.H 𝓜 𝓡 wired (W, tt) d dd)
    (λ κs. (shr_vals, (base_vals, (uint_vals w64, ((λ x. mark ∷ []), ((λ x. mark ∷ []), tt))))))
    (λ κs. (shr_Tells (named 0) κs.0 (Handle Z), (base_tells, (uint_Tells w64, (places_laws.lowers.val_is, ((deed_laws.lowers (Handle Z) g (param_laws 0 W LW)).val_is, tt))))))
    (λ κs qs bounds a _ are.
    let κ = κs.0 in let q = qs.0 in let rb = a.0.ref_ptr.0 in let ro = a.0.ref_ptr.1 in let h = a.0.now in let base = a.1.0 in let len = a.1.1.0 in let region = a.1.1.1.0 in let deed = a.1.1.1.1.0 in let vs = shr_vals a.0 in
    let y : V.Ghost = ((κs, qs, bounds, a, (vs, (base_vals base, (uint_vals w64 len, (mark ∷ [], (mark ∷ [], tt)))))), tt) in
    let fits = are.1.1.0.1 in let τ : Ty = ty_array (ty_int w8) len in
    qed 𝓛 (((‵ (flft κ q) ⊛ ‵ (flft κs.1.0 qs.1.0) ⊛ ‵ ftrue) ⊛ ‵ ((ShrRef (named 0) κ (Handle Z)).own_val a.0 vs) ⊛ ‵ (B.the_row.own_val base (base_vals base)) ⊛ ‵ (usize.own_val len (uint_vals w64 len))
    ⊛ ‵ (P.the_row.own_val region (mark ∷ [])) ⊛ ‵ ((Right Z).own_val deed (mark ∷ [])) ⊛ ‵ ftrue)
    ∷ (raw (fact 𝓤 (κs.1.0 ⊑ W.lives)) ⊛ raw (fact 𝓤 ((region.at ≡ base.ptr) × (length region.slots ≡ len) × (deed.at ≡ base.ptr) × (deed.len ≡ len) × (deed.alloc ≡ h)))) ∷ []) ∵
    move ! (1 ∷ []) $ split ! $ heard ! _ (λ within. heard ! _ (λ asked. split ! $ move ! (1 ∷ []) $ split ! $ move ! (1 ∷ []) $ split ! $ skip ! $ split ! $ skip ! $ split ! $ move ! (1 ∷ []) $ split ! $
    fsplit ! $ move ! (3 ∷ []) $ fsplit ! $ move ! (5 ∷ []) $ fsplit ! $ move ! (7 ∷ []) $ split ! $ keep ! (5 ∷ 7 ∷ 3 ∷ 0 ∷ 1 ∷ []) $
    -- [the places; the right to free them; the handle; the token; the other token]
    enter ! _ _ fn (vptr rb ro ∷ word base.ptr ∷ vint w64 len ∷ mark ∷ mark ∷ []) _ $
    alloc_all ! (λ l. pass_all ! refl ((tt, tt), (word-Good [] base.ptr, ((tt, record { fits = fits }), ((tt, (tt, tt)), ((tt, (tt, tt)), tt))))) $
    let En = env fn.locals l in let bytes : size τ ≡ len = omega arith in
    rewrite ! 0 (λ (p : Ptr). ‵ (region_own p region.slots)) asked.0 refl $
    in_a_block ! base.ptr (λ p. region_own p region.slots) (id⊢ 𝓤 (never 𝓤)) (λ b o e. fsplit ! $ flt_l ! (λ small.
    rewrite ! 1 (λ (x : W.Denot × Ptr × ℕ). ‵ (deed_owns (token Z x.0) x.1 x.2)) (λ i. (asked.4 i, (asked.2 ∙ e) i, asked.3 i)) refl $
    use1 𝓛 (‵ (froom (ty_array (ty_int w8) (length region.slots)) b o)) (to_room 𝓛 b region.slots o) $ rewrite ! 0 (λ (k : ℕ). ‵ (froom (ty_array (ty_int w8) k) b o)) asked.1 refl $
    take_at ! 2 $ rewrite ! 0 (λ (p : Ptr). ‵ (fat full_share (layout B.the_row) (l 2) 0 (word p))) e refl $ give_at ! 2 $ first ! $ blocks ! $
    let asks = at_gives Z 𝓛 𝓜.mem 𝓡.returns κ q (rb, ro) h b o len 1 τ in
    group ! 4 $ use1 𝓛 (raw ((Gives Z 𝓛 𝓜.mem 𝓡.returns).pre asks)) (Gives-goes Z 𝓛 𝓜.mem 𝓡.returns κ q (rb, ro) h (Incl-trans bounds.0 within) b o len 1 τ (ap capped bytes ∙ capped_is len fits) refl fits (lit< tt)) $
    calls_at_last ! (framed 𝓤 𝓛.H 𝓜 𝓣) (Gives Z 𝓛 𝓜.mem 𝓡.returns) (met.deallocate dd) asks
    (and_then ! (get ! refl) (and_then ! (get_in ! (fld ! refl (stop !)) (sub ! 0 refl (whole !))) (and_then ! (get ! refl) (and_then ! (lit ! tt) (no_more !))))) (λ v.
    use1 𝓛 (later (given (v ≡ vunit) (‵ (flft κ q)))) (Gives-Gives Z 𝓛 𝓜.mem 𝓡.returns κ q (rb, ro) h b o len 1 τ v) $ await ! tt $ learn ! (λ is_unit.
    lands_last ! refl (subst (λ (z : Val). T (has_ty ty_unit z) × WT z) (sym is_unit) (tt, tt)) $ exec ! 𝓣.C 𝓣.Λ En (after 1 fn.body) (at_ret En (V.post y)) $
    sets ! (of_opd ! (unit_lit !)) refl (tt, tt) $ returns ! (look_at ! 0 refl) $ free_all ! refl $
    suffices ! _ (ends_at 𝓛 E hs c y vunit tt (tt, (tt, (tt, (tt, (tt, tt))))) (tt, (tt, (tt, (tt, (tt, tt)))))) $
    join ! $ feq_i ! (List Val) (vunit ∷ []) (vunit ∷ []) refl $ nothing ! $ nothing ! $ join ! $ nothing ! $ join ! $ nothing ! $ join ! $ nothing ! $ join ! $ nothing ! $ join ! $
    move ! (2 ∷ 0 ∷ 1 ∷ []) $ group ! 3 $ nothing ! $ move ! (1 ∷ 0 ∷ []) $ done !))))))))
