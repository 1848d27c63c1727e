-- `split_fill` tests whether the zeros fit, calls `fill` and wraps its loan. Assumes `Logic`.
use mathlib.Core.Path.{◌≡◌, refl, sym, ap, subst}
use Prim.Native.Nat.{ℕ, ◌+◌, ◌<◌, ◌^◌}
use native.Mathlib.Omega.{arith}
use mathlib.Core.List.{List, [], ◌∷◌}
use seplogic.Ra.Ura.{Ura}
use base.Fraction.{full_share}
use base.Logic.{id⊢, emp, snd∗, ex_e}
use base.Fml.{Lft, ftrue, flft, flent, fres, Incl-refl}
use mir.MapTy.{inst_fn}
use mir.Syntax.{named, w64, a_number}
use mathlib.Core.Bool.{Bool}
use mathlib.Core.Logic.{◌↔◌}
use lib.Dec.{lit<, T_not}
use lib.Dec.{T as Tᵇ}
use mir.Val.{Val, vptr, vbool, of_list}
use contract.BorrowLft.{◌⊑◌, ⊑_static}
use contract.Monad.{fact, fact_i}
use contract.Running.{tables}
use prog.Memory.{size}
use types.Kit.{‵, raw, ◌⊛◌, some, later, at_ret, ◌$◌, ◌∵◌, !, qed, by, move, keep, drop as skip, use0, use1, use2, split, split3, join, pick, fsplit, fsplit3, fjoin, fjoin3, feq_i, feq_l, await}
use types.Logic.{Logic, sem}
use types.Match.{live}
use types.Mut.{open_ref, close_ref}
use types.Part.{agg}
use types.Run.{enter, lit, stop, addr, and_then, no_more, first, branches, skips, exec, returns, returns_within}
use types.ByLocal.{alloc_all, pass_all, free_all, look_at, get, through, sets, lands_as, env}
use types.Tokens.{lft_new, lft_end, lent_back}
use denote.Array.{Array}
use denote.Builtin.{u8, usize, bool}
use denote.Follow.{follows, follows_by}
use denote.Laws.{Is, Lawful, shows}
use denote.Lend.{lends_shr}
use denote.Memory.{part_at, mem}
use denote.Param.{number, param, layout, layouts}
use denote.Plain.{uint_vals, uint_Tells, uint_Makes, bool_Lawful}
use denote.RattleType.{RattleType, owns}
use denote.Ref.{NamedLft, MutRef, ShrRef, mut_vals, mut_Tells}
use denote.Signature.{plain, mut_ref_to}
use denote.Slice.{MutSlice, ShrSlice}
use denote.Steps.{nothing, owned, heard, peeks, only}
use denote.Struct.Field.{shr_slice_field, mut_slice_field}
use denote.Struct.Laws.{shr_slice_laws, mut_slice_laws}
use denote.Struct.Loose.{loosen, row_lawful}
use denote.Struct.Struct.{as_fields}
use denote.Struct.Tuple.{Tuple, tuple_type}
use denote.Triple.Call.{calls_at}
use denote.Triple.Clauses.{ensured, lasts}
use denote.Triple.Spec.{triple_of}
use denote.Triple.Table.{framed}
use denote.Triple.Walked.{Stays, walk_of, stay_dropped, Goes-dropped, Goes-spent_ref}
use Rattle.std.proofs.raw_atomic.Walks.{proved, leaves}
use Rattle.core.specs.contracts.option.Option as OP
use Rattle.std.proofs.Math.Nat.{lt_of_not-le}
use Rattle.std.specs.Prelude.{IsTrue, Some, None, replicate, length}
use Rattle.std_alloc.proofs.Flags.{T_true}
use Rattle.std_alloc.proofs.VecSteps.Element.{Some-of, none_of}
use Rattle.std_alloc.proofs.VecSteps.Shapes.{after}
use Rattle.bs_block.specs.Rounding.{rounded}
use Rattle.bs_block.specs.Bytes.{HasRoom, Overflows}
use Rattle.bs_block.specs.inner.Bytes.{extended}
use Rattle.bs_block.specs.contracts.block.Block as R
use Rattle.bs_block.specs.contracts.block.Block.overflows as t
use Rattle.bs_block.specs.contracts.block.Block.fill as g
use Rattle.bs_block.specs.contracts.block.Block.split_fill as f
use Rattle.bs_block.proofs.block.Block.TheLaws as block_laws
use Rattle.bs_block.proofs.block.Block.overflows.Met as overflows
use Rattle.bs_block.proofs.block.Block.fill.Met as fill
use Rattle.bs_block.proofs.block.Block.split_fill.Statement.{statement}
use Rattle.bs_block.proofs.block.Block.split_fill.Code as code

module _ (N : ℕ) where
  abbrev CAP : RattleType
  CAP = number N

  abbrev Row : RattleType
  Row = R.the_row (param 0 CAP)

  abbrev stayed : Stays (f.ended CAP).signature.params (f.ended CAP).kept
  stayed = (stay_dropped (mut_ref_to (0 ∷ []) tt (plain (λ _. Row))) (f.ended CAP).kept.0, (stay_dropped (plain (λ _. usize)) (f.ended CAP).kept.1.0, tt))

module _ (κ : Lft) where
  abbrev Parts : RattleType
  Parts = Tuple (ShrSlice (named 0) κ u8 ∷ MutSlice (named 0) κ u8 ∷ [])

  parts_lawful : {M : Type 1} {𝓤 : Ura M} (𝓛 : Logic 𝓤) → Lawful 𝓛 Parts
  parts_lawful 𝓛 =
      let a : NamedLft = record { mir = named 0; lft = κ } in
      let front = loosen (shr_slice_field a u8 tt) (shr_slice_laws a u8 tt) in let run = loosen (mut_slice_field a u8 tt) (mut_slice_laws a u8 tt) in
      row_lawful 𝓛 (tuple_type (ShrSlice (named 0) κ u8 ∷ MutSlice (named 0) κ u8 ∷ []))
      (record { single = front.single; lawful = front.lawful; drops = front.drops }, (record { single = run.single; lawful = run.lawful; drops = run.drops }, tt))

pub split_fill_spec : {M : Type 1} → statement M
unfolding follows_by
split_fill_spec 𝓤 𝓛 𝓜 𝓡 wired N fits_N =
    let T = f.ended (CAP N) in let c = f.clauses (CAP N) 𝓛 𝓜.mem 𝓡.returns in let hs = stayed N in
    let W = walk_of 𝓛 T hs c in let 𝓣 = tables 𝓤 𝓛.H 𝓜 𝓡 𝓡.env in
    let inst = layouts (a_number ∷ []) (CAP N, tt) in let fn = inst_fn inst code.function in
    proved 𝓛 T hs c 𝓜 𝓡
    (Goes-spent_ref 𝓛 2 (0 ∷ []) tt (plain (λ _. Row N)), (Goes-dropped 𝓛 2 (plain (λ _. usize)) T.kept.1.0 (λ κs x w. refl), tt))
    (f.Key.name inst) fn (code.unfolded 𝓤 𝓛.H 𝓜 𝓡 wired (CAP N, tt))
    (λ κs. (mut_vals, (uint_vals w64, tt))) (λ κs. (mut_Tells (named 0) κs.0 (Row N), (uint_Tells w64, tt)))
    (λ κs qs bounds a _ are.
    let κ = κs.0 in let q = qs.0 in let κ₁ = κs.1.0 in let q₁ = qs.1.0 in let b = a.0.ref_ptr.0 in
    let o = a.0.ref_ptr.1 in let γ = a.0.ghost_name in let d = a.0.now in let n = a.1.0 in
    let y : W.Ghost = ((κs, qs, bounds, a, (mut_vals a.0, (uint_vals w64 n, tt))), tt) in
    let fits_n = are.1.0.1 in
    qed 𝓛 (((‵ (flft κ q) ⊛ ‵ (flft κ₁ q₁) ⊛ ‵ ftrue)
    ⊛ ‵ (owns (MutRef (named 0) κ (Row N) ∷ usize ∷ []) (a.0, (n, tt)) (mut_vals a.0, (uint_vals w64 n, tt)))) ∷ (raw (fact 𝓤 (κ₁ ⊑ (CAP N).lives)) ⊛ raw (fact 𝓤 (size (layout (Row N)) < 2 ^ 63)) ⊛ raw (emp 𝓤)) ∷ []) ∵
    move ! (1 ∷ []) $ split3 ! $ heard ! _ (λ within. heard ! _ (λ small. skip ! $ split ! $
    split3 ! $ move ! (3 ∷ []) $ fsplit ! $ keep ! (0 ∷ 2 ∷ 3 ∷ []) $
    -- [the reference; the two tokens]
    enter ! _ _ _ _ _ $
    alloc_all ! (λ l. pass_all ! refl ((tt, tt), ((tt, record { fits = fits_n }), tt)) $
    sets ! (addr ! (through ! refl (stop !))) refl (tt, tt) $
    lft_new ! tt (λ α. let κ' : Lft = α ∷ [] in move ! (1 ∷ []) $ fsplit3 ! $
    feq_l ! (λ _. move ! (0 ∷ 1 ∷ 3 ∷ []) $ open_ref ! tt (mem (Row N)) $
    -- [the bytes; the open borrow, in three entries; the new token; the other]
    move ! (0 ∷ 4 ∷ []) $
    let s : (ShrRef (named 0) κ' (Row N)).Denot = record { ref_ptr = (b, o); now = d } in
    use2 𝓛 (later ((‵ ((ShrRef (named 0) κ' (Row N)).own_val s (vptr b o ∷ []))
    ⊛ ‵ (flent κ' (part_at (Row N) full_share d b o))) ⊛ ‵ (flft κ' full_share)))
    (lends_shr 𝓛 (Row N) (named 0) κ' full_share d b o (Row N).lives (((block_laws.the_row_laws (param 0 (CAP N)) refl).shares 𝓛) d) ((κ', full_share) ∷ []) (⊑_static κ') (Incl-refl κ')) $ await ! tt $ split ! $ split ! $
    -- [the `&`; the way back; the new token; the open borrow, in three entries; the other token]
    let Test = triple_of 𝓛 (t.signature (CAP N)) (t.spec (CAP N) 𝓛 𝓜.mem 𝓡.returns) in
    let z : Test.Ghost = (((κ', (κ₁, tt)), (full_share, (q₁, tt)), tt, (s, (n, tt)), (vptr b o ∷ [], (uint_vals w64 n, tt))), tt) in
    nothing ! $ owned ! usize _ (uint_Makes 𝓛 w64) n _ (refl, fits_n) $ fjoin ! $
    move ! (1 ∷ 0 ∷ []) $ fjoin ! $
    nothing ! $ move ! (7 ∷ 0 ∷ []) $ join ! $ move ! (3 ∷ 0 ∷ []) $ join ! $ join ! $
    use0 𝓛 (raw (emp 𝓤)) (id⊢ 𝓤 (emp 𝓤)) $
    use0 𝓛 (raw (fact 𝓤 (size (layout (Row N)) < 2 ^ 63))) (fact_i 𝓤 _ (emp 𝓤) small) $ join ! $
    use0 𝓛 (raw (fact 𝓤 (κ₁ ⊑ (CAP N).lives))) (fact_i 𝓤 _ (emp 𝓤) within) $ join ! $
    move ! (1 ∷ 0 ∷ []) $ use2 𝓛 (raw (Test.pre z)) (id⊢ 𝓤 _) $
    calls_at ! (framed 𝓤 𝓛.H 𝓜 (tables 𝓤 𝓛.H 𝓜 𝓡 𝓡.env)) Test (overflows.met 𝓤 𝓛 𝓜 𝓡 (code.calls-bs_block::block::Block::overflows 𝓡.env wired) N fits_N) z
    (and_then ! (get ! refl) (and_then ! (get ! refl) (no_more !))) (λ v.
    use1 𝓛 (later (some (λ (over : Bool). ((‵ (flft κ' full_share) ⊛ ‵ (flft κ₁ q₁) ⊛ ‵ ftrue)
    ⊛ ‵ (bool.own_val over (v ∷ [])))
    ⊛ raw (ensured 𝓛 (t.ended (CAP N)) (t.clauses (CAP N) 𝓛 𝓜.mem 𝓡.returns) (κ', (κ₁, tt)) (s, (n, tt)) tt over)))) (id⊢ 𝓤 _) $
    await ! tt $ pick ! (λ over. split ! $ move ! (1 ∷ []) $
    use1 𝓛 (raw (fact 𝓤 (IsTrue over ↔ Overflows N d n))) (ex_e 𝓤 _ (λ ws. snd∗ 𝓤 (sem 𝓛 (lasts (t.ended (CAP N)) (κ', (κ₁, tt)) (s, (n, tt)) ws)) (fact 𝓤 (IsTrue over ↔ Overflows N d n)))) $ heard ! _ (λ told.
    split ! $ split3 ! $ lft_end ! tt $ move ! (0 ∷ 4 ∷ []) $ lent_back ! tt $
    move ! (0 ∷ 4 ∷ 5 ∷ 6 ∷ []) $ close_ref ! tt (mem (Row N)) d $
    move ! (5 ∷ []) $ peeks ! bool (Is bool) (shows 𝓛 bool) over (v ∷ []) (λ is. skip ! $
    lands_as ! (ap only is) refl ((bool_Lawful 𝓛).typed over (vbool over ∷ []) refl).0 $
    -- [the reference, in two entries; the two tokens]
    first ! $ branches ! (get ! refl)
    (λ yes. sets ! (agg ! (and_then ! (lit ! tt) (no_more !))) refl (tt, (record { fits = lit< tt }, tt)) $
    returns_within ! (W.post y) refl (look_at ! 0 refl) $ free_all ! refl $
    use1 𝓛 (‵ (fres γ ((Row N).coded.code d))) (𝓛.names.obs-res γ ((Row N).coded.code d)) $
    use0 𝓛 (raw (fact 𝓤 (Overflows N d n))) (fact_i 𝓤 _ (emp 𝓤) (told.0 (T_true over yes))) $
    move ! (1 ∷ 0 ∷ []) $ join ! $
    use0 𝓛 (‵ ((OP.the_row (Parts κ)).own_val None (live 0 (of_list []) ∷ []))) (none_of 𝓛 (Parts κ)) $ nothing ! $ nothing ! $ fjoin ! $ nothing ! $ fjoin ! $
    nothing ! $ move ! (6 ∷ 0 ∷ []) $ join ! $ move ! (5 ∷ 0 ∷ []) $ join ! $
    keep ! (0 ∷ 1 ∷ 2 ∷ 3 ∷ []) $
    by ! (leaves 𝓛 T hs c y (live 0 (of_list [])) None (tt, (tt, tt)) (tt, (tt, tt))))
    (λ no. let not_over : Overflows N d n → ⊥ = λ more. T_not over no (subst Tᵇ (sym (told.1 more)) tt) in let room : HasRoom N d n = omega (arith, lt_of_not-le {n = N + 1} {m = length d + rounded n} (λ le. not_over (omega (arith, le)))) in
    skips ! $
    exec ! 𝓣.C 𝓣.Λ (env fn.locals l) (after 3 fn.body) (at_ret (env fn.locals l) (W.post y)) $
    sets ! (addr ! (through ! refl (stop !))) refl (tt, tt) $
    feq_i ! (List Val) (mut_vals a.0) (mut_vals a.0) refl $ fjoin3 ! $
    let Fill = triple_of 𝓛 (g.signature (CAP N)) (g.spec (CAP N) 𝓛 𝓜.mem 𝓡.returns) in
    let x : Fill.Ghost = (((κ, (κ₁, tt)), (q, (q₁, tt)), tt, (a.0, (n, tt)), (mut_vals a.0, (uint_vals w64 n, tt))), tt) in
    nothing ! $ owned ! usize _ (uint_Makes 𝓛 w64) n _ (refl, fits_n) $ fjoin ! $
    move ! (1 ∷ 0 ∷ []) $ fjoin ! $
    nothing ! $ move ! (3 ∷ 0 ∷ []) $ join ! $ move ! (2 ∷ 0 ∷ []) $ join ! $ join ! $
    use0 𝓛 (raw (fact 𝓤 (HasRoom N d n))) (fact_i 𝓤 _ (emp 𝓤) room) $
    use0 𝓛 (raw (fact 𝓤 (size (layout (Row N)) < 2 ^ 63))) (fact_i 𝓤 _ (emp 𝓤) small) $ join ! $
    use0 𝓛 (raw (fact 𝓤 (κ₁ ⊑ (CAP N).lives))) (fact_i 𝓤 _ (emp 𝓤) within) $ join ! $
    move ! (1 ∷ 0 ∷ []) $ use2 𝓛 (raw (Fill.pre x)) (id⊢ 𝓤 _) $
    calls_at ! (framed 𝓤 𝓛.H 𝓜 (tables 𝓤 𝓛.H 𝓜 𝓡 𝓡.env)) Fill (fill.met 𝓤 𝓛 𝓜 𝓡 (code.calls-bs_block::block::Block::fill 𝓡.env wired) N fits_N) x
    (and_then ! (get ! refl) (and_then ! (get ! refl) (no_more !))) (λ w.
    use1 𝓛 (later (some (λ (r : (Parts κ).Denot). ((‵ (flft κ q) ⊛ ‵ (flft κ₁ q₁) ⊛ ‵ ftrue)
    ⊛ ‵ ((Parts κ).own_val r (w ∷ [])))
    ⊛ some (λ (ws : Unit {0} × (Unit {0} × Unit {0})). ‵ (lasts (g.ended (CAP N)) (κ, (κ₁, tt)) (a.0, (n, tt)) ws)
    ⊛ (‵ (follows (Row N) (Array u8 0) γ r.1.ghost_name (extended d n)) ⊛ raw (fact 𝓤 (r.0.now ≡ d))
    ⊛ raw (fact 𝓤 (r.1.now ≡ replicate n 0)) ⊛ raw (fact 𝓤 (length r.1.now ≡ n))))))) (id⊢ 𝓤 _) $
    await ! tt $ pick ! (λ r. split ! $ split ! $ move ! (2 ∷ []) $ pick ! (λ ws. split ! $ skip ! $
    split ! $ move ! (1 ∷ []) $ split3 ! $ heard ! _ (λ old. heard ! _ (λ fresh. skip ! $
    -- [what follows; the tokens; the parts]
    move ! (2 ∷ []) $
    peeks ! (Parts κ) (Is (Parts κ)) (shows 𝓛 (Parts κ)) r (w ∷ []) (λ made. let good = ((parts_lawful κ 𝓛).typed r (w ∷ []) made).0 in
    lands_as ! refl refl good $
    sets ! (agg ! (and_then ! (lit ! tt) (and_then ! (get ! refl) (no_more !)))) refl ((as_fields (layout (Parts κ) ∷ []) (w ∷ []) (good, tt)).0, (record { fits = lit< tt }, (good.1, tt))) $
    returns ! (look_at ! 0 refl) $ free_all ! refl $
    use1 𝓛 (‵ ((OP.the_row (Parts κ)).own_val (Some r) (live 1 (of_list (w ∷ [])) ∷ []))) (Some-of 𝓛 (Parts κ) r w) $
    use0 𝓛 (raw (fact 𝓤 (HasRoom N d n × (r.0.now ≡ d) × (r.1.now ≡ replicate n 0)))) (fact_i 𝓤 _ (emp 𝓤) (room, old, fresh)) $ move ! (2 ∷ 0 ∷ []) $ join ! $
    nothing ! $ nothing ! $ fjoin ! $ nothing ! $ fjoin ! $ keep ! (3 ∷ 0 ∷ 2 ∷ 1 ∷ []) $
    by ! (leaves 𝓛 T hs c y (live 1 (of_list (w ∷ []))) (Some r) (tt, (tt, tt)) (tt, (tt, tt))))))))))))))))))))
