-- `split` lends a run of bytes, which the places follow, and shares the bytes before it for as
-- long. Assumes `Logic`.
use mathlib.Core.Path.{◌≡◌, refl, sym, ap, subst, ◌∙◌}
use Prim.Native.Nat.{ℕ, ◌+◌, ◌*◌, ◌<◌, ◌^◌}
use native.Mathlib.Omega.{arith}
use mathlib.Core.List.{List, [], ◌∷◌, ◌++◌, map, append-nil, not-mem-nil}
use lib.ListN.{length, take, drop, length-append, length-take, length-drop}
use lib.Seq.{take_at as take_front}
use seplogic.Ra.Ura.{Ura}
use base.Fraction.{full_share}
use base.Logic.{SProp, ent, sep, ex, never, id⊢}
use base.Fml.{Lft, GName, Share, Fml, ftrue, fsep, fseps, fat, flft, fobs, fauth, fbor, fobor, Incl-refl}
use mir.Syntax.{named, w64}
use mir.Val.{Val}
use contract.Monad.{fact}
use contract.Running.{tables}
use types.Follow.{takes_beside}
use types.Kit.{‵, raw, ◌⊛◌, some, later, at_ret, ◌$◌, ◌∵◌, !, qed, done, move, keep, drop as skip, use1, use2, split, split3, join, pick, show, rewrite, fsplit, fsplit3, fjoin, fjoin3, fpack, feq_i, feq_l, flt_l, flt_i, suffices, frame, group, await, updating, now as at_once}
use types.Logic.{Logic, sem}
use types.Part.{whole, sub, agg}
use types.Run.{enter, of_opd, bin, stop, fld, and_then, no_more, first, blocks, exec, returns}
use types.ByLocal.{alloc_all, pass_all, free_all, look_at, get, get_in, sets, sets_last, env, take_at, give_at}
use types.SemTy.{Arr, cells, Body as Borrowed}
use denote.Array.{Array}
use denote.Builtin.{u8, usize}
use denote.Follow.{follows}
use denote.FollowSlice.{slice_of}
use denote.Memory.{mem, cell_at, part_of}
use denote.Opens.{hide}
use denote.Param.{layout}
use denote.Plain.{uint_vals, uint_Tells}
use denote.RattleType.{RattleType, owns}
use denote.RawPtr.{Ptr, block_ptr, in_a_block}
use denote.Ref.{MutRef, mut_vals, mut_Tells}
use denote.Signature.{plain, mut_ref_to}
use denote.Slice.{MutSlice, ShrSlice, Room, elements_shared, slice_val}
use denote.Steps.{nothing, heard, opens}
use denote.Struct.Tuple.{Tuple}
use denote.Triple.Walked.{Stays, walk_of, stay_dropped, Goes-dropped, Goes-spent_ref, ends_at}
use Rattle.core.proofs.mem.Facts.{says_two}
use Rattle.std.proofs.lemmas.List.{length-map}
use Rattle.std.proofs.raw_atomic.Walks.{proved}
use Rattle.std.specs.List.{refill}
use Rattle.std.specs.Prelude.{Option, Some}
use Rattle.std_alloc.proofs.Pairs.{pair_val, pair_of}
use Rattle.std_alloc.proofs.RcSteps.{word, word-Good}
use Rattle.std_alloc.proofs.VecSteps.Shapes.{after}
use Rattle.bs_block.specs.inner.RegionLends.{written_over}
use Rattle.bs_block.specs.Ownership.{row, row_lent, region_own}
use Rattle.bs_block.specs.inner.Region.{IsRun, HoldsBytes, somes, spliced}
use Rattle.bs_block.specs.contracts.raw.Base as B
use Rattle.bs_block.specs.contracts.raw.Region as P
use Rattle.bs_block.specs.contracts.raw.Region.split as f
use Rattle.bs_block.proofs.RegionWalks.{Fields, base_vals, base_tells, Around, run_out, run_in, to_cells, of_cells, seen_front}
use Rattle.bs_block.proofs.RegionSharing.{Lends-row}
use Rattle.bs_block.proofs.raw.Region.split.Statement.{statement}
use Rattle.bs_block.proofs.raw.Region.split.Code as code

abbrev Row : RattleType
Row = P.the_row

abbrev stayed : Stays f.ended.signature.params f.ended.kept
stayed = (stay_dropped (mut_ref_to (0 ∷ []) tt (plain (λ _. Row))) f.ended.kept.0, (stay_dropped (plain (λ _. B.the_row)) f.ended.kept.1.0, (stay_dropped (plain (λ _. usize)) f.ended.kept.1.1.0, (stay_dropped (plain (λ _. usize)) f.ended.kept.1.1.1.0, tt))))

module _ {M : Type 1} {𝓤 : Ura M} (𝓛 : Logic 𝓤) (κ : Lft) (q : Share) (rb ro : ℕ) (γ : GName) (d : Row.Denot) (at n b o : ℕ) (fs xs : List ℕ) (us : List Val) (e : d.at ≡ block_ptr b o) (before : HoldsBytes d.slots 0 at fs) (run : HoldsBytes d.slots at n xs) (small : length d.slots < 2 ^ 63) where
  open 𝓛 use {H, A}

  abbrev Tail : Fml
  Tail = row b (n + (at + o)) (drop (at + n) d.slots)

  -- all but the bytes that are lent
  abbrev Rest : Fml
  Rest = fsep Tail (fsep (Fields.own_val (tt, tt) us) (cell_at full_share Row.mir us rb ro))

  abbrev Before : Fml
  Before = row b o (map Some fs)

  long : length xs ≡ n
  long = omega (arith, run.0, ap length run.1, length-map xs Some, length-take n (drop at d.slots), length-drop at d.slots)

  abbrev new : List ℕ → Row.Denot
  new = written_over d at n

  whole_again : (ws : List ℕ) → ent 𝓤 (sep 𝓤 (sem 𝓛 ((Arr (mem u8) (length xs)).own_at ws b (at + o))) (sep 𝓤 (sem 𝓛 (fseps (Before ∷ []))) (sem 𝓛 Rest))) (sem 𝓛 ((mem Row).own_at (new ws) rb ro))
  unfolding fseps part_of
  whole_again ws =
      let old = somes (take n (drop at d.slots)) in let rest = drop (at + n) d.slots in
      qed 𝓛 (‵ ((Arr (mem u8) (length xs)).own_at ws b (at + o)) ∷ (‵ Before ⊛ ‵ ftrue) ∷ ‵ Rest ∷ []) ∵ fsplit ! $ feq_l ! (λ same.
      let count : length ws ≡ n = same ∙ long in
      let all : refill n old ws ≡ ws = take_front ws (drop (length ws) old) n count in
      let fit : length (new ws).slots < 2 ^ 63 = subst (λ l. length (spliced d.slots at n l) < 2 ^ 63) (sym all)
      (omega (arith, small, run.0, count, length-append (take at d.slots) (map Some ws ++ rest), length-append (map Some ws) rest, length-map ws Some, length-take at d.slots, length-drop (at + n) d.slots)) in
      use1 𝓛 (‵ (row b (at + o) (map Some ws))) (of_cells 𝓛 b ws (at + o)) $ move ! (1 ∷ []) $ split ! $
      rewrite ! 0 (λ (l : List (Option ℕ)). ‵ (row b o l)) (sym before.1) refl $ move ! (3 ∷ []) $ fsplit3 ! $ move ! (3 ∷ 0 ∷ []) $ fjoin ! $ move ! (4 ∷ 0 ∷ []) $
      use2 𝓛 (‵ (row b o (spliced d.slots at n ws))) (run_in 𝓛 b o d.slots at n run.0 (map Some ws) (sym (length-map ws Some ∙ count))) $
      rewrite ! 0 (λ (l : List ℕ). ‵ (row b o (spliced d.slots at n l))) (sym all) refl $
      flt_i ! (length (new ws).slots) (2 ^ 63) fit $ fjoin ! $ rewrite ! 0 (λ (p : Ptr). ‵ (region_own p (new ws).slots)) (sym e) refl $
      move ! (1 ∷ 0 ∷ []) $ fjoin ! $ move ! (1 ∷ 0 ∷ []) $ fjoin ! $ fpack ! (List Val) (λ vs. fsep (cell_at full_share Row.mir vs rb ro) (Row.own_val (new ws) vs)) us $ move ! (1 ∷ []) $ skip ! $ done !)

  abbrev Got : GName → SProp 𝓤
  Got γ' = sep 𝓤 (sem 𝓛 ((MutSlice (named 0) κ u8).own_val (record { ref_ptr = (b, at + o); ghost_name = γ'; now = xs }) (slice_val (b, at + o) (length xs) ∷ [])))
      (sep 𝓤 (sem 𝓛 (elements_shared u8 fs b o κ)) (sep 𝓤 (A.lft κ q) (sem 𝓛 (follows Row (Array u8 0) γ γ' new))))

  lends : Room u8 (length xs)
      → ent 𝓤 (sep 𝓤 (A.obor κ q (Borrowed (mem Row) rb ro γ)) (sep 𝓤 (A.obs γ (Row.coded.code d)) (sep 𝓤 (A.auth γ (Row.coded.code d)) (sep 𝓤 (sem 𝓛 (cells (mem u8) xs b (at + o))) (sep 𝓤 (sem 𝓛 Before) (sem 𝓛 Rest)))))) (H.⇛ (ex 𝓤 Got))
  unfolding fseps
  lends roomy =
      let Items = Arr (mem u8) (length xs) in
      qed 𝓛 (‵ (fobor κ q (Borrowed (mem Row) rb ro γ)) ∷ ‵ (fobs γ (Row.coded.code d)) ∷ ‵ (fauth γ (Row.coded.code d)) ∷ ‵ (cells (mem u8) xs b (at + o)) ∷ ‵ Before ∷ ‵ Rest ∷ []) ∵ updating ! $
      move ! (4 ∷ []) $ nothing ! $ move ! (1 ∷ 0 ∷ []) $ fjoin ! $ move ! (4 ∷ []) $ feq_i ! ℕ (length xs) (length xs) refl $ fjoin ! $
      move ! (2 ∷ 3 ∷ 4 ∷ 0 ∷ 1 ∷ 5 ∷ []) $ group ! 6 $
      use1 𝓛 (later (some (λ (γ' : GName). ‵ (fobs γ' (Items.coded.code xs)) ⊛ ‵ (fbor κ (Borrowed Items b (at + o) γ')) ⊛ ‵ (flft κ q) ⊛ ‵ (follows Row (Array u8 0) γ γ' new) ⊛ ‵ (fbor κ Before) ⊛ ‵ ftrue)))
      (takes_beside 𝓛 (mem Row) Items new κ q rb ro b (at + o) γ (Before ∷ []) (sem 𝓛 Rest) whole_again (Row.coded.code d) (Row.coded.code d) xs) $ await ! tt $ pick ! (λ γ'. split3 ! $
      use2 𝓛 (‵ ((MutSlice (named 0) κ u8).own_val (record { ref_ptr = (b, at + o); ghost_name = γ'; now = xs }) (slice_val (b, at + o) (length xs) ∷ []))) (slice_of 𝓛 u8 (named 0) κ b (at + o) γ' xs roomy) $
      move ! (1 ∷ []) $ split3 ! $ move ! (2 ∷ []) $ split ! $ move ! (0 ∷ 2 ∷ []) $
      use2 𝓛 (later (‵ (row_lent b o (map Some fs) κ) ⊛ ‵ (flft κ q))) (Lends-row 𝓛 [] (Incl-refl []) b o (map Some fs) κ ((κ, q) ∷ []) (λ i m. absurd (not-mem-nil m)) (Incl-refl κ)) $ await ! tt $ split ! $
      rewrite ! 0 (λ (l : List (Option ℕ)). ‵ (row_lent b o l κ)) (sym (append-nil (map Some fs))) refl $ use1 𝓛 (‵ (elements_shared u8 fs b o κ)) (seen_front 𝓛 b κ fs [] o) $
      at_once ! $ show ! Got γ' $ keep ! (4 ∷ 0 ∷ 1 ∷ 3 ∷ []) $ done !)

pub split_spec : {M : Type 1} → statement M
split_spec 𝓤 𝓛 𝓜 𝓡 wired =
    let c = f.clauses 𝓛 𝓜.mem 𝓡.returns in let W = walk_of 𝓛 f.ended stayed c in let 𝓣 = tables 𝓤 𝓛.H 𝓜 𝓡 𝓡.env in
    proved 𝓛 f.ended stayed c 𝓜 𝓡
    (Goes-spent_ref 𝓛 1 (0 ∷ []) tt (plain (λ _. Row)), (Goes-dropped 𝓛 1 (plain (λ _. B.the_row)) f.ended.kept.1.0 (λ κs x w. refl), (Goes-dropped 𝓛 1 (plain (λ _. usize)) f.ended.kept.1.1.0 (λ κs x w. refl), (Goes-dropped 𝓛 1 (plain (λ _. usize)) f.ended.kept.1.1.1.0 (λ κs x w. refl), tt))))
    f.Key.name code.function (code.unfolded 𝓤 𝓛.H 𝓜 𝓡 wired)
    (λ κs. (mut_vals, (base_vals, (uint_vals w64, (uint_vals w64, tt))))) (λ κs. (mut_Tells (named 0) κs.0 Row, (base_tells, (uint_Tells w64, (uint_Tells w64, tt)))))
    (λ κs qs bounds a _ are.
    let κ = κs.0 in let q = qs.0 in let rb = a.0.ref_ptr.0 in let ro = a.0.ref_ptr.1 in let γ = a.0.ghost_name in let d = a.0.now in let base = a.1.0 in let at = a.1.1.0 in let n = a.1.1.1.0 in let vs = mut_vals a.0 in
    let y : W.Ghost = ((κs, qs, bounds, a, (vs, (base_vals base, (uint_vals w64 at, (uint_vals w64 n, tt))))), tt) in
    let fits_at = are.1.1.0.1 in let fits_n = are.1.1.1.0.1 in
    qed 𝓛 (((‵ (flft κ q) ⊛ ‵ ftrue) ⊛ ‵ ((MutRef (named 0) κ Row).own_val a.0 vs)
    ⊛ ‵ (owns (B.the_row ∷ usize ∷ usize ∷ []) (base, (at, (n, tt))) (base_vals base, (uint_vals w64 at, (uint_vals w64 n, tt)))))
    ∷ raw (fact 𝓤 ((base.ptr ≡ d.at) × IsRun d.slots 0 at × IsRun d.slots at n)) ∷ []) ∵
    move ! (1 ∷ []) $ heard ! _ (λ asked. split ! $ split ! $ move ! (2 ∷ []) $ split ! $ keep ! (0 ∷ 2 ∷ []) $
    let fs = asked.1.0 in let before = asked.1.1 in let xs = asked.2.0 in let run = asked.2.1 in
    let few : length fs ≡ at = omega (arith, before.0, ap length before.1, length-map fs Some, length-take at d.slots) in
    let many : length xs ≡ n = omega (arith, run.0, ap length run.1, length-map xs Some, length-take n (drop at d.slots), length-drop at d.slots) in
    enter ! _ _ _ _ _ $ alloc_all ! (λ l. pass_all ! refl ((tt, tt), (word-Good [] base.ptr, ((tt, record { fits = fits_at }), ((tt, record { fits = fits_n }), tt)))) $
    let En = env code.Mir.locals l in
    fsplit3 ! $ skip ! $ opens ! tt Row rb ro (λ us. move ! (1 ∷ []) $ fsplit ! $ move ! (1 ∷ []) $
    in_a_block ! d.at (λ p. region_own p d.slots) (id⊢ 𝓤 (never 𝓤)) (λ b o e. fsplit ! $ flt_l ! (λ small.
    take_at ! 2 $ rewrite ! 0 (λ (p : Ptr). ‵ (fat full_share (layout B.the_row) (l 2) 0 (word p))) (asked.0 ∙ e) refl $ give_at ! 2 $
    let front = slice_val (b, o) at in let back = slice_val (b, at + o) n in
    first ! $ blocks ! $
    sets ! (agg ! (and_then ! (get_in ! (fld ! refl (stop !)) (sub ! 0 refl (whole !))) (and_then ! (get ! refl) (no_more !)))) refl (tt, (tt, (record { fits = fits_at }, tt))) $
    sets ! (bin ! (get_in ! (fld ! refl (stop !)) (sub ! 0 refl (whole !))) (get ! refl) tt) refl (tt, tt) $
    sets ! (agg ! (and_then ! (get ! refl) (and_then ! (get ! refl) (no_more !)))) refl (tt, (tt, (record { fits = fits_n }, tt))) $
    sets_last ! (agg ! (and_then ! (get ! refl) (and_then ! (get ! refl) (no_more !)))) refl (tt, ((tt, (record { fits = fits_at }, tt)), ((tt, (record { fits = fits_n }, tt)), tt))) $
    exec ! 𝓣.C 𝓣.Λ En (after 1 (code.function).body) (at_ret En (W.post y)) $ sets ! (of_opd ! (get ! refl)) refl (tt, ((tt, (record { fits = fits_at }, tt)), ((tt, (record { fits = fits_n }, tt)), tt))) $
    use1 𝓛 (‵ (row b (at + o) (take n (drop at d.slots))) ⊛ ‵ (Around 𝓛 b o d.slots at n run.0)) (run_out 𝓛 b o d.slots at n run.0) $ split ! $
    rewrite ! 0 (λ (l : List (Option ℕ)). ‵ (row b (at + o) l)) run.1 refl $ use1 𝓛 (‵ (cells (mem u8) xs b (at + o))) (to_cells 𝓛 b xs (at + o)) $
    move ! (1 ∷ []) $ fsplit ! $ rewrite ! 0 (λ (l : List (Option ℕ)). ‵ (row b o l)) before.1 refl $
    -- [the front; the tail; the run; the fields; self's cell; the open borrow, in three entries]
    move ! (1 ∷ 3 ∷ 4 ∷ []) $ fjoin3 ! $ move ! (3 ∷ 4 ∷ 5 ∷ 2 ∷ 1 ∷ 0 ∷ []) $ group ! 6 $
    let roomy : Room u8 (length xs) = (omega (arith, run.0, small, many), omega (arith, run.0, small, many)) in
    use1 𝓛 (later (some (λ (γ' : GName). ‵ ((MutSlice (named 0) κ u8).own_val (record { ref_ptr = (b, at + o); ghost_name = γ'; now = xs }) (slice_val (b, at + o) (length xs) ∷ []))
    ⊛ ‵ (elements_shared u8 fs b o κ) ⊛ ‵ (flft κ q) ⊛ ‵ (follows Row (Array u8 0) γ γ' (written_over d at n)))))
    (lends 𝓛 κ q rb ro γ d at n b o fs xs us e before run small roomy) $ await ! tt $ pick ! (λ γ'. split3 ! $
    let r₀ : (ShrSlice (named 0) κ u8).Denot = record { ref_ptr = (b, o); now = fs } in
    let r₁ : (MutSlice (named 0) κ u8).Denot = record { ref_ptr = (b, at + o); ghost_name = γ'; now = xs } in
    rewrite ! 0 (λ (k : ℕ). ‵ ((MutSlice (named 0) κ u8).own_val r₁ (slice_val (b, at + o) k ∷ []))) many refl $ move ! (1 ∷ []) $ hide ! $
    flt_i ! (length fs * 1) (2 ^ 63) (omega (arith, before.0, small, few)) $ flt_i ! (length fs) (2 ^ 64) (omega (arith, before.0, small, few)) $ fjoin ! $
    feq_i ! (List Val) (front ∷ []) (slice_val (b, o) (length fs) ∷ []) (ap (λ k. slice_val (b, o) k ∷ []) (sym few)) $ fjoin ! $ fjoin ! $ move ! (0 ∷ 1 ∷ []) $
    use2 𝓛 (‵ ((Tuple (ShrSlice (named 0) κ u8 ∷ MutSlice (named 0) κ u8 ∷ [])).own_val (r₀, r₁) (pair_val front back ∷ []))) (pair_of 𝓛 (ShrSlice (named 0) κ u8) (MutSlice (named 0) κ u8) r₀ r₁ front back) $
    returns ! (look_at ! 0 refl) $ free_all ! refl $ move ! (1 ∷ []) $ split ! $
    -- [the token; what follows; the pair]
    suffices ! _ (ends_at 𝓛 f.ended stayed c y (pair_val front back) (r₀, r₁) (tt, (tt, (tt, (tt, tt)))) (tt, (tt, (tt, (tt, tt))))) $
    nothing ! $ move ! (1 ∷ 0 ∷ []) $ join ! $ nothing ! $ nothing ! $ join ! $ nothing ! $ join ! $ nothing ! $ join ! $ nothing ! $ join ! $
    move ! (1 ∷ 0 ∷ 3 ∷ []) $ group ! 3 $ frame ! $ says_two ! (before.1, run.1) $ done !)))))))
