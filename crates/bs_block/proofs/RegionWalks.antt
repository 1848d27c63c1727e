-- What the walks share. Assumes `Logic`.
--     Fields      what the fields of `Region` own
--     base_vals, base_tells      the machine value of a `Base`
--     run_out, run_in      a run of places is taken out of the row, and put back, with whatever it
--                          then holds
--     cut, glue      a row is cut in two, and two rows become one
--     one_room      one place is room for a byte, whatever it holds
--     of_room, to_room      room for an array of bytes is a row of unwritten places, and a row of
--                           any places is room
--     to_cells, of_cells      a row of written places is the elements of a slice
--     run_seen      the elements of a `&` to a run, of a `&` to the row
use mathlib.Core.Path.{◌≡◌, refl, sym, ap, subst, ◌∙◌}
use Prim.Native.Nat.{ℕ, zero, suc, ◌+◌, ◌≤◌}
use native.Mathlib.Omega.{arith}
use mathlib.Core.List.{List, [], ◌∷◌, ◌++◌, map}
use lib.ListN.{length, take, drop, replicate, take-append-drop, length-take, length-drop}
use lib.Seq.{drop-drop}
use seplogic.Ra.Ura.{Ura}
use base.Fraction.{full_share}
use base.Logic.{ent, sep, emp, via, snd∗, id⊢, mono_r}
use base.Fml.{Fml, Lft, ftrue, fsep, froom}
use mir.Syntax.{ty_int, ty_array, w8}
use mir.Val.{Val, vint, vstruct, vcons, vnil}
use types.Logic.{Logic, sem}
use types.SemTy.{cells}
use types.Kit.{‵, ◌⊛◌, ◌$◌, ◌∵◌, !, qed, by, move, keep, drop as skip, use1, use2, split, frame, fsplit, fjoin, rewrite, done}
use denote.Builtin.{u8}
use denote.Laws.{Is, Tells}
use denote.Memory.{part_at, mem}
use denote.Plain.{uint_out}
use denote.Slice.{elements_shared}
use denote.RattleType.{RattleType}
use denote.RawPtr.{Ptr, ptr_val}
use denote.Shadow.{makes_shadow}
use denote.Steps.{nothing}
use denote.Struct.Owning.{shape}
use denote.Struct.Struct.{Struct}
use Rattle.std.specs.Prelude.{Option, Some, None}
use Rattle.std_alloc.proofs.RcSteps.{word}
use Rattle.bs_block.specs.Ownership.{place, row, place_lent, row_lent}
use Rattle.bs_block.specs.contracts.raw.Base as B
use Rattle.bs_block.specs.contracts.raw.Region as P
use Rattle.bs_block.proofs.raw.Base.TheLaws as base_laws

-- the fields of `Region`, which take no bytes
abbrev pub Fields : RattleType
Fields = Struct (shape P.the_type)

abbrev pub base_vals : B.the_row.Denot → List Val
base_vals x = word x.ptr ∷ []

pub base_tells : Tells B.the_row (Is B.the_row) base_vals
base_tells x vs is = base_laws.lowers.val_is x vs is

-- a value of no bytes: `Region` and `Deed`
abbrev pub mark : Val
mark = vstruct (vcons (vstruct vnil) vnil)

module _ {M : Type 1} {𝓤 : Ura M} (𝓛 : Logic 𝓤) where
  pub mark_made : ent 𝓤 (emp 𝓤) (sem 𝓛 (Fields.own_val (tt, tt) (mark ∷ [])))
  mark_made = makes_shadow 𝓛 (Fields.own_val (tt, tt) (mark ∷ [])) (λ vss. (tt, ((λ uss. (tt, tt)), tt))) ((vstruct vnil ∷ [], tt), (refl, ((tt, (refl, tt)), tt)))

  pub base_made : (p : Ptr) → ent 𝓤 (emp 𝓤) (sem 𝓛 (B.the_row.own_val (record { ptr = p }) (word p ∷ [])))
  base_made p = makes_shadow 𝓛 (B.the_row.own_val (record { ptr = p }) (word p ∷ [])) (λ _. (tt, (tt, tt))) ((ptr_val p ∷ [], tt), (refl, (refl, tt)))

module _ {M : Type 1} {𝓤 : Ura M} (𝓛 : Logic 𝓤) (b : ℕ) where
  open 𝓛 use {H}

  pub cut : (xs ys : List (Option ℕ)) (o at : ℕ) → at ≡ length xs + o → ent 𝓤 (sem 𝓛 (row b o (xs ++ ys))) (sep 𝓤 (sem 𝓛 (row b o xs)) (sem 𝓛 (row b at ys)))
  cut [] ys o at e = qed 𝓛 (‵ (row b o ys) ∷ []) ∵ rewrite ! 0 (λ (k : ℕ). ‵ (row b k ys)) {x = at} (omega arith) refl $ nothing ! $ done !
  cut (x ∷ xs) ys o at e = qed 𝓛 (‵ (row b o (x ∷ xs ++ ys)) ∷ []) ∵ fsplit ! $ move ! (1 ∷ []) $
      use1 𝓛 (‵ (row b (o + 1) xs) ⊛ ‵ (row b at ys)) (cut xs ys (o + 1) at (omega arith)) $ split ! $ move ! (2 ∷ 0 ∷ []) $ fjoin ! $ done !

  pub glue : (xs ys : List (Option ℕ)) (o at : ℕ) → at ≡ length xs + o → ent 𝓤 (sep 𝓤 (sem 𝓛 (row b o xs)) (sem 𝓛 (row b at ys))) (sem 𝓛 (row b o (xs ++ ys)))
  glue [] ys o at e = qed 𝓛 (‵ ftrue ∷ ‵ (row b at ys) ∷ []) ∵ skip ! $ rewrite ! 0 (λ (k : ℕ). ‵ (row b k ys)) {x = o} (omega arith) refl $ done !
  glue (x ∷ xs) ys o at e = qed 𝓛 (‵ (row b o (x ∷ xs)) ∷ ‵ (row b at ys) ∷ []) ∵ fsplit ! $ move ! (1 ∷ 2 ∷ []) $
      use2 𝓛 (‵ (row b (o + 1) (xs ++ ys))) (glue xs ys (o + 1) at (omega arith)) $ move ! (1 ∷ 0 ∷ []) $ fjoin ! $ done !

  module _ (o : ℕ) (cs : List (Option ℕ)) (i n : ℕ) (le : i + n ≤ length cs) where
    front : i + o ≡ length (take i cs) + o
    front = omega (arith, length-take i cs)

    -- the places except the n from the i-th on
    abbrev pub Around : Fml
    Around = fsep (row b o (take i cs)) (row b (n + (i + o)) (drop (i + n) cs))

    pub run_out : ent 𝓤 (sem 𝓛 (row b o cs)) (sep 𝓤 (sem 𝓛 (row b (i + o) (take n (drop i cs)))) (sem 𝓛 Around))
    run_out =
        let run = take n (drop i cs) in let rest = drop (i + n) cs in
        let parts : cs ≡ take i cs ++ (run ++ rest) = sym (take-append-drop i cs) ∙ ap (λ l. take i cs ++ l) (sym (take-append-drop n (drop i cs)) ∙ ap (λ l. run ++ l) (drop-drop n i cs)) in
        let long : n + (i + o) ≡ length run + (i + o) = omega (arith, length-take n (drop i cs), length-drop i cs) in
        qed 𝓛 (‵ (row b o cs) ∷ []) ∵ rewrite ! 0 (λ (l : List (Option ℕ)). ‵ (row b o l)) parts refl $
        use1 𝓛 (‵ (row b o (take i cs)) ⊛ ‵ (row b (i + o) (run ++ rest))) (cut (take i cs) (run ++ rest) o (i + o) front) $ split ! $ move ! (1 ∷ []) $
        use1 𝓛 (‵ (row b (i + o) run) ⊛ ‵ (row b (n + (i + o)) rest)) (cut run rest (i + o) (n + (i + o)) long) $ split ! $ move ! (2 ∷ 1 ∷ []) $ fjoin ! $ move ! (1 ∷ []) $ done !

    pub run_in : (ws : List (Option ℕ)) → n ≡ length ws → ent 𝓤 (sep 𝓤 (sem 𝓛 (row b (i + o) ws)) (sem 𝓛 Around)) (sem 𝓛 (row b o (take i cs ++ (ws ++ drop (i + n) cs))))
    run_in ws long = qed 𝓛 (‵ (row b (i + o) ws) ∷ ‵ Around ∷ []) ∵ move ! (1 ∷ []) $ fsplit ! $ move ! (2 ∷ 1 ∷ []) $
        use2 𝓛 (‵ (row b (i + o) (ws ++ drop (i + n) cs))) (glue ws (drop (i + n) cs) (i + o) (n + (i + o)) (ap (λ k. k + (i + o)) long)) $ move ! (1 ∷ 0 ∷ []) $
        by ! (glue (take i cs) (ws ++ drop (i + n) cs) o (i + o) front)

  place_room : (o : ℕ) (c : Option ℕ) → ent 𝓤 (sem 𝓛 (place b o c)) (H.room (ty_int w8) b o)
  place_room o None = id⊢ 𝓤 _
  place_room o (Some x) = via 𝓤 (H.at full_share (ty_int w8) b o (vint w8 x)) (uint_out 𝓛 full_share w8 x b o) (𝓛.laws.at_room (ty_int w8) b o (vint w8 x))

  pub one_room : (o : ℕ) (cs : List (Option ℕ)) → length cs ≡ 1 → ent 𝓤 (sem 𝓛 (row b o cs)) (H.room (ty_int w8) b o)
  one_room o [] e = absurd (omega arith)
  one_room o (c ∷ []) e = qed 𝓛 (‵ (row b o (c ∷ [])) ∷ []) ∵ fsplit ! $ keep ! (0 ∷ []) $ by ! (place_room o c)
  one_room o (c ∷ d ∷ cs) e = absurd (omega arith)

  pub of_room : (n o : ℕ) → ent 𝓤 (H.room (ty_array (ty_int w8) n) b o) (sem 𝓛 (row b o (replicate n None)))
  of_room zero o = qed 𝓛 (‵ (froom (ty_array (ty_int w8) 0) b o) ∷ []) ∵ keep ! [] $ done !
  of_room (suc n) o = qed 𝓛 (‵ (froom (ty_array (ty_int w8) (suc n)) b o) ∷ []) ∵
      use1 𝓛 (‵ (froom (ty_int w8) b o) ⊛ ‵ (froom (ty_array (ty_int w8) n) b (o + 1))) (𝓛.laws.room_uncons (ty_int w8) n b o) $ split ! $ frame ! $ by ! (of_room n (o + 1))

  pub to_room : (cs : List (Option ℕ)) (o : ℕ) → ent 𝓤 (sem 𝓛 (row b o cs)) (H.room (ty_array (ty_int w8) (length cs)) b o)
  to_room [] o = 𝓛.laws.room_nil (ty_int w8) b o
  to_room (c ∷ cs) o = qed 𝓛 (‵ (place b o c) ∷ ‵ (row b (o + 1) cs) ∷ []) ∵ use1 𝓛 (‵ (froom (ty_int w8) b o)) (place_room o c) $ move ! (1 ∷ []) $
      use1 𝓛 (‵ (froom (ty_array (ty_int w8) (length cs)) b (o + 1))) (to_room cs (o + 1)) $ move ! (1 ∷ 0 ∷ []) $ by ! (𝓛.laws.room_cons (ty_int w8) (length cs) b o)

  pub to_cells : (xs : List ℕ) (o : ℕ) → ent 𝓤 (sem 𝓛 (row b o (map Some xs))) (sem 𝓛 (cells (mem u8) xs b o))
  to_cells [] o = id⊢ 𝓤 (emp 𝓤)
  to_cells (x ∷ xs) o = mono_r 𝓤 (sem 𝓛 (part_at u8 full_share x b o)) (to_cells xs (o + 1))

  pub of_cells : (xs : List ℕ) (o : ℕ) → ent 𝓤 (sem 𝓛 (cells (mem u8) xs b o)) (sem 𝓛 (row b o (map Some xs)))
  of_cells [] o = id⊢ 𝓤 (emp 𝓤)
  of_cells (x ∷ xs) o = mono_r 𝓤 (sem 𝓛 (part_at u8 full_share x b o)) (of_cells xs (o + 1))

  module _ (κ : Lft) where
    seen_from : (cs : List (Option ℕ)) (i o at : ℕ) → i ≤ length cs → at ≡ i + o → ent 𝓤 (sem 𝓛 (row_lent b o cs κ)) (sem 𝓛 (row_lent b at (drop i cs) κ))
    seen_from cs zero o at le e = let same : o ≡ at = omega arith in subst (λ k. ent 𝓤 (sem 𝓛 (row_lent b o cs κ)) (sem 𝓛 (row_lent b k cs κ))) same (id⊢ 𝓤 _)
    seen_from [] (suc i) o at le e = absurd (omega arith)
    seen_from (c ∷ cs) (suc i) o at le e =
        via 𝓤 (sem 𝓛 (row_lent b (o + 1) cs κ)) (snd∗ 𝓤 (sem 𝓛 (place_lent b o c κ)) (sem 𝓛 (row_lent b (o + 1) cs κ))) (seen_from cs i (o + 1) at (omega arith) (omega arith))

    pub seen_front : (xs : List ℕ) (rest : List (Option ℕ)) (o : ℕ) → ent 𝓤 (sem 𝓛 (row_lent b o (map Some xs ++ rest) κ)) (sem 𝓛 (elements_shared u8 xs b o κ))
    seen_front [] rest o = qed 𝓛 (‵ (row_lent b o rest κ) ∷ []) ∵ keep ! [] $ done !
    seen_front (x ∷ xs) rest o = mono_r 𝓤 (sem 𝓛 (place_lent b o (Some x) κ)) (seen_front xs rest (o + 1))

    pub run_seen : (o : ℕ) (cs : List (Option ℕ)) (i n : ℕ) (xs : List ℕ) → i ≤ length cs → take n (drop i cs) ≡ map Some xs
        → ent 𝓤 (sem 𝓛 (row_lent b o cs κ)) (sem 𝓛 (elements_shared u8 xs b (i + o) κ))
    run_seen o cs i n xs le e = qed 𝓛 (‵ (row_lent b o cs κ) ∷ []) ∵ use1 𝓛 (‵ (row_lent b (i + o) (drop i cs) κ)) (seen_from cs i o (i + o) le refl) $
        rewrite ! 0 (λ (l : List (Option ℕ)). ‵ (row_lent b (i + o) l κ)) (sym (take-append-drop n (drop i cs)) ∙ ap (λ l. l ++ drop n (drop i cs)) e) refl $ by ! (seen_front xs (drop n (drop i cs)) (i + o))
