-- Stays that come and go, each of which was played in a core of its own: the jobs of those that are
-- open in the end, one stay after the other.
use Rattle.std.proofs.Common.{◌≡◌, ℕ, suc, ◌≤◌, true, false, List, [], ◌∷◌, ◌++◌, length, map, Option, refl, sym, ap, subst, ◌∙◌, arith, inl, inr}
use Rattle.std.specs.Prelude.{count_by}
use Rattle.std.proofs.lemmas.Bool.{cases_Bool, or_parts}
use Rattle.std.proofs.lemmas.List.{append-nil, append_assoc, length_push}
use Rattle.std.proofs.lemmas.List.Sums.{sum_by-cons}
use Rattle.bs_heap.specs.Packing.{Packing, no_packing}
use Rattle.bs_heap.specs.Renaming.{renamed_packing}
use Rattle.bs_pool.specs.declared.reservation.Reservation.{Reservation}
use Rattle.bs_pool.specs.Ledger.{is_unowned, ledger_of, size}
use Rattle.bs_pool.specs.Woven.{place_in}
use Rattle.bs_pool.proofs.Woven.{size_woven}
use Rattle.bs_registry.specs.Blocks.{blocks_of}
use Rattle.bs_sched.specs.declared.event.Event.{Event}
use Rattle.bs_sched.specs.Assembly.{RanAlone, jobs_at, own_frames, own_lane, owners_with, tag_at}
use Rattle.bs_sched.specs.Core.{CoreView}
use Rattle.bs_sched.specs.Lane.{Lane, closed_lane, empty_lane}
use Rattle.bs_sched.specs.Machine.{Setting, blocks_in, open_blocks}
use Rattle.bs_sched.specs.StaysApart.{PlayedStay, all_owners_kept, frames_kept, jobs_left, lane_kept, packings_kept}
use Rattle.bs_sched.specs.Storage.{Storage, packing_of}
use Rattle.bs_sched.proofs.ApartGames.{room_woven}
use Rattle.bs_sched.proofs.ApartLanes.{AreFree, queued}
use Rattle.bs_sched.proofs.ApartNeeds.{frames_stay}
use Rattle.bs_sched.proofs.ApartRows.{free_push}
use Rattle.bs_sched.proofs.Leading.{Leads, leads_none, leads_on}
use Rattle.bs_sched.proofs.StayJobs.{StayBeside, stay_beside, storage_laid}
use Rattle.bs_sched.proofs.StaysPlayed.{IsStay, stay_idle}

-- no act is left for any stay
abbrev pub AreLast : ℕ → ℕ → List Lane → List (List (Option ℕ)) → List PlayedStay → Type 0
AreLast cap workers [] [] [] = Unit {0}
AreLast cap workers [] [] (stay ∷ stays) = ⊥
AreLast cap workers [] (f ∷ frames) stays = ⊥
AreLast cap workers (x ∷ lanes) [] stays = ⊥
AreLast cap workers (x ∷ lanes) (f ∷ frames) [] = ⊥
AreLast cap workers (x ∷ lanes) (f ∷ frames) (stay ∷ stays) = IsStay cap workers [] false x f stay × AreLast cap workers lanes frames stays

module _ (cap workers : ℕ) (all : Setting) (same : all.workers ≡ workers) (rs : List Reservation) where
  abbrev blanks : List Lane → List Packing
  blanks = map (λ (x : Lane). no_packing)

  -- the storage while these stays have no block
  abbrev pub storage_with : List Packing → List (List (Option ℕ)) → List (Option ℕ) → List Lane → List (List (Option ℕ)) → Storage
  storage_with packings frames owners lanes rest =
      record { packings = packings ++ blanks lanes; frames = frames ++ rest; pool = ledger_of owners rs }

  abbrev pub storage_end : List Packing → List (List (Option ℕ)) → List (Option ℕ) → ℕ → List PlayedStay → Storage
  storage_end packings frames owners game stays =
      record {
        packings = packings ++ packings_kept game owners stays;
        frames = frames ++ map frames_kept stays;
        pool = ledger_of (all_owners_kept game owners stays) rs;
      }

  pub record Ends (done lanes : List Lane) (packings : List Packing) (frames rest : List (List (Option ℕ))) (owners : List (Option ℕ)) (game : ℕ) (stays : List PlayedStay) : Type 0
    where
      pub leads : Leads cap all (done ++ lanes) (storage_with packings frames owners lanes rest) (jobs_left game stays) (done ++ map lane_kept stays)
          (storage_end packings frames owners game stays)
      pub many : length (all_owners_kept game owners stays) ≡ length owners

  -- one stay more is done
  pushed : (done lanes : List Lane) (packings : List Packing) (frames rest : List (List (Option ℕ))) (owners : List (Option ℕ)) (y : Lane) (p : Packing)
      (f : List (Option ℕ)) → storage_with (packings ++ p ∷ []) (frames ++ f ∷ []) owners lanes rest
      ≡ record { packings = packings ++ p ∷ blanks lanes; frames = frames ++ f ∷ rest; pool = ledger_of owners rs }
  pushed done lanes packings frames rest owners y p f =
      ap (λ ps. record { packings = ps; frames = (frames ++ f ∷ []) ++ rest; pool = ledger_of owners rs }) (append_assoc packings (p ∷ []) (blanks lanes))
      ∙ ap (λ fs. record { packings = packings ++ p ∷ blanks lanes; frames = fs; pool = ledger_of owners rs }) (append_assoc frames (f ∷ []) rest)

  ended : (packings : List Packing) (frames : List (List (Option ℕ))) (owners : List (Option ℕ)) (game : ℕ) (stays : List PlayedStay) (p : Packing) (f : List (Option ℕ))
      → storage_end (packings ++ p ∷ []) (frames ++ f ∷ []) owners game stays
      ≡ record {
        packings = packings ++ p ∷ packings_kept game owners stays;
        frames = frames ++ f ∷ map frames_kept stays;
        pool = ledger_of (all_owners_kept game owners stays) rs;
      }
  ended packings frames owners game stays p f =
      ap (λ ps. record { packings = ps; frames = (frames ++ f ∷ []) ++ map frames_kept stays; pool = ledger_of (all_owners_kept game owners stays) rs })
      (append_assoc packings (p ∷ []) (packings_kept game owners stays))
      ∙ ap (λ fs. record { packings = packings ++ p ∷ packings_kept game owners stays; frames = fs; pool = ledger_of (all_owners_kept game owners stays) rs })
      (append_assoc frames (f ∷ []) (map frames_kept stays))

  -- the jobs of one stay, and then those of the stays behind it
  ends_on : (done lanes : List Lane) (packings : List Packing) (frames rest : List (List (Option ℕ))) (owners owners' : List (Option ℕ)) (game : ℕ) (stays : List PlayedStay)
      (x y : Lane) (p : Packing) (f g : List (Option ℕ)) (jobs : List Event)
      → Leads cap all (done ++ x ∷ lanes) (storage_with packings frames owners (x ∷ lanes) (f ∷ rest)) jobs (done ++ y ∷ lanes)
      (record { packings = packings ++ p ∷ blanks lanes; frames = frames ++ g ∷ rest; pool = ledger_of owners' rs })
      → Ends (done ++ y ∷ []) lanes (packings ++ p ∷ []) (frames ++ g ∷ []) rest owners' (suc game) stays
      → Leads cap all (done ++ x ∷ lanes) (storage_with packings frames owners (x ∷ lanes) (f ∷ rest)) (jobs ++ jobs_left (suc game) stays)
      (done ++ y ∷ map lane_kept stays)
      (record {
        packings = packings ++ p ∷ packings_kept (suc game) owners' stays;
        frames = frames ++ g ∷ map frames_kept stays;
        pool = ledger_of (all_owners_kept (suc game) owners' stays) rs;
      })
  ends_on done lanes packings frames rest owners owners' game stays x y p f g jobs one goes =
      let later = jobs_left (suc game) stays in
      let mid : Storage = record { packings = packings ++ p ∷ blanks lanes; frames = frames ++ g ∷ rest; pool = ledger_of owners' rs } in
      let from : Leads cap all (done ++ y ∷ lanes) mid later ((done ++ y ∷ []) ++ map lane_kept stays)
      (storage_end (packings ++ p ∷ []) (frames ++ g ∷ []) owners' (suc game) stays)
      = subst (λ ls. Leads cap all ls mid later ((done ++ y ∷ []) ++ map lane_kept stays) (storage_end (packings ++ p ∷ []) (frames ++ g ∷ []) owners' (suc game) stays))
      (append_assoc done (y ∷ []) lanes)
      (subst (λ t. Leads cap all ((done ++ y ∷ []) ++ lanes) t later ((done ++ y ∷ []) ++ map lane_kept stays)
      (storage_end (packings ++ p ∷ []) (frames ++ g ∷ []) owners' (suc game) stays))
      (pushed done lanes packings frames rest owners' y p g) goes.leads) in
      let to = subst (λ ls. Leads cap all (done ++ y ∷ lanes) mid later ls (storage_end (packings ++ p ∷ []) (frames ++ g ∷ []) owners' (suc game) stays))
      (append_assoc done (y ∷ []) (map lane_kept stays)) from in
      let end = subst (λ t. Leads cap all (done ++ y ∷ lanes) mid later (done ++ y ∷ map lane_kept stays) t)
      (ended packings frames owners' (suc game) stays p g) to in
      leads_on cap all (done ++ x ∷ lanes) (storage_with packings frames owners (x ∷ lanes) (f ∷ rest)) jobs (done ++ y ∷ lanes) mid later
      (done ++ y ∷ map lane_kept stays) _ one end

  -- an open stay
  stay_done : (done lanes : List Lane) (packings : List Packing) (frames rest : List (List (Option ℕ))) (owners : List (Option ℕ)) (game : ℕ) (x : Lane) (f : List (Option ℕ))
      (core : CoreView) → length done ≡ game → length packings ≡ game → length frames ≡ game → AreFree done → AreFree lanes → x ≡ queued x.waiting (empty_lane x.row)
      → f ≡ [] → RanAlone cap workers x.row x.waiting core → size core.games.storage.pool ≤ count_by is_unowned owners
      → Leads cap all (done ++ x ∷ lanes) (storage_with packings frames owners (x ∷ lanes) (f ∷ rest)) (jobs_at game core.journal) (done ++ own_lane core ∷ lanes)
      (record {
        packings = packings ++ renamed_packing (place_in owners) (packing_of core.games.storage 0) ∷ blanks lanes;
        frames = frames ++ own_frames core ∷ rest;
        pool = ledger_of (owners_with game owners core) rs;
      })
  stay_done done lanes packings frames rest owners game x f core long many_packings many_frames free after fresh none alone room =
      let p = renamed_packing (place_in owners) (packing_of core.games.storage 0) in
      let jobs = jobs_at (length done) core.journal in
      let lanes' = done ++ own_lane core ∷ lanes in
      let before = many_packings ∙ sym long in
      let framed = many_frames ∙ sym long in
      let goes : StayBeside cap workers all same rs done lanes free after packings (blanks lanes) frames rest before framed owners x.row x.waiting core
      = stay_beside cap workers all same rs done lanes free after packings (blanks lanes) frames rest before framed owners x.row x.waiting core alone room in
      let end : Storage = record { packings = packings ++ p ∷ blanks lanes; frames = frames ++ own_frames core ∷ rest; pool = ledger_of (owners_with (length done) owners core) rs } in
      let stored : storage_laid cap workers all same rs done lanes free after packings (blanks lanes) frames rest before framed owners core.games.storage ≡ end
      = ap (λ g. record { packings = packings ++ p ∷ blanks lanes; frames = frames ++ g ∷ rest; pool = ledger_of (owners_with (length done) owners core) rs })
      (frames_stay cap workers x.row x.waiting core (place_in owners) alone) in
      let there : Leads cap all (done ++ queued x.waiting (empty_lane x.row) ∷ lanes) (storage_with packings frames owners (x ∷ lanes) ([] ∷ rest)) jobs lanes' end
      = record { enabled = goes.enabled; lanes_are = goes.lanes; storage_is = goes.storage ∙ stored } in
      subst (λ n. Leads cap all (done ++ x ∷ lanes) (storage_with packings frames owners (x ∷ lanes) (f ∷ rest)) (jobs_at n core.journal) lanes'
      (record { packings = packings ++ p ∷ blanks lanes; frames = frames ++ own_frames core ∷ rest; pool = ledger_of (owners_with n owners core) rs })) long
      (subst (λ z. Leads cap all (done ++ z ∷ lanes) (storage_with packings frames owners (x ∷ lanes) (f ∷ rest)) jobs lanes' end) (sym fresh)
      (subst (λ g. Leads cap all (done ++ queued x.waiting (empty_lane x.row) ∷ lanes) (storage_with packings frames owners (x ∷ lanes) (g ∷ rest)) jobs lanes' end) (sym none) there))

  pub ends : (done lanes : List Lane) (packings : List Packing) (frames rest : List (List (Option ℕ))) (owners : List (Option ℕ)) (game : ℕ) (stays : List PlayedStay)
      → length done ≡ game → length packings ≡ game → length frames ≡ game → AreFree done → AreFree lanes → AreLast cap workers lanes rest stays
      → open_blocks cap lanes ≤ count_by is_unowned owners → Ends done lanes packings frames rest owners game stays
  ends done [] packings frames [] owners game [] long many_packings many_frames free after last room =
      record { leads = leads_none cap all (done ++ []) (storage_with packings frames owners [] []); many = refl }
  ends done [] packings frames [] owners game (stay ∷ stays) long many_packings many_frames free after last room = absurd last
  ends done [] packings frames (f ∷ rest) owners game stays long many_packings many_frames free after last room = absurd last
  ends done (x ∷ lanes) packings frames [] owners game stays long many_packings many_frames free after last room = absurd last
  ends done (x ∷ lanes) packings frames (f ∷ rest) owners game [] long many_packings many_frames free after last room = absurd last
  ends done (x ∷ lanes) packings frames (f ∷ rest) owners game (stay ∷ stays) long many_packings many_frames free after last room =
      let core = stay.core in
      let sum = sum_by-cons (blocks_in cap) x lanes in
      let behind : AreFree lanes = λ worker. (or_parts _ _ (after worker)).1 in
      let idle = stay_idle cap workers [] false x f stay last.0 in
      elim (cases_Bool x.is_open) [
        | inl stands ↦
            let w = last.0.waits stands in
            let y = own_lane core in
            let p = renamed_packing (place_in owners) (packing_of core.games.storage 0) in
            let g = own_frames core in
            let owners' = owners_with game owners core in
            let alone : RanAlone cap workers x.row x.waiting core
            = subst (λ cs. RanAlone cap workers x.row cs core) (append-nil x.waiting) w.played.alone in
            let had : blocks_in cap x ≡ blocks_of cap x.row = rw stands refl in
            let mine = alone.blocks in
            let kept = room_woven (tag_at game) owners core.games.storage.pool.owners in
            let here : size core.games.storage.pool ≤ count_by is_unowned owners = omega (arith, sum, had, mine, room) in
            let one = stay_done done lanes packings frames rest owners game x f core long many_packings many_frames free behind w.fresh w.none alone here in
            let goes = ends (done ++ y ∷ []) lanes (packings ++ p ∷ []) (frames ++ g ∷ []) rest owners' (suc game) stays
            (let e = length_push done y in omega (arith, e, long))
            (let e = length_push packings p in omega (arith, e, many_packings))
            (let e = length_push frames g in omega (arith, e, many_frames))
            (free_push done y free alone.idle) behind last.1 (omega (arith, sum, had, mine, room, kept)) in
            subst (λ b. Ends done (x ∷ lanes) packings frames (f ∷ rest) owners game (record { core = core; leaves = b } ∷ stays)) (sym w.played.leaves_same)
            (record {
              leads = ends_on done lanes packings frames rest owners owners' game stays x y p f g (jobs_at game core.journal) one goes;
              many = goes.many ∙ size_woven (tag_at game) owners core.games.storage.pool.owners here;
            })
        | inr shut ↦
            let gone = last.0.gone shut in
            let y = closed_lane (own_lane core) in
            let g = own_frames core in
            let one = leads_none cap all (done ++ y ∷ lanes) (storage_with packings frames owners (y ∷ lanes) (g ∷ rest)) in
            let goes = ends (done ++ y ∷ []) lanes (packings ++ no_packing ∷ []) (frames ++ g ∷ []) rest owners (suc game) stays
            (let e = length_push done y in omega (arith, e, long))
            (let e = length_push packings no_packing in omega (arith, e, many_packings))
            (let e = length_push frames g in omega (arith, e, many_frames))
            (free_push done y free gone.idle) behind last.1 (omega (arith, sum, room)) in
            subst (λ b. Ends done (x ∷ lanes) packings frames (f ∷ rest) owners game (record { core = core; leaves = b } ∷ stays)) (sym gone.left)
            (subst (λ z. Ends done (z ∷ lanes) packings frames (f ∷ rest) owners game (record { core = core; leaves = true } ∷ stays)) (sym gone.lane)
            (subst (λ h. Ends done (y ∷ lanes) packings frames (h ∷ rest) owners game (record { core = core; leaves = true } ∷ stays)) (sym gone.frames_own)
            (record {
              leads = ends_on done lanes packings frames rest owners owners game stays y y no_packing g g [] one goes;
              many = goes.many;
            })))
      ]
