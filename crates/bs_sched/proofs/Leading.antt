-- Events that are enabled and lead from lanes and a storage to others.
use Rattle.std.proofs.Common.{◌≡◌, ℕ, true, List, [], ◌∷◌, ◌++◌, refl, ap, ◌∙◌}
use Rattle.std.proofs.lemmas.Bool.{and_from}
use Rattle.bs_sched.specs.declared.event.Event.{Event}
use Rattle.bs_sched.specs.Games.{storage_after}
use Rattle.bs_sched.specs.Isolation.{are_enabled}
use Rattle.bs_sched.specs.Lane.{Lane}
use Rattle.bs_sched.specs.Machine.{Setting, is_enabled, lane_effect, run_of}
use Rattle.bs_sched.specs.Storage.{Storage}
use Rattle.bs_sched.proofs.ApartRows.{enabled_after, run_after}
use Rattle.bs_sched.proofs.ApartRun.{storage_run, storage_run_after}
use Rattle.bs_sched.proofs.LoneLanes.{step_enabled}

module _ (cap : ℕ) (all : Setting) where
  pub record Leads (lanes : List Lane) (s : Storage) (events : List Event) (lanes' : List Lane) (s' : Storage) : Type 0 where
    pub enabled : are_enabled all lanes events ≡ true
    pub lanes_are : run_of all lanes events ≡ lanes'
    pub storage_is : storage_run cap all events lanes s ≡ s'

  pub leads_none : (lanes : List Lane) (s : Storage) → Leads lanes s [] lanes s
  leads_none lanes s = record { enabled = refl; lanes_are = refl; storage_is = refl }

  pub leads_one : (lanes : List Lane) (s : Storage) (e : Event) → is_enabled all lanes e ≡ true
      → Leads lanes s (e ∷ []) (lane_effect lanes e) (storage_after cap e lanes s)
  leads_one lanes s e on = record { enabled = and_from _ _ on refl; lanes_are = step_enabled all lanes e on; storage_is = refl }

  pub leads_on : (lanes : List Lane) (s : Storage) (first : List Event) (mid : List Lane) (t : Storage) (later : List Event) (lanes' : List Lane) (s' : Storage)
      → Leads lanes s first mid t → Leads mid t later lanes' s' → Leads lanes s (first ++ later) lanes' s'
  leads_on lanes s first mid t later lanes' s' one goes = record {
    enabled = enabled_after all lanes first later ∙ and_from _ _ one.enabled (ap (λ ls. are_enabled all ls later) one.lanes_are ∙ goes.enabled);
    lanes_are = run_after all lanes first later ∙ ap (λ ls. run_of all ls later) one.lanes_are ∙ goes.lanes_are;
    storage_is =
        storage_run_after cap all first later lanes s
        ∙ ap (λ ls. storage_run cap all later ls (storage_run cap all first lanes s)) one.lanes_are
        ∙ ap (storage_run cap all later mid) one.storage_is
        ∙ goes.storage_is;
  }
