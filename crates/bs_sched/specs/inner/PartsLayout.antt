-- How the parts of a move lie in their fields.
use Rattle.std.specs.Prelude.{◌≡◌, ℕ, ◌<◌, ◌≤◌, Bool, true, false, List, length, map, All, Option, Some, None, slice_index_or, vec_capacity}
use Rattle.bs_counter.specs.Keys.{TallyId}
use Rattle.bs_fiber.specs.declared.piece.Piece.{Piece}
use Rattle.bs_pool.specs.declared.owned.Owned.{Owned}
use Rattle.bs_sched.specs.declared.parts.MoveParts.TheInside.{Inside}
use Rattle.bs_sched.specs.declared.parts.Part.{Part}
use Rattle.bs_sched.specs.declared.parts.Part.TheVariants as field
use Rattle.bs_sched.specs.MoveParts.{PartView, PartsView}
use Rattle.bs_sched.specs.inner.MoveParts.{number_of, state_of}
use Rattle.bs_sched.specs.MoveParts as part
use Rattle.bs_sched.specs.PartState.{PartState}
use Rattle.bs_sched.specs.Keyed.{IsKeyAt}

abbrev pub view_of : {most : ℕ} → Part most → PartView
view_of (field.Ready key) = part.Ready
view_of (field.Out worker block) = part.Out worker block
view_of (field.Done moved owned) = part.Done (record { pieces = moved; bytes = owned.block }) owned.number
view_of (field.Joining block) = part.Joining block

abbrev pub state_in : {most : ℕ} → Part most → PartState
state_in s = state_of (view_of s)

abbrev pub number_in : {most : ℕ} → Part most → Option ℕ
number_in s = number_of (view_of s)

abbrev pub pieces_in : {most : ℕ} → Part most → Option (List Piece)
pieces_in (field.Ready key) = None
pieces_in (field.Out worker block) = None
pieces_in (field.Done moved owned) = Some moved
pieces_in (field.Joining block) = None

abbrev pub block_in : {most : ℕ} → Part most → Option (Owned most)
block_in (field.Ready key) = None
block_in (field.Out worker block) = None
block_in (field.Done moved owned) = Some owned
block_in (field.Joining block) = None

abbrev pub is_ready_part : {most : ℕ} → Part most → Bool
is_ready_part (field.Ready key) = true
is_ready_part (field.Out worker block) = false
is_ready_part (field.Done moved owned) = false
is_ready_part (field.Joining block) = false

-- the part after its block went into the Join's ticket
abbrev pub joined : {most : ℕ} → Part most → Part most
joined (field.Ready key) = field.Ready key
joined (field.Out worker block) = field.Out worker block
joined (field.Done moved owned) = field.Joining owned.number
joined (field.Joining block) = field.Joining block

-- a part that does not exist counts as completed
abbrev pub part_in : {most : ℕ} → List (Part most) → ℕ → Part most
part_in parts p = slice_index_or parts p (field.Joining 0)

-- the block of a completed part is the tag's
abbrev pub IsPartOf : {most : ℕ} → ℕ → Part most → Type 0
IsPartOf tag (field.Ready key) = Unit {0}
IsPartOf tag (field.Out worker block) = Unit {0}
IsPartOf tag (field.Done moved owned) = owned.tag ≡ tag
IsPartOf tag (field.Joining block) = Unit {0}

abbrev pub view_in : {most : ℕ} → Inside most → PartsView
view_in f = record { tag = f.tag; tally = f.tally; keys = f.keys.items; list = map view_of f.list.items }

-- a part that is ready has its own key at the tally of the move
abbrev pub IsReadyAt : {most : ℕ} → Option TallyId → ℕ → ℕ → Part most → Type 0
IsReadyAt tally parts p (field.Ready key) = IsKeyAt tally parts p key
IsReadyAt tally parts p (field.Out worker block) = Unit {0}
IsReadyAt tally parts p (field.Done moved owned) = Unit {0}
IsReadyAt tally parts p (field.Joining block) = Unit {0}

abbrev pub AreReadyAt : {most : ℕ} → Option TallyId → List (Part most) → Type 0
AreReadyAt tally parts = (p : ℕ) → p < length parts → IsReadyAt tally (length parts) p (part_in parts p)

pub record AreParts {most : ℕ} (f : Inside most) : Type 0 where
  pub blocks : All (IsPartOf f.tag) f.list.items
  pub ready : AreReadyAt f.tally f.list.items
  pub room : 4 ≤ vec_capacity f.list
