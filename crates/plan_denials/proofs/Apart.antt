-- What keeps off the denied ranges has no address of theirs.
use Rattle.std.proofs.Common.{◌≡◌, ℕ, ◌+◌, ◌<◌, ◌≤◌, List, [], ◌∷◌, length, get_or, Option, Some, None, refl}
use Rattle.base_laws.specs.Lists.{Each}
use Rattle.ir_model.specs.Resolved.{Program}
use Rattle.plan_model.specs.declared.graph.Cover.{Cover}
use Rattle.plan_model.specs.declared.graph.Final.{Final}
use Rattle.plan_model.proofs.Choices.{none_first}
use Rattle.plan_model.specs.declared.denied_ranges.Denied.{Denied}
use Rattle.plan_model.specs.Denied.{InDenied, first_met}
use Rattle.plan_model.proofs.Meeting.{none_in}
use Rattle.plan_denials.specs.declared.Asked.TheVariants.{Range}
use Rattle.plan_denials.specs.declared.Asked.{Asked}
use Rattle.plan_denials.specs.Meetings.{meeting_of, cover_meeting, covers_meeting, compartment_meeting, windows_meeting, compartments_meeting, KeepsOff}
use Rattle.plan_denials.proofs.First.{each_none, below_none}

no_meeting : (a : Asked) (o : Option ℕ) → meeting_of a o ≡ None → o ≡ None
no_meeting a None e = refl
no_meeting a (Some k) e = cc

-- no range of a compartment meets a denied one
pub cover_is_off : (ds : List Denied) (p : Program) (f : Final) → KeepsOff ds p f → (c k : ℕ) (d : Cover) → c < f.groups.count → k < length (get_or f.covers c [])
    → first_met ds (get_or (get_or f.covers c []) k d).base (get_or (get_or f.covers c []) k d).size ≡ None
unfolding covers_meeting compartments_meeting
cover_is_off ds p f e c k d l m =
    let covers : List Cover = get_or f.covers c [] in
    let all = (none_first (compartments_meeting ds f) [] (none_first (windows_meeting ds p) (compartments_meeting ds f ∷ []) e).1).0 in
    let own = below_none (compartment_meeting ds f) f.groups.count c all l in
    no_meeting (Range c (get_or covers k d)) (first_met ds (get_or covers k d).base (get_or covers k d).size) (each_none (cover_meeting ds c) covers k d own m)

-- no address of such a cover is denied
pub cover_is_allowed : (ds : List Denied) (p : Program) (f : Final) → KeepsOff ds p f → (c k : ℕ) (d : Cover) → c < f.groups.count → k < length (get_or f.covers c [])
    → (a : ℕ) → (get_or (get_or f.covers c []) k d).base ≤ a → a < (get_or (get_or f.covers c []) k d).base + (get_or (get_or f.covers c []) k d).size
    → Each (λ x. InDenied x a → ⊥) ds
cover_is_allowed ds p f e c k d l m a lo hi =
    none_in ds (get_or (get_or f.covers c []) k d).base (get_or (get_or f.covers c []) k d).size a (cover_is_off ds p f e c k d l m) lo hi
