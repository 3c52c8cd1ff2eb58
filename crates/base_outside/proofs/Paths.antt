-- Calls one behind another.
use Rattle.std.proofs.Common.{◌≡◌, ◌∙◌, ℕ, List, [], ◌∷◌, ◌++◌, refl, ap, subst, sym, append-nil, append_assoc, None}
use Rattle.base_outside.specs.Calls.{Call, Calls, Size, Read}
use Rattle.base_outside.specs.Reading.{EndsUnread, no_size, no_bytes}

-- calls that end unread end unread with others in front of them
pub unread_behind : (earlier calls : List Call) (name : List ℕ) → EndsUnread name calls → EndsUnread name (earlier ++ calls)
unread_behind earlier _ name (no_size before) =
    subst (EndsUnread name) (append_assoc earlier before (Size name None ∷ [])) (no_size (earlier ++ before))
unread_behind earlier _ name (no_bytes before place) =
    subst (EndsUnread name) (append_assoc earlier before (Read name place None ∷ [])) (no_bytes (earlier ++ before) place)

module _ {F : Type 0} (called : F → Call → F → Type 0) where
  -- one call
  pub calls_one : (first last : F) (call : Call) → called first call last → Calls called first (call ∷ []) last
  calls_one first last call h = (last, h, refl)

  -- the calls up to some files, and those from there on
  pub calls_joined : (first middle last : F) (before after : List Call) → Calls called first before middle → Calls called middle after last
      → Calls called first (before ++ after) last
  calls_joined first middle last [] after h k = subst (λ f. Calls called f after last) (sym h) k
  calls_joined first middle last (call ∷ before) after h k = (h.0, h.1, calls_joined h.0 middle last before after h.2 k)

  -- one more call
  pub calls_more : (first middle last : F) (calls : List Call) (call : Call) → Calls called first calls middle → called middle call last
      → Calls called first (calls ++ call ∷ []) last
  calls_more first middle last calls call h k = calls_joined first middle last calls (call ∷ []) h (calls_one middle last call k)

  -- Files that keep a record of their calls have these calls at its end, and no others: what a clause says of the calls that lead from files to
  -- files, it says of the calls that were made.
  pub calls_recorded : (record_of : F → List Call) → ((before after : F) (call : Call) → called before call after → record_of after ≡ record_of before ++ call ∷ [])
      → (first last : F) (calls : List Call) → Calls called first calls last → record_of last ≡ record_of first ++ calls
  calls_recorded record_of keeps first last [] h = ap record_of (sym h) ∙ sym (append-nil (record_of first))
  calls_recorded record_of keeps first last (call ∷ calls) h =
      calls_recorded record_of keeps h.0 last calls h.2
      ∙ (ap (λ x. x ++ calls) (keeps first h.0 call h.1) ∙ append_assoc (record_of first) (call ∷ []) calls)
