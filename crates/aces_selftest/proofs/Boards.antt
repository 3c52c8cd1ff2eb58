-- The board of self-tests obeys the rules of boards, and denies nothing.
use Rattle.std.proofs.Common.{◌≡◌, ℕ, List, [], ◌∷◌, length, map, get_or, Option, None, inl, refl, ap, ◌∙◌, arith}
use Rattle.ir_model.specs.Resolved.{Program}
use Rattle.plan_model.specs.Boards.{IsBoard}
use Rattle.plan_model.specs.declared.graph.Final.{Final}
use Rattle.plan_model.specs.declared.graph.Cover.{Cover}
use Rattle.plan_model.specs.Choices.{first_some}
use Rattle.plan_model.specs.Lists.{numbers_below}
use Rattle.plan_denials.specs.Meetings.{windows_meeting, window_meeting, covers_meeting, cover_meeting, compartment_meeting, compartments_meeting, KeepsOff}
use Rattle.aces_selftest.specs.TestBoard.{test_board}

pub test_board_obeys : IsBoard test_board
test_board_obeys =
    record {
      flash_aligned = refl;
      flash_highest = omega arith;
      flash_size = record { least = omega arith; most = omega arith; blocks = refl };
      ram_aligned = refl;
      ram_lowest = omega arith;
      ram_highest = omega arith;
      ram_size = record { least = omega arith; most = omega arith; blocks = refl };
      stack = (11, omega arith, omega arith, refl);
      regions = inl refl;
      denied = tt;
      few_denied = omega arith;
    }

-- ---- no range is denied

none_first_of : {X Y : Type 0} (g : X → Option Y) → ((x : X) → g x ≡ None) → (xs : List X) → first_some (map g xs) ≡ None
none_first_of g none [] = refl
none_first_of g none (x ∷ xs) = ap (λ o. first_some (o ∷ map g xs)) (none x) ∙ none_first_of g none xs

covers_keep_off : (c : ℕ) (ds : List Cover) → covers_meeting [] c ds ≡ None
unfolding covers_meeting
covers_keep_off c ds = none_first_of (cover_meeting [] c) (λ d. refl) ds

windows_keep_off : (p : Program) → windows_meeting [] p ≡ None
unfolding windows_meeting
windows_keep_off p = none_first_of (window_meeting [] p) (λ q. refl) (numbers_below (length p.periphs))

compartments_keep_off : (f : Final) → compartments_meeting [] f ≡ None
unfolding compartments_meeting
compartments_keep_off f = none_first_of (compartment_meeting [] f) (λ c. covers_keep_off c (get_or f.covers c [])) (numbers_below f.groups.count)

pub keeps_off : (p : Program) (f : Final) → KeepsOff [] p f
keeps_off p f =
    ap (λ o. first_some (o ∷ compartments_meeting [] f ∷ [])) (windows_keep_off p) ∙ ap (λ o. first_some (o ∷ [])) (compartments_keep_off f)
