-- What one window does to the checks of a row of windows, to the windows, and to the place behind them.
use Rattle.std.proofs.Common.{◌≡◌, ℕ, suc, List, [], ◌∷◌, ◌++◌, None, inl, inr, ap, sym, ◌∙◌, append_assoc}
use Rattle.machine_devices.specs.declared.image.Window.{Window}
use Rattle.machine_image.specs.declared.fault.ImageFault.{ImageFault}
use Rattle.machine_image.specs.Faults.{Checks, IsFirst, first_of, window_checks, windows_checks}
use Rattle.machine_image.specs.Parts.{window_at, behind_window, windows_from, behind_windows}
use Rattle.machine_image.proofs.Steps.{first_of-pass_all, first_of-stop_in}

pub checks-turn : (b : List ℕ) (at : ℕ) (seen : List Window) (n m next : ℕ) (now : List Window) → n ≡ suc m → next ≡ behind_window b at → now ≡ seen ++ window_at b at ∷ [] → first_of (window_checks b at seen) ≡ None → first_of (windows_checks b at seen n) ≡ first_of (windows_checks b next now m)
unfolding windows_checks
checks-turn b at seen n m next now e d w h =
    ap (λ k. first_of (windows_checks b at seen k)) e
    ∙ (first_of-pass_all (window_checks b at seen) (windows_checks b (behind_window b at) (seen ++ window_at b at ∷ []) m) h
    ∙ (ap (λ x. first_of (windows_checks b x (seen ++ window_at b at ∷ []) m)) (sym d)
    ∙ ap (λ ws. first_of (windows_checks b next ws m)) (sym w)))

pub windows-turn : (b : List ℕ) (at : ℕ) (seen : List Window) (n m next : ℕ) (now : List Window) → n ≡ suc m → next ≡ behind_window b at → now ≡ seen ++ window_at b at ∷ [] → seen ++ windows_from b at n ≡ now ++ windows_from b next m
unfolding windows_from
windows-turn b at seen n m next now e d w =
    ap (λ k. seen ++ windows_from b at k) e
    ∙ (sym (append_assoc seen (window_at b at ∷ []) (windows_from b (behind_window b at) m))
    ∙ (ap (λ x. (seen ++ window_at b at ∷ []) ++ windows_from b x m) (sym d)
    ∙ ap (λ ws. ws ++ windows_from b next m) (sym w)))

pub place-turn : (b : List ℕ) (at n m next : ℕ) → n ≡ suc m → next ≡ behind_window b at → behind_windows b at n ≡ behind_windows b next m
unfolding behind_windows
place-turn b at n m next e d =
    ap (λ k. behind_windows b at k) e ∙ ap (λ x. behind_windows b x m) (sym d)

-- no windows: nothing to check, to read or to pass over
pub checks-end : (b : List ℕ) (at : ℕ) (seen : List Window) (n : ℕ) → n ≡ 0 → windows_checks b at seen n ≡ []
unfolding windows_checks
checks-end b at seen n e = ap (windows_checks b at seen) e

pub windows-end : (b : List ℕ) (at n : ℕ) → n ≡ 0 → windows_from b at n ≡ []
unfolding windows_from
windows-end b at n e = ap (windows_from b at) e

pub place-end : (b : List ℕ) (at n : ℕ) → n ≡ 0 → behind_windows b at n ≡ at
unfolding behind_windows
place-end b at n e = ap (behind_windows b at) e

-- the next window's fault is the first where what is left has the fault of the whole
pub fault-turn : (b : List ℕ) (at : ℕ) (seen : List Window) (n m : ℕ) (e : ImageFault) (cs : Checks) → first_of cs ≡ first_of (windows_checks b at seen n) → n ≡ suc m → IsFirst (window_checks b at seen) e → IsFirst cs e
unfolding windows_checks
fault-turn b at seen n m e cs whole next (inl h) = inl h
fault-turn b at seen n m e cs whole next (inr h) =
    inr (whole
    ∙ (ap (λ k. first_of (windows_checks b at seen k)) next
    ∙ first_of-stop_in (window_checks b at seen) (windows_checks b (behind_window b at) (seen ++ window_at b at ∷ []) m) e h))
