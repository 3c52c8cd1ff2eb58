-- What `read` and `write` answer, from what their parts do.
use Rattle.std.proofs.Common.{◌≡◌, ℕ, zero, suc, ◌<◌, ◌^◌, ◌⊎◌, inl, inr, List, [], ◌∷◌, ◌++◌, length, get_or, Some, None, Result, Ok, Err, refl, sym, ap, ◌∙◌, subst, arith}
use Rattle.std.specs.Prelude.{IfOk, IfErr, OnOk}
use Rattle.std.specs.List.{flat_map}
use Rattle.machine_devices.specs.declared.image.Image.{Image}
use Rattle.machine_devices.specs.declared.image.Window.{Window}
use Rattle.machine_devices.specs.Rules.{ObeysRules, AreWindows}
use Rattle.machine_image.specs.declared.fault.ImageFault.{ImageFault}
use Rattle.machine_image.specs.declared.fault.ImageFault.TheVariants.{NoMemory, Short, Magic, Version, Field, Trailing}
use Rattle.machine_image.specs.Text.{magic, version, word_bytes, memory_bytes, place_bytes, protection_bytes, window_bytes, image_bytes, IsText}
use Rattle.machine_image.specs.Parts.{spelled_image}
use Rattle.machine_image.specs.Faults.{first_fault, Reads}
use Rattle.machine_image.proofs.Bytes.{AreBytes}
use Rattle.machine_image.proofs.Rows.{window_fits}
use Rattle.machine_image.proofs.Texts.{spelled_is_text, text_is_faultless, spelled_image-text}

Reads-fault : (b : List ℕ) (e : ImageFault) → (e ≡ NoMemory) ⊎ (first_fault b ≡ Some e) → Reads b (Err e)
Reads-fault b NoMemory h = tt
Reads-fault b (Short at) (inl h) = absurd cc
Reads-fault b (Short at) (inr h) = h
Reads-fault b Magic (inl h) = absurd cc
Reads-fault b Magic (inr h) = h
Reads-fault b (Version found) (inl h) = absurd cc
Reads-fault b (Version found) (inr h) = h
Reads-fault b (Field at) (inl h) = absurd cc
Reads-fault b (Field at) (inr h) = h
Reads-fault b (Trailing at) (inl h) = absurd cc
Reads-fault b (Trailing at) (inr h) = h

pub Reads-result : (b : List ℕ) (r : Result Image ImageFault) → AreBytes b → OnOk r (first_fault b ≡ None) → IfErr r (λ e. (e ≡ NoMemory) ⊎ (first_fault b ≡ Some e)) → IfOk r (λ i. i ≡ spelled_image b) → Reads b r
Reads-result b (Ok i) bytes passed fault value = subst (λ (k : Image). IsText k b) (sym value) (spelled_is_text b bytes passed)
Reads-result b (Err e) bytes passed fault value = Reads-fault b e fault

-- a text is read as its image, or memory runs out
pub Reads-text : (i : Image) (b : List ℕ) (r : Result Image ImageFault) → IsText i b → Reads b r → (r ≡ Ok i) ⊎ (r ≡ Err NoMemory)
Reads-text i b (Ok k) h reads = inl (ap Ok (sym (spelled_image-text k b reads) ∙ spelled_image-text i b h))
Reads-text i b (Err NoMemory) h reads = inr refl
Reads-text i b (Err (Short at)) h reads = let e = text_is_faultless i b h in absurd cc
Reads-text i b (Err Magic) h reads = let e = text_is_faultless i b h in absurd cc
Reads-text i b (Err (Version found)) h reads = let e = text_is_faultless i b h in absurd cc
Reads-text i b (Err (Field at)) h reads = let e = text_is_faultless i b h in absurd cc
Reads-text i b (Err (Trailing at)) h reads = let e = text_is_faultless i b h in absurd cc

pub short_names : (ws : List Window) → AreWindows ws → (k : ℕ) (d : Window) → k < length ws → length (get_or ws k d).name < 2 ^ 32
short_names [] h k d below = absurd (omega arith)
short_names (w ∷ ws) h zero d below = let fits = window_fits w h.0 in omega arith
short_names (w ∷ ws) h (suc k) d below = short_names ws h.2 k d (omega arith)

-- the text of an image as its parts are written
written : (i : Image) → image_bytes i ≡ ((((((magic ++ word_bytes (version i.regions i.closed)) ++ memory_bytes i) ++ place_bytes i) ++ word_bytes (length i.windows)) ++ protection_bytes i.regions i.closed) ++ flat_map window_bytes i.windows) ++ i.flash
unfolding image_bytes
written i = refl

pub IsText-written : (i : Image) (first second third fourth fifth sixth seventh last : List ℕ) → ObeysRules i → first ≡ magic → second ≡ first ++ word_bytes (version i.regions i.closed) → third ≡ second ++ memory_bytes i → fourth ≡ third ++ place_bytes i → fifth ≡ fourth ++ word_bytes (length i.windows) → sixth ≡ fifth ++ protection_bytes i.regions i.closed → seventh ≡ sixth ++ flat_map window_bytes i.windows → last ≡ seventh ++ i.flash → IsText i last
IsText-written i first second third fourth fifth sixth seventh last rules a b c d e f g h =
    let joined : last ≡ ((((((magic ++ word_bytes (version i.regions i.closed)) ++ memory_bytes i) ++ place_bytes i) ++ word_bytes (length i.windows)) ++ protection_bytes i.regions i.closed) ++ flat_map window_bytes i.windows) ++ i.flash = cc in
    record { rules = rules; spelled = written i ∙ sym joined }
