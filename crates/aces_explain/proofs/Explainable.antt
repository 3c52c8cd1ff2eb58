-- A good request has no outcome but the one that says that all was done.
use Rattle.std.proofs.Common.{◌≡◌, ℕ, List, refl}
use Rattle.ir_model.specs.declared.token.Excess.{Excess}
use Rattle.ir_model.specs.declared.token.Excess.TheVariants.{TooWide, Passes}
use Rattle.ir_model.specs.declared.token.Pos.{Pos}
use Rattle.ir_model.specs.Texts.{PassesAt}
use Rattle.ir_reader.specs.declared.fault.TextFault.TheVariants.{Utf8, Syntax, NumberTooWide, Limit}
use Rattle.ir_check_scopes.specs.declared.fault.CheckFault.TheVariants.{At}
use Rattle.aces_reports.specs.declared.failure.Fault.{Fault}
use Rattle.aces_reports.specs.declared.failure.Fault.TheVariants.{Text, Check}
use Rattle.aces_files.specs.Outcomes.{Outcome}
use Rattle.aces_firmwares.specs.Firmwares.{IsNoFirmware}
use Rattle.aces_firmwares.specs.Firmwares as firmwares
use Rattle.aces_explain.specs.Answers.{ExplainAnswer, not_utf8, unexpected, passed, ill_typed, fine}

-- a limit that bytes pass is a fault of theirs
passing : (bytes : List ℕ) (excess : Excess) (pos : Pos) → PassesAt bytes excess pos → ((f : Fault) → IsNoFirmware bytes f → ⊥) → ⊥
passing bytes TooWide pos h faultless =
    faultless _ (firmwares.no_text (Text (NumberTooWide pos)) (record { first = NumberTooWide pos; found = h; named = (refl, refl) }))
passing bytes (Passes which) pos h faultless =
    faultless _ (firmwares.no_text (Text (Limit which pos)) (record { first = Limit which pos; found = h; named = (refl, refl) }))

-- where the bytes have no fault, they are counted
pub explain_done : (firmware bytes : List ℕ) (o : Outcome) → ((f : Fault) → IsNoFirmware bytes f → ⊥) → ExplainAnswer firmware bytes o → o.status ≡ 0
explain_done firmware bytes o faultless (not_utf8 at h) =
    absurd (faultless _ (firmwares.no_text (Text (Utf8 at)) (record { first = Utf8 at; found = h; named = (refl, refl) })))
explain_done firmware bytes o faultless (unexpected pos h) =
    absurd (faultless _ (firmwares.no_text (Text (Syntax pos)) (record { first = Syntax pos; found = h; named = (refl, refl) })))
explain_done firmware bytes o faultless (passed excess pos h) = absurd (passing bytes excess pos h faultless)
explain_done firmware bytes o faultless (ill_typed w f pos h k p) =
    absurd (faultless (Check (At f.kind f.place)) (firmwares.ill_typed f.kind f.place (record { firmware = w; is_text = h; found = k })))
explain_done firmware bytes o faultless (fine w h) = refl
