use Rattle.std.proofs.Common.{sym, subst}
use Rattle.ir_model.specs.Plain.{PlainFirmware}
use Rattle.ir_model.specs.Canonical.{canonical}
use Rattle.ir_model.specs.Texts.{IsText}
use Rattle.ir_text_laws.proofs.Canonical.{canonical_is_text}
use Rattle.ir_text_laws.proofs.canonical_texts.Goals as goal

pub returns : goal.returns
returns c =
    record {
      own =
          λ v w h. (
            λ e. subst (λ (z : PlainFirmware). IsText z (canonical w)) (sym e) (canonical_is_text w h),
            λ t. c.texts.ensures.unique v w (canonical w) t (canonical_is_text w h),
          );
    }
