use Rattle.std.proofs.Common.{ℕ, Bool, ◌++◌, codes, sym, ◌∙◌}
use Rattle.ir_model.specs.Plain.{firmware_of}
use Rattle.ir_program.specs.Seen.{program_of}
use Rattle.plan_model.specs.InitialGraph.{cover_of}
use Rattle.plan_model.specs.Covers.{is_inside}
use Rattle.plan_model.specs.Lists.{numbers_below}
use Rattle.plan_report.specs.Names.{periph_name}
use Rattle.plan_report.proofs.Growing.{made_kept, made_dropped}
use Rattle.plan_report.proofs.slots.put_periphs.Goals as goal
use Rattle.plan_report.proofs.slots.put_periphs.Goals.{then-holds_periph+in_ok-put_periph, else-holds_periph}
use Rattle.plan_model.proofs.Numbers.{numbers_more}

pub loop-i-preserved : goal.loop-i-preserved
loop-i-preserved c =
    let k : ℕ = c.loop-i.i in
    let test : ℕ → Bool = λ q. is_inside (cover_of (program_of c.args.subject.now.program.now) q) c.args.cover.now in
    let name = periph_name (firmware_of c.args.subject.now.firmware.now) in
    elim c.if-holds_periph.branch [
      | then-holds_periph+in_ok-put_periph w ↦ made_kept (λ n. codes " " ++ n) name test (numbers_below k) _ k c.args.text.now c.loop-i.text _ (numbers_more k) (sym c.holds_periph.ensures ∙ w.if-holds_periph.true) c.loop-i.invariant (w.text-is ∙ w.in_ok-put_periph.ensures)
      | else-holds_periph w ↦ made_dropped (λ n. codes " " ++ n) name test (numbers_below k) _ k c.args.text.now c.loop-i.text _ (numbers_more k) (sym c.holds_periph.ensures ∙ w.if-holds_periph.false) c.loop-i.invariant w.text-is
    ]
