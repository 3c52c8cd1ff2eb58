-- The entry of a function: its frame, and the loans of its locals.
use Rattle.std.proofs.Common.{◌≡◌, ℕ, ◌+◌, ◌*◌, ◌%◌, ◌<◌, ◌≤◌, Bool, true, false, if◌then◌else◌, nat_le, List, [], length, get_or, Option, sym, ap, ◌∙◌, subst, arith, inl, inr, ⊎_elim}
use Rattle.base_words.specs.declared.conditions.Flags.{Flags}
use Rattle.machine_model.specs.State.{by_mpu}
use Rattle.machine_model.specs.Code.{Runs}
use Rattle.machine_model.specs.Shape.{StateFits}
use Rattle.machine_model.specs.Stack.{Room}
use Rattle.machine_model.specs.RunningCode.{Context, works}
use Rattle.ir_model.specs.Resolved.{NumberedFunc}
use Rattle.ir_model.specs.Signatures.{row_length}
use Rattle.code_model.specs.declared.places.Places.{Places}
use Rattle.code_model.specs.FrameShape.{frame_shape}
use Rattle.code_model.specs.Sizes.{entry_size}
use Rattle.code_model.specs.Templates.{entry_items}
use Rattle.monitor_model.specs.Block.{MonitorBlock}
use Rattle.monitor_model.specs.Setting.{Setting}
use Rattle.monitor_model.specs.Threads.{base}
use Rattle.monitor_model.specs.Law.{Law}
use Rattle.code_effects.specs.Points.{Point}
use Rattle.code_effects.specs.Entry.{Entered, entry_steps}
use Rattle.code_effects.proofs.Registers.{holds_known}
use Rattle.refine.specs.CodeLaws.{CodeLaws}
use Rattle.refine.specs.Owned.{Owns, MemoryRules}
use Rattle.refine.specs.Begun.{Filled}
use Rattle.code_effects.proofs.Kept.{Kept}
use Rattle.refine.proofs.Thread.{runs_here, room}

few_steps : (w : ℕ) → entry_steps w ≤ 4 + w
few_steps w = by (nat_le w 127)
  where
    by : (b : Bool) → (if b then 3 + w else 4 + w) ≤ 4 + w
    by true = omega arith
    by false = omega arith

some_steps : (w : ℕ) → 1 ≤ entry_steps w
some_steps w = by (nat_le w 127)
  where
    by : (b : Bool) → 1 ≤ (if b then 3 + w else 4 + w)
    by true = omega arith
    by false = omega arith

module _ (g : Setting) (Inv : MonitorBlock → Context → List ℕ → Type 0) (law : Law g Inv) (rules : MemoryRules g) (laws : CodeLaws) (fn : NumberedFunc) (q : Places) (labels : List (Option ℕ)) where
  -- the frame, right below the caller's stack pointer
  pub record Framed (x : Context) (low : List ℕ) (o w lr at : ℕ) (f : Flags) (arguments : List ℕ) (ram : List ℕ) (queues : List (List ℕ)) : Type 0 where
    pub count : ℕ
    pub least : 1 ≤ count
    pub within : count ≤ 4 + w
    pub after : List ℕ
    pub flags : Flags
    pub memory : List ℕ
    pub runs : Runs by_mpu g.image count (works x low (base g + o + 4 * w + 4) lr at f ram queues) (works x after (base g + o) lr (at + entry_size fn 0) flags memory queues) []
    pub filled : Filled o w lr arguments memory
    pub kept : Kept o (o + 4 * w + 4) ram memory

  pub frames : (w : ℕ) → (frame_shape fn).words ≡ w → (m : MonitorBlock) (x : Context) (low : List ℕ) (o lr at : ℕ) (f : Flags) (arguments : List ℕ) (ram : List ℕ) (queues : List (List ℕ)) → Inv m x ram →
      StateFits g.image (works x low (base g + o + 4 * w + 4) lr at f ram queues) → o % 4 ≡ 0 → g.stack ≤ o → base g + o + 4 * w + 4 ≤ m.top → length arguments ≡ row_length fn.params → length arguments ≤ w →
      ((k : ℕ) → k < length arguments → get_or low k 0 ≡ get_or arguments k 0) → Owns g m.current labels at (entry_items fn q) → Framed x low o w lr at f arguments ram queues
  frames w is m x low o lr at f arguments ram queues i ft al lo hi counts few agree code =
      let p : Point = record { context = x; registers = []; sp = base g + o + 4 * w + 4; lr = lr; pc = at; ram = ram; queues = queues } in
      let effects = laws.entry by_mpu g.image fn q labels p o (base g + o) in
      let has = runs_here g Inv law rules laws m x ram labels at (entry_items fn q) i code in
      let rm0 = room g Inv law rules laws m x ram o (w + 1) i al lo (omega arith) in
      let rm = subst (λ (n : ℕ). Room by_mpu g.image x.protection (base g + o) o (n + 1)) (sym is) rm0 in
      let sp_is : base g + o + 4 * ((frame_shape fn).words + 1) ≡ base g + o + 4 * w + 4 = ap (λ (n : ℕ). base g + o + 4 * (n + 1)) is ∙ omega arith in
      let few1 = subst (λ (n : ℕ). length arguments ≤ n) (sym is) few in
      let made = effects.frame arguments counts few1 sp_is ft.ram_count rm has in
      let arrived = made.leads.arrives low f (holds_known arguments low ft.core.low_count agree) in
      let entered : Entered o w lr arguments ram made.ram = subst (λ (n : ℕ). Entered o n lr arguments ram made.ram) is made.entered in
      let steps = subst (λ (n : ℕ). (1 ≤ entry_steps (frame_shape fn).words) × (entry_steps (frame_shape fn).words ≤ 4 + n)) is (some_steps (frame_shape fn).words, few_steps (frame_shape fn).words) in
      record {
        count = entry_steps (frame_shape fn).words;
        least = steps.0;
        within = steps.1;
        after = arrived.low;
        flags = arrived.flags;
        memory = made.ram;
        runs = arrived.runs;
        filled = record { given = entered.given; cleared = entered.cleared; return_address = entered.return_address };
        kept = record { reads = λ u a h. entered.beside u a (⊎_elim (λ y. inl y) (λ y. inr (omega arith)) h); as_long = entered.as_long };
      }
