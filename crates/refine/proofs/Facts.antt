-- What is known of every function's frame, and of where memory has its parts.
use Rattle.std.proofs.Common.{◌≡◌, ℕ, ◌+◌, ◌*◌, ◌%◌, ◌^◌, ◌<◌, ◌≤◌, length, get_or}
use Rattle.ir_model.specs.Layout.{rounded_up}
use Rattle.ir_model.specs.Resolved.{local_at}
use Rattle.plan_model.specs.Lending.{lend_count}
use Rattle.monitor_model.specs.Threads.{stack_end, KeepsOff}
use Rattle.refine.specs.Areas.{Area, Laid, Inside}
use Rattle.base_laws.specs.Lists.{Each}
use Rattle.refine.specs.Owned.{MemoryRules, Lendable}
use Rattle.refine.specs.Builds.{Build, func, words_at, starts_at, lends_at}
use Rattle.refine.specs.Relation.{own, objects_at, global_areas}

module _ (k : Build) where
  pub record GoodShape (f : ℕ) : Type 0 where
    pub registers : length (func k f).regs ≤ words_at k f
    pub starts : length (starts_at k f) ≡ length (func k f).locals
    pub few : words_at k f ≤ 247
    pub even : (4 * words_at k f + 4) % 8 ≡ 0
    pub laid : (at : ℕ) → Laid (own k f at)
    pub inside : (at : ℕ) → Each (Inside at (at + 4 * words_at k f + 4)) (own k f at)
    pub locals_inside : (at : ℕ) → Each (Inside (at + 4 * length (func k f).regs) (at + 4 * words_at k f)) (objects_at at (starts_at k f) (func k f).locals)
    -- each local lies at a multiple of 4, with room for its words
    pub local_aligned : (l : ℕ) → l < length (func k f).locals → get_or (starts_at k f) l 0 % 4 ≡ 0
    pub local_inside : (l : ℕ) → l < length (func k f).locals → get_or (starts_at k f) l 0 + rounded_up (local_at k.program f l).size 4 ≤ 4 * words_at k f
    pub lent : length (lends_at k f) ≤ lend_count k.needs k.groups f
    pub lendable : Lendable k.setting (words_at k f) (lends_at k f)

  pub record Facts : Type 0 where
    pub rules : MemoryRules k.setting
    pub shapes : (f : ℕ) → GoodShape f
    pub globals_laid : Laid (global_areas k)
    pub globals_off : Each (λ (c : Area). KeepsOff k.setting (stack_end k.setting) c.at c.width) (global_areas k)
    pub stub_even : k.setting.stub % 2 ≡ 0
    pub stub_low : k.setting.stub + 1 < 2 ^ 32
