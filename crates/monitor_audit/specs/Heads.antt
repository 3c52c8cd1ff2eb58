-- Beyond the program's claim: only laws, proofs and functions inside the tool cite this file.
-- The eight words in front of the records: what they are, and the rules that each has by itself.
use Rattle.std.specs.Prelude.{◌≡◌, ℕ, ◌+◌, ◌*◌, ◌≤◌, ◌<◌, ◌^◌, ◌&&◌, List, Option, nat_eq, nat_le}
use Rattle.machine_devices.specs.declared.image.Image.{Image}
use Rattle.monitor_model.specs.Layout.{page_size, head_size}
use Rattle.monitor_model.specs.Checks.{must, and_then}
use Rattle.monitor_model.specs.FromFlash.{word_at, comp_count, site_count, target_count, lend_count, init_count}
use Rattle.plan_model.specs.CompileLimits.{compartment_limit, site_limit, target_limit, lent_limit}
use Rattle.monitor_audit.specs.declared.head.Head.{Head}

-- they are the first of these bytes
pub record IsHead (bytes : List ℕ) (h : Head) : Type 0 where
  pub comps : h.comps ≡ comp_count bytes
  pub sites : h.sites ≡ site_count bytes
  pub targets : h.targets ≡ target_count bytes
  pub lends : h.lends ≡ lend_count bytes
  pub inits : h.inits ≡ init_count bytes
  pub stack_base : h.stack.base ≡ word_at bytes 20
  pub stack_size : h.stack.size ≡ word_at bytes 24
  pub monitor : h.monitor ≡ word_at bytes 28

-- the first of them that breaks its own rule
abbrev pub head_fails : Image → Head → Option ℕ
head_fails i h =
    and_then (must (nat_le 1 h.comps && nat_le h.comps compartment_limit) (i.flash_base + page_size))
    (and_then (must (nat_le h.sites site_limit) (i.flash_base + page_size + 4))
    (and_then (must (nat_le h.targets (target_limit * h.sites)) (i.flash_base + page_size + 8))
    (and_then (must (nat_le h.lends lent_limit) (i.flash_base + page_size + 12))
    (and_then (must (nat_eq h.stack.base i.stack_base) (i.flash_base + page_size + 20))
    (and_then (must (nat_eq h.stack.size i.stack_size) (i.flash_base + page_size + 24))
    (must (nat_eq h.monitor i.monitor) (i.flash_base + page_size + 28)))))))

-- the counts are so small that nothing made of them passes 64 bits
pub record KeepsLimits (h : Head) : Type 0 where
  pub some : 1 ≤ h.comps
  pub comps : h.comps ≤ compartment_limit
  pub sites : h.sites ≤ site_limit
  pub targets : h.targets ≤ 2 ^ 18
  pub lends : h.lends ≤ lent_limit
  pub inits : h.inits < 2 ^ 32

-- where the initial words stand behind the page, on a board with so many slots
abbrev pub words_offset : (slots : ℕ) → Head → ℕ
words_offset s h = head_size + (8 * s + 16) * h.comps + 12 * h.sites + 8 * h.targets + 4 * h.lends + 12 * h.inits
