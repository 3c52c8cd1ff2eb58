-- What the monitor's block says while a frame runs, and what the frame's registers hold.
use Rattle.std.proofs.Common.{◌≡◌, ℕ, ◌+◌, ◌*◌, ◌<◌, ◌≤◌, Option, Some, None, List, [], ◌∷◌, length, refl, sym, ap, ◌∙◌, arith}
use Rattle.base_laws.specs.Lists.{EachBelow}
use Rattle.base_words.specs.Bytes.{read, cut}
use Rattle.base_words.proofs.Bytes.{read_fits, cut_small}
use Rattle.ir_model.specs.Resolved.{Value, Number}
use Rattle.ir_model.specs.State.{Frame}
use Rattle.ir_model.specs.Step.{register}
use Rattle.ir_laws.specs.Moves.{Where, wheres}
use Rattle.code_model.specs.Places.{Lend}
use Rattle.monitor_model.specs.Block.{MonitorBlock, lent}
use Rattle.monitor_model.specs.Setting.{Setting}
use Rattle.monitor_model.specs.Threads.{base, HasRoom}
use Rattle.refine.specs.Areas.{Has}
use Rattle.refine.specs.Owned.{all_lent, loan_of}
use Rattle.refine.proofs.Areas.{loaded_spot}
use Rattle.refine.specs.Builds.{Build, func, lends_at}
use Rattle.refine.specs.Relation.{word_of, site_of, areas, held, ceiling_by, ceiling, beneath, block_of, AllFit, IsWhole}
use Rattle.refine.proofs.Facts.{Facts}
use Rattle.refine.proofs.Frames.{register_spot}

-- ---- what loans leave of the block

pub record SameBut (m n : MonitorBlock) (count : ℕ) : Type 0 where
  pub current : n.current ≡ m.current
  pub top : n.top ≡ m.top
  pub mark : n.mark ≡ m.mark
  pub loans : length n.loans ≡ length m.loans + count

pub all_lent_is : (g : Setting) (o : ℕ) (m : MonitorBlock) (ds : List Lend) → SameBut m (all_lent g o m ds) (length ds)
all_lent_is g o m [] = record { current = refl; top = refl; mark = refl; loans = omega arith }
all_lent_is g o m (d ∷ ds) =
    let r = all_lent_is g o (lent m (loan_of g o d)) ds in
    record { current = r.current; top = r.top; mark = r.mark; loans = let l = r.loans in omega arith }

module _ (k : Build) (places : ℕ → ℕ) where
  abbrev g : Setting
  g = k.setting

  by_site : (rest : List Where) (x : Option ℕ) (f : ℕ) → AllFit k places rest → base g + ceiling_by k places x rest ≤ (beneath k places x f rest (block_of k places rest)).top
  by_site [] None f a = omega arith
  by_site [] (Some s) f a = omega arith
  by_site (c ∷ rest) None f a =
      let t = (all_lent_is g (places c.number) (beneath k places (site_of k rest) c.func rest (block_of k places rest)) (lends_at k c.func)).top in
      let r = by_site rest (site_of k rest) c.func a.1 in
      let e = a.0.ends in
      omega arith
  by_site (c ∷ rest) (Some s) f a = omega arith

  -- the stack is open up to where the running function's frame ends
  pub top_least : (fr : Where) (rest : List Where) → AllFit k places (fr ∷ rest) → base g + ceiling k places rest ≤ (block_of k places (fr ∷ rest)).top
  top_least fr rest a =
      let t = (all_lent_is g (places fr.number) (beneath k places (site_of k rest) fr.func rest (block_of k places rest)) (lends_at k fr.func)).top in
      let b = by_site rest (site_of k rest) fr.func a.1 in
      omega arith

  pub is_open : (fr : Where) (rest : List Where) → AllFit k places (fr ∷ rest) → k.setting.stack + 32 ≤ places fr.number → HasRoom g (block_of k places (fr ∷ rest)) (places fr.number)
  is_open fr rest a r =
      let t = top_least fr rest a in
      let e = a.0.ends in
      record { aligned = a.0.aligned; low = r; high = omega arith }

  marks_by : (x : Option ℕ) (f : ℕ) (rest : List Where) (b : MonitorBlock) → b.mark ≤ length b.loans → (beneath k places x f rest b).mark ≤ length (beneath k places x f rest b).loans
  marks_by None f rest b h = h
  marks_by (Some s) f [] b h = h
  marks_by (Some s) f (c ∷ rest) b h = omega arith

  pub marks : (fs : List Where) → (block_of k places fs).mark ≤ length (block_of k places fs).loans
  marks [] = omega arith
  marks (fr ∷ rest) =
      let a = all_lent_is k.setting (places fr.number) (beneath k places (site_of k rest) fr.func rest (block_of k places rest)) (lends_at k fr.func) in
      let h = marks_by (site_of k rest) fr.func rest (block_of k places rest) (marks rest) in
      let m = a.mark in
      let l = a.loans in
      omega arith

pub read_cut : (a v : ℕ) (m : List ℕ) → read 4 a m ≡ v → read 4 a m ≡ cut 4 v
read_cut a v m e = sym (cut_small 4 (read 4 a m) (read_fits 4 a m)) ∙ ap (λ (x : ℕ). cut 4 x) e

module _ (k : Build) (places : ℕ → ℕ) (facts : Facts k) where
  -- what a register of the running function holds
  pub register_is : (fr : Frame) (rest : List Frame) (ss : List ℕ) (gs : List (List Value)) (ram : List ℕ) (r : ℕ) → IsWhole k fr → r < length (func k fr.func).regs →
      Has ram (areas k places (wheres (fr ∷ rest))) (held k places ss (fr ∷ rest) gs) → read 4 (places fr.number + 4 * r) ram ≡ cut 4 (word_of k places (register fr r))
  register_is fr rest ss gs ram r wh h has =
      loaded_spot (areas k places (wheres (fr ∷ rest))) (held k places ss (fr ∷ rest) gs) _ (record { at = places fr.number + 4 * r; width = 4 }) (word_of k places (register fr r)) (word_of k places (Number 0)) ram has
      (register_spot k places fr rest ss gs r (Number 0) (facts.shapes fr.func) wh (let l = wh.regs in omega arith))

  pub below_more : (n w : ℕ) (as_ : List ℕ) → n ≤ w → EachBelow n as_ → EachBelow w as_
  below_more n w [] l b = tt
  below_more n w (a ∷ as_) l b = (omega (arith, b.0), below_more n w as_ l b.1)
