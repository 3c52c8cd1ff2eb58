-- What the law gives a running thread: code that may be fetched, stack that may be used, and what stays.
use Rattle.std.proofs.Common.{◌≡◌, ℕ, zero, suc, ◌+◌, ◌*◌, ◌%◌, ◌≤◌, List, [], ◌∷◌, true, Option, refl, ◌∙◌, subst, arith, inl, inr, ⊎_elim}
use Rattle.std.proofs.Math.Nat.{suc-mul}
use Rattle.base_words.specs.Bytes.{read}
use Rattle.base_words.specs.declared.conditions.Flags.{Flags}
use Rattle.machine_thumb.specs.declared.table.Code.{Code}
use Rattle.machine_thumb.specs.declared.table.Code.TheVariants as code
use Rattle.machine_thumb.specs.declared.table.Instr.{Instr}
use Rattle.machine_thumb.specs.Table.{encode, svc}
use Rattle.machine_thumb_asm.specs.declared.item.Item.{Item}
use Rattle.machine_thumb_asm.specs.declared.item.Item.TheVariants.{Plain, Branch, Half, Word}
use Rattle.machine_thumb_asm.specs.Assembly.{branch_size, place_of}
use Rattle.machine_thumb_asm.specs.Finished.{branch}
use Rattle.machine_protection.specs.declared.region.Access.TheVariants.{Fetch}
use Rattle.machine_devices.specs.declared.image.Image.{Image}
use Rattle.base_events.specs.declared.event.Event.{Event}
use Rattle.machine_model.specs.declared.state.ProtectionState.{ProtectionState}
use Rattle.machine_model.specs.State.{State, PermissionTest, by_mpu}
use Rattle.machine_model.specs.Code.{size, MayFetch, Stands, Runs}
use Rattle.machine_model.specs.Shape.{StateFits}
use Rattle.machine_model.specs.Stack.{Room}
use Rattle.machine_model.specs.RunningCode.{Context, works}
use Rattle.monitor_model.specs.Block.{MonitorBlock}
use Rattle.monitor_model.specs.Setting.{Setting}
use Rattle.monitor_model.specs.Threads.{Stays, KeepsOff, base, stack_end}
use Rattle.monitor_model.specs.Law.{Law}
use Rattle.code_effects.specs.Items.{ItemsAt}
use Rattle.refine.specs.Areas.{Area, Has}
use Rattle.base_laws.specs.Lists.{Each}
use Rattle.refine.specs.CodeLaws.{CodeLaws}
use Rattle.refine.specs.Owned.{owner, Owns, MemoryRules}
use Rattle.refine.proofs.Areas.{has_alike}
use Rattle.code_effects.proofs.Kept.{Kept}

-- one part of several is no more than all of them
pub one_part : (n e : ℕ) → 1 ≤ n → e ≤ n * e
one_part zero e h = absurd (omega (arith, h))
one_part (suc n) e h = let m = suc-mul n e in omega (arith, m)

-- parts of a state written in another way
pub at_pc : (g : Setting) (k : ℕ) (s : State) (x : Context) (low : List ℕ) (sp lr pc to : ℕ) (f : Flags) (ram : List ℕ) (queues : List (List ℕ)) (es : List Event) → pc ≡ to →
    Runs by_mpu g.image k s (works x low sp lr pc f ram queues) es → Runs by_mpu g.image k s (works x low sp lr to f ram queues) es
at_pc g k s x low sp lr pc to f ram queues es e h = rw e at h

pub to_sp : (g : Setting) (k : ℕ) (s : State) (x : Context) (low : List ℕ) (sp to lr pc : ℕ) (f : Flags) (ram : List ℕ) (queues : List (List ℕ)) (es : List Event) → sp ≡ to →
    Runs by_mpu g.image k s (works x low sp lr pc f ram queues) es → Runs by_mpu g.image k s (works x low to lr pc f ram queues) es
to_sp g k s x low sp to lr pc f ram queues es e h = rw e at h

pub fits_sp : (g : Setting) (x : Context) (low : List ℕ) (sp to lr pc : ℕ) (f : Flags) (ram : List ℕ) (queues : List (List ℕ)) → sp ≡ to →
    StateFits g.image (works x low sp lr pc f ram queues) → StateFits g.image (works x low to lr pc f ram queues)
fits_sp g x low sp to lr pc f ram queues e h = rw e at h

pub fits_pc : (g : Setting) (x : Context) (low : List ℕ) (sp lr pc to : ℕ) (f : Flags) (ram : List ℕ) (queues : List (List ℕ)) → pc ≡ to →
    StateFits g.image (works x low sp lr pc f ram queues) → StateFits g.image (works x low sp lr to f ram queues)
fits_pc g x low sp lr pc to f ram queues e h = rw e at h

pub started : (g : Setting) (n : ℕ) (t s u : State) (es : List Event) → t ≡ s → Runs by_mpu g.image n s u es → Runs by_mpu g.image n t u es
started g n t s u es e r = rw e r

-- where one judge lets fetch what another does, pieces that may run by the one may run by the other
judged_code : (j u : PermissionTest) (p q : ProtectionState) (pc : ℕ) (c : Code) → ((a : ℕ) → j p Fetch a ≡ true → u q Fetch a ≡ true) → MayFetch j p pc c → MayFetch u q pc c
judged_code j u p q pc (code.Half h) m f = m pc f
judged_code j u p q pc (code.Pair h k) m f = (m pc f.0, m (pc + 2) f.1)

judged_one : (j u : PermissionTest) (i : Image) (p q : ProtectionState) (pc : ℕ) (x : Instr) → ((a : ℕ) → j p Fetch a ≡ true → u q Fetch a ≡ true) → Stands j i p pc x → Stands u i q pc x
judged_one j u i p q pc x m s = record { lies = s.lies; may_fetch = judged_code j u p q pc (encode x) m s.may_fetch }

pub judged : (j u : PermissionTest) (i : Image) (p q : ProtectionState) (labels : List (Option ℕ)) (items : List Item) (at : ℕ) → ((a : ℕ) → j p Fetch a ≡ true → u q Fetch a ≡ true) → ItemsAt j i p labels at items → ItemsAt u i q labels at items
judged j u i p q labels [] at m h = tt
judged j u i p q labels (Plain x ∷ more) at m h = (judged_one j u i p q at x m h.0, judged j u i p q labels more (at + size x) m h.1)
judged j u i p q labels (Branch kind to ∷ more) at m h = (judged_one j u i p q at (branch kind at (place_of labels to.number)) m h.0, judged j u i p q labels more (at + branch_size kind) m h.1)
judged j u i p q labels (Half w ∷ more) at m h = (h.0, judged j u i p q labels more (at + 2) m h.1)
judged j u i p q labels (Word w ∷ more) at m h = (h.0, h.1, judged j u i p q labels more (at + 4) m h.2)

-- a compartment's SVC
pub call_owned : (g : Setting) (c : ℕ) (p : ProtectionState) (pc n : ℕ) → Stands (owner g c) g.image p pc (svc n) → g.has_code c pc ≡ true
unfolding encode
call_owned g c p pc n s = s.may_fetch

module _ (g : Setting) (Inv : MonitorBlock → Context → List ℕ → Type 0) (law : Law g Inv) (rules : MemoryRules g) (laws : CodeLaws) where
  pub fits_after : (k : ℕ) (s t : State) (es : List Event) → StateFits g.image s → Runs by_mpu g.image k s t es → StateFits g.image t
  fits_after k s t es f r = laws.fit by_mpu g.image k s t es rules.image f r

  pub runs_here : (m : MonitorBlock) (x : Context) (ram : List ℕ) (labels : List (Option ℕ)) (at : ℕ) (items : List Item) → Inv m x ram → Owns g m.current labels at items → ItemsAt by_mpu g.image x.protection labels at items
  runs_here m x ram labels at items i o = judged (owner g m.current) by_mpu g.image x.protection x.protection labels items at (λ a h. law.permits.fetches m x ram a i h) (o.stands x.protection)

  -- words of the open stack
  pub room : (m : MonitorBlock) (x : Context) (ram : List ℕ) (o n : ℕ) → Inv m x ram → o % 4 ≡ 0 → g.stack ≤ o → base g + o + 4 * n ≤ m.top → Room by_mpu g.image x.protection (base g + o) o n
  room m x ram o n i al l h =
      let t = law.keeps.top_inside m x ram i in
      let ra = rules.image.ram_aligned in
      let rh = rules.image.ram_highest in
      let rm = rules.image.ram_most in
      let f = rules.fits in
      record {
        words = record { is_at = refl; aligned = omega arith; fits = omega arith; low = omega arith };
        reads = λ k lt. let e : base g + o + 4 * k ≡ base g + (o + 4 * k) = omega arith in rw e (law.permits.reads_stack m x ram (o + 4 * k) i (omega arith) (omega arith));
        writes = λ k lt. let e : base g + o + 4 * k ≡ base g + (o + 4 * k) = omega arith in rw e (law.permits.writes_stack m x ram (o + 4 * k) i (omega arith) (omega arith));
      }

  -- the invariant stays where the stack alone changes
  pub inv_kept : (m : MonitorBlock) (x : Context) (old new : List ℕ) (lo hi : ℕ) → Inv m x old → Kept lo hi old new → g.stack ≤ lo → hi ≤ stack_end g → Inv m x new
  inv_kept m x old new lo hi i k l h =
      law.keeps.off_words m x old new i (λ w a u v. k.reads w a (⊎_elim (λ y. inl (omega arith)) (λ y. inr (omega arith)) rules.apart)) k.as_long

pub stays_kept : (g : Setting) (lo hi below : ℕ) (old new : List ℕ) → Kept lo hi old new → g.stack ≤ lo → hi ≤ below → Stays g below old new
stays_kept g lo hi below old new k l h = record {
  reads = λ w a o. k.reads w a (⊎_elim (λ y. inl (omega arith)) (λ y. inr (omega arith)) o.0);
  as_long = k.as_long;
}

pub stays_none : (g : Setting) (below : ℕ) (ram : List ℕ) → Stays g below ram ram
stays_none g below ram = record { reads = λ w a o. refl; as_long = refl }

pub stays_on : (g : Setting) (c d below : ℕ) (old mid new : List ℕ) → Stays g c old mid → Stays g d mid new → c ≤ below → d ≤ below → Stays g below old new
stays_on g c d below old mid new p q h k = record {
  reads = λ w a o.
      q.reads w a (⊎_elim (λ y. inl y) (λ y. inr (omega arith)) o.0, o.1) ∙ p.reads w a (⊎_elim (λ y. inl y) (λ y. inr (omega arith)) o.0, o.1);
  as_long = q.as_long ∙ p.as_long;
}

pub stays_at : (g : Setting) (c d : ℕ) (old new : List ℕ) → c ≡ d → Stays g c old new → Stays g d old new
stays_at g c d old new e s = subst (λ (n : ℕ). Stays g n old new) e s

-- an area that handlers leave alone
abbrev pub IsSafe : Setting → (below : ℕ) → Area → Type 0
IsSafe g below c = KeepsOff g below c.at c.width

pub has_stays : (g : Setting) (below : ℕ) (old new : List ℕ) (cs : List Area) (vs : List ℕ) → Stays g below old new → Each (IsSafe g below) cs → Has old cs vs → Has new cs vs
has_stays g below old new cs vs s f h = has_alike cs vs old new s.as_long (alike cs f) h
  where
    alike : (cs : List Area) → Each (IsSafe g below) cs → Each (λ (c : Area). read c.width c.at new ≡ read c.width c.at old) cs
    alike [] f = tt
    alike (c ∷ cs) f = (s.reads c.width c.at f.0, alike cs f.1)
