-- Whole turns of an instruction that stands at the program counter.
use Rattle.std.proofs.Common.{◌≡◌, ℕ, ◌+◌, true, false, List, [], ◌∷◌, length, get_or, set, Option, Some, None, refl, ◌∙◌}
use Rattle.base_words.specs.Bytes.{read, write, cut, write_all}
use Rattle.machine_thumb.specs.declared.table.Instr.{Instr}
use Rattle.machine_protection.specs.declared.region.Access.TheVariants.{Read, Write}
use Rattle.machine_devices.specs.declared.image.Image.{Image}
use Rattle.machine_bus.specs.Locations.{InRam, InFlash, InWindow, location}
use Rattle.machine_model.specs.declared.state.CoreRegisters.{CoreRegisters}
use Rattle.machine_model.specs.declared.state.ProtectionState.{ProtectionState}
use Rattle.machine_model.specs.declared.state.FaultStatus.{FaultStatus}
use Rattle.machine_model.specs.declared.state.End.TheVariants.{Halt}
use Rattle.machine_model.specs.State.{State, PermissionTest, is_unprivileged, with_register, calm, ends}
use Rattle.machine_model.specs.Act.{Act, Changes, Loads, Stores, LoadsMany, StoresMany, GetsSpecial, SetsSpecial, Exchanges, Halts}
use Rattle.machine_model.specs.Instructions.{act}
use Rattle.machine_model.specs.System.{read_system, write_system, read_special, write_special}
use Rattle.machine_model.specs.declared.answers.Verdict.TheVariants.{ToBus, ToSystem}
use Rattle.machine_model.specs.Tests.{verdict}
use Rattle.machine_model.specs.Exceptions.{words_from, return_on_psp, return_on_msp, is_thread, unstacked}
use Rattle.machine_model.specs.Perform.{did_load, did_store, perform}
use Rattle.machine_model.specs.Step.{turn}
use Rattle.machine_model.specs.Events.{input_event, output_event}
use Rattle.machine_model.specs.Code.{size, Stands, live}
use Rattle.machine_model.specs.Stack.{Words, words_at, May}
use Rattle.machine_model.specs.Running.{EachLive}
use Rattle.machine_model.specs.Turns.{WholeTurns}
use Rattle.machine_model.proofs.Acts.{turns}
use Rattle.machine_model.proofs.Stack.{open_in_ram, words_verdict, got_are, put_are}
use Rattle.machine_model.proofs.StackWords.{stacked_are}

module _ (j : PermissionTest) (i : Image) (c : CoreRegisters) (p : ProtectionState) (t : FaultStatus) (ram : List ℕ) (queues : List (List ℕ)) (x : Instr) (h : Stands j i p c.pc x) where
  abbrev At : State
  At = live c p t ram queues

  abbrev Asks : Act → Type 0
  Asks a = act x (c.pc + size x) c ≡ a

  pub changes_turn : (d : CoreRegisters) → Asks (Changes d) → turn j i At ≡ calm (live d p t ram queues)
  unfolding perform
  changes_turn d e = turns j i c p t ram queues x (Changes d) h e

  pub load_ram_turn : (w a o : ℕ) (go : ℕ → CoreRegisters) → Asks (Loads w a go) → verdict j p Read w a ≡ ToBus → location i a ≡ InRam o →
      turn j i At ≡ did_load w a (live (go (read w o ram)) p t ram queues) None
  unfolding perform
  load_ram_turn w a o go e ok l = turns j i c p t ram queues x (Loads w a go) h e ∙ rw (ok, l) refl

  pub load_flash_turn : (w a o : ℕ) (go : ℕ → CoreRegisters) → Asks (Loads w a go) → verdict j p Read w a ≡ ToBus → location i a ≡ InFlash o →
      turn j i At ≡ did_load w a (live (go (read w o i.flash)) p t ram queues) None
  unfolding perform
  load_flash_turn w a o go e ok l = turns j i c p t ram queues x (Loads w a go) h e ∙ rw (ok, l) refl

  pub load_window_turn : (w a k o u : ℕ) (us : List ℕ) (go : ℕ → CoreRegisters) → Asks (Loads w a go) → verdict j p Read w a ≡ ToBus → location i a ≡ InWindow k o →
      get_or queues k [] ≡ u ∷ us → turn j i At ≡ did_load w a (live (go (cut w u)) p t ram (set queues k us)) (Some (input_event i ram k o w u))
  unfolding perform
  load_window_turn w a k o u us go e ok l q = turns j i c p t ram queues x (Loads w a go) h e ∙ rw (ok, l, q, q) refl

  pub load_system_turn : (w a : ℕ) (go : ℕ → CoreRegisters) → Asks (Loads w a go) → verdict j p Read w a ≡ ToSystem →
      turn j i At ≡ did_load w a (live (go (read_system a p t)) p t ram queues) None
  unfolding perform
  load_system_turn w a go e ok = turns j i c p t ram queues x (Loads w a go) h e ∙ rw ok refl

  pub store_ram_turn : (w a o u : ℕ) (d : CoreRegisters) → Asks (Stores w a u d) → verdict j p Write w a ≡ ToBus → location i a ≡ InRam o →
      turn j i At ≡ did_store w a (live d p t (write w o u ram) queues) None
  unfolding perform
  store_ram_turn w a o u d e ok l = turns j i c p t ram queues x (Stores w a u d) h e ∙ rw (ok, l, l) refl

  pub store_window_turn : (w a k o u : ℕ) (d : CoreRegisters) → Asks (Stores w a u d) → verdict j p Write w a ≡ ToBus → location i a ≡ InWindow k o →
      turn j i At ≡ did_store w a (live d p t ram queues) (Some (output_event i ram k o w u))
  unfolding perform
  store_window_turn w a k o u d e ok l = turns j i c p t ram queues x (Stores w a u d) h e ∙ rw (ok, l) refl

  pub store_system_turn : (w a u : ℕ) (d : CoreRegisters) → Asks (Stores w a u d) → verdict j p Write w a ≡ ToSystem →
      turn j i At ≡ did_store w a (write_system a u (live d p t ram queues)) None
  unfolding perform
  store_system_turn w a u d e ok = turns j i c p t ram queues x (Stores w a u d) h e ∙ rw ok refl

  pub loads_many_turn : (a o n : ℕ) (go : List ℕ → Option CoreRegisters) (d : CoreRegisters) → Asks (LoadsMany a n go) → Words i a o n → May j p Read a n → go (words_at n o ram) ≡ Some d →
      turn j i At ≡ record { to = live d p t ram queues; stores = []; loads = words_from a n; event = None }
  unfolding perform
  loads_many_turn a o n go d e w m f =
      let v = words_verdict j i p Read n a o w m in
      let g = got_are i n a o At w in
      turns j i c p t ram queues x (LoadsMany a n go) h e ∙ rw (v, g, f) refl

  pub stores_many_turn : (a o : ℕ) (vs : List ℕ) (d : CoreRegisters) → Asks (StoresMany a vs d) → Words i a o (length vs) → May j p Write a (length vs) →
      turn j i At ≡ record { to = live d p t (write_all 4 o vs ram) queues; stores = words_from a (length vs); loads = []; event = None }
  unfolding perform
  stores_many_turn a o vs d e w m =
      let v = words_verdict j i p Write (length vs) a o w m in
      let g = put_are i vs a o (live d p t ram queues) w in
      turns j i c p t ram queues x (StoresMany a vs d) h e ∙ rw (v, g) refl

  pub gets_turn : (n r : ℕ) (d : CoreRegisters) → Asks (GetsSpecial n r d) →
      turn j i At ≡ calm (live (with_register d r (read_special (is_unprivileged p) n At)) p t ram queues)
  unfolding perform
  gets_turn n r d e = turns j i c p t ram queues x (GetsSpecial n r d) h e

  pub sets_turn : (n v : ℕ) (d : CoreRegisters) → Asks (SetsSpecial n v d) → turn j i At ≡ calm (write_special (is_unprivileged p) n v At d)
  unfolding perform
  sets_turn n v d e = turns j i c p t ram queues x (SetsSpecial n v d) h e

  pub halts_turn : (n : ℕ) → Asks (Halts n) → turn j i At ≡ ends (Halt n) At
  unfolding perform
  halts_turn n e = turns j i c p t ram queues x (Halts n) h e

  pub return_psp_turn : (o : ℕ) → Asks (Exchanges return_on_psp) → p.handler ≡ true → Words i c.other_sp o 8 → May j (record p { handler = false }) Read c.other_sp 8 → is_thread (get_or (words_at 8 o ram) 7 0) ≡ true →
      turn j i At ≡ record { to = live (unstacked true c c.other_sp (words_at 8 o ram)) (record p { handler = false }) t ram queues; stores = []; loads = words_from c.other_sp 8; event = None }
  unfolding perform
  return_psp_turn o e is w m thread =
      let a = open_in_ram j i (record p { handler = false }) Read 8 c.other_sp o w m in
      let s = stacked_are i 8 c.other_sp o ram w in
      turns j i c p t ram queues x (Exchanges return_on_psp) h e ∙ rw (is, a, s, thread) refl

  pub return_msp_turn : (o : ℕ) → Asks (Exchanges return_on_msp) → p.handler ≡ true → Words i c.sp o 8 → May j (record p { handler = false }) Read c.sp 8 → is_thread (get_or (words_at 8 o ram) 7 0) ≡ true →
      turn j i At ≡ record { to = live (unstacked false c c.sp (words_at 8 o ram)) (record p { handler = false }) t ram queues; stores = []; loads = words_from c.sp 8; event = None }
  unfolding perform
  return_msp_turn o e is w m thread =
      let a = open_in_ram j i (record p { handler = false }) Read 8 c.sp o w m in
      let s = stacked_are i 8 c.sp o ram w in
      turns j i c p t ram queues x (Exchanges return_on_msp) h e ∙ rw (is, a, s, thread) refl

pub whole_turns : EachLive WholeTurns
whole_turns j i c p t ram queues x = record {
  changes = λ d e h. changes_turn j i c p t ram queues x h d e;
  loads_ram = λ w a o go e v l h. load_ram_turn j i c p t ram queues x h w a o go e v l;
  loads_flash = λ w a o go e v l h. load_flash_turn j i c p t ram queues x h w a o go e v l;
  loads_window = λ w a k o u us go e v l q h. load_window_turn j i c p t ram queues x h w a k o u us go e v l q;
  loads_system = λ w a go e v h. load_system_turn j i c p t ram queues x h w a go e v;
  stores_ram = λ w a o u d e v l h. store_ram_turn j i c p t ram queues x h w a o u d e v l;
  stores_window = λ w a k o u d e v l h. store_window_turn j i c p t ram queues x h w a k o u d e v l;
  stores_system = λ w a u d e v h. store_system_turn j i c p t ram queues x h w a u d e v;
  loads_many = λ a o n go d e w m f h. loads_many_turn j i c p t ram queues x h a o n go d e w m f;
  stores_many = λ a o vs d e w m h. stores_many_turn j i c p t ram queues x h a o vs d e w m;
  gets_special = λ n r d e h. gets_turn j i c p t ram queues x h n r d e;
  sets_special = λ n v d e h. sets_turn j i c p t ram queues x h n v d e;
  halts = λ n e h. halts_turn j i c p t ram queues x h n e;
  returns_to_psp = λ o e is w m thread h. return_psp_turn j i c p t ram queues x h o e is w m thread;
  returns_to_msp = λ o e is w m thread h. return_msp_turn j i c p t ram queues x h o e is w m thread;
}
