-- Runs of the programs of checked firmwares, one step further.
use Rattle.std.proofs.Common.{◌≡◌, ℕ, suc, ◌+◌, ◌<◌, ◌≤◌, ◌^◌, List, [], ◌∷◌, ap, sym, ◌∙◌, subst, arith}
use Rattle.base_words.proofs.Runs.{run_none}
use Rattle.base_words.proofs.EventLines.{run_behind}
use Rattle.ir_model.specs.Types.{PlainType}
use Rattle.ir_model.specs.Resolved.{Program, func_at, NumberedInst, Const, Move, Bin, Cmp, Addr, FAddr, Elem, Field, Load, Store, Call, ICall, Here, Does, Ends, here}
use Rattle.ir_model.specs.Resolve.{resolve}
use Rattle.ir_model.specs.Runs.{source_after}
use Rattle.ir_model.specs.State.{Frame, Memory, SourceState, Running, Ended, start}
use Rattle.ir_model.specs.Step.{source_turn, source_step}
use Rattle.ir_laws.specs.Laws.{HasOrderedFrames, FramesStayOrdered}
use Rattle.ir_laws.specs.Moves.{Where, Moves, Moved, Pushed, Popped, MovesTo, FramesMove}
use Rattle.ir_laws.specs.Runs.{ValuesFitTypes, ElementsAreSmall}
use Rattle.ir_laws.specs.Sets.{everything}
use Rattle.ir_laws.specs.States.{FrameFits, StateFits}
use Rattle.ir_laws.specs.Typed.{sizes_of, InstTyped, HereTyped, Typed, TypedOverNumbers}
use Rattle.ir_run.specs.Elements.{HasSmallElement, HasSmallElementHere, HasSmallElements}
use Rattle.ir_model.specs.Checked.{IsChecked}
use Rattle.ir_run.specs.Runs.{RunState, HasMade, IsRun}

-- ---- frames that were made

one_more : {a b : List Where} {m n : ℕ} → Moves a m b n → n ≤ suc m
one_more (Moved {w} {v} {ws} {n} f e) = omega arith
one_more (Pushed {w} {v} {ws} {n} e) = omega arith
one_more (Popped {u} {w} {v} {ws} {n} f e) = omega arith

made_less : (m n : ℕ) (s : SourceState) → m ≤ n → HasMade m s → HasMade n s
made_less m n (Running fs k) l h = omega arith
made_less m n (Ended e) l h = tt

made_more : (n : ℕ) (fr : Frame) (rest : List Frame) (m : Memory) (s : SourceState) → m.made ≤ n → MovesTo fr rest m s → HasMade (suc n) s
made_more n fr rest m (Running fs k) l h = let more : k.made ≤ suc m.made = one_more h in omega arith
made_more n fr rest m (Ended e) l h = tt

-- a step makes at most one
one_made : FramesMove → (p : Program) (c : List ℕ) (n : ℕ) (s : SourceState) → HasMade n s → HasMade (suc n) (source_step p c s)
unfolding source_turn
one_made moves p c n (Running [] m) h = tt
one_made moves p c n (Running (fr ∷ rest) m) h = made_more n fr rest m (source_step p c (Running (fr ∷ rest) m)) h (moves p c fr rest m)
one_made moves p c n (Ended e) h = tt

made_first : (p : Program) (queues : List (List ℕ)) → HasMade 1 (start p queues)
unfolding start
made_first p queues = omega arith

-- ---- runs

pub first_run : FramesStayOrdered → (p : Program) (c : List ℕ) (queues : List (List ℕ)) (s : SourceState) → IsChecked p → s ≡ start p queues
    → IsRun (record { program = p; compartments = c; state = s; taken = 0 })
first_run frames p c queues s checked e =
    record {
      queues = queues;
      checked = checked;
      reached = e ∙ sym (run_none (source_step p c) (start p queues));
      frames = subst HasOrderedFrames (sym e) (frames.first p queues);
      made = subst (HasMade 1) (sym e) (made_first p queues);
      few = omega arith;
    }

pub next_run : FramesStayOrdered → FramesMove → (r : RunState) (s : SourceState) (n : ℕ) → IsRun r → s ≡ source_step r.program r.compartments r.state → n ≡ r.taken + 1 → n < 2 ^ 64
    → IsRun (record r { state = s; taken = n })
next_run frames moves r s n run e count few =
    let p = r.program in
    let c = r.compartments in
    let made : HasMade (suc (suc r.taken)) (source_step p c r.state) = one_made moves p c (suc r.taken) r.state run.made in
    let reached : source_step p c r.state ≡ source_after p c run.queues (r.taken + 1) = ap (source_step p c) run.reached ∙ sym (run_behind (source_step p c) r.taken (start p run.queues)) in
    record {
      queues = run.queues;
      checked = run.checked;
      reached = e ∙ reached ∙ ap (source_after p c run.queues) (sym count);
      frames = subst HasOrderedFrames (sym e) (frames.next p c r.state run.frames);
      made = made_less (suc (suc r.taken)) (suc n) s (omega arith) (subst (HasMade (suc (suc r.taken))) (sym e) made);
      few = few;
    }

-- ---- elements

module _ (law : ElementsAreSmall) (p : Program) (sizes : PlainType → ℕ) (fr : Frame) (fits : FrameFits p sizes everything fr) where
  small : (i : NumberedInst) → InstTyped p sizes (func_at p fr.func) i → HasSmallElement fr i
  small (Elem to base index size) h = λ o k e. law p sizes everything fr to base index size o k fits h e
  small (Const to v) h = tt
  small (Move to from) h = tt
  small (Bin op to a b) h = tt
  small (Cmp op to a b) h = tt
  small (Addr to of) h = tt
  small (FAddr to f) h = tt
  small (Field to base offset) h = tt
  small (Load to from t) h = tt
  small (Store to from t) h = tt
  small (Call to f args) h = tt
  small (ICall to r args) h = tt

  small_here : (h : Here) → HereTyped p sizes (func_at p fr.func) h → HasSmallElementHere fr h
  small_here (Does i) t = small i t
  small_here (Ends e) t = tt

small_in : ElementsAreSmall → (p : Program) (sizes : PlainType → ℕ) → Typed p sizes → (s : SourceState) → StateFits p sizes everything s → HasSmallElements p s
small_in law p sizes typed (Running [] m) fits = tt
small_in law p sizes typed (Running (fr ∷ rest) m) fits = small_here law p sizes fr fits.0.0 (here p fr.func fr.block fr.place) ((typed.funcs fr.func).code fr.block fr.place)
small_in law p sizes typed (Ended e) fits = tt

-- a run of a checked firmware goes to no element that is larger than an object
pub all_small : TypedOverNumbers → ValuesFitTypes → ElementsAreSmall → (p : Program) (c : List ℕ) (queues : List (List ℕ)) (n : ℕ) (s : SourceState)
    → IsChecked p → s ≡ source_after p c queues n → HasSmallElements p s
all_small places values law p c queues n s checked reached =
    let w = checked.firmware in
    let typed : Typed (resolve w) (sizes_of w) = places w checked.typed checked.within in
    let fits : StateFits (resolve w) (sizes_of w) everything (source_after (resolve w) c queues n) = (values w checked.typed checked.within).states c queues n in
    let at : HasSmallElements (resolve w) (source_after (resolve w) c queues n) = small_in law (resolve w) (sizes_of w) typed (source_after (resolve w) c queues n) fits in
    subst (HasSmallElements p) (sym reached) (subst (λ q. HasSmallElements q (source_after q c queues n)) (sym checked.is) at)
