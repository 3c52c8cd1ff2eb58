-- The laws of running code, put together.
use Rattle.machine_model.specs.State.{PermissionTest}
use Rattle.machine_devices.specs.declared.image.Image.{Image}
use Rattle.machine_model.specs.Running.{StepsAreActs, RunsGoOn, EachLive, ActSteps, ExceptionSteps}
use Rattle.machine_model.proofs.Exec.{stepped, next_step, next_event, onward}
use Rattle.machine_model.proofs.Acts.{changes, loads_ram, loads_flash, loads_window, loads_nothing, stores_ram, stores_window, halts}
use Rattle.machine_model.proofs.Stack.{loads_many, stores_many}
use Rattle.machine_model.proofs.Entries.{calls, faults_load, faults_store, faults_loads, faults_stores, faults_fetch, returns_to_psp, returns_to_msp}
use Rattle.machine_model.specs.InstructionEffects.{EachWorks, RegisterSteps, BranchSteps, StackSteps, TransferSteps, SpecialSteps, ThreadSteps}
use Rattle.machine_model.proofs.InstructionEffects.{movs, cmp_immediate, cmp, immediate_gives, shift_gives, sum_gives, small_sum_gives, operation_gives, operation_tests, movw, movt, udiv, sdiv, mov_to_r12, mov_from_r12, mov_to_lr, nop, barrier, bkpt, b_taken, b_not_taken, b, b_wide, bl}
use Rattle.machine_model.proofs.Transfers.{blx_r12, bx_lr, ldr_sp, str_sp, add_d_sp, add_sp, sub_sp, push_lr, pop_pc, load_ram, load_flash, load_window, load_nothing, store_ram, store_window, ldr_literal}
use Rattle.machine_model.proofs.Special.{mrs_psp, msr_psp, mrs_control, msr_control_in_handler, msr_control_to_psp, store_system, load_system}
use Rattle.machine_model.proofs.Threads.{svc_from_psp, svc_from_msp, bx_to_psp, bx_to_msp}
use Rattle.machine_model.proofs.Constants.{adds, subs, adds_immediate, subs_immediate, mov_low, movw_r12, movt_r12, word_into, word_into_r12, bx_low, load_act, store_act}

pub steps_are_acts : StepsAreActs
steps_are_acts = stepped

pub runs_go_on : (j : PermissionTest) (i : Image) → RunsGoOn j i
runs_go_on j i = record {
  next_step = λ k s t u es a g. next_step a g;
  next_event = λ k s t u e es a g. next_event a g;
  onward = λ m k s t u xs ys g h. onward j i g h;
}

pub act_steps : EachLive ActSteps
act_steps j i c p t ram queues x = record {
  changes = λ d e st. changes j i c p t ram queues x d st e;
  loads_ram = λ w a o go e v l st. loads_ram j i c p t ram queues x w a o go st e v l;
  loads_flash = λ w a o go e v l st. loads_flash j i c p t ram queues x w a o go st e v l;
  loads_window = λ w a k o u us go e v l q st. loads_window j i c p t ram queues x w a k o u us go st e v l q;
  loads_nothing = λ w a k o go e v l q st. loads_nothing j i c p t ram queues x w a k o go st e v l q;
  stores_ram = λ w a o u d e v l st. stores_ram j i c p t ram queues x w a o u d st e v l;
  stores_window = λ w a k o u d e v l st. stores_window j i c p t ram queues x w a k o u d st e v l;
  loads_many = λ a o n go d e w m f st. loads_many j i c p t ram queues x a o n go d st e w m f;
  stores_many = λ a o vs d e w m st. stores_many j i c p t ram queues x a o vs d st e w m;
  halts = λ n e st. halts j i c p t ram queues x n st e;
}

pub exception_steps : EachLive ExceptionSteps
exception_steps j i c p t ram queues x = record {
  calls = calls j i c p t ram queues x;
  faults_load = faults_load j i c p t ram queues x;
  faults_store = faults_store j i c p t ram queues x;
  faults_loads = faults_loads j i c p t ram queues x;
  faults_stores = faults_stores j i c p t ram queues x;
  faults_fetch = faults_fetch j i c p t ram queues;
  returns_to_psp = returns_to_psp j i c p t ram queues x;
  returns_to_msp = returns_to_msp j i c p t ram queues x;
}

pub register_steps : EachWorks RegisterSteps
register_steps j i x low sp lr pc f ram queues = record {
  adds = adds j i x low sp lr pc f ram queues;
  subs = subs j i x low sp lr pc f ram queues;
  adds_immediate = adds_immediate j i x low sp lr pc f ram queues;
  subs_immediate = subs_immediate j i x low sp lr pc f ram queues;
  mov_low = mov_low j i x low sp lr pc f ram queues;
  movw_r12 = movw_r12 j i x low sp lr pc f ram queues;
  movt_r12 = movt_r12 j i x low sp lr pc f ram queues;
  word_into = word_into j i x low sp lr pc f ram queues;
  word_into_r12 = word_into_r12 j i x low sp lr pc f ram queues;
  movs = movs j i x low sp lr pc f ram queues;
  cmp_immediate = cmp_immediate j i x low sp lr pc f ram queues;
  cmp = cmp j i x low sp lr pc f ram queues;
  immediate_gives = immediate_gives j i x low sp lr pc f ram queues;
  shift_gives = shift_gives j i x low sp lr pc f ram queues;
  sum_gives = sum_gives j i x low sp lr pc f ram queues;
  small_sum_gives = small_sum_gives j i x low sp lr pc f ram queues;
  operation_gives = operation_gives j i x low sp lr pc f ram queues;
  operation_tests = operation_tests j i x low sp lr pc f ram queues;
  movw = movw j i x low sp lr pc f ram queues;
  movt = movt j i x low sp lr pc f ram queues;
  udiv = udiv j i x low sp lr pc f ram queues;
  sdiv = sdiv j i x low sp lr pc f ram queues;
  mov_to_r12 = mov_to_r12 j i x low sp lr pc f ram queues;
  mov_from_r12 = mov_from_r12 j i x low sp lr pc f ram queues;
  mov_to_lr = mov_to_lr j i x low sp lr pc f ram queues;
  nop = nop j i x low sp lr pc f ram queues;
  barrier = barrier j i x low sp lr pc f ram queues;
  bkpt = bkpt j i x low sp lr pc f ram queues;
}

pub branch_steps : EachWorks BranchSteps
branch_steps j i x low sp lr pc f ram queues = record {
  bx_low = bx_low j i x low sp lr pc f ram queues;
  b_taken = b_taken j i x low sp lr pc f ram queues;
  b_not_taken = b_not_taken j i x low sp lr pc f ram queues;
  b = b j i x low sp lr pc f ram queues;
  b_wide = b_wide j i x low sp lr pc f ram queues;
  bl = bl j i x low sp lr pc f ram queues;
  blx_r12 = blx_r12 j i x low sp lr pc f ram queues;
  bx_lr = bx_lr j i x low sp lr pc f ram queues;
}

pub stack_steps : EachWorks StackSteps
stack_steps j i x low sp lr pc f ram queues = record {
  ldr_sp = ldr_sp j i x low sp lr pc f ram queues;
  str_sp = str_sp j i x low sp lr pc f ram queues;
  add_d_sp = add_d_sp j i x low sp lr pc f ram queues;
  add_sp = add_sp j i x low sp lr pc f ram queues;
  sub_sp = sub_sp j i x low sp lr pc f ram queues;
  push_lr = push_lr j i x low sp lr pc f ram queues;
  pop_pc = pop_pc j i x low sp lr pc f ram queues;
}

pub transfer_steps : EachWorks TransferSteps
transfer_steps j i x low sp lr pc f ram queues = record {
  load_act = load_act j i x low sp lr pc f ram queues;
  store_act = store_act j i x low sp lr pc f ram queues;
  load_ram = load_ram j i x low sp lr pc f ram queues;
  load_flash = load_flash j i x low sp lr pc f ram queues;
  load_window = load_window j i x low sp lr pc f ram queues;
  load_nothing = load_nothing j i x low sp lr pc f ram queues;
  store_ram = store_ram j i x low sp lr pc f ram queues;
  store_window = store_window j i x low sp lr pc f ram queues;
  ldr_literal = ldr_literal j i x low sp lr pc f ram queues;
}

pub special_steps : EachWorks SpecialSteps
special_steps j i x low sp lr pc f ram queues = record {
  mrs_psp = mrs_psp j i x low sp lr pc f ram queues;
  msr_psp = msr_psp j i x low sp lr pc f ram queues;
  mrs_control = mrs_control j i x low sp lr pc f ram queues;
  msr_control_in_handler = msr_control_in_handler j i x low sp lr pc f ram queues;
  msr_control_to_psp = msr_control_to_psp j i x low sp lr pc f ram queues;
  store_system = store_system j i x low sp lr pc f ram queues;
  load_system = load_system j i x low sp lr pc f ram queues;
}

pub thread_steps : EachWorks ThreadSteps
thread_steps j i x low sp lr pc f ram queues = record {
  svc_from_psp = svc_from_psp j i x low sp lr pc f ram queues;
  svc_from_msp = svc_from_msp j i x low sp lr pc f ram queues;
  bx_to_psp = bx_to_psp j i x low sp lr pc f ram queues;
  bx_to_msp = bx_to_msp j i x low sp lr pc f ram queues;
}
