-- The bytes of words and of instructions behind them, when no branch to a label is among them; and what the page is made of.
use Rattle.std.proofs.Common.{◌≡◌, ℕ, ◌+◌, ◌-◌, ◌/◌, ◌%◌, ◌^◌, ◌<◌, ◌≤◌, true, ◌&&◌, List, [], ◌∷◌, ◌++◌, Option, None, map, length, length-append, take, get_or, replicate, Result, Ok, Err, IfOk, refl, ap, ap₂, sym, ◌∙◌, arith, append_assoc}
use Rattle.std.proofs.lemmas.List.{take_more, length-replicate}
use Rattle.machine_thumb.specs.declared.table.Instr.{Instr}
use Rattle.machine_thumb.specs.Table.{encode, width_of}
use Rattle.machine_thumb.specs.Bytes.{bytes_of_half, bytes_of_code, code_bytes}
use Rattle.machine_thumb_asm.specs.declared.item.Item.{Item}
use Rattle.machine_thumb_asm.specs.declared.item.Item.TheVariants.{Plain, Word}
use Rattle.machine_thumb_asm.specs.Assembly.{Assembly, ArePut, here}
use Rattle.machine_thumb_asm.specs.Finished.{bytes_from, first_far, assembled}
use Rattle.monitor_steps.specs.Steps.{PrivilegedSteps, names_low}
use Rattle.monitor_steps.specs.Lists.{steps_of}
use Rattle.monitor_steps.specs.Code.{code, code_length}
use Rattle.monitor_assembler.specs.Emitted.{MayPut, HasPut, has_near_offsets}
use Rattle.monitor_model.specs.Layout.{page_size}
use Rattle.monitor_program.specs.Constants.{Constants, most_slots}
use Rattle.monitor_program.specs.Svc.{svc}
use Rattle.monitor_program.specs.MemFault.{memfault}
use Rattle.monitor_program.specs.Reset.{reset}
use Rattle.monitor_model.specs.declared.tables.Tables.{Tables}
use Rattle.monitor_program.specs.Page.{bytes_of_words, stub_offset, svc_offset, memfault_offset, filled_up, leave_stub, monitor_code, vectors, constants, used_bytes, page}
use Rattle.monitor_code.specs.declared.calls.Lists.{Lists}
use Rattle.monitor_code.specs.Whole.{fits, HasWords, AreLists, CanPut, lists_code, vector_words}
use Rattle.monitor_code.proofs.Fits.{lists_fit}
use Rattle.machine_thumb_asm.proofs.Items.{total-append}
use Rattle.std.proofs.lemmas.Bool.{and_parts as parts_of}

word_bytes : (w : ℕ) → bytes_of_half (w % 2 ^ 16) ++ bytes_of_half (w / 2 ^ 16) ≡ w % 256 ∷ w / 2 ^ 8 % 256 ∷ w / 2 ^ 16 % 256 ∷ w / 2 ^ 24 ∷ []
word_bytes w =
    let a : w % 2 ^ 16 % 256 ≡ w % 256 = omega arith in
    let b : w % 2 ^ 16 / 256 ≡ w / 2 ^ 8 % 256 = omega arith in
    let d : w / 2 ^ 16 / 256 ≡ w / 2 ^ 24 = omega arith in
    cc

code_is : (places : List (Option ℕ)) (at : ℕ) (is : List Instr) → bytes_from places at (map Plain is) ≡ code_bytes is
code_is places at [] = refl
code_is places at (x ∷ is) = ap (λ bs. bytes_of_code (encode x) ++ bs) (code_is places (at + width_of (encode x)) is)

-- words, and instructions behind them
pub bytes_are : (places : List (Option ℕ)) (at : ℕ) (ws : List ℕ) (is : List Instr) → bytes_from places at (map Word ws ++ map Plain is) ≡ bytes_of_words ws ++ code_bytes is
bytes_are places at [] is = code_is places at is
bytes_are places at (w ∷ ws) is =
    ap (λ bs. bs ++ bytes_from places (at + 4) (map Word ws ++ map Plain is)) (word_bytes w)
    ∙ ap (λ bs. w % 256 ∷ w / 2 ^ 8 % 256 ∷ w / 2 ^ 16 % 256 ∷ w / 2 ^ 24 ∷ bs) (bytes_are places (at + 4) ws is)

plain_near : (places : List (Option ℕ)) (at : ℕ) (is : List Instr) → first_far places at (map Plain is) ≡ None
plain_near places at [] = refl
plain_near places at (x ∷ is) = plain_near places (at + width_of (encode x)) is

pub all_near : (places : List (Option ℕ)) (at : ℕ) (ws : List ℕ) (is : List Instr) → first_far places at (map Word ws ++ map Plain is) ≡ None
all_near places at [] is = plain_near places at is
all_near places at (w ∷ ws) is = all_near places (at + 4) ws is

plain_put : (places : List (Option ℕ)) (is : List Instr) → ArePut places (map Plain is)
plain_put places [] = tt
plain_put places (x ∷ is) = plain_put places is

pub all_put : (places : List (Option ℕ)) (ws : List ℕ) (is : List Instr) → ArePut places (map Word ws ++ map Plain is)
all_put places [] is = plain_put places is
all_put places (w ∷ ws) is = all_put places ws is

-- ---- words that are put

words-append : (xs ys : List ℕ) → map Word (xs ++ ys) ≡ map Word xs ++ map Word ys
words-append [] ys = refl
words-append (x ∷ xs) ys = ap (λ zs. Word x ∷ zs) (words-append xs ys)

-- one word more
pub one_word : (a m b : Assembly) (ws : List ℕ) (i d : ℕ) → i < length ws → HasWords a m (take i ws) → b ≡ record m { items = m.items ++ Word (get_or ws i d) ∷ [] }
    → HasWords a b (take (i + 1) ws)
one_word a m b ws i d lt p e =
    let w = get_or ws i d in
    let t = take_more ws i d lt in
    record {
      code = e ∙ ap (λ (x : Assembly). record x { items = x.items ++ Word w ∷ [] }) p.code ∙ ap (λ (xs : List Item). record a { items = xs }) (append_assoc a.items (map Word (take i ws)) (Word w ∷ []) ∙ ap (λ xs. a.items ++ xs) (sym (words-append (take i ws) (w ∷ [])) ∙ ap (λ xs. map Word xs) (sym t)));
      next = omega (arith, ap here e, total-append m.items (Word w ∷ []), p.next, ap (λ (xs : List ℕ). length xs) t, length-append (take i ws) (w ∷ []));
    }

-- ---- lists that may be put

pub may_put : (a : Assembly) (s : PrivilegedSteps) → fits s ≡ true → here a + code_length s < 2 ^ 24 → MayPut a s
may_put a s h room = record {
  registers = (parts_of (names_low s) (has_near_offsets s) h).0;
  offsets = (parts_of (names_low s) (has_near_offsets s) h).1;
  short = omega arith;
  room = omega arith;
}

-- ---- the page

-- of the lists of these constants: each fits, and all together are short
pub all_fit_in : (c : Constants) (l : Lists) (a : Assembly) → c.slots ≤ most_slots → AreLists c l → stub_offset c + 2 ≤ page_size → here a ≡ 64 → CanPut a l
all_fit_in c l a few is short at =
    let h = lists_fit c few in
    record {
      start = ap fits is.start ∙ (parts_of (fits (reset c)) (fits (svc c) && fits (memfault c)) h).0;
      svc = ap fits is.svc ∙ (parts_of (fits (svc c)) (fits (memfault c)) (parts_of (fits (reset c)) (fits (svc c) && fits (memfault c)) h).1).0;
      memfault = ap fits is.memfault ∙ (parts_of (fits (svc c)) (fits (memfault c)) (parts_of (fits (reset c)) (fits (svc c) && fits (memfault c)) h).1).1;
      room = omega (arith, ap code_length is.start, ap code_length is.svc, ap code_length is.memfault);
    }

pub used_fits : (size : ℕ) (bytes : List ℕ) → length (filled_up size bytes) ≡ size → length bytes ≤ size
used_fits size bytes e = omega (arith, e, length-append bytes (replicate (size - length bytes) 0xFF), length-replicate {A = ℕ} (size - length bytes) 0xFF)

-- what an assembler holds behind words and instructions
pub joined : (a b c : Assembly) (ws : List ℕ) (is : List Instr) → a ≡ record { base = 0; items = []; places = [] } → HasWords a b ws → HasPut b c is
    → c ≡ record { base = 0; items = map Word ws ++ map Plain is; places = [] }
joined a b c ws is e p q =
    let f : b ≡ record { base = 0; items = map Word ws; places = [] } = p.code ∙ ap (λ (x : Assembly). record x { items = x.items ++ map Word ws }) e in
    q.code ∙ ap (λ (x : Assembly). record x { items = x.items ++ map Plain is }) f

-- the bytes of it are those of the page that are not erased
pub page_bytes : (t : Tables) (c : Constants) (l : Lists) (a b z : Assembly) (ws : List ℕ) (call fault : ℕ) → AreLists c l → a ≡ record { base = 0; items = []; places = [] }
    → ws ≡ vector_words t c call fault → call ≡ svc_offset c → fault ≡ memfault_offset c → HasWords a b ws → HasPut b z (lists_code l) → assembled z ≡ used_bytes t c
page_bytes t c l a b z ws call fault are e w f g p q =
    let vs : ws ≡ vectors t c = w ∙ ap₂ (λ x y. vector_words t c x y) f g in
    let is : lists_code l ≡ monitor_code c =
    ap (λ s. code s ++ (code (steps_of l.svc.items) ++ (code (steps_of l.memfault.items) ++ leave_stub))) are.start
    ∙ ap (λ s. code (reset c) ++ (code s ++ (code (steps_of l.memfault.items) ++ leave_stub))) are.svc
    ∙ ap (λ s. code (reset c) ++ (code (svc c) ++ (code s ++ leave_stub))) are.memfault in
    ap assembled (joined a b z ws (lists_code l) e p q)
    ∙ bytes_are [] 0 ws (lists_code l)
    ∙ ap₂ (λ x y. bytes_of_words x ++ code_bytes y) vs is

pub if_ok : {T E : Type 0} {P Q : T → Type 0} (r : Result T E) → ((x : T) → P x → Q x) → IfOk r P → IfOk r Q
if_ok (Ok x) f p = f x p
if_ok (Err e) f p = p

pub used_is_short : (t : Tables) → length (page t) ≡ page_size → length (used_bytes t (constants t)) ≤ page_size
unfolding page
used_is_short t e = used_fits page_size (used_bytes t (constants t)) e
