-- Beyond the program's claim: only laws, proofs and functions inside the tool cite this file.
-- The functions that code is made for: their registers, locals and blocks are those that they have, and few enough. `InstFits`
-- is for an instruction of a function whose code has these places.
use Rattle.std.specs.Prelude.{◌≡◌, ℕ, ◌<◌, ◌≤◌, List, length, Option, IfSome}
use Rattle.std.specs.List.{All}
use Rattle.ir_model.specs.Resolved as ir
use Rattle.ir_model.specs.Resolved.{NumberedInst, NumberedTerm, NumberedBlock, NumberedFunc, Named, TheGlobal, ThePeriph, TheLocal}
use Rattle.ir_model.specs.Signatures.{row_length}
use Rattle.ir_model.specs.TextLimits.{register_limit, parameter_limit}
use Rattle.ir_model.specs.Typing.{frame_limit}
use Rattle.plan_model.specs.CompileLimits.{lent_limit, site_limit}
use Rattle.code_model.specs.declared.places.CallSite.{CallSite}
use Rattle.code_model.specs.declared.places.Places.{Places}
use Rattle.code_model.specs.FrameShape.{frame_size}

module _ (q : Places) (g : NumberedFunc) where
  abbrev pub IsRegister : ℕ → Type 0
  IsRegister r = r < length g.regs

  -- the register that a result is kept in, if it is
  abbrev pub IsKept : Option ℕ → Type 0
  IsKept to = IfSome to IsRegister

  abbrev pub IsNamed : Named → Type 0
  IsNamed (TheGlobal x) = x < length q.globals
  IsNamed (ThePeriph w) = w < length q.windows
  IsNamed (TheLocal l) = l < length g.locals

  abbrev pub AreArguments : List ℕ → Type 0
  AreArguments args = (length args ≤ 4) × All IsRegister args

  abbrev pub InstFits : NumberedInst → Type 0
  InstFits (ir.Const to v) = IsRegister to
  InstFits (ir.Move to from) = IsRegister to × IsRegister from
  InstFits (ir.Bin op to a b) = IsRegister to × IsRegister a × IsRegister b
  InstFits (ir.Cmp op to a b) = IsRegister to × IsRegister a × IsRegister b
  InstFits (ir.Addr to of) = IsRegister to × IsNamed of
  InstFits (ir.FAddr to f) = IsRegister to × (f < length q.entries)
  InstFits (ir.Elem to base index size) = IsRegister to × IsRegister base × IsRegister index
  InstFits (ir.Field to base offset) = IsRegister to × IsRegister base
  InstFits (ir.Load to from t) = IsRegister to × IsRegister from
  InstFits (ir.Store to from t) = IsRegister to × IsRegister from
  InstFits (ir.Call to f args) = IsKept to × (f < length q.entries) × AreArguments args
  InstFits (ir.ICall to h args) = IsKept to × IsRegister h × AreArguments args

  abbrev pub TermFits : NumberedTerm → Type 0
  TermFits (ir.Jump b) = b < length g.blocks
  TermFits (ir.Branch on a b) = IsRegister on × (a < length g.blocks) × (b < length g.blocks)
  TermFits (ir.Ret r) = IsKept r

  pub record BlockFits (x : NumberedBlock) : Type 0 where
    pub insts : All InstFits x.insts
    pub term : TermFits x.term

  -- a function whose code has these places
  pub record FuncFits : Type 0 where
    pub registers : length g.regs ≤ register_limit
    pub params : row_length g.params ≤ parameter_limit
    pub params_first : row_length g.params ≤ length g.regs
    pub frame : frame_size g ≤ frame_limit
    pub some_block : 0 < length g.blocks
    pub blocks : All BlockFits g.blocks
    pub sites : All (λ (s : CallSite). s.number < site_limit) q.sites
    pub lends : length q.lends ≡ length g.locals
    pub lend_numbers : All (λ (n : Option ℕ). IfSome n (λ k. k < lent_limit)) q.lends
