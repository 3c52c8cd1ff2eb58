-- Beyond the program's claim: only laws, proofs and functions inside the tool cite this file.
-- What holds of the tables of every firmware: statements of laws.
use Rattle.std.specs.Prelude.{◌≡◌, length}
use Rattle.ir_model.specs.Resolved.{Program}
use Rattle.plan_model.specs.declared.needs.Needs.{Needs}
use Rattle.plan_model.specs.declared.graph.Final.{Final}
use Rattle.plan_model.specs.declared.plan.Plan.{Plan}
use Rattle.plan_model.specs.declared.plan.Board.{Board}
use Rattle.plan_model.specs.Crossing.{crossing_sites, target_count}
use Rattle.plan_model.specs.Lending.{lent}
use Rattle.plan_model.specs.TableSize.{filled_blocks, initial_words}
use Rattle.image_model.specs.LinkedTables.{tables_of}

-- the tables have as many records as the size of the tables counts
pub record CountsAgree : Type 0 where
  pub comps : (p : Program) (n : Needs) (f : Final) (l : Plan) (b : Board) → length (tables_of p n f l b).comps ≡ f.groups.count
  pub sites : (p : Program) (n : Needs) (f : Final) (l : Plan) (b : Board) → length (tables_of p n f l b).sites ≡ length (crossing_sites n f.groups)
  pub targets : (p : Program) (n : Needs) (f : Final) (l : Plan) (b : Board) → length (tables_of p n f l b).targets ≡ target_count (crossing_sites n f.groups)
  pub lends : (p : Program) (n : Needs) (f : Final) (l : Plan) (b : Board) → length (tables_of p n f l b).lends ≡ length (lent n f.groups)
  pub inits : (p : Program) (n : Needs) (f : Final) (l : Plan) (b : Board) → length (tables_of p n f l b).inits ≡ length (filled_blocks f)
  pub words : (p : Program) (n : Needs) (f : Final) (l : Plan) (b : Board) → length (tables_of p n f l b).words ≡ initial_words p f
