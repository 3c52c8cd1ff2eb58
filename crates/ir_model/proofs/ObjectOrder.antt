-- The order of objects is total.
use Rattle.std.specs.Cmp.{IsTotalOrder}
use Rattle.std.proofs.lemmas.Cmp.{nat_cmp_total, on_total, then_total}
use Rattle.ir_model.specs.Objects.{compare_objects, kind_of, number_of, local_of}

pub objects_total : IsTotalOrder compare_objects
objects_total = then_total (on_total kind_of nat_cmp_total) (then_total (on_total number_of nat_cmp_total) (on_total local_of nat_cmp_total))
