use Rattle.std.proofs.Common.{◌≡◌, true}
use Rattle.ir_model.specs.Objects.{object_by}
use Rattle.ir_laws.specs.Sets.{Register}
use Rattle.need_sets.specs.Sets.{sets_of}
use Rattle.need_lists.proofs.Exact.{appended}
use Rattle.needs.proofs.objects.push_pointed.Goals as goal

pub returns : goal.returns
returns c = λ o.
    appended c.args.objects.now.items c.extend_from_slice.new.self.items c.of-pointed.result.now o (sets_of c.args.pts.now (Register c.args.func c.args.register) (object_by o) ≡ true)
    c.in_ok-extend_from_slice.ensures.items (c.of-pointed.ensures.each o, c.of-pointed.ensures.all o)
