use Rattle.std.proofs.Common.{ℕ, List, ◌/◌, ◌<◌, length, get_or, ap, ◌∙◌, arith}
use Rattle.std.proofs.lemmas.List.{get_or_read}
use Rattle.std.proofs.lemmas.List.Elements.{All-get_or}
use Rattle.code_lower.proofs.Preparing.{locals_length}
use Rattle.code_lower.proofs.subject.Subject.home.Goals as goal

pub index-requires : goal.index-requires
index-requires c =
    let s = c.args.self.now in
    omega (arith, s.starts.ok.0, locals_length s c.requires.subject)

pub returns-clause-exact : goal.returns-clause-exact
returns-clause-exact c =
    let s = c.args.self.now in
    let b : c.args.local < length s.starts.items = omega (arith, locals_length s c.requires.subject) in
    ap (λ n. n / 4) (get_or_read s.starts.items _ _ b c.index.ensures 0 ∙ ap (λ (xs : List ℕ). get_or xs c.args.local 0) c.requires.subject.starts)

pub returns-clause-near : goal.returns-clause-near
returns-clause-near c =
    let s = c.args.self.now in
    let b : c.args.local < length s.starts.items = omega (arith, locals_length s c.requires.subject) in
    let small : get_or s.starts.items c.args.local 0 < 1024 = All-get_or (λ (n : ℕ). n < 1024) s.starts.items c.args.local 0 b c.requires.subject.near in
    let e = get_or_read s.starts.items _ _ b c.index.ensures 0 in
    omega arith
