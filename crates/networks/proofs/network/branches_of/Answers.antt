use Rattle.std.proofs.Common.{◌≡◌, ◌∙◌, Bool, false, MatchOption, subst, rules}
use mathlib.Core.Path.{fun_ext}
use Rattle.sheet.specs.declared.kind.Kind.{Kind}
use Rattle.sheet.specs.Plans.{branch_at}
use Rattle.networks.specs.Networks.{listed, among}
use Rattle.networks.proofs.Bits.{under_all}
use Rattle.networks.proofs.Networks.{listed_is, kind_passes, among_below}
use Rattle.networks.proofs.network.branches_of.Goals as goal

pub returns : goal.returns
returns c =
    let p = c.args.plan.now in
    let test = listed c.args.kinds.now in
    c.numbers_where.ensures (among test p)
    (λ k b lt h. kind_passes p k test b lt (subst (λ (f : Kind → Bool). MatchOption (branch_at p k) (b ≡ false) (λ x. b ≡ f x.kind)) (fun_ext (listed_is c.args.kinds.now)) (search rules)))
    ∙ under_all (among test p) 32 (among_below p test)
