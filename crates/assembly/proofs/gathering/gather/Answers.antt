use Rattle.std.proofs.Common.{sym, refl, ap, ◌∙◌, ap₂}
use Rattle.stories.specs.Assembly.{taken}
use Rattle.networks.specs.Words.{bits}
use Rattle.networks.proofs.Firsts.{first_member}
use Rattle.assembly.specs.Frames.{gathered}
use Rattle.assembly.proofs.Members.{taking, begun, taken_in, goes_on, ended}
use Rattle.assembly.proofs.gathering.gather.Goals as goal

pub sign-requires : goal.sign-requires
sign-requires g c = c.requires.signs c.in-Some.k (first_member (bits c.loop-k.k-iterator.left) 0 32 c.in-Some.k (sym c.in-Some.ensures.steps.0)).1

pub term-requires : goal.term-requires
term-requires g c = c.requires.terms c.in-Some.k (first_member (bits c.loop-k.k-iterator.left) 0 32 c.in-Some.k (sym c.in-Some.ensures.steps.0)).1

pub loop-k-init : goal.loop-k-init
loop-k-init g c = λ R s x e signs terms. begun (taking g.N.Arithmetic.ops s x) R _ _ _ (ap (λ i. bits i.left) c.into_iter-k-iterator.ensures.into_iter_gives ∙ ap bits c.members_of-k-items.ensures ∙ e) refl

pub loop-k-preserved : goal.loop-k-preserved
loop-k-preserved g c = λ R s x e signs terms.
    let o = g.N.Arithmetic.ops in
    let now = g.N.Arithmetic.mean c.loop-k.sum in
    let k = c.in-Some.k in
    let took = c.in-Some.ensures.steps in
    let i = c.loop-k.invariant R s x e signs terms in
    let m = taken_in (taking o s x) R _ _ _ k i took.0 in
    goes_on (taking o s x) R _ _ _ _ _ k i took.0 took.1
    (c.take-sum.ensures ∙ ap₂ (λ t y. taken o t y now) (signs k c.sign.result m.1 m.0 c.sign.ensures) (terms k c.term.result m.1 m.0 c.term.ensures))

pub returns : goal.returns
unfolding gathered
returns g c = λ R s x e signs terms. ended (taking g.N.Arithmetic.ops s x) R _ _ _ (c.loop-k.invariant R s x e signs terms) c.in-None.ensures.steps.0
