use Rattle.std.proofs.Common.{◌≡◌, ◌^◌, ◌<◌, not, sym, refl, ap, ◌∙◌, subst, arith, rules}
use Rattle.std.proofs.lemmas.Bool.{and_parts}
use denote.Enum.Bare.{sameb}
use Rattle.graphs.specs.Graph.{Set}
use Rattle.networks.specs.Words.{bits}
use Rattle.networks.proofs.Bits.{bits_below}
use Rattle.networks.proofs.Firsts.{first_member, first-none}
use Rattle.topology.specs.contracts.sign.Sign.{the_type}
use Rattle.topology.specs.declared.sign.Sign.{Sign}
use Rattle.topology.specs.declared.sign.Sign.TheVariants.{Plus, Zero, Minus}
use Rattle.topology.specs.Rows.{sign_of, marks, backs}
use Rattle.topology.proofs.Gathering.{Picked, picking_none, picking_one, picking_all}
use Rattle.topology.proofs.rows.row_of.Goals as goal

is_marked : (x : Sign) → not (sameb the_type x Zero) ≡ marks (sign_of x)
is_marked Plus = refl
is_marked Zero = refl
is_marked Minus = refl

is_minus : (x : Sign) → sameb the_type x Minus ≡ backs (sign_of x)
is_minus Plus = refl
is_minus Zero = refl
is_minus Minus = refl

pub loop-k-init : goal.loop-k-init
loop-k-init g c = λ f says.
    let W = bits c.args.members in
    let none : c.default-row.result ≡ record { members = 0; against = 0 } = search rules in
    let start : c.into_iter-k-iterator.result.left ≡ c.args.members = search rules in (
      λ k m. ap (λ w. bits w k) (sym start) ∙ m,
      subst (λ w. Picked f W (bits w) c.default-row.result) (sym start) (subst (Picked f W W) (sym none) (picking_none f W)),
    )

pub loop-k-preserved : goal.loop-k-preserved
loop-k-preserved g c = λ f says.
    let W = bits c.args.members in
    let L = bits c.loop-k.k-iterator.left in
    let k = c.in-Some.k in
    let took = c.in-Some.ensures.steps in
    let found = first_member L 0 32 k (sym took.0) in
    let i = c.loop-k.invariant f says in
    let x = c.sign-sign.result in (
      λ j m. i.0 j (and_parts (L j) _ (sym (ap (λ (S : Set). S j) took.1) ∙ m)).0,
      subst (λ (S : Set). Picked f W S (record { members = c.insert_if.result; against = c.insert_if-in-loop-k.result })) (sym took.1)
          (picking_one f W L k c.insert_if.result c.insert_if-in-loop-k.result c.loop-k.row (sign_of x) (i.0 k found.0) (says _ _ found.1 c.sign-sign.ensures) (omega arith) (omega arith) i.1
          (rw (← is_marked x) (rw (← c.ne.ensures) (c.insert_if.ensures.within found.1)))
          (rw (← is_minus x) (rw (← c.eq.ensures) (c.insert_if-in-loop-k.ensures.within found.1)))),
    )

pub returns : goal.returns
returns g c = λ f says silent.
    let fits : c.args.members < 2 ^ 32 = omega arith in
    picking_all f (bits c.args.members) _ c.loop-k.row (bits_below c.args.members fits)
    (λ j l. first-none _ 0 32 j (sym c.in-None.ensures.steps.0) (omega arith) l) silent (c.loop-k.invariant f says).1
