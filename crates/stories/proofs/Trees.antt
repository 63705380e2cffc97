-- The tree of a plan: what it says of sources, and what may be answered with it. Assumes nothing.
use Rattle.std.proofs.Common.{◌≡◌, ℕ, Bool, true, false, not, ◌&&◌, ◌↔◌, Some, None, Option, sym, refl, ap, ◌∙◌, inl, inr, arith}
use Rattle.std.proofs.lemmas.Bool.{both_ways, and_parts, not-true}
use Rattle.sheet.specs.declared.kind.Kind.{Kind}
use Rattle.sheet.specs.declared.kind.Kind.TheVariants.{Resistor, Inductor, Capacitor, VoltageSource, CurrentSource}
use Rattle.sheet.specs.declared.plan.Plan.{Plan}
use Rattle.sheet.specs.Refusals.{Answer, granted, refused, Told}
use Rattle.graphs.specs.Graph.{Set, ◌∈◌}
use Rattle.graphs.proofs.Sets.{out}
use Rattle.topology.specs.Meanings.{ProperTree}
use Rattle.networks.specs.Networks.{placed}
use Rattle.topology.specs.Trees.{tree_set, loose, late, tree_of}
use Rattle.networks.specs.Words.{word}
use Rattle.networks.proofs.Firsts.{first_member}
use Rattle.topology.proofs.Meaning.{Ways, ways, tree_answer}
use Rattle.topology.proofs.Theory.{best_proper, is_tree, loose_is, late_is}
use Rattle.stories.specs.Networks.{kind_at, is_voltage, is_current, any}
use Rattle.stories.specs.Steps.{Showing, showing, tree_showing}
use Rattle.stories.specs.Theorem.{Passes, BestTree, BestKept}
use Rattle.stories.proofs.Networks.{any_some, any_none, none_any, kind_placed, kind_class_lem, voltages_are, resting_are}

-- a voltage source, a current source, by the place
pub voltage_is : (f : Option Kind) → is_voltage f ≡ true → f ≡ Some VoltageSource
voltage_is None e = absurd (both_ways false refl e)
voltage_is (Some Resistor) e = absurd (both_ways false refl e)
voltage_is (Some Inductor) e = absurd (both_ways false refl e)
voltage_is (Some Capacitor) e = absurd (both_ways false refl e)
voltage_is (Some VoltageSource) e = refl
voltage_is (Some CurrentSource) e = absurd (both_ways false refl e)

pub current_is : (f : Option Kind) → is_current f ≡ true → f ≡ Some CurrentSource
current_is None e = absurd (both_ways false refl e)
current_is (Some Resistor) e = absurd (both_ways false refl e)
current_is (Some Inductor) e = absurd (both_ways false refl e)
current_is (Some Capacitor) e = absurd (both_ways false refl e)
current_is (Some VoltageSource) e = absurd (both_ways false refl e)
current_is (Some CurrentSource) e = refl

-- a proper tree that is kept has every voltage source
pub proper_voltage : (p : Plan) → ProperTree p (tree_set p) → (k : ℕ) → is_voltage (kind_at p k) ≡ true → k ∈ tree_set p
proper_voltage p q k v = let is = voltage_is (kind_at p k) v in q.every k (kind_placed p k VoltageSource is) (kind_class_lem p k VoltageSource is)

-- 12 is met by the voltage sources that are not kept, 13 by the current sources that are
loose_are : (p : Plan) (k : ℕ) → loose p k ≡ (is_voltage (kind_at p k) && not (tree_set p k))
loose_are p k = ap (λ b. b && not (tree_set p k)) (voltages_are p k)

late_are : (p : Plan) (k : ℕ) → late p k ≡ (is_current (kind_at p k) && tree_set p k)
late_are p k = ap (λ b. tree_set p k && not b) (resting_are p k) ∙ go (tree_set p k) refl (is_current (kind_at p k))
  where
    go : (b : Bool) → tree_set p k ≡ b → (c : Bool) → (b && not (placed p k && not c)) ≡ (c && b)
    go true m true = ap (λ x. not (x && false)) ((is_tree p).placed k m)
    go true m false = ap (λ x. not (x && true)) ((is_tree p).placed k m)
    go false m true = refl
    go false m false = refl

pub loose_source : (p : Plan) (k : ℕ) → k ∈ loose p → (kind_at p k ≡ Some VoltageSource) × (tree_set p k ≡ false)
loose_source p k m =
    let parts = and_parts (is_voltage (kind_at p k)) (not (tree_set p k)) (sym (loose_are p k) ∙ m) in
    (voltage_is (kind_at p k) parts.0, not-true (tree_set p k) parts.1)

pub late_source : (p : Plan) (k : ℕ) → k ∈ late p → (kind_at p k ≡ Some CurrentSource) × (k ∈ tree_set p)
late_source p k m =
    let parts = and_parts (is_current (kind_at p k)) (tree_set p k) (sym (late_are p k) ∙ m) in
    (current_is (kind_at p k) parts.0, parts.1)

-- a proper tree that is kept leaves no voltage source out and has no current source
module _ (p : Plan) (proper : ProperTree p (tree_set p)) where
  pub none_loose : (k : ℕ) → k ∈ loose p → ⊥
  none_loose k m = let l = loose_is p k m in both_ways (tree_set p k) l.2 (proper.every k l.0 l.1)

  pub none_late : (k : ℕ) → k ∈ late p → ⊥
  none_late k m = let l = late_is p k m in proper.never k l.0 l.1

-- the plan passes exactly if the tree that is kept is proper
passes_proper : (p : Plan) → Passes p → Ways p (tree_of p) → ProperTree p (tree_set p)
passes_proper p s (inl (k, m, e)) = let f = first_member (loose p) 0 32 k m in absurd (both_ways (loose p k) (any_none (loose p) 32 s.no_loop k (omega (arith, f.1))) f.0)
passes_proper p s (inr (inl (k, m, e))) = let f = first_member (late p) 0 32 k m in absurd (both_ways (late p k) (any_none (late p) 32 s.no_cut k (omega (arith, f.1))) f.0)
passes_proper p s (inr (inr (proper, e))) = proper

pub passes : (p : Plan) → Passes p ↔ ProperTree p (tree_set p)
passes p = (
  λ s. passes_proper p s (ways p),
  λ q. record {
    no_loop = none_any (loose p) 32 (λ k h. out (loose p k) (none_loose p q k));
    no_cut = none_any (late p) 32 (λ k h. out (late p k) (none_late p q k));
  },
)

-- it is proper exactly if some tree is
exactly : (p : Plan) (met : Type 0) → met ↔ ProperTree p (tree_set p) → met ↔ ((S : Set) × ProperTree p S)
unfolding tree_set
exactly p met is = (λ m. (tree_set p, is.0 m), λ f. is.1 ((best_proper p).exactly.0 f))

-- and then the best one, as is what the tree's call grants
pub best_kept : (p : Plan) (met : Type 0) → met ↔ ProperTree p (tree_set p) → BestKept p met
unfolding tree_set
best_kept p met is = record {
  exactly = exactly p met is;
  ours = λ S f. (best_proper p).exactly.0 (S, f);
  most = (best_proper p).most;
  fewest = (best_proper p).fewest;
}

pub best_tree : (p : Plan) (met : Type 0) → met ↔ ProperTree p (tree_set p) → BestTree p met
best_tree p met is =
    let a = tree_answer p in
    record {
      exactly = exactly p met is;
      ours = λ S f. let g = a.exactly.1 (S, f) in (g.0, g.1, a.proper g.0 g.1);
      most = λ S f w e. a.most w e S f;
      fewest = λ S f w e. a.fewest w e S f;
    }

-- what may be answered with the tree of a plan: 12 where a voltage source is left out of the tree that is kept, 13 where
-- a current source is in it, a tree where that is proper
pub data Answers (p : Plan) (a : Answer ℕ) : Type 0 where
  loop : (k : ℕ) (t : Told) → k ∈ loose p → t.number ≡ 12 → a ≡ refused t → Answers p a
  cut : (k : ℕ) (t : Told) → k ∈ late p → t.number ≡ 13 → a ≡ refused t → Answers p a
  tree : (w : ℕ) → ProperTree p (tree_set p) → a ≡ granted w → Answers p a

pub by_the_call : (p : Plan) → Answers p (tree_of p)
by_the_call p = go (ways p)
  where
    go : Ways p (tree_of p) → Answers p (tree_of p)
    go (inl (k, m, e)) = loop k _ (first_member (loose p) 0 32 k m).0 refl e
    go (inr (inl (k, m, e))) = cut k _ (first_member (late p) 0 32 k m).0 refl e
    go (inr (inr (proper, e))) = tree (word (tree_set p)) proper e

pub by_showing : (w : Showing) (p : Plan) → Answers p (tree_showing w p)
by_showing w p = go (any (loose p) 32) (any (late p) 32) refl refl
  where
    go : (b c : Bool) → any (loose p) 32 ≡ b → any (late p) 32 ≡ c → Answers p (showing 12 (w.loop p) b (showing 13 (w.cut p) c (granted (word (tree_set p)))))
    go true c i j = let f = any_some (loose p) 32 i in loop f.0 _ f.1.1 refl refl
    go false true i j = let f = any_some (late p) 32 j in cut f.0 _ f.1.1 refl refl
    go false false i j = tree (word (tree_set p)) ((passes p).0 (record { no_loop = i; no_cut = j })) refl
