-- The figures of a step, from each of their cases. Assumes nothing.
use Rattle.std.proofs.Common.{◌≡◌, ℕ, ◌<◌, Bool, true, false, ◌||◌, List, get_or, sym, refl, ap, ◌∙◌}
use Rattle.std.proofs.lemmas.Bool.{cond-true, cond-false, or_right}
use Rattle.arithmetic.specs.Ops.{Ops}
use Rattle.graphs.specs.Graph.{◌∈◌}
use Rattle.graphs.specs.Cuts.{turned}
use Rattle.stories.specs.Assembly.{Parts}
use Rattle.stories.specs.Steps.{voltage_of, flow_of, current_of}
use Rattle.networks.specs.Words.{bits}
use Rattle.assembly.specs.declared.frame.Frame.{Frame}
use Rattle.assembly.specs.Frames.{gathered, Frames}
use Rattle.assembly.specs.Figures.{all, in_use, voltage_at, Filled}

-- the current of a voltage source, from what the links of its cut leave
pub current_fixed : {M : Type 0} (o : Ops M) (c : Parts M) (x : ℕ → M) (k : ℕ) → c.fixed k ≡ true → gathered o c.link (λ j. turned (c.row k j)) (flow_of o c x) o.nought ≡ current_of o c x k
unfolding current_of gathered
current_fixed o c x k is_fixed = sym (cond-true _ _ _ is_fixed)

module _ {M : Type 0} (o : Ops M) (c : Parts M) (f : Frame) (fr : Frames c f) (x : ℕ → M) where
  -- where a branch that feeds is of the tree or a link, so is what is in use
  module _ (feeding_in : (k : ℕ) → k ∈ c.feeding → c.tree k ≡ false → k ∈ c.link) where
    used_in : (k : ℕ) (a b : Bool) → c.fixed k ≡ a → c.tree k ≡ b → k ∈ in_use c → (c.tree k || c.link k) ≡ true
    used_in k a true e d u = ap (λ b. b || c.link k) d
    used_in k true false e d u = ap (λ b. b || c.link k) (fr.fixed_in k e)
    used_in k false false e d u = or_right (c.tree k) (c.link k) (feeding_in k (sym (ap (λ b. b || c.feeding k) e) ∙ u) d)

    -- and the voltages at all places are those of the branches in use
    pub voltages_used : (voltages : List M) → Filled o all (voltage_at o c x) 32 voltages → Filled o (in_use c) (voltage_of o c x) 32 voltages
    voltages_used voltages h = record { long = h.long; each = λ k l u. h.each k l refl ∙ cond-true _ _ _ (used_in k (c.fixed k) (c.tree k) refl refl u) }

  pub flow_passive : (k : ℕ) → bits f.passive k ≡ true → o.add (o.mul (c.conductance k) (voltage_of o c x k)) (c.feed k) ≡ flow_of o c x k
  unfolding flow_of
  flow_passive k m = sym (cond-true _ _ _ (sym (ap (λ S. S k) fr.passive) ∙ m))

  pub flow_other : (k : ℕ) → bits f.passive k ≡ false → c.feed k ≡ flow_of o c x k
  unfolding flow_of
  flow_other k m = sym (cond-false _ _ _ (sym (ap (λ S. S k) fr.passive) ∙ m))

  pub passive_in : (k : ℕ) → bits f.passive k ≡ true → k ∈ c.passive
  passive_in k m = sym (ap (λ S. S k) fr.passive) ∙ m

  pub current-other :
      (k : ℕ) (flows : List M) → k < 32 → bits f.fixed k ≡ false → Filled o c.feeding (flow_of o c x) 32 flows → k ∈ in_use c → get_or flows k o.nought ≡ current_of o c x k
  unfolding current_of
  current-other k flows l m h u =
      let is_not = sym (ap (λ S. S k) fr.fixed) ∙ m in
      h.each k l (sym (ap (λ b. b || c.feeding k) is_not) ∙ u)
      ∙ sym (cond-false _ _ _ is_not)
