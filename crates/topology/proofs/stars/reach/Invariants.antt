use Rattle.std.proofs.Common.{◌≡◌, ℕ, ◌<◌, ◌&&◌, ltb}
use Rattle.networks.specs.Networks.{alike}
use Rattle.topology.specs.Stars.{Star}
use Rattle.networks.specs.Words.{bits, under}
use Rattle.topology.proofs.stars.reach.Given as goal

abbrev pub invariant-loop-x : goal.invariant-loop-x
invariant-loop-x l = (e : ℕ → ℕ) → ((k : ℕ) → e k < 16) → Star e 32 l.words → (k : ℕ) → bits l.word k ≡ (under (λ j. alike l.labels.of l.node.number (e j)) 32 k && ltb (e k) l.x)
