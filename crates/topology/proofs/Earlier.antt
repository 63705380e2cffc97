-- Which branches the tree holds: the order of the branches split at one of them.
use Rattle.std.proofs.Common.{◌≡◌, ℕ, zero, suc, ◌<◌, Bool, false, cond, ◌&&◌, ◌||◌, eqb, ltb, ◌⊎◌, ◌↔◌, List, [], ◌∷◌, ◌++◌, append_assoc, sym, refl, ap, ◌∙◌, subst, inl, inr, arith}
use mathlib.Core.Path.{fun_ext}
use Rattle.std.proofs.lemmas.Bool.{cases_eq, eq-eqb, lt-ltb, ltb-true, or_cases, or_left, or_right, and_parts, and_from}
use Rattle.sheet.specs.declared.plan.Plan.{Plan}
use Rattle.graphs.specs.Graph.{Set, ◌∈◌, both, listed, Spans}
use Rattle.graphs.specs.Greedy.{greedy, of_class, members, in_order}
use Rattle.graphs.proofs.Greedy.{listed-append}
use Rattle.graphs.proofs.Order.{members_in, members-from, order_in, order_from}
use Rattle.graphs.proofs.Sets.{out, same}
use Rattle.topology.specs.Meanings.{earlier}
use Rattle.networks.specs.Networks.{graph_of, placed, class_at}
use Rattle.topology.specs.Trees.{order, tree_set}
use Rattle.networks.proofs.Networks.{placed_below}
use Rattle.topology.proofs.Theory.{best, class_low}

-- the members of a set split at one
split_members : (S : Set) (m k : ℕ) → k ∈ S → k < m → (rs : List ℕ) × (members S m ≡ members S k ++ (k ∷ rs))
unfolding members
split_members S zero k i l = absurd (omega arith)
split_members S (suc m) k i l = go (cases_eq k m) (split_members S m k i)
  where
    tail : List ℕ
    tail = cond (S m) (m ∷ []) []

    go : (k ≡ m) ⊎ (k ≡ m → ⊥) → (k < m → (rs : List ℕ) × (members S m ≡ members S k ++ (k ∷ rs))) → (rs : List ℕ) × (members S (suc m) ≡ members S k ++ (k ∷ rs))
    go (inl e) f = ([], ap (λ b. members S m ++ cond b (m ∷ []) []) (ap S (sym e) ∙ i) ∙ (λ j. members S (sym e j) ++ (sym e j ∷ [])))
    go (inr d) f = let s = f (omega arith) in (s.0 ++ tail, ap (λ xs. xs ++ tail) s.1 ∙ append_assoc (members S k) (k ∷ s.0) tail)

module _ (class : ℕ → ℕ) (P : Set) (m : ℕ) where
  -- those before k: the lower classes, and the lower numbers of its class
  abbrev before : ℕ → List ℕ
  before k = in_order class P m (class k) ++ members (of_class class (class k) P) k

  split_order : (c k : ℕ) → k ∈ P → k < m → class k < c → (rs : List ℕ) × (in_order class P m c ≡ before k ++ (k ∷ rs))
  unfolding in_order
  split_order zero k i l u = absurd (omega arith)
  split_order (suc c) k i l u = go (cases_eq (class k) c) (split_order c k i l)
    where
      go : (class k ≡ c) ⊎ (class k ≡ c → ⊥) → (class k < c → (rs : List ℕ) × (in_order class P m c ≡ before k ++ (k ∷ rs))) → (rs : List ℕ) × (in_order class P m (suc c) ≡ before k ++ (k ∷ rs))
      go (inl e) f =
          let here = and_from (P k) (eqb (class k) (class k)) i (eq-eqb (class k) (class k) refl) in
          let s = split_members (of_class class (class k) P) m k here l in
          (s.0, (λ j. in_order class P m (sym e j) ++ members (of_class class (sym e j) P) m) ∙ ap (λ xs. in_order class P m (class k) ++ xs) s.1 ∙ sym (append_assoc (in_order class P m (class k)) (members (of_class class (class k) P) k) (k ∷ s.0)))
      go (inr d) f =
          let s = f (omega arith) in
          let past = members (of_class class c P) m in
          (s.0 ++ past, ap (λ xs. xs ++ past) s.1 ∙ append_assoc (before k) (k ∷ s.0) past)

module _ (p : Plan) (k : ℕ) where
  abbrev front : List ℕ
  front = before (class_at p) (placed p) 32 k

  listed_front : (j : ℕ) → listed front j ≡ earlier p k j
  listed_front j = same (listed front j) (earlier p k j) there back
    where
      lower : List ℕ
      lower = in_order (class_at p) (placed p) 32 (class_at p k)

      level : List ℕ
      level = members (of_class (class_at p) (class_at p k) (placed p)) k

      less : Bool
      less = ltb (class_at p j) (class_at p k)

      there : j ∈ listed front → j ∈ earlier p k
      there h = elim (or_cases (listed lower j) (listed level j) (sym (listed-append lower level j) ∙ h)) [
        | inl i ↦
            let f = order_from (class_at p) (placed p) 32 (class_at p k) j i in
            and_from (placed p j) _ f.0 (or_left less _ (lt-ltb _ _ f.1))
        | inr i ↦
            let f = members-from (of_class (class_at p) (class_at p k) (placed p)) k j i in
            let s = and_parts (placed p j) (eqb (class_at p j) (class_at p k)) f.0 in
            and_from (placed p j) _ s.0 (or_right less _ (and_from (eqb (class_at p j) (class_at p k)) (ltb j k) s.1 (lt-ltb j k f.1)))
      ]

      back : j ∈ earlier p k → j ∈ listed front
      back h =
          let s = and_parts (placed p j) (less || (eqb (class_at p j) (class_at p k) && ltb j k)) h in
          listed-append lower level j ∙ elim (or_cases less (eqb (class_at p j) (class_at p k) && ltb j k) s.1) [
            | inl l ↦ or_left (listed lower j) (listed level j) (order_in (class_at p) (placed p) 32 (class_at p k) j s.0 (placed_below p j s.0) (ltb-true _ _ l))
            | inr e ↦
                let t = and_parts (eqb (class_at p j) (class_at p k)) (ltb j k) e in
                or_right (listed lower j) (listed level j) (members_in (of_class (class_at p) (class_at p k) (placed p)) k j (and_from (placed p j) (eqb (class_at p j) (class_at p k)) s.0 t.0) (ltb-true j k t.1))
          ]

  not_before_itself : listed front k ≡ false
  not_before_itself = out (listed front k) (λ h.
      let s = and_parts (placed p k) _ (sym (listed_front k) ∙ h) in
      elim (or_cases (ltb (class_at p k) (class_at p k)) (eqb (class_at p k) (class_at p k) && ltb k k) s.1) [
        | inl l ↦ omega (arith, ltb-true _ _ l)
        | inr e ↦ omega (arith, ltb-true k k (and_parts (eqb (class_at p k) (class_at p k)) (ltb k k) e).1)
      ])

  -- a placed branch is kept exactly if those kept before it do not join its ends
  pub kept_in_turn : k ∈ placed p → k ∈ tree_set p ↔ (Spans (graph_of p) (both (tree_set p) (earlier p k)) k → ⊥)
  unfolding tree_set
  kept_in_turn i =
      let g = graph_of p in
      let s = split_order (class_at p) (placed p) 32 5 k i (placed_below p k i) (omega (arith, class_low p k i)) in
      let those : greedy g 32 front ≡ both (greedy g 32 (order p)) (earlier p k) = fun_ext (λ j. sym ((best p).front front (k ∷ s.0) s.1 j) ∙ ap (λ b. greedy g 32 (order p) j && b) (listed_front j)) in
      subst (λ (S : Set). k ∈ greedy g 32 (order p) ↔ (Spans g S k → ⊥)) those ((best p).turn front s.0 k s.1 not_before_itself)
