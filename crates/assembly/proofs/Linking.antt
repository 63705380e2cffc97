-- The voltages of the links, from those of the tree branches one after another. Assumes nothing.
use Rattle.std.proofs.Common.{◌≡◌, ℕ, ◌<◌, Bool, true, false, cond, not, ◌&&◌, ◌||◌, Some, None, List, length, get_or, sym, refl, ap, ◌∙◌}
use Rattle.std.proofs.lemmas.Bool.{cond-true, cond-false, and_parts, or_right}
use Rattle.arithmetic.specs.Ops.{Ops}
use Rattle.sheet.specs.declared.refusal.Shown.{Shown}
use Rattle.graphs.specs.Graph.{Set, ◌∈◌, without}
use Rattle.topology.specs.Matrices.{entry}
use Rattle.networks.specs.Words.{bits, first}
use Rattle.networks.proofs.Firsts.{first_member}
use Rattle.stories.specs.Assembly.{taken, Parts}
use Rattle.stories.specs.Steps.{tree_voltage, voltage_of}
use Rattle.assembly.specs.Figures.{all, at_members, voltage_at, linked, Filled}
use Rattle.assembly.proofs.Members.{taking, Going, begun, goes_on, ended, no_sign}
use Rattle.assembly.proofs.Touching.{change}

-- a place that is left out since the row has no sign there
pub taken_by_row : {M : Type 0} (o : Ops M) (c : Parts M) (t : ℕ) (row : Shown) (S : Set) (u : M) (w : List M) (k : ℕ) →
    S k ≡ ((c.link k && not (c.tree k)) && (bits row.members k || bits row.against k)) → entry row k ≡ c.row t k →
    change o (λ k a. taken o (entry row k) u a) S w k ≡ linked o c t u k (get_or w k o.nought)
taken_by_row {M} o c t row S u w k e d = go (c.link k && not (c.tree k)) (bits row.members k) (bits row.against k) refl refl e
  where
    a : M
    a = get_or w k o.nought

    go : (b m n : Bool) → bits row.members k ≡ m → bits row.against k ≡ n → S k ≡ (b && (m || n)) → cond (S k) (taken o (entry row k) u a) a ≡ cond b (taken o (c.row t k) u a) a
    go false m n em en e = cond-false (S k) _ _ e
    go true true n em en e = cond-true (S k) _ _ e ∙ ap (λ s. taken o s u a) d
    go true false true em en e = cond-true (S k) _ _ e ∙ ap (λ s. taken o s u a) d
    go true false false em en e = cond-false (S k) _ _ e ∙ sym (ap (λ s. taken o s u a) (sym d ∙ no_sign row k em en))

module _ {M : Type 0} (o : Ops M) (c : Parts M) (x : ℕ → M) where
  -- the tree branches R are left to be taken to the links
  pub record Linking (R : Set) (now : List M) : Type 0 where
    pub within : (t : ℕ) → t ∈ R → t ∈ c.tree
    pub long : length now ≡ 32
    pub tree : (k : ℕ) → k < 32 → c.tree k ≡ true → get_or now k o.nought ≡ tree_voltage c x k
    pub link : (k : ℕ) → k < 32 → c.tree k ≡ false → c.link k ≡ true → Going (taking o (λ t. c.row t k) (tree_voltage c x)) c.tree R o.nought (get_or now k o.nought)
    pub empty : (k : ℕ) → k < 32 → c.tree k ≡ false → c.link k ≡ false → get_or now k o.nought ≡ o.nought

  pub linking : (R : Set) (now : List M) → R ≡ c.tree → Filled o all (at_members o c.tree (tree_voltage c x)) 32 now → Linking R now
  linking R now e h = record {
    within = λ t m. sym (ap (λ T. T t) e) ∙ m;
    long = h.long;
    tree = λ k l m. h.each k l refl ∙ cond-true (c.tree k) _ _ m;
    link = λ k l m n. begun (taking o (λ t. c.row t k) (tree_voltage c x)) c.tree R o.nought _ e (sym (h.each k l refl ∙ cond-false (c.tree k) _ _ m));
    empty = λ k l m n. h.each k l refl ∙ cond-false (c.tree k) _ _ m;
  }

  pub links_on : (R Q : Set) (now next : List M) (t : ℕ) → Linking R now → Some t ≡ first R → Q ≡ without R t → length next ≡ 32 →
      ((k : ℕ) → k < 32 → get_or next k o.nought ≡ linked o c t (get_or now t o.nought) k (get_or now k o.nought)) → Linking Q next
  links_on R Q now next t g i e long d = record {
    within = λ j h. g.within j (and_parts (R j) _ (sym (ap (λ T. T j) e) ∙ h)).0;
    long = long;
    tree = λ k l m. d k l ∙ cond-false _ _ _ (in_tree k (c.link k) m) ∙ g.tree k l m;
    link = λ k l m n.
        goes_on (taking o (λ t. c.row t k) (tree_voltage c x)) c.tree R Q o.nought _ _ t (g.link k l m n) i e
        (d k l ∙ cond-true _ _ _ (ap (λ b. b && not (c.tree k)) n ∙ ap not m) ∙ ap (λ u. taken o (c.row t k) u (get_or now k o.nought)) (g.tree t member.1 (g.within t member.0)));
    empty = λ k l m n. d k l ∙ cond-false _ _ _ (ap (λ b. b && not (c.tree k)) n) ∙ g.empty k l m n;
  }
    where
      member : (t ∈ R) × (t < 32)
      member = first_member R 0 32 t (sym i)

      in_tree : (k : ℕ) (b : Bool) → c.tree k ≡ true → (b && not (c.tree k)) ≡ false
      in_tree k true m = ap not m
      in_tree k false m = refl

  pub all_linked : (R : Set) (now : List M) → Linking R now → None ≡ first R → Filled o all (voltage_at o c x) 32 now
  unfolding voltage_of
  all_linked R now g i = record { long = g.long; each = λ k l m. go k l (c.tree k) (c.link k) refl refl }
    where
      go : (k : ℕ) → k < 32 → (a b : Bool) → c.tree k ≡ a → c.link k ≡ b → get_or now k o.nought ≡ voltage_at o c x k
      go k l true b m n = g.tree k l m ∙ sym (cond-true (c.tree k) _ _ m) ∙ sym (cond-true _ _ _ (ap (λ t. t || c.link k) m))
      go k l false true m n =
          ended (taking o (λ t. c.row t k) (tree_voltage c x)) c.tree R o.nought _ (g.link k l m n) i
          ∙ sym (cond-false (c.tree k) _ _ m) ∙ sym (cond-true _ _ _ (or_right (c.tree k) (c.link k) n))
      go k l false false m n = g.empty k l m n ∙ sym (cond-false _ _ _ (ap (λ t. t || c.link k) m ∙ n))
