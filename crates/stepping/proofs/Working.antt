-- What the area holds from its clearing to the solved system, and the figures from it. Assumes nothing.
use Rattle.std.proofs.Common.{is_ok, ok_or, ◌≡◌, ℕ, zero, suc, ◌<◌, Bool, true, false, not, ◌&&◌, ◌||◌, List, [], ◌∷◌, map, length, replicate, is_some, Some, None, Ok, Option, Result, sym, refl, ap, ◌∙◌, subst, ap₂, arith}
use Rattle.std.proofs.lemmas.List.{get_or-map}
use Rattle.std.proofs.lemmas.Bool.{and_parts, and_from, both_ways}
use Rattle.arithmetic.specs.Ops.{Ops}
use Rattle.sheet.specs.declared.kind.Kind.{Kind}
use Rattle.sheet.specs.declared.kind.Kind.TheVariants.{Resistor, Inductor, Capacitor, VoltageSource, CurrentSource}
use Rattle.sheet.specs.declared.plan.Plan.{Plan}
use Rattle.sheet.specs.declared.row.Row.{Row}
use Rattle.sheet.specs.Calls.{Sheet}
use Rattle.sheet.specs.Meanings.{meant_row}
use Rattle.sheet.specs.Refusals.{granted}
use Rattle.graphs.specs.Graph.{Set, ◌∈◌, count}
use Rattle.graphs.specs.Cuts.{cut_row}
use Rattle.solver.specs.declared.Unsolved.{Unsolved}
use Rattle.solver.specs.Answer.{answer, leaves, answered}
use Rattle.solver.proofs.Law.{with_room}
use Rattle.topology.specs.Matrices.{entry}
use Rattle.networks.specs.Networks.{graph_of, placed}
use Rattle.topology.specs.Rows.{shown}
use Rattle.topology.specs.Trees.{tree_set, tree_of}
use Rattle.networks.specs.Words.{bits}
use Rattle.topology.proofs.ByCuts.{member_cut}
use Rattle.topology.proofs.Meaning.{granted_tree}
use Rattle.topology.proofs.Summing.{entry-shown}
use Rattle.topology.proofs.Theory.{tree_below}
use Rattle.stories.specs.Assembly.{through, Parts, size, blank_area, with_companions, assembled}
use Rattle.stories.specs.Networks.{kind_at, is_voltage, is_current, is_passive}
use Rattle.stories.specs.Steps.{row_at, parts_of, solving, figure_of, voltage_of, current_of, step_parts}
use Rattle.stories.proofs.Areas.{companions_conductance, companions_feed, solving-conductance, solving-feed, assembled_long}
use Rattle.stories.proofs.Networks.{placed_kind}
use Rattle.stories.proofs.Systems.{step_few}
use Rattle.stories.proofs.Trees.{proper_voltage}
use Rattle.assembly.specs.declared.frame.Frame.{Frame}
use Rattle.assembly.specs.Figures.{all, in_use, voltage_at, current_at, found, Filled}
use Rattle.assembly.specs.Frames.{Frames, FrameOf, Holds, Levels, levels_of, system_of}
use Rattle.assembly.proofs.Filling.{voltages_used}
use Rattle.assembly.proofs.Touching.{members_filled}
use Rattle.stepping.specs.Steps.{companion_turn, Worked}

pub map-replicate : {X Y : Type 0} (f : X → Y) (n : ℕ) (x : X) → map f (replicate n x) ≡ replicate n (f x)
map-replicate f zero x = refl
map-replicate f (suc n) x = ap (λ l. f x ∷ l) (map-replicate f n x)

-- a cleared area, by meaning
pub blank_is : {V M : Type 0} (o : Ops M) (mean : V → M) (nil : V) (w : List V) → mean nil ≡ o.nought → w ≡ replicate 304 nil → map mean w ≡ blank_area o
unfolding blank_area
blank_is o mean nil w z d = ap (map mean) d ∙ map-replicate mean 304 nil ∙ ap (replicate 304) z

-- a placed branch that is no voltage source feeds
feeds : (f : Option Kind) → is_some f ≡ true → is_voltage f ≡ false → (is_passive f || is_current f) ≡ true
feeds None m v = cc
feeds (Some Resistor) m v = refl
feeds (Some Inductor) m v = refl
feeds (Some Capacitor) m v = refl
feeds (Some VoltageSource) m v = cc
feeds (Some CurrentSource) m v = refl

stands : (f : Option Kind) → (is_passive f || is_current f) ≡ true → is_some f ≡ true
stands None m = cc
stands (Some k) m = refl

module _ {V M : Type 0} (o : Ops M) (mean : V → M) (p : Plan) (rows : List (Row V)) (long : length rows ≡ 32) (w : ℕ) (tree_is : tree_of p ≡ granted w) (h : M) where
  abbrev sheet : Sheet M
  sheet = record { plan = p; rows = map (meant_row mean) rows }

  abbrev parts : Parts M
  parts = step_parts o h sheet

  tree_set_lem : bits w ≡ tree_set p
  tree_set_lem = (granted_tree p w tree_is).0

  every : (k : ℕ) → is_voltage (kind_at p k) ≡ true → k ∈ tree_set p
  every = proper_voltage p (granted_tree p w tree_is).1

  link_feeds : (k : ℕ) (b : Bool) → is_voltage (kind_at p k) ≡ b → (placed p k && not (tree_set p k)) ≡ true → (is_passive (kind_at p k) || is_current (kind_at p k)) ≡ true
  link_feeds k true v m = absurd (both_ways (not (tree_set p k)) (ap not (every k v)) (and_parts (placed p k) (not (tree_set p k)) m).1)
  link_feeds k false v m = feeds (kind_at p k) (sym (placed_kind p k) ∙ (and_parts (placed p k) (not (tree_set p k)) m).0) v

  pub frames : (f : Frame) → FrameOf p w f → Frames parts f
  unfolding parts_of
  frames f is = record {
    passive = is.passive;
    feeding = is.feeding;
    fixed = is.fixed;
    tree = ap bits is.tree ∙ tree_set_lem;
    unknown = is.unknown ∙ ap (λ (S : Set). λ k. S k && not (is_voltage (kind_at p k))) tree_set_lem;
    link = is.link ∙ ap (λ (S : Set). λ k. placed p k && not (S k)) tree_set_lem;
    rows = λ t k m l.
        ap (λ s. entry s k) (member_cut p w f.cuts is.cuts t (tree_below p t m) (ap (λ (S : Set). S t) tree_set_lem ∙ m) ∙ ap (λ (S : Set). shown (cut_row (graph_of p) S 32 t)) tree_set_lem)
        ∙ entry-shown (cut_row (graph_of p) (tree_set p) 32 t) k l;
    fixed_in = every;
    unknown_in = λ t m. (and_parts (tree_set p t) (not (is_voltage (kind_at p t))) m).0;
    link_in = λ k m. link_feeds k (is_voltage (kind_at p k)) refl m;
  }

  -- a branch that feeds is of the tree or a link
  feeding_in : (k : ℕ) → k ∈ parts.feeding → parts.tree k ≡ false → k ∈ parts.link
  unfolding parts_of
  feeding_in k m out = and_from (placed p k) (not (tree_set p k)) (placed_kind p k ∙ stands (kind_at p k) m) (ap not out)

  pub levels : Levels parts (levels_of o mean rows)
  unfolding parts_of levels_of row_at
  levels v l m =
      let lt : v < length rows = omega (arith, long) in
      get_or-map (λ r. mean r.value) rows v (get_d_of rows lt) o.nought lt
      ∙ sym (ap (λ r. r.value) (get_or-map (meant_row mean) rows v (get_d_of rows lt) _ lt))
    where
      get_d_of : (rows : List (Row V)) → v < length rows → Row V
      get_d_of [] lt = absurd (omega arith)
      get_d_of (r ∷ rs) lt = r

  holds_companions : Holds o parts (with_companions o parts (blank_area o))
  unfolding parts_of
  holds_companions = record {
    conductance = λ k l m. companions_conductance o parts k l (ap (λ b. b || is_current (kind_at p k)) m);
    feed = companions_feed o parts;
  }

  pub holds_solved : (a : List M) → a ≡ (solving o parts).left → Holds o parts a
  unfolding parts_of
  holds_solved a e = subst (Holds o parts) (sym e) (record {
    conductance = λ k l m. solving-conductance o parts k l (ap (λ b. b || is_current (kind_at p k)) m);
    feed = solving-feed o parts;
  })

  stored_is : (a b : List M) → a ≡ blank_area o → b ≡ through (companion_turn o p h (row_at o (map (meant_row mean) rows))) 32 a → b ≡ with_companions o parts (blank_area o)
  unfolding with_companions parts_of
  stored_is a b e d = d ∙ ap (through (companion_turn o p h (row_at o (map (meant_row mean) rows))) 32) e

  -- from the cleared area to the solved one
  pub record Solved (n : ℕ) (r : Result (Unit {0}) Unsolved) (a : List M) : Type 0 where
    pub unknowns : n ≡ size parts
    pub verdict : r ≡ answered true (solving o parts).ok
    pub left : a ≡ (solving o parts).left

  pub solves :
      (f : Frame) → FrameOf p w f → (a b c d : List M) (n : ℕ) (r : Result (Unit {0}) Unsolved) →
      a ≡ blank_area o → b ≡ through (companion_turn o p h (row_at o (map (meant_row mean) rows))) 32 a →
      ((q : Parts M) → Frames q f → Holds o q b → Levels q (levels_of o mean rows) → c ≡ system_of o q b) → n ≡ count (bits f.unknown) 32 →
      r ≡ answer o n c → d ≡ leaves o n c → Solved n r d
  unfolding system_of assembled solving
  solves f is a b c d n r ea eb ec en er ed =
      let stored = stored_is a b ea eb in
      let fr = frames f is in
      let system : c ≡ assembled o parts = ec parts fr (subst (Holds o parts) (sym stored) holds_companions) levels ∙ ap (system_of o parts) stored in
      let size_is : n ≡ size parts = en ∙ ap (λ S. count S 32) fr.unknown in
      let few = step_few o h sheet in
      let wide = assembled_long o parts few in
      let room = with_room o (size parts) (assembled o parts) few (omega (arith, wide)) in
      record {
        unknowns = size_is;
        verdict = er ∙ ap₂ (λ (n : ℕ) c. answer o n c) size_is system ∙ room.0;
        left = ed ∙ ap₂ (λ (n : ℕ) c. leaves o n c) size_is system ∙ room.1;
      }

  -- the voltages of the solved system
  pub voltages_are : (n : ℕ) (a : List M) (voltages : List M) → n ≡ size parts → a ≡ (solving o parts).left → Filled o (in_use parts) (voltage_of o parts (found o a n)) 32 voltages → Filled o (in_use parts) (voltage_of o parts (figure_of o parts)) 32 voltages
  voltages_are n a voltages e d f = subst (λ x. Filled o (in_use parts) (voltage_of o parts x) 32 voltages) (ap₂ (λ a (n : ℕ). found o a n) d e) f

  pub record Figured (currents voltages : List M) : Type 0 where
    pub ok : true ≡ (solving o parts).ok
    pub is : Filled o (in_use parts) (current_of o parts (figure_of o parts)) 32 currents
    pub us : Filled o (in_use parts) (voltage_of o parts (figure_of o parts)) 32 voltages

  -- and the currents
  pub figured :
      (f : Frame) → FrameOf p w f → (r : Option ℕ) (n : ℕ) (a voltages currents : List M) → Worked o h sheet r a → r ≡ Some n →
      ((c : Parts M) → Frames c f → Levels c (levels_of o mean rows) → Filled o all (voltage_at o c (found o a n)) 32 voltages) →
      ((c : Parts M) (x : ℕ → M) → Frames c f → Holds o c a → Filled o (in_use c) (voltage_of o c x) 32 voltages → Filled o all (current_at o c x) 32 currents) → Figured currents voltages
  figured f of r n a voltages currents worked e us is =
      let fr = frames f of in
      let v = voltages_are n a voltages (worked.unknowns n e) worked.left (voltages_used o parts f fr (found o a n) feeding_in voltages (us parts fr levels)) in
      record { ok = sym (ap is_some e) ∙ worked.ok; is = members_filled o (in_use parts) (current_of o parts (figure_of o parts)) currents (is parts (figure_of o parts) fr (holds_solved a worked.left) v); us = v }

  ok_is : (b : Bool) → is_ok (answered true b) ≡ b
  ok_is true = refl
  ok_is false = refl

  -- the number of unknowns, where the system was solved
  pub worked :
      (f : Frame) → FrameOf p w f → (a b c d : List M) (n : ℕ) (r : Result (Unit {0}) Unsolved) →
      a ≡ blank_area o → b ≡ through (companion_turn o p h (row_at o (map (meant_row mean) rows))) 32 a →
      ((q : Parts M) → Frames q f → Holds o q b → Levels q (levels_of o mean rows) → c ≡ system_of o q b) → n ≡ count (bits f.unknown) 32 →
      r ≡ answer o n c → d ≡ leaves o n c → (y : Option ℕ) → is_some y ≡ is_ok r → ((k : ℕ) → y ≡ Some k → n ≡ k) → Worked o h sheet y d
  worked f is a b c d n r ea eb ec en er ed y some same =
      let s = solves f is a b c d n r ea eb ec en er ed in
      record { ok = some ∙ ap is_ok s.verdict ∙ ok_is (solving o parts).ok; unknowns = λ k e. sym (same k e) ∙ s.unknowns; left = s.left }

-- a number that was not refused
pub ok_some : {X E : Type 0} (r : Option X) (e : E) (x : X) → ok_or r e ≡ Ok x → r ≡ Some x
ok_some None e x i = cc
ok_some (Some y) e x i = cc
