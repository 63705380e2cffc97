-- A step of the program, from each of its ways out, and what it is in a story. Assumes nothing.
use Rattle.std.proofs.Common.{◌≡◌, ℕ, Bool, true, false, not, ◌&&◌, ◌||◌, T, eqb, ltb, List, [], length, sym, refl, ap, ◌∙◌, subst, ap₂, inl, inr}
use Rattle.std.proofs.lemmas.List.{length-map}
use Rattle.std.proofs.lemmas.Bool.{not-false, not-true, cond-true, cond-false}
use Rattle.arithmetic.specs.Ops.{Ops, Exact, may_divide}
use Rattle.sheet.specs.declared.plan.Plan.{Plan}
use Rattle.sheet.specs.declared.row.Row.{Row}
use Rattle.sheet.specs.Calls.{Sheet, left}
use Rattle.sheet.specs.Meanings.{meant_row, meant_sheet}
use Rattle.sheet.specs.Refusals.{Answer, granted, refused, refuse, after, Told, Verdict, pass, fail, verdict_of}
use Rattle.topology.specs.Trees.{tree_of}
use Rattle.topology.proofs.Meaning.{Ways, ways}
use Rattle.stories.specs.Laws.{Live}
use Rattle.stories.specs.Steps.{row_at, solving, renewed_rows, unsound, step_parts, step_result, stepped}
use Rattle.stories.specs.Stories.{StoryCall, run}
use Rattle.stories.specs.Theorem.{Granted, Solved, TheoremOfStories, TreesOfStories}
use Rattle.stories.proofs.Sheets.{run-kept}
use Rattle.stories.proofs.Theorem.{theorem_of_stories, trees_of_stories}
use Rattle.stepping.specs.Calls.{cleared, spends, StepDoes, StepSolved, Continues}
use Rattle.stepping.specs.Steps.{settled, Settles}

apart : {X A : Type 0} {x : X} {t : Told} → refused t ≡ granted x → A
apart e = cc

one_told : {X : Type 0} (t u : Told) → ◌≡◌ {A = Answer X} (refused t) (refused u) → t ≡ u
one_told t u e = cc

-- the tree's refusals are 12 and 13, and leave the area
tree_spends : (p : Plan) (t : Told) → refused t ≡ tree_of p → spends (fail t) ≡ false
tree_spends p t e = go (ways p)
  where
    go : Ways p (tree_of p) → spends (fail t) ≡ false
    go (inl (k, m, f)) = ap (λ t. spends (fail t)) (one_told t _ (e ∙ f))
    go (inr (inl (k, m, f))) = ap (λ t. spends (fail t)) (one_told t _ (e ∙ f))
    go (inr (inr (q, f))) = apart (e ∙ f)

-- a step that comes to its tree clears the area
late-spends : {X : Type 0} (a b : Bool) (x : X) → spends (verdict_of (refuse 14 a (refuse 15 b (granted x)))) ≡ true
late-spends true b x = refl
late-spends false true x = refl
late-spends false false x = refl

settled-spends : {M : Type 0} (o : Ops M) (h : M) (s : Sheet M) → spends (verdict_of (settled o h s)) ≡ true
settled-spends o h s = late-spends (not (solving o (step_parts o h s)).ok) (unsound o s.plan (step_result o h s)) _

-- a step leaves the plan
step_plan : {M : Type 0} (o : Ops M) (n area : ℕ) (h : M) (s : Sheet M) → (left s (stepped o n area h s)).plan ≡ s.plan
step_plan {M} o n area h s = go (not (eqb n 32) || ltb area 304) (not (o.is_sound h && may_divide o h)) (tree_of s.plan) (not (solving o (step_parts o h s)).ok) (unsound o s.plan (step_result o h s))
  where
    go : (a b : Bool) (t : Answer ℕ) (c d : Bool) → (left s (refuse 1 a (refuse 11 b (after t (λ tree. refuse 14 c (refuse 15 d (granted (record { plan = s.plan; rows = renewed_rows o s.plan s.rows (step_result o h s) })))))))).plan ≡ s.plan
    go true b t c d = refl
    go false true t c d = refl
    go false false (refused x) c d = refl
    go false false (granted x) true d = refl
    go false false (granted x) false true = refl
    go false false (granted x) false false = refl

-- a passing verdict is of a granted answer
passes : {X : Type 0} (a : Answer X) → pass ≡ verdict_of a → Granted a
passes (granted x) e = record { what = x; is = refl }
passes (refused t) e = cc

-- what is asked before the tree: where it is granted, and where it is refused
abbrev asked_by : Bool → Bool → Answer (Unit {0})
asked_by a b = refuse 1 a (refuse 11 (not b) (granted tt))

asked_all : (a b : Bool) → granted tt ≡ asked_by a b → (not a ≡ true) × (b ≡ true)
asked_all true b e = cc
asked_all false true e = (refl, refl)
asked_all false false e = cc

asked_none :
    (C : Told → Type 0) (a b : Bool) (t : Told) → refused t ≡ asked_by a b →
    (not a ≡ false → C (record { number = 1; words = [] })) → (not a ≡ true → b ≡ false → C (record { number = 11; words = [] })) → C t
asked_none C true b t e areas length = subst C (sym (one_told {X = Unit {0}} t _ e)) (areas refl)
asked_none C false false t e areas length = subst C (sym (one_told {X = Unit {0}} t _ e)) (length refl refl)
asked_none C false true t e areas length = cc

module _ {V M : Type 0} (o : Ops M) (mean : V → M) (nil : V) (plan : Plan) (rows : List (Row V)) (h : V) (work : List V) where
  abbrev sheet : Sheet M
  sheet = meant_sheet mean (record { plan = plan; rows = rows })

  abbrev outcome : Answer (Sheet M)
  outcome = stepped o (length rows) (length work) (mean h) sheet

  does_refused : (t : Told) → refused t ≡ outcome → spends (fail t) ≡ false → StepDoes o mean nil plan rows h work (fail t) rows work
  does_refused t e s = record {
    answers = ap verdict_of e;
    tables = ap (λ a. (left sheet a).rows) e;
    gives = refl;
    others = λ k d f. refl;
    alone = λ u d. refl;
    places = sym (cond-false _ _ _ s);
  }

  pub no_areas : not (not (eqb (length rows) 32) || ltb (length work) 304) ≡ false → StepDoes o mean nil plan rows h work (fail (record { number = 1; words = [] })) rows work
  no_areas e = does_refused _ (ap (λ b. refuse 1 b (refuse 11 (not (o.is_sound (mean h) && may_divide o (mean h))) (after (tree_of plan) (λ tree. settled o (mean h) sheet)))) (sym (not-false _ e))) refl

  module _ (fit : not (not (eqb (length rows) 32) || ltb (length work) 304) ≡ true) where
    areas : (not (eqb (length rows) 32) || ltb (length work) 304) ≡ false
    areas = not-true _ fit

    pub no_length : (o.is_sound (mean h) && may_divide o (mean h)) ≡ false → StepDoes o mean nil plan rows h work (fail (record { number = 11; words = [] })) rows work
    no_length e = does_refused _ (λ i. refuse 1 (sym areas i) (refuse 11 (not (sym e i)) (after (tree_of plan) (λ tree. settled o (mean h) sheet)))) refl

    module _ (good : (o.is_sound (mean h) && may_divide o (mean h)) ≡ true) where
      to_tree : after (tree_of plan) (λ tree. settled o (mean h) sheet) ≡ outcome
      to_tree i = refuse 1 (sym areas i) (refuse 11 (not (sym good i)) (after (tree_of plan) (λ tree. settled o (mean h) sheet)))

      pub no_tree : (t : Told) → refused t ≡ tree_of plan → StepDoes o mean nil plan rows h work (fail t) rows work
      no_tree t e = does_refused t (ap (λ a. after a (λ tree. settled o (mean h) sheet)) e ∙ to_tree) (tree_spends plan t e)

      pub with-tree :
          (w : ℕ) (v : Verdict) (rows' : List (Row V)) (work' : List V) → granted w ≡ tree_of plan → Settles o mean (mean h) plan rows v rows' → work' ≡ cleared nil work → StepDoes o mean nil plan rows h work v rows' work'
      with-tree w v rows' work' e s d =
          let is : settled o (mean h) sheet ≡ outcome = ap (λ a. after a (λ tree. settled o (mean h) sheet)) e ∙ to_tree in
          record {
            answers = s.answers ∙ ap verdict_of is;
            tables = s.tables ∙ ap (λ a. (left sheet a).rows) is;
            gives = s.gives;
            others = s.others;
            alone = s.alone;
            places = d ∙ sym (cond-true _ _ _ (ap spends s.answers ∙ settled-spends o (mean h) sheet));
          }

  abbrev asked : Answer (Unit {0})
  asked = asked_by (not (eqb (length rows) 32) || ltb (length work) 304) (o.is_sound (mean h) && may_divide o (mean h))

  pub may_not : (t : Told) → refused t ≡ asked → StepDoes o mean nil plan rows h work (fail t) rows work
  may_not t e = asked_none (λ t. StepDoes o mean nil plan rows h work (fail t) rows work) _ _ t e no_areas no_length

  pub may : granted tt ≡ asked → (not (not (eqb (length rows) 32) || ltb (length work) 304) ≡ true) × ((o.is_sound (mean h) && may_divide o (mean h)) ≡ true)
  may e = asked_all _ _ e

  -- what that is in a story
  module _ (v : Verdict) (rows' : List (Row V)) (work' : List V) (does : StepDoes o mean nil plan rows h work v rows' work') where
    abbrev sheet' : Sheet M
    sheet' = meant_sheet mean (record { plan = plan; rows = rows' })

    left_is : left sheet outcome ≡ sheet'
    left_is = ap₂ (λ (p : Plan) (rs : List (Row M)). record { plan = p; rows = rs }) (step_plan o (length rows) (length work) (mean h) sheet) (sym does.tables)

    solved-step : Solved o (mean h) sheet outcome → StepSolved o (mean h) sheet v sheet'
    solved-step q = record {
      exactly = (λ e. q.exactly.0 (passes outcome (sym e ∙ does.answers)), λ z. let g = q.exactly.1 z in does.answers ∙ ap verdict_of g.is);
      obeys = λ e. let g = passes outcome (sym e ∙ does.answers) in subst (λ (t : Sheet M). Live o plan (row_at o sheet.rows) (mean h) (λ k. (row_at o t.rows k).current) (λ k. (row_at o t.rows k).voltage)) (left_granted g.what g.is) (q.obeys g.what g.is);
      only = λ e i u l k m. let g = passes outcome (sym e ∙ does.answers) in subst (λ (t : Sheet M). (i k ≡ (row_at o t.rows k).current) × (u k ≡ (row_at o t.rows k).voltage)) (left_granted g.what g.is) (q.only g.what g.is i u l k m);
    }
      where
        left_granted : (t : Sheet M) → outcome ≡ granted t → t ≡ sheet'
        left_granted t e = sym (ap (left sheet) e) ∙ left_is

    module _ (exact : Bool) (laws : T exact → Exact o) where
      pub continues : (cs : List (StoryCall M)) → run o cs ≡ sheet → Continues o exact cs (length rows) (length work) (mean h) sheet v sheet'
      unfolding run
      continues cs e = record {
        next = ap (λ s. left s (stepped o (length rows) (length work) (mean h) s)) e ∙ left_is;
        solved = λ t divide room.
            let rows_32 : length rows ≡ 32 = sym (length-map rows (meant_row mean)) ∙ sym (ap (λ (s : Sheet M). length s.rows) e) ∙ (run-kept (laws t) cs).table in
            solved-step (subst (λ (s : Sheet M). Solved o (mean h) s (stepped o (length rows) (length work) (mean h) s)) e
            (subst (λ (n : ℕ). Solved o (mean h) (run o cs) (stepped o n (length work) (mean h) (run o cs))) (sym rows_32) ((theorem_of_stories (laws t)).solved cs (mean h) (length work) divide room)));
      }

      -- all that the contract says
      pub promise :
          record {
            does : StepDoes o mean nil plan rows h work v rows' work';
            story : (cs : List (StoryCall M)) → run o cs ≡ sheet → Continues o exact cs (length rows) (length work) (mean h) sheet v sheet';
            stories : T exact → TheoremOfStories o;
            trees : TreesOfStories o;
          }
      promise = record { does = does; story = continues; stories = λ t. theorem_of_stories (laws t); trees = trees_of_stories o }
