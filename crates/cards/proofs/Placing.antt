-- Lines placed one after another, by meaning. Assumes nothing.
use Rattle.std.proofs.Common.{◌≡◌, ℕ, suc, List, [], ◌∷◌, Some, None, Ok, Err, Result, MatchResult, IsErrAnd, sym, ap, ◌∙◌, subst, arith}
use Rattle.arithmetic.specs.Ops.{Ops}
use Rattle.sheet.specs.declared.placement.Placement.{Placement}
use Rattle.sheet.specs.Calls.{Sheet, blank, place, Does, left}
use Rattle.sheet.specs.Meanings.{meanings}
use Rattle.sheet.specs.Refusals.{Told, Answer, granted, refused, pass, fail, verdict, verdict_of, means}
use Rattle.sheet.specs.declared.refusal.Refusal.{Refusal}
use Rattle.cards.specs.declared.fault.Fault.{Fault}
use Rattle.cards.specs.declared.fault.Layer.TheVariants as layer
use Rattle.cards.specs.Cards.{right, line_of}
use Rattle.cards.specs.Parts.{parts}
use Rattle.cards.specs.Reading.{Named, named, report, State, onward, settled, laid, line_done, lines_done, begun, cards_read}

apart : {A : Type 0} → (t : Told) → pass ≡ fail t → A
apart t e = let z : ◌≡◌ {A = ℕ} 0 1 = cc in absurd (omega arith)

-- from one sheet to another, by what a call does
module _ {M : Type 0} (o : Ops M) (s s' : Sheet M) where
  module _ (n : ℕ) where
    granted_so : (a : Answer (Sheet M)) → pass ≡ verdict_of a → s'.plan ≡ (left s a).plan → s'.rows ≡ (left s a).rows
        → record { fault = None; sheet = s' } ≡ settled n s a
    granted_so (granted t) v e f = λ i. record { fault = None; sheet = record { plan = e i; rows = f i } }
    granted_so (refused t) v e f = apart t v

    refused_so : (a : Answer (Sheet M)) (t : Told) → fail t ≡ verdict_of a → s'.plan ≡ (left s a).plan → s'.rows ≡ (left s a).rows
        → record { fault = Some (record { layer = layer.Sheet; told = t; line = n; byte = 1 }); sheet = s' } ≡ settled n s a
    refused_so (granted u) t v e f = apart t (sym v)
    refused_so (refused u) t v e f =
        let same : t ≡ u = cc in
        λ i. record { fault = Some (record { layer = layer.Sheet; told = same i; line = n; byte = 1 }); sheet = record { plan = e i; rows = f i } }

    module _ (p : Placement M) (line : List ℕ) (is : right (Some p) ≡ line_of o line) where
      placed_line : Does (meanings o) (place p) s.plan s.rows pass s'.plan s'.rows → record { fault = None; sheet = s' } ≡ line_done o n line s
      placed_line d = granted_so _ d.answers d.plans d.tables ∙ ap (laid o n s) is

      refused_line_lem : (t : Told) → Does (meanings o) (place p) s.plan s.rows (fail t) s'.plan s'.rows
          → record { fault = Some (record { layer = layer.Sheet; told = t; line = n; byte = 1 }); sheet = s' } ≡ line_done o n line s
      refused_line_lem t d = refused_so _ t d.answers d.plans d.tables ∙ ap (laid o n s) is

      -- what the sheet answered, with a refusal made the line's fault
      pub answered_line : (P : Refusal → Fault → Type 0) (a : Result (Unit {0}) Refusal) (r : Result (Unit {0}) Fault)
          → MatchResult a (λ x. r ≡ Ok x) (λ e. IsErrAnd r (P e))
          → ((e : Refusal) (f : Fault) → P e f → f ≡ record { layer = layer.Sheet; refusal = e; line = n; byte = 1 })
          → Does (meanings o) (place p) s.plan s.rows (verdict a) s'.plan s'.rows → record { fault = report r; sheet = s' } ≡ line_done o n line s
      answered_line P (Ok x) r h is d = ap (λ x. record { fault = report x; sheet = s' }) h ∙ placed_line d
      answered_line P (Err e) (Ok y) h is d = absurd h
      answered_line P (Err e) (Err f) h is d = ap (λ f. record { fault = Some (named f); sheet = s' }) (is e f h) ∙ refused_line_lem (means e) d

  module _ (input : List ℕ) where
    begins : (a : Answer (Sheet M)) → pass ≡ verdict_of a → s'.plan ≡ (left s a).plan → s'.rows ≡ (left s a).rows
        → lines_done o 0 (parts 10 input) s' ≡ begun o input s a
    begins (granted t) v e f = λ i. lines_done o 0 (parts 10 input) (record { plan = e i; rows = f i })
    begins (refused t) v e f = apart t v

    never : (a : Answer (Sheet M)) (t : Told) → fail t ≡ verdict_of a → s'.plan ≡ (left s a).plan → s'.rows ≡ (left s a).rows
        → record { fault = Some (record { layer = layer.Sheet; told = t; line = 0; byte = 0 }); sheet = s' } ≡ begun o input s a
    never (granted u) t v e f = apart t (sym v)
    never (refused u) t v e f =
        let same : t ≡ u = cc in
        λ i. record { fault = Some (record { layer = layer.Sheet; told = same i; line = 0; byte = 0 }); sheet = record { plan = e i; rows = f i } }

    blanked_text : Does (meanings o) blank s.plan s.rows pass s'.plan s'.rows → lines_done o 0 (parts 10 input) s' ≡ cards_read o input s
    blanked_text d = begins _ d.answers d.plans d.tables

    refused_text : (t : Told) → Does (meanings o) blank s.plan s.rows (fail t) s'.plan s'.rows
        → record { fault = Some (record { layer = layer.Sheet; told = t; line = 0; byte = 0 }); sheet = s' } ≡ cards_read o input s
    refused_text t d = never _ t d.answers d.plans d.tables

    -- the sheet is blank, or the refusal is the fault at line 0
    pub started_text : (a : Result (Unit {0}) Refusal) → a ≡ Ok tt → Does (meanings o) blank s.plan s.rows (verdict a) s'.plan s'.rows → lines_done o 0 (parts 10 input) s' ≡ cards_read o input s
    started_text a e d = blanked_text (subst (λ r. Does (meanings o) blank s.plan s.rows (verdict r) s'.plan s'.rows) e d)

    pub stopped_text : (P : Refusal → Type 0) (a : Result (Unit {0}) Refusal) (f : Fault) → MatchResult a (λ x. ◌≡◌ {A = Result (Unit {0}) Fault} (Err f) (Ok x)) P
        → ((e : Refusal) → P e → f ≡ record { layer = layer.Sheet; refusal = e; line = 0; byte = 0 })
        → Does (meanings o) blank s.plan s.rows (verdict a) s'.plan s'.rows → record { fault = Some (named f); sheet = s' } ≡ cards_read o input s
    stopped_text P (Ok x) f h is d = let z : ◌≡◌ {A = ℕ} 0 1 = cc in absurd (omega arith)
    stopped_text P (Err e) f h is d = ap (λ f. record { fault = Some (named f); sheet = s' }) (is e h) ∙ refused_text (means e) d

-- what is left to read comes to the whole
pub record Left {M : Type 0} (o : Ops M) (n : ℕ) (lines : List (List ℕ)) (s : Sheet M) (all : State M) : Type 0 where
  pub comes : lines_done o n lines s ≡ all

module _ {M : Type 0} (o : Ops M) (n : ℕ) (lines : List (List ℕ)) (s s' : Sheet M) (all : State M) (h : Left o n lines s all) where
  pub turn_ends : lines ≡ [] → record { fault = None; sheet = s } ≡ all
  turn_ends e = ap (λ ls. lines_done o n ls s) (sym e) ∙ h.comes

  module _ (text : List ℕ) (rest : List (List ℕ)) (number : ℕ) (first : lines ≡ text ∷ rest) (is : number ≡ suc n) where
    unrolled : onward (line_done o number text s) (lines_done o (suc n) rest) ≡ all
    unrolled = ap (λ k. onward (line_done o k text s) (lines_done o (suc n) rest)) is ∙ ap (λ ls. lines_done o n ls s) (sym first) ∙ h.comes

    pub turn_on : (m : ℕ) → m ≡ suc n → record { fault = None; sheet = s' } ≡ line_done o number text s → Left o m rest s' all
    turn_on m at e = record {
      comes = ap (λ k. lines_done o k rest s') at ∙ ap (λ st. onward st (lines_done o (suc n) rest)) e ∙ unrolled;
    }

    pub turn_stops : (f : Named) → record { fault = Some f; sheet = s' } ≡ line_done o number text s → record { fault = Some f; sheet = s' } ≡ all
    turn_stops f e = ap (λ st. onward st (lines_done o (suc n) rest)) e ∙ unrolled
