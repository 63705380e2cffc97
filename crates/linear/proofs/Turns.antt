-- Invariants of code that runs a loop: what is left to run gives the total. Assumes nothing.
use Rattle.std.proofs.Common.{◌≡◌, ℕ, suc, ◌+◌, ◌-◌, ◌<◌, ◌≤◌, Bool, true, false, cond, sym, refl, ap, ◌∙◌, arith}
use Rattle.linear.specs.Loops.{Tried, steps, down, tries}

pub record Left {W : Type 0} (f : ℕ → W → W) (end i : ℕ) (now total : W) : Type 0 where
  pub rest : steps f (end - i) i now ≡ total

pub left_zero : {W : Type 0} (f : ℕ → W → W) (end : ℕ) (w : W) → Left f end 0 w (steps f end 0 w)
left_zero f end w = record { rest = ap (λ (k : ℕ). steps f k 0 w) (let s : end - 0 ≡ end = omega arith in s) }

pub left_start : {W : Type 0} (f : ℕ → W → W) (end i : ℕ) (w : W) → Left f end i w (steps f (end - i) i w)
left_start f end i w = record { rest = refl }

pub left-turn :
    {W : Type 0} (f : ℕ → W → W) (end i : ℕ) (now next total : W) → i < end → Left f end i now total → next ≡ f i now →
    Left f end (i + 1) next total
unfolding steps
left-turn f end i now next total h l e = record {
  rest =
      ap (λ (k : ℕ). steps f (end - (i + 1)) k next) (let s : i + 1 ≡ suc i = omega arith in s)
      ∙ ap (steps f (end - (i + 1)) (suc i)) e
      ∙ ap (λ (k : ℕ). steps f k i now) (let s : suc (end - (i + 1)) ≡ end - i = omega arith in s)
      ∙ l.rest;
}

pub left_done : {W : Type 0} (f : ℕ → W → W) (end i : ℕ) (now total : W) → end ≤ i → Left f end i now total → now ≡ total
unfolding steps
left_done f end i now total h l = ap (λ (k : ℕ). steps f k i now) (let s : 0 ≡ end - i = omega arith in s) ∙ l.rest

-- the last turn of a loop that takes its end too
pub left_last :
    {W : Type 0} (f : ℕ → W → W) (end i : ℕ) (now next total : W) → i < end → end ≤ i + 1 → Left f end i now total → next ≡ f i now → next ≡ total
left_last f end i now next total h e l n = left_done f end (i + 1) next total e (left-turn f end i now next total h l n)

pub record DownLeft {W : Type 0} (f : ℕ → W → W) (i : ℕ) (now total : W) : Type 0 where
  pub rest : down f i now ≡ total

pub down_start : {W : Type 0} (f : ℕ → W → W) (end : ℕ) (w : W) → DownLeft f end w (down f end w)
down_start f end w = record { rest = refl }

pub down_turn :
    {W : Type 0} (f : ℕ → W → W) (i : ℕ) (now next total : W) → 0 < i → DownLeft f i now total → next ≡ f (i - 1) now →
    DownLeft f (i - 1) next total
unfolding down
down_turn f i now next total h l e = record {
  rest = ap (down f (i - 1)) e ∙ ap (λ (k : ℕ). down f k now) (let s : suc (i - 1) ≡ i = omega arith in s) ∙ l.rest;
}

pub down_done : {W : Type 0} (f : ℕ → W → W) (i : ℕ) (now total : W) → i ≤ 0 → DownLeft f i now total → now ≡ total
unfolding down
down_done f i now total h l = ap (λ (k : ℕ). down f k now) (let s : 0 ≡ i = omega arith in s) ∙ l.rest

pub record TriesLeft {W : Type 0} (f : ℕ → W → Tried W) (end i : ℕ) (now : W) (total : Tried W) : Type 0 where
  pub rest : tries f (end - i) i now ≡ total

pub tries_zero : {W : Type 0} (f : ℕ → W → Tried W) (end : ℕ) (w : W) → TriesLeft f end 0 w (tries f end 0 w)
tries_zero f end w = record { rest = ap (λ (k : ℕ). tries f k 0 w) (let s : end - 0 ≡ end = omega arith in s) }

pub tries-turn :
    {W : Type 0} (f : ℕ → W → Tried W) (end i : ℕ) (now next : W) (total : Tried W) → i < end → TriesLeft f end i now total →
    (f i now).ok ≡ true → next ≡ (f i now).left → TriesLeft f end (i + 1) next total
unfolding tries
tries-turn f end i now next total h l e n = record {
  rest =
      ap (λ (k : ℕ). tries f (end - (i + 1)) k next) (let s : i + 1 ≡ suc i = omega arith in s)
      ∙ ap (tries f (end - (i + 1)) (suc i)) n
      ∙ ap (λ (b : Bool). cond b (tries f (end - (i + 1)) (suc i) (f i now).left) (f i now)) (sym e)
      ∙ ap (λ (k : ℕ). tries f k i now) (let s : suc (end - (i + 1)) ≡ end - i = omega arith in s)
      ∙ l.rest;
}

pub tries-stop :
    {W : Type 0} (f : ℕ → W → Tried W) (end i : ℕ) (now : W) (total : Tried W) → i < end → TriesLeft f end i now total →
    (f i now).ok ≡ false → f i now ≡ total
unfolding tries
tries-stop f end i now total h l e =
    ap (λ (b : Bool). cond b (tries f (end - (i + 1)) (suc i) (f i now).left) (f i now)) (sym e)
    ∙ ap (λ (k : ℕ). tries f k i now) (let s : suc (end - (i + 1)) ≡ end - i = omega arith in s)
    ∙ l.rest

pub tries-done :
    {W : Type 0} (f : ℕ → W → Tried W) (end i : ℕ) (now : W) (total : Tried W) → end ≤ i → TriesLeft f end i now total →
    record { ok = true; left = now } ≡ total
unfolding tries
tries-done f end i now total h l = ap (λ (k : ℕ). tries f k i now) (let s : 0 ≡ end - i = omega arith in s) ∙ l.rest

-- what the goals of such loops ask
pub ruleset turns = (left_zero, left_start, left-turn, left_last, left_done, down_start, down_turn, down_done, tries_zero, tries-turn, tries-stop, tries-done)
