-- A whole slip: rows given one after another, up to a refusal or the seal. Assumes nothing.
use Rattle.std.proofs.Common.{◌≡◌, ℕ, ◌+◌, ◌*◌, ◌/◌, ◌<◌, ◌≤◌, Bool, true, false, not, List, [], ◌∷◌, ◌++◌, length, ℤ, Ok, Err, Result, sym, refl, ap, ◌∙◌, subst, append_assoc, append-nil, arith, lt-ltb, MatchResult}
use native.Mathlib.Decide.{dec_lt}
use Rattle.std.proofs.lemmas.List.{length_push}
use Rattle.sheet.specs.declared.refusal.Refusal.{Refusal}
use Rattle.sheet.specs.Refusals.{Answer, granted, refused, refuse, after, told, Told, means, pass, fail, verdict_of}
use Rattle.slips.specs.declared.row.SlipRow.{SlipRow}
use Rattle.slips.specs.Bits.{put_bits}
use Rattle.slips.specs.Slips.{Slip, is_row, row_bits}
use Rattle.slips.specs.Writing.{opened, blanked, row_answer, seal_answer, rows_answer, slip_answer, kept, Given, Past, Holds, with_row, ReadsBack, ToldApart}
use Rattle.slips.proofs.Ending.{blanked_past, blanked_short, blanked_same, opened_short, opened_wide, opened_past}
use Rattle.slips.proofs.Putting.{length-put_bits, length-zeroed}

-- ---- answers
granted_by : (a : Answer (Unit {0})) → pass ≡ verdict_of a → a ≡ granted tt
granted_by (granted x) e = refl
granted_by (refused t) e = cc

refused_by : (a : Answer (Unit {0})) (t : Told) → fail t ≡ verdict_of a → a ≡ refused t
refused_by (granted x) t e = cc
refused_by (refused u) t e = cc

short_refused : (b : Bool) → refuse 16 b (refuse 17 true (granted (tt {0}))) ≡ granted tt → ⊥
short_refused true e = cc
short_refused false e = cc

-- ---- the rows so far, on an area that was opened
pub record Written (tree : ℕ) (rows : List SlipRow) (area area' : List ℕ) (at next : ℕ) : Type 0 where
  pub long : length area' ≡ length area
  pub short : length area < 280 → area' ≡ area
  pub holds : 280 ≤ length area → Holds (record { tree = tree; rows = rows }) area' at next
  pub place : at ≡ 32 + 69 * length rows
  pub rest : (more : List SlipRow) → rows_answer (length area) 0 (rows ++ more) ≡ rows_answer (length area) next more
  pub past : Past area area'

opened_long : (tree : ℕ) (area : List ℕ) → length (opened tree area) ≡ length area
opened_long tree area = go (dec_lt (length area) 280)
  where
    go : Dec (length area < 280) → length (opened tree area) ≡ length area
    go (yes l) = ap length (opened_short tree area l)
    go (no l) = ap length (opened_wide tree area (omega arith)) ∙ length-put_bits _ 0 _ ∙ length-zeroed 280 area

pub none_written : (tree : ℕ) (area : List ℕ) {a : List ℕ} {at next : ℕ} → a ≡ opened tree area → at ≡ 32 → next ≡ 0
    → (280 ≤ length area → Holds (record { tree = tree; rows = [] }) a at next) → Written tree [] area a at next
none_written tree area e p f h = record {
  long = ap length e ∙ opened_long tree area;
  short = λ s. e ∙ opened_short tree area s;
  holds = h;
  place = p;
  rest = λ more. ap (λ (n : ℕ). rows_answer (length area) n more) (sym f);
  past = opened_past tree area e;
}

abbrev pub row_of : ℕ → List ℤ → SlipRow
row_of number es = record { number = number; entries = es }

-- ---- one row more
module _ {tree : ℕ} {rows : List SlipRow} {area a : List ℕ} {at next : ℕ} (w : Written tree rows area a at next) (number : ℕ) (es : List ℤ) where
  answer : Answer (Unit {0})
  answer = row_answer (length a) next number es

  rest_is : (more : List SlipRow) → rows_answer (length area) 0 (rows ++ row_of number es ∷ more) ≡ after answer (λ _. rows_answer (length area) (number + 1) more)
  unfolding rows_answer answer
  rest_is more =
      w.rest (row_of number es ∷ more) ∙ ap (λ (n : ℕ). after (row_answer n next number es) (λ _. rows_answer (length area) (number + 1) more)) (sym w.long)

  pub row_written : {a' : List ℕ} {at' next' : ℕ} → Given a at next number es pass a' at' next' → length a' ≡ length a → Past a a'
      → ((s : Slip) → Holds s a at next → Holds (with_row (row_answer (length a) next number es) s number es) a' at' next')
      → Written tree (rows ++ row_of number es ∷ []) area a' at' next'
  unfolding answer
  row_written {a'} {at'} {next'} g l p h =
      let yes_answer : row_answer (length a) next number es ≡ granted tt = granted_by (row_answer (length a) next number es) g.answers in
      let next_is : next' ≡ number + 1 = g.nexts ∙ ap (λ (x : Answer (Unit {0})). kept x next (number + 1)) yes_answer in
      let at_is : at' ≡ at + 69 = g.places ∙ ap (λ (x : Answer (Unit {0})). kept x at (at + 69)) yes_answer in
      record {
        long = l ∙ w.long;
        short = λ s. absurd (short_refused (not (is_row next number es))
            (ap (λ (b : Bool). refuse 16 (not (is_row next number es)) (refuse 17 b (granted (tt {0})))) (sym (lt-ltb (length a) 280 (omega (arith, w.long)))) ∙ yes_answer));
        holds = λ wide.
            subst (λ (x : Answer (Unit {0})). Holds (with_row x (record { tree = tree; rows = rows }) number es) a' at' next') yes_answer
            (h (record { tree = tree; rows = rows }) (w.holds wide));
        place = omega (arith, at_is, w.place, length_push rows (row_of number es));
        rest = λ more.
            ap (rows_answer (length area) 0) (append_assoc rows (row_of number es ∷ []) more)
            ∙ rest_is more
            ∙ ap (λ (x : Answer (Unit {0})). after x (λ _. rows_answer (length area) (number + 1) more)) yes_answer
            ∙ ap (λ (n : ℕ). rows_answer (length area) n more) (sym next_is);
        past = λ k q. p k q ∙ w.past k q;
      }

  row_refused : (t : Told) (more : List SlipRow) → fail t ≡ verdict_of answer → refused t ≡ slip_answer (length area) (rows ++ row_of number es ∷ more)
  row_refused t more e =
      ap (λ (x : Answer (Unit {0})). after (after x (λ _. rows_answer (length area) (number + 1) more)) (λ _. seal_answer (length area) (32 + 69 * length (rows ++ row_of number es ∷ more))))
      (sym (refused_by answer t e))
      ∙ ap (λ (x : Answer (Unit {0})). after x (λ _. seal_answer (length area) (32 + 69 * length (rows ++ row_of number es ∷ more)))) (sym (rest_is more))

-- ---- the end
pub record Slipped (s : Slip) (area area' : List ℕ) (r : Result ℕ Refusal) : Type 0 where
  pub answers : told r ≡ slip_answer (length area) s.rows
  pub slip : MatchResult r (ReadsBack s area') (λ _. area' ≡ blanked area)
  pub past : Past area area'

pub slip_of : {s : Slip} {area b : List ℕ} {r : Result ℕ Refusal} → Slipped s area b r → MatchResult r (ReadsBack s b) (λ _. b ≡ blanked area)
slip_of x = x.slip

pub past_of : {s : Slip} {area b : List ℕ} {r : Result ℕ Refusal} → Slipped s area b r → Past area b
past_of x = x.past

-- by the seal
module _ {tree : ℕ} {rows : List SlipRow} {area a : List ℕ} {at next : ℕ} (w : Written tree rows area a at next) where
  sealed_answer : seal_answer (length a) at ≡ slip_answer (length area) rows
  unfolding rows_answer
  sealed_answer =
      ap (λ (m : ℕ). seal_answer m at) w.long
      ∙ ap (seal_answer (length area)) w.place
      ∙ ap (λ (x : Answer (Unit {0})). after x (λ _. seal_answer (length area) (32 + 69 * length rows))) (sym (w.rest []) ∙ ap (rows_answer (length area) 0) (append-nil rows))

  pub sealed : (r : Result ℕ Refusal) {b c : List ℕ} → told r ≡ seal_answer (length a) at → c ≡ a
      → ((s : Slip) → Holds s a at next → MatchResult r (ReadsBack s c) (λ _. ⊥)) → b ≡ a → Slipped (record { tree = tree; rows = rows }) area b r
  sealed r {b} {c} t f h e = record { answers = t ∙ sealed_answer; slip = go (dec_lt (length area) 280); past = subst (Past area) (sym e) w.past }
    where
      whole : (q : Result ℕ Refusal) → MatchResult q (ReadsBack (record { tree = tree; rows = rows }) c) (λ _. ⊥)
          → MatchResult q (ReadsBack (record { tree = tree; rows = rows }) b) (λ _. b ≡ blanked area)
      whole (Ok x) k = subst (λ (ys : List ℕ). ReadsBack (record { tree = tree; rows = rows }) ys x) (f ∙ sym e) k
      whole (Err x) k = absurd k

      part : length area < 280 → (q : Result ℕ Refusal) → told q ≡ refused (record { number = 17; words = [] })
          → MatchResult q (ReadsBack (record { tree = tree; rows = rows }) b) (λ _. b ≡ blanked area)
      part l (Ok x) k = cc
      part l (Err x) k = e ∙ w.short l ∙ sym (blanked_short area l)

      go : Dec (length area < 280) → MatchResult r (ReadsBack (record { tree = tree; rows = rows }) b) (λ _. b ≡ blanked area)
      go (yes l) = part l r (t ∙ ap (λ (v : Bool). refuse 17 v (granted ((at + 7) / 8))) (lt-ltb (length a) 280 (omega (arith, w.long))))
      go (no l) = whole r (h (record { tree = tree; rows = rows }) (w.holds (omega arith)))

-- by a refused row
pub ended : {tree : ℕ} {rows : List SlipRow} {area a : List ℕ} {at next : ℕ} (w : Written tree rows area a at next) (number : ℕ) (es : List ℤ) (more : List SlipRow) {all : List SlipRow} → rows ++ row_of number es ∷ more ≡ all
    → (x : Refusal) {a' : List ℕ} {at' next' : ℕ} → Given a at next number es (fail (means x)) a' at' next'
    → (r : Result ℕ Refusal) {b : List ℕ} → r ≡ Err x → b ≡ blanked a' → Slipped (record { tree = tree; rows = all }) area b r
unfolding answer
ended {tree} {rows} {area} {a} {at} {next} w number es more {all} whole x {a'} g r {b} e f =
    let same : a' ≡ a = g.areas ∙ ap (λ (y : Answer (Unit {0})). kept y a (put_bits a at (row_bits number es))) (refused_by (row_answer (length a) next number es) (means x) g.answers) in
    let blank : b ≡ blanked area = f ∙ ap blanked same ∙ blanked_same area a w.long w.past w.short in
    record {
      answers = ap told e ∙ row_refused w number es (means x) more g.answers ∙ ap (slip_answer (length area)) whole;
      slip = subst (λ (q : Result ℕ Refusal). MatchResult q (ReadsBack (record { tree = tree; rows = all }) b) (λ _. b ≡ blanked area)) (sym e) blank;
      past = blanked_past area blank;
    }

pub told_apart : ToldApart
told_apart s t a b used p q e = sym p.back ∙ ap Rattle.slips.specs.Slips.read_back e ∙ q.back
