-- The lines that a text is made of: each byte of a word is above the space, so that the bytes tell the words and the lines.
use Rattle.std.proofs.Common.{◌≡◌, ℕ, zero, suc, ◌+◌, ◌<◌, ◌≤◌, ◌/◌, ◌%◌, Bool, true, false, cond, eqb, ltb, List, [], ◌∷◌, ◌++◌, ℤ, decimal, get_or, drop, sym, refl, ap, ◌∙◌, append_assoc, arith, ne_eqb}
use Rattle.std.specs.Fmt.{signed_decimal, digits, digits_onto, digit_glyph}
use Rattle.std.specs.Prelude.{pos, negsuc}
use Rattle.std.specs.List.{filter}
use Rattle.printed_key.specs.Text.{Word, spaced, Line, line_text, text_of, listed}
use Rattle.printed_key.proofs.Picking.{Fails, fails_more, after_fails}

abbrev pub Bare : Word → Type 0
Bare [] = Unit {0}
Bare (b ∷ bs) = (32 < b) × Bare bs

abbrev pub Words : List Word → Type 0
Words [] = Unit {0}
Words (w ∷ ws) = Bare w × Words ws

pub record LineBare (l : Line) : Type 0 where
  pub name : Bare l.name
  pub words : Words l.words

abbrev pub Lines : List Line → Type 0
Lines [] = Unit {0}
Lines (l ∷ ls) = LineBare l × Lines ls

-- what ends a word
abbrev Ending : List ℕ → Type 0
Ending [] = ⊥
Ending (b ∷ bs) = b ≤ 32

first_is : (x y : ℕ) (a b : List ℕ) → x ∷ a ≡ y ∷ b → x ≡ y
first_is x y a b e = ap (λ l. get_or l 0 0) e

rest-is : (x y : ℕ) (a b : List ℕ) → x ∷ a ≡ y ∷ b → a ≡ b
rest-is x y a b e = ap (drop 1) e

word_cut : (v w a b : List ℕ) → Bare v → Bare w → Ending a → Ending b → v ++ a ≡ w ++ b → (v ≡ w) × (a ≡ b)
word_cut [] [] a b h k m n e = (refl, e)
word_cut [] (y ∷ w) [] b h k m n e = absurd m
word_cut [] (y ∷ w) (x ∷ a) b h k m n e = absurd (omega (arith, k.0, m, first_is x y _ _ e))
word_cut (x ∷ v) [] a [] h k m n e = absurd n
word_cut (x ∷ v) [] a (y ∷ b) h k m n e = absurd (omega (arith, h.0, n, first_is x y _ _ e))
word_cut (x ∷ v) (y ∷ w) a b h k m n e =
    let r = word_cut v w a b h.1 k.1 m n (rest-is x y _ _ e) in
    (ap (λ z. z ∷ v) (first_is x y _ _ e) ∙ ap (λ l. y ∷ l) r.0, r.1)

spaced_ends : (ws : List Word) (r : List ℕ) → Ending (spaced ws ++ (10 ∷ r))
unfolding spaced
spaced_ends [] r = omega arith
spaced_ends (w ∷ ws) r = omega arith

words_cut : (us vs : List Word) (a b : List ℕ) → Words us → Words vs → spaced us ++ (10 ∷ a) ≡ spaced vs ++ (10 ∷ b) → (us ≡ vs) × (a ≡ b)
unfolding spaced
words_cut [] [] a b h k e = (refl, rest-is 10 10 a b e)
words_cut [] (v ∷ vs) a b h k e = absurd (let c : 10 ≡ 32 = first_is 10 32 _ _ e in omega (arith, c))
words_cut (u ∷ us) [] a b h k e = absurd (let c : 32 ≡ 10 = first_is 32 10 _ _ e in omega (arith, c))
words_cut (u ∷ us) (v ∷ vs) a b h k e =
    let f : u ++ (spaced us ++ (10 ∷ a)) ≡ v ++ (spaced vs ++ (10 ∷ b)) = sym (append_assoc u (spaced us) (10 ∷ a)) ∙ rest-is 32 32 _ _ e ∙ append_assoc v (spaced vs) (10 ∷ b) in
    let c = word_cut u v _ _ h.0 k.0 (spaced_ends us a) (spaced_ends vs b) f in
    let r = words_cut us vs a b h.1 k.1 c.1 in
    (ap (λ x. x ∷ us) c.0 ∙ ap (λ x. v ∷ x) r.0, r.1)

-- a line and what follows it
line_then : (l : Line) (r : List ℕ) → line_text l ++ r ≡ l.name ++ (spaced l.words ++ (10 ∷ r))
unfolding line_text
line_then l r = append_assoc l.name (spaced l.words ++ (10 ∷ [])) r ∙ ap (λ b. l.name ++ b) (append_assoc (spaced l.words) (10 ∷ []) r)

line_cut : (l m : Line) (a b : List ℕ) → LineBare l → LineBare m → line_text l ++ a ≡ line_text m ++ b → (l ≡ m) × (a ≡ b)
line_cut l m a b h k e =
    let c = word_cut l.name m.name _ _ h.name k.name (spaced_ends l.words a) (spaced_ends m.words b) (sym (line_then l a) ∙ e ∙ line_then m b) in
    let r = words_cut l.words m.words a b h.words k.words c.1 in
    (ap (λ n. record { name = n; words = l.words }) c.0 ∙ ap (λ w. record { name = m.name; words = w }) r.0, r.1)

not_empty : (n : Word) (ws : List Word) (r : List ℕ) → [] ≡ n ++ (spaced ws ++ (10 ∷ r)) → ⊥
unfolding spaced
not_empty [] [] r e = cc
not_empty [] (w ∷ ws) r e = cc
not_empty (x ∷ n) ws r e = cc

pub lines_told : (xs ys : List Line) → Lines xs → Lines ys → text_of xs ≡ text_of ys → xs ≡ ys
unfolding text_of
lines_told [] [] h k e = refl
lines_told [] (y ∷ ys) h k e = absurd (not_empty y.name y.words (text_of ys) (e ∙ line_then y (text_of ys)))
lines_told (x ∷ xs) [] h k e = absurd (not_empty x.name x.words (text_of xs) (sym e ∙ line_then x (text_of xs)))
lines_told (x ∷ xs) (y ∷ ys) h k e =
    let c = line_cut x y (text_of xs) (text_of ys) h.0 k.0 e in
    ap (λ l. l ∷ xs) c.0 ∙ ap (λ ls. y ∷ ls) (lines_told xs ys h.1 k.1 c.1)

-- the words that there are
bare_if : (b : Bool) (x y : ℕ) → 32 < x → 32 < y → 32 < cond b x y
bare_if true x y h k = h
bare_if false x y h k = k

glyph_bare : (d : ℕ) → 32 < digit_glyph false d
glyph_bare d = bare_if (ltb d 10) (48 + d) (87 + d) (omega arith) (omega arith)

bare_cond : (b : Bool) (v w : Word) → Bare v → Bare w → Bare (cond b v w)
bare_cond true v w h k = h
bare_cond false v w h k = k

onto_bare : (k n : ℕ) (acc : List ℕ) → Bare acc → Bare (digits_onto k 10 false n acc)
onto_bare zero n acc h = h
onto_bare (suc k) n acc h =
    let more : Bare (digit_glyph false (n % 10) ∷ acc) = (glyph_bare (n % 10), h) in
    bare_cond (eqb (n / 10) 0) _ _ more (onto_bare k (n / 10) (digit_glyph false (n % 10) ∷ acc) more)

pub decimal_bare : (n : ℕ) → Bare (decimal n)
unfolding digits
decimal_bare n = onto_bare 64 n [] tt

pub signed_bare : (z : ℤ) → Bare (signed_decimal z)
signed_bare (pos n) = decimal_bare n
signed_bare (negsuc n) = (omega arith, decimal_bare (suc n))

pub words_more : (xs ys : List Word) → Words xs → Words ys → Words (xs ++ ys)
words_more [] ys h k = k
words_more (x ∷ xs) ys h k = (h.0, words_more xs ys h.1 k)

pub lines_more : (xs ys : List Line) → Lines xs → Lines ys → Lines (xs ++ ys)
lines_more [] ys h k = k
lines_more (x ∷ xs) ys h k = (h.0, lines_more xs ys h.1 k)

pub listed_words : (f : ℕ → List Word) (n : ℕ) → ((k : ℕ) → Words (f k)) → Words (listed f n)
unfolding listed
listed_words f zero h = tt
listed_words f (suc n) h = words_more (listed f n) (f n) (listed_words f n h) (h n)

pub listed_lines : (f : ℕ → List Line) (n : ℕ) → ((k : ℕ) → Lines (f k)) → Lines (listed f n)
unfolding listed
listed_lines f zero h = tt
listed_lines f (suc n) h = lines_more (listed f n) (f n) (listed_lines f n h) (h n)

-- the one line feed of a line is its end
feed : ℕ → Bool
feed b = eqb b 10

bare_unfed : (w : Word) → Bare w → Fails feed w
unfolding feed
bare_unfed [] h = tt
bare_unfed (b ∷ w) h = (ne_eqb b 10 (λ e. omega (arith, e, h.0)), bare_unfed w h.1)

spaced_unfed : (ws : List Word) → Words ws → Fails feed (spaced ws)
unfolding spaced feed
spaced_unfed [] h = tt
spaced_unfed (w ∷ ws) h = (refl, fails_more feed w (spaced ws) (bare_unfed w h.0) (spaced_unfed ws h.1))

pub one_feed : (l : Line) → LineBare l → filter (λ b. eqb b 10) (line_text l) ≡ 10 ∷ []
unfolding line_text feed
one_feed l h = after_fails feed l.name _ (bare_unfed l.name h.name) ∙ after_fails feed (spaced l.words) (10 ∷ []) (spaced_unfed l.words h.words)
