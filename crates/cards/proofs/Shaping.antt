-- Pieces and fields are what they are computed to be, and nothing else. Assumes nothing.
use Rattle.std.proofs.Common.{◌≡◌, ℕ, suc, ◌+◌, Bool, true, false, eqb, List, [], ◌∷◌, ◌++◌, length, sym, refl, ap, ◌∙◌, subst, append-nil, add-zero, arith}
use Rattle.std.proofs.lemmas.Bool.{eqb-true, eqb-false, eq-eqb, ne_eqb}
use Rattle.cards.specs.Fields.{Word, worded, words, words_from, word_end}
use Rattle.cards.specs.Parts.{parts, before, onto}
use Rattle.cards.specs.Shapes.{Lacks, EachLacks, joined, Parted, AllSpaces, Opens, Laid}

pub nonempty : {X : Type 0} (x : X) (xs : List X) → x ∷ xs ≡ [] → ⊥
nonempty x xs e = let z : ◌≡◌ {A = ℕ} 1 0 = ap (λ l. size l) e in omega arith
  where
    size : {X : Type 0} → List X → ℕ
    size [] = 0
    size (x ∷ xs) = 1

pub parts_some : (s : ℕ) (bs : List ℕ) → parts s bs ≡ [] → ⊥
unfolding parts
parts_some s [] e = nonempty [] [] e
parts_some s (b ∷ bs) e = go (eqb b s) (parts s bs) e
  where
    go : (t : Bool) (ps : List (List ℕ)) → before t b ps ≡ [] → ⊥
    go true ps e = nonempty [] ps e
    go false [] e = nonempty (b ∷ []) [] e
    go false (w ∷ ws) e = nonempty (b ∷ w) ws e

joined_space : (s : ℕ) (ps : List (List ℕ)) → (ps ≡ [] → ⊥) → joined s ([] ∷ ps) ≡ s ∷ joined s ps
joined_space s [] some = absurd (some refl)
joined_space s (p ∷ ps) some = refl

joined-onto : (s b : ℕ) (ps : List (List ℕ)) → joined s (onto b ps) ≡ b ∷ joined s ps
joined-onto s b [] = refl
joined-onto s b (w ∷ []) = refl
joined-onto s b (w ∷ v ∷ ws) = refl

free_onto : (s b : ℕ) (ps : List (List ℕ)) → (b ≡ s → ⊥) → EachLacks s ps → EachLacks s (onto b ps)
free_onto s b [] ne free = ((ne, tt), tt)
free_onto s b (w ∷ ws) ne free = ((ne, free.0), free.1)

pub parted_parts : (s : ℕ) (bs : List ℕ) → Parted s bs (parts s bs)
unfolding parts
parted_parts s [] = record { some = nonempty [] []; text = refl; free = (tt, tt) }
parted_parts s (b ∷ bs) = record { some = parts_some s (b ∷ bs); text = text_of (eqb b s) refl (parted_parts s bs); free = free_of (eqb b s) refl (parted_parts s bs) }
  where
    text_of : (t : Bool) → eqb b s ≡ t → Parted s bs (parts s bs) → joined s (before t b (parts s bs)) ≡ b ∷ bs
    text_of true e h = let same = sym (eqb-true b s e) in joined_space s (parts s bs) h.some ∙ (λ i. same i ∷ h.text i)
    text_of false e h = joined-onto s b (parts s bs) ∙ ap (λ l. b ∷ l) h.text

    free_of : (t : Bool) → eqb b s ≡ t → Parted s bs (parts s bs) → EachLacks s (before t b (parts s bs))
    free_of true e h = (tt, h.free)
    free_of false e h = free_onto s b (parts s bs) (eqb-false b s e) h.free

parts-word : (s : ℕ) (w : List ℕ) → Lacks s w → parts s w ≡ w ∷ []
unfolding parts
parts-word s [] free = refl
parts-word s (b ∷ bs) free = ap (λ t. before t b (parts s bs)) (ne_eqb b s free.0) ∙ ap (onto b) (parts-word s bs free.1)

parts_more : (s : ℕ) (w bs : List ℕ) → Lacks s w → parts s (w ++ (s ∷ bs)) ≡ w ∷ parts s bs
unfolding parts
parts_more s [] bs free = ap (λ t. before t s (parts s bs)) (eq-eqb s s refl)
parts_more s (b ∷ w) bs free = ap (λ t. before t b (parts s (w ++ (s ∷ bs)))) (ne_eqb b s free.0) ∙ ap (onto b) (parts_more s w bs free.1)

joined-parts : (s : ℕ) (ws : List (List ℕ)) → (ws ≡ [] → ⊥) → EachLacks s ws → ws ≡ parts s (joined s ws)
joined-parts s [] some free = absurd (some refl)
joined-parts s (w ∷ []) some free = sym (parts-word s w free.0)
joined-parts s (w ∷ v ∷ ws) some free =
    ap (λ l. w ∷ l) (joined-parts s (v ∷ ws) (nonempty v ws) free.1) ∙ sym (parts_more s w (joined s (v ∷ ws)) free.0)

pub parted_is : (s : ℕ) (bs : List ℕ) (ws : List (List ℕ)) → Parted s bs ws → ws ≡ parts s bs
parted_is s bs ws h = joined-parts s ws h.some h.free ∙ ap (parts s) h.text

-- fields

words_space : (at : ℕ) (bs : List ℕ) → words_from at (32 ∷ bs) ≡ words_from (suc at) bs
unfolding parts
words_space at bs = refl

words-none : (at : ℕ) → words_from at [] ≡ []
unfolding parts
words-none at = refl

words_gap : (at : ℕ) (gap bs : List ℕ) → AllSpaces gap → words_from at (gap ++ bs) ≡ words_from (at + length gap) bs
words_gap at [] bs h = ap (λ n. words_from n bs) (sym (add-zero at))
words_gap at (b ∷ gap) bs h =
    let on : suc at + length gap ≡ at + suc (length gap) = omega arith in
    ap (λ x. words_from at (x ∷ (gap ++ bs))) h.0 ∙ words_space at (gap ++ bs) ∙ words_gap (suc at) gap bs h.1 ∙ ap (λ n. words_from n bs) on

words-word : (at : ℕ) (w rest : List ℕ) → (w ≡ [] → ⊥) → Lacks 32 w → Opens rest → words_from at (w ++ rest) ≡ record { place = at; text = w } ∷ words_from (at + length w) rest
words-word at [] rest some free ends = absurd (some refl)
words-word at (b ∷ w) [] some free ends =
    ap (λ l. words_from at l) (append-nil (b ∷ w)) ∙ ap (worded at) (parts-word 32 (b ∷ w) free) ∙ ap (λ l. record { place = at; text = b ∷ w } ∷ l) (sym (words-none _))
words-word at (b ∷ w) (c ∷ rest) some free ends =
    ap (λ x. words_from at ((b ∷ w) ++ (x ∷ rest))) ends
    ∙ ap (worded at) (parts_more 32 (b ∷ w) rest free)
    ∙ ap (λ l. record { place = at; text = b ∷ w } ∷ l) (sym (words_space _ rest))
    ∙ ap (λ x. record { place = at; text = b ∷ w } ∷ words_from (at + length (b ∷ w)) (x ∷ rest)) (sym ends)

no_words : (at : ℕ) (bs : List ℕ) → AllSpaces bs → [] ≡ words_from at bs
no_words at [] h = sym (words-none at)
no_words at (b ∷ bs) h = no_words (suc at) bs h.1 ∙ sym (words_space at bs) ∙ ap (λ x. words_from at (x ∷ bs)) (sym h.0)

pub laid_is : (at : ℕ) (bs : List ℕ) (fs : List Word) → Laid at bs fs → fs ≡ words_from at bs
laid_is at bs [] h = no_words at bs h
laid_is at bs (f ∷ fs) h =
    let here : f ≡ record { place = at + length h.gap; text = f.text } = λ i. record { place = h.place i; text = f.text } in
    let others : fs ≡ words_from (word_end f) h.rest = laid_is (word_end f) h.rest fs h.others in
    let at_end : words_from (word_end f) h.rest ≡ words_from (at + length h.gap + length f.text) h.rest = ap (λ n. words_from (n + length f.text) h.rest) h.place in
    (λ i. here i ∷ (others ∙ at_end) i)
    ∙ sym (words-word (at + length h.gap) f.text h.rest h.some h.free h.ends)
    ∙ sym (words_gap at h.gap (f.text ++ h.rest) h.spaces)
    ∙ ap (words_from at) (sym h.text)

laid_space : (at : ℕ) (bs : List ℕ) (fs : List Word) → Laid (suc at) bs fs → Laid at (32 ∷ bs) fs
laid_space at bs [] h = (refl, h)
laid_space at bs (f ∷ fs) h = record {
  gap = 32 ∷ h.gap;
  rest = h.rest;
  text = ap (λ l. 32 ∷ l) h.text;
  spaces = (refl, h.spaces);
  place = h.place ∙ step at (length h.gap);
  some = h.some;
  free = h.free;
  ends = h.ends;
  others = h.others;
}
  where
    step : (n m : ℕ) → suc n + m ≡ n + suc m
    step n m = omega arith

laid-worded : (at : ℕ) (ps : List (List ℕ)) → EachLacks 32 ps → (ps ≡ [] → ⊥) → Laid at (joined 32 ps) (worded at ps)
laid-worded at [] free some = absurd (some refl)
laid-worded at ([] ∷ []) free some = tt
laid-worded at ((b ∷ w) ∷ []) free some = record {
  gap = [];
  rest = [];
  text = sym (append-nil (b ∷ w));
  spaces = tt;
  place = sym (add-zero at);
  some = nonempty b w;
  free = free.0;
  ends = tt;
  others = tt;
}
laid-worded at ([] ∷ v ∷ ws) free some = laid_space at (joined 32 (v ∷ ws)) (worded (suc at) (v ∷ ws)) (laid-worded (suc at) (v ∷ ws) free.1 (nonempty v ws))
laid-worded at ((b ∷ w) ∷ v ∷ ws) free some = record {
  gap = [];
  rest = 32 ∷ joined 32 (v ∷ ws);
  text = refl;
  spaces = tt;
  place = sym (add-zero at);
  some = nonempty b w;
  free = free.0;
  ends = refl;
  others = laid_space (at + length (b ∷ w)) (joined 32 (v ∷ ws)) _ (laid-worded (suc (at + length (b ∷ w))) (v ∷ ws) free.1 (nonempty v ws));
}

pub laid-words : (line : List ℕ) → Laid 0 line (words line)
laid-words line =
    let h = parted_parts 32 line in
    subst (λ bs. Laid 0 bs (words line)) h.text (laid-worded 0 (parts 32 line) h.free h.some)
