-- What is added to a text, piece by piece.
use Rattle.std.proofs.Common.{◌≡◌, ℕ, ◌+◌, List, [], ◌∷◌, ◌++◌, Ok, Err, Result, OnOk, codes, sym, refl, ap, ◌∙◌, subst, append_assoc, append-nil, add-one}
use Rattle.printed_key.specs.declared.stop.Stop.{Stop}
use Rattle.printed_key.specs.Blocks.{stop_words, stop_line}
use Rattle.printed_key.specs.Text.{Word, spaced, Line, line_text, text_of, listed, Adds}

pub one_word : (w : Word) → 32 ∷ w ≡ spaced (w ∷ [])
unfolding spaced
one_word w = ap (λ b. 32 ∷ b) (sym (append-nil w))

pub spaced_more : (xs ys : List Word) → spaced (xs ++ ys) ≡ spaced xs ++ spaced ys
unfolding spaced
spaced_more [] ys = refl
spaced_more (x ∷ xs) ys = ap (λ b. 32 ∷ b) (ap (λ b. x ++ b) (spaced_more xs ys) ∙ sym (append_assoc x (spaced xs) (spaced ys)))

pub text_more : (xs ys : List Line) → text_of (xs ++ ys) ≡ text_of xs ++ text_of ys
unfolding text_of
text_more [] ys = refl
text_more (x ∷ xs) ys = ap (λ b. line_text x ++ b) (text_more xs ys) ∙ sym (append_assoc (line_text x) (text_of xs) (text_of ys))

pub listed_next : {X : Type 0} (f : ℕ → List X) (k : ℕ) → listed f (k + 1) ≡ listed f k ++ f k
unfolding listed
listed_next f k = ap (listed f) (add-one k)

pub no_lines : (f : ℕ → List Line) (a : List ℕ) → a ≡ a ++ text_of (listed f 0)
unfolding text_of listed
no_lines f a = sym (append-nil a)

pub more_lines : (f : ℕ → List Line) (k : ℕ) (a b t : List ℕ) → b ≡ a ++ text_of (listed f k) → t ≡ b ++ text_of (f k) → t ≡ a ++ text_of (listed f (k + 1))
more_lines f k a b t e h =
    h ∙ ap (λ x. x ++ text_of (f k)) e ∙ append_assoc a (text_of (listed f k)) (text_of (f k))
    ∙ ap (λ x. a ++ x) (sym (text_more (listed f k) (f k)) ∙ ap text_of (sym (listed_next f k)))

-- nothing is added
pub no_line : (a : List ℕ) → a ≡ a ++ text_of []
unfolding text_of
no_line a = sym (append-nil a)

pub five_words : (u v w x y : Word) → 32 ∷ (u ++ (32 ∷ (v ++ (32 ∷ (w ++ (32 ∷ (x ++ (32 ∷ y)))))))) ≡ spaced (u ∷ v ∷ w ∷ x ∷ y ∷ [])
unfolding spaced
five_words u v w x y = ap (λ b. 32 ∷ (u ++ (32 ∷ (v ++ (32 ∷ (w ++ (32 ∷ (x ++ (32 ∷ b))))))))) (sym (append-nil y))

-- a line: its end, a word before what follows, and its name
pub line_end : 10 ∷ [] ≡ spaced [] ++ (10 ∷ [])
unfolding spaced
line_end = refl

pub word_before : (w : Word) (bs : List ℕ) (ws : List Word) → bs ≡ spaced ws ++ (10 ∷ []) → 32 ∷ (w ++ bs) ≡ spaced (w ∷ ws) ++ (10 ∷ [])
unfolding spaced
word_before w bs ws e = ap (λ b. 32 ∷ (w ++ b)) e ∙ ap (λ b. 32 ∷ b) (sym (append_assoc w (spaced ws) (10 ∷ [])))

-- a text that holds the space and the word
pub text_before : (t w : Word) (bs : List ℕ) (ws : List Word) → t ≡ 32 ∷ w → bs ≡ spaced ws ++ (10 ∷ []) → t ++ bs ≡ spaced (w ∷ ws) ++ (10 ∷ [])
text_before t w bs ws e h = ap (λ x. x ++ bs) e ∙ word_before w bs ws h

pub line_added : (a t name bs : List ℕ) (ws : List Word) → t ≡ a ++ (name ++ bs) → bs ≡ spaced ws ++ (10 ∷ []) → t ≡ a ++ text_of (record { name = name; words = ws } ∷ [])
unfolding text_of line_text
line_added a t name bs ws e h = e ∙ ap (λ b. a ++ (name ++ b)) h ∙ ap (λ b. a ++ b) (sym (append-nil (name ++ (spaced ws ++ (10 ∷ [])))))

pub stop_added : {X E : Type 0} (r : Result X E) (a t : List ℕ) (stop : Stop) → OnOk r (t ≡ a ++ (codes "refused" ++ (spaced (stop_words stop) ++ (10 ∷ [])))) → Adds r a t (text_of (stop_line stop ∷ []))
stop_added (Ok x) a t stop e = line_added a t (codes "refused") _ (stop_words stop) e refl
stop_added (Err y) a t stop e = tt

-- a text that was empty
pub from_empty : (a t bs : List ℕ) → a ≡ [] → t ≡ a ++ bs → t ≡ bs
from_empty a t bs z e = e ∙ ap (λ x. x ++ bs) z

-- blocks one after another
pub then_lines : (a b t : List ℕ) (xs ys : List Line) → b ≡ a ++ text_of xs → t ≡ b ++ text_of ys → t ≡ a ++ text_of (xs ++ ys)
then_lines a b t xs ys e h = h ∙ ap (λ x. x ++ text_of ys) e ∙ append_assoc a (text_of xs) (text_of ys) ∙ ap (λ x. a ++ x) (sym (text_more xs ys))

pub adds_then : {X E : Type 0} (r : Result X E) (a b t : List ℕ) (xs ys : List Line) → b ≡ a ++ text_of xs → Adds r b t (text_of ys) → Adds r a t (text_of (xs ++ ys))
adds_then (Ok x) a b t xs ys e h = then_lines a b t xs ys e h
adds_then (Err y) a b t xs ys e h = tt

pub adds_same : {X E : Type 0} (r : Result X E) (a t b c : List ℕ) → b ≡ c → Adds r a t b → Adds r a t c
adds_same r a t b c e h = subst (λ x. Adds r a t x) e h
