-- A check tells exactly when all is right, and which fault is the first. Assumes nothing.
use Rattle.std.proofs.Common.{◌≡◌, ℕ, Bool, true, false, cond, not, ◌&&◌, ◌⊎◌, List, [], ◌∷◌, Some, None, Option, sym, refl, ap, ◌∙◌, subst, inl, inr, arith}
use Rattle.std.proofs.lemmas.Bool.{true≢false}
use Rattle.arithmetic.specs.Ops.{Ops, may_divide}
use Rattle.sheet.specs.declared.kind.Kind.{Kind}
use Rattle.sheet.specs.declared.placement.Placement.{Placement}
use Rattle.sheet.specs.Kinds.{mark, is_source, has_start}
use Rattle.sheet.specs.Refusals.{Told}
use Rattle.cards.specs.declared.numeral.Numeral.{Numeral}
use Rattle.cards.specs.Cards.{Checked, right, wrong, then, wanted, barred, byte_of, is_empty, counted, whole_in, amount, measured, value_of, start_of, over_of, card_of}
use Rattle.cards.specs.Fields.{Word, Cutting}
use Rattle.cards.specs.Numerals.{plain, number_digits, signed, ratio}
use Rattle.cards.specs.Rules.{Means, Fails, FirstWrong, number_check, start_check_by, over_check, card_checks}
use Rattle.cards.specs.Shapes.{Writes, Shows}
use Rattle.cards.proofs.Shaping.{nonempty}
use Rattle.cards.proofs.Showing.{some_none, plain_writes, writes_plain, shown_shows, shows_shown}

pub record Tells {X : Type 0} (r : Checked X) (Right : X → Type 0) (Wrong : Told → ℕ → Type 0) : Type 0 where
  pub right_so : (x : X) → r ≡ right x → Right x
  pub so_right : (x : X) → Right x → r ≡ right x
  pub wrong_so : (t : Told) (b : ℕ) → r ≡ wrong t b → Wrong t b
  pub so_wrong : (t : Told) (b : ℕ) → Wrong t b → r ≡ wrong t b

pub right_wrong : {X A : Type 0} (x : X) (t : Told) (b : ℕ) → right x ≡ wrong t b → A
right_wrong x t b e = let z : ◌≡◌ {A = ℕ} 0 1 = cc in absurd (omega arith)

pub right_same : {X : Type 0} (x y : X) → right x ≡ right y → x ≡ y
right_same x y e = cc

pub wrong_told : {X : Type 0} (t u : Told) (b c : ℕ) → ◌≡◌ {A = Checked X} (wrong t b) (wrong u c) → t ≡ u
wrong_told t u b c e = cc

pub wrong_byte : {X : Type 0} (t u : Told) (b c : ℕ) → ◌≡◌ {A = Checked X} (wrong t b) (wrong u c) → b ≡ c
wrong_byte t u b c e = cc

-- a refusal by that number at that byte is how the thing fails
pub as_fails : {X : Type 0} (n byte : ℕ) (H : Type 0) → (H → ⊥) → (t : Told) (b : ℕ) → ◌≡◌ {A = Checked X} (wrong (record { number = n; words = [] }) byte) (wrong t b) → Fails n byte H t b
as_fails n byte H no_way t b e = record { not_so = no_way; told = sym (wrong_told _ t byte b e); at = sym (wrong_byte _ t byte b e) }

pub from_fails : {X : Type 0} (n byte : ℕ) (H : Type 0) (t : Told) (b : ℕ) → Fails n byte H t b → ◌≡◌ {A = Checked X} (wrong (record { number = n; words = [] }) byte) (wrong t b)
from_fails n byte H t b f = let p = sym f.told in let q = sym f.at in λ i. wrong (p i) (q i)

pub wanted_tells : {X : Type 0} (n byte : ℕ) (x : Option X) (R : X → Type 0) → ((a : X) → x ≡ Some a → R a) → ((a : X) → R a → x ≡ Some a)
    → Tells (wanted n byte x) R (Fails n byte ((a : X) × R a))
wanted_tells n byte None R into back = record {
  right_so = λ a e. right_wrong a _ _ (sym e);
  so_right = λ a r. some_none a (sym (back a r));
  wrong_so = λ t b e. as_fails n byte _ (λ h. some_none h.0 (sym (back h.0 h.1))) t b e;
  so_wrong = λ t b f. from_fails n byte _ t b f;
}
wanted_tells n byte (Some a) R into back = record {
  right_so = λ y e. subst R (right_same a y e) (into a refl);
  so_right = λ y r. ap (wanted n byte) (back y r);
  wrong_so = λ t b e. right_wrong a t b e;
  so_wrong = λ t b f. absurd (f.not_so (a, into a refl));
}

-- of two checks in a row both are right, or the first is wrong, or it is right and the second wrong; H says that the first is
pub then_tells : {X Y : Type 0} (r : Checked X) (f : X → Checked Y) {R : X → Type 0} {W : Told → ℕ → Type 0} {R' : X → Y → Type 0} {W' : Told → ℕ → Type 0} (H : Type 0)
    → ((x : X) → R x → H) → (H → (x : X) × R x) → Tells r R W → ((x : X) → R x → Tells (f x) (R' x) W')
    → Tells (then r f) (λ y. (x : X) × R x × R' x y) (λ t b. W t b ⊎ (H × W' t b))
then_tells (right x) f {R} {W} {R'} {W'} H into out h k =
    let rx = h.right_so x refl in
    let next = k x rx in
    record {
      right_so = λ y e. (x, rx, next.right_so y e);
      so_right = λ y all. subst (λ z. f z ≡ right y) (sym (right_same x all.0 (h.so_right all.0 all.1))) ((k all.0 all.1).so_right y all.2);
      wrong_so = λ t b e. inr (into x rx, next.wrong_so t b e);
      so_wrong = λ t b w. elim w [ inl a ↦ right_wrong x t b (h.so_wrong t b a) | inr a ↦ next.so_wrong t b a.1 ];
    }
then_tells (wrong u c) f {R} {W} {R'} {W'} H into out h k = record {
  right_so = λ y e. right_wrong y _ _ (sym e);
  so_right = λ y all. right_wrong all.0 _ _ (sym (h.so_right all.0 all.1));
  wrong_so = λ t b e. inl (h.wrong_so t b (ap₂_wrong t b e));
  so_wrong = λ t b w. elim w [ inl a ↦ again t b (h.so_wrong t b a) | inr a ↦ right_wrong (out a.0).0 _ _ (sym (h.so_right (out a.0).0 (out a.0).1)) ];
}
  where
    ap₂_wrong : {X Y : Type 0} (t : Told) (b : ℕ) → ◌≡◌ {A = Checked Y} (wrong u c) (wrong t b) → ◌≡◌ {A = Checked X} (wrong u c) (wrong t b)
    ap₂_wrong t b e = let p = wrong_told u t c b e in let q = wrong_byte u t c b e in λ i. wrong (p i) (q i)

    again : {X Y : Type 0} (t : Told) (b : ℕ) → ◌≡◌ {A = Checked X} (wrong u c) (wrong t b) → ◌≡◌ {A = Checked Y} (wrong u c) (wrong t b)
    again t b e = let p = wrong_told u t c b e in let q = wrong_byte u t c b e in λ i. wrong (p i) (q i)

-- numbers

pub count_tells : (w : Word) → Tells (counted w) (λ n. Writes number_digits w.text n) (number_check w).Wrong
count_tells w = wanted_tells 22 (byte_of w) (plain number_digits w.text) (λ n. Writes number_digits w.text n) (plain_writes number_digits w.text) (writes_plain number_digits w.text)

-- values

module _ {M : Type 0} (o : Ops M) (sign : Bool) (byte : ℕ) (text : List ℕ) where
  abbrev Numbered : Type 0
  Numbered = (m : Numeral) × Shows sign text m

  abbrev Meant : Type 0
  Meant = (v : M) × Means o sign text v

  same_numeral : (m n : Numeral) → cond sign (signed text) (ratio text) ≡ Some m → Shows sign text n → n ≡ m
  same_numeral m n is h = let e = shows_shown sign text n h in cc

  by_divides : (m : Numeral) → cond sign (signed text) (ratio text) ≡ Some m → (t : Bool) → may_divide o (whole_in o m.under) ≡ t
      → Tells (barred 23 byte (not t) (right (amount o m))) (λ v. Means o sign text v) (λ t b. Fails 22 byte Numbered t b ⊎ (Numbered × Fails 23 byte Meant t b))
  by_divides m is true divides =
      let shows = shown_shows sign text m is in
      record {
        right_so = λ v e. record { numeral = m; shows = shows; divides = divides; is = sym (right_same _ v e) };
        so_right = λ v h. ap right (ap (amount o) (sym (same_numeral m h.numeral is h.shows)) ∙ sym h.is);
        wrong_so = λ t b e. right_wrong _ t b e;
        so_wrong = λ t b w. elim w [ inl f ↦ absurd (f.not_so (m, shows)) | inr f ↦ absurd (f.1.not_so (amount o m, record { numeral = m; shows = shows; divides = divides; is = refl })) ];
      }
  by_divides m is false divides =
      let shows = shown_shows sign text m is in
      record {
        right_so = λ v e. right_wrong v _ _ (sym e);
        so_right = λ v h. absurd (never (v, h));
        wrong_so = λ t b e. inr ((m, shows), as_fails 23 byte Meant never t b e);
        so_wrong = λ t b w. elim w [ inl f ↦ absurd (f.not_so (m, shows)) | inr f ↦ from_fails 23 byte Meant t b f.1 ];
      }
    where
      never : Meant → ⊥
      never h = true≢false (sym h.1.divides ∙ ap (λ n. may_divide o (whole_in o n.under)) (same_numeral m h.1.numeral is h.1.shows) ∙ divides)

  by_shown : (x : Option Numeral) → cond sign (signed text) (ratio text) ≡ x
      → Tells (then (wanted 22 byte x) (measured o byte)) (λ v. Means o sign text v) (λ t b. Fails 22 byte Numbered t b ⊎ (Numbered × Fails 23 byte Meant t b))
  by_shown None is = record {
    right_so = λ v e. right_wrong v _ _ (sym e);
    so_right = λ v h. absurd (never (h.numeral, h.shows));
    wrong_so = λ t b e. inl (as_fails 22 byte Numbered never t b e);
    so_wrong = λ t b w. elim w [ inl f ↦ from_fails 22 byte Numbered t b f | inr f ↦ absurd (never f.0) ];
  }
    where
      never : Numbered → ⊥
      never h = some_none h.0 (sym (shows_shown sign text h.0 h.1) ∙ is)
  by_shown (Some m) is = by_divides m is (may_divide o (whole_in o m.under)) refl

  pub value_tells : Tells (then (wanted 22 byte (cond sign (signed text) (ratio text))) (measured o byte)) (λ v. Means o sign text v) (λ t b. Fails 22 byte Numbered t b ⊎ (Numbered × Fails 23 byte Meant t b))
  value_tells = by_shown (cond sign (signed text) (ratio text)) refl

-- starts

abbrev pub StartIs : {M : Type 0} → Ops M → Bool → Word → M → Type 0
StartIs o true w s = Means o true w.text s
StartIs o false w s = s ≡ o.nought

module _ {M : Type 0} (o : Ops M) (w : Word) where
  pub start_tells : (g : Bool) → Tells (cond g (then (wanted 22 (byte_of w) (signed w.text)) (measured o (byte_of w))) (right o.nought)) (StartIs o g w) (start_check_by o g w).Wrong
  start_tells true = value_tells o true (byte_of w) w.text
  start_tells false = record {
    right_so = λ s e. sym (right_same _ s e);
    so_right = λ s e. ap right (sym e);
    wrong_so = λ t b e. right_wrong _ t b e;
    so_wrong = λ t b f. absurd f;
  }

  start_into : (g : Bool) (s : M) → StartIs o g w s → (start_check_by o g w).Holds
  start_into true s h = (s, h)
  start_into false s h = tt

  start_out : (g : Bool) → (start_check_by o g w).Holds → (s : M) × StartIs o g w s
  start_out true h = h
  start_out false h = (o.nought, refl)

pub over_tells : {X : Type 0} (w : Word) (x : X) → Tells (barred 24 (byte_of w) (not (is_empty w.text)) (right x)) (λ y. (w.text ≡ []) × (x ≡ y)) (FirstWrong (over_check w ∷ []))
over_tells w x = go w.text refl
  where
    go : (text : List ℕ) → w.text ≡ text → Tells (barred 24 (byte_of w) (not (is_empty text)) (right x)) (λ y. (w.text ≡ []) × (x ≡ y)) (FirstWrong (over_check w ∷ []))
    go [] e = record {
      right_so = λ y p. (e, right_same x y p);
      so_right = λ y h. ap right h.1;
      wrong_so = λ t b p. right_wrong x t b p;
      so_wrong = λ t b f. elim f [ inl h ↦ absurd (h.not_so e) | inr h ↦ absurd h.1 ];
    }
    go (b ∷ bs) e = record {
      right_so = λ y p. right_wrong y _ _ (sym p);
      so_right = λ y h. absurd (nonempty b bs (sym e ∙ h.0));
      wrong_so = λ t c p. inl (as_fails 24 (byte_of w) _ (λ h. nonempty b bs (sym e ∙ h)) t c p);
      so_wrong = λ t c f. elim f [ inl h ↦ from_fails 24 (byte_of w) _ t c h | inr h ↦ absurd h.1 ];
    }

-- cards

-- a start stands there
abbrev pub start_given : Kind → Cutting → Bool
start_given k c = has_start k && not (is_empty c.fifth.text)

module _ {M : Type 0} (o : Ops M) (k : Kind) (number : Word) (c : Cutting) where
  pub record Parts (p : Placement M) : Type 0 where
    pub numbered : Writes number_digits number.text p.number
    pub kinded : (mark k).number ≡ p.kind
    pub from : Writes number_digits c.tail.text p.tail
    pub to : Writes number_digits c.head.text p.head
    pub valued : Means o (is_source k) c.value.text p.value
    pub started : StartIs o (start_given k c) c.fifth p.start
    pub none_over : (over_of k c).text ≡ []

  abbrev card : ℕ → ℕ → ℕ → M → M → Placement M
  card n t h v s = record { number = n; kind = (mark k).number; tail = t; head = h; value = v; start = s }

  abbrev All : Placement M → Type 0
  All p =
      (n : ℕ) × Writes number_digits number.text n × ((t : ℕ) × Writes number_digits c.tail.text t × ((h : ℕ) × Writes number_digits c.head.text h
      × ((v : M) × Means o (is_source k) c.value.text v × ((s : M) × StartIs o (start_given k c) c.fifth s × (((over_of k c).text ≡ []) × (card n t h v s ≡ p))))))

  in_order_lem : Tells (card_of o k number c) All (FirstWrong (card_checks o k number c))
  in_order_lem =
      then_tells (counted number) _ _ (λ n h. (n, h)) (λ h. h) (count_tells number) (λ n _.
      then_tells (counted c.tail) _ _ (λ n h. (n, h)) (λ h. h) (count_tells c.tail) (λ t _.
      then_tells (counted c.head) _ _ (λ n h. (n, h)) (λ h. h) (count_tells c.head) (λ h _.
      then_tells (value_of o k c.value) _ _ (λ v h. (v, h)) (λ h. h) (value_tells o (is_source k) (byte_of c.value) c.value.text) (λ v _.
      then_tells (start_of o k c.fifth) _ _ (start_into o c.fifth (start_given k c)) (start_out o c.fifth (start_given k c)) (start_tells o c.fifth (start_given k c)) (λ s _.
      over_tells (over_of k c) (card n t h v s))))))

  parts_of_lem : (p : Placement M) → All p → Parts p
  parts_of_lem p a =
      let t = a.2 in
      let h = t.2 in
      let v = h.2 in
      let s = v.2 in
      let is = s.2.1 in
      record {
        numbered = subst (Writes number_digits number.text) (ap (λ x. x.number) is) a.1;
        kinded = ap (λ x. x.kind) is;
        from = subst (Writes number_digits c.tail.text) (ap (λ x. x.tail) is) t.1;
        to = subst (Writes number_digits c.head.text) (ap (λ x. x.head) is) h.1;
        valued = subst (Means o (is_source k) c.value.text) (ap (λ x. x.value) is) v.1;
        started = subst (StartIs o (start_given k c) c.fifth) (ap (λ x. x.start) is) s.1;
        none_over = s.2.0;
      }

  all_of : (p : Placement M) → Parts p → All p
  all_of p h = (
    p.number,
    h.numbered,
    (
      p.tail,
      h.from,
      (
        p.head,
        h.to,
        (p.value, h.valued, (p.start, h.started, (h.none_over, λ i. record { number = p.number; kind = h.kinded i; tail = p.tail; head = p.head; value = p.value; start = p.start }))),
      ),
    ),
  )

  pub card_tells : Tells (card_of o k number c) Parts (FirstWrong (card_checks o k number c))
  card_tells =
      let h = in_order_lem in
      record {
        right_so = λ p e. parts_of_lem p (h.right_so p e);
        so_right = λ p a. h.so_right p (all_of p a);
        wrong_so = h.wrong_so;
        so_wrong = h.so_wrong;
      }
