-- What a grammar read is written so that it reads back, wherever the tokens stand: combinator by combinator.
use Rattle.std.proofs.Common.{ℕ, ◌&&◌, ◌⊎◌, ◌≡◌, ◌∙◌, ◌++◌, true, false, not, List, [], ◌∷◌, Option, Some, None, map, refl, sym, ap, subst, inl, inr, append-nil, option_map}
use Rattle.msc_base.specs.declared.place.Place.{Place}
use Rattle.msc_tokens.specs.declared.token.Token.{Token}
use Rattle.token_grammar.specs.Languages.{Set, among, any_fits, just, names_or_strings, texts}
use Rattle.token_grammar.specs.Languages as language
use Rattle.token_grammar.specs.Grammars.{Grammar, word, seq, or, read_as, chain, until, tail, opens, inner, maybe, optional, behind, bytes_of}
use Rattle.token_grammar.specs.Parts.{placed, separated, all_of}
use Rattle.std.proofs.lemmas.Bool.{and_parts, or_cases}
use Rattle.token_grammar.specs.Classes.{is_name, is_string, is_one_of, name_but, string, fits}
use Rattle.msc_print.specs.Texts.{IsText}
use Rattle.msc_print.proofs.Tidy.{Tidy, done, Proper, is_fixed, tidy_append, fixed_tidy, proper_append, name_tidy, string_tidy}
use Rattle.msc_print.specs.Words.{Words, alone, all_words, each_behind, separated_words}

abbrev pub Any : {A : Type 0} → A → Type 0
Any a = Unit {0}

abbrev pub same : {A : Type 0} → A → A
same a = a

abbrev pub nothing : {A : Type 0} → A → Unit {0}
nothing a = tt

abbrev pub both : {A B C D : Type 0} → (A → C) → (B → D) → A × B → C × D
both f g p = (f p.0, g p.1)

abbrev pub Both : {A B : Type 0} → (A → Type 0) → (B → Type 0) → A × B → Type 0
Both P Q p = P p.0 × Q p.1

abbrev pub beside : {A B : Type 0} → (A → Words) → (B → Words) → A × B → Words
beside u v p = u p.0 ++ v p.1

-- What R reads meets P, and tokens with the texts w read as a value that is the same as seen through f.
pub record Back {A B : Type 0} (R : Grammar A) (P : A → Type 0) (w : A → Words) (f : A → B) : Type 0 where
  pub back : (x : List Token) (a : A) → R.reads x a → P a × ((t : List Token) → texts t ≡ w a → (b : A) × R.reads t b × (f b ≡ f a))
  -- of tokens of a text, these texts are tidy
  pub tidy : (x : List Token) (a : A) → R.reads x a → Proper x → Tidy (w a)

-- ---- texts of tokens

pub cut : (t : List Token) (u v : Words) → texts t ≡ u ++ v → (y : List Token) × (z : List Token) × (t ≡ y ++ z) × (texts y ≡ u) × (texts z ≡ v)
cut t [] v e = ([], t, refl, refl, e)
cut [] (b ∷ u) v e = absurd cc
cut (c ∷ t) (b ∷ u) v e =
    let first : c.bytes ≡ b = cc in
    let rest : texts t ≡ u ++ v = cc in
    let r = cut t u v rest in
    (c ∷ r.0, r.1, ap (λ (l : List Token). c ∷ l) r.2, rw (first, r.3) refl, r.4)

pub one_token : (t : List Token) (b : List ℕ) → texts t ≡ b ∷ [] → (c : Token) × (t ≡ c ∷ []) × (c.bytes ≡ b)
one_token [] b e = absurd cc
one_token (c ∷ []) b e = let first : c.bytes ≡ b = cc in (c, refl, first)
one_token (c ∷ d ∷ t) b e = absurd cc

pub first_token : (t : List Token) (b : List ℕ) (v : Words) → texts t ≡ b ∷ v → (c : Token) × (z : List Token) × (t ≡ c ∷ z) × (c.bytes ≡ b) × (texts z ≡ v)
first_token [] b v e = absurd cc
first_token (c ∷ z) b v e = let first : c.bytes ≡ b = cc in let rest : texts z ≡ v = cc in (c, z, refl, first, rest)

pub no_token : (t : List Token) → texts t ≡ [] → t ≡ []
no_token [] e = refl
no_token (c ∷ t) e = absurd cc

pub pair_is : {A B : Type 0} (a c : A) (b d : B) → a ≡ c → b ≡ d → ◌≡◌ {A = A × B} (a, b) (c, d)
pair_is {A = A} {B = B} a c b d e g = ap (λ (z : A). (z, b)) e ∙ ap (λ (z : B). (c, z)) g

-- ---- combinators

pub back_seq : {A B C D : Type 0} (R : Grammar A) (S : Grammar B) {P : A → Type 0} {Q : B → Type 0} {u : A → Words} {v : B → Words} {f : A → C} {g : B → D} → Back R P u f → Back S Q v g →
    Back (seq R S) (Both P Q) (beside u v) (both f g)
back_seq R S {u = u} {v = v} {f = f} {g = g} r s = record {
  back = λ x p h.
      let a = r.back h.0 p.0 h.3 in
      let b = s.back h.1 p.1 h.4 in (
        (a.0, b.0),
        λ t e.
            let c = cut t (u p.0) (v p.1) e in
            let k = a.1 c.0 c.3 in
            let l = b.1 c.1 c.4 in
            ((k.0, l.0), (c.0, c.1, c.2, k.1, l.1), pair_is (f k.0) (f p.0) (g l.0) (g p.1) k.2 l.2),
      );
  tidy = λ x p h proper.
      let known = proper_append h.0 h.1 (subst Proper h.2 proper) in
      tidy_append (u p.0) (v p.1) (r.tidy h.0 p.0 h.3 known.0) (s.tidy h.1 p.1 h.4 known.1);
}

or_back : {A B : Type 0} (R S : Grammar A) {P : A → Type 0} {w : A → Words} {f : A → B} → Back R P w f → Back S P w f → (x : List Token) (a : A) → (or R S).reads x a →
    P a × ((t : List Token) → texts t ≡ w a → (b : A) × (or R S).reads t b × (f b ≡ f a))
or_back R S r s x a (inl h) = let k = r.back x a h in (k.0, λ t e. let b = k.1 t e in (b.0, inl b.1, b.2))
or_back R S r s x a (inr h) = let k = s.back x a h in (k.0, λ t e. let b = k.1 t e in (b.0, inr b.1, b.2))

or_tidy : {A B : Type 0} (R S : Grammar A) {P : A → Type 0} {w : A → Words} {f : A → B} → Back R P w f → Back S P w f → (x : List Token) (a : A) → (or R S).reads x a → Proper x → Tidy (w a)
or_tidy R S r s x a (inl h) = r.tidy x a h
or_tidy R S r s x a (inr h) = s.tidy x a h

pub back_or : {A B : Type 0} (R S : Grammar A) {P : A → Type 0} {w : A → Words} {f : A → B} → Back R P w f → Back S P w f → Back (or R S) P w f
back_or R S r s = record { back = or_back R S r s; tidy = or_tidy R S r s }

pub back_as : {A B C D : Type 0} (g : A → B) (R : Grammar A) {P : A → Type 0} {w : A → Words} {f : A → C} (Q : B → Type 0) (v : B → Words) (k : B → D) (h : C → D) → Back R P w f →
    ((a : A) → P a → Q (g a)) → ((a : A) → P a → v (g a) ≡ w a) → ((a : A) → k (g a) ≡ h (f a)) → Back (read_as g R) Q v k
back_as g R Q v k h r meets writes shows = record {
  back = λ x b read.
      let a = read.0 in
      let e = read.2 in
      let known = r.back x a read.1 in (
        subst Q (sym e) (meets a known.0),
        λ t is.
            let back = known.1 t (is ∙ ap v e ∙ writes a known.0) in
            (g back.0, (back.0, back.1, refl), shows back.0 ∙ ap h back.2 ∙ sym (shows a) ∙ sym (ap k e)),
      );
  tidy = λ x b read proper. subst Tidy (sym (ap v read.2 ∙ writes read.0 (r.back x read.0 read.1).0)) (r.tidy x read.0 read.1 proper);
}

-- the same grammar, seen otherwise
pub back_so : {A C D : Type 0} (R : Grammar A) {P : A → Type 0} {w : A → Words} {f : A → C} (Q : A → Type 0) (v : A → Words) (k : A → D) (h : C → D) → Back R P w f →
    ((a : A) → P a → Q a) → ((a : A) → P a → v a ≡ w a) → ((a : A) → k a ≡ h (f a)) → Back R Q v k
back_so R Q v k h r meets writes shows = record {
  back = λ x a read.
      let known = r.back x a read in (
        meets a known.0,
        λ t is.
            let back = known.1 t (is ∙ writes a known.0) in
            (back.0, back.1, shows back.0 ∙ ap h back.2 ∙ sym (shows a)),
      );
  tidy = λ x a read proper. subst Tidy (sym (writes a (r.back x a read).0)) (r.tidy x a read proper);
}

-- ---- words

-- a fixed text that the set takes
abbrev pub FitsFixed : Set → List ℕ → Type 0
FitsFixed s text = (any_fits s text && is_fixed text) ≡ true

-- the tokens of the set are names or strings
abbrev pub Plain : Set → Type 0
Plain s = (w : List ℕ) → any_fits s w ≡ true → (is_name w ≡ true) ⊎ (is_string w ≡ true)

plain_tidy : (s : Set) (w : List ℕ) → Plain s → any_fits s w ≡ true → (is_string w ≡ true → IsText w) → Tidy (w ∷ [])
plain_tidy s w plain is text = elim (plain w is) [ inl h ↦ name_tidy w [] h done | inr h ↦ string_tidy w [] h (text h) done ]

pub but_plain : (but : Words) → Plain (name_but but ∷ [])
but_plain but w is = elim (or_cases (fits (name_but but) w) false is) [ inl a ↦ inl (and_parts (is_name w) (not (is_one_of but w)) a).0 | inr b ↦ absurd cc ]

pub item_plain : Plain names_or_strings
item_plain w is = elim (or_cases (fits (name_but []) w) (any_fits (string ∷ []) w) is) [
  | inl a ↦ inl (and_parts (is_name w) (not (is_one_of [] w)) a).0
  | inr b ↦ elim (or_cases (is_string w) false b) [ inl c ↦ inr c | inr d ↦ absurd cc ]
]

pub fits_set : (s : Set) (text : List ℕ) → FitsFixed s text → any_fits s text ≡ true
fits_set s text is = (and_parts (any_fits s text) (is_fixed text) is).0

fits_tidy : (s : Set) (text : List ℕ) (rest : Words) → FitsFixed s text → Tidy rest → Tidy (text ∷ rest)
fits_tidy s text rest is k = fixed_tidy text rest (and_parts (any_fits s text) (is_fixed text) is).1 k

pub back_bytes : (s : Set) → Plain s → Back (bytes_of s) Any alone same
back_bytes s plain = record {
  back = λ x a h. (
    tt,
    λ t e.
        let c = one_token t a e in
        let is : among s c.0 ≡ true = rw (c.2, h.2) h.1.1 in
        (c.0.bytes, (c.0, (c.1, is), refl), c.2),
  );
  tidy = λ x a h proper. let known = subst Proper h.1.0 proper in subst (λ (w : List ℕ). Tidy (w ∷ [])) (sym h.2) (plain_tidy s h.0.bytes plain h.1.1 known.0);
}

-- a word whose value doesn't matter
pub back_mark : (s : Set) (text : List ℕ) → FitsFixed s text → Back (bytes_of s) Any (λ b. text ∷ []) nothing
back_mark s text is = record {
  back = λ x a h. (
    tt,
    λ t e.
        let c = one_token t text e in
        let fits : among s c.0 ≡ true = rw c.2 (fits_set s text is) in
        (c.0.bytes, (c.0, (c.1, fits), refl), refl),
  );
  tidy = λ x a h proper. fits_tidy s text [] is done;
}

pub back_word : (s : Set) (text : List ℕ) → FitsFixed s text → Back (word s) Any (λ b. text ∷ []) nothing
back_word s text is = record {
  back = λ x a h. (
    tt,
    λ t e.
        let c = one_token t text e in
        let fits : among s c.0 ≡ true = rw c.2 (fits_set s text is) in
        (c.0, (c.1, fits), refl),
  );
  tidy = λ x a h proper. fits_tidy s text [] is done;
}

abbrev pub named_at : Token → List ℕ × Place
named_at t = (t.bytes, t.place)

abbrev pub name_alone : List ℕ × Place → Words
name_alone p = p.0 ∷ []

abbrev pub name_of : List ℕ × Place → List ℕ
name_of p = p.0

pub back_placed_word : (s : Set) → Plain s → Back (read_as named_at (word s)) Any name_alone name_of
back_placed_word s plain = record {
  back = λ x a h. (
    tt,
    λ t e.
        let c = one_token t a.0 e in
        let name : a.0 ≡ h.0.bytes = ap name_of h.2 in
        let is : among s c.0 ≡ true = rw (c.2, name) h.1.1 in
        ((c.0.bytes, c.0.place), (c.0, (c.1, is), refl), c.2),
  );
  tidy = λ x a h proper.
      let known = subst Proper h.1.0 proper in
      let name : a.0 ≡ h.0.bytes = ap name_of h.2 in
      subst (λ (w : List ℕ). Tidy (w ∷ [])) (sym name) (plain_tidy s h.0.bytes plain h.1.1 known.0);
}

abbrev pub with_word : {A : Type 0} → List ℕ → (A → Words) → A → Words
with_word text w a = text ∷ w a

abbrev pub second_of : {A B : Type 0} → A × B → B
second_of p = p.1

pub back_behind : {A B : Type 0} (s : Set) (text : List ℕ) (R : Grammar A) {P : A → Type 0} {w : A → Words} {f : A → B} → FitsFixed s text → Back R P w f → Back (behind s R) P (with_word text w) f
back_behind s text R {P = P} {w = w} {f = f} is r = record {
  back = λ x a h.
      let p = h.0 in
      let known = r.back h.1.1 p.1 h.1.4 in (
        subst P (sym h.2) known.0,
        λ t e.
            let c = first_token t text (w a) e in
            let fits : among s c.0 ≡ true = rw c.3 (fits_set s text is) in
            let back = known.1 c.1 (c.4 ∙ ap w h.2) in
            (back.0, ((c.0, back.0), (c.0 ∷ [], c.1, c.2, (refl, fits), back.1), refl), back.2 ∙ sym (ap f h.2)),
      );
  tidy = λ x a h proper.
      let known = proper_append h.1.0 h.1.1 (subst Proper h.1.2 proper) in
      let inner = r.tidy h.1.1 h.0.1 h.1.4 known.1 in
      fits_tidy s text (w a) is (subst Tidy (sym (ap w h.2)) inner);
}

pub back_placed : {A B : Type 0} (s : Set) (text : List ℕ) (R : Grammar A) {P : A → Type 0} {w : A → Words} {f : A → B} → FitsFixed s text → Back R P w f →
    Back (placed s R) (λ p. P p.1) (λ p. text ∷ w p.1) (λ p. f p.1)
back_placed {A = A} s text R {P = P} {w = w} {f = f} is r = record {
  back = λ x a h.
      let p = h.0 in
      let part : a.1 ≡ p.1 = ap (λ (q : Place × A). q.1) h.2 in
      let known = r.back h.1.1 p.1 h.1.4 in (
        subst P (sym part) known.0,
        λ t e.
            let c = first_token t text (w a.1) e in
            let fits : among s c.0 ≡ true = rw c.3 (fits_set s text is) in
            let back = known.1 c.1 (c.4 ∙ ap w part) in
            ((c.0.place, back.0), ((c.0, back.0), (c.0 ∷ [], c.1, c.2, (refl, fits), back.1), refl), back.2 ∙ sym (ap f part)),
      );
  tidy = λ x a h proper.
      let known = proper_append h.1.0 h.1.1 (subst Proper h.1.2 proper) in
      let part : a.1 ≡ h.0.1 = ap (λ (q : Place × A). q.1) h.2 in
      let inner = r.tidy h.1.1 h.0.1 h.1.4 known.1 in
      fits_tidy s text (w a.1) is (subst Tidy (sym (ap w part)) inner);
}

pub back_opens : {A B : Type 0} (s : Set) (text : List ℕ) (R : Grammar A) {P : A → Type 0} {w : A → Words} {f : A → B} → FitsFixed s text → Back R P w f → Back (opens s (inner R)) P (with_word text w) f
back_opens s text R {w = w} is r = record {
  back = λ x a h.
      let known = r.back h.1 a h.4 in (
        known.0,
        λ t e.
            let c = first_token t text (w a) e in
            let fits : among s c.0 ≡ true = rw c.3 (fits_set s text is) in
            let back = known.1 c.1 c.4 in
            (back.0, (c.0, c.1, c.2, fits, back.1), back.2),
      );
  tidy = λ x a h proper.
      let known = subst Proper h.2 proper in
      fits_tidy s text (w a) is (r.tidy h.1 a h.4 known.1);
}

-- ---- lists

module _ {A B : Type 0} (R : Grammar A) {P : A → Type 0} {w : A → Words} {f : A → B} (r : Back R P w f) where
  pub back_each : (x : List Token) (ls : List A) → language.each R.reads x ls → (t : List Token) → texts t ≡ all_words w ls → (bs : List A) × language.each R.reads t bs × (map f bs ≡ map f ls)
  back_each x [] h t e = ([], no_token t e, refl)
  back_each x (a ∷ ls) h t e =
      let c = cut t (w a) (all_words w ls) e in
      let k = (r.back h.0 a h.3).1 c.0 c.3 in
      let l = back_each h.1 ls h.4 c.1 c.4 in
      (k.0 ∷ l.0, (c.0, c.1, c.2, k.1, l.1), rw (k.2, l.2) refl)

  pub each_tidy : (x : List Token) (ls : List A) → language.each R.reads x ls → Proper x → Tidy (all_words w ls)
  each_tidy x [] h proper = done
  each_tidy x (a ∷ ls) h proper =
      let known = proper_append h.0 h.1 (subst Proper h.2 proper) in
      tidy_append (w a) (all_words w ls) (r.tidy h.0 a h.3 known.0) (each_tidy h.1 ls h.4 known.1)

  pub back_until : {C D : Type 0} (S : Grammar C) {Q : C → Type 0} {v : C → Words} {g : C → D} → Back S Q v g → Back (until R S) (λ p. Q p.1) (beside (all_words w) v) (both (map f) g)
  back_until S {v = v} {g = g} s = record {
    back = λ x p h.
        let b = s.back h.1 p.1 h.4 in (
          b.0,
          λ t e.
              let c = cut t (all_words w p.0) (v p.1) e in
              let k = back_each h.0 p.0 h.3 c.0 c.3 in
              let l = b.1 c.1 c.4 in
              ((k.0, l.0), (c.0, c.1, c.2, k.1, l.1), pair_is (map f k.0) (map f p.0) (g l.0) (g p.1) k.2 l.2),
        );
    tidy = λ x p h proper.
        let known = proper_append h.0 h.1 (subst Proper h.2 proper) in
        tidy_append (all_words w p.0) (v p.1) (each_tidy h.0 p.0 h.3 known.0) (s.tidy h.1 p.1 h.4 known.1);
  }

  pub back_chain : {C D : Type 0} (S : Grammar C) {Q : C → Type 0} {v : C → Words} {g : C → D} → Back S Q v g → Back (chain S R) (λ p. Q p.0) (beside v (all_words w)) (both g (map f))
  back_chain S {v = v} {g = g} s = record {
    back = λ x p h.
        let b = s.back h.0 p.0 h.3 in (
          b.0,
          λ t e.
              let c = cut t (v p.0) (all_words w p.1) e in
              let k = b.1 c.0 c.3 in
              let l = back_each h.1 p.1 h.4 c.1 c.4 in
              ((k.0, l.0), (c.0, c.1, c.2, k.1, l.1), pair_is (g k.0) (g p.0) (map f l.0) (map f p.1) k.2 l.2),
        );
    tidy = λ x p h proper.
        let known = proper_append h.0 h.1 (subst Proper h.2 proper) in
        tidy_append (v p.0) (all_words w p.1) (s.tidy h.0 p.0 h.3 known.0) (each_tidy h.1 p.1 h.4 known.1);
  }

-- a list that isn't empty
abbrev pub Filled : {A : Type 0} → List A → Type 0
Filled [] = ⊥
Filled (x ∷ xs) = Unit {0}

each_is : {A : Type 0} (text : List ℕ) (w : A → Words) (xs : List A) → each_behind text w xs ≡ all_words (with_word text w) xs
each_is text w [] = refl
each_is text w (x ∷ xs) = ap (λ (l : Words). text ∷ (w x ++ l)) (each_is text w xs)

pub back_separated : {A B : Type 0} (text : List ℕ) (R : Grammar A) {P : A → Type 0} {w : A → Words} {f : A → B} → FitsFixed (just text) text → Back R P w f →
    Back (separated text R) Filled (separated_words text w) (map f)
back_separated text R {w = w} {f = f} is r =
    back_as all_of (chain R (behind (just text) R)) Filled (separated_words text w) (map f) all_of
    (back_chain (behind (just text) R) (back_behind (just text) text R is r) R r)
    (λ p m. tt) (λ p m. ap (λ (l : Words). w p.0 ++ l) (each_is text w p.1)) (λ p. refl)

-- ---- parts that may be missing

pub back_optional : {A B V C D E : Type 0} (v : Option A → V) (R : Grammar A) (S : Grammar B) {P : A → Type 0} {Q : B → Type 0} {w : A → Words} {u : B → Words} {f : A → C} {g : B → D}
    (M : V → Type 0) (wv : V → Words) (k : V → E) (h : Option C → E) → Back R P w f → Back S Q u g →
    M (v None) → ((a : A) → P a → M (v (Some a))) → wv (v None) ≡ [] → ((a : A) → P a → wv (v (Some a)) ≡ w a) → k (v None) ≡ h None → ((a : A) → k (v (Some a)) ≡ h (Some (f a))) →
    Back (optional v R S) (Both M Q) (beside wv u) (both k g)
back_optional {A = A} {B = B} {V = V} {C = C} {D = D} {E = E} v R S {P = P} {Q = Q} {w = w} {u = u} {f = f} {g = g} M wv k h r s m0 m1 w0 w1 k0 k1 =
    back_as (both v same) (maybe R S) {P = N} {w = z} {f = l} (Both M Q) (beside wv u) (both k g) same
    (back_or (read_as there_as (seq R S)) (read_as missing_as S) there missing) (λ q m. m) (λ q m. refl) (λ q. refl)
  where
    N : Option A × B → Type 0
    N q = M (v q.0) × Q q.1

    z : Option A × B → Words
    z q = wv (v q.0) ++ u q.1

    l : Option A × B → E × D
    l q = (k (v q.0), g q.1)

    there_as : A × B → Option A × B
    there_as p = (Some p.0, p.1)

    missing_as : B → Option A × B
    missing_as b = (None, b)

    there_shown : C × D → E × D
    there_shown c = (h (Some c.0), c.1)

    missing_shown : D → E × D
    missing_shown d = (h None, d)

    there : Back (read_as there_as (seq R S)) N z l
    there = back_as there_as (seq R S) N z l there_shown (back_seq R S r s)
        (λ a m. (m1 a.0 m.0, m.1)) (λ a m. ap (λ (t : Words). t ++ u a.1) (w1 a.0 m.0)) (λ a. pair_is (k (v (Some a.0))) (h (Some (f a.0))) (g a.1) (g a.1) (k1 a.0) refl)

    missing : Back (read_as missing_as S) N z l
    missing = back_as missing_as S N z l missing_shown s
        (λ b m. (m0, m)) (λ b m. ap (λ (t : Words). t ++ u b) w0) (λ b. pair_is (k (v None)) (h None) (g b) (g b) k0 refl)

tail_back : {A B C D : Type 0} (R : Grammar A) (S : Grammar B) {P : A → Type 0} {Q : B → Type 0} {w : A → Words} {u : B → Words} {f : A → C} {g : B → D} (wo : Option B → Words) →
    Back R P w f → Back S Q u g → wo None ≡ [] → ((b : B) → Q b → wo (Some b) ≡ u b) → (x : List Token) (p : A × Option B) → (tail R S).reads x p →
    P p.0 × ((t : List Token) → texts t ≡ w p.0 ++ wo p.1 → (q : A × Option B) × (tail R S).reads t q × (both f (option_map g) q ≡ both f (option_map g) p))
tail_back {C = C} {D = D} R S {w = w} {u = u} {f = f} {g = g} wo r s w0 w1 x (a, None) h =
    let known = r.back x a h in (
      known.0,
      λ t e.
          let back = known.1 t (e ∙ ap (λ (l : Words). w a ++ l) w0 ∙ append-nil (w a)) in
          ((back.0, None), back.1, pair_is {A = C} {B = Option D} (f back.0) (f a) None None back.2 refl),
    )
tail_back R S {w = w} {u = u} {f = f} {g = g} wo r s w0 w1 x (a, Some b) h =
    let known = (back_seq R S r s).back x (a, b) h in (
      known.0.0,
      λ t e.
          let back = known.1 t (e ∙ ap (λ (l : Words). w a ++ l) (w1 b known.0.1)) in
          ((back.0.0, Some back.0.1), back.1, ap (both same Some) back.2),
    )

tail_tidy : {A B C D : Type 0} (R : Grammar A) (S : Grammar B) {P : A → Type 0} {Q : B → Type 0} {w : A → Words} {u : B → Words} {f : A → C} {g : B → D} (wo : Option B → Words) →
    Back R P w f → Back S Q u g → wo None ≡ [] → ((b : B) → Q b → wo (Some b) ≡ u b) → (x : List Token) (p : A × Option B) → (tail R S).reads x p → Proper x → Tidy (w p.0 ++ wo p.1)
tail_tidy R S {w = w} wo r s w0 w1 x (a, None) h proper = subst (λ (l : Words). Tidy (w a ++ l)) (sym w0) (subst Tidy (sym (append-nil (w a))) (r.tidy x a h proper))
tail_tidy R S {w = w} wo r s w0 w1 x (a, Some b) h proper =
    let known = (back_seq R S r s).back x (a, b) h in
    subst (λ (l : Words). Tidy (w a ++ l)) (sym (w1 b known.0.1)) ((back_seq R S r s).tidy x (a, b) h proper)

pub back_tail : {A B C D : Type 0} (R : Grammar A) (S : Grammar B) {P : A → Type 0} {Q : B → Type 0} {w : A → Words} {u : B → Words} {f : A → C} {g : B → D} (wo : Option B → Words) →
    Back R P w f → Back S Q u g → wo None ≡ [] → ((b : B) → Q b → wo (Some b) ≡ u b) → Back (tail R S) (λ p. P p.0) (beside w wo) (both f (option_map g))
back_tail R S wo r s w0 w1 = record { back = tail_back R S wo r s w0 w1; tidy = tail_tidy R S wo r s w0 w1 }
