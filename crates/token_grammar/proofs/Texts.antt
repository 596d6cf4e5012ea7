-- A grammar whose values hold no token reads the same bytes alike.
use Rattle.std.proofs.Common.{ℕ, ◌≡◌, ◌∙◌, ◌++◌, true, List, [], ◌∷◌, refl, sym, ap, inl, inr, subst, Option, Some, None}
use Rattle.msc_tokens.specs.declared.token.Token.{Token}
use Rattle.token_grammar.specs.Languages.{Set, among, texts, each}
use Rattle.token_grammar.specs.Languages as language
use Rattle.token_grammar.specs.Grammars.{Grammar, seq, or, read_as, chain, until, maybe, tail, optional, behind, bytes_of}

pub record Textual {A : Type 0} (R : Grammar A) : Type 0 where
  pub keeps : (x y : List Token) (a : A) → texts x ≡ texts y → R.reads x a → R.reads y a

-- what has the bytes of two lists, one behind the other, is cut so too
record Cut (x z y : List Token) : Type 0 where
  prefix : List Token
  back : List Token
  are : y ≡ prefix ++ back
  front_texts : texts x ≡ texts prefix
  back_texts : texts z ≡ texts back

cut : (x z y : List Token) → texts (x ++ z) ≡ texts y → Cut x z y
cut [] z y e = record { prefix = []; back = y; are = refl; front_texts = refl; back_texts = e }
cut (t ∷ x) z [] e = cc
cut (t ∷ x) z (u ∷ y) e =
    let here : t.bytes ≡ u.bytes = cc in
    let there : texts (x ++ z) ≡ texts y = cc in
    let r = cut x z y there in
    let tail_are : texts x ≡ texts r.prefix = r.front_texts in
    record { prefix = u ∷ r.prefix; back = r.back; are = ap (λ l. u ∷ l) r.are; front_texts = cc; back_texts = r.back_texts }

among_texts : (s : Set) (t u : Token) → t.bytes ≡ u.bytes → among s t ≡ true → among s u ≡ true
among_texts s t u e h = subst (λ (b : List ℕ). language.any_fits s b ≡ true) e h

pub bytes_textual : (s : Set) → Textual (bytes_of s)
bytes_textual s = record { keeps = keeps }
  where
    keeps : (x y : List Token) (a : List ℕ) → texts x ≡ texts y → (bytes_of s).reads x a → (bytes_of s).reads y a
    keeps x [] a e h = let bad : texts (h.0 ∷ []) ≡ [] = ap texts (sym h.1.0) ∙ e in cc
    keeps x (u ∷ []) a e h =
        let line : texts (h.0 ∷ []) ≡ texts (u ∷ []) = ap texts (sym h.1.0) ∙ e in
        let same : h.0.bytes ≡ u.bytes = cc in
        (u, (refl, among_texts s h.0 u same h.1.1), h.2 ∙ same)
    keeps x (u ∷ w ∷ y) a e h = let bad : texts (h.0 ∷ []) ≡ texts (u ∷ w ∷ y) = ap texts (sym h.1.0) ∙ e in cc

-- a word, where the value is dropped
pub behind_textual : {A : Type 0} {R : Grammar A} (s : Set) → Textual R → Textual (behind s R)
behind_textual {A = A} {R = R} s r = record { keeps = keeps }
  where
    keeps : (x y : List Token) (a : A) → texts x ≡ texts y → (behind s R).reads x a → (behind s R).reads y a
    keeps x y a e h =
        let k = h.1 in
        let c = cut k.0 k.1 y (ap texts (sym k.2) ∙ e) in
        one c.prefix c.back c.are c.front_texts c.back_texts
      where
        one : (f b : List Token) → y ≡ f ++ b → texts h.1.0 ≡ texts f → texts h.1.1 ≡ texts b → (behind s R).reads y a
        one f b are ft bt =
            let w : texts (h.0.0 ∷ []) ≡ texts f = ap texts (sym h.1.3.0) ∙ ft in
            at f b are w bt
          where
            at : (f b : List Token) → y ≡ f ++ b → texts (h.0.0 ∷ []) ≡ texts f → texts h.1.1 ≡ texts b → (behind s R).reads y a
            at [] b are w bt = cc
            at (u ∷ []) b are w bt =
                let same : h.0.0.bytes ≡ u.bytes = cc in
                ((u, h.0.1), (u ∷ [], b, are, (refl, among_texts s h.0.0 u same h.1.3.1), r.keeps h.1.1 b h.0.1 bt h.1.4), h.2)
            at (u ∷ v ∷ f) b are w bt = cc

pub read_textual : {A B : Type 0} {R : Grammar A} (f : A → B) → Textual R → Textual (read_as f R)
read_textual f r = record { keeps = λ x y b e h. (h.0, r.keeps x y h.0 e h.1, h.2) }

module _ {A B : Type 0} {R : Grammar A} {S : Grammar B} where
  pub seq_textual : Textual R → Textual S → Textual (seq R S)
  seq_textual r s = record {
    keeps = λ x y p e h.
        let c = cut h.0 h.1 y (ap texts (sym h.2) ∙ e) in
        (c.prefix, c.back, c.are, r.keeps h.0 c.prefix p.0 c.front_texts h.3, s.keeps h.1 c.back p.1 c.back_texts h.4);
  }

module _ {A : Type 0} {R S : Grammar A} where
  pub or_textual : Textual R → Textual S → Textual (or R S)
  or_textual r s = record { keeps = keeps }
    where
      keeps : (x y : List Token) (a : A) → texts x ≡ texts y → (or R S).reads x a → (or R S).reads y a
      keeps x y a e (inl h) = inl (r.keeps x y a e h)
      keeps x y a e (inr h) = inr (s.keeps x y a e h)

each_texts : {A : Type 0} (R : Grammar A) → Textual R → (x y : List Token) (bs : List A) → texts x ≡ texts y → each R.reads x bs → each R.reads y bs
each_texts R r x [] [] e h = refl
each_texts R r x (u ∷ y) [] e h = let bad : [] ≡ texts (u ∷ y) = ap texts (sym h) ∙ e in cc
each_texts R r x y (b ∷ bs) e h =
    let c = cut h.0 h.1 y (ap texts (sym h.2) ∙ e) in
    (c.prefix, c.back, c.are, r.keeps h.0 c.prefix b c.front_texts h.3, each_texts R r h.1 c.back bs c.back_texts h.4)

module _ {A B : Type 0} {R : Grammar A} {S : Grammar B} where
  pub chain_textual : Textual R → Textual S → Textual (chain R S)
  chain_textual r s = record {
    keeps = λ x y p e h.
        let c = cut h.0 h.1 y (ap texts (sym h.2) ∙ e) in
        (c.prefix, c.back, c.are, r.keeps h.0 c.prefix p.0 c.front_texts h.3, each_texts S s h.1 c.back p.1 c.back_texts h.4);
  }

  pub until_textual : Textual R → Textual S → Textual (until R S)
  until_textual r s = record {
    keeps = λ x y p e h.
        let c = cut h.0 h.1 y (ap texts (sym h.2) ∙ e) in
        (c.prefix, c.back, c.are, each_texts R r h.0 c.prefix p.0 c.front_texts h.3, s.keeps h.1 c.back p.1 c.back_texts h.4);
  }

  pub maybe_textual : Textual R → Textual S → Textual (maybe R S)
  maybe_textual r s = or_textual (read_textual (λ p. (Some p.0, p.1)) (seq_textual r s)) (read_textual (λ b. (None, b)) s)

  pub tail_textual : Textual R → Textual S → Textual (tail R S)
  tail_textual r s = record { keeps = keeps }
    where
      keeps : (x y : List Token) (a : A × Option B) → texts x ≡ texts y → (tail R S).reads x a → (tail R S).reads y a
      keeps x y (a, None) e h = r.keeps x y a e h
      keeps x y (a, Some b) e h = (seq_textual r s).keeps x y (a, b) e h

pub optional_textual : {A B V : Type 0} {R : Grammar A} {S : Grammar B} (v : Option A → V) → Textual R → Textual S → Textual (optional v R S)
optional_textual v r s = read_textual (λ p. (v p.0, p.1)) (maybe_textual r s)
