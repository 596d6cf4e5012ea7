-- Operands with a word between them and behind the last: the word is read with the operand before it.
use Rattle.std.proofs.Common.{◌≡◌, ◌∙◌, ◌++◌, List, [], ◌∷◌, refl, sym, ap, ap₂, inl, inr, append_assoc}
use Rattle.msc_tokens.specs.declared.token.Token.{Token}
use Rattle.token_grammar.specs.Languages.{Set}
use Rattle.token_grammar.specs.Languages as rules
use Rattle.token_grammar.specs.Grammars.{Grammar, seq, read_as, until, word, behind}
use Rattle.token_grammar.proofs.Shallow.{Shallow}
use Rattle.msc_document.specs.Inlines.{after, before, firsts}
use Rattle.msc_document.proofs.Parts.{behind_in, behind_out, behind_brink_in, behind_brink_out, before_in, before_out, before_brink_out, after_in, after_out}

gathered_line : (y z1 z2 e0 e1 : List Token) (c : Token) (k1 f0 f1 r0 r1 r2 : List Token) → z1 ≡ e0 ++ e1 → e0 ≡ c ∷ k1 → k1 ≡ f0 ++ f1 → f1 ++ (e1 ++ z2) ≡ r0 ++ (r1 ++ r2)
    → y ++ (z1 ++ z2) ≡ (y ++ c ∷ []) ++ (((f0 ++ r0) ++ r1) ++ r2)
gathered_line y z1 z2 e0 e1 c k1 f0 f1 r0 r1 r2 a1 a2 a3 a4 =
    ap (λ l. y ++ (l ++ z2)) (a1 ∙ ap (λ l. l ++ e1) (a2 ∙ ap (λ l. c ∷ l) a3)) ∙ one ∙ ap (λ l. y ++ (c ∷ (f0 ++ l))) a4 ∙ two
  where
    one : y ++ (((c ∷ (f0 ++ f1)) ++ e1) ++ z2) ≡ y ++ (c ∷ (f0 ++ (f1 ++ (e1 ++ z2))))
    one = simp append_assoc

    two : y ++ (c ∷ (f0 ++ (r0 ++ (r1 ++ r2)))) ≡ (y ++ c ∷ []) ++ (((f0 ++ r0) ++ r1) ++ r2)
    two = simp append_assoc

spread_line : (v z1 z2 k0 : List Token) (c : Token) (e0 e1 f0 f1 r0 r1 r2 : List Token) → v ≡ k0 ++ c ∷ [] → z1 ≡ e0 ++ e1 → e0 ≡ f0 ++ f1 → f1 ++ (e1 ++ z2) ≡ r0 ++ (r1 ++ r2)
    → v ++ (z1 ++ z2) ≡ k0 ++ (((c ∷ (f0 ++ r0)) ++ r1) ++ r2)
spread_line v z1 z2 k0 c e0 e1 f0 f1 r0 r1 r2 a1 a2 a3 a4 =
    ap₂ (λ m n. m ++ (n ++ z2)) a1 (a2 ∙ ap (λ l. l ++ e1) a3) ∙ one ∙ ap (λ l. k0 ++ (c ∷ (f0 ++ l))) a4 ∙ two
  where
    one : (k0 ++ c ∷ []) ++ (((f0 ++ f1) ++ e1) ++ z2) ≡ k0 ++ (c ∷ (f0 ++ (f1 ++ (e1 ++ z2))))
    one = simp append_assoc

    two : k0 ++ (c ∷ (f0 ++ (r0 ++ (r1 ++ r2)))) ≡ k0 ++ (((c ∷ (f0 ++ r0)) ++ r1) ++ r2)
    two = simp append_assoc

-- P { w Y P } w Z, and (P w) { Y (P w) } Z
module _ {A B D : Type 0} (w : Set) (P : Grammar A) (Y : Grammar B) (Z : Grammar D) where
  abbrev pub spread : Grammar (List A)
  spread = read_as firsts (seq P (until (behind w (after Y P)) (behind w Z)))

  abbrev pub part : Grammar A
  part = before P (word w)

  abbrev pub gathered : Grammar (List A)
  gathered = read_as firsts (seq part (until (after Y part) Z))

  -- one operand with its word, and what is behind it
  abbrev Gathered : List Token → A → List A → D → Type 0
  Gathered x a bs d = (v : List Token) × (z1 : List Token) × (z2 : List Token) × (x ≡ v ++ (z1 ++ z2)) × part.reads v a × rules.each (after Y part).reads z1 bs × Z.reads z2 d

  abbrev Spread : List Token → A → List A → D → Type 0
  Spread x a bs d = (y : List Token) × (z1 : List Token) × (z2 : List Token) × (x ≡ y ++ (z1 ++ z2)) × P.reads y a × rules.each (behind w (after Y P)).reads z1 bs × (behind w Z).reads z2 d

  to_gathered : (bs : List A) (a : A) (d : D) (y z1 z2 : List Token) → P.reads y a → rules.each (behind w (after Y P)).reads z1 bs → (behind w Z).reads z2 d → Gathered (y ++ (z1 ++ z2)) a bs d
  to_gathered [] a d y z1 z2 h e l =
      let k = behind_out w Z z2 d l in
      (y ++ k.0 ∷ [], [], k.1, ap₂ (λ m n. y ++ (m ++ n)) e k.2 ∙ sym (append_assoc y (k.0 ∷ []) k.1), before_in w P y k.0 a h k.3, refl, k.4)
  to_gathered (b ∷ bs) a d y z1 z2 h e l =
      let k = behind_out w (after Y P) e.0 b e.3 in
      let f = after_out Y P k.1 b k.4 in
      let r = to_gathered bs b d f.1 e.1 z2 f.5 e.4 l in
      (y ++ k.0 ∷ [], (f.0 ++ r.0) ++ r.1, r.2, gathered_line y z1 z2 e.0 e.1 k.0 k.1 f.0 f.1 r.0 r.1 r.2 e.2 k.2 f.3 r.3, before_in w P y k.0 a h k.3, (f.0 ++ r.0, r.1, refl, after_in Y part f.0 r.0 f.2 b f.4 r.4, r.5), r.6)

  to_spread : (bs : List A) (a : A) (d : D) (v z1 z2 : List Token) → part.reads v a → rules.each (after Y part).reads z1 bs → Z.reads z2 d → Spread (v ++ (z1 ++ z2)) a bs d
  to_spread [] a d v z1 z2 h e l =
      let k = before_out w P v a h in
      (k.0, [], k.1 ∷ z2, ap₂ (λ m n. m ++ (n ++ z2)) k.2 e ∙ append_assoc k.0 (k.1 ∷ []) z2, k.3, refl, behind_in w Z k.1 z2 d k.4 l)
  to_spread (b ∷ bs) a d v z1 z2 h e l =
      let k = before_out w P v a h in
      let f = after_out Y part e.0 b e.3 in
      let r = to_spread bs b d f.1 e.1 z2 f.5 e.4 l in
      (k.0, (k.1 ∷ f.0 ++ r.0) ++ r.1, r.2, spread_line v z1 z2 k.0 k.1 e.0 e.1 f.0 f.1 r.0 r.1 r.2 k.2 e.2 f.3 r.3, k.3, (k.1 ∷ f.0 ++ r.0, r.1, refl, behind_in w (after Y P) k.1 (f.0 ++ r.0) b k.4 (after_in Y P f.0 r.0 f.2 b f.4 r.4), r.5), r.6)

  pub gather : (x : List Token) (v : List A) → spread.reads x v → gathered.reads x v
  gather x v h =
      let k = h.1 in
      let r = to_gathered h.0.1.0 h.0.0 h.0.1.1 k.0 k.4.0 k.4.1 k.3 k.4.3 k.4.4 in
      (h.0, (r.0, r.1 ++ r.2, k.2 ∙ ap (λ l. k.0 ++ l) k.4.2 ∙ r.3, r.4, (r.1, r.2, refl, r.5, r.6)), h.2)

  pub spread_out : (x : List Token) (v : List A) → gathered.reads x v → spread.reads x v
  spread_out x v h =
      let k = h.1 in
      let r = to_spread h.0.1.0 h.0.0 h.0.1.1 k.0 k.4.0 k.4.1 k.3 k.4.3 k.4.4 in
      (h.0, (r.0, r.1 ++ r.2, k.2 ∙ ap (λ l. k.0 ++ l) k.4.2 ∙ r.3, r.4, (r.1, r.2, refl, r.5, r.6)), h.2)

  -- ---- openings

  module _ (ys : Shallow Y) (zs : Shallow Z) where
    abbrev GatheredBrink : List Token → A → Type 0
    GatheredBrink x a = (bs : List A) × (v : List Token) × (z1 : List Token) × (z2 : List Token) × (x ≡ v ++ (z1 ++ z2)) × part.reads v a × rules.each (after Y part).reads z1 bs × (after Y part).brink z2

    abbrev SpreadBrink : List Token → A → Type 0
    SpreadBrink x a = (bs : List A) × (y : List Token) × (z1 : List Token) × (z2 : List Token) × (x ≡ y ++ (z1 ++ z2)) × P.reads y a × rules.each (behind w (after Y P)).reads z1 bs × (behind w (after Y P)).brink z2

    after_end : (z : List Token) → (after Y P).brink z → (after Y part).brink z
    after_end z (inl k) = absurd (ys.none z k)
    after_end z (inr k) = inr (k.0, k.1, k.2, k.3, k.4, inl k.5)

    before_end : (z : List Token) → (after Y part).brink z → (after Y P).brink z
    before_end z (inl k) = absurd (ys.none z k)
    before_end z (inr k) = inr (k.0, k.1, k.2, k.3, k.4, before_brink_out w P k.1 k.5)

    to_gathered_brink : (bs : List A) (a : A) (y z1 z2 : List Token) → P.reads y a → rules.each (behind w (after Y P)).reads z1 bs → (behind w (after Y P)).brink z2 → GatheredBrink (y ++ (z1 ++ z2)) a
    to_gathered_brink [] a y z1 z2 h e l =
        let k = behind_brink_out w (after Y P) z2 l in
        ([], y ++ k.0 ∷ [], [], k.1, ap₂ (λ m n. y ++ (m ++ n)) e k.2 ∙ sym (append_assoc y (k.0 ∷ []) k.1), before_in w P y k.0 a h k.3, refl, after_end k.1 k.4)
    to_gathered_brink (b ∷ bs) a y z1 z2 h e l =
        let k = behind_out w (after Y P) e.0 b e.3 in
        let f = after_out Y P k.1 b k.4 in
        let r = to_gathered_brink bs b f.1 e.1 z2 f.5 e.4 l in
        (b ∷ r.0, y ++ k.0 ∷ [], (f.0 ++ r.1) ++ r.2, r.3, gathered_line y z1 z2 e.0 e.1 k.0 k.1 f.0 f.1 r.1 r.2 r.3 e.2 k.2 f.3 r.4, before_in w P y k.0 a h k.3, (f.0 ++ r.1, r.2, refl, after_in Y part f.0 r.1 f.2 b f.4 r.5, r.6), r.7)

    to_spread_brink : (bs : List A) (a : A) (v z1 z2 : List Token) → part.reads v a → rules.each (after Y part).reads z1 bs → (after Y part).brink z2 → SpreadBrink (v ++ (z1 ++ z2)) a
    to_spread_brink [] a v z1 z2 h e l =
        let k = before_out w P v a h in
        ([], k.0, [], k.1 ∷ z2, ap₂ (λ m n. m ++ (n ++ z2)) k.2 e ∙ append_assoc k.0 (k.1 ∷ []) z2, k.3, refl, behind_brink_in w (after Y P) k.1 z2 k.4 (before_end z2 l))
    to_spread_brink (b ∷ bs) a v z1 z2 h e l =
        let k = before_out w P v a h in
        let f = after_out Y part e.0 b e.3 in
        let r = to_spread_brink bs b f.1 e.1 z2 f.5 e.4 l in
        (b ∷ r.0, k.0, (k.1 ∷ f.0 ++ r.1) ++ r.2, r.3, spread_line v z1 z2 k.0 k.1 e.0 e.1 f.0 f.1 r.1 r.2 r.3 k.2 e.2 f.3 r.4, k.3, (k.1 ∷ f.0 ++ r.1, r.2, refl, behind_in w (after Y P) k.1 (f.0 ++ r.1) b k.4 (after_in Y P f.0 r.1 f.2 b f.4 r.5), r.6), r.7)

    pub gather_brink : (p : List Token) → spread.brink p → gathered.brink p
    gather_brink p (inl k) = inl (inl k)
    gather_brink p (inr (y, z, a, cut, h, inl k)) =
        let r = to_gathered_brink k.2 a y k.0 k.1 h k.4 k.5 in
        inr (r.1, r.2 ++ r.3, a, cut ∙ ap (λ l. y ++ l) k.3 ∙ r.4, r.5, inl (r.2, r.3, r.0, refl, r.6, r.7))
    gather_brink p (inr (y, z, a, cut, h, inr k)) = let e = behind_brink_out w Z k.1 k.5 in absurd (zs.none e.1 e.4)

    pub spread_brink : (p : List Token) → gathered.brink p → spread.brink p
    spread_brink p (inl k) = inl (before_brink_out w P p k)
    spread_brink p (inr (v, z, a, cut, h, inl k)) =
        let r = to_spread_brink k.2 a v k.0 k.1 h k.4 k.5 in
        inr (r.1, r.2 ++ r.3, a, cut ∙ ap (λ l. v ++ l) k.3 ∙ r.4, r.5, inl (r.2, r.3, r.0, refl, r.6, r.7))
    spread_brink p (inr (v, z, a, cut, h, inr k)) = absurd (zs.none k.1 k.5)

-- P w Z, and (P w) Z
module _ {A D : Type 0} (w : Set) (P : Grammar A) (Z : Grammar D) where
  abbrev pub spread_one : Grammar (List A)
  spread_one = read_as (λ p. p.0 ∷ []) (seq P (behind w Z))

  abbrev pub gathered_one : Grammar (List A)
  gathered_one = read_as (λ p. p.0 ∷ []) (seq (before P (word w)) Z)

  pub gather_one : (x : List Token) (v : List A) → spread_one.reads x v → gathered_one.reads x v
  gather_one x v h =
      let k = h.1 in
      let e = behind_out w Z k.1 h.0.1 k.4 in
      (h.0, (k.0 ++ e.0 ∷ [], e.1, k.2 ∙ ap (λ l. k.0 ++ l) e.2 ∙ sym (append_assoc k.0 (e.0 ∷ []) e.1), before_in w P k.0 e.0 h.0.0 k.3 e.3, e.4), h.2)

  pub spread_of_one : (x : List Token) (v : List A) → gathered_one.reads x v → spread_one.reads x v
  spread_of_one x v h =
      let k = h.1 in
      let e = before_out w P k.0 h.0.0 k.3 in
      (h.0, (e.0, e.1 ∷ k.1, k.2 ∙ ap (λ l. l ++ k.1) e.2 ∙ append_assoc e.0 (e.1 ∷ []) k.1, e.3, behind_in w Z e.1 k.1 h.0.1 e.4 k.4), h.2)

  module _ (zs : Shallow Z) where
    pub gather_one_brink : (p : List Token) → spread_one.brink p → gathered_one.brink p
    gather_one_brink p (inl k) = inl (inl k)
    gather_one_brink p (inr k) = let e = behind_brink_out w Z k.1 k.5 in absurd (zs.none e.1 e.4)

    pub spread_one_brink : (p : List Token) → gathered_one.brink p → spread_one.brink p
    spread_one_brink p (inl k) = inl (before_brink_out w P p k)
    spread_one_brink p (inr k) = absurd (zs.none k.1 k.5)

-- the same, with both values
module _ {A D : Type 0} (w : Set) (P : Grammar A) (Z : Grammar D) where
  pub gather_pair : (x : List Token) (v : A × D) → (seq P (behind w Z)).reads x v → (seq (before P (word w)) Z).reads x v
  gather_pair x v k =
      let e = behind_out w Z k.1 v.1 k.4 in
      (k.0 ++ e.0 ∷ [], e.1, k.2 ∙ ap (λ l. k.0 ++ l) e.2 ∙ sym (append_assoc k.0 (e.0 ∷ []) e.1), before_in w P k.0 e.0 v.0 k.3 e.3, e.4)

  pub spread_pair : (x : List Token) (v : A × D) → (seq (before P (word w)) Z).reads x v → (seq P (behind w Z)).reads x v
  spread_pair x v k =
      let e = before_out w P k.0 v.0 k.3 in
      (e.0, e.1 ∷ k.1, k.2 ∙ ap (λ l. l ++ k.1) e.2 ∙ append_assoc e.0 (e.1 ∷ []) k.1, e.3, behind_in w Z e.1 k.1 v.1 e.4 k.4)

  module _ (zs : Shallow Z) where
    pub gather_pair_brink : (p : List Token) → (seq P (behind w Z)).brink p → (seq (before P (word w)) Z).brink p
    gather_pair_brink p (inl k) = inl (inl k)
    gather_pair_brink p (inr k) = let e = behind_brink_out w Z k.1 k.5 in absurd (zs.none e.1 e.4)

    pub spread_pair_brink : (p : List Token) → (seq (before P (word w)) Z).brink p → (seq P (behind w Z)).brink p
    spread_pair_brink p (inl k) = inl (before_brink_out w P p k)
    spread_pair_brink p (inr k) = absurd (zs.none k.1 k.5)
