-- What a reading of some small forms is made of.
use Rattle.std.proofs.Common.{◌≡◌, ◌∙◌, ◌++◌, true, List, [], ◌∷◌, refl, sym, ap, inl, inr, subst}
use Rattle.msc_tokens.specs.declared.token.Token.{Token}
use Rattle.token_grammar.specs.Languages.{Set, among}
use Rattle.token_grammar.specs.Grammars.{Grammar, word, behind}
use Rattle.msc_document.specs.Inlines.{after, before}

module _ {A : Type 0} (w : Set) (R : Grammar A) where
  pub behind_in : (c : Token) (z : List Token) (a : A) → among w c ≡ true → R.reads z a → (behind w R).reads (c ∷ z) a
  behind_in c z a is h = ((c, a), (c ∷ [], z, refl, (refl, is), h), refl)

  pub behind_out : (x : List Token) (a : A) → (behind w R).reads x a → (c : Token) × (z : List Token) × (x ≡ c ∷ z) × (among w c ≡ true) × R.reads z a
  behind_out x a h =
      let k = h.1 in
      (h.0.0, k.1, k.2 ∙ ap (λ l. l ++ k.1) k.3.0, k.3.1, subst (λ (b : A). R.reads k.1 b) (sym h.2) k.4)

  pub behind_brink_in : (c : Token) (z : List Token) → among w c ≡ true → R.brink z → (behind w R).brink (c ∷ z)
  behind_brink_in c z is k = inr (c ∷ [], z, c, refl, (refl, is), k)

  pub behind_brink_out : (p : List Token) → (behind w R).brink p → (c : Token) × (z : List Token) × (p ≡ c ∷ z) × (among w c ≡ true) × R.brink z
  behind_brink_out p (inl k) = absurd k
  behind_brink_out p (inr k) = (k.2, k.1, k.3 ∙ ap (λ l. l ++ k.1) k.4.0, k.4.1, k.5)

  -- the word behind
  pub before_in : (y : List Token) (c : Token) (a : A) → R.reads y a → among w c ≡ true → (before R (word w)).reads (y ++ c ∷ []) a
  before_in y c a h is = ((a, c), (y, c ∷ [], refl, h, (refl, is)), refl)

  pub before_out : (x : List Token) (a : A) → (before R (word w)).reads x a → (y : List Token) × (c : Token) × (x ≡ y ++ c ∷ []) × R.reads y a × (among w c ≡ true)
  before_out x a h =
      let k = h.1 in
      (k.0, h.0.1, k.2 ∙ ap (λ l. k.0 ++ l) k.4.0, subst (λ (b : A). R.reads k.0 b) (sym h.2) k.3, k.4.1)

  pub before_brink_in : (p : List Token) → R.brink p → (before R (word w)).brink p
  before_brink_in p k = inl k

  pub before_brink_out : (p : List Token) → (before R (word w)).brink p → R.brink p
  before_brink_out p (inl k) = k
  before_brink_out p (inr k) = absurd k.5

module _ {A B : Type 0} (R : Grammar A) (S : Grammar B) where
  pub after_in : (y z : List Token) (a : A) (b : B) → R.reads y a → S.reads z b → (after R S).reads (y ++ z) b
  after_in y z a b h k = ((a, b), (y, z, refl, h, k), refl)

  pub after_out : (x : List Token) (b : B) → (after R S).reads x b → (y : List Token) × (z : List Token) × (a : A) × (x ≡ y ++ z) × R.reads y a × S.reads z b
  after_out x b h = let k = h.1 in (k.0, k.1, h.0.0, k.2, k.3, subst (λ (d : B). S.reads k.1 d) (sym h.2) k.4)
