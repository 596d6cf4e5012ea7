-- The law and the rule of statements up to a word, by those of the flat list.
use Rattle.std.proofs.Common.{ℕ, ◌≡◌, ◌∙◌, ◌++◌, ◌⊎◌, List, [], ◌∷◌, refl, sym, ap, inl, inr, subst}
use Rattle.msc_tokens.specs.declared.token.Token.{Token}
use Rattle.token_grammar.specs.Languages.{Set, Read, map_at}
use Rattle.token_grammar.specs.Languages as rules
use Rattle.token_grammar.specs.Grammars.{Grammar, word, read_as}
use Rattle.token_grammar.specs.Rows.{rows_brink}
use Rattle.token_grammar.proofs.Rules.{Law, Rule, as_law, as_rule, same_law, same_rule}
use Rattle.token_grammar.proofs.Rows.{Rows, after_all, begun_items}
use Rattle.msc_document.specs.Inlines.{each, before}
use Rattle.msc_document.proofs.Continued.{Continued}
use Rattle.msc_document.proofs.Lines.{grouped, next_state, Mixed, to_flat, from_flat, to_flat_brink, from_flat_brink, SplitBrink}

-- the state behind some statements
abbrev pub state_of : {A Q : Type 0} → (A → Q) → Q → List A → Q
state_of kind q [] = q
state_of kind q (a ∷ xs) = state_of kind (kind a) xs

module _ {A B Q : Type 0} (w : Set) (kind : A → Q) (long : A → List B → A) (L S : ℕ → Grammar A) (N : Q → ℕ → Grammar B) (R : Q → ℕ → Grammar (A ⊎ B)) (F T : Q → Set) where
  abbrev pub Flats : Q → ℕ → Grammar (List A)
  Flats q m = read_as (λ p. (grouped long p.0).1) (Rows w (next_state kind) R F T q m)

  abbrev pub Upto : ℕ → Grammar (List A)
  Upto m = before (each (L m)) (word w)

  -- what can't stand behind the word
  abbrev pub behind_word : Q → List A → Set
  behind_word q xs = T (state_of kind q xs)

  pub same_state : ((a : A) (bs : List B) → kind (long a bs) ≡ kind a) → (xs : List (A ⊎ B)) (q : Q) → state_of kind q (grouped long xs).1 ≡ after_all w (next_state kind) R F T q xs
  same_state same [] q = refl
  same_state same (inl a ∷ xs) q = ap (λ s. state_of kind s (grouped long xs).1) (same a (grouped long xs).0) ∙ same_state same xs (kind a)
  same_state same (inr b ∷ xs) q = same_state same xs q

  -- both grammars say the same, where nothing goes on at first
  pub record Flattened (q : Q) : Type 0 where
    pub same_kind : (a : A) (bs : List B) → kind (long a bs) ≡ kind a
    pub continued : (m : ℕ) → Continued (L m) (S m) (λ a. N (kind a) m) long
    pub mixed : (m : ℕ) → Mixed w kind long (L m) (S m) (λ s. N s m) (λ s. R s m) (continued m)
    pub none_first : (m : ℕ) (x : List Token) (b : B) → (N q m).reads x b → ⊥
    pub no_opening : (m : ℕ) (p : List Token) → (N q m).brink p → ⊥

  module _ (q : Q) (f : Flattened q) where
    to : (m : ℕ) (x : List Token) (xs : List A) → (Flats q m).reads x xs → (Upto m).reads x xs
    to m x xs h =
        let r = from_flat w kind long (L m) (S m) (λ s. N s m) (λ s. R s m) (f.continued m) (f.mixed m) h.0.0 q x h.0.1 h.1 in
        (((grouped long h.0.0).1, h.0.1), (r.1, r.2, r.3 ∙ ap (λ l. l ++ (r.1 ++ r.2)) (prefix (grouped long h.0.0).0 r.0 r.4), r.5, r.6), h.2)
      where
        prefix : (bs : List B) (y : List Token) → rules.each (N q m).reads y bs → y ≡ []
        prefix [] y e = e
        prefix (b ∷ bs) y e = absurd (f.none_first m e.0 b e.3)

    from : (m : ℕ) (x : List Token) (xs : List A) → (Upto m).reads x xs → (Flats q m).reads x xs
    from m x xs h =
        let k = h.1 in
        let r = to_flat w kind long (L m) (S m) (λ s. N s m) (λ s. R s m) (f.continued m) (f.mixed m) h.0.0 q k.0 k.1 h.0.1 k.3 k.4 in
        ((r.0, h.0.1), subst (λ l. (Rows w (next_state kind) R F T q m).reads l (r.0, h.0.1)) (sym k.2) r.1, h.2 ∙ sym (ap (λ (p : List B × List A). p.1) r.2))

    to_brink : (m : ℕ) (p : List Token) → (Flats q m).brink p → (Upto m).brink p
    to_brink m p h = pick (from_flat_brink w kind long (L m) (S m) (λ s. N s m) (λ s. R s m) (f.continued m) (f.mixed m) h.0 q p h.1)
      where
        prefix : (bs : List B) (y : List Token) → rules.each (N q m).reads y bs → y ≡ []
        prefix [] y e = e
        prefix (b ∷ bs) y e = absurd (f.none_first m e.0 b e.3)

        pick : SplitBrink w kind long (L m) (S m) (λ s. N s m) (λ s. R s m) (f.continued m) (f.mixed m) q p → (Upto m).brink p
        pick (inl k) = absurd (f.no_opening m k.1 k.5)
        pick (inr (y, z, u, bs, xs, cut, e, each_z, k)) = inl (z, u, xs, cut ∙ ap (λ l. l ++ (z ++ u)) (prefix bs y e), each_z, k)

    from_brink : (m : ℕ) (p : List Token) → (Upto m).brink p → (Flats q m).brink p
    from_brink m p (inl k) =
        let r = to_flat_brink w kind long (L m) (S m) (λ s. N s m) (λ s. R s m) (f.continued m) (f.mixed m) k.2 q k.0 k.1 k.4 k.5 in
        (r.0, subst (λ l. rows_brink (next_state kind) (λ s. R s m) q r.0 l) (sym k.3) r.1)
    from_brink m p (inr k) = absurd k.5

    module _ (n : ℕ) where
      pub upto_law : Law (Rows w (next_state kind) R F T q) n (F q ++ w) (begun_items w (next_state kind) R F T q) → Law Upto n (F q ++ w) (behind_word q)
      upto_law law = same_law (Flats q) Upto (F q ++ w) (behind_word q) n to from (as_law (λ p. (grouped long p.0).1) (behind_word q) law (λ v. ap T (same_state f.same_kind v.0 q)))

      pub upto_rule : {p : List Token → Read (List (A ⊎ B) × Token)} → Rule (Rows w (next_state kind) R F T q) n (F q ++ w) (begun_items w (next_state kind) R F T q) p
          → Rule Upto n (F q ++ w) (behind_word q) (map_at (λ x. (grouped long x.0).1) p)
      upto_rule rule = same_rule (Flats q) Upto (F q ++ w) (behind_word q) n to from (to_brink n) (from_brink n)
          (as_rule (λ p. (grouped long p.0).1) (behind_word q) rule (λ v. ap T (same_state f.same_kind v.0 q)))
