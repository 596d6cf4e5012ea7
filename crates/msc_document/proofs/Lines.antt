-- Statements up to a word, and the flat list of their beginnings and of what goes on with them.
use Rattle.std.proofs.Common.{◌≡◌, ◌∙◌, ◌++◌, ◌⊎◌, List, [], ◌∷◌, refl, sym, ap, inl, inr, append_assoc, append-nil, subst}
use Rattle.msc_tokens.specs.declared.token.Token.{Token}
use Rattle.token_grammar.specs.Languages.{Set}
use Rattle.token_grammar.specs.Languages as rules
use Rattle.token_grammar.specs.Grammars.{Grammar, behind_each}
use Rattle.token_grammar.specs.Rows.{rows_read, rows_brink}
use Rattle.msc_document.proofs.Continued.{Continued}

-- the items before the first statement, and the statements
abbrev pub grouped : {A B : Type 0} → (A → List B → A) → List (A ⊎ B) → List B × List A
grouped long [] = ([], [])
grouped long (inl a ∷ xs) = ([], long a (grouped long xs).0 ∷ (grouped long xs).1)
grouped long (inr b ∷ xs) = (b ∷ (grouped long xs).0, (grouped long xs).1)

abbrev pub next_state : {A B Q : Type 0} → (A → Q) → Q → A ⊎ B → Q
next_state kind q (inl a) = kind a
next_state kind q (inr b) = q

module _ {A B Q : Type 0} (w : Set) (kind : A → Q) (long : A → List B → A) (L S : Grammar A) (N : Q → Grammar B) (R : Q → Grammar (A ⊎ B)) (c : Continued L S (λ a. N (kind a)) long) where
  -- in each state stands a beginning, or what goes on
  pub record Mixed : Type 0 where
    pub begin_in : (q : Q) (x : List Token) (a : A) → S.reads x a → (R q).reads x (inl a)
    pub begin_out : (q : Q) (x : List Token) (a : A) → (R q).reads x (inl a) → S.reads x a
    pub more_in : (q : Q) (x : List Token) (b : B) → (N q).reads x b → (R q).reads x (inr b)
    pub more_out : (q : Q) (x : List Token) (b : B) → (R q).reads x (inr b) → (N q).reads x b
    pub begin_brink : (q : Q) (p : List Token) → S.brink p → (R q).brink p
    pub more_brink : (q : Q) (p : List Token) → (N q).brink p → (R q).brink p
    pub brink_out : (q : Q) (p : List Token) → (R q).brink p → S.brink p ⊎ (N q).brink p

  module _ (mixed : Mixed) where
    abbrev pub Flat : Q → List Token → List (A ⊎ B) → Token → Type 0
    Flat q x xs t = rows_read w (next_state kind) R q x xs t

    abbrev pub FlatBrink : Q → List (A ⊎ B) → List Token → Type 0
    FlatBrink q xs p = rows_brink (next_state kind) R q xs p

    -- what goes on, before a flat list
    put_more : (q : Q) (bs : List B) (y z : List Token) (xs : List (A ⊎ B)) (t : Token) → rules.each (N q).reads y bs → Flat q z xs t
        → (ys : List (A ⊎ B)) × Flat q (y ++ z) ys t × (grouped long ys ≡ (bs ++ (grouped long xs).0, (grouped long xs).1))
    put_more q [] y z xs t h k = (xs, subst (λ l. Flat q (l ++ z) xs t) (sym h) k, refl)
    put_more q (b ∷ bs) y z xs t h k =
        let r = put_more q bs h.1 z xs t h.4 k in
        (inr b ∷ r.0, (h.0, h.1 ++ z, ap (λ l. l ++ z) h.2 ∙ append_assoc h.0 h.1 z, mixed.more_in q h.0 b h.3, r.1), ap (λ (p : List B × List A). (b ∷ p.0, p.1)) r.2)

    -- the flat list of statements
    pub to_flat : (ss : List A) (q : Q) (x z : List Token) (t : Token) → rules.each L.reads x ss → rules.word w z t → (xs : List (A ⊎ B)) × Flat q (x ++ z) xs t × (grouped long xs ≡ ([], ss))
    to_flat [] q x z t h k = ([], subst (λ l. Flat q (l ++ z) [] t) (sym h) k, refl)
    to_flat (a ∷ ss) q x z t h k =
        let o = c.to h.0 a h.3 in
        let r = to_flat ss (kind o.2) h.1 z t h.4 k in
        let m = put_more (kind o.2) o.3 o.1 (h.1 ++ z) r.0 t o.6 r.1 in
        (inl o.2 ∷ m.0, (o.0, o.1 ++ (h.1 ++ z), ap (λ l. l ++ z) h.2 ∙ ap (λ l. (l ++ h.1) ++ z) o.4 ∙ line o.0 o.1 h.1 z, mixed.begin_in q o.0 o.2 o.5, m.1), value a ss o.2 o.3 m.0 r.0 m.2 r.2 o.7)
      where
        line : (a b c d : List Token) → ((a ++ b) ++ c) ++ d ≡ a ++ (b ++ (c ++ d))
        line a b c d = simp append_assoc

        value : (a : A) (ss : List A) (s : A) (bs : List B) (ys xs : List (A ⊎ B)) → grouped long ys ≡ (bs ++ (grouped long xs).0, (grouped long xs).1) → grouped long xs ≡ ([], ss) → a ≡ long s bs
            → grouped long (inl s ∷ ys) ≡ ([], a ∷ ss)
        value a ss s bs ys xs e f g =
            ap (λ (p : List B × List A). ([], long s p.0 ∷ p.1)) (e ∙ ap (λ (p : List B × List A). (bs ++ p.0, p.1)) f) ∙ ap (λ l. ([], long s l ∷ ss)) (append-nil bs) ∙ ap (λ b. ([], b ∷ ss)) (sym g)

    -- and back
    abbrev pub Split : Q → List Token → List (A ⊎ B) → Token → Type 0
    Split q x xs t = (f : List Token) × (y : List Token) × (z : List Token) × (x ≡ f ++ (y ++ z)) × rules.each (N q).reads f (grouped long xs).0 × rules.each L.reads y (grouped long xs).1 × rules.word w z t

    pub from_flat : (xs : List (A ⊎ B)) (q : Q) (x : List Token) (t : Token) → Flat q x xs t → Split q x xs t
    from_flat [] q x t h = ([], [], x, refl, refl, refl, h)
    from_flat (inl a ∷ xs) q x t h =
        let r = from_flat xs (kind a) h.1 t h.4 in
        ([], (h.0 ++ r.0) ++ r.1, r.2, h.2 ∙ ap (λ l. h.0 ++ l) r.3 ∙ line h.0 r.0 r.1 r.2, refl, (h.0 ++ r.0, r.1, refl, c.from h.0 r.0 a (grouped long xs).0 (mixed.begin_out q h.0 a h.3) r.4, r.5), r.6)
      where
        line : (a b c d : List Token) → a ++ (b ++ (c ++ d)) ≡ ((a ++ b) ++ c) ++ d
        line a b c d = simp append_assoc
    from_flat (inr b ∷ xs) q x t h =
        let r = from_flat xs q h.1 t h.4 in
        (h.0 ++ r.0, r.1, r.2, h.2 ∙ ap (λ l. h.0 ++ l) r.3 ∙ sym (append_assoc h.0 r.0 (r.1 ++ r.2)), (h.0, r.0, refl, mixed.more_out q h.0 b h.3, r.4), r.5, r.6)

    -- ---- openings

    put_more_brink : (q : Q) (bs : List B) (y z : List Token) (xs : List (A ⊎ B)) → rules.each (N q).reads y bs → FlatBrink q xs z → (ys : List (A ⊎ B)) × FlatBrink q ys (y ++ z)
    put_more_brink q [] y z xs h k = (xs, subst (λ l. FlatBrink q xs (l ++ z)) (sym h) k)
    put_more_brink q (b ∷ bs) y z xs h k =
        let r = put_more_brink q bs h.1 z xs h.4 k in
        (inr b ∷ r.0, (h.0, h.1 ++ z, ap (λ l. l ++ z) h.2 ∙ append_assoc h.0 h.1 z, mixed.more_in q h.0 b h.3, r.1))

    pub to_flat_brink : (ss : List A) (q : Q) (x p : List Token) → rules.each L.reads x ss → L.brink p → (xs : List (A ⊎ B)) × FlatBrink q xs (x ++ p)
    to_flat_brink [] q x p h k = here (c.to_brink p k)
      where
        here : S.brink p ⊎ ((y : List Token) × (z : List Token) × (a : A) × (p ≡ y ++ z) × S.reads y a × behind_each (N (kind a)) (N (kind a)).brink z) → (xs : List (A ⊎ B)) × FlatBrink q xs (x ++ p)
        here (inl e) = ([], subst (λ l. FlatBrink q [] (l ++ p)) (sym h) (mixed.begin_brink q p e))
        here (inr e) =
            let b = e.5 in
            let r = put_more_brink (kind e.2) b.2 b.0 b.1 [] b.4 (mixed.more_brink (kind e.2) b.1 b.5) in
            (inl e.2 ∷ r.0, (e.0, b.0 ++ b.1, ap (λ l. l ++ p) h ∙ e.3 ∙ ap (λ l. e.0 ++ l) b.3, mixed.begin_in q e.0 e.2 e.4, r.1))
    to_flat_brink (a ∷ ss) q x p h k =
        let o = c.to h.0 a h.3 in
        let r = to_flat_brink ss (kind o.2) h.1 p h.4 k in
        let m = put_more_brink (kind o.2) o.3 o.1 (h.1 ++ p) r.0 o.6 r.1 in
        (inl o.2 ∷ m.0, (o.0, o.1 ++ (h.1 ++ p), ap (λ l. l ++ p) h.2 ∙ ap (λ l. (l ++ h.1) ++ p) o.4 ∙ line o.0 o.1 h.1 p, mixed.begin_in q o.0 o.2 o.5, m.1))
      where
        line : (a b c d : List Token) → ((a ++ b) ++ c) ++ d ≡ a ++ (b ++ (c ++ d))
        line a b c d = simp append_assoc

    -- an opening stands in what goes on, or in a statement
    abbrev pub SplitBrink : Q → List Token → Type 0
    SplitBrink q p = behind_each (N q) (N q).brink p ⊎ ((f : List Token) × (y : List Token) × (z : List Token) × (bs : List B) × (ss : List A) × (p ≡ f ++ (y ++ z)) × rules.each (N q).reads f bs × rules.each L.reads y ss × L.brink z)

    pub from_flat_brink : (xs : List (A ⊎ B)) (q : Q) (p : List Token) → FlatBrink q xs p → SplitBrink q p
    from_flat_brink [] q p h = elim (mixed.brink_out q p h) [
      | inl k ↦ inr ([], [], p, [], [], refl, refl, refl, c.from_brink p k)
      | inr k ↦ inl ([], p, [], refl, refl, k)
    ]
    from_flat_brink (inl a ∷ xs) q p h = pick (from_flat_brink xs (kind a) h.1 h.4)
      where
        begun : S.reads h.0 a
        begun = mixed.begin_out q h.0 a h.3

        line : (a b c d : List Token) → a ++ (b ++ (c ++ d)) ≡ ((a ++ b) ++ c) ++ d
        line a b c d = simp append_assoc

        pick : SplitBrink (kind a) h.1 → SplitBrink q p
        pick (inl k) = inr ([], [], p, [], [], refl, refl, refl, subst (λ l. L.brink l) (sym h.2) (c.behind_brink h.0 h.1 a begun k))
        pick (inr (f, y, z, bs, ys, cut, e, each_y, k)) =
            inr ([], (h.0 ++ f) ++ y, z, [], long a bs ∷ ys, h.2 ∙ ap (λ l. h.0 ++ l) cut ∙ line h.0 f y z, refl, (h.0 ++ f, y, refl, c.from h.0 f a bs begun e, each_y), k)
    from_flat_brink (inr b ∷ xs) q p h = pick (from_flat_brink xs q h.1 h.4)
      where
        more : (N q).reads h.0 b
        more = mixed.more_out q h.0 b h.3

        pick : SplitBrink q h.1 → SplitBrink q p
        pick (inl (y, z, bs, cut, e, k)) = inl (h.0 ++ y, z, b ∷ bs, h.2 ∙ ap (λ l. h.0 ++ l) cut ∙ sym (append_assoc h.0 y z), (h.0, y, refl, more, e), k)
        pick (inr (f, y, z, bs, ys, cut, e, each_y, k)) =
            inr (h.0 ++ f, y, z, b ∷ bs, ys, h.2 ∙ ap (λ l. h.0 ++ l) cut ∙ sym (append_assoc h.0 f (y ++ z)), (h.0, f, refl, more, e), each_y, k)
