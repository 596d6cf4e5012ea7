-- A grammar that is a short one, and then any number of items that go on with it.
use Rattle.std.proofs.Common.{◌≡◌, ◌∙◌, ◌++◌, ◌⊎◌, List, [], ◌∷◌, refl, sym, ap, inl, inr, append_assoc, append-nil, subst}
use Rattle.msc_tokens.specs.declared.token.Token.{Token}
use Rattle.token_grammar.specs.Languages as rules
use Rattle.token_grammar.specs.Grammars.{Grammar, seq, or, read_as, chain, behind_each}
use Rattle.token_grammar.specs.Parts.{all_of}

-- nothing is read so
abbrev pub nothing : {A : Type 0} → Grammar A
nothing = record { reads = rules.never; brink = λ p. ⊥ }

-- L is S, and then items of N: which ones, and what they make of the value, the value of S says
module _ {A B : Type 0} (L S : Grammar A) (N : A → Grammar B) (long : A → List B → A) where
  pub record Continued : Type 0 where
    pub to : (x : List Token) (v : A) → L.reads x v → (y : List Token) × (z : List Token) × (a : A) × (bs : List B) × (x ≡ y ++ z) × S.reads y a × rules.each (N a).reads z bs × (v ≡ long a bs)
    pub from : (y z : List Token) (a : A) (bs : List B) → S.reads y a → rules.each (N a).reads z bs → L.reads (y ++ z) (long a bs)
    pub to_brink : (p : List Token) → L.brink p → S.brink p ⊎ ((y : List Token) × (z : List Token) × (a : A) × (p ≡ y ++ z) × S.reads y a × behind_each (N a) (N a).brink z)
    pub from_brink : (p : List Token) → S.brink p → L.brink p
    pub behind_brink : (y z : List Token) (a : A) → S.reads y a → behind_each (N a) (N a).brink z → L.brink (y ++ z)

-- one, and any number of others
pub some_continued : {A : Type 0} (E : Grammar A) → Continued (read_as all_of (chain E E)) (read_as (λ a. a ∷ []) E) (λ l. E) (λ l bs. l ++ bs)
some_continued {A = A} E = record {
  to = λ x v h. let k = h.1 in (k.0, k.1, h.0.0 ∷ [], h.0.1, k.2, (h.0.0, k.3, refl), k.4, h.2);
  from = λ y z l bs h k. ((h.0, bs), (y, z, refl, h.1, k), ap (λ m. m ++ bs) h.2);
  to_brink = to_brink;
  from_brink = λ p k. inl k;
  behind_brink = λ y z l h k. inr (y, z, h.0, refl, h.1, k);
}
  where
    to_brink : (p : List Token) → (chain E E).brink p → E.brink p ⊎ ((y : List Token) × (z : List Token) × (l : List A) × (p ≡ y ++ z) × (read_as (λ a. a ∷ []) E).reads y l × behind_each E E.brink z)
    to_brink p (inl k) = inl k
    to_brink p (inr k) = inr (k.0, k.1, k.2 ∷ [], k.3, (k.2, k.4, refl), k.5)

-- behind another grammar
pub seq_continued : {A B D : Type 0} (R : Grammar D) (L S : Grammar A) (N : A → Grammar B) (long : A → List B → A) → Continued L S N long
    → Continued (seq R L) (seq R S) (λ p. N p.1) (λ p bs. (p.0, long p.1 bs))
seq_continued {A = A} {D = D} R L S N long c = record {
  to = λ x v h. let k = c.to h.1 v.1 h.4 in
      (h.0 ++ k.0, k.1, (v.0, k.2), k.3, h.2 ∙ ap (λ l. h.0 ++ l) k.4 ∙ sym (append_assoc h.0 k.0 k.1), (h.0, k.0, refl, h.3, k.5), k.6, ap (λ a. (v.0, a)) k.7);
  from = λ y z p bs h k. (h.0, h.1 ++ z, ap (λ l. l ++ z) h.2 ∙ append_assoc h.0 h.1 z, h.3, c.from h.1 z p.1 bs h.4 k);
  to_brink = to_brink;
  from_brink = from_brink;
  behind_brink = λ y z p h k. inr (h.0, h.1 ++ z, p.0, ap (λ l. l ++ z) h.2 ∙ append_assoc h.0 h.1 z, h.3, c.behind_brink h.1 z p.1 h.4 k);
}
  where
    to_brink : (p : List Token) → (seq R L).brink p → (seq R S).brink p ⊎ ((y : List Token) × (z : List Token) × (a : D × A) × (p ≡ y ++ z) × (seq R S).reads y a × behind_each (N a.1) (N a.1).brink z)
    to_brink p (inl k) = inl (inl k)
    to_brink p (inr (y, z, d, cut, h, k)) = pick (c.to_brink z k)
      where
        pick : S.brink z ⊎ ((u : List Token) × (v : List Token) × (a : A) × (z ≡ u ++ v) × S.reads u a × behind_each (N a) (N a).brink v)
            → (seq R S).brink p ⊎ ((y : List Token) × (z : List Token) × (a : D × A) × (p ≡ y ++ z) × (seq R S).reads y a × behind_each (N a.1) (N a.1).brink z)
        pick (inl e) = inl (inr (y, z, d, cut, h, e))
        pick (inr e) = inr (y ++ e.0, e.1, (d, e.2), cut ∙ ap (λ l. y ++ l) e.3 ∙ sym (append_assoc y e.0 e.1), (y, e.0, refl, h, e.4), e.5)

    from_brink : (p : List Token) → (seq R S).brink p → (seq R L).brink p
    from_brink p (inl k) = inl k
    from_brink p (inr k) = inr (k.0, k.1, k.2, k.3, k.4, c.from_brink k.1 k.5)

-- either of two
pub or_continued : {A B : Type 0} (L1 S1 L2 S2 : Grammar A) (N : A → Grammar B) (long : A → List B → A) → Continued L1 S1 N long → Continued L2 S2 N long
    → Continued (or L1 L2) (or S1 S2) N long
or_continued {A = A} {B = B} L1 S1 L2 S2 N long c d = record { to = to; from = from; to_brink = to_brink; from_brink = from_brink; behind_brink = behind_brink }
  where
    to : (x : List Token) (v : A) → (or L1 L2).reads x v → (y : List Token) × (z : List Token) × (a : A) × (bs : List B) × (x ≡ y ++ z) × (or S1 S2).reads y a × rules.each (N a).reads z bs × (v ≡ long a bs)
    to x v (inl h) = let k = c.to x v h in (k.0, k.1, k.2, k.3, k.4, inl k.5, k.6, k.7)
    to x v (inr h) = let k = d.to x v h in (k.0, k.1, k.2, k.3, k.4, inr k.5, k.6, k.7)

    from : (y z : List Token) (a : A) (bs : List B) → (or S1 S2).reads y a → rules.each (N a).reads z bs → (or L1 L2).reads (y ++ z) (long a bs)
    from y z a bs (inl h) k = inl (c.from y z a bs h k)
    from y z a bs (inr h) k = inr (d.from y z a bs h k)

    to_brink : (p : List Token) → (or L1 L2).brink p → (or S1 S2).brink p ⊎ ((y : List Token) × (z : List Token) × (a : A) × (p ≡ y ++ z) × (or S1 S2).reads y a × behind_each (N a) (N a).brink z)
    to_brink p (inl h) = elim (c.to_brink p h) [
      | inl k ↦ inl (inl k)
      | inr k ↦ inr (k.0, k.1, k.2, k.3, inl k.4, k.5)
    ]
    to_brink p (inr h) = elim (d.to_brink p h) [
      | inl k ↦ inl (inr k)
      | inr k ↦ inr (k.0, k.1, k.2, k.3, inr k.4, k.5)
    ]

    from_brink : (p : List Token) → (or S1 S2).brink p → (or L1 L2).brink p
    from_brink p (inl k) = inl (c.from_brink p k)
    from_brink p (inr k) = inr (d.from_brink p k)

    behind_brink : (y z : List Token) (a : A) → (or S1 S2).reads y a → behind_each (N a) (N a).brink z → (or L1 L2).brink (y ++ z)
    behind_brink y z a (inl h) k = inl (c.behind_brink y z a h k)
    behind_brink y z a (inr h) k = inr (d.behind_brink y z a h k)

-- under another value
pub as_continued : {A B D : Type 0} (f : A → D) (L S : Grammar A) (N : A → Grammar B) (long : A → List B → A) (M : D → Grammar B) (longer : D → List B → D)
    → ((x : List Token) (a : A) → S.reads x a → M (f a) ≡ N a) → ((x : List Token) (a : A) (bs : List B) → S.reads x a → longer (f a) bs ≡ f (long a bs)) → Continued L S N long
    → Continued (read_as f L) (read_as f S) M longer
as_continued {A = A} {B = B} {D = D} f L S N long M longer same_items same_value c = record { to = to; from = from; to_brink = to_brink; from_brink = c.from_brink; behind_brink = behind_brink }
  where
    to : (x : List Token) (v : D) → (read_as f L).reads x v → (y : List Token) × (z : List Token) × (a : D) × (bs : List B) × (x ≡ y ++ z) × (read_as f S).reads y a × rules.each (M a).reads z bs × (v ≡ longer a bs)
    to x v h =
        let k = c.to x h.0 h.1 in
        (k.0, k.1, f k.2, k.3, k.4, (k.2, k.5, refl), subst (λ g. rules.each g.reads k.1 k.3) (sym (same_items k.0 k.2 k.5)) k.6, h.2 ∙ ap f k.7 ∙ sym (same_value k.0 k.2 k.3 k.5))

    from : (y z : List Token) (a : D) (bs : List B) → (read_as f S).reads y a → rules.each (M a).reads z bs → (read_as f L).reads (y ++ z) (longer a bs)
    from y z a bs h k =
        (long h.0 bs, c.from y z h.0 bs h.1 (subst (λ g. rules.each g.reads z bs) (ap M h.2 ∙ same_items y h.0 h.1) k), ap (λ d. longer d bs) h.2 ∙ same_value y h.0 bs h.1)

    to_brink : (p : List Token) → L.brink p → S.brink p ⊎ ((y : List Token) × (z : List Token) × (a : D) × (p ≡ y ++ z) × (read_as f S).reads y a × behind_each (M a) (M a).brink z)
    to_brink p h = elim (c.to_brink p h) [
      | inl k ↦ inl k
      | inr k ↦ inr (k.0, k.1, f k.2, k.3, (k.2, k.4, refl), subst (λ g. behind_each g g.brink k.1) (sym (same_items k.0 k.2 k.4)) k.5)
    ]

    behind_brink : (y z : List Token) (a : D) → (read_as f S).reads y a → behind_each (M a) (M a).brink z → L.brink (y ++ z)
    behind_brink y z a h k = c.behind_brink y z h.0 h.1 (subst (λ g. behind_each g g.brink z) (ap M h.2 ∙ same_items y h.0 h.1) k)

-- where nothing goes on
pub whole_continued : {A B : Type 0} (L : Grammar A) → Continued L L (λ a. nothing {A = B}) (λ a bs. a)
whole_continued {A = A} {B = B} L = record { to = λ x v h. (x, [], v, [], sym (append-nil x), h, refl, refl); from = from; to_brink = λ p h. inl h; from_brink = λ p h. h; behind_brink = λ y z a h k. absurd k.5 }
  where
    from : (y z : List Token) (a : A) (bs : List B) → L.reads y a → rules.each (nothing {A = B}).reads z bs → L.reads (y ++ z) a
    from y z a [] h k = subst (λ l. L.reads l a) (sym (ap (λ l. y ++ l) k ∙ append-nil y)) h
    from y z a (b ∷ bs) h k = absurd k.3
