-- Tokens have one first refusal at most: the first token with which they begin nothing, or that opens a level too many.
use Rattle.std.proofs.Common.{ℕ, suc, ◌≡◌, ◌∙◌, ◌++◌, ◌⊎◌, List, [], ◌∷◌, refl, sym, ap, inl, inr, subst, append-nil, append_assoc}
use Rattle.msc_tokens.specs.declared.token.Token.{Token}
use Rattle.token_grammar.specs.Grammars.{Grammar}
use Rattle.token_grammar.specs.Parsing.{BeginsReading, Level, IsRefused, IsTooDeep}

-- ---- two ways to cut a list

-- what the second prefix has more than the first, which ends before a token
abbrev Longer : List Token → List Token → List Token → Type 0
Longer prefix rest longer = (token : Token) × (behind : List Token) × (more : List Token) × (rest ≡ token ∷ behind) × (longer ≡ prefix ++ token ∷ more)

later : (t : Token) (prefix rest longer : List Token) → Longer prefix rest longer → Longer (t ∷ prefix) rest (t ∷ longer)
later t prefix rest longer (token, behind, more, e, h) = (token, behind, more, e, ap (λ l. t ∷ l) h)

abbrev Cuts : List Token → List Token → List Token → List Token → Type 0
Cuts a x b y = ((a ≡ b) × (x ≡ y)) ⊎ (Longer a x b ⊎ Longer b y a)

cuts : (a x b y : List Token) → a ++ x ≡ b ++ y → Cuts a x b y
cuts [] x [] y e = inl (refl, e)
cuts [] x (t ∷ b) y e = inr (inl (t, b ++ y, b, e, refl))
cuts (t ∷ a) x [] y e = inr (inr (t, a ++ x, a, sym e, refl))
cuts (t ∷ a) x (u ∷ b) y e =
    let head : t ≡ u = cc in
    let tail : a ++ x ≡ b ++ y = cc in
    subst (λ (v : Token). Cuts (t ∷ a) x (v ∷ b) y) head (go (cuts a x b y tail))
  where
    go : Cuts a x b y → Cuts (t ∷ a) x (t ∷ b) y
    go (inl (same, rest)) = inl (ap (λ l. t ∷ l) same, rest)
    go (inr (inl h)) = inr (inl (later t a x b h))
    go (inr (inr h)) = inr (inr (later t b y a h))

module _ {A : Type 0} (R : ℕ → Grammar A) (n : ℕ) (ts : List Token) where
  -- what refuses a token also refuses whatever begins with the tokens up to it
  refuses : (left : ℕ) (r : IsRefused R n ts left) (m : ℕ) (longer : List Token) → Longer r.prefix r.rest longer → BeginsReading R m longer → ⊥
  refuses left r m longer (token, behind, more, e, h) b =
      r.stops m token behind e (record { more = more ++ b.more; value = b.value; reads = subst (λ l. (R m).reads l b.value) (ap (λ l. l ++ b.more) h ∙ shifted) b.reads })
    where
      shifted : (r.prefix ++ token ∷ more) ++ b.more ≡ (r.prefix ++ token ∷ []) ++ (more ++ b.more)
      shifted = append_assoc r.prefix (token ∷ more) b.more ∙ sym (append_assoc r.prefix (token ∷ []) (more ++ b.more))

  -- an opening too many is in all that is longer
  opens_in : (left : ℕ) (r : IsTooDeep R n ts left) (longer : List Token) → Longer r.prefix (r.token ∷ r.rest) longer → Level R n longer → ⊥
  opens_in left r longer (token, behind, more, e, h) level =
      let same : r.token ≡ token = cc in
      level (r.prefix ++ r.token ∷ []) more (h ∙ ap (λ (t : Token). r.prefix ++ t ∷ more) (sym same) ∙ sym (append_assoc r.prefix (r.token ∷ []) more)) r.opens

  -- ---- one refusal

  pub one_refused : (k j : ℕ) (r : IsRefused R n ts k) (s : IsRefused R n ts j) → r.rest ≡ s.rest
  one_refused k j r s = pick (cuts r.prefix r.rest s.prefix s.rest (sym r.cut ∙ s.cut))
    where
      pick : Cuts r.prefix r.rest s.prefix s.rest → r.rest ≡ s.rest
      pick (inl (same, rest)) = rest
      pick (inr (inl h)) = absurd (refuses k r (suc n) s.prefix h s.begins)
      pick (inr (inr h)) = absurd (refuses j s (suc n) r.prefix h r.begins)

  pub one_too_deep : (k j : ℕ) (r : IsTooDeep R n ts k) (s : IsTooDeep R n ts j) → r.token ≡ s.token
  one_too_deep k j r s = pick (cuts r.prefix (r.token ∷ r.rest) s.prefix (s.token ∷ s.rest) (sym r.cut ∙ s.cut))
    where
      pick : Cuts r.prefix (r.token ∷ r.rest) s.prefix (s.token ∷ s.rest) → r.token ≡ s.token
      pick (inl (same, rest)) = cc
      pick (inr (inl h)) = absurd (opens_in k r s.prefix h s.level)
      pick (inr (inr h)) = absurd (opens_in j s r.prefix h r.level)

  -- where an opening too many goes on with one level more
  pub not_both : ((p : List Token) → (R n).brink p → BeginsReading R (suc n) p) → (k j : ℕ) → IsRefused R n ts k → IsTooDeep R n ts j → ⊥
  not_both opened k j r s = pick (cuts r.prefix r.rest s.prefix (s.token ∷ s.rest) (sym r.cut ∙ s.cut))
    where
      here : Longer r.prefix r.rest (s.prefix ++ s.token ∷ []) → ⊥
      here h = refuses k r (suc n) (s.prefix ++ s.token ∷ []) h (opened (s.prefix ++ s.token ∷ []) s.opens)

      pick : Cuts r.prefix r.rest s.prefix (s.token ∷ s.rest) → ⊥
      pick (inl (same, rest)) = here (s.token, s.rest, [], rest, ap (λ l. l ++ s.token ∷ []) (sym same))
      pick (inr (inl (token, behind, more, e, h))) = here (token, behind, more ++ s.token ∷ [], e, ap (λ l. l ++ s.token ∷ []) h ∙ append_assoc r.prefix (token ∷ more) (s.token ∷ []))
      pick (inr (inr h)) = opens_in j s r.prefix h r.level

  -- ---- what is refused reads as nothing

  pub refused_none : (left : ℕ) → IsRefused R n ts left → (m : ℕ) (a : A) → (R m).reads ts a → ⊥
  refused_none left r m a h = none r.rest refl
    where
      none : (rest : List Token) → r.rest ≡ rest → ⊥
      none [] q = r.ends q m a (subst (λ l. (R m).reads l a) (r.cut ∙ ap (λ l. r.prefix ++ l) q ∙ append-nil r.prefix) h)
      none (t ∷ behind) q = r.stops m t behind q (record { more = behind; value = a; reads = subst (λ l. (R m).reads l a) (r.cut ∙ ap (λ l. r.prefix ++ l) q ∙ sym (append_assoc r.prefix (t ∷ []) behind)) h })

  pub deep_none : ((x : List Token) (a : A) → (R n).reads x a → Level R n x) → (left : ℕ) → IsTooDeep R n ts left → (a : A) → (R n).reads ts a → ⊥
  deep_none proper left r a h = proper ts a h (r.prefix ++ r.token ∷ []) r.rest (r.cut ∙ sym (append_assoc r.prefix (r.token ∷ []) r.rest)) r.opens
