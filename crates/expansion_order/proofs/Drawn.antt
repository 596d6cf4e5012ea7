-- What is drawn in several steps: more and more, and nothing else.
use Rattle.std.proofs.Common.{◌≡◌, ◌<◌, ◌+◌, ◌⊎◌, inl, inr, ℕ, List, [], ◌∷◌, ◌++◌, refl, sym, subst, arith, take, length, get_or}
use Rattle.std.proofs.lemmas.List.{take_more}
use Rattle.column_order.specs.Counts.{EdgeLeads}
use Rattle.column_order.specs.declared.edge.Edge.{Edge}
use Rattle.msc_base.specs.Orders.{Among, first, later}
use Rattle.msc_base.specs.declared.label.Pair.{Pair}
use Rattle.expansion_order.specs.Precedence.{HasPair}
use Rattle.expansion_order.specs.Webs.{AreDrawn, Grows, IsDrawn, IsTidy, Nothing, OneOf, Rises}
use Rattle.expansion_order.specs.declared.web.Web.{Web}

-- ---- among lists

pub among_left : {A : Type 0} (x : A) (xs ys : List A) → Among x xs → Among x (xs ++ ys)
among_left x [] ys h = elim h [ ]
among_left x (y ∷ xs) ys first = first
among_left x (y ∷ xs) ys (later h) = later (among_left x xs ys h)

pub among_right : {A : Type 0} (x : A) (xs ys : List A) → Among x ys → Among x (xs ++ ys)
among_right x [] ys h = h
among_right x (y ∷ xs) ys h = later (among_right x xs ys h)

pub among_either : {A : Type 0} (x : A) (xs ys : List A) → Among x (xs ++ ys) → Among x xs ⊎ Among x ys
among_either x [] ys h = inr h
among_either x (y ∷ xs) ys first = inl first
among_either x (y ∷ xs) ys (later h) = elim (among_either x xs ys h) [ inl l ↦ inl (later l) | inr r ↦ inr r ]

pub among_snoc : {A : Type 0} (x : A) (xs : List A) (y : A) → Among x (xs ++ y ∷ []) → Among x xs ⊎ (x ≡ y)
among_snoc x [] y first = inr refl
among_snoc x [] y (later h) = elim h [ ]
among_snoc x (z ∷ xs) y first = inl first
among_snoc x (z ∷ xs) y (later h) = elim (among_snoc x xs y h) [ inl l ↦ inl (later l) | inr r ↦ inr r ]

-- ---- edges

pub leads_left : (es fs : List Edge) (y x : ℕ) → EdgeLeads es y x → EdgeLeads (es ++ fs) y x
leads_left [] fs y x h = absurd h
leads_left (e ∷ es) fs y x (inl h) = inl h
leads_left (e ∷ es) fs y x (inr h) = inr (leads_left es fs y x h)

pub leads_last : (es : List Edge) (e : Edge) → EdgeLeads (es ++ e ∷ []) e.from e.to
leads_last [] e = inl (refl, refl)
leads_last (d ∷ es) e = inr (leads_last es e)

pub leads_snoc : (es : List Edge) (e : Edge) (y x : ℕ) → EdgeLeads (es ++ e ∷ []) y x → EdgeLeads es y x ⊎ ((e.from ≡ y) × (e.to ≡ x))
leads_snoc [] e y x (inl h) = inr h
leads_snoc [] e y x (inr h) = absurd h
leads_snoc (d ∷ es) e y x (inl h) = inl (inl h)
leads_snoc (d ∷ es) e y x (inr h) = elim (leads_snoc es e y x h) [ inl l ↦ inl (inr l) | inr r ↦ inr r ]

-- ---- webs that grow

pub grows_self : (w : Web) → Grows w w
grows_self w = record { bars = omega arith; pairs = λ u v h. h; before = λ u b h. h; behind = λ b v h. h; same = λ u b h lt. h }

pub grows_then : (a b c : Web) → Grows a b → Grows b c → Grows a c
grows_then a b c f g = record {
  bars = let x = f.bars in let y = g.bars in omega (arith, x, y);
  pairs = λ u v h. g.pairs u v (f.pairs u v h);
  before = λ u i h. g.before u i (f.before u i h);
  behind = λ i v h. g.behind i v (f.behind i v h);
  same = λ u i h lt. f.same u i (g.same u i h (let x = f.bars in omega (arith, x, lt))) lt;
}

pub rises_before : (rank bar : ℕ → ℕ) (old new : Web) → Grows old new → Rises rank bar new → Rises rank bar old
rises_before rank bar old new g r = record { pairs = λ u v h. r.pairs u v (g.pairs u v h); before = λ u b h. r.before u b (g.before u b h); behind = λ b v h. r.behind b v (g.behind b v h) }

-- ---- what is drawn

pub drawn_none : (w : Web) → IsTidy w → AreDrawn Nothing w w
drawn_none w tidy = record { tidy = tidy; grown = grows_self w; rises = λ rank bar r u v h. absurd h; asked = λ u v h. inl h }

pub drawn_then : (A B : ℕ → ℕ → Type 0) (old mid new : Web) → AreDrawn A old mid → AreDrawn B mid new → AreDrawn (OneOf A B) old new
drawn_then A B old mid new a b = record {
  tidy = b.tidy;
  grown = grows_then old mid new a.grown b.grown;
  rises = λ rank bar r u v h. elim h [ inl x ↦ a.rises rank bar (rises_before rank bar mid new b.grown r) u v x | inr y ↦ b.rises rank bar r u v y ];
  asked = λ u v h. elim (b.asked u v h) [ inl d ↦ elim (a.asked u v d) [ inl o ↦ inl o | inr x ↦ inr (inl x) ] | inr y ↦ inr (inr y) ];
}

pub drawn_as : (A B : ℕ → ℕ → Type 0) (old new : Web) → ((u v : ℕ) → A u v → B u v) → ((u v : ℕ) → B u v → A u v) → AreDrawn A old new → AreDrawn B old new
drawn_as A B old new there back h = record {
  tidy = h.tidy;
  grown = h.grown;
  rises = λ rank bar r u v x. h.rises rank bar r u v (back u v x);
  asked = λ u v d. elim (h.asked u v d) [ inl o ↦ inl o | inr x ↦ inr (there u v x) ];
}

-- ---- pairs

abbrev IsThat : Pair → ℕ → ℕ → Type 0
IsThat p u v = (p.first ≡ u) × (p.second ≡ v)

has_snoc : (ps : List Pair) (p : Pair) (u v : ℕ) → HasPair (ps ++ p ∷ []) u v → HasPair ps u v ⊎ IsThat p u v
has_snoc ps p u v h = elim (among_snoc h.pair ps p h.among) [
  | inl l ↦ inl (record { pair = h.pair; among = l; first = h.first; second = h.second })
  | inr e ↦ inr (subst (λ (q : Pair). IsThat q u v) e (h.first, h.second))
]

snoc_has : (ps : List Pair) (p : Pair) (u v : ℕ) → HasPair ps u v ⊎ IsThat p u v → HasPair (ps ++ p ∷ []) u v
snoc_has ps p u v (inl h) = record { pair = h.pair; among = among_left h.pair ps (p ∷ []) h.among; first = h.first; second = h.second }
snoc_has ps p u v (inr h) = record { pair = p; among = among_right p ps (p ∷ []) first; first = h.0; second = h.1 }

abbrev pub with_pair : Web → Pair → Web
with_pair w p = record w { pairs = w.pairs ++ record { from = p.first; to = p.second } ∷ [] }

one_drawn : (w : Web) (p : Pair) → IsTidy w → AreDrawn (IsThat p) w (with_pair w p)
one_drawn w p tidy = record {
  tidy = record { before = tidy.before; behind = tidy.behind };
  grown = record { bars = omega arith; pairs = λ u v h. leads_left w.pairs (record { from = p.first; to = p.second } ∷ []) u v h; before = λ u b h. h; behind = λ b v h. h; same = λ u b h lt. h };
  rises = λ rank bar r u v h.
      let last = r.pairs p.first p.second (leads_last w.pairs (record { from = p.first; to = p.second })) in
      subst (λ (k : ℕ). rank k < rank v) h.0 (subst (λ (k : ℕ). rank p.first < rank k) h.1 last);
  asked = λ u v h. elim h [
    | inl d ↦ elim (leads_snoc w.pairs (record { from = p.first; to = p.second }) u v d) [ inl o ↦ inl (inl o) | inr x ↦ inr x ]
    | inr d ↦ inl (inr (record { bar = d.bar; before = d.before; behind = d.behind }))
  ];
}

pub pair_more : (old now : Web) (ps : List Pair) (p : Pair) → AreDrawn (HasPair ps) old now → AreDrawn (HasPair (ps ++ p ∷ [])) old (with_pair now p)
pair_more old now ps p h = drawn_as (OneOf (HasPair ps) (IsThat p)) (HasPair (ps ++ p ∷ [])) old (with_pair now p) (snoc_has ps p) (has_snoc ps p) (drawn_then (HasPair ps) (IsThat p) old now (with_pair now p) h (one_drawn now p h.tidy))

pub pair_step : (old now : Web) (ps : List Pair) (i : ℕ) (d : Pair) (pushed : List Edge) → i < length ps → pushed ≡ now.pairs ++ record { from = (get_or ps i d).first; to = (get_or ps i d).second } ∷ []
    → AreDrawn (HasPair (take i ps)) old now → AreDrawn (HasPair (take (i + 1) ps)) old (record now { pairs = pushed })
pair_step old now ps i d pushed low is h =
    subst (λ (l : List Pair). AreDrawn (HasPair l) old (record now { pairs = pushed })) (sym (take_more ps i d low))
    (subst (λ (l : List Edge). AreDrawn (HasPair (take i ps ++ get_or ps i d ∷ [])) old (record now { pairs = l })) (sym is) (pair_more old now (take i ps) (get_or ps i d) h))

pub no_pairs : (w : Web) → IsTidy w → AreDrawn (HasPair []) w w
no_pairs w tidy = drawn_as Nothing (HasPair []) w w (λ u v h. absurd h) (λ u v h. let a = h.among in elim a [ ]) (drawn_none w tidy)
