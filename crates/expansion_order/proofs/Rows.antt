-- A row drawn part by part, and parts side by side.
use Rattle.std.proofs.Common.{◌≡◌, ◌<◌, ◌+◌, ◌⊎◌, inl, inr, ℕ, Bool, true, false, List, [], ◌∷◌, ◌++◌, Option, Some, None, get_or, length, take, map, refl, sym, subst, ap, ◌∙◌, append_assoc, arith}
use Rattle.std.proofs.lemmas.List.{append-nil, map-append, take_more}
use Rattle.expansion_tree.specs.Expansions.{expansions, is_exception, no_parts}
use Rattle.expansion_tree.specs.Numbered.{Expansion}
use Rattle.expansion_tree.specs.Views.{expansion_view, expansions_view}
use Rattle.expansion_tree.specs.declared.tree.Expansion as rust
use Rattle.expansion_order.specs.Precedence.{Precedes, PrecedesInOne, PrecedesInRow, StopsOrder}
use Rattle.expansion_order.specs.Stops.{all_counted, counted}
use Rattle.expansion_order.specs.Webs.{AreDrawn, AreEntered, AreLeft, Grows, IsFront, IsPut, IsTidy, Nothing, OneOf, line, line_part, with_part}
use Rattle.expansion_order.specs.declared.stops.Stop.{Stop}
use Rattle.expansion_order.specs.declared.web.Web.{Web}
use Rattle.expansion_order.proofs.Drawn.{among_either, among_left, among_right, drawn_as, drawn_none, drawn_then, grows_self, rises_before}
use Rattle.expansion_order.proofs.Fronts.{entered_drawn, entered_front, left_drawn, left_front}

-- ---- one list before another

behind_left : (ss ts us : List Stop) (u v : ℕ) → StopsOrder ss ts u v → StopsOrder ss (ts ++ us) u v
behind_left ss ts us u v c = record { earlier = c.earlier; later = c.later; among_first = c.among_first; among_second = among_left c.later ts us c.among_second; at_one = c.at_one; first = c.first; second = c.second }

behind_right : (ss ts us : List Stop) (u v : ℕ) → StopsOrder ss us u v → StopsOrder ss (ts ++ us) u v
behind_right ss ts us u v c = record { earlier = c.earlier; later = c.later; among_first = c.among_first; among_second = among_right c.later ts us c.among_second; at_one = c.at_one; first = c.first; second = c.second }

behind_either : (ss ts us : List Stop) (u v : ℕ) → StopsOrder ss (ts ++ us) u v → StopsOrder ss ts u v ⊎ StopsOrder ss us u v
behind_either ss ts us u v c = elim (among_either c.later ts us c.among_second) [
  | inl l ↦ inl (record { earlier = c.earlier; later = c.later; among_first = c.among_first; among_second = l; at_one = c.at_one; first = c.first; second = c.second })
  | inr r ↦ inr (record { earlier = c.earlier; later = c.later; among_first = c.among_first; among_second = r; at_one = c.at_one; first = c.first; second = c.second })
]

left_first : (ss ts us : List Stop) (u v : ℕ) → StopsOrder ss us u v → StopsOrder (ss ++ ts) us u v
left_first ss ts us u v c = record { earlier = c.earlier; later = c.later; among_first = among_left c.earlier ss ts c.among_first; among_second = c.among_second; at_one = c.at_one; first = c.first; second = c.second }

right_first : (ss ts us : List Stop) (u v : ℕ) → StopsOrder ts us u v → StopsOrder (ss ++ ts) us u v
right_first ss ts us u v c = record { earlier = c.earlier; later = c.later; among_first = among_right c.earlier ss ts c.among_first; among_second = c.among_second; at_one = c.at_one; first = c.first; second = c.second }

either_first : (ss ts us : List Stop) (u v : ℕ) → StopsOrder (ss ++ ts) us u v → StopsOrder ss us u v ⊎ StopsOrder ts us u v
either_first ss ts us u v c = elim (among_either c.earlier ss ts c.among_first) [
  | inl l ↦ inl (record { earlier = c.earlier; later = c.later; among_first = l; among_second = c.among_second; at_one = c.at_one; first = c.first; second = c.second })
  | inr r ↦ inr (record { earlier = c.earlier; later = c.later; among_first = r; among_second = c.among_second; at_one = c.at_one; first = c.first; second = c.second })
]

none_behind : (ss : List Stop) (u v : ℕ) → StopsOrder ss [] u v → ⊥
none_behind ss u v c = let h = c.among_second in elim h [ ]

none_in_front : (ss : List Stop) (u v : ℕ) → StopsOrder [] ss u v → ⊥
none_in_front ss u v c = let h = c.among_first in elim h [ ]

-- ---- one more part

pub counted_snoc : (xs : List Expansion) (x : Expansion) → all_counted (expansions (xs ++ x ∷ [])) ≡ all_counted (expansions xs) ++ counted x
counted_snoc [] x = append-nil (counted x)
counted_snoc (y ∷ xs) x = ap (λ (l : List Stop). counted y ++ l) (counted_snoc xs x) ∙ sym (append_assoc (counted y) (all_counted (expansions xs)) (counted x))

pub line_snoc : (xs : List Expansion) (x : Expansion) → line (expansions (xs ++ x ∷ [])) ≡ with_part (is_exception x) (line (expansions xs)) (counted x)
line_snoc [] x = by (is_exception x)
  where
    by : (b : Bool) → line_part b (counted x) ++ [] ≡ with_part b [] (counted x)
    by true = refl
    by false = append-nil (counted x)
line_snoc (y ∷ xs) x = ap (λ (l : List Stop). line_part (is_exception y) (counted y) ++ l) (line_snoc xs x) ∙ by (is_exception x)
  where
    by : (b : Bool) → line_part (is_exception y) (counted y) ++ with_part b (line (expansions xs)) (counted x) ≡ with_part b (line_part (is_exception y) (counted y) ++ line (expansions xs)) (counted x)
    by true = refl
    by false = sym (append_assoc (line_part (is_exception y) (counted y)) (line (expansions xs)) (counted x))

abbrev pub AsksMore : List Expansion → Expansion → ℕ → ℕ → Type 0
AsksMore xs x = OneOf (OneOf (PrecedesInRow (expansions xs)) (Precedes x)) (StopsOrder (line (expansions xs)) (counted x))

stands_in_line : (b : Bool) (ss ts us : List Stop) (u v : ℕ) → b ≡ false → StopsOrder ss us u v → StopsOrder (line_part b ss ++ ts) us u v
stands_in_line true ss ts us u v e c = absurd cc
stands_in_line false ss ts us u v e c = left_first ss ts us u v c

of_line : (b : Bool) (ss ts us : List Stop) (u v : ℕ) → StopsOrder (line_part b ss ++ ts) us u v → ((b ≡ false) × StopsOrder ss us u v) ⊎ StopsOrder ts us u v
of_line true ss ts us u v c = inr c
of_line false ss ts us u v c = elim (either_first ss ts us u v c) [ inl l ↦ inl (refl, l) | inr r ↦ inr r ]

pub snoc_asks : (xs : List Expansion) (x : Expansion) (u v : ℕ) → PrecedesInRow (expansions (xs ++ x ∷ [])) u v → AsksMore xs x u v
snoc_asks [] x u v h = elim h [ inl c ↦ absurd (none_behind (counted x) u v c.1) | inr r ↦ elim r [ inl w ↦ inl (inr w) | inr n ↦ absurd n ] ]
snoc_asks (y ∷ xs) x u v h = elim h [
  | inl c ↦
      let first : StopsOrder (counted y) (all_counted (expansions xs) ++ counted x) u v = subst (λ (l : List Stop). StopsOrder (counted y) l u v) (counted_snoc xs x) c.1 in
      elim (behind_either (counted y) (all_counted (expansions xs)) (counted x) u v first) [
        | inl l ↦ inl (inl (inl (c.0, l)))
        | inr r ↦ inr (stands_in_line (is_exception y) (counted y) (line (expansions xs)) (counted x) u v c.0 r)
      ]
  | inr r ↦ elim r [
    | inl w ↦ inl (inl (inr (inl w)))
    | inr s ↦ elim (snoc_asks xs x u v s) [
      | inl l ↦ elim l [ inl p ↦ inl (inl (inr (inr p))) | inr w ↦ inl (inr w) ]
      | inr c ↦ inr (right_first (line_part (is_exception y) (counted y)) (line (expansions xs)) (counted x) u v c)
    ]
  ]
]

pub asks_snoc : (xs : List Expansion) (x : Expansion) (u v : ℕ) → AsksMore xs x u v → PrecedesInRow (expansions (xs ++ x ∷ [])) u v
asks_snoc [] x u v h = elim h [ inl l ↦ elim l [ inl n ↦ absurd n | inr w ↦ inr (inl w) ] | inr c ↦ absurd (none_in_front (counted x) u v c) ]
asks_snoc (y ∷ xs) x u v h = elim h [
  | inl l ↦ elim l [
    | inl p ↦ elim p [
      | inl c ↦ inl (c.0, subst (λ (l : List Stop). StopsOrder (counted y) l u v) (sym (counted_snoc xs x)) (behind_left (counted y) (all_counted (expansions xs)) (counted x) u v c.1))
      | inr q ↦ elim q [ inl w ↦ inr (inl w) | inr r ↦ inr (inr (asks_snoc xs x u v (inl (inl r)))) ]
    ]
    | inr w ↦ inr (inr (asks_snoc xs x u v (inl (inr w))))
  ]
  | inr c ↦ elim (of_line (is_exception y) (counted y) (line (expansions xs)) (counted x) u v c) [
    | inl d ↦ inl (d.0, subst (λ (l : List Stop). StopsOrder (counted y) l u v) (sym (counted_snoc xs x)) (behind_right (counted y) (all_counted (expansions xs)) (counted x) u v d.1))
    | inr r ↦ inr (inr (asks_snoc xs x u v (inr r)))
  ]
]

one_snoc : (xs : List Expansion) (x : Expansion) (u v : ℕ) → PrecedesInOne (expansions (xs ++ x ∷ [])) u v → OneOf (PrecedesInOne (expansions xs)) (Precedes x) u v
one_snoc [] x u v h = elim h [ inl p ↦ inr p | inr n ↦ absurd n ]
one_snoc (y ∷ xs) x u v h = elim h [ inl p ↦ inl (inl p) | inr r ↦ elim (one_snoc xs x u v r) [ inl p ↦ inl (inr p) | inr p ↦ inr p ] ]

snoc_one : (xs : List Expansion) (x : Expansion) (u v : ℕ) → OneOf (PrecedesInOne (expansions xs)) (Precedes x) u v → PrecedesInOne (expansions (xs ++ x ∷ [])) u v
snoc_one [] x u v h = elim h [ inl n ↦ absurd n | inr p ↦ inl p ]
snoc_one (y ∷ xs) x u v h = elim h [ inl l ↦ elim l [ inl p ↦ inl p | inr r ↦ inr (snoc_one xs x u v (inl r)) ] | inr p ↦ inr (snoc_one xs x u v (inr p)) ]

-- ---- a part put behind the front

pub put_stays : (old new : Web) (was : ℕ → Option ℕ) (stays : Bool) (stops : List Stop) → IsTidy old → ((k b : ℕ) → was k ≡ Some b → b < old.bars) → AreEntered old new was stops → stays ≡ true → IsPut old new was was stays stops
put_stays old new was stays stops tidy low h is = record {
  low = λ k b x. let l = low k b x in let e = h.bars in omega (arith, l, e);
  drawn = λ front stands. entered_drawn old new was stops front tidy stands h;
  front = λ front stands. subst (λ (b : Bool). IsFront new was (with_part b front stops)) (sym is) (entered_front old new was stops front tidy stands h);
}

pub put_left : (old mid new : Web) (was last : ℕ → Option ℕ) (stays : Bool) (stops : List Stop) → IsTidy old → ((k b : ℕ) → was k ≡ Some b → b < old.bars) → AreEntered old mid was stops → AreLeft mid new was last stops → stays ≡ false → IsPut old new was last stays stops
put_left old mid new was last stays stops tidy low h left is = record {
  low = λ k b x. elim (left.come k b x) [ inl w ↦ let l = low k b w in let e = h.bars in let m = left.bars in omega (arith, l, e, m) | inr r ↦ r.1 ];
  drawn = λ front stands.
      let first = entered_drawn old mid was stops front tidy stands h in
      drawn_as (OneOf (StopsOrder front stops) Nothing) (StopsOrder front stops) old new (λ u v x. elim x [ inl a ↦ a | inr b ↦ absurd b ]) (λ u v x. inl x)
      (drawn_then (StopsOrder front stops) Nothing old mid new first (left_drawn mid new was last stops front first.tidy (entered_front old mid was stops front tidy stands h) h.drawn left));
  front = λ front stands.
      let first = entered_drawn old mid was stops front tidy stands h in
      subst (λ (b : Bool). IsFront new last (with_part b front stops)) (sym is) (left_front mid new was last stops front first.tidy (entered_front old mid was stops front tidy stands h) h.drawn left);
}

-- ---- rows

front_later : (now mid : Web) (last : ℕ → Option ℕ) (ss : List Stop) → Grows now mid → IsFront now last ss → IsFront mid last ss
front_later now mid last ss g h = record {
  low = λ k b x. let l = h.low k b x in let e = g.bars in omega (arith, l, e);
  rises = λ rank bar r s a. h.rises rank bar (rises_before rank bar now mid g r) s a;
  only = λ k b u x l. h.only k b u x (g.same u b l (h.low k b x));
}

-- these parts of a row are drawn
pub record IsRowDrawn (xs : List Expansion) (old new : Web) (all : List Stop) (last : ℕ → Option ℕ) : Type 0 where
  pub stops : all ≡ all_counted (expansions xs)
  pub drawn : AreDrawn (PrecedesInRow (expansions xs)) old new
  pub front : IsFront new last (line (expansions xs))

row_more : (old now mid new : Web) (was last : ℕ → Option ℕ) (xs : List Expansion) (x : Expansion) (all stops : List Stop) → IsRowDrawn xs old now all was → stops ≡ counted x → AreDrawn (Precedes x) now mid
    → IsPut mid new was last (is_exception x) stops → IsRowDrawn (xs ++ x ∷ []) old new (all ++ stops) last
row_more old now mid new was last xs x all stops h are inside p =
    let front : IsFront mid was (line (expansions xs)) = front_later now mid was (line (expansions xs)) inside.grown h.front in
    let put : IsPut mid new was last (is_exception x) (counted x) = subst (IsPut mid new was last (is_exception x)) are p in
    record {
      stops = ap (λ (l : List Stop). l ++ stops) h.stops ∙ ap (λ (l : List Stop). all_counted (expansions xs) ++ l) are ∙ sym (counted_snoc xs x);
      drawn = drawn_as (AsksMore xs x) (PrecedesInRow (expansions (xs ++ x ∷ []))) old new (asks_snoc xs x) (snoc_asks xs x)
          (drawn_then (OneOf (PrecedesInRow (expansions xs)) (Precedes x)) (StopsOrder (line (expansions xs)) (counted x)) old mid new
          (drawn_then (PrecedesInRow (expansions xs)) (Precedes x) old now mid h.drawn inside) (put.drawn (line (expansions xs)) front));
      front = subst (IsFront new last) (sym (line_snoc xs x)) (put.front (line (expansions xs)) front);
    }

abbrev pub viewed : List rust.Expansion → List Expansion
viewed xs = map expansion_view xs

more_view : (xs : List rust.Expansion) (i : ℕ) (x : rust.Expansion) → i < length xs → x ≡ get_or xs i x → viewed (take (i + 1) xs) ≡ viewed (take i xs) ++ expansion_view x ∷ []
more_view xs i x low is = ap viewed (take_more xs i x low ∙ ap (λ (y : rust.Expansion). take i xs ++ y ∷ []) (sym is)) ∙ map-append expansion_view (take i xs) (x ∷ [])

pub row_step : (old now mid new : Web) (was last : ℕ → Option ℕ) (xs : List rust.Expansion) (i : ℕ) (x : rust.Expansion) (stays : Bool) (all stops pushed : List Stop) → i < length xs → x ≡ get_or xs i x → IsRowDrawn (viewed (take i xs)) old now all was
    → stops ≡ counted (expansion_view x) → AreDrawn (Precedes (expansion_view x)) now mid → IsPut mid new was last stays stops → stays ≡ is_exception (expansion_view x) → pushed ≡ all ++ stops → IsRowDrawn (viewed (take (i + 1) xs)) old new pushed last
row_step old now mid new was last xs i x stays all stops pushed low is h are inside p exc push =
    subst (λ (l : List Stop). IsRowDrawn (viewed (take (i + 1) xs)) old new l last) (sym push)
    (subst (λ (l : List Expansion). IsRowDrawn l old new (all ++ stops) last) (sym (more_view xs i x low is))
    (row_more old now mid new was last (viewed (take i xs)) (expansion_view x) all stops h are inside (subst (λ (b : Bool). IsPut mid new was last b stops) exc p)))

pub row_start : (w : Web) (last : ℕ → Option ℕ) → IsTidy w → ((k : ℕ) → last k ≡ None) → IsRowDrawn [] w w [] last
row_start w last tidy none = record {
  stops = refl;
  drawn = record { tidy = tidy; grown = grows_self w; rises = λ rank bar r u v h. absurd h; asked = λ u v h. inl h };
  front = record {
    low = λ k b x. absurd (no_bar k b x);
    rises = λ rank bar r s a. elim a [ ];
    only = λ k b u x l. absurd (no_bar k b x);
  };
}
  where
    no_bar : (k b : ℕ) → last k ≡ Some b → ⊥
    no_bar k b x = let n = none k in cc

-- ---- side by side

pub record AreEachDrawn (xs : List Expansion) (old new : Web) (all : List Stop) : Type 0 where
  pub stops : all ≡ all_counted (expansions xs)
  pub drawn : AreDrawn (PrecedesInOne (expansions xs)) old new

pub each_start : (w : Web) → IsTidy w → AreEachDrawn [] w w []
each_start w tidy = record { stops = refl; drawn = record { tidy = tidy; grown = grows_self w; rises = λ rank bar r u v h. absurd h; asked = λ u v h. inl h } }

pub each_step : (old now new : Web) (xs : List rust.Expansion) (i : ℕ) (x : rust.Expansion) (all stops pushed : List Stop) → i < length xs → x ≡ get_or xs i x → AreEachDrawn (viewed (take i xs)) old now all → stops ≡ counted (expansion_view x)
    → AreDrawn (Precedes (expansion_view x)) now new → pushed ≡ all ++ stops → AreEachDrawn (viewed (take (i + 1) xs)) old new pushed
each_step old now new xs i x all stops pushed low is h are one push =
    let before : List Expansion = viewed (take i xs) in
    subst (λ (l : List Expansion). AreEachDrawn l old new pushed) (sym (more_view xs i x low is))
    (record {
      stops = push ∙ ap (λ (l : List Stop). l ++ stops) h.stops ∙ ap (λ (l : List Stop). all_counted (expansions before) ++ l) are ∙ sym (counted_snoc before (expansion_view x));
      drawn = drawn_as (OneOf (PrecedesInOne (expansions before)) (Precedes (expansion_view x))) (PrecedesInOne (expansions (before ++ expansion_view x ∷ []))) old new (snoc_one before (expansion_view x)) (one_snoc before (expansion_view x))
          (drawn_then (PrecedesInOne (expansions before)) (Precedes (expansion_view x)) old now new h.drawn one);
    })
