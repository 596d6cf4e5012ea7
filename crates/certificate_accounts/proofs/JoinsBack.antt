-- From an account of a join in normal form to accounts of the parts that it was made of.
use Rattle.std.specs.Prelude.{ℕ, List, [], ◌∷◌, ◌++◌, ◌≡◌, false, refl}
use Rattle.std.proofs.Common.{ap, ap₂, sym, ◌∙◌}
use Rattle.msc_base.specs.Patterns.{Mode, seq, par, empty, join}
use Rattle.chart_term.specs.NormalForms.{open_part, flat, join_of, join_all}
use Rattle.chart_term.specs.TermMeanings.{NetTerms, HasPattern, has_nil, has_join, HasParts, no_part, one_part}
use Rattle.chart_term.specs.TermPatterns.{Shape, HasNoEvent, ◌≈◌, same, back, on, in_join, assoc, left, right}
use Rattle.chart_term.specs.Terms.{TermEvent, Tree, Nil, Event, Join, Choice, Tied, Loop, Walk, trees}
use Rattle.chart_term.proofs.Lists.{items-trees}
use Rattle.certificates.specs.Certificates.{HasEmpty}
use Rattle.certificate_accounts.specs.Accounts.{Account, Accounts, no_accounts, account_and, Tells, tells_nothing, tells_parts, TellsAll, tells_none, tells_part}
use Rattle.certificate_accounts.specs.JoinsBack.{first_of, rest_of, front_for, rest_for, parts_in, joined_parts, closed_part, closed_parts, parts_back}

-- of the first terms, where accounts for some more were taken
front_of_front : (zs ys : List Tree) (us : Accounts) → front_for zs (front_for (zs ++ ys) us) ≡ front_for zs us
front_of_front [] ys us = refl
front_of_front (z ∷ zs) ys us = ap (account_and (first_of us)) (front_of_front zs ys (rest_of us))

rest_of_front : (zs ys : List Tree) (us : Accounts) → rest_for zs (front_for (zs ++ ys) us) ≡ front_for ys (rest_for zs us)
rest_of_front [] ys us = refl
rest_of_front (z ∷ zs) ys us = rest_of_front zs ys (rest_of us)

-- accounts without events may be left out at the end
filled : (m : Mode) (xs : List Tree) (us : Accounts) → closed_parts m xs (front_for (flat m xs) us) ≡ closed_parts m xs us
filled m [] us = refl
filled m (x ∷ xs) us =
    ap₂ (λ a vs. account_and (closed_part m x a) (closed_parts m xs vs)) (front_of_front (open_part m x) (flat m xs) us) (rest_of_front (open_part m x) (flat m xs) us)
    ∙ ap (account_and (closed_part m x (front_for (open_part m x) us))) (filled m xs (rest_for (open_part m x) us))

module _ (w : NetTerms) (ev : ℕ → TermEvent) where
  pub nil_empty : HasEmpty w Nil
  nil_empty = record { pattern = empty; has = has_nil; none = tt }

  pub cut : (m : Mode) (zs : List Tree) {ys : List Tree} {us : Accounts} {u : Shape} → TellsAll w ev m (zs ++ ys) us u → (s : Shape) × (t : Shape) × TellsAll w ev m zs (front_for zs us) s × TellsAll w ev m ys (rest_for zs us) t × (u ≈ join m s t)
  cut m [] h = (empty, _, tells_none, h, back left)
  cut m (x ∷ xs) (tells_part a r) = let k = cut m xs r in (_, k.1, tells_part a k.2, k.3, on (in_join same k.4) (back assoc))

  alone : (m : Mode) (x : Tree) (us : Accounts) (s : Shape) → TellsAll w ev m (x ∷ []) us s → (t : Shape) × Tells w ev x (first_of us) t × (s ≈ t)
  alone m x us s (tells_part a tells_none) = (_, a, right)

  closed : (m : Mode) (x : Tree) (us : Accounts) (s : Shape) → TellsAll w ev m (open_part m x) us s → (t : Shape) × Tells w ev x (closed_part m x us) t × (s ≈ t)
  closed m Nil us s tells_none = (empty, tells_nothing nil_empty, same)
  closed seq (Join seq xs) us s h = (s, tells_parts h, same)
  closed seq (Join par xs) us s h = alone seq (Join par xs) us s h
  closed par (Join seq xs) us s h = alone par (Join seq xs) us s h
  closed par (Join par xs) us s h = (s, tells_parts h, same)
  closed m (Event e) us s h = alone m (Event e) us s h
  closed m (Choice xs) us s h = alone m (Choice xs) us s h
  closed m (Tied x q) us s h = alone m (Tied x q) us s h
  closed m (Loop x lo hi r) us s h = alone m (Loop x lo hi r) us s h
  closed m (Walk n f t c) us s h = alone m (Walk n f t c) us s h

  closed_parts_tell : (m : Mode) (xs : List Tree) (us : Accounts) (s : Shape) → TellsAll w ev m (flat m xs) us s → (t : Shape) × TellsAll w ev m xs (closed_parts m xs us) t × (s ≈ t)
  closed_parts_tell m [] us s tells_none = (empty, tells_none, same)
  closed_parts_tell m (x ∷ xs) us s h =
      let k = cut m (open_part m x) h in
      let p = closed m x (front_for (open_part m x) us) k.0 k.2 in
      let r = closed_parts_tell m xs (rest_for (open_part m x) us) k.1 k.3 in
      (_, tells_part p.1 r.1, on k.4 (in_join p.2 r.2))

  -- parts without events
  pub nothing_all : (m : Mode) (xs : List Tree) (s : Shape) → HasParts w false m xs s → HasNoEvent s → (t : Shape) × TellsAll w ev m xs (front_for xs no_accounts) t × (empty ≈ t)
  nothing_all m [] s no_part h = (empty, tells_none, same)
  nothing_all m (x ∷ xs) s (one_part {s = u} a r) h =
      let (t, k, e) = nothing_all m xs _ r h.1 in
      (join m empty t, tells_part (tells_nothing (record { pattern = u; has = a; none = h.0 })) k, on e (back left))

  nothing_join : (m : Mode) (xs : List Tree) (y : Tree) → y ≡ Join m (trees xs) → HasEmpty w y → (t : Shape) × TellsAll w ev m xs (front_for xs no_accounts) t × (empty ≈ t)
  nothing_join m xs y e h = go h.pattern (rw e at h.has) h.none
    where
      go : (s : Shape) → HasPattern w false (Join m (trees xs)) s → HasNoEvent s → (t : Shape) × TellsAll w ev m xs (front_for xs no_accounts) t × (empty ≈ t)
      go s (has_join a) n = nothing_all m xs s (rw (items-trees xs) at a) n

  -- as many accounts as parts
  as_many : (m : Mode) (xs : List Tree) (us : Accounts) (s : Shape) → TellsAll w ev m xs us s → TellsAll w ev m xs (front_for xs us) s
  as_many m [] us s tells_none = tells_none
  as_many m (x ∷ xs) us s (tells_part h r) = tells_part h (as_many m xs _ _ r)

  of_join : (m : Mode) (x y : Tree) (ys : List Tree) (a : Account) (s : Shape) → Tells w ev (Join m (trees (x ∷ y ∷ ys))) a s → (t : Shape) × TellsAll w ev m (x ∷ y ∷ ys) (front_for (x ∷ y ∷ ys) (parts_in a)) t × (s ≈ t)
  of_join m x y ys a s (tells_parts h) = (s, as_many m (x ∷ y ∷ ys) _ s (rw (items-trees ys) at h), same)
  of_join m x y ys a s (tells_nothing h) = nothing_join m (x ∷ y ∷ ys) (Join m (trees (x ∷ y ∷ ys))) refl h

  joined_parts_tell : (m : Mode) (xs : List Tree) (a : Account) (s : Shape) → Tells w ev (join_of m xs) a s → (t : Shape) × TellsAll w ev m xs (front_for xs (joined_parts xs a)) t × (s ≈ t)
  joined_parts_tell m [] a s (tells_nothing h) = (empty, tells_none, same)
  joined_parts_tell m (x ∷ []) a s h = (_, tells_part h tells_none, back right)
  joined_parts_tell m (x ∷ y ∷ ys) a s h = of_join m x y ys a s h

  pub parts_back_tells : (m : Mode) (xs : List Tree) (a : Account) (s : Shape) → Tells w ev (join_all m xs) a s → (t : Shape) × TellsAll w ev m xs (parts_back m xs a) t × (s ≈ t)
  parts_back_tells m xs a s h =
      let i = joined_parts_tell m (flat m xs) a s h in
      let j = closed_parts_tell m xs (front_for (flat m xs) (joined_parts (flat m xs) a)) i.0 i.1 in
      (j.0, rw (← filled m xs (joined_parts (flat m xs) a)) j.1, on i.2 j.2)
