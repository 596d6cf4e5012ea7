-- Runs by taking out are exactly the linear orders of all positions.
use Rattle.std.specs.Prelude.{ℕ, zero, suc, List, [], ◌∷◌, ◌≡◌, refl, ◌⊎◌, map}
use Rattle.std.proofs.Common.{ap, sym, ◌∙◌, inl, inr}
use Rattle.msc_base.specs.Patterns.{Mode, empty, one, join, bind, Position, event_at, Before, Crosses}
use Rattle.chart_term.specs.TermPatterns.{numbered, Shape, pairs, Both, HasNoEvent}
use Rattle.chart_term.specs.TermRuns.{Runs, run_end, run_take, labels, IsLinearRun, taken_out, IsMinimal}
use Rattle.chart_term.specs.Terms.{TermEvent}
use Rattle.chart_term.proofs.Positions.{minimal_taken, taken_minimal}
use Rattle.msc_base.specs.Orders.{Among, Once, Kept, IsLinear, first, later}
use Rattle.list_facts.proofs.Orders.{stands_map}

pub among_back : {A B : Type 0} (f : A → B) (l : List A) {b : B} → Among b (map f l) → (a : A) × (f a ≡ b) × Among a l
among_back f [] h = elim h [ ]
among_back f (a ∷ l) first = (a, refl, first)
among_back f (a ∷ l) (later h) = let (c, e, i) = among_back f l h in (c, e, later i)

abbrev pub keep : (s : Shape) (p : Position s) → Position (taken_out s p) → Position s
keep empty p k = absurd p
keep (one e) p k = absurd k
keep (join m x y) (inl p) (inl k) = inl (keep x p k)
keep (join m x y) (inl p) (inr k) = inr k
keep (join m x y) (inr p) (inl k) = inl k
keep (join m x y) (inr p) (inr k) = inr (keep y p k)
keep (bind x q) p k = keep x p k

abbrev inl_of : {A B : Type 0} → A → A ⊎ B
inl_of a = inl a

abbrev inr_of : {A B : Type 0} → B → A ⊎ B
inr_of b = inr b

inl_inj : {A B : Type 0} (a c : A) → inl_of {B = B} a ≡ inl_of c → a ≡ c
inl_inj a c e = cc

inr_inj : {A B : Type 0} (a c : B) → inr_of {A = A} a ≡ inr_of c → a ≡ c
inr_inj a c e = cc

apart : {A B : Type 0} (a : A) (b : B) → inl_of {B = B} a ≡ inr_of {A = A} b → ⊥
apart a b e = cc

keep_not : (s : Shape) (p : Position s) (k : Position (taken_out s p)) → keep s p k ≡ p → ⊥
keep_not empty p k e = absurd p
keep_not (one e) p k h = absurd k
keep_not (join m x y) (inl p) (inl k) e = keep_not x p k (inl_inj (keep x p k) p e)
keep_not (join m x y) (inl p) (inr k) e = apart p k (sym e)
keep_not (join m x y) (inr p) (inl k) e = apart k p e
keep_not (join m x y) (inr p) (inr k) e = keep_not y p k (inr_inj (keep y p k) p e)
keep_not (bind x q) p k e = keep_not x p k e

keep_inj : (s : Shape) (p : Position s) (k j : Position (taken_out s p)) → keep s p k ≡ keep s p j → k ≡ j
keep_inj empty p k j e = absurd p
keep_inj (one e) p k j h = absurd k
keep_inj (join m x y) (inl p) (inl k) (inl j) e = ap inl (keep_inj x p k j (inl_inj (keep x p k) (keep x p j) e))
keep_inj (join m x y) (inl p) (inl k) (inr j) e = absurd (apart (keep x p k) j e)
keep_inj (join m x y) (inl p) (inr k) (inl j) e = absurd (apart (keep x p j) k (sym e))
keep_inj (join m x y) (inl p) (inr k) (inr j) e = ap inr (inr_inj k j e)
keep_inj (join m x y) (inr p) (inl k) (inl j) e = ap inl (inl_inj k j e)
keep_inj (join m x y) (inr p) (inl k) (inr j) e = absurd (apart k (keep y p j) e)
keep_inj (join m x y) (inr p) (inr k) (inl j) e = absurd (apart j (keep y p k) (sym e))
keep_inj (join m x y) (inr p) (inr k) (inr j) e = ap inr (keep_inj y p k j (inr_inj (keep y p k) (keep y p j) e))
keep_inj (bind x q) p k j e = keep_inj x p k j e

-- each position is the one that goes, or is left
left_or : (s : Shape) (p q : Position s) → (q ≡ p) ⊎ ((k : Position (taken_out s p)) × (keep s p k ≡ q))
left_or empty p q = absurd p
left_or (one e) p q = inl refl
left_or (join m x y) (inl p) (inl q) = elim (left_or x p q) [ inl e ↦ inl (ap inl e) | inr (k, e) ↦ inr (inl k, ap inl e) ]
left_or (join m x y) (inl p) (inr q) = inr (inr q, refl)
left_or (join m x y) (inr p) (inl q) = inr (inl q, refl)
left_or (join m x y) (inr p) (inr q) = elim (left_or y p q) [ inl e ↦ inl (ap inr e) | inr (k, e) ↦ inr (inr k, ap inr e) ]
left_or (bind x r) p q = left_or x p q

pub at_keep : (s : Shape) (p : Position s) (k : Position (taken_out s p)) → event_at numbered (taken_out s p) k ≡ event_at numbered s (keep s p k)
at_keep empty p k = absurd p
at_keep (one e) p k = absurd k
at_keep (join m x y) (inl p) (inl k) = at_keep x p k
at_keep (join m x y) (inl p) (inr k) = refl
at_keep (join m x y) (inr p) (inl k) = refl
at_keep (join m x y) (inr p) (inr k) = at_keep y p k
at_keep (bind x q) p k = at_keep x p k

cross_as : (m : Mode) (a b c d : TermEvent) → a ≡ c → b ≡ d → Both (Crosses numbered m a b) (Crosses numbered m c d)
cross_as m a b c d e h = record { to = λ i. rw (e, h) at i; from = λ i. rw (e, h) i }

pub before_keep : (s : Shape) (p : Position s) (k j : Position (taken_out s p)) → Both (Before numbered (taken_out s p) k j) (Before numbered s (keep s p k) (keep s p j))
before_keep empty p k j = absurd p
before_keep (one e) p k j = absurd k
before_keep (join m x y) (inl p) (inl k) (inl j) = before_keep x p k j
before_keep (join m x y) (inl p) (inl k) (inr j) = cross_as m (event_at numbered (taken_out x p) k) (event_at numbered y j) (event_at numbered x (keep x p k)) (event_at numbered y j) (at_keep x p k) refl
before_keep (join m x y) (inl p) (inr k) (inl j) = record { to = λ h. h; from = λ h. h }
before_keep (join m x y) (inl p) (inr k) (inr j) = record { to = λ h. h; from = λ h. h }
before_keep (join m x y) (inr p) (inl k) (inl j) = record { to = λ h. h; from = λ h. h }
before_keep (join m x y) (inr p) (inl k) (inr j) = cross_as m (event_at numbered x k) (event_at numbered (taken_out y p) j) (event_at numbered x k) (event_at numbered y (keep y p j)) refl (at_keep y p j)
before_keep (join m x y) (inr p) (inr k) (inl j) = record { to = λ h. h; from = λ h. h }
before_keep (join m x y) (inr p) (inr k) (inr j) = before_keep y p k j
before_keep (bind x q) p k j = let b = before_keep x p k j in record {
  to = λ h. elim h [ inl a ↦ inl (b.to a) | inr a ↦ inr (sym tie ∙ a) ];
  from = λ h. elim h [ inl a ↦ inl (b.from a) | inr a ↦ inr (tie ∙ a) ];
}
  where
    tie : pairs q (event_at numbered (taken_out x p) k).number (event_at numbered (taken_out x p) j).number ≡ pairs q (event_at numbered x (keep x p k)).number (event_at numbered x (keep x p j)).number
    tie = ap (λ e. pairs q e.number (event_at numbered (taken_out x p) j).number) (at_keep x p k) ∙ ap (λ e. pairs q (event_at numbered x (keep x p k)).number e.number) (at_keep x p j)

data Sized {A : Type 0} : List A → ℕ → Type 0 where
  sized_none : Sized [] zero
  sized_more : {a : A} {l : List A} {n : ℕ} → Sized l n → Sized (a ∷ l) (suc n)

-- a list of positions without p, as positions of what is left
pull : (s : Shape) (p : Position s) (l : List (Position s)) (n : ℕ) → Sized l n → (Among p l → ⊥) → (k : List (Position (taken_out s p))) × (map (keep s p) k ≡ l) × Sized k n
pull s p [] _ sized_none h = ([], refl, sized_none)
pull s p (q ∷ l) _ (sized_more {n = n} z) h = let (k, e, y) = pull s p l n z (λ i. h (later i)) in put k e y (left_or s p q)
  where
    put : (k : List (Position (taken_out s p))) → map (keep s p) k ≡ l → Sized k n → (q ≡ p) ⊎ ((j : Position (taken_out s p)) × (keep s p j ≡ q)) → (k : List (Position (taken_out s p))) × (map (keep s p) k ≡ q ∷ l) × Sized k (suc n)
    put k e y (inl i) = absurd (h (at_head q p i))
      where
        at_head : (q p : Position s) → q ≡ p → Among p (q ∷ l)
        at_head q p i = rw i first
    put k e y (inr (j, i)) = (j ∷ k, ap (λ a. a ∷ map (keep s p) k) i ∙ ap (λ m. q ∷ m) e, sized_more y)

among_keep : (s : Shape) (p : Position s) (k : Position (taken_out s p)) (l : List (Position (taken_out s p))) → Among (keep s p k) (map (keep s p) l) → Among k l
among_keep s p k l h = let (j, e, i) = among_back (keep s p) l h in moved j k (keep_inj s p j k e) i
  where
    moved : (j k : Position (taken_out s p)) → j ≡ k → Among j l → Among k l
    moved j k e h = rw e at h

once_from : (s : Shape) (p : Position s) (l : List (Position (taken_out s p))) → Once (map (keep s p) l) → Once l
once_from s p [] h = tt
once_from s p (k ∷ l) (h, i) = (λ j. h (stands_map (keep s p) j), once_from s p l i)

once_into : (s : Shape) (p : Position s) (l : List (Position (taken_out s p))) → Once l → Once (map (keep s p) l)
once_into s p [] h = tt
once_into s p (k ∷ l) (h, i) = (λ j. h (among_keep s p k l j), once_into s p l i)

kept_from : (s : Shape) (p : Position s) (l : List (Position (taken_out s p))) → Kept (Before numbered s) (map (keep s p) l) → Kept (Before numbered (taken_out s p)) l
kept_from s p [] h = tt
kept_from s p (k ∷ l) (h, i) = (λ q j b. h (keep s p q) (stands_map (keep s p) j) ((before_keep s p q k).to b), kept_from s p l i)

kept_into : (s : Shape) (p : Position s) (l : List (Position (taken_out s p))) → Kept (Before numbered (taken_out s p)) l → Kept (Before numbered s) (map (keep s p) l)
kept_into s p [] h = tt
kept_into s p (k ∷ l) (h, i) = (λ q j b. let (a, e, m) = among_back (keep s p) (k ∷ l) j in h a m ((before_keep s p a k).from (moved (keep s p a) q e b)), kept_into s p l i)
  where
    moved : (a q : Position s) → a ≡ q → Before numbered s q (keep s p k) → Before numbered s a (keep s p k)
    moved a q e b = rw e b

labels_keep : (s : Shape) (p : Position s) (l : List (Position (taken_out s p))) → labels (taken_out s p) l ≡ labels s (map (keep s p) l)
labels_keep s p [] = refl
labels_keep s p (k ∷ l) = ap (λ e. e.label ∷ labels (taken_out s p) l) (at_keep s p k) ∙ ap (λ m. (event_at numbered s (keep s p k)).label ∷ m) (labels_keep s p l)

pub no_position : (s : Shape) → ((p : Position s) → ⊥) → HasNoEvent s
no_position empty h = tt
no_position (one e) h = h tt
no_position (join m x y) h = (no_position x (λ p. h (inl p)), no_position y (λ p. h (inr p)))
no_position (bind x q) h = no_position x h

position_none : (s : Shape) → HasNoEvent s → Position s → ⊥
position_none empty h p = p
position_none (one e) h p = h
position_none (join m x y) h (inl p) = position_none x h.0 p
position_none (join m x y) h (inr p) = position_none y h.1 p
position_none (bind x q) h p = position_none x h p

-- the rest of a linear order is one of what is left
linear_rest : (s : Shape) (p : Position s) (l : List (Position s)) → IsLinear (Before numbered s) (p ∷ l) → (k : List (Position (taken_out s p))) → map (keep s p) k ≡ l → IsLinear (Before numbered (taken_out s p)) k
linear_rest s p l h k e = record {
  every = λ j. among_keep s p j k (in_rest j (h.every (keep s p j)));
  once = once_from s p k (rw e h.once.1);
  kept = kept_from s p k (rw e h.kept.1);
}
  where
    behind : (q : Position s) → (q ≡ p → ⊥) → Among q (p ∷ l) → Among q l
    behind q n first = absurd (n refl)
    behind q n (later i) = i

    in_rest : (j : Position (taken_out s p)) → Among (keep s p j) (p ∷ l) → Among (keep s p j) (map (keep s p) k)
    in_rest j i = rw e (behind (keep s p j) (keep_not s p j) i)

fewer : {A : Type 0} {a : A} {l : List A} {n : ℕ} → Sized (a ∷ l) (suc n) → Sized l n
fewer (sized_more z) = z

runs_sized : (n : ℕ) (s : Shape) (l : List (Position s)) → Sized l n → IsLinear (Before numbered s) l → Runs s (labels s l)
runs_sized zero s [] y h = run_end (no_position s (λ p. elim (h.every p) [ ]))
runs_sized zero s (p ∷ l) y h = elim y [ ]
runs_sized (suc n) s [] y h = elim y [ ]
runs_sized (suc n) s (p ∷ l) z h =
    let (k, e, y) = pull s p l n (fewer z) h.once.0 in
    run_take (minimal_taken s p (λ q b. h.kept.0 q (h.every q) b)) (as_labels (labels (taken_out s p) k) (labels s l) (labels_keep s p k ∙ ap (labels s) e) (runs_sized n (taken_out s p) k y (linear_rest s p l h k e)))
  where
    as_labels : (a b : List ℕ) → a ≡ b → Runs (taken_out s p) a → Runs (taken_out s p) b
    as_labels a b e r = rw e at r

net_count : {A : Type 0} (l : List A) → (n : ℕ) × Sized l n
net_count [] = (zero, sized_none)
net_count (a ∷ l) = let (n, z) = net_count l in (suc n, sized_more z)

-- the labels of a linear order are a run
pub linear_runs : (s : Shape) (l : List (Position s)) → IsLinear (Before numbered s) l → Runs s (labels s l)
linear_runs s l h = runs_sized (net_count l).0 s l (net_count l).1 h

abbrev Arranged : Shape → List ℕ → Type 0
Arranged s a = (l : List (Position s)) × IsLinear (Before numbered s) l × (labels s l ≡ a)

-- and each run is one
runs_arranged : {s : Shape} {a : List ℕ} → Runs s a → Arranged s a
runs_arranged (run_end {s = s} h) = ([], record { every = λ p. absurd (position_none s h p); once = tt; kept = tt }, refl)
runs_arranged (run_take {s = s} {t = t} {e = e} {l = a} k r) = let (p, i, j, m) = taken_minimal k in add p i m (at_rest (taken_out s p) t j (runs_arranged r))
  where
    at_rest : (x t : Shape) → x ≡ t → Arranged t a → Arranged x a
    at_rest x t j h = rw j h

    add : (p : Position s) → event_at numbered s p ≡ e → IsMinimal s p → Arranged (taken_out s p) a → Arranged s (e.label ∷ a)
    add p i m (l, h, q) = (p ∷ map (keep s p) l, record { every = every; once = (λ n. gone l n, once_into s p l h.once); kept = (λ n b c. m n c, kept_into s p l h.kept) }, ap (λ c. c.label ∷ labels s (map (keep s p) l)) i ∙ ap (λ c. e.label ∷ c) (sym (labels_keep s p l) ∙ q))
      where
        gone : (l : List (Position (taken_out s p))) → Among p (map (keep s p) l) → ⊥
        gone l n = let (k, f, g) = among_back (keep s p) l n in keep_not s p k f

        every : (n : Position s) → Among n (p ∷ map (keep s p) l)
        every n = elim (left_or s p n) [ inl f ↦ at_head n f | inr (k, f) ↦ later (moved (keep s p k) n f (stands_map (keep s p) (h.every k))) ]
          where
            at_head : (n : Position s) → n ≡ p → Among n (p ∷ map (keep s p) l)
            at_head n f = rw f first

            moved : (b n : Position s) → b ≡ n → Among b (map (keep s p) l) → Among n (map (keep s p) l)
            moved b n f g = rw f at g

pub runs_linear : {s : Shape} {a : List ℕ} → Runs s a → IsLinearRun s a
runs_linear r = let (l, h, q) = runs_arranged r in record { order = l; linear = h; are = q }

labels_run : (s : Shape) (a b : List ℕ) → a ≡ b → Runs s a → Runs s b
labels_run s a b e r = rw e at r

pub linear_run : (s : Shape) (a : List ℕ) → IsLinearRun s a → Runs s a
linear_run s a h = labels_run s (labels s h.order) a h.are (linear_runs s h.order h.linear)
