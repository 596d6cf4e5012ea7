-- Same patterns let the same events go.
use Rattle.std.specs.Prelude.{ℕ, Bool, true, false, List, [], ◌∷◌, ◌≡◌, Option, Some, None, ◌||◌, ◌&&◌, ◌==◌, refl}
use Rattle.std.proofs.Common.{ap, sym, ◌∙◌, inl, inr, arith}
use Rattle.std.proofs.lemmas.Bool.Decides.{nat_tests}
use Rattle.msc_base.specs.Patterns.{Mode, seq, par, empty, one, join, bind}
use Rattle.chart_term.specs.TermPatterns.{Shape, Avoids, Lets, instances_of, put_if, before_in, earlier, Takes, take_one, take_first, take_later, take_bind, Occurs, pairs, Agree, ◌≈◌, same, back, on, in_join, in_bind, assoc, left, right, bind_none, bind_as, Both}
use Rattle.chart_term.specs.Terms.{TermEvent, Block, hits, has, has_some}

pub avoids : {x y : Shape} (b : Block) → x ≈ y → Both (Avoids b x) (Avoids b y)
avoids b same = record { to = λ h. h; from = λ h. h }
avoids b (back p) = let r = avoids b p in record { to = r.from; from = r.to }
avoids b (on p q) = let r = avoids b p in let s = avoids b q in record { to = λ h. s.to (r.to h); from = λ h. r.from (s.from h) }
avoids b (in_join p q) = let r = avoids b p in let s = avoids b q in record { to = λ h. (r.to h.0, s.to h.1); from = λ h. (r.from h.0, s.from h.1) }
avoids b (in_bind p) = let r = avoids b p in record { to = r.to; from = r.from }
avoids b assoc = record { to = λ h. (h.0.0, (h.0.1, h.1)); from = λ h. ((h.0, h.1.0), h.1.1) }
avoids b left = record { to = λ h. h.1; from = λ h. (tt, h) }
avoids b right = record { to = λ h. h.0; from = λ h. (h, tt) }
avoids b bind_none = record { to = λ h. h; from = λ h. h }
avoids b (bind_as a) = record { to = λ h. h; from = λ h. h }

pub lets : {x y : Shape} (m : Mode) (e : TermEvent) → x ≈ y → Lets m e x → Lets m e y
lets seq e p h = (avoids (instances_of e) p).to h
lets par e p h = tt

lets_empty : (m : Mode) (e : TermEvent) → Lets m e empty
lets_empty seq e = tt
lets_empty par e = tt

lets_both : (m : Mode) (e : TermEvent) (x y : Shape) → Lets m e x → Lets m e y → Lets m e (join m x y)
lets_both seq e x y h k = (h, k)
lets_both par e x y h k = tt

lets_first : (m : Mode) (e : TermEvent) (x y : Shape) → Lets m e (join m x y) → Lets m e x
lets_first seq e x y h = h.0
lets_first par e x y h = tt

lets_second : (m : Mode) (e : TermEvent) (x y : Shape) → Lets m e (join m x y) → Lets m e y
lets_second seq e x y h = h.1
lets_second par e x y h = tt

-- the event that was taken occurs in the pattern
pub taken_occurs : {x x' : Shape} {e : TermEvent} → Takes x e x' → Occurs e.number x
taken_occurs take_one = refl
taken_occurs (take_first t) = inl (taken_occurs t)
taken_occurs (take_later a t) = inr (taken_occurs t)
taken_occurs (take_bind t a) = taken_occurs t

-- what is left occurred before
pub left_occurs : {x x' : Shape} {e : TermEvent} (n : ℕ) → Takes x e x' → Occurs n x' → Occurs n x
left_occurs n take_one h = absurd h
left_occurs n (take_first t) (inl p) = inl (left_occurs n t p)
left_occurs n (take_first t) (inr p) = inr p
left_occurs n (take_later a t) (inl p) = inl p
left_occurs n (take_later a t) (inr p) = inr (left_occurs n t p)
left_occurs n (take_bind t a) h = left_occurs n t h

has_put : (m k : ℕ) (b : Bool) (ns : List ℕ) → has (put_if b k ns) m ≡ (((m == k) && b) || has ns m)
has_put m k true ns = grind (arith, nat_tests)
has_put m k false ns = grind (arith, nat_tests)

has_before : (q : List (ℕ × ℕ)) (m n : ℕ) → has (before_in q n) m ≡ pairs q m n
has_before [] m n = refl
has_before (p ∷ q) m n = has_put m p.0 (n == p.1) (before_in q n) ∙ ap (λ b. ((m == p.0) && (n == p.1)) || b) (has_before q m n)

no_instance : (o : Option ℕ) → has_some [] o ≡ false
no_instance None = refl
no_instance (Some n) = refl

pub hits_earlier : (q : List (ℕ × ℕ)) (e f : TermEvent) → hits (earlier q e) f ≡ pairs q f.number e.number
hits_earlier q e f = ap (λ b. b || has (before_in q e.number) f.number) (no_instance f.also) ∙ has_before q f.number e.number

-- pairs that agree keep the same events back
agree_avoids : (q r : List (ℕ × ℕ)) (e : TermEvent) (y : Shape)
    → ((n : ℕ) → Occurs n y → pairs q n e.number ≡ pairs r n e.number)
    → Avoids (earlier q e) y → Avoids (earlier r e) y
agree_avoids q r e empty g h = tt
agree_avoids q r e (one f) g h = hits_earlier r e f ∙ (sym (g f.number refl) ∙ (sym (hits_earlier q e f) ∙ h))
agree_avoids q r e (join m x y) g h = (agree_avoids q r e x (λ n p. g n (inl p)) h.0, agree_avoids q r e y (λ n p. g n (inr p)) h.1)
agree_avoids q r e (bind x p) g h = agree_avoids q r e x g h

agree_back : (q r : List (ℕ × ℕ)) (x : Shape) → Agree q r x → Agree r q x
agree_back q r x a m n p s = sym (a m n p s)

no_pairs : (e : TermEvent) (y : Shape) → Avoids (earlier [] e) y
no_pairs e empty = tt
no_pairs e (one f) = ap (λ b. b || false) (no_instance f.also)
no_pairs e (join m x y) = (no_pairs e x, no_pairs e y)
no_pairs e (bind x q) = no_pairs e x

-- what avoids a block avoids it when an event is gone
pub avoids_left : {x x' : Shape} {e : TermEvent} (b : Block) → Takes x e x' → Avoids b x → Avoids b x'
avoids_left b take_one h = tt
avoids_left b (take_first t) h = (avoids_left b t h.0, h.1)
avoids_left b (take_later p t) h = (h.0, avoids_left b t h.1)
avoids_left b (take_bind t p) h = avoids_left b t h

-- and before, where the event avoids it too
pub avoids_before : {x x' : Shape} {e : TermEvent} (b : Block) → Takes x e x' → hits b e ≡ false → Avoids b x' → Avoids b x
avoids_before b take_one g h = g
avoids_before b (take_first t) g h = (avoids_before b t g h.0, h.1)
avoids_before b (take_later p t) g h = (h.0, avoids_before b t g h.1)
avoids_before b (take_bind t p) g h = avoids_before b t g h

-- what the first can do, the second can
abbrev pub Follows : Shape → Shape → Type 0
Follows x y = (e : TermEvent) (x' : Shape) → Takes x e x' → (y' : Shape) × Takes y e y' × (x' ≈ y')

step_bind : {q r : List (ℕ × ℕ)} {x x' : Shape} {e : TermEvent} → Agree q r x → Takes x e x' → Avoids (earlier q e) x → (y' : Shape) × Takes (bind x r) e y' × (bind x' q ≈ y')
step_bind {q} {r} {x} {x'} {e} a t h =
    (bind x' r, take_bind t (agree_avoids q r e x (λ n p. a n e.number p (taken_occurs t)) h), bind_as (λ m n p s. a m n (left_occurs m t p) (left_occurs n t s)))

follows_join : {m : Mode} {x x' y y' : Shape} → Follows x x' → Follows y y' → x ≈ x' → y ≈ y' → Follows (join m x y) (join m x' y')
follows_join {m} f g p q e z (take_first t) = let r = f e _ t in (join m r.0 _, take_first r.1, in_join r.2 q)
follows_join {m} f g p q e z (take_later h t) = let r = g e _ t in (join m _ r.0, take_later (lets m e p h) r.1, in_join p r.2)

follows_bind : {x x' : Shape} {q : List (ℕ × ℕ)} → Follows x x' → x ≈ x' → Follows (bind x q) (bind x' q)
follows_bind {q = q} f p e z (take_bind t h) = let r = f e _ t in (bind r.0 q, take_bind r.1 ((avoids (earlier q e) p).to h), in_bind r.2)

follows_on : {x y z : Shape} → Follows x y → Follows y z → Follows x z
follows_on f g e x' t = let r = f e x' t in let s = g e r.0 r.1 in (s.0, s.1, on r.2 s.2)

assoc_to : {m : Mode} {x y z : Shape} → Follows (join m (join m x y) z) (join m x (join m y z))
assoc_to e w (take_first (take_first t)) = (_, take_first t, assoc)
assoc_to e w (take_first (take_later h t)) = (_, take_later h (take_first t), assoc)
assoc_to {m} {x} {y} e w (take_later h t) = (_, take_later (lets_first m e x y h) (take_later (lets_second m e x y h) t), assoc)

assoc_from : {m : Mode} {x y z : Shape} → Follows (join m x (join m y z)) (join m (join m x y) z)
assoc_from e w (take_first t) = (_, take_first (take_first t), back assoc)
assoc_from e w (take_later h (take_first t)) = (_, take_first (take_later h t), back assoc)
assoc_from {m} {x} {y} e w (take_later h (take_later k t)) = (_, take_later (lets_both m e x y h k) t, back assoc)

left_to : {m : Mode} {x : Shape} → Follows (join m empty x) x
left_to e w (take_first t) = elim t [ ]
left_to e w (take_later h t) = (_, t, left)

right_to : {m : Mode} {x : Shape} → Follows (join m x empty) x
right_to e w (take_first t) = (_, t, right)
right_to e w (take_later h t) = elim t [ ]

bind_none_to : {x : Shape} → Follows (bind x []) x
bind_none_to e w (take_bind t h) = (_, t, bind_none)

bind_as_to : {x : Shape} {q r : List (ℕ × ℕ)} → Agree q r x → Follows (bind x q) (bind x r)
bind_as_to a e w (take_bind t h) = step_bind a t h

abbrev pub Each : Shape → Shape → Type 0
Each x y = Follows x y × Follows y x

pub follows : {x y : Shape} → x ≈ y → Each x y
follows same = (λ e z t. (z, t, same), λ e z t. (z, t, same))
follows (back p) = let r = follows p in (r.1, r.0)
follows (on p q) = let r = follows p in let s = follows q in (follows_on r.0 s.0, follows_on s.1 r.1)
follows (in_join p q) = let r = follows p in let s = follows q in (follows_join r.0 s.0 p q, follows_join r.1 s.1 (back p) (back q))
follows (in_bind p) = let r = follows p in (follows_bind r.0 p, follows_bind r.1 (back p))
follows assoc = (assoc_to, assoc_from)
follows (left {m = m}) = (left_to, λ e z t. (_, take_later (lets_empty m e) t, back left))
follows right = (right_to, λ e z t. (_, take_first t, back right))
follows (bind_none {x = x}) = (bind_none_to, λ e z t. (_, take_bind t (no_pairs e x), back bind_none))
follows (bind_as {x = x} {q = q} {r = r} a) = (bind_as_to a, bind_as_to (agree_back q r x a))
