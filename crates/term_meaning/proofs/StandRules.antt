-- The rules of standing for another pattern: one for each constructor, other events that agree, and one after another.
use Rattle.std.specs.Prelude.{Bool, ◌≡◌, ◌⊎◌, refl}
use Rattle.std.proofs.Common.{ap, sym, ◌∙◌, inl, inr}
use Rattle.msc_base.specs.Patterns.{Mode, seq, par, Pattern, empty, one, join, bind, Position, Reading, event_at, Crosses, Before}
use Rattle.chart_term.specs.TermPatterns.{Both}
use Rattle.term_meaning.specs.Standings.{Stands}

abbrev pub each : {A B C D : Type 0} → (A → C) → (B → D) → A ⊎ B → C ⊎ D
each f g (inl a) = inl (f a)
each f g (inr b) = inr (g b)

module _ {E Q F R : Type 0} (r : Reading E Q) (p : Reading F R) where
  pub stands_empty : (Same : E → F → Type 0) → Stands r p Same empty empty
  stands_empty Same = record { to = λ i. i; from = λ i. i; back = λ i. refl; forth = λ i. refl; event = λ i. absurd i; keeps = λ i j h. h; gives = λ i j h. h }

  pub stands_one : (Same : E → F → Type 0) (e : E) (f : F) → Same e f → Stands r p Same (one e) (one f)
  stands_one Same e f h = record { to = λ i. i; from = λ i. i; back = λ i. refl; forth = λ i. refl; event = λ i. h; keeps = λ i j k. k; gives = λ i j k. k }

  -- the same events meet the same events
  module _ (Same : E → F → Type 0) (meet : (a b : E) (c d : F) → Same a c → Same b d → r.meets a b ≡ p.meets c d) where
    pub stands_join : (m : Mode) (x y : Pattern E Q) (s v : Pattern F R) → Stands r p Same x s → Stands r p Same y v → Stands r p Same (join m x y) (join m s v)
    stands_join m x y s v f g = record { to = each f.to g.to; from = each f.from g.from; back = back; forth = forth; event = event; keeps = keeps; gives = gives }
      where
        back : (i : Position x ⊎ Position y) → each f.from g.from (each f.to g.to i) ≡ i
        back (inl i) = ap inl (f.back i)
        back (inr i) = ap inr (g.back i)

        forth : (i : Position s ⊎ Position v) → each f.to g.to (each f.from g.from i) ≡ i
        forth (inl i) = ap inl (f.forth i)
        forth (inr i) = ap inr (g.forth i)

        event : (i : Position x ⊎ Position y) → Same (event_at r (join m x y) i) (event_at p (join m s v) (each f.to g.to i))
        event (inl i) = f.event i
        event (inr i) = g.event i

        cross : (m : Mode) (a b : E) (c d : F) → Same a c → Same b d → Both (Crosses r m a b) (Crosses p m c d)
        cross seq a b c d h k = record { to = λ i. sym (meet a b c d h k) ∙ i; from = λ i. meet a b c d h k ∙ i }
        cross par a b c d h k = record { to = λ i. i; from = λ i. i }

        keeps : (i j : Position x ⊎ Position y) → Before r (join m x y) i j → Before p (join m s v) (each f.to g.to i) (each f.to g.to j)
        keeps (inl i) (inl j) h = f.keeps i j h
        keeps (inl i) (inr j) h = (cross m (event_at r x i) (event_at r y j) (event_at p s (f.to i)) (event_at p v (g.to j)) (f.event i) (g.event j)).to h
        keeps (inr i) (inl j) h = h
        keeps (inr i) (inr j) h = g.keeps i j h

        gives : (i j : Position x ⊎ Position y) → Before p (join m s v) (each f.to g.to i) (each f.to g.to j) → Before r (join m x y) i j
        gives (inl i) (inl j) h = f.gives i j h
        gives (inl i) (inr j) h = (cross m (event_at r x i) (event_at r y j) (event_at p s (f.to i)) (event_at p v (g.to j)) (f.event i) (g.event j)).from h
        gives (inr i) (inl j) h = h
        gives (inr i) (inr j) h = g.gives i j h

  -- events below the tie that are the same are the same above it, and both ties say the same of them
  pub stands_bind : (In Out : E → F → Type 0) (q : Q) (t : R)
      → ((e : E) (f : F) → In e f → Out (r.carries q e) (p.carries t f))
      → ((a b : E) (c d : F) → In a c → In b d → r.adds q a b ≡ p.adds t c d)
      → (x : Pattern E Q) (s : Pattern F R) → Stands r p In x s → Stands r p Out (bind x q) (bind s t)
  stands_bind In Out q t up tie x s f = record {
    to = f.to;
    from = f.from;
    back = f.back;
    forth = f.forth;
    event = λ i. up (event_at r x i) (event_at p s (f.to i)) (f.event i);
    keeps = λ i j b. elim b [ inl a ↦ inl (f.keeps i j a) | inr a ↦ inr (sym (ties i j) ∙ a) ];
    gives = λ i j b. elim b [ inl a ↦ inl (f.gives i j a) | inr a ↦ inr (ties i j ∙ a) ];
  }
    where
      ties : (i j : Position x) → r.adds q (event_at r x i) (event_at r x j) ≡ p.adds t (event_at p s (f.to i)) (event_at p s (f.to j))
      ties i j = tie (event_at r x i) (event_at r x j) (event_at p s (f.to i)) (event_at p s (f.to j)) (f.event i) (f.event j)

  -- a tie of the other pattern that adds no pair
  pub stands_pass : (In Out : E → F → Type 0) (t : R)
      → ((e : E) (f : F) → In e f → Out e (p.carries t f))
      → ((c d : F) → p.adds t c d ≡ Rattle.std.specs.Prelude.false)
      → (x : Pattern E Q) (s : Pattern F R) → Stands r p In x s → Stands r p Out x (bind s t)
  stands_pass In Out t up none x s f = record {
    to = f.to;
    from = f.from;
    back = f.back;
    forth = f.forth;
    event = λ i. up (event_at r x i) (event_at p s (f.to i)) (f.event i);
    keeps = λ i j b. inl (f.keeps i j b);
    gives = λ i j b. elim b [ inl a ↦ f.gives i j a | inr a ↦ absurd (clash (p.adds t (event_at p s (f.to i)) (event_at p s (f.to j))) (none (event_at p s (f.to i)) (event_at p s (f.to j))) a) ];
  }
    where
      clash : (b : Bool) → b ≡ Rattle.std.specs.Prelude.false → b ≡ Rattle.std.specs.Prelude.true → ⊥
      clash b h k = cc

  -- what more is known of the events at the positions
  pub stands_as : (In Out : E → F → Type 0) (x : Pattern E Q) (s : Pattern F R)
      → ((i : Position x) (f : F) → In (event_at r x i) f → Out (event_at r x i) f)
      → Stands r p In x s → Stands r p Out x s
  stands_as In Out x s more f = record {
    to = f.to;
    from = f.from;
    back = f.back;
    forth = f.forth;
    event = λ i. more i (event_at p s (f.to i)) (f.event i);
    keeps = f.keeps;
    gives = f.gives;
  }

-- one after another
pub stands_on : {E Q F R G S : Type 0} (r : Reading E Q) (p : Reading F R) (t : Reading G S) (A : E → F → Type 0) (B : F → G → Type 0) (C : E → G → Type 0)
    → ((e : E) (f : F) (g : G) → A e f → B f g → C e g)
    → (x : Pattern E Q) (y : Pattern F R) (z : Pattern G S) → Stands r p A x y → Stands p t B y z → Stands r t C x z
stands_on r p t A B C mix x y z f g = record {
  to = λ i. g.to (f.to i);
  from = λ i. f.from (g.from i);
  back = λ i. ap f.from (g.back (f.to i)) ∙ f.back i;
  forth = λ i. ap g.to (f.forth (g.from i)) ∙ g.forth i;
  event = λ i. mix (event_at r x i) (event_at p y (f.to i)) (event_at t z (g.to (f.to i))) (f.event i) (g.event (f.to i));
  keeps = λ i j h. g.keeps (f.to i) (f.to j) (f.keeps i j h);
  gives = λ i j h. f.gives i j (g.gives (f.to i) (f.to j) h);
}

-- the other way round
pub stands_back : {E Q F R : Type 0} (r : Reading E Q) (p : Reading F R) (A : E → F → Type 0) (B : F → E → Type 0)
    → ((e : E) (f : F) → A e f → B f e)
    → (x : Pattern E Q) (y : Pattern F R) → Stands r p A x y → Stands p r B y x
stands_back {E} {Q} {F} {R} r p A B turn x y f = record {
  to = f.from;
  from = f.to;
  back = f.forth;
  forth = f.back;
  event = λ i. turn (event_at r x (f.from i)) (event_at p y i) (there (event_at r x (f.from i)) (event_at p y (f.to (f.from i))) (event_at p y i) (ap (event_at p y) (f.forth i)) (f.event (f.from i)));
  keeps = λ i j h. f.gives (f.from i) (f.from j) (moved (f.to (f.from i)) i (f.to (f.from j)) j (f.forth i) (f.forth j) h);
  gives = λ i j h. moved_on (f.to (f.from i)) i (f.to (f.from j)) j (f.forth i) (f.forth j) (f.keeps (f.from i) (f.from j) h);
}
  where
    there : (a : E) (c d : F) → c ≡ d → A a c → A a d
    there a c d e h = rw e at h

    moved : (a i b j : Position y) → a ≡ i → b ≡ j → Before p y i j → Before p y a b
    moved a i b j e k h = rw (e, k) h

    moved_on : (a i b j : Position y) → a ≡ i → b ≡ j → Before p y a b → Before p y i j
    moved_on a i b j e k h = rw (e, k) at h
