-- Patterns with other events at the same positions, which are read alike.
use Rattle.std.specs.Prelude.{◌≡◌, refl}
use Rattle.std.proofs.Common.{ap, ap₂, sym, ◌∙◌, inl, inr}
use Rattle.msc_base.specs.Patterns.{Mode, seq, par, Pattern, Position, Reading, event_at, Before, Crosses, empty, one, join, bind}
use Rattle.chart_term.specs.TermPatterns.{Both}

-- in place of each event what the function gives for its position
abbrev pub with_events : {E F Q : Type 0} → (p : Pattern E Q) → (Position p → E → F) → Pattern F Q
with_events empty f = empty
with_events (one e) f = one (f tt e)
with_events (join m x y) f = join m (with_events x (λ i. f (inl i))) (with_events y (λ i. f (inr i)))
with_events (bind x q) f = bind (with_events x f) q

module _ {E F Q : Type 0} where
  -- a position of the first pattern in the other, and back
  abbrev pub into : (p : Pattern E Q) (f : Position p → E → F) → Position p → Position (with_events p f)
  into empty f i = i
  into (one e) f i = i
  into (join m x y) f (inl i) = inl (into x (λ i. f (inl i)) i)
  into (join m x y) f (inr i) = inr (into y (λ i. f (inr i)) i)
  into (bind x q) f i = into x f i

  abbrev pub out_of : (p : Pattern E Q) (f : Position p → E → F) → Position (with_events p f) → Position p
  out_of empty f i = i
  out_of (one e) f i = i
  out_of (join m x y) f (inl i) = inl (out_of x (λ i. f (inl i)) i)
  out_of (join m x y) f (inr i) = inr (out_of y (λ i. f (inr i)) i)
  out_of (bind x q) f i = out_of x f i

  pub into_out : (p : Pattern E Q) (f : Position p → E → F) (i : Position (with_events p f)) → into p f (out_of p f i) ≡ i
  into_out empty f i = refl
  into_out (one e) f i = refl
  into_out (join m x y) f (inl i) = ap inl (into_out x (λ i. f (inl i)) i)
  into_out (join m x y) f (inr i) = ap inr (into_out y (λ i. f (inr i)) i)
  into_out (bind x q) f i = into_out x f i

  pub out_into : (p : Pattern E Q) (f : Position p → E → F) (i : Position p) → out_of p f (into p f i) ≡ i
  out_into empty f i = refl
  out_into (one e) f i = refl
  out_into (join m x y) f (inl i) = ap inl (out_into x (λ i. f (inl i)) i)
  out_into (join m x y) f (inr i) = ap inr (out_into y (λ i. f (inr i)) i)
  out_into (bind x q) f i = out_into x f i

  module _ (r : Reading E Q) (s : Reading F Q) where
    -- what the readings say of events they say of those in their place
    pub record IsAlike (P : Type 0) (f : P → E → F) : Type 0 where
      pub carries : (i : P) (q : Q) (d : E) → s.carries q (f i d) ≡ f i (r.carries q d)
      pub meets : (i j : P) (d e : E) → s.meets (f i d) (f j e) ≡ r.meets d e
      pub adds : (i j : P) (q : Q) (d e : E) → s.adds q (f i d) (f j e) ≡ r.adds q d e

    along : {P N : Type 0} (f : P → E → F) (g : N → P) → IsAlike P f → IsAlike N (λ i. f (g i))
    along f g a = record { carries = λ i. a.carries (g i); meets = λ i j. a.meets (g i) (g j); adds = λ i j. a.adds (g i) (g j) }

    pub event_out : (p : Pattern E Q) (f : Position p → E → F) → IsAlike (Position p) f → (i : Position (with_events p f)) → event_at s (with_events p f) i ≡ f (out_of p f i) (event_at r p (out_of p f i))
    event_out empty f a i = absurd i
    event_out (one e) f a i = refl
    event_out (join m x y) f a (inl i) = event_out x (λ i. f (inl i)) (along f (λ i. inl i) a) i
    event_out (join m x y) f a (inr i) = event_out y (λ i. f (inr i)) (along f (λ i. inr i) a) i
    event_out (bind x q) f a i = ap (s.carries q) (event_out x f a i) ∙ a.carries (out_of x f i) q (event_at r x (out_of x f i))

    crosses : (m : Mode) (b c : F) (d e : E) → s.meets b c ≡ r.meets d e → Both (Crosses s m b c) (Crosses r m d e)
    crosses seq b c d e h = record { to = λ k. sym h ∙ k; from = λ k. h ∙ k }
    crosses par b c d e h = record { to = λ k. k; from = λ k. k }

    pub before_out : (p : Pattern E Q) (f : Position p → E → F) → IsAlike (Position p) f → (i j : Position (with_events p f)) → Both (Before s (with_events p f) i j) (Before r p (out_of p f i) (out_of p f j))
    before_out empty f a i j = absurd i
    before_out (one e) f a i j = record { to = λ h. h; from = λ h. h }
    before_out (join m x y) f a (inl i) (inl j) = before_out x (λ i. f (inl i)) (along f (λ i. inl i) a) i j
    before_out (join m x y) f a (inl i) (inr j) =
        let g : Position x → E → F = λ i. f (inl i) in
        let h : Position y → E → F = λ i. f (inr i) in
        let d = event_at r x (out_of x g i) in
        let e = event_at r y (out_of y h j) in
        crosses m (event_at s (with_events x g) i) (event_at s (with_events y h) j) d e
        (ap₂ (λ b c. s.meets b c) (event_out x g (along f (λ i. inl i) a) i) (event_out y h (along f (λ i. inr i) a) j) ∙ a.meets (inl (out_of x g i)) (inr (out_of y h j)) d e)
    before_out (join m x y) f a (inr i) (inl j) = record { to = λ h. h; from = λ h. h }
    before_out (join m x y) f a (inr i) (inr j) = before_out y (λ i. f (inr i)) (along f (λ i. inr i) a) i j
    before_out (bind x q) f a i j =
        let b = before_out x f a i j in
        let d = event_at r x (out_of x f i) in
        let e = event_at r x (out_of x f j) in
        let g = ap₂ (λ b c. s.adds q b c) (event_out x f a i) (event_out x f a j) ∙ a.adds (out_of x f i) (out_of x f j) q d e in
        record { to = λ h. elim h [ inl k ↦ inl (b.to k) | inr k ↦ inr (sym g ∙ k) ]; from = λ h. elim h [ inl k ↦ inl (b.from k) | inr k ↦ inr (g ∙ k) ] }

    pub event_into : (p : Pattern E Q) (f : Position p → E → F) → IsAlike (Position p) f → (i : Position p) → event_at s (with_events p f) (into p f i) ≡ f i (event_at r p i)
    event_into p f a i = event_out p f a (into p f i) ∙ ap (λ j. f j (event_at r p j)) (out_into p f i)

    pub before_into : (p : Pattern E Q) (f : Position p → E → F) → IsAlike (Position p) f → (i j : Position p) → Before r p i j → Before s (with_events p f) (into p f i) (into p f j)
    before_into p f a i j h = (before_out p f a (into p f i) (into p f j)).from (rw (out_into p f i, out_into p f j) h)
