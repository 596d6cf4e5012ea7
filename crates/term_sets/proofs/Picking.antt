-- The events that a word picks, and what is left of them without one.
use Rattle.std.specs.Prelude.{ℕ, zero, suc, ◌+◌, ◌*◌, ◌/◌, ◌%◌, ◌^◌, ◌<◌, ◌==◌, ◌⊎◌, Bool, true, false, List, [], ◌∷◌, ◌≡◌, slice_get, Some, refl}
use Rattle.std.proofs.Common.{ap, sym, ◌∙◌, subst, arith, inl, inr}
use Rattle.std.proofs.lemmas.Nat.Bits.{bit_at-suc, bit_at_lowest}
use native.Mathlib.Nat.{pow-suc}
use Rattle.msc_base.specs.Patterns.{par}
use Rattle.chart_term.specs.NormalForms.{NetPermits, flat, join_all, join_of}
use Rattle.chart_term.specs.Properties.{Each}
use Rattle.chart_term.specs.Terms.{TermEvent, Tree, Nil, Event, Join, Trees, items, more, none, trees}
use Rattle.chart_term.proofs.Lists.{items-trees}
use Rattle.term_laws.specs.Taking.{IsAfter, after_event, after_join, IsAfterJoin, first_part, later_part}
use Rattle.term_sets.specs.Subsets.{IsEvent, IsLeft, HasLabelled, pick, picked, spelled}

-- a word is twice its half, or one more
pub halves : (w : ℕ) → (h : ℕ) × ((w ≡ 2 * h) ⊎ (w ≡ 2 * h + 1))
halves w = (w / 2, parity (w % 2) refl)
  where
    parity : (b : ℕ) → w % 2 ≡ b → (w ≡ 2 * (w / 2)) ⊎ (w ≡ 2 * (w / 2) + 1)
    parity zero e = inl (omega (arith, e))
    parity (suc zero) e = inr (omega (arith, e))
    parity (suc (suc n)) e = absurd (omega (arith, e))

pub picked_even : (x : Tree) (xs : List Tree) (w h : ℕ) → w ≡ 2 * h → picked (x ∷ xs) w ≡ picked xs h
picked_even x xs w h e = let rest : w % 2 ≡ 0 = omega (arith, e) in let half : w / 2 ≡ h = omega (arith, e) in
    ap (λ (b : ℕ). pick (b == 1) x (picked xs (w / 2))) rest ∙ ap (picked xs) half

pub picked_odd : (x : Tree) (xs : List Tree) (w h : ℕ) → w ≡ 2 * h + 1 → picked (x ∷ xs) w ≡ x ∷ picked xs h
picked_odd x xs w h e = let rest : w % 2 ≡ 1 = omega (arith, e) in let half : w / 2 ≡ h = omega (arith, e) in
    ap (λ (b : ℕ). pick (b == 1) x (picked xs (w / 2))) rest ∙ ap (λ (v : ℕ). x ∷ picked xs v) half

-- the bits of a word are those of its half, and the lowest
pub half_bit : (w h b i : ℕ) → b < 2 → w ≡ 2 * h + b → (w / 2 ^ suc i) % 2 ≡ (h / 2 ^ i) % 2
half_bit w h b i l e = bit_at-suc w i ∙ ap (λ (v : ℕ). (v / 2 ^ i) % 2) half
  where
    half : w / 2 ≡ h
    half = omega (arith, e, l)

pub lowest_bit : (w : ℕ) → (w / 2 ^ 0) % 2 ≡ w % 2
lowest_bit w = bit_at_lowest w

each_pick : (P : Tree → Type 0) (b : Bool) (x : Tree) (xs : List Tree) → P x → Each P xs → Each P (pick b x xs)
each_pick P true x xs p h = (p, h)
each_pick P false x xs p h = h

pub each_picked : (P : Tree → Type 0) (xs : List Tree) (w : ℕ) → Each P xs → Each P (picked xs w)
each_picked P [] w h = tt
each_picked P (x ∷ xs) w h = each_pick P (w % 2 == 1) x (picked xs (w / 2)) h.0 (each_picked P xs (w / 2) h.1)

-- events are the parts that they are
pub flat_events : (xs : List Tree) → Each IsEvent xs → flat par xs ≡ xs
flat_events [] h = refl
flat_events (x ∷ xs) h = ap (λ (y : Tree). flat par (y ∷ xs)) h.0.1 ∙ (ap (λ (l : List Tree). Event h.0.0 ∷ l) (flat_events xs h.1) ∙ ap (λ (y : Tree). y ∷ xs) (sym h.0.1))

-- what is left of an event is nothing
taken_event : (k : NetPermits) {e f : TermEvent} {y : Tree} → IsAfter k (Event e) f y → (e ≡ f) × (y ≡ Nil)
taken_event k after_event = (refl, refl)

event_taken : (k : NetPermits) (x y : Tree) (e : TermEvent) → IsEvent x → IsAfter k x e y → (x ≡ Event e) × (y ≡ Nil)
event_taken k x y e i a = let t = taken_event k (subst (λ (z : Tree). IsAfter k z e y) i.1 a) in (i.1 ∙ ap Event t.0, t.1)

-- parts side by side are left as the events of a word
module _ (k : NetPermits) where
  -- an event of a word's was taken: the one of this index
  record IsPicked (xs : List Tree) (w : ℕ) (e : TermEvent) (ys : List Tree) : Type 0 where
    pub index : ℕ
    pub there : slice_get xs index ≡ Some (Event e)
    pub held : (w / 2 ^ index) % 2 ≡ 1
    pub rest : ℕ
    pub left : w ≡ rest + 2 ^ index
    pub are : flat par ys ≡ picked xs rest

  none_taken : {ys : List Tree} {e : TermEvent} → IsAfterJoin k par none e ys → ⊥
  none_taken a = elim a [ ]

  -- behind a first item, which the word has or not
  picked_behind : (x : Tree) (xs : List Tree) (w h b : ℕ) (e : TermEvent) (ys zs : List Tree) → b < 2 → w ≡ 2 * h + b
      → ((v : ℕ) → flat par ys ≡ picked xs v → flat par zs ≡ picked (x ∷ xs) (2 * v + b)) → IsPicked xs h e ys → IsPicked (x ∷ xs) w e zs
  picked_behind x xs w h b e ys zs l is f p = record {
    index = suc p.index;
    there = p.there;
    held = half_bit w h b p.index l is ∙ p.held;
    rest = 2 * p.rest + b;
    left = omega (arith, is, p.left, pow-suc 2 p.index);
    are = f p.rest p.are;
  }

  first_taken : (x : Tree) (xs : List Tree) (w h : ℕ) (e : TermEvent) (y : Tree) → Each IsEvent (x ∷ xs) → w ≡ 2 * h + 1 → IsAfter k x e y → IsPicked (x ∷ xs) w e (y ∷ items (trees (picked xs h)))
  first_taken x xs w h e y i is a = let t = event_taken k x y e i.0 a in record {
    index = 0;
    there = ap Some t.0;
    held = lowest_bit w ∙ omega (arith, is);
    rest = 2 * h;
    left = omega (arith, is);
    are = ap (λ (z : Tree). flat par (z ∷ items (trees (picked xs h)))) t.1 ∙ (ap (flat par) (items-trees (picked xs h)) ∙ (flat_events (picked xs h) (each_picked IsEvent xs h i.1) ∙ sym (picked_even x xs (2 * h) h refl)));
  }

  part_taken : (xs : List Tree) (w : ℕ) (e : TermEvent) (ys : List Tree) → Each IsEvent xs → IsAfterJoin k par (trees (picked xs w)) e ys → IsPicked xs w e ys
  part_taken [] w e ys i a = absurd (none_taken a)
  part_taken (x ∷ xs) w e ys i a = elim (halves w).1 [
    | inl is ↦ picked_behind x xs w (halves w).0 0 e ys ys (omega arith) (omega (arith, is)) (λ v f. f ∙ sym (picked_even x xs (2 * v + 0) v (omega arith)))
        (part_taken xs (halves w).0 e ys i.1 (subst (λ (l : List Tree). IsAfterJoin k par (trees l) e ys) (picked_even x xs w (halves w).0 is) a))
    | inr is ↦ or_later w (halves w).0 is (λ zs b. part_taken xs (halves w).0 e zs i.1 b) ys (subst (λ (l : List Tree). IsAfterJoin k par (trees l) e ys) (picked_odd x xs w (halves w).0 is) a)
  ]
    where
      flat_first : (zs : List Tree) (v : ℕ) → flat par zs ≡ picked xs v → flat par (x ∷ zs) ≡ picked (x ∷ xs) (2 * v + 1)
      flat_first zs v f = ap (λ (y : Tree). flat par (y ∷ zs)) i.0.1 ∙ (ap (λ (l : List Tree). Event i.0.0 ∷ l) f ∙ (ap (λ (y : Tree). y ∷ picked xs v) (sym i.0.1) ∙ sym (picked_odd x xs (2 * v + 1) v refl)))

      or_later : (w h : ℕ) → w ≡ 2 * h + 1 → ((zs : List Tree) → IsAfterJoin k par (trees (picked xs h)) e zs → IsPicked xs h e zs) → (ys : List Tree) → IsAfterJoin k par (more x (trees (picked xs h))) e ys → IsPicked (x ∷ xs) w e ys
      or_later w h is f ys (first_part {y = y} b) = first_taken x xs w h e y i is b
      or_later w h is f ys (later_part {x' = z} {ys = zs} s b) = picked_behind x xs w h 1 e zs (z ∷ zs) (omega arith) is (λ v g. ap (λ (y : Tree). flat par (y ∷ zs)) s ∙ flat_first zs v g) (f zs b)

  -- such an event can be taken
  record Takes (xs : List Tree) (w v : ℕ) (e : TermEvent) : Type 0 where
    pub parts_left : List Tree
    pub taken : IsAfterJoin k par (trees (picked xs w)) e parts_left
    pub are : flat par parts_left ≡ picked xs v

  event_leaves : (x : Tree) (e : TermEvent) → x ≡ Event e → IsAfter k x e Nil
  event_leaves x e q = subst (λ (y : Tree). IsAfter k y e Nil) (sym q) after_event

  taken_first : (x : Tree) (xs : List Tree) (w v h : ℕ) (e : TermEvent) → Each IsEvent xs → x ≡ Event e → w ≡ 2 * h + 1 → v ≡ 2 * h → Takes (x ∷ xs) w v e
  taken_first x xs w v h e i q is half = record {
    parts_left = Nil ∷ items (trees (picked xs h));
    taken = subst (λ (l : List Tree). IsAfterJoin k par (trees l) e (Nil ∷ items (trees (picked xs h)))) (sym (picked_odd x xs w h is)) (first_part (event_leaves x e q));
    are = ap (flat par) (items-trees (picked xs h)) ∙ (flat_events (picked xs h) (each_picked IsEvent xs h i) ∙ sym (picked_even x xs v h half));
  }

  taken_past : (x : Tree) (xs : List Tree) (w v h u : ℕ) (e : TermEvent) → IsEvent x → w ≡ 2 * h + 1 → v ≡ 2 * u + 1 → Takes xs h u e → Takes (x ∷ xs) w v e
  taken_past x xs w v h u e i is half t = record {
    parts_left = x ∷ t.parts_left;
    taken = subst (λ (l : List Tree). IsAfterJoin k par (trees l) e (x ∷ t.parts_left)) (sym (picked_odd x xs w h is)) (later_part refl t.taken);
    are = ap (λ (y : Tree). flat par (y ∷ t.parts_left)) i.1 ∙ (ap (λ (l : List Tree). Event i.0 ∷ l) t.are ∙ (ap (λ (y : Tree). y ∷ picked xs u) (sym i.1) ∙ sym (picked_odd x xs v u half)));
  }

  taken_over : (x : Tree) (xs : List Tree) (w v h u : ℕ) (e : TermEvent) → w ≡ 2 * h → v ≡ 2 * u → Takes xs h u e → Takes (x ∷ xs) w v e
  taken_over x xs w v h u e is half t = record {
    parts_left = t.parts_left;
    taken = subst (λ (l : List Tree). IsAfterJoin k par (trees l) e t.parts_left) (sym (picked_even x xs w h is)) t.taken;
    are = t.are ∙ sym (picked_even x xs v u half);
  }

  part_takes : (xs : List Tree) (w v i : ℕ) (e : TermEvent) → Each IsEvent xs → slice_get xs i ≡ Some (Event e) → (w / 2 ^ i) % 2 ≡ 1 → w ≡ v + 2 ^ i → Takes xs w v e
  part_takes [] w v i e h there held left = cc
  part_takes (x ∷ xs) w v zero e h there held left =
      let odd : w % 2 ≡ 1 = sym (lowest_bit w) ∙ held in
      taken_first x xs w v (w / 2) e h.1 (same there) (omega (arith, odd)) (omega (arith, odd, left))
    where
      same : Some x ≡ Some (Event e) → x ≡ Event e
      same q = cc
  part_takes (x ∷ xs) w v (suc i) e h there held left = elim (halves w).1 [
    | inl is ↦
        let rest : v ≡ 2 * (v / 2) = omega (arith, left, is, pow-suc 2 i) in
        taken_over x xs w v (halves w).0 (v / 2) e is rest
        (part_takes xs (halves w).0 (v / 2) i e h.1 there (sym (half_bit w (halves w).0 0 i (omega arith) (omega (arith, is))) ∙ held) (omega (arith, left, is, rest, pow-suc 2 i)))
    | inr is ↦
        let rest : v ≡ 2 * (v / 2) + 1 = omega (arith, left, is, pow-suc 2 i) in
        taken_past x xs w v (halves w).0 (v / 2) e h.0 is rest
        (part_takes xs (halves w).0 (v / 2) i e h.1 there (sym (half_bit w (halves w).0 1 i (omega arith) is) ∙ held) (omega (arith, left, is, rest, pow-suc 2 i)))
  ]

  -- events side by side are taken as the parts of a join, one of them alone too
  joined : (es ys : List Tree) (e : TermEvent) → Each IsEvent es → IsAfterJoin k par (trees es) e ys → IsAfter k (join_of par es) e (join_all par ys)
  joined [] ys e h a = absurd (none_taken a)
  joined (x ∷ []) ys e h a = alone ys a
    where
      alone : (ys : List Tree) → IsAfterJoin k par (more x none) e ys → IsAfter k x e (join_all par ys)
      alone ys (first_part {y = y} b) = let t = event_taken k x y e h.0 b in subst (λ (z : Tree). IsAfter k x e (join_all par (z ∷ []))) (sym t.1) (event_leaves x e t.0)
      alone ys (later_part s b) = absurd (none_taken b)
  joined (x ∷ z ∷ es) ys e h a = after_join a

  record IsJoined (es : List Tree) (e : TermEvent) (y : Tree) : Type 0 where
    pub parts_left : List Tree
    pub taken : IsAfterJoin k par (trees es) e parts_left
    pub is : y ≡ join_all par parts_left

  nothing_taken : {e : TermEvent} {y : Tree} → IsAfter k Nil e y → ⊥
  nothing_taken a = elim a [ ]

  parted : {xs : Trees} {e : TermEvent} {y : Tree} → IsAfter k (Join par xs) e y → (ys : List Tree) × IsAfterJoin k par xs e ys × (y ≡ join_all par ys)
  parted (after_join {ys = ys} a) = (ys, a, refl)

  taken_apart : (es : List Tree) (e : TermEvent) (y : Tree) → Each IsEvent es → IsAfter k (join_of par es) e y → IsJoined es e y
  taken_apart [] e y h a = absurd (nothing_taken a)
  taken_apart (x ∷ []) e y h a = let t = event_taken k x y e h.0 a in record {
    parts_left = Nil ∷ [];
    taken = first_part (event_leaves x e t.0);
    is = t.1;
  }
  taken_apart (x ∷ z ∷ es) e y h a = let t = parted a in record { parts_left = t.0; taken = t.1; is = t.2 }

  -- what is left of a word's events after one of a label: those of the word without it
  pub record IsPickedLeft (a : ℕ) (events : List Tree) (w : ℕ) (y : Tree) : Type 0 where
    pub index : ℕ
    pub labelled : HasLabelled events a index
    pub held : (w / 2 ^ index) % 2 ≡ 1
    pub rest : ℕ
    pub left : w ≡ rest + 2 ^ index
    pub is : y ≡ spelled events rest

  pub left_picked : (a : ℕ) (events : List Tree) (w : ℕ) (y : Tree) → Each IsEvent events → IsLeft k a (spelled events w) y → IsPickedLeft a events w y
  left_picked a events w y h l =
      let j = taken_apart (picked events w) l.event y (each_picked IsEvent events w h) l.after in
      let p = part_taken events w l.event j.parts_left h j.taken in
      record {
        index = p.index;
        labelled = (Event l.event, p.there, (l.event, refl, l.labelled));
        held = p.held;
        rest = p.rest;
        left = p.left;
        is = j.is ∙ ap (join_of par) p.are;
      }

  pub picked_left : (a : ℕ) (events : List Tree) (w v i : ℕ) → Each IsEvent events → HasLabelled events a i → (w / 2 ^ i) % 2 ≡ 1 → w ≡ v + 2 ^ i → IsLeft k a (spelled events w) (spelled events v)
  picked_left a events w v i h l held left =
      let e = l.2.0 in
      let there : slice_get events i ≡ Some (Event e) = l.1 ∙ ap Some l.2.1 in
      let t = part_takes events w v i e h there held left in
      record {
        event = e;
        labelled = l.2.2;
        after = subst (λ (y : Tree). IsAfter k (spelled events w) e y) (ap (join_of par) t.are) (joined (picked events w) t.parts_left e (each_picked IsEvent events w h) t.taken);
      }
