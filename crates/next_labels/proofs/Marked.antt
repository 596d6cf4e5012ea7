-- Marks of the labels with which terms go on.
use Rattle.std.proofs.Common.{ℕ, zero, suc, ◌+◌, ◌<◌, ◌≤◌, ◌≡◌, ◌∙◌, ◌⊎◌, ◌↔◌, List, [], ◌∷◌, Some, length, slice_get, take, refl, sym, ap, subst, inl, inr, arith}
use Rattle.std.proofs.lemmas.Option.{slice_get_within, same_Some}
use Rattle.bit_sets.specs.NodeSets.{NodeSetValue}
use Rattle.list_facts.proofs.Members.{among_take, take_among}
use Rattle.msc_base.specs.Lists.{IsAmong, IsIn}
use Rattle.msc_base.specs.declared.label.Label.{Label}
use Rattle.chart_term.specs.Properties.{Each}
use Rattle.chart_term.specs.Terms.{Tree}
use Rattle.label_table.proofs.Numbering.{present}
use Rattle.term_tables.specs.NetValues.{NetsValue, label_number}
use Rattle.term_laws.specs.Permission.{permits_of}
use Rattle.term_laws.specs.Taking.{IsAfter}
use Rattle.term_firsts.specs.Firsts.{HaveFirst}
use Rattle.trace_judge.specs.Sets.{GoesOnWith, IsSoundFor}
use Rattle.next_labels.specs.Marks.{AreMarks, MarksMore}

-- ---- one label

abbrev pub Only : ℕ → ℕ → Type 0
Only number n = n ≡ number

pub same_marks : (v : NetsValue) (terms : List Tree) (number : ℕ) (m : NodeSetValue) → ((a : Label) → label_number v.labels a ≡ Some number → number < m.size → GoesOnWith v a terms → IsIn number m.nodes) → MarksMore v terms (Only number) m m
same_marks v terms number m told = record {
  size = refl;
  keeps = λ n i. i;
  sound = λ n i. inl i;
  whole = λ a n is e l g. subst (λ (k : ℕ). IsIn k m.nodes) (sym e) (told a (is ∙ ap Some e) (subst (λ (k : ℕ). k < m.size) e l) g);
}

pub one_marked : (v : NetsValue) (terms : List Tree) (number : ℕ) (old new : NodeSetValue) → new.size ≡ old.size → ((n : ℕ) → IsIn n new.nodes ↔ (IsIn n old.nodes ⊎ (n ≡ number)))
    → ((a : Label) → label_number v.labels a ≡ Some number → GoesOnWith v a terms) → MarksMore v terms (Only number) old new
one_marked v terms number old new size adds goes = record {
  size = size;
  keeps = λ n i. (adds n).1 (inl i);
  sound = λ n i. elim ((adds n).0 i) [ inl j ↦ inl j | inr e ↦ inr (λ a is. goes a (is ∙ ap Some e)) ];
  whole = λ a n is e l g. (adds n).1 (inr e);
}

-- ---- several labels

no_marks : (v : NetsValue) (terms : List Tree) (asked : ℕ → Type 0) (m : NodeSetValue) → ((n : ℕ) → asked n → ⊥) → MarksMore v terms asked m m
no_marks v terms asked m none = record { size = refl; keeps = λ n i. i; sound = λ n i. inl i; whole = λ a n is e l g. absurd (none n e) }

then_marked : (v : NetsValue) (terms : List Tree) (asked more both : ℕ → Type 0) (old mid new : NodeSetValue) → ((n : ℕ) → both n → asked n ⊎ more n) → MarksMore v terms asked old mid → MarksMore v terms more mid new → MarksMore v terms both old new
then_marked v terms asked more both old mid new split f g = record {
  size = g.size ∙ f.size;
  keeps = λ n i. g.keeps n (f.keeps n i);
  sound = λ n i. elim (g.sound n i) [ inl j ↦ f.sound n j | inr h ↦ inr h ];
  whole = λ a n is e l goes. elim (split n e) [ inl b ↦ g.keeps n (f.whole a n is b l goes) | inr b ↦ g.whole a n is b (subst (λ (k : ℕ). n < k) (sym f.size) l) goes ];
}

-- among the first of these numbers
pub record IsBefore (numbers : List ℕ) (most n : ℕ) : Type 0 where
  pub index : ℕ
  pub before : index < most
  pub there : slice_get numbers index ≡ Some n

at_last : (n i : ℕ) → i < n + 1 → (i < n) ⊎ (i ≡ n)
at_last zero zero h = inr refl
at_last zero (suc i) h = absurd (omega arith)
at_last (suc n) zero h = inl (omega arith)
at_last (suc n) (suc i) h = elim (at_last n i (omega arith)) [ inl l ↦ inl (omega arith) | inr e ↦ inr (ap suc e) ]

pub none_asked : (v : NetsValue) (terms : List Tree) (numbers : List ℕ) (m : NodeSetValue) → MarksMore v terms (IsBefore numbers 0) m m
none_asked v terms numbers m = no_marks v terms (IsBefore numbers 0) m (λ n b. let l = b.before in omega arith)

pub next_asked : (v : NetsValue) (terms : List Tree) (numbers : List ℕ) (most number : ℕ) (old mid new : NodeSetValue) → slice_get numbers most ≡ Some number → MarksMore v terms (IsBefore numbers most) old mid → MarksMore v terms (Only number) mid new → MarksMore v terms (IsBefore numbers (most + 1)) old new
next_asked v terms numbers most number old mid new is f g = then_marked v terms (IsBefore numbers most) (Only number) (IsBefore numbers (most + 1)) old mid new split f g
  where
    split : (n : ℕ) → IsBefore numbers (most + 1) n → IsBefore numbers most n ⊎ (n ≡ number)
    split n b = elim (at_last most b.index b.before) [
      | inl l ↦ inl (record { index = b.index; before = l; there = b.there })
      | inr e ↦ inr (same_Some n number (sym b.there ∙ ap (slice_get numbers) e ∙ is))
    ]

-- those that were asked, and one more
pub asked_more : (numbers : List ℕ) (most number : ℕ) (old new : NodeSetValue) → slice_get numbers most ≡ Some number → ((n : ℕ) → IsIn n old.nodes → IsBefore numbers most n) → ((n : ℕ) → IsIn n new.nodes ↔ (IsIn n old.nodes ⊎ (n ≡ number)))
    → (n : ℕ) → IsIn n new.nodes → IsBefore numbers (most + 1) n
asked_more numbers most number old new is before adds n i = elim ((adds n).0 i) [
  | inl j ↦ let b = before n j in let l = b.before in record { index = b.index; before = omega (arith, l); there = b.there }
  | inr e ↦ record { index = most; before = omega arith; there = is ∙ ap Some (sym e) }
]

among_index : (numbers : List ℕ) (n : ℕ) → IsAmong numbers n → (i : ℕ) × (slice_get numbers i ≡ Some n)
among_index [] n i = absurd i
among_index (m ∷ numbers) n (inl e) = (0, ap Some (sym e))
among_index (m ∷ numbers) n (inr i) = let r = among_index numbers n i in (suc r.0, r.1)

abbrev pub All : ℕ → Type 0
All n = Unit {0}

-- all labels of events that may come first were asked
pub all_asked : (v : NetsValue) (x : Tree) (numbers : List ℕ) (most : ℕ) (old new : NodeSetValue) → HaveFirst v.tables x numbers → length numbers ≤ most → MarksMore v (x ∷ []) (IsBefore numbers most) old new → MarksMore v (x ∷ []) All old new
all_asked v x numbers most old new firsts is h = record {
  size = h.size;
  keeps = h.keeps;
  sound = h.sound;
  whole = λ a n number t l g. h.whole a n number (asked a n number g) l g;
}
  where
    asked : (a : Label) (n : ℕ) → label_number v.labels a ≡ Some n → GoesOnWith v a (x ∷ []) → IsBefore numbers most n
    asked a n number g =
        let term : g.left.term ≡ x = elim g.left.held [ inl e ↦ e | inr b ↦ absurd b ] in
        let first = firsts g.left.left.event (g.term, subst (λ (z : Tree). IsAfter (permits_of v.tables) z g.left.left.event g.term) term g.left.left.after) in
        let same : g.left.left.event.label ≡ n = same_Some g.left.left.event.label n (sym g.left.left.labelled ∙ number) in
        let r = among_index numbers g.left.left.event.label first in
        let there : slice_get numbers r.0 ≡ Some n = r.1 ∙ ap Some same in
        record { index = r.0; before = (let w = slice_get_within numbers r.0 n there in omega (arith, w, is)); there = there }

-- ---- a list of terms

of_one : (v : NetsValue) (a : Label) (x : Tree) (terms : List Tree) → IsAmong terms x → GoesOnWith v a (x ∷ []) → GoesOnWith v a terms
of_one v a x terms i g = record { term = g.term; left = record { term = g.left.term; held = elim g.left.held [ inl e ↦ subst (λ (z : Tree). IsAmong terms z) (sym e) i | inr b ↦ absurd b ]; left = g.left.left } }

pub no_terms : (v : NetsValue) (terms : List Tree) (m : NodeSetValue) → m.size ≡ length v.labels → ((n : ℕ) → IsIn n m.nodes → ⊥) → AreMarks v (take 0 terms) m
no_terms v [] m size none = record { size = size; exact = λ a n is. record { to = λ i. absurd (none n i); from = λ g. absurd g.left.held } }
no_terms v (x ∷ terms) m size none = record { size = size; exact = λ a n is. record { to = λ i. absurd (none n i); from = λ g. absurd g.left.held } }

within : (v : NetsValue) (a : Label) (n : ℕ) → label_number v.labels a ≡ Some n → n < length v.labels
within v a n is = slice_get_within v.labels n a (present a v.labels n is)

pub next_term : (v : NetsValue) (terms : List Tree) (i : ℕ) (x : Tree) (old new : NodeSetValue) → slice_get terms i ≡ Some x → AreMarks v (take i terms) old → MarksMore v (x ∷ []) All old new → AreMarks v (take (i + 1) terms) new
next_term v terms i x old new is h m = record { size = m.size ∙ h.size; exact = λ a n number. record { to = to a n number; from = from a n number } }
  where
    later : (a : Label) → GoesOnWith v a (take i terms) → GoesOnWith v a (take (i + 1) terms)
    later a g = record { term = g.term; left = record { term = g.left.term; held = among_take terms i x g.left.term is (inr g.left.held); left = g.left.left } }

    to : (a : Label) (n : ℕ) → label_number v.labels a ≡ Some n → IsIn n new.nodes → GoesOnWith v a (take (i + 1) terms)
    to a n number j = elim (m.sound n j) [
      | inl k ↦ later a ((h.exact a n number).to k)
      | inr g ↦ of_one v a x (take (i + 1) terms) (among_take terms i x x is (inl refl)) (g a number)
    ]

    from : (a : Label) (n : ℕ) → label_number v.labels a ≡ Some n → GoesOnWith v a (take (i + 1) terms) → IsIn n new.nodes
    from a n number g = elim (take_among terms i x g.left.term is g.left.held) [
      | inl e ↦ m.whole a n number tt (let l = within v a n number in omega (arith, l, h.size)) (record { term = g.term; left = record { term = g.left.term; held = inl e; left = g.left.left } })
      | inr j ↦ m.keeps n ((h.exact a n number).from (record { term = g.term; left = record { term = g.left.term; held = j; left = g.left.left } }))
    ]

take_long : {A : Type 0} (xs : List A) (n : ℕ) → length xs ≤ n → take n xs ≡ xs
take_long [] zero l = refl
take_long [] (suc n) l = refl
take_long (x ∷ xs) zero l = absurd (omega arith)
take_long (x ∷ xs) (suc n) l = ap (λ ys. x ∷ ys) (take_long xs n (omega arith))

pub all_terms : (v : NetsValue) (terms : List Tree) (n : ℕ) (m : NodeSetValue) → length terms ≤ n → AreMarks v (take n terms) m → AreMarks v terms m
all_terms v terms n m l h = subst (λ (ts : List Tree). AreMarks v ts m) (take_long terms n l) h

pub each_sound : (v : NetsValue) (terms : List Tree) (i : ℕ) (x : Tree) → slice_get terms i ≡ Some x → Each (IsSoundFor v) terms → IsSoundFor v x
each_sound v [] i x is h = cc
each_sound v (y ∷ terms) zero x is h = let e : y ≡ x = cc in subst (IsSoundFor v) e h.0
each_sound v (y ∷ terms) (suc i) x is h = each_sound v terms i x is h.1

-- ---- a set that is asked for all labels

abbrev pub Below : ℕ → ℕ → Type 0
Below most n = n < most

pub none_below : (v : NetsValue) (terms : List Tree) (m : NodeSetValue) → MarksMore v terms (Below 0) m m
none_below v terms m = no_marks v terms (Below 0) m (λ n l. omega (arith, l))

pub next_below : (v : NetsValue) (terms : List Tree) (most : ℕ) (old mid new : NodeSetValue) → MarksMore v terms (Below most) old mid → MarksMore v terms (Only most) mid new → MarksMore v terms (Below (most + 1)) old new
next_below v terms most old mid new f g = then_marked v terms (Below most) (Only most) (Below (most + 1)) old mid new (at_last most) f g

pub all_below : (v : NetsValue) (terms : List Tree) (most : ℕ) (old new : NodeSetValue) → old.size ≡ length v.labels → length v.labels ≤ most → ((n : ℕ) → IsIn n old.nodes → ⊥) → MarksMore v terms (Below most) old new → AreMarks v terms new
all_below v terms most old new size is none m = record {
  size = m.size ∙ size;
  exact = λ a n number. record {
    to = λ i. elim (m.sound n i) [ inl j ↦ absurd (none n j) | inr g ↦ g a number ];
    from = λ g. m.whole a n number (let l = within v a n number in omega (arith, l, is)) (let l = within v a n number in omega (arith, l, size)) g;
  };
}

pub ruleset marking = (same_marks, one_marked, none_asked, next_asked, all_asked, no_terms, next_term, all_terms, each_sound, none_below, next_below, all_below)
