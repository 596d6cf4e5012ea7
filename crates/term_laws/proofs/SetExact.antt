-- The computed set of residual terms is exact.
use Rattle.std.specs.Prelude.{ℕ, ◌≤◌, Bool, true, false, List, [], ◌∷◌, ◌≡◌, ◌⊎◌, ◌==◌, refl}
use Rattle.std.proofs.Common.{ap, sym, ◌∙◌, arith, inl, inr}
use Rattle.std.proofs.lemmas.Bool.{eqb-true, eq-eqb}
use Rattle.chart_term.specs.Equality.{same_tree}
use Rattle.chart_term.specs.NormalForms.{NetPermits, unless_same, without, distinct}
use Rattle.chart_term.specs.Properties.{Each}
use Rattle.chart_term.specs.Tables.{Tables}
use Rattle.chart_term.specs.Terms.{TermEvent, Tree}
use Rattle.chart_term.proofs.Equal.{tree_is}
use Rattle.term_laws.specs.Listing.{Taken, after_list, labelled_one, labelled, all_after, next_set, residual_set, IsDeepEnough, AreDeepAlong, ResidualSetIsExact}
use Rattle.msc_base.specs.Lists.{IsAmong}
use Rattle.list_facts.proofs.Members.{among_either, among_left, among_right}
use Rattle.term_laws.specs.Normality.{AreDifferent}
use Rattle.term_laws.specs.Permission.{permits_of}
use Rattle.term_laws.specs.Residuals.{IsResidual, res_none, res_more}
use Rattle.term_laws.specs.Taking.{IsAfter}
use Rattle.term_laws.proofs.ListingExact.{list_sound, list_whole}
use Rattle.term_laws.proofs.Normalising.{are_different}
use Rattle.term_laws.proofs.TermSentences.{net_rank, kept_rank}
use Rattle.term_laws.proofs.TidyTables.{nets_good}
use Rattle.term_laws.proofs.Ranking.{rank}
use Rattle.term_laws.specs.Soundness.{AreTidyTables}

-- each term once
unless_from : (t : Bool) (x y : Tree) (ys : List Tree) → IsAmong (unless_same t x ys) y → IsAmong (x ∷ ys) y
unless_from true x y ys h = inr h
unless_from false x y ys h = h

without_from : (x y : Tree) (ys : List Tree) → IsAmong (without x ys) y → IsAmong ys y
without_from x y [] h = h
without_from x y (z ∷ ys) h = elim (unless_from (same_tree x z) z y (without x ys) h) [ inl e ↦ inl e | inr i ↦ inr (without_from x y ys i) ]

pub distinct_from : (y : Tree) (xs : List Tree) → IsAmong (distinct xs) y → IsAmong xs y
distinct_from y [] h = h
distinct_from y (x ∷ xs) (inl e) = inl e
distinct_from y (x ∷ xs) (inr h) = inr (distinct_from y xs (without_from x y (distinct xs) h))

unless_in : (t : Bool) (x z y : Tree) (ys : List Tree) → same_tree x z ≡ t → y ≡ z → (y ≡ x) ⊎ IsAmong (unless_same t z ys) y
unless_in true x z y ys e q = inl (q ∙ sym (tree_is x z e))
unless_in false x z y ys e q = inr (inl q)

unless_later : (t : Bool) (z y : Tree) (ys : List Tree) → IsAmong ys y → IsAmong (unless_same t z ys) y
unless_later true z y ys h = h
unless_later false z y ys h = inr h

without_in : (x y : Tree) (ys : List Tree) → IsAmong ys y → (y ≡ x) ⊎ IsAmong (without x ys) y
without_in x y [] h = absurd h
without_in x y (z ∷ ys) (inl e) = unless_in (same_tree x z) x z y (without x ys) refl e
without_in x y (z ∷ ys) (inr h) = elim (without_in x y ys h) [ inl e ↦ inl e | inr i ↦ inr (unless_later (same_tree x z) z y (without x ys) i) ]

pub distinct_in : (y : Tree) (xs : List Tree) → IsAmong xs y → IsAmong (distinct xs) y
distinct_in y [] h = h
distinct_in y (x ∷ xs) (inl e) = inl e
distinct_in y (x ∷ xs) (inr h) = without_in x y (distinct xs) (distinct_in y xs h)

-- those of a label
labelled_from : (a : ℕ) (y : Tree) (ps : List Taken) → IsAmong (labelled a ps) y → (t : Taken) × IsAmong ps t × (t.event.label ≡ a) × (t.term ≡ y)
labelled_from a y [] h = absurd h
labelled_from a y (p ∷ ps) h = go (p.event.label == a) refl h (labelled_from a y ps)
  where
    later : (t : Taken) × IsAmong ps t × (t.event.label ≡ a) × (t.term ≡ y) → (t : Taken) × IsAmong (p ∷ ps) t × (t.event.label ≡ a) × (t.term ≡ y)
    later r = (r.0, inr r.1, r.2, r.3)

    go : (b : Bool) → (p.event.label == a) ≡ b → IsAmong (labelled_one b p.term (labelled a ps)) y → (IsAmong (labelled a ps) y → (t : Taken) × IsAmong ps t × (t.event.label ≡ a) × (t.term ≡ y)) → (t : Taken) × IsAmong (p ∷ ps) t × (t.event.label ≡ a) × (t.term ≡ y)
    go true e (inl q) f = (p, inl refl, eqb-true p.event.label a e, sym q)
    go true e (inr h) f = later (f h)
    go false e h f = later (f h)

labelled_in : (a : ℕ) (t : Taken) (ps : List Taken) → IsAmong ps t → t.event.label ≡ a → IsAmong (labelled a ps) t.term
labelled_in a t [] h e = absurd h
labelled_in a t (p ∷ ps) (inl q) e = put (p.event.label == a) (eq-eqb p.event.label a (ap (λ s. s.event.label) (sym q) ∙ e))
  where
    put : (b : Bool) → b ≡ true → IsAmong (labelled_one b p.term (labelled a ps)) t.term
    put b s = rw s (inl (ap (λ s. s.term) q))
labelled_in a t (p ∷ ps) (inr h) e = past (p.event.label == a) (labelled_in a t ps h e)
  where
    past : (b : Bool) → IsAmong (labelled a ps) t.term → IsAmong (labelled_one b p.term (labelled a ps)) t.term
    past true i = inr i
    past false i = i

module _ (w : Tables) (n : ℕ) where
  abbrev k : NetPermits
  k = permits_of w

  after_from : (a : ℕ) (y : Tree) (xs : List Tree) → IsAmong (all_after n k a xs) y → (x : Tree) × IsAmong xs x × (t : Taken) × IsAmong (after_list n k x) t × (t.event.label ≡ a) × (t.term ≡ y)
  after_from a y [] h = absurd h
  after_from a y (x ∷ xs) h = elim (among_either (labelled a (after_list n k x)) (all_after n k a xs) y h) [ inl i ↦ here (labelled_from a y (after_list n k x) i) | inr i ↦ later (after_from a y xs i) ]
    where
      here : (t : Taken) × IsAmong (after_list n k x) t × (t.event.label ≡ a) × (t.term ≡ y) → (z : Tree) × IsAmong (x ∷ xs) z × (t : Taken) × IsAmong (after_list n k z) t × (t.event.label ≡ a) × (t.term ≡ y)
      here r = (x, inl refl, r.0, r.1, r.2, r.3)

      later : (z : Tree) × IsAmong xs z × (t : Taken) × IsAmong (after_list n k z) t × (t.event.label ≡ a) × (t.term ≡ y) → (z : Tree) × IsAmong (x ∷ xs) z × (t : Taken) × IsAmong (after_list n k z) t × (t.event.label ≡ a) × (t.term ≡ y)
      later r = (r.0, inr r.1, r.2, r.3, r.4, r.5)

  after_in : (a : ℕ) (x : Tree) (xs : List Tree) → IsAmong xs x → (t : Taken) → IsAmong (after_list n k x) t → t.event.label ≡ a → IsAmong (all_after n k a xs) t.term
  after_in a x [] h t i e = absurd h
  after_in a x (z ∷ xs) (inl q) t i e = among_left (labelled a (after_list n k z)) (all_after n k a xs) t.term (labelled_in a t (after_list n k z) (moved z x (sym q) i) e)
    where
      moved : (z x : Tree) → z ≡ x → IsAmong (after_list n k x) t → IsAmong (after_list n k z) t
      moved z x q i = rw q i
  after_in a x (z ∷ xs) (inr h) t i e = among_right (labelled a (after_list n k z)) (all_after n k a xs) t.term (after_in a x xs h t i e)

  res_at : (a : ℕ) (x z : Tree) (l : List ℕ) (t : Taken) (y : Tree) → t.event.label ≡ a → t.term ≡ y → IsAfter k x t.event t.term → IsResidual k y l z → IsResidual k x (a ∷ l) z
  res_at a x z l t y q p h r = label_at t.event.label a q (res_more {z = z} h (from_term t.term y p r))
    where
      from_term : (s y : Tree) → s ≡ y → IsResidual k y l z → IsResidual k s l z
      from_term s y p r = rw p r

      label_at : (b a : ℕ) → b ≡ a → IsResidual k x (b ∷ l) z → IsResidual k x (a ∷ l) z
      label_at b a q r = rw q at r

  pub set_sound : (l : List ℕ) (xs : List Tree) (z : Tree) → IsAmong (residual_set n k xs l) z → (x : Tree) × IsAmong xs x × IsResidual k x l z
  set_sound [] xs z h = (z, h, res_none)
  set_sound (a ∷ l) xs z h =
      let i = set_sound l (next_set n k a xs) z h in
      let j = after_from a i.0 xs (distinct_from i.0 (all_after n k a xs) i.1) in
      (j.0, j.1, res_at a j.0 z l j.2 i.0 j.4 j.5 (list_sound k n j.0 j.2 j.3) i.2)

  residual_cut : (x z : Tree) (a : ℕ) (l : List ℕ) → IsResidual k x (a ∷ l) z → (e : TermEvent) × (y : Tree) × (e.label ≡ a) × IsAfter k x e y × IsResidual k y l z
  residual_cut x z a l (res_more {y = y} {e = e} h r) = (e, y, refl, h, r)

  residual_stop : (x z : Tree) → IsResidual k x [] z → x ≡ z
  residual_stop x z res_none = refl

  each_at : (xs : List Tree) (x : Tree) → Each (λ y. IsDeepEnough w y n) xs → IsAmong xs x → IsDeepEnough w x n
  each_at [] x h i = absurd i
  each_at (y ∷ xs) x h (inl e) = moved y x (sym e) h.0
    where
      moved : (y x : Tree) → y ≡ x → IsDeepEnough w y n → IsDeepEnough w x n
      moved y x e h = rw e at h
  each_at (y ∷ xs) x h (inr i) = each_at xs x h.1 i

  moved_to : (x z : Tree) (xs : List Tree) → x ≡ z → IsAmong xs x → IsAmong xs z
  moved_to x z xs e h = rw e at h

  pub set_whole : (l : List ℕ) (xs : List Tree) → AreDeepAlong w n xs l → (x z : Tree) → IsAmong xs x → IsResidual k x l z → IsAmong (residual_set n k xs l) z
  set_whole [] xs d x z i r = moved_to x z xs (residual_stop x z r) i
  set_whole (a ∷ l) xs d x z i r =
      let (e, y, q, h, s) = residual_cut x z a l r in
      let m = (each_at xs x d.0 i).whole n (omega arith) e y h in
      set_whole l (next_set n k a xs) d.1 y z (distinct_in y (all_after n k a xs) (after_in a x xs i (record { event = e; term = y }) m q)) s

  pub different : (l : List ℕ) (xs : List Tree) → AreDifferent xs → AreDifferent (residual_set n k xs l)
  different [] xs h = h
  different (a ∷ l) xs h = different l (next_set n k a xs) (are_different (all_after n k a xs))

  pub alone : (x y : Tree) (l : List ℕ) (z : Tree) → IsAmong (x ∷ []) y → IsResidual k y l z → IsResidual k x l z
  alone x y l z (inl e) r = rw (sym e) r
  alone x y l z (inr h) r = absurd h

pub residual_set_is_exact : ResidualSetIsExact
residual_set_is_exact = record {
  set = λ w n x l d. record {
    different = different w n l (x ∷ []) (tt, tt);
    exact = λ z. record {
      to = λ h. let i = set_sound w n l (x ∷ []) z h in alone w n x i.0 l z i.1 i.2;
      from = λ r. set_whole w n l (x ∷ []) d x z (inl refl) r;
    };
  };
}

-- a depth of the term's rank is enough
pub deep_at : (w : Tables) → AreTidyTables w → (n : ℕ) (x : Tree) → rank (net_rank w) x ≤ n → IsDeepEnough w x n
deep_at w h n x l = record { whole = λ m j e y a. list_whole (permits_of w) (net_rank w) (kept_rank true w h) ((nets_good true w h).known) m x y e (omega arith) a }
