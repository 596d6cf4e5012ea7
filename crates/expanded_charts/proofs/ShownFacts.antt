-- What events still show, by both kinds of tags.
use Rattle.std.proofs.Common.{◌≡◌, ◌∙◌, ℕ, Bool, true, false, List, [], ◌∷◌, ◌++◌, Option, Some, None, refl, ap, map}
use Rattle.std.specs.Option.{option_copied}
use Rattle.msc_base.specs.declared.label.Pair.{Pair}
use Rattle.msc_unfolding.specs.Unfoldings.{Tag, Own, Via, On, past_level}
use Rattle.msc_tree.specs.declared.reference.Join.{Join}
use Rattle.msc_meaning.specs.Calls.{Call, is_called, passed_to}
use Rattle.msc_meaning.specs.Ties.{called_tag, past_inline, past_reference, via_list}
use Rattle.expanded_charts.specs.Above.{above_view}
use Rattle.expanded_charts.specs.Expanding.{Shown, past_shown}
use Rattle.expanded_charts.specs.ShownGates.{gate_and, gates_in, own_and, own_numbers}
use Rattle.expanded_charts.specs.declared.above.Above.{Above}
use Rattle.expanded_charts.specs.declared.above.Above.TheVariants.{Level, Inline, Reference}

own_before : (m : ℕ) (a : Tag) (ps rs : List Pair) → own_and m a (ps ++ rs) ≡ own_and m a ps ++ rs
own_before m (Own k) ps rs = refl
own_before m (Via g) ps rs = refl
own_before m (On y g) ps rs = refl

pub own_both : (sh th : Shown) → own_numbers (sh ++ th) ≡ own_numbers sh ++ own_numbers th
own_both [] th = refl
own_both (p ∷ sh) th = ap (own_and p.0 p.1) (own_both sh th) ∙ own_before p.0 p.1 (own_numbers sh) (own_numbers th)

gate_before : (m : ℕ) (a : Tag) (sh th : Shown) → gate_and m a (sh ++ th) ≡ gate_and m a sh ++ th
gate_before m (Own k) sh th = refl
gate_before m (Via g) sh th = refl
gate_before m (On y g) sh th = refl

pub gates_both : (sh th : Shown) → gates_in (sh ++ th) ≡ gates_in sh ++ gates_in th
gates_both [] th = refl
gates_both (p ∷ sh) th = ap (gate_and p.0 p.1) (gates_both sh th) ∙ gate_before p.0 p.1 (gates_in sh) (gates_in th)

-- ---- above a part

abbrev with_number : ℕ → List Tag → Shown
with_number m as_ = map (λ a. (m, a)) as_

-- these are gates
pub record AreGates (as_ : List Tag) : Type 0 where
  pub own : (m : ℕ) → own_numbers (with_number m as_) ≡ []
  pub gates : (m : ℕ) → gates_in (with_number m as_) ≡ with_number m as_

-- what it makes of tags are gates, and nothing of own tags
pub record IsPast (f : Tag → List Tag) : Type 0 where
  pub own : (k : ℕ) → f (Own k) ≡ []
  pub gates : (a : Tag) → AreGates (f a)

module _ (f : Tag → List Tag) (past : IsPast f) where
  pub own_past : (sh : Shown) → own_numbers (past_shown f sh) ≡ []
  own_past [] = refl
  own_past (p ∷ sh) = own_both (with_number p.0 (f p.1)) (past_shown f sh) ∙ (ap (λ l. l ++ own_numbers (past_shown f sh)) ((past.gates p.1).own p.0) ∙ own_past sh)

  gate_past : (m : ℕ) (a : Tag) (sh : Shown) → with_number m (f a) ++ past_shown f sh ≡ past_shown f (gate_and m a sh)
  gate_past m (Own k) sh = ap (λ l. with_number m l ++ past_shown f sh) (past.own k)
  gate_past m (Via g) sh = refl
  gate_past m (On y g) sh = refl

  pub gates_past : (sh : Shown) → gates_in (past_shown f sh) ≡ past_shown f (gates_in sh)
  gates_past [] = refl
  gates_past (p ∷ sh) =
      gates_both (with_number p.0 (f p.1)) (past_shown f sh)
      ∙ (ap (λ l. l ++ gates_in (past_shown f sh)) ((past.gates p.1).gates p.0) ∙ (ap (λ l. with_number p.0 (f p.1) ++ l) (gates_past sh) ∙ gate_past p.0 p.1 (gates_in sh)))

pub no_gates : AreGates []
no_gates = record { own = λ m. refl; gates = λ m. refl }

pub one_gate : (g : List ℕ) → AreGates (Via g ∷ [])
one_gate g = record { own = λ m. refl; gates = λ m. refl }

via_gates : (o : Option (List ℕ)) → AreGates (via_list o)
via_gates None = no_gates
via_gates (Some h) = one_gate h

called_gates : (b : Bool) (name : Option (List ℕ)) (g : List ℕ) (others : List Tag) → AreGates others → AreGates (called_tag b name g others)
called_gates true (Some name) g others are = record { own = λ m. refl; gates = λ m. refl }
called_gates true None g others are = are
called_gates false (Some name) g others are = are
called_gates false None g others are = are

level_past : IsPast past_level
level_past = record { own = λ k. refl; gates = gates }
  where
    gates : (a : Tag) → AreGates (past_level a)
    gates (Own k) = no_gates
    gates (Via g) = one_gate g
    gates (On y g) = no_gates

inline_past : (cs : List Call) (name : Option (List ℕ)) → IsPast (past_inline cs name)
inline_past cs name = record { own = λ k. refl; gates = gates }
  where
    gates : (a : Tag) → AreGates (past_inline cs name a)
    gates (Own k) = no_gates
    gates (Via g) = called_gates (is_called cs name g) name g (Via g ∷ []) (one_gate g)
    gates (On y g) = no_gates

reference_past : (cs : List Call) (name : Option (List ℕ)) (joins : List Join) → IsPast (past_reference cs name joins)
reference_past cs name joins = record { own = λ k. refl; gates = gates }
  where
    gates : (a : Tag) → AreGates (past_reference cs name joins a)
    gates (Own k) = no_gates
    gates (Via g) = called_gates (is_called cs name g) name g (via_list (passed_to joins g)) (via_gates (passed_to joins g))
    gates (On y g) = no_gates

pub above_past : (above : Above) → IsPast (above_view above)
above_past Level = level_past
above_past (Inline called name) = inline_past called.now.calls (option_copied name)
above_past (Reference called name joins) = reference_past called.now.calls (option_copied name) joins.now
