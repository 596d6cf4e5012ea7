-- Back over a trail of sets: each term of a set comes from one of the set before it.
use Rattle.std.specs.Prelude.{ℕ, suc, ◌≡◌, List, [], ◌∷◌, Some, true, drop, length, reverse, slice_get, refl}
use Rattle.std.proofs.Common.{ap, sym, ◌∙◌, subst, arith, inl, inr}
use Rattle.std.proofs.lemmas.Option.{slice_get_within}
use Rattle.chart_term.specs.Tables.{Tables}
use Rattle.chart_term.specs.Terms.{Tree}
use Rattle.list_facts.proofs.Reading.{drop_end, drop_suc, some_at}
use Rattle.log_ways.proofs.Trailing.{label_at}
use Rattle.log_ways.specs.LogWays.{AreLabelled, IsLogWay}
use Rattle.log_ways.proofs.Stepped.{places_there, whole_way}
use Rattle.log_ways.specs.Stepping.{AreKnown, AreThere, ComesFrom, IsBack, IsEnding, LeaveOnly, steps_at}
use Rattle.log_ways.specs.Trails.{IsTrail}
use Rattle.log_ways.specs.declared.log_way.Back.{Back}
use Rattle.log_ways.specs.declared.terms.Found.{Found}
use Rattle.msc_base.specs.Lists.{IsAmong}
use Rattle.term_sets.specs.Memories.{set_at}
use Rattle.term_tables.specs.NetValues.{NetsValue}

pub comes_from : (v : NetsValue) (sets : List (List Tree)) (x : Tree) (ns trail : List ℕ) → IsTrail v sets x ns trail → AreLabelled v.labels ns → (i n s t : ℕ) → slice_get ns i ≡ Some n → slice_get trail i ≡ Some s → slice_get trail (suc i) ≡ Some t
    → (goal : Tree) → IsAmong (set_at sets t) goal → ComesFrom v.tables n (set_at sets s) goal
comes_from v sets x ns trail h l i n s t p q r goal j =
    let (a, is) = label_at v.labels l.0 ns i n l.1 p in
    let from = ((h.next i n s t p q r n refl a is).exact goal).to j in
    let e : Some from.left.event.label ≡ Some n = sym from.left.labelled ∙ is in
    record { term = from.term; among = from.held; event = from.left.event; labelled = cc; after = from.left.after }

-- the numbers from an index on, with the one before it
pub numbers_back : (ns : List ℕ) (i j n : ℕ) → slice_get ns i ≡ Some n → suc i ≡ j → drop i ns ≡ n ∷ drop j ns
numbers_back ns i j n p e = drop_suc ns i n p ∙ ap (λ (k : ℕ). n ∷ drop k ns) e

-- the first set has the whole term alone
pub first_goal : (v : NetsValue) (sets : List (List Tree)) (x : Tree) (ns trail : List ℕ) → IsTrail v sets x ns trail → (s : ℕ) → slice_get trail 0 ≡ Some s → (goal : Tree) → IsAmong (set_at sets s) goal → goal ≡ x
first_goal v sets x ns trail h s e goal j = elim (subst (λ (l : List Tree). IsAmong l goal) (h.start s e) j) [ inl q ↦ q | inr b ↦ absurd b ]

-- one step back, from the set of one index to that of the one before it
module _ (v : NetsValue) (sets : List (List Tree)) (x : Tree) (ns trail : List ℕ) (h : IsTrail v sets x ns trail) (labelled : AreLabelled v.labels ns) (at i n s : ℕ) (is : suc i ≡ at) (number : slice_get ns i ≡ Some n) (set : slice_get trail i ≡ Some s) (b : Back)
    (back : (t : ℕ) → slice_get trail at ≡ Some t → IsBack v.tables sets (set_at sets t) (drop at ns) b) where
  behind : (t : ℕ) × (slice_get trail at ≡ Some t)
  behind = some_at trail at (let l = h.long in let m = slice_get_within ns i n number in omega arith)

  behind_next : slice_get trail (suc i) ≡ Some behind.0
  behind_next = ap (slice_get trail) is ∙ behind.1

  pub back_known : AreKnown v.tables sets b.steps.known.items
  back_known = (back behind.0 behind.1).known

  pub back_comes : ComesFrom v.tables n (set_at sets s) b.goal.term
  back_comes = comes_from v sets x ns trail h labelled i n s behind.0 number set behind_next b.goal.term (back behind.0 behind.1).among

  pub back_alone : b.goal.alone ≡ true → LeaveOnly v.tables n (set_at sets s) b.goal.term
  back_alone e x j d l y t =
      let (a, named) = label_at v.labels labelled.0 ns i n labelled.1 number in
      let left = ((h.next i n s behind.0 number set behind_next n refl a named).exact y).from (record { term = x; held = j; left = record { event = d; labelled = named ∙ ap (λ (m : ℕ). Some m) (sym l); after = t } }) in
      (back behind.0 behind.1).alone e y left

  pub back_on : (new : Back) → ((terms : List Tree) (numbers : List ℕ) → IsBack v.tables sets terms numbers b → IsBack v.tables sets (set_at sets s) (n ∷ numbers) new) → (t : ℕ) → slice_get trail i ≡ Some t → IsBack v.tables sets (set_at sets t) (drop i ns) new
  back_on new f t e =
      let q : Some s ≡ Some t = sym set ∙ e in
      let r : s ≡ t = cc in
      subst (λ (k : ℕ). IsBack v.tables sets (set_at sets k) (drop i ns) new) r
      (subst (λ (l : List ℕ). IsBack v.tables sets (set_at sets s) l new) (sym (numbers_back ns i at n number is)) (f (set_at sets behind.0) (drop at ns) (back behind.0 behind.1)))

-- at the first set
module _ (v : NetsValue) (sets : List (List Tree)) (x : Tree) (ns trail : List ℕ) (h : IsTrail v sets x ns trail) (at : ℕ) (is : at ≡ 0) (b : Back) (back : (t : ℕ) → slice_get trail at ≡ Some t → IsBack v.tables sets (set_at sets t) (drop at ns) b) (ps : List ℕ) (places : ps ≡ reverse b.places.items) where
  first : (t : ℕ) × (slice_get trail 0 ≡ Some t)
  first = some_at trail 0 (let l = h.long in omega arith)

  first_back : IsBack v.tables sets (set_at sets first.0) ns b
  first_back = subst (λ (i : ℕ). IsBack v.tables sets (set_at sets first.0) (drop i ns) b) is (back first.0 (ap (slice_get trail) is ∙ first.1))

  pub back_there : AreThere b.steps.known.items ps
  back_there = places_there v.tables sets (set_at sets first.0) ns b ps first_back places

  pub back_whole : IsLogWay v.tables x ns (steps_at b.steps.known.items ps)
  back_whole = whole_way v.tables sets (set_at sets first.0) x ns b ps first_back (first_goal v sets x ns trail h first.0 first.1 b.goal.term first_back.among) places

-- behind the last set
pub back_begins : (v : NetsValue) (sets : List (List Tree)) (ns trail : List ℕ) (n : ℕ) → n ≡ length ns → (f : Found) (b : Back) → ((last : ℕ) → slice_get trail (length ns) ≡ Some last → IsEnding v.tables (set_at sets last) f)
    → ((w : Tables) (ks : List (List Tree)) (terms : List Tree) → IsEnding w terms f → IsBack w ks terms [] b) → (t : ℕ) → slice_get trail n ≡ Some t → IsBack v.tables sets (set_at sets t) (drop n ns) b
back_begins v sets ns trail n e f b found start t p =
    subst (λ (l : List ℕ). IsBack v.tables sets (set_at sets t) l b) (sym (drop_end ns n (λ l. omega arith)))
    (start v.tables sets (set_at sets t) (found t (ap (slice_get trail) (sym e) ∙ p)))
