-- The steps back: each is made from one of the terms of a set, and those that are known stay so.
use Rattle.std.specs.Prelude.{ℕ, zero, suc, ◌+◌, ◌<◌, ◌≡◌, List, [], ◌∷◌, ◌++◌, Option, Some, length, slice_get, take, reverse, map, refl, true}
use Rattle.std.proofs.Common.{ap, sym, ◌∙◌, subst, arith, inl, inr, append-nil, get_or}
use Rattle.std.proofs.lemmas.Option.{slice_get_read}
use Rattle.std.proofs.lemmas.List.{reverse-append, take_all}
use Rattle.chart_term.specs.Tables.{Tables, terms_over}
use Rattle.chart_term.specs.TermRuns.{label_of}
use Rattle.chart_term.specs.Terms.{Tree}
use Rattle.chart_term.specs.Views.{event_of}
use Rattle.list_facts.proofs.Members.{among_snoc, at_among, take_among}
use Rattle.list_facts.proofs.Reading.{get_behind, some_at}
use Rattle.log_ways.specs.LogWays.{AreSteps, IsLogWay, events_of, last_term}
use Rattle.log_ways.specs.Stepping.{AreKnown, AreSame, AreThere, ComesFrom, Gains, IsAlone, IsBack, LeavesOnly, IsEnding, IsKnown, IsMade, IsNoted, IsPlaced, IsStepTo, and_step, steps_at}
use Rattle.log_ways.specs.declared.log_way.Back.{Back}
use Rattle.log_ways.specs.declared.steps.Known.{Known}
use Rattle.log_ways.specs.declared.steps.StepBack.{StepBack}
use Rattle.log_ways.specs.declared.terms.Found.{Found}
use Rattle.msc_base.specs.Lists.{IsAmong}
use Rattle.term_laws.specs.Taking.{MayEnd}
use Rattle.term_sets.specs.Memories.{set_at}
use Rattle.term_ways.specs.declared.way.Way.{Way}
use Rattle.term_ways.specs.Ways.{IsWay, LeavesNever}

-- ---- one step

pub none_more : (w : Tables) (label : ℕ) (goal : Tree) (terms : List Tree) (i : ℕ) (x : Tree) → slice_get terms i ≡ Some x → ((y : Tree) → IsAmong (take i terms) y → LeavesNever w label y goal) → LeavesNever w label x goal → (y : Tree) → IsAmong (take (i + 1) terms) y → LeavesNever w label y goal
none_more w label goal terms i x at h n y j = elim (take_among terms i x y at j) [
  | inl q ↦ subst (λ (z : Tree). LeavesNever w label z goal) (sym q) n
  | inr m ↦ h y m
]

pub none_comes : (w : Tables) (label : ℕ) (goal : Tree) (terms set : List Tree) (i : ℕ) → i ≡ length terms → ((y : Tree) → IsAmong (take i terms) y → LeavesNever w label y goal) → AreSame terms set → ComesFrom w label set goal → ⊥
none_comes w label goal terms set i e h s c =
    let there : IsAmong (take i terms) c.term = subst (λ (l : List Tree). IsAmong l c.term) (sym (take_all i terms (omega (arith, e)))) ((s c.term).from c.among) in
    h c.term there c.event c.labelled c.after

pub made : (w : Tables) (from label : ℕ) (set terms : List Tree) (goal : Tree) (i : ℕ) (x : Tree) (k : Known) → slice_get terms i ≡ Some x → AreSame terms set → IsWay w label x goal k.step.way → k.from ≡ from → k.label ≡ label → k.step.before ≡ x → k.step.after ≡ goal → IsMade w from label set goal k
made w from label set terms goal i x k at s h f l b a = record {
  from_is = f;
  label_is = l;
  step = record {
    after = a;
    among = subst (IsAmong set) (sym b) ((s x).to (at_among terms i x at));
    is_way = subst (λ (y : Tree). IsWay w label y k.step.after k.step.way) (sym b) (subst (λ (y : Tree). IsWay w label x y k.step.way) (sym a) h);
  };
}

-- what is left first is the goal, where nothing else is left
pub first_is_goal : (w : Tables) (label : ℕ) (x goal : Tree) (way : Way) → LeavesOnly w label x goal → (left : Tree) × IsWay w label x left way → IsWay w label x goal way
first_is_goal w label x goal way h l = subst (λ (y : Tree). IsWay w label x y way) (h (event_of way.taken.event) l.1.labelled l.0 l.1.after.after) l.1

-- ---- steps that are known

pub noted_placed : (w : Tables) (sets : List (List Tree)) (ks : List Known) (place from label : ℕ) (goal : Tree) → AreKnown w sets ks → IsNoted ks place from label goal → IsPlaced w label (set_at sets from) goal ks place
noted_placed w sets ks place from label goal h n =
    let k = h n.known (at_among ks place n.known n.there) in
    record {
      known = n.known;
      there = n.there;
      is_step = record {
        after = n.after;
        among = subst (λ (f : ℕ). IsAmong (set_at sets f) n.known.step.before) n.from_is k.among;
        is_way = subst (λ (l : ℕ). IsWay w l n.known.step.before n.known.step.after n.known.step.way) n.label_is k.is_way;
      };
    }

pub made_known : (w : Tables) (sets : List (List Tree)) (from label : ℕ) (goal : Tree) (k : Known) → IsMade w from label (set_at sets from) goal k → IsKnown w sets k
made_known w sets from label goal k m = record {
  after = refl;
  among = subst (λ (f : ℕ). IsAmong (set_at sets f) k.step.before) (sym m.from_is) m.step.among;
  is_way = subst (λ (l : ℕ). IsWay w l k.step.before k.step.after k.step.way) (sym m.label_is) m.step.is_way;
}

pub known_more : (w : Tables) (sets : List (List Tree)) (ks new : List Known) (k : Known) → AreKnown w sets ks → IsKnown w sets k → new ≡ ks ++ k ∷ [] → AreKnown w sets new
known_more w sets ks new k h i e q j = elim (among_snoc ks k q (subst (λ (l : List Known). IsAmong l q) e j)) [
  | inl m ↦ h q m
  | inr m ↦ subst (IsKnown w sets) (sym m) i
]

pub gains_none : (ks : List Known) → Gains ks ks
gains_none ks = ([], sym (append-nil ks))

pub gains_one : (ks new : List Known) (k : Known) → new ≡ ks ++ k ∷ [] → Gains ks new
gains_one ks new k e = (k ∷ [], e)

pub placed_made : (w : Tables) (from label : ℕ) (terms : List Tree) (goal : Tree) (k : Known) (new : List Known) (place : ℕ) → IsMade w from label terms goal k → slice_get new place ≡ Some k → IsPlaced w label terms goal new place
placed_made w from label terms goal k new place m e = record { known = k; there = e; is_step = m.step }

pub last_place : (ks new : List Known) (k : Known) (place : ℕ) → new ≡ ks ++ k ∷ [] → place ≡ length ks → slice_get new place ≡ Some k
last_place ks new k place e q = ap (λ (l : List Known). slice_get l place) e ∙ (ap (λ (p : ℕ). slice_get (ks ++ k ∷ []) p) q ∙ get_behind ks k [])

-- ---- steps by their places

there_within : (ks : List Known) (p : ℕ) (k : Known) → slice_get ks p ≡ Some k → p < length ks
there_within [] p k e = cc
there_within (j ∷ ks) zero k e = omega arith
there_within (j ∷ ks) (suc p) k e = omega (arith, there_within ks p k e)

long_both : (ks more : List Known) → length (ks ++ more) ≡ length ks + length more
long_both [] more = omega arith
long_both (k ∷ ks) more = omega (arith, long_both ks more)

same_get : (ks more : List Known) (p : ℕ) → p < length ks → slice_get (ks ++ more) p ≡ slice_get ks p
same_get [] more p l = absurd (omega arith)
same_get (k ∷ ks) more zero l = refl
same_get (k ∷ ks) more (suc p) l = same_get ks more p (omega (arith, l))

there_more : (ks more : List Known) (ps : List ℕ) → AreThere ks ps → AreThere (ks ++ more) ps
there_more ks more [] h = tt
there_more ks more (p ∷ ps) h = (omega (arith, h.0, long_both ks more), there_more ks more ps h.1)

steps_more : (ks more : List Known) (ps : List ℕ) → AreThere ks ps → steps_at (ks ++ more) ps ≡ steps_at ks ps
steps_more ks more [] h = refl
steps_more ks more (p ∷ ps) h = λ i. and_step (same_get ks more p h.0 i) (steps_more ks more ps h.1 i)

pub steps_long : (ks : List Known) (ps : List ℕ) → AreThere ks ps → length (steps_at ks ps) ≡ length ps
steps_long ks [] h = refl
steps_long ks (p ∷ ps) h =
    let (k, at) = some_at ks p h.0 in
    ap (λ (o : Option Known). length (and_step o (steps_at ks ps))) at ∙ ap suc (steps_long ks ps h.1)

pub place_there : (ks : List Known) (ps : List ℕ) (i p : ℕ) → AreThere ks ps → slice_get ps i ≡ Some p → p < length ks
place_there ks [] i p h e = cc
place_there ks (q ∷ ps) zero p h e = let m : q ≡ p = cc in subst (λ (r : ℕ). r < length ks) m h.0
place_there ks (q ∷ ps) (suc i) p h e = place_there ks ps i p h.1 e

pub step_there : (ks : List Known) (ps : List ℕ) (i p : ℕ) (k : Known) → AreThere ks ps → slice_get ps i ≡ Some p → slice_get ks p ≡ Some k → slice_get (steps_at ks ps) i ≡ Some k.step
step_there ks [] i p k h e g = cc
step_there ks (q ∷ ps) zero p k h e g =
    let m : q ≡ p = cc in
    let at : slice_get ks q ≡ Some k = ap (slice_get ks) m ∙ g in
    ap (λ (o : Option Known). slice_get (and_step o (steps_at ks ps)) 0) at
step_there ks (q ∷ ps) (suc i) p k h e g =
    let (j, at) = some_at ks q h.0 in
    ap (λ (o : Option Known). slice_get (and_step o (steps_at ks ps)) (suc i)) at ∙ step_there ks ps i p k h.1 e g

reverse_snoc : (ps : List ℕ) (p : ℕ) → reverse (ps ++ p ∷ []) ≡ p ∷ reverse ps
reverse_snoc ps p = reverse-append ps (p ∷ [])

pub places_more : (ps new : List ℕ) (p : ℕ) → new ≡ ps ++ p ∷ [] → reverse new ≡ p ∷ reverse ps
places_more ps new p e = ap (λ (l : List ℕ). reverse l) e ∙ reverse_snoc ps p

-- the step that was read at its place
pub placed_read : (w : Tables) (label : ℕ) (terms : List Tree) (goal : Tree) (ks : List Known) (place : ℕ) (k : Known) → IsPlaced w label terms goal ks place → k ≡ get_or ks place k → slice_get ks place ≡ Some k
placed_read w label terms goal ks place k p e = slice_get_read ks (length ks) place k refl (there_within ks place p.known p.there) e

pub same_step : (w : Tables) (label : ℕ) (terms : List Tree) (goal : Tree) (ks : List Known) (place : ℕ) (k : Known) → slice_get ks place ≡ Some k → IsPlaced w label terms goal ks place → IsStepTo w label terms goal k.step
same_step w label terms goal ks place k e p =
    let f : Some p.known ≡ Some k = sym p.there ∙ e in
    let q : p.known ≡ k = cc in
    subst (λ (j : Known). IsStepTo w label terms goal j.step) q p.is_step

pub places_there : (w : Tables) (sets : List (List Tree)) (terms : List Tree) (ns : List ℕ) (b : Back) (ps : List ℕ) → IsBack w sets terms ns b → ps ≡ reverse b.places.items → AreThere b.steps.known.items ps
places_there w sets terms ns b ps h e = subst (AreThere b.steps.known.items) (sym e) h.there

-- ---- back from a term that may end

pub back_start : (w : Tables) (sets : List (List Tree)) (terms : List Tree) (f : Found) (b : Back) → IsEnding w terms f → b.steps.known.items ≡ [] → b.places.items ≡ [] → b.goal ≡ f → IsBack w sets terms [] b
back_start w sets terms f b h k p g = record {
  known = λ q j. absurd (subst (λ (l : List Known). IsAmong l q) k j);
  there = subst (λ (l : List ℕ). AreThere b.steps.known.items (reverse l)) (sym p) tt;
  among = subst (λ (q : Found). IsAmong terms q.term) (sym g) h.among;
  alone = subst (λ (q : Found). q.alone ≡ true → IsAlone terms q.term) (sym g) h.alone;
  steps = subst (λ (l : List ℕ). AreSteps w b.goal.term [] (steps_at b.steps.known.items (reverse l))) (sym p) tt;
  ends = subst (λ (l : List ℕ). MayEnd (terms_over w) (last_term b.goal.term (steps_at b.steps.known.items (reverse l)))) (sym p) (subst (λ (q : Found). MayEnd (terms_over w) q.term) (sym g) h.ends);
}

module _ (w : Tables) (sets : List (List Tree)) (terms from_terms : List Tree) (label : ℕ) (ns : List ℕ) (old new : Back) (place : ℕ) (k : Known) (h : IsBack w sets terms ns old)
    (known : AreKnown w sets new.steps.known.items) (gains : Gains old.steps.known.items new.steps.known.items) (at : slice_get new.steps.known.items place ≡ Some k) (step : IsStepTo w label from_terms old.goal.term k.step)
    (placed : reverse new.places.items ≡ place ∷ reverse old.places.items) (goal_is : new.goal.term ≡ k.step.before) (is_alone : new.goal.alone ≡ true → IsAlone from_terms new.goal.term) where
  abbrev done : List StepBack
  done = steps_at old.steps.known.items (reverse old.places.items)

  all : steps_at new.steps.known.items (reverse new.places.items) ≡ k.step ∷ done
  all =
      ap (steps_at new.steps.known.items) placed
      ∙ ((λ i. and_step (at i) (steps_at new.steps.known.items (reverse old.places.items)))
      ∙ ap (λ (l : List StepBack). k.step ∷ l) (ap (λ (l : List Known). steps_at l (reverse old.places.items)) gains.1 ∙ steps_more old.steps.known.items gains.0 (reverse old.places.items) h.there))

  pub back_more : IsBack w sets from_terms (label ∷ ns) new
  back_more = record {
    known = known;
    there = subst (AreThere new.steps.known.items) (sym placed) (there_within new.steps.known.items place k at, subst (λ (l : List Known). AreThere l (reverse old.places.items)) (sym gains.1) (there_more old.steps.known.items gains.0 (reverse old.places.items) h.there));
    among = subst (IsAmong from_terms) (sym goal_is) step.among;
    alone = is_alone;
    steps = subst (λ (l : List StepBack). AreSteps w new.goal.term (label ∷ ns) l) (sym all) (
      sym goal_is,
      subst (λ (y : Tree). IsWay w label y k.step.after k.step.way) (sym goal_is) step.is_way,
      subst (λ (y : Tree). AreSteps w y ns done) (sym step.after) h.steps,
    );
    ends = subst (λ (l : List StepBack). MayEnd (terms_over w) (last_term new.goal.term l)) (sym all) (subst (λ (y : Tree). MayEnd (terms_over w) (last_term y done)) (sym step.after) h.ends);
  }

-- ---- the whole way

steps_labelled : (w : Tables) (x : Tree) (ns : List ℕ) (ss : List StepBack) → AreSteps w x ns ss → map label_of (events_of ss) ≡ ns
steps_labelled w x [] [] h = refl
steps_labelled w x [] (s ∷ ss) h = absurd h
steps_labelled w x (n ∷ ns) [] h = absurd h
steps_labelled w x (n ∷ ns) (s ∷ ss) h = λ i. h.1.labelled i ∷ steps_labelled w s.after ns ss h.2 i

pub whole_way : (w : Tables) (sets : List (List Tree)) (terms : List Tree) (x : Tree) (ns : List ℕ) (b : Back) (ps : List ℕ) → IsBack w sets terms ns b → b.goal.term ≡ x → ps ≡ reverse b.places.items → IsLogWay w x ns (steps_at b.steps.known.items ps)
whole_way w sets terms x ns b ps h g e =
    subst (λ (l : List ℕ). IsLogWay w x ns (steps_at b.steps.known.items l)) (sym e)
    (subst (λ (y : Tree). IsLogWay w y ns (steps_at b.steps.known.items (reverse b.places.items))) g
    (record { steps_are = h.steps; ends = h.ends; labelled = steps_labelled w b.goal.term ns (steps_at b.steps.known.items (reverse b.places.items)) h.steps }))
