-- Whether a log conforms, by the sets that it leads through.
use Rattle.std.specs.Prelude.{ℕ, zero, suc, ◌+◌, ◌≡◌, ◌<◌, List, [], ◌∷◌, ◌++◌, length, Some, slice_get, take, refl}
use Rattle.std.proofs.Common.{ap, sym, subst, arith}
use Rattle.chart_term.specs.Terms.{Tree, weight}
use Rattle.line_events.specs.declared.event.LineEvent.{LineEvent}
use Rattle.list_facts.proofs.Reading.{some_at}
use Rattle.log_ways.proofs.Trailing.{residuals_at}
use Rattle.log_ways.specs.LogWays.{DoesConform}
use Rattle.log_ways.specs.Stepping.{IsEnding}
use Rattle.log_ways.specs.Trails.{IsCutOff, IsHistory}
use Rattle.log_ways.specs.declared.history.History.{History}
use Rattle.log_ways.specs.declared.terms.Found.{Found}
use Rattle.msc_base.specs.declared.label.Label.{Label}
use Rattle.term_sets.specs.Memories.{set_at}
use Rattle.term_tables.specs.NetValues.{NetsValue, label_number}
use Rattle.trace_judge.proofs.SetLaws.{set_start, set_step, set_weighs}
use Rattle.trace_judge.specs.Logs.{AreNumbers, AreResiduals, labels_of, WeighsWithin}
use Rattle.trace_judge.specs.Sets.{HasEnding, PassBudget}

-- ---- beginnings of a log

labels_more : (es fs : List LineEvent) → labels_of (es ++ fs) ≡ labels_of es ++ labels_of fs
labels_more [] fs = refl
labels_more (e ∷ es) fs = ap (λ (l : List Label). e.label ∷ l) (labels_more es fs)

-- events in front of others have the first numbers
front_numbers : (table : List Label) (es fs : List LineEvent) (ns : List ℕ) → AreNumbers table (labels_of (es ++ fs)) ns → AreNumbers table (labels_of es) (take (length es) ns)
front_numbers table [] fs ns h = tt
front_numbers table (e ∷ es) fs [] h = absurd h
front_numbers table (e ∷ es) fs (n ∷ ns) h = (h.0, front_numbers table es fs ns h.1)

front_long : (table : List Label) (es : List LineEvent) (ns : List ℕ) → AreNumbers table (labels_of es) ns → length es ≡ length ns
front_long table [] [] h = refl
front_long table [] (n ∷ ns) h = absurd h
front_long table (e ∷ es) [] h = absurd h
front_long table (e ∷ es) (n ∷ ns) h = ap suc (front_long table es ns h.1)

long_more : (es fs : List LineEvent) → length (es ++ fs) ≡ length es + length fs
long_more [] fs = omega arith
long_more (e ∷ es) fs = let h = long_more es fs in omega arith

all_taken : (ns : List ℕ) (k : ℕ) → k ≡ length ns → take k ns ≡ ns
all_taken [] zero e = refl
all_taken [] (suc k) e = refl
all_taken (n ∷ ns) zero e = absurd (omega arith)
all_taken (n ∷ ns) (suc k) e = ap (λ (l : List ℕ). n ∷ l) (all_taken ns k (omega arith))

-- ---- a log that leads through sets within the budget

module _ (v : NetsValue) (budget : ℕ) (x : Tree) (ns : List ℕ) (h : History) (history : IsHistory v budget x ns h) where
  stays_within : (events : List LineEvent) → AreNumbers v.labels (labels_of events) ns → (front back : List LineEvent) → events ≡ front ++ back → WeighsWithin v x budget (labels_of front)
  stays_within events a front back e =
      let b : AreNumbers v.labels (labels_of (front ++ back)) ns = subst (λ (es : List LineEvent). AreNumbers v.labels (labels_of es) ns) e a in
      let l = front_long v.labels (front ++ back) ns b in
      let m = long_more front back in
      let n = history.trail.long in
      let (s, at) = some_at h.sets.items (length front) (omega arith) in
      record {
        set = set_at h.memory.sets s;
        are = residuals_at v h.memory.sets x ns h.sets.items history.trail (length front) s at (labels_of front) (front_numbers v.labels front back ns b);
        within = (history.memory.memory.sets s).within;
      }

  last_residuals : (last : ℕ) → slice_get h.sets.items (length ns) ≡ Some last → (labels : List Label) → AreNumbers v.labels labels ns → AreResiduals v x labels (set_at h.memory.sets last)
  last_residuals last e labels a = residuals_at v h.memory.sets x ns h.sets.items history.trail (length ns) last e labels (subst (AreNumbers v.labels labels) (sym (all_taken ns (length ns) refl)) a)

  pub does_conform : (last : ℕ) (f : Found) → slice_get h.sets.items (length ns) ≡ Some last → IsEnding v.tables (set_at h.memory.sets last) f → (events : List LineEvent) → AreNumbers v.labels (labels_of events) ns → DoesConform v x budget events
  does_conform last f e i events a = (
    refl,
    stays_within events a,
    record { term = f.term; left = ((last_residuals last e (labels_of events) a).exact f.term).to i.among; ends = i.ends },
  )

  pub none_ends : (last : ℕ) → slice_get h.sets.items (length ns) ≡ Some last → (HasEnding v (set_at h.memory.sets last) → ⊥) → (events : List LineEvent) → AreNumbers v.labels (labels_of events) ns → DoesConform v x budget events → ⊥
  none_ends last e n events a c = n (record { term = c.2.term; held = ((last_residuals last e (labels_of events) a).exact c.2.term).from c.2.left; ends = c.2.ends })

-- ---- a log that leads to a set above the budget

record HasFront (table : List Label) (events : List LineEvent) (ns : List ℕ) (n : ℕ) : Type 0 where
  front : List LineEvent
  at : LineEvent
  back : List LineEvent
  are : events ≡ (front ++ at ∷ []) ++ back
  numbers : AreNumbers table (labels_of front) ns
  is : label_number table at.label ≡ Some n

has_front : (table : List Label) (events : List LineEvent) (ns : List ℕ) (n : ℕ) (ms : List ℕ) → AreNumbers table (labels_of events) (ns ++ n ∷ ms) → HasFront table events ns n
has_front table [] [] n ms h = absurd h
has_front table [] (m ∷ ns) n ms h = absurd h
has_front table (e ∷ es) [] n ms h = record { front = []; at = e; back = es; are = refl; numbers = tt; is = h.0 }
has_front table (e ∷ es) (m ∷ ns) n ms h =
    let f = has_front table es ns n ms h.1 in
    record { front = e ∷ f.front; at = f.at; back = f.back; are = ap (λ (l : List LineEvent). e ∷ l) f.are; numbers = (h.0, f.numbers); is = f.is }

pub cut_off : (v : NetsValue) (budget : ℕ) (x : Tree) (ns : List ℕ) → IsCutOff v budget x ns → (events : List LineEvent) → AreNumbers v.labels (labels_of events) ns → DoesConform v x budget events → ⊥
cut_off v budget x ns c events a conforms =
    let f = has_front v.labels events c.front c.number c.back (subst (AreNumbers v.labels (labels_of events)) c.are a) in
    let p : PassBudget v f.at.label (set_at c.sets c.last) budget = c.heavy f.at.label (sym f.is) in
    let old = residuals_at v c.sets x c.front c.trail c.is_trail (length c.front) c.last c.last_is (labels_of f.front) (subst (AreNumbers v.labels (labels_of f.front)) (sym (all_taken c.front (length c.front) refl)) f.numbers) in
    let new = set_step v x (labels_of f.front) f.at.label (set_at c.sets c.last) p.next old p.are in
    let w = conforms.1 (f.front ++ f.at ∷ []) f.back f.are in
    let is : AreResiduals v x (labels_of f.front ++ f.at.label ∷ []) w.set = subst (λ (l : List Label). AreResiduals v x l w.set) (labels_more f.front (f.at ∷ [])) w.are in
    let same = set_weighs v x (labels_of f.front ++ f.at.label ∷ []) w.set p.next is new in
    let l = w.within in
    let m = p.above in
    omega arith

-- the term alone is above it
pub too_heavy : (v : NetsValue) (budget : ℕ) (x : Tree) → budget < weight x → (events : List LineEvent) → DoesConform v x budget events → ⊥
too_heavy v budget x l events c =
    let w = c.1 [] events refl in
    let same = set_weighs v x [] w.set (x ∷ []) w.are (set_start v x) in
    let m = w.within in
    omega arith
