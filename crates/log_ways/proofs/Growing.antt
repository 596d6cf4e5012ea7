-- A memory of sets, as it keeps one set more and notes one move more.
use Rattle.std.specs.Prelude.{ℕ, zero, suc, ◌≡◌, ◌<◌, List, [], ◌∷◌, ◌++◌, length, Some, refl}
use Rattle.std.proofs.Common.{ap, sym, ◌∙◌, subst, arith, inl, inr}
use Rattle.chart_term.specs.Properties.{Each}
use Rattle.chart_term.specs.Terms.{Tree}
use Rattle.list_facts.proofs.Members.{among_snoc}
use Rattle.log_ways.specs.Trails.{Grows, IsHistoryMemory, LeadsTo}
use Rattle.msc_base.specs.Lists.{IsAmong}
use Rattle.msc_base.specs.declared.label.Label.{Label}
use Rattle.term_sets.specs.Gathers.{JoinsAll}
use Rattle.term_sets.specs.Memories.{MemoryValue, set_at, Gains, HasMove, IsSetFor, IsMove, AreNext}
use Rattle.term_sets.specs.declared.bounds.Bounds.{Bounds}
use Rattle.term_sets.specs.declared.memory.Move.{Move}
use Rattle.term_successors.proofs.TermSets.{rising_different, each_at, each_from}
use Rattle.term_successors.specs.Successors.{IsLeftOf, AreRising}
use Rattle.term_tables.specs.NetValues.{NetsValue, label_number}
use Rattle.trace_judge.proofs.SetLaws.{stays_sound}
use Rattle.trace_judge.specs.Sets.{IsSoundFor, AreSuccessors}

-- a move that is remembered
pub moved : (v : NetsValue) (budget : ℕ) (m : MemoryValue) → IsHistoryMemory v budget m → (from number to : ℕ) → HasMove m.moves from number to → LeadsTo v number (set_at m.sets from) m.sets to
moved v budget m h from number to k =
    let i = h.memory.moves k.move k.among in
    record {
      there = subst (λ (t : ℕ). t < length m.sets) k.to_is i.to;
      next = λ n q a r.
          subst (λ (t : ℕ). AreSuccessors v a (set_at m.sets from) (set_at m.sets t)) k.to_is
          (subst (λ (s : ℕ). AreSuccessors v a (set_at m.sets s) (set_at m.sets k.move.to)) k.from_is (i.next a (r ∙ sym q ∙ ap Some (sym k.label_is))));
    }

-- what was gathered
module _ (v : NetsValue) (a : Label) (number budget : ℕ) (terms set : List Tree) (is : Some number ≡ label_number v.labels a) (joins : JoinsAll (IsLeftOf v a terms) budget [] set) (rising : AreRising set) where
  found_left : (y : Tree) → IsAmong set y → IsLeftOf v a terms y
  found_left y i = elim ((joins.exact y).to i) [ inl b ↦ absurd b | inr l ↦ l ]

  left_same : (b c : Label) (y : Tree) → label_number v.labels c ≡ label_number v.labels b → IsLeftOf v b terms y → IsLeftOf v c terms y
  left_same b c y e l = record { term = l.term; held = l.held; left = record { event = l.left.event; labelled = e ∙ l.left.labelled; after = l.left.after } }

  pub gathered_set : Each (IsSoundFor v) terms → IsSetFor v budget set
  gathered_set sound = record {
    sound = each_from (IsSoundFor v) set (λ y i. let l = found_left y i in stays_sound v a l.term y (each_at (IsSoundFor v) terms l.term sound l.held) l.left);
    rising = rising;
    within = joins.within;
  }

  pub gathered_next : AreNext v (Some number) terms set
  gathered_next n q b r =
      let same : label_number v.labels b ≡ label_number v.labels a = r ∙ sym q ∙ is in
      record {
        different = rising_different set rising;
        exact = λ y. record {
          to = λ i. left_same a b y same (found_left y i);
          from = λ l. (joins.exact y).from (inr (left_same b a y (sym same) l));
        };
      }

-- one set more
set_before : (ks : List (List Tree)) (k : List Tree) (s : ℕ) → s < length ks → set_at (ks ++ k ∷ []) s ≡ set_at ks s
set_before [] k s l = absurd (omega arith)
set_before (j ∷ ks) k zero l = refl
set_before (j ∷ ks) k (suc s) l = set_before ks k s (omega arith)

more_long : (ks : List (List Tree)) (k : List Tree) → length (ks ++ k ∷ []) ≡ suc (length ks)
more_long [] k = refl
more_long (j ∷ ks) k = ap suc (more_long ks k)

pub grows_same : (old new : List (List Tree)) → new ≡ old → Grows old new
grows_same old new e = record { long = let l : length new ≡ length old = ap length e in omega arith; same = λ s l. ap (λ (ks : List (List Tree)). set_at ks s) e }

pub grows_gained : (old new : List (List Tree)) (k : List Tree) → Gains old k new → Grows old new
grows_gained old new k (inl e) = grows_same old new e
grows_gained old new k (inr e) = record {
  long = let l : length new ≡ length (old ++ k ∷ []) = ap length e in omega (arith, l, more_long old k);
  same = λ s l. ap (λ (ks : List (List Tree)). set_at ks s) e ∙ set_before old k s l;
}

each_set : (P : List Tree → Type 0) (ks : List (List Tree)) (k : List Tree) → P [] → ((s : ℕ) → P (set_at ks s)) → P k → (s : ℕ) → P (set_at (ks ++ k ∷ []) s)
each_set P [] k n h p zero = p
each_set P [] k n h p (suc s) = n
each_set P (j ∷ ks) k n h p zero = h zero
each_set P (j ∷ ks) k n h p (suc s) = each_set P ks k n (λ t. h (suc t)) p s

gained_sets : (P : List Tree → Type 0) (ks new : List (List Tree)) (k : List Tree) → P [] → ((s : ℕ) → P (set_at ks s)) → P k → Gains ks k new → (s : ℕ) → P (set_at new s)
gained_sets P ks new k n h p (inl e) s = subst (λ (x : List (List Tree)). P (set_at x s)) (sym e) (h s)
gained_sets P ks new k n h p (inr e) s = subst (λ (x : List (List Tree)). P (set_at x s)) (sym e) (each_set P ks k n h p s)

move_grows : (v : NetsValue) (ks new : List (List Tree)) (m : Move) → Grows ks new → IsMove v ks m → IsMove v new m
move_grows v ks new m g i = record {
  from = let l = g.long in let f = i.from in omega arith;
  to = let l = g.long in let t = i.to in omega arith;
  next = λ a e.
      subst (λ (x : List Tree). AreSuccessors v a x (set_at new m.to)) (sym (g.same m.from i.from))
      (subst (λ (y : List Tree). AreSuccessors v a (set_at ks m.from) y) (sym (g.same m.to i.to)) (i.next a e));
}

no_terms : (v : NetsValue) (budget : ℕ) → IsSetFor v budget []
no_terms v budget = record { sound = tt; rising = tt; within = omega arith }

pub memory_kept : (v : NetsValue) (budget : ℕ) (old new : MemoryValue) (k : List Tree) → IsHistoryMemory v budget old → IsSetFor v budget k → new.bounds ≡ old.bounds → Gains old.sets k new.sets → new.moves ≡ old.moves → IsHistoryMemory v budget new
memory_kept v budget old new k h i b g e = record {
  memory = record {
    sets = gained_sets (IsSetFor v budget) old.sets new.sets k (no_terms v budget) h.memory.sets i g;
    moves = λ p q. move_grows v old.sets new.sets p (grows_gained old.sets new.sets k g) (h.memory.moves p (subst (λ (ms : List Move). IsAmong ms p) e q));
  };
  light = ap (λ (c : Bounds). c.light) b ∙ h.light;
}

pub memory_noted : (v : NetsValue) (budget : ℕ) (old new : MemoryValue) (from number to : ℕ) → IsHistoryMemory v budget old → from < length old.sets → LeadsTo v number (set_at old.sets from) old.sets to → new.bounds ≡ old.bounds → new.sets ≡ old.sets
    → Gains old.moves (record { from = from; label = number; to = to }) new.moves → IsHistoryMemory v budget new
memory_noted v budget old new from number to h l t b e g = record {
  memory = record {
    sets = subst (λ (ks : List (List Tree)). (s : ℕ) → IsSetFor v budget (set_at ks s)) (sym e) h.memory.sets;
    moves = λ p q. subst (λ (ks : List (List Tree)). IsMove v ks p) (sym e) (gained_moves g p q);
  };
  light = ap (λ (c : Bounds). c.light) b ∙ h.light;
}
  where
    this : IsMove v old.sets (record { from = from; label = number; to = to })
    this = record { from = l; to = t.there; next = λ a r. t.next number refl a r }

    gained_moves : Gains old.moves (record { from = from; label = number; to = to }) new.moves → (p : Move) → IsAmong new.moves p → IsMove v old.sets p
    gained_moves (inl d) p q = h.memory.moves p (subst (λ (ms : List Move). IsAmong ms p) d q)
    gained_moves (inr d) p q = elim (among_snoc old.moves (record { from = from; label = number; to = to }) p (subst (λ (ms : List Move). IsAmong ms p) d q)) [
      | inl i ↦ h.memory.moves p i
      | inr i ↦ subst (IsMove v old.sets) (sym i) this
    ]

-- a step that isn't remembered
module _ (v : NetsValue) (budget : ℕ) (m mid new : MemoryValue) (from number to : ℕ) (terms set : List Tree) (serves : IsHistoryMemory v budget m) (inside : from < length m.sets) (a : Label) (is : Some number ≡ label_number v.labels a) (terms_are : terms ≡ set_at m.sets from)
    (joins : JoinsAll (IsLeftOf v a terms) budget [] set) (rising : AreRising set) (mid_bounds : mid.bounds ≡ m.bounds) (mid_sets : Gains m.sets set mid.sets) (mid_moves : mid.moves ≡ m.moves) (there : (to < length mid.sets) × (set_at mid.sets to ≡ set))
    (new_bounds : new.bounds ≡ mid.bounds) (new_sets : new.sets ≡ mid.sets) (new_moves : Gains mid.moves (record { from = from; label = number; to = to }) new.moves) where
  grown : Grows m.sets mid.sets
  grown = grows_gained m.sets mid.sets set mid_sets

  next : AreNext v (Some number) (set_at m.sets from) set
  next = subst (λ (t : List Tree). AreNext v (Some number) t set) terms_are (gathered_next v a number budget terms set is joins rising)

  leads : LeadsTo v number (set_at m.sets from) mid.sets to
  leads = record { there = there.0; next = subst (AreNext v (Some number) (set_at m.sets from)) (sym there.1) next }

  set_serves : IsSetFor v budget set
  set_serves = gathered_set v a number budget terms set is joins rising (subst (Each (IsSoundFor v)) (sym terms_are) (serves.memory.sets from).sound)

  mid_serves : IsHistoryMemory v budget mid
  mid_serves = memory_kept v budget m mid set serves set_serves mid_bounds mid_sets mid_moves

  pub stepped_serves : IsHistoryMemory v budget new
  stepped_serves =
      memory_noted v budget mid new from number to mid_serves (let l = grown.long in omega arith)
      (subst (λ (t : List Tree). LeadsTo v number t mid.sets to) (sym (grown.same from inside)) leads) new_bounds new_sets new_moves

  pub stepped_grows : Grows m.sets new.sets
  stepped_grows = subst (Grows m.sets) (sym new_sets) grown

  pub stepped_leads : LeadsTo v number (set_at m.sets from) new.sets to
  stepped_leads = subst (λ (ks : List (List Tree)). LeadsTo v number (set_at m.sets from) ks to) (sym new_sets) leads

pub empty_serves : (v : NetsValue) (budget : ℕ) (m : MemoryValue) → m.bounds.light ≡ budget → m.sets ≡ [] → m.moves ≡ [] → IsHistoryMemory v budget m
empty_serves v budget m b e f = record {
  memory = record {
    sets = subst (λ (ks : List (List Tree)). (s : ℕ) → IsSetFor v budget (set_at ks s)) (sym e) (λ s. no_terms v budget);
    moves = λ p q. absurd (subst (λ (ms : List Move). IsAmong ms p) f q);
  };
  light = b;
}

pub ruleset growing = (grows_same, grows_gained)
