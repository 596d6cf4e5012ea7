-- A pool that turns to the next set.
use Rattle.std.specs.Prelude.{ℕ, ◌≡◌, ◌<◌, List, [], length, Option, Result, Ok, Err, OnErr}
use Rattle.std.proofs.Common.{ap, sym, ◌∙◌, subst}
use Rattle.term_tables.specs.NetValues.{NetsValue}
use Rattle.chart_term.specs.Terms.{Tree}
use Rattle.trace_judge.specs.Sets.{SetValue}
use Rattle.term_sets.specs.Memories.{PoolValue, set_at, IsSetFor, IsPoolFor, held_set, AreNext, Keeps, Notes}
use Rattle.term_sets.specs.declared.pool.Held.TheVariants.{Remembered, Loose}
use Rattle.term_sets.proofs.Pooling.{empty_memory, kept_holds, kept_serves, noted_holds, noted_serves}

pub on_err : {A E : Type 0} (P : Type 0) (r : Result A E) → P → OnErr r P
on_err P (Ok x) p = tt
on_err P (Err e) p = p

-- a set beside the memory

pub loose_serves : (v : NetsValue) (old new : PoolValue) (set : List Tree) → new ≡ record old { held = Loose set } → IsPoolFor v old → IsSetFor v old.budget set → IsPoolFor v new
loose_serves v old new set e h s = subst (IsPoolFor v) (sym e) (record { memory = h.memory; held = s; most = h.most })

pub alone_serves : (v : NetsValue) (old new : PoolValue) (set : List Tree) → new ≡ record old { memory = record { bounds = old.memory.bounds; sets = []; moves = [] }; held = Loose set } → IsPoolFor v old → IsSetFor v old.budget set → IsPoolFor v new
alone_serves v old new set e h s = subst (IsPoolFor v) (sym e) (record { memory = empty_memory v old.budget old.memory.bounds; held = s; most = h.most })

pub ruleset turning = (loose_serves, alone_serves)

-- a set that is remembered

module _ (old mid noted : PoolValue) (label : Option ℕ) (set : List Tree) (next : ℕ) (places : Keeps old set mid) (fits : next < length mid.memory.sets) (there : set_at mid.memory.sets next ≡ set) (notes : Notes mid label next noted) where
  pub went_holds : held_set noted ≡ held_set old
  went_holds = noted_holds mid noted label next notes ∙ kept_holds old mid set places

  pub went_serves : (v : NetsValue) → IsPoolFor v old → IsSetFor v old.budget set → AreNext v label (held_set old).terms set → IsPoolFor v noted
  went_serves v h s a = noted_serves v mid noted label next notes fits
      (subst (λ (x : List Tree). AreNext v label x (set_at mid.memory.sets next)) (sym (ap (λ (x : SetValue). x.terms) (kept_holds old mid set places))) (subst (AreNext v label (held_set old).terms) (sym there) a))
      (kept_serves v old mid set places s h)

  pub entered_there : next < length noted.memory.sets
  entered_there = subst (λ (ks : List (List Tree)). next < length ks) (sym notes.sets) fits

  module _ (new : PoolValue) (is : new ≡ record noted { held = Remembered next }) where
    pub entered_serves : (v : NetsValue) → IsPoolFor v old → IsSetFor v old.budget set → AreNext v label (held_set old).terms set → IsPoolFor v new
    entered_serves v h s a = let w = went_serves v h s a in subst (IsPoolFor v) (sym is) (record { memory = w.memory; held = w.memory.sets next; most = w.most })

    entered_terms : set_at noted.memory.sets next ≡ set
    entered_terms = ap (λ (ks : List (List Tree)). set_at ks next) notes.sets ∙ there

    pub entered_holds : held_set new ≡ record (held_set old) { terms = set }
    entered_holds = ap held_set is ∙ (λ i. record { terms = entered_terms i; budget = (went_holds i).budget; too_large = (went_holds i).too_large })
