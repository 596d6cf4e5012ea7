-- What a pool remembers stays true.
use Rattle.std.specs.Prelude.{ℕ, ◌≡◌, ◌<◌, Bool, List, [], ◌∷◌, ◌++◌, length, Option, Some, None, refl}
use Rattle.std.proofs.Common.{ap, sym, ◌∙◌, subst, arith, inl, inr}
use Rattle.msc_base.specs.Lists.{IsAmong}
use Rattle.list_facts.proofs.Members.{among_snoc}
use Rattle.term_tables.specs.NetValues.{NetsValue}
use Rattle.chart_term.specs.Terms.{Tree}
use Rattle.trace_judge.specs.Sets.{AreSuccessors}
use Rattle.term_sets.specs.Memories.{MemoryValue, PoolValue, set_at, Gains, GainsFrom, IsSetFor, IsMove, IsMemoryFor, IsPoolFor, IsThere, held_terms, held_set, AreNext, Keeps, Notes}
use Rattle.term_sets.specs.declared.bounds.Bounds.{Bounds}
use Rattle.term_sets.specs.declared.memory.Move.{Move}
use Rattle.term_sets.specs.declared.pool.Held.{Held}
use Rattle.term_sets.specs.declared.pool.Held.TheVariants.{Remembered, Loose}
use Rattle.term_sets.proofs.Remembering.{set_before, more_long, all_sets}

-- one more set

gained_before : (ks new : List (List Tree)) (k : List Tree) (s : ℕ) → Gains ks k new → s < length ks → set_at new s ≡ set_at ks s
gained_before ks new k s (inl e) l = ap (λ (x : List (List Tree)). set_at x s) e
gained_before ks new k s (inr e) l = ap (λ (x : List (List Tree)). set_at x s) e ∙ set_before ks k s l

gained_long : (ks new : List (List Tree)) (k : List Tree) (s : ℕ) → Gains ks k new → s < length ks → s < length new
gained_long ks new k s (inl e) l = subst (λ (x : List (List Tree)). s < length x) (sym e) l
gained_long ks new k s (inr e) l = subst (λ (x : List (List Tree)). s < length x) (sym e) (let m = more_long ks k in omega arith)

pub no_terms : (v : NetsValue) (budget : ℕ) → IsSetFor v budget []
no_terms v budget = record { sound = tt; rising = tt; within = omega arith }

grown_sets : (P : List Tree → Type 0) (ks new : List (List Tree)) (k : List Tree) → P [] → ((s : ℕ) → P (set_at ks s)) → P k → Gains ks k new → (s : ℕ) → P (set_at new s)
grown_sets P ks new k n h p (inl e) s = subst (λ (x : List (List Tree)). P (set_at x s)) (sym e) (h s)
grown_sets P ks new k n h p (inr e) s = subst (λ (x : List (List Tree)). P (set_at x s)) (sym e) (all_sets P ks k n h p s)

move_grows : (v : NetsValue) (ks new : List (List Tree)) (k : List Tree) (m : Move) → Gains ks k new → IsMove v ks m → IsMove v new m
move_grows v ks new k m g i = record {
  from = gained_long ks new k m.from g i.from;
  to = gained_long ks new k m.to g i.to;
  next = λ a e. subst (λ (x : List Tree). AreSuccessors v a x (set_at new m.to)) (sym (gained_before ks new k m.from g i.from))
      (subst (λ (y : List Tree). AreSuccessors v a (set_at ks m.from) y) (sym (gained_before ks new k m.to g i.to)) (i.next a e));
}

memory_grows : (v : NetsValue) (budget : ℕ) (old new : MemoryValue) (k : List Tree) → IsMemoryFor v budget old → IsSetFor v budget k → Gains old.sets k new.sets → new.moves ≡ old.moves → IsMemoryFor v budget new
memory_grows v budget old new k h i g e = record {
  sets = grown_sets (IsSetFor v budget) old.sets new.sets k (no_terms v budget) h.sets i g;
  moves = λ p q. move_grows v old.sets new.sets k p g (h.moves p (subst (λ (ms : List Move). IsAmong ms p) e q));
}

pub empty_memory : (v : NetsValue) (budget : ℕ) (bounds : Bounds) → IsMemoryFor v budget (record { bounds = bounds; sets = []; moves = [] })
empty_memory v budget bounds = record { sets = λ s. no_terms v budget; moves = λ p q. absurd q }

-- a set that is kept

grown_terms : (m new : MemoryValue) (k : List Tree) (h : Held) → IsThere m h → Gains m.sets k new.sets → held_terms new h ≡ held_terms m h
grown_terms m new k (Remembered s) l g = gained_before m.sets new.sets k s g l
grown_terms m new k (Loose terms) l g = refl

kept_terms : (old new : PoolValue) (k : List Tree) → Keeps old k new → held_terms new.memory new.held ≡ held_terms old.memory old.held
kept_terms old new k p = ap (held_terms new.memory) p.held ∙ grown_terms old.memory new.memory k old.held p.there p.sets

pub kept_holds : (old new : PoolValue) (k : List Tree) → Keeps old k new → held_set new ≡ held_set old
kept_holds old new k p = λ i. record { terms = kept_terms old new k p i; budget = p.budget i; too_large = p.too_large i }

pub kept_serves : (v : NetsValue) (old new : PoolValue) (k : List Tree) → Keeps old k new → IsSetFor v old.budget k → IsPoolFor v old → IsPoolFor v new
kept_serves v old new k p s h = record {
  memory = subst (λ (b : ℕ). IsMemoryFor v b new.memory) (sym p.budget) (memory_grows v old.budget old.memory new.memory k h.memory s p.sets p.moves);
  held = subst (λ (l : List Tree). IsSetFor v new.budget l) (sym (kept_terms old new k p)) (subst (λ (b : ℕ). IsSetFor v b (held_terms old.memory old.held)) (sym p.budget) h.held);
  most = let e = p.budget in let l = h.most in omega arith;
}

-- a move that is noted

module _ (v : NetsValue) (m : MemoryValue) (to : ℕ) (new : List Move) (known : (p : Move) → IsAmong m.moves p → IsMove v m.sets p) (fits : to < length m.sets) where
  same_moves : new ≡ m.moves → (p : Move) → IsAmong new p → IsMove v m.sets p
  same_moves e p q = known p (subst (λ (ms : List Move). IsAmong ms p) e q)

  one_more : (n : Move) → IsMove v m.sets n → new ≡ m.moves ++ n ∷ [] → (p : Move) → IsAmong new p → IsMove v m.sets p
  one_more n h e p q = elim (among_snoc m.moves n p (subst (λ (ms : List Move). IsAmong ms p) e q)) [ inl i ↦ known p i | inr i ↦ subst (IsMove v m.sets) (sym i) h ]

  gained_moves : (held : Held) (label : Option ℕ) → IsThere m held → GainsFrom held label to m.moves new → AreNext v label (held_terms m held) (set_at m.sets to) → (p : Move) → IsAmong new p → IsMove v m.sets p
  gained_moves (Loose terms) label t g a = same_moves g
  gained_moves (Remembered from) None t g a = same_moves g
  gained_moves (Remembered from) (Some label) t (inl e) a = same_moves e
  gained_moves (Remembered from) (Some label) t (inr e) a = one_more (record { from = from; label = label; to = to }) (record { from = t; to = fits; next = a label refl }) e

same_terms : (m new : MemoryValue) (h : Held) → new.sets ≡ m.sets → held_terms new h ≡ held_terms m h
same_terms m new (Remembered s) e = ap (λ (x : List (List Tree)). set_at x s) e
same_terms m new (Loose terms) e = refl

noted_terms : (old new : PoolValue) (label : Option ℕ) (to : ℕ) → Notes old label to new → held_terms new.memory new.held ≡ held_terms old.memory old.held
noted_terms old new label to n = ap (held_terms new.memory) n.held ∙ same_terms old.memory new.memory old.held n.sets

pub noted_holds : (old new : PoolValue) (label : Option ℕ) (to : ℕ) → Notes old label to new → held_set new ≡ held_set old
noted_holds old new label to n = λ i. record { terms = noted_terms old new label to n i; budget = n.budget i; too_large = n.too_large i }

pub noted_serves : (v : NetsValue) (old new : PoolValue) (label : Option ℕ) (to : ℕ) → Notes old label to new → to < length old.memory.sets → AreNext v label (held_set old).terms (set_at old.memory.sets to) → IsPoolFor v old → IsPoolFor v new
noted_serves v old new label to n l a h = record {
  memory = subst (λ (b : ℕ). IsMemoryFor v b new.memory) (sym n.budget) (record {
    sets = subst (λ (ks : List (List Tree)). (s : ℕ) → IsSetFor v old.budget (set_at ks s)) (sym n.sets) h.memory.sets;
    moves = λ p q. subst (λ (ks : List (List Tree)). IsMove v ks p) (sym n.sets) (gained_moves v old.memory to new.memory.moves h.memory.moves l old.held label n.there n.moves a p q);
  });
  held = subst (λ (x : List Tree). IsSetFor v new.budget x) (sym (noted_terms old new label to n)) (subst (λ (b : ℕ). IsSetFor v b (held_terms old.memory old.held)) (sym n.budget) h.held);
  most = let e = n.budget in let k = h.most in omega arith;
}

-- pools by their parts

abbrev pub pool_of : MemoryValue → Held → ℕ → Bool → PoolValue
pool_of m h b f = record { memory = m; held = h; budget = b; too_large = f }

pub keeps_of : (m new : MemoryValue) (h : Held) (b : ℕ) (f : Bool) (old : PoolValue) (k : List Tree) → pool_of m h b f ≡ old → IsThere m h → new.bounds ≡ m.bounds → Gains m.sets k new.sets → new.moves ≡ m.moves → Keeps old k (pool_of new h b f)
keeps_of m new h b f old k is t bs g e = subst (λ (p : PoolValue). Keeps p k (pool_of new h b f)) is (record { there = t; bounds = bs; sets = g; moves = e; held = refl; budget = refl; too_large = refl })
