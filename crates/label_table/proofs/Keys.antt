-- Keys of labels: each label has at most one, and each key at most one label.
use Rattle.std.proofs.Common.{◌≡◌, ℕ, Bool, true, false, cond, Some, List, ◌==◌, refl, sym, ap, ◌∙◌}
use Rattle.std.specs.BTreeMap.{Updates, get, is_at}
use Rattle.std.specs.Ordering.{ordering_then}
use Rattle.std.specs.declared.cmp.Ordering.{Ordering}
use Rattle.std.specs.declared.cmp.Ordering.TheVariants.{Less, Equal, Greater}
use Rattle.std.proofs.lemmas.Map.Lookups.{exact_unsigned}
use Rattle.std.proofs.lemmas.Option.{same_Some}
use Rattle.msc_base.specs.declared.label.Far.{Far}
use Rattle.msc_base.specs.declared.label.Far.TheVariants.{Nobody, Env, Instance}
use Rattle.msc_base.specs.declared.label.Kind.{Kind}
use Rattle.msc_base.specs.declared.label.Kind.TheVariants.{Output, Input, OutputLost, InputFound, Action, TimerStart, TimerStop, Timeout, Create}
use Rattle.msc_base.specs.declared.label.Label.{Label}
use Rattle.label_table.specs.contracts.key.FarKeyOrd.TheImpl as far_ord
use Rattle.label_table.specs.declared.key.FarKey.{FarKey}
use Rattle.label_table.specs.declared.key.FarKey.TheVariants.{Nobody as NobodyKey, Env as EnvKey, Instance as InstanceKey}
use Rattle.label_table.specs.declared.key.LabelKey.{LabelKey}
use Rattle.label_table.specs.Keys.{TextNumbers, AreTextNumbers, IsNumbered, KeepsNumbers, IsFarKey, IsKey, rank}
use Rattle.label_table.specs.Stores.{KeyNumbers, key_order}
use Rattle.label_table.proofs.Equality.{parts_are}
use Rattle.label_table.proofs.TextNumbering.{is_equal}

-- the kind of a rank
unrank : ℕ → Kind
unrank n =
    cond (n == 0) Output
    (cond (n == 1) Input
    (cond (n == 2) OutputLost
    (cond (n == 3) InputFound
    (cond (n == 4) Action
    (cond (n == 5) TimerStart
    (cond (n == 6) TimerStop
    (cond (n == 7) Timeout Create)))))))

unrank-rank : (a : Kind) → unrank (rank a) ≡ a
unfolding unrank
unrank-rank Output = refl
unrank-rank Input = refl
unrank-rank OutputLost = refl
unrank-rank InputFound = refl
unrank-rank Action = refl
unrank-rank TimerStart = refl
unrank-rank TimerStop = refl
unrank-rank Timeout = refl
unrank-rank Create = refl

pub rank_is : (a b : Kind) → rank a ≡ rank b → a ≡ b
rank_is a b h = sym (unrank-rank a) ∙ ap unrank h ∙ unrank-rank b

number_is : (texts : TextNumbers) (text : List ℕ) (m n : ℕ) → IsNumbered texts text m → IsNumbered texts text n → m ≡ n
number_is texts text m n h k = same_Some m n (sym h ∙ k)

-- a far end has one key
far_key_is : (texts : TextNumbers) (far : Far) (j k : FarKey) → IsFarKey texts far j → IsFarKey texts far k → j ≡ k
far_key_is texts Nobody NobodyKey NobodyKey h i = refl
far_key_is texts Env EnvKey EnvKey h i = refl
far_key_is texts (Instance a) (InstanceKey m) (InstanceKey n) h i = ap InstanceKey (number_is texts a m n h i)
far_key_is texts Nobody EnvKey k h i = absurd h
far_key_is texts Nobody (InstanceKey m) k h i = absurd h
far_key_is texts Env NobodyKey k h i = absurd h
far_key_is texts Env (InstanceKey m) k h i = absurd h
far_key_is texts (Instance a) NobodyKey k h i = absurd h
far_key_is texts (Instance a) EnvKey k h i = absurd h
far_key_is texts Nobody NobodyKey EnvKey h i = absurd i
far_key_is texts Nobody NobodyKey (InstanceKey n) h i = absurd i
far_key_is texts Env EnvKey NobodyKey h i = absurd i
far_key_is texts Env EnvKey (InstanceKey n) h i = absurd i
far_key_is texts (Instance a) (InstanceKey m) NobodyKey h i = absurd i
far_key_is texts (Instance a) (InstanceKey m) EnvKey h i = absurd i

key_parts : {j k : LabelKey} → j.at ≡ k.at → j.kind ≡ k.kind → j.text ≡ k.text → j.far ≡ k.far → j ≡ k
key_parts at kind text far = λ i. record { at = at i; kind = kind i; text = text i; far = far i }

-- a label has one key
pub key_is : (texts : TextNumbers) (l : Label) (j k : LabelKey) → IsKey texts l j → IsKey texts l k → j ≡ k
key_is texts l j k h i =
    key_parts (number_is texts l.at j.at k.at h.at i.at) (sym h.kind ∙ i.kind) (number_is texts l.text j.text k.text h.text i.text) (far_key_is texts l.far j.far k.far h.far i.far)

-- a key has one far end
far_is : (texts : TextNumbers) → AreTextNumbers texts → (a b : Far) (k : FarKey) → IsFarKey texts a k → IsFarKey texts b k → a ≡ b
far_is texts numbers Nobody Nobody NobodyKey h i = refl
far_is texts numbers Env Env EnvKey h i = refl
far_is texts numbers (Instance a) (Instance b) (InstanceKey n) h i = ap Instance (numbers.once a b n h i)
far_is texts numbers Nobody b EnvKey h i = absurd h
far_is texts numbers Nobody b (InstanceKey n) h i = absurd h
far_is texts numbers Env b NobodyKey h i = absurd h
far_is texts numbers Env b (InstanceKey n) h i = absurd h
far_is texts numbers (Instance a) b NobodyKey h i = absurd h
far_is texts numbers (Instance a) b EnvKey h i = absurd h
far_is texts numbers Nobody Env NobodyKey h i = absurd i
far_is texts numbers Nobody (Instance b) NobodyKey h i = absurd i
far_is texts numbers Env Nobody EnvKey h i = absurd i
far_is texts numbers Env (Instance b) EnvKey h i = absurd i
far_is texts numbers (Instance a) Nobody (InstanceKey n) h i = absurd i
far_is texts numbers (Instance a) Env (InstanceKey n) h i = absurd i

-- a key has one label
pub label_is : (texts : TextNumbers) → AreTextNumbers texts → (l m : Label) (k : LabelKey) → IsKey texts l k → IsKey texts m k → l ≡ m
label_is texts numbers l m k h i =
    parts_are (numbers.once l.at m.at k.at h.at i.at) (rank_is l.kind m.kind (h.kind ∙ sym i.kind)) (numbers.once l.text m.text k.text h.text i.text) (far_is texts numbers l.far m.far k.far h.far i.far)

-- keys stay where each text keeps its number
far_kept : (old new : TextNumbers) → KeepsNumbers old new → (a : Far) (k : FarKey) → IsFarKey old a k → IsFarKey new a k
far_kept old new keeps Nobody NobodyKey h = tt
far_kept old new keeps Env EnvKey h = tt
far_kept old new keeps (Instance a) (InstanceKey n) h = keeps a n h
far_kept old new keeps Nobody EnvKey h = absurd h
far_kept old new keeps Nobody (InstanceKey n) h = absurd h
far_kept old new keeps Env NobodyKey h = absurd h
far_kept old new keeps Env (InstanceKey n) h = absurd h
far_kept old new keeps (Instance a) NobodyKey h = absurd h
far_kept old new keeps (Instance a) EnvKey h = absurd h

pub key_kept : (old new : TextNumbers) → KeepsNumbers old new → (l : Label) (k : LabelKey) → IsKey old l k → IsKey new l k
key_kept old new keeps l k h = record { at = keeps l.at k.at h.at; kind = h.kind; text = keeps l.text k.text h.text; far = far_kept old new keeps l.far k.far h.far }

-- the order tells all keys apart
both_equal : (r s : Ordering) → ordering_then r s ≡ Equal → (r ≡ Equal) × (s ≡ Equal)
both_equal Equal s h = (refl, h)
both_equal Less s h = absurd cc
both_equal Greater s h = absurd cc

far_exact : (j k : FarKey) → (far_ord.ghosts).cmp j k ≡ Equal → j ≡ k
far_exact NobodyKey NobodyKey h = refl
far_exact EnvKey EnvKey h = refl
far_exact (InstanceKey m) (InstanceKey n) h = ap InstanceKey (exact_unsigned m n h)
far_exact NobodyKey EnvKey h = absurd cc
far_exact NobodyKey (InstanceKey n) h = absurd cc
far_exact EnvKey NobodyKey h = absurd cc
far_exact EnvKey (InstanceKey n) h = absurd cc
far_exact (InstanceKey m) NobodyKey h = absurd cc
far_exact (InstanceKey m) EnvKey h = absurd cc

key_exact : (j k : LabelKey) → key_order j k ≡ Equal → j ≡ k
key_exact j k h =
    let at = both_equal _ _ h in
    let kind = both_equal _ _ at.1 in
    let text = both_equal _ _ kind.1 in
    key_parts (exact_unsigned j.at k.at at.0) (exact_unsigned j.kind k.kind kind.0) (exact_unsigned j.text k.text text.0) (far_exact j.far k.far text.1)

-- other keys keep their numbers
pub other_keys : (old new : KeyNumbers) (k : LabelKey) (n : ℕ) → Updates key_order old new k (Some n) → (j : LabelKey) → (k ≡ j → ⊥) → get key_order new j ≡ get key_order old j
other_keys old new k n h j apart = by (is_at (key_order k) j) refl
  where
    by : (b : Bool) → is_at (key_order k) j ≡ b → get key_order new j ≡ get key_order old j
    by true e = absurd (apart (key_exact k j (is_equal (key_order k j) e)))
    by false e = h.0 j ∙ ap (λ b. cond b (Some n) (get key_order old j)) e
