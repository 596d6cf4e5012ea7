-- The pairs of a level by the positions of its events and by their numbers.
use Rattle.std.proofs.Common.{◌≡◌, ◌⊎◌, inl, inr, ℕ, ◌<◌, ◌≤◌, ◌+◌, zero, suc, Bool, true, false, cond, ◌&&◌, List, [], ◌∷◌, Some, slice_get, get_or, length, nat_eq, map, take, refl, sym, subst, ap, ap₂, if◌then◌else◌, ◌∙◌, arith}
use Rattle.std.specs.List.{Contains, count_by}
use Rattle.std.specs.List.Sorted.{IsNonDecreasingBy, IsPermutation}
use Rattle.std.proofs.lemmas.Bool.{cases_eq, eq-eqb, ne_eqb}
use Rattle.std.proofs.lemmas.List.Sorted.{Contains-permutation, IsPermutation-sym, sum_by-IsPermutation}
use Rattle.column_order.specs.Counts.{EdgeLeads}
use Rattle.column_order.specs.Pairing.{RiseFrom}
use Rattle.column_order.specs.declared.edge.Edge.{Edge}
use Rattle.msc_base.specs.declared.label.Kind.{Kind}
use Rattle.msc_base.specs.declared.label.Kind.TheVariants.{Output, Input, OutputLost, InputFound, Action, TimerStart, TimerStop, Timeout, Create}
use Rattle.msc_base.specs.Lists.{AreDifferent, IsAmong}
use Rattle.msc_base.specs.declared.place.Place.{Place}
use Rattle.msc_tree.specs.declared.event.Direction.{Direction}
use Rattle.msc_tree.specs.declared.event.Direction.TheVariants.{Out, In}
use Rattle.msc_tree.specs.declared.event.Target.{Target}
use Rattle.msc_tree.specs.declared.event.Target.TheVariants.{Nobody, Env, Instance, Gate}
use Rattle.msc_tree.specs.Directions.{far_name, way_by}
use Rattle.msc_meaning.specs.Bodies.{EventNode}
use Rattle.msc_meaning.specs.Pairing.{ArePairs, DoRise, HasPair, Key, key_list, output_key, input_key, count_key}
use Rattle.msc_meaning.specs.Pairing as pairing
use Rattle.msc_meaning.specs.EventLabels as labels
use Rattle.msc_meaning.specs.Partners as partners
use Rattle.level_weaving.specs.LevelPairs.{edges_at, number_of, number_or_zero, pair_of}
use Rattle.level_weaving.specs.Marks.{LeadsPairs}
use Rattle.level_weaving.specs.Messages.{way, goes, key_by, key_of, ends_of, IsPaired, IsUnmatched}
use Rattle.level_weaving.proofs.Counts.{count_cons}
use Rattle.level_weaving.proofs.NodeLaws.{one_position}

-- ---- keys

puts_by : (n : EventNode) (k : Kind) (t : Target) → way_by k t ≡ Some Out → key_list true n k t ≡ key_by k n.at (far_name t) (labels.text_of n) n.event.pairing ∷ []
puts_by n Output (Instance far) h = refl
puts_by n Output Nobody h = cc
puts_by n Output (Env gate) h = cc
puts_by n Output (Gate reference gate) h = cc
puts_by n Input (Instance far) h = cc
puts_by n Input Nobody h = cc
puts_by n Input (Env gate) h = cc
puts_by n Input (Gate reference gate) h = cc
puts_by n OutputLost t h = cc
puts_by n InputFound t h = cc
puts_by n Action t h = cc
puts_by n TimerStart t h = cc
puts_by n TimerStop t h = cc
puts_by n Timeout t h = cc
puts_by n Create t h = cc

takes_by : (n : EventNode) (k : Kind) (t : Target) → way_by k t ≡ Some In → key_list false n k t ≡ key_by k n.at (far_name t) (labels.text_of n) n.event.pairing ∷ []
takes_by n Input (Instance far) h = refl
takes_by n Input Nobody h = cc
takes_by n Input (Env gate) h = cc
takes_by n Input (Gate reference gate) h = cc
takes_by n Output (Instance far) h = cc
takes_by n Output Nobody h = cc
takes_by n Output (Env gate) h = cc
takes_by n Output (Gate reference gate) h = cc
takes_by n OutputLost t h = cc
takes_by n InputFound t h = cc
takes_by n Action t h = cc
takes_by n TimerStart t h = cc
takes_by n TimerStop t h = cc
takes_by n Timeout t h = cc
takes_by n Create t h = cc

put_by : (n : EventNode) (key : Key) (k : Kind) (t : Target) → key_list true n k t ≡ key ∷ [] → way_by k t ≡ Some Out
put_by n key Output (Instance far) h = refl
put_by n key Output Nobody h = cc
put_by n key Output (Env gate) h = cc
put_by n key Output (Gate reference gate) h = cc
put_by n key Input t h = cc
put_by n key OutputLost t h = cc
put_by n key InputFound t h = cc
put_by n key Action t h = cc
put_by n key TimerStart t h = cc
put_by n key TimerStop t h = cc
put_by n key Timeout t h = cc
put_by n key Create t h = cc

taken_by : (n : EventNode) (key : Key) (k : Kind) (t : Target) → key_list false n k t ≡ key ∷ [] → way_by k t ≡ Some In
taken_by n key Input (Instance far) h = refl
taken_by n key Input Nobody h = cc
taken_by n key Input (Env gate) h = cc
taken_by n key Input (Gate reference gate) h = cc
taken_by n key Output t h = cc
taken_by n key OutputLost t h = cc
taken_by n key InputFound t h = cc
taken_by n key Action t h = cc
taken_by n key TimerStart t h = cc
taken_by n key TimerStop t h = cc
taken_by n key Timeout t h = cc
taken_by n key Create t h = cc

put_key : (n : EventNode) → way n ≡ Some Out → output_key n ≡ key_of n ∷ []
put_key n h = puts_by n n.event.kind n.event.target h

take_key : (n : EventNode) → way n ≡ Some In → input_key n ≡ key_of n ∷ []
take_key n h = takes_by n n.event.kind n.event.target h

-- ---- counts

abbrev OutTest : Key → EventNode → Kind → Target → Type 0
OutTest key n k t = pairing.is_key key (key_list true n k t) ≡ (goes Out (way_by k t) && pairing.is_key key (key_by k n.at (far_name t) (labels.text_of n) n.event.pairing ∷ []))

out_test : (key : Key) (n : EventNode) (k : Kind) (t : Target) → OutTest key n k t
out_test key n Output (Instance far) = refl
out_test key n Output Nobody = refl
out_test key n Output (Env gate) = refl
out_test key n Output (Gate reference gate) = refl
out_test key n Input (Instance far) = refl
out_test key n Input Nobody = refl
out_test key n Input (Env gate) = refl
out_test key n Input (Gate reference gate) = refl
out_test key n OutputLost t = refl
out_test key n InputFound t = refl
out_test key n Action t = refl
out_test key n TimerStart t = refl
out_test key n TimerStop t = refl
out_test key n Timeout t = refl
out_test key n Create t = refl

abbrev InTest : Key → EventNode → Kind → Target → Type 0
InTest key n k t = pairing.is_key key (key_list false n k t) ≡ (goes In (way_by k t) && pairing.is_key key (key_by k n.at (far_name t) (labels.text_of n) n.event.pairing ∷ []))

in_test : (key : Key) (n : EventNode) (k : Kind) (t : Target) → InTest key n k t
in_test key n Output (Instance far) = refl
in_test key n Output Nobody = refl
in_test key n Output (Env gate) = refl
in_test key n Output (Gate reference gate) = refl
in_test key n Input (Instance far) = refl
in_test key n Input Nobody = refl
in_test key n Input (Env gate) = refl
in_test key n Input (Gate reference gate) = refl
in_test key n OutputLost t = refl
in_test key n InputFound t = refl
in_test key n Action t = refl
in_test key n TimerStart t = refl
in_test key n TimerStop t = refl
in_test key n Timeout t = refl
in_test key n Create t = refl

out_count : (key : Key) (ns : List EventNode) → count_key output_key key ns ≡ ends_of Out key ns
out_count key [] = refl
out_count key (n ∷ ns) =
    let test : EventNode → Bool = λ x. goes Out (way x) && pairing.is_key key (key_of x ∷ []) in
    count_cons (λ (m : EventNode). pairing.is_key key (output_key m)) n ns
    ∙ ap₂ (λ (b : Bool) (k : ℕ). (if b then 1 else 0) + k) (out_test key n n.event.kind n.event.target) (out_count key ns) ∙ sym (count_cons test n ns)

in_count : (key : Key) (ns : List EventNode) → count_key input_key key ns ≡ ends_of In key ns
in_count key [] = refl
in_count key (n ∷ ns) =
    let test : EventNode → Bool = λ x. goes In (way x) && pairing.is_key key (key_of x ∷ []) in
    count_cons (λ (m : EventNode). pairing.is_key key (input_key m)) n ns
    ∙ ap₂ (λ (b : Bool) (k : ℕ). (if b then 1 else 0) + k) (in_test key n n.event.kind n.event.target) (in_count key ns) ∙ sym (count_cons test n ns)

-- ---- pairs

paired_numbers : (held : List EventNode) (p q : ℕ) (h : IsPaired held p q) → pairing.IsPaired held h.output.number h.input.number
paired_numbers held p q h = record {
  key = key_of h.output;
  output = h.output;
  input = h.input;
  output_position = p;
  input_position = q;
  output_at = h.output_at;
  input_at = h.input_at;
  output_number = refl;
  input_number = refl;
  puts = put_key h.output h.puts;
  takes = take_key h.input h.takes ∙ ap (λ (k : Key). k ∷ []) (sym h.same);
  ranked = out_count (key_of h.output) (take p held) ∙ h.ranked ∙ ap (λ (k : Key). ends_of In k (take q held)) (sym h.same) ∙ sym (in_count (key_of h.output) (take q held));
}

head_same : (k l : Key) → k ∷ [] ≡ l ∷ [] → k ≡ l
head_same k l h = cc

paired_positions : (held : List EventNode) (n m : ℕ) (h : pairing.IsPaired held n m) → IsPaired held h.output_position h.input_position
paired_positions held n m h =
    let out : way h.output ≡ Some Out = put_by h.output h.key h.output.event.kind h.output.event.target h.puts in
    let into : way h.input ≡ Some In = taken_by h.input h.key h.input.event.kind h.input.event.target h.takes in
    let out_key : key_of h.output ≡ h.key = head_same (key_of h.output) h.key (sym (put_key h.output out) ∙ h.puts) in
    let in_key : key_of h.input ≡ h.key = head_same (key_of h.input) h.key (sym (take_key h.input into) ∙ h.takes) in
    record {
      output = h.output;
      input = h.input;
      output_at = h.output_at;
      input_at = h.input_at;
      puts = out;
      takes = into;
      same = out_key ∙ sym in_key;
      ranked = ap (λ (k : Key). ends_of Out k (take h.output_position held)) out_key ∙ sym (out_count h.key (take h.output_position held)) ∙ h.ranked
          ∙ in_count h.key (take h.input_position held) ∙ ap (λ (k : Key). ends_of In k (take h.input_position held)) (sym in_key);
    }

-- ---- the pairs by numbers

has_leads : (held : List EventNode) (es : List Edge) (n m : ℕ) → EdgeLeads (edges_at held es) n m
    → (p : ℕ) × (q : ℕ) × EdgeLeads es p q × (number_or_zero (slice_get held p) ≡ n) × (number_or_zero (slice_get held q) ≡ m)
has_leads held [] n m h = absurd h
has_leads held (e ∷ es) n m (inl h) = (e.from, e.to, inl (refl, refl), h.0, h.1)
has_leads held (e ∷ es) n m (inr h) = let r = has_leads held es n m h in (r.0, r.1, inr r.2, r.3, r.4)

leads_has : (held : List EventNode) (es : List Edge) (p q : ℕ) → EdgeLeads es p q → EdgeLeads (edges_at held es) (number_or_zero (slice_get held p)) (number_or_zero (slice_get held q))
leads_has held [] p q h = absurd h
leads_has held (e ∷ es) p q (inl h) = inl (ap (λ (k : ℕ). number_or_zero (slice_get held k)) h.0, ap (λ (k : ℕ). number_or_zero (slice_get held k)) h.1)
leads_has held (e ∷ es) p q (inr h) = inr (leads_has held es p q h)

number_at : (held : List EventNode) (p : ℕ) (d : EventNode) → slice_get held p ≡ Some d → number_or_zero (slice_get held p) ≡ d.number
number_at held p d at = ap number_or_zero at

paired_leads : (held : List EventNode) (es : List Edge) (n m : ℕ) → LeadsPairs held es → EdgeLeads (edges_at held es) n m → pairing.IsPaired held n m
paired_leads held es n m leads has =
    let r = has_leads held es n m has in
    let h = (leads r.0 r.1).0 r.2 in
    let first : h.output.number ≡ n = sym (number_at held r.0 h.output h.output_at) ∙ r.3 in
    let second : h.input.number ≡ m = sym (number_at held r.1 h.input h.input_at) ∙ r.4 in
    subst (λ (k : ℕ). pairing.IsPaired held n k) second (subst (λ (k : ℕ). pairing.IsPaired held k h.input.number) first (paired_numbers held r.0 r.1 h))

leads_paired : (held : List EventNode) (es : List Edge) (n m : ℕ) → LeadsPairs held es → pairing.IsPaired held n m → EdgeLeads (edges_at held es) n m
leads_paired held es n m leads h =
    let l = (leads h.output_position h.input_position).1 (paired_positions held n m h) in
    let first : number_or_zero (slice_get held h.output_position) ≡ n = number_at held h.output_position h.output h.output_at ∙ h.output_number in
    let second : number_or_zero (slice_get held h.input_position) ≡ m = number_at held h.input_position h.input h.input_at ∙ h.input_number in
    subst (λ (k : ℕ). EdgeLeads (edges_at held es) n k) second (subst (λ (k : ℕ). EdgeLeads (edges_at held es) k (number_or_zero (slice_get held h.input_position))) first (leads_has held es h.output_position h.input_position l))

-- ---- the same in another order

leads_contains : (xs : List Edge) (n m : ℕ) → EdgeLeads xs n m → Contains xs (record { from = n; to = m })
leads_contains [] n m h = absurd h
leads_contains (x ∷ xs) n m (inl h) = let same : x ≡ record { from = n; to = m } = λ i. record { from = h.0 i; to = h.1 i } in (0, omega arith, same)
leads_contains (x ∷ xs) n m (inr h) = let r = leads_contains xs n m h in (suc r.0, omega (arith, r.1), r.2)

contains_leads : (xs : List Edge) (k n m : ℕ) → k < length xs → get_or xs k (record { from = n; to = m }) ≡ record { from = n; to = m } → EdgeLeads xs n m
contains_leads [] k n m lt is = absurd (omega arith)
contains_leads (x ∷ xs) zero n m lt is = inl (ap (λ (e : Edge). e.from) is, ap (λ (e : Edge). e.to) is)
contains_leads (x ∷ xs) (suc k) n m lt is = inr (contains_leads xs k n m (omega arith) is)

moved_leads : (xs ys : List Edge) (n m : ℕ) → IsPermutation xs ys → EdgeLeads xs n m → EdgeLeads ys n m
moved_leads xs ys n m moves h = let r = Contains-permutation xs ys (record { from = n; to = m }) moves (leads_contains xs n m h) in contains_leads ys r.0 n m r.1 r.2

pair_leads : (es : List Edge) (p q : ℕ) → HasPair (map pair_of es) p q → EdgeLeads es p q
pair_leads [] p q h = h
pair_leads (e ∷ es) p q (inl h) = inl h
pair_leads (e ∷ es) p q (inr h) = inr (pair_leads es p q h)

leads_pair : (es : List Edge) (p q : ℕ) → EdgeLeads es p q → HasPair (map pair_of es) p q
leads_pair [] p q h = h
leads_pair (e ∷ es) p q (inl h) = inl h
leads_pair (e ∷ es) p q (inr h) = inr (leads_pair es p q h)

-- ---- each output stands in one pair

abbrev from_of : Edge → ℕ
from_of e = e.from

-- how many pairs have the output
abbrev count_from : ℕ → List Edge → ℕ
count_from n es = count_by (λ e. nat_eq e.from n) es

none_from : (n : ℕ) (es : List Edge) → (IsAmong (map from_of es) n → ⊥) → count_from n es ≡ 0
none_from n [] h = refl
none_from n (e ∷ es) h =
    let one : ◌≡◌ {A = ℕ} (cond (nat_eq e.from n) 1 0) 0 = ap (λ (b : Bool). cond b 1 0) (ne_eqb e.from n (λ is. h (inl (sym is)))) in
    omega (arith, count_cons (λ x. nat_eq x.from n) e es, one, none_from n es (λ g. h (inr g)))

once_from : (n : ℕ) (es : List Edge) → AreDifferent (map from_of es) → count_from n es ≤ 1
once_from n [] d = omega arith
once_from n (e ∷ es) d = elim (cases_eq e.from n) [
  | inl is ↦
      let one : ◌≡◌ {A = ℕ} (cond (nat_eq e.from n) 1 0) 1 = ap (λ (b : Bool). cond b 1 0) (eq-eqb e.from n is) in
      let rest : count_from n es ≡ 0 = none_from n es (λ h. d.0 (subst (λ (k : ℕ). IsAmong (map from_of es) k) (sym is) h)) in
      omega (arith, count_cons (λ x. nat_eq x.from n) e es, one, rest)
  | inr ne ↦
      let none : ◌≡◌ {A = ℕ} (cond (nat_eq e.from n) 1 0) 0 = ap (λ (b : Bool). cond b 1 0) (ne_eqb e.from n ne) in
      omega (arith, count_cons (λ x. nat_eq x.from n) e es, none, once_from n es d.1)
]

some_from : (es : List Edge) (k : ℕ) (d : Edge) → k < length es → 1 ≤ count_from (get_or es k d).from es
some_from [] k d lt = absurd (omega arith)
some_from (e ∷ es) zero d lt =
    let one : ◌≡◌ {A = ℕ} (cond (nat_eq e.from e.from) 1 0) 1 = ap (λ (b : Bool). cond b 1 0) (eq-eqb e.from e.from refl) in
    omega (arith, count_cons (λ x. nat_eq x.from e.from) e es, one)
some_from (e ∷ es) (suc k) d lt = omega (arith, count_cons (λ x. nat_eq x.from (get_or es k d).from) e es, some_from es k d (omega arith))

among_from : (held : List EventNode) (k n : ℕ) (es : List Edge) → RiseFrom k es → IsAmong (map from_of (edges_at held es)) n → (p : ℕ) × (q : ℕ) × (k ≤ p) × EdgeLeads es p q × (number_or_zero (slice_get held p) ≡ n)
among_from held k n [] rise h = absurd h
among_from held k n (e ∷ es) rise (inl is) = (e.from, e.to, rise.0, inl (refl, refl), sym is)
among_from held k n (e ∷ es) rise (inr h) = let r = among_from held (suc e.from) n es rise.1 h in (r.0, r.1, omega (arith, r.2, rise.0), inr r.3, r.4)

edges_different : (held : List EventNode) (k : ℕ) (es : List Edge) → AreDifferent (map number_of held) → RiseFrom k es → ((p q : ℕ) → EdgeLeads es p q → (d : EventNode) × (slice_get held p ≡ Some d)) → AreDifferent (map from_of (edges_at held es))
edges_different held k [] different rise there = tt
edges_different held k (e ∷ es) different rise there = (
  λ h.
      let r = among_from held (suc e.from) (number_or_zero (slice_get held e.from)) es rise.1 h in
      let d = there e.from e.to (inl (refl, refl)) in
      let x = there r.0 r.1 (inr r.3) in
      let same : d.0.number ≡ x.0.number = sym (number_at held e.from d.0 d.1) ∙ sym r.4 ∙ number_at held r.0 x.0 x.1 in
      let one : e.from ≡ r.0 = one_position held e.from r.0 d.0 x.0 different d.1 x.1 same in
      omega (arith, one, r.2),
  edges_different held (suc e.from) es different rise.1 (λ p q l. there p q (inr l)),
)

rising_pairs : (low : ℕ) (zs : List Edge) → IsNonDecreasingBy from_of zs → ((n : ℕ) → count_from n zs ≤ 1) → ((k : ℕ) (d : Edge) → k < length zs → low ≤ (get_or zs k d).from) → DoRise low (map pair_of zs)
rising_pairs low [] up once behind = tt
rising_pairs low (e ∷ zs) up once behind = (
  behind 0 e (omega arith),
  rising_pairs (suc e.from) zs (λ i j d le lt. up (suc i) (suc j) d (omega (arith, le)) (omega (arith, lt)))
      (λ n. let both : count_from n (e ∷ zs) ≤ 1 = once n in omega (arith, both, count_cons (λ x. nat_eq x.from n) e zs))
      (λ k d lt.
      let after : e.from ≤ (get_or zs k d).from = up 0 (suc k) d (omega arith) (omega (arith, lt)) in
      let differ : e.from ≡ (get_or zs k d).from → ⊥ = λ is.
      let one : ◌≡◌ {A = ℕ} (cond (nat_eq e.from e.from) 1 0) 1 = ap (λ (b : Bool). cond b 1 0) (eq-eqb e.from e.from refl) in
      let other : 1 ≤ count_from e.from zs = subst (λ (n : ℕ). 1 ≤ count_from n zs) (sym is) (some_from zs k d lt) in
      let both : count_from e.from (e ∷ zs) ≤ 1 = once e.from in
      omega (arith, both, count_cons (λ x. nat_eq x.from e.from) e zs, one, other) in
      elim (cases_eq e.from (get_or zs k d).from) [ inl is ↦ absurd (differ is) | inr ne ↦ omega (arith, after, ne) ]),
)

-- pairs by positions, by the numbers of their events and in order, are the pairs of the level
pub are_pairs : (held : List EventNode) (es zs : List Edge) → AreDifferent (map number_of held) → LeadsPairs held es → RiseFrom 0 es → IsPermutation (edges_at held es) zs → IsNonDecreasingBy (λ (e : Edge). e.from) zs → ArePairs held (map pair_of zs)
are_pairs held es zs different leads rise moves up = record {
  rising =
      let own : AreDifferent (map from_of (edges_at held es)) = edges_different held 0 es different rise (λ p q l. let h = (leads p q).0 l in (h.output, h.output_at)) in
      rising_pairs 0 zs up (λ n.
      let same : count_from n zs ≡ count_from n (edges_at held es) = sum_by-IsPermutation (λ (e : Edge). cond (nat_eq e.from n) 1 0) (edges_at held es) zs moves in
      omega (arith, same, once_from n (edges_at held es) own)) (λ k d lt. omega arith);
  paired = λ n m has. paired_leads held es n m leads (moved_leads zs (edges_at held es) n m (IsPermutation-sym (edges_at held es) zs moves) (pair_leads zs n m has));
  every = λ n m h. leads_pair zs n m (moved_leads (edges_at held es) zs n m moves (leads_paired held es n m leads h));
}

-- ---- events without partner

pub unmatched_positions : (held : List EventNode) (place : Place) → partners.IsUnmatched held place → IsUnmatched held place
unmatched_positions held place u =
    let alone : (q : ℕ) → IsPaired held u.position q ⊎ IsPaired held q u.position → ⊥ = λ q m. elim m [
      | inl h ↦
          let one : h.output ≡ u.node = cc (h.output_at, u.node_at) in
          u.alone h.input.number (inl (subst (λ (x : EventNode). pairing.IsPaired held x.number h.input.number) one (paired_numbers held u.position q h)))
      | inr h ↦
          let one : h.input ≡ u.node = cc (h.input_at, u.node_at) in
          u.alone h.output.number (inr (subst (λ (x : EventNode). pairing.IsPaired held h.output.number x.number) one (paired_numbers held q u.position h)))
    ] in
    elim u.message [
      | inl h ↦ record { number = u.position; event = u.node; direction = Out; event_at = u.node_at; message = put_by u.node u.key u.node.event.kind u.node.event.target h; alone = alone; there = u.there }
      | inr h ↦ record { number = u.position; event = u.node; direction = In; event_at = u.node_at; message = taken_by u.node u.key u.node.event.kind u.node.event.target h; alone = alone; there = u.there }
    ]

pub unmatched_numbers : (held : List EventNode) (place : Place) → AreDifferent (map number_of held) → IsUnmatched held place → partners.IsUnmatched held place
unmatched_numbers held place different u = record {
  position = u.number;
  node = u.event;
  key = key_of u.event;
  node_at = u.event_at;
  message = by u.direction u.message;
  alone = λ q m. elim m [
    | inl h ↦
        let one : h.output_position ≡ u.number = one_position held h.output_position u.number h.output u.event different h.output_at u.event_at h.output_number in
        u.alone h.input_position (inl (subst (λ (k : ℕ). IsPaired held k h.input_position) one (paired_positions held u.event.number q h)))
    | inr h ↦
        let one : h.input_position ≡ u.number = one_position held h.input_position u.number h.input u.event different h.input_at u.event_at h.input_number in
        u.alone h.output_position (inr (subst (λ (k : ℕ). IsPaired held h.output_position k) one (paired_positions held q u.event.number h)))
  ];
  there = u.there;
}
  where
    by : (d : Direction) → way u.event ≡ Some d → (output_key u.event ≡ key_of u.event ∷ []) ⊎ (input_key u.event ≡ key_of u.event ∷ [])
    by Out h = inl (put_key u.event h)
    by In h = inr (take_key u.event h)
