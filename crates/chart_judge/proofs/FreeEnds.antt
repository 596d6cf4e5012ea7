-- No far end is given from around to a creation: those that decomposition gives are of outputs and inputs, and of events that are written with
-- the environment.
use Rattle.std.specs.Prelude.{◌≡◌, ℕ, Bool, true, false, not, filter, List, [], ◌∷◌, ◌++◌, Option, Some, None, ◌==◌, if◌then◌else◌, map, slice_get, option_map}
use Rattle.std.specs.List.{count_by, find}
use Rattle.std.proofs.Common.{◌∙◌, refl, sym, ap, subst}
use Rattle.std.proofs.lemmas.Bool.Decides.{Decides-eqb}
use Rattle.chart_forms.specs.BodyEvents.{items_within, operands_within}
use Rattle.chart_forms.specs.BuiltBodies.{AreBuiltItems, AreBuiltNodes}
use Rattle.msc_base.specs.Orders.{Among, first, later, Once}
use Rattle.msc_base.specs.declared.label.Far.{Far}
use Rattle.msc_base.specs.declared.label.Kind.{Kind}
use Rattle.msc_base.specs.declared.label.Kind.TheVariants as kind
use Rattle.msc_base.specs.declared.label.Pair.{Pair}
use Rattle.msc_meaning.specs.Bodies.{EventNode, WovenItems, no_items, item_and, Single, Coregion, Inline, Refer, events}
use Rattle.msc_meaning.specs.FarEnds.{no_far}
use Rattle.msc_meaning.specs.Pairing.{ArePairs, Key, key_list}
use Rattle.msc_meaning.specs.Refinements.{Match, all_like, env_events, events_at, far_by, inner_far, is_decomposed, is_env, is_like, left_of, match_list, matches, matches_behind, partner, refined_far, without_decomposed}
use Rattle.msc_meaning.specs.Tables.{Refinement}
use Rattle.msc_tree.specs.declared.event.Target.{Target}
use Rattle.msc_tree.specs.declared.event.Target.TheVariants.{Nobody, Env, Instance, Gate}
use Rattle.chart_judge.proofs.LevelPairs.{has_pair, place_among}

-- none is given to those of the events that create an instance
abbrev pub AreFree : (ℕ → Option Far) → List EventNode → Type 0
AreFree far ns = (n : EventNode) → Among n ns → n.event.kind ≡ kind.Create → (child : List ℕ) → n.event.target ≡ Instance child → far n.number ≡ None

pub free_of_none : (ns : List EventNode) → AreFree no_far ns
free_of_none ns n i k child t = refl

-- ---- events of a list

pub front_among : (ns ms : List EventNode) (n : EventNode) → Among n ns → Among n (ns ++ ms)
front_among (d ∷ ns) ms _ first = first
front_among (d ∷ ns) ms n (later h) = later (front_among ns ms n h)
front_among [] ms n h = elim h [ ]

pub back_among : (ns ms : List EventNode) (n : EventNode) → Among n ms → Among n (ns ++ ms)
back_among [] ms n h = h
back_among (d ∷ ns) ms n h = later (back_among ns ms n h)

module _ (far : ℕ → Option Far) (ns ms : List EventNode) where
  pub free_left : AreFree far (ns ++ ms) → AreFree far ns
  free_left f n i = f n (front_among ns ms n i)

  pub free_right : AreFree far (ns ++ ms) → AreFree far ms
  free_right f n i = f n (back_among ns ms n i)

-- those of the first list are among others, whatever stands behind
over_among : (ns cs bs : List EventNode) → ((n : EventNode) → Among n cs → Among n bs) → (n : EventNode) → Among n (ns ++ cs) → Among n (ns ++ bs)
over_among [] cs bs f n h = f n h
over_among (d ∷ ns) cs bs f _ first = first
over_among (d ∷ ns) cs bs f n (later h) = later (over_among ns cs bs f n h)

among_both : (ks cs bs ds : List EventNode) → ((n : EventNode) → Among n ks → Among n bs) → ((n : EventNode) → Among n cs → Among n ds) → (n : EventNode) → Among n (ks ++ cs) → Among n (bs ++ ds)
among_both [] cs bs ds f g n h = back_among bs ds n (g n h)
among_both (k ∷ ks) cs bs ds f g _ first = front_among bs ds k (f k first)
among_both (k ∷ ks) cs bs ds f g n (later h) = among_both ks cs bs ds (λ m i. f m (later i)) g n h

kept_first : (p : EventNode → Bool) (ns : List EventNode) (d n : EventNode) → p d ≡ true → Among n (d ∷ filter p ns) → (Among n (filter p ns) → Among n ns × (p n ≡ true)) → Among n (d ∷ ns) × (p n ≡ true)
kept_first p ns d _ e first f = (first, e)
kept_first p ns d n e (later i) f = let (j, q) = f i in (later j, q)

kept_among : (p : EventNode → Bool) (ns : List EventNode) (n : EventNode) → Among n (filter p ns) → Among n ns × (p n ≡ true)
kept_among p [] n h = elim h [ ]
kept_among p (d ∷ ns) n h = by (p d) refl h (kept_among p ns n)
  where
    by : (t : Bool) → p d ≡ t → Among n (if t then d ∷ filter p ns else filter p ns) → (Among n (filter p ns) → Among n ns × (p n ≡ true)) → Among n (d ∷ ns) × (p n ≡ true)
    by true e i f = kept_first p ns d n e i f
    by false e i f = let (j, q) = f i in (later j, q)

number_among : (ns : List EventNode) (n : EventNode) → Among n ns → Among n.number (map (λ (m : EventNode). m.number) ns)
number_among (d ∷ ns) _ first = first
number_among (d ∷ ns) n (later h) = later (number_among ns n h)
number_among [] n h = elim h [ ]

-- where numbers differ, events of one number are the same
one_numbered : (ns : List EventNode) → Once (map (λ (m : EventNode). m.number) ns) → (n d : EventNode) → Among n ns → Among d ns → n.number ≡ d.number → n ≡ d
one_numbered (m ∷ ns) o _ _ first first e = refl
one_numbered (m ∷ ns) o _ d first (later j) e = absurd (o.0 (subst (λ (k : ℕ). Among k (map (λ (m : EventNode). m.number) ns)) (sym e) (number_among ns d j)))
one_numbered (m ∷ ns) o n _ (later i) first e = absurd (o.0 (subst (λ (k : ℕ). Among k (map (λ (m : EventNode). m.number) ns)) e (number_among ns n i)))
one_numbered (m ∷ ns) o n d (later i) (later j) e = one_numbered ns o.1 n d i j e
one_numbered [] o n d i j e = elim i [ ]

-- the events of a level are among those with what its operands hold
own_among : (xs : WovenItems) (n : EventNode) → Among n (events xs) → Among n (items_within xs)
own_among no_items n h = h
own_among (item_and (Single d) xs) n h = over_among (d ∷ []) (events xs) (items_within xs) (own_among xs) n h
own_among (item_and (Coregion ds) xs) n h = over_among ds (events xs) (items_within xs) (own_among xs) n h
own_among (item_and (Inline form part operands) xs) n h = back_among (operands_within operands) (items_within xs) n (own_among xs n h)
own_among (item_and (Refer part) xs) n h = own_among xs n h

-- ---- the far ends of messages

no_create : (way : Bool) (n : EventNode) (t : Target) → key_list way n kind.Create t ≡ []
no_create true n Nobody = refl
no_create true n (Env g) = refl
no_create true n (Instance far) = refl
no_create true n (Gate name gate) = refl
no_create false n Nobody = refl
no_create false n (Env g) = refl
no_create false n (Instance far) = refl
no_create false n (Gate name gate) = refl

-- an event with a key creates none
not_creating : (way : Bool) (n : EventNode) (key : Key) → key_list way n n.event.kind n.event.target ≡ key ∷ [] → n.event.kind ≡ kind.Create → ⊥
not_creating way n key e k =
    let none : [] ≡ key ∷ [] = sym (no_create way n n.event.target) ∙ (sym (ap (λ (k : Kind). key_list way n k n.event.target) k) ∙ e) in
    absurd cc

no_partner : (ps : List Pair) (n : ℕ) → ((p : Pair) → Among p ps → (p.first ≡ n → ⊥) × (p.second ≡ n → ⊥)) → partner ps n ≡ None
no_partner [] n f = refl
no_partner (p ∷ ps) n f = by (p.first == n) (p.second == n) refl refl (no_partner ps n (λ q i. f q (later i)))
  where
    by : (s t : Bool) → (p.first == n) ≡ s → (p.second == n) ≡ t → partner ps n ≡ None → (if s then Some p.second else (if t then Some p.first else partner ps n)) ≡ None
    by true t e g h = absurd ((f p first).0 ((Decides-eqb p.first n).0 e))
    by false true e g h = absurd ((f p first).1 ((Decides-eqb p.second n).0 g))
    by false false e g h = h

module _ (held : WovenItems) (once : Once (map (λ (n : EventNode). n.number) (items_within held))) where
  -- an event of the level that has a key
  apart : (way : Bool) (i : ℕ) (d : EventNode) (key : Key) → slice_get (events held) i ≡ Some d → key_list way d d.event.kind d.event.target ≡ key ∷ []
      → (n : EventNode) → Among n (items_within held) → n.event.kind ≡ kind.Create → d.number ≡ n.number → ⊥
  apart way i d key at has n among creates e =
      let same = one_numbered (items_within held) once n d among (own_among held d (place_among (events held) i d at)) (sym e) in
      not_creating way d key has (subst (λ (m : EventNode). m.event.kind ≡ kind.Create) same creates)

  pub refined_free : (pairs : List Pair) (ms : List Match) → ArePairs (events held) pairs → AreFree (refined_far pairs ms) (items_within held)
  refined_free pairs ms paired n among creates child is = ap (λ (o : Option ℕ). far_by ms o) (no_partner pairs n.number unpaired)
    where
      unpaired : (p : Pair) → Among p pairs → (p.first ≡ n.number → ⊥) × (p.second ≡ n.number → ⊥)
      unpaired p i =
          let w = paired.paired p.first p.second (has_pair pairs p i) in (
            (λ e. apart true w.output_position w.output w.key w.output_at w.puts n among creates (w.output_number ∙ e)),
            (λ e. apart false w.input_position w.input w.key w.input_at w.takes n among creates (w.input_number ∙ e)),
          )

-- ---- the far ends of matched events

-- the event that stands for another is among the inner ones
first_inner : (inner : List EventNode) (k m : Match) (others : List Match) → Among k.inner inner → Among m (k ∷ others) → (Among m others → Among m.inner inner) → Among m.inner inner
first_inner inner k _ others i first f = i
first_inner inner k m others i (later j) f = f j

matched_inner : (inner before es : List EventNode) (m : Match) → Among m (matches_behind inner before es) → Among m.inner inner
matched_inner inner before [] m h = elim h [ ]
matched_inner inner before (e ∷ es) m h =
    by (slice_get (all_like e inner) (count_by (is_like e) before)) (λ d q. (kept_among (is_like e) inner d (place_among (all_like e inner) (count_by (is_like e) before) d q)).0) h (matched_inner inner (before ++ e ∷ []) es m)
  where
    by : (o : Option EventNode) → ((d : EventNode) → o ≡ Some d → Among d inner) → Among m (match_list e o ++ matches_behind inner (before ++ e ∷ []) es) → (Among m (matches_behind inner (before ++ e ∷ []) es) → Among m.inner inner) → Among m.inner inner
    by None g i f = f i
    by (Some d) g i f = first_inner inner (record { event = e; inner = d }) m (matches_behind inner (before ++ e ∷ []) es) (g d refl) i f

no_match : (far_of : EventNode → Far) (ms : List Match) (d : ℕ) → ((m : Match) → Among m ms → m.inner.number ≡ d → ⊥) → inner_far far_of ms d ≡ None
no_match far_of [] d f = refl
no_match far_of (m ∷ ms) d f = by (m.inner.number == d) refl (no_match far_of ms d (λ k i. f k (later i)))
  where
    by : (t : Bool) → (m.inner.number == d) ≡ t → inner_far far_of ms d ≡ None → option_map (λ (m : Match). far_of m.event) (if t then Some m else find (λ (m : Match). m.inner.number == d) ms) ≡ None
    by true e h = absurd (f m first ((Decides-eqb m.inner.number d).0 e))
    by false e h = h

not_env : (t : Target) (child : List ℕ) → t ≡ Instance child → is_env t ≡ true → ⊥
not_env t child e h = let wrong : false ≡ true = ap is_env (sym e) ∙ h in absurd cc

pub inner_free : (far_of : EventNode → Far) (i : List ℕ) (held inner : WovenItems) → Once (map (λ (n : EventNode). n.number) (items_within inner)) → AreFree (inner_far far_of (matches i held inner)) (items_within inner)
inner_free far_of i held inner once n among creates child is = no_match far_of (matches i held inner) n.number unmatched
  where
    unmatched : (m : Match) → Among m (matches i held inner) → m.inner.number ≡ n.number → ⊥
    unmatched m j e =
        let (there, env) = kept_among (λ (d : EventNode). is_env d.event.target) (events inner) m.inner (matched_inner (env_events (events inner)) [] (events_at i (events held)) m j) in
        let same = one_numbered (items_within inner) once n m.inner among (own_among inner m.inner there) (sym e) in
        not_env m.inner.event.target child (subst (λ (d : EventNode). d.event.target ≡ Instance child) same is) env

-- ---- what is left of a body

module _ (rs : List Refinement) where
  pub left_within : (xs : WovenItems) (n : EventNode) → Among n (items_within (without_decomposed rs xs)) → Among n (items_within xs)
  left_within no_items n h = h
  left_within (item_and (Single d) xs) n h = by (is_decomposed rs d) h (left_within xs)
    where
      by : (t : Bool) → Among n (items_within (if t then without_decomposed rs xs else item_and (Single d) (without_decomposed rs xs))) → ((m : EventNode) → Among m (items_within (without_decomposed rs xs)) → Among m (items_within xs))
          → Among n (d ∷ items_within xs)
      by true i f = later (f n i)
      by false i f = over_among (d ∷ []) (items_within (without_decomposed rs xs)) (items_within xs) f n i
  left_within (item_and (Coregion ds) xs) n h =
      among_both (left_of rs ds) (items_within (without_decomposed rs xs)) ds (items_within xs) (λ m i. (kept_among (λ (m : EventNode). not (is_decomposed rs m)) ds m i).0) (left_within xs) n h
  left_within (item_and (Inline form part operands) xs) n h = over_among (operands_within operands) (items_within (without_decomposed rs xs)) (items_within xs) (left_within xs) n h
  left_within (item_and (Refer part) xs) n h = left_within xs n h

  module _ (names : List (List ℕ)) where
    left_nodes : (ns : List EventNode) → AreBuiltNodes names ns → AreBuiltNodes names (left_of rs ns)
    left_nodes [] h = tt
    left_nodes (n ∷ ns) h = by (not (is_decomposed rs n)) (left_nodes ns h.1)
      where
        by : (t : Bool) → AreBuiltNodes names (left_of rs ns) → AreBuiltNodes names (if t then n ∷ left_of rs ns else left_of rs ns)
        by true g = (h.0, g)
        by false g = g

    pub left_built : (xs : WovenItems) → AreBuiltItems names xs → AreBuiltItems names (without_decomposed rs xs)
    left_built no_items h = tt
    left_built (item_and (Single n) xs) h = by (is_decomposed rs n) (left_built xs h.1)
      where
        by : (t : Bool) → AreBuiltItems names (without_decomposed rs xs) → AreBuiltItems names (if t then without_decomposed rs xs else item_and (Single n) (without_decomposed rs xs))
        by true g = g
        by false g = (h.0, g)
    left_built (item_and (Coregion ns) xs) h = (left_nodes ns h.0, left_built xs h.1)
    left_built (item_and (Inline form part operands) xs) h = (h.0, left_built xs h.1)
    left_built (item_and (Refer part) xs) h = (h.0, left_built xs h.1)
