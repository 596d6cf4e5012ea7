-- Events by a numbering keep their numbers, and share the number of an instance exactly where they share its name.
use Rattle.std.specs.List.{position, slice_get}
use Rattle.std.specs.Option.{option_to_list, unwrap_or}
use Rattle.std.specs.Str.{bytes_eq}
use Rattle.std.specs.Prelude.{ℕ, Bool, true, false, List, [], ◌∷◌, Option, None, Some, nat_lt, option_map}
use Rattle.std.proofs.Common.{◌≡◌, ◌∙◌, refl, sym, ap, subst}
use Rattle.std.proofs.lemmas.Option.{same_Some}
use Rattle.msc_base.specs.Orders.{Among, first, later}
use Rattle.msc_unfolding.specs.Unfoldings.{instances_of}
use Rattle.expanded_charts.specs.Expanding.{NumberedEvent}
use Rattle.expanded_charts.specs.Numbering.{at_instances, at_two, event_by, instance_number, number_of_label}
use Rattle.expanded_charts.specs.declared.numbering.Numbering.{Numbering}
use Rattle.node_ranks.specs.NodeRanks.{KeepsNumbers, HasColumns, TellsNames, columns_of}
use Rattle.table_terms.proofs.Numbered.{Has, name_found}

module _ (s : Numbering) where
  abbrev c : List ℕ → ℕ
  c = instance_number s

  pub keeps : KeepsNumbers (event_by s)
  keeps e = by (option_map c e.happening.also)
    where
      two : (b : Bool) (i j : ℕ) → (at_two b e.number (number_of_label s e.happening.label) i j).number ≡ e.number
      two true i j = refl
      two false i j = refl

      by : (o : Option ℕ) → (at_instances e.number (number_of_label s e.happening.label) (c e.happening.label.at) o).number ≡ e.number
      by None = refl
      by (Some j) = two (nat_lt j (c e.happening.label.at)) (c e.happening.label.at) j

  -- the columns are the numbers of the instances
  two_at : (b : Bool) (n l i j k : ℕ) → Among k (i ∷ j ∷ []) → Among k (columns_of (at_two b n l i j))
  two_at true n l i j _ first = later first
  two_at true n l i j _ (later first) = first
  two_at true n l i j k (later (later h)) = elim h [ ]
  two_at false n l i j k h = h

  two_from : (b : Bool) (n l i j k : ℕ) → Among k (columns_of (at_two b n l i j)) → Among k (i ∷ j ∷ [])
  two_from true n l i j _ first = later first
  two_from true n l i j _ (later first) = first
  two_from true n l i j k (later (later h)) = elim h [ ]
  two_from false n l i j k h = h

  has_column : (n l : ℕ) (a : List ℕ) (o : Option (List ℕ)) (i : List ℕ) → Among i (a ∷ option_to_list o) → Among (c i) (columns_of (at_instances n l (c a) (option_map c o)))
  has_column n l a None _ first = first
  has_column n l a None i (later h) = elim h [ ]
  has_column n l a (Some b) _ first = two_at (nat_lt (c b) (c a)) n l (c a) (c b) (c a) first
  has_column n l a (Some b) _ (later first) = two_at (nat_lt (c b) (c a)) n l (c a) (c b) (c b) (later first)
  has_column n l a (Some b) i (later (later h)) = elim h [ ]

  one_of_two : (a b : List ℕ) (k : ℕ) → Among k (c a ∷ c b ∷ []) → (i : List ℕ) × (c i ≡ k) × Among i (a ∷ b ∷ [])
  one_of_two a b _ first = (a, refl, first)
  one_of_two a b _ (later first) = (b, refl, later first)
  one_of_two a b k (later (later h)) = elim h [ ]

  from_column : (n l : ℕ) (a : List ℕ) (o : Option (List ℕ)) (k : ℕ) → Among k (columns_of (at_instances n l (c a) (option_map c o))) → (i : List ℕ) × (c i ≡ k) × Among i (a ∷ option_to_list o)
  from_column n l a None _ first = (a, refl, first)
  from_column n l a None k (later h) = elim h [ ]
  from_column n l a (Some b) k h = one_of_two a b k (two_from (nat_lt (c b) (c a)) n l (c a) (c b) k h)

  pub has_columns : (es : List NumberedEvent) → HasColumns (event_by s) es
  has_columns es e d p q (i, j, k) = (c i, has_column e.number (number_of_label s e.happening.label) e.happening.label.at e.happening.also i j, has_column d.number (number_of_label s d.happening.label) d.happening.label.at d.happening.also i k)

  -- where no two instances of these events have one number
  tells_names : (es : List NumberedEvent) → ((e d : NumberedEvent) (i j : List ℕ) → Among e es → Among d es → Among i (instances_of e.happening) → Among j (instances_of d.happening) → c i ≡ c j → i ≡ j) → TellsNames (event_by s) es
  tells_names es apart e d p q (k, a, b) =
      let (i, e1, h) = from_column e.number (number_of_label s e.happening.label) e.happening.label.at e.happening.also k a in
      let (j, e2, g) = from_column d.number (number_of_label s d.happening.label) d.happening.label.at d.happening.also k b in
      (i, h, subst (λ (j : List ℕ). Among j (instances_of d.happening)) (sym (apart e d i j p q h g (subst (λ (k : ℕ). c i ≡ k) (sym e2) e1))) g)

  -- instances of a numbering's own events have numbers of their own
  one_name : (i j : List ℕ) → Among i s.names → Among j s.names → c i ≡ c j → i ≡ j
  one_name i j h g e =
      let (k, a, b, l) = name_found s.names i h in
      let (m, d, f, n) = name_found s.names j g in
      same_Some i j (sym b ∙ (ap (λ (k : ℕ). slice_get s.names k) (sym (at i k a) ∙ (e ∙ at j m d)) ∙ f))
    where
      at : (i : List ℕ) (k : ℕ) → position (bytes_eq i) s.names ≡ Some k → c i ≡ k
      at i k a = ap (λ (o : Option ℕ). unwrap_or o 0) a

  instance_there : (e : NumberedEvent) (i : List ℕ) → Has s e → Among i (instances_of e.happening) → Among i s.names
  instance_there e i h a = by e.happening.also h.also i a
    where
      by : (o : Option (List ℕ)) → ((j : List ℕ) → o ≡ Some j → Among j s.names) → (i : List ℕ) → Among i (e.happening.label.at ∷ option_to_list o) → Among i s.names
      by o f _ first = h.at
      by (Some j) f _ (later first) = f j refl
      by None f i (later a) = elim a [ ]
      by (Some j) f i (later (later a)) = elim a [ ]

  pub tells_own : (es : List NumberedEvent) → ((e : NumberedEvent) → Among e es → Has s e) → TellsNames (event_by s) es
  tells_own es has = tells_names es (λ e d i j p q a b same. one_name i j (instance_there e i (has e p) a) (instance_there d j (has d q) b) same)
